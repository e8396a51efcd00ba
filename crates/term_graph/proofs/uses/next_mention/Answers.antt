use Rattle.std.proofs.Common.{◌<◌, ◌∙◌, get_or, length, sym, None}
use Rattle.std.proofs.lemmas.List.{get_or-map}
use Rattle.term_graph.specs.Fields.{own, mentions_of}
use Rattle.term_graph.proofs.Yielding.{on_goes, cells_fall, uses_pass, uses_yield}
use Rattle.term_graph.proofs.uses.next_mention.Goals as goal

pub returns-in-Some-clause-first : goal.returns-in-Some-clause-first
returns-in-Some-clause-first c =
    let l : c.walk.at < length c.args.cells.now = rw c.requires.same c.walk.invariant.ring.within in
    c.walk.invariant.same
    ∙ uses_yield (mentions_of c.args.cells.now) c.args.rings.now c.args.head c.walk.at c.next-at.result (get_or c.args.cells.now c.walk.at (own 0)).mention c.in-Some.mention c.walk-test.true c.next-at.ensures c.walk.invariant.ring
    (sym (get_or-map (λ x. x.mention) c.args.cells.now c.walk.at (own 0) None l)) c.in-Some.is

pub walk-smaller : goal.walk-smaller
walk-smaller c = cells_fall c.args.rings.now c.args.head c.walk.at c.next-at.result c.walk-test.true c.next-at.ensures c.walk.invariant.ring

pub walk-preserved : goal.walk-preserved
walk-preserved c =
    let l : c.walk.at < length c.args.cells.now = rw c.requires.same c.walk.invariant.ring.within in
    record {
      ring = on_goes c.args.rings.now c.args.head c.walk.at c.next-at.result c.walk-test.true c.next-at.ensures c.walk.invariant.ring;
      same = c.walk.invariant.same
          ∙ uses_pass (mentions_of c.args.cells.now) c.args.rings.now c.args.head c.walk.at c.next-at.result (get_or c.args.cells.now c.walk.at (own 0)).mention c.walk-test.true c.next-at.ensures c.walk.invariant.ring
          (sym (get_or-map (λ x. x.mention) c.args.cells.now c.walk.at (own 0) None l)) c.in_default.is;
    }
