use Rattle.std.proofs.Common.{ℕ, subst, arith}
use Rattle.game_library.proofs.Declared.{got_stands, place_within}
use Rattle.game_library.proofs.Grown.{grown_none, grown_then}
use Rattle.game_library.proofs.Needed.{IsFilledTo, two_params, body_has, filled_more, form_has}
use Rattle.game_library.proofs.completing.fill.Goals as goal

pub loop-i-init : goal.loop-i-init
loop-i-init g c = record {
  filled = record { right = c.requires.right; has = λ j pred less. absurd (omega (arith, less)) };
  grown = grown_none c.args.table.now;
}

pub of-requires : goal.of-requires
of-requires g c = omega (arith, place_within c.args.file.now c.requires.formed c.loop-i.i c.get-pred.result.now c.get-pred.ensures, c.requires.needed.2.size)

pub add_marked-requires-clause-stands : goal.add_marked-requires-clause-stands
add_marked-requires-clause-stands g c = got_stands c.args.file.now.preds c.loop-i.i c.get-pred.result.now c.get-pred.ensures

pub add_marked-requires-clause-two : goal.add_marked-requires-clause-two
add_marked-requires-clause-two g c =
    two_params c.args.file.now c.requires.needed.0 c.requires.formed c.requires.needed.1 g.E.Engine.gives c.args.marks.now c.requires.needed.2 c.loop-i.i
    c.get-pred.result.now c.of.result c.get-pred.ensures c.of.ensures

pub add_marked-requires-clause-has : goal.add_marked-requires-clause-has
add_marked-requires-clause-has g c =
    body_has c.args.file.now c.requires.needed.0 c.requires.formed c.requires.needed.1 g.E.Engine.gives c.args.marks.now c.requires.needed.2 c.loop-i.i
    c.get-pred.result.now c.of.result c.loop-i.table c.get-pred.ensures c.of.ensures c.loop-i.invariant.filled

pub loop-i-preserved : goal.loop-i-preserved
loop-i-preserved g c = record {
  filled = filled_more c.args.file.now c.requires.needed.0 c.requires.formed c.requires.needed.1 g.E.Engine.gives c.args.marks.now c.requires.needed.2 c.loop-i.i
      c.get-pred.result.now c.of.result c.loop-i.table c.add_marked.new.table c.get-pred.ensures c.of.ensures c.loop-i.invariant.filled
      c.add_marked.ensures.right c.add_marked.ensures.grown c.in_ok-add_marked.ensures.ok;
  grown = grown_then c.args.table.now c.loop-i.table c.add_marked.new.table c.loop-i.invariant.grown c.add_marked.ensures.grown;
}

pub returns-in_err-add_marked-clause-grown : goal.returns-in_err-add_marked-clause-grown
returns-in_err-add_marked-clause-grown g c =
    grown_then c.args.table.now c.loop-i.table c.add_marked.new.table c.loop-i.invariant.grown c.add_marked.ensures.grown

pub returns-clause-ok : goal.returns-clause-ok
returns-clause-ok g c =
    λ f over needed.
    form_has c.args.file.now f c.requires.formed over g.E.Engine.gives c.args.marks.now needed c.loop-i.table
    (subst (λ (i : ℕ). IsFilledTo g.E.Engine.gives c.args.file.now c.args.marks.now i c.loop-i.table) (omega (arith, c.loop-i-test.false, c.loop-i.auto.i-end, c.len-i-end.ensures))
    c.loop-i.invariant.filled)

pub add_marked-requires-clause-right : goal.add_marked-requires-clause-right
add_marked-requires-clause-right g c = c.loop-i.invariant.filled.right

pub returns-clause-right : goal.returns-clause-right
returns-clause-right g c = c.loop-i.invariant.filled.right

pub returns-clause-grown : goal.returns-clause-grown
returns-clause-grown g c = c.loop-i.invariant.grown
