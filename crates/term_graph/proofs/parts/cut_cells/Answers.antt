use Rattle.std.proofs.Common.{◌≡◌, ◌-◌, ℕ, suc, List, arith, sym, ◌∙◌, ap}
use Rattle.index_lists.specs.Rings.{without_last}
use Rattle.term_graph.specs.Fields.{cut_off}
use Rattle.term_graph.proofs.parts.cut_cells.Goals as goal

cut_once : (n k : ℕ) (next : List ℕ) → n ≡ suc k → cut_off n next ≡ cut_off k (without_last next)
cut_once n k next e = ap (λ z. cut_off z next) e

pub loop-left-preserved : goal.loop-left-preserved
loop-left-preserved c =
    let r = c.remove_last.ensures.len in
    record {
      within = omega arith;
      back = ap (cut_off (c.loop-left.left - 1)) c.remove_last.ensures.left ∙ sym (cut_once c.loop-left.left (c.loop-left.left - 1) c.loop-left.rings (omega arith)) ∙ c.loop-left.invariant.back;
    }

pub returns-clause-rings : goal.returns-clause-rings
returns-clause-rings c =
    let z : c.loop-left.left ≡ 0 = omega arith in
    sym (ap (λ k. cut_off k c.loop-left.rings) z) ∙ c.loop-left.invariant.back
