use Rattle.std.proofs.Common.{◌+◌, ℕ, Bool, List, length, take, sym, ap, ◌∙◌, subst, arith}
use Rattle.std.proofs.lemmas.List.Elements.{All-contains}
use Rattle.flat_form.proofs.Shapes.{all_taken}
use Rattle.flat_form.specs.Numbering.{AtomOver}
use Rattle.basic_solver.specs.Outcomes.{LeavesOpen}
use Rattle.basic_solver.proofs.Based.{IsClean, IsUsed, told_by_flags, bound_size, bound_clean, bound_used}
use Rattle.basic_solver.proofs.Following.{stands_at}
use Rattle.basic_solver.proofs.bases.bound_by.Goals as goal

pub loop-i-preserved : goal.loop-i-preserved
loop-i-preserved c =
    let base = c.args.base.now in
    let i = c.loop-i.i in
    let atom = c.get.result.now in
    let old = c.loop-i.bound.items in
    let over : AtomOver (length old) atom = subst (λ (z : ℕ). AtomOver z atom) (sym c.loop-i.invariant.size)
    (All-contains (AtomOver c.args.count) base atom c.requires.over (stands_at base i atom c.get.ensures)) in
    record {
      size = ap length c.bind.ensures ∙ bound_size old atom ∙ c.loop-i.invariant.size;
      clean = subst (λ (z : List Bool). IsClean LeavesOpen (take (i + 1) base) z) (sym c.bind.ensures)
          (bound_clean base old i atom c.get.ensures over c.loop-i.invariant.clean);
      used = subst (λ (z : List Bool). IsUsed LeavesOpen base z) (sym c.bind.ensures) (bound_used base old i atom c.get.ensures over c.loop-i.invariant.used);
    }

pub returns-clause-bound : goal.returns-clause-bound
returns-clause-bound c =
    told_by_flags LeavesOpen c.args.base.now c.loop-i.bound.items
    (λ v e. all_taken (LeavesOpen v) c.args.base.now c.loop-i.i (omega arith) (c.loop-i.invariant.clean v e)) c.loop-i.invariant.used
