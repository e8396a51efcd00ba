use Rattle.std.proofs.Common.{◌<◌, ◌+◌, ℕ, Bool, List, length, take, sym, ap, ◌∙◌, subst, arith}
use Rattle.std.specs.Prelude.{All}
use Rattle.flat_form.proofs.Shapes.{all_next, all_taken}
use Rattle.basic_solver.specs.Flags.{IsSet, without_term}
use Rattle.basic_solver.proofs.Cleared.{IsCleared, HasNamedTerm, cleared_here, cleared_size, cleared_more, cleared_term, grounded_first}
use Rattle.basic_solver.proofs.Following.{stands_at}
use Rattle.basic_solver.proofs.grounding.without_terms.Goals as goal

pub loop-i-preserved : goal.loop-i-preserved
loop-i-preserved c =
    let names = c.args.names.now in
    let atoms = c.args.atoms.now in
    let i = c.loop-i.i in
    let atom = c.get.result.now in
    let old = c.loop-i.done.items in
    record {
      size = ap length c.take_term.ensures ∙ cleared_size names old atom ∙ c.loop-i.invariant.size;
      cleared = subst (λ (z : List Bool). All (IsCleared names z) (take (i + 1) atoms)) (sym c.take_term.ensures)
          (all_next (IsCleared names (without_term names atom old)) atoms i atom c.get.ensures (cleared_more names old atom (take i atoms) c.loop-i.invariant.cleared)
          (cleared_here names old atom));
      term = subst (λ (z : List Bool). (v : ℕ) → v < length names → ¬ IsSet names z v → HasNamedTerm names atoms v) (sym c.take_term.ensures)
          (cleared_term names atoms old atom (stands_at atoms i atom c.get.ensures) c.loop-i.invariant.term);
    }

pub returns-clause-grounded : goal.returns-clause-grounded
returns-clause-grounded c =
    grounded_first c.args.names.now c.args.atoms.now c.loop-i.done.items c.loop-i.invariant.size
    (all_taken (IsCleared c.args.names.now c.loop-i.done.items) c.args.atoms.now c.loop-i.i (omega arith) c.loop-i.invariant.cleared) c.loop-i.invariant.term
