use Rattle.std.proofs.Common.{ℕ, List, sym, ◌∙◌, subst, take, ◌+◌}
use Rattle.std.specs.Prelude.{Contains}
use Rattle.flat_form.specs.declared.atom.Flat.{Flat}
use Rattle.flat_form.specs.Solved.{variable_of}
use Rattle.reachability.proofs.Mentioned.{never}
use Rattle.cube_reduction.proofs.Taken.{IsFound, found_none, found_more, found_still, found_all, always}
use Rattle.cube_reduction.proofs.clearing.atoms_without.Goals as goal
use Rattle.cube_reduction.proofs.clearing.atoms_without.Goals.{then-not-is_one_of+in_ok-copy+in_ok-push, else-not-is_one_of}

pub loop-atom-init : goal.loop-atom-init
loop-atom-init c = found_none (λ (atom : Flat). ¬ Contains c.args.vs.now (variable_of atom)) c.new-found.result c.new-found.ensures

pub loop-atom-preserved : goal.loop-atom-preserved
loop-atom-preserved c =
    let P : Flat → Type 0 = λ (atom : Flat). ¬ Contains c.args.vs.now (variable_of atom) in
    let atoms = c.args.atoms.now in
    let i = c.loop-atom.atom-index in
    let x = c.atom-item.result in
    elim c.if-not-is_one_of.branch [
      | then-not-is_one_of+in_ok-copy+in_ok-push w ↦
          found_more P atoms c.loop-atom.found i x c.requires.ascending c.loop-atom-test.true c.atom-item.is c.loop-atom.invariant _ _
          (λ inside. never c.is_one_of.result w.if-not-is_one_of.true
          (c.is_one_of.ensures.1 (subst (λ (z : ℕ). Contains c.args.vs.now z) (sym c.variable.ensures) inside)))
          w.in_ok-copy.ensures (w.found-is ∙ w.in_ok-push.ensures.ok)
      | else-not-is_one_of w ↦
          subst (λ (z : List Flat). IsFound P (take (i + 1) atoms) z) (sym w.found-is)
          (found_still P atoms c.loop-atom.found i x c.requires.ascending c.loop-atom-test.true c.atom-item.is c.loop-atom.invariant
          (λ out. out (subst (λ (z : ℕ). Contains c.args.vs.now z) c.variable.ensures (c.is_one_of.ensures.0 (always c.is_one_of.result w.if-not-is_one_of.false)))))
    ]

pub returns : goal.returns
returns c =
    let found : IsFound (λ (atom : Flat). ¬ Contains c.args.vs.now (variable_of atom)) c.args.atoms.now c.loop-atom.found =
    found_all (λ (atom : Flat). ¬ Contains c.args.vs.now (variable_of atom)) c.args.atoms.now c.loop-atom.found c.loop-atom.atom-index c.loop-atom-test.false c.loop-atom.invariant in
    record { ascending = found.ascending; is = found.is }
