-- Every meaning is stable.
use Rattle.std.proofs.Common.{ℕ, List, [], ◌∷◌}
use Rattle.classical.specs.Classical.{IsStable}
use Rattle.classical.proofs.Stable.{not_stable, all_stable, and_stable, imp_stable, unit_stable, false_stable}
use Rattle.tree_model.specs.Signatures.{Signature}
use Rattle.tree_model.specs.Valuations.{Valuation}
use Rattle.tree_model.proofs.Stability.{same_stable}
use Rattle.tree_facts.specs.Equations.{equals_term}
use Rattle.tree_facts.proofs.Equations.{equation_stable}
use Rattle.flat_form.specs.declared.atom.Flat.{Flat}
use Rattle.flat_form.specs.declared.atom.Flat.TheVariants.{VarVar, VarTerm, Finite}
use Rattle.flat_form.specs.declared.cube.Part.{Part}
use Rattle.flat_form.specs.declared.cube.Cube.{Cube}
use Rattle.flat_form.specs.Meanings.{AtomHolds, BasicHolds, PartFails, AllFail, SomeHolds, NormHolds, NormsHold}
use Rattle.flat_form.specs.Normals.{Norm, Norms, norm, none, also}

module _ (σ : Signature) where
  pub atom_stable : (e : Valuation σ) (atom : Flat) → IsStable (AtomHolds e atom)
  atom_stable e (VarVar u v) = same_stable (e u).graph (e v).graph
  atom_stable e (VarTerm u symbol arguments) = equation_stable σ e (equals_term u symbol arguments)
  atom_stable e (Finite u) = not_stable

  pub basic_stable : (e : Valuation σ) (basic : List Flat) → IsStable (BasicHolds e basic)
  basic_stable e [] = unit_stable
  basic_stable e (atom ∷ rest) = and_stable (atom_stable e atom) (basic_stable e rest)

  pub part_stable : (n : ℕ) (e : Valuation σ) (part : Part) → IsStable (PartFails n e part)
  part_stable n e part = all_stable (λ d. imp_stable not_stable)

  pub parts_stable : (n : ℕ) (e : Valuation σ) (parts : List Part) → IsStable (AllFail n e parts)
  parts_stable n e [] = unit_stable
  parts_stable n e (part ∷ rest) = and_stable (part_stable n e part) (parts_stable n e rest)

  pub cubes_stable : (e : Valuation σ) (cubes : List Cube) → IsStable (SomeHolds e cubes)
  cubes_stable e [] = false_stable
  cubes_stable e (cube ∷ rest) = not_stable

  pub norm_stable : (n : ℕ) (e : Valuation σ) (x : Norm) → IsStable (NormHolds n e x)
  norm_stable n e (norm bound basic parts) = all_stable (λ d. imp_stable (imp_stable not_stable))

  pub norms_stable : (n : ℕ) (e : Valuation σ) (xs : Norms) → IsStable (NormsHold n e xs)
  norms_stable n e none = unit_stable
  norms_stable n e (also x xs) = and_stable (norm_stable n e x) (norms_stable n e xs)
