-- Parts with new numbers and nothing before their atoms.
use Rattle.std.proofs.Common.{ℕ, ◌≡◌, List, [], map, ap, ◌∙◌}
use Rattle.flat_form.specs.declared.atom.Flat.{Flat}
use Rattle.flat_form.specs.declared.cube.Part.{Part}
use Rattle.flat_form.specs.Orders.{renumbered_part}
use Rattle.cube_reduction.specs.Numbers.{moved_into}

pub nothing_before : (f g : ℕ → ℕ) (more : ℕ) (moved : List Flat) (parts : List Part) → moved ≡ [] → f ≡ g
    → map (moved_into f more moved) parts ≡ map (renumbered_part g more) parts
nothing_before f g more moved parts none same =
    ap (λ (z : List Flat). map (moved_into f more z) parts) none ∙ ap (λ (h : ℕ → ℕ). map (renumbered_part h more) parts) same
