-- What the shape of a solved conjunction says of two of its atoms at a time, but for their order.
use Rattle.std.specs.Prelude.{◌≡◌, ℕ, ◌<◌, All}
use Rattle.flat_form.specs.declared.atom.Flat.{Flat}
use Rattle.flat_form.specs.declared.atom.Flat.TheVariants.{VarVar, VarTerm, Finite}

-- the atom says that v equals a variable
abbrev pub SaysEqual : ℕ → Flat → Type 0
SaysEqual v (VarVar u r) = u ≡ v
SaysEqual v (VarTerm u symbol xs) = ⊥
SaysEqual v (Finite u) = ⊥

-- a smaller variable stands on the right, which the other atom does not say to equal one; no argument is one that it
-- says so of; and the other atom has not the same term for another variable
abbrev pub GoesWith : Flat → Flat → Type 0
GoesWith (VarVar u r) other = (r < u) × (¬ SaysEqual r other)
GoesWith (VarTerm u symbol xs) (VarVar v r) = All (λ x. ¬ (x ≡ v)) xs
GoesWith (VarTerm u symbol xs) (VarTerm v others ys) = symbol ≡ others → xs ≡ ys → u ≡ v
GoesWith (VarTerm u symbol xs) (Finite v) = Unit {0}
GoesWith (Finite u) other = Unit {0}
