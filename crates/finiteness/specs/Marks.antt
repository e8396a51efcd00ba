-- How far a search is, place by place.
use Rattle.std.specs.Prelude.{ℕ, ◌≡◌, ◌<◌, ◌≤◌, List, length, Contains, slice_index, slice_index_or, ◌⊎◌}
use Rattle.tree_model.specs.declared.tree.Symbol.{Symbol}
use Rattle.flat_form.specs.declared.atom.Flat.{Flat}
use Rattle.flat_form.specs.declared.atom.Flat.TheVariants.{VarTerm}
use Rattle.flat_form.specs.Solved.{HasTerm}
use Rattle.finiteness.specs.declared.search.Mark.{Mark}
use Rattle.finiteness.specs.declared.search.Mark.TheVariants.{Done}
use Rattle.finiteness.specs.declared.search.Turn.{Turn}
use Rattle.finiteness.specs.Places.{StandsAt, HasTermAt}

-- the mark stands at this place
abbrev pub HasMark : List Mark → ℕ → Mark → Type 0
HasMark marks place mark = (place < length marks) × (slice_index_or marks place mark ≡ mark)

-- the term of v has this mark
abbrev pub IsMarked : List Flat → List Mark → Mark → ℕ → Type 0
IsMarked basic marks mark v = (place : ℕ) × HasTermAt basic place v × HasMark marks place mark

-- v has no term, or its term is done
abbrev pub IsSettled : List Flat → List Mark → ℕ → Type 0
IsSettled basic marks v = (¬ HasTerm basic v) ⊎ IsMarked basic marks Done v

-- the arguments of the term at this place, from one number on and below another, are settled
abbrev pub AreSettled : List Flat → List Mark → ℕ → ℕ → ℕ → Type 0
AreSettled basic marks place from upto =
    (u : ℕ) (symbol : Symbol) (xs : List ℕ) → StandsAt basic place (VarTerm u symbol xs)
    → (i : ℕ) → from ≤ i → i < upto → i < length xs → IsSettled basic marks (slice_index xs i)

-- each argument of the term at this place, from one number on, is settled
abbrev pub AllAreSettled : List Flat → List Mark → Turn → Type 0
AllAreSettled basic marks at = (upto : ℕ) → AreSettled basic marks at.place at.argument upto

-- the first argument, from the one at hand on, that is not settled, and the place of its term
pub record IsOnward (basic : List Flat) (marks : List Mark) (at next : Turn) : Type 0 where
  pub from : at.argument ≤ next.argument
  pub passed : AreSettled basic marks at.place at.argument next.argument
  pub leads : (u : ℕ) (symbol : Symbol) (xs : List ℕ) → StandsAt basic at.place (VarTerm u symbol xs)
      → (next.argument < length xs) × HasTermAt basic next.place (slice_index xs next.argument)
  pub waits : ¬ HasMark marks next.place Done

-- u is one of the variables, and has no term
abbrev pub IsBareIn : List Flat → List ℕ → ℕ → Type 0
IsBareIn basic xs u = Contains xs u × (¬ HasTerm basic u)

-- the term at this place is done, and u is an argument of it that has no term
pub record IsLeafAt (basic : List Flat) (marks : List Mark) (place u : ℕ) : Type 0 where
  pub over : ℕ
  pub symbol : Symbol
  pub xs : List ℕ
  pub stands : StandsAt basic place (VarTerm over symbol xs)
  pub done : HasMark marks place Done
  pub among : Contains xs u
  pub bare : ¬ HasTerm basic u
