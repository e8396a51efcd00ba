-- What a search from a variable finds.
use Rattle.std.specs.Prelude.{ℕ, ◌≡◌, ◌<◌, List, length, slice_index, Contains}
use Rattle.tree_model.specs.declared.tree.Symbol.{Symbol}
use Rattle.flat_form.specs.declared.atom.Flat.{Flat}
use Rattle.flat_form.specs.declared.atom.Flat.TheVariants.{VarTerm}
use Rattle.flat_facts.specs.Spread.{Leads, IsLeastRound}
use Rattle.finiteness.specs.declared.search.Mark.{Mark}
use Rattle.finiteness.specs.declared.search.Mark.TheVariants.{Done}
use Rattle.finiteness.specs.declared.search.Found.{Found}
use Rattle.finiteness.specs.declared.search.Found.TheVariants.{Round, Met}
use Rattle.finiteness.specs.Marks.{IsMarked, IsSettled}

-- a walk leads from u to w
abbrev pub Reaches : List Flat → ℕ → ℕ → Type 0
Reaches basic u w = (path : List ℕ) × (before : List ℕ) × Leads basic u path before w

-- no walk from u meets its end before
abbrev pub IsClean : List Flat → ℕ → Type 0
IsClean basic u = (path before : List ℕ) (last : ℕ) → Leads basic u path before last → ¬ Contains before last

-- done terms: the search has met them, their arguments are settled, and no walk from them comes round
pub record AreDone (basic : List Flat) (start : ℕ) (marks : List Mark) : Type 0 where
  pub closed : (u : ℕ) (symbol : Symbol) (xs : List ℕ) → Contains basic (VarTerm u symbol xs) → IsMarked basic marks Done u
      → (i : ℕ) → i < length xs → IsSettled basic marks (slice_index xs i)
  pub clean : (u : ℕ) → IsMarked basic marks Done u → IsClean basic u
  pub reached : (u : ℕ) → IsMarked basic marks Done u → Reaches basic start u

-- v equals `start`, from where the search has found this: the least path of a walk that comes round, or that none does
abbrev pub IsFound : List Flat → ℕ → ℕ → Found → Type 0
IsFound basic v start (Round path) = IsLeastRound basic v path
IsFound basic v start (Met marks) = (length marks.items ≡ length basic) × AreDone basic start marks.items × IsMarked basic marks.items Done start
