-- Tables of names: one variable for each variable, the same for all of a class, and the one that comes first of these.
use Rattle.std.specs.Prelude.{◌≡◌, ℕ, ◌+◌, ◌<◌, ◌≤◌, Bool, false, List, length, map, cond, eqb, slice_index, slice_index_or, sum_by}
use Rattle.flat_form.specs.declared.atom.Flat.{Flat}
use Rattle.flat_form.specs.declared.atom.Flat.TheVariants.{VarVar, VarTerm, Finite}
use Rattle.flat_form.specs.Classes.{Class}

-- the name of v; past the end of the table each variable is its own
abbrev pub name_in : List ℕ → ℕ → ℕ
name_in names v = slice_index_or names v v

-- how late v comes: the variables that lead come before all others, and those of one kind in order of their numbers
abbrev pub rank : List Bool → ℕ → ℕ
rank leads v = cond (slice_index_or leads v false) v (length leads + v)

-- each name is its own name, and none comes later than what it names
pub record IsNaming (leads : List Bool) (names : List ℕ) : Type 0 where
  pub size : length names ≡ length leads
  pub low : (v : ℕ) → rank leads (name_in names v) ≤ rank leads v
  pub itself : (v : ℕ) → name_in names (name_in names v) ≡ name_in names v

-- each variable is in the class of its name
abbrev pub IsSound : List Flat → List ℕ → Type 0
IsSound atoms names = (v : ℕ) → Class atoms v (name_in names v)

-- how late the names come, in all
abbrev pub weight : List Bool → List ℕ → ℕ
weight leads names = sum_by (rank leads) names

-- what was named `high` is now named `low`
abbrev pub renamed : ℕ → ℕ → List ℕ → List ℕ
renamed high low names = map (λ r. cond (eqb r high) low r) names

-- the lists have the same names, place by place
abbrev pub AreAlike : List ℕ → List ℕ → List ℕ → Type 0
AreAlike names xs ys = (i : ℕ) → i < length xs → name_in names (slice_index xs i) ≡ name_in names (slice_index ys i)

-- where the atom equates two variables, they have one name
abbrev pub IsEquated : List ℕ → Flat → Type 0
IsEquated names (VarVar u v) = name_in names u ≡ name_in names v
IsEquated names (VarTerm u symbol xs) = Unit {0}
IsEquated names (Finite u) = Unit {0}

-- where both atoms have terms with one symbol and number of arguments, the variables have one name exactly where the arguments have
abbrev pub IsFollowed : List ℕ → Flat → Flat → Type 0
IsFollowed names (VarVar u w) b = Unit {0}
IsFollowed names (VarTerm u symbol xs) (VarVar v w) = Unit {0}
IsFollowed names (VarTerm u symbol xs) (VarTerm v other ys) =
    symbol ≡ other → length xs ≡ length ys
    → (name_in names u ≡ name_in names v → AreAlike names xs ys) × (AreAlike names xs ys → name_in names u ≡ name_in names v)
IsFollowed names (VarTerm u symbol xs) (Finite v) = Unit {0}
IsFollowed names (Finite u) b = Unit {0}
