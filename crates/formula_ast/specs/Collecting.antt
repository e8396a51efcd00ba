-- Lists that are collected, each item once, by first occurrence.
use Rattle.std.specs.Prelude.{◌≡◌, ℕ, List, [], ◌∷◌, ◌++◌}
use Rattle.formula_ast.specs.Occurrences.{without, first_occurrences}

-- what was collected has grown by these items
abbrev pub Collects : List ℕ → List ℕ → List ℕ → Type 0
Collects before after xs = (seen : List ℕ) → before ≡ first_occurrences seen → after ≡ first_occurrences (seen ++ xs)

-- the list without these variables
abbrev pub without_all : List ℕ → List ℕ → List ℕ
without_all [] xs = xs
without_all (x ∷ bound) xs = without x (without_all bound xs)
