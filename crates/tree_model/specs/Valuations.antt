-- Values of variables.
use Rattle.std.specs.Prelude.{ℕ, cond, eqb}
use Rattle.tree_model.specs.Signatures.{Signature, TreeOver}

-- a tree for each variable
abbrev pub Valuation : Signature → Type 0
Valuation σ = ℕ → TreeOver σ

-- e with the value t at x
abbrev pub update : {A : Type 0} → (ℕ → A) → ℕ → A → ℕ → A
update e x t y = cond (eqb x y) t (e y)
