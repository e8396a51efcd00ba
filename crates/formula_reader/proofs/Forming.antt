-- Formulas that are formed layer by layer.
use Rattle.std.proofs.Common.{◌≡◌, ℕ, List, [], ◌∷◌, ◌++◌, refl, sym, ap, ◌∙◌}
use Rattle.formula_ast.specs.Forms.{Form}
use Rattle.formula_grammar.specs.Meaning.{behind}

pub behind_last : (quantifier : ℕ → Form → Form) (xs : List ℕ) (x : ℕ) (f : Form) → behind quantifier (xs ++ x ∷ []) f ≡ behind quantifier xs (quantifier x f)
behind_last quantifier [] x f = refl
behind_last quantifier (y ∷ xs) x f = ap (quantifier y) (behind_last quantifier xs x f)

-- the last variable that is left is put in front of the formula
pub behind_step : (quantifier : ℕ → Form → Form) (xs ys : List ℕ) (x : ℕ) (f g h : Form) → xs ≡ ys ++ x ∷ [] → g ≡ quantifier x f → behind quantifier xs f ≡ h
    → behind quantifier ys g ≡ h
behind_step quantifier xs ys x f g h left is before =
    ap (behind quantifier ys) is ∙ sym (behind_last quantifier ys x f) ∙ ap (λ l. behind quantifier l f) (sym left) ∙ before
