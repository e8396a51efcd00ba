-- What is written of a drawn formula that is not an atom alone.
use Rattle.std.proofs.Common.{◌≡◌, ◌≢◌, ℕ, zero, suc, ◌-◌, List, ◌∷◌, get_or, refl, ap, sym, subst, arith}
use Rattle.draws.specs.Draws.{next, drawn}
use Rattle.formula_grammar.specs.Written.{WrittenFormula}
use Rattle.formula_printer.specs.Texts.{text_of}
use Rattle.generator.specs.Drawing.{Draw, one_of, Writes}
use Rattle.generator.specs.Generated.{drawn_atom, drawn_formula, compounds}
use Rattle.generator.proofs.Parts.{wrote_choice}

shallow : (depth : ℕ) → depth ≡ 0 → drawn_formula depth ≡ drawn_atom
unfolding drawn_formula
shallow depth e = ap drawn_formula e

deep : (depth : ℕ) → depth ≢ 0 → drawn_formula depth ≡ one_of drawn_atom (compounds (drawn_formula (depth - 1)))
unfolding drawn_formula
deep zero some = absurd (some refl)
deep (suc depth) some = let one_less : suc depth - 1 ≡ depth = omega arith in ap (λ d. one_of drawn_atom (compounds (drawn_formula d))) (sym one_less)

pub wrote_atom : (depth state new_state : ℕ) (old new : List ℕ) → depth ≡ 0 → Writes text_of drawn_atom state old new_state new → Writes text_of (drawn_formula depth) state old new_state new
wrote_atom depth state new_state old new e w = subst (λ (d : Draw WrittenFormula). Writes text_of d state old new_state new) (sym (shallow depth e)) w

pub wrote_formula : (depth state middle result number new_state : ℕ) (old new : List ℕ) → depth ≢ 0
    → middle ≡ next state → result ≡ drawn middle 6 → result ≡ number
    → Writes text_of (get_or (drawn_atom ∷ compounds (drawn_formula (depth - 1))) number drawn_atom) middle old new_state new
    → Writes text_of (drawn_formula depth) state old new_state new
wrote_formula depth state middle result number new_state old new some e is k w =
    subst (λ (d : Draw WrittenFormula). Writes text_of d state old new_state new) (sym (deep depth some))
    (wrote_choice text_of drawn_atom (compounds (drawn_formula (depth - 1))) state middle result number new_state old new e is k w)
