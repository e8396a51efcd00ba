-- Renaming a class, one variable after the other.
use Rattle.std.proofs.Common.{ℕ, zero, suc, ◌≡◌, ◌<◌, ◌+◌, List, [], ◌∷◌, ◌++◌, length, refl, ap, ◌∙◌, subst, arith, inl, inr, cond, eqb, get_or, take, drop}
use Rattle.std.proofs.lemmas.Bool.Decides.{eqb_tells}
use Rattle.std.specs.Prelude.{slice_set}
use Rattle.basic_solver.specs.Names.{renamed}

pub named_low : (high low x : ℕ) → x ≡ high → cond (eqb x high) low x ≡ low
named_low high low x e = elim (eqb_tells x high) [ inl h ↦ rw h.0 refl | inr h ↦ absurd (h.1 e) ]

read_ahead : (high low i : ℕ) (xs : List ℕ) (d : ℕ) → i < length xs → get_or (renamed high low (take i xs) ++ drop i xs) i d ≡ get_or xs i d
read_ahead high low i [] d w = absurd (omega arith)
read_ahead high low zero (x ∷ xs) d w = refl
read_ahead high low (suc i) (x ∷ xs) d w = read_ahead high low i xs d (omega arith)

step : (high low i : ℕ) (xs : List ℕ) (d : ℕ) → i < length xs
    → slice_set (renamed high low (take i xs) ++ drop i xs) i (cond (eqb (get_or xs i d) high) low (get_or xs i d)) ≡ renamed high low (take (i + 1) xs) ++ drop (i + 1) xs
step high low i [] d w = absurd (omega arith)
step high low zero (x ∷ xs) d w = refl
step high low (suc i) (x ∷ xs) d w =
    let q : suc i + 1 ≡ suc (i + 1) = omega arith in rw q (ap (λ zs. cond (eqb x high) low x ∷ zs) (step high low i xs d (omega arith)))

pub step_now : (high low i : ℕ) (xs now : List ℕ) (x new : ℕ) → now ≡ renamed high low (take i xs) ++ drop i xs → i < length xs → x ≡ get_or now i x
    → new ≡ cond (eqb x high) low x → slice_set now i new ≡ renamed high low (take (i + 1) xs) ++ drop (i + 1) xs
step_now high low i xs now x new e w r is =
    let P : List ℕ → Type 0 = λ z. x ≡ get_or z i x in
    let own : x ≡ get_or xs i x = subst P e r ∙ read_ahead high low i xs x w in
    let whole : new ≡ cond (eqb (get_or xs i x) high) low (get_or xs i x) = is ∙ ap (λ z. cond (eqb z high) low z) own in
    ap (λ z. slice_set z i new) e ∙ ap (λ z. slice_set (renamed high low (take i xs) ++ drop i xs) i z) whole ∙ step high low i xs x w
