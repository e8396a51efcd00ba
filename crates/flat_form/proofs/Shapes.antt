-- The shape of a solved conjunction, told by two atoms at a time.
use Rattle.std.proofs.Common.{ℕ, zero, suc, ◌≡◌, ◌<◌, ◌≤◌, ◌+◌, ◌-◌, List, [], ◌∷◌, length, get_or, take, refl, sym, ap, ◌∙◌, subst, arith, inl, inr, ◌⊎◌, Some}
use Rattle.std.specs.Prelude.{All, Contains, slice_get, slice_index}
use Rattle.std.proofs.lemmas.List.{take_all}
use Rattle.std.proofs.lemmas.List.Elements.{All-more, All-contains, Contains-get_or}
use Rattle.std.proofs.lemmas.Option.{slice_get_within, get_or_from_slice_get}
use Rattle.flat_form.specs.declared.atom.Flat.{Flat}
use Rattle.flat_form.specs.declared.atom.Flat.TheVariants.{VarVar, VarTerm, Finite}
use Rattle.flat_form.specs.Beside.{SaysEqual, GoesWith}
use Rattle.flat_form.specs.Solved.{variable_of, Ascends, IsSolved}

-- a further element has P
pub all_next : (P : Flat → Type 0) (xs : List Flat) (i : ℕ) (x : Flat) → slice_get xs i ≡ Some x → All P (take i xs) → P x → All P (take (i + 1) xs)
all_next P xs i x at h p = All-more P xs i x (slice_get_within xs i x at) h (subst P (sym (get_or_from_slice_get xs i x x at)) p)

pub all_taken : (P : Flat → Type 0) (xs : List Flat) (i : ℕ) → length xs ≤ i → All P (take i xs) → All P xs
all_taken P xs i w h = subst (λ (z : List Flat). All P z) (take_all i xs w) h

any_default : (xs : List ℕ) (i d e : ℕ) → i < length xs → get_or xs i d ≡ get_or xs i e
any_default [] i d e w = absurd (omega arith)
any_default (x ∷ xs) zero d e w = refl
any_default (x ∷ xs) (suc i) d e w = any_default xs i d e (omega arith)

-- ascending, told by places
abbrev pub Rises : List Flat → ℕ → Type 0
Rises xs n = (j k : ℕ) (d : Flat) → j < k → k < n → variable_of (get_or xs j d) < variable_of (get_or xs k d)

pub ascends_from : (xs : List Flat) (n : ℕ) → length xs ≤ n → Rises xs n → Ascends xs
ascends_from [] n w h = tt
ascends_from (a ∷ rest) n w h = (
  λ later (k, l, e). omega (arith, h 0 (suc k) later (omega arith) (omega arith), ap variable_of e),
  ascends_from rest (n - 1) (omega arith) (λ j k d l m. h (suc j) (suc k) d (omega arith) (omega arith)),
)

pub rises_from : (xs : List Flat) → Ascends xs → Rises xs (length xs)
rises_from [] up j k d l w = absurd (omega (arith, l, w))
rises_from (a ∷ rest) up zero zero d l w = absurd (omega (arith, l))
rises_from (a ∷ rest) up zero (suc k) d l w = up.0 (get_or rest k d) (Contains-get_or rest k d (omega arith))
rises_from (a ∷ rest) up (suc j) zero d l w = absurd (omega (arith, l))
rises_from (a ∷ rest) up (suc j) (suc k) d l w = rises_from rest up.1 j k d (omega arith) (omega arith)

lt_or_le : (m n : ℕ) → (m < n) ⊎ (n ≤ m)
lt_or_le m n = grind arith

pub rises_more : (xs : List Flat) (i : ℕ) (x y : Flat) → 1 ≤ i → slice_get xs i ≡ Some x → slice_get xs (i - 1) ≡ Some y → variable_of y < variable_of x
    → Rises xs i → Rises xs (i + 1)
rises_more xs i x y one at before less up j k d l w =
    let ex : get_or xs i d ≡ x = get_or_from_slice_get xs i x d at in
    let ey : get_or xs (i - 1) d ≡ y = get_or_from_slice_get xs (i - 1) y d before in
    elim (lt_or_le k i) [
      | inl m ↦ up j k d l m
      | inr m ↦
          let k_is : k ≡ i = omega arith in
          let here : variable_of (get_or xs (i - 1) d) < variable_of (get_or xs i d) = omega (arith, ap variable_of ex, ap variable_of ey, less) in
          elim (lt_or_le j (i - 1)) [
            | inl s ↦ subst (λ (z : ℕ). variable_of (get_or xs j d) < variable_of (get_or xs z d)) (sym k_is) (omega (arith, up j (i - 1) d s (omega arith), here))
            | inr s ↦
                let j_is : j ≡ i - 1 = omega arith in
                subst (λ (z : ℕ). variable_of (get_or xs j d) < variable_of (get_or xs z d)) (sym k_is)
                (subst (λ (z : ℕ). variable_of (get_or xs z d) < variable_of (get_or xs i d)) (sym j_is) here)
          ]
    ]

pub falls : (xs : List Flat) (i : ℕ) (x y : Flat) → 1 ≤ i → slice_get xs i ≡ Some x → slice_get xs (i - 1) ≡ Some y → variable_of x ≤ variable_of y → ¬ Ascends xs
falls xs i x y one at before less = λ up.
    let w : i < length xs = slice_get_within xs i x at in
    let ex : get_or xs i x ≡ x = get_or_from_slice_get xs i x x at in
    let ey : get_or xs (i - 1) x ≡ y = get_or_from_slice_get xs (i - 1) y x before in
    omega (arith, rises_from xs up (i - 1) i x (omega arith) w, ap variable_of ex, ap variable_of ey, less)

-- each atom goes with each
abbrev pub GoTogether : List Flat → Type 0
GoTogether xs = All (λ (atom : Flat). All (GoesWith atom) xs) xs

module _ (xs : List Flat) where
  go : GoTogether xs → (a b : Flat) → Contains xs a → Contains xs b → GoesWith a b
  go together a b i j = All-contains (GoesWith a) xs b (All-contains (λ (atom : Flat). All (GoesWith atom) xs) xs a together i) j

  pub solved_from : Ascends xs → GoTogether xs → IsSolved xs
  solved_from up together = record {
    ascending = up;
    direct = λ u r i. ((go together (VarVar u r) (VarVar u r) i i).0, λ w j. (go together (VarVar u r) (VarVar r w) i j).1 refl);
    plain = λ u s ys i k w r j. go together (VarTerm u s ys) (VarVar (slice_index ys k) r) i j k 0 w refl;
    apart = λ u v s ys i j. go together (VarTerm u s ys) (VarTerm v s ys) i j refl refl;
  }

  module _ (solved : IsSolved xs) where
    no_equal : (u r : ℕ) → Contains xs (VarVar u r) → (b : Flat) → Contains xs b → ¬ SaysEqual r b
    no_equal u r i (VarVar q w) j = λ e. (solved.direct u r i).1 w (subst (λ (z : ℕ). Contains xs (VarVar z w)) e j)
    no_equal u r i (VarTerm q s ys) j = λ e. e
    no_equal u r i (Finite q) j = λ e. e

    pair : (a b : Flat) → Contains xs a → Contains xs b → GoesWith a b
    pair (VarVar u r) b i j = ((solved.direct u r i).0, no_equal u r i b j)
    pair (VarTerm u s ys) (VarVar v r) i j = λ k d w e.
        solved.plain u s ys i k w r (subst (λ (z : ℕ). Contains xs (VarVar z r)) (sym e ∙ any_default ys k d 0 w) j)
    pair (VarTerm u s ys) (VarTerm v t zs) i j = λ e f.
        solved.apart u v s ys i (subst (λ z. Contains xs (VarTerm v s z)) (sym f) (subst (λ z. Contains xs (VarTerm v z zs)) (sym e) j))
    pair (VarTerm u s ys) (Finite v) i j = tt
    pair (Finite u) b i j = tt

    pub together_from : GoTogether xs
    together_from k d w m c x = pair (get_or xs k d) (get_or xs m c) (Contains-get_or xs k d w) (Contains-get_or xs m c x)
