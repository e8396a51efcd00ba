-- Flags for the numbers of a list, and the numbers in a range without a flag.
use Rattle.std.specs.Prelude.{Contains, slice_set, ◌↔◌}
use Rattle.std.specs.List.Sorted.{IsStrictlyIncreasing}
use Rattle.std.proofs.Common.{ℕ, ◌≡◌, ◌+◌, ◌<◌, ◌≤◌, Bool, true, List, [], ◌∷◌, ◌++◌, length, get_or, take, sym, ap, ◌∙◌, subst, arith, inl, inr, length-append}
use Rattle.std.proofs.lemmas.List.{get_or_append_left, get_or_push, take_more, take_all}
use Rattle.std.proofs.lemmas.List.Elements.{Contains-push, Contains-append_left, Contains-push_cases, Contains-get_or}
use Rattle.cube_facts.proofs.Places.{side}
use Rattle.reachability.specs.Flags.{IsSet}
use Rattle.reachability.specs.Splitting.{AreThose}
use Rattle.reachability.proofs.Flags.{set_there, set_kept, set_back}

-- one flag more
pub flags_more : (xs : List ℕ) (i x : ℕ) (flags : List Bool) → i < length xs → x ≡ get_or xs i x → x < length flags
    → ((v : ℕ) → IsSet flags v ↔ Contains (take i xs) v) → (v : ℕ) → IsSet (slice_set flags x true) v ↔ Contains (take (i + 1) xs) v
flags_more xs i x flags within is low are v =
    let front : take (i + 1) xs ≡ take i xs ++ x ∷ [] = take_more xs i x within ∙ ap (λ (z : ℕ). take i xs ++ z ∷ []) (sym is) in (
      λ p. subst (λ (z : List ℕ). Contains z v) (sym front) (elim (set_back flags x v p) [
        | inl e ↦ subst (λ (z : ℕ). Contains (take i xs ++ x ∷ []) z) (sym e) (Contains-push (take i xs) x)
        | inr q ↦ Contains-append_left (take i xs) (x ∷ []) v ((are v).0 q)
      ]),
      λ inside. elim (Contains-push_cases (take i xs) x v (subst (λ (z : List ℕ). Contains z v) front inside)) [
        | inl old ↦ set_kept flags x v ((are v).1 old)
        | inr e ↦ subst (λ (z : ℕ). IsSet (slice_set flags x true) z) e (set_there flags x low)
      ],
    )

pub flags_all : (xs : List ℕ) (i : ℕ) (flags : List Bool) → length xs ≤ i → ((v : ℕ) → IsSet flags v ↔ Contains (take i xs) v) → (v : ℕ) → IsSet flags v ↔ Contains xs v
flags_all xs i flags end are = subst (λ (z : List ℕ). (v : ℕ) → IsSet flags v ↔ Contains z v) (take_all i xs end) are

-- the numbers with P, one after the other
pub no_others : (P : ℕ → Type 0) (free : ℕ) → AreThose P free free []
no_others P free = record {
  ascending = λ k w. absurd (omega (arith, w));
  is = λ v. (λ (k, w, e). absurd (omega (arith, w)), λ (a, b, p). absurd (omega (arith, a, b)));
}

module _ (P : ℕ → Type 0) (free v : ℕ) (xs : List ℕ) (are : AreThose P free v xs) where
  rises : IsStrictlyIncreasing (xs ++ v ∷ [])
  rises k w = elim (side (k + 1) (length xs)) [
    | inl l ↦
        let a : get_or (xs ++ v ∷ []) k 0 ≡ get_or xs k 0 = get_or_append_left xs (v ∷ []) 0 k (omega arith) in
        let b : get_or (xs ++ v ∷ []) (k + 1) 0 ≡ get_or xs (k + 1) 0 = get_or_append_left xs (v ∷ []) 0 (k + 1) l in
        omega (arith, a, b, are.ascending k l)
    | inr l ↦
        let size : length (xs ++ v ∷ []) ≡ length xs + 1 = length-append xs (v ∷ []) in
        let here : k < length xs = omega arith in
        let a : get_or (xs ++ v ∷ []) k 0 ≡ get_or xs k 0 = get_or_append_left xs (v ∷ []) 0 k here in
        let b : get_or (xs ++ v ∷ []) (k + 1) 0 ≡ v = get_or_push xs v 0 (k + 1) (omega arith) in
        omega (arith, a, b, ((are.is (get_or xs k 0)).0 (Contains-get_or xs k 0 here)).1)
  ]

  pub others_more : (after : List ℕ) → after ≡ xs ++ v ∷ [] → free ≤ v → P v → AreThose P free (v + 1) after
  others_more after e low p = subst (AreThose P free (v + 1)) (sym e) (record {
    ascending = rises;
    is = λ w. (
      λ inside. elim (Contains-push_cases xs v w inside) [
        | inl old ↦ let (a, b, q) = (are.is w).0 old in (a, omega (arith, b), q)
        | inr is ↦ (omega (arith, low, is), omega (arith, is), subst P is p)
      ],
      λ (a, b, q). elim (side w v) [
        | inl l ↦ Contains-append_left xs (v ∷ []) w ((are.is w).1 (a, l, q))
        | inr l ↦ let is : v ≡ w = omega (arith, b, l) in subst (λ (z : ℕ). Contains (xs ++ v ∷ []) z) is (Contains-push xs v)
      ],
    );
  })

  pub others_same : ¬ P v → AreThose P free (v + 1) xs
  others_same none = record {
    ascending = are.ascending;
    is = λ w. (
      λ inside. let (a, b, q) = (are.is w).0 inside in (a, omega (arith, b), q),
      λ (a, b, q). elim (side w v) [
        | inl l ↦ (are.is w).1 (a, l, q)
        | inr l ↦ let is : w ≡ v = omega (arith, b, l) in absurd (none (subst P is q))
      ],
    );
  }

-- those without a flag, where the flags are those of a list
pub others_are : (xs kept : List ℕ) (flags : List Bool) (first count end : ℕ) → end ≡ count → ((v : ℕ) → IsSet flags v ↔ Contains xs v)
    → AreThose (λ v. ¬ IsSet flags v) first end kept → (v : ℕ) → Contains kept v ↔ ((first ≤ v) × (v < count) × (¬ Contains xs v))
others_are xs kept flags first count end same is are v = (
  λ inside. let (a, b, n) = (are.is v).0 inside in (a, omega (arith, b, same), λ i. n ((is v).1 i)),
  λ (a, b, n). (are.is v).1 (a, omega (arith, b, same), λ p. n ((is v).0 p)),
)
