-- What is met, and at which place.
use Rattle.std.proofs.Common.{◌≡◌, ◌==◌, ℕ, zero, suc, ◌<◌, ◌≤◌, List, [], ◌∷◌, ◌++◌, length, map, refl, sym, ap, subst, ◌∙◌, inl, inr, append_assoc, arith, length-append}
use Rattle.std.specs.Prelude.{All, Contains, slice_index, slice_set}
use Rattle.std.proofs.lemmas.Bool.{eqb-true, eq-eqb}
use Rattle.std.proofs.lemmas.List.{append-nil, map-append, get_or_append_left, length-set, get_or-set_same, get_or-set_other}
use Rattle.std.proofs.lemmas.List.Elements.{All-nil, All-cons, All-head, All-tail, All-append, All-weaker}
use Rattle.formula_ast.specs.Collecting.{Collects}
use Rattle.formula_ast.specs.Occurrences.{without}
use Rattle.formula_ast.proofs.Standing.{Has, contained}
use Rattle.formula_ast.proofs.Collected.{collects_none, collects_then, collects_known, collects_new}
use Rattle.flat_form.specs.Orders.{place_of}
use Rattle.numbering.proofs.Numbers.{lt_or_le, place_low, place_at, place_here, place_not_before, item_in, item_kept, item_last}
use Rattle.witness_trees.specs.Meeting.{AreMet, Grows, AreEntered}
use Rattle.witness_trees.proofs.Occurring.{OnePlace, has_kept, without_one_place, any_default}
use Rattle.witness_trees.proofs.Taken.{loses_one}
use Rattle.witness_trees.proofs.Terms.{any_in, none_in}

module _ (order places : List ℕ) (v : ℕ) (met : AreMet order places) where
  -- v stands where the table says, or nowhere
  pub noted : Contains order v → place_of order v ≡ slice_index places v
  noted there =
      let low = place_low order v there in
      sym (met.back (place_of order v) low) ∙ ap (λ u. slice_index places u) (place_at order v low)

  pub found : (place : ℕ) → place ≡ slice_index places v → place < length order → slice_index order place ≡ v → Contains order v × (place ≡ place_of order v)
  found place read low is =
      let there : Contains order v = subst (Contains order) is (item_in order place low) in
      (there, read ∙ sym (noted there))

  pub past : (place : ℕ) → place ≡ slice_index places v → length order ≤ place → ¬ Contains order v
  past place read le = λ there. omega (arith, read, noted there, place_low order v there)

  pub other : (place : ℕ) → place ≡ slice_index places v → ¬ (slice_index order place ≡ v) → ¬ Contains order v
  other place read differ = λ there.
      differ (ap (λ k. slice_index order k) (read ∙ sym (noted there)) ∙ place_at order v (place_low order v there))

-- ---- places stay

still_met : (old new : List ℕ) (v : ℕ) → Grows old new → Contains old v → Contains new v
still_met old new v (more, e) (k, low, is) =
    subst (λ (l : List ℕ). Contains l v) (sym e) (k, omega (arith, low, length-append old more), get_or_append_left old more v k low ∙ is)

pub place_stays : (old new : List ℕ) (v : ℕ) → Grows old new → Contains old v → place_of new v ≡ place_of old v
place_stays old new v (more, e) there =
    let low = place_low old v there in
    let front : (i : ℕ) → i < length old → slice_index (old ++ more) i ≡ slice_index old i = λ i w. get_or_append_left old more 0 i w in
    ap (λ l. place_of l v) e
    ∙ place_here (old ++ more) v (place_of old v) (omega (arith, low, length-append old more)) (front (place_of old v) low ∙ place_at old v low)
    (λ i l is. place_not_before old v i l (sym (front i (omega (arith, l, low))) ∙ is))

pub places_stay : (old new xs : List ℕ) → Grows old new → All (Contains old) xs → map (place_of new) xs ≡ map (place_of old) xs
places_stay old new [] grows all = refl
places_stay old new (x ∷ xs) grows all =
    ap (λ k. k ∷ map (place_of new) xs) (place_stays old new x grows (All-head (Contains old) x xs all))
    ∙ ap (λ l. place_of old x ∷ l) (places_stay old new xs grows (All-tail (Contains old) x xs all))

pub all_still_met : (old new xs : List ℕ) → Grows old new → All (Contains old) xs → All (Contains new) xs
all_still_met old new xs grows all = All-weaker (Contains old) (Contains new) (λ v. still_met old new v grows) xs all

-- ---- entering

pub none_entered : (order : List ℕ) → AreEntered order order [] []
none_entered order = record {
  collects = collects_none order;
  grows = ([], sym (append-nil order));
  met = All-nil (Contains order);
  places_are = refl;
}

grows_then : (a b c : List ℕ) → Grows a b → Grows b c → Grows a c
grows_then a b c (more, e) (rest, f) = (more ++ rest, f ∙ ap (λ l. l ++ rest) e ∙ append_assoc a more rest)

-- one after the other
pub entered_then : (a b c xs ys ps qs : List ℕ) → AreEntered a b xs ps → AreEntered b c ys qs → AreEntered a c (xs ++ ys) (ps ++ qs)
entered_then a b c xs ys ps qs first second = record {
  collects = collects_then first.collects second.collects;
  grows = grows_then a b c first.grows second.grows;
  met = All-append (Contains c) xs ys (all_still_met b c xs second.grows first.met) second.met;
  places_are = ap (λ l. l ++ qs) (first.places_are ∙ sym (places_stay b c xs second.grows first.met)) ∙ ap (λ l. map (place_of c) xs ++ l) second.places_are
      ∙ sym (map-append (place_of c) xs ys);
}

-- what was met
pub known_entered : (order : List ℕ) (v place : ℕ) → Contains order v × (place ≡ place_of order v) → AreEntered order order (v ∷ []) (place ∷ [])
known_entered order v place (there, is) = record {
  collects = collects_known order v (any_in (λ y. y == v) order v there (eq-eqb v v refl));
  grows = ([], sym (append-nil order));
  met = All-cons (Contains order) v [] there (All-nil (Contains order));
  places_are = ap (λ k. k ∷ []) is;
}

-- what is new
behind_entered : (order longer : List ℕ) (v : ℕ) → ¬ Contains order v → longer ≡ order ++ v ∷ [] → length order < length longer
    → slice_index longer (length order) ≡ v → AreEntered order longer (v ∷ []) (length order ∷ [])
behind_entered order longer v none grown low last = record {
  collects = subst (λ (l : List ℕ). Collects order l (v ∷ [])) (sym grown)
      (collects_new order v (none_in (λ y. y == v) order (λ y c t. none (subst (Contains order) (eqb-true y v t) c))));
  grows = (v ∷ [], grown);
  met = All-cons (Contains longer) v [] (length order, low, any_default longer (length order) v 0 low ∙ last) (All-nil (Contains longer));
  places_are = ap (λ k. k ∷ []) (sym (place_here longer v (length order) low last
      (λ i w is. none (subst (Contains order) (sym (ap (λ l. slice_index l i) grown ∙ item_kept order v i w) ∙ is) (item_in order i w)))));
}

pub new_entered : (order longer : List ℕ) (v : ℕ) → ¬ Contains order v → longer ≡ order ++ v ∷ [] → AreEntered order longer (v ∷ []) (length order ∷ [])
new_entered order longer v none grown =
    behind_entered order longer v none grown (omega (arith, ap length grown, length-append order (v ∷ []))) (ap (λ l. slice_index l (length order)) grown ∙ item_last order v)

-- ---- the table

pub met_more : (order places : List ℕ) (v : ℕ) → AreMet order places → v < length places → ¬ Contains order v
    → AreMet (order ++ v ∷ []) (slice_set places v (length order))
met_more order places v met low none = record { within = within; back = back }
  where
    size : length (slice_set places v (length order)) ≡ length places
    size = length-set places v (length order)

    last : (k : ℕ) → k < length (order ++ v ∷ []) → length order ≤ k → slice_index (order ++ v ∷ []) k ≡ v
    last k w past =
        let same : k ≡ length order = omega (arith, w, past, length-append order (v ∷ [])) in
        ap (λ n. slice_index (order ++ v ∷ []) n) same ∙ item_last order v

    within : (k : ℕ) → k < length (order ++ v ∷ []) → slice_index (order ++ v ∷ []) k < length (slice_set places v (length order))
    within k w = elim (lt_or_le k (length order)) [
      | inl old ↦ omega (arith, size, item_kept order v k old, met.within k old)
      | inr past ↦ omega (arith, size, last k w past)
    ]

    back : (k : ℕ) → k < length (order ++ v ∷ []) → slice_index (slice_set places v (length order)) (slice_index (order ++ v ∷ []) k) ≡ k
    back k w = elim (lt_or_le k (length order)) [
      | inl old ↦
          ap (λ u. slice_index (slice_set places v (length order)) u) (item_kept order v k old)
          ∙ get_or-set_other places v (slice_index order k) (length order) 0 (λ is. none (subst (Contains order) is (item_in order k old)))
          ∙ met.back k old
      | inr past ↦
          let same : length order ≡ k = omega (arith, w, past, length-append order (v ∷ [])) in
          ap (λ u. slice_index (slice_set places v (length order)) u) (last k w past) ∙ get_or-set_same places v (length order) 0 low ∙ same
    ]

-- no more are met than there are
few : (n : ℕ) (xs : List ℕ) → OnePlace xs → ((v : ℕ) → Has v xs → v < n) → length xs ≤ n
few zero [] one low = omega arith
few zero (x ∷ xs) one low = absurd (omega (arith, low x (inl refl)))
few (suc n) xs one low =
    let rest = few n (without n xs) (without_one_place n xs one) (λ v h. let k = has_kept n v xs h in below v (k.0) (low v k.1)) in
    omega (arith, loses_one n xs one, rest)
  where
    below : (v : ℕ) → ¬ (n ≡ v) → v < suc n → v < n
    below v differ w = elim (lt_or_le v n) [ inl less ↦ less | inr le ↦ absurd (differ (omega (arith, w, le))) ]

one_from : (xs : List ℕ) → ((i j : ℕ) → i < length xs → j < length xs → slice_index xs i ≡ slice_index xs j → i ≡ j) → OnePlace xs
unfolding OnePlace
one_from [] apart = tt
one_from (x ∷ xs) apart = (
  λ h. let (k, w, is) = contained x xs h in absurd (omega (arith, apart 0 (suc k) (omega arith) (omega (arith, w)) (sym (any_default xs k 0 x w ∙ is)))),
  one_from xs (λ i j w u e. omega (arith, apart (suc i) (suc j) (omega (arith, w)) (omega (arith, u)) e)),
)

pub met_most : (order places : List ℕ) → AreMet order places → length order ≤ length places
met_most order places met =
    few (length places) order
    (one_from order (λ i j w u e. sym (met.back i w) ∙ ap (λ v. slice_index places v) e ∙ met.back j u))
    (λ v h. let (k, w, is) = contained v order h in omega (arith, met.within k w, any_default order k 0 v w, is))
