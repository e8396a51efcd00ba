-- What is read off rings, and lists with an item for each number.
use Rattle.std.proofs.Common.{◌≡◌, ℕ, zero, suc, ◌<◌, ◌≤◌, true, false, List, [], ◌∷◌, ◌++◌, length, get_or, refl, ◌∙◌, ap, inl, inr, arith}
use Rattle.std.specs.Prelude.{Option, Some, None}
use Rattle.std.specs.List.{AllByRecursion}
use Rattle.std.proofs.lemmas.Bool.{cases_eq, ne_eqb, eq-eqb}
use Rattle.std.proofs.lemmas.List.{get_or_append_left, get_or_push, length_push}
use Rattle.index_lists.specs.Rings.{Way, there, on, IsRound, IsInside}
use Rattle.index_lists.proofs.Rounds.{length-round, way_within}
use lib.Dec.{eqb}
use Rattle.term_graph.specs.declared.parts.Mention.{Mention}
use Rattle.term_graph.specs.Contents.{each}
use Rattle.term_graph.specs.Fields.{behind, round_of, noted, used}

pub behind_is : (next : List ℕ) (stop : ℕ) {c : ℕ} {xs : List ℕ} → Way next stop c xs → (n : ℕ) → length xs ≤ n → behind n next stop c ≡ xs
behind_is next stop there zero l = refl
behind_is next stop there (suc n) l = let e : eqb stop stop ≡ true = eq-eqb stop stop refl in rw e refl
behind_is next stop (on k p) zero l = absurd (omega arith)
behind_is next stop (on {c = c} k p) (suc n) l = let e : eqb c stop ≡ false = ne_eqb c stop k in rw e (ap (λ ys. c ∷ ys) (behind_is next stop p n (omega arith)))

-- what following a ring reads
pub round_is : (next : List ℕ) (c : ℕ) (xs : List ℕ) → IsInside next → c < length next → IsRound next c xs → round_of next c ≡ xs
round_is next c xs inside l p = behind_is next c p.way (length next) (length-round next c (get_or next c 0) xs inside (inside c l) p.way)

pub round_within : (next : List ℕ) (c : ℕ) (xs : List ℕ) → IsInside next → c < length next → IsRound next c xs → AllByRecursion (λ x. x < length next) xs
round_within next c xs inside l p = way_within next inside p.way (inside c l)

-- the terms among cells
pub used_both : (ms : List (Option Mention)) (xs ys : List ℕ) → used ms (xs ++ ys) ≡ used ms xs ++ used ms ys
used_both ms [] ys = refl
used_both ms (x ∷ xs) ys = ap (noted (get_or ms x None)) (used_both ms xs ys) ∙ noted_both (get_or ms x None) (used ms xs) (used ms ys)
  where
    noted_both : (m : Option Mention) (ts us : List ℕ) → noted m (ts ++ us) ≡ noted m ts ++ us
    noted_both None ts us = refl
    noted_both (Some m) ts us = refl

pub used_more : (ms ns : List (Option Mention)) (xs : List ℕ) → AllByRecursion (λ x. x < length ms) xs → used (ms ++ ns) xs ≡ used ms xs
used_more ms ns [] h = refl
used_more ms ns (x ∷ xs) h = let e : get_or (ms ++ ns) x None ≡ get_or ms x None = get_or_append_left ms ns None x h.0 in rw (e, used_more ms ns xs h.1) refl

-- f at each number
module _ {X : Type 0} where
  pub length-each : (n : ℕ) (f : ℕ → X) → length (each n f) ≡ n
  length-each zero f = refl
  length-each (suc n) f = let a = length_push (each n f) (f n) in let b = length-each n f in omega arith

  pub each-at : (n : ℕ) (f : ℕ → X) (i : ℕ) (d : X) → i < n → get_or (each n f) i d ≡ f i
  each-at zero f i d l = absurd (omega arith)
  each-at (suc n) f i d l = elim (cases_eq i n) [
    | inl e ↦ rw e (get_or_push (each n f) (f n) d n (length-each n f))
    | inr k ↦ (let j : i < n = omega (arith, k) in let m : i < length (each n f) = rw length-each j in get_or_append_left (each n f) (f n ∷ []) d i m ∙ each-at n f i d j)
  ]

  pub each-same : (n : ℕ) (f g : ℕ → X) → ((i : ℕ) → i < n → f i ≡ g i) → each n f ≡ each n g
  each-same zero f g h = refl
  each-same (suc n) f g h =
      let a : each n f ≡ each n g = each-same n f g (λ i l. h i (omega arith)) in
      let b : f n ≡ g n = h n (omega arith) in
      rw (a, b) refl

  pub push-same : (xs ys : List X) (x y : X) → xs ≡ ys → x ≡ y → xs ++ x ∷ [] ≡ ys ++ y ∷ []
  push-same xs ys x y p q = rw (p, q) refl
