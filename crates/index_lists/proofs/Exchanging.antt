-- What an exchange of two links leaves.
use Rattle.std.proofs.Common.{◌≡◌, ◌≢◌, ℕ, ◌<◌, ◌+◌, List, length, take, get_or, set, sym, ◌∙◌, ap, map, inl, inr, arith, get_or-set_same, get_or-set_other, length-set, length-take-le}
use Rattle.std.proofs.lemmas.List.{same_lists, get_or_default, set-get_or, map-set, get_or-map, get_or-take}
use Rattle.std.proofs.lemmas.Bool.{cases_eq}
use Rattle.index_lists.specs.Rings.{exchanged}
use Rattle.index_lists.specs.Links.{ArePaired}

pub length-exchanged : (a b : ℕ) (next : List ℕ) → length (exchanged a b next) ≡ length next
unfolding exchanged
length-exchanged a b next = length-set (set next a (get_or next b 0)) b (get_or next a 0) ∙ length-set next a (get_or next b 0)

-- the two, and any other
pub exchanged-at_b : (a b : ℕ) (next : List ℕ) → b < length next → get_or (exchanged a b next) b 0 ≡ get_or next a 0
unfolding exchanged
exchanged-at_b a b next h = get_or-set_same (set next a (get_or next b 0)) b (get_or next a 0) 0 (rw length-set h)

pub exchanged-at_a : (a b : ℕ) (next : List ℕ) → a < length next → get_or (exchanged a b next) a 0 ≡ get_or next b 0
unfolding exchanged
exchanged-at_a a b next h = elim (cases_eq a b) [
  | inl e ↦ rw (← e) (get_or-set_same (set next a (get_or next a 0)) a (get_or next a 0) 0 (rw length-set h))
  | inr n ↦ get_or-set_other (set next a (get_or next b 0)) b a (get_or next a 0) 0 n ∙ get_or-set_same next a (get_or next b 0) 0 h
]

pub exchanged-other : (a b : ℕ) (next : List ℕ) (i : ℕ) → i ≢ a → i ≢ b → get_or (exchanged a b next) i 0 ≡ get_or next i 0
unfolding exchanged
exchanged-other a b next i p q = get_or-set_other (set next a (get_or next b 0)) b i (get_or next a 0) 0 q ∙ get_or-set_other next a i (get_or next b 0) 0 p

-- exchanging twice is nothing
pub exchanged-twice : (a b : ℕ) (next : List ℕ) → a < length next → b < length next → exchanged a b (exchanged a b next) ≡ next
exchanged-twice a b next p q =
    same_lists (exchanged a b (exchanged a b next)) next (length-exchanged a b (exchanged a b next) ∙ length-exchanged a b next)
    (λ k d h.
    let h₁ : k < length (exchanged a b next) = rw (← length-exchanged a b (exchanged a b next)) h in
    let h₂ : k < length next = rw (← length-exchanged a b next) h₁ in
    let a₁ : a < length (exchanged a b next) = rw length-exchanged p in
    let b₁ : b < length (exchanged a b next) = rw length-exchanged q in
    get_or_default (exchanged a b (exchanged a b next)) k d 0 h ∙ elim (cases_eq k b) [
      | inl e ↦ rw e (exchanged-at_b a b (exchanged a b next) b₁ ∙ exchanged-at_a a b next p)
      | inr n ↦ elim (cases_eq k a) [
        | inl e ↦ rw e (exchanged-at_a a b (exchanged a b next) a₁ ∙ exchanged-at_b a b next q)
        | inr m ↦ exchanged-other a b (exchanged a b next) k m n ∙ exchanged-other a b next k m n
      ]
    ]
    ∙ get_or_default next k 0 d h₂)

-- the links stay paired
module _ (a b : ℕ) (next previous : List ℕ) (p : a < length next) (q : b < length next) (h : ArePaired next previous) where
  -- two cells with one next are one
  next_once : (i j : ℕ) → i < length next → j < length next → get_or next i 0 ≡ get_or next j 0 → i ≡ j
  next_once i j s t e = sym (h.forth i s).1 ∙ ap (λ n. get_or previous n 0) e ∙ (h.forth j t).1

  previous' : List ℕ
  previous' = set (set previous (get_or next b 0) a) (get_or next a 0) b

  previous-last : get_or previous' (get_or next a 0) 0 ≡ b
  unfolding previous'
  previous-last = let l : get_or next a 0 < length previous = rw (← h.same) (h.forth a p).0 in
      get_or-set_same (set previous (get_or next b 0) a) (get_or next a 0) b 0 (rw length-set l)

  previous-first : get_or next b 0 ≢ get_or next a 0 → get_or previous' (get_or next b 0) 0 ≡ a
  unfolding previous'
  previous-first n = let l : get_or next b 0 < length previous = rw (← h.same) (h.forth b q).0 in
      get_or-set_other (set previous (get_or next b 0) a) (get_or next a 0) (get_or next b 0) b 0 n ∙ get_or-set_same previous (get_or next b 0) a 0 l

  previous-other : (k : ℕ) → k ≢ get_or next a 0 → k ≢ get_or next b 0 → get_or previous' k 0 ≡ get_or previous k 0
  unfolding previous'
  previous-other k n m = get_or-set_other (set previous (get_or next b 0) a) (get_or next a 0) k b 0 n ∙ get_or-set_other previous (get_or next b 0) k a 0 m

  forth : (i : ℕ) → i < length next → (get_or (exchanged a b next) i 0 < length next) × (get_or previous' (get_or (exchanged a b next) i 0) 0 ≡ i)
  forth i l = elim (cases_eq i b) [
    | inl e ↦ rw (e, exchanged-at_b a b next q) ((h.forth a p).0, previous-last)
    | inr n ↦ elim (cases_eq i a) [
      | inl e ↦ rw (e, exchanged-at_a a b next p) ((h.forth b q).0, previous-first (λ f. n (e ∙ sym (next_once b a q p f))))
      | inr m ↦ rw (exchanged-other a b next i m n) ((h.forth i l).0, previous-other (get_or next i 0) (λ f. m (next_once i a l p f)) (λ f. n (next_once i b l q f)) ∙ (h.forth i l).1)
    ]
  ]

  back : (k : ℕ) → k < length next → (get_or previous' k 0 < length next) × (get_or (exchanged a b next) (get_or previous' k 0) 0 ≡ k)
  back k l = elim (cases_eq k (get_or next a 0)) [
    | inl e ↦ rw (e, previous-last) (q, exchanged-at_b a b next q)
    | inr n ↦ elim (cases_eq k (get_or next b 0)) [
      | inl e ↦ rw (e, previous-first (λ f. n (e ∙ f))) (p, exchanged-at_a a b next p)
      | inr m ↦ rw (previous-other k n m) ((h.back k l).0, exchanged-other a b next (get_or previous k 0) (λ f. n (sym (h.back k l).1 ∙ ap (λ v. get_or next v 0) f)) (λ f. m (sym (h.back k l).1 ∙ ap (λ v. get_or next v 0) f)) ∙ (h.back k l).1)
    ]
  ]

  same_lengths : length (exchanged a b next) ≡ length previous'
  unfolding previous'
  same_lengths = length-exchanged a b next ∙ h.same ∙ sym (length-set (set previous (get_or next b 0) a) (get_or next a 0) b ∙ length-set previous (get_or next b 0) a)

  exchanged_paired : ArePaired (exchanged a b next) previous'
  exchanged_paired = record {
    same = same_lengths;
    forth = λ i l. rw length-exchanged (forth i (rw (← length-exchanged a b next) l));
    back = λ i l. rw length-exchanged (back i (rw (← length-exchanged a b next) l));
  }

  pub exchanged-paired : ArePaired (exchanged a b next) (set (set previous (get_or next b 0) a) (get_or next a 0) b)
  unfolding previous'
  exchanged-paired = exchanged_paired

-- a field that a write keeps
pub map-set_kept : {X : Type 0} (f : X → ℕ) (xs : List X) (i : ℕ) (x y : X) → i < length xs → x ≡ get_or xs i x → f y ≡ f x → map f (set xs i y) ≡ map f xs
map-set_kept f xs i x y l e k =
    map-set f xs i y ∙ ap (λ v. set (map f xs) i v) (k ∙ ap f e ∙ sym (get_or-map f xs i x 0 l)) ∙ set-get_or (map f xs) i 0

-- the last cell taken away, which is alone
module _ (m : ℕ) (next previous : List ℕ) (e : length next ≡ m + 1) (alone : get_or next m 0 ≡ m) (h : ArePaired next previous) where
  length-shorter : length (take m next) ≡ m
  length-shorter = length-take-le m next (omega arith)

  length-shorter_previous : length (take m previous) ≡ m
  length-shorter_previous = length-take-le m previous (omega (arith, h.same))

  previous_alone : get_or previous m 0 ≡ m
  previous_alone = sym (ap (λ k. get_or previous k 0) alone) ∙ (h.forth m (omega arith)).1

  forth_shorter : (i : ℕ) → i < m → (get_or (take m next) i 0 < m) × (get_or (take m previous) (get_or (take m next) i 0) 0 ≡ i)
  forth_shorter i l =
      let f = h.forth i (omega arith) in
      let f0 = f.0 in
      let n : get_or next i 0 ≢ m = λ g. (let k : i ≡ m = sym f.1 ∙ ap (λ v. get_or previous v 0) g ∙ previous_alone in omega arith) in
      let s : get_or next i 0 < m = omega (arith, n, f0) in
      rw (get_or-take m next i 0 l) (s, get_or-take m previous (get_or next i 0) 0 s ∙ f.1)

  back_shorter : (i : ℕ) → i < m → (get_or (take m previous) i 0 < m) × (get_or (take m next) (get_or (take m previous) i 0) 0 ≡ i)
  back_shorter i l =
      let f = h.back i (omega arith) in
      let f0 = f.0 in
      let n : get_or previous i 0 ≢ m = λ g. (let k : i ≡ m = sym f.1 ∙ ap (λ v. get_or next v 0) g ∙ alone in omega arith) in
      let s : get_or previous i 0 < m = omega (arith, n, f0) in
      rw (get_or-take m previous i 0 l) (s, get_or-take m next (get_or previous i 0) 0 s ∙ f.1)

  pub taken-paired : ArePaired (take m next) (take m previous)
  taken-paired = record {
    same = length-shorter ∙ sym length-shorter_previous;
    forth = λ i l. rw length-shorter (forth_shorter i (rw (← length-shorter) l));
    back = λ i l. rw length-shorter (back_shorter i (rw (← length-shorter) l));
  }
