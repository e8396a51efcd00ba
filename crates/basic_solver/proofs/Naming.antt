-- What joining two classes does to their names.
use Rattle.std.proofs.Common.{ℕ, zero, suc, ◌≡◌, ◌<◌, ◌≤◌, ◌+◌, Bool, true, false, List, [], ◌∷◌, map, length, refl, sym, ap, ◌∙◌, subst, arith, inl, inr, ◌⊎◌, cond, eqb, get_or}
use Rattle.std.specs.Prelude.{slice_index, MatchBool, sum_by}
use Rattle.std.proofs.lemmas.List.{get_or-map, get_or_past, length-map, get_or_default}
use Rattle.std.proofs.lemmas.List.Sums.{sum_by-cons}
use Rattle.std.proofs.lemmas.Bool.Decides.{eqb_tells, when_true, when_false}
use Rattle.flat_form.specs.declared.atom.Flat.{Flat}
use Rattle.flat_form.specs.Classes.{Class, turned, joined}
use Rattle.basic_solver.specs.Names.{name_in, rank, IsNaming, IsSound, weight, renamed}
use Rattle.basic_solver.proofs.Renaming.{named_low}

pub lt_or_le : (m n : ℕ) → (m < n) ⊎ (n ≤ m)
lt_or_le m n = grind arith

-- each variable is its own name
pub all_own : (names : List ℕ) (n : ℕ) → length names ≡ n → ((k : ℕ) → k < n → slice_index names k ≡ k) → (v : ℕ) → name_in names v ≡ v
all_own names n size own v = elim (lt_or_le v (length names)) [
  | inl w ↦ get_or_default names v v 0 w ∙ own v (omega (arith, size))
  | inr w ↦ get_or_past names v v w
]

-- what was read in the table is the name
pub read_name : (names : List ℕ) (v x : ℕ) → v < length names → x ≡ get_or names v x → x ≡ name_in names v
read_name names v x w e = e ∙ get_or_default names v x v w

rank_when : (b : Bool) (n v : ℕ) → (b ≡ true) × (cond b v (n + v) ≡ v) ⊎ (cond b v (n + v) ≡ n + v)
rank_when true n v = inl (refl, refl)
rank_when false n v = inr refl

leads_within : (leads : List Bool) (v : ℕ) → get_or leads v false ≡ true → v < length leads
leads_within [] v e = cc
leads_within (x ∷ xs) zero e = omega arith
leads_within (x ∷ xs) (suc v) e = omega (arith, leads_within xs v e)

pub rank_cases : (leads : List Bool) (v : ℕ) → (rank leads v ≡ v) × (v < length leads) ⊎ (rank leads v ≡ length leads + v)
rank_cases leads v = elim (rank_when (get_or leads v false) (length leads) v) [
  | inl h ↦ inl (h.1, leads_within leads v h.0)
  | inr e ↦ inr e
]

-- variables that come at the same place are one
pub rank_apart : (leads : List Bool) (u v : ℕ) → u < length leads → v < length leads → rank leads u ≡ rank leads v → u ≡ v
rank_apart leads u v wu wv e = elim (rank_cases leads u) [
  | inl (a, l) ↦ elim (rank_cases leads v) [ inl (b, m) ↦ omega arith | inr b ↦ omega arith ]
  | inr a ↦ elim (rank_cases leads v) [ inl (b, m) ↦ omega arith | inr b ↦ omega arith ]
]

sum_le : (g f : ℕ → ℕ) (xs : List ℕ) → ((x : ℕ) → g (f x) ≤ g x) → sum_by g (map f xs) ≤ sum_by g xs
sum_le g f [] h = omega arith
sum_le g f (x ∷ xs) h = omega (arith, sum_by-cons g (f x) (map f xs), sum_by-cons g x xs, sum_le g f xs h, h x)

sum_fall : (g f : ℕ → ℕ) (xs : List ℕ) (i : ℕ) → i < length xs → ((x : ℕ) → g (f x) ≤ g x) → g (f (get_or xs i 0)) < g (get_or xs i 0)
    → sum_by g (map f xs) < sum_by g xs
sum_fall g f [] i w h s = absurd (omega arith)
sum_fall g f (x ∷ xs) zero w h s = omega (arith, sum_by-cons g (f x) (map f xs), sum_by-cons g x xs, sum_le g f xs h, s)
sum_fall g f (x ∷ xs) (suc i) w h s = omega (arith, sum_by-cons g (f x) (map f xs), sum_by-cons g x xs, sum_fall g f xs i (omega arith) h s, h x)

other_name : (high low x : ℕ) → (cond (eqb x high) low x ≡ low) × (x ≡ high) ⊎ (cond (eqb x high) low x ≡ x) × (¬ (x ≡ high))
other_name high low x = elim (eqb_tells x high) [ inl h ↦ inl (rw h.0 refl, h.1) | inr h ↦ inr (rw h.0 refl, h.1) ]

module _ (leads : List Bool) (names : List ℕ) (naming : IsNaming leads names) where
  pub name_low : (v : ℕ) → v < length leads → name_in names v < length leads
  name_low v w = elim (rank_cases leads (name_in names v)) [
    | inl (e, l) ↦ l
    | inr e ↦ elim (rank_cases leads v) [ inl (f, l) ↦ omega (arith, naming.low v, e, f) | inr f ↦ omega (arith, naming.low v, e, f) ]
  ]

  module _ (a b : ℕ) (wa : a < length leads) (wb : b < length leads) (high low : ℕ) (eh : high ≡ name_in names a) (el : low ≡ name_in names b)
      (less : rank leads low < rank leads high) where
    read : (v : ℕ) → (name_in (renamed high low names) v ≡ low) × (name_in names v ≡ high) ⊎ (name_in (renamed high low names) v ≡ name_in names v) × (¬ (name_in names v ≡ high))
    read v = elim (lt_or_le v (length names)) [
      | inl w ↦
          let e : name_in (renamed high low names) v ≡ cond (eqb (name_in names v) high) low (name_in names v) = get_or-map (λ r. cond (eqb r high) low r) names v v v w in
          elim (other_name high low (name_in names v)) [ inl h ↦ inl (e ∙ h.0, h.1) | inr h ↦ inr (e ∙ h.0, h.1) ]
      | inr w ↦
          let old : name_in names v ≡ v = get_or_past names v v w in
          let new : name_in (renamed high low names) v ≡ v = get_or_past (renamed high low names) v v (omega (arith, length-map names (λ r. cond (eqb r high) low r), w)) in
          inr (new ∙ sym old, λ e. omega (arith, old, e, eh, name_low a wa, naming.size, w))
    ]

    rank_moves : (x : ℕ) → rank leads (cond (eqb x high) low x) ≤ rank leads x
    rank_moves x = elim (other_name high low x) [
      | inl h ↦ omega (arith, ap (rank leads) h.0, ap (rank leads) h.1, less)
      | inr h ↦ omega (arith, ap (rank leads) h.0)
    ]

    own_high : get_or names a 0 ≡ high
    own_high = get_or_default names a 0 a (omega (arith, naming.size, wa)) ∙ sym eh

    pub weight_falls : weight leads (renamed high low names) < weight leads names
    weight_falls = sum_fall (rank leads) (λ r. cond (eqb r high) low r) names a (omega (arith, naming.size, wa)) rank_moves
        (omega (arith, ap (rank leads) own_high, ap (λ z. rank leads (cond (eqb z high) low z)) own_high, ap (rank leads) (named_low high low high refl), less))

    lower : (v : ℕ) → rank leads (name_in (renamed high low names) v) ≤ rank leads v
    lower v = elim (read v) [
      | inl h ↦ omega (arith, ap (rank leads) h.0, ap (rank leads) h.1, less, naming.low v)
      | inr h ↦ omega (arith, ap (rank leads) h.0, naming.low v)
    ]

    low_own : name_in (renamed high low names) low ≡ low
    low_own = elim (read low) [
      | inl h ↦ h.0
      | inr h ↦ h.0 ∙ ap (name_in names) el ∙ naming.itself b ∙ sym el
    ]

    again : (v : ℕ) → name_in (renamed high low names) (name_in (renamed high low names) v) ≡ name_in (renamed high low names) v
    again v = elim (read v) [
      | inl h ↦ ap (name_in (renamed high low names)) h.0 ∙ low_own ∙ sym h.0
      | inr h ↦ ap (name_in (renamed high low names)) h.0 ∙ elim (read (name_in names v)) [
        | inl k ↦ absurd (h.1 (sym (naming.itself v) ∙ k.1))
        | inr k ↦ k.0 ∙ naming.itself v
      ] ∙ sym h.0
    ]

    pub naming_kept : IsNaming leads (renamed high low names)
    naming_kept = record { size = length-map names (λ r. cond (eqb r high) low r) ∙ naming.size; low = lower; itself = again }

    pub sound_kept : (atoms : List Flat) → Class atoms a b → IsSound atoms names → IsSound atoms (renamed high low names)
    sound_kept atoms one sound v = elim (read v) [
      | inl h ↦
          let P : ℕ → Type 0 = λ z. Class atoms v z in
          let Q : ℕ → Type 0 = λ z. Class atoms a z in
          let R : ℕ → Type 0 = λ z. Class atoms b z in
          subst P (sym h.0) (joined (subst P h.1 (sound v)) (joined (turned (subst Q (sym eh) (sound a))) (joined one (subst R (sym el) (sound b)))))
      | inr h ↦ let P : ℕ → Type 0 = λ z. Class atoms v z in subst P (sym h.0) (sound v)
    ]

-- a run that changed something, followed by one that did too
pub told_then : (leads : List Bool) (old mid new : List ℕ) (changed : Bool) (Q : Type 0)
    → MatchBool changed (weight leads mid < weight leads old) ((mid ≡ old) × Q) → weight leads new < weight leads mid → weight leads new < weight leads old
told_then leads old mid new true Q h less = omega (arith, h, less)
told_then leads old mid new false Q h less = omega (arith, ap (weight leads) h.0, less)

-- a run that is followed by one that changed nothing
pub told_else : (leads : List Bool) (old mid new : List ℕ) (changed : Bool) (Q R : Type 0)
    → MatchBool changed (weight leads mid < weight leads old) ((mid ≡ old) × Q) → new ≡ mid → (mid ≡ old → Q → R)
    → MatchBool changed (weight leads new < weight leads old) ((new ≡ old) × R)
told_else leads old mid new true Q R h same more = omega (arith, ap (weight leads) same, h)
told_else leads old mid new false Q R h same more = (same ∙ h.0, more h.0 h.1)

-- a run, then a call that tells whether it changed something, as `if call() { changed = true; }` notes it
pub told_step : (leads : List Bool) (old mid new : List ℕ) (c d r : Bool) (Q P R : Type 0)
    → MatchBool c (weight leads mid < weight leads old) ((mid ≡ old) × Q)
    → MatchBool d (weight leads new < weight leads mid) ((new ≡ mid) × P)
    → (d ≡ true) × (r ≡ true) ⊎ (d ≡ false) × (r ≡ c)
    → (mid ≡ old → Q → P → R)
    → MatchBool r (weight leads new < weight leads old) ((new ≡ old) × R)
told_step leads old mid new c d r Q P R h k (inl e) more =
    let less : weight leads new < weight leads mid = when_true (weight leads new < weight leads mid) ((new ≡ mid) × P) e.0 k in
    subst (λ (z : Bool). MatchBool z (weight leads new < weight leads old) ((new ≡ old) × R)) (sym e.1) (told_then leads old mid new c Q h less)
told_step leads old mid new c d r Q P R h k (inr e) more =
    let same : (new ≡ mid) × P = when_false (weight leads new < weight leads mid) ((new ≡ mid) × P) e.0 k in
    subst (λ (z : Bool). MatchBool z (weight leads new < weight leads old) ((new ≡ old) × R)) (sym e.1)
    (told_else leads old mid new c Q R h same.0 (λ f q. more f q same.1))

pub told_weaker : (c : Bool) (L E Q R : Type 0) → MatchBool c L (E × Q) → (Q → R) → MatchBool c L (E × R)
told_weaker true L E Q R h f = h
told_weaker false L E Q R h f = (h.0, f h.1)

-- the same names up to place i
abbrev pub AlikeBelow : List ℕ → List ℕ → List ℕ → ℕ → Type 0
AlikeBelow names xs ys i = (k : ℕ) → k < i → name_in names (slice_index xs k) ≡ name_in names (slice_index ys k)

pub alike_more : (old mid xs ys : List ℕ) (i a b : ℕ) → a ≡ slice_index xs i → b ≡ slice_index ys i → mid ≡ old → AlikeBelow old xs ys i → name_in mid a ≡ name_in mid b
    → AlikeBelow old xs ys (i + 1)
alike_more old mid xs ys i a b ea eb same below here k w = elim (lt_or_le k i) [
  | inl l ↦ below k l
  | inr l ↦
      let e : k ≡ i = omega arith in
      let P : List ℕ → Type 0 = λ z. name_in z a ≡ name_in z b in
      let there : name_in old a ≡ name_in old b = subst P same here in
      let at : name_in old (slice_index xs i) ≡ name_in old (slice_index ys i) = ap (name_in old) (sym ea) ∙ there ∙ ap (name_in old) eb in
      subst (λ (z : ℕ). name_in old (slice_index xs z) ≡ name_in old (slice_index ys z)) (sym e) at
]

pub class_at : (atoms : List Flat) (a b x y : ℕ) → a ≡ x → b ≡ y → Class atoms x y → Class atoms a b
class_at atoms a b x y ea eb c = rw (ea, eb) c
