-- What is gathered from done terms, and numbers told once each.
use Rattle.std.proofs.Common.{ℕ, ◌≡◌, ◌<◌, ◌≤◌, ◌+◌, ◌-◌, List, [], ◌∷◌, ◌++◌, length, get_or, take, refl, sym, ap, ◌∙◌, subst, arith, inl, inr, ◌⊎◌}
use Rattle.std.specs.Prelude.{slice_index, Contains, ◌↔◌}
use Rattle.std.specs.List.Sorted.{IsNonDecreasing, IsStrictlyIncreasing, IsPermutation}
use Rattle.std.proofs.lemmas.List.Sorted.{IsPermutation-sym, Contains-permutation}
use Rattle.std.proofs.lemmas.List.{take_more, take_all, length-append, length-take, get_or_append_left, get_or_push, get_or_default, get_or-take}
use Rattle.std.proofs.lemmas.List.Elements.{Contains-push, Contains-append_left, Contains-push_cases, Contains-get_or}
use Rattle.tree_model.specs.declared.tree.Symbol.{Symbol}
use Rattle.flat_form.specs.declared.atom.Flat.{Flat}
use Rattle.flat_form.specs.declared.atom.Flat.TheVariants.{VarTerm}
use Rattle.flat_form.specs.Solved.{HasTerm}
use Rattle.finiteness.specs.declared.search.Mark.{Mark}
use Rattle.finiteness.specs.declared.search.Mark.TheVariants.{Done}
use Rattle.finiteness.specs.Places.{StandsAt}
use Rattle.finiteness.specs.Marks.{HasMark, IsBareIn, IsLeafAt}
use Rattle.finiteness.proofs.Standing.{one_atom}

module _ (xs : List ℕ) (i x : ℕ) (within : i < length xs) (is : x ≡ slice_index xs i) where
  taken_is : take (i + 1) xs ≡ take i xs ++ x ∷ []
  taken_is = take_more xs i 0 within ∙ ap (λ z. take i xs ++ z ∷ []) (sym is)

  -- what stands among the first numbers and the next one
  pub taken_cases : (u : ℕ) → Contains (take (i + 1) xs) u → Contains (take i xs) u ⊎ (x ≡ u)
  taken_cases u h = Contains-push_cases (take i xs) x u (subst (λ z. Contains z u) taken_is h)

  pub taken_more : (u : ℕ) → Contains (take i xs) u → Contains (take (i + 1) xs) u
  taken_more u h = subst (λ z. Contains z u) (sym taken_is) (Contains-append_left (take i xs) (x ∷ []) u h)

  pub taken_next : Contains (take (i + 1) xs) x
  taken_next = subst (λ z. Contains z x) (sym taken_is) (Contains-push (take i xs) x)

  module _ (basic : List Flat) (first now : List ℕ) (held : (u : ℕ) → Contains now u ↔ (Contains first u ⊎ IsBareIn basic (take i xs) u)) where
    -- a further argument that has no term is added
    pub gather_bare : (new : List ℕ) → ¬ HasTerm basic x → new ≡ now ++ x ∷ [] → (u : ℕ) → Contains new u ↔ (Contains first u ⊎ IsBareIn basic (take (i + 1) xs) u)
    gather_bare new bare e u = (
      λ h. elim (Contains-push_cases now x u (subst (λ z. Contains z u) e h)) [
        | inl j ↦ elim ((held u).0 j) [ inl k ↦ inl k | inr k ↦ inr (taken_more u k.0, k.1) ]
        | inr same ↦ inr (subst (λ z. IsBareIn basic (take (i + 1) xs) z) same (taken_next, bare))
      ],
      λ h. subst (λ z. Contains z u) (sym e) (elim h [
        | inl k ↦ Contains-append_left now (x ∷ []) u ((held u).1 (inl k))
        | inr k ↦ elim (taken_cases u k.0) [
          | inl j ↦ Contains-append_left now (x ∷ []) u ((held u).1 (inr (j, k.1)))
          | inr same ↦ subst (λ z. Contains (now ++ x ∷ []) z) same (Contains-push now x)
        ]
      ]),
    )

    -- one that has a term is not
    pub gather_term : HasTerm basic x → (u : ℕ) → Contains now u ↔ (Contains first u ⊎ IsBareIn basic (take (i + 1) xs) u)
    gather_term term u = (
      λ h. elim ((held u).0 h) [ inl k ↦ inl k | inr k ↦ inr (taken_more u k.0, k.1) ],
      λ h. elim h [
        | inl k ↦ (held u).1 (inl k)
        | inr k ↦ elim (taken_cases u k.0) [
          | inl j ↦ (held u).1 (inr (j, k.1))
          | inr same ↦ absurd (k.1 (subst (λ z. HasTerm basic z) same term))
        ]
      ],
    )

pub gather_whole : (basic : List Flat) (first now xs : List ℕ) (i : ℕ) → length xs ≤ i
    → ((u : ℕ) → Contains now u ↔ (Contains first u ⊎ IsBareIn basic (take i xs) u)) → (u : ℕ) → Contains now u ↔ (Contains first u ⊎ IsBareIn basic xs u)
gather_whole basic first now xs i l held = subst (λ z. (u : ℕ) → Contains now u ↔ (Contains first u ⊎ IsBareIn basic z u)) (take_all i xs l) held

-- the arguments without a term of the term at a place
module _ (basic : List Flat) (marks : List Mark) (place v : ℕ) (s : Symbol) (xs : List ℕ) (stands : StandsAt basic place (VarTerm v s xs)) (done : HasMark marks place Done) where
  pub leaf_at : (first now : List ℕ) → ((u : ℕ) → Contains now u ↔ (Contains first u ⊎ IsBareIn basic xs u))
      → (u : ℕ) → Contains now u ↔ (Contains first u ⊎ IsLeafAt basic marks place u)
  leaf_at first now held u = (
    λ h. elim ((held u).0 h) [
      | inl k ↦ inl k
      | inr k ↦ inr (record { over = v; symbol = s; xs = xs; stands = stands; done = done; among = k.0; bare = k.1 })
    ],
    λ h. elim h [
      | inl k ↦ (held u).1 (inl k)
      | inr k ↦
          let e : VarTerm k.over k.symbol k.xs ≡ VarTerm v s xs = one_atom basic place (VarTerm k.over k.symbol k.xs) (VarTerm v s xs) k.stands stands in
          let same : k.xs ≡ xs = cc in
          (held u).1 (inr (subst (λ z. Contains z u) same k.among, k.bare))
    ],
  )

lt_cases : (m n : ℕ) → m < n + 1 → (m < n) ⊎ (m ≡ n)
lt_cases m n l = grind arith

-- one place more
pub leaves_more : (basic : List Flat) (marks : List Mark) (n : ℕ) (old new : List ℕ)
    → ((u : ℕ) → Contains old u ↔ ((place : ℕ) × (place < n) × IsLeafAt basic marks place u))
    → ((u : ℕ) → Contains new u ↔ (Contains old u ⊎ IsLeafAt basic marks n u))
    → (u : ℕ) → Contains new u ↔ ((place : ℕ) × (place < n + 1) × IsLeafAt basic marks place u)
leaves_more basic marks n old new held more u = (
  λ h. elim ((more u).0 h) [
    | inl k ↦ let (p, l, leaf) = (held u).0 k in (p, omega (arith, l), leaf)
    | inr leaf ↦ (n, omega arith, leaf)
  ],
  λ (p, l, leaf). elim (lt_cases p n l) [
    | inl m ↦ (more u).1 (inl ((held u).1 (p, m, leaf)))
    | inr e ↦ (more u).1 (inr (subst (λ z. IsLeafAt basic marks z u) e leaf))
  ],
)

pub leaves_whole : (basic : List Flat) (marks : List Mark) (n : ℕ) (now : List ℕ) → length basic ≤ n
    → ((u : ℕ) → Contains now u ↔ ((place : ℕ) × (place < n) × IsLeafAt basic marks place u))
    → (u : ℕ) → Contains now u ↔ ((place : ℕ) × IsLeafAt basic marks place u)
leaves_whole basic marks n now l held u = (
  λ h. let (p, m, leaf) = (held u).0 h in (p, leaf),
  λ (p, leaf). (held u).1 (p, omega (arith, leaf.stands.0, l), leaf),
)

less_or_at : (k n : ℕ) → k < n → (k + 1 < n) ⊎ (k + 1 ≡ n)
less_or_at k n l = grind arith

-- a number above all others stands last
pub ascending_push : (xs : List ℕ) (x : ℕ) → IsStrictlyIncreasing xs → ((u : ℕ) → Contains xs u → u < x) → IsStrictlyIncreasing (xs ++ x ∷ [])
ascending_push xs x up above k w =
    let l : k < length xs = omega (arith, w, length-append xs (x ∷ [])) in
    let left : get_or (xs ++ x ∷ []) k 0 ≡ get_or xs k 0 = get_or_append_left xs (x ∷ []) 0 k l in
    elim (less_or_at k (length xs) l) [
      | inl m ↦ omega (arith, up k m, left, get_or_append_left xs (x ∷ []) 0 (k + 1) m)
      | inr e ↦ omega (arith, left, get_or_push xs x 0 (k + 1) (sym e), above (get_or xs k 0) (Contains-get_or xs k 0 l))
    ]

module _ (xs : List ℕ) (order : IsNonDecreasing xs) (once : List ℕ) (i x : ℕ) (within : i < length xs) (is : x ≡ slice_index xs i)
    (same : (u : ℕ) → Contains once u ↔ Contains (take i xs) u) where
  -- what stands before a number that is no repetition is below it
  below_next : ¬ ((0 < i) × (slice_index xs (i - 1) ≡ slice_index xs i)) → (u : ℕ) → Contains once u → u < x
  below_next new u h =
      let (k, l, e) = (same u).0 h in
      let short : k < i = omega (arith, l, length-take i xs) in
      let u_is : u ≡ get_or xs k 0 = sym e ∙ get_or-take i xs k u short ∙ get_or_default xs k u 0 (omega arith) in
      let before : get_or xs k 0 ≤ get_or xs (i - 1) 0 = order k (i - 1) 0 (omega arith) (omega arith) in
      let up : get_or xs (i - 1) 0 ≤ get_or xs i 0 = order (i - 1) i 0 (omega arith) within in
      let apart : ¬ (get_or xs (i - 1) 0 ≡ get_or xs i 0) = λ f. new (omega arith, f) in
      omega (arith, u_is, before, up, apart, is)

  pub once_more : ¬ ((0 < i) × (slice_index xs (i - 1) ≡ slice_index xs i)) → IsStrictlyIncreasing once → IsStrictlyIncreasing (once ++ x ∷ [])
  once_more new up = ascending_push once x up (below_next new)

  pub same_more : (u : ℕ) → Contains (once ++ x ∷ []) u ↔ Contains (take (i + 1) xs) u
  same_more u = (
    λ h. elim (Contains-push_cases once x u h) [
      | inl j ↦ taken_more xs i x within is u ((same u).0 j)
      | inr e ↦ subst (λ z. Contains (take (i + 1) xs) z) e (taken_next xs i x within is)
    ],
    λ h. elim (taken_cases xs i x within is u h) [
      | inl j ↦ Contains-append_left once (x ∷ []) u ((same u).1 j)
      | inr e ↦ subst (λ z. Contains (once ++ x ∷ []) z) e (Contains-push once x)
    ],
  )

pub same_repeated : (xs once : List ℕ) (i : ℕ) → i < length xs → (0 < i) × (slice_index xs (i - 1) ≡ slice_index xs i)
    → ((u : ℕ) → Contains once u ↔ Contains (take i xs) u) → (u : ℕ) → Contains once u ↔ Contains (take (i + 1) xs) u
same_repeated xs once i within again same u = (
  λ h. taken_more xs i (slice_index xs i) within refl u ((same u).0 h),
  λ h. elim (taken_cases xs i (slice_index xs i) within refl u h) [
    | inl j ↦ (same u).1 j
    | inr e ↦
        let short : i - 1 < length (take i xs) = omega (arith, length-take i xs, within, again.0) in
        let here : get_or (take i xs) (i - 1) 0 ≡ get_or xs (i - 1) 0 = get_or-take i xs (i - 1) 0 (omega (arith, again.0)) in
        (same u).1 (subst (λ z. Contains (take i xs) z) (here ∙ again.1 ∙ e) (Contains-get_or (take i xs) (i - 1) 0 short))
  ],
)

module _ (basic : List Flat) (marks : List Mark) (found sorted now : List ℕ) (moved : IsPermutation found sorted) (now_is : now ≡ sorted)
    (held : (u : ℕ) → Contains found u ↔ ((place : ℕ) × IsLeafAt basic marks place u)) where
  -- the leaves in order, each once
  pub leaves_once : (once : List ℕ) → ((u : ℕ) → Contains once u ↔ Contains now u) → (u : ℕ) → Contains once u ↔ ((place : ℕ) × IsLeafAt basic marks place u)
  leaves_once once same u = (
    λ h. (held u).0 (Contains-permutation sorted found u (IsPermutation-sym found sorted moved) (subst (λ z. Contains z u) now_is ((same u).0 h))),
    λ h. (same u).1 (subst (λ z. Contains z u) (sym now_is) (Contains-permutation found sorted u moved ((held u).1 h))),
  )
