-- The leaders after a root went under another.
use Rattle.std.proofs.Common.{ℕ, ◌≡◌, ◌<◌, ◌≤◌, ◌+◌, Bool, true, false, cond, min, List, [], ◌∷◌, ◌++◌, length, map, take, get_or, refl, sym, ap, ◌∙◌, subst, inl, inr, ◌⊎◌, Some, None, arith}
use Rattle.std.specs.Prelude.{Option, Contains}
use Rattle.std.proofs.lemmas.Bool.{cases_lt}
use Rattle.std.proofs.lemmas.List.{take_more}
use Rattle.std.proofs.lemmas.List.Elements.{Contains-push, Contains-push_cases, Contains-append_left}
use Rattle.tree_model.specs.declared.tree.Symbol.{Symbol}
use Rattle.term_graph.specs.declared.bound.Bound.{Bound}
use Rattle.term_graph.specs.declared.term.Term.{Term as Made}
use Rattle.term_graph.specs.declared.key.Key.{Key}
use Rattle.term_graph.specs.Contents.{root, term_at, HasKey, IsLeader}
use Rattle.term_graph.specs.Keys.{sign_of, is_key_of, shared_at}
use Rattle.term_graph.specs.Good.{AreRoots, IsShared}
use Rattle.term_graph.specs.Noting.{IsLeast, lowered_to, IsNoted, HasEither, AreNoted}
use Rattle.term_graph.proofs.Keying.{key_tells, key_same, sign_once}

min_cases : (t m : ℕ) → (min t m ≡ t) × (t ≤ m) ⊎ (min t m ≡ m) × (m ≤ t)
min_cases t m = elim (cases_lt m t) [ inl l ↦ inr (omega arith, omega arith) | inr g ↦ inl (omega arith, omega arith) ]

pub least_more : (P Q : ℕ → Type 0) (t : ℕ) (o : Option ℕ) → IsLeast P o → Q t → ((u : ℕ) → P u → Q u) → ((u : ℕ) → Q u → P u ⊎ (u ≡ t)) → IsLeast Q (lowered_to t o)
least_more P Q t None h q f g = (q, λ u k. elim (g u k) [ inl p ↦ absurd (h u p) | inr e ↦ omega arith ])
least_more P Q t (Some m) h q f g = elim (min_cases t m) [
  | inl e ↦ (let e0 = e.0 in let e1 = e.1 in rw e.0 (q, λ u k. elim (g u k) [ inl p ↦ (let w = h.1 u p in omega arith) | inr i ↦ omega arith ]))
  | inr e ↦ (let e1 = e.1 in rw e.0 (f m h.0, λ u k. elim (g u k) [ inl p ↦ h.1 u p | inr i ↦ omega arith ]))
]

pub least_same : (P Q : ℕ → Type 0) (o : Option ℕ) → IsLeast P o → ((u : ℕ) → P u → Q u) → ((u : ℕ) → Q u → P u) → IsLeast Q o
least_same P Q None h f g = λ t k. h t (g t k)
least_same P Q (Some m) h f g = (f m h.0, λ t k. h.1 t (g t k))

pub leader_least : (b : List Bound) (terms : List Made) (s : Symbol) (ks : List ℕ) (o : Option ℕ) → IsLeader b terms s ks o → IsLeast (HasKey b terms s ks) o
leader_least b terms s ks None h = h
leader_least b terms s ks (Some m) h = h

pub least_leader : (b : List Bound) (terms : List Made) (s : Symbol) (ks : List ℕ) (o : Option ℕ) → IsLeast (HasKey b terms s ks) o → IsLeader b terms s ks o
least_leader b terms s ks None h = h
least_leader b terms s ks (Some m) h = h

-- the terms with the key before, or among those that moved, now
module _ (b b' : List Bound) (terms : List Made) where
  pub noted_first : (entries : List (Key × ℕ)) → IsShared b terms entries → ((ks : List ℕ) → AreRoots b' ks → AreRoots b ks) → AreNoted b b' terms entries []
  noted_first entries h f = record {
    least = λ s ks k. least_same (HasKey b terms s ks) (HasEither b b' terms [] s ks) (shared_at entries s ks) (leader_least b terms s ks (shared_at entries s ks) (h.leaders s ks (f ks k)))
        (λ u p. inl p) (λ u p. elim p [ inl q ↦ q | inr q ↦ absurd (let l = q.0.1 in omega arith) ]);
  }

  pub noted_next : (old new : List (Key × ℕ)) (moved : List ℕ) (t : ℕ) (key : Key) → t < length terms → key.sign ≡ sign_of (term_at terms t).symbol → key.args.items ≡ map (root b') (term_at terms t).args
      → IsNoted old new key t → AreNoted b b' terms old moved → AreNoted b b' terms new (moved ++ t ∷ [])
  noted_next old new moved t key l ks ka n h = record {
    least = λ s xs k. subst (IsLeast (HasEither b b' terms (moved ++ t ∷ []) s xs)) (sym (n s xs)) (by s xs k (is_key_of (sign_of s) xs key) refl);
  }
    where
      more : (s : Symbol) (xs : List ℕ) (u : ℕ) → HasEither b b' terms moved s xs u → HasEither b b' terms (moved ++ t ∷ []) s xs u
      more s xs u (inl p) = inl p
      more s xs u (inr p) = inr (Contains-append_left moved (t ∷ []) u p.0, p.1)

      by : (s : Symbol) (xs : List ℕ) → AreRoots b' xs → (v : Bool) → is_key_of (sign_of s) xs key ≡ v → IsLeast (HasEither b b' terms (moved ++ t ∷ []) s xs) (cond v (lowered_to t (shared_at old s xs)) (shared_at old s xs))
      by s xs k true e =
          let w = key_tells (sign_of s) xs key e in
          let own : HasKey b' terms s xs t = record { within = l; sign = sym (sign_once s (term_at terms t).symbol (w.0 ∙ ks)); args = sym ka ∙ sym w.1 } in
          least_more (HasEither b b' terms moved s xs) (HasEither b b' terms (moved ++ t ∷ []) s xs) t (shared_at old s xs) (h.least s xs k) (inr (Contains-push moved t, own)) (more s xs)
          (λ u q. elim q [
            | inl p ↦ inl (inl p)
            | inr p ↦ elim (Contains-push_cases moved t u p.0) [ inl c ↦ inl (inr (c, p.1)) | inr i ↦ inr (sym i) ]
          ])
      by s xs k false e = least_same (HasEither b b' terms moved s xs) (HasEither b b' terms (moved ++ t ∷ []) s xs) (shared_at old s xs) (h.least s xs k) (more s xs)
          (λ u q. elim q [
            | inl p ↦ inl p
            | inr p ↦ elim (Contains-push_cases moved t u p.0) [
              | inl c ↦ inr (c, p.1)
              | inr i ↦ absurd (
                  let p' : HasKey b' terms s xs t = subst (HasKey b' terms s xs) (sym i) p.1 in
                  let f : is_key_of (sign_of s) xs key ≡ true = key_same (sign_of s) xs key (sym (ks ∙ ap sign_of p'.sign)) (sym (ka ∙ p'.args)) in
                  cc)
            ]
          ])

  -- all moved terms are noted
  pub noted_all : (entries : List (Key × ℕ)) (moved : List ℕ) → AreNoted b b' terms entries moved
      → ((s : Symbol) (ks : List ℕ) (t : ℕ) → AreRoots b' ks → HasKey b terms s ks t → HasKey b' terms s ks t)
      → ((s : Symbol) (ks : List ℕ) (t : ℕ) → AreRoots b' ks → HasKey b' terms s ks t → HasKey b terms s ks t ⊎ Contains moved t)
      → (s : Symbol) (ks : List ℕ) → AreRoots b' ks → IsLeader b' terms s ks (shared_at entries s ks)
  noted_all entries moved h f g s ks k =
      least_leader b' terms s ks (shared_at entries s ks) (least_same (HasEither b b' terms moved s ks) (HasKey b' terms s ks) (shared_at entries s ks) (h.least s ks k)
      (λ u p. elim p [ inl q ↦ f s ks u k q | inr q ↦ q.1 ])
      (λ u p. elim (g s ks u k p) [ inl q ↦ inl q | inr q ↦ inr (q, p) ]))

-- one turn over the moved terms
pub noted_step : (b b' : List Bound) (terms : List Made) (old new : List (Key × ℕ)) (moved : List ℕ) (i t : ℕ) (key : Key) → i < length moved → t ≡ get_or moved i 0 → t < length terms → key.sign ≡ sign_of (term_at terms t).symbol
    → key.args.items ≡ map (root b') (term_at terms t).args → IsNoted old new key t → AreNoted b b' terms old (take i moved) → AreNoted b b' terms new (take (i + 1) moved)
noted_step b b' terms old new moved i t key l e tl ks ka n h =
    let q : take (i + 1) moved ≡ take i moved ++ get_or moved i 0 ∷ [] = take_more moved i 0 l in
    let r : take i moved ++ t ∷ [] ≡ take i moved ++ get_or moved i 0 ∷ [] = ap (λ z. take i moved ++ z ∷ []) e in
    subst (AreNoted b b' terms new) (r ∙ sym q) (noted_next b b' terms old new (take i moved) t key tl ks ka n h)
