-- Heads of classes.
use Rattle.std.proofs.Common.{ℕ, zero, suc, ◌≡◌, ◌<◌, ◌≤◌, List, [], ◌∷◌, length, refl, ap, arith, inl, inr, ◌⊎◌}
use Rattle.std.specs.Prelude.{slice_index, Contains}
use Rattle.classical.specs.Classical.{Either, Exists}
use Rattle.classical.proofs.Stable.{◌>>=◌, either_way}
use Rattle.flat_form.specs.declared.atom.Flat.{Flat}
use Rattle.flat_form.specs.declared.atom.Flat.TheVariants.{VarVar}
use Rattle.flat_form.specs.Classes.{Class, itself, turned, joined, stated, Reached, marked, child}
use Rattle.flat_form.specs.Solved.{IsOpen, HasTerm, IsDirect}
use Rattle.flat_form.specs.Added.{IsHead, by_term, by_root}

le_or_lt : (m n : ℕ) → (m ≤ n) ⊎ (n < m)
le_or_lt m n = grind arith

-- a property of numbers that holds somewhere has a least number
least_below : (P : ℕ → Type 0) (b n : ℕ) → n < b → P n → Exists (λ (m : ℕ). P m × ((k : ℕ) → P k → m ≤ k))
least_below P zero n w p c = omega (arith, w)
least_below P (suc b) n w p c = do
  x ← either_way ((k : ℕ) × (k < n) × P k)
  elim x [
    | inl (k, l, q) ↦ least_below P b k (omega arith) q c
    | inr none ↦ c (n, (p, λ k q. elim (le_or_lt n k) [ inl le ↦ le | inr lt ↦ absurd (none (k, lt, q)) ]))
  ]

pub least : (P : ℕ → Type 0) (n : ℕ) → P n → Exists (λ (m : ℕ). P m × ((k : ℕ) → P k → m ≤ k))
least P n p = least_below P (suc n) n (omega arith) p

-- one number for each, as one list
pub choose : (R : ℕ → ℕ → Type 0) (xs : List ℕ) → ((x : ℕ) → Exists (R x))
    → Exists (λ (ys : List ℕ). (length ys ≡ length xs) × ((i : ℕ) → i < length xs → R (slice_index xs i) (slice_index ys i)))
choose R [] h c = c ([], (refl, λ i w. absurd (omega arith)))
choose R (x ∷ xs) h c = do
  (y, r) ← h x
  (ys, (len, all)) ← choose R xs h
  c (y ∷ ys, (ap suc len, λ i w. pick i w y r ys all))
  where
    pick : (i : ℕ) → i < length (x ∷ xs) → (y : ℕ) → R x y → (ys : List ℕ) → ((i : ℕ) → i < length xs → R (slice_index xs i) (slice_index ys i)) → R (slice_index (x ∷ xs) i) (slice_index (y ∷ ys) i)
    pick zero w y r ys all = r
    pick (suc i) w y r ys all = all i (omega arith)

module _ (base atoms : List Flat) where
  pub head_class : (v h : ℕ) → IsHead base atoms v h → Class atoms v h
  head_class v h (by_term c t l) = c
  head_class v h (by_root n c o l) = c

  pub head_unique : (v h k : ℕ) → IsHead base atoms v h → IsHead base atoms v k → h ≡ k
  head_unique v h k (by_term c t l) (by_term d u m) = omega (arith, l k d u, m h c t)
  head_unique v h k (by_term c t l) (by_root n d o m) = absurd (n h c t)
  head_unique v h k (by_root n c o l) (by_term d u m) = absurd (n k d u)
  head_unique v h k (by_root n c o l) (by_root p d q m) = omega (arith, l k d q, m h c o)

  pub head_moves : (v w h : ℕ) → Class atoms v w → IsHead base atoms v h → IsHead base atoms w h
  head_moves v w h k (by_term c t l) = by_term (joined (turned k) c) t (λ x d. l x (joined k d))
  head_moves v w h k (by_root n c o l) = by_root (λ x d. n x (joined k d)) (joined (turned k) c) o (λ x d. l x (joined k d))

  pub own_head : (v h : ℕ) → IsHead base atoms v h → IsHead base atoms h h
  own_head v h head = head_moves v h h (head_class v h head) head

  pub reached_class : (v w : ℕ) → Reached atoms v → Class atoms v w → Reached atoms w
  reached_class v w (marked stands c) d = marked stands (joined c d)
  reached_class v w (child s xs r stands i l c) d = child s xs r stands i l (joined c d)

-- v has a term, equals another variable, or is a root
pub kinds : (base : List Flat) (v : ℕ) → Either (HasTerm base v) (((r : ℕ) × Contains base (VarVar v r)) ⊎ IsOpen base v)
kinds base v n = do
  t ← either_way (HasTerm base v)
  elim t [
    | inl y ↦ n (inl y)
    | inr no_term ↦ do
      q ← either_way ((r : ℕ) × Contains base (VarVar v r))
      elim q [
        | inl y ↦ n (inr (inl y))
        | inr none ↦ n (inr (inr (record { no_variable = λ r i. none (r, i); no_term = λ s xs i. no_term (s, xs, i) })))
      ]
  ]

module _ (base atoms : List Flat) (sub : (a : Flat) → Contains base a → Contains atoms a) (direct : IsDirect base) where
  root_head : (v w : ℕ) → ((x : ℕ) → Class atoms v x → ¬ HasTerm base x) → Class atoms v w → IsOpen base w → Exists (IsHead base atoms v)
  root_head v w none c o n = do
    (h, ((d, p), l)) ← least (λ x. Class atoms v x × IsOpen base x) w (c, o)
    n (h, by_root none d p (λ x e q. l x (e, q)))

  pub head_exists : (v : ℕ) → Exists (IsHead base atoms v)
  head_exists v n = do
    t ← either_way ((w : ℕ) × Class atoms v w × HasTerm base w)
    elim t [
      | inl (w, c, y) ↦ do
        (h, ((d, p), l)) ← least (λ x. Class atoms v x × HasTerm base x) w (c, y)
        n (h, by_term d p (λ x e q. l x (e, q)))
      | inr none ↦ do
        k ← kinds base v
        elim k [
          | inl y ↦ none (v, itself v, y)
          | inr (inl (r, i)) ↦ root_head v r (λ x c y. none (x, c, y)) (stated (sub (VarVar v r) i))
              (record { no_variable = (direct v r i).1; no_term = λ s xs j. none (r, stated (sub (VarVar v r) i), (s, xs, j)) }) n
          | inr (inr o) ↦ root_head v v (λ x c y. none (x, c, y)) (itself v) o n
        ]
    ]
