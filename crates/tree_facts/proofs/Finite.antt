-- Finite trees: subtrees, nodes and their children.
use Rattle.std.proofs.Common.{◌≡◌, ℕ, zero, suc, ◌<◌, ◌≤◌, ◌+◌, ◌++◌, List, [], ◌∷◌, length, refl, sym, ◌∙◌, subst, arith, Some, None, ◌⊎◌, inl, inr}
use Rattle.std.specs.Prelude.{Option, slice_index, IsSome}
use Rattle.std.proofs.lemmas.List.{length-append}
use Rattle.std.proofs.lemmas.Option.{slice_get-get_or}
use Rattle.classical.specs.Classical.{Exists}
use Rattle.classical.proofs.Stable.{◌>>=◌}
use Rattle.tree_model.specs.declared.tree.Symbol.{Symbol}
use Rattle.tree_model.specs.Graphs.{Graph}
use Rattle.tree_model.specs.Trees.{at, IsFinite}
use Rattle.tree_facts.specs.FiniteLaws.{RootIsRead, NothingPastTheChildren, IsSubtree, SubtreeIsFinite, OwnSubtreeIsInfinite, TermIsFiniteWhereArgumentsAre}
use Rattle.tree_facts.proofs.Equations.{at_past, within_or_past}
use Rattle.tree_facts.proofs.SideBySide.{bare}

pub root_read : RootIsRead
root_read t in_range = rw (slice_get-get_or t.nodes t.root bare in_range.root_within) refl

pub nothing_past : NothingPastTheChildren
nothing_past = at_past

-- what is read is read of what it equals
pub read_moves : (a b : Option (Symbol × ℕ)) → a ≡ b → IsSome a → IsSome b
read_moves a b e some = let P : Option (Symbol × ℕ) → Type 0 = IsSome in subst P e some

pub subtree_finite : SubtreeIsFinite
subtree_finite t u path inside finite c = do
  (n, bound) ← finite
  c (n, λ more some. omega (arith, bound (path ++ more) (read_moves (at u more) (at t (path ++ more)) (sym (inside more)) some), length-append path more))

-- the path n times over
times : ℕ → List ℕ → List ℕ
times zero path = []
times (suc n) path = path ++ times n path

times_reads : (t : Graph) (path : List ℕ) → IsSubtree t path t → (n : ℕ) → at t (times n path) ≡ at t []
unfolding times
times_reads t path inside zero = refl
times_reads t path inside (suc n) = inside (times n path) ∙ times_reads t path inside n

times_long : (n : ℕ) (path : List ℕ) → 0 < length path → n ≤ length (times n path)
unfolding times
times_long zero path long = omega arith
times_long (suc n) path long = omega (arith, long, times_long n path long, length-append path (times n path))

pub own_subtree_infinite : OwnSubtreeIsInfinite
own_subtree_infinite t path in_range long inside finite = do
  (n, bound) ← finite
  omega (arith, bound (times n path) (read_moves (at t []) (at t (times n path)) (sym (times_reads t path inside n)) (root_read t in_range)), times_long n path long)

below_or_last : (i k : ℕ) → i < suc k → (i < k) ⊎ (i ≡ k)
below_or_last i k w = grind (arith, w)

-- finitely many bounds have a common one
bound_all : (P : ℕ → ℕ → Type 0) → ((i m n : ℕ) → m ≤ n → P i m → P i n) → (k : ℕ)
    → ((i : ℕ) → i < k → Exists (P i)) → Exists (λ (n : ℕ). (i : ℕ) → i < k → P i n)
bound_all P up zero each c = c (0, λ i w. absurd (omega arith))
bound_all P up (suc k) each c = do
  (m, p) ← bound_all P up k (λ i w. each i (omega arith))
  (n, q) ← each k (omega arith)
  c (
    m + n,
    λ i w. elim (below_or_last i k w) [
      | inl b ↦ up i m (m + n) (omega arith) (p i b)
      | inr e ↦ up i n (m + n) (omega arith) (subst (λ z. P z n) (sym e) q)
    ],
  )

module _ (t : Graph) (s : Symbol) (k : ℕ) (sub : ℕ → Graph) (root : at t [] ≡ Some (s, k))
    (child : (i : ℕ) → i < k → (path : List ℕ) → at t (i ∷ path) ≡ at (sub i) path) where
  none_read : (path : List ℕ) → ¬ IsSome {T = Symbol × ℕ} None
  none_read path some = cc some

  within : (n : ℕ) → ((i : ℕ) → i < k → (path : List ℕ) → IsSome (at (sub i) path) → length path < n)
      → (path : List ℕ) → IsSome (at t path) → length path < suc n
  within n bound [] some = omega arith
  within n bound (i ∷ path) some = elim (within_or_past i k) [
    | inl w ↦ omega (arith, bound i w path (read_moves (at t (i ∷ path)) (at (sub i) path) (child i w path) some))
    | inr past ↦ absurd (none_read path (read_moves (at t (i ∷ path)) None (at_past t s k i path root past) some))
  ]

  -- a node whose children are finite is finite
  pub node_finite : ((i : ℕ) → i < k → IsFinite (sub i)) → IsFinite t
  node_finite all c = do
    (n, bound) ← bound_all (λ i n. (path : List ℕ) → IsSome (at (sub i) path) → length path < n)
        (λ i m n le bound path some. omega (arith, bound path some)) k all
    c (suc n, within n bound)

  -- and the other way round
  pub child_finite : IsFinite t → (i : ℕ) → i < k → IsFinite (sub i)
  child_finite finite i w = subtree_finite t (sub i) (i ∷ []) (child i w) finite

pub term_finite : TermIsFiniteWhereArgumentsAre
term_finite σ e u s xs applied = (
  child_finite (e u).graph s (length xs) (λ i. (e (slice_index xs i)).graph) applied.root applied.child,
  node_finite (e u).graph s (length xs) (λ i. (e (slice_index xs i)).graph) applied.root applied.child,
)
