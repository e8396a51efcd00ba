-- The leaders in the sharing table.
use Rattle.std.proofs.Common.{ℕ, suc, ◌≡◌, ◌<◌, List, [], ◌∷◌, ◌++◌, length, map, get_or, refl, sym, ◌∙◌, subst, inl, inr, ◌⊎◌, Some, None, arith}
use Rattle.std.specs.Prelude.{Option}
use Rattle.std.specs.List.{AllByRecursion}
use Rattle.std.proofs.lemmas.Bool.{cases_lt}
use Rattle.std.proofs.lemmas.List.{length_push}
use Rattle.tree_model.specs.declared.tree.Symbol.{Symbol}
use Rattle.term_graph.specs.declared.bound.Bound.{Bound}
use Rattle.term_graph.specs.declared.bound.Bound.TheVariants.{Free}
use Rattle.term_graph.specs.declared.term.Term.{Term as Made}
use Rattle.term_graph.specs.declared.key.Key.{Key}
use Rattle.term_graph.specs.Contents.{root, target_of, term_at, HasKey, IsLeader, IsForest}
use Rattle.term_graph.specs.Keys.{sign_of, is_key_of, shared_at}
use Rattle.term_graph.specs.Good.{AreRoots, IsShared}
use Rattle.term_graph.proofs.Forests.{root-added, root-within, leads_to_root, added-target}
use Rattle.term_graph.proofs.Keying.{key_tells, lookup_found, all_each}

pub map_same : (f g : ℕ → ℕ) → ((x : ℕ) → f x ≡ g x) → (xs : List ℕ) → map f xs ≡ map g xs
map_same f g h [] = refl
map_same f g h (x ∷ xs) = let a = h x in let b : map f xs ≡ map g xs = map_same f g h xs in rw (a, b) refl

pub has_same : (b b' : List Bound) (terms : List Made) (s : Symbol) (ks : List ℕ) (t : ℕ) → ((v : ℕ) → root b' v ≡ root b v) → HasKey b terms s ks t
    → HasKey b' terms s ks t
has_same b b' terms s ks t same h = record { within = h.within; sign = h.sign; args = map_same (root b') (root b) same (term_at terms t).args ∙ h.args }

pub leader_by : (b b' : List Bound) (terms terms' : List Made) (s : Symbol) (ks : List ℕ) (o : Option ℕ)
    → ((t : ℕ) → HasKey b terms s ks t → HasKey b' terms' s ks t) → ((t : ℕ) → HasKey b' terms' s ks t → HasKey b terms s ks t)
    → IsLeader b terms s ks o → IsLeader b' terms' s ks o
leader_by b b' terms terms' s ks None f g h = λ t k. h t (g t k)
leader_by b b' terms terms' s ks (Some m) f g h = (f m h.0, λ t k. h.1 t (g t k))

pub same-shared : (b b' : List Bound) (terms : List Made) (entries : List (Key × ℕ)) → length b' ≡ length b → ((v : ℕ) → target_of b' v ≡ target_of b v)
    → ((v : ℕ) → root b' v ≡ root b v) → IsShared b terms entries → IsShared b' terms entries
same-shared b b' terms entries n same roots h = record {
  leaders = λ s ks k. leader_by b b' terms terms s ks (shared_at entries s ks) (λ t. has_same b b' terms s ks t roots) (λ t. has_same b' b terms s ks t (λ v. sym (roots v)))
      (h.leaders s ks (all_each (λ x. (x < length b') × (target_of b' x ≡ None)) (λ x. (x < length b) × (target_of b x ≡ None)) (λ x p. (rw n at p.0, sym (same x) ∙ p.1)) ks k));
  keys = all_each (λ (e : Key × ℕ). AllByRecursion (λ x. x < length b) e.0.args.items) (λ (e : Key × ℕ). AllByRecursion (λ x. x < length b') e.0.args.items)
      (λ e p. all_each (λ x. x < length b) (λ x. x < length b') (λ x q. rw n q) e.0.args.items p) entries h.keys;
}

-- a list is below n, or is not
below_or_not : (n : ℕ) (ks : List ℕ) → AllByRecursion (λ x. x < n) ks ⊎ (AllByRecursion (λ x. x < n) ks → ⊥)
below_or_not n [] = inl tt
below_or_not n (k ∷ ks) = elim (cases_lt k n) [
  | inl l ↦ elim (below_or_not n ks) [ inl h ↦ inl (l, h) | inr h ↦ inr (λ p. h p.1) ]
  | inr g ↦ inr (λ p. (let q = p.0 in omega arith))
]

roots_below : (b : List Bound) → IsForest b → (n : ℕ) → n ≡ length b → (xs : List ℕ) → ((i : ℕ) → i < length xs → get_or xs i 0 < length b)
    → AllByRecursion (λ x. x < n) (map (root b) xs)
roots_below b f n e [] h = tt
roots_below b f n e (x ∷ xs) h = (rw e (root-within b f (leads_to_root b f x) (h 0 (omega arith))), roots_below b f n e xs (λ i l. h (suc i) (omega arith)))

-- a variable more
module _ (b : List Bound) (terms : List Made) (entries : List (Key × ℕ)) (f : IsForest b)
    (args : (t i : ℕ) → t < length terms → i < length (term_at terms t).args → get_or (term_at terms t).args i 0 < length b)
    (h : IsShared b terms entries) where
  abbrev shared_more : List Bound
  shared_more = b ++ Free ∷ []

  more_root : (v : ℕ) → root shared_more v ≡ root b v
  more_root v = root-added b f v

  not_below : (s : Symbol) (ks : List ℕ) → (AllByRecursion (λ x. x < length b) ks → ⊥) → (o : Option ℕ) → shared_at entries s ks ≡ o
      → IsLeader shared_more terms s ks o
  not_below s ks n None e = λ t k. n (subst (AllByRecursion (λ x. x < length b)) (sym (map_same (root shared_more) (root b) more_root (term_at terms t).args) ∙ k.args)
      (roots_below b f (length b) refl (term_at terms t).args (λ i l. args t i k.within l)))
  not_below s ks n (Some m) e =
      let w = lookup_found (is_key_of (sign_of s) ks) (λ (x : Key × ℕ). AllByRecursion (λ y. y < length b) x.0.args.items) entries m h.keys e in
      absurd (n (subst (AllByRecursion (λ x. x < length b)) (sym (key_tells (sign_of s) ks w.0.0 w.2).1) w.1))

  roots_old : (ks : List ℕ) → AllByRecursion (λ x. x < length b) ks → AreRoots shared_more ks → AreRoots b ks
  roots_old [] l k = tt
  roots_old (x ∷ xs) l k = ((l.0, sym (added-target b x) ∙ k.0.1), roots_old xs l.1 k.1)

  pub shared_added : IsShared (b ++ Free ∷ []) terms entries
  shared_added = record {
    leaders = λ s ks k. elim (below_or_not (length b) ks) [
      | inl l ↦ leader_by b shared_more terms terms s ks (shared_at entries s ks) (λ t. has_same b shared_more terms s ks t more_root) (λ t. has_same shared_more b terms s ks t (λ v. sym (more_root v))) (h.leaders s ks (roots_old ks l k))
      | inr n ↦ not_below s ks n (shared_at entries s ks) refl
    ];
    keys = all_each (λ (e : Key × ℕ). AllByRecursion (λ x. x < length b) e.0.args.items) (λ (e : Key × ℕ). AllByRecursion (λ x. x < length shared_more) e.0.args.items)
        (λ e p. all_each (λ x. x < length b) (λ x. x < length shared_more) (λ x q. omega (arith, length_push b Free)) e.0.args.items p) entries h.keys;
  }
