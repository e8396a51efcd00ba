-- The terms whose keys a binding changes are those among the uses of the variable that is bound.
use Rattle.std.proofs.Common.{ℕ, suc, ◌≡◌, ◌≢◌, ◌<◌, List, [], ◌∷◌, length, map, set, get_or, refl, sym, ◌∙◌, inl, inr, ◌⊎◌, Some, None, arith, length-set}
use Rattle.std.specs.Prelude.{Contains}
use Rattle.std.specs.List.{AllByRecursion}
use Rattle.std.proofs.lemmas.Bool.{cases_eq}
use Rattle.std.proofs.lemmas.List.{get_or-map, length-map}
use Rattle.tree_model.specs.declared.tree.Symbol.{Symbol}
use Rattle.term_graph.specs.declared.bound.Bound.{Bound}
use Rattle.term_graph.specs.declared.bound.Bound.TheVariants.{Variable}
use Rattle.term_graph.specs.declared.term.Term.{Term as Made}
use Rattle.term_graph.specs.Contents.{AreUsers, root, target_of, term_at, HasKey, Leads}
use Rattle.term_graph.specs.Good.{AreRinged, AreRoots}
use Rattle.term_graph.proofs.Forests.{bound-same, bound-other}
use Rattle.term_graph.proofs.Ringing.{kept}

-- each argument has another root, or one has this root
apart_or_at : (b : List Bound) (v : ℕ) (xs : List ℕ) → AllByRecursion (λ x. root b x ≢ v) xs ⊎ ((i : ℕ) × (i < length xs) × (root b (get_or xs i 0) ≡ v))
apart_or_at b v [] = inl tt
apart_or_at b v (x ∷ xs) = elim (cases_eq (root b x) v) [
  | inl e ↦ inr (0, omega arith, e)
  | inr n ↦ elim (apart_or_at b v xs) [ inl h ↦ inl (n, h) | inr w ↦ inr (suc w.0, (let l = w.1 in omega arith), w.2) ]
]

module _ (b : List Bound) (heads owners next : List ℕ) (terms : List Made) (g : AreRinged b heads owners next) (v to w : ℕ) (l : v < length b) (m : to < length b) (wl : w < length b)
    (o : target_of b v ≡ None) (wo : target_of b w ≡ None) (apart : w ≢ v) (x : Leads b to w) where
  abbrev b' : List Bound
  b' = set b v (Variable to)

  same_root : (u : ℕ) → root b u ≢ v → root b' u ≡ root b u
  same_root u n = kept b heads owners next g v to w l m wl o wo apart x u n

  not_v : (r : ℕ) → target_of b' r ≡ None → r ≢ v
  not_v r e i = let f : target_of b' v ≡ Some to = bound-same b v to w l m o in let e' : target_of b' v ≡ None = rw i at e in absurd (cc)

  pub roots_before : (ks : List ℕ) → AreRoots b' ks → AreRoots b ks
  roots_before [] h = tt
  roots_before (k ∷ ks) h = ((rw length-set at h.0.0, sym (bound-other b v to w l m o k (not_v k h.0.1)) ∙ h.0.1), roots_before ks h.1)

  maps_same : (xs : List ℕ) → AllByRecursion (λ y. root b y ≢ v) xs → map (root b') xs ≡ map (root b) xs
  maps_same [] h = refl
  maps_same (y ∷ ys) h = let e = same_root y h.0 in let r : map (root b') ys ≡ map (root b) ys = maps_same ys h.1 in rw (e, r) refl

  off_v : (xs ks : List ℕ) → map (root b) xs ≡ ks → AreRoots b' ks → AllByRecursion (λ y. root b y ≢ v) xs
  off_v [] ks e h = tt
  off_v (y ∷ ys) [] e h = absurd (cc)
  off_v (y ∷ ys) (k ∷ ks) e h =
      let p : root b y ≡ k = cc in
      let q : map (root b) ys ≡ ks = cc in
      ((λ i. not_v k h.0.1 (sym p ∙ i)), off_v ys ks q h.1)

  pub key_stays : (s : Symbol) (ks : List ℕ) (t : ℕ) → AreRoots b' ks → HasKey b terms s ks t → HasKey b' terms s ks t
  key_stays s ks t r h = record { within = h.within; sign = h.sign; args = maps_same (term_at terms t).args (off_v (term_at terms t).args ks h.args r) ∙ h.args }

  pub key_moved : (moved : List ℕ) → AreUsers b terms v moved → (s : Symbol) (ks : List ℕ) (t : ℕ) → AreRoots b' ks → HasKey b' terms s ks t → HasKey b terms s ks t ⊎ Contains moved t
  key_moved moved us s ks t r h = elim (apart_or_at b v (term_at terms t).args) [
    | inl n ↦ inl (record { within = h.within; sign = h.sign; args = sym (maps_same (term_at terms t).args n) ∙ h.args })
    | inr a ↦ inr ((us.each t).1 (h.within, (a.0, (rw length-map a.1), get_or-map (root b) (term_at terms t).args a.0 0 v a.1 ∙ a.2)))
  ]
