-- Ways along bindings.
use Rattle.std.proofs.Common.{◌≡◌, ◌≢◌, ℕ, zero, suc, ◌<◌, ◌≤◌, true, false, List, [], ◌∷◌, ◌++◌, length, set, get_or, refl, sym, ◌∙◌, ap, subst, inl, inr, arith, length-set, get_or-set_same, get_or-set_other}
use Rattle.std.specs.Prelude.{Option, Some, None}
use Rattle.std.proofs.lemmas.List.{get_or_past, get_or_append_left, get_or_push, length_push}
use Rattle.std.proofs.lemmas.Bool.{cases_eq, cases_lt, ne_eqb}
use Rattle.std.specs.List.{IsDistinct, AllByRecursion, list_any}
use Rattle.std.proofs.lemmas.Map.Keys.{IsDistinct-cons}
use Rattle.std.proofs.lemmas.Map.Steps.{length-le_from_distinct_below}
use lib.Dec.{eqb}
use Rattle.term_graph.specs.declared.bound.Bound.{Bound}
use Rattle.term_graph.specs.declared.bound.Bound.TheVariants.{Free, Variable}
use Rattle.term_graph.specs.Contents.{target, target_of, Leads, stays, goes, onward, follow, root, IsForest}

-- steps that are left, of n at most
abbrev pub counted : Option ℕ → ℕ → ℕ
counted None k = zero
counted (Some w) k = suc k

abbrev pub remaining : ℕ → List Bound → ℕ → ℕ
remaining zero b v = zero
remaining (suc n) b v = counted (target_of b v) (remaining n b (onward (target_of b v) v))

module _ (b : List Bound) where
  follow-stays : (n v : ℕ) → target_of b v ≡ None → follow n b v ≡ v
  follow-stays zero v e = refl
  follow-stays (suc n) v e = rw e (follow-stays n v e)

  leads_from : (n v : ℕ) (t : Option ℕ) → ((w : ℕ) → target_of b (follow n b w) ≡ None → Leads b w (follow n b w)) → target_of b v ≡ t
      → target_of b (follow n b (onward t v)) ≡ None → Leads b v (follow n b (onward t v))
  leads_from n v None ih e h = rw (follow-stays n v e) (stays e)
  leads_from n v (Some w) ih e h = goes e (ih w h)

  leads_by : (n v : ℕ) → target_of b (follow n b v) ≡ None → Leads b v (follow n b v)
  leads_by zero v e = stays e
  leads_by (suc n) v e = leads_from n v (target_of b v) (leads_by n) refl e

  pub leads_to_root : IsForest b → (v : ℕ) → Leads b v (root b v)
  leads_to_root f v = leads_by (length b) v (f.ends v)

  pub leads_once : {v r s : ℕ} → Leads b v r → Leads b v s → r ≡ s
  leads_once (stays e) (stays f) = refl
  leads_once (stays e) (goes f y) = absurd (cc)
  leads_once (goes e x) (stays f) = absurd (cc)
  leads_once {v} {r} {s} (goes {w = w} e x) (goes {w = u} f y) = let k : w ≡ u = cc in leads_once x (subst (λ z. Leads b z s) (sym k) y)

  pub leads_open : {v r : ℕ} → Leads b v r → target_of b r ≡ None
  leads_open (stays e) = e
  leads_open (goes e x) = leads_open x

  pub root_is : IsForest b → (v r : ℕ) → Leads b v r → r ≡ root b v
  root_is f v r x = leads_once x (leads_to_root f v)

  remaining-enough_by : (n v : ℕ) (t : Option ℕ) → ((w : ℕ) → target_of b (follow n b w) ≡ None → remaining (suc n) b w ≡ remaining n b w)
      → target_of b (follow n b (onward t v)) ≡ None → counted t (remaining (suc n) b (onward t v)) ≡ counted t (remaining n b (onward t v))
  remaining-enough_by n v None ih e = refl
  remaining-enough_by n v (Some w) ih e = ap suc (ih w e)

  remaining-enough : (n v : ℕ) → target_of b (follow n b v) ≡ None → remaining (suc n) b v ≡ remaining n b v
  remaining-enough zero v e = rw e refl
  remaining-enough (suc n) v e = remaining-enough_by n v (target_of b v) (remaining-enough n) e

  pub remaining-falls : (n v w : ℕ) → target_of b v ≡ Some w → target_of b (follow n b v) ≡ None → remaining n b w < remaining n b v
  remaining-falls zero v w e h = absurd (cc)
  remaining-falls (suc n) v w e h =
      let k : target_of b (follow n b w) ≡ None = rw e at h in
      let a : remaining (suc n) b w ≡ remaining n b w = remaining-enough n w k in
      rw (a, e) (omega arith)

  -- the steps of a way, and the variables that it goes through
  steps : {v r : ℕ} → Leads b v r → ℕ
  steps (stays e) = zero
  steps (goes e x) = suc (steps x)

  path : {v r : ℕ} → Leads b v r → List ℕ
  path (stays e) = []
  path (goes {v = v} e x) = v ∷ path x

  length-path : {v r : ℕ} (x : Leads b v r) → length (path x) ≡ steps x
  unfolding path steps
  length-path (stays e) = refl
  length-path (goes e x) = ap suc (length-path x)

  steps_once : {v r u s : ℕ} (x : Leads b v r) (y : Leads b u s) → v ≡ u → steps x ≡ steps y
  unfolding steps
  steps_once (stays e) (stays f) k = refl
  steps_once {v} {r} {u} (stays e) (goes f y) k = let e' : target_of b u ≡ None = rw k at e in absurd (cc)
  steps_once {v} {r} {u} (goes e x) (stays f) k = let e' : target_of b v ≡ None = rw (← k) at f in absurd (cc)
  steps_once {v} {r} {u} (goes {w = w} e x) (goes {w = z} f y) k = let e' : target_of b u ≡ Some w = rw k at e in ap suc (steps_once x y (cc))

  off_path : (v n : ℕ) → ((u s : ℕ) (y : Leads b u s) → v ≡ u → steps y ≡ n) → {u r : ℕ} (x : Leads b u r) → steps x < n
      → AllByRecursion (λ y. eqb v y ≡ false) (path x)
  unfolding path steps
  off_path v n h (stays e) l = tt
  off_path v n h {u} {r} (goes {w = w} e x) l =
      let k : v ≢ u = λ i. (let j = h u r (goes e x) i in omega arith) in
      (ne_eqb v u k, off_path v n h x (omega arith))

  path_distinct : {v r : ℕ} (x : Leads b v r) → IsDistinct eqb (path x)
  unfolding path steps IsDistinct
  path_distinct (stays e) = tt
  path_distinct {v} (goes e x) = IsDistinct-cons eqb v (path x) (off_path v (suc (steps x)) (λ u s y i. steps_once y (goes e x) (sym i)) x (omega arith)) (path_distinct x)

  pub below_count : (v w : ℕ) → target_of b v ≡ Some w → v < length b
  below_count v w e = elim (cases_lt v (length b)) [ inl l ↦ l | inr g ↦ (let p : get_or b v Free ≡ Free = get_or_past b v Free (omega arith) in let q : target_of b v ≡ None = rw p refl in absurd (cc)) ]

  path_below : {v r : ℕ} (x : Leads b v r) (q : ℕ) → list_any (eqb q) (path x) ≡ true → q < length b
  unfolding path
  path_below (stays e) q h = absurd (cc)
  path_below {v} (goes {w = w} e x) q h = elim (cases_eq q v) [
    | inl i ↦ rw i (below_count v w e)
    | inr n ↦ path_below x q (let k : eqb q v ≡ false = ne_eqb q v n in rw k at h)
  ]

  steps-le : {v r : ℕ} (x : Leads b v r) → steps x ≤ length b
  steps-le x = rw length-path at (length-le_from_distinct_below (path x) (length b) (path_distinct x) (path_below x))

  follow-leads : {v r : ℕ} (x : Leads b v r) (n : ℕ) → steps x ≤ n → follow n b v ≡ r
  unfolding steps
  follow-leads {v} (stays e) n l = follow-stays n v e
  follow-leads (goes e x) zero l = absurd (omega arith)
  follow-leads (goes e x) (suc n) l = rw e (follow-leads x n (omega arith))

  -- a way ends at the root
  pub leads_root : {v r : ℕ} → Leads b v r → root b v ≡ r
  leads_root x = follow-leads x (length b) (steps-le x)

  pub forest_by : ((v w : ℕ) → target_of b v ≡ Some w → w < length b) → ((v : ℕ) → (r : ℕ) × Leads b v r) → IsForest b
  forest_by within all = record { within = within; ends = λ v. rw (leads_root (all v).1) (leads_open (all v).1) }

-- a free variable more
module _ (b : List Bound) where
  pub added-target : (v : ℕ) → target_of (b ++ Free ∷ []) v ≡ target_of b v
  added-target v = ap target (elim (cases_lt v (length b)) [
    | inl l ↦ get_or_append_left b (Free ∷ []) Free v l
    | inr g ↦ (let p : get_or b v Free ≡ Free = get_or_past b v Free (omega arith) in elim (cases_eq v (length b)) [
      | inl i ↦ get_or_push b Free Free v (sym i) ∙ sym p
      | inr n ↦ get_or_past (b ++ Free ∷ []) v Free (omega (arith, length_push b Free)) ∙ sym p
    ])
  ])

  added-follow : (n v : ℕ) → follow n (b ++ Free ∷ []) v ≡ follow n b v
  added-follow zero v = refl
  added-follow (suc n) v = rw added-target (added-follow n (onward (target_of b v) v))

  pub forest_added : IsForest b → IsForest (b ++ Free ∷ [])
  forest_added f = record {
    within = λ v w e. (let l = f.within v w (rw added-target at e) in omega (arith, length_push b Free));
    ends = λ v. (let n : length (b ++ Free ∷ []) ≡ suc (length b) = omega (arith, length_push b Free) in
        rw (n, added-target (follow (suc (length b)) (b ++ Free ∷ []) v), added-follow (suc (length b)) v) (f.ends (onward (target_of b v) v)));
  }

-- a root bound to another variable
module _ (b : List Bound) (v to w : ℕ) (l : v < length b) (m : to < length b) (open' : target_of b v ≡ None) where
  pub bound-same : target_of (set b v (Variable to)) v ≡ Some to
  bound-same = ap target (get_or-set_same b v (Variable to) Free l)

  pub bound-other : (u : ℕ) → u ≢ v → target_of (set b v (Variable to)) u ≡ target_of b u
  bound-other u n = ap target (get_or-set_other b v u (Variable to) Free n)

  -- ways that end elsewhere stay
  pub leads_kept : {u r : ℕ} → Leads b u r → r ≢ v → Leads (set b v (Variable to)) u r
  leads_kept {u} (stays e) n = stays (bound-other u n ∙ e)
  leads_kept {u} (goes e x) n = goes (bound-other u (λ i. (let e' : target_of b v ≡ _ = rw i at e in absurd (cc))) ∙ e) (leads_kept x n)

  -- ways that ended at v go on
  pub leads_on : {u r : ℕ} → Leads b u r → r ≡ v → Leads b to w → w ≢ v → Leads (set b v (Variable to)) u w
  leads_on {u} (stays e) i y n = rw i (goes bound-same (leads_kept y n))
  leads_on {u} (goes e x) i y n = goes (bound-other u (λ k. (let e' : target_of b v ≡ _ = rw k at e in absurd (cc))) ∙ e) (leads_on x i y n)

  pub leads_bound : IsForest b → Leads b to w → w ≢ v → (u : ℕ) → (r : ℕ) × Leads (set b v (Variable to)) u r
  leads_bound f y n u = elim (cases_eq (root b u) v) [
    | inl i ↦ (w, leads_on (leads_to_root b f u) i y n)
    | inr k ↦ (root b u, leads_kept (leads_to_root b f u) k)
  ]

  pub forest_bound : IsForest b → Leads b to w → w ≢ v → IsForest (set b v (Variable to))
  forest_bound f y n = forest_by (set b v (Variable to))
      (λ u z e. elim (cases_eq u v) [
        | inl i ↦ (let e' : target_of (set b v (Variable to)) v ≡ Some z = rw i at e in let k : to ≡ z = (let s = bound-same in cc) in rw (length-set, ← k) m)
        | inr k ↦ rw length-set (f.within u z (sym (bound-other u k) ∙ e))
      ])
      (leads_bound f y n)

-- the roots after a binding
module _ (b : List Bound) (v to w : ℕ) (l : v < length b) (m : to < length b) (open' : target_of b v ≡ None) (f : IsForest b) (y : Leads b to w) (n : w ≢ v) where
  pub root-joined : (u : ℕ) → root b u ≡ v → root (set b v (Variable to)) u ≡ w
  root-joined u e = leads_root (set b v (Variable to)) (leads_on b v to w l m open' (leads_to_root b f u) e y n)

  pub root-kept : (u : ℕ) → root b u ≢ v → root (set b v (Variable to)) u ≡ root b u
  root-kept u k = leads_root (set b v (Variable to)) (leads_kept b v to w l m open' (leads_to_root b f u) k)

pub root_of_root : (b : List Bound) (v : ℕ) → target_of b v ≡ None → root b v ≡ v
root_of_root b v e = leads_root b (stays e)

pub root-within : (b : List Bound) → IsForest b → {v r : ℕ} → Leads b v r → v < length b → r < length b
root-within b f (stays e) l = l
root-within b f (goes {v = v} {w = w} e x) l = root-within b f x (f.within v w e)

pub root-added : (b : List Bound) → IsForest b → (v : ℕ) → root (b ++ Free ∷ []) v ≡ root b v
root-added b f v =
    leads_once b (subst (λ z. Leads b v z) (sym (same v)) (leads_by b (suc (length b)) v (f.ends (onward (target_of b v) v)))) (leads_to_root b f v)
  where
    same : (u : ℕ) → root (b ++ Free ∷ []) u ≡ follow (suc (length b)) b u
    same u = let n : length (b ++ Free ∷ []) ≡ suc (length b) = omega (arith, length_push b Free) in rw n (added-follow b (suc (length b)) u)
