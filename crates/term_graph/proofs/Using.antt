-- The terms that a class is mentioned by, chosen from its ring.
use Rattle.std.proofs.Common.{ℕ, zero, suc, ◌≡◌, ◌≢◌, ◌<◌, ◌≤◌, ◌+◌, true, false, List, [], ◌∷◌, ◌++◌, length, map, get_or, refl, sym, ap, ◌∙◌, subst, inl, inr, Some, None, arith}
use Rattle.std.specs.Prelude.{Option, Contains, nat_eq}
use Rattle.std.specs.List.{AllByRecursion, position_or_len}
use Rattle.std.proofs.lemmas.Bool.{cases_eq, eq-eqb, ne_eqb}
use Rattle.std.proofs.lemmas.List.{append-nil, get_or-map, length-map}
use Rattle.std.proofs.lemmas.List.Elements.{Contains-append_cases, Contains-append_left, Contains-append_right}
use Rattle.std.proofs.lemmas.List.Sums.{position_or_len_is}
use Rattle.lists.specs.Distinct.{IsDistinct}
use Rattle.index_lists.specs.Rings.{Way, there, on, IsRound}
use Rattle.index_lists.proofs.Rounds.{way_leaves, absent_from}
use Rattle.term_graph.specs.declared.bound.Bound.{Bound}
use Rattle.term_graph.specs.declared.term.Term.{Term as Made}
use Rattle.term_graph.specs.declared.parts.Mention.{Mention}
use Rattle.term_graph.specs.Contents.{root, target_of, term_at, AreUsers}
use Rattle.term_graph.specs.Fields.{first_of, chosen}
use Rattle.term_graph.specs.Good.{AreRinged, AreMentioned, IsClass}
use Rattle.term_graph.proofs.Ringing.{contains_first, contains_later}
use Rattle.term_graph.proofs.Walking.{gathered, IsWalked, walk_ends}

pub way_cells : (next : List ℕ) (stop : ℕ) {c : ℕ} {xs : List ℕ} → Way next stop c xs → IsDistinct xs
way_cells next stop there = tt
way_cells next stop (on {c = c} {cells = xs} k p) = (absent_from c xs (way_leaves next stop (on k p)), way_cells next stop p)

pub all_at : (P : ℕ → Type 0) (xs : List ℕ) (x : ℕ) → AllByRecursion P xs → Contains xs x → P x
all_at P [] x h c = absurd (let l = c.1 in omega arith)
all_at P (y ∷ ys) x h (zero, l, e) = subst P e h.0
all_at P (y ∷ ys) x h (suc k, l, e) = all_at P ys x h.1 (k, (omega arith), e)

contains_only : (x c : ℕ) → Contains (x ∷ []) c → x ≡ c
contains_only x c (zero, l, e) = e
contains_only x c (suc k, l, e) = absurd (omega arith)

contains_none : (c : ℕ) → Contains [] c → ⊥
contains_none c h = (let l = h.1 in omega arith)

-- the first place of an argument with the root
first_at : (b : List Bound) (r : ℕ) (xs : List ℕ) (i : ℕ) → i < length xs → root b (get_or xs i 0) ≡ r
    → (position_or_len (λ x. nat_eq (root b x) r) xs < length xs) × (root b (get_or xs (position_or_len (λ x. nat_eq (root b x) r) xs) 0) ≡ r)
first_at b r [] i l e = absurd (omega arith)
first_at b r (x ∷ xs) i l e = elim (cases_eq (root b x) r) [
  | inl k ↦ (let t : nat_eq (root b x) r ≡ true = eq-eqb (root b x) r k in rw t (omega arith, k))
  | inr n ↦ (let t : nat_eq (root b x) r ≡ false = ne_eqb (root b x) r n in rw t (by i l e n (position_or_len (λ y. nat_eq (root b y) r) xs) (first_at b r xs)))
]
  where
    by : (j : ℕ) → j < suc (length xs) → root b (get_or (x ∷ xs) j 0) ≡ r → root b x ≢ r → (p : ℕ) → ((k : ℕ) → k < length xs → root b (get_or xs k 0) ≡ r → (p < length xs) × (root b (get_or xs p 0) ≡ r))
        → (1 + p < suc (length xs)) × (root b (get_or (x ∷ xs) (1 + p) 0) ≡ r)
    by zero l e n p h = absurd (n e)
    by (suc j) l e n p h = (let w = h j (omega arith) e in let q : 1 + p ≡ suc p = omega arith in let w0 = w.0 in rw q (omega arith, w.1))

-- a loop over the arguments
module _ (b : List Bound) (args : List ℕ) (r : ℕ) where
  abbrev IsNoneBefore : ℕ → Type 0
  IsNoneBefore i = (k : ℕ) → k < i → nat_eq (root b (get_or args k 0)) r ≡ false

  pub first_found : (i : ℕ) → i < length args → IsNoneBefore i → root b (get_or args i 0) ≡ r → i ≡ position_or_len (λ x. nat_eq (root b x) r) args
  first_found i l h e = sym (position_or_len_is (λ x. nat_eq (root b x) r) args i 0 (omega arith) h (λ k. eq-eqb (root b (get_or args i 0)) r e))

  pub first_absent : (i : ℕ) → length args ≤ i → IsNoneBefore i → length args ≡ position_or_len (λ x. nat_eq (root b x) r) args
  first_absent i l h = sym (position_or_len_is (λ x. nat_eq (root b x) r) args (length args) 0 (omega arith) (λ k kl. h k (omega arith)) (λ k. absurd (omega arith)))

  pub first_later : (i : ℕ) → IsNoneBefore i → root b (get_or args i 0) ≢ r → IsNoneBefore (i + 1)
  first_later i h n k l = elim (cases_eq k i) [ inl e ↦ ap (λ z. nat_eq (root b (get_or args z 0)) r) e ∙ ne_eqb (root b (get_or args i 0)) r n | inr m ↦ h k (omega (arith, m)) ]

-- a mention is chosen or not
pub chosen_yes : (b : List Bound) (terms : List Made) (r : ℕ) (o : Option Mention) (m : Mention) (p : ℕ) (xs ys : List ℕ) → o ≡ Some m → p ≡ first_of b terms r m.term → m.place ≡ p → ys ≡ xs ++ m.term ∷ []
    → ys ≡ xs ++ chosen b terms r o
chosen_yes b terms r o m p xs ys e f k h = rw e (let q : nat_eq m.place (first_of b terms r m.term) ≡ true = eq-eqb m.place (first_of b terms r m.term) (k ∙ f) in rw q h)

pub chosen_no : (b : List Bound) (terms : List Made) (r : ℕ) (o : Option Mention) (m : Mention) (p : ℕ) (xs : List ℕ) → o ≡ Some m → p ≡ first_of b terms r m.term → m.place ≢ p → xs ≡ xs ++ chosen b terms r o
chosen_no b terms r o m p xs e f n = rw e (let q : nat_eq m.place (first_of b terms r m.term) ≡ false = ne_eqb m.place (first_of b terms r m.term) (λ k. n (k ∙ sym f)) in rw q (sym (append-nil xs)))

module _ (b : List Bound) (heads owners next : List ℕ) (ms : List (Option Mention)) (terms : List Made) (g : AreRinged b heads owners next) (men : AreMentioned heads owners terms ms)
    (r : ℕ) (rl : r < length b) (ro : target_of b r ≡ None) where
  abbrev K : IsClass b heads owners next r
  K = g.classes r rl ro

  abbrev pub give : ℕ → List ℕ
  give c = chosen b terms r (get_or ms c None)

  abbrev first : ℕ → Mention
  first t = record { term = t; place = first_of b terms r t }

  abbrev HasFirst : List ℕ → ℕ → Type 0
  HasFirst cs t = (c : ℕ) × Contains cs c × (get_or ms c None ≡ Some (first t))

  chosen_from : (o : Option Mention) (t : ℕ) → Contains (chosen b terms r o) t → o ≡ Some (first t)
  chosen_from None t h = absurd (contains_none t h)
  chosen_from (Some m) t h = elim (cases_eq m.place (first_of b terms r m.term)) [
    | inl e ↦ (
        let q : nat_eq m.place (first_of b terms r m.term) ≡ true = eq-eqb m.place (first_of b terms r m.term) e in
        let k : m.term ≡ t = contains_only m.term t (rw q at h) in
        ap (λ z. Some (record { term = m.term; place = z })) e ∙ ap (λ z. Some (first z)) k)
    | inr n ↦ (let q : nat_eq m.place (first_of b terms r m.term) ≡ false = ne_eqb m.place (first_of b terms r m.term) n in absurd (contains_none t (rw q at h)))
  ]

  chosen_has : (o : Option Mention) (t : ℕ) → o ≡ Some (first t) → Contains (chosen b terms r o) t
  chosen_has o t e = rw e (let q : nat_eq (first_of b terms r t) (first_of b terms r t) ≡ true = eq-eqb (first_of b terms r t) (first_of b terms r t) refl in rw q (contains_first t []))

  gathered_from : (cs : List ℕ) (t : ℕ) → Contains (gathered give cs) t → HasFirst cs t
  gathered_from [] t h = absurd (contains_none t h)
  gathered_from (c ∷ cs) t h = elim (Contains-append_cases (give c) (gathered give cs) t h) [
    | inl p ↦ (c, contains_first c cs, chosen_from (get_or ms c None) t p)
    | inr p ↦ (let w = gathered_from cs t p in (w.0, contains_later c w.0 cs w.1, w.2))
  ]

  gathered_has : (cs : List ℕ) (t : ℕ) → HasFirst cs t → Contains (gathered give cs) t
  gathered_has [] t w = absurd (contains_none w.0 w.1)
  gathered_has (c ∷ cs) t w = elim (Contains-append_cases (c ∷ []) cs w.0 w.1) [
    | inl p ↦ Contains-append_left (give c) (gathered give cs) t (chosen_has (get_or ms c None) t (ap (λ z. get_or ms z None) (contains_only c w.0 p) ∙ w.2))
    | inr p ↦ Contains-append_right (give c) (gathered give cs) t (gathered_has cs t (w.0, p, w.2))
  ]

  -- no term is chosen twice, since each mention has one cell
  chosen_once : (c : ℕ) (cs : List ℕ) → ¬ Contains cs c → (o : Option Mention) → get_or ms c None ≡ o → IsDistinct (gathered give cs) → IsDistinct (chosen b terms r o ++ gathered give cs)
  chosen_once c cs n None e h = h
  chosen_once c cs n (Some m) e h = elim (cases_eq m.place (first_of b terms r m.term)) [
    | inl k ↦ (
        let q : nat_eq m.place (first_of b terms r m.term) ≡ true = eq-eqb m.place (first_of b terms r m.term) k in
        let f : get_or ms c None ≡ Some (first m.term) = e ∙ ap (λ z. Some (record { term = m.term; place = z })) k in
        rw q ((λ i. (let w = gathered_from cs m.term i in n (subst (Contains cs) (men.once w.0 c (first m.term) w.2 f) w.1))), h))
    | inr k ↦ (let q : nat_eq m.place (first_of b terms r m.term) ≡ false = ne_eqb m.place (first_of b terms r m.term) k in rw q h)
  ]

  gathered_distinct : (cs : List ℕ) → IsDistinct cs → IsDistinct (gathered give cs)
  gathered_distinct [] h = tt
  gathered_distinct (c ∷ cs) h = chosen_once c cs h.0 (get_or ms c None) refl (gathered_distinct cs h.1)

  abbrev Mentions : ℕ → Type 0
  Mentions t = (t < length terms) × Contains (map (root b) (term_at terms t).args) r

  mention_from : (t : ℕ) → HasFirst K.rest t → Mentions t
  mention_from t w =
      let m = men.right w.0 (first t) w.2 in
      let e : root b (get_or (term_at terms t).args (first_of b terms r t) 0) ≡ r = ap (root b) m.2 ∙ all_at (λ c. root b (get_or owners c 0) ≡ r) K.rest w.0 K.owned w.1 in
      let l : first_of b terms r t < length (map (root b) (term_at terms t).args) = rw length-map m.1 in
      (m.0, (first_of b terms r t, l, get_or-map (root b) (term_at terms t).args (first_of b terms r t) 0 r m.1 ∙ e))

  mention_has : (t : ℕ) → Mentions t → HasFirst K.rest t
  mention_has t p =
      let i = p.1.0 in
      let il : p.1.0 < length (term_at terms t).args = rw length-map at p.1.1 in
      let f = first_at b r (term_at terms t).args p.1.0 il (sym (get_or-map (root b) (term_at terms t).args p.1.0 0 r il) ∙ p.1.2) in
      let a = men.all t (first_of b terms r t) p.0 f.0 in
      let m = men.right a.0 (first t) a.2 in
      let al : a.0 < length next = rw g.cells at a.1 in
      elim (Contains-append_cases (get_or heads r 0 ∷ []) K.rest a.0 (K.whole a.0 al (ap (root b) (sym m.2) ∙ f.1))) [
        | inl q ↦ absurd (
            let z : get_or ms a.0 None ≡ None = ap (λ y. get_or ms y None) (sym (contains_only (get_or heads r 0) a.0 q)) ∙ men.own r (rw g.variables rl) in
            let y = a.2 in
            cc)
        | inr q ↦ (a.0, q, a.2)
      ]

  users_are : (list : List ℕ) → list ≡ gathered give K.rest → AreUsers b terms r list
  users_are list e = record {
    distinct = subst IsDistinct (sym e) (gathered_distinct K.rest (way_cells next (get_or heads r 0) K.round.way));
    each = λ t. (
      (λ h. mention_from t (gathered_from K.rest t (subst (λ z. Contains z t) e h))),
      λ h. subst (λ z. Contains z t) (sym e) (gathered_has K.rest t (mention_has t h)),
    );
  }

  pub users_walked : (head at : ℕ) (list : List ℕ) → head ≡ get_or heads r 0 → at ≡ head → IsWalked next give head at list → AreUsers b terms r list
  users_walked head at list he e w = users_are list (walk_ends next head g.inside give at list K.rest e (subst (λ z. IsRound next z K.rest) (sym he) K.round) w)
