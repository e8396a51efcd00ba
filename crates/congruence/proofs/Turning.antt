-- What the loops of a turn keep.
use Rattle.std.proofs.Common.{ℕ, Bool, true, false, zero, suc, ◌<◌, ◌≤◌, ◌+◌, ◌≡◌, ◌≢◌, List, [], ◌∷◌, ◌++◌, length, map, take, get_or, refl, sym, ◌∙◌, ap, subst, inl, inr, ◌⊎◌, Some, None, Option, arith, get_or-set_other}
use Rattle.std.specs.Prelude.{Contains, slice_index, slice_set, MatchBool, MatchOption, cond, nat_eq}
use Rattle.std.proofs.lemmas.Bool.{eqb-true, eq-eqb, cases_eq, ne_eqb}
use Rattle.tree_model.specs.declared.tree.Symbol.{Symbol}
use Rattle.std.proofs.lemmas.List.{length_push, length-append, length-map, take_all}
use Rattle.std.specs.Prelude.{All}
use Rattle.std.proofs.lemmas.List.Elements.{Contains-append_left, Contains-append_right, Contains-append_cases}
use Rattle.tree_facts.proofs.Members.{contains_first, contains_later, contains_cases}
use Rattle.term_graph.specs.Contents.{Contents, IsLeader, term_at, binding_of, target, target_of, root, AreUsers, IsWellFormed}
use Rattle.term_graph.specs.declared.bound.Bound.{Bound}
use Rattle.term_graph.specs.declared.bound.Bound.TheVariants.{Free, Variable, Term}
use Rattle.term_graph.proofs.Forests.{root_of_root}
use Rattle.std.proofs.lemmas.Map.Steps.{length-le_from_distinct_below}
use Rattle.std.proofs.lemmas.Map.Keys.{IsDistinct-cons}
use Rattle.std.proofs.lemmas.Map.Views.{Contains-from_any}
use Rattle.std.specs.List.{AllByRecursion, IsDistinct as IsDistinctBy}
use lib.Dec.{eqb}
use Rattle.lists.specs.Distinct.{IsDistinct}
use Rattle.settled_facts.specs.Settled.{name, IsFree, IsMarked}
use Rattle.settled_facts.proofs.Terms.{shaped_of, name_twice}
use Rattle.settled_facts.proofs.ReadOff.{name_within}
use Rattle.congruence.specs.declared.noting.Note.{Note}
use Rattle.congruence.specs.Merges.{redirected, Leads}
use Rattle.congruence.specs.Turns.{IsChoice, Differ, TermsWait, IsWatched, AreWatched, ArePairedBelow, AreNotesOf, AreNotes, IsNoteOf, IsMet, IsLink, links_before, links_of, AreLinked}
use Rattle.congruence.proofs.Atoms.{contains_none, contains_last, before_or_last}

pub paired_none : (xs ys : List ℕ) (old : List (ℕ × ℕ)) → ArePairedBelow 0 xs ys old old
paired_none xs ys old x y = (
  λ inside. inl inside,
  λ either. elim either [
    | inl inside ↦ inside
    | inr (i, w, e, f) ↦ absurd (omega (arith, w))
  ],
)

below_or_at : (j i : ℕ) → j < i + 1 → (j < i) ⊎ (j ≡ i)
below_or_at j i w = grind (arith, w)

pub paired_more : (i : ℕ) (xs ys : List ℕ) (old now : List (ℕ × ℕ)) (a b : ℕ) → a ≡ slice_index xs i → b ≡ slice_index ys i
    → ArePairedBelow i xs ys old now → ArePairedBelow (i + 1) xs ys old (now ++ (a, b) ∷ [])
paired_more i xs ys old now a b e f paired x y = (
  λ inside. elim (before_or_last now (a, b) (x, y) inside) [
    | inl before ↦ elim ((paired x y).0 before) [
      | inl was ↦ inl was
      | inr (j, w, g, h) ↦ inr (j, omega (arith, w), g, h)
    ]
    | inr same ↦ inr (i, omega arith, sym e ∙ ap (λ (p : ℕ × ℕ). p.0) same, sym f ∙ ap (λ (p : ℕ × ℕ). p.1) same)
  ],
  λ either. elim either [
    | inl was ↦ Contains-append_left now ((a, b) ∷ []) (x, y) ((paired x y).1 (inl was))
    | inr (j, w, g, h) ↦ elim (below_or_at j i w) [
      | inl low ↦ Contains-append_left now ((a, b) ∷ []) (x, y) ((paired x y).1 (inr (j, low, g, h)))
      | inr at ↦
          let p : a ≡ x = e ∙ ap (slice_index xs) (sym at) ∙ g in
          let q : b ≡ y = f ∙ ap (slice_index ys) (sym at) ∙ h in
          let one : (a, b) ≡ (x, y) = rw (p, q) refl in
          subst (λ (z : ℕ × ℕ). Contains {X = ℕ × ℕ} (now ++ (a, b) ∷ []) z) one (contains_last now (a, b))
    ]
  ],
)

-- what is found under the symbol and arguments of a term is its leader
pub found_of : (c : Contents) (t : ℕ) (s : Symbol) (xs : List ℕ) (found : Option ℕ) → s ≡ (term_at c.terms t).symbol → xs ≡ (term_at c.terms t).args
    → IsLeader c.bindings c.terms s (map (name c) xs) found → IsLeader c.bindings c.terms (term_at c.terms t).symbol (map (name c) (term_at c.terms t).args) found
found_of c t s xs found e f is = subst (λ (z : Symbol). IsLeader c.bindings c.terms z (map (name c) (term_at c.terms t).args) found) e
    (subst (λ (z : List ℕ). IsLeader c.bindings c.terms s (map (name c) z) found) f is)

one_least : (c : Contents) (t l m : ℕ) → Leads c t l → Leads c t m → l ≡ m
one_least c t l m is are = let one : l ≤ m = is.1 m are.0 in let other : m ≤ l = are.1 l is.0 in omega arith

pub linked_none : (c : Contents) (old : List (ℕ × ℕ)) → AreLinked c old old []
linked_none c old = record {
  kept = λ x y inside. inside;
  moved = λ note m inside. absurd (contains_none note inside);
  taken = λ note o inside. absurd (contains_none note inside);
  each = λ x y inside. inl inside;
  few = omega arith;
}

module _ (c : Contents) (old now : List (ℕ × ℕ)) (seen : List Note) (note : Note) (linked : AreLinked c old now seen) where
  link_later : (x y : ℕ) → IsLink c seen x y → IsLink c (seen ++ note ∷ []) x y
  link_later x y (n, inside, is) = (n, Contains-append_left seen (note ∷ []) n inside, is)

  linked_by : (added : List (ℕ × ℕ)) → length added ≤ 1
      → ((m : ℕ) → Leads c note.term m → m ≢ note.term → Contains {X = ℕ × ℕ} added (note.term, m))
      → ((o : ℕ) → Leads c note.term note.term → note.before ≡ Some o → Contains {X = ℕ × ℕ} added (o, note.term))
      → ((x y : ℕ) → Contains {X = ℕ × ℕ} added (x, y) → ((x ≡ note.term) × Leads c note.term y) ⊎ ((note.before ≡ Some x) × (y ≡ note.term)))
      → AreLinked c old (now ++ added) (seen ++ note ∷ [])
  linked_by added few moved taken each = record {
    kept = λ x y inside. Contains-append_left now added (x, y) (linked.kept x y inside);
    moved = λ n m inside leads other. elim (before_or_last seen note n inside) [
      | inl before ↦ Contains-append_left now added (n.term, m) (linked.moved n m before leads other)
      | inr e ↦ Contains-append_right now added (n.term, m) (subst (λ (z : Note). Leads c z.term m → m ≢ z.term → Contains {X = ℕ × ℕ} added (z.term, m)) e (moved m) leads other)
    ];
    taken = λ n o inside leads was. elim (before_or_last seen note n inside) [
      | inl before ↦ Contains-append_left now added (o, n.term) (linked.taken n o before leads was)
      | inr e ↦ Contains-append_right now added (o, n.term) (subst (λ (z : Note). Leads c z.term z.term → z.before ≡ Some o → Contains {X = ℕ × ℕ} added (o, z.term)) e (taken o) leads was)
    ];
    each = λ x y inside. elim (Contains-append_cases now added (x, y) inside) [
      | inl before ↦ elim (linked.each x y before) [
        | inl was ↦ inl was
        | inr link ↦ inr (link_later x y link)
      ]
      | inr behind ↦ inr (note, contains_last seen note, each x y behind)
    ];
    few = omega (arith, linked.few, few, length-append now added, length-append seen (note ∷ []));
  }

  only : (a b x y : ℕ) (P : ℕ → ℕ → Type 0) → P a b → Contains {X = ℕ × ℕ} ((a, b) ∷ []) (x, y) → P x y
  only a b x y P holds inside = elim (contains_cases (a, b) (x, y) [] inside) [
    | inl e ↦ subst (λ (p : ℕ × ℕ). P p.0 p.1) e holds
    | inr more ↦ absurd (contains_none (x, y) more)
  ]

  linked_at : (m : ℕ) (before : Option ℕ) → before ≡ note.before → Leads c note.term m → m ≡ note.term → AreLinked c old (now ++ links_before note.term before) (seen ++ note ∷ [])
  linked_at m None e leads same = linked_by [] (omega arith)
      (λ l is other. absurd (other (one_least c note.term l m is leads ∙ same)))
      (λ o is was. absurd (cc))
      (λ x y inside. absurd (contains_none (x, y) inside))
  linked_at m (Some p) e leads same = linked_by ((p, note.term) ∷ []) (omega arith)
      (λ l is other. absurd (other (one_least c note.term l m is leads ∙ same)))
      (λ o is was. (let f : p ≡ o = cc in subst (λ z. Contains {X = ℕ × ℕ} ((p, note.term) ∷ []) (z, note.term)) f (contains_first (p, note.term) [])))
      (λ x y inside. only p note.term x y (λ a b. ((a ≡ note.term) × Leads c note.term b) ⊎ ((note.before ≡ Some a) × (b ≡ note.term))) (inr (sym e, refl)) inside)

  linked_cond : (m : ℕ) (same : Bool) → same ≡ nat_eq m note.term → Leads c note.term m
      → AreLinked c old (now ++ cond same (links_before note.term note.before) ((note.term, m) ∷ [])) (seen ++ note ∷ [])
  linked_cond m true e leads = linked_at m note.before refl leads (eqb-true m note.term (sym e))
  linked_cond m false e leads = linked_by ((note.term, m) ∷ []) (omega arith)
      (λ l is other. subst (λ z. Contains {X = ℕ × ℕ} ((note.term, m) ∷ []) (note.term, z)) (one_least c note.term m l leads is) (contains_first (note.term, m) []))
      (λ o is was. absurd (let same : m ≡ note.term = one_least c note.term m note.term leads is in let t : nat_eq m note.term ≡ true = eq-eqb m note.term same in cc))
      (λ x y inside. only note.term m x y (λ a b. ((a ≡ note.term) × Leads c note.term b) ⊎ ((note.before ≡ Some a) × (b ≡ note.term))) (inl (refl, leads)) inside)

  pub linked_more : (found : Option ℕ) → IsLeader c.bindings c.terms (term_at c.terms note.term).symbol (map (name c) (term_at c.terms note.term).args) found
      → AreLinked c old (now ++ links_of note found) (seen ++ note ∷ [])
  linked_more None none = linked_by [] (omega arith)
      (λ m is other. absurd (none m is.0))
      (λ o is was. absurd (none note.term is.0))
      (λ x y inside. absurd (contains_none (x, y) inside))
  linked_more (Some m) leads = linked_cond m (nat_eq m note.term) refl leads

pub noted_none : (c : Contents) (v w : ℕ) → AreNotesOf c v w [] []
noted_none c v w = record {
  all = λ t inside. absurd (contains_none t inside);
  each = λ note inside. absurd (contains_none note inside);
  few = omega arith;
}

module _ (c : Contents) (v w : ℕ) (seen : List ℕ) (notes : List Note) (t : ℕ) (noted : AreNotesOf c v w seen notes) where
  pub noted_less : (¬ Leads c t t) → AreNotesOf c v w (seen ++ t ∷ []) notes
  noted_less fails = record {
    all = λ u inside leads. elim (before_or_last seen t u inside) [
      | inl before ↦ noted.all u before leads
      | inr e ↦ absurd (fails (subst (λ z. Leads c z z) (sym e) leads))
    ];
    each = λ note inside. let was = noted.each note inside in (Contains-append_left seen (t ∷ []) note.term was.0, was.1, was.2);
    few = omega (arith, noted.few, length_push seen t);
  }

  pub noted_more : (note : Note) → IsNoteOf c v w t note → AreNotesOf c v w (seen ++ t ∷ []) (notes ++ note ∷ [])
  noted_more note is = record {
    all = λ u inside leads. elim (before_or_last seen t u inside) [
      | inl before ↦ let was = noted.all u before leads in (was.0, Contains-append_left notes (note ∷ []) was.0 was.1, was.2)
      | inr e ↦ (note, contains_last notes note, is.is ∙ e)
    ];
    each = λ n inside. elim (before_or_last notes note n inside) [
      | inl before ↦ let was = noted.each n before in (Contains-append_left seen (t ∷ []) n.term was.0, was.1, was.2)
      | inr e ↦ subst (λ (z : Note). Contains (seen ++ t ∷ []) z.term × Leads c z.term z.term × IsMet c v w z.term z.before) e (
        subst (Contains (seen ++ t ∷ [])) (sym is.is) (contains_last seen t),
        subst (λ z. Leads c z z) (sym is.is) is.leads,
        subst (λ z. IsMet c v w z note.before) (sym is.is) is.met,
      )
    ];
    few = omega (arith, noted.few, length_push seen t, length_push notes note);
  }

no_other : (x : ℕ) (xs : List ℕ) → (¬ Contains xs x) → AllByRecursion (λ y. eqb x y ≡ false) xs
no_other x [] outside = tt
no_other x (y ∷ ys) outside = (
  ne_eqb x y (λ e. outside (subst (Contains (y ∷ ys)) (sym e) (contains_first y ys))),
  no_other x ys (λ inside. outside (contains_later y x ys inside)),
)

distinct_is : (xs : List ℕ) → IsDistinct xs → IsDistinctBy eqb xs
unfolding IsDistinctBy
distinct_is [] d = tt
distinct_is (x ∷ xs) d = IsDistinct-cons eqb x xs (no_other x xs d.0) (distinct_is xs d.1)

few_below : (xs : List ℕ) (n : ℕ) → IsDistinct xs → ((x : ℕ) → Contains xs x → x < n) → length xs ≤ n
few_below xs n d below = length-le_from_distinct_below xs n (distinct_is xs d) (λ q inside. below q (Contains-from_any {eq = eqb} (λ x y. eqb-true x y) q xs inside))

pub all_noted : (c : Contents) (v w : ℕ) (users : List ℕ) (notes : List Note) → target_of c.bindings v ≡ None
    → AreUsers c.bindings c.terms (root c.bindings v) users → AreNotesOf c v w users notes → AreNotes c v w notes
all_noted c v w users notes stop are noted =
    let own : root c.bindings v ≡ v = root_of_root c.bindings v stop in
    record {
      all = λ t moved. noted.all t ((are.each t).1 (moved.0, subst (Contains (map (name c) (term_at c.terms t).args)) (sym own) moved.1)) moved.2;
      each = λ note inside. let was = noted.each note inside in
          let user = (are.each note.term).0 was.0 in
          ((user.0, subst (Contains (map (name c) (term_at c.terms note.term).args)) own user.1, was.1), was.2);
      few = omega (arith, noted.few, few_below users (length c.terms) are.distinct (λ t inside. ((are.each t).0 inside).0));
    }

pub paired_as : (xs ys us vs : List ℕ) (old new : List (ℕ × ℕ)) → xs ≡ us → ys ≡ vs → ArePairedBelow (length xs) xs ys old new → ArePairedBelow (length us) us vs old new
paired_as xs ys us vs old new e f paired = subst (λ (z : List ℕ). ArePairedBelow (length us) us z old new) f (subst (λ (z : List ℕ). ArePairedBelow (length z) z ys old new) e paired)

module _ (c : Contents) (formed : IsWellFormed c) (v w : ℕ) (w_in : w < length c.bindings) (w_root : target_of c.bindings w ≡ None) where
  at_w : name c w ≡ w
  at_w = root_of_root c.bindings w w_root

  replaced_root : (x : ℕ) → name c (redirected v w (name c x)) ≡ redirected v w (name c x)
  replaced_root x = elim (cases_eq (name c x) v) [
    | inl e ↦ (let same : nat_eq (name c x) v ≡ true = eq-eqb (name c x) v e in rw same at_w)
    | inr other ↦ (let differ : nat_eq (name c x) v ≡ false = ne_eqb (name c x) v other in rw differ (name_twice c (shaped_of c formed) x))
  ]

  replaced_in : (x : ℕ) → x < length c.bindings → redirected v w (name c x) < length c.bindings
  replaced_in x within = elim (cases_eq (name c x) v) [
    | inl e ↦ (let same : nat_eq (name c x) v ≡ true = eq-eqb (name c x) v e in rw same w_in)
    | inr other ↦ (let differ : nat_eq (name c x) v ≡ false = ne_eqb (name c x) v other in rw differ (name_within c (shaped_of c formed) x within))
  ]

  pub replaced_roots : (xs : List ℕ) → map (name c) (map (redirected v w) (map (name c) xs)) ≡ map (redirected v w) (map (name c) xs)
  replaced_roots [] = refl
  replaced_roots (x ∷ xs) = ap (λ z. z ∷ map (name c) (map (redirected v w) (map (name c) xs))) (replaced_root x) ∙ ap (λ zs. redirected v w (name c x) ∷ zs) (replaced_roots xs)

  replaced_at : (xs : List ℕ) (k d : ℕ) → k < length xs → get_or (map (redirected v w) (map (name c) xs)) k d ≡ redirected v w (name c (get_or xs k 0))
  replaced_at [] k d l = absurd (omega arith)
  replaced_at (x ∷ xs) zero d l = refl
  replaced_at (x ∷ xs) (suc k) d l = replaced_at xs k d (omega arith)

  pub replaced_within : (t : ℕ) → t < length c.terms → (ys : List ℕ) → ys ≡ map (redirected v w) (map (name c) (term_at c.terms t).args) → All (λ x. x < length c.bindings) ys
  replaced_within t within ys e = λ k d l.
      let xs : List ℕ = (term_at c.terms t).args in
      let here : k < length (term_at c.terms t).args = omega (arith, l, ap length e, length-map (map (name c) (term_at c.terms t).args) (redirected v w), length-map (term_at c.terms t).args (name c)) in
      subst (λ z. z < length c.bindings) (sym (ap (λ (z : List ℕ). get_or z k d) e ∙ replaced_at (term_at c.terms t).args k d here))
      (replaced_in (get_or (term_at c.terms t).args k 0) (formed.arguments t within k 0 here))

pub met_of : (c : Contents) → IsWellFormed c → (v w : ℕ) → w < length c.bindings → target_of c.bindings w ≡ None → (t : ℕ) (s : Symbol) (ys : List ℕ) (before : Option ℕ)
    → s ≡ (term_at c.terms t).symbol → ys ≡ map (redirected v w) (map (name c) (term_at c.terms t).args)
    → IsLeader c.bindings c.terms s (map (name c) ys) before → IsMet c v w t before
met_of c formed v w w_in w_root t s ys before e f is =
    subst (λ (z : Symbol). IsLeader c.bindings c.terms z (map (redirected v w) (map (name c) (term_at c.terms t).args)) before) e
    (subst (λ (z : List ℕ). IsLeader c.bindings c.terms s z before) (ap (map (name c)) f ∙ replaced_roots c formed v w w_in w_root (term_at c.terms t).args) is)

pub choice_root : (c : Contents) (a b v w : ℕ) → IsChoice c a b v w → target_of c.bindings a ≡ None → target_of c.bindings b ≡ None → (target_of c.bindings v ≡ None) × (target_of c.bindings w ≡ None)
choice_root c a b v w choice a_root b_root = elim choice.0 [
  | inl (e, f) ↦ (rw e a_root, rw f b_root)
  | inr (e, f) ↦ (rw e b_root, rw f a_root)
]

pub choice_in : (c : Contents) (a b v w : ℕ) → IsChoice c a b v w → a < length c.bindings → b < length c.bindings → (v < length c.bindings) × (w < length c.bindings)
choice_in c a b v w choice a_in b_in = elim choice.0 [
  | inl (e, f) ↦ (rw e a_in, rw f b_in)
  | inr (e, f) ↦ (rw e b_in, rw f a_in)
]

pub choice_apart : (c : Contents) (a b v w : ℕ) → IsChoice c a b v w → a ≢ b → w ≢ v
choice_apart c a b v w choice apart = elim choice.0 [
  | inl (e, f) ↦ (λ same. apart (sym e ∙ sym same ∙ f))
  | inr (e, f) ↦ (λ same. apart (sym f ∙ same ∙ e))
]

pub may_bind : (c : Contents) (a b v w : ℕ) → IsChoice c a b v w → a < length c.bindings → b < length c.bindings → target_of c.bindings a ≡ None → target_of c.bindings b ≡ None
    → a ≢ b → (w < length c.bindings) × (root c.bindings w ≢ v)
may_bind c a b v w choice a_in b_in a_root b_root apart = (
  (choice_in c a b v w choice a_in b_in).1,
  λ e. choice_apart c a b v w choice apart (sym (root_of_root c.bindings w (choice_root c a b v w choice a_root b_root).1) ∙ e),
)

-- a root that is bound to no term is free
pub free_by : (c : Contents) (v : ℕ) (is : Bound) → is ≡ binding_of c.bindings v → target_of c.bindings v ≡ None → ((t : ℕ) → ¬ (binding_of c.bindings v ≡ Term t)) → IsFree c v
free_by c v Free e stop bare = sym e
free_by c v (Variable x) e stop bare = absurd (let f : target_of c.bindings v ≡ Some x = ap target (sym e) in cc)
free_by c v (Term t) e stop bare = absurd (bare t (sym e))

pub watched_by : (old new : Contents) (v w : ℕ) (before after : List ℕ) → target_of old.bindings v ≡ None → new.bindings ≡ slice_set old.bindings v (Variable w)
    → IsWatched old v before after → AreWatched old new before after
watched_by old new v w before after stop bound is = record {
  kept = λ r inside. elim is [
    | inl (bare, e) ↦ subst (λ (z : List ℕ). Contains z r) (sym e) inside
    | inr (mark, none, e) ↦ subst (λ (z : List ℕ). Contains z r) (sym e) (Contains-append_left before (v ∷ []) r inside)
  ];
  lost = λ r free mark. elim (cases_eq r v) [
    | inl e ↦ elim is [
      | inl (bare, f) ↦ absurd (bare (subst (IsFree old) e free) (subst (IsMarked old) e mark))
      | inr (here, none, f) ↦ inr (subst (λ (z : List ℕ). Contains z r) (sym f) (subst (Contains (before ++ v ∷ [])) (sym e) (contains_last before v)))
    ]
    | inr other ↦ inl (ap (λ b. binding_of b r) bound ∙ get_or-set_other old.bindings v r (Variable w) Free other ∙ free)
  ];
  each = λ r inside. elim is [
    | inl (bare, e) ↦ inl (subst (λ (z : List ℕ). Contains z r) e inside)
    | inr (mark, none, e) ↦ elim (before_or_last before v r (subst (λ (z : List ℕ). Contains z r) e inside)) [
      | inl was ↦ inl was
      | inr same ↦ inr (subst (IsFree old) same (free_by old v (binding_of old.bindings v) refl stop none), subst (IsMarked old) same mark)
    ]
  ];
}

pub noted_some : (c : Contents) (v w t : ℕ) (r : Option Note) (note : Note) → r ≡ Some note → MatchOption r (¬ Leads c t t) (IsNoteOf c v w t) → IsNoteOf c v w t note
noted_some c v w t r note e is = subst (λ (z : Option Note). MatchOption z (¬ Leads c t t) (IsNoteOf c v w t)) e is

pub noted_no : (c : Contents) (v w t : ℕ) (r : Option Note) → r ≡ None → MatchOption r (¬ Leads c t t) (IsNoteOf c v w t) → ¬ Leads c t t
noted_no c v w t r e is = subst (λ (z : Option Note). MatchOption z (¬ Leads c t t) (IsNoteOf c v w t)) e is

pub take_whole : (xs : List ℕ) (i : ℕ) → length xs ≤ i → take i xs ≡ xs
take_whole xs i w = take_all i xs w

pub terms_wait : (c : Contents) (v w : ℕ) (old new : List (ℕ × ℕ)) (paired : Bool) → paired ≡ true → MatchBool paired (TermsWait c v w old new) (Differ c v w) → TermsWait c v w old new
terms_wait c v w old new paired e is = subst (λ z. MatchBool z (TermsWait c v w old new) (Differ c v w)) e is
