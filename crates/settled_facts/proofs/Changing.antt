-- What each change does to names, bindings and marks.
use Rattle.std.proofs.Common.{ℕ, ◌≡◌, ◌≢◌, ◌<◌, ◌≤◌, Bool, true, false, List, [], ◌∷◌, ◌++◌, length, get_or, refl, sym, ap, ◌∙◌, subst, arith, inl, inr, length-set, get_or-set_same, get_or-set_other}
use Rattle.std.specs.Prelude.{Contains, slice_index, slice_index_or, slice_set, None, ◌↔◌}
use Rattle.std.proofs.lemmas.Bool.{cases_eq, cases_lt}
use Rattle.std.proofs.lemmas.List.{get_or_past, get_or_append_left, get_or_push, length_push}
use Rattle.std.proofs.lemmas.List.Elements.{Contains-get_or}
use Rattle.tree_facts.proofs.Members.{contains_first, contains_later, contains_cases}
use Rattle.term_graph.specs.declared.bound.Bound.{Bound}
use Rattle.term_graph.specs.declared.bound.Bound.TheVariants.{Free, Variable, Term}
use Rattle.term_graph.specs.declared.term.Term.{Term as Made}
use Rattle.term_graph.specs.Contents.{Contents, binding_of, target, target_of, root, Leads, stays, goes, IsForest, term_at, no_term}
use Rattle.term_graph.proofs.Forests.{root-joined, root-kept, root_of_root, forest_bound, leads_to_root, leads_root, forest_by}
use Rattle.settled_facts.specs.Settled.{name, IsFree, IsMarked, IsShaped}
use Rattle.settled_facts.proofs.Terms.{name_twice}
use Rattle.settled_facts.specs.Changes.{IsJoin, IsTerming, IsChange, joined, termed, marked, interned, IsLater, IsUnchanged, JoinRenames, ChangeKeepsShape, ChangeIsLater, LaterIsTransitive, UntouchedIsUnchanged, UnchangedIsTransitive, TouchedWasRoot}

-- a mark that is set leaves the others
pub set_stays : (marks : List Bool) (v r : ℕ) → slice_index_or marks r false ≡ true → slice_index_or (slice_set marks v true) r false ≡ true
set_stays marks v r m = elim (cases_eq r v) [
  | inl e ↦ elim (cases_lt v (length marks)) [
    | inl l ↦ ap (λ z. slice_index_or (slice_set marks v true) z false) e ∙ get_or-set_same marks v true false l
    | inr g ↦ absurd (let p : slice_index_or marks r false ≡ false = get_or_past marks r false (omega (arith, e, g)) in cc)
  ]
  | inr n ↦ get_or-set_other marks v r true false n ∙ m
]

module _ (before after : Contents) (v w : ℕ) (shaped : IsShaped before) (j : IsJoin before after v w) where
  way : Leads before.bindings j.to w
  way = subst (λ (z : ℕ). Leads before.bindings j.to z) j.leads (leads_to_root before.bindings shaped.forest j.to)

  pub join_moves : (u : ℕ) → name before u ≡ v → name after u ≡ w
  join_moves u e = ap (λ b. root b u) j.bindings ∙ root-joined before.bindings v j.to w j.within j.to_within j.root shaped.forest way j.apart u e

  pub join_keeps : (u : ℕ) → name before u ≢ v → name after u ≡ name before u
  join_keeps u n = ap (λ b. root b u) j.bindings ∙ root-kept before.bindings v j.to w j.within j.to_within j.root shaped.forest way j.apart u n

  pub join_other : (u : ℕ) → u ≢ v → binding_of after.bindings u ≡ binding_of before.bindings u
  join_other u n = ap (λ b. get_or b u Free) j.bindings ∙ get_or-set_other before.bindings v u (Variable j.to) Free n

  pub join_bound : binding_of after.bindings v ≡ Variable j.to
  join_bound = ap (λ b. get_or b v Free) j.bindings ∙ get_or-set_same before.bindings v (Variable j.to) Free j.within

  pub join_root : target_of before.bindings w ≡ None
  join_root = subst (λ (z : ℕ). target_of before.bindings z ≡ None) j.leads (shaped.forest.ends j.to)

  pub join_own : name before v ≡ v
  join_own = root_of_root before.bindings v j.root

  pub join_into : name before w ≡ w
  join_into = root_of_root before.bindings w join_root

pub join_renames : JoinRenames
join_renames before after v w u shaped j = (join_moves before after v w shaped j u, join_keeps before after v w shaped j u)

-- bindings that lead to the same variables
module _ (b b' : List Bound) (same : (u : ℕ) → target_of b' u ≡ target_of b u) where
  leads_same : {u r : ℕ} → Leads b u r → Leads b' u r
  leads_same {u} (stays e) = stays (same u ∙ e)
  leads_same {u} (goes e x) = goes (same u ∙ e) (leads_same x)

  pub root_same : IsForest b → (u : ℕ) → root b' u ≡ root b u
  root_same f u = leads_root b' (leads_same (leads_to_root b f u))

  forest_same : IsForest b → length b' ≡ length b → IsForest b'
  forest_same f len = forest_by b' (λ v w e. (let l = f.within v w (sym (same v) ∙ e) in omega (arith, len)))
      (λ u. (root b u, leads_same (leads_to_root b f u)))

module _ (before after : Contents) (v t : ℕ) (j : IsTerming before after v t) where
  pub term_other : (u : ℕ) → u ≢ v → binding_of after.bindings u ≡ binding_of before.bindings u
  term_other u n = ap (λ b. get_or b u Free) j.bindings ∙ get_or-set_other before.bindings v u (Term t) Free n

  pub term_bound : binding_of after.bindings v ≡ Term t
  term_bound = ap (λ b. get_or b v Free) j.bindings ∙ get_or-set_same before.bindings v (Term t) Free j.within

  pub term_targets : (u : ℕ) → target_of after.bindings u ≡ target_of before.bindings u
  term_targets u = elim (cases_eq u v) [
    | inl e ↦ subst (λ (z : ℕ). target_of after.bindings z ≡ target_of before.bindings z) (sym e) (ap target term_bound ∙ sym (ap target j.free))
    | inr n ↦ ap target (term_other u n)
  ]

  term_length : length after.bindings ≡ length before.bindings
  term_length = ap length j.bindings ∙ length-set before.bindings v (Term t)

  pub term_names : IsShaped before → (u : ℕ) → name after u ≡ name before u
  term_names shaped u = root_same before.bindings after.bindings term_targets shaped.forest u

-- a shape over the same terms
shaped_by : (before after : Contents) → IsShaped before → IsForest after.bindings → length after.bindings ≡ length before.bindings
    → length after.marks ≡ length before.marks → after.terms ≡ before.terms
    → ((u s : ℕ) → binding_of after.bindings u ≡ Term s → s < length before.terms) → IsShaped after
shaped_by before after shaped forest len marks terms bound = record {
  forest = forest;
  marks = marks ∙ shaped.marks ∙ sym len;
  bound = λ u s e. omega (arith, bound u s e, ap length terms);
  arguments = λ s i w l.
      let P : List Made → Type 0 = λ z. (s < length z) → (i < length (term_at z s).args) → slice_index (term_at z s).args i < length before.bindings in
      omega (arith, len, subst P (sym terms) (λ w l. shaped.arguments s i w l) w l);
}

at_pushed : (terms : List Made) (x : Made) (s : ℕ) → s < length terms → term_at (terms ++ x ∷ []) s ≡ term_at terms s
at_pushed terms x s w = get_or_append_left terms (x ∷ []) no_term s w

keeps_shape : (before after : Contents) (touched : List ℕ) → IsShaped before → IsChange before after touched → IsShaped after
keeps_shape before after touched shaped (joined v w e j) = shaped_by before after shaped
    (subst (λ (b : List Bound). IsForest b) (sym j.bindings)
    (forest_bound before.bindings v j.to w j.within j.to_within j.root shaped.forest (way before after v w shaped j) j.apart))
    (ap length j.bindings ∙ length-set before.bindings v (Variable j.to)) (ap length j.marks) j.terms
    (λ u s f. elim (cases_eq u v) [
      | inl i ↦ absurd (let g : binding_of after.bindings v ≡ Term s = subst (λ (z : ℕ). binding_of after.bindings z ≡ Term s) i f in
          let h = join_bound before after v w shaped j in cc)
      | inr n ↦ shaped.bound u s (sym (join_other before after v w shaped j u n) ∙ f)
    ])
keeps_shape before after touched shaped (termed v t e j) = shaped_by before after shaped
    (forest_same before.bindings after.bindings (term_targets before after v t j) shaped.forest (term_length before after v t j))
    (term_length before after v t j) (ap length j.marks) j.terms
    (λ u s f. elim (cases_eq u v) [
      | inl i ↦ (let g : binding_of after.bindings v ≡ Term s = subst (λ (z : ℕ). binding_of after.bindings z ≡ Term s) i f in
          let h = term_bound before after v t j in
          let k : t ≡ s = cc in subst (λ (z : ℕ). z < length before.terms) k j.term_within)
      | inr n ↦ shaped.bound u s (sym (term_other before after v t j u n) ∙ f)
    ])
keeps_shape before after touched shaped (marked v e j) = shaped_by before after shaped
    (subst (λ (b : List Bound). IsForest b) (sym j.bindings) shaped.forest) (ap length j.bindings)
    (ap length j.marks ∙ length-set before.marks v true) j.terms
    (λ u s f. shaped.bound u s (ap (λ b. binding_of b u) (sym j.bindings) ∙ f))
keeps_shape before after touched shaped (interned e j) = record {
  forest = subst (λ (b : List Bound). IsForest b) (sym j.bindings) shaped.forest;
  marks = ap length j.marks ∙ shaped.marks ∙ sym (ap length j.bindings);
  bound = λ u s f. omega (arith, shaped.bound u s (ap (λ b. binding_of b u) (sym j.bindings) ∙ f), ap length j.terms, length_push before.terms j.term);
  arguments = λ s i w l.
      let P : List Made → Type 0 = λ z. (s < length z) → (i < length (term_at z s).args) → slice_index (term_at z s).args i < length before.bindings in
      omega (arith, ap length j.bindings, subst P (sym j.terms) (λ w l. old s i w l) w l);
}
  where
    old : (s i : ℕ) → s < length (before.terms ++ j.term ∷ []) → i < length (term_at (before.terms ++ j.term ∷ []) s).args
        → slice_index (term_at (before.terms ++ j.term ∷ []) s).args i < length before.bindings
    old s i w l = elim (cases_lt s (length before.terms)) [
      | inl m ↦ (let same : term_at (before.terms ++ j.term ∷ []) s ≡ term_at before.terms s = at_pushed before.terms j.term s m in
          let Q : Made → Type 0 = λ z. (i < length z.args) → slice_index z.args i < length before.bindings in
          subst Q (sym same) (λ k. shaped.arguments s i m k) l)
      | inr g ↦ (let h : length before.terms ≡ s = omega (arith, length_push before.terms j.term) in
          let same : term_at (before.terms ++ j.term ∷ []) s ≡ j.term = get_or_push before.terms j.term no_term s h in
          let Q : Made → Type 0 = λ z. (i < length z.args) → slice_index z.args i < length before.bindings in
          subst Q (sym same) (λ k. j.arguments (slice_index j.term.args i) (Contains-get_or j.term.args i 0 k)) l)
    ]

pub change_shape : ChangeKeepsShape
change_shape before after touched shaped change = keeps_shape before after touched shaped change

same_terms : (before after : Contents) → after.terms ≡ before.terms → (t : ℕ) → t < length before.terms → term_at after.terms t ≡ term_at before.terms t
same_terms before after e t w = ap (λ z. term_at z t) e

same_count : (before after : Contents) → after.terms ≡ before.terms → length before.terms ≤ length after.terms
same_count before after e = omega (arith, ap length e)

same_marks : (before after : Contents) → after.marks ≡ before.marks → (r : ℕ) → IsMarked before r → IsMarked after r
same_marks before after e r m = ap (λ z. slice_index_or z r false) e ∙ m

same_name : (before after : Contents) → IsShaped before → ((u : ℕ) → name after u ≡ name before u) → (u : ℕ) → name after u ≡ name after (name before u)
same_name before after shaped same u = same u ∙ sym (name_twice before shaped u) ∙ sym (same (name before u))

is_later : (before after : Contents) (touched : List ℕ) → IsShaped before → IsChange before after touched → IsLater before after
is_later before after touched shaped (joined v w e j) = record {
  variables = ap length j.bindings ∙ length-set before.bindings v (Variable j.to);
  names = λ u. elim (cases_eq (name before u) v) [
    | inl i ↦ join_moves before after v w shaped j u i ∙ sym (join_moves before after v w shaped j (name before u) (name_twice before shaped u ∙ i))
    | inr n ↦ join_keeps before after v w shaped j u n
        ∙ sym (join_keeps before after v w shaped j (name before u) (λ i. n (sym (name_twice before shaped u) ∙ i)) ∙ name_twice before shaped u)
  ];
  roots = λ r f. elim (cases_eq r v) [
    | inl i ↦ subst (λ (z : ℕ). target_of before.bindings z ≡ None) (sym i) j.root
    | inr n ↦ sym (ap target (join_other before after v w shaped j r n)) ∙ f
  ];
  free = λ u f. elim (cases_eq (name before u) v) [
    | inl i ↦ (let g : IsFree after w = subst (λ (z : ℕ). IsFree after z) (join_moves before after v w shaped j u i) f in
        let h : IsFree before w = sym (join_other before after v w shaped j w j.apart) ∙ g in
        subst (λ (z : ℕ). IsFree before z) (sym i) (j.keeps h))
    | inr n ↦ sym (join_other before after v w shaped j (name before u) n) ∙ subst (λ (z : ℕ). IsFree after z) (join_keeps before after v w shaped j u n) f
  ];
  marks = same_marks before after j.marks;
  count = same_count before after j.terms;
  terms = same_terms before after j.terms;
}
is_later before after touched shaped (termed v t e j) = record {
  variables = term_length before after v t j;
  names = same_name before after shaped (term_names before after v t j shaped);
  roots = λ r f. sym (term_targets before after v t j r) ∙ f;
  free = λ u f. elim (cases_eq (name before u) v) [
    | inl i ↦ subst (λ (z : ℕ). IsFree before z) (sym i) j.free
    | inr n ↦ sym (term_other before after v t j (name before u) n) ∙ subst (λ (z : ℕ). IsFree after z) (term_names before after v t j shaped u) f
  ];
  marks = same_marks before after j.marks;
  count = same_count before after j.terms;
  terms = same_terms before after j.terms;
}
is_later before after touched shaped (marked v e j) = record {
  variables = ap length j.bindings;
  names = same_name before after shaped (λ u. ap (λ b. root b u) j.bindings);
  roots = λ r f. ap (λ b. target_of b r) (sym j.bindings) ∙ f;
  free = λ u f. subst (λ (b : List Bound). binding_of b (root b u) ≡ Free) j.bindings f;
  marks = λ r m. ap (λ z. slice_index_or z r false) j.marks ∙ set_stays before.marks v r m;
  count = same_count before after j.terms;
  terms = same_terms before after j.terms;
}
is_later before after touched shaped (interned e j) = record {
  variables = ap length j.bindings;
  names = same_name before after shaped (λ u. ap (λ b. root b u) j.bindings);
  roots = λ r f. ap (λ b. target_of b r) (sym j.bindings) ∙ f;
  free = λ u f. subst (λ (b : List Bound). binding_of b (root b u) ≡ Free) j.bindings f;
  marks = same_marks before after j.marks;
  count = omega (arith, ap length j.terms, length_push before.terms j.term);
  terms = λ t w. ap (λ z. term_at z t) j.terms ∙ at_pushed before.terms j.term t w;
}

pub change_later : ChangeIsLater
change_later before after touched shaped change = is_later before after touched shaped change

pub later_later : LaterIsTransitive
later_later one two three a b = record {
  variables = b.variables ∙ a.variables;
  names = λ u. b.names u ∙ ap (name three) (a.names u) ∙ sym (b.names (name one u));
  roots = λ r f. a.roots r (b.roots r f);
  free = λ v f. a.free v (b.free v f);
  marks = λ r m. b.marks r (a.marks r m);
  count = omega (arith, a.count, b.count);
  terms = λ t w. b.terms t (omega (arith, a.count, w)) ∙ a.terms t w;
}

not_listed : (touched : List ℕ) (r v : ℕ) (rest : List ℕ) → touched ≡ v ∷ rest → ¬ Contains touched r → r ≢ v
not_listed touched r v rest e n = λ i. n (subst (λ (z : List ℕ). Contains z r) (sym e) (subst (λ (z : ℕ). Contains (v ∷ rest) z) (sym i) (contains_first v rest)))

not_second : (touched : List ℕ) (r v w : ℕ) → touched ≡ v ∷ w ∷ [] → ¬ Contains touched r → r ≢ w
not_second touched r v w e n = λ i. n (subst (λ (z : List ℕ). Contains z r) (sym e)
    (subst (λ (z : ℕ). Contains (v ∷ w ∷ []) z) (sym i) (contains_later v w (w ∷ []) (contains_first w []))))

same_class : (before after : Contents) (r : ℕ) → ((u : ℕ) → name after u ≡ name before u) → (u : ℕ) → (name after u ≡ r) ↔ (name before u ≡ r)
same_class before after r same u = (λ e. sym (same u) ∙ e, λ e. same u ∙ e)

is_unchanged : (before after : Contents) (touched : List ℕ) (r : ℕ) → IsShaped before → IsChange before after touched → ¬ Contains touched r → IsUnchanged before after r
is_unchanged before after touched r shaped (joined v w e j) n =
    let nv : r ≢ v = not_listed touched r v (w ∷ []) e n in
    let nw : r ≢ w = not_second touched r v w e n in
    record {
      class = λ u. (
        λ i. elim (cases_eq (name before u) v) [
          | inl k ↦ absurd (nw (sym i ∙ join_moves before after v w shaped j u k))
          | inr m ↦ sym (join_keeps before after v w shaped j u m) ∙ i
        ],
        λ i. join_keeps before after v w shaped j u (λ k. nv (sym i ∙ k)) ∙ i,
      );
      binding = join_other before after v w shaped j r nv;
      mark = ap (λ z. slice_index_or z r false) j.marks;
    }
is_unchanged before after touched r shaped (termed v t e j) n = record {
  class = same_class before after r (term_names before after v t j shaped);
  binding = term_other before after v t j r (not_listed touched r v [] e n);
  mark = ap (λ z. slice_index_or z r false) j.marks;
}
is_unchanged before after touched r shaped (marked v e j) n = record {
  class = same_class before after r (λ u. ap (λ b. root b u) j.bindings);
  binding = ap (λ b. binding_of b r) j.bindings;
  mark = ap (λ z. slice_index_or z r false) j.marks ∙ get_or-set_other before.marks v r true false (not_listed touched r v [] e n);
}
is_unchanged before after touched r shaped (interned e j) n = record {
  class = same_class before after r (λ u. ap (λ b. root b u) j.bindings);
  binding = ap (λ b. binding_of b r) j.bindings;
  mark = ap (λ z. slice_index_or z r false) j.marks;
}

pub untouched_unchanged : UntouchedIsUnchanged
untouched_unchanged before after touched r shaped change n = is_unchanged before after touched r shaped change n

pub unchanged_unchanged : UnchangedIsTransitive
unchanged_unchanged one two three r a b = record {
  class = λ u. (λ e. (a.class u).0 ((b.class u).0 e), λ e. (b.class u).1 ((a.class u).1 e));
  binding = b.binding ∙ a.binding;
  mark = b.mark ∙ a.mark;
}

one_listed : (touched : List ℕ) (r v : ℕ) → touched ≡ v ∷ [] → Contains touched r → v ≡ r
one_listed touched r v e i = elim (contains_cases v r [] (subst (λ (z : List ℕ). Contains z r) e i)) [ inl f ↦ f | inr k ↦ absurd (omega (arith, k.1)) ]

was_root : (before after : Contents) (touched : List ℕ) (r : ℕ) → IsShaped before → IsChange before after touched → Contains touched r → target_of before.bindings r ≡ None
was_root before after touched r shaped (joined v w e j) i = elim (contains_cases v r (w ∷ []) (subst (λ (z : List ℕ). Contains z r) e i)) [
  | inl f ↦ subst (λ (z : ℕ). target_of before.bindings z ≡ None) f j.root
  | inr k ↦ subst (λ (z : ℕ). target_of before.bindings z ≡ None) (one_listed (w ∷ []) r w refl k) (join_root before after v w shaped j)
]
was_root before after touched r shaped (termed v t e j) i =
    subst (λ (z : ℕ). target_of before.bindings z ≡ None) (one_listed touched r v e i) (ap target j.free)
was_root before after touched r shaped (marked v e j) i =
    subst (λ (z : ℕ). target_of before.bindings z ≡ None) (one_listed touched r v e i) (ap target j.free)
was_root before after touched r shaped (interned e j) i = absurd (let k : Contains [] r = subst (λ (z : List ℕ). Contains z r) e i in omega (arith, k.1))

pub touched_root : TouchedWasRoot
touched_root before after touched r shaped change i = was_root before after touched r shaped change i
