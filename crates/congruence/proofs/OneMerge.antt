-- A merge leads on, with what it makes wait.
use Rattle.std.proofs.Common.{ℕ, ◌<◌, ◌≤◌, ◌≡◌, ◌≢◌, true, false, List, [], ◌∷◌, length, map, refl, sym, ◌∙◌, ap, subst, inl, inr, Some, None, Option, arith}
use Rattle.std.specs.Prelude.{Contains, slice_index, nat_eq}
use Rattle.std.proofs.lemmas.Bool.{eq-eqb, cases_eq, ne_eqb}
use Rattle.std.proofs.lemmas.List.Elements.{Contains-append_left}
use Rattle.tree_model.specs.declared.tree.Symbol.{Symbol}
use Rattle.flat_form.specs.declared.atom.Flat.{Flat}
use Rattle.flat_form.specs.declared.atom.Flat.TheVariants.{VarTerm}
use Rattle.flat_form.specs.Classes.{Class, turned, joined, inward}
use Rattle.term_graph.specs.declared.bound.Bound.{Bound}
use Rattle.term_graph.specs.declared.bound.Bound.TheVariants.{Free, Variable, Term}
use Rattle.term_graph.specs.Contents.{Contents, binding_of, target, target_of, term_at, IsWellFormed}
use Rattle.term_graph.proofs.Forests.{root_of_root}
use Rattle.settled_facts.specs.Settled.{name, IsShaped, Follows}
use Rattle.settled_facts.specs.Changes.{IsJoin}
use Rattle.settled_facts.proofs.Changing.{join_moves, join_keeps, join_other, join_bound}
use Rattle.settled_facts.proofs.Terms.{shaped_of, named_class}
use Rattle.settled_facts.proofs.ReadOff.{name_within}
use Rattle.congruence.specs.Agenda.{owner, Pairwise, Agenda, idle, AreAlike, IsBacked, Joins, named, equated, congruent, HasTerm, IsSound, IsUnderway}
use Rattle.congruence.specs.Merges.{redirected, IsMerged, Leads, Meets, AreKept, IsAgendaSound, IsNoted}
use Rattle.congruence.specs.Turns.{HaveOneShape, Takes, IsMet, IsLink, IsMergeStep, MergeLeadsOn}
use Rattle.congruence.proofs.Atoms.{contains_none, contains_last, before_or_last}
use Rattle.congruence.proofs.Pairs.{pairwise_as, names_pairwise}
use Rattle.congruence.proofs.Shared.{new_names}
use Rattle.congruence.proofs.Merged.{one_class, alike_class, follows_kept, merge_keeps}
use Rattle.congruence.proofs.Turning.{choice_root, choice_in, choice_apart, free_by}

module _ (c d : Contents) (owners : List ℕ) (rest after : Agenda) (p q : ℕ) (formed : IsWellFormed c) (p_in : p < length c.bindings) (q_in : q < length c.bindings)
    (apart : name c p ≢ name c q) (step : IsMergeStep c d rest after (name c p) (name c q)) (p_root : target_of c.bindings (name c p) ≡ None) (q_root : target_of c.bindings (name c q) ≡ None)
    (p_low : name c p < length c.bindings) (q_low : name c q < length c.bindings) where
  abbrev pub v : ℕ
  v = step.goes

  abbrev pub w : ℕ
  w = step.stays

  shaped : IsShaped c
  shaped = shaped_of c formed

  pub v_root : target_of c.bindings v ≡ None
  v_root = (choice_root c (name c p) (name c q) v w step.choice p_root q_root).0

  w_root : target_of c.bindings w ≡ None
  w_root = (choice_root c (name c p) (name c q) v w step.choice p_root q_root).1

  pub own_w : name c w ≡ w
  own_w = root_of_root c.bindings w w_root

  own_v : name c v ≡ v
  own_v = root_of_root c.bindings v v_root

  pub others : w ≢ v
  others = choice_apart c (name c p) (name c q) v w step.choice apart

  abbrev pub join : IsJoin c d v w
  join = record {
    to = w;
    bindings = ap (λ (z : Contents). z.bindings) step.bound;
    marks = ap (λ (z : Contents). z.marks) step.bound;
    terms = ap (λ (z : Contents). z.terms) step.bound;
    root = v_root;
    within = (choice_in c (name c p) (name c q) v w step.choice p_low q_low).0;
    to_within = (choice_in c (name c p) (name c q) v w step.choice p_low q_low).1;
    leads = own_w;
    apart = others;
    keeps = λ open_w. free_by c v (binding_of c.bindings v) refl v_root (λ t here. (let (s, there) = step.choice.1 t here in let f : Free ≡ Term s = sym open_w ∙ there in cc));
  }

  goes_to : (x : ℕ) → x ≡ v → redirected v w x ≡ w
  goes_to x e = let same : nat_eq x v ≡ true = eq-eqb x v e in rw same refl

  stays_at : (x : ℕ) → x ≢ v → redirected v w x ≡ x
  stays_at x other = let differ : nat_eq x v ≡ false = ne_eqb x v other in rw differ refl

  renamed : (u : ℕ) → name d u ≡ redirected v w (name c u)
  renamed u = elim (cases_eq (name c u) v) [
    | inl e ↦ join_moves c d v w shaped join u e ∙ sym (goes_to (name c u) e)
    | inr other ↦ join_keeps c d v w shaped join u other ∙ sym (stays_at (name c u) other)
  ]

  bound_was : (r : ℕ) (b : Bound) → binding_of d.bindings r ≡ b → target b ≡ None → (r ≢ v) × (binding_of c.bindings r ≡ b)
  bound_was r b e stop = elim (cases_eq r v) [
    | inl same ↦ absurd (
        let here : binding_of d.bindings v ≡ Variable w = join_bound c d v w shaped join in
        let there : Variable w ≡ b = sym here ∙ ap (binding_of d.bindings) (sym same) ∙ e in
        let f : Some w ≡ target b = ap target there in
        cc)
    | inr other ↦ (other, sym (join_other c d v w shaped join r other) ∙ e)
  ]

  pub merged : IsMerged v w c d
  merged = record {
    names = renamed;
    terms = join.terms;
    marks = join.marks;
    free = λ r e. (bound_was r Free e refl).1;
    bound = λ r t e. bound_was r (Term t) e refl;
    others = λ r other. join_other c d v w shaped join r other;
    apart = others;
    at_root = own_w;
  }

  one_met : (t : ℕ) (before : Option ℕ) (m : ℕ) → IsMet c v w t before → Meets c v w t m → before ≡ Some m
  one_met t None m none meets = absurd (none m meets.0)
  one_met t (Some l) m is meets = let low : l ≤ m = is.1 m meets.0 in let high : m ≤ l = meets.1 l is.0 in let same : l ≡ m = omega arith in ap Some same

  -- the pair that was taken has one name
  one_name : name d p ≡ name d q
  one_name = elim step.choice.0 [
    | inl (e, f) ↦ renamed p ∙ goes_to (name c p) (sym e) ∙ f ∙ sym (stays_at (name c q) (λ g. others (f ∙ g))) ∙ sym (renamed q)
    | inr (e, f) ↦ renamed p ∙ stays_at (name c p) (λ g. others (f ∙ g)) ∙ sym f ∙ sym (goes_to (name c q) (sym e)) ∙ sym (renamed q)
  ]

  equal_kept : (x y : ℕ) → Contains {X = ℕ × ℕ} rest.equal (x, y) → Contains {X = ℕ × ℕ} after.equal (x, y)
  equal_kept x y inside = elim step.terms [
    | inl (bare, same) ↦ subst (λ z. Contains {X = ℕ × ℕ} z (x, y)) (sym same) inside
    | inr (t, s, here, there, shape, paired) ↦ (paired x y).1 (inl inside)
  ]

  module _ (before : Agenda) (takes : Takes owners before rest p q) where
    rest_equal : (x y : ℕ) → Contains {X = ℕ × ℕ} rest.equal (x, y) → Contains {X = ℕ × ℕ} before.equal (x, y)
    rest_equal x y inside = elim takes [
      | inl (t, m, alike, equal, e, f) ↦ subst (λ z. Contains {X = ℕ × ℕ} z (x, y)) (sym equal) inside
      | inr (none, no_more, equal) ↦ subst (λ z. Contains {X = ℕ × ℕ} z (x, y)) (sym equal) (Contains-append_left rest.equal ((p, q) ∷ []) (x, y) inside)
    ]

    rest_alike : (x y : ℕ) → Contains {X = ℕ × ℕ} rest.alike (x, y) → Contains {X = ℕ × ℕ} before.alike (x, y)
    rest_alike x y inside = elim takes [
      | inl (t, m, alike, equal, e, f) ↦ subst (λ z. Contains {X = ℕ × ℕ} z (x, y)) (sym alike) (Contains-append_left rest.alike ((t, m) ∷ []) (x, y) inside)
      | inr (none, no_more, equal) ↦ absurd (contains_none (x, y) (subst (λ z. Contains {X = ℕ × ℕ} z (x, y)) no_more inside))
    ]

    taken_joins : Joins c owners before p q
    taken_joins = elim takes [
      | inl (t, m, alike, equal, e, f) ↦ congruent (subst (λ z. Contains {X = ℕ × ℕ} z (t, m)) (sym alike) (contains_last rest.alike (t, m))) (sym e) (sym f)
      | inr (none, no_more, equal) ↦ equated (subst (λ z. Contains {X = ℕ × ℕ} z (p, q)) (sym equal) (contains_last rest.equal (p, q)))
    ]

    kept : AreKept d owners after before
    kept = record {
      equal = λ x y inside. elim takes [
        | inl (t, m, alike, equal, e, f) ↦ equated (equal_kept x y (subst (λ z. Contains {X = ℕ × ℕ} z (x, y)) equal inside))
        | inr (none, no_more, equal) ↦ elim (before_or_last rest.equal (p, q) (x, y) (subst (λ z. Contains {X = ℕ × ℕ} z (x, y)) equal inside)) [
          | inl still ↦ equated (equal_kept x y still)
          | inr same ↦ named (ap (λ (z : ℕ × ℕ). name d z.0) (sym same) ∙ one_name ∙ ap (λ (z : ℕ × ℕ). name d z.1) same)
        ]
      ];
      alike = λ x y inside. elim takes [
        | inl (t, m, alike, equal, e, f) ↦ elim (before_or_last rest.alike (t, m) (x, y) (subst (λ z. Contains {X = ℕ × ℕ} z (x, y)) alike inside)) [
          | inl still ↦ congruent (step.linked.kept x y still) refl refl
          | inr same ↦ named (ap (λ (z : ℕ × ℕ). name d (owner owners z.0)) (sym same) ∙ ap (name d) (sym e) ∙ one_name ∙ ap (name d) f ∙ ap (λ (z : ℕ × ℕ). name d (owner owners z.1)) same)
        ]
        | inr (none, no_more, equal) ↦ absurd (contains_none (x, y) (subst (λ z. Contains {X = ℕ × ℕ} z (x, y)) none inside))
      ];
    }

    module _ (atoms : List Flat) (underway : IsUnderway c owners before atoms) where
      sound : IsSound c owners before atoms
      sound = underway.0

      one : Class atoms v w
      one =
          let between : Class atoms (name c p) (name c q) = joined (turned (sound.follows.sound p)) (joined (one_class c owners before atoms sound taken_joins) (sound.follows.sound q)) in
          elim step.choice.0 [
            | inl (e, f) ↦ subst (λ z. Class atoms z w) (sym e) (subst (λ z. Class atoms (name c p) z) (sym f) between)
            | inr (e, f) ↦ subst (λ z. Class atoms z w) (sym e) (subst (λ z. Class atoms (name c q) z) (sym f) (turned between))
          ]

      follows_now : Follows d atoms
      follows_now = follows_kept v w c d merged atoms one sound.follows

      sound_now : IsSound d owners idle atoms
      sound_now = record {
        follows = follows_now;
        equal = λ x y inside. absurd (contains_none (x, y) inside);
        alike = λ x y inside. absurd (contains_none (x, y) inside);
        terms = λ t within. subst (λ z. IsBacked atoms (owner owners t) (term_at z t).symbol (term_at z t).args) (sym join.terms) (sound.terms t (subst (λ z. t < length z) join.terms within));
      }

      -- the arguments of two terms of the classes
      arguments : (t s i : ℕ) → binding_of c.bindings v ≡ Term t → binding_of c.bindings w ≡ Term s → HaveOneShape c t s → i < length (term_at c.terms s).args
          → Class atoms (slice_index (term_at c.terms s).args i) (slice_index (term_at c.terms t).args i)
      arguments t s i here there shape inside =
          let from = sound.follows.given v (term_at c.terms t).symbol (map (name c) (term_at c.terms t).args) (record { term = t; bound = here; key = record { within = formed.bound_terms v t here; sign = refl; args = refl } }) in
          let to = sound.follows.given w (term_at c.terms s).symbol (map (name c) (term_at c.terms s).args) (record { term = s; bound = there; key = record { within = formed.bound_terms w s there; sign = refl; args = refl } }) in
          let left : Pairwise (Class atoms) from.1 (term_at c.terms t).args = pairwise_as (λ x y. name c x ≡ name c y) (Class atoms) from.1 (term_at c.terms t).args (named_class c atoms sound.follows) (names_pairwise c from.1 (term_at c.terms t).args from.4) in
          let right : Pairwise (Class atoms) to.1 (term_at c.terms s).args = pairwise_as (λ x y. name c x ≡ name c y) (Class atoms) to.1 (term_at c.terms s).args (named_class c atoms sound.follows) (names_pairwise c to.1 (term_at c.terms s).args to.4) in
          let at_from : Class atoms from.0 v = named_class c atoms sound.follows from.0 v (from.3 ∙ sym own_v) in
          let at_to : Class atoms to.0 w = named_class c atoms sound.follows to.0 w (to.3 ∙ sym own_w) in
          let stands : Contains atoms (VarTerm from.0 (term_at c.terms s).symbol from.1) = subst (λ (z : Symbol). Contains atoms (VarTerm from.0 z from.1)) shape.0 from.2 in
          let i_to : i < length to.1 = omega (arith, inside, right.0) in
          let i_from : i < length from.1 = omega (arith, inside, left.0, shape.1) in
          let across : Class atoms (slice_index to.1 i) (slice_index from.1 i) =
          inward (term_at c.terms s).symbol to.1 from.1 to.2 stands (right.0 ∙ sym shape.1 ∙ sym left.0) (joined at_to (joined (turned one) (turned at_from))) i i_to in
          joined (turned (right.1 i i_to)) (joined across (left.1 i i_from))

      twice : (x : ℕ) → redirected v w (redirected v w x) ≡ redirected v w x
      twice x = elim (cases_eq x v) [
        | inl e ↦ ap (redirected v w) (goes_to x e) ∙ stays_at w others ∙ sym (goes_to x e)
        | inr other ↦ ap (redirected v w) (stays_at x other)
      ]

      twice_all : (xs : List ℕ) → map (redirected v w) (map (redirected v w) xs) ≡ map (redirected v w) xs
      twice_all [] = refl
      twice_all (x ∷ xs) = ap (λ z. z ∷ map (redirected v w) (map (redirected v w) xs)) (twice x) ∙ ap (λ zs. redirected v w x ∷ zs) (twice_all xs)

      linked_alike : (x y : ℕ) → IsLink d step.notes x y → AreAlike d x y
      linked_alike x y (note, inside, either) = elim either [
        | inl (e, leads) ↦
            let at : note.term < length d.terms = subst (λ z. note.term < length z) (sym join.terms) (step.noted.each note inside).0.0 in
            subst (λ z. AreAlike d z y) (sym e) (record { left = at; right = leads.0.within; sign = sym leads.0.sign; args = sym leads.0.args })
        | inr (e, f) ↦
            let met : IsMet c v w note.term (Some x) = subst (IsMet c v w note.term) e (step.noted.each note inside).1 in
            let at : note.term < length c.terms = (step.noted.each note inside).0.0 in
            subst (λ z. AreAlike d x z) (sym f) (record {
              left = subst (λ z. x < length z) (sym join.terms) met.0.within;
              right = subst (λ z. note.term < length z) (sym join.terms) at;
              sign = subst (λ z. (term_at z x).symbol ≡ (term_at z note.term).symbol) (sym join.terms) met.0.sign;
              args = subst (λ z. map (name d) (term_at z x).args ≡ map (name d) (term_at z note.term).args) (sym join.terms)
                  (new_names v w c d merged (term_at c.terms x).args ∙ ap (map (redirected v w)) met.0.args ∙ twice_all (map (name c) (term_at c.terms note.term).args) ∙ sym (new_names v w c d merged (term_at c.terms note.term).args));
            })
      ]

      agenda_sound : IsAgendaSound d owners after atoms
      agenda_sound = record {
        equal = λ x y inside. elim step.terms [
          | inl (bare, same) ↦ sound.equal x y (rest_equal x y (subst (λ z. Contains {X = ℕ × ℕ} z (x, y)) same inside))
          | inr (t, s, here, there, shape, paired) ↦ elim ((paired x y).0 inside) [
            | inl was ↦ sound.equal x y (rest_equal x y was)
            | inr (i, low, e, f) ↦ subst (λ z. Class atoms z y) e (subst (λ z. Class atoms (slice_index (term_at c.terms s).args i) z) f (arguments t s i here there shape low))
          ]
        ];
        alike = λ x y inside. elim (step.linked.each x y inside) [
          | inl was ↦ sound.alike x y (rest_alike x y was)
          | inr link ↦ alike_class d owners idle atoms sound_now x y (linked_alike x y link)
        ];
      }

    lost : (t : ℕ) → binding_of c.bindings v ≡ Term t → HasTerm d owners after w (term_at c.terms t).symbol (term_at c.terms t).args
    lost t here = elim step.terms [
      | inl (bare, same) ↦ absurd (bare t here)
      | inr (k, s, at, there, shape, paired) ↦
          let e : k ≡ t = (let f : Term k ≡ Term t = sym at ∙ here in cc) in
          let own : name d w ≡ w = renamed w ∙ ap (redirected v w) own_w ∙ stays_at w others in
          subst (λ z. HasTerm d owners after w (term_at c.terms z).symbol (term_at c.terms z).args) e (record {
            of = w;
            joins = named refl;
            term = s;
            bound = ap (binding_of d.bindings) own ∙ join_other c d v w shaped join w others ∙ there;
            sign = ap (λ z. (term_at z s).symbol) join.terms ∙ sym shape.0;
            args = subst (λ z. Pairwise (Joins d owners after) (term_at z s).args (term_at c.terms k).args) (sym join.terms)
                (sym shape.1, λ i low. equated ((paired (slice_index (term_at c.terms s).args i) (slice_index (term_at c.terms k).args i)).1 (inr (i, low, refl, refl))));
          })
    ]

    noted : IsNoted d owners after v w c
    noted = record {
      lost = lost;
      led = λ t m moved leads.
          let (note, inside, e) = step.noted.all t moved in
          elim (cases_eq m t) [
            | inl same ↦ named (ap (λ z. name d (owner owners z)) (sym same))
            | inr other ↦
                let pair : Contains {X = ℕ × ℕ} after.alike (note.term, m) = step.linked.moved note m inside (subst (λ z. Leads d z m) (sym e) leads) (λ f. other (f ∙ e)) in
                congruent pair (ap (owner owners) e) refl
          ];
      taken = λ t m moved leads meets.
          let (note, inside, e) = step.noted.all t moved in
          let met : IsMet c v w t note.before = subst (λ z. IsMet c v w z note.before) e (step.noted.each note inside).1 in
          let was : note.before ≡ Some m = one_met t note.before m met meets in
          congruent (step.linked.taken note m inside (subst (λ z. Leads d z z) (sym e) leads) was) refl (ap (owner owners) e);
    }

    pub leads_underway : (atoms : List Flat) → IsUnderway c owners before atoms → IsUnderway d owners after atoms
    leads_underway atoms underway = merge_keeps v w c d owners before after atoms merged (one atoms underway) kept (agenda_sound atoms underway) noted underway

pub merge_leads_on : MergeLeadsOn
merge_leads_on c d owners before rest after p q formed p_in q_in apart step takes =
    let shaped : IsShaped c = shaped_of c formed in
    leads_underway c d owners rest after p q formed p_in q_in apart step (shaped.forest.ends p) (shaped.forest.ends q) (name_within c shaped p p_in) (name_within c shaped q q_in) before takes

pub merge_join : (c d : Contents) (rest after : Agenda) (p q : ℕ) → IsWellFormed c → p < length c.bindings → q < length c.bindings → name c p ≢ name c q
    → (step : IsMergeStep c d rest after (name c p) (name c q)) → IsJoin c d step.goes step.stays
merge_join c d rest after p q formed p_in q_in apart step =
    let shaped : IsShaped c = shaped_of c formed in
    join c d [] rest after p q formed p_in q_in apart step (shaped.forest.ends p) (shaped.forest.ends q) (name_within c shaped p p_in) (name_within c shaped q q_in)
