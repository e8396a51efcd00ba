-- Turns lead from one state to another, and each makes the agenda lighter.
use Rattle.std.proofs.Common.{ℕ, zero, suc, ◌<◌, ◌≤◌, ◌+◌, ◌*◌, ◌≡◌, ◌≢◌, Bool, true, false, List, [], ◌∷◌, length, map, refl, sym, ◌∙◌, ap, subst, inl, inr, ◌⊎◌, Some, None, arith, length-set}
use Rattle.std.proofs.Math.Nat.{suc-mul}
use Rattle.std.specs.Prelude.{Contains, slice_index, slice_index_or, slice_set, MatchBool}
use Rattle.std.proofs.lemmas.List.{length_push, length-map}
use Rattle.std.proofs.lemmas.List.Elements.{Contains-append_left}
use Rattle.flat_form.specs.declared.atom.Flat.{Flat}
use Rattle.flat_form.specs.Classes.{Class, turned, joined, Unsolvable}
use Rattle.term_graph.specs.declared.bound.Bound.{Bound}
use Rattle.term_graph.specs.declared.bound.Bound.TheVariants.{Free, Variable, Term}
use Rattle.term_graph.specs.declared.term.Term.{Term as Made}
use Rattle.term_graph.specs.Contents.{Contents, target, target_of, term_at, IsWellFormed}
use Rattle.term_graph.proofs.Forests.{root_of_root}
use Rattle.settled_facts.specs.Settled.{name, IsFree, IsMarked, IsShaped}
use Rattle.settled_facts.specs.Changes.{IsJoin, IsChange, IsLater}
use Rattle.settled_facts.specs.Changes as changes
use Rattle.settled_facts.proofs.Changing.{change_later, later_later}
use Rattle.settled_facts.proofs.ReadOff.{name_within}
use Rattle.settled_facts.proofs.Terms.{shaped_of, name_twice}
use Rattle.settled_facts.proofs.Solvable.{clash_unsolvable}
use Rattle.congruence.specs.Agenda.{owner, Agenda, Joins, named, equated, congruent, IsSound}
use Rattle.congruence.specs.Merges.{AreKept}
use Rattle.congruence.specs.Turns.{Takes, Differ, IsMergeStep, AreWatched, AreInRange, AreOwned, AreOwners, LeadsOn, IsTurn, Refutes, RefutesBoth, roots_in, weight, IsMet}
use Rattle.congruence.proofs.Atoms.{contains_none, contains_last, before_or_last}
use Rattle.congruence.proofs.Merged.{one_class, agenda_moves}
use Rattle.congruence.proofs.OneMerge.{merge_leads_on, merge_join}
use Rattle.congruence.proofs.Turning.{choice_root, choice_in}

-- what was taken is joined
pub takes_joins : (c : Contents) (owners : List ℕ) (before rest : Agenda) (p q : ℕ) → Takes owners before rest p q → Joins c owners before p q
takes_joins c owners before rest p q takes = elim takes [
  | inl (t, m, alike, equal, e, f) ↦ congruent (subst (λ z. Contains {X = ℕ × ℕ} z (t, m)) (sym alike) (contains_last rest.alike (t, m))) (sym e) (sym f)
  | inr (none, less, equal) ↦ equated (subst (λ z. Contains {X = ℕ × ℕ} z (p, q)) (sym equal) (contains_last rest.equal (p, q)))
]

-- and what is left was there
pub takes_equal : (owners : List ℕ) (before rest : Agenda) (p q x y : ℕ) → Takes owners before rest p q → Contains {X = ℕ × ℕ} rest.equal (x, y) → Contains {X = ℕ × ℕ} before.equal (x, y)
takes_equal owners before rest p q x y takes inside = elim takes [
  | inl (t, m, alike, equal, e, f) ↦ subst (λ z. Contains {X = ℕ × ℕ} z (x, y)) (sym equal) inside
  | inr (none, less, equal) ↦ subst (λ z. Contains {X = ℕ × ℕ} z (x, y)) (sym equal) (Contains-append_left rest.equal ((p, q) ∷ []) (x, y) inside)
]

pub takes_alike : (owners : List ℕ) (before rest : Agenda) (p q x y : ℕ) → Takes owners before rest p q → Contains {X = ℕ × ℕ} rest.alike (x, y) → Contains {X = ℕ × ℕ} before.alike (x, y)
takes_alike owners before rest p q x y takes inside = elim takes [
  | inl (t, m, alike, equal, e, f) ↦ subst (λ z. Contains {X = ℕ × ℕ} z (x, y)) (sym alike) (Contains-append_left rest.alike ((t, m) ∷ []) (x, y) inside)
  | inr (none, less, equal) ↦ absurd (contains_none (x, y) (subst (λ z. Contains {X = ℕ × ℕ} z (x, y)) less inside))
]

-- where both had one name, nothing is lost
pub takes_kept : (c : Contents) (owners : List ℕ) (before rest : Agenda) (p q : ℕ) → name c p ≡ name c q → Takes owners before rest p q → AreKept c owners rest before
takes_kept c owners before rest p q same takes = record {
  equal = λ x y inside. elim takes [
    | inl (t, m, alike, equal, e, f) ↦ equated (subst (λ z. Contains {X = ℕ × ℕ} z (x, y)) equal inside)
    | inr (none, less, equal) ↦ elim (before_or_last rest.equal (p, q) (x, y) (subst (λ z. Contains {X = ℕ × ℕ} z (x, y)) equal inside)) [
      | inl still ↦ equated still
      | inr it ↦ named (ap (λ (z : ℕ × ℕ). name c z.0) (sym it) ∙ same ∙ ap (λ (z : ℕ × ℕ). name c z.1) it)
    ]
  ];
  alike = λ x y inside. elim takes [
    | inl (t, m, alike, equal, e, f) ↦ elim (before_or_last rest.alike (t, m) (x, y) (subst (λ z. Contains {X = ℕ × ℕ} z (x, y)) alike inside)) [
      | inl still ↦ congruent still refl refl
      | inr it ↦ named (ap (λ (z : ℕ × ℕ). name c (owner owners z.0)) (sym it) ∙ ap (name c) (sym e) ∙ same ∙ ap (name c) f ∙ ap (λ (z : ℕ × ℕ). name c (owner owners z.1)) it)
    ]
    | inr (none, less, equal) ↦ absurd (contains_none (x, y) (subst (λ z. Contains {X = ℕ × ℕ} z (x, y)) none inside))
  ];
}

-- the numbers of a pair that is taken are in range
pub takes_in : (c : Contents) (owners : List ℕ) (before rest : Agenda) (p q : ℕ) → AreOwners c owners → AreInRange c before → Takes owners before rest p q → (p < length c.bindings) × (q < length c.bindings)
takes_in c owners before rest p q own range takes = elim takes [
  | inl (t, m, alike, equal, e, f) ↦
      let pair = range.alike t m (subst (λ z. Contains {X = ℕ × ℕ} z (t, m)) (sym alike) (contains_last rest.alike (t, m))) in
      (subst (λ z. z < length c.bindings) (sym e) (own.within t pair.0), subst (λ z. z < length c.bindings) (sym f) (own.within m pair.1))
  | inr (none, less, equal) ↦ range.equal p q (subst (λ z. Contains {X = ℕ × ℕ} z (p, q)) (sym equal) (contains_last rest.equal (p, q)))
]

pub takes_range : (c : Contents) (owners : List ℕ) (before rest : Agenda) (p q : ℕ) → Takes owners before rest p q → AreInRange c before → AreInRange c rest
takes_range c owners before rest p q takes range = record {
  equal = λ x y inside. range.equal x y (takes_equal owners before rest p q x y takes inside);
  alike = λ x y inside. range.alike x y (takes_alike owners before rest p q x y takes inside);
}

pub range_owned : (c : Contents) (owners : List ℕ) (a : Agenda) → AreOwners c owners → AreInRange c a → AreOwned a owners
range_owned c owners a own range t m inside = let pair = range.alike t m inside in (omega (arith, pair.0, own.counted), omega (arith, pair.1, own.counted))

pub no_turn : (owners : List ℕ) (c : Contents) (a : Agenda) (starts : List ℕ) → IsShaped c → LeadsOn owners c c a a starts starts
no_turn owners c a starts shaped = record {
  underway = λ atoms is. is;
  later = record {
    variables = refl;
    names = λ u. sym (name_twice c shaped u);
    roots = λ r e. e;
    free = λ v e. e;
    marks = λ r e. e;
    count = omega arith;
    terms = λ t w. refl;
  };
  marks = refl;
  terms = refl;
  watched = record { kept = λ r inside. inside; lost = λ r free mark. inl free; each = λ r inside. inl inside };
}

module _ (owners : List ℕ) (first c d : Contents) (start before rest after : Agenda) (s t u : List ℕ) (p q : ℕ) (formed : IsWellFormed c)
    (p_in : p < length c.bindings) (q_in : q < length c.bindings) (on : LeadsOn owners first c start before s t) (takes : Takes owners before rest p q) where
  free_first : (r : ℕ) → IsFree c r → IsFree first r
  free_first r free =
      let stop : target_of c.bindings r ≡ None = ap target free in
      let then : target_of first.bindings r ≡ None = on.later.roots r stop in
      let here : IsFree c (name c r) = subst (IsFree c) (sym (root_of_root c.bindings r stop)) free in
      subst (IsFree first) (root_of_root first.bindings r then) (on.later.free r here)

  mark_first : (r : ℕ) → IsMarked c r → IsMarked first r
  mark_first r mark = subst (λ z. slice_index_or z r false ≡ true) on.marks mark

  stays_on : name c p ≡ name c q → LeadsOn owners first c start rest s t
  stays_on same = record {
    underway = λ atoms is. agenda_moves c owners before rest atoms (takes_kept c owners before rest p q same takes)
        (record {
          equal = λ x y inside. (on.underway atoms is).0.equal x y (takes_equal owners before rest p q x y takes inside);
          alike = λ x y inside. (on.underway atoms is).0.alike x y (takes_alike owners before rest p q x y takes inside);
        })
        (on.underway atoms is);
    later = on.later;
    marks = on.marks;
    terms = on.terms;
    watched = on.watched;
  }

  merges_on : name c p ≢ name c q → IsMergeStep c d rest after (name c p) (name c q) → AreWatched c d t u → LeadsOn owners first d start after s u
  merges_on apart step watched =
      let join : IsJoin c d step.goes step.stays = merge_join c d rest after p q formed p_in q_in apart step in
      record {
        underway = λ atoms is. merge_leads_on c d owners before rest after p q formed p_in q_in apart step takes atoms (on.underway atoms is);
        later = later_later first c d on.later (change_later c d (step.goes ∷ step.stays ∷ []) (shaped_of c formed) (changes.joined step.goes step.stays refl join));
        marks = join.marks ∙ on.marks;
        terms = join.terms ∙ on.terms;
        watched = record {
          kept = λ r inside. watched.kept r (on.watched.kept r inside);
          lost = λ r free mark. elim (on.watched.lost r free mark) [
            | inl still ↦ watched.lost r still (subst (λ z. slice_index_or z r false ≡ true) (sym on.marks) mark)
            | inr inside ↦ inr (watched.kept r inside)
          ];
          each = λ r inside. elim (watched.each r inside) [
            | inl was ↦ on.watched.each r was
            | inr (free, mark) ↦ inr (free_first r free, mark_first r mark)
          ];
        };
      }

  pub leads_turn : IsTurn c d rest after t u p q → LeadsOn owners first d start after s u
  leads_turn turn = elim turn [
    | inl (same, e, f, g) ↦ subst (λ z. LeadsOn owners first d start after s z) (sym g) (subst (λ z. LeadsOn owners first d start z s t) (sym f) (subst (λ z. LeadsOn owners first z start rest s t) (sym e) (stays_on same)))
    | inr (apart, step, watched) ↦ merges_on apart step watched
  ]

  pub refutes_turn : RefutesBoth c rest p q → Refutes owners first start
  refutes_turn none atoms is = none owners before takes atoms (on.underway atoms is)

pub owners_now : (owners : List ℕ) (first c : Contents) (start before : Agenda) (s t : List ℕ) → LeadsOn owners first c start before s t → AreOwners first owners → AreOwners c owners
owners_now owners first c start before s t on own = record {
  counted = own.counted ∙ ap length (sym on.terms);
  within = λ k w. omega (arith, own.within k (omega (arith, w, ap length on.terms)), on.later.variables);
}

-- terms that differ can't be made equal
differ_refutes : (c : Contents) (owners : List ℕ) (before : Agenda) (atoms : List Flat) (v w : ℕ) → IsWellFormed c → IsSound c owners before atoms → Class atoms v w → Differ c v w → Unsolvable atoms
differ_refutes c owners before atoms v w formed sound one (t, s, here, there, differ) =
    clash_unsolvable c atoms v w (term_at c.terms t).symbol (term_at c.terms s).symbol (map (name c) (term_at c.terms t).args) (map (name c) (term_at c.terms s).args) sound.follows one
    (record { term = t; bound = here; key = record { within = formed.bound_terms v t here; sign = refl; args = refl } })
    (record { term = s; bound = there; key = record { within = formed.bound_terms w s there; sign = refl; args = refl } })
    (λ same. differ (same.0, sym (length-map (term_at c.terms t).args (name c)) ∙ same.1 ∙ length-map (term_at c.terms s).args (name c)))

pub refutes_both : (c : Contents) (rest : Agenda) (p q a b : ℕ) → IsWellFormed c → a ≡ name c p → b ≡ name c q → (Differ c a b ⊎ Differ c b a) → RefutesBoth c rest p q
refutes_both c rest p q a b formed e f either owners before takes atoms is =
    let sound : IsSound c owners before atoms = is.0 in
    let one : Class atoms (name c p) (name c q) = joined (turned (is.0.follows.sound p)) (joined (one_class c owners before atoms is.0 (takes_joins c owners before rest p q takes)) (is.0.follows.sound q)) in
    elim either [
      | inl differ ↦ differ_refutes c owners before atoms (name c p) (name c q) formed is.0 one (subst (λ z. Differ c z (name c q)) e (subst (λ z. Differ c a z) f differ))
      | inr differ ↦ differ_refutes c owners before atoms (name c q) (name c p) formed is.0 (turned one) (subst (λ z. Differ c z (name c p)) f (subst (λ z. Differ c b z) e differ))
    ]

pub refuted : (c : Contents) (a b : ℕ) (P : Type 0) (on : Bool) → on ≡ false → MatchBool on P (Differ c a b ⊎ Differ c b a) → (Differ c a b ⊎ Differ c b a)
refuted c a b P on e is = subst (λ z. MatchBool z P (Differ c a b ⊎ Differ c b a)) e is

pub turned_on : (c d : Contents) (rest after : Agenda) (t u : List ℕ) (p q : ℕ) (on : Bool) → on ≡ true → MatchBool on (IsTurn c d rest after t u p q) (RefutesBoth c rest p q) → IsTurn c d rest after t u p q
turned_on c d rest after t u p q on e is = subst (λ z. MatchBool z (IsTurn c d rest after t u p q) (RefutesBoth c rest p q)) e is

pub turned_off : (c d : Contents) (rest after : Agenda) (t u : List ℕ) (p q : ℕ) (on : Bool) → on ≡ false → MatchBool on (IsTurn c d rest after t u p q) (RefutesBoth c rest p q) → RefutesBoth c rest p q
turned_off c d rest after t u p q on e is = subst (λ z. MatchBool z (IsTurn c d rest after t u p q) (RefutesBoth c rest p q)) e is

-- numbers stay in range
range_merge : (c d : Contents) (rest after : Agenda) (a b : ℕ) → IsWellFormed c → IsMergeStep c d rest after a b → AreInRange c rest → AreInRange d after
range_merge c d rest after a b formed step range =
    let terms : d.terms ≡ c.terms = ap (λ (z : Contents). z.terms) step.bound in
    let wide : length d.bindings ≡ length c.bindings = ap (λ (z : Contents). length z.bindings) step.bound ∙ length-set c.bindings step.goes (Variable step.stays) in
    record {
      equal = λ x y inside. elim step.terms [
        | inl (bare, same) ↦ let pair = range.equal x y (subst (λ z. Contains {X = ℕ × ℕ} z (x, y)) same inside) in (omega (arith, pair.0, wide), omega (arith, pair.1, wide))
        | inr (t, s, here, there, shape, paired) ↦ elim ((paired x y).0 inside) [
          | inl was ↦ let pair = range.equal x y was in (omega (arith, pair.0, wide), omega (arith, pair.1, wide))
          | inr (i, low, e, f) ↦
              let one : slice_index (term_at c.terms s).args i < length c.bindings = formed.arguments s (formed.bound_terms step.stays s there) i 0 low in
              let other : slice_index (term_at c.terms t).args i < length c.bindings = formed.arguments t (formed.bound_terms step.goes t here) i 0 (omega (arith, low, shape.1)) in
              (omega (arith, one, e, wide), omega (arith, other, f, wide))
        ]
      ];
      alike = λ x y inside. elim (step.linked.each x y inside) [
        | inl was ↦ let pair = range.alike x y was in (omega (arith, pair.0, ap length terms), omega (arith, pair.1, ap length terms))
        | inr (note, stands, either) ↦
            let it = step.noted.each note stands in
            let low : note.term < length d.terms = omega (arith, it.0.0, ap length terms) in
            elim either [
              | inl (e, leads) ↦ (omega (arith, low, e), leads.0.within)
              | inr (e, f) ↦
                  let met : IsMet c step.goes step.stays note.term (Some x) = subst (IsMet c step.goes step.stays note.term) e it.1 in
                  (omega (arith, met.0.within, ap length terms), omega (arith, low, f))
            ]
      ];
    }

pub range_turn : (c d : Contents) (rest after : Agenda) (t u : List ℕ) (p q : ℕ) → IsWellFormed c → IsTurn c d rest after t u p q → AreInRange c rest → AreInRange d after
range_turn c d rest after t u p q formed turn range = elim turn [
  | inl (same, e, f, g) ↦ subst (λ z. AreInRange z after) (sym e) (subst (AreInRange c) (sym f) range)
  | inr (apart, step, watched) ↦ range_merge c d rest after (name c p) (name c q) formed step range
]

-- a root less
roots_less : (bs : List Bound) (v w : ℕ) → v < length bs → target_of bs v ≡ None → roots_in bs ≡ suc (roots_in (slice_set bs v (Variable w)))
roots_less [] v w l e = absurd (omega arith)
roots_less (Free ∷ bs) zero w l e = refl
roots_less (Variable x ∷ bs) zero w l e = absurd (let f : Some x ≡ None = e in cc)
roots_less (Term t ∷ bs) zero w l e = refl
roots_less (Free ∷ bs) (suc v) w l e = ap suc (roots_less bs v w (omega arith) e)
roots_less (Variable x ∷ bs) (suc v) w l e = roots_less bs v w (omega arith) e
roots_less (Term t ∷ bs) (suc v) w l e = ap suc (roots_less bs v w (omega arith) e)

pub takes_lighter : (c : Contents) (owners : List ℕ) (before rest : Agenda) (p q : ℕ) → Takes owners before rest p q → weight c rest < weight c before
takes_lighter c owners before rest p q takes = elim takes [
  | inl (t, m, alike, equal, e, f) ↦ omega (arith, ap length alike, ap length equal, length_push rest.alike (t, m))
  | inr (none, less, equal) ↦ omega (arith, ap length none, ap length less, ap length equal, length_push rest.equal (p, q))
]

merge_lighter : (c d : Contents) (rest after : Agenda) (a b : ℕ) → IsMergeStep c d rest after a b → target_of c.bindings a ≡ None → target_of c.bindings b ≡ None → a < length c.bindings → b < length c.bindings
    → weight d after ≤ weight c rest
merge_lighter c d rest after a b step a_root b_root a_in b_in =
    let terms : d.terms ≡ c.terms = ap (λ (z : Contents). z.terms) step.bound in
    let fewer : roots_in c.bindings ≡ suc (roots_in d.bindings) =
    roots_less c.bindings step.goes step.stays (choice_in c a b step.goes step.stays step.choice a_in b_in).0 (choice_root c a b step.goes step.stays step.choice a_root b_root).0
    ∙ ap (λ (z : Contents). suc (roots_in z.bindings)) (sym step.bound) in
    let product : roots_in c.bindings * (9 + length c.terms) ≡ (9 + length c.terms) + roots_in d.bindings * (9 + length c.terms) = ap (λ z. z * (9 + length c.terms)) fewer ∙ (let m = suc-mul (roots_in d.bindings) (9 + length c.terms) in omega (arith, m)) in
    let same : roots_in d.bindings * (9 + length d.terms) ≡ roots_in d.bindings * (9 + length c.terms) = ap (λ (z : List Made). roots_in d.bindings * (9 + length z)) terms in
    omega (arith, product, same, step.few, step.linked.few, step.noted.few)

pub turn_lighter : (c d : Contents) (rest after : Agenda) (t u : List ℕ) (p q : ℕ) → IsWellFormed c → p < length c.bindings → q < length c.bindings → IsTurn c d rest after t u p q → weight d after ≤ weight c rest
turn_lighter c d rest after t u p q formed p_in q_in turn = elim turn [
  | inl (same, e, f, g) ↦ rw (e, f) (omega arith)
  | inr (apart, step, watched) ↦
      let shaped : IsShaped c = shaped_of c formed in
      merge_lighter c d rest after (name c p) (name c q) step (shaped.forest.ends p) (shaped.forest.ends q) (name_within c shaped p p_in) (name_within c shaped q q_in)
]
