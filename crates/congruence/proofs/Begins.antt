-- What an assertion begins with, for each kind of atom.
use Rattle.std.proofs.Common.{ℕ, ◌<◌, ◌≤◌, ◌≡◌, ◌≢◌, List, [], ◌∷◌, ◌++◌, length, map, refl, sym, ◌∙◌, ap, subst, inl, inr, Some, None, arith, length-set}
use Rattle.std.specs.Prelude.{All, Contains}
use Rattle.std.proofs.lemmas.List.{take_all, length-map, length_push, get_or_append_left, get_or_push}
use Rattle.std.proofs.lemmas.Bool.{cases_eq, cases_lt}
use Rattle.tree_model.specs.declared.tree.Symbol.{Symbol}
use Rattle.tree_facts.proofs.Members.{contains_first, contains_cases}
use Rattle.flat_form.specs.declared.atom.Flat.{Flat}
use Rattle.flat_form.specs.declared.atom.Flat.TheVariants.{VarVar, VarTerm, Finite}
use Rattle.flat_form.specs.Classes.{clash}
use Rattle.term_graph.specs.declared.bound.Bound.TheVariants.{Term}
use Rattle.term_graph.specs.declared.term.Term.{Term as Made}
use Rattle.term_graph.specs.Contents.{Contents, binding_of, term_at, root, IsLeader, IsWellFormed, with_term, with_binding, History, IsInterned, Grows, grown, BoundAt}
use Rattle.term_graph.specs.Contents.{Interns}
use Rattle.term_graph.proofs.Growing.{grows_on, grows_none}
use Rattle.tree_facts.proofs.Renumbering.{contains_image}
use Rattle.settled_facts.specs.Changes.{IsTerming, IsInterning, interned, termed}
use Rattle.settled_facts.proofs.Changing.{change_shape, change_later, later_later, term_other}
use Rattle.settled_facts.specs.Settled.{name, IsFree, IsMarked, IsShaped, IsSettled}
use Rattle.settled_facts.proofs.ReadOff.{name_within}
use Rattle.settled_facts.proofs.Terms.{shaped_of, named_class}
use Rattle.congruence.specs.Agenda.{owner, Agenda, idle, IsUnderway}
use Rattle.congruence.specs.Turns.{ArePaired, AreInRange, AreOwners, IsWatched}
use Rattle.congruence.specs.Begun.{HasShape, IsBegun, RefutesAtom, IsLonger}
use Rattle.congruence.proofs.Atoms.{contains_none, contains_last}
use Rattle.congruence.proofs.Starting.{settled_underway, atom_waits, equation_waits, arguments_wait, owner_waits, follows_more}
use Rattle.congruence.proofs.LeadingOn.{no_turn}
use Rattle.congruence.proofs.Standing.{term_stands}

module _ (c : Contents) (owners : List ℕ) (formed : IsWellFormed c) (own : AreOwners c owners) where
  shaped : IsShaped c
  shaped = shaped_of c formed

  -- where the graph is as before and walks begin nowhere
  here : (a : Agenda) (atom : Flat) → ((u : ℕ) → ¬ (atom ≡ Finite u)) → ((below : List Flat) → IsSettled c owners below → IsUnderway c owners a (below ++ atom ∷ [])) → AreInRange c a
      → IsBegun c c owners owners a [] atom
  here a atom other underway range = record {
    underway = underway;
    later = (no_turn owners c idle [] shaped).later;
    marks = refl;
    owned = own;
    range = range;
    lost = λ r free mark. inl free;
    said = λ u e. absurd (other u e);
    each = λ r inside. absurd (contains_none r inside);
  }

  one_pair : (u v : ℕ) → u < length c.bindings → v < length c.bindings → AreInRange c (record { equal = (u, v) ∷ []; alike = [] })
  one_pair u v u_in v_in = record {
    equal = λ x y inside. elim (contains_cases (u, v) (x, y) [] inside) [
      | inl e ↦ subst (λ (z : ℕ × ℕ). (z.0 < length c.bindings) × (z.1 < length c.bindings)) e (u_in, v_in)
      | inr more ↦ absurd (contains_none (x, y) more)
    ];
    alike = λ t m inside. absurd (contains_none (t, m) inside);
  }

  pub begun_equation : (u v : ℕ) → u < length c.bindings → v < length c.bindings → IsBegun c c owners owners (record { equal = (u, v) ∷ []; alike = [] }) [] (VarVar u v)
  begun_equation u v u_in v_in = here (record { equal = (u, v) ∷ []; alike = [] }) (VarVar u v) (λ x e. (cc))
      (λ below settled. equation_waits c owners below u v (settled_underway c owners below shaped settled)) (one_pair u v u_in v_in)

  pub begun_finite : (u : ℕ) → u < length c.bindings → IsBegun c c owners owners idle (u ∷ []) (Finite u)
  begun_finite u u_in = record {
    underway = λ below settled. atom_waits c owners idle below (Finite u) (settled_underway c owners below shaped settled)
        (record { equal = λ x y inside. absurd (contains_none (x, y) inside); alike = λ t m inside. absurd (contains_none (t, m) inside) }) tt;
    later = (no_turn owners c idle [] shaped).later;
    marks = refl;
    owned = own;
    range = record { equal = λ x y inside. absurd (contains_none (x, y) inside); alike = λ t m inside. absurd (contains_none (t, m) inside) };
    lost = λ r free mark. inl free;
    said = λ x e. (let same : u ≡ x = cc in subst (Contains (u ∷ [])) same (contains_first u []));
    each = λ r inside. elim (contains_cases u r [] inside) [
      | inl e ↦ (subst (λ z. z < length c.bindings) e u_in, inl (ap Finite e))
      | inr more ↦ absurd (contains_none r more)
    ];
  }

  pub begun_arguments : (u t : ℕ) (symbol : Symbol) (xs : List ℕ) (pairs : List (ℕ × ℕ)) → All (λ x. x < length c.bindings) xs → binding_of c.bindings (name c u) ≡ Term t → HasShape c t symbol xs
      → ArePaired (term_at c.terms t).args xs [] pairs → IsBegun c c owners owners (record { equal = pairs; alike = [] }) [] (VarTerm u symbol xs)
  begun_arguments u t symbol xs pairs xs_in bound shape paired = here (record { equal = pairs; alike = [] }) (VarTerm u symbol xs) (λ x e. (cc))
      (λ below settled. arguments_wait c owners below u t symbol xs pairs shaped bound shape.0 shape.1 paired (settled_underway c owners below shaped settled))
      (record {
        equal = λ x y inside. elim ((paired x y).0 inside) [
          | inl none ↦ absurd (contains_none (x, y) none)
          | inr (i, low, e, f) ↦ (
            subst (λ z. z < length c.bindings) e (formed.arguments t (formed.bound_terms (name c u) t bound) i 0 low),
            subst (λ z. z < length c.bindings) f (xs_in i 0 (omega (arith, low, shape.1))),
          )
        ];
        alike = λ k m inside. absurd (contains_none (k, m) inside);
      })

  pub begun_owner : (u t : ℕ) (symbol : Symbol) (xs : List ℕ) → u < length c.bindings → IsLeader c.bindings c.terms symbol (map (name c) xs) (Some t)
      → IsBegun c c owners owners (record { equal = (name c u, owner owners t) ∷ []; alike = [] }) [] (VarTerm u symbol xs)
  begun_owner u t symbol xs u_in leads = here (record { equal = (name c u, owner owners t) ∷ []; alike = [] }) (VarTerm u symbol xs) (λ x e. (cc))
      (λ below settled. owner_waits c owners below u t symbol xs shaped leads (settled_underway c owners below shaped settled))
      (one_pair (name c u) (owner owners t) (name_within c shaped u u_in) (own.within t leads.0.within))

  -- a class whose term has another symbol, or another number of arguments
  pub refutes_shape : (u t : ℕ) (symbol : Symbol) (xs : List ℕ) → binding_of c.bindings (name c u) ≡ Term t → (¬ HasShape c t symbol xs) → RefutesAtom c owners (VarTerm u symbol xs)
  refutes_shape u t symbol xs bound differ below settled =
      let follows = follows_more c below (VarTerm u symbol xs) settled.follows in
      let given = follows.given (name c u) (term_at c.terms t).symbol (map (name c) (term_at c.terms t).args) (record { term = t; bound = bound; key = record { within = formed.bound_terms (name c u) t bound; sign = refl; args = refl } }) in
      let long : length given.1 ≡ length (term_at c.terms t).args = sym (length-map given.1 (name c)) ∙ ap length given.4 ∙ length-map (term_at c.terms t).args (name c) in
      clash (record {
        left = given.0;
        right = u;
        left_symbol = (term_at c.terms t).symbol;
        right_symbol = symbol;
        xs = given.1;
        ys = xs;
        one_class = named_class c (below ++ VarTerm u symbol xs ∷ []) follows given.0 u given.3;
        left_stands = given.2;
        right_stands = contains_last below (VarTerm u symbol xs);
        differ = λ same. differ (same.0, sym long ∙ same.1);
      })

-- the same under other words
pub begun_as : (c d : Contents) (owners more : List ℕ) (a b : Agenda) (s t : List ℕ) (atom other : Flat) → a ≡ b → s ≡ t → atom ≡ other → IsBegun c d owners more b t other → IsBegun c d owners more a s atom
begun_as c d owners more a b s t atom other e f g is =
    subst (λ z. IsBegun c d owners more z s atom) (sym e) (subst (λ z. IsBegun c d owners more b z atom) (sym f) (subst (λ z. IsBegun c d owners more b t z) (sym g) is))

module _ (c : Contents) (owners : List ℕ) (formed : IsWellFormed c) (own : AreOwners c owners) (u : ℕ) (symbol : Symbol) (xs : List ℕ) (u_in : u < length c.bindings)
    (xs_in : All (λ x. x < length c.bindings) xs) (free : IsFree c (name c u)) (none : IsLeader c.bindings c.terms symbol (map (name c) xs) None) where
  abbrev r : ℕ
  r = name c u

  abbrev n : ℕ
  n = length c.terms

  abbrev made : Made
  made = record { symbol = symbol; args = map (name c) xs }

  abbrev middle : Contents
  middle = with_term symbol (map (name c) xs) c

  abbrev new : Contents
  new = with_binding (name c u) (Term (length c.terms)) (with_term symbol (map (name c) xs) c)

  all_shaped : IsShaped c
  all_shaped = shaped_of c formed

  r_in : r < length c.bindings
  r_in = name_within c all_shaped u u_in

  below_all : (x : ℕ) → Contains xs x → x < length c.bindings
  below_all x (k, w, e) = subst (λ z. z < length c.bindings) e (xs_in k x w)

  interning : IsInterning c middle
  interning = record {
    term = made;
    bindings = refl;
    marks = refl;
    terms = refl;
    arguments = λ x inside. let (y, stands, e) = contains_image (name c) xs x inside in subst (λ z. z < length c.bindings) e (name_within c all_shaped y (below_all y stands));
  }

  terming : IsTerming middle new r n
  terming = record { bindings = refl; marks = refl; terms = refl; free = free; within = r_in; term_within = omega (arith, length_push c.terms made) }

  shaped_middle : IsShaped middle
  shaped_middle = change_shape c middle [] all_shaped (interned refl interning)

  other_binding : (q : ℕ) → q ≢ r → binding_of new.bindings q ≡ binding_of c.bindings q
  other_binding q other = term_other middle new r n terming q other

  pub begun_term : (starts : List ℕ) → IsWatched middle r [] starts → IsBegun c new owners (owners ++ r ∷ []) idle starts (VarTerm u symbol xs)
  begun_term starts watched = record {
    underway = λ below settled. term_stands c owners below u symbol xs all_shaped own.counted u_in below_all free none (settled_underway c owners below all_shaped settled);
    later = later_later c middle new (change_later c middle [] all_shaped (interned refl interning)) (change_later middle new (r ∷ []) shaped_middle (termed r n refl terming));
    marks = refl;
    owned = record {
      counted = omega (arith, own.counted, length_push owners r, length_push c.terms made);
      within = λ t w. elim (cases_lt t n) [
        | inl low ↦ subst (λ z. z < length new.bindings) (sym (get_or_append_left owners (r ∷ []) 0 t (omega (arith, low, own.counted)))) (omega (arith, own.within t low, length-set c.bindings r (Term n)))
        | inr high ↦
            let at : t ≡ length owners = omega (arith, high, w, own.counted, length_push c.terms made) in
            subst (λ z. z < length new.bindings) (sym (get_or_push owners r 0 t (sym at))) (omega (arith, r_in, length-set c.bindings r (Term n)))
      ];
    };
    range = record { equal = λ x y inside. absurd (contains_none (x, y) inside); alike = λ t m inside. absurd (contains_none (t, m) inside) };
    lost = λ q open_q mark. elim (cases_eq q r) [
      | inl e ↦ elim watched [
        | inl (bare, f) ↦ absurd (bare free (subst (IsMarked c) e mark))
        | inr (marked, bare, f) ↦ inr (subst (λ (z : List ℕ). Contains z q) (sym f) (subst (λ z. Contains (r ∷ []) z) (sym e) (contains_first r [])))
      ]
      | inr other ↦ inl (other_binding q other ∙ open_q)
    ];
    said = λ x e. absurd (cc);
    each = λ q inside. elim watched [
      | inl (bare, f) ↦ absurd (contains_none q (subst (λ (z : List ℕ). Contains z q) f inside))
      | inr (marked, bare, f) ↦ elim (contains_cases r q [] (subst (λ (z : List ℕ). Contains z q) f inside)) [
        | inl e ↦ (omega (arith, r_in, e, length-set c.bindings r (Term n)), inr (subst (IsFree c) e free, subst (IsMarked c) e marked))
        | inr more ↦ absurd (contains_none q more)
      ]
    ];
  }

-- a graph whose table is asked for a term has grown, if at all
pub grows_interned : (old new : History) (symbol : Symbol) (keys : List ℕ) (t : ℕ) → IsInterned old new symbol keys t → Grows old new
grows_interned old new symbol keys t is = elim is [
  | inl (leads, e) ↦ grows_on old old new (grows_none old) (inl e)
  | inr (none, e, f) ↦ grows_on old old new (grows_none old) (inr (Interns, with_term symbol keys old.contents, f))
]

pub longer_none : (xs : List ℕ) → IsLonger xs xs
longer_none xs = (omega arith, take_all (length xs) xs (omega arith))

pub interned_by : (old new : History) (symbol : Symbol) (ys xs : List ℕ) (t : ℕ) → ys ≡ xs → IsInterned old new symbol (map (root old.contents.bindings) ys) t → IsInterned old new symbol (map (name old.contents) xs) t
interned_by old new symbol ys xs t e is = subst (λ (z : List ℕ). IsInterned old new symbol (map (root old.contents.bindings) z) t) e is

pub interned_before : (old new : History) (symbol : Symbol) (keys : List ℕ) (t : ℕ) → t < length old.contents.terms → IsInterned old new symbol keys t
    → IsLeader old.contents.bindings old.contents.terms symbol keys (Some t) × (new ≡ old)
interned_before old new symbol keys t low is = elim is [
  | inl found ↦ found
  | inr (none, e, f) ↦ absurd (omega (arith, low, e))
]

interned_now : (old new : History) (symbol : Symbol) (keys : List ℕ) (t : ℕ) → length old.contents.terms ≤ t → IsInterned old new symbol keys t
    → IsLeader old.contents.bindings old.contents.terms symbol keys None × (t ≡ length old.contents.terms) × (new ≡ grown Interns (with_term symbol keys old.contents) old)
interned_now old new symbol keys t high is = elim is [
  | inl (leads, e) ↦ absurd (omega (arith, high, leads.0.within))
  | inr made ↦ made
]

pub gave_owner : (old mid : History) (owners : List ℕ) (before waiting : Agenda) (starts : List ℕ) (u t root key : ℕ) (symbol : Symbol) (xs : List ℕ) → IsWellFormed old.contents → AreOwners old.contents owners
    → u < length old.contents.bindings → t < length old.contents.terms → IsInterned old mid symbol (map (name old.contents) xs) t → root ≡ name old.contents u → key ≡ owner owners t → before ≡ idle → starts ≡ []
    → waiting ≡ record { equal = before.equal ++ (root, key) ∷ []; alike = before.alike } → IsBegun old.contents mid.contents owners owners waiting starts (VarTerm u symbol xs)
gave_owner old mid owners before waiting starts u t root key symbol xs formed own u_in low is e f g h w =
    let found = interned_before old mid symbol (map (name old.contents) xs) t low is in
    let pair : waiting ≡ record { equal = (name old.contents u, owner owners t) ∷ []; alike = [] } =
    w ∙ ap (λ (z : Agenda). record { equal = z.equal ++ (root, key) ∷ []; alike = z.alike }) g ∙ ap (λ z. record { equal = (z, key) ∷ []; alike = [] }) e ∙ ap (λ z. record { equal = (name old.contents u, z) ∷ []; alike = [] }) f in
    subst (λ (z : History). IsBegun old.contents z.contents owners owners waiting starts (VarTerm u symbol xs)) (sym found.1)
    (begun_as old.contents old.contents owners owners waiting (record { equal = (name old.contents u, owner owners t) ∷ []; alike = [] }) starts [] (VarTerm u symbol xs) (VarTerm u symbol xs) pair h refl
    (begun_owner old.contents owners formed own u t symbol xs u_in found.0))

pub gave_term : (old mid new : History) (owners more : List ℕ) (waiting : Agenda) (before starts : List ℕ) (u t root : ℕ) (symbol : Symbol) (xs : List ℕ) → IsWellFormed old.contents → AreOwners old.contents owners
    → u < length old.contents.bindings → All (λ x. x < length old.contents.bindings) xs → IsFree old.contents (name old.contents u) → length old.contents.terms ≤ t → IsInterned old mid symbol (map (name old.contents) xs) t
    → root ≡ name old.contents u → more ≡ owners ++ root ∷ [] → before ≡ [] → IsWatched mid.contents root before starts → new ≡ grown (BoundAt root) (with_binding root (Term t) mid.contents) mid → waiting ≡ idle
    → IsBegun old.contents new.contents owners more waiting starts (VarTerm u symbol xs)
gave_term old mid new owners more waiting before starts u t root symbol xs formed own u_in xs_in free high is e f g watched h w =
    let made = interned_now old mid symbol (map (name old.contents) xs) t high is in
    let seen : IsWatched (with_term symbol (map (name old.contents) xs) old.contents) (name old.contents u) [] starts =
    subst (λ z. IsWatched (with_term symbol (map (name old.contents) xs) old.contents) z [] starts) e (subst (λ z. IsWatched (with_term symbol (map (name old.contents) xs) old.contents) root z starts) g
    (subst (λ (z : History). IsWatched z.contents root before starts) made.2 watched)) in
    let now : new.contents ≡ with_binding (name old.contents u) (Term (length old.contents.terms)) (with_term symbol (map (name old.contents) xs) old.contents) =
    ap (λ (z : History). z.contents) h ∙ ap (λ (z : History). with_binding root (Term t) z.contents) made.2
    ∙ ap (λ z. with_binding z (Term t) (with_term symbol (map (name old.contents) xs) old.contents)) e
    ∙ ap (λ z. with_binding (name old.contents u) (Term z) (with_term symbol (map (name old.contents) xs) old.contents)) made.1 in
    let begun = begun_term old.contents owners formed own u symbol xs u_in xs_in free made.0 starts seen in
    subst (λ (z : Contents). IsBegun old.contents z owners more waiting starts (VarTerm u symbol xs)) (sym now)
    (subst (λ z. IsBegun old.contents (with_binding (name old.contents u) (Term (length old.contents.terms)) (with_term symbol (map (name old.contents) xs) old.contents)) owners z waiting starts (VarTerm u symbol xs)) (sym (f ∙ ap (λ z. owners ++ z ∷ []) e))
    (subst (λ z. IsBegun old.contents (with_binding (name old.contents u) (Term (length old.contents.terms)) (with_term symbol (map (name old.contents) xs) old.contents)) owners (owners ++ name old.contents u ∷ []) z starts (VarTerm u symbol xs)) (sym w) begun))
