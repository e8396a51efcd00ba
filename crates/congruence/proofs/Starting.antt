-- What an atom more makes wait.
use Rattle.std.proofs.Common.{ℕ, ◌<◌, ◌≡◌, List, [], ◌∷◌, ◌++◌, length, map, refl, sym, ◌∙◌, subst, inl, inr, arith}
use Rattle.std.specs.Prelude.{Contains, slice_index}
use Rattle.std.proofs.lemmas.List.Elements.{Contains-append_left}
use Rattle.tree_model.specs.declared.tree.Symbol.{Symbol}
use Rattle.tree_facts.proofs.Members.{contains_first, contains_cases}
use Rattle.flat_form.specs.declared.atom.Flat.{Flat}
use Rattle.flat_form.specs.declared.atom.Flat.TheVariants.{VarVar, VarTerm}
use Rattle.flat_form.specs.Classes.{Class, turned, joined, stated, inward, outward}
use Rattle.term_graph.specs.Contents.{Contents, term_at}
use Rattle.settled_facts.specs.Settled.{name, IsShaped, HasTermIn, Follows, IsSettled}
use Rattle.settled_facts.proofs.Terms.{named_class, name_twice}
use Rattle.congruence.specs.Agenda.{owner, Pairwise, Agenda, idle, IsBacked, Joins, named, back, through, equated, HasTerm, IsUnderway}
use Rattle.congruence.specs.Merges.{AreKept, IsAgendaSound}
use Rattle.congruence.specs.Starts.{IsHeeded, SettledIsUnderway, AtomWaits, EquationWaits, ArgumentsWait, OwnerWaits}
use Rattle.congruence.proofs.Pairs.{pairwise_as, pairwise_back, pairwise_through, names_pairwise}
use Rattle.congruence.proofs.Atoms.{contains_none, contains_last, before_or_last, class_as, reached_as}
use Rattle.congruence.proofs.Merged.{lifted, lifted_args}

module _ (c : Contents) (owners : List ℕ) (atoms : List Flat) (shaped : IsShaped c) (settled : IsSettled c owners atoms) where
  holds_term : (v : ℕ) (s : Symbol) (xs : List ℕ) → HasTermIn c (name c v) s (map (name c) xs) → HasTerm c owners idle v s xs
  holds_term v s xs has = record {
    of = v;
    joins = named refl;
    term = has.term;
    bound = has.bound;
    sign = has.key.sign;
    args = pairwise_as (λ p q. name c p ≡ name c q) (Joins c owners idle) (term_at c.terms has.term).args xs (λ p q. named) (names_pairwise c (term_at c.terms has.term).args xs has.key.args);
  }

  term_owned : (t : ℕ) → t < length c.terms → HasTermIn c (name c (owner owners t)) (term_at c.terms t).symbol (map (name c) (term_at c.terms t).args)
  term_owned t within = settled.owned t (term_at c.terms t).symbol (map (name c) (term_at c.terms t).args) (record { within = within; sign = refl; args = refl })

  pub settled_underway_by : IsUnderway c owners idle atoms
  settled_underway_by = (
    record {
      follows = settled.follows;
      equal = λ u v is. absurd (contains_none (u, v) is);
      alike = λ t m is. absurd (contains_none (t, m) is);
      terms = λ t within.
          let given = settled.follows.given (name c (owner owners t)) (term_at c.terms t).symbol (map (name c) (term_at c.terms t).args) (term_owned t within) in
          record {
            left = given.0;
            right = given.1;
            stands = given.2;
            equal = named_class c atoms settled.follows given.0 (owner owners t) given.3;
            args = pairwise_as (λ p q. name c p ≡ name c q) (Class atoms) given.1 (term_at c.terms t).args (named_class c atoms settled.follows)
                (names_pairwise c given.1 (term_at c.terms t).args given.4);
          };
    },
    record {
      equal = λ u v stands. named (settled.equal u v stands);
      held = λ u s xs stands. holds_term u s xs (settled.held u s xs stands);
      owned = λ t within. holds_term (owner owners t) (term_at c.terms t).symbol (term_at c.terms t).args (term_owned t within);
      shared = λ t m is.
          let has : HasTermIn c (name c (owner owners m)) (term_at c.terms t).symbol (map (name c) (term_at c.terms t).args) =
          settled.owned m (term_at c.terms t).symbol (map (name c) (term_at c.terms t).args) (record { within = is.right; sign = sym is.sign; args = sym is.args }) in
          named (settled.apart (name c (owner owners t)) (name c (owner owners m)) (term_at c.terms t).symbol (map (name c) (term_at c.terms t).args) (term_owned t is.left) has);
      live = λ r t bound.
          let within : t < length c.terms = shaped.bound r t bound in
          settled.apart (name c (owner owners t)) r (term_at c.terms t).symbol (map (name c) (term_at c.terms t).args) (term_owned t within)
          (record { term = t; bound = bound; key = record { within = within; sign = refl; args = refl } });
    },
  )

pub settled_underway : SettledIsUnderway
settled_underway = settled_underway_by

module _ (c : Contents) (owners : List ℕ) (a : Agenda) where
  heeded_equal : (atom : Flat) (u v : ℕ) → IsHeeded c owners a atom → atom ≡ VarVar u v → Joins c owners a u v
  heeded_equal atom u v is e = subst (IsHeeded c owners a) e is

  heeded_held : (atom : Flat) (u : ℕ) (s : Symbol) (xs : List ℕ) → IsHeeded c owners a atom → atom ≡ VarTerm u s xs → HasTerm c owners a u s xs
  heeded_held atom u s xs is e = subst (IsHeeded c owners a) e is

  from_idle : AreKept c owners a idle
  from_idle = record { equal = λ x y is. absurd (contains_none (x, y) is); alike = λ t m is. absurd (contains_none (t, m) is) }

  waits_too : (v : ℕ) (s : Symbol) (xs : List ℕ) → HasTerm c owners idle v s xs → HasTerm c owners a v s xs
  waits_too v s xs has = record {
    of = has.of;
    joins = lifted c c owners idle a (λ p q e. e) from_idle has.joins;
    term = has.term;
    bound = has.bound;
    sign = has.sign;
    args = lifted_args c c owners idle a (λ p q e. e) from_idle (term_at c.terms has.term).args xs has.args;
  }

pub follows_more : (c : Contents) (atoms : List Flat) (atom : Flat) → Follows c atoms → Follows c (atoms ++ atom ∷ [])
follows_more c atoms atom follows =
    let all : (x : Flat) → Contains atoms x → Contains (atoms ++ atom ∷ []) x = λ x is. Contains-append_left atoms (atom ∷ []) x is in
    record {
      sound = λ v. class_as atoms (atoms ++ atom ∷ []) all (follows.sound v);
      given = λ r s ys has. let given = follows.given r s ys has in (given.0, given.1, all (VarTerm given.0 s given.1) given.2, given.3, given.4);
      marked = λ r free is. reached_as atoms (atoms ++ atom ∷ []) all (follows.marked r free is);
    }

pub backed_more : (atoms : List Flat) (atom : Flat) (v : ℕ) (s : Symbol) (xs : List ℕ) → IsBacked atoms v s xs → IsBacked (atoms ++ atom ∷ []) v s xs
backed_more atoms atom v s xs is =
    let all : (x : Flat) → Contains atoms x → Contains (atoms ++ atom ∷ []) x = λ x inside. Contains-append_left atoms (atom ∷ []) x inside in
    record {
      left = is.left;
      right = is.right;
      stands = all (VarTerm is.left s is.right) is.stands;
      equal = class_as atoms (atoms ++ atom ∷ []) all is.equal;
      args = pairwise_as (Class atoms) (Class (atoms ++ atom ∷ [])) is.right xs (λ p q. class_as atoms (atoms ++ atom ∷ []) all) is.args;
    }

pub atom_waits : AtomWaits
atom_waits c owners a atoms atom (sound, is) waits heeded = (
  record {
    follows = follows_more c atoms atom sound.follows;
    equal = waits.equal;
    alike = waits.alike;
    terms = λ t within. backed_more atoms atom (owner owners t) (term_at c.terms t).symbol (term_at c.terms t).args (sound.terms t within);
  },
  record {
    equal = λ u v stands. elim (before_or_last atoms atom (VarVar u v) stands) [
      | inl before ↦ lifted c c owners idle a (λ p q e. e) (from_idle c owners a) (is.equal u v before)
      | inr e ↦ heeded_equal c owners a atom u v heeded e
    ];
    held = λ u s xs stands. elim (before_or_last atoms atom (VarTerm u s xs) stands) [
      | inl before ↦ waits_too c owners a u s xs (is.held u s xs before)
      | inr e ↦ heeded_held c owners a atom u s xs heeded e
    ];
    owned = λ t within. waits_too c owners a (owner owners t) (term_at c.terms t).symbol (term_at c.terms t).args (is.owned t within);
    shared = λ t m alike. lifted c c owners idle a (λ p q e. e) (from_idle c owners a) (is.shared t m alike);
    live = is.live;
  },
)

no_terms : (c : Contents) (owners : List ℕ) (pairs : List (ℕ × ℕ)) (atoms : List Flat) → ((u v : ℕ) → Contains pairs (u, v) → Class atoms u v)
    → IsAgendaSound c owners (record { equal = pairs; alike = [] }) atoms
no_terms c owners pairs atoms equal = record { equal = equal; alike = λ t m is. absurd (contains_none (t, m) is) }

pair_only : (u v x y : ℕ) (R : ℕ → ℕ → Type 0) → R u v → Contains {X = ℕ × ℕ} ((u, v) ∷ []) (x, y) → R x y
pair_only u v x y R holds inside = elim (contains_cases (u, v) (x, y) [] inside) [
  | inl e ↦ subst (λ (p : ℕ × ℕ). R p.0 p.1) e holds
  | inr more ↦ absurd (contains_none (x, y) more)
]

pub equation_waits : EquationWaits
equation_waits c owners atoms u v is =
    atom_waits c owners (record { equal = (u, v) ∷ []; alike = [] }) atoms (VarVar u v) is
    (no_terms c owners ((u, v) ∷ []) (atoms ++ VarVar u v ∷ []) (λ x y inside. pair_only u v x y (Class (atoms ++ VarVar u v ∷ [])) (stated (contains_last atoms (VarVar u v))) inside))
    (equated (contains_first (u, v) []))

pub arguments_wait : ArgumentsWait
arguments_wait c owners atoms u t symbol xs pairs shaped bound sign len paired is =
    let args : List ℕ = (term_at c.terms t).args in
    let follows : Follows c (atoms ++ VarTerm u symbol xs ∷ []) = follows_more c atoms (VarTerm u symbol xs) is.0.follows in
    let given = follows.given (name c u) symbol (map (name c) args) (record { term = t; bound = bound; key = record { within = shaped.bound (name c u) t bound; sign = sign; args = refl } }) in
    let left : Class (atoms ++ VarTerm u symbol xs ∷ []) given.0 u = named_class c (atoms ++ VarTerm u symbol xs ∷ []) follows given.0 u given.3 in
    let right : Pairwise (Class (atoms ++ VarTerm u symbol xs ∷ [])) given.1 args =
    pairwise_as (λ p q. name c p ≡ name c q) (Class (atoms ++ VarTerm u symbol xs ∷ [])) given.1 args (named_class c (atoms ++ VarTerm u symbol xs ∷ []) follows) (names_pairwise c given.1 args given.4) in
    atom_waits c owners (record { equal = pairs; alike = [] }) atoms (VarTerm u symbol xs) is
    (no_terms c owners pairs (atoms ++ VarTerm u symbol xs ∷ []) (λ x y inside. elim ((paired x y).0 inside) [
      | inl none ↦ absurd (contains_none (x, y) none)
      | inr (i, w, e, f) ↦
          let here : i < length given.1 = omega (arith, w, right.0) in
          let one : Class (atoms ++ VarTerm u symbol xs ∷ []) (slice_index args i) (slice_index xs i) =
          joined (turned (right.1 i here)) (inward symbol given.1 xs given.2 (contains_last atoms (VarTerm u symbol xs)) (right.0 ∙ len) left i here) in
          subst (λ z. Class (atoms ++ VarTerm u symbol xs ∷ []) z y) e (subst (λ z. Class (atoms ++ VarTerm u symbol xs ∷ []) (slice_index args i) z) f one)
    ]))
    (record {
      of = u;
      joins = named refl;
      term = t;
      bound = bound;
      sign = sign;
      args = (len, λ i w. equated ((paired (slice_index args i) (slice_index xs i)).1 (inr (i, w, refl, refl))));
    })

pub owner_waits : OwnerWaits
owner_waits c owners atoms u t symbol xs shaped leads is =
    let args : List ℕ = (term_at c.terms t).args in
    let follows : Follows c (atoms ++ VarTerm u symbol xs ∷ []) = follows_more c atoms (VarTerm u symbol xs) is.0.follows in
    let backed : IsBacked (atoms ++ VarTerm u symbol xs ∷ []) (owner owners t) (term_at c.terms t).symbol args =
    backed_more atoms (VarTerm u symbol xs) (owner owners t) (term_at c.terms t).symbol args (is.0.terms t leads.0.within) in
    let names : Pairwise (λ p q. name c p ≡ name c q) args xs = names_pairwise c args xs leads.0.args in
    let right : Pairwise (Class (atoms ++ VarTerm u symbol xs ∷ [])) xs backed.right =
    pairwise_back (Class (atoms ++ VarTerm u symbol xs ∷ [])) backed.right xs (λ p q. turned)
    (pairwise_through (Class (atoms ++ VarTerm u symbol xs ∷ [])) backed.right args xs (λ p q r. joined) backed.args
    (pairwise_as (λ p q. name c p ≡ name c q) (Class (atoms ++ VarTerm u symbol xs ∷ [])) args xs (named_class c (atoms ++ VarTerm u symbol xs ∷ []) follows) names)) in
    let stands : Contains (atoms ++ VarTerm u symbol xs ∷ []) (VarTerm backed.left symbol backed.right) =
    subst (λ (s : Symbol). Contains (atoms ++ VarTerm u symbol xs ∷ []) (VarTerm backed.left s backed.right)) leads.0.sign backed.stands in
    let one : Class (atoms ++ VarTerm u symbol xs ∷ []) (name c u) (owner owners t) =
    joined (turned (follows.sound u)) (joined (outward symbol xs backed.right (contains_last atoms (VarTerm u symbol xs)) stands right.0 right.1) backed.equal) in
    let has : HasTerm c owners idle (owner owners t) (term_at c.terms t).symbol args = is.1.owned t leads.0.within in
    let waits : HasTerm c owners (record { equal = (name c u, owner owners t) ∷ []; alike = [] }) (owner owners t) (term_at c.terms t).symbol args =
    waits_too c owners (record { equal = (name c u, owner owners t) ∷ []; alike = [] }) (owner owners t) (term_at c.terms t).symbol args has in
    atom_waits c owners (record { equal = (name c u, owner owners t) ∷ []; alike = [] }) atoms (VarTerm u symbol xs) is
    (no_terms c owners ((name c u, owner owners t) ∷ []) (atoms ++ VarTerm u symbol xs ∷ [])
    (λ x y inside. pair_only (name c u) (owner owners t) x y (Class (atoms ++ VarTerm u symbol xs ∷ [])) one inside))
    (record {
      of = waits.of;
      joins = through waits.joins (through (back (equated (contains_first (name c u, owner owners t) []))) (named (name_twice c shaped u)));
      term = waits.term;
      bound = waits.bound;
      sign = waits.sign ∙ leads.0.sign;
      args = pairwise_through (Joins c owners (record { equal = (name c u, owner owners t) ∷ []; alike = [] })) (term_at c.terms waits.term).args args xs (λ p q r. through) waits.args
          (pairwise_as (λ p q. name c p ≡ name c q) (Joins c owners (record { equal = (name c u, owner owners t) ∷ []; alike = [] })) args xs (λ p q. named) names);
    })
