-- What a merge keeps.
use Rattle.std.proofs.Common.{ℕ, ◌<◌, ◌≡◌, true, false, List, length, map, refl, sym, ◌∙◌, ap, subst, inl, inr}
use Rattle.std.specs.Prelude.{nat_eq, Contains, slice_index_or}
use Rattle.std.proofs.lemmas.Bool.{eq-eqb, cases_eq, ne_eqb}
use lib.Dec.{eqb}
use Rattle.tree_model.specs.declared.tree.Symbol.{Symbol}
use Rattle.flat_form.specs.declared.atom.Flat.{Flat}
use Rattle.flat_form.specs.declared.atom.Flat.TheVariants.{VarTerm}
use Rattle.flat_form.specs.Classes.{Class, turned, joined, outward}
use Rattle.term_graph.specs.declared.bound.Bound.TheVariants.{Term}
use Rattle.term_graph.specs.Contents.{Contents, binding_of, term_at}
use Rattle.settled_facts.specs.Settled.{name, Follows}
use Rattle.settled_facts.proofs.Terms.{named_class, name_term, name_bound}
use Rattle.congruence.specs.Agenda.{owner, Pairwise, Agenda, AreAlike, IsBacked, Joins, named, back, through, equated, congruent, HasTerm, IsSound}
use Rattle.congruence.specs.Merges.{redirected, IsMerged, AreKept, IsNoted, MergeKeeps, AgendaMoves, AlikeIsSound}
use Rattle.congruence.proofs.Pairs.{pairwise_as, pairwise_back, pairwise_through, names_pairwise}
use Rattle.congruence.proofs.Shared.{shared_merged, new_names}

-- joined variables are of one class
module _ (c : Contents) (owners : List ℕ) (a : Agenda) (atoms : List Flat) (sound : IsSound c owners a atoms) where
  pub one_class : {u v : ℕ} → Joins c owners a u v → Class atoms u v
  one_class (named {u} {v} e) = named_class c atoms sound.follows u v e
  one_class (back j) = turned (one_class j)
  one_class (through j k) = joined (one_class j) (one_class k)
  one_class (equated {u} {v} is) = sound.equal u v is
  one_class (congruent {u} {v} {t} {m} is e f) = subst (λ z. Class atoms z v) e (subst (λ z. Class atoms (owner owners t) z) f (sound.alike t m is))

  pub alike_class : (t m : ℕ) → AreAlike c t m → Class atoms (owner owners t) (owner owners m)
  alike_class t m is =
      let one = sound.terms t is.left in
      let other = sound.terms m is.right in
      let between : Pairwise (Class atoms) (term_at c.terms t).args (term_at c.terms m).args =
      pairwise_as (λ u v. name c u ≡ name c v) (Class atoms) (term_at c.terms t).args (term_at c.terms m).args (named_class c atoms sound.follows)
      (names_pairwise c (term_at c.terms t).args (term_at c.terms m).args is.args) in
      let args : Pairwise (Class atoms) one.right other.right =
      pairwise_through (Class atoms) one.right (term_at c.terms t).args other.right (λ u v w. joined) one.args
      (pairwise_through (Class atoms) (term_at c.terms t).args (term_at c.terms m).args other.right (λ u v w. joined) between
      (pairwise_back (Class atoms) other.right (term_at c.terms m).args (λ u v. turned) other.args)) in
      let stands : Contains atoms (VarTerm other.left (term_at c.terms t).symbol other.right) =
      subst (λ (s : Symbol). Contains atoms (VarTerm other.left s other.right)) (sym is.sign) other.stands in
      joined (turned one.equal) (joined (outward (term_at c.terms t).symbol one.right other.right one.stands stands args.0 args.1) other.equal)

pub alike_sound : AlikeIsSound
alike_sound c owners a atoms t m sound is = alike_class c owners a atoms sound t m is

-- what a class has, it has still
module _ (old new : Contents) (owners : List ℕ) (before after : Agenda) (renamed : (x y : ℕ) → name old x ≡ name old y → name new x ≡ name new y)
    (kept : AreKept new owners after before) where
  pub lifted : {u v : ℕ} → Joins old owners before u v → Joins new owners after u v
  lifted (named {u} {v} e) = named (renamed u v e)
  lifted (back j) = back (lifted j)
  lifted (through j k) = through (lifted j) (lifted k)
  lifted (equated {u} {v} is) = kept.equal u v is
  lifted (congruent {u} {v} {t} {m} is e f) =
      subst (λ z. Joins new owners after z v) e (subst (λ z. Joins new owners after (owner owners t) z) f (kept.alike t m is))

  pub lifted_args : (xs ys : List ℕ) → Pairwise (Joins old owners before) xs ys → Pairwise (Joins new owners after) xs ys
  lifted_args xs ys p = pairwise_as (Joins old owners before) (Joins new owners after) xs ys (λ u v. lifted) p

waits_still : (c : Contents) (owners : List ℕ) (before after : Agenda) → AreKept c owners after before → (x : ℕ) (symbol : Symbol) (xs : List ℕ)
    → HasTerm c owners before x symbol xs → HasTerm c owners after x symbol xs
waits_still c owners before after kept x symbol xs has = record {
  of = has.of;
  joins = lifted c c owners before after (λ p q e. e) kept has.joins;
  term = has.term;
  bound = has.bound;
  sign = has.sign;
  args = lifted_args c c owners before after (λ p q e. e) kept (term_at c.terms has.term).args xs has.args;
}

module _ (v w : ℕ) (old new : Contents) (merged : IsMerged v w old new) where
  -- one name stays one name
  pub same_name : (x y : ℕ) → name old x ≡ name old y → name new x ≡ name new y
  same_name x y e = merged.names x ∙ ap (redirected v w) e ∙ sym (merged.names y)

  moved : (x : ℕ) → name old x ≡ v → name new x ≡ w
  moved x e = merged.names x ∙ ap (redirected v w) e ∙ (let same : nat_eq v v ≡ true = eq-eqb v v refl in rw same refl)

  stayed : (x : ℕ) → ¬ (name old x ≡ v) → name new x ≡ name old x
  stayed x other = merged.names x ∙ (let different : nat_eq (name old x) v ≡ false = ne_eqb (name old x) v other in rw different refl)

  pub follows_kept : (atoms : List Flat) → Class atoms v w → Follows old atoms → Follows new atoms
  follows_kept atoms one follows = record {
    sound = λ u. elim (cases_eq (name old u) v) [
      | inl e ↦ subst (Class atoms u) (sym (moved u e)) (joined (follows.sound u) (subst (λ z. Class atoms z w) (sym e) one))
      | inr other ↦ subst (Class atoms u) (sym (stayed u other)) (follows.sound u)
    ];
    given = λ r symbol ys has.
        let bound = merged.bound r has.term has.bound in
        let within : has.term < length old.terms = subst (λ z. has.term < length z) merged.terms has.key.within in
        let args : List ℕ = (term_at old.terms has.term).args in
        let given = follows.given r symbol (map (name old) args) (record {
          term = has.term;
          bound = bound.1;
          key = record { within = within; sign = ap (λ z. (term_at z has.term).symbol) (sym merged.terms) ∙ has.key.sign; args = refl };
        }) in
        let now : map (name new) args ≡ ys = ap (λ z. map (name new) (term_at z has.term).args) (sym merged.terms) ∙ has.key.args in (
          given.0,
          given.1,
          given.2,
          same_name given.0 r (given.3 ∙ sym (name_bound old r has.term bound.1)) ∙ name_term new r symbol ys has,
          new_names v w old new merged given.1 ∙ ap (map (redirected v w)) given.4 ∙ sym (new_names v w old new merged args) ∙ now,
        );
    marked = λ r free is. follows.marked r (merged.free r free) (subst (λ z. slice_index_or z r false ≡ true) merged.marks is);
  }

  module _ (owners : List ℕ) (before after : Agenda) (kept : AreKept new owners after before) (noted : IsNoted new owners after v w old) where
    term_stays : (x : ℕ) (symbol : Symbol) (xs : List ℕ) → HasTerm old owners before x symbol xs → HasTerm new owners after x symbol xs
    term_stays x symbol xs has =
        let joins : Joins new owners after has.of x = lifted old new owners before after same_name kept has.joins in
        let args : Pairwise (Joins new owners after) (term_at old.terms has.term).args xs = lifted_args old new owners before after same_name kept (term_at old.terms has.term).args xs has.args in
        elim (cases_eq (name old has.of) v) [
          | inl e ↦
              let lost = noted.lost has.term (subst (λ z. binding_of old.bindings z ≡ Term has.term) e has.bound) in
              let gone : name new w ≡ name new has.of = merged.names w ∙ ap (redirected v w) merged.at_root ∙ (let other : nat_eq w v ≡ false = ne_eqb w v merged.apart in rw other refl) ∙ sym (moved has.of e) in
              record {
                of = lost.of;
                joins = through lost.joins (through (named gone) joins);
                term = lost.term;
                bound = lost.bound;
                sign = lost.sign ∙ has.sign;
                args = pairwise_through (Joins new owners after) (term_at new.terms lost.term).args (term_at old.terms has.term).args xs (λ p q r. through) lost.args args;
              }
          | inr other ↦ record {
            of = has.of;
            joins = joins;
            term = has.term;
            bound = ap (binding_of new.bindings) (stayed has.of other) ∙ merged.others (name old has.of) other ∙ has.bound;
            sign = ap (λ z. (term_at z has.term).symbol) merged.terms ∙ has.sign;
            args = subst (λ z. Pairwise (Joins new owners after) (term_at z has.term).args xs) (sym merged.terms) args;
          }
        ]

pub merge_keeps : MergeKeeps
merge_keeps v w old new owners before after atoms merged one kept waits noted (sound, is) = (
  record {
    follows = follows_kept v w old new merged atoms one sound.follows;
    equal = waits.equal;
    alike = waits.alike;
    terms = λ t within. subst (λ z. IsBacked atoms (owner owners t) (term_at z t).symbol (term_at z t).args) (sym merged.terms)
        (sound.terms t (subst (λ z. t < length z) merged.terms within));
  },
  record {
    equal = λ x y stands. lifted old new owners before after (same_name v w old new merged) kept (is.equal x y stands);
    held = λ u symbol xs stands. term_stays v w old new merged owners before after kept noted u symbol xs (is.held u symbol xs stands);
    owned = λ t within. subst (λ z. HasTerm new owners after (owner owners t) (term_at z t).symbol (term_at z t).args) (sym merged.terms)
        (term_stays v w old new merged owners before after kept noted (owner owners t) (term_at old.terms t).symbol (term_at old.terms t).args
        (is.owned t (subst (λ z. t < length z) merged.terms within)));
    shared = shared_merged v w old new merged owners before after atoms (λ x y. lifted old new owners before after (same_name v w old new merged) kept) noted is;
    live = λ r t bound. let was = merged.bound r t bound in let named_r : name old (owner owners t) ≡ r = is.live r t was.1 in
        stayed v w old new merged (owner owners t) (λ e. was.0 (sym named_r ∙ e)) ∙ named_r;
  },
)

pub agenda_moves : AgendaMoves
agenda_moves c owners before after atoms kept waits (sound, is) = (
  record { follows = sound.follows; equal = waits.equal; alike = waits.alike; terms = sound.terms },
  record {
    equal = λ x y stands. lifted c c owners before after (λ p q e. e) kept (is.equal x y stands);
    held = λ u symbol xs stands. waits_still c owners before after kept u symbol xs (is.held u symbol xs stands);
    owned = λ t within. waits_still c owners before after kept (owner owners t) (term_at c.terms t).symbol (term_at c.terms t).args (is.owned t within);
    shared = λ t m alike. lifted c c owners before after (λ p q e. e) kept (is.shared t m alike);
    live = is.live;
  },
)
