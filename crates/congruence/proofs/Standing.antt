-- A new term stands for the atom that it is of.
use Rattle.std.proofs.Common.{ℕ, ◌<◌, ◌≡◌, ◌≢◌, List, [], ◌∷◌, ◌++◌, length, map, refl, sym, ◌∙◌, ap, subst, inl, inr, ◌⊎◌, arith}
use Rattle.std.specs.Prelude.{Contains, slice_index, None}
use Rattle.std.proofs.lemmas.Bool.{cases_eq, cases_lt}
use Rattle.std.proofs.lemmas.List.{length-map, get_or_append_left, get_or_push, length_push}
use Rattle.std.proofs.lemmas.List.Elements.{Contains-append_left}
use Rattle.tree_model.specs.declared.tree.Symbol.{Symbol}
use Rattle.tree_facts.proofs.Renumbering.{contains_image}
use Rattle.flat_form.specs.declared.atom.Flat.{Flat}
use Rattle.flat_form.specs.declared.atom.Flat.TheVariants.{VarVar, VarTerm, Finite}
use Rattle.flat_form.specs.Classes.{Class}
use Rattle.term_graph.specs.declared.bound.Bound.TheVariants.{Free, Term}
use Rattle.term_graph.specs.declared.term.Term.{Term as Made}
use Rattle.term_graph.specs.Contents.{Contents, binding_of, term_at, no_term, IsLeader, with_term, with_binding}
use Rattle.settled_facts.specs.Settled.{name, IsFree, IsShaped, HasTermIn, Follows}
use Rattle.settled_facts.specs.Changes.{IsTerming, IsInterning, interned}
use Rattle.settled_facts.proofs.Changing.{change_shape, term_names, term_other, term_bound}
use Rattle.settled_facts.proofs.ReadOff.{name_within}
use Rattle.settled_facts.proofs.Terms.{named_at, named_same, name_twice}
use Rattle.congruence.specs.Agenda.{owner, Pairwise, idle, AreAlike, IsBacked, Joins, named, HasTerm, IsUnderway}
use Rattle.congruence.specs.Starts.{TermStands}
use Rattle.congruence.proofs.Pairs.{pairwise_as}
use Rattle.congruence.proofs.Atoms.{contains_none, contains_last, before_or_last, idle_named}
use Rattle.congruence.proofs.Starting.{follows_more, backed_more}

-- what an atom with a term on its right says
abbrev IsHeld : Contents → List ℕ → Flat → Type 0
IsHeld c owners (VarVar u v) = Unit {0}
IsHeld c owners (VarTerm u s xs) = HasTerm c owners idle u s xs
IsHeld c owners (Finite u) = Unit {0}

module _ (c : Contents) (owners : List ℕ) (atoms : List Flat) (u : ℕ) (symbol : Symbol) (xs : List ℕ) (shaped : IsShaped c) (owned : length owners ≡ length c.terms)
    (u_in : u < length c.bindings) (xs_in : (x : ℕ) → Contains xs x → x < length c.bindings) (free : IsFree c (name c u))
    (none : IsLeader c.bindings c.terms symbol (map (name c) xs) None) (is : IsUnderway c owners idle atoms) where
  abbrev n : ℕ
  n = length c.terms

  abbrev r : ℕ
  r = name c u

  abbrev keys : List ℕ
  keys = map (name c) xs

  abbrev made : Made
  made = record { symbol = symbol; args = map (name c) xs }

  abbrev middle : Contents
  middle = with_term symbol (map (name c) xs) c

  abbrev new : Contents
  new = with_binding (name c u) (Term (length c.terms)) (with_term symbol (map (name c) xs) c)

  abbrev all : List Flat
  all = atoms ++ VarTerm u symbol xs ∷ []

  abbrev owners_now : List ℕ
  owners_now = owners ++ name c u ∷ []

  more : (x : Flat) → Contains atoms x → Contains all x
  more x inside = Contains-append_left atoms (VarTerm u symbol xs ∷ []) x inside

  terming : IsTerming middle new r n
  terming = record {
    bindings = refl;
    marks = refl;
    terms = refl;
    free = free;
    within = name_within c shaped u u_in;
    term_within = omega (arith, length_push c.terms made);
  }

  interning : IsInterning c middle
  interning = record {
    term = made;
    bindings = refl;
    marks = refl;
    terms = refl;
    arguments = λ x inside. let (y, stands, e) = contains_image (name c) xs x inside in subst (λ z. z < length c.bindings) e (name_within c shaped y (xs_in y stands));
  }

  shaped_middle : IsShaped middle
  shaped_middle = change_shape c middle [] shaped (interned refl interning)

  -- names are what they were
  names : (x : ℕ) → name new x ≡ name c x
  names x = term_names middle new r n terming shaped_middle x

  names_all : (ys : List ℕ) → map (name new) ys ≡ map (name c) ys
  names_all [] = refl
  names_all (y ∷ ys) = ap (λ z. z ∷ map (name new) ys) (names y) ∙ ap (λ zs. name c y ∷ zs) (names_all ys)

  twice : map (name c) keys ≡ keys
  twice = named_same c keys keys refl (λ i w.
      let here : i < length xs = omega (arith, w, length-map xs (name c)) in
      let e : slice_index keys i ≡ name c (slice_index xs i) = named_at c xs i here in
      ap (name c) e ∙ name_twice c shaped (slice_index xs i) ∙ sym e)

  own_name : name c r ≡ r
  own_name = name_twice c shaped u

  old_term : (t : ℕ) → t < n → term_at new.terms t ≡ term_at c.terms t
  old_term t within = get_or_append_left c.terms (made ∷ []) no_term t within

  new_term : term_at new.terms n ≡ made
  new_term = get_or_push c.terms made no_term (length c.terms) refl

  old_owner : (t : ℕ) → t < n → owner owners_now t ≡ owner owners t
  old_owner t within = get_or_append_left owners (r ∷ []) 0 t (omega (arith, within, owned))

  new_owner : owner owners_now n ≡ r
  new_owner = subst (λ z. slice_index owners_now z ≡ r) owned (get_or_push owners r 0 (length owners) refl)

  old_or_new : (t : ℕ) → t < length new.terms → (t < n) ⊎ (t ≡ n)
  old_or_new t within = elim (cases_lt t n) [
    | inl w ↦ inl w
    | inr g ↦ inr (omega (arith, within, g, length_push c.terms made))
  ]

  -- what is bound to a term was, or is the class of u
  bound_was : (q t : ℕ) → binding_of new.bindings q ≡ Term t → ((q ≡ r) × (t ≡ n)) ⊎ ((q ≢ r) × (binding_of c.bindings q ≡ Term t))
  bound_was q t bound = elim (cases_eq q r) [
    | inl e ↦ inl (e, (let here = term_bound middle new r n terming in let there : binding_of new.bindings r ≡ Term t = subst (λ z. binding_of new.bindings z ≡ Term t) e bound in cc))
    | inr other ↦ inr (other, sym (term_other middle new r n terming q other) ∙ bound)
  ]

  follows : Follows c all
  follows = follows_more c atoms (VarTerm u symbol xs) is.0.follows

  lifted : {x y : ℕ} → Joins c owners idle x y → Joins new owners_now idle x y
  lifted {x} {y} j = named (names x ∙ idle_named c owners j ∙ sym (names y))

  has_still : (v : ℕ) (s : Symbol) (ys : List ℕ) → HasTerm c owners idle v s ys → HasTerm new owners_now idle v s ys
  has_still v s ys has =
      let within : has.term < n = shaped.bound (name c has.of) has.term has.bound in
      let other : name c has.of ≢ r = λ e. (let f : binding_of c.bindings r ≡ Term has.term = subst (λ z. binding_of c.bindings z ≡ Term has.term) e has.bound in cc) in
      record {
        of = has.of;
        joins = lifted has.joins;
        term = has.term;
        bound = ap (binding_of new.bindings) (names has.of) ∙ term_other middle new r n terming (name c has.of) other ∙ has.bound;
        sign = ap (λ (z : Made). z.symbol) (old_term has.term within) ∙ has.sign;
        args = subst (λ (z : Made). Pairwise (Joins new owners_now idle) z.args ys) (sym (old_term has.term within))
            (pairwise_as (Joins c owners idle) (Joins new owners_now idle) (term_at c.terms has.term).args ys (λ p q. lifted) has.args);
      }

  -- the new term, of a variable of the class of u
  has_new : (v : ℕ) (ys : List ℕ) → name c v ≡ r → Pairwise (λ p q. name c p ≡ name c q) keys ys → HasTerm new owners_now idle v symbol ys
  has_new v ys e same = record {
    of = v;
    joins = named refl;
    term = n;
    bound = ap (binding_of new.bindings) (names v ∙ e) ∙ term_bound middle new r n terming;
    sign = ap (λ (z : Made). z.symbol) new_term;
    args = subst (λ (z : Made). Pairwise (Joins new owners_now idle) z.args ys) (sym new_term)
        (pairwise_as (λ p q. name c p ≡ name c q) (Joins new owners_now idle) keys ys (λ p q f. named (names p ∙ f ∙ sym (names q))) same);
  }

  keys_named : Pairwise (λ p q. name c p ≡ name c q) keys xs
  keys_named = (
    length-map xs (name c),
    λ i w. let here : i < length xs = omega (arith, w, length-map xs (name c)) in
        ap (name c) (named_at c xs i here) ∙ name_twice c shaped (slice_index xs i),
  )

  given_now : (q : ℕ) (s : Symbol) (ys : List ℕ) → HasTermIn new q s ys
      → (v : ℕ) × (zs : List ℕ) × Contains all (VarTerm v s zs) × (name new v ≡ q) × (map (name new) zs ≡ ys)
  given_now q s ys has = elim (bound_was q has.term has.bound) [
    | inl (e, f) ↦
        let it : term_at new.terms has.term ≡ made = ap (term_at new.terms) f ∙ new_term in
        let sign : symbol ≡ s = sym (ap (λ (z : Made). z.symbol) it) ∙ has.key.sign in
        let args : map (name new) keys ≡ ys = sym (ap (λ (z : Made). map (name new) z.args) it) ∙ has.key.args in (
          u,
          xs,
          subst (λ (z : Symbol). Contains all (VarTerm u z xs)) sign (contains_last atoms (VarTerm u symbol xs)),
          names u ∙ sym e,
          names_all xs ∙ sym twice ∙ sym (names_all keys) ∙ args,
        )
    | inr (other, bound) ↦
        let within : has.term < n = shaped.bound q has.term bound in
        let given = follows.given q s ys (record {
          term = has.term;
          bound = bound;
          key = record {
            within = within;
            sign = ap (λ (z : Made). z.symbol) (sym (old_term has.term within)) ∙ has.key.sign;
            args = sym (names_all (term_at c.terms has.term).args) ∙ ap (λ (z : Made). map (name new) z.args) (sym (old_term has.term within)) ∙ has.key.args;
          };
        }) in
        (given.0, given.1, given.2, names given.0 ∙ given.3, names_all given.1 ∙ given.4)
  ]

  -- a new term has a key of its own
  lone : (m : ℕ) → m < n → (symbol ≡ (term_at c.terms m).symbol) → map (name new) keys ≡ map (name new) (term_at c.terms m).args → ⊥
  lone m within sign args = none m (record { within = within; sign = sym sign; args = sym (names_all (term_at c.terms m).args) ∙ sym args ∙ names_all keys ∙ twice })

  sign_between : (t m : ℕ) (p q : Made) → term_at new.terms t ≡ p → term_at new.terms m ≡ q → AreAlike new t m → p.symbol ≡ q.symbol
  sign_between t m p q e f alike = ap (λ (z : Made). z.symbol) (sym e) ∙ alike.sign ∙ ap (λ (z : Made). z.symbol) f

  args_between : (t m : ℕ) (p q : Made) → term_at new.terms t ≡ p → term_at new.terms m ≡ q → AreAlike new t m → map (name new) p.args ≡ map (name new) q.args
  args_between t m p q e f alike = ap (λ (z : Made). map (name new) z.args) (sym e) ∙ alike.args ∙ ap (λ (z : Made). map (name new) z.args) f

  shared_now : (t m : ℕ) → AreAlike new t m → ((t < n) ⊎ (t ≡ n)) → ((m < n) ⊎ (m ≡ n)) → Joins new owners_now idle (owner owners_now t) (owner owners_now m)
  shared_now t m alike (inl v) (inl w) =
      let keys_before : map (name c) (term_at c.terms t).args ≡ map (name c) (term_at c.terms m).args =
      sym (names_all (term_at c.terms t).args) ∙ args_between t m (term_at c.terms t) (term_at c.terms m) (old_term t v) (old_term m w) alike ∙ names_all (term_at c.terms m).args in
      let one : Joins new owners_now idle (owner owners t) (owner owners m) = lifted (is.1.shared t m (record {
        left = v;
        right = w;
        sign = sign_between t m (term_at c.terms t) (term_at c.terms m) (old_term t v) (old_term m w) alike;
        args = keys_before;
      })) in
      subst (λ z. Joins new owners_now idle z (owner owners_now m)) (sym (old_owner t v)) (subst (λ z. Joins new owners_now idle (owner owners t) z) (sym (old_owner m w)) one)
  shared_now t m alike (inl v) (inr e) =
      let it : term_at new.terms m ≡ made = ap (term_at new.terms) e ∙ new_term in
      absurd (lone t v (sym (sign_between t m (term_at c.terms t) made (old_term t v) it alike)) (sym (args_between t m (term_at c.terms t) made (old_term t v) it alike)))
  shared_now t m alike (inr e) (inl w) =
      let it : term_at new.terms t ≡ made = ap (term_at new.terms) e ∙ new_term in
      absurd (lone m w (sign_between t m made (term_at c.terms m) it (old_term m w) alike) (args_between t m made (term_at c.terms m) it (old_term m w) alike))
  shared_now t m alike (inr e) (inr f) = named (ap (λ z. name new (owner owners_now z)) (e ∙ sym f))

  pub term_stands_by : IsUnderway new owners_now idle all
  term_stands_by = (
    record {
      follows = record {
        sound = λ v. subst (Class all v) (sym (names v)) (follows.sound v);
        given = given_now;
        marked = λ q bare mark. elim (cases_eq q r) [
          | inl e ↦ absurd (let here = term_bound middle new r n terming in let there : binding_of new.bindings r ≡ Free = subst (λ z. binding_of new.bindings z ≡ Free) e bare in cc)
          | inr other ↦ follows.marked q (sym (term_other middle new r n terming q other) ∙ bare) mark
        ];
      };
      equal = λ p q inside. absurd (contains_none (p, q) inside);
      alike = λ t m inside. absurd (contains_none (t, m) inside);
      terms = λ t within. elim (old_or_new t within) [
        | inl w ↦ subst (λ (z : Made). IsBacked all (owner owners_now t) z.symbol z.args) (sym (old_term t w))
            (subst (λ z. IsBacked all z (term_at c.terms t).symbol (term_at c.terms t).args) (sym (old_owner t w))
            (backed_more atoms (VarTerm u symbol xs) (owner owners t) (term_at c.terms t).symbol (term_at c.terms t).args (is.0.terms t w)))
        | inr e ↦ subst (λ k. IsBacked all (owner owners_now k) (term_at new.terms k).symbol (term_at new.terms k).args) (sym e)
            (subst (λ (z : Made). IsBacked all (owner owners_now n) z.symbol z.args) (sym new_term)
            (subst (λ z. IsBacked all z symbol keys) (sym new_owner) (record {
              left = u;
              right = xs;
              stands = contains_last atoms (VarTerm u symbol xs);
              equal = follows.sound u;
              args = (sym (length-map xs (name c)), λ i w. subst (Class all (slice_index xs i)) (sym (named_at c xs i w)) (follows.sound (slice_index xs i)));
            })))
      ];
    },
    record {
      equal = λ x y stands. elim (before_or_last atoms (VarTerm u symbol xs) (VarVar x y) stands) [
        | inl before ↦ lifted (is.1.equal x y before)
        | inr e ↦ absurd (cc)
      ];
      held = λ v s ys stands. elim (before_or_last atoms (VarTerm u symbol xs) (VarTerm v s ys) stands) [
        | inl before ↦ has_still v s ys (is.1.held v s ys before)
        | inr e ↦ subst (IsHeld new owners_now) e (has_new u xs refl keys_named)
      ];
      owned = λ t within. elim (old_or_new t within) [
        | inl w ↦ subst (λ (z : Made). HasTerm new owners_now idle (owner owners_now t) z.symbol z.args) (sym (old_term t w))
            (subst (λ z. HasTerm new owners_now idle z (term_at c.terms t).symbol (term_at c.terms t).args) (sym (old_owner t w))
            (has_still (owner owners t) (term_at c.terms t).symbol (term_at c.terms t).args (is.1.owned t w)))
        | inr e ↦ subst (λ k. HasTerm new owners_now idle (owner owners_now k) (term_at new.terms k).symbol (term_at new.terms k).args) (sym e)
            (subst (λ (z : Made). HasTerm new owners_now idle (owner owners_now n) z.symbol z.args) (sym new_term)
            (subst (λ z. HasTerm new owners_now idle z symbol keys) (sym new_owner) (has_new r keys own_name (refl, λ i w. refl))))
      ];
      shared = λ t m alike. shared_now t m alike (old_or_new t alike.left) (old_or_new m alike.right);
      live = λ q t bound. elim (bound_was q t bound) [
        | inl (e, f) ↦ ap (name new) (ap (owner owners_now) f ∙ new_owner) ∙ names r ∙ own_name ∙ sym e
        | inr (other, was) ↦ ap (name new) (old_owner t (shaped.bound q t was)) ∙ names (owner owners t) ∙ is.1.live q t was
      ];
    },
  )

pub term_stands : TermStands
term_stands = term_stands_by
