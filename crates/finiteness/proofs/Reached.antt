-- The leaves that a search has met, and their marks.
use Rattle.std.proofs.Common.{ℕ, ◌≡◌, ◌<◌, ◌+◌, List, [], Bool, true, false, length, take, refl, sym, ap, ◌∙◌, subst, arith, inl, inr, ◌⊎◌, length-set}
use Rattle.std.specs.Prelude.{slice_index, slice_index_or, Contains, ◌↔◌, All}
use Rattle.std.proofs.lemmas.Bool.{cases_eq}
use Rattle.std.proofs.lemmas.List.{get_or-set_same, get_or-set_other}
use Rattle.std.proofs.lemmas.List.Elements.{All-from_get_or, Contains-get_or}
use Rattle.flat_form.specs.declared.atom.Flat.{Flat}
use Rattle.flat_form.specs.declared.atom.Flat.TheVariants.{VarVar, VarTerm, Finite}
use Rattle.flat_facts.specs.Spread.{Leads, ComesRound, IsLeaf}
use Rattle.term_graph.specs.Contents.{Contents, History, MarkedAt, grown, with_mark, marked, Grows, root}
use Rattle.term_graph.proofs.Growing.{grows_on}
use Rattle.settled_facts.specs.Settled.{name, IsFree, IsMarked, IsShaped, Firm}
use Rattle.settled_facts.specs.Changes.{IsMoreMarked}
use Rattle.settled_facts.specs.Ends.{Ends}
use Rattle.settled_facts.specs.Forms.{Equates, AreEquations, equations_of}
use Rattle.settled_facts.proofs.Ending.{ends_no_round, marked_leaves_firm, free_open}
use Rattle.settled_facts.proofs.Equations.{equations_there}
use Rattle.settled_facts.proofs.Terms.{term_same, kind_of, Kind, free, applied}
use Rattle.finiteness.specs.Walked.{AreMet}
use Rattle.finiteness.proofs.Exploring.{named_target, target_named}
use Rattle.finiteness.proofs.Gathering.{taken_cases, taken_more, taken_next}

-- those of the classes that are free have got marks, and nothing else is changed
pub record AreMarked (first now : Contents) (classes : List ℕ) : Type 0 where
  pub more : IsMoreMarked first now
  pub uses : now.uses ≡ first.uses
  pub sizes : length now.marks ≡ length first.marks
  pub marks : (u : ℕ) → IsMarked now u ↔ (IsMarked first u ⊎ (Contains classes u × IsFree first u))

pub none_marked : (c : Contents) → AreMarked c c []
none_marked c = record {
  more = record { bindings = refl; terms = refl; marks = λ r m. m };
  uses = refl;
  sizes = refl;
  marks = λ u. (λ m. inl m, λ h. elim h [ inl m ↦ m | inr k ↦ absurd (omega (arith, k.0.1)) ]);
}

-- a class is marked, unless it is
pub data Marks (v : ℕ) (old new : History) : Type 0 where
  was : IsMarked old.contents v → new ≡ old → Marks v old new
  is : new ≡ grown (MarkedAt v) (with_mark v old.contents) old → Marks v old new

pub marks_by : (v : ℕ) (old new : History) → new ≡ marked v old → Marks v old new
marks_by v old new e = by_mark (slice_index_or old.contents.marks v false) refl
  where
    by_mark : (b : Bool) → slice_index_or old.contents.marks v false ≡ b → Marks v old new
    by_mark true m = was m (rw m at e)
    by_mark false m = is (rw m at e)

pub marks_grow : (v : ℕ) (first old new : History) → Marks v old new → Grows first old → Grows first new
marks_grow v first old new (was m e) grows = grows_on first old new grows (inl e)
marks_grow v first old new (is e) grows = grows_on first old new grows (inr (MarkedAt v, with_mark v old.contents, e))

module _ (first : Contents) (xs : List ℕ) (i x : ℕ) (within : i < length xs) (x_is : x ≡ slice_index xs i) where
  -- a further class that is not free is left
  pub marked_bound : (now : Contents) → ¬ IsFree first x → AreMarked first now (take i xs) → AreMarked first now (take (i + 1) xs)
  marked_bound now bound are = record {
    more = are.more;
    uses = are.uses;
    sizes = are.sizes;
    marks = λ u. (
      λ m. elim ((are.marks u).0 m) [ inl k ↦ inl k | inr k ↦ inr (taken_more xs i x within x_is u k.0, k.1) ],
      λ h. elim h [
        | inl k ↦ (are.marks u).1 (inl k)
        | inr k ↦ elim (taken_cases xs i x within x_is u k.0) [
          | inl j ↦ (are.marks u).1 (inr (j, k.1))
          | inr e ↦ absurd (bound (subst (IsFree first) (sym e) k.1))
        ]
      ],
    );
  }

  -- one that is free is marked
  marked_set : (now new : Contents) → x < length now.marks → IsFree first x → new ≡ with_mark x now → AreMarked first now (take i xs) → AreMarked first new (take (i + 1) xs)
  marked_set now new inside is_free e are = subst (λ z. AreMarked first z (take (i + 1) xs)) (sym e) (record {
    more = record { bindings = are.more.bindings; terms = are.more.terms; marks = λ r m. still r (are.more.marks r m) };
    uses = are.uses;
    sizes = length-set now.marks x true ∙ are.sizes;
    marks = λ u. (
      λ m. elim (cases_eq u x) [
        | inl f ↦ inr (subst (Contains (take (i + 1) xs)) (sym f) (taken_next xs i x within x_is), subst (IsFree first) (sym f) is_free)
        | inr n ↦ elim ((are.marks u).0 (sym (get_or-set_other now.marks x u true false n) ∙ m)) [ inl k ↦ inl k | inr k ↦ inr (taken_more xs i x within x_is u k.0, k.1) ]
      ],
      λ h. elim h [
        | inl k ↦ still u ((are.marks u).1 (inl k))
        | inr k ↦ elim (taken_cases xs i x within x_is u k.0) [
          | inl j ↦ still u ((are.marks u).1 (inr (j, k.1)))
          | inr f ↦ subst (IsMarked (with_mark x now)) f here
        ]
      ],
    );
  })
    where
      here : IsMarked (with_mark x now) x
      here = get_or-set_same now.marks x true false inside

      still : (r : ℕ) → IsMarked now r → IsMarked (with_mark x now) r
      still r m = elim (cases_eq r x) [
        | inl f ↦ subst (IsMarked (with_mark x now)) (sym f) here
        | inr n ↦ get_or-set_other now.marks x r true false n ∙ m
      ]

  marked_left : (now : Contents) → IsMarked now x → IsFree first x → AreMarked first now (take i xs) → AreMarked first now (take (i + 1) xs)
  marked_left now m is_free are = record {
    more = are.more;
    uses = are.uses;
    sizes = are.sizes;
    marks = λ u. (
      λ k. elim ((are.marks u).0 k) [ inl j ↦ inl j | inr j ↦ inr (taken_more xs i x within x_is u j.0, j.1) ],
      λ h. elim h [
        | inl k ↦ (are.marks u).1 (inl k)
        | inr k ↦ elim (taken_cases xs i x within x_is u k.0) [
          | inl j ↦ (are.marks u).1 (inr (j, k.1))
          | inr e ↦ subst (IsMarked now) e m
        ]
      ],
    );
  }

  pub marked_free : (now new : History) → x < length now.contents.marks → IsFree first x → Marks x now new → AreMarked first now.contents (take i xs)
      → AreMarked first new.contents (take (i + 1) xs)
  marked_free now new inside is_free (was m e) are = subst (λ (z : History). AreMarked first z.contents (take (i + 1) xs)) (sym e) (marked_left now.contents m is_free are)
  marked_free now new inside is_free (is e) are = marked_set now.contents new.contents inside is_free (ap (λ (z : History). z.contents) e) are

-- the equations are the same where bindings and terms are
equates_now : (c now : Contents) → now.bindings ≡ c.bindings → now.terms ≡ c.terms → (atom : Flat) → Equates c atom → Equates now atom
equates_now c now bindings terms (VarVar v r) (e, apart) = (ap (λ b. root b v) bindings ∙ e, apart)
equates_now c now bindings terms (VarTerm r s ys) has = term_same c now bindings terms r s ys has
equates_now c now bindings terms (Finite v) none = absurd none

equations_now : (c : Contents) → IsShaped c → (now : Contents) → IsMoreMarked c now → AreEquations now (equations_of c)
equations_now c shaped now more = record {
  each = λ atom i. equates_now c now more.bindings more.terms atom ((equations_there c shaped).each atom i);
  all = λ atom e. (equations_there c shaped).all atom (equates_now now c (sym more.bindings) (sym more.terms) atom e);
}

pub all_within : (n : ℕ) (classes : List ℕ) → ((u : ℕ) → Contains classes u → u < n) → All (λ u. u < n) classes
all_within n classes each = All-from_get_or (λ u. u < n) classes 0 (λ i w. each (slice_index classes i) (Contains-get_or classes i 0 w))

module _ (c : Contents) (shaped : IsShaped c) (v : ℕ) (classes : List ℕ) (met : AreMet c (name c v) classes) where
  -- no walk comes round
  pub met_none : (path : List ℕ) → ¬ ComesRound (equations_of c) v path
  met_none path = ends_no_round (equations_of c) v path (λ start target. subst (Ends (equations_of c)) (sym (target_named c shaped v start target)) met.ends)

  -- a free class that is met is a leaf
  free_leaf : (u : ℕ) → Contains classes u → IsFree c u → IsLeaf (equations_of c) v u
  free_leaf u i is_free =
      let (path, before, walk) = (met.met u).0 i in
      record {
        start = name c v;
        path = path;
        before = before;
        target = named_target c shaped v;
        walk = walk;
        bare = free_open c (equations_of c) shaped (equations_there c shaped) u is_free;
      }

  -- and so is each leaf
  leaf_free : (u : ℕ) → IsLeaf (equations_of c) v u → Contains classes u × IsFree c u
  leaf_free u leaf =
      let there = equations_there c shaped in
      let own : u ≡ name c u = elim (cases_eq u (name c u)) [
        | inl e ↦ e
        | inr n ↦ absurd (leaf.bare.no_variable (name c u) (there.all (VarVar u (name c u)) (refl, n)))
      ] in (
        (met.met u).1 (leaf.path, leaf.before, subst (λ z. Leads (equations_of c) z leaf.path leaf.before u) (target_named c shaped v leaf.start leaf.target) leaf.walk),
        elim (subst (Kind c) (sym own) (kind_of c shaped u)) [
          | free f ↦ f
          | applied s ys h ↦ absurd (leaf.bare.no_term s ys (there.all (VarTerm u s ys) h))
        ],
      )

  pub met_marks : (now : Contents) → ((u : ℕ) → IsMarked now u ↔ (IsMarked c u ⊎ (Contains classes u × IsFree c u)))
      → (u : ℕ) → IsMarked now u ↔ (IsMarked c u ⊎ IsLeaf (equations_of c) v u)
  met_marks now marks u = (
    λ m. elim ((marks u).0 m) [ inl k ↦ inl k | inr k ↦ inr (free_leaf u k.0 k.1) ],
    λ h. (marks u).1 (elim h [ inl k ↦ inl k | inr leaf ↦ inr (leaf_free u leaf) ]),
  )

  -- with the leaves marked the class is firm
  pub met_firm : (now : Contents) → IsShaped now → IsMoreMarked c now → ((u : ℕ) → IsMarked now u ↔ (IsMarked c u ⊎ (Contains classes u × IsFree c u))) → Firm now (name now v)
  met_firm now now_shaped more marks =
      let same : name now v ≡ name c v = ap (λ b. root b v) more.bindings in
      marked_leaves_firm now (equations_of c) v now_shaped (equations_now c shaped now more) (subst (Ends (equations_of c)) (sym same) met.ends)
      (λ u leaf. (met_marks now marks u).1 (inr leaf))
