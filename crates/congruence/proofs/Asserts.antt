-- Walks from what must be finite, and what is settled then.
use Rattle.std.proofs.Common.{ℕ, zero, suc, ◌<◌, ◌≤◌, ◌+◌, ◌≡◌, Bool, true, false, List, [], ◌∷◌, ◌++◌, length, take, get_or, refl, sym, ◌∙◌, ap, subst, inl, inr, ◌⊎◌, arith}
use Rattle.std.specs.Prelude.{All, Contains, slice_index, slice_index_or, MatchBool, ◌↔◌}
use Rattle.std.proofs.lemmas.List.{take_more}
use Rattle.std.proofs.lemmas.List.Elements.{Contains-append_left, Contains-get_or}
use Rattle.tree_facts.proofs.Members.{contains_first, contains_later, contains_cases}
use Rattle.flat_form.specs.declared.atom.Flat.{Flat}
use Rattle.flat_form.specs.Classes.{itself, marked, Unsolvable}
use Rattle.flat_facts.specs.Spread.{IsLeaf, IsLeastRound}
use Rattle.term_graph.specs.Contents.{Contents, History, back_to, Grows, binding_of, target_of, term_at}
use Rattle.settled_facts.specs.Settled.{name, IsFree, IsMarked, IsShaped, Firm, leaf, Follows, IsSettled}
use Rattle.settled_facts.specs.Forms.{equations_of}
use Rattle.settled_facts.specs.Changes.{IsMoreMarked, IsLater}
use Rattle.settled_facts.proofs.Terms.{name_free, name_twice}
use Rattle.settled_facts.proofs.Changing.{later_later}
use Rattle.settled_facts.proofs.Equations.{equations_there}
use Rattle.settled_facts.proofs.Solvable.{loop_unsolvable, leaves_reached}
use Rattle.finiteness.specs.declared.spreading.Outcome.{Outcome}
use Rattle.finiteness.specs.declared.spreading.Outcome.TheVariants.{Done, Loop}
use Rattle.finiteness.specs.Outcomes.{IfDone, IfLoop}
use Rattle.congruence.specs.Agenda.{idle}
use Rattle.congruence.specs.Begun.{IsBegun, RefutesAtom, IsLonger}
use Rattle.congruence.specs.Asserted.{MakeFinite, AreWalked, ComeRound, IsAsserted}
use Rattle.congruence.proofs.Atoms.{contains_none, contains_last, before_or_last, reached_as}
use Rattle.congruence.proofs.Ending.{same_names, follows_more, marks_firm, marks_underway, settles_by}

more_none : (c : Contents) → IsMoreMarked c c
more_none c = record { bindings = refl; terms = refl; marks = λ r mark. mark }

more_more : (one two three : Contents) → IsMoreMarked one two → IsMoreMarked two three → IsMoreMarked one three
more_more one two three a b = record {
  bindings = b.bindings ∙ a.bindings;
  terms = b.terms ∙ a.terms;
  marks = λ r mark. b.marks r (a.marks r mark);
}

free_before : (old new : Contents) → IsMoreMarked old new → (r : ℕ) → IsFree new r → IsFree old r
free_before old new more r free = ap (λ b. binding_of b r) (sym more.bindings) ∙ free

later_marked : (old new : Contents) → IsShaped old → IsMoreMarked old new → IsLater old new
later_marked old new shaped more = record {
  variables = ap length more.bindings;
  names = λ u. same_names old new more u ∙ sym (name_twice old shaped u) ∙ sym (same_names old new more (name old u));
  roots = λ r stop. ap (λ b. target_of b r) (sym more.bindings) ∙ stop;
  free = λ v free. free_before old new more (name old v) (subst (IsFree new) (same_names old new more v) free);
  marks = more.marks;
  count = subst (λ z. length old.terms ≤ length z) (sym more.terms) (omega arith);
  terms = λ t w. ap (λ z. term_at z t) more.terms;
}

pub walked_none : (c : Contents) → AreWalked c c []
walked_none c = record { more = more_none c; firm = λ s inside. absurd (contains_none s inside); follows = λ atoms follows finite. follows }

module _ (first old : Contents) (done : List ℕ) (s : ℕ) (shaped : IsShaped old) (walked : AreWalked first old done) where
  -- a walk that ends, and marks what it ends at
  pub walked_more : (new : Contents) → IsMoreMarked old new → Firm new (name new s)
      → ((u : ℕ) → IsMarked new u ↔ (IsMarked old u ⊎ IsLeaf (equations_of old) s u)) → AreWalked first new (done ++ s ∷ [])
  walked_more new more firm marks = record {
    more = more_more first old new walked.more more;
    firm = λ x inside. elim (before_or_last done s x inside) [
      | inl before ↦ subst (Firm new) (sym (same_names old new more x)) (marks_firm old new (name old x) more (walked.firm x before))
      | inr e ↦ subst (λ z. Firm new (name new z)) e firm
    ];
    follows = λ atoms follows finite.
        let now : Follows old atoms = walked.follows atoms follows (λ x inside. finite x (Contains-append_left done (s ∷ []) x inside)) in
        follows_more old new atoms more (λ r free mark. elim ((marks r).0 mark) [
          | inl was ↦ now.marked r (free_before old new more r free) was
          | inr end ↦ leaves_reached old atoms (equations_of old) s r shaped now (equations_there old shaped) (finite s (contains_last done s)) end
        ]) now;
  }

  -- and one that comes round
  pub comes_round : (starts path : List ℕ) → ((x : ℕ) → Contains done x → Contains starts x) → Contains starts s → IsLeastRound (equations_of old) s path → ComeRound first starts
  comes_round starts path among inside least = λ atoms follows finite.
      loop_unsolvable old atoms (equations_of old) s path shaped (walked.follows atoms follows (λ x i. finite x (among x i))) (equations_there old shaped) (finite s inside)
      least.comes_round

-- what was begun and has nothing waiting makes the starts finite
module _ (old mid : Contents) (owners more_owners starts : List ℕ) (atom : Flat) (begun : IsBegun old mid owners more_owners idle starts atom)
    (below : List Flat) (settled : IsSettled old owners below) where
  abbrev all : List Flat
  all = below ++ atom ∷ []

  starts_finite : MakeFinite all starts
  starts_finite s inside = elim (begun.each s inside).1 [
    | inl e ↦ marked (subst (Contains all) e (contains_last below atom)) (itself s)
    | inr was ↦ reached_as below all (λ a i. Contains-append_left below (atom ∷ []) a i) (settled.follows.marked s was.0 was.1)
  ]

  pub refuted : ComeRound mid starts → Unsolvable all
  refuted round = round all (begun.underway below settled).0.follows starts_finite

  module _ (new : Contents) (walked : AreWalked mid new starts) (shaped : IsShaped old) (now_shaped : IsShaped new) where
    was_free : (r : ℕ) → IsFree old r → IsMarked old r → Firm new (name new r)
    was_free r free mark = elim (begun.lost r free mark) [
      | inl still ↦
          let now : IsFree new r = ap (λ b. binding_of b r) walked.more.bindings ∙ still in
          subst (Firm new) (sym (name_free new r now)) (leaf now (walked.more.marks r (subst (λ z. slice_index_or z r false ≡ true) (sym begun.marks) mark)))
      | inr inside ↦ walked.firm r inside
    ]

    pub now_settled : IsSettled new more_owners all
    now_settled =
        let underway = begun.underway below settled in
        let same = same_names mid new walked.more in
        settles_by old new owners more_owners below atom shaped now_shaped settled
        (marks_underway mid new more_owners all walked.more (walked.follows all underway.0.follows starts_finite).marked underway)
        (λ u. same u ∙ begun.later.names u ∙ sym (same (name old u)))
        was_free
        (λ u e. walked.firm u (begun.said u e))

-- all together
pub asserted : (old mid new : Contents) (owners more_owners starts : List ℕ) (atom : Flat) → IsShaped old → IsShaped mid → IsShaped new → IsBegun old mid owners more_owners idle starts atom
    → AreWalked mid new starts → IsLonger owners more_owners → IsAsserted old new owners more_owners atom
asserted old mid new owners more_owners starts atom shaped mid_shaped now_shaped begun walked longer = record {
  settled = λ below settled. now_settled old mid owners more_owners starts atom begun below settled new walked shaped now_shaped;
  later = later_later old mid new begun.later (later_marked mid new mid_shaped walked.more);
  owned = record {
    counted = begun.owned.counted ∙ ap length (sym walked.more.terms);
    within = λ t w. subst (λ z. slice_index_or more_owners t 0 < length z) (sym walked.more.bindings) (begun.owned.within t (subst (λ z. t < length z) walked.more.terms w));
  };
  longer = longer;
}

pub refutes : (old mid : Contents) (owners more_owners starts : List ℕ) (atom : Flat) → IsBegun old mid owners more_owners idle starts atom → ComeRound mid starts
    → RefutesAtom old owners atom
refutes old mid owners more_owners starts atom begun round below settled = refuted old mid owners more_owners starts atom begun below settled round

-- what has grown, taken back
pub taken_back : (old now new : History) (n : ℕ) → Grows old now → n ≡ length old.trail → new ≡ back_to n now → new ≡ old
taken_back old now new n grows e is = is ∙ ap (λ k. back_to k now) e ∙ grows.1

-- the answer of a walk
pub when_done : (o : Outcome) (P : Type 0) → o ≡ Done → IfDone o P → P
when_done o P e is = subst (λ z. IfDone z P) e is

pub when_loop : (o : Outcome) (path : List ℕ) (P : List ℕ → Type 0) → o ≡ Loop path → IfLoop o P → P path
when_loop o path P e is = subst (λ z. IfLoop z P) e is

contains_taken : (xs : List ℕ) (i x : ℕ) → Contains (take i xs) x → Contains xs x
contains_taken xs zero x inside = absurd (contains_none x inside)
contains_taken [] (suc i) x inside = inside
contains_taken (y ∷ ys) (suc i) x inside = elim (contains_cases y x (take i ys) inside) [
  | inl e ↦ subst (λ z. Contains (y ∷ ys) z) e (contains_first y ys)
  | inr more ↦ contains_later y x ys (contains_taken ys i x more)
]

-- the first i of the starts
module _ (first old : Contents) (starts : List ℕ) (i : ℕ) (low : i < length starts) (shaped : IsShaped old) (walked : AreWalked first old (take i starts)) where
  pub walked_on : (new : Contents) → IsMoreMarked old new → Firm new (name new (slice_index starts i))
      → ((u : ℕ) → IsMarked new u ↔ (IsMarked old u ⊎ IsLeaf (equations_of old) (slice_index starts i) u)) → AreWalked first new (take (i + 1) starts)
  walked_on new more firm marks =
      subst (AreWalked first new) (sym (take_more starts i 0 low)) (walked_more first old (take i starts) (slice_index starts i) shaped walked new more firm marks)

  pub round_at : (path : List ℕ) → IsLeastRound (equations_of old) (slice_index starts i) path → ComeRound first starts
  round_at path least =
      comes_round first old (take i starts) (slice_index starts i) shaped walked starts path (λ x inside. contains_taken starts i x inside) (Contains-get_or starts i 0 low) least

-- each of the starts is a variable
pub starts_low : (old mid : Contents) (owners more starts : List ℕ) (atom : Flat) → IsBegun old mid owners more idle starts atom → (xs : List ℕ) → xs ≡ starts
    → All (λ s. s < length mid.bindings) xs
starts_low old mid owners more starts atom begun xs e k d w = (begun.each (get_or xs k d) (subst (λ z. Contains z (get_or xs k d)) e (Contains-get_or xs k d w))).0

-- either way
pub turned_to : (P Q R S : Type 0) (b : Bool) → (P → R) → (Q → S) → MatchBool b P Q → MatchBool b R S
turned_to P Q R S true f g is = f is
turned_to P Q R S false f g is = g is
