-- Walks along the equations of a solved conjunction.
use Rattle.std.proofs.Common.{ℕ, ◌≡◌, ◌<◌, ◌+◌, List, [], ◌∷◌, ◌++◌, length, refl, sym, ap, ◌∙◌, subst, arith, inl, inr, append_assoc}
use Rattle.std.specs.Prelude.{slice_index, Contains}
use Rattle.std.proofs.lemmas.List.{append-nil, length-append}
use Rattle.std.proofs.lemmas.List.Elements.{Contains-append_right, Contains-push_cases}
use Rattle.classical.specs.Classical.{Either, Exists}
use Rattle.classical.proofs.Stable.{◌>>=◌, either_way}
use Rattle.tree_model.specs.declared.tree.Symbol.{Symbol}
use Rattle.tree_model.specs.Graphs.{Graph}
use Rattle.tree_model.specs.Signatures.{Signature, Alike}
use Rattle.tree_model.specs.Trees.{IsFinite}
use Rattle.tree_model.specs.Valuations.{Valuation}
use Rattle.tree_model.proofs.Sameness.{finite_same}
use Rattle.tree_facts.specs.FiniteLaws.{IsSubtree}
use Rattle.tree_facts.specs.Walks.{Branches}
use Rattle.tree_facts.proofs.Finite.{subtree_finite, own_subtree_infinite}
use Rattle.tree_facts.proofs.Members.{contains_first, contains_later, contains_cases}
use Rattle.tree_facts.proofs.NoRound.{none_comes_round}
use Rattle.flat_form.specs.declared.atom.Flat.{Flat}
use Rattle.flat_form.specs.declared.atom.Flat.TheVariants.{VarVar, VarTerm}
use Rattle.flat_form.specs.Meanings.{BasicHolds}
use Rattle.flat_form.specs.Solved.{HasTerm, IsSolved}
use Rattle.lists.specs.Distinct.{IsDistinct}
use Rattle.flat_facts.specs.Spread.{IsTarget, Leads, stays, goes, ComesRound, IsLeaf, RoundIsInfinite, FiniteWhereLeavesAre, IsAtMost, LeastRoundIsOne}
use Rattle.flat_facts.proofs.Lists.{holds_in}
use Rattle.flat_form.specs.Parts.{AllBelow}
use Rattle.flat_facts.proofs.Scopes.{above, all_below, argument_low}

module _ (basic : List Flat) where
  lead_on : (u v w : ℕ) (p b q c : List ℕ) → Leads basic u p b v → Leads basic v q c w → Leads basic u (p ++ q) (b ++ c) w
  lead_on u v w p b q c (stays x) more = more
  lead_on u v w p b q c (goes x y s xs i path before stands within on) more =
      goes u w s xs i (path ++ q) (before ++ c) stands within (lead_on (slice_index xs i) v w path before q c on more)

  -- the walk from a variable that was met
  record Again (x w : ℕ) : Type 0 where
    path : List ℕ
    before : List ℕ
    long : 0 < length path
    walk : Leads basic x path before w

  again : (u w x : ℕ) (path before : List ℕ) → Leads basic u path before w → Contains before x → Again x w
  again u w x path before (stays y) inside = absurd (omega (arith, inside.1))
  again u w x path before (goes y z s xs i p b stands within on) inside = elim (contains_cases u x b inside) [
    | inl e ↦ subst (λ y. Again y w) e (record { path = i ∷ p; before = u ∷ b; long = omega arith; walk = goes u w s xs i p b stands within on })
    | inr more ↦ again (slice_index xs i) w x p b on more
  ]

  distinct_push : (b : List ℕ) (x : ℕ) → IsDistinct b → ¬ Contains b x → IsDistinct (b ++ x ∷ [])
  distinct_push [] x d new = (λ i. omega (arith, i.1), tt)
  distinct_push (y ∷ b) x d new = (
    λ i. elim (Contains-push_cases b x y i) [ inl j ↦ d.0 j | inr e ↦ new (subst (λ z. Contains (y ∷ b) z) (sym e) (contains_first y b)) ],
    distinct_push b x d.1 (λ j. new (contains_later y x b j)),
  )

  -- where no walk comes round, none meets its end before
  no_repeat : (v start : ℕ) → IsTarget basic v start → ((path : List ℕ) → ¬ ComesRound basic v path) → (x w : ℕ) (p b q c : List ℕ)
      → Leads basic start p b x → IsDistinct b → Leads basic x q c w → ¬ Contains (b ++ c) w
  no_repeat v start target none x w p b q c first d (stays y) = λ inside.
      none p (record {
        start = start;
        before = b;
        last = w;
        target = target;
        walk = first;
        again = subst (λ z. Contains z w) (append-nil b) inside;
        distinct = d;
      })
  no_repeat v start target none x w p b q c first d (goes y z s xs i path before stands within on) = λ inside. do
    m ← either_way (Contains b x)
    elim m [
      | inl met ↦ none p (record { start = start; before = b; last = x; target = target; walk = first; again = met; distinct = d })
      | inr new ↦
          let next : Leads basic start (p ++ i ∷ []) (b ++ x ∷ []) (slice_index xs i) =
          lead_on start x (slice_index xs i) p b (i ∷ []) (x ∷ []) first
          (goes x (slice_index xs i) s xs i [] [] stands within (stays (slice_index xs i))) in
          no_repeat v start target none (slice_index xs i) w (p ++ i ∷ []) (b ++ x ∷ []) path before next (distinct_push b x d new) on
          (subst (λ z. Contains z w) (sym (append_assoc b (x ∷ []) before)) inside)
    ]

  lead_low : (n : ℕ) → AllBelow n basic → (u w : ℕ) (p b : List ℕ) → Leads basic u p b w → u < n → w < n
  lead_low n scope u w p b (stays x) l = l
  lead_low n scope u w p b (goes x y s xs i path before stands within on) l =
      lead_low n scope (slice_index xs i) w path before on (argument_low n basic scope u s xs stands i within)

  abbrev IsPlain : ℕ → Type 0
  IsPlain v = (r : ℕ) → ¬ Contains basic (VarVar v r)

  lead_plain : IsSolved basic → (u w : ℕ) (p b : List ℕ) → Leads basic u p b w → IsPlain u → IsPlain w
  lead_plain solved u w p b (stays x) plain = plain
  lead_plain solved u w p b (goes x y s xs i path before stands within on) plain =
      lead_plain solved (slice_index xs i) w path before on (solved.plain u s xs stands i within)

module _ {σ : Signature} (basic : List Flat) (e : Valuation σ) (holds : BasicHolds e basic) where
  lead_inside : (u w : ℕ) (p b : List ℕ) → Leads basic u p b w → IsSubtree (e u).graph p (e w).graph
  lead_inside u w p b (stays x) more = refl
  lead_inside u w p b (goes x y s xs i path before stands within on) more =
      (holds_in e basic (VarTerm u s xs) holds stands).child i within (path ++ more) ∙ lead_inside (slice_index xs i) w path before on more

  target_alike : (v start : ℕ) → IsTarget basic v start → Alike (e v) (e start)
  target_alike v start (inl stands) = holds_in e basic (VarVar v start) holds stands
  target_alike v start (inr own) = let P : ℕ → Type 0 = λ z. Alike (e v) (e z) in subst P own.0 (λ path. refl)

  lead_finite : (v start w : ℕ) (p b : List ℕ) → IsTarget basic v start → Leads basic start p b w → IsFinite (e v).graph → IsFinite (e w).graph
  lead_finite v start w p b target walk finite =
      subtree_finite (e start).graph (e w).graph p (lead_inside start w p b walk)
      (finite_same (e v).graph (e start).graph (target_alike v start target) finite)

  round_infinite : (v : ℕ) (path : List ℕ) → ComesRound basic v path → ¬ IsFinite (e v).graph
  round_infinite v path r = λ finite.
      let more = again basic r.start r.last r.last path r.before r.walk r.again in
      own_subtree_infinite (e r.last).graph more.path (e r.last).in_range more.long (lead_inside r.last r.last more.path more.before more.walk)
      (lead_finite v r.start r.last path r.before r.target r.walk finite)

  module _ (v start : ℕ) (solved : IsSolved basic) (target : IsTarget basic v start) (none : (path : List ℕ) → ¬ ComesRound basic v path)
      (leaves : (u : ℕ) → IsLeaf basic v u → IsFinite (e u).graph) where
    abbrev IsMet : ℕ → Type 0
    IsMet w = (path : List ℕ) × (before : List ℕ) × Leads basic start path before w

    start_plain : IsTarget basic v start → IsPlain basic start
    start_plain (inl stands) = (solved.direct v start stands).1
    start_plain (inr own) = let P : ℕ → Type 0 = λ z. IsPlain basic z in subst P own.0 own.1

    abbrev tree : ℕ → Graph
    tree w = (e w).graph

    branches : (w : ℕ) (s : Symbol) (xs : List ℕ) → IsMet w → Contains basic (VarTerm w s xs) → Branches tree IsMet (Again basic) w
    branches w s xs (p, b, walk) stands = record {
      symbol = s;
      children = xs;
      root = (holds_in e basic (VarTerm w s xs) holds stands).root;
      child = (holds_in e basic (VarTerm w s xs) holds stands).child;
      good = λ i within. (
        p ++ i ∷ [],
        b ++ w ∷ [],
        lead_on basic start w (slice_index xs i) p b (i ∷ []) (w ∷ []) walk
            (goes w (slice_index xs i) s xs i [] [] stands within (stays (slice_index xs i))),
      );
      leads = λ i within. record {
        path = i ∷ [];
        before = w ∷ [];
        long = omega arith;
        walk = goes w (slice_index xs i) s xs i [] [] stands within (stays (slice_index xs i));
      };
    }

    each : (w : ℕ) → IsMet w → Either (IsFinite (tree w)) (Branches tree IsMet (Again basic) w)
    each w (p, b, walk) n = do
      t ← either_way (HasTerm basic w)
      elim t [
        | inl (s, xs, stands) ↦ n (inr (branches w s xs (p, b, walk) stands))
        | inr bare ↦ n (inl (leaves w (record {
          start = start;
          path = p;
          before = b;
          target = target;
          walk = walk;
          bare = record {
            no_variable = lead_plain basic solved start w p b walk (start_plain target);
            no_term = λ s xs stands. bare (s, xs, stands);
          };
        })))
      ]

    -- a longer walk begins with the variable that it comes from
    begins : (x w : ℕ) (p b : List ℕ) → 0 < length p → Leads basic x p b w → Contains b x
    begins x w p b long (stays y) = absurd (omega (arith, long))
    begins x w p b long (goes y z s xs i path before stands within on) = contains_first x before

    no_round : (w : ℕ) → IsMet w → ¬ Again basic w w
    no_round w (p, b, walk) = λ more.
        no_repeat basic v start target none start w [] [] (p ++ more.path) (b ++ more.before) (stays start) tt
        (lead_on basic start w w p b more.path more.before walk more.walk)
        (Contains-append_right b more.before w (begins w w more.path more.before more.long more.walk))

    onward : (x y z : ℕ) → Again basic x y → Again basic y z → Again basic x z
    onward x y z a b = record {
      path = a.path ++ b.path;
      before = a.before ++ b.before;
      long = omega (arith, a.long, length-append a.path b.path);
      walk = lead_on basic x y z a.path a.before b.path b.before a.walk b.walk;
    }

    met_finite : IsFinite (e start).graph
    met_finite =
        let n : ℕ = start + 1 + above basic in
        none_comes_round IsMet (Again basic) tree n onward
        (λ w (p, b, walk). lead_low basic n (λ a i x occurs. omega (arith, all_below basic a i x occurs)) start w p b walk (omega arith))
        no_round each start ([], [], stays start)

pub round_is_infinite : RoundIsInfinite
round_is_infinite σ basic e v path holds r = round_infinite basic e holds v path r

target_exists : (basic : List Flat) (v : ℕ) → Exists (IsTarget basic v)
target_exists basic v c = do
  q ← either_way ((r : ℕ) × Contains basic (VarVar v r))
  elim q [
    | inl (r, stands) ↦ c (r, inl stands)
    | inr none ↦ c (v, inr (refl, λ r stands. none (r, stands)))
  ]

pub finite_where_leaves : FiniteWhereLeavesAre
finite_where_leaves σ basic e v solved holds none = (
  λ finite u leaf. lead_finite basic e holds v leaf.start u leaf.path leaf.before leaf.target leaf.walk finite,
  λ leaves c. do
    (start, target) ← target_exists basic v
    finite_same (e start).graph (e v).graph (λ path. sym (target_alike basic e holds v start target path))
        (met_finite basic e holds v start solved target none leaves) c,
)

at_most_both : (p q : List ℕ) → IsAtMost p q → IsAtMost q p → p ≡ q
at_most_both [] [] a b = refl
at_most_both [] (j ∷ q) a b = absurd b
at_most_both (i ∷ p) [] a b = absurd a
at_most_both (i ∷ p) (j ∷ q) (inl l) (inl m) = absurd (omega (arith, l, m))
at_most_both (i ∷ p) (j ∷ q) (inl l) (inr m) = absurd (omega (arith, l, m.0))
at_most_both (i ∷ p) (j ∷ q) (inr l) (inl m) = absurd (omega (arith, l.0, m))
at_most_both (i ∷ p) (j ∷ q) (inr l) (inr m) = ap (λ z. z ∷ p) l.0 ∙ ap (λ z. j ∷ z) (at_most_both p q l.1 m.1)

pub least_round_one : LeastRoundIsOne
least_round_one basic v one other a b = at_most_both one other (a.least other b.comes_round) (b.least one a.comes_round)
