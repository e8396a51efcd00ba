-- Walks along the equations of a system.
use Rattle.std.proofs.Common.{ℕ, ◌<◌, ◌+◌, ◌++◌, List, [], ◌∷◌, refl, sym, ◌∙◌, subst, arith, Some, None, append_assoc}
use Rattle.std.specs.Prelude.{Option, slice_index, Contains}
use Rattle.std.proofs.lemmas.List.{length-append}
use Rattle.classical.specs.Classical.{Either}
use Rattle.classical.proofs.Stable.{left, right}
use Rattle.tree_model.specs.declared.tree.Symbol.{Symbol}
use Rattle.tree_model.specs.Graphs.{Graph}
use Rattle.tree_model.specs.Signatures.{Signature, Alike}
use Rattle.tree_model.specs.Trees.{IsFinite}
use Rattle.tree_model.specs.Valuations.{Valuation}
use Rattle.tree_model.proofs.Sameness.{finite_same}
use Rattle.tree_facts.specs.Equations.{Equation, equals_variable, equals_term, variables_of, Solves, IsParameter, HasDistinctLefts}
use Rattle.tree_facts.specs.Walks.{Reaches, here, by_equal, by_argument, IsBelow, Branches}
use Rattle.tree_facts.specs.WalkLaws.{ReachedStandsInside, BelowStandsInside, RoundIsInfinite, FiniteWhereWalksEnd}
use Rattle.tree_facts.proofs.Finite.{subtree_finite, own_subtree_infinite}
use Rattle.tree_facts.proofs.Lookup.{equation_of, IsEquationOf, found, above, variable_below}
use Rattle.tree_facts.proofs.Members.{argument_occurs}
use Rattle.tree_facts.proofs.NoRound.{none_comes_round}

pub reached_inside : ReachedStandsInside
reached_inside σ system e u w solves (here v) = ([], λ more. refl)
reached_inside σ system e u w solves (by_equal v r x stands on) =
    let (path, inside) = reached_inside σ system e r w solves on in
    (path, λ more. solves (equals_variable u r) stands (path ++ more) ∙ inside more)
reached_inside σ system e u w solves (by_argument v x s xs i stands within on) =
    let (path, inside) = reached_inside σ system e (slice_index xs i) w solves on in
    (i ∷ path, λ more. (solves (equals_term u s xs) stands).child i within (path ++ more) ∙ inside more)

pub below_inside : BelowStandsInside
below_inside σ system e u w solves b =
    let (front, before) = reached_inside σ system e u b.term solves b.before in
    let (back, behind) = reached_inside σ system e (slice_index b.arguments b.number) w solves b.behind in (
      front ++ b.number ∷ back,
      omega (arith, length-append front (b.number ∷ back)),
      λ more.
          rw (append_assoc front (b.number ∷ back) more) (before (b.number ∷ back ++ more))
          ∙ (solves (equals_term b.term b.symbol b.arguments) b.stands).child b.number b.within (back ++ more) ∙ behind more,
    )

pub round_infinite : RoundIsInfinite
round_infinite σ system e v solves b =
    let (path, long, inside) = below_inside σ system e v v solves b in
    own_subtree_infinite (e v).graph path (e v).in_range long inside

reaches_on : (system : List Equation) (u v w : ℕ) → Reaches system u v → Reaches system v w → Reaches system u w
reaches_on system u v w (here x) on = on
reaches_on system u v w (by_equal x r y stands more) on = by_equal u r w stands (reaches_on system r v w more on)
reaches_on system u v w (by_argument x y s xs i stands within more) on =
    by_argument u w s xs i stands within (reaches_on system (slice_index xs i) v w more on)

below_on : (system : List Equation) (u v w : ℕ) → IsBelow system u v → IsBelow system v w → IsBelow system u w
below_on system u v w a b = record {
  term = a.term;
  symbol = a.symbol;
  arguments = a.arguments;
  number = a.number;
  before = a.before;
  stands = a.stands;
  within = a.within;
  behind = reaches_on system (slice_index a.arguments a.number) v w a.behind
      (reaches_on system v b.term w b.before (by_argument b.term w b.symbol b.arguments b.number b.stands b.within b.behind));
}

reached_low : (system : List Equation) (n : ℕ) → ((q : Equation) → Contains system q → (v : ℕ) → Contains (variables_of q) v → v < n)
    → (u w : ℕ) → Reaches system u w → u < n → w < n
reached_low system n low u w (here v) b = b
reached_low system n low u w (by_equal v r x stands on) b =
    reached_low system n low r w on (low (equals_variable u r) stands r (argument_occurs u (r ∷ []) 0 (omega arith)))
reached_low system n low u w (by_argument v x s xs i stands within on) b =
    reached_low system n low (slice_index xs i) w on (low (equals_term u s xs) stands (slice_index xs i) (argument_occurs u xs i within))

module _ {σ : Signature} (system : List Equation) (e : Valuation σ) (v : ℕ) (distinct : HasDistinctLefts system) (solves : Solves e system)
    (parameters : (w : ℕ) → Reaches system v w → IsParameter system w → IsFinite (e w).graph) where
  abbrev tree : ℕ → Graph
  tree w = (e w).graph

  abbrev Ends : ℕ → Type 0
  Ends w = Either (IsFinite (e w).graph) (Branches tree (Reaches system v) (IsBelow system) w)

  -- w is alike to a variable that equals a term
  branches : (w u : ℕ) (s : Symbol) (xs : List ℕ) → Reaches system v w → Reaches system w u → Alike (e w) (e u) → Contains system (equals_term u s xs)
      → Branches tree (Reaches system v) (IsBelow system) w
  branches w u s xs reached on alike stands = record {
    symbol = s;
    children = xs;
    root = alike [] ∙ (solves (equals_term u s xs) stands).root;
    child = λ i within path. alike (i ∷ path) ∙ (solves (equals_term u s xs) stands).child i within path;
    good = λ i within. reaches_on system v u (slice_index xs i) (reaches_on system v w u reached on)
        (by_argument u (slice_index xs i) s xs i stands within (here (slice_index xs i)));
    leads = λ i within. record {
      term = u;
      symbol = s;
      arguments = xs;
      number = i;
      before = on;
      stands = stands;
      within = within;
      behind = here (slice_index xs i);
    };
  }

  plain_ends : (w r : ℕ) → Reaches system v w → Contains system (equals_variable w r) → (o : Option Equation) → IsEquationOf system r o → Ends w
  plain_ends w r reached stands None is_of = left (finite_same (e r).graph (e w).graph (λ path. sym (solves (equals_variable w r) stands path))
      (parameters r (reaches_on system v w r reached (by_equal w r r stands (here r))) is_of))
  plain_ends w r reached stands (Some (equals_variable u q)) is_of =
      absurd (distinct.direct w r q stands (subst (λ (z : ℕ). Contains system (equals_variable z q)) is_of.1 is_of.0))
  plain_ends w r reached stands (Some (equals_term u s xs)) is_of =
      right (branches w r s xs reached (by_equal w r r stands (here r)) (solves (equals_variable w r) stands)
      (subst (λ (z : ℕ). Contains system (equals_term z s xs)) is_of.1 is_of.0))

  ends_by : (w : ℕ) → Reaches system v w → (o : Option Equation) → IsEquationOf system w o → Ends w
  ends_by w reached None is_of = left (parameters w reached is_of)
  ends_by w reached (Some (equals_variable u r)) is_of =
      plain_ends w r reached (subst (λ (z : ℕ). Contains system (equals_variable z r)) is_of.1 is_of.0) (equation_of system r) (found system r)
  ends_by w reached (Some (equals_term u s xs)) is_of =
      right (branches w w s xs reached (here w) (λ path. refl) (subst (λ (z : ℕ). Contains system (equals_term z s xs)) is_of.1 is_of.0))

  finite_here : ((w : ℕ) → Reaches system v w → ¬ IsBelow system w w) → IsFinite (e v).graph
  finite_here no_round =
      let n : ℕ = v + 1 + above system in
      let low : (w : ℕ) → Reaches system v w → w < n =
      λ w reached. reached_low system n (λ q inside x occurs. omega (arith, variable_below system q inside x occurs)) v w reached (omega arith) in
      none_comes_round (Reaches system v) (IsBelow system) tree n (below_on system) low no_round
      (λ w reached. ends_by w reached (equation_of system w) (found system w)) v (here v)

pub finite_where_walks_end : FiniteWhereWalksEnd
finite_where_walks_end σ system e v distinct solves = (
  λ finite. (
    λ w reached parameter. reached_finite w reached finite,
    λ w reached round. round_infinite σ system e w solves round (reached_finite w reached finite),
  ),
  λ (parameters, no_round). finite_here system e v distinct solves parameters no_round,
)
  where
    reached_finite : (w : ℕ) → Reaches system v w → IsFinite (e v).graph → IsFinite (e w).graph
    reached_finite w reached = let (path, inside) = reached_inside σ system e v w solves reached in subtree_finite (e v).graph (e w).graph path inside
