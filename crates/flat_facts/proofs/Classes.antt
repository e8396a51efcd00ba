-- What classes say holds in each solution.
use Rattle.std.proofs.Common.{ℕ, ◌<◌, List, [], ◌∷◌, ◌++◌, length, refl, sym, ◌∙◌, arith, append_assoc}
use Rattle.std.specs.Prelude.{slice_index, Contains}
use Rattle.std.proofs.lemmas.List.{length-append}
use Rattle.std.proofs.lemmas.Option.{some_pair_parts}
use Rattle.tree_model.specs.declared.tree.Symbol.{Symbol}
use Rattle.tree_model.specs.Signatures.{Signature, Alike}
use Rattle.tree_model.specs.Trees.{IsFinite}
use Rattle.tree_model.specs.Valuations.{Valuation}
use Rattle.tree_model.proofs.Sameness.{finite_same}
use Rattle.tree_facts.specs.FiniteLaws.{IsSubtree}
use Rattle.tree_facts.proofs.Equations.{arguments_compose}
use Rattle.tree_facts.proofs.Finite.{subtree_finite, own_subtree_infinite}
use Rattle.flat_form.specs.declared.atom.Flat.{Flat}
use Rattle.flat_form.specs.declared.atom.Flat.TheVariants.{VarVar, VarTerm, Finite}
use Rattle.flat_form.specs.Meanings.{AtomHolds, BasicHolds}
use Rattle.flat_form.specs.Classes.{Class, itself, turned, joined, stated, inward, outward, Reached, marked, child, Walk, step, more, Unsolvable, clash, loop}
use Rattle.flat_facts.specs.ClassLaws.{ClassIsAlike, ReachedIsFinite, UnsolvableHasNoSolution}
use Rattle.flat_facts.proofs.Lists.{holds_in}

module _ {σ : Signature} (atoms : List Flat) (e : Valuation σ) (holds : BasicHolds e atoms) where
  term_holds : (u : ℕ) (s : Symbol) (xs : List ℕ) → Contains atoms (VarTerm u s xs) → AtomHolds e (VarTerm u s xs)
  term_holds u s xs stands = holds_in e atoms (VarTerm u s xs) holds stands

  alike : {u v : ℕ} → Class atoms u v → Alike (e u) (e v)
  alike (itself u) path = refl
  alike (turned c) path = sym (alike c path)
  alike (joined c d) path = alike c path ∙ alike d path
  alike (stated {u} {v} stands) path = holds_in e atoms (VarVar u v) holds stands path
  alike (inward {u} {v} s xs ys a b len c i w) path =
      sym ((term_holds u s xs a).child i w path) ∙ alike c (i ∷ path) ∙ (term_holds v s ys b).child i (omega arith) path
  alike (outward {u} {v} s xs ys a b len c) path =
      arguments_compose σ e e u v s xs ys (term_holds u s xs a) (term_holds v s ys b) len (λ i w. alike (c i w)) path

  reached : {v : ℕ} → Reached atoms v → IsFinite (e v).graph
  reached (marked {u} {v} stands c) = finite_same (e u).graph (e v).graph (alike c) (holds_in e atoms (Finite u) holds stands)
  reached (child {u} {w} s xs r stands i within c) =
      finite_same (e (slice_index xs i)).graph (e w).graph (alike c)
      (subtree_finite (e u).graph (e (slice_index xs i)).graph (i ∷ []) ((term_holds u s xs stands).child i within) (reached r))

  -- a walk is a path
  walk_inside : {u w : ℕ} → Walk atoms u w → (path : List ℕ) × (0 < length path) × IsSubtree (e u).graph path (e w).graph
  walk_inside (step {u} {v} {w} s xs c stands i within d) = (
    i ∷ [],
    omega arith,
    λ more. alike c (i ∷ more) ∙ (term_holds v s xs stands).child i within more ∙ alike d more,
  )
  walk_inside (more {u} {v} {w} a b) =
      let (front, long, before) = walk_inside a in
      let (back, longer, behind) = walk_inside b in
      (front ++ back, omega (arith, length-append front back), λ more. rw (append_assoc front back more) (before (back ++ more)) ∙ behind more)

  no_solution : ¬ Unsolvable atoms
  no_solution (loop {v} r w) =
      let (path, long, inside) = walk_inside w in
      own_subtree_infinite (e v).graph path (e v).in_range long inside (reached r)
  no_solution (clash c) =
      let (symbols, counts) = some_pair_parts c.left_symbol c.right_symbol (length c.xs) (length c.ys)
      (sym (term_holds c.left c.left_symbol c.xs c.left_stands).root ∙ alike c.one_class [] ∙ (term_holds c.right c.right_symbol c.ys c.right_stands).root) in
      c.differ (symbols, counts)

pub class_alike : ClassIsAlike
class_alike σ atoms e u v holds c = alike atoms e holds c

pub reached_finite : ReachedIsFinite
reached_finite σ atoms e v holds r = reached atoms e holds r

pub unsolvable_none : UnsolvableHasNoSolution
unsolvable_none σ atoms e holds = no_solution atoms e holds
