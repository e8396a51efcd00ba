-- What the first variables reach along terms is determined by their values.
use Rattle.std.proofs.Common.{ℕ, zero, suc, ◌<◌, List, ◌∷◌, sym, ◌∙◌, subst, arith, inl, inr}
use Rattle.tree_model.specs.Signatures.{Signature, Alike}
use Rattle.tree_model.specs.Valuations.{Valuation}
use Rattle.flat_form.specs.declared.atom.Flat.{Flat}
use Rattle.flat_form.specs.declared.atom.Flat.TheVariants.{VarTerm}
use Rattle.flat_form.specs.Meanings.{BasicHolds}
use Rattle.flat_form.specs.Parts.{Under, top, below}
use Rattle.flat_form.specs.FirstOccurrence.{IsNumbered}
use Rattle.flat_facts.proofs.Lists.{holds_in}
use Rattle.cube_facts.specs.Determined.{UnderIsDetermined, NumberedIsUnder, OuterIsDetermined}
use Rattle.cube_facts.proofs.Places.{side}

module _ {σ : Signature} (k : ℕ) (basic : List Flat) (d e : Valuation σ) (d_holds : BasicHolds d basic) (e_holds : BasicHolds e basic)
    (at_first : (u : ℕ) → u < k → Alike (d u) (e u)) where
  reached : {v : ℕ} → Under k basic v → Alike (d v) (e v)
  reached (top {v} low) path = at_first v low path
  reached (below {u} symbol xs up stands i within) path =
      let here = holds_in d basic (VarTerm u symbol xs) d_holds stands in
      let there = holds_in e basic (VarTerm u symbol xs) e_holds stands in
      sym (here.child i within path) ∙ (reached up (i ∷ path) ∙ there.child i within path)

pub under_is_determined : UnderIsDetermined
under_is_determined σ k basic d e v d_holds e_holds at_first under = reached k basic d e d_holds e_holds at_first under

-- by recursion on a bound of the number
under_below : (k m : ℕ) (basic : List Flat) → IsNumbered k m basic → (bound v : ℕ) → v < bound → v < m → Under k basic v
under_below k m basic numbered zero v w low = absurd (omega (arith, w))
under_below k m basic numbered (suc bound) v w low = elim (side v k) [
  | inl first ↦ top first
  | inr le ↦
      let (u, i, before, a) = numbered.hangs v le low in
      let up : Under k basic u = elim before [
        | inl first ↦ top first
        | inr less ↦ under_below k m basic numbered bound u (omega (arith, less, w)) (omega (arith, less, low))
      ] in
      subst (λ (z : ℕ). Under k basic z) a.is (below a.symbol a.xs up a.stands i a.within)
]

pub numbered_is_under : NumberedIsUnder
numbered_is_under k m basic numbered v low = under_below k m basic numbered (suc v) v (omega arith) low

pub outer_is_determined : OuterIsDetermined
outer_is_determined σ k m basic d e numbered d_holds e_holds at_free v low =
    under_is_determined σ k basic d e v d_holds e_holds at_free (numbered_is_under k m basic numbered v low)
