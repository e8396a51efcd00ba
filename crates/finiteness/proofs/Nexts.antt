-- The arguments of a class's term that are done, one more at a time.
use Rattle.std.proofs.Common.{ℕ, ◌≡◌, ◌<◌, ◌≤◌, ◌+◌, List, map, length, refl, sym, ap, ◌∙◌, subst, arith, inl, inr}
use Rattle.std.specs.Prelude.{slice_index}
use Rattle.std.proofs.lemmas.Bool.{cases_eq}
use Rattle.std.proofs.lemmas.List.{length-map}
use Rattle.tree_model.specs.declared.tree.Symbol.{Symbol}
use Rattle.term_graph.specs.declared.bound.Bound.TheVariants.{Term}
use Rattle.term_graph.specs.Contents.{Contents, binding_of, term_at}
use Rattle.settled_facts.specs.Settled.{name, HasTermIn}
use Rattle.settled_facts.proofs.Terms.{one_term, named_at}
use Rattle.finiteness.specs.declared.visits.Stage.{Stage}
use Rattle.finiteness.specs.declared.walks.Turn.{Turn}
use Rattle.finiteness.specs.Stages.{IsDone, AreDoneBelow, AllAreDone, IsNext}

-- a class that is bound to no term has no argument
pub none_done : (c : Contents) (visits : List (ℕ × Stage)) (at : Turn) → ((t : ℕ) → ¬ (binding_of c.bindings at.class ≡ Term t)) → AllAreDone c visits at
none_done c visits at bare upto s ys has = absurd (bare has.term has.bound)

module _ (c : Contents) (visits : List (ℕ × Stage)) (class t : ℕ) (within : t < length c.terms) (bound : binding_of c.bindings class ≡ Term t) where
  abbrev pub args : List ℕ
  args = (term_at c.terms t).args

  own : HasTermIn c class (term_at c.terms t).symbol (map (name c) args)
  own = record { term = t; bound = bound; key = record { within = within; sign = refl; args = refl } }

  arguments_are : (s : Symbol) (ys : List ℕ) → HasTermIn c class s ys → map (name c) args ≡ ys
  arguments_are s ys has = (one_term c class (term_at c.terms t).symbol s (map (name c) args) ys own has).1

  pub done_next : (from upto x : ℕ) → upto < length args → x ≡ name c (slice_index args upto) → IsDone visits x
      → AreDoneBelow c visits class from upto → AreDoneBelow c visits class from (upto + 1)
  done_next from upto x l e done before s ys has i k m w = elim (cases_eq i upto) [
    | inl same ↦
        let here : x ≡ slice_index ys i =
        e ∙ sym (named_at c args upto l) ∙ ap (λ (z : List ℕ). slice_index z upto) (arguments_are s ys has) ∙ ap (slice_index ys) (sym same) in
        subst (IsDone visits) here done
    | inr other ↦ before s ys has i k (omega (arith, m, other)) w
  ]

  pub done_whole : (from upto : ℕ) → length args ≤ upto → AreDoneBelow c visits class from upto → (n : ℕ) → AreDoneBelow c visits class from n
  done_whole from upto l before n s ys has i k m w =
      before s ys has i k (omega (arith, w, l, ap length (arguments_are s ys has), length-map args (name c))) w

  pub next_is : (at next : Turn) → at.class ≡ class → at.argument ≤ next.argument → next.argument < length args → next.class ≡ name c (slice_index args next.argument)
      → AreDoneBelow c visits class at.argument next.argument → ¬ IsDone visits next.class → IsNext c visits at next
  next_is at next here from l e passed waits = record {
    symbol = (term_at c.terms t).symbol;
    arguments = map (name c) args;
    term = subst (λ z. HasTermIn c z (term_at c.terms t).symbol (map (name c) args)) (sym here) own;
    from = from;
    within = omega (arith, l, length-map args (name c));
    class = named_at c args next.argument l ∙ sym e;
    passed = subst (λ z. AreDoneBelow c visits z at.argument next.argument) (sym here) passed;
    waits = waits;
  }
