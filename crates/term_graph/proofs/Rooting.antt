-- The roots after a binding.
use Rattle.std.proofs.Common.{◌≡◌, ℕ, ◌<◌, true, false, [], length, set, sym, ◌∙◌, ap, inl, inr, None, length-set, get_or-set_same, get_or-set_other}
use Rattle.std.specs.Prelude.{Result, Ok, Err, OnOk, nat_eq}
use Rattle.std.proofs.lemmas.Bool.{cases_eq, eq-eqb, ne_eqb}
use Rattle.term_graph.specs.declared.bound.Bound.{Bound}
use Rattle.term_graph.specs.declared.bound.Bound.TheVariants.{Free, Variable, Term}
use Rattle.term_graph.specs.Contents.{Contents, History, grown, with_binding, MayBind, IsForest, root, root_then, target, target_of}
use Rattle.term_graph.specs.Contents.Step.{BoundAt}
use Rattle.term_graph.proofs.Forests.{leads_to_root, root-joined, root-kept}
use Rattle.term_graph.proofs.Ringing.{same-root}

roots_bound : (c : Contents) (v : ℕ) (to : Bound) → IsForest c.bindings → v < length c.bindings → target_of c.bindings v ≡ None → MayBind c v to → (u : ℕ)
    → root (set c.bindings v to) u ≡ root_then c.bindings v to (root c.bindings u)
roots_bound c v Free f l o h u = absurd h
roots_bound c v (Variable x) f l o h u =
    let b = c.bindings in
    let y = leads_to_root c.bindings f x in
    elim (cases_eq (root b u) v) [
      | inl e ↦ (let t : nat_eq (root b u) v ≡ true = eq-eqb (root b u) v e in rw t (root-joined b v x (root b x) l h.0 o f y h.1 u e))
      | inr n ↦ (let t : nat_eq (root b u) v ≡ false = ne_eqb (root b u) v n in rw t (root-kept b v x (root b x) l h.0 o f y h.1 u n))
    ]
roots_bound c v (Term t) f l o h u =
    same-root c.bindings (set c.bindings v (Term t)) [] [] [] (length-set c.bindings v (Term t)) (λ w. elim (cases_eq w v) [
      | inl e ↦ rw e (ap target (get_or-set_same c.bindings v (Term t) Free l) ∙ sym o)
      | inr n ↦ ap target (get_or-set_other c.bindings v w (Term t) Free n)
    ]) u

pub roots_bound_by : {A E : Type 0} (r : Result A E) (before after : History) (v : ℕ) (to to' : Bound) → IsForest before.contents.bindings → v < length before.contents.bindings
    → target_of before.contents.bindings v ≡ None → MayBind before.contents v to → to ≡ to' → OnOk r (after ≡ grown (BoundAt v) (with_binding v to' before.contents) before)
    → OnOk r ((u : ℕ) → root after.contents.bindings u ≡ root_then before.contents.bindings v to (root before.contents.bindings u))
roots_bound_by (Ok _) before after v to to' f l o h k e = λ u. ap (λ (h : History). root h.contents.bindings u) e ∙ ap (λ z. root (set before.contents.bindings v z) u) (sym k) ∙ roots_bound before.contents v to f l o h u
roots_bound_by (Err _) before after v to to' f l o h k e = tt
