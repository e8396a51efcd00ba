-- A free variable bound to a term.
use Rattle.std.proofs.Common.{◌≡◌, ℕ, ◌<◌, List, [], ◌∷◌, ◌++◌, length, set, get_or, refl, sym, ◌∙◌, ap, subst, inl, inr, map, length-set, get_or-set_same, get_or-set_other}
use Rattle.std.specs.Prelude.{reverse, Result, Ok, Err, OnOk, OnErr}
use Rattle.std.proofs.lemmas.Bool.{cases_eq}
use Rattle.std.proofs.lemmas.List.{set-set, set-get_or, map-set, get_or-map, length-map}
use Rattle.term_graph.specs.declared.bound.Bound.{Bound}
use Rattle.term_graph.specs.declared.bound.Bound.TheVariants.{Free, Term}
use Rattle.term_graph.specs.declared.parts.Slot.{Slot}
use Rattle.term_graph.specs.declared.change.Change.{Change}
use Rattle.term_graph.specs.declared.change.Change.TheVariants.{Termed}
use Rattle.term_graph.specs.Contents.{History, grown, each, target, target_of, binding_of, with_binding}
use Rattle.term_graph.specs.Contents.Step.{BoundAt}
use Rattle.term_graph.specs.Fields.{Fields, free, slot_at, with_slots, bound_to, rebound, seen, undone, history, bindings_of, heads_of, mentions_of, uses_seen, uses_in, used, round_of}
use Rattle.term_graph.specs.Told.{IsBoundToTerm}
use Rattle.term_graph.specs.Good.{IsGood, AreGood}
use Rattle.term_graph.proofs.Marking.{map-set_kept}
use Rattle.term_graph.proofs.Measuring.{same-measured}
use Rattle.term_graph.proofs.Reading.{each-same}
use Rattle.term_graph.proofs.Ringing.{same-ringed, same-root}
use Rattle.term_graph.proofs.Sharing.{same-shared}
use Rattle.term_graph.proofs.Trailing.{AreGood-now, AreGood-pushed, history-pushed}

module _ (f : Fields) (v t : ℕ) (l : v < length f.slots) (o : binding_of (bindings_of f.slots) v ≡ Free) (tl : t < length f.terms) where
  abbrev b : List Bound
  b = bindings_of f.slots

  abbrev pub now_slots : List Slot
  now_slots = rebound v (Term t) f.slots

  b-now : bindings_of now_slots ≡ set b v (Term t)
  b-now = map-set (λ s. s.binding) f.slots v (bound_to (Term t) (slot_at f.slots v))

  heads-now : heads_of now_slots ≡ heads_of f.slots
  heads-now = map-set_kept (λ s. s.cell) f.slots v (free 0) (bound_to (Term t) (slot_at f.slots v)) l refl

  marks-now : map (λ s. s.finite) now_slots ≡ map (λ s. s.finite) f.slots
  marks-now = map-set_kept (λ s. s.finite) f.slots v (free 0) (bound_to (Term t) (slot_at f.slots v)) l refl

  vb : v < length b
  vb = rw length-map l

  was_free : (slot_at f.slots v).binding ≡ Free
  was_free = sym (get_or-map (λ s. s.binding) f.slots v (free 0) Free l) ∙ o

  same-target : (u : ℕ) → target_of (set b v (Term t)) u ≡ target_of b u
  same-target u = elim (cases_eq u v) [
    | inl e ↦ rw e (ap target (get_or-set_same b v (Term t) Free vb) ∙ sym (ap target o))
    | inr n ↦ ap target (get_or-set_other b v u (Term t) Free n)
  ]

  same-length : length (set b v (Term t)) ≡ length b
  same-length = length-set b v (Term t)

  bound-now : (g : IsGood f) (u s : ℕ) → binding_of (set b v (Term t)) u ≡ Term s → s < length f.terms
  bound-now g u s e = elim (cases_eq u v) [
    | inl i ↦ (
        let p : Term t ≡ Term s = sym (ap (binding_of (set b v (Term t))) i ∙ get_or-set_same b v (Term t) Free vb) ∙ e in
        let q : t ≡ s = cc in
        subst (λ z. z < length f.terms) q tl)
    | inr n ↦ g.bound u s (sym (get_or-set_other b v u (Term t) Free n) ∙ e)
  ]

  good-termed : IsGood f → IsGood (with_slots now_slots f)
  good-termed g = record {
    ringed = rw (b-now, heads-now) (same-ringed b (set b v (Term t)) (heads_of f.slots) _ f.next same-length same-target g.ringed);
    measured = rw (b-now, heads-now) (same-measured b (set b v (Term t)) (heads_of f.slots) f.next f.classes same-length same-target (same-root b (set b v (Term t)) (heads_of f.slots) [] f.next same-length same-target) g.measured);
    mentioned = rw heads-now g.mentioned;
    shared = rw b-now (same-shared b (set b v (Term t)) f.terms f.entries same-length same-target (same-root b (set b v (Term t)) (heads_of f.slots) [] f.next same-length same-target) g.shared);
    bound = rw b-now (bound-now g);
    few = g.few;
  }

  undone-termed : undone (Termed v) (with_slots now_slots f) ≡ f
  undone-termed =
      let a : slot_at now_slots v ≡ bound_to (Term t) (slot_at f.slots v) = get_or-set_same f.slots v (bound_to (Term t) (slot_at f.slots v)) (free 0) l in
      let s : bound_to Free (slot_at f.slots v) ≡ slot_at f.slots v = ap (λ k. record { binding = k; finite = (slot_at f.slots v).finite; cell = (slot_at f.slots v).cell }) (sym was_free) in
      let k : set now_slots v (slot_at f.slots v) ≡ f.slots = set-set f.slots v (bound_to (Term t) (slot_at f.slots v)) (slot_at f.slots v) ∙ set-get_or f.slots v (free 0) in
      rw (a, s, k) refl

  uses-termed : uses_seen now_slots f.cells f.next ≡ uses_seen f.slots f.cells f.next
  unfolding uses_seen
  uses-termed =
      ap (λ n. each n (uses_in (bindings_of now_slots) (heads_of now_slots) (mentions_of f.cells) f.next)) (length-set f.slots v (bound_to (Term t) (slot_at f.slots v)))
      ∙ ap (λ z. each (length f.slots) (uses_in z (heads_of now_slots) (mentions_of f.cells) f.next)) b-now
      ∙ ap (λ z. each (length f.slots) (uses_in (set b v (Term t)) z (mentions_of f.cells) f.next)) heads-now
      ∙ each-same (length f.slots) (uses_in (set b v (Term t)) (heads_of f.slots) (mentions_of f.cells) f.next) (uses_in b (heads_of f.slots) (mentions_of f.cells) f.next)
      (λ u ul. ap (λ z. used (mentions_of f.cells) (round_of f.next (get_or (heads_of f.slots) z 0))) (same-root b (set b v (Term t)) (heads_of f.slots) [] f.next same-length same-target u))

  seen-termed : seen (with_slots now_slots f) ≡ with_binding v (Term t) (seen f)
  seen-termed =
      let a = b-now in
      let m = marks-now in
      let u = uses-termed in
      cc

  tells-termed : IsBoundToTerm v (seen f) (seen (with_slots now_slots f))
  tells-termed = record { term = t; within = vb; term_within = tl; free = o; is = seen-termed }

  module _ (cs ds : List Change) (f' : Fields) (p : ds ≡ cs ++ Termed v ∷ []) (q : f' ≡ with_slots now_slots f) where
    termed-good : AreGood (reverse cs) f → AreGood (reverse ds) f'
    termed-good h =
        let g = AreGood-now (reverse cs) f h in
        rw q (AreGood-pushed cs ds (Termed v) f (with_slots now_slots f) p undone-termed (good-termed g) (rw length-set l) tells-termed h)

    termed-is : history (reverse ds) f' ≡ grown (BoundAt v) (with_binding v (Term t) (seen f)) (history (reverse cs) f)
    termed-is = rw q (history-pushed cs ds (Termed v) f (with_slots now_slots f) p undone-termed ∙ ap (λ c. grown (BoundAt v) c (history (reverse cs) f)) seen-termed)

  pub termed-good_by : {A E : Type 0} (r : Result A E) (cs ds : List Change) (f' : Fields) → OnOk r (f' ≡ with_slots (rebound v (Term t) f.slots) f)
      → OnOk r (ds ≡ cs ++ Termed v ∷ []) → OnErr r (f' ≡ f) → OnErr r (ds ≡ cs) → AreGood (reverse cs) f → AreGood (reverse ds) f'
  termed-good_by (Ok _) cs ds f' q p q' p' h = termed-good cs ds f' p q h
  termed-good_by (Err _) cs ds f' q p q' p' h = rw (p', q') h

  pub termed-is_by : {A E : Type 0} (r : Result A E) (cs ds : List Change) (f' : Fields) (before : History) → history (reverse cs) f ≡ before
      → OnOk r (f' ≡ with_slots (rebound v (Term t) f.slots) f) → OnOk r (ds ≡ cs ++ Termed v ∷ [])
      → OnOk r (history (reverse ds) f' ≡ grown (BoundAt v) (with_binding v (Term t) before.contents) before)
  termed-is_by (Ok _) cs ds f' before e q p = rw (← e) (termed-is cs ds f' p q)
  termed-is_by (Err _) cs ds f' before e q p = tt
