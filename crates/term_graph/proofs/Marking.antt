-- A mark more, and slots with the same bindings and cells.
use Rattle.std.proofs.Common.{◌≡◌, ℕ, ◌<◌, List, [], ◌∷◌, ◌++◌, false, length, set, get_or, refl, sym, ◌∙◌, ap, map, length-set, get_or-set_same}
use Rattle.std.specs.Prelude.{reverse, Result, Ok, Err, OnOk, OnErr}
use Rattle.std.proofs.lemmas.List.{set-set, set-get_or, map-set, get_or-map, length-map}
use Rattle.term_graph.specs.Contents.{History, grown, with_mark, marked}
use Rattle.term_graph.specs.Contents.Step.{MarkedAt}
use Rattle.term_graph.specs.Fields.{Fields, free, slot_at, with_slots, with_finite, without_finite, seen, undone, history, bindings_of, heads_of, uses_seen}
use Rattle.term_graph.specs.Told.{IsNewlyMarked}
use Rattle.term_graph.specs.Good.{IsGood, AreGood}
use Rattle.term_graph.specs.declared.change.Change.{Change}
use Rattle.term_graph.specs.declared.change.Change.TheVariants.{Marked}
use Rattle.term_graph.specs.declared.parts.Slot.{Slot}
use Rattle.term_graph.specs.declared.parts.Cell.{Cell}
use Rattle.term_graph.proofs.Trailing.{AreGood-now, AreGood-pushed, history-pushed}

-- a field that a write keeps
pub map-set_kept : {X Y : Type 0} (f : X → Y) (xs : List X) (i : ℕ) (d y : X) → i < length xs → f y ≡ f (get_or xs i d) → map f (set xs i y) ≡ map f xs
map-set_kept f xs i d y l k =
    map-set f xs i y ∙ ap (λ v. set (map f xs) i v) (k ∙ sym (get_or-map f xs i d (f d) l)) ∙ set-get_or (map f xs) i (f d)

pub good_as : (f : Fields) (slots : List Slot) → bindings_of slots ≡ bindings_of f.slots → heads_of slots ≡ heads_of f.slots → IsGood f → IsGood (with_slots slots f)
good_as f slots b h g = record {
  ringed = rw (b, h) g.ringed;
  measured = rw (b, h) g.measured;
  mentioned = rw h g.mentioned;
  shared = rw b g.shared;
  bound = rw b g.bound;
  few = g.few;
}

pub uses_as : (slots slots' : List Slot) (cells : List Cell) (next : List ℕ) → length slots' ≡ length slots → bindings_of slots' ≡ bindings_of slots
    → heads_of slots' ≡ heads_of slots → uses_seen slots' cells next ≡ uses_seen slots cells next
unfolding uses_seen
uses_as slots slots' cells next n b h = rw (n, b, h) refl

module _ (f : Fields) (v : ℕ) (l : v < length f.slots) (e : (slot_at f.slots v).finite ≡ false) where
  abbrev pub now : List Slot
  now = set f.slots v (with_finite (slot_at f.slots v))

  undone-marked : undone (Marked v) (with_slots now f) ≡ f
  undone-marked =
      let a : slot_at now v ≡ with_finite (slot_at f.slots v) = get_or-set_same f.slots v (with_finite (slot_at f.slots v)) (free 0) l in
      let s : without_finite (slot_at f.slots v) ≡ slot_at f.slots v = ap (λ k. record { binding = (slot_at f.slots v).binding; finite = k; cell = (slot_at f.slots v).cell }) (sym e) in
      let t : set now v (slot_at f.slots v) ≡ f.slots = set-set f.slots v (with_finite (slot_at f.slots v)) (slot_at f.slots v) ∙ set-get_or f.slots v (free 0) in
      rw (a, s, t) refl

  bindings-marked : bindings_of now ≡ bindings_of f.slots
  bindings-marked = map-set_kept (λ s. s.binding) f.slots v (free 0) (with_finite (slot_at f.slots v)) l refl

  heads-marked : heads_of now ≡ heads_of f.slots
  heads-marked = map-set_kept (λ s. s.cell) f.slots v (free 0) (with_finite (slot_at f.slots v)) l refl

  seen-marked : seen (with_slots now f) ≡ with_mark v (seen f)
  seen-marked =
      let a = bindings-marked in
      let m = map-set (λ s. s.finite) f.slots v (with_finite (slot_at f.slots v)) in
      let u = uses_as f.slots now f.cells f.next (length-set f.slots v (with_finite (slot_at f.slots v))) bindings-marked heads-marked in
      cc

  tells-marked : IsNewlyMarked v (seen f) (seen (with_slots now f))
  tells-marked = record { within = rw length-map l; bare = get_or-map (λ s. s.finite) f.slots v (free 0) false l ∙ e; is = seen-marked }

  module _ (cs ds : List Change) (f' : Fields) (p : ds ≡ cs ++ Marked v ∷ []) (q : f' ≡ with_slots now f) where
    pub marked-good : AreGood (reverse cs) f → AreGood (reverse ds) f'
    marked-good h =
        let g = AreGood-now (reverse cs) f h in
        rw q (AreGood-pushed cs ds (Marked v) f (with_slots now f) p undone-marked (good_as f now bindings-marked heads-marked g) (rw length-set l) tells-marked h)

    pub marked-is : history (reverse ds) f' ≡ marked v (history (reverse cs) f)
    marked-is =
        let m : get_or (map (λ s. s.finite) f.slots) v false ≡ false = get_or-map (λ s. s.finite) f.slots v (free 0) false l ∙ e in
        rw (q, m) (history-pushed cs ds (Marked v) f (with_slots now f) p undone-marked ∙ ap (λ c. grown (MarkedAt v) c (history (reverse cs) f)) seen-marked)

  pub marked-good_by : {A E : Type 0} (r : Result A E) (cs ds : List Change) (f' : Fields) → OnOk r (f' ≡ with_slots now f)
      → OnOk r (ds ≡ cs ++ Marked v ∷ []) → OnErr r (f' ≡ f) → OnErr r (ds ≡ cs) → AreGood (reverse cs) f → AreGood (reverse ds) f'
  marked-good_by (Ok _) cs ds f' q p q' p' h = marked-good cs ds f' p q h
  marked-good_by (Err _) cs ds f' q p q' p' h = rw (p', q') h

  pub marked-is_by : {A E : Type 0} (r : Result A E) (cs ds : List Change) (f' : Fields) (before : History) → history (reverse cs) f ≡ before
      → OnOk r (f' ≡ with_slots now f) → OnOk r (ds ≡ cs ++ Marked v ∷ []) → OnOk r (history (reverse ds) f' ≡ marked v before)
  marked-is_by (Ok _) cs ds f' before e' q p = rw (← e') (marked-is cs ds f' p q)
  marked-is_by (Err _) cs ds f' before e' q p = tt
