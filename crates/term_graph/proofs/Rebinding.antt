-- A root bound to a variable, and the terms that it moves noted.
use Rattle.std.proofs.Common.{◌≡◌, ℕ, ◌<◌, List, length, take, drop, set, refl, ◌∙◌, ap, get_or-set_same, arith}
use Rattle.std.proofs.lemmas.List.{set-set, set-get_or, map-set, get_or-map, take_all}
use Rattle.term_graph.specs.declared.bound.Bound.{Bound}
use Rattle.term_graph.specs.declared.bound.Bound.TheVariants.{Free}
use Rattle.term_graph.specs.declared.parts.Slot.{Slot}
use Rattle.term_graph.specs.declared.key.Key.{Key}
use Rattle.term_graph.specs.declared.key.Lowered.{Lowered}
use Rattle.term_graph.specs.Contents.{binding_of}
use Rattle.term_graph.specs.Fields.{Fields, free, slot_at, bound_to, rebound, bindings_of}
use Rattle.term_graph.specs.Lowering.{restored, IsKept}
use Rattle.term_graph.proofs.Restoring.{kept-back}

pub bindings-rebound : (slots : List Slot) (v : ℕ) (to : Bound) → bindings_of (rebound v to slots) ≡ set (bindings_of slots) v to
bindings-rebound slots v to = map-set (λ s. s.binding) slots v (bound_to to (slot_at slots v))

pub rebound-back : (slots now back : List Slot) (v : ℕ) (to before : Bound) → v < length slots → before ≡ binding_of (bindings_of slots) v → now ≡ rebound v to slots → back ≡ rebound v before now → back ≡ slots
rebound-back slots now back v to before l e p q =
    let a : slot_at (rebound v to slots) v ≡ bound_to to (slot_at slots v) = get_or-set_same slots v (bound_to to (slot_at slots v)) (free 0) l in
    let b : before ≡ (slot_at slots v).binding = e ∙ get_or-map (λ s. s.binding) slots v (free 0) Free l in
    let s : bound_to before (slot_at slots v) ≡ slot_at slots v = ap (λ k. record { binding = k; finite = (slot_at slots v).finite; cell = (slot_at slots v).cell }) b in
    let k : set (rebound v to slots) v (slot_at slots v) ≡ slots = set-set slots v (bound_to to (slot_at slots v)) (slot_at slots v) ∙ set-get_or slots v (free 0) in
    q ∙ ap (rebound v before) p ∙ rw (a, s, k) refl

pub lowered_back : (es fs : List (Key × ℕ)) (xs ys zs : List Lowered) (n : ℕ) → n ≡ length xs → IsKept es xs fs ys → zs ≡ take n ys → zs ≡ xs
lowered_back es fs xs ys zs n e h f = f ∙ ap (λ k. take k ys) e ∙ h.first (length xs) (omega arith) ∙ take_all (length xs) xs (omega arith)

pub entries_back : (es fs gs : List (Key × ℕ)) (xs ys : List Lowered) (n k : ℕ) → n ≡ length xs → k ≡ length es → IsKept es xs fs ys → gs ≡ restored (drop n ys) (take k fs) → gs ≡ es
entries_back es fs gs xs ys n k e d h f = f ∙ ap (λ z. restored (drop z ys) (take k fs)) e ∙ ap (λ z. restored (drop (length xs) ys) (take z fs)) d ∙ kept-back es fs xs ys h

pub fields_back : (f : Fields) (slots : List Slot) (entries : List (Key × ℕ)) (lowered : List Lowered) → slots ≡ f.slots → entries ≡ f.entries → lowered ≡ f.lowered
    → record { slots = slots; classes = f.classes; terms = f.terms; cells = f.cells; next = f.next; entries = entries; lowered = lowered } ≡ f
fields_back f slots entries lowered p q r = rw (p, q, r) refl
