-- The slots of a negated conjunction, one part after the other.
use Rattle.std.specs.Prelude.{slice_get, Some, None}
use Rattle.std.proofs.Common.{ℕ, suc, ◌≡◌, ◌+◌, ◌≤◌, List, [], ◌∷◌, ◌++◌, length, drop, Option, get_or, set, refl, sym, ap, ◌∙◌, arith, append_assoc, append-nil, length-append}
use Rattle.std.proofs.lemmas.List.{drop_more, drop_all, set_at, get_or_at, length_push}
use Rattle.std.proofs.lemmas.Option.{slice_get_within, get_or_from_slice_get}
use Rattle.flat_form.specs.declared.atom.Flat.{Flat}
use Rattle.flat_form.specs.declared.cube.Cube.{Cube}
use Rattle.flat_form.specs.declared.normal.Normal.{Normal}
use Rattle.flat_form.specs.declared.normal.Normals.{Normals}
use Rattle.flat_form.specs.declared.normal.Normal.TheViews.{out-Normal}
use Rattle.flat_form.specs.Normals.{Norm, Norms, norm_of, norms_of, list_of}
use Rattle.normal_form.proofs.NormLists.{norms_list, norms_by_list, norm_by_fields}
use Rattle.node_facts.specs.Branches.{Branch, Branches, size, sizes, unturned, all_unturned}
use Rattle.working_rules.specs.declared.slot.Slot.{Slot}
use Rattle.working_rules.specs.Forests.{count}
use Rattle.working_rules.specs.Slots.{slots_of, all_slots_of}
use Rattle.working_rules.proofs.Slots.{slots_long, all_slots_long}

-- the slots, and then those of branches
abbrev pub with_slots : List Slot → Branches → List Slot
with_slots slots xs = slots ++ all_slots_of (length slots) xs

left_at : (items : List Normal) (i : ℕ) (x : Normal) → slice_get items i ≡ Some x → drop i items ≡ x ∷ drop (i + 1) items
left_at items i x is =
    drop_more items i x (slice_get_within items i x is) ∙ ap (λ (y : Normal). y ∷ drop (i + 1) items) (get_or_from_slice_get items i x x is)

-- with the slots of the parts that are left, they are all that are to come
abbrev pub Plants : List Slot → Normals → List Slot → ℕ → Type 0
Plants first parts so_far i = with_slots so_far (all_unturned (norms_list (drop i (list_of parts)))) ≡ with_slots first (all_unturned (norms_of parts))

pub plants_first : (slots : List Slot) (parts : Normals) → Plants slots parts slots 0
plants_first slots parts = ap (λ (z : Norms). with_slots slots (all_unturned z)) (sym (norms_by_list parts))

pub plants_more : (first : List Slot) (parts : Normals) (so_far next : List Slot) (i : ℕ) (x : Normal) → slice_get (list_of parts) i ≡ Some x
    → next ≡ so_far ++ slots_of (length so_far) (unturned (norm_of x)) → Plants first parts so_far i → Plants first parts next (i + 1)
plants_more first parts so_far next i x is made before =
    let tree : Branch = unturned (norm_of x) in
    let left : Branches = all_unturned (norms_list (drop (i + 1) (list_of parts))) in
    let long : length (slots_of (length so_far) (unturned (norm_of x))) ≡ size (unturned (norm_of x)) = slots_long (length so_far) (unturned (norm_of x)) in
    let e : length (so_far ++ slots_of (length so_far) (unturned (norm_of x))) ≡ length so_far + size (unturned (norm_of x)) =
    length-append so_far (slots_of (length so_far) (unturned (norm_of x))) ∙ omega (arith, long)
    in
    ap (λ (z : List Slot). with_slots z (all_unturned (norms_list (drop (i + 1) (list_of parts))))) made
    ∙ ap (λ (k : ℕ). so_far ++ slots_of (length so_far) (unturned (norm_of x)) ++ all_slots_of k (all_unturned (norms_list (drop (i + 1) (list_of parts))))) e
    ∙ append_assoc so_far (slots_of (length so_far) (unturned (norm_of x))) (all_slots_of (length so_far + size (unturned (norm_of x))) (all_unturned (norms_list (drop (i + 1) (list_of parts)))))
    ∙ ap (λ (z : List Normal). with_slots so_far (all_unturned (norms_list z))) (sym (left_at (list_of parts) i x is))
    ∙ before

pub plants_all : (first : List Slot) (parts : Normals) (so_far : List Slot) (i : ℕ) → length (list_of parts) ≤ i → Plants first parts so_far i
    → so_far ≡ with_slots first (all_unturned (norms_of parts))
plants_all first parts so_far i past before =
    sym (append-nil so_far)
    ∙ ap (λ (z : List Normal). with_slots so_far (all_unturned (norms_list z))) (sym (drop_all i (list_of parts) past))
    ∙ before

-- how many parts there are
list_counted : (items : List Normal) → count (all_unturned (norms_list items)) ≡ length items
list_counted [] = refl
list_counted (x ∷ items) = ap (λ (k : ℕ). suc k) (list_counted items)

parts_counted : (parts : Normals) → count (all_unturned (norms_of parts)) ≡ length (list_of parts)
parts_counted parts = ap (λ (z : Norms). count (all_unturned z)) (norms_by_list parts) ∙ list_counted (list_of parts)

-- a slot with its end set
ended : (item : Slot) (bound parts end last : ℕ) (basic : List Flat) (list : Option (List Cube)) → item.bound ≡ bound → item.basic ≡ basic → item.parts ≡ parts
    → end ≡ last → item.list ≡ list
    → record item { end = end } ≡ record { bound = bound; basic = basic; parts = parts; end = last; list = list }
ended item bound parts end last basic list same_bound same_basic same_parts same_end same_list =
    λ i. record { bound = same_bound i; basic = same_basic i; parts = same_parts i; end = same_end i; list = same_list i }

-- A slot is put last, then those of the parts, and then its end is set: these are the slots of the negated conjunction.
pub planted : (n : Normal) (old pushed all : List Slot) (slot item : Slot) (end at : ℕ) → at ≡ length old → slot.bound ≡ (out-Normal n).bound
    → slot.basic ≡ (out-Normal n).basic → slot.parts ≡ length (list_of (out-Normal n).parts) → slot.list ≡ None → pushed ≡ old ++ slot ∷ []
    → all ≡ with_slots pushed (all_unturned (norms_of (out-Normal n).parts)) → item ≡ get_or all at item → end ≡ length all
    → set all at (record item { end = end }) ≡ old ++ slots_of (length old) (unturned (norm_of n))
planted n old pushed all slot item end at is_at bound basic parts list is_pushed is_all is_item is_end =
    let split : all ≡ old ++ slot ∷ all_slots_of (length old + 1) (all_unturned (norms_of (out-Normal n).parts)) =
    is_all
    ∙ ap (λ (z : List Slot). with_slots z (all_unturned (norms_of (out-Normal n).parts))) is_pushed
    ∙ append_assoc old (slot ∷ []) (all_slots_of (length (old ++ slot ∷ [])) (all_unturned (norms_of (out-Normal n).parts)))
    ∙ ap (λ (k : ℕ). old ++ slot ∷ all_slots_of k (all_unturned (norms_of (out-Normal n).parts))) (length_push old slot)
    in
    let same : item ≡ slot =
    is_item
    ∙ ap (λ (z : List Slot). get_or z at item) split
    ∙ get_or_at old slot (all_slots_of (length old + 1) (all_unturned (norms_of (out-Normal n).parts))) item at (sym is_at)
    in
    let long : length (all_slots_of (length old + 1) (all_unturned (norms_of (out-Normal n).parts))) ≡ sizes (all_unturned (norms_of (out-Normal n).parts)) =
    all_slots_long (length old + 1) (all_unturned (norms_of (out-Normal n).parts))
    in
    let all_long : length all ≡ length old + suc (length (all_slots_of (length old + 1) (all_unturned (norms_of (out-Normal n).parts)))) =
    ap (λ (z : List Slot). length z) split ∙ length-append old (slot ∷ all_slots_of (length old + 1) (all_unturned (norms_of (out-Normal n).parts)))
    in
    let last : end ≡ length old + (1 + sizes (all_unturned (norms_of (out-Normal n).parts))) = omega (arith, is_end, all_long, long) in
    ap (λ (z : List Slot). set z at (record item { end = end })) split
    ∙ set_at old slot (all_slots_of (length old + 1) (all_unturned (norms_of (out-Normal n).parts))) (record item { end = end }) at (sym is_at)
    ∙ ap (λ (z : Slot). old ++ z ∷ all_slots_of (length old + 1) (all_unturned (norms_of (out-Normal n).parts)))
    (ended item (out-Normal n).bound (count (all_unturned (norms_of (out-Normal n).parts))) end
    (length old + (1 + sizes (all_unturned (norms_of (out-Normal n).parts)))) (out-Normal n).basic None
    (ap (λ (z : Slot). z.bound) same ∙ bound) (ap (λ (z : Slot). z.basic) same ∙ basic)
    (ap (λ (z : Slot). z.parts) same ∙ parts ∙ sym (parts_counted (out-Normal n).parts)) last (ap (λ (z : Slot). z.list) same ∙ list))
    ∙ ap (λ (z : Norm). old ++ slots_of (length old) (unturned z)) (sym (norm_by_fields n))
