-- Two rings spliced, a root bound and the moved terms noted: what is asked of the steps, and what they give.
use Rattle.std.proofs.Common.{◌≡◌, ◌≢◌, ℕ, ◌<◌, ◌+◌, ◌^◌, List, length, set, get_or, sym, ◌∙◌, ap, subst, length-set, None, arith}
use Rattle.std.proofs.lemmas.List.{length-map, get_or-map}
use Rattle.std.proofs.lemmas.List.Elements.{Contains-get_or}
use Rattle.index_lists.specs.Rings.{exchanged}
use Rattle.index_lists.specs.declared.Cut.{Cut}
use Rattle.index_lists.proofs.Exchanging.{exchanged-twice, length-exchanged}
use Rattle.term_graph.specs.declared.bound.Bound.{Bound}
use Rattle.term_graph.specs.declared.bound.Bound.TheVariants.{Free, Variable}
use Rattle.term_graph.specs.declared.class.Class.{Class}
use Rattle.term_graph.specs.Classes.{class_at, merged}
use Rattle.term_graph.specs.Contents.{AreUsers, target_of, Leads, IsForest}
use Rattle.term_graph.specs.Fields.{Fields, free, slot_at, bindings_of, heads_of, owners_of, rebound}
use Rattle.term_graph.specs.Good.{IsGood, IsShared}
use Rattle.term_graph.specs.Noting.{AreKeysBelow, IsRebound, IsJoined, joining}
use Rattle.term_graph.proofs.Forests.{leads_open, forest_bound}
use Rattle.term_graph.proofs.Lowest.{noted_first, noted_all}
use Rattle.term_graph.proofs.Measuring.{room_for_both}
use Rattle.term_graph.proofs.Moving.{roots_before, key_stays, key_moved}
use Rattle.term_graph.proofs.Weighing.{class_is}

-- the fields with other rings
abbrev pub with_next : List ℕ → Fields → Fields
with_next next f = record { slots = f.slots; classes = f.classes; terms = f.terms; cells = f.cells; next = next; entries = f.entries; lowered = f.lowered }

abbrev pub with_classes : List Class → Fields → Fields
with_classes classes f = record { slots = f.slots; classes = classes; terms = f.terms; cells = f.cells; next = f.next; entries = f.entries; lowered = f.lowered }

-- the rings after an exchange that is taken back
pub spliced_back : (a b : ℕ) (next spliced back : List ℕ) → a < length next → b < length next → spliced ≡ exchanged a b next → back ≡ exchanged a b spliced → back ≡ next
spliced_back a b next spliced back al bl e k = k ∙ ap (exchanged a b) e ∙ exchanged-twice a b next al bl

-- the same after the steps in between were taken back
pub fields_spliced_back : (f now : Fields) (a b : ℕ) (spliced back : List ℕ) → a < length f.next → b < length f.next → spliced ≡ exchanged a b f.next → now ≡ with_next spliced f
    → back ≡ exchanged a b now.next → with_next back now ≡ f
fields_spliced_back f now a b spliced back al bl e n k =
    let r : back ≡ f.next = spliced_back a b f.next spliced back al bl e (k ∙ ap (λ (z : Fields). exchanged a b z.next) n) in
    ap (with_next back) n ∙ ap (λ z. with_next z f) r

module _ (f : Fields) (g : IsGood f) where
  abbrev b : List Bound
  b = bindings_of f.slots

  b-is : length b ≡ length f.slots
  b-is = length-map f.slots (λ s. s.binding)

  pub head_within : (v h : ℕ) → v < length f.slots → h ≡ get_or (heads_of f.slots) v 0 → h < length f.next
  head_within v h l e = rw e (g.ringed.head v (rw b-is l)).0

  pub class_within : (v : ℕ) → v < length f.slots → v < length f.classes
  class_within v l = rw (g.measured.count, b-is) l

  -- what mentions a class are terms
  pub users_within : (r : ℕ) (moved : List ℕ) → AreUsers b f.terms r moved → (i : ℕ) → i < length moved → get_or moved i 0 < length f.terms
  users_within r moved us i l = ((us.each (get_or moved i 0)).0 (Contains-get_or moved i 0 l)).0

  module _ (v to w : ℕ) (l : v < length f.slots) (m : to < length f.slots) (wl : w < length f.slots) (o : target_of (bindings_of f.slots) v ≡ None) (apart : w ≢ v) (x : Leads (bindings_of f.slots) to w) where
    vb : v < length b
    vb = rw b-is l

    tb : to < length b
    tb = rw b-is m

    wb : w < length b
    wb = rw b-is wl

    pub forest_then : IsForest (set (bindings_of f.slots) v (Variable to))
    forest_then = forest_bound b v to w vb tb o g.ringed.forest x apart

    module _ (hv hw : ℕ) (moved spliced : List ℕ) (ve : hv ≡ get_or (heads_of f.slots) v 0) (we : hw ≡ get_or (heads_of f.slots) w 0) (us : AreUsers (bindings_of f.slots) f.terms v moved) (se : spliced ≡ exchanged hw hv f.next) where
      shared_then : (f' : Fields) → IsRebound v to moved (with_next spliced f) f' → IsShared (set b v (Variable to)) f.terms f'.entries
      shared_then f' h =
          let b' = set b v (Variable to) in
          let wo = leads_open b x in
          record {
            leaders = noted_all b (set b v (Variable to)) f.terms f'.entries moved
                (h.noted b (noted_first b (set b v (Variable to)) f.terms f.entries g.shared (roots_before b (heads_of f.slots) (owners_of f.cells) f.next f.terms g.ringed v to w vb tb wb o wo apart x)))
                (key_stays b (heads_of f.slots) (owners_of f.cells) f.next f.terms g.ringed v to w vb tb wb o wo apart x)
                (key_moved b (heads_of f.slots) (owners_of f.cells) f.next f.terms g.ringed v to w vb tb wb o wo apart x moved us);
            keys = subst (λ z. AreKeysBelow z f'.entries) (sym (length-set b v (Variable to))) (h.keys g.shared.keys);
          }

      pub joined_then : (f' : Fields) (classes : List Class) → IsRebound v to moved (with_next spliced f) f' → classes ≡ merged v w f'.classes → IsJoined v to w f (with_classes classes f')
      joined_then f' classes h ce = record {
        same = ap (with_classes classes) h.same
            ∙ ap (λ z. record { slots = rebound v (Variable to) f.slots; classes = z; terms = f.terms; cells = f.cells; next = spliced; entries = f'.entries; lowered = f'.lowered }) (ce ∙ ap (λ (z : Fields). merged v w z.classes) h.same)
            ∙ ap (λ z. record { slots = rebound v (Variable to) f.slots; classes = merged v w f.classes; terms = f.terms; cells = f.cells; next = z; entries = f'.entries; lowered = f'.lowered })
            (se ∙ ap (λ z. exchanged z hv f.next) we ∙ ap (λ z. exchanged (get_or (heads_of f.slots) w 0) z f.next) ve);
        kept = h.kept;
        shared = shared_then f' h;
      }

      -- no more cells than the machine can count
      pub room_then : (f' : Fields) (n : ℕ) → IsRebound v to moved (with_next spliced f) f' → n ≡ length f'.next → n < 2 ^ 64 → (class_at f'.classes v).weight + (class_at f'.classes w).weight < 2 ^ 64
      room_then f' n h ne nl =
          let r = room_for_both b (heads_of f.slots) (owners_of f.cells) f.next g.ringed f.classes g.measured v to w vb tb wb o (leads_open b x) apart x in
          let k : length f'.next ≡ length f.next = ap (λ (z : Fields). length z.next) h.same ∙ ap length se ∙ length-exchanged hw hv f.next in
          let e : (class_at f'.classes v).weight + (class_at f'.classes w).weight ≡ (class_at f.classes v).weight + (class_at f.classes w).weight = ap (λ (z : Fields). (class_at z.classes v).weight + (class_at z.classes w).weight) h.same in
          omega arith

      pub class_then : (f' : Fields) (u : ℕ) → u < length f.slots → IsRebound v to moved (with_next spliced f) f' → u < length f'.classes
      class_then f' u ul h = (let e : length f'.classes ≡ length f.classes = ap (λ (z : Fields). length z.classes) h.same in let k = class_within u ul in omega arith)

  pub joining_is : (v w : ℕ) (before : Bound) (x y : Class) (cut : Cut) (hv hw keys lowered : ℕ) → v < length f.slots → w < length f.slots → before ≡ get_or (bindings_of f.slots) v Free → x ≡ get_or f.classes v x → y ≡ get_or f.classes w y
      → cut ≡ record { a = hw; b = hv } → hv ≡ get_or (heads_of f.slots) v 0 → hw ≡ get_or (heads_of f.slots) w 0 → keys ≡ length f.entries → lowered ≡ length f.lowered
      → record { variable = v; root = w; before = before; class = x; root_class = y; cut = cut; keys = keys; lowered = lowered } ≡ joining v w f
  joining_is v w before x y cut hv hw keys lowered vl wl be xe ye ce ve we ke le =
      let p : before ≡ (slot_at f.slots v).binding = be ∙ get_or-map (λ s. s.binding) f.slots v (free 0) Free vl in
      let q = class_is f.classes v x (class_within v vl) xe in
      let r = class_is f.classes w y (class_within w wl) ye in
      let s : cut ≡ record { a = get_or (heads_of f.slots) w 0; b = get_or (heads_of f.slots) v 0 } = ce ∙ ap (λ z. record { a = z; b = hv }) we ∙ ap (λ z. record { a = get_or (heads_of f.slots) w 0; b = z }) ve in
      cc
