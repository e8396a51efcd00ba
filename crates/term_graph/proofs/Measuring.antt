-- What is kept of roots: a variable, a mention or a binding more.
use Rattle.std.proofs.Common.{◌≡◌, ◌≢◌, ℕ, suc, ◌+◌, ◌<◌, ◌≤◌, min, true, false, List, [], ◌∷◌, ◌++◌, length, set, get_or, refl, sym, ◌∙◌, ap, subst, inl, inr, None, arith, length-set, length-append, get_or-set_same, get_or-set_other}
use Rattle.std.specs.List.{AllByRecursion, list_any}
use Rattle.std.proofs.lemmas.Bool.{cases_eq, cases_lt, ne_eqb}
use Rattle.std.proofs.lemmas.List.{get_or_append_left, get_or_push, get_or_past, length_push}
use Rattle.std.proofs.lemmas.Map.Keys.{IsDistinct-cons}
use Rattle.std.proofs.lemmas.Map.Steps.{length-le_from_distinct_below}
use Rattle.index_lists.specs.Rings.{IsRound, IsInside, exchanged, with_cell}
use Rattle.index_lists.proofs.Rounds.{round_alone, round_added, added-inside, with_cell-inside, length-with_cell, way_apart, way_distinct, way_below, exchanged-inside}
use Rattle.index_lists.proofs.Exchanging.{length-exchanged}
use lib.Dec.{eqb}
use Rattle.term_graph.specs.declared.bound.Bound.{Bound}
use Rattle.term_graph.specs.declared.bound.Bound.TheVariants.{Free, Variable}
use Rattle.term_graph.specs.declared.class.Class.{Class}
use Rattle.term_graph.specs.Contents.{root, target, target_of, Leads}
use Rattle.term_graph.specs.Classes.{alone, class_at, heavier, weighed, together, merged}
use Rattle.term_graph.specs.Fields.{round_of, mention_next}
use Rattle.term_graph.specs.Good.{AreRinged, IsClass, AreMeasured, AreRoots}
use Rattle.term_graph.proofs.Forests.{root-added, root_of_root, added-target, bound-same, bound-other}
use Rattle.term_graph.proofs.Reading.{round_is}
use Rattle.term_graph.proofs.Ringing.{root_in, ringed_mention, round_a, round_not_a, joined, kept, round_join, round_beside}
use Rattle.term_graph.proofs.Weighing.{heavier-same, heavier-other, length-heavier}

-- the own cell of a root and the others of its ring are some of the cells
different : (c : ℕ) (xs : List ℕ) → AllByRecursion (λ x. x ≢ c) xs → AllByRecursion (λ y. eqb c y ≡ false) xs
different c [] h = tt
different c (x ∷ xs) h = (ne_eqb c x (λ e. h.0 (sym e)), different c xs h.1)

pub round_short : (next : List ℕ) (c : ℕ) (cells : List ℕ) → IsInside next → c < length next → IsRound next c cells → suc (length cells) ≤ length next
round_short next c cells inside l r =
    length-le_from_distinct_below (c ∷ cells) (length next) (IsDistinct-cons eqb c cells (different c cells (way_apart next c r.way)) (way_distinct next c r.way)) (below)
  where
    below : (q : ℕ) → list_any (eqb q) (c ∷ cells) ≡ true → q < length next
    below q h = elim (cases_eq q c) [
      | inl i ↦ rw i l
      | inr n ↦ way_below next c inside r.way (inside c l) q (let e : eqb q c ≡ false = ne_eqb q c n in rw e at h)
    ]

module _ (b : List Bound) (heads owners next : List ℕ) (g : AreRinged b heads owners next) where
  pub ring_is : (r : ℕ) → r < length b → (k : IsClass b heads owners next r) → round_of next (get_or heads r 0) ≡ k.rest
  ring_is r l k = round_is next (get_or heads r 0) k.rest g.inside (g.head r l).0 k.round

  module _ (cs : List Class) (m : AreMeasured b heads next cs) where
    pub weight_is : (r : ℕ) (l : r < length b) (o : target_of b r ≡ None) → (class_at cs r).weight ≡ suc (length (g.classes r l o).rest)
    weight_is r l o = m.weight r l o ∙ ap (λ z. suc (length z)) (ring_is r l (g.classes r l o))

    pub weight_short : (r : ℕ) → r < length b → target_of b r ≡ None → (class_at cs r).weight ≤ length next
    weight_short r l o =
        let k = g.classes r l o in
        let s = round_short next (get_or heads r 0) k.rest g.inside (g.head r l).0 k.round in
        let e = weight_is r l o in
        omega arith

    pub room_for_mentions : (as' : List ℕ) → AreRoots b as' → AllByRecursion (λ a. (a < length cs) × ((class_at cs a).weight ≤ length next)) as'
    room_for_mentions [] h = tt
    room_for_mentions (a ∷ as') h = ((rw m.count h.0.0, weight_short a h.0.0 h.0.1), room_for_mentions as' h.1)

    -- a variable more
    module _ (h n : ℕ) (he : h ≡ length next) (ne : n ≡ length b) where
      abbrev more_b : List Bound
      more_b = b ++ Free ∷ []

      abbrev more_next : List ℕ
      more_next = next ++ length next ∷ []

      class_old : (r : ℕ) → r < length b → class_at (cs ++ alone n ∷ []) r ≡ class_at cs r
      class_old r l = get_or_append_left cs (alone n ∷ []) (alone 0) r (rw m.count l)

      class_new : class_at (cs ++ alone n ∷ []) (length b) ≡ alone n
      class_new = get_or_push cs (alone n) (alone 0) (length b) m.count

      open_new : target_of b (length b) ≡ None
      open_new = let p : get_or b (length b) Free ≡ Free = get_or_past b (length b) Free (omega arith) in ap target p

      root_new : root more_b (length b) ≡ length b
      root_new = root-added b g.forest (length b) ∙ root_of_root b (length b) open_new

      head_old : (r : ℕ) → r < length b → get_or (heads ++ h ∷ []) r 0 ≡ get_or heads r 0
      head_old r l = get_or_append_left heads (h ∷ []) 0 r (rw g.variables l)

      head_new : get_or (heads ++ h ∷ []) (length b) 0 ≡ length next
      head_new = get_or_push heads h 0 (length b) g.variables ∙ he

      more_length : length more_next ≡ length next + 1
      more_length = length_push next (length next)

      ring_old : (r : ℕ) (l : r < length b) (o : target_of b r ≡ None) → round_of more_next (get_or (heads ++ h ∷ []) r 0) ≡ (g.classes r l o).rest
      ring_old r l o =
          let k = g.classes r l o in
          let kl = (g.head r l).0 in
          ap (round_of more_next) (head_old r l) ∙ round_is more_next (get_or heads r 0) k.rest (added-inside next g.inside) (omega (arith, more_length, kl)) (round_added next g.inside (get_or heads r 0) k.rest kl k.round)

      ring_new : round_of more_next (get_or (heads ++ h ∷ []) (length b) 0) ≡ []
      ring_new = ap (round_of more_next) head_new ∙ round_is more_next (length next) [] (added-inside next g.inside) (omega (arith, more_length)) (round_alone next)

      weight_more : (r : ℕ) → r < length b + 1 → target_of more_b r ≡ None → (class_at (cs ++ alone n ∷ []) r).weight ≡ suc (length (round_of more_next (get_or (heads ++ h ∷ []) r 0)))
      weight_more r l o = elim (cases_eq r (length b)) [
        | inl i ↦ rw (i, class_new, ring_new) refl
        | inr d ↦ (
            let s : r < length b = omega (arith, d) in
            let o' : target_of b r ≡ None = sym (added-target b r) ∙ o in
            ap (λ z. z.weight) (class_old r s) ∙ weight_is r s o' ∙ ap (λ z. suc (length z)) (sym (ring_old r s o')))
      ]

      same_more : (r : ℕ) → r < length b + 1 → target_of more_b r ≡ None → root more_b (class_at (cs ++ alone n ∷ []) r).least ≡ r
      same_more r l o = elim (cases_eq r (length b)) [
        | inl i ↦ ap (λ z. root more_b (class_at (cs ++ alone n ∷ []) z).least) i ∙ ap (λ z. root more_b z.least) class_new ∙ ap (root more_b) ne ∙ root_new ∙ sym i
        | inr d ↦ (
            let s : r < length b = omega (arith, d) in
            ap (λ z. root more_b z.least) (class_old r s) ∙ root-added b g.forest (class_at cs r).least ∙ m.same r s (sym (added-target b r) ∙ o))
      ]

      least_more : (r u : ℕ) → r < length b + 1 → target_of more_b r ≡ None → root more_b u ≡ r → (class_at (cs ++ alone n ∷ []) r).least ≤ u
      least_more r u l o e = elim (cases_eq r (length b)) [
        | inl i ↦ (
            let a : (class_at (cs ++ alone n ∷ []) r).least ≡ length b = ap (λ z. (class_at (cs ++ alone n ∷ []) z).least) i ∙ ap (λ z. z.least) class_new ∙ ne in
            let f : root b u ≡ length b = sym (root-added b g.forest u) ∙ e ∙ i in
            elim (cases_lt u (length b)) [
              | inl s ↦ absurd (let w = root_in b heads owners next g u s in omega arith)
              | inr s ↦ omega arith
            ])
        | inr d ↦ (
            let s : r < length b = omega (arith, d) in
            let k = m.least r u s (sym (added-target b r) ∙ o) (sym (root-added b g.forest u) ∙ e) in
            let q = ap (λ z. z.least) (class_old r s) in
            omega arith)
      ]

      pub measured_added : AreMeasured (b ++ Free ∷ []) (heads ++ h ∷ []) (next ++ length next ∷ []) (cs ++ alone n ∷ [])
      measured_added = record {
        count = omega (arith, length_push cs (alone n), length_push b Free, m.count);
        same = λ r l o. same_more r (rw length_push at l) o;
        least = λ r u l o e. least_more r u (rw length_push at l) o e;
        weight = λ r l o. weight_more r (rw length_push at l) o;
      }

    -- a mention of the root a more
    module _ (a : ℕ) (al : a < length b) (ao : target_of b a ≡ None) where
      abbrev now_next : List ℕ
      now_next = with_cell (get_or heads a 0) next

      a_in : a < length cs
      a_in = rw m.count al

      now_inside : IsInside now_next
      now_inside = with_cell-inside next g.inside (get_or heads a 0) (g.head a al).0

      now_in : (r : ℕ) → r < length b → get_or heads r 0 < length now_next
      now_in r l = let k = (g.head r l).0 in let n = length-with_cell next g.inside (get_or heads a 0) (g.head a al).0 in omega arith

      least_kept : (r : ℕ) → (class_at (heavier a cs) r).least ≡ (class_at cs r).least
      least_kept r = elim (cases_eq r a) [
        | inl i ↦ ap (λ z. (class_at (heavier a cs) z).least) i ∙ ap (λ z. z.least) (heavier-same a cs a_in) ∙ ap (λ z. (class_at cs z).least) (sym i)
        | inr n ↦ ap (λ z. z.least) (heavier-other a r cs n)
      ]

      weight_a : (class_at (heavier a cs) a).weight ≡ suc (length (round_of now_next (get_or heads a 0)))
      weight_a =
          let k = g.classes a al ao in
          let w = weight_is a al ao in
          let r = ap (λ z. suc (length z)) (round_is now_next (get_or heads a 0) (length next ∷ k.rest) now_inside (now_in a al) (round_a b heads owners next g a al ao k)) in
          let h = ap (λ z. z.weight) (heavier-same a cs a_in) in
          omega arith

      weight_not_a : (r : ℕ) → r < length b → target_of b r ≡ None → r ≢ a → (class_at (heavier a cs) r).weight ≡ suc (length (round_of now_next (get_or heads r 0)))
      weight_not_a r l o n =
          let k = g.classes r l o in
          ap (λ z. z.weight) (heavier-other a r cs n) ∙ weight_is r l o
          ∙ ap (λ z. suc (length z)) (sym (round_is now_next (get_or heads r 0) k.rest now_inside (now_in r l) (round_not_a b heads owners next g a al ao r l n k)))

      pub measured_mention : AreMeasured b heads (with_cell (get_or heads a 0) next) (heavier a cs)
      measured_mention = record {
        count = length-heavier a cs ∙ m.count;
        same = λ r l o. ap (root b) (least_kept r) ∙ m.same r l o;
        least = λ r u l o e. (let k = m.least r u l o e in let q = least_kept r in omega arith);
        weight = λ r l o. elim (cases_eq r a) [
          | inl i ↦ subst (λ z. (class_at (heavier a cs) z).weight ≡ suc (length (round_of now_next (get_or heads z 0)))) (sym i) weight_a
          | inr n ↦ weight_not_a r l o n
        ];
      }

    -- a root bound to another variable
    module _ (v to w : ℕ) (l : v < length b) (t : to < length b) (wl : w < length b) (o : target_of b v ≡ None) (wo : target_of b w ≡ None) (apart : w ≢ v) (x : Leads b to w) where
      abbrev join_b : List Bound
      join_b = set b v (Variable to)

      abbrev join_next : List ℕ
      join_next = exchanged (get_or heads w 0) (get_or heads v 0) next

      abbrev both : Class
      both = together (class_at cs v) (class_at cs w)

      class_w : class_at (merged v w cs) w ≡ both
      unfolding merged
      class_w = get_or-set_same cs w both (alone 0) (rw m.count wl)

      length-merged : length (merged v w cs) ≡ length cs
      unfolding merged
      length-merged = length-set cs w both

      class_beside : (r : ℕ) → r ≢ w → class_at (merged v w cs) r ≡ class_at cs r
      unfolding merged
      class_beside r n = get_or-set_other cs w r both (alone 0) n

      join_inside : IsInside join_next
      join_inside = exchanged-inside next (get_or heads w 0) (get_or heads v 0) (g.head w wl).0 (g.head v l).0 (λ e. apart (sym (g.head w wl).1 ∙ ap (λ z. get_or owners z 0) e ∙ (g.head v l).1)) g.inside

      join_in : (r : ℕ) → r < length b → get_or heads r 0 < length join_next
      join_in r rl = rw length-exchanged (g.head r rl).0

      ring_w : round_of join_next (get_or heads w 0) ≡ (g.classes v l o).rest ++ get_or heads v 0 ∷ (g.classes w wl wo).rest
      ring_w = round_is join_next (get_or heads w 0) ((g.classes v l o).rest ++ get_or heads v 0 ∷ (g.classes w wl wo).rest) join_inside (join_in w wl) (round_join b heads owners next g v to w l t wl o wo apart x)

      weights : (class_at cs v).weight + (class_at cs w).weight ≡ suc (length (round_of join_next (get_or heads w 0)))
      weights =
          let a = weight_is v l o in
          let c = weight_is w wl wo in
          let e = ap (λ z. suc (length z)) ring_w in
          let n = length-append (g.classes v l o).rest (get_or heads v 0 ∷ (g.classes w wl wo).rest) in
          omega arith

      -- both together are no more than the cells
      pub room_for_both : (class_at cs v).weight + (class_at cs w).weight ≤ length next
      room_for_both =
          let s = round_short join_next (get_or heads w 0) ((g.classes v l o).rest ++ get_or heads v 0 ∷ (g.classes w wl wo).rest) join_inside (join_in w wl) (round_join b heads owners next g v to w l t wl o wo apart x) in
          let e = ap (λ z. suc (length z)) ring_w in
          let n = length-exchanged (get_or heads w 0) (get_or heads v 0) next in
          let k = weights in
          omega arith

      open_before : (r : ℕ) → target_of join_b r ≡ None → (r ≢ v) × (target_of b r ≡ None)
      open_before r e =
          let at_v = bound-same b v to w l t o in
          let n : r ≢ v = λ i. (let e' : target_of join_b v ≡ None = rw i at e in absurd (cc)) in
          (n, sym (bound-other b v to w l t o r n) ∙ e)

      same_w : root join_b both.least ≡ w
      same_w =
          let one : root b (class_at cs v).least ≡ v = m.same v l o in
          let other : root b (class_at cs w).least ≡ w = m.same w wl wo in
          elim (cases_lt (class_at cs v).least (class_at cs w).least) [
            | inl s ↦ (let e : min (class_at cs v).least (class_at cs w).least ≡ (class_at cs v).least = omega arith in ap (root join_b) e ∙ joined b heads owners next g v to w l t wl o wo apart x (class_at cs v).least one)
            | inr s ↦ (let e : min (class_at cs v).least (class_at cs w).least ≡ (class_at cs w).least = omega arith in
                ap (root join_b) e ∙ kept b heads owners next g v to w l t wl o wo apart x (class_at cs w).least (λ i. apart (sym other ∙ i)) ∙ other)
          ]

      least_w : (u : ℕ) → root join_b u ≡ w → both.least ≤ u
      least_w u e = elim (cases_eq (root b u) v) [
        | inl i ↦ (let k = m.least v u l o i in omega arith)
        | inr n ↦ (let k = m.least w u wl wo (sym (kept b heads owners next g v to w l t wl o wo apart x u n) ∙ e) in omega arith)
      ]

      same_joined : (r : ℕ) → r < length b → target_of join_b r ≡ None → root join_b (class_at (merged v w cs) r).least ≡ r
      same_joined r rl e = elim (cases_eq r w) [
        | inl i ↦ ap (λ z. root join_b (class_at (merged v w cs) z).least) i ∙ ap (λ z. root join_b z.least) class_w ∙ same_w ∙ sym i
        | inr n ↦ (
            let q = open_before r e in
            let k = m.same r rl q.1 in
            ap (λ z. root join_b z.least) (class_beside r n) ∙ kept b heads owners next g v to w l t wl o wo apart x (class_at cs r).least (λ i. q.0 (sym k ∙ i)) ∙ k)
      ]

      least_joined : (r u : ℕ) → r < length b → target_of join_b r ≡ None → root join_b u ≡ r → (class_at (merged v w cs) r).least ≤ u
      least_joined r u rl e f = elim (cases_eq r w) [
        | inl i ↦ (
            let k = least_w u (f ∙ i) in
            let q : (class_at (merged v w cs) r).least ≡ both.least = ap (λ z. (class_at (merged v w cs) z).least) i ∙ ap (λ z. z.least) class_w in
            omega arith)
        | inr n ↦ (
            let p = open_before r e in
            let not_v : root b u ≢ v = λ i. n (sym f ∙ joined b heads owners next g v to w l t wl o wo apart x u i) in
            let k = m.least r u rl p.1 (sym (kept b heads owners next g v to w l t wl o wo apart x u not_v) ∙ f) in
            let q = ap (λ z. z.least) (class_beside r n) in
            omega arith)
      ]

      weight_joined : (r : ℕ) → r < length b → target_of join_b r ≡ None → (class_at (merged v w cs) r).weight ≡ suc (length (round_of join_next (get_or heads r 0)))
      weight_joined r rl e = elim (cases_eq r w) [
        | inl i ↦ ap (λ z. (class_at (merged v w cs) z).weight) i ∙ ap (λ z. z.weight) class_w ∙ weights ∙ ap (λ z. suc (length (round_of join_next (get_or heads z 0)))) (sym i)
        | inr n ↦ (
            let p = open_before r e in
            let k = g.classes r rl p.1 in
            ap (λ z. z.weight) (class_beside r n) ∙ weight_is r rl p.1
            ∙ ap (λ z. suc (length z)) (sym (round_is join_next (get_or heads r 0) k.rest join_inside (join_in r rl) (round_beside b heads owners next g v to w l t wl o wo apart x r rl p.0 n k))))
      ]

      pub measured_joined : AreMeasured (set b v (Variable to)) heads (exchanged (get_or heads w 0) (get_or heads v 0) next) (merged v w cs)
      measured_joined = record {
        count = length-merged ∙ m.count ∙ sym (length-set b v (Variable to));
        same = λ r rl e. same_joined r (rw length-set at rl) e;
        least = λ r u rl e f. least_joined r u (rw length-set at rl) e f;
        weight = λ r rl e. weight_joined r (rw length-set at rl) e;
      }

-- mentions of roots more
pub measured_mentions : (b : List Bound) (heads as' owners next : List ℕ) (cs : List Class) → AreRinged b heads owners next → AreMeasured b heads next cs → AreRoots b as'
    → AreMeasured b heads (mention_next heads as' next) (weighed as' cs)
unfolding weighed
measured_mentions b heads [] owners next cs g m h = m
measured_mentions b heads (a ∷ as') owners next cs g m h =
    measured_mentions b heads as' (owners ++ a ∷ []) (with_cell (get_or heads a 0) next) (heavier a cs) (ringed_mention b heads owners next g a h.0.0 h.0.1) (measured_mention b heads owners next g cs m a h.0.0 h.0.1) h.1

-- where no target changes, nothing of this does
pub same-measured : (b b' : List Bound) (heads next : List ℕ) (cs : List Class) → length b' ≡ length b → ((v : ℕ) → target_of b' v ≡ target_of b v) → ((v : ℕ) → root b' v ≡ root b v)
    → AreMeasured b heads next cs → AreMeasured b' heads next cs
same-measured b b' heads next cs n same roots m = record {
  count = m.count ∙ sym n;
  same = λ r l o. roots (class_at cs r).least ∙ m.same r (rw n at l) (sym (same r) ∙ o);
  least = λ r u l o e. m.least r u (rw n at l) (sym (same r) ∙ o) (sym (roots u) ∙ e);
  weight = λ r l o. m.weight r (rw n at l) (sym (same r) ∙ o);
}
