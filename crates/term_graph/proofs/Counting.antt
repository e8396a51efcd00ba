-- The variables of a class and the mentions of them, counted by its ring.
use Rattle.std.proofs.Common.{◌≡◌, ℕ, zero, suc, ◌+◌, ◌<◌, List, [], ◌∷◌, length, get_or, refl, sym, ◌∙◌, ap, subst, Some, None, arith}
use Rattle.std.specs.Prelude.{Option, Contains}
use Rattle.std.specs.List.{AllByRecursion}
use Rattle.std.proofs.lemmas.List.{length-map}
use Rattle.lists.specs.Distinct.{IsDistinct}
use Rattle.index_lists.proofs.Rounds.{absent_from, way_apart}
use Rattle.term_graph.specs.declared.bound.Bound.{Bound}
use Rattle.term_graph.specs.declared.parts.Mention.{Mention}
use Rattle.term_graph.specs.declared.class.Class.{Class}
use Rattle.term_graph.specs.Classes.{class_at}
use Rattle.term_graph.specs.Contents.{History, root, target_of, uses_at, AreMembers, IsLeast, IsWeight}
use Rattle.term_graph.specs.Fields.{Fields, seen, history, noted, used, uses_in, uses_seen, round_of, bindings_of, heads_of, owners_of, mentions_of}
use Rattle.term_graph.specs.Good.{AreRinged, AreMentioned, IsClass, IsGood, AreGood}
use Rattle.term_graph.specs.declared.change.Change.{Change}
use Rattle.term_graph.specs.declared.term.Term.{Term as Made}
use Rattle.term_graph.proofs.Adding.{uses_is}
use Rattle.term_graph.proofs.Forests.{root_of_root}
use Rattle.term_graph.proofs.Measuring.{weight_is}
use Rattle.term_graph.proofs.Reading.{each-at}
use Rattle.term_graph.proofs.Ringing.{contains_first, contains_later, rest_within, root_in}
use Rattle.term_graph.proofs.Trailing.{AreGood-now}
use Rattle.term_graph.proofs.Using.{way_cells, all_at}
use Rattle.term_graph.proofs.Weighing.{class_is}

-- the variable of a cell that mentions nothing
abbrev pub owned_by : Option Mention → ℕ → List ℕ → List ℕ
owned_by None v vs = v ∷ vs
owned_by (Some m) v vs = vs

abbrev pub bare : List (Option Mention) → List ℕ → List ℕ → List ℕ
bare ms owners [] = []
bare ms owners (c ∷ cs) = owned_by (get_or ms c None) (get_or owners c 0) (bare ms owners cs)

counted : (ms : List (Option Mention)) (owners cs : List ℕ) → length cs ≡ length (bare ms owners cs) + length (used ms cs)
counted ms owners [] = omega arith
counted ms owners (c ∷ cs) = by (get_or ms c None) (get_or owners c 0) (bare ms owners cs) (used ms cs) (counted ms owners cs)
  where
    by : (o : Option Mention) (v : ℕ) (vs ts : List ℕ) → length cs ≡ length vs + length ts → suc (length cs) ≡ length (owned_by o v vs) + length (noted o ts)
    by None v vs ts e = omega arith
    by (Some m) v vs ts e = omega arith

module _ (ms : List (Option Mention)) (owners : List ℕ) where
  -- the variable has a cell among these that mentions nothing
  abbrev HasCell : List ℕ → ℕ → Type 0
  HasCell cs u = (c : ℕ) × Contains cs c × (get_or ms c None ≡ None) × (get_or owners c 0 ≡ u)

  later : (c u : ℕ) (cs : List ℕ) → HasCell cs u → HasCell (c ∷ cs) u
  later c u cs w = (w.0, contains_later c w.0 cs w.1, w.2, w.3)

  bare_from : (cs : List ℕ) (u : ℕ) → Contains (bare ms owners cs) u → HasCell cs u
  bare_from [] u h = absurd (let l = h.1 in omega arith)
  bare_from (c ∷ cs) u h = by (get_or ms c None) refl h (bare_from cs u)
    where
      by : (o : Option Mention) → get_or ms c None ≡ o → Contains (owned_by o (get_or owners c 0) (bare ms owners cs)) u → (Contains (bare ms owners cs) u → HasCell cs u) → HasCell (c ∷ cs) u
      by None e (zero, l, f) rest = (c, contains_first c cs, e, f)
      by None e (suc i, l, f) rest = later c u cs (rest (i, (omega arith), f))
      by (Some m) e k rest = later c u cs (rest k)

  bare_has : (cs : List ℕ) (c : ℕ) → Contains cs c → get_or ms c None ≡ None → Contains (bare ms owners cs) (get_or owners c 0)
  bare_has [] c h e = absurd (let l = h.1 in omega arith)
  bare_has (d ∷ cs) c (zero, l, f) e =
      let e' : get_or ms d None ≡ None = ap (λ z. get_or ms z None) f ∙ e in
      rw e' (subst (λ z. Contains (get_or owners d 0 ∷ bare ms owners cs) (get_or owners z 0)) f (contains_first (get_or owners d 0) (bare ms owners cs)))
  bare_has (d ∷ cs) c (suc i, l, f) e = by (get_or ms d None) (bare_has cs c (i, (omega arith), f) e)
    where
      by : (o : Option Mention) → Contains (bare ms owners cs) (get_or owners c 0) → Contains (owned_by o (get_or owners d 0) (bare ms owners cs)) (get_or owners c 0)
      by None k = contains_later (get_or owners d 0) (get_or owners c 0) (bare ms owners cs) k
      by (Some m) k = k

module _ (b : List Bound) (heads owners next : List ℕ) (ms : List (Option Mention)) (terms : List Made) (g : AreRinged b heads owners next) (men : AreMentioned heads owners terms ms)
    (r : ℕ) (rl : r < length b) (ro : target_of b r ≡ None) where
  abbrev K : IsClass b heads owners next r
  K = g.classes r rl ro

  abbrev pub ring : List ℕ
  ring = get_or heads r 0 ∷ K.rest

  ring_within : AllByRecursion (λ c. c < length next) ring
  ring_within = ((g.head r rl).0, rest_within b heads owners next g r rl K)

  ring_owned : AllByRecursion (λ c. root b (get_or owners c 0) ≡ r) ring
  ring_owned = (ap (root b) (g.head r rl).1 ∙ root_of_root b r ro, K.owned)

  ring_distinct : IsDistinct ring
  ring_distinct = (absent_from (get_or heads r 0) K.rest (way_apart next (get_or heads r 0) K.round.way), way_cells next (get_or heads r 0) K.round.way)

  -- no variable has two cells that mention nothing
  bare_distinct : (cs : List ℕ) → AllByRecursion (λ c. c < length next) cs → IsDistinct cs → IsDistinct (bare ms owners cs)
  bare_distinct [] l d = tt
  bare_distinct (c ∷ cs) l d = by (get_or ms c None) refl (bare_distinct cs l.1 d.1)
    where
      by : (o : Option Mention) → get_or ms c None ≡ o → IsDistinct (bare ms owners cs) → IsDistinct (owned_by o (get_or owners c 0) (bare ms owners cs))
      by None e rest = (
        λ h. (let w = bare_from ms owners cs (get_or owners c 0) h in
            let p : get_or heads (get_or owners c 0) 0 ≡ c = men.bare c (rw g.cells l.0) e in
            let q : get_or heads (get_or owners w.0 0) 0 ≡ w.0 = men.bare w.0 (rw g.cells (all_at (λ x. x < length next) cs w.0 l.1 w.1)) w.2 in
            d.0 (subst (λ z. Contains cs z) (sym q ∙ ap (λ z. get_or heads z 0) w.3 ∙ p) w.1)),
        rest,
      )
      by (Some m) e rest = rest

  pub members_are : AreMembers b r (bare ms owners ring)
  members_are = record {
    distinct = bare_distinct ring ring_within ring_distinct;
    each = λ u. (
      (λ h. (let w = bare_from ms owners ring u h in (
        subst (λ z. z < length b) w.3 (g.owner w.0 (all_at (λ x. x < length next) ring w.0 ring_within w.1)),
        ap (root b) (sym w.3) ∙ all_at (λ c. root b (get_or owners c 0) ≡ r) ring w.0 ring_owned w.1,
      ))),
      λ p. (let k = g.head u p.0 in
          subst (λ z. Contains (bare ms owners ring) z) k.1 (bare_has ms owners ring (get_or heads u 0) (K.whole (get_or heads u 0) k.0 (ap (root b) k.1 ∙ p.1)) (men.own u (rw g.variables p.0)))),
    );
  }

  pub ring_counted : suc (length K.rest) ≡ length (bare ms owners ring) + length (used ms K.rest)
  ring_counted =
      let e : used ms ring ≡ used ms K.rest = (let o : get_or ms (get_or heads r 0) None ≡ None = men.own r (rw g.variables rl) in ap (λ z. noted z (used ms K.rest)) o) in
      counted ms owners ring ∙ ap (λ z. length (bare ms owners ring) + length z) e

-- the uses in the contents are those of the ring
pub seen_uses : (f : Fields) (u : ℕ) → u < length f.slots → uses_at (seen f) u ≡ uses_in (bindings_of f.slots) (heads_of f.slots) (mentions_of f.cells) f.next u
unfolding uses_seen
seen_uses f u l = each-at (length f.slots) (uses_in (bindings_of f.slots) (heads_of f.slots) (mentions_of f.cells) f.next) u [] l

module _ (f : Fields) (g : IsGood f) (v : ℕ) (l : v < length f.slots) where
  abbrev b : List Bound
  b = bindings_of f.slots

  vb : v < length b
  vb = rw (length-map f.slots (λ s. s.binding)) l

  r_in : root b v < length b
  r_in = root_in b (heads_of f.slots) (owners_of f.cells) f.next g.ringed v vb

  pub weight_counted : IsWeight (seen f) v (class_at f.classes (root b v)).weight
  weight_counted =
      let k = g.ringed.classes (root b v) r_in (g.ringed.forest.ends v) in
      let u : uses_at (seen f) v ≡ used (mentions_of f.cells) k.rest =
      seen_uses f v l ∙ uses_is b (heads_of f.slots) (owners_of f.cells) f.next (mentions_of f.cells) g.ringed v vb k.rest k.round in
      record {
        members = bare (mentions_of f.cells) (owners_of f.cells) (get_or (heads_of f.slots) (root b v) 0 ∷ k.rest);
        are = members_are b (heads_of f.slots) (owners_of f.cells) f.next (mentions_of f.cells) f.terms g.ringed g.mentioned (root b v) r_in (g.ringed.forest.ends v);
        counted = weight_is b (heads_of f.slots) (owners_of f.cells) f.next g.ringed f.classes g.measured (root b v) r_in (g.ringed.forest.ends v)
            ∙ ring_counted b (heads_of f.slots) (owners_of f.cells) f.next (mentions_of f.cells) f.terms g.ringed g.mentioned (root b v) r_in (g.ringed.forest.ends v)
            ∙ ap (λ z. length (bare (mentions_of f.cells) (owners_of f.cells) (get_or (heads_of f.slots) (root b v) 0 ∷ k.rest)) + length z) (sym u);
      }

-- what is kept of the root of a variable
module _ (cs : List Change) (f : Fields) (h : History) (v r : ℕ) (a : AreGood cs f) (e : history cs f ≡ h) (vl : v < length h.contents.bindings) (rl : r < length h.contents.bindings)
    (re : r ≡ root h.contents.bindings v) where
  v_slot : v < length f.slots
  v_slot = rw (← e, length-map f.slots (λ s. s.binding)) at vl

  pub kept_in : r < length f.classes
  kept_in = rw (AreGood-now cs f a).measured.count (rw (← e) at rl)

  pub kept_is : (x : Class) → x ≡ get_or f.classes r x → x ≡ class_at f.classes (root (bindings_of f.slots) v)
  kept_is x xe = class_is f.classes r x kept_in xe ∙ ap (class_at f.classes) (re ∙ sym (ap (λ (z : History). root z.contents.bindings v) e))

  pub weight_read : (x : Class) → x ≡ get_or f.classes r x → IsWeight h.contents v x.weight
  weight_read x xe =
      subst (λ (z : History). IsWeight z.contents v x.weight) e
      (subst (IsWeight (seen f) v) (sym (ap (λ z. z.weight) (kept_is x xe))) (weight_counted f (AreGood-now cs f a) v v_slot))

  pub least_read : (x : Class) → x ≡ get_or f.classes r x → IsLeast h.contents v x.least
  least_read x xe =
      let g = AreGood-now cs f a in
      let b = bindings_of f.slots in
      let p : r ≡ root (bindings_of f.slots) v = re ∙ sym (ap (λ (z : History). root z.contents.bindings v) e) in
      let k : x.least ≡ (class_at f.classes (root (bindings_of f.slots) v)).least = ap (λ z. z.least) (kept_is x xe) in
      let l = r_in f g v v_slot in
      let o = g.ringed.forest.ends v in
      subst (λ (z : History). IsLeast z.contents v x.least) e (record {
        same = ap (root (bindings_of f.slots)) k ∙ g.measured.same (root (bindings_of f.slots) v) l o;
        least = λ u i. (let m = g.measured.least (root (bindings_of f.slots) v) u l o i in omega arith);
      })

  pub least_in : (x : Class) → x ≡ get_or f.classes r x → x.least < length h.contents.bindings
  least_in x xe = let k = (least_read x xe).least v refl in omega arith

  pub uses_read : (list : List ℕ) → list ≡ used (mentions_of f.cells) (round_of f.next (get_or (heads_of f.slots) r 0)) → list ≡ uses_at h.contents v
  uses_read list le =
      let p : r ≡ root (bindings_of f.slots) v = re ∙ sym (ap (λ (z : History). root z.contents.bindings v) e) in
      le ∙ ap (λ z. used (mentions_of f.cells) (round_of f.next (get_or (heads_of f.slots) z 0))) p ∙ sym (seen_uses f v v_slot) ∙ ap (λ (z : History). uses_at z.contents v) e
