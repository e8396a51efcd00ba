-- Settled atoms can be solved; clashes and walks that come round.
use Rattle.std.proofs.Common.{ℕ, ◌≡◌, ◌<◌, List, [], map, length, refl, sym, ap, ◌∙◌, subst, arith, inl, inr, ◌⊎◌}
use Rattle.std.specs.Prelude.{slice_index, Contains}
use Rattle.std.proofs.lemmas.List.{length-map}
use Rattle.tree_facts.proofs.Members.{contains_cases}
use Rattle.tree_model.specs.declared.tree.Symbol.{Symbol}
use Rattle.flat_form.specs.declared.atom.Flat.{Flat}
use Rattle.flat_form.specs.declared.atom.Flat.TheVariants.{VarVar, VarTerm}
use Rattle.flat_form.specs.Classes.{Class, itself, turned, joined, Reached, child, Walk, step, more, Unsolvable, clash, loop}
use Rattle.flat_facts.specs.Spread.{IsTarget, Leads, stays, goes, ComesRound, IsLeaf}
use Rattle.flat_facts.proofs.Heads.{reached_class}
use Rattle.term_graph.specs.Contents.{Contents}
use Rattle.settled_facts.specs.Settled.{name, IsShaped, HasTermIn, Firm, leaf, node, Follows, IsSettled}
use Rattle.settled_facts.specs.Forms.{AreEquations, SettledIsSolvable, ClashIsUnsolvable, LoopIsUnsolvable}
use Rattle.settled_facts.specs.Ends.{LeavesAreReached}
use Rattle.settled_facts.proofs.Terms.{one_term, named_at, free_no_term, name_term, named_class}
use Rattle.settled_facts.proofs.Forms.{classes}

-- the first step of a walk, and what is behind it
record Begins (atoms : List Flat) (u w : ℕ) : Type 0 where
  variable : ℕ
  symbol : Symbol
  xs : List ℕ
  place : ℕ
  one_class : Class atoms u variable
  stands : Contains atoms (VarTerm variable symbol xs)
  within : place < length xs
  rest : Class atoms (slice_index xs place) w ⊎ Walk atoms (slice_index xs place) w

begins : (atoms : List Flat) (u w : ℕ) → Walk atoms u w → Begins atoms u w
begins atoms u w (step {v = v} s xs c i k l d) = record { variable = v; symbol = s; xs = xs; place = k; one_class = c; stands = i; within = l; rest = inl d }
begins atoms u w (more {v = v} a b) = let f = begins atoms u v a in record {
  variable = f.variable;
  symbol = f.symbol;
  xs = f.xs;
  place = f.place;
  one_class = f.one_class;
  stands = f.stands;
  within = f.within;
  rest = elim f.rest [ inl d ↦ inr (walk_from atoms d b) | inr x ↦ inr (more x b) ];
}
  where
    walk_from : (atoms : List Flat) {x v w : ℕ} → Class atoms x v → Walk atoms v w → Walk atoms x w
    walk_from atoms d (step s xs c i k l e) = step s xs (joined d c) i k l e
    walk_from atoms d (more a b) = more (walk_from atoms d a) b

-- a walk that comes round comes round at its next variable
turns : (atoms : List Flat) (v : ℕ) (b : Begins atoms v v) → Walk atoms (slice_index b.xs b.place) (slice_index b.xs b.place)
turns atoms v b = elim b.rest [
  | inl d ↦ step b.symbol b.xs (joined d b.one_class) b.stands b.place b.within (itself (slice_index b.xs b.place))
  | inr x ↦ more x (step b.symbol b.xs b.one_class b.stands b.place b.within (itself (slice_index b.xs b.place)))
]

module _ (c : Contents) (owners : List ℕ) (atoms : List Flat) (shaped : IsShaped c) (settled : IsSettled c owners atoms) where
  held_here : (v u : ℕ) (s : Symbol) (xs : List ℕ) → Class atoms v u → Contains atoms (VarTerm u s xs) → HasTermIn c (name c v) s (map (name c) xs)
  held_here v u s xs k i = subst (λ (z : ℕ). HasTermIn c z s (map (name c) xs)) (sym ((classes c owners atoms shaped settled v u).0 k)) (settled.held u s xs i)

  firm_no_round : (r : ℕ) → Firm c r → (v : ℕ) → name c v ≡ r → ¬ Walk atoms v v
  firm_no_round r (leaf f m) v e = λ w.
      let b = begins atoms v v w in
      free_no_term c r b.symbol (map (name c) b.xs) f (subst (λ (z : ℕ). HasTermIn c z b.symbol (map (name c) b.xs)) e (held_here v b.variable b.symbol b.xs b.one_class b.stands))
  firm_no_round r (node s ys h each) v e = λ w.
      let b = begins atoms v v w in
      let k : HasTermIn c r b.symbol (map (name c) b.xs) =
      subst (λ (z : ℕ). HasTermIn c z b.symbol (map (name c) b.xs)) e (held_here v b.variable b.symbol b.xs b.one_class b.stands) in
      let same : map (name c) b.xs ≡ ys = (one_term c r b.symbol s (map (name c) b.xs) ys k h).1 in
      let len : length b.xs ≡ length ys = sym (length-map b.xs (name c)) ∙ ap length same in
      firm_no_round (slice_index ys b.place) (each b.place (omega (arith, len, b.within))) (slice_index b.xs b.place)
      (sym (named_at c b.xs b.place b.within) ∙ ap (λ (z : List ℕ). slice_index z b.place) same) (turns atoms v b)

  solvable_here : ¬ Unsolvable atoms
  solvable_here (clash k) =
      let a : HasTermIn c (name c k.right) k.left_symbol (map (name c) k.xs) = held_here k.right k.left k.left_symbol k.xs (turned k.one_class) k.left_stands in
      let b : HasTermIn c (name c k.right) k.right_symbol (map (name c) k.ys) = settled.held k.right k.right_symbol k.ys k.right_stands in
      let same = one_term c (name c k.right) k.left_symbol k.right_symbol (map (name c) k.xs) (map (name c) k.ys) a b in
      k.differ (same.0, sym (length-map k.xs (name c)) ∙ ap length same.1 ∙ length-map k.ys (name c))
  solvable_here (loop {v} r w) = firm_no_round (name c v) (settled.firm v r) v refl w

pub settled_solvable : SettledIsSolvable
settled_solvable c owners atoms shaped settled = solvable_here c owners atoms shaped settled

pub clash_unsolvable : ClashIsUnsolvable
clash_unsolvable c atoms q r one other xs ys follows k h j differ =
    let (u, us, a, e, f) = follows.given q one xs h in
    let (v, vs, b, g, i) = follows.given r other ys j in
    let len_u : length us ≡ length xs = sym (length-map us (name c)) ∙ ap length f in
    let len_v : length vs ≡ length ys = sym (length-map vs (name c)) ∙ ap length i in
    clash (record {
      left = u;
      right = v;
      left_symbol = one;
      right_symbol = other;
      xs = us;
      ys = vs;
      one_class = joined (named_class c atoms follows u q (e ∙ sym (name_term c q one xs h)))
          (joined k (named_class c atoms follows r v (name_term c r other ys j ∙ sym g)));
      left_stands = a;
      right_stands = b;
      differ = λ same. differ (same.0, sym len_u ∙ same.1 ∙ len_v);
    })

module _ (c : Contents) (atoms basic : List Flat) (shaped : IsShaped c) (follows : Follows c atoms) (equations : AreEquations c basic) where
  -- a step along the equations
  step_reached : (u : ℕ) (s : Symbol) (xs : List ℕ) (i : ℕ) → Contains basic (VarTerm u s xs) → i < length xs
      → (Reached atoms u → Reached atoms (slice_index xs i)) × Walk atoms u (slice_index xs i)
  step_reached u s xs i stands w =
      let h : HasTermIn c u s xs = equations.each (VarTerm u s xs) stands in
      let (v, vs, a, e, f) = follows.given u s xs h in
      let len : length vs ≡ length xs = sym (length-map vs (name c)) ∙ ap length f in
      let l : i < length vs = omega (arith, len, w) in
      let one : Class atoms u v = named_class c atoms follows u v (name_term c u s xs h ∙ sym e) in
      let key : name c (slice_index vs i) ≡ slice_index xs i = sym (named_at c vs i l) ∙ ap (λ (z : List ℕ). slice_index z i) f in
      let behind : Class atoms (slice_index vs i) (slice_index xs i) = subst (λ (z : ℕ). Class atoms (slice_index vs i) z) key (follows.sound (slice_index vs i)) in
      (λ r. child s vs (reached_class [] atoms u v r one) a i l behind, step s vs one a i l behind)

  walk_reached : {u w : ℕ} {path before : List ℕ} → Leads basic u path before w → Reached atoms u → Reached atoms w
  walk_reached (stays u) r = r
  walk_reached (goes u w s xs i path before stands l d) r = walk_reached d ((step_reached u s xs i stands l).0 r)

  walk_on : {x u w : ℕ} {path before : List ℕ} → Leads basic u path before w → Walk atoms x u → Walk atoms x w
  walk_on (stays u) k = k
  walk_on (goes u w s xs i path before stands l d) k = walk_on d (more k (step_reached u s xs i stands l).1)

  -- a walk to what it met before comes round there
  walk_round : {u w : ℕ} {path before : List ℕ} → Leads basic u path before w → Contains before w → Walk atoms w w
  walk_round (stays u) inside = absurd (omega (arith, inside.1))
  walk_round (goes u w s xs i path before stands l d) inside = elim (contains_cases u w before inside) [
    | inl e ↦ subst (λ (z : ℕ). Walk atoms z w) e (walk_on d (step_reached u s xs i stands l).1)
    | inr k ↦ walk_round d k
  ]

  start_class : (v start : ℕ) → IsTarget basic v start → Class atoms v start
  start_class v start (inl i) = let e = equations.each (VarVar v start) i in subst (λ (z : ℕ). Class atoms v z) e.0 (follows.sound v)
  start_class v start (inr e) = subst (λ (z : ℕ). Class atoms v z) e.0 (itself v)

  leaf_reached : (v u : ℕ) → Reached atoms v → IsLeaf basic v u → Reached atoms u
  leaf_reached v u r k = walk_reached k.walk (reached_class [] atoms v k.start r (start_class v k.start k.target))

  round_unsolvable : (v : ℕ) (path : List ℕ) → Reached atoms v → ComesRound basic v path → Unsolvable atoms
  round_unsolvable v path r k = loop (walk_reached k.walk (reached_class [] atoms v k.start r (start_class v k.start k.target))) (walk_round k.walk k.again)

pub loop_unsolvable : LoopIsUnsolvable
loop_unsolvable c atoms basic v path shaped follows equations r k = round_unsolvable c atoms basic shaped follows equations v path r k

pub leaves_reached : LeavesAreReached
leaves_reached c atoms basic v u shaped follows equations r k = leaf_reached c atoms basic shaped follows equations v u r k
