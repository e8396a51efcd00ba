-- A root under another: the change taken back, and what is seen.
use Rattle.std.proofs.Common.{◌≡◌, ◌≢◌, ℕ, ◌<◌, true, false, List, [], ◌∷◌, ◌++◌, length, take, set, get_or, refl, sym, ◌∙◌, ap, subst, inl, inr, None, map, arith, length-set, get_or-set_same, get_or-set_other}
use Rattle.std.specs.Prelude.{Result, Ok, Err, OnOk, OnErr, reverse, cond, nat_eq, ◌||◌}
use Rattle.std.proofs.lemmas.Bool.{cases_eq, eq-eqb, ne_eqb}
use Rattle.std.proofs.lemmas.List.{set-set, set-get_or, map-set, get_or-map, length-map, take_all}
use Rattle.index_lists.specs.Rings.{exchanged}
use Rattle.index_lists.proofs.Exchanging.{exchanged-twice, length-exchanged}
use Rattle.term_graph.specs.declared.bound.Bound.{Bound}
use Rattle.term_graph.specs.declared.bound.Bound.TheVariants.{Free, Variable, Term}
use Rattle.term_graph.specs.declared.change.Change.{Change}
use Rattle.term_graph.specs.declared.change.Change.TheVariants.{Joined}
use Rattle.term_graph.specs.Contents.{History, grown, each, root, target_of, binding_of, Leads, IsLeast, uses_at, joined_uses, with_binding}
use Rattle.term_graph.specs.Contents.Step.{BoundAt}
use Rattle.term_graph.specs.Classes.{alone, class_at, together, merged}
use Rattle.term_graph.specs.Noting.{IsJoined, joining}
use Rattle.term_graph.specs.Fields.{history, Fields, free, slot_at, bound_to, rebound, seen, undone, put_back, bindings_of, heads_of, owners_of, mentions_of, uses_seen, uses_in}
use Rattle.term_graph.specs.Told.{Tells, past_of}
use Rattle.term_graph.specs.Good.{IsGood, AreGood, Fits}
use Rattle.term_graph.proofs.Forests.{leads_open, leads_root, root_of_root}
use Rattle.term_graph.proofs.Joining.{uses-joined, uses-others}
use Rattle.term_graph.proofs.Marking.{map-set_kept}
use Rattle.term_graph.proofs.Measuring.{measured_joined}
use Rattle.term_graph.proofs.Reading.{each-same, each-at}
use Rattle.term_graph.proofs.Restoring.{kept-back}
use Rattle.term_graph.proofs.Trailing.{AreGood-now, AreGood-pushed, history-pushed}
use Rattle.term_graph.proofs.Ringing.{ringed_joined}

module _ (f : Fields) (g : IsGood f) (v to w : ℕ) (l : v < length f.slots) (m : to < length f.slots) (wl : w < length f.slots)
    (o : target_of (bindings_of f.slots) v ≡ None) (apart : w ≢ v) (x : Leads (bindings_of f.slots) to w) (f' : Fields) (h : IsJoined v to w f f') where
  abbrev b : List Bound
  b = bindings_of f.slots

  abbrev heads : List ℕ
  heads = heads_of f.slots

  abbrev hv : ℕ
  hv = get_or (heads_of f.slots) v 0

  abbrev hw : ℕ
  hw = get_or (heads_of f.slots) w 0

  abbrev now : Fields
  now = record { slots = rebound v (Variable to) f.slots; classes = merged v w f.classes; terms = f.terms; cells = f.cells; next = exchanged hw hv f.next; entries = f'.entries; lowered = f'.lowered }

  b-is : length b ≡ length f.slots
  b-is = length-map f.slots (λ s. s.binding)

  vb : v < length b
  vb = rw b-is l

  tb : to < length b
  tb = rw b-is m

  wb : w < length b
  wb = rw b-is wl

  wo : target_of b w ≡ None
  wo = leads_open b x

  b-now : bindings_of now.slots ≡ set b v (Variable to)
  b-now = map-set (λ s. s.binding) f.slots v (bound_to (Variable to) (slot_at f.slots v))

  heads-now : heads_of now.slots ≡ heads
  heads-now = map-set_kept (λ s. s.cell) f.slots v (free 0) (bound_to (Variable to) (slot_at f.slots v)) l refl

  marks-now : map (λ s. s.finite) now.slots ≡ map (λ s. s.finite) f.slots
  marks-now = map-set_kept (λ s. s.finite) f.slots v (free 0) (bound_to (Variable to) (slot_at f.slots v)) l refl

  hvl : hv < length f.next
  hvl = (g.ringed.head v vb).0

  hwl : hw < length f.next
  hwl = (g.ringed.head w wb).0

  classes-back : set (merged v w f.classes) w (class_at f.classes w) ≡ f.classes
  unfolding merged
  classes-back = set-set f.classes w (together (class_at f.classes v) (class_at f.classes w)) (class_at f.classes w) ∙ set-get_or f.classes w (alone 0)

  w_in : w < length (merged v w f.classes)
  unfolding merged
  w_in = rw (length-set, g.measured.count) wb

  undone-joined : undone (Joined (joining v w f)) f' ≡ f
  undone-joined =
      let a : slot_at now.slots v ≡ bound_to (Variable to) (slot_at f.slots v) = get_or-set_same f.slots v (bound_to (Variable to) (slot_at f.slots v)) (free 0) l in
      let k : set now.slots v (slot_at f.slots v) ≡ f.slots = set-set f.slots v (bound_to (Variable to) (slot_at f.slots v)) (slot_at f.slots v) ∙ set-get_or f.slots v (free 0) in
      let e : exchanged hw hv (exchanged hw hv f.next) ≡ f.next = exchanged-twice hw hv f.next hwl hvl in
      let back : put_back (length f.entries) (length f.lowered) f'.entries f'.lowered ≡ f.entries = kept-back f.entries f'.entries f.lowered f'.lowered h.kept in
      let first : take (length f.lowered) f'.lowered ≡ f.lowered = h.kept.first (length f.lowered) (omega arith) ∙ take_all (length f.lowered) f.lowered (omega arith) in
      ap (undone (Joined (joining v w f))) h.same ∙ rw (a, k, classes-back, e, back, first) refl

  fits-joined : Fits (Joined (joining v w f)) f'
  fits-joined = subst (Fits (Joined (joining v w f))) (sym h.same) (rw length-set l, w_in, rw length-exchanged hwl, rw length-exchanged hvl, h.kept.count)

  bound-now : (u s : ℕ) → binding_of (set b v (Variable to)) u ≡ Term s → s < length f.terms
  bound-now u s e = elim (cases_eq u v) [
    | inl i ↦ (let p : Variable to ≡ Term s = sym (ap (binding_of (set b v (Variable to))) i ∙ get_or-set_same b v (Variable to) Free vb) ∙ e in absurd (cc))
    | inr n ↦ g.bound u s (sym (get_or-set_other b v u (Variable to) Free n) ∙ e)
  ]

  good-joined : IsGood now
  good-joined = record {
    ringed = rw (b-now, heads-now) (ringed_joined b heads (owners_of f.cells) f.next g.ringed v to w vb tb wb o wo apart x);
    measured = rw (b-now, heads-now) (measured_joined b heads (owners_of f.cells) f.next g.ringed f.classes g.measured v to w vb tb wb o wo apart x);
    mentioned = rw heads-now g.mentioned;
    shared = rw b-now h.shared;
    bound = rw b-now bound-now;
    few = g.few;
  }

  own : get_or (mentions_of f.cells) hv None ≡ None
  own = g.mentioned.own v (rw g.ringed.variables vb)

  at : (u : ℕ) → u < length f.slots → get_or (uses_seen f.slots f.cells f.next) u [] ≡ uses_in b heads (mentions_of f.cells) f.next u
  unfolding uses_seen
  at u ul = each-at (length f.slots) (uses_in b heads (mentions_of f.cells) f.next) u [] ul

  both-is : uses_in b heads (mentions_of f.cells) f.next v ++ uses_in b heads (mentions_of f.cells) f.next w ≡ uses_at (seen f) v ++ uses_at (seen f) w
  both-is = let p = at v l in let q = at w wl in rw (p, q) refl

  use-now : (u : ℕ) → u < length b → uses_in (set b v (Variable to)) heads (mentions_of f.cells) (exchanged hw hv f.next) u ≡ cond (nat_eq (root b u) v || nat_eq (root b u) w) (uses_at (seen f) v ++ uses_at (seen f) w) (uses_at (seen f) u)
  use-now u ul = elim (cases_eq (root b u) v) [
    | inl e ↦ (let t : nat_eq (root b u) v ≡ true = eq-eqb (root b u) v e in rw t (uses-joined b heads (owners_of f.cells) f.next (mentions_of f.cells) g.ringed v to w vb tb wb o wo apart x own u ul (inl e) ∙ both-is))
    | inr n ↦ (let t : nat_eq (root b u) v ≡ false = ne_eqb (root b u) v n in elim (cases_eq (root b u) w) [
      | inl e ↦ (let s : nat_eq (root b u) w ≡ true = eq-eqb (root b u) w e in rw (t, s) (uses-joined b heads (owners_of f.cells) f.next (mentions_of f.cells) g.ringed v to w vb tb wb o wo apart x own u ul (inr e) ∙ both-is))
      | inr k ↦ (let s : nat_eq (root b u) w ≡ false = ne_eqb (root b u) w k in rw (t, s) (uses-others b heads (owners_of f.cells) f.next (mentions_of f.cells) g.ringed v to w vb tb wb o wo apart x own u ul n k ∙ sym (at u (rw (← b-is) ul))))
    ])
  ]

  uses-now : uses_seen now.slots now.cells now.next ≡ joined_uses v w (seen f)
  unfolding uses_seen joined_uses
  uses-now =
      ap (λ n. each n (uses_in (bindings_of now.slots) (heads_of now.slots) (mentions_of f.cells) (exchanged hw hv f.next))) (length-set f.slots v (bound_to (Variable to) (slot_at f.slots v)) ∙ sym b-is)
      ∙ ap (λ z. each (length b) (uses_in z (heads_of now.slots) (mentions_of f.cells) (exchanged hw hv f.next))) b-now
      ∙ ap (λ z. each (length b) (uses_in (set b v (Variable to)) z (mentions_of f.cells) (exchanged hw hv f.next))) heads-now
      ∙ each-same (length b) (uses_in (set b v (Variable to)) heads (mentions_of f.cells) (exchanged hw hv f.next))
      (λ u. cond (nat_eq (root b u) v || nat_eq (root b u) w) (uses_at (seen f) v ++ uses_at (seen f) w) (uses_at (seen f) u)) use-now

  seen-joined : seen now ≡ with_binding v (Variable to) (seen f)
  seen-joined =
      let a = b-now in
      let k = marks-now in
      let r : w ≡ root b to = sym (leads_root b x) in
      let u : uses_seen now.slots now.cells now.next ≡ joined_uses v (root b to) (seen f) = uses-now ∙ ap (λ z. joined_uses v z (seen f)) r in
      cc

  -- the least variable that is kept of a root
  least_at : (r : ℕ) → r < length b → target_of b r ≡ None → IsLeast (seen f) r (class_at f.classes r).least
  least_at r rl ro =
      let e = root_of_root b r ro in
      record { same = g.measured.same r rl ro ∙ sym e; least = λ u i. g.measured.least r u rl ro (i ∙ e) }

  tells-joined : Tells (past_of (Joined (joining v w f))) (seen f) (seen f')
  tells-joined = record {
    to = to;
    within = vb;
    to_within = tb;
    top = o;
    leads = leads_root b x;
    apart = apart;
    was = sym (get_or-map (λ s. s.binding) f.slots v (free 0) Free l);
    least = least_at v vb o;
    root_least = least_at w wb wo;
    is = ap seen h.same ∙ seen-joined;
  }

  module _ (cs ds : List Change) (p : ds ≡ cs ++ Joined (joining v w f) ∷ []) where
    pub joined-good : AreGood (reverse cs) f → AreGood (reverse ds) f'
    joined-good a = AreGood-pushed cs ds (Joined (joining v w f)) f f' p undone-joined (subst IsGood (sym h.same) good-joined) fits-joined tells-joined a

    pub joined-is : history (reverse ds) f' ≡ grown (BoundAt v) (with_binding v (Variable to) (seen f)) (history (reverse cs) f)
    joined-is =
        history-pushed cs ds (Joined (joining v w f)) f f' p undone-joined
        ∙ ap (λ c. grown (BoundAt v) c (history (reverse cs) f)) (ap seen h.same ∙ seen-joined)

-- the call
module _ (cs ds : List Change) (f f' : Fields) (v to w : ℕ) (l : v < length f.slots) (m : to < length f.slots) (wl : w < length f.slots)
    (o : target_of (bindings_of f.slots) v ≡ None) (apart : w ≢ v) (x : Leads (bindings_of f.slots) to w) where
  pub joined-good_by : {A E : Type 0} (r : Result A E) → OnOk r (IsJoined v to w f f') → OnOk r (ds ≡ cs ++ Joined (joining v w f) ∷ []) → OnErr r (f' ≡ f) → OnErr r (ds ≡ cs)
      → AreGood (reverse cs) f → AreGood (reverse ds) f'
  joined-good_by (Ok _) h p q k a = joined-good f (AreGood-now (reverse cs) f a) v to w l m wl o apart x f' h cs ds p a
  joined-good_by (Err _) h p q k a = rw (k, q) a

  pub joined-is_by : {A E : Type 0} (r : Result A E) (before : History) → AreGood (reverse cs) f → history (reverse cs) f ≡ before → OnOk r (IsJoined v to w f f')
      → OnOk r (ds ≡ cs ++ Joined (joining v w f) ∷ []) → OnOk r (history (reverse ds) f' ≡ grown (BoundAt v) (with_binding v (Variable to) before.contents) before)
  joined-is_by (Ok _) before a e h p = rw (← e) (joined-is f (AreGood-now (reverse cs) f a) v to w l m wl o apart x f' h cs ds p)
  joined-is_by (Err _) before a e h p = tt
