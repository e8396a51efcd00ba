-- A variable more.
use Rattle.std.proofs.Common.{◌≡◌, ℕ, suc, ◌-◌, ◌<◌, List, [], ◌∷◌, ◌++◌, length, take, get_or, refl, sym, ◌∙◌, ap, arith, subst, inl, inr}
use Rattle.std.specs.Prelude.{reverse, Option, None, Result, Ok, Err, OnOk, OnErr}
use Rattle.std.specs.List.{AllByRecursion}
use Rattle.std.proofs.lemmas.Bool.{cases_eq, cases_lt}
use Rattle.std.proofs.lemmas.List.{take_at, length_push, map-append, get_or_append_left, get_or_push, get_or_past, length-map}
use Rattle.index_lists.specs.Rings.{IsRound}
use Rattle.index_lists.proofs.Rounds.{added_away}
use Rattle.term_graph.specs.declared.bound.Bound.{Bound}
use Rattle.term_graph.specs.declared.bound.Bound.TheVariants.{Free, Term}
use Rattle.term_graph.specs.declared.parts.Mention.{Mention}
use Rattle.term_graph.specs.declared.change.Change.{Change}
use Rattle.term_graph.specs.declared.change.Change.TheVariants.{Added}
use Rattle.term_graph.specs.Classes.{alone}
use Rattle.term_graph.specs.Contents.{History, empty, grown, with_variable, each, root, binding_of, term_at}
use Rattle.term_graph.specs.Contents.Step.{Grew}
use Rattle.term_graph.specs.Fields.{Fields, added, free, own, seen, undone, history, bindings_of, heads_of, owners_of, mentions_of, uses_seen, uses_in, used}
use Rattle.term_graph.specs.Good.{Fits, IsGood, AreGood, AreRinged}
use Rattle.term_graph.proofs.Keying.{all_each}
use Rattle.term_graph.proofs.Measuring.{measured_added}
use Rattle.term_graph.proofs.Mentioning.{mentioned_added}
use Rattle.term_graph.proofs.Reading.{round_is, used_more, each-same, push-same}
use Rattle.term_graph.proofs.Ringing.{ringed_added, class_of, rest_within, rest_added, rest_new, root_in}
use Rattle.term_graph.proofs.Sharing.{shared_added}
use Rattle.term_graph.proofs.Trailing.{AreGood-now, AreGood-pushed, history-pushed}

pub undone-pushed : {X : Type 0} (xs : List X) (x : X) → take (length (xs ++ x ∷ []) - 1) (xs ++ x ∷ []) ≡ xs
undone-pushed xs x = take_at xs (x ∷ []) (length (xs ++ x ∷ []) - 1) (omega (arith, length_push xs x))

pub binding_more : (b : List Bound) (v : ℕ) → binding_of (b ++ Free ∷ []) v ≡ binding_of b v
binding_more b v = elim (cases_lt v (length b)) [
  | inl l ↦ get_or_append_left b (Free ∷ []) Free v l
  | inr m ↦ (let p : get_or b v Free ≡ Free = get_or_past b v Free (omega arith) in elim (cases_eq v (length b)) [
    | inl i ↦ get_or_push b Free Free v (sym i) ∙ sym p
    | inr n ↦ get_or_past (b ++ Free ∷ []) v Free (omega (arith, length_push b Free)) ∙ sym p
  ])
]

-- what the uses of a variable are, by the ring of its root
pub uses_is : (b : List Bound) (heads owners next : List ℕ) (ms : List (Option Mention)) → AreRinged b heads owners next → (u : ℕ) → u < length b
    → (rest : List ℕ) → IsRound next (get_or heads (root b u) 0) rest → uses_in b heads ms next u ≡ used ms rest
uses_is b heads owners next ms g u l rest r = ap (used ms) (round_is next (get_or heads (root b u) 0) rest g.inside (g.head (root b u) (root_in b heads owners next g u l)).0 r)

-- each argument is a variable
pub args_in : (f : Fields) → IsGood f → (t i : ℕ) → t < length f.terms → i < length (term_at f.terms t).args
    → get_or (term_at f.terms t).args i 0 < length (bindings_of f.slots)
args_in f g t i l k =
    let w = g.mentioned.all t i l k in
    let wl = w.1 in
    let r = g.mentioned.right w.0 (record { term = t; place = i }) w.2 in
    subst (λ z. z < length (bindings_of f.slots)) (sym r.2) (g.ringed.owner w.0 (rw g.ringed.cells at wl))

module _ (f : Fields) (g : IsGood f) where
  abbrev b : List Bound
  b = bindings_of f.slots

  abbrev heads : List ℕ
  heads = heads_of f.slots

  abbrev owners : List ℕ
  owners = owners_of f.cells

  abbrev ms : List (Option Mention)
  ms = mentions_of f.cells

  h-is : length f.cells ≡ length f.next
  h-is = sym (length-map f.cells (λ c. c.variable)) ∙ g.ringed.cells

  o-is : length f.slots ≡ length b
  o-is = sym (length-map f.slots (λ s. s.binding))

  m-is : length f.cells ≡ length ms
  m-is = sym (length-map f.cells (λ c. c.mention))

  b-more : bindings_of (added f).slots ≡ b ++ Free ∷ []
  b-more = map-append (λ s. s.binding) f.slots (free (length f.cells) ∷ [])

  heads-more : heads_of (added f).slots ≡ heads ++ length f.cells ∷ []
  heads-more = map-append (λ s. s.cell) f.slots (free (length f.cells) ∷ [])

  owners-more : owners_of (added f).cells ≡ owners ++ length f.slots ∷ []
  owners-more = map-append (λ c. c.variable) f.cells (own (length f.slots) ∷ [])

  ms-more : mentions_of (added f).cells ≡ ms ++ None ∷ []
  ms-more = map-append (λ c. c.mention) f.cells (own (length f.slots) ∷ [])

  pub undone-added : undone Added (added f) ≡ f
  undone-added =
      let a = undone-pushed f.slots (free (length f.cells)) in
      let k = undone-pushed f.classes (alone (length f.slots)) in
      let c = undone-pushed f.cells (own (length f.slots)) in
      let n = added_away f.next g.ringed.inside in
      rw (a, k, c, n) refl

  ringed-more : AreRinged (b ++ Free ∷ []) (heads ++ length f.cells ∷ []) (owners ++ length f.slots ∷ []) (f.next ++ length f.next ∷ [])
  ringed-more = ringed_added b heads owners f.next g.ringed (length f.cells) (length f.slots) h-is o-is

  heads_in : (v : ℕ) → v < length heads → get_or heads v 0 < length ms
  heads_in v l = (let k = (g.ringed.head v (rw g.ringed.variables at l)).0 in let e = g.mentioned.cells in let c = g.ringed.cells in omega arith)

  owners_in : (c : ℕ) → c < length owners → get_or owners c 0 < length heads
  owners_in c l = rw g.ringed.variables (g.ringed.owner c (rw g.ringed.cells at l))

  bound-more : (v t : ℕ) → binding_of (b ++ Free ∷ []) v ≡ Term t → t < length f.terms
  bound-more v t e = g.bound v t (sym (binding_more b v) ∙ e)

  pub good-added : IsGood (added f)
  good-added = record {
    ringed = rw (b-more, heads-more, owners-more) ringed-more;
    measured = rw (b-more, heads-more) (measured_added b heads owners f.next g.ringed f.classes g.measured (length f.cells) (length f.slots) h-is o-is);
    mentioned = rw (heads-more, owners-more, ms-more) (mentioned_added heads owners f.terms ms g.mentioned (length f.cells) (length f.slots) m-is (o-is ∙ sym g.ringed.variables) heads_in owners_in);
    shared = rw b-more (shared_added b f.terms f.entries g.ringed.forest (args_in f g) g.shared);
    bound = rw b-more bound-more;
    few = g.few;
  }

  uses-kept : (u : ℕ) → u < length f.slots
      → uses_in (b ++ Free ∷ []) (heads ++ length f.cells ∷ []) (ms ++ None ∷ []) (f.next ++ length f.next ∷ []) u ≡ uses_in b heads ms f.next u
  uses-kept u l =
      let ul : u < length b = rw (← o-is) l in
      let k = class_of b heads owners f.next g.ringed u ul in
      let within : AllByRecursion (λ x. x < length ms) k.rest = all_each (λ x. x < length f.next) (λ x. x < length ms) (λ x p. rw (← m-is, h-is) p) k.rest (rest_within b heads owners f.next g.ringed (root b u) (root_in b heads owners f.next g.ringed u ul) k) in
      uses_is (b ++ Free ∷ []) (heads ++ length f.cells ∷ []) (owners ++ length f.slots ∷ []) (f.next ++ length f.next ∷ []) (ms ++ None ∷ []) ringed-more u (omega (arith, length_push b Free)) k.rest (rest_added b heads owners f.next g.ringed (length f.cells) (length f.slots) h-is o-is u ul)
      ∙ used_more ms (None ∷ []) k.rest within
      ∙ sym (uses_is b heads owners f.next ms g.ringed u ul k.rest k.round)

  uses-last : uses_in (b ++ Free ∷ []) (heads ++ length f.cells ∷ []) (ms ++ None ∷ []) (f.next ++ length f.next ∷ []) (length f.slots) ≡ []
  uses-last =
      ap (uses_in (b ++ Free ∷ []) (heads ++ length f.cells ∷ []) (ms ++ None ∷ []) (f.next ++ length f.next ∷ [])) o-is
      ∙ uses_is (b ++ Free ∷ []) (heads ++ length f.cells ∷ []) (owners ++ length f.slots ∷ []) (f.next ++ length f.next ∷ []) (ms ++ None ∷ []) ringed-more (length b) (omega (arith, length_push b Free)) []
      (rest_new b heads owners f.next g.ringed (length f.cells) (length f.slots) h-is o-is)

  uses-added : uses_seen (added f).slots (added f).cells (added f).next ≡ uses_seen f.slots f.cells f.next ++ [] ∷ []
  unfolding uses_seen
  uses-added =
      let n' : length (added f).slots ≡ suc (length f.slots) = omega (arith, length_push f.slots (free (length f.cells))) in
      rw (n', b-more, heads-more, ms-more)
      (push-same (each (length f.slots) (uses_in (b ++ Free ∷ []) (heads ++ length f.cells ∷ []) (ms ++ None ∷ []) (f.next ++ length f.next ∷ []))) (each (length f.slots) (uses_in b heads ms f.next))
      (uses_in (b ++ Free ∷ []) (heads ++ length f.cells ∷ []) (ms ++ None ∷ []) (f.next ++ length f.next ∷ []) (length f.slots)) []
      (each-same (length f.slots) (uses_in (b ++ Free ∷ []) (heads ++ length f.cells ∷ []) (ms ++ None ∷ []) (f.next ++ length f.next ∷ [])) (uses_in b heads ms f.next) uses-kept) uses-last)

  pub seen-added : seen (added f) ≡ with_variable (seen f)
  seen-added =
      let m = map-append (λ s. s.finite) f.slots (free (length f.cells) ∷ []) in
      let e = b-more in
      let u = uses-added in
      cc

  pub fits-added : Fits Added (added f)
  fits-added = (omega (arith, length_push f.slots (free (length f.cells))), omega (arith, length_push f.classes (alone (length f.slots))), omega (arith, length_push f.cells (own (length f.slots))), omega (arith, length_push f.next (length f.next)))

module _ (cs ds : List Change) (f f' : Fields) (p : ds ≡ cs ++ Added ∷ []) (q : f' ≡ added f) where
  pub added-good : AreGood (reverse cs) f → AreGood (reverse ds) f'
  added-good h =
      let g = AreGood-now (reverse cs) f h in
      rw q (AreGood-pushed cs ds Added f (added f) p (undone-added f g) (good-added f g) (fits-added f g) (seen-added f g) h)

  pub added-is : AreGood (reverse cs) f → history (reverse ds) f' ≡ grown Grew (with_variable (seen f)) (history (reverse cs) f)
  added-is h =
      let g = AreGood-now (reverse cs) f h in
      rw q (history-pushed cs ds Added f (added f) p (undone-added f g) ∙ ap (λ c. grown Grew c (history (reverse cs) f)) (seen-added f g))

pub within_slots : (cs : List Change) (f : Fields) (v : ℕ) (h : History) → history cs f ≡ h → v < length h.contents.bindings → v < length f.slots
within_slots cs f v h e l = rw (← e, length-map) at l

pub new-is : (cs : List Change) (f : Fields) → cs ≡ [] → f.slots ≡ [] → f.terms ≡ [] → history (reverse cs) f ≡ empty
unfolding uses_seen
new-is cs f p q r = rw (p, q, r) refl

pub added-good_by : {A E : Type 0} (r : Result A E) (cs ds : List Change) (f f' : Fields) → OnOk r (f' ≡ added f) → OnOk r (ds ≡ cs ++ Added ∷ [])
    → OnErr r (f' ≡ f) → OnErr r (ds ≡ cs) → AreGood (reverse cs) f → AreGood (reverse ds) f'
added-good_by (Ok _) cs ds f f' q p q' p' h = added-good cs ds f f' p q h
added-good_by (Err _) cs ds f f' q p q' p' h = rw (p', q') h

pub added-is_by : {A E : Type 0} (r : Result A E) (cs ds : List Change) (f f' : Fields) (before : History) → AreGood (reverse cs) f
    → history (reverse cs) f ≡ before → OnOk r (f' ≡ added f) → OnOk r (ds ≡ cs ++ Added ∷ [])
    → OnOk r (history (reverse ds) f' ≡ grown Grew (with_variable before.contents) before)
added-is_by (Ok _) cs ds f f' before h e q p = rw (← e) (added-is cs ds f f' p q h)
added-is_by (Err _) cs ds f f' before h e q p = tt

pub kept-is_by : {A E : Type 0} (r : Result A E) (cs ds : List Change) (f f' : Fields) (before : History) → history (reverse cs) f ≡ before → OnErr r (f' ≡ f)
    → OnErr r (ds ≡ cs) → OnErr r (history (reverse ds) f' ≡ before)
kept-is_by (Ok _) cs ds f f' before e q p = tt
kept-is_by (Err _) cs ds f f' before e q p = rw (q, p) e
