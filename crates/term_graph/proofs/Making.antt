-- A term more: taken back, good still, and what is seen.
use Rattle.std.proofs.Common.{ℕ, ◌≡◌, ◌<◌, ◌≤◌, ◌+◌, ◌-◌, ◌^◌, true, false, List, [], ◌∷◌, ◌++◌, length, map, get_or, refl, sym, ap, ◌∙◌, subst, inl, inr, Some, None, arith, append_assoc, length-append}
use Rattle.std.specs.Prelude.{Option, nat_eq, reverse, Result, Ok, Err, IfOk, OnOk, OnErr, All}
use Rattle.std.specs.List.{AllByRecursion}
use Rattle.std.specs.Map.{lookup}
use Rattle.std.proofs.lemmas.Bool.{cases_eq, eq-eqb, ne_eqb}
use Rattle.std.proofs.lemmas.List.{get_or_default, length_push, length-map, map-append, get_or_push, get_or_append_left, append-nil}
use Rattle.std.proofs.lemmas.List.Elements.{recursion_from_All}
use Rattle.lists.specs.declared.NoMemory.{NoMemory}
use Rattle.index_lists.specs.Rings.{with_cell, IsInside}
use Rattle.index_lists.proofs.Rounds.{length-with_cell}
use Rattle.tree_model.specs.declared.tree.Symbol.{Symbol}
use Rattle.term_graph.specs.declared.bound.Bound.{Bound}
use Rattle.term_graph.specs.declared.term.Term.{Term as Made}
use Rattle.term_graph.specs.declared.class.Class.{Class}
use Rattle.term_graph.specs.declared.parts.Slot.{Slot}
use Rattle.term_graph.specs.declared.parts.Mention.{Mention}
use Rattle.term_graph.specs.declared.key.Key.{Key}
use Rattle.term_graph.specs.declared.change.Change.{Change}
use Rattle.term_graph.specs.declared.change.Change.TheVariants.{Interned}
use Rattle.term_graph.specs.Contents.{History, grown, with_term, root, target_of, term_at, no_term, each, once_for, IsForest, IsLeader, IsInterned}
use Rattle.term_graph.specs.Contents.Step.{Interns}
use Rattle.term_graph.specs.Classes.{class_at, weighed}
use Rattle.term_graph.specs.Keys.{sign_of, is_key_of, shared_at}
use Rattle.term_graph.specs.Fields.{Fields, made, mentions, mention_next, last_args, last_count, heads_of, owners_of, mentions_of, bindings_of, uses_in, uses_seen, seen, undone, history}
use Rattle.term_graph.specs.Told.{HasTermMore}
use Rattle.term_graph.specs.Good.{AreRinged, AreRoots, IsGood, AreGood, Fits, IsInternedIn}
use Rattle.term_graph.proofs.Adding.{undone-pushed}
use Rattle.term_graph.proofs.Forests.{root-within, leads_to_root}
use Rattle.term_graph.proofs.Interning.{AreIn, cut_back, cells_back, ringed_mentions, owners-mentions, mentioned_made, shared_made, length-mentions, next_good, uses_with, uses_beside}
use Rattle.term_graph.proofs.Keying.{all_each, all_at}
use Rattle.term_graph.proofs.Measuring.{measured_mentions, room_for_mentions}
use Rattle.term_graph.proofs.Reading.{each-same, each-at}
use Rattle.term_graph.proofs.Ringing.{ringed_mention}
use Rattle.term_graph.proofs.Trailing.{AreGood-now, AreGood-pushed, history-pushed}
use Rattle.term_graph.proofs.Weighing.{lightened-weighed, length-weighed}

-- the uses with the mentions of the term
once_more : (r t : ℕ) (ks xs : List ℕ) → once_for r t ks ++ (t ∷ xs) ≡ t ∷ (once_for r t ks ++ xs)
once_more r t [] xs = refl
once_more r t (k ∷ ks) xs = elim (cases_eq k r) [
  | inl e ↦ (let q : nat_eq k r ≡ true = eq-eqb k r e in rw q (ap (λ z. t ∷ z) (once_more r t ks xs)))
  | inr d ↦ (let q : nat_eq k r ≡ false = ne_eqb k r d in rw q (once_more r t ks xs))
]

module _ (b : List Bound) (heads : List ℕ) (u : ℕ) (ul : u < length b) where
  pub uses_mentions : (as' owners next : List ℕ) (ms : List (Option Mention)) (t i : ℕ) → AreRinged b heads owners next → length ms ≡ length next → AreRoots b as'
      → uses_in b heads (ms ++ mentions_of (mentions t i as')) (mention_next heads as' next) u ≡ once_for (root b u) t as' ++ uses_in b heads ms next u
  uses_mentions [] owners next ms t i g n h = ap (λ z. uses_in b heads z next u) (append-nil ms)
  uses_mentions (a ∷ as') owners next ms t i g n h =
      let m : Mention = record { term = t; place = i } in
      let l = length-with_cell next g.inside (get_or heads a 0) (g.head a h.0.0).0 in
      let n' : length (ms ++ Some (record { term = t; place = i }) ∷ []) ≡ length (with_cell (get_or heads a 0) next) = length_push ms (Some (record { term = t; place = i })) ∙ ap (λ z. z + 1) n ∙ sym l in
      ap (λ z. uses_in b heads z (mention_next heads as' (with_cell (get_or heads a 0) next)) u) (sym (append_assoc ms (Some (record { term = t; place = i }) ∷ []) (mentions_of (mentions t (i + 1) as'))))
      ∙ uses_mentions as' (owners ++ a ∷ []) (with_cell (get_or heads a 0) next) (ms ++ Some (record { term = t; place = i }) ∷ []) t (i + 1) (ringed_mention b heads owners next g a h.0.0 h.0.1) n' h.1
      ∙ elim (cases_eq a (root b u)) [
        | inl e ↦ (
            let q : nat_eq a (root b u) ≡ true = eq-eqb a (root b u) e in
            ap (λ z. once_for (root b u) t as' ++ z) (uses_with b heads owners next ms g n (record { term = t; place = i }) a h.0.0 h.0.1 u ul (sym e))
            ∙ rw q (once_more (root b u) t as' (uses_in b heads ms next u)))
        | inr d ↦ (
            let q : nat_eq a (root b u) ≡ false = ne_eqb a (root b u) d in
            ap (λ z. once_for (root b u) t as' ++ z) (uses_beside b heads owners next ms g n (record { term = t; place = i }) a h.0.0 h.0.1 u ul (λ e. d (sym e)))
            ∙ rw q refl)
      ]

-- roots of variables are roots
pub roots_are : (b : List Bound) → IsForest b → (xs : List ℕ) → AllByRecursion (λ x. x < length b) xs → AreRoots b (map (root b) xs)
roots_are b f [] h = tt
roots_are b f (x ∷ xs) h = ((root-within b f (leads_to_root b f x) h.0, f.ends x), roots_are b f xs h.1)

-- the classes of the arguments have room for the mentions, since there is room for the cells
pub room_made : (slots : List Slot) (classes : List Class) (terms terms' : List Made) (term made : Made) (number : ℕ) (next next' : List ℕ) (n : ℕ) → IsInside next
    → AreIn (length slots) (heads_of slots) (length next) term.args → AllByRecursion (λ a. (a < length classes) × ((class_at classes a).weight ≤ length next)) term.args
    → next' ≡ mention_next (heads_of slots) term.args next → terms' ≡ terms ++ term ∷ [] → number ≡ length terms → made ≡ get_or terms' number made → n ≡ length next' → n < 2 ^ 64
    → AllByRecursion (λ r. (r < length classes) × ((class_at classes r).weight + length made.args < 2 ^ 64)) made.args
room_made slots classes terms terms' term made number next next' n inside h k e t ne me ce l =
    let q : made ≡ term = me ∙ ap (λ z. get_or z number made) t ∙ get_or_push terms term made number (sym ne) in
    let m : length next' ≡ length next + length term.args = ap length e ∙ (next_good (length slots) (heads_of slots) term.args next inside h).1 in
    rw q (all_each (λ a. (a < length classes) × ((class_at classes a).weight ≤ length next)) (λ r. (r < length classes) × ((class_at classes r).weight + length term.args < 2 ^ 64))
    (λ a p. (p.0, (let w = p.1 in omega arith))) term.args k)

module _ (f : Fields) (g : IsGood f) where
  abbrev b : List Bound
  b = bindings_of f.slots

  abbrev heads : List ℕ
  heads = heads_of f.slots

  abbrev owners : List ℕ
  owners = owners_of f.cells

  abbrev ms : List (Option Mention)
  ms = mentions_of f.cells

  b-is : length b ≡ length f.slots
  b-is = length-map f.slots (λ s. s.binding)

  pub roots_in : (keys : List ℕ) → AreRoots b keys → AreIn (length f.slots) heads (length f.next) keys
  roots_in keys roots = all_each (λ x. (x < length b) × (target_of b x ≡ None)) (λ x. (x < length f.slots) × (get_or heads x 0 < length f.next)) (λ x p. (rw (← b-is) p.0, (g.ringed.head x p.0).0)) keys roots

  pub room_in : (keys : List ℕ) → AreRoots b keys → AllByRecursion (λ a. (a < length f.classes) × ((class_at f.classes a).weight ≤ length f.next)) keys
  room_in keys roots = room_for_mentions b heads owners f.next g.ringed f.classes g.measured keys roots

  heads_in : (v : ℕ) → v < length heads → get_or heads v 0 < length ms
  heads_in v l = (let k = (g.ringed.head v (rw g.ringed.variables at l)).0 in let e = g.mentioned.cells in let c = g.ringed.cells in omega arith)

  module _ (symbol : Symbol) (keys : List ℕ) (roots : AreRoots b keys) (key : Key) (ks : key.sign ≡ sign_of symbol) (ka : key.args.items ≡ keys)
      (absent : shared_at f.entries symbol keys ≡ None) where
    abbrev term : Made
    term = record { symbol = symbol; args = keys }

    abbrev now : Fields
    now = made term key f

    owners-made : owners_of now.cells ≡ owners ++ keys
    owners-made = map-append (λ c. c.variable) f.cells (mentions (length f.terms) 0 keys) ∙ ap (λ z. owners ++ z) (owners-mentions (length f.terms) 0 keys)

    mentions-made : mentions_of now.cells ≡ ms ++ mentions_of (mentions (length f.terms) 0 keys)
    mentions-made = map-append (λ c. c.mention) f.cells (mentions (length f.terms) 0 keys)

    args-made : last_args now.terms ≡ keys
    args-made =
        let n : length (f.terms ++ term ∷ []) - 1 ≡ length f.terms = omega (arith, length_push f.terms term) in
        ap (λ z. (term_at (f.terms ++ term ∷ []) z).args) n ∙ ap (λ z. z.args) (get_or_push f.terms term no_term (length f.terms) refl)

    count-made : last_count now.terms ≡ length keys
    count-made = ap length args-made

    keys_in : AllByRecursion (λ r. r < length f.classes) keys
    keys_in = all_each (λ x. (x < length b) × (target_of b x ≡ None)) (λ r. r < length f.classes) (λ x p. rw g.measured.count p.0) keys roots

    pub undone-made : undone Interned now ≡ f
    undone-made =
        let t = undone-pushed f.terms term in
        let e = undone-pushed f.entries (key, length f.terms) in
        let c = cells_back f.cells (length f.terms) 0 (length keys) keys refl in
        let n = cut_back (length f.slots) heads keys f.next g.ringed.inside (roots_in keys roots) in
        let k = lightened-weighed keys f.classes keys_in in
        rw (args-made, t, e, c, n, k) refl

    few-made : length keys ≤ 8 → (t : ℕ) → t < length (f.terms ++ term ∷ []) → length (term_at (f.terms ++ term ∷ []) t).args ≤ 8
    few-made n t l = elim (cases_eq t (length f.terms)) [
      | inl i ↦ (let e = ap (λ x. length x.args) (get_or_push f.terms term no_term t (sym i)) in omega arith)
      | inr d ↦ (let k : t < length f.terms = omega (arith, d, length_push f.terms term) in let e = ap (λ x. length x.args) (get_or_append_left f.terms (term ∷ []) no_term t k) in let w = g.few t k in omega arith)
    ]

    pub good-made : length keys ≤ 8 → IsGood now
    good-made n = record {
      ringed = rw owners-made (ringed_mentions b heads keys owners f.next g.ringed roots);
      measured = measured_mentions b heads keys owners f.next f.classes g.ringed g.measured roots;
      mentioned = rw (owners-made, mentions-made) (mentioned_made heads owners f.terms ms g.mentioned heads_in term);
      shared = shared_made b f.terms f.entries g.shared symbol keys roots key ks ka absent;
      bound = λ v t e. (let l = g.bound v t e in omega (arith, length_push f.terms term));
      few = few-made n;
    }

    m-is : length ms ≡ length f.next
    m-is = g.mentioned.cells ∙ g.ringed.cells

    uses-made : uses_seen now.slots now.cells now.next ≡ (with_term symbol keys (seen f)).uses
    unfolding uses_seen
    uses-made =
        ap (λ z. each (length f.slots) (uses_in b heads z (mention_next heads keys f.next))) mentions-made
        ∙ ap (λ k. each k (uses_in b heads (ms ++ mentions_of (mentions (length f.terms) 0 keys)) (mention_next heads keys f.next))) (sym b-is)
        ∙ each-same (length b) (uses_in b heads (ms ++ mentions_of (mentions (length f.terms) 0 keys)) (mention_next heads keys f.next))
        (λ u. once_for (root b u) (length f.terms) keys ++ get_or (each (length f.slots) (uses_in b heads ms f.next)) u [])
        (λ u l. uses_mentions b heads u l keys owners f.next ms (length f.terms) 0 g.ringed m-is roots
        ∙ ap (λ z. once_for (root b u) (length f.terms) keys ++ z) (sym (each-at (length f.slots) (uses_in b heads ms f.next) u [] (rw (← b-is) l))))

    pub seen-made : seen now ≡ with_term symbol keys (seen f)
    seen-made = let u = uses-made in cc

    pub fits-made : Fits Interned now
    fits-made =
        let n = (next_good (length f.slots) heads keys f.next g.ringed.inside (roots_in keys roots)).1 in
        let c = count-made in
        (omega (arith, length_push f.terms term), omega (arith, length_push f.entries (key, length f.terms)), omega (arith, length-append f.cells (mentions (length f.terms) 0 keys), length-mentions (length f.terms) 0 keys), omega arith, rw args-made (all_each (λ r. r < length f.classes) (λ r. r < length (weighed keys f.classes)) (λ x l. rw (length-weighed keys f.classes) l) keys keys_in))

    pub tells-made : HasTermMore (seen f) (seen now)
    tells-made = record {
      symbol = symbol;
      keys = keys;
      roots = λ i l. all_at (λ x. (x < length b) × (target_of b x ≡ None)) i keys l roots;
      new = subst (IsLeader b f.terms symbol keys) absent (g.shared.leaders symbol keys roots);
      is = seen-made;
    }

-- the call
module _ (cs ds : List Change) (f f' : Fields) (symbol : Symbol) (keys : List ℕ) (t : ℕ) where
  pub interned-good : AreRoots (bindings_of f.slots) keys → length keys ≤ 8 → IsInternedIn f f' cs ds symbol keys t → AreGood (reverse cs) f → AreGood (reverse ds) f'
  interned-good r n (inl s) h = rw (s.1, s.2) h
  interned-good r n (inr s) h =
      let g = AreGood-now (reverse cs) f h in
      let k = s.2.0 in
      rw s.2.3 (AreGood-pushed cs ds Interned f (made (record { symbol = symbol; args = keys }) k f) s.3 (undone-made f g symbol keys r k s.2.1 s.2.2 s.0) (good-made f g symbol keys r k s.2.1 s.2.2 s.0 n) (fits-made f g symbol keys r k s.2.1 s.2.2 s.0) (tells-made f g symbol keys r k s.2.1 s.2.2 s.0) h)

  pub interned-is : (before : History) → AreRoots (bindings_of f.slots) keys → AreGood (reverse cs) f → history (reverse cs) f ≡ before
      → IsInternedIn f f' cs ds symbol keys t → IsInterned before (history (reverse ds) f') symbol keys t
  interned-is before r h e (inl s) =
      let g = AreGood-now (reverse cs) f h in
      let k : IsLeader (bindings_of f.slots) f.terms symbol keys (Some t) = subst (IsLeader (bindings_of f.slots) f.terms symbol keys) s.0 (g.shared.leaders symbol keys r) in
      rw (← e) (inl (k, rw (s.1, s.2) refl))
  interned-is before r h e (inr s) =
      let g = AreGood-now (reverse cs) f h in
      let k = s.2.0 in
      let n : IsLeader (bindings_of f.slots) f.terms symbol keys None = subst (IsLeader (bindings_of f.slots) f.terms symbol keys) s.0 (g.shared.leaders symbol keys r) in
      rw (← e) (inr (
        n,
        s.1,
        rw s.2.3 (history-pushed cs ds Interned f (made (record { symbol = symbol; args = keys }) k f) s.3 (undone-made f g symbol keys r k s.2.1 s.2.2 s.0)
            ∙ ap (λ c. grown Interns c (history (reverse cs) f)) (seen-made f g symbol keys r k s.2.1 s.2.2 s.0)),
      ))

pub interned-good_by : (r : Result ℕ NoMemory) (cs ds : List Change) (f f' : Fields) (symbol : Symbol) (keys : List ℕ) → AreRoots (bindings_of f.slots) keys → length keys ≤ 8
    → IfOk r (IsInternedIn f f' cs ds symbol keys) → OnErr r (f' ≡ f) → OnErr r (ds ≡ cs) → AreGood (reverse cs) f → AreGood (reverse ds) f'
interned-good_by (Ok t) cs ds f f' symbol keys k n s p q h = interned-good cs ds f f' symbol keys t k n s h
interned-good_by (Err _) cs ds f f' symbol keys k n s p q h = rw (p, q) h

pub interned-is_by : (r : Result ℕ NoMemory) (cs ds : List Change) (f f' : Fields) (symbol : Symbol) (keys : List ℕ) (before : History)
    → AreRoots (bindings_of f.slots) keys → AreGood (reverse cs) f → history (reverse cs) f ≡ before
    → IfOk r (IsInternedIn f f' cs ds symbol keys) → IfOk r (IsInterned before (history (reverse ds) f') symbol keys)
interned-is_by (Ok t) cs ds f f' symbol keys before k h e s = interned-is cs ds f f' symbol keys t before k h e s
interned-is_by (Err _) cs ds f f' symbol keys before k h e s = tt

pub intern_by : (r : Result ℕ NoMemory) (cs ds : List Change) (f f' : Fields) (symbol : Symbol) (keys : List ℕ) (key : Key) → key.sign ≡ sign_of symbol
    → key.args.items ≡ keys → shared_at f.entries symbol keys ≡ None
    → IfOk r (λ t. t ≡ length f.terms) → OnOk r (f' ≡ made (record { symbol = symbol; args = key.args.items }) key f) → OnOk r (ds ≡ cs ++ Interned ∷ [])
    → IfOk r (IsInternedIn f f' cs ds symbol keys)
intern_by (Ok t) cs ds f f' symbol keys key s a n l p q = inr (n, l, (key, s, a, p ∙ ap (λ z. made (record { symbol = symbol; args = z }) key f) a), q)
intern_by (Err _) cs ds f f' symbol keys key s a n l p q = tt

pub key_found : (es : List (Key × ℕ)) (symbol : Symbol) (keys : List ℕ) (key : Key) (o : Option ℕ) → key.sign ≡ sign_of symbol → key.args.items ≡ keys
    → o ≡ lookup (is_key_of key.sign key.args.items) es → shared_at es symbol keys ≡ o
key_found es symbol keys key o s a e = sym (e ∙ ap (λ z. lookup (is_key_of z key.args.items) es) s ∙ ap (λ z. lookup (is_key_of (sign_of symbol) z) es) a)

pub all_within : (n m : ℕ) (xs : List ℕ) → n ≡ m → All (λ x. x < n) xs → AllByRecursion (λ x. x < m) xs
all_within n m xs e h = subst (λ z. AllByRecursion (λ x. x < z) xs) e (recursion_from_All (λ x. x < n) xs h)

pub interned-now_by : (r : Result ℕ NoMemory) (cs ds : List Change) (f f' : Fields) (symbol : Symbol) (as' : List ℕ) (before : History)
    → AreRoots (bindings_of f.slots) (map (root (bindings_of f.slots)) as') → AreGood (reverse cs) f → history (reverse cs) f ≡ before
    → IfOk r (IsInternedIn f f' cs ds symbol (map (root (bindings_of f.slots)) as'))
    → IfOk r (IsInterned before (history (reverse ds) f') symbol (map (root before.contents.bindings) as'))
interned-now_by r cs ds f f' symbol as' before k h e s = rw (← e) (interned-is_by r cs ds f f' symbol (map (root (bindings_of f.slots)) as') (history (reverse cs) f) k h refl s)

-- the roots of variables are variables
pub key_below : (b : List Bound) → IsForest b → (n : ℕ) → n ≡ length b → (xs keys : List ℕ) → All (λ x. x < n) xs → keys ≡ map (root b) xs → AllByRecursion (λ x. x < length b) keys
key_below b f n e xs keys h k =
    subst (AllByRecursion (λ x. x < length b)) (sym k) (all_each (λ x. (x < length b) × (target_of b x ≡ None)) (λ x. x < length b) (λ x p. p.0) (map (root b) xs) (roots_are b f xs (all_within n (length b) xs e h)))

pub term_is : (terms : List Made) (t : ℕ) (x : Made) → t < length terms → x ≡ get_or terms t x → x ≡ term_at terms t
term_is terms t x l e = e ∙ get_or_default terms t x no_term l
