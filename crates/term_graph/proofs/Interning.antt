-- A term more, with its mentions.
use Rattle.std.proofs.Common.{ℕ, zero, suc, ◌≡◌, ◌≢◌, ◌<◌, ◌≤◌, ◌+◌, ◌-◌, true, List, [], ◌∷◌, ◌++◌, length, take, map, get_or, refl, sym, ap, ◌∙◌, subst, inl, inr, Some, None, arith, append_assoc, length-append, ◌⊎◌}
use Rattle.std.specs.Prelude.{Option}
use Rattle.std.specs.List.{AllByRecursion}
use Rattle.std.proofs.lemmas.Bool.{cases_eq, cases_lt}
use Rattle.std.proofs.lemmas.List.{get_or_append_left, get_or_push, length_push, length-map, map-append, take_at, take_all, take_more, length-take-le, get_or-map, get_or-append-add}
use Rattle.index_lists.specs.Rings.{IsRound, IsInside, with_cell, without_last}
use Rattle.index_lists.proofs.Rounds.{with_cell-inside, length-with_cell, taken_away}
use Rattle.tree_model.specs.declared.tree.Symbol.{Symbol}
use Rattle.term_graph.specs.declared.bound.Bound.{Bound}
use Rattle.term_graph.specs.declared.term.Term.{Term as Made}
use Rattle.term_graph.specs.declared.parts.Slot.{Slot}
use Rattle.term_graph.specs.declared.parts.Cell.{Cell}
use Rattle.term_graph.specs.declared.parts.Mention.{Mention}
use Rattle.term_graph.specs.declared.key.Key.{Key}
use Rattle.term_graph.specs.Contents.{root, target_of, term_at, no_term, HasKey, IsLeader}
use Rattle.term_graph.specs.Keys.{sign_of, is_key_of, shared_at}
use Rattle.term_graph.specs.Fields.{Fields, mentions, mention_next, cut_off, heads_of, owners_of, mentions_of, uses_in, used}
use Rattle.term_graph.specs.Good.{AreRinged, IsClass, AreMentioned, IsShared, AreRoots}
use Rattle.term_graph.proofs.Adding.{uses_is}
use Rattle.term_graph.proofs.Forests.{root_of_root}
use Rattle.term_graph.proofs.Keying.{key_tells, key_same, lookup_old, lookup_new, all_pushed, all_each, all_take, all_at, sign_once, true_or_false}
use Rattle.term_graph.proofs.Mentioning.{mention_in}
use Rattle.term_graph.proofs.Reading.{used_more}
use Rattle.term_graph.proofs.Ringing.{ringed_mention, round_a, round_not_a, class_of, rest_within, root_in}

pub length-mentions : (t i : ℕ) (as' : List ℕ) → length (mentions t i as') ≡ length as'
length-mentions t i [] = refl
length-mentions t i (a ∷ as') = ap suc (length-mentions t (i + 1) as')

pub mentions-push : (t i : ℕ) (as' : List ℕ) (a : ℕ)
    → mentions t i (as' ++ a ∷ []) ≡ mentions t i as' ++ record { variable = a; mention = Some (record { term = t; place = i + length as' }) } ∷ []
mentions-push t i [] a = let e : i ≡ i + 0 = omega arith in ap (λ z. record { variable = a; mention = Some (record { term = t; place = z }) } ∷ []) e
mentions-push t i (x ∷ xs) a =
    let e : (i + 1) + length xs ≡ i + length (x ∷ xs) = omega arith in
    ap (λ z. record { variable = x; mention = Some (record { term = t; place = i }) } ∷ z)
    (mentions-push t (i + 1) xs a ∙ ap (λ z. mentions t (i + 1) xs ++ record { variable = a; mention = Some (record { term = t; place = z }) } ∷ []) e)

pub next-push : (heads as' next : List ℕ) (a : ℕ) → mention_next heads (as' ++ a ∷ []) next ≡ with_cell (get_or heads a 0) (mention_next heads as' next)
next-push heads [] next a = refl
next-push heads (x ∷ xs) next a = next-push heads xs (with_cell (get_or heads x 0) next) a

-- the own cells of these variables are cells
abbrev pub AreIn : ℕ → List ℕ → ℕ → List ℕ → Type 0
AreIn n heads k as' = AllByRecursion (λ a. (a < n) × (get_or heads a 0 < k)) as'

are_in_more : (n : ℕ) (heads : List ℕ) (k j : ℕ) (as' : List ℕ) → k ≤ j → AreIn n heads k as' → AreIn n heads j as'
are_in_more n heads k j as' l h = all_each (λ a. (a < n) × (get_or heads a 0 < k)) (λ a. (a < n) × (get_or heads a 0 < j)) (λ a p. (p.0, (let q = p.1 in omega arith))) as' h

pub next_good : (n : ℕ) (heads as' next : List ℕ) → IsInside next → AreIn n heads (length next) as'
    → IsInside (mention_next heads as' next) × (length (mention_next heads as' next) ≡ length next + length as')
next_good n heads [] next inside h = (inside, omega arith)
next_good n heads (a ∷ as') next inside h =
    let l = length-with_cell next inside (get_or heads a 0) h.0.1 in
    let k = next_good n heads as' (with_cell (get_or heads a 0) next) (with_cell-inside next inside (get_or heads a 0) h.0.1) (are_in_more n heads (length next) (length (with_cell (get_or heads a 0) next)) as' (omega arith) h.1) in
    (k.0, (let e = k.1 in omega arith))

cut_on : (n : ℕ) (next : List ℕ) → cut_off (suc n) next ≡ without_last (cut_off n next)
cut_on zero next = refl
cut_on (suc n) next = cut_on n (without_last next)

pub cut_back : (n : ℕ) (heads as' next : List ℕ) → IsInside next → AreIn n heads (length next) as' → cut_off (length as') (mention_next heads as' next) ≡ next
cut_back n heads [] next inside h = refl
cut_back n heads (a ∷ as') next inside h =
    let l = length-with_cell next inside (get_or heads a 0) h.0.1 in
    cut_on (length as') (mention_next heads as' (with_cell (get_or heads a 0) next))
    ∙ ap without_last (cut_back n heads as' (with_cell (get_or heads a 0) next) (with_cell-inside next inside (get_or heads a 0) h.0.1) (are_in_more n heads (length next) (length (with_cell (get_or heads a 0) next)) as' (omega arith) h.1))
    ∙ taken_away next inside (get_or heads a 0) h.0.1

pub cells_back : (xs : List Cell) (t i n : ℕ) (as' : List ℕ) → n ≡ length as' → take (length (xs ++ mentions t i as') - n) (xs ++ mentions t i as') ≡ xs
cells_back xs t i n as' e = take_at xs (mentions t i as') (length (xs ++ mentions t i as') - n) (omega (arith, length-append xs (mentions t i as'), length-mentions t i as'))

-- the rings with the mentions
pub owners-mentions : (t i : ℕ) (as' : List ℕ) → owners_of (mentions t i as') ≡ as'
owners-mentions t i [] = refl
owners-mentions t i (a ∷ as') = ap (λ z. a ∷ z) (owners-mentions t (i + 1) as')

module _ (b : List Bound) (heads : List ℕ) where
  pub ringed_mentions : (as' owners next : List ℕ) → AreRinged b heads owners next → AreRoots b as' → AreRinged b heads (owners ++ as') (mention_next heads as' next)
  ringed_mentions [] owners next g h = subst (λ z. AreRinged b heads z next) (sym (nothing owners)) g
    where
      nothing : (xs : List ℕ) → xs ++ [] ≡ xs
      nothing [] = refl
      nothing (x ∷ xs) = ap (λ z. x ∷ z) (nothing xs)
  ringed_mentions (a ∷ as') owners next g h =
      subst (λ z. AreRinged b heads z (mention_next heads as' (with_cell (get_or heads a 0) next))) (append_assoc owners (a ∷ []) as')
      (ringed_mentions as' (owners ++ a ∷ []) (with_cell (get_or heads a 0) next) (ringed_mention b heads owners next g a h.0.0 h.0.1) h.1)

  -- the uses with one mention more
  module _ (owners next : List ℕ) (ms : List (Option Mention)) (g : AreRinged b heads owners next) (n : length ms ≡ length next) (m : Mention) (a : ℕ)
      (al : a < length b) (ao : target_of b a ≡ None) (u : ℕ) (ul : u < length b) where
    abbrev now : List ℕ
    now = with_cell (get_or heads a 0) next

    k : IsClass b heads owners next (root b u)
    k = class_of b heads owners next g u ul

    now_ringed : AreRinged b heads (owners ++ a ∷ []) now
    now_ringed = ringed_mention b heads owners next g a al ao

    last_mention : get_or (ms ++ Some m ∷ []) (length next) None ≡ Some m
    last_mention = get_or_push ms (Some m) None (length next) n

    kept : used (ms ++ Some m ∷ []) k.rest ≡ used ms k.rest
    kept = used_more ms (Some m ∷ []) k.rest (all_each (λ x. x < length next) (λ x. x < length ms) (λ x p. rw n p) k.rest (rest_within b heads owners next g (root b u) (root_in b heads owners next g u ul) k))

    pub uses_with : root b u ≡ a → uses_in b heads (ms ++ Some m ∷ []) now u ≡ m.term ∷ uses_in b heads ms next u
    uses_with e =
        let e' : IsRound now (get_or heads (root b u) 0) (length next ∷ (subst (IsClass b heads owners next) e k).rest) = subst (λ z. IsRound now (get_or heads z 0) (length next ∷ (subst (IsClass b heads owners next) e k).rest)) (sym e) (round_a b heads owners next g a al ao (subst (IsClass b heads owners next) e k)) in
        uses_by (subst (IsClass b heads owners next) e k) e e'
      where
        uses_by : (c : IsClass b heads owners next a) → root b u ≡ a → IsRound now (get_or heads (root b u) 0) (length next ∷ c.rest)
            → uses_in b heads (ms ++ Some m ∷ []) now u ≡ m.term ∷ uses_in b heads ms next u
        uses_by c e r =
            let w : AllByRecursion (λ x. x < length ms) c.rest = all_each (λ x. x < length next) (λ x. x < length ms) (λ x p. rw n p) c.rest (rest_within b heads owners next g a al c) in
            let o : IsRound next (get_or heads (root b u) 0) c.rest = subst (λ z. IsRound next (get_or heads z 0) c.rest) (sym e) c.round in
            let q : used (ms ++ Some m ∷ []) (length next ∷ c.rest) ≡ m.term ∷ used ms c.rest = rw (last_mention, used_more ms (Some m ∷ []) c.rest w) refl in
            uses_is b heads (owners ++ a ∷ []) now (ms ++ Some m ∷ []) now_ringed u ul (length next ∷ c.rest) r ∙ q ∙ ap (λ z. m.term ∷ z) (sym (uses_is b heads owners next ms g u ul c.rest o))

    pub uses_beside : root b u ≢ a → uses_in b heads (ms ++ Some m ∷ []) now u ≡ uses_in b heads ms next u
    uses_beside d =
        uses_is b heads (owners ++ a ∷ []) now (ms ++ Some m ∷ []) now_ringed u ul k.rest (round_not_a b heads owners next g a al ao (root b u) (root_in b heads owners next g u ul) d k)
        ∙ kept ∙ sym (uses_is b heads owners next ms g u ul k.rest k.round)

-- the loop over the arguments
pub head_is : (slots : List Slot) (v : ℕ) (s : Slot) → v < length slots → s ≡ get_or slots v s → s.cell ≡ get_or (heads_of slots) v 0
head_is slots v s l e = ap (λ x. x.cell) e ∙ sym (get_or-map (λ x. x.cell) slots v s 0 l)

module _ (slots : List Slot) (as' initial rings : List ℕ) (i v : ℕ) (s : Slot) (inside : IsInside initial)
    (h : AreIn (length slots) (heads_of slots) (length initial) as') (l : i < length as') (ve : v ≡ get_or as' i 0) (se : s ≡ get_or slots v s)
    (re : rings ≡ mention_next (heads_of slots) (take i as') initial) where
  first_good : IsInside (mention_next (heads_of slots) (take i as') initial) × (length (mention_next (heads_of slots) (take i as') initial) ≡ length initial + length (take i as'))
  first_good = next_good (length slots) (heads_of slots) (take i as') initial inside (all_take (λ a. (a < length slots) × (get_or (heads_of slots) a 0 < length initial)) i as' h)

  this_in : (get_or as' i 0 < length slots) × (get_or (heads_of slots) (get_or as' i 0) 0 < length initial)
  this_in = all_at (λ a. (a < length slots) × (get_or (heads_of slots) a 0 < length initial)) i as' l h

  cell_is : s.cell ≡ get_or (heads_of slots) v 0
  cell_is = head_is slots v s (rw ve this_in.0) se

  pub mention_fits : s.cell < length rings
  mention_fits =
      let a = this_in.1 in
      let c : s.cell ≡ get_or (heads_of slots) (get_or as' i 0) 0 = cell_is ∙ ap (λ z. get_or (heads_of slots) z 0) ve in
      let f = first_good.1 in
      let r = ap length re in
      omega arith

  pub rings_long : i ≤ length rings
  rings_long = let f = first_good.1 in let r = ap length re in let t = length-take-le i as' (omega arith) in omega arith

  pub rings_step : (rings' : List ℕ) → rings' ≡ with_cell s.cell rings → rings' ≡ mention_next (heads_of slots) (take (i + 1) as') initial
  rings_step rings' e =
      let t : take (i + 1) as' ≡ take i as' ++ get_or as' i 0 ∷ [] = take_more as' i 0 l in
      let c : s.cell ≡ get_or (heads_of slots) (get_or as' i 0) 0 = cell_is ∙ ap (λ z. get_or (heads_of slots) z 0) ve in
      e ∙ rw (c, re) refl ∙ sym (next-push (heads_of slots) (take i as') initial (get_or as' i 0)) ∙ ap (λ z. mention_next (heads_of slots) z initial) (sym t)

  pub cells_step : (t : ℕ) (start cells cells' : List Cell) → cells ≡ start ++ mentions t 0 (take i as')
      → cells' ≡ cells ++ record { variable = v; mention = Some (record { term = t; place = i }) } ∷ [] → cells' ≡ start ++ mentions t 0 (take (i + 1) as')
  cells_step t start cells cells' e f =
      let q : take (i + 1) as' ≡ take i as' ++ get_or as' i 0 ∷ [] = take_more as' i 0 l in
      let n : 0 + length (take i as') ≡ i = omega (arith, length-take-le i as' (omega arith)) in
      f ∙ rw (e, ve) (append_assoc start (mentions t 0 (take i as')) (record { variable = get_or as' i 0; mention = Some (record { term = t; place = i }) } ∷ []))
      ∙ ap (λ z. start ++ (mentions t 0 (take i as') ++ record { variable = get_or as' i 0; mention = Some (record { term = t; place = z }) } ∷ [])) (sym n)
      ∙ ap (λ z. start ++ z) (sym (mentions-push t 0 (take i as') (get_or as' i 0)) ∙ ap (mentions t 0) (sym q))

  pub rings_back : cut_off i rings ≡ initial
  rings_back =
      let n : length (take i as') ≡ i = length-take-le i as' (omega arith) in
      ap (cut_off i) re ∙ ap (λ k. cut_off k (mention_next (heads_of slots) (take i as') initial)) (sym n)
      ∙ cut_back (length slots) (heads_of slots) (take i as') initial inside (all_take (λ a. (a < length slots) × (get_or (heads_of slots) a 0 < length initial)) i as' h)

  pub cells_back_at : (t : ℕ) (start cells : List Cell) → cells ≡ start ++ mentions t 0 (take i as') → take (length cells - i) cells ≡ start
  cells_back_at t start cells e =
      let n : i ≡ length (take i as') = sym (length-take-le i as' (omega arith)) in
      ap (λ z. take (length z - i) z) e ∙ cells_back start t 0 i (take i as') n

  pub cells_long : (t : ℕ) (start cells : List Cell) → cells ≡ start ++ mentions t 0 (take i as') → i ≤ length cells
  cells_long t start cells e =
      let k = ap length e in
      omega (arith, length-append start (mentions t 0 (take i as')), length-mentions t 0 (take i as'), length-take-le i as' (omega arith))

pub take_whole : (xs : List ℕ) (i : ℕ) → i ≡ length xs → take i xs ≡ xs
take_whole xs i e = take_all i xs (omega arith)

pub roots_step : (b : List Bound) (as' : List ℕ) (i : ℕ) → i < length as' → (keys keys' : List ℕ) (r : ℕ) → keys ≡ map (root b) (take i as')
    → keys' ≡ keys ++ r ∷ [] → r ≡ root b (get_or as' i 0) → keys' ≡ map (root b) (take (i + 1) as')
roots_step b as' i l keys keys' r e f g =
    let q : take (i + 1) as' ≡ take i as' ++ get_or as' i 0 ∷ [] = take_more as' i 0 l in
    f ∙ rw (e, g) refl ∙ sym (map-append (root b) (take i as') (get_or as' i 0 ∷ [])) ∙ ap (map (root b)) (sym q)

-- all the mentions taken away again
pub whole_cells_long : (t n : ℕ) (as' : List ℕ) (start cells : List Cell) → n ≡ length as' → cells ≡ start ++ mentions t 0 as' → n ≤ length cells
whole_cells_long t n as' start cells e f = let k = ap length f in omega (arith, length-append start (mentions t 0 as'), length-mentions t 0 as')

pub whole_cells_back : (t n : ℕ) (as' : List ℕ) (start cells : List Cell) → n ≡ length as' → cells ≡ start ++ mentions t 0 as'
    → take (length cells - n) cells ≡ start
whole_cells_back t n as' start cells e f = ap (λ z. take (length z - n) z) f ∙ cells_back start t 0 n as' e

pub whole_rings_long : (slots : List Slot) (n : ℕ) (as' initial rings : List ℕ) → n ≡ length as' → IsInside initial
    → AreIn (length slots) (heads_of slots) (length initial) as' → rings ≡ mention_next (heads_of slots) as' initial → n ≤ length rings
whole_rings_long slots n as' initial rings e inside h f = let k = (next_good (length slots) (heads_of slots) as' initial inside h).1 in let r = ap length f in omega arith

pub whole_rings_back : (slots : List Slot) (n : ℕ) (as' initial rings : List ℕ) → n ≡ length as' → IsInside initial
    → AreIn (length slots) (heads_of slots) (length initial) as' → rings ≡ mention_next (heads_of slots) as' initial → cut_off n rings ≡ initial
whole_rings_back slots n as' initial rings e inside h f = ap (cut_off n) f ∙ ap (λ k. cut_off k (mention_next (heads_of slots) as' initial)) e ∙ cut_back (length slots) (heads_of slots) as' initial inside h

pub fields_as : (f : Fields) (terms : List Made) (cells : List Cell) (next : List ℕ) (entries : List (Key × ℕ)) → terms ≡ f.terms → cells ≡ f.cells
    → next ≡ f.next → entries ≡ f.entries → record { slots = f.slots; classes = f.classes; terms = terms; cells = cells; next = next; entries = entries; lowered = f.lowered } ≡ f
fields_as f terms cells next entries o p q r = rw (o, p, q, r) refl

pub keys_back : (es fs gs : List (Key × ℕ)) (e : Key × ℕ) (n : ℕ) → n ≡ length es → fs ≡ es ++ e ∷ [] → gs ≡ take n fs → gs ≡ es
keys_back es fs gs e n p q r = r ∙ ap (take n) q ∙ take_at es (e ∷ []) n (sym p)

-- the mentions of the new term
at-mentions : (t i j : ℕ) (as' : List ℕ) → j < length as' → get_or (mentions_of (mentions t i as')) j None ≡ Some (record { term = t; place = i + j })
at-mentions t i j [] l = absurd (omega arith)
at-mentions t i zero (a ∷ as') l = let e : i ≡ i + 0 = omega arith in ap (λ z. Some (record { term = t; place = z })) e
at-mentions t i (suc j) (a ∷ as') l =
    let e : (i + 1) + j ≡ i + suc j = omega arith in
    at-mentions t (i + 1) j as' (omega arith) ∙ ap (λ z. Some (record { term = t; place = z })) e

pub get_or_right : {X : Type 0} (xs ys : List X) (i j : ℕ) (d : X) → j ≡ length xs + i → get_or (xs ++ ys) j d ≡ get_or ys i d
get_or_right xs ys i j d e = ap (λ z. get_or (xs ++ ys) z d) e ∙ get_or-append-add xs ys i d

module _ (heads owners : List ℕ) (terms : List Made) (ms : List (Option Mention)) (g : AreMentioned heads owners terms ms)
    (inside : (v : ℕ) → v < length heads → get_or heads v 0 < length ms) (term : Made) where
  abbrev ns : List (Option Mention)
  ns = mentions_of (mentions (length terms) 0 term.args)

  ns-length : length ns ≡ length term.args
  ns-length = length-map (mentions (length terms) 0 term.args) (λ c. c.mention) ∙ length-mentions (length terms) 0 term.args

  old_term : (t : ℕ) → t < length terms → term_at (terms ++ term ∷ []) t ≡ term_at terms t
  old_term t l = get_or_append_left terms (term ∷ []) no_term t l

  new_term : term_at (terms ++ term ∷ []) (length terms) ≡ term
  new_term = get_or_push terms term no_term (length terms) refl

  old_place : (c : ℕ) → c < length ms → get_or (ms ++ ns) c None ≡ get_or ms c None
  old_place c l = get_or_append_left ms ns None c l

  new_place : (j : ℕ) → j < length term.args → get_or (ms ++ ns) (length ms + j) None ≡ Some (record { term = length terms; place = j })
  new_place j l =
      let e : 0 + j ≡ j = omega arith in
      get_or_right ms ns j (length ms + j) None refl ∙ at-mentions (length terms) 0 j term.args l ∙ ap (λ z. Some (record { term = length terms; place = z })) e

  old_owner : (c : ℕ) → c < length owners → get_or (owners ++ term.args) c 0 ≡ get_or owners c 0
  old_owner c l = get_or_append_left owners term.args 0 c l

  abbrev Right : ℕ → Mention → Type 0
  Right c m = (m.term < length (terms ++ term ∷ [])) × (m.place < length (term_at (terms ++ term ∷ []) m.term).args) × (get_or (term_at (terms ++ term ∷ []) m.term).args m.place 0 ≡ get_or (owners ++ term.args) c 0)

  right_old : (c : ℕ) (m : Mention) → c < length ms → get_or ms c None ≡ Some m → Right c m
  right_old c m l e =
      let r = g.right c m e in
      let r0 = r.0 in
      let n : length (terms ++ term ∷ []) ≡ length terms + 1 = length_push terms term in
      rw (old_term m.term r.0, old_owner c (rw (← g.cells) l)) (omega arith, r.1, r.2)

  right_new : (c j : ℕ) → c ≡ length ms + j → j < length term.args → Right c (record { term = length terms; place = j })
  right_new c j e l =
      let n : length (terms ++ term ∷ []) ≡ length terms + 1 = length_push terms term in
      let o : get_or (owners ++ term.args) c 0 ≡ get_or term.args j 0 = get_or_right owners term.args j c 0 (e ∙ ap (λ z. z + j) g.cells) in
      rw (new_term, o) (omega arith, l, refl)

  right_made : (c : ℕ) (m : Mention) → get_or (ms ++ ns) c None ≡ Some m → Right c m
  right_made c m e =
      let l = mention_in (ms ++ ns) c m e in
      elim (cases_lt c (length ms)) [
        | inl s ↦ right_old c m s (sym (old_place c s) ∙ e)
        | inr s ↦ (
            let k : c - length ms < length term.args = omega (arith, l, length-append ms ns, ns-length) in
            let p : c ≡ length ms + (c - length ms) = omega arith in
            let q : Some (record { term = length terms; place = c - length ms }) ≡ Some m = sym (ap (λ z. get_or (ms ++ ns) z None) p ∙ new_place (c - length ms) k) ∙ e in
            let m' : record { term = length terms; place = c - length ms } ≡ m = cc in
            subst (Right c) m' (right_new c (c - length ms) p k))
      ]

  abbrev All : ℕ → ℕ → Type 0
  All t i = (c : ℕ) × (c < length (owners ++ term.args)) × (get_or (ms ++ ns) c None ≡ Some (record { term = t; place = i }))

  all_old : (t i : ℕ) → t < length terms → i < length (term_at terms t).args → All t i
  all_old t i l k = let w = g.all t i l k in let wl = w.1 in (w.0, omega (arith, length-append owners term.args), old_place w.0 (rw g.cells wl) ∙ w.2)

  all_new : (i : ℕ) → i < length term.args → All (length terms) i
  all_new i l = (length ms + i, omega (arith, length-append owners term.args, g.cells), new_place i l)

  all_made : (t i : ℕ) → t < length (terms ++ term ∷ []) → i < length (term_at (terms ++ term ∷ []) t).args → All t i
  all_made t i l k = elim (cases_eq t (length terms)) [
    | inl e ↦ subst (λ z. All z i) (sym e) (all_new i (rw new_term at (subst (λ z. i < length (term_at (terms ++ term ∷ []) z).args) e k)))
    | inr n ↦ (let s : t < length terms = omega (arith, n, length_push terms term) in all_old t i s (rw (old_term t s) at k))
  ]

  -- a mention is an old one, or one of the new term
  old_or_new : (c : ℕ) (m : Mention) → get_or (ms ++ ns) c None ≡ Some m → ((m.term < length terms) × (get_or ms c None ≡ Some m)) ⊎ ((m.term ≡ length terms) × (c ≡ length ms + m.place))
  old_or_new c m e =
      let l = mention_in (ms ++ ns) c m e in
      elim (cases_lt c (length ms)) [
        | inl s ↦ inl ((g.right c m (sym (old_place c s) ∙ e)).0, sym (old_place c s) ∙ e)
        | inr s ↦ (
            let k : c - length ms < length term.args = omega (arith, l, length-append ms ns, ns-length) in
            let p : c ≡ length ms + (c - length ms) = omega arith in
            let q : Some (record { term = length terms; place = c - length ms }) ≡ Some m = sym (ap (λ z. get_or (ms ++ ns) z None) p ∙ new_place (c - length ms) k) ∙ e in
            let m' : record { term = length terms; place = c - length ms } ≡ m = cc in
            inr (sym (ap (λ x. x.term) m'), p ∙ ap (λ x. length ms + x.place) m'))
      ]

  once_made : (c d : ℕ) (m : Mention) → get_or (ms ++ ns) c None ≡ Some m → get_or (ms ++ ns) d None ≡ Some m → c ≡ d
  once_made c d m e f = elim (old_or_new c m e) [
    | inl p ↦ elim (old_or_new d m f) [ inl q ↦ g.once c d m p.1 q.1 | inr q ↦ absurd (let a = p.0 in let b = q.0 in omega arith) ]
    | inr p ↦ elim (old_or_new d m f) [ inl q ↦ absurd (let a = p.0 in let b = q.0 in omega arith) | inr q ↦ p.1 ∙ sym q.1 ]
  ]

  bare_made : (c : ℕ) → c < length (owners ++ term.args) → get_or (ms ++ ns) c None ≡ None → get_or heads (get_or (owners ++ term.args) c 0) 0 ≡ c
  bare_made c l e = elim (cases_lt c (length ms)) [
    | inl s ↦ ap (λ z. get_or heads z 0) (old_owner c (rw (← g.cells) s)) ∙ g.bare c (rw (← g.cells) s) (sym (old_place c s) ∙ e)
    | inr s ↦ (
        let k : c - length ms < length term.args = omega (arith, l, length-append owners term.args, g.cells) in
        let p : c ≡ length ms + (c - length ms) = omega arith in
        let q : get_or (ms ++ ns) c None ≡ Some (record { term = length terms; place = c - length ms }) = ap (λ z. get_or (ms ++ ns) z None) p ∙ new_place (c - length ms) k in
        absurd (cc))
  ]

  pub mentioned_made : AreMentioned heads (owners ++ term.args) (terms ++ term ∷ []) (ms ++ mentions_of (mentions (length terms) 0 term.args))
  mentioned_made = record {
    cells = omega (arith, length-append ms ns, length-append owners term.args, ns-length, g.cells);
    own = λ v l. old_place (get_or heads v 0) (inside v l) ∙ g.own v l;
    bare = bare_made;
    right = right_made;
    all = all_made;
    once = once_made;
  }

-- the table with the new term
module _ (b : List Bound) (terms : List Made) (entries : List (Key × ℕ)) (h : IsShared b terms entries) (symbol : Symbol) (keys : List ℕ)
    (roots : AreRoots b keys) (key : Key) (ks : key.sign ≡ sign_of symbol) (ka : key.args.items ≡ keys) (absent : shared_at entries symbol keys ≡ None) where
  abbrev term : Made
  term = record { symbol = symbol; args = keys }

  abbrev entry : Key × ℕ
  entry = (key, length terms)

  roots_same : (xs : List ℕ) → AreRoots b xs → map (root b) xs ≡ xs
  roots_same [] k = refl
  roots_same (x ∷ xs) k = let e = root_of_root b x k.0.1 in let r : map (root b) xs ≡ xs = roots_same xs k.1 in rw (e, r) refl

  has_old : (s : Symbol) (xs : List ℕ) (t : ℕ) → HasKey b terms s xs t → HasKey b (terms ++ term ∷ []) s xs t
  has_old s xs t k =
      let e : term_at (terms ++ term ∷ []) t ≡ term_at terms t = get_or_append_left terms (term ∷ []) no_term t k.within in
      let w = k.within in
      record { within = omega (arith, length_push terms term); sign = ap (λ z. z.symbol) e ∙ k.sign; args = ap (λ z. map (root b) z.args) e ∙ k.args }

  last_term : term_at (terms ++ term ∷ []) (length terms) ≡ term
  last_term = get_or_push terms term no_term (length terms) refl

  has_new : HasKey b (terms ++ term ∷ []) symbol keys (length terms)
  has_new = record { within = omega (arith, length_push terms term); sign = ap (λ z. z.symbol) last_term; args = ap (λ z. map (root b) z.args) last_term ∙ roots_same keys roots }

  -- a term with the key is an old one, or the new one
  has_back : (s : Symbol) (xs : List ℕ) (t : ℕ) → HasKey b (terms ++ term ∷ []) s xs t → (t ≢ length terms) → HasKey b terms s xs t
  has_back s xs t k n =
      let l : t < length terms = omega (arith, n, k.within, length_push terms term) in
      let e : term_at (terms ++ term ∷ []) t ≡ term_at terms t = get_or_append_left terms (term ∷ []) no_term t l in
      record { within = l; sign = sym (ap (λ z. z.symbol) e) ∙ k.sign; args = sym (ap (λ z. map (root b) z.args) e) ∙ k.args }

  is_new : (s : Symbol) (xs : List ℕ) (t : ℕ) → HasKey b (terms ++ term ∷ []) s xs t → t ≡ length terms → (symbol ≡ s) × (keys ≡ xs)
  is_new s xs t k e =
      let f : term_at (terms ++ term ∷ []) t ≡ term = ap (term_at (terms ++ term ∷ [])) e ∙ last_term in
      (sym (ap (λ z. z.symbol) f) ∙ k.sign, sym (roots_same keys roots) ∙ sym (ap (λ z. map (root b) z.args) f) ∙ k.args)

  leader_old : (s : Symbol) (xs : List ℕ) (m : ℕ) → HasKey b terms s xs m × ((t : ℕ) → HasKey b terms s xs t → m ≤ t) → IsLeader b (terms ++ term ∷ []) s xs (Some m)
  leader_old s xs m k = (
    has_old s xs m k.0,
    λ t p. elim (cases_eq t (length terms)) [
      | inl e ↦ (let w = k.0.within in omega arith)
      | inr n ↦ k.1 t (has_back s xs t p n)
    ],
  )

  leader_at : (s : Symbol) (xs : List ℕ) (o : Option ℕ) → shared_at entries s xs ≡ o → IsLeader b terms s xs o
      → IsLeader b (terms ++ term ∷ []) s xs (shared_at (entries ++ entry ∷ []) s xs)
  leader_at s xs (Some m) e k = subst (IsLeader b (terms ++ term ∷ []) s xs) (sym (lookup_old (is_key_of (sign_of s) xs) entries (entry ∷ []) m e)) (leader_old s xs m k)
  leader_at s xs None e k = subst (IsLeader b (terms ++ term ∷ []) s xs) (sym (lookup_new (is_key_of (sign_of s) xs) entries (entry ∷ []) e)) (elim (true_or_false (is_key_of (sign_of s) xs key)) [
    | inl t ↦ (
        let w = key_tells (sign_of s) xs key t in
        let p : symbol ≡ s = sym (sign_once s symbol (w.0 ∙ ks)) in
        let q : keys ≡ xs = sym (w.1 ∙ ka) in
        rw t (
          subst (λ z. HasKey b (terms ++ term ∷ []) z xs (length terms)) p (subst (λ z. HasKey b (terms ++ term ∷ []) symbol z (length terms)) q has_new),
          λ u r. elim (cases_eq u (length terms)) [ inl i ↦ omega arith | inr n ↦ absurd (k u (has_back s xs u r n)) ],
        ))
    | inr f ↦ rw f (λ u r. elim (cases_eq u (length terms)) [
      | inl i ↦ (
          let w = is_new s xs u r i in
          let t : is_key_of (sign_of s) xs key ≡ true = key_same (sign_of s) xs key (sym (ks ∙ ap sign_of w.0)) (sym (ka ∙ w.1)) in
          absurd (cc))
      | inr n ↦ k u (has_back s xs u r n)
    ])
  ])

  pub shared_made : IsShared b (terms ++ term ∷ []) (entries ++ entry ∷ [])
  shared_made = record {
    leaders = λ s xs k. leader_at s xs (shared_at entries s xs) refl (h.leaders s xs k);
    keys = all_pushed (λ (e : Key × ℕ). AllByRecursion (λ x. x < length b) e.0.args.items) entries entry h.keys
        (subst (AllByRecursion (λ x. x < length b)) (sym ka) (all_each (λ x. (x < length b) × (target_of b x ≡ None)) (λ x. x < length b) (λ x p. p.0) keys roots));
  }
