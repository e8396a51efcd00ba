-- A search along the equations of a conjunction: what holds of it at each turn, and how it goes on.
use Rattle.std.proofs.Common.{ℕ, ◌≡◌, ◌<◌, ◌≤◌, ◌+◌, ◌*◌, List, [], ◌∷◌, ◌++◌, length, map, get_or, refl, sym, ap, ◌∙◌, subst, arith, inl, inr, ◌⊎◌}
use Rattle.std.specs.Prelude.{slice_index, slice_set, Contains, sum_by}
use Rattle.std.proofs.lemmas.Bool.{cases_lt}
use Rattle.std.proofs.lemmas.List.{length-set, length-append, length-replicate, get_or-replicate}
use Rattle.std.proofs.lemmas.List.Elements.{Contains-push}
use Rattle.std.proofs.lemmas.List.Sums.{sum_by-set}
use lib.ListN.{replicate}
use Rattle.tree_model.specs.declared.tree.Symbol.{Symbol}
use Rattle.flat_form.specs.declared.atom.Flat.{Flat}
use Rattle.flat_form.specs.declared.atom.Flat.TheVariants.{VarTerm}
use Rattle.flat_form.specs.Solved.{Ascends}
use Rattle.flat_facts.specs.Spread.{IsTarget, IsLeastRound}
use Rattle.flat_facts.proofs.Lists.{one_each}
use Rattle.settled_facts.specs.Ends.{ends}
use Rattle.finiteness.specs.declared.search.Mark.{Mark}
use Rattle.finiteness.specs.declared.search.Mark.TheVariants.{New, Open, Done}
use Rattle.finiteness.specs.declared.search.Turn.{Turn}
use Rattle.finiteness.specs.Places.{HasTermAt}
use Rattle.finiteness.specs.Marks.{HasMark, IsMarked, IsSettled, AllAreSettled, IsOnward}
use Rattle.finiteness.specs.Found.{Reaches, AreDone}
use Rattle.finiteness.proofs.Standing.{in_list, term_in, one_term_place, one_target}
use Rattle.finiteness.proofs.Marking.{mark_read, one_marked, marked_here, marked_aside, marked_before}
use Rattle.finiteness.proofs.Chains.{IsShown, HaveOneTerm, settled_clean}
use Rattle.finiteness.proofs.Turning as turning
use Rattle.finiteness.proofs.Turning.{IsTurn, search_leads, search_round, search_on, search_back, search_end, shown_more}

abbrev argument_of : Turn → ℕ
argument_of turn = turn.argument

abbrev pub arguments_of : List Turn → List ℕ
arguments_of walk = map argument_of walk

abbrev IsAt : List Flat → Turn → ℕ → Type 0
IsAt basic turn u = HasTermAt basic turn.place u

-- the walk at hand leads to the top term, past settled arguments; its variables are those with an open mark
pub record IsSearch (basic : List Flat) (start : ℕ) (marks : List Mark) (walk : List Turn) (top : Turn) : Type 0 where
  pub size : length marks ≡ length basic
  pub reached : (u : ℕ) → IsMarked basic marks Done u → Reaches basic start u
  pub search : turning.IsSearch basic Turn argument_of (IsAt basic) start (IsSettled basic marks) (IsMarked basic marks Open) walk top

one_term : (basic : List Flat) → Ascends basic → HaveOneTerm basic
one_term basic up u s t xs ys i j = let e : VarTerm u s xs ≡ VarTerm u t ys = one_each basic up (VarTerm u s xs) (VarTerm u t ys) i j refl in cc

-- an open one is not settled
open_unsettled : (basic : List Flat) → Ascends basic → (marks : List Mark) (w : ℕ) → IsMarked basic marks Open w → ¬ IsSettled basic marks w
open_unsettled basic up marks w m (inl none) = none (term_in basic m.0 w m.1)
open_unsettled basic up marks w m (inr d) = let e : Open ≡ Done = one_marked basic up marks Open Done w m d in cc

module _ (basic : List Flat) (up : Ascends basic) (marks : List Mark) (size : length marks ≡ length basic) where
  module _ (place u : ℕ) (here : HasTermAt basic place u) where
    within : place < length marks
    within = let (s, xs, p) = here in omega (arith, size, p.0)

    -- a mark that is set on a term that is not done keeps what is settled
    settled_kept : (old mark : Mark) → HasMark marks place old → ¬ (Done ≡ old) → (w : ℕ) → IsSettled basic marks w
        → IsSettled basic (slice_set marks place mark) w
    settled_kept old mark h new w (inl none) = inl none
    settled_kept old mark h new w (inr d) = inr (marked_aside basic up marks place u mark here within Done w
        (λ e. new (one_marked basic up marks Done old u (subst (λ z. IsMarked basic marks Done z) e d) (place, here, h))) d)

    -- where an open mark is set, what is done was done
    done_before : (w : ℕ) → IsMarked basic (slice_set marks place Open) Done w → IsMarked basic marks Done w
    done_before w m = elim (marked_before basic up marks place u Open here within Done w m) [
      | inl e ↦ let differs : Done ≡ Open = e.1 in cc
      | inr d ↦ d
    ]

    same_shown : (old : Mark) → HasMark marks place old → ¬ (Done ≡ old) → IsShown basic (IsSettled basic marks) → IsShown basic (IsSettled basic (slice_set marks place Open))
    same_shown old h new shown =
        let before : (w : ℕ) → IsSettled basic (slice_set marks place Open) w → IsSettled basic marks w =
        λ w k. elim k [ inl none ↦ inl none | inr d ↦ inr (done_before w d) ] in
        record {
          closed = λ w s xs stands k i l. settled_kept old Open h new (slice_index xs i) (shown.closed w s xs stands (before w k) i l);
          ends = λ w k. shown.ends w (before w k);
        }

  module _ (start : ℕ) (walk : List Turn) (top : Turn) (all : IsSearch basic start marks walk top) where
    abbrev search : turning.IsSearch basic Turn argument_of (IsAt basic) start (IsSettled basic marks) (IsMarked basic marks Open) walk top
    search = all.search

    last_open : IsMarked basic marks Open search.last
    last_open = search.on search.last (Contains-push search.front search.last)

    module _ (next : Turn) (onward : IsOnward basic marks top next) where
      abbrev turn : Turn
      turn = record { place = top.place; argument = next.argument }

      abbrev further : ℕ
      further = slice_index search.here.1 next.argument

      leads : (next.argument < length search.here.1) × HasTermAt basic next.place further
      leads = onward.leads search.last search.here.0 search.here.1 search.here.2

      turn_is : IsTurn basic Turn argument_of (IsAt basic) start (IsSettled basic marks) (IsMarked basic marks Open) walk top search turn further
      turn_is =
          let stands : Contains basic (VarTerm search.last search.here.0 search.here.1) = in_list basic top.place (VarTerm search.last search.here.0 search.here.1) search.here.2 in
          record {
            symbol = search.here.0;
            xs = search.here.1;
            stands = stands;
            here = search.here;
            within = leads.0;
            further_is = refl;
            passed = λ i l. elim (cases_lt i top.argument) [
              | inl m ↦ search.passed search.here.0 search.here.1 stands i m (omega (arith, l, leads.0))
              | inr m ↦ onward.passed search.last search.here.0 search.here.1 search.here.2 i m l (omega (arith, l, leads.0))
            ];
          }

      -- where the next term is open, this is the least walk that comes round
      pub turns_round : HasMark marks next.place Open → (v : ℕ) → IsTarget basic v start → IsLeastRound basic v (arguments_of (walk ++ turn ∷ []))
      turns_round h v target =
          search_round basic Turn argument_of (IsAt basic) start (IsSettled basic marks) (IsMarked basic marks Open) walk top search (one_term basic up) (open_unsettled basic up marks) v target
          (λ other t. one_target basic up v other start t target) turn further turn_is (next.place, leads.1, h)

      -- where it is new, the walk goes on to it
      pub turns_on : HasMark marks next.place New
          → IsSearch basic start (slice_set marks next.place Open) (walk ++ turn ∷ []) (record { place = next.place; argument = 0 })
      turns_on h =
          let after : List Mark = slice_set marks next.place Open in
          let new : ¬ (Done ≡ New) = λ e. cc in
          let kept : (w : ℕ) → IsSettled basic marks w → IsSettled basic after w = settled_kept next.place further leads.1 New Open h new in
          let fresh : ¬ IsMarked basic marks Open further =
          λ m. let e : Open ≡ New = one_marked basic up marks Open New further m (next.place, leads.1, h) in cc in
          record {
            size = length-set marks next.place Open ∙ size;
            reached = λ w d. all.reached w (done_before next.place further leads.1 w d);
            search = search_on basic Turn argument_of (IsAt basic) start (IsSettled basic marks) (IsMarked basic marks Open) walk top search (IsSettled basic after) (IsMarked basic after Open)
                (same_shown next.place further leads.1 New h new search.shown) kept turn (record { place = next.place; argument = 0 }) further turn_is leads.1 refl fresh
                (λ w m. elim (marked_before basic up marks next.place further Open leads.1 h.0 Open w m) [ inl e ↦ inl e.0 | inr d ↦ inr d ])
                (λ w m. marked_aside basic up marks next.place further Open leads.1 h.0 Open w (λ e. fresh (subst (λ z. IsMarked basic marks Open z) e m)) m)
                (marked_here basic up marks next.place further Open leads.1 h.0);
          }

    module _ (settled : AllAreSettled basic marks top) where
      each : (s : Symbol) (ys : List ℕ) → Contains basic (VarTerm search.last s ys) → (i : ℕ) → i < length ys → IsSettled basic marks (slice_index ys i)
      each s ys stands i l =
          let same : search.here.1 ≡ ys =
          one_term basic up search.last search.here.0 s search.here.1 ys (in_list basic top.place (VarTerm search.last search.here.0 search.here.1) search.here.2) stands in
          elim (cases_lt i top.argument) [
            | inl k ↦ search.passed s ys stands i k l
            | inr k ↦ subst (λ (zs : List ℕ). IsSettled basic marks (slice_index zs i)) same
                (settled (i + 1) search.last search.here.0 search.here.1 search.here.2 i k (omega arith) (omega (arith, l, ap length same)))
          ]

      inside : top.place < length marks
      inside = omega (arith, size, search.here.2.0)

      top_open : HasMark marks top.place Open
      top_open = let (q, t, h) = last_open in subst (λ z. HasMark marks z Open) (one_term_place basic up q top.place search.last t search.here) h

      abbrev after : List Mark
      after = slice_set marks top.place Done

      kept : (w : ℕ) → IsSettled basic marks w → IsSettled basic after w
      kept = let new : ¬ (Done ≡ Open) = λ e. cc in settled_kept top.place search.last search.here Open Done top_open new

      new : (w : ℕ) → IsSettled basic after w → (w ≡ search.last) ⊎ IsSettled basic marks w
      new w (inl none) = inr (inl none)
      new w (inr d) = elim (marked_before basic up marks top.place search.last Done search.here inside Done w d) [ inl e ↦ inl e.0 | inr m ↦ inr (inr m) ]

      last_done : IsMarked basic after Done search.last
      last_done = marked_here basic up marks top.place search.last Done search.here inside

      now_reached : (u : ℕ) → IsMarked basic after Done u → Reaches basic start u
      now_reached u m = elim (marked_before basic up marks top.place search.last Done search.here inside Done u m) [
        | inl e ↦ subst (Reaches basic start) (sym e.0) (
          arguments_of walk,
          search.front,
          search_leads basic Turn argument_of (IsAt basic) start (IsSettled basic marks) (IsMarked basic marks Open) walk top search,
        )
        | inr d ↦ all.reached u d
      ]

      shown_now : IsShown basic (IsSettled basic after)
      shown_now =
          shown_more basic Turn argument_of (IsAt basic) start (IsSettled basic marks) (IsMarked basic marks Open) walk top search (IsSettled basic after) (IsMarked basic after Open) kept new each

      -- with the top term done, what is done is closed and clean, and reached
      pub done_more : AreDone basic start after
      done_more = record {
        closed = λ u s xs stands m i l. shown_now.closed u s xs stands (inr m) i l;
        clean = λ u m path before last lead. settled_clean basic (IsSettled basic after) shown_now u last path before lead (inr m);
        reached = now_reached;
      }

      -- the walk goes back to its last turn
      pub turns_back : (shorter : List Turn) (at : Turn) → walk ≡ shorter ++ at ∷ [] → IsSearch basic start after shorter at
      turns_back shorter at e = record {
        size = length-set marks top.place Done ∙ size;
        reached = now_reached;
        search = search_back basic Turn argument_of (IsAt basic) start (IsSettled basic marks) (IsMarked basic marks Open) walk top search (IsSettled basic after) (IsMarked basic after Open)
            kept new each
            (λ w m. elim (marked_before basic up marks top.place search.last Done search.here inside Open w m) [
              | inl f ↦ let differs : Open ≡ Done = f.1 in cc
              | inr d ↦ (d, λ f. let differs : Open ≡ Done = one_marked basic up after Open Done search.last (subst (λ z. IsMarked basic after Open z) f m) last_done in cc)
            ])
            (λ w m n. marked_aside basic up marks top.place search.last Done search.here inside Open w n m)
            (one_term basic up) shorter at e;
      }

      -- with no turn left, the start is done
      pub turns_end : walk ≡ [] → IsMarked basic after Done start
      turns_end e =
          subst (λ z. IsMarked basic after Done z)
          (sym (search_end basic Turn argument_of (IsAt basic) start (IsSettled basic marks) (IsMarked basic marks Open) walk top search e)) last_done

-- at first
module _ (basic : List Flat) (up : Ascends basic) (place start : ℕ) (here : HasTermAt basic place start) where
  abbrev new_marks : List Mark
  new_marks = replicate (length basic) New

  none_marked : (mark : Mark) → ¬ (New ≡ mark) → (w : ℕ) → ¬ IsMarked basic new_marks mark w
  none_marked mark differs w = λ (q, (s, xs, t), h). differs (sym (get_or-replicate (length basic) q New mark t.0) ∙ h.1)

  pub search_begins : IsSearch basic start (slice_set new_marks place Open) [] (record { place = place; argument = 0 })
  search_begins =
      let within : place < length new_marks = omega (arith, here.2.0, length-replicate (length basic) New) in
      let back : (m : Mark) → ¬ (New ≡ m) → (w : ℕ) → IsMarked basic (slice_set new_marks place Open) m w → (w ≡ start) × (m ≡ Open) =
      λ m differs w h. elim (marked_before basic up new_marks place start Open here within m w h) [
        | inl e ↦ e
        | inr d ↦ absurd (none_marked m differs w d)
      ] in
      let none_done : (w : ℕ) → ¬ IsMarked basic (slice_set new_marks place Open) Done w =
      λ w m. let differs : Done ≡ Open = (back Done (λ e. cc) w m).1 in cc in
      record {
        size = length-set new_marks place Open ∙ length-replicate (length basic) New;
        reached = λ u m. absurd (none_done u m);
        search = turning.search_begins basic Turn argument_of (IsAt basic) start (IsSettled basic (slice_set new_marks place Open)) (IsMarked basic (slice_set new_marks place Open) Open)
            (record { place = place; argument = 0 }) here refl
            (record {
              closed = λ u s xs stands k i l. elim k [ inl none ↦ absurd (none (s, xs, stands)) | inr d ↦ absurd (none_done u d) ];
              ends = λ u k. elim k [ inl none ↦ ends u (λ s xs stands i l. absurd (none (s, xs, stands))) | inr d ↦ absurd (none_done u d) ];
            })
            (λ w m. (back Open (λ e. cc) w m).0) (marked_here basic up new_marks place start Open here within);
      }

-- how many marks are new
abbrev is_new : Mark → ℕ
is_new New = 1
is_new Open = 0
is_new Done = 0

abbrev pub count_new : List Mark → ℕ
count_new marks = sum_by is_new marks

pub fewer_new : (marks : List Mark) (p : ℕ) → HasMark marks p New → count_new (slice_set marks p Open) < count_new marks
fewer_new marks p h = omega (arith, sum_by-set is_new marks p Open New h.0, ap is_new h.1)

pub no_more_new : (marks : List Mark) (p : ℕ) → p < length marks → count_new (slice_set marks p Done) ≤ count_new marks
no_more_new marks p w = omega (arith, sum_by-set is_new marks p Done New w)

is_left : (m : Mark) → ¬ (m ≡ Open) → ¬ (m ≡ Done) → m ≡ New
is_left New a b = refl
is_left Open a b = absurd (a refl)
is_left Done a b = absurd (b refl)

-- what was read at a place that is not done is new, where it is not open
pub read_new : (marks : List Mark) (p : ℕ) (x : Mark) → p < length marks → x ≡ get_or marks p x → ¬ (x ≡ Open) → ¬ HasMark marks p Done → HasMark marks p New
read_new marks p x w e a b = mark_read marks p x New w e (is_left x a (λ d. b (mark_read marks p x Done w e d)))

module _ (basic : List Flat) (marks : List Mark) (walk : List Turn) (top next : Turn) where
  -- the next term's place is one of the conjunction
  pub next_within : (start : ℕ) → IsSearch basic start marks walk top → IsOnward basic marks top next → next.place < length basic
  next_within start all onward = (onward.leads all.search.last all.search.here.0 all.search.here.1 all.search.here.2).1.2.0

  pub less_on : (longer : List Turn) (x : Turn) → HasMark marks next.place New → longer ≡ walk ++ x ∷ []
      → 2 * count_new (slice_set marks next.place Open) + length longer < 2 * count_new marks + length walk
  less_on longer x h e = omega (arith, fewer_new marks next.place h, ap length e, length-append walk (x ∷ []))

  pub less_back : (shorter : List Turn) (at : Turn) → top.place < length marks → walk ≡ shorter ++ at ∷ []
      → 2 * count_new (slice_set marks top.place Done) + length shorter < 2 * count_new marks + length walk
  less_back shorter at w e = omega (arith, no_more_new marks top.place w, ap length e, length-append shorter (at ∷ []))
