-- A search along the terms of a graph: what holds of it at each turn, and what it finds.
use Rattle.std.proofs.Common.{ℕ, ◌≡◌, ◌<◌, ◌+◌, ◌-◌, ◌*◌, List, [], ◌∷◌, ◌++◌, true, false, nat_eq, length, map, Some, None, refl, sym, ap, ◌∙◌, subst, arith, inl, inr, ◌⊎◌}
use Rattle.std.specs.Prelude.{slice_index, Contains, Option}
use Rattle.std.specs.Option.{IsSome}
use Rattle.std.specs.List.{IsDistinct}
use Rattle.std.specs.Map.{keys_of}
use Rattle.std.proofs.lemmas.Bool.{cases_eq, cases_lt}
use Rattle.std.proofs.lemmas.List.{length-append, length-map}
use Rattle.std.proofs.lemmas.List.Elements.{Contains-push}
use Rattle.std.proofs.lemmas.Map.{keys-set_value, length-set_value}
use Rattle.tree_model.specs.declared.tree.Symbol.{Symbol}
use Rattle.flat_form.specs.declared.atom.Flat.TheVariants.{VarVar, VarTerm}
use Rattle.flat_facts.specs.Spread.{IsTarget, Leads, stays, IsLeastRound}
use Rattle.term_graph.specs.Contents.{Contents, root, term_at}
use Rattle.settled_facts.specs.Settled.{name, IsShaped, HasTermIn}
use Rattle.settled_facts.specs.Forms.{equations_of}
use Rattle.settled_facts.proofs.Equations.{equations_there}
use Rattle.settled_facts.proofs.ReadOff.{name_within}
use Rattle.settled_facts.proofs.Terms.{one_term, named_at}
use Rattle.finiteness.specs.declared.visits.Stage.{Stage}
use Rattle.finiteness.specs.declared.visits.Stage.TheVariants.{Open, Done}
use Rattle.finiteness.specs.declared.walks.Turn.{Turn}
use Rattle.finiteness.specs.Found.{Reaches}
use Rattle.finiteness.specs.Stages.{stage_of, IsDone, AllAreDone, IsNext}
use Rattle.finiteness.specs.Walked.{AreMet}
use Rattle.finiteness.proofs.Chains.{IsShown, HaveOneTerm, settled_lead}
use Rattle.finiteness.proofs.Turning.{IsSearch, IsTurn, search_begins, search_leads, search_round, search_on, search_back, search_end, shown_more}
use Rattle.finiteness.proofs.Staging.{IsBegun, begun_apart, met_key, key_met, few_met, begun, begun_here, begun_still, begun_before, begun_keys, finished, finished_here, finished_aside}

abbrev argument_of : Turn → ℕ
argument_of turn = turn.argument

abbrev IsAt : Turn → ℕ → Type 0
IsAt turn w = turn.class ≡ w

abbrev pub arguments_of : List Turn → List ℕ
arguments_of walk = map argument_of walk

-- the search that begins at the class
abbrev SearchAt : Contents → ℕ → List (ℕ × Stage) → List Turn → Turn → Type 0
SearchAt c start visits walk top = IsSearch (equations_of c) Turn argument_of IsAt start (IsDone visits) (IsBegun visits) walk top

-- what holds at each turn
pub record IsWalking (c : Contents) (start : ℕ) (visits : List (ℕ × Stage)) (walk : List Turn) (top : Turn) : Type 0 where
  pub search : SearchAt c start visits walk top
  pub reached : (w : ℕ) → Contains (keys_of visits) w → Reaches (equations_of c) start w
  pub within : (w : ℕ) → Contains (keys_of visits) w → w < length c.bindings
  pub once : IsDistinct nat_eq (keys_of visits)

one_term_each : (c : Contents) → IsShaped c → HaveOneTerm (equations_of c)
one_term_each c shaped u s t xs ys i j =
    let there = equations_there c shaped in (one_term c u s t xs ys (there.each (VarTerm u s xs) i) (there.each (VarTerm u t ys) j)).1

-- a variable's target is its class
pub named_target : (c : Contents) → IsShaped c → (v : ℕ) → IsTarget (equations_of c) v (name c v)
named_target c shaped v = let there = equations_there c shaped in elim (cases_eq v (name c v)) [
  | inl e ↦ inr (e, λ q i. let f = there.each (VarVar v q) i in f.1 (e ∙ f.0))
  | inr n ↦ inl (there.all (VarVar v (name c v)) (refl, n))
]

pub target_named : (c : Contents) → IsShaped c → (v other : ℕ) → IsTarget (equations_of c) v other → other ≡ name c v
target_named c shaped v other (inl i) = let there = equations_there c shaped in sym (there.each (VarVar v other) i).0
target_named c shaped v other (inr own) = let there = equations_there c shaped in elim (cases_eq v (name c v)) [
  | inl e ↦ sym own.0 ∙ e
  | inr n ↦ absurd (own.1 (name c v) (there.all (VarVar v (name c v)) (refl, n)))
]

-- a walk leads to the top class
top_reached : (c : Contents) (start : ℕ) (visits : List (ℕ × Stage)) (walk : List Turn) (top : Turn) → SearchAt c start visits walk top → Reaches (equations_of c) start top.class
top_reached c start visits walk top search = (
  arguments_of walk,
  search.front,
  subst (λ z. Leads (equations_of c) start (arguments_of walk) search.front z) (sym search.here)
      (search_leads (equations_of c) Turn argument_of IsAt start (IsDone visits) (IsBegun visits) walk top search),
)

-- the argument to which a turn leads is a class that there is
further_within : (c : Contents) → IsShaped c → (visits : List (ℕ × Stage)) (top next : Turn) → IsNext c visits top next → next.class < length c.bindings
further_within c shaped visits top next is =
    let args : List ℕ = (term_at c.terms is.term.term).args in
    let l : next.argument < length args = omega (arith, is.within, ap length is.term.key.args, length-map args (root c.bindings)) in
    let e : name c (slice_index args next.argument) ≡ next.class =
    sym (named_at c args next.argument l) ∙ ap (λ (z : List ℕ). slice_index z next.argument) is.term.key.args ∙ is.class in
    subst (λ z. z < length c.bindings) e (name_within c shaped (slice_index args next.argument) (shaped.arguments is.term.term next.argument is.term.key.within l))

-- at first
pub walking_begins : (c : Contents) (start : ℕ) → start < length c.bindings → (old visits : List (ℕ × Stage)) → old ≡ [] → visits ≡ old ++ (start, Open) ∷ []
    → IsDistinct nat_eq (keys_of visits) → (walk : List Turn) → walk ≡ [] → IsWalking c start visits walk (record { class = start; argument = 0 })
walking_begins c start within old visits none is once walk empty =
    let first : visits ≡ begun [] start = is ∙ ap (λ z. z ++ (start, Open) ∷ []) none in
    let only : (w : ℕ) (m : Stage) → stage_of visits w ≡ Some m → (w ≡ start) × (m ≡ Open) =
    λ w m e. elim (begun_before [] start w m (subst (λ z. stage_of z w ≡ Some m) first e)) [ inl f ↦ f | inr f ↦ absurd (let g : None ≡ Some m = f in cc) ] in
    let keys : (w : ℕ) → Contains (keys_of visits) w → start ≡ w =
    λ w i. elim (key_met visits w i) [ inl b ↦ sym (only w Open b).0 | inr d ↦ sym (only w Done d).0 ] in
    subst (λ z. IsWalking c start visits z (record { class = start; argument = 0 })) (sym empty) (record {
      search = search_begins (equations_of c) Turn argument_of IsAt start (IsDone visits) (IsBegun visits) (record { class = start; argument = 0 }) refl refl
          (record {
            closed = λ u s xs stands d. absurd (let e : Done ≡ Open = (only u Done d).1 in cc);
            ends = λ u d. absurd (let e : Done ≡ Open = (only u Done d).1 in cc);
          })
          (λ w b. (only w Open b).0)
          (subst (λ z. IsBegun z start) (sym first) (begun_here [] start refl));
      reached = λ w i. subst (Reaches (equations_of c) start) (keys w i) ([], [], stays start);
      within = λ w i. subst (λ z. z < length c.bindings) (keys w i) within;
      once = once;
    })

module _ (c : Contents) (shaped : IsShaped c) (start : ℕ) (visits : List (ℕ × Stage)) (walk : List Turn) (top : Turn) (walking : IsWalking c start visits walk top) where
  abbrev search : SearchAt c start visits walk top
  search = walking.search

  pub top_begun : IsBegun visits top.class
  top_begun = subst (IsBegun visits) (sym search.here) (search.on search.last (Contains-push search.front search.last))

  pub top_within : top.class < length c.bindings
  top_within = walking.within top.class (met_key visits top.class Open top_begun)

  module _ (next : Turn) (is : IsNext c visits top next) where
    abbrev turn : Turn
    turn = record { class = top.class; argument = next.argument }

    turn_is : IsTurn (equations_of c) Turn argument_of IsAt start (IsDone visits) (IsBegun visits) walk top search turn next.class
    turn_is =
        let stands : Contains (equations_of c) (VarTerm search.last is.symbol is.arguments) =
        subst (λ z. Contains (equations_of c) (VarTerm z is.symbol is.arguments)) search.here
        ((equations_there c shaped).all (VarTerm top.class is.symbol is.arguments) is.term) in
        record {
          symbol = is.symbol;
          xs = is.arguments;
          stands = stands;
          here = search.here;
          within = is.within;
          further_is = is.class;
          passed = λ i l. elim (cases_lt i top.argument) [
            | inl m ↦ search.passed is.symbol is.arguments stands i m (omega (arith, l, is.within))
            | inr m ↦ is.passed is.symbol is.arguments is.term i m l (omega (arith, l, is.within))
          ];
        }

    -- where the next class stands on the walk, this is the least walk that comes round
    pub walking_round : IsSome (stage_of visits next.class) → (v : ℕ) → name c v ≡ start → IsLeastRound (equations_of c) v (arguments_of (walk ++ turn ∷ []))
    walking_round met v named = by_stage (stage_of visits next.class) refl
      where
        by_stage : (o : Option Stage) → stage_of visits next.class ≡ o → IsLeastRound (equations_of c) v (arguments_of (walk ++ turn ∷ []))
        by_stage None e = absurd (let there : IsSome (stage_of visits next.class) = met in let f : false ≡ true = rw e at there in cc)
        by_stage (Some Done) e = absurd (is.waits e)
        by_stage (Some Open) e =
            search_round (equations_of c) Turn argument_of IsAt start (IsDone visits) (IsBegun visits) walk top search (one_term_each c shaped) (begun_apart visits) v
            (subst (IsTarget (equations_of c) v) named (named_target c shaped v)) (λ other t. target_named c shaped v other t ∙ named) turn next.class turn_is e

    -- where it is new, the walk goes on to it
    pub walking_on : stage_of visits next.class ≡ None → (after : List (ℕ × Stage)) → after ≡ visits ++ (next.class, Open) ∷ [] → IsDistinct nat_eq (keys_of after)
        → (longer : List Turn) → longer ≡ walk ++ turn ∷ [] → IsWalking c start after longer (record { class = next.class; argument = 0 })
    walking_on new after after_is once longer longer_is =
        let is_after : begun visits next.class ≡ after = sym after_is in
        let before : (w : ℕ) (m : Stage) → stage_of after w ≡ Some m → ((w ≡ next.class) × (m ≡ Open)) ⊎ (stage_of visits w ≡ Some m) =
        λ w m e. begun_before visits next.class w m (subst (λ z. stage_of z w ≡ Some m) after_is e) in
        let still : (w : ℕ) (m : Stage) → stage_of visits w ≡ Some m → stage_of after w ≡ Some m =
        λ w m e. subst (λ z. stage_of z w ≡ Some m) is_after (begun_still visits next.class w m e) in
        let fresh : ¬ IsBegun visits next.class = λ b. let f : None ≡ Some Open = sym new ∙ b in cc in
        let before_done : (w : ℕ) → IsDone after w → IsDone visits w =
        λ w d. elim (before w Done d) [ inl e ↦ absurd (let f : Done ≡ Open = e.1 in cc) | inr old ↦ old ] in
        let shown : IsShown (equations_of c) (IsDone after) = record {
          closed = λ u s xs stands d i l. still (slice_index xs i) Done (search.shown.closed u s xs stands (before_done u d) i l);
          ends = λ u d. search.shown.ends u (before_done u d);
        } in
        let on : SearchAt c start after (walk ++ turn ∷ []) (record { class = next.class; argument = 0 }) =
        search_on (equations_of c) Turn argument_of IsAt start (IsDone visits) (IsBegun visits) walk top search (IsDone after) (IsBegun after) shown (λ w d. still w Done d)
        turn (record { class = next.class; argument = 0 }) next.class turn_is refl refl fresh
        (λ w b. elim (before w Open b) [ inl e ↦ inl e.0 | inr old ↦ inr old ]) (λ w b. still w Open b)
        (subst (λ z. IsBegun z next.class) is_after (begun_here visits next.class new)) in
        subst (λ z. IsWalking c start after z (record { class = next.class; argument = 0 })) (sym longer_is) (record {
          search = on;
          reached = λ w i. elim (begun_keys visits next.class w (subst (λ z. Contains (keys_of z) w) after_is i)) [
            | inl e ↦ subst (Reaches (equations_of c) start) (sym e) (top_reached c start after (walk ++ turn ∷ []) (record { class = next.class; argument = 0 }) on)
            | inr old ↦ walking.reached w old
          ];
          within = λ w i. elim (begun_keys visits next.class w (subst (λ z. Contains (keys_of z) w) after_is i)) [
            | inl e ↦ subst (λ z. z < length c.bindings) (sym e) (further_within c shaped visits top next is)
            | inr old ↦ walking.within w old
          ];
          once = once;
        })

    pub lighter_on : (after : List (ℕ × Stage)) → after ≡ visits ++ (next.class, Open) ∷ [] → IsDistinct nat_eq (keys_of after)
        → (longer : List Turn) → longer ≡ walk ++ turn ∷ []
        → 2 * (length c.bindings - length after) + length longer < 2 * (length c.bindings - length visits) + length walk
    lighter_on after after_is once longer longer_is =
        let within : (w : ℕ) → Contains (keys_of after) w → w < length c.bindings =
        λ w i. elim (begun_keys visits next.class w (subst (λ z. Contains (keys_of z) w) after_is i)) [
          | inl e ↦ subst (λ z. z < length c.bindings) (sym e) (further_within c shaped visits top next is)
          | inr old ↦ walking.within w old
        ] in
        omega (arith, few_met after (length c.bindings) once within, ap length after_is, length-append visits ((next.class, Open) ∷ []), ap length longer_is, length-append walk (turn ∷ []))

  -- all arguments of the top class are done
  module _ (all : AllAreDone c visits top) where
    each : (s : Symbol) (xs : List ℕ) → Contains (equations_of c) (VarTerm search.last s xs) → (i : ℕ) → i < length xs → IsDone visits (slice_index xs i)
    each s xs stands i l = elim (cases_lt i top.argument) [
      | inl m ↦ search.passed s xs stands i m l
      | inr m ↦ all (i + 1) s xs (subst (λ z. HasTermIn c z s xs) (sym search.here) ((equations_there c shaped).each (VarTerm search.last s xs) stands)) i m (omega arith) l
    ]

    module _ (after : List (ℕ × Stage)) (after_is : after ≡ finished visits top.class) where
      is_here : IsDone after top.class
      is_here = subst (λ z. IsDone z top.class) (sym after_is) (finished_here visits top.class top_begun)

      aside : (w : ℕ) → ¬ (w ≡ top.class) → stage_of after w ≡ stage_of visits w
      aside w n = ap (λ z. stage_of z w) after_is ∙ finished_aside visits top.class top_begun w n

      kept : (w : ℕ) → IsDone visits w → IsDone after w
      kept w d = elim (cases_eq w top.class) [
        | inl e ↦ subst (IsDone after) (sym e) is_here
        | inr n ↦ aside w n ∙ d
      ]

      new : (w : ℕ) → IsDone after w → (w ≡ search.last) ⊎ IsDone visits w
      new w d = elim (cases_eq w top.class) [
        | inl e ↦ inl (e ∙ search.here)
        | inr n ↦ inr (sym (aside w n) ∙ d)
      ]

      keys : keys_of after ≡ keys_of visits
      keys = ap keys_of after_is ∙ keys-set_value (nat_eq top.class) visits Done

      -- the walk goes back to its last turn
      pub walking_back : (shorter : List Turn) (at : Turn) → walk ≡ shorter ++ at ∷ [] → IsWalking c start after shorter at
      walking_back shorter at e = record {
        search = search_back (equations_of c) Turn argument_of IsAt start (IsDone visits) (IsBegun visits) walk top search (IsDone after) (IsBegun after) kept new each
            (λ w b. elim (cases_eq w top.class) [
              | inl f ↦ absurd (let g : Some Open ≡ Some Done = sym b ∙ ap (stage_of after) f ∙ is_here in cc)
              | inr n ↦ (sym (aside w n) ∙ b, λ f. n (f ∙ sym search.here))
            ])
            (λ w b n. aside w (λ f. n (f ∙ search.here)) ∙ b)
            (one_term_each c shaped) shorter at e;
        reached = λ w i. walking.reached w (subst (λ z. Contains z w) keys i);
        within = λ w i. walking.within w (subst (λ z. Contains z w) keys i);
        once = subst (IsDistinct nat_eq) (sym keys) walking.once;
      }

      pub lighter_back : (shorter : List Turn) (at : Turn) → walk ≡ shorter ++ at ∷ []
          → 2 * (length c.bindings - length after) + length shorter < 2 * (length c.bindings - length visits) + length walk
      lighter_back shorter at e =
          omega (arith, ap length after_is, length-set_value (nat_eq top.class) visits Done, ap length e, length-append shorter (at ∷ []))

      -- with no turn left, all walks end, and these are the classes that they meet
      pub walking_ends : walk ≡ [] → AreMet c start (keys_of after)
      walking_ends e =
          let shown : IsShown (equations_of c) (IsDone after) =
          shown_more (equations_of c) Turn argument_of IsAt start (IsDone visits) (IsBegun visits) walk top search (IsDone after) (IsBegun after) kept new each in
          let first : IsDone after start =
          subst (IsDone after) (search.here ∙ sym (search_end (equations_of c) Turn argument_of IsAt start (IsDone visits) (IsBegun visits) walk top search e)) is_here in
          record {
            ends = shown.ends start first;
            within = λ u i. walking.within u (subst (λ z. Contains z u) keys i);
            met = λ u. (
              λ i. walking.reached u (subst (λ z. Contains z u) keys i),
              λ (path, before, on). met_key after u Done (settled_lead (equations_of c) (IsDone after) shown start u path before on first),
            );
          }
