-- What holds of a search at each turn, and how it goes on.
use Rattle.std.proofs.Common.{ℕ, ◌≡◌, ◌<◌, List, [], ◌∷◌, ◌++◌, length, map, sym, subst, arith, inl, inr, ◌⊎◌}
use Rattle.std.specs.Prelude.{slice_index, Contains}
use Rattle.std.proofs.lemmas.List.Elements.{Contains-append_left, Contains-push, Contains-push_cases}
use Rattle.lists.specs.Distinct.{IsDistinct}
use Rattle.tree_model.specs.declared.tree.Symbol.{Symbol}
use Rattle.flat_form.specs.declared.atom.Flat.{Flat}
use Rattle.flat_form.specs.declared.atom.Flat.TheVariants.{VarTerm}
use Rattle.flat_facts.specs.Spread.{IsTarget, Leads, IsLeastRound}
use Rattle.settled_facts.specs.Ends.{Ends, ends}
use Rattle.finiteness.proofs.Chains.{IsShown, HaveOneTerm, Chain, alone, turns, chain_leads, chain_kept, chain_back, chain_alone, LastTurn, distinct_push, distinct_front, least_round}

module _ (basic : List Flat) (Turn : Type 0) (argument : Turn → ℕ) (IsAt : Turn → ℕ → Type 0) (start : ℕ) where
  -- the walk at hand leads from the start to the top variable, past settled arguments; its variables are those that are open
  pub record IsSearch (Settled Open : ℕ → Type 0) (walk : List Turn) (top : Turn) : Type 0 where
    pub shown : IsShown basic Settled
    pub front : List ℕ
    pub last : ℕ
    pub chain : Chain basic Turn argument IsAt Settled start walk front last
    pub here : IsAt top last
    pub passed : (symbol : Symbol) (xs : List ℕ) → Contains basic (VarTerm last symbol xs) → (i : ℕ) → i < argument top → i < length xs → Settled (slice_index xs i)
    pub apart : IsDistinct (front ++ last ∷ [])
    pub opened : (w : ℕ) → Open w → Contains (front ++ last ∷ []) w
    pub on : (w : ℕ) → Contains (front ++ last ∷ []) w → Open w

  -- the turns of the walk at hand lead to the top variable
  pub search_leads : (Settled Open : ℕ → Type 0) (walk : List Turn) (top : Turn) (search : IsSearch Settled Open walk top)
      → Leads basic start (map argument walk) search.front search.last
  search_leads Settled Open walk top search = chain_leads basic Turn argument IsAt Settled start walk search.front search.last search.chain

  pub search_begins : (Settled Open : ℕ → Type 0) (top : Turn) → IsAt top start → argument top ≡ 0 → IsShown basic Settled
      → ((w : ℕ) → Open w → w ≡ start) → Open start → IsSearch Settled Open [] top
  search_begins Settled Open top here first shown only standing = record {
    shown = shown;
    front = [];
    last = start;
    chain = alone;
    here = here;
    passed = λ s xs stands i l m. absurd (omega (arith, l, first));
    apart = (λ i. omega (arith, i.1), tt);
    opened = λ w h. subst (λ z. Contains (start ∷ []) z) (sym (only w h)) (Contains-push [] start);
    on = λ w i. elim (Contains-push_cases [] start w i) [ inl j ↦ absurd (omega (arith, j.1)) | inr e ↦ subst Open e standing ];
  }

  module _ (Settled Open : ℕ → Type 0) (walk : List Turn) (top : Turn) (search : IsSearch Settled Open walk top) where
    -- the turn is at the top variable, along the first argument that is not settled, and leads to `further`
    pub record IsTurn (turn : Turn) (further : ℕ) : Type 0 where
      pub symbol : Symbol
      pub xs : List ℕ
      pub stands : Contains basic (VarTerm search.last symbol xs)
      pub here : IsAt turn search.last
      pub within : argument turn < length xs
      pub further_is : slice_index xs (argument turn) ≡ further
      pub passed : (i : ℕ) → i < argument turn → Settled (slice_index xs i)

    by_one : (turn : Turn) (further : ℕ) → IsTurn turn further
        → Chain basic Turn argument IsAt Settled start (walk ++ turn ∷ []) (search.front ++ search.last ∷ []) further
    by_one turn further is =
        subst (λ z. Chain basic Turn argument IsAt Settled start (walk ++ turn ∷ []) (search.front ++ search.last ∷ []) z) is.further_is
        (turns walk search.front search.last is.symbol is.xs turn search.chain is.here is.stands is.within is.passed)

    -- where `further` is open, this is the least walk that comes round
    pub search_round : HaveOneTerm basic → ((w : ℕ) → Open w → ¬ Settled w) → (v : ℕ) → IsTarget basic v start
        → ((other : ℕ) → IsTarget basic v other → other ≡ start) → (turn : Turn) (further : ℕ) → IsTurn turn further → Open further
        → IsLeastRound basic v (map argument (walk ++ turn ∷ []))
    search_round one differ v target only turn further is standing =
        least_round basic Turn argument IsAt one Settled search.shown v start target only (walk ++ turn ∷ []) (search.front ++ search.last ∷ []) further
        (by_one turn further is) search.apart (λ w i. differ w (search.on w i)) (search.opened further standing)

    -- where it is new, the walk goes on to it
    pub search_on : (Settled' Open' : ℕ → Type 0) → IsShown basic Settled' → ((w : ℕ) → Settled w → Settled' w)
        → (turn next : Turn) (further : ℕ) → IsTurn turn further → IsAt next further → argument next ≡ 0
        → ¬ Open further → ((w : ℕ) → Open' w → (w ≡ further) ⊎ Open w) → ((w : ℕ) → Open w → Open' w) → Open' further
        → IsSearch Settled' Open' (walk ++ turn ∷ []) next
    search_on Settled' Open' shown kept turn next further is here first fresh before still standing = record {
      shown = shown;
      front = search.front ++ search.last ∷ [];
      last = further;
      chain = chain_kept basic Turn argument IsAt Settled Settled' start kept (walk ++ turn ∷ []) (search.front ++ search.last ∷ []) further (by_one turn further is);
      here = here;
      passed = λ s xs stands i l m. absurd (omega (arith, l, first));
      apart = distinct_push (search.front ++ search.last ∷ []) further search.apart (λ i. fresh (search.on further i));
      opened = λ w h. elim (before w h) [
        | inl e ↦ subst (λ z. Contains ((search.front ++ search.last ∷ []) ++ further ∷ []) z) (sym e) (Contains-push (search.front ++ search.last ∷ []) further)
        | inr o ↦ Contains-append_left (search.front ++ search.last ∷ []) (further ∷ []) w (search.opened w o)
      ];
      on = λ w i. elim (Contains-push_cases (search.front ++ search.last ∷ []) further w i) [
        | inl j ↦ still w (search.on w j)
        | inr e ↦ subst Open' e standing
      ];
    }

    -- where all arguments are settled, the top variable becomes so
    module _ (Settled' Open' : ℕ → Type 0) (kept : (w : ℕ) → Settled w → Settled' w) (new : (w : ℕ) → Settled' w → (w ≡ search.last) ⊎ Settled w)
        (all : (s : Symbol) (xs : List ℕ) → Contains basic (VarTerm search.last s xs) → (i : ℕ) → i < length xs → Settled (slice_index xs i)) where
      pub shown_more : IsShown basic Settled'
      shown_more = record {
        closed = λ u s xs stands h i l. kept (slice_index xs i) (elim (new u h) [
          | inl e ↦ all s xs (subst (λ z. Contains basic (VarTerm z s xs)) e stands) i l
          | inr old ↦ search.shown.closed u s xs stands old i l
        ]);
        ends = λ u h. elim (new u h) [
          | inl e ↦ subst (λ z. Ends basic z) (sym e) (ends search.last (λ s xs stands i l. search.shown.ends (slice_index xs i) (all s xs stands i l)))
          | inr old ↦ search.shown.ends u old
        ];
      }

      -- the walk goes back to its last turn
      pub search_back : ((w : ℕ) → Open' w → Open w × (¬ (w ≡ search.last))) → ((w : ℕ) → Open w → ¬ (w ≡ search.last) → Open' w) → HaveOneTerm basic
          → (shorter : List Turn) (at : Turn) → walk ≡ shorter ++ at ∷ [] → IsSearch Settled' Open' shorter at
      search_back before still one shorter at e =
          let old : LastTurn basic Turn argument IsAt Settled start shorter at search.front =
          chain_back basic Turn argument IsAt Settled start walk search.front search.last search.chain shorter at e in
          let parts : IsDistinct search.front × (¬ Contains search.front search.last) = distinct_front search.front search.last search.apart in
          record {
            shown = shown_more;
            front = old.front;
            last = old.u;
            chain = chain_kept basic Turn argument IsAt Settled Settled' start kept shorter old.front old.u old.chain;
            here = old.here;
            passed = λ s xs stands i l m. kept (slice_index xs i)
                (subst (λ (zs : List ℕ). Settled (slice_index zs i)) (one old.u old.symbol s old.xs xs old.stands stands) (old.passed i l));
            apart = subst (λ z. IsDistinct z) old.before_is parts.0;
            opened = λ w h. elim (Contains-push_cases search.front search.last w (search.opened w (before w h).0)) [
              | inl i ↦ subst (λ z. Contains z w) old.before_is i
              | inr f ↦ absurd ((before w h).1 (sym f))
            ];
            on = λ w i.
                let j : Contains search.front w = subst (λ z. Contains z w) (sym old.before_is) i in
                still w (search.on w (Contains-append_left search.front (search.last ∷ []) w j)) (λ f. parts.1 (subst (λ z. Contains search.front z) f j));
          }

    -- with no turn left, the top variable is the start
    pub search_end : walk ≡ [] → start ≡ search.last
    search_end e = chain_alone basic Turn argument IsAt Settled start walk search.front search.last search.chain e
