-- What is told of a variable once the search from its target has ended.
use Rattle.std.proofs.Common.{ℕ, ◌≡◌, ◌<◌, List, [], ◌∷◌, ◌++◌, length, refl, ◌∙◌, subst, arith, inl, inr}
use Rattle.std.specs.Prelude.{slice_index, Contains, ◌↔◌}
use Rattle.std.proofs.lemmas.List.{get_or_default}
use Rattle.std.proofs.lemmas.List.Elements.{Contains-get_or}
use Rattle.tree_model.specs.declared.tree.Symbol.{Symbol}
use Rattle.tree_facts.proofs.Members.{contains_first, contains_cases}
use Rattle.flat_form.specs.declared.atom.Flat.{Flat}
use Rattle.flat_form.specs.declared.atom.Flat.TheVariants.{VarVar, VarTerm}
use Rattle.flat_form.specs.Solved.{IsOpen, HasTerm, IsSolved}
use Rattle.flat_facts.specs.Spread.{IsTarget, Leads, stays, goes, ComesRound, IsLeaf}
use Rattle.finiteness.specs.declared.search.Mark.{Mark}
use Rattle.finiteness.specs.declared.search.Mark.TheVariants.{Done}
use Rattle.finiteness.specs.Marks.{HasMark, IsMarked, IsLeafAt}
use Rattle.finiteness.specs.Found.{IsClean, AreDone}
use Rattle.finiteness.proofs.Standing.{in_list, one_term_place, one_target}
use Rattle.finiteness.proofs.Chains.{lead_on, lead_one}

-- no walk leaves a variable that has no term
bare_clean : (basic : List Flat) (x last : ℕ) (path before : List ℕ) → Leads basic x path before last → ¬ HasTerm basic x → ¬ Contains before last
bare_clean basic x last path before (stays y) none = λ i. omega (arith, i.1)
bare_clean basic x last path before (goes y z s xs i p b stands within on) none = absurd (none (s, xs, stands))

bare_stays : (basic : List Flat) (x last : ℕ) (path before : List ℕ) → Leads basic x path before last → ¬ HasTerm basic x → x ≡ last
bare_stays basic x last path before (stays y) none = refl
bare_stays basic x last path before (goes y z s xs i p b stands within on) none = absurd (none (s, xs, stands))

module _ (basic : List Flat) (solved : IsSolved basic) (v start : ℕ) (target : IsTarget basic v start) where
  target_plain : (s : ℕ) → IsTarget basic v s → (r : ℕ) → ¬ Contains basic (VarVar s r)
  target_plain s (inl stands) r = (solved.direct v s stands).1 r
  target_plain s (inr own) r = let P : ℕ → Type 0 = λ z. ¬ Contains basic (VarVar z r) in subst P own.0 (own.1 r)

  from_start : (s : ℕ) → IsTarget basic v s → s ≡ start
  from_start s t = one_target basic solved.ascending v s start t target

  -- no walk comes round from v, where none does from its target
  pub none_round : IsClean basic start → (path : List ℕ) → ¬ ComesRound basic v path
  none_round clean path r =
      clean path r.before r.last (subst (λ z. Leads basic z path r.before r.last) (from_start r.start r.target) r.walk) r.again

  -- the target has no term
  module _ (bare : ¬ HasTerm basic start) where
    pub bare_none : (path : List ℕ) → ¬ ComesRound basic v path
    bare_none = none_round (λ path before last walk. bare_clean basic start last path before walk bare)

    pub bare_leaf : (u : ℕ) → Contains (start ∷ []) u ↔ IsLeaf basic v u
    bare_leaf u = (
      λ h. elim (contains_cases start u [] h) [
        | inl e ↦ subst (λ z. IsLeaf basic v z) e (record {
          start = start;
          path = [];
          before = [];
          target = target;
          walk = stays start;
          bare = record { no_variable = target_plain start target; no_term = λ s xs stands. bare (s, xs, stands) };
        })
        | inr none ↦ absurd (omega (arith, none.1))
      ],
      λ leaf.
          let walk : Leads basic start leaf.path leaf.before u =
          subst (λ z. Leads basic z leaf.path leaf.before u) (from_start leaf.start leaf.target) leaf.walk in
          subst (λ z. Contains (start ∷ []) z) (bare_stays basic start u leaf.path leaf.before walk bare) (contains_first start []),
    )

  -- the target's term is done
  module _ (marks : List Mark) (done : AreDone basic start marks) (started : IsMarked basic marks Done start) where
    pub done_none : (path : List ℕ) → ¬ ComesRound basic v path
    done_none = none_round (done.clean start started)

    leaf_reached : (u : ℕ) → (place : ℕ) × IsLeafAt basic marks place u → IsLeaf basic v u
    leaf_reached u (place, leaf) =
        let (i, within, e) = leaf.among in
        let stands : Contains basic (VarTerm leaf.over leaf.symbol leaf.xs) = in_list basic place (VarTerm leaf.over leaf.symbol leaf.xs) leaf.stands in
        let (path, before, walk) = done.reached leaf.over (place, (leaf.symbol, leaf.xs, leaf.stands), leaf.done) in
        let is : slice_index leaf.xs i ≡ u = get_or_default leaf.xs i 0 u within ∙ e in
        subst (λ z. IsLeaf basic v z) is (record {
          start = start;
          path = path ++ i ∷ [];
          before = before ++ leaf.over ∷ [];
          target = target;
          walk = lead_on basic start leaf.over (slice_index leaf.xs i) path before (i ∷ []) (leaf.over ∷ []) walk
              (lead_one basic leaf.over leaf.symbol leaf.xs i stands within);
          bare = record {
            no_variable = solved.plain leaf.over leaf.symbol leaf.xs stands i within;
            no_term = λ s ys inside. leaf.bare (subst (λ z. HasTerm basic z) is (s, ys, inside));
          };
        })

    leaf_here : (w u : ℕ) (s : Symbol) (xs : List ℕ) (i : ℕ) → Contains basic (VarTerm w s xs) → i < length xs → IsMarked basic marks Done w
        → slice_index xs i ≡ u → ¬ HasTerm basic u → (place : ℕ) × IsLeafAt basic marks place u
    leaf_here w u s xs i (k, l, e) within (place, t, h) is bare = (
      k,
      record {
        over = w;
        symbol = s;
        xs = xs;
        stands = (l, e);
        done = subst (λ z. HasMark marks z Done) (one_term_place basic solved.ascending place k w t (s, xs, (l, e))) h;
        among = subst (λ z. Contains xs z) is (Contains-get_or xs i 0 within);
        bare = bare;
      },
    )

    leaf_found : (w u : ℕ) (path before : List ℕ) → Leads basic w path before u → IsMarked basic marks Done w → IsOpen basic u
        → (place : ℕ) × IsLeafAt basic marks place u
    leaf_found w u path before (stays x) m bare = absurd (bare.no_term m.1.0 m.1.1 (in_list basic m.0 (VarTerm w m.1.0 m.1.1) m.1.2))
    leaf_found w u path before (goes x y s xs i p b stands within on) m bare = elim (done.closed w s xs stands m i within) [
      | inl none ↦ leaf_here w u s xs i stands within m (bare_stays basic (slice_index xs i) u p b on none) (λ (t, ys, inside). bare.no_term t ys inside)
      | inr d ↦ leaf_found (slice_index xs i) u p b on d bare
    ]

    pub done_leaf : (list : List ℕ) → ((u : ℕ) → Contains list u ↔ ((place : ℕ) × IsLeafAt basic marks place u)) → (u : ℕ) → Contains list u ↔ IsLeaf basic v u
    done_leaf list held u = (
      λ h. leaf_reached u ((held u).0 h),
      λ leaf. (held u).1 (leaf_found start u leaf.path leaf.before
          (subst (λ z. Leads basic z leaf.path leaf.before u) (from_start leaf.start leaf.target) leaf.walk) started leaf.bare),
    )
