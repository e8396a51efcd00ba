-- The outer variables of a solved conjunction, sorted into three lists.
use Rattle.std.proofs.Common.{ℕ, ◌≡◌, ◌<◌, ◌≤◌, ◌+◌, Bool, true, false, List, [], ◌∷◌, ◌++◌, length, get_or, take, refl, sym, ap, ◌∙◌, subst, arith, inl, inr, ◌⊎◌, length-append}
use Rattle.std.specs.Prelude.{slice_set, Contains, ◌↔◌}
use Rattle.std.specs.List.Sorted.{IsStrictlyIncreasing}
use Rattle.std.proofs.lemmas.List.{get_or_append_left, get_or_push, take_more}
use Rattle.std.proofs.lemmas.List.Elements.{Contains-push, Contains-append_left, Contains-push_cases, Contains-get_or}
use Rattle.tree_model.specs.declared.tree.Symbol.{Symbol}
use Rattle.flat_form.specs.declared.atom.Flat.{Flat}
use Rattle.flat_form.specs.declared.atom.Flat.TheVariants.{VarVar, VarTerm, Finite}
use Rattle.flat_form.specs.Parts.{Under, top, below}
use Rattle.flat_form.specs.Solved.{IsOpen, IsSolved}
use Rattle.flat_form.specs.Steps.{FreeReaches, start, argument, equal, IsSplit}
use Rattle.reachability.specs.Flags.{IsSet, AreReached}
use Rattle.reachability.specs.Splitting.{IsLeft, AreLeft, AreThose, AreSorted}
use Rattle.reachability.proofs.Flags.{set_there, set_kept, set_back}

lt_or_le : (m n : ℕ) → (m < n) ⊎ (n ≤ m)
lt_or_le m n = grind arith

either : (b : Bool) → (b ≡ true) ⊎ (¬ (b ≡ true))
either true = inl refl
either false = inr (λ e. cc)

-- the numbers with P, one after the other
module _ (P : ℕ → Type 0) (free v : ℕ) (xs : List ℕ) (are : AreThose P free v xs) where
  rises : IsStrictlyIncreasing (xs ++ v ∷ [])
  rises k w = elim (lt_or_le (k + 1) (length xs)) [
    | inl l ↦
        let a : get_or (xs ++ v ∷ []) k 0 ≡ get_or xs k 0 = get_or_append_left xs (v ∷ []) 0 k (omega arith) in
        let b : get_or (xs ++ v ∷ []) (k + 1) 0 ≡ get_or xs (k + 1) 0 = get_or_append_left xs (v ∷ []) 0 (k + 1) l in
        omega (arith, a, b, are.ascending k l)
    | inr l ↦
        let size : length (xs ++ v ∷ []) ≡ length xs + 1 = length-append xs (v ∷ []) in
        let here : k < length xs = omega arith in
        let a : get_or (xs ++ v ∷ []) k 0 ≡ get_or xs k 0 = get_or_append_left xs (v ∷ []) 0 k here in
        let b : get_or (xs ++ v ∷ []) (k + 1) 0 ≡ v = get_or_push xs v 0 (k + 1) (omega arith) in
        omega (arith, a, b, ((are.is (get_or xs k 0)).0 (Contains-get_or xs k 0 here)).1)
  ]

  those_more : free ≤ v → P v → AreThose P free (v + 1) (xs ++ v ∷ [])
  those_more low p = record {
    ascending = rises;
    is = λ w. (
      λ inside. elim (Contains-push_cases xs v w inside) [
        | inl old ↦ let (a, b, q) = (are.is w).0 old in (a, omega (arith, b), q)
        | inr e ↦ (omega (arith, low, e), omega (arith, e), subst P e p)
      ],
      λ (a, b, q). elim (lt_or_le w v) [
        | inl l ↦ Contains-append_left xs (v ∷ []) w ((are.is w).1 (a, l, q))
        | inr l ↦ let e : v ≡ w = omega (arith, b, l) in subst (λ (z : ℕ). Contains (xs ++ v ∷ []) z) e (Contains-push xs v)
      ],
    );
  }

  those_same : ¬ P v → AreThose P free (v + 1) xs
  those_same none = record {
    ascending = are.ascending;
    is = λ w. (
      λ inside. let (a, b, q) = (are.is w).0 inside in (a, omega (arith, b), q),
      λ (a, b, q). elim (lt_or_le w v) [
        | inl l ↦ (are.is w).1 (a, l, q)
        | inr l ↦ let e : w ≡ v = omega (arith, b, l) in absurd (none (subst P e q))
      ],
    );
  }

none_yet : (P : ℕ → Type 0) (free : ℕ) → AreThose P free free []
none_yet P free = record {
  ascending = λ k w. absurd (omega (arith, w));
  is = λ v. (λ (k, w, e). absurd (omega (arith, w)), λ (a, b, p). absurd (omega (arith, a, b)));
}

pub none_sorted : (free : ℕ) (marks lefts : List Bool) → AreSorted free free marks lefts [] [] []
none_sorted free marks lefts = record {
  needed_are = none_yet (IsSet marks) free;
  idle_are = none_yet (λ v. (¬ IsSet marks v) × (¬ IsSet lefts v)) free;
  determined_are = none_yet (λ v. (¬ IsSet marks v) × IsSet lefts v) free;
}

-- one more variable, in its list
module _ (free v : ℕ) (marks lefts : List Bool) (needed idle determined : List ℕ) (low : free ≤ v) (are : AreSorted free v marks lefts needed idle determined) where
  abbrev IsIdle : ℕ → Type 0
  IsIdle w = (¬ IsSet marks w) × (¬ IsSet lefts w)

  abbrev IsDetermined : ℕ → Type 0
  IsDetermined w = (¬ IsSet marks w) × IsSet lefts w

  pub needed_more : (after : List ℕ) → after ≡ needed ++ v ∷ [] → IsSet marks v → AreSorted free (v + 1) marks lefts after idle determined
  needed_more after e p = subst (λ (z : List ℕ). AreSorted free (v + 1) marks lefts z idle determined) (sym e) (record {
    needed_are = those_more (IsSet marks) free v needed are.needed_are low p;
    idle_are = those_same IsIdle free v idle are.idle_are (λ q. q.0 p);
    determined_are = those_same IsDetermined free v determined are.determined_are (λ q. q.0 p);
  })

  pub determined_more : (after : List ℕ) → after ≡ determined ++ v ∷ [] → ¬ IsSet marks v → IsSet lefts v → AreSorted free (v + 1) marks lefts needed idle after
  determined_more after e n p = subst (λ (z : List ℕ). AreSorted free (v + 1) marks lefts needed idle z) (sym e) (record {
    needed_are = those_same (IsSet marks) free v needed are.needed_are n;
    idle_are = those_same IsIdle free v idle are.idle_are (λ q. q.1 p);
    determined_are = those_more IsDetermined free v determined are.determined_are low (n, p);
  })

  pub idle_more : (after : List ℕ) → after ≡ idle ++ v ∷ [] → ¬ IsSet marks v → ¬ IsSet lefts v → AreSorted free (v + 1) marks lefts needed after determined
  idle_more after e n m = subst (λ (z : List ℕ). AreSorted free (v + 1) marks lefts needed z determined) (sym e) (record {
    needed_are = those_same (IsSet marks) free v needed are.needed_are n;
    idle_are = those_more IsIdle free v idle are.idle_are low (n, m);
    determined_are = those_same IsDetermined free v determined are.determined_are (λ q. m q.1);
  })

-- left sides, one atom more
pub none_left : (flags : List Bool) → ((v : ℕ) → ¬ IsSet flags v) → AreLeft [] flags
none_left flags none = record { from = λ v p. absurd (none v p); all = λ v atom (k, w, e) l. absurd (omega (arith, w)) }

module _ (flags : List Bool) (atom : Flat) where
  left_after : (new : List Bool) → ((v : ℕ) → IsSet new v → IsLeft v atom ⊎ IsSet flags v) → ((v : ℕ) → IsLeft v atom → IsSet new v) → ((v : ℕ) → IsSet flags v → IsSet new v)
      → (atoms : List Flat) → AreLeft atoms flags → AreLeft (atoms ++ atom ∷ []) new
  left_after new back here kept atoms are = record {
    from = λ v p. elim (back v p) [
      | inl l ↦ (atom, Contains-push atoms atom, l)
      | inr q ↦ let (other, inside, l) = are.from v q in (other, Contains-append_left atoms (atom ∷ []) other inside, l)
    ];
    all = λ v other inside l. elim (Contains-push_cases atoms atom other inside) [
      | inl old ↦ kept v (are.all v other old l)
      | inr e ↦ here v (subst (IsLeft v) (sym e) l)
    ];
  }

  pub left_more : (u : ℕ) → u < length flags → ((v : ℕ) → IsLeft v atom ↔ (u ≡ v)) → (atoms : List Flat) → AreLeft atoms flags → AreLeft (atoms ++ atom ∷ []) (slice_set flags u true)
  left_more u low is = left_after (slice_set flags u true)
      (λ v p. elim (set_back flags u v p) [ inl e ↦ inl ((is v).1 (sym e)) | inr q ↦ inr q ])
      (λ v l. subst (λ (z : ℕ). IsSet (slice_set flags u true) z) ((is v).0 l) (set_there flags u low))
      (λ v q. set_kept flags u v q)

  pub left_same : ((v : ℕ) → ¬ IsLeft v atom) → (atoms : List Flat) → AreLeft atoms flags → AreLeft (atoms ++ atom ∷ []) flags
  left_same none = left_after flags (λ v p. inr p) (λ v l. absurd (none v l)) (λ v q. q)

-- the left side of an equation
pub left_of_variables : (atom : Flat) (u r : ℕ) → atom ≡ VarVar u r → (v : ℕ) → IsLeft v atom ↔ (u ≡ v)
left_of_variables atom u r e v = subst (λ (z : Flat). IsLeft v z ↔ (u ≡ v)) (sym e) (λ l. l, λ l. l)

pub left_of_term : (atom : Flat) (u : ℕ) (symbol : Symbol) (xs : List ℕ) → atom ≡ VarTerm u symbol xs → (v : ℕ) → IsLeft v atom ↔ (u ≡ v)
left_of_term atom u symbol xs e v = subst (λ (z : Flat). IsLeft v z ↔ (u ≡ v)) (sym e) (λ l. l, λ l. l)

pub left_of_none : (atom : Flat) (u : ℕ) → atom ≡ Finite u → (v : ℕ) → ¬ IsLeft v atom
left_of_none atom u e v = subst (λ (z : Flat). ¬ IsLeft v z) (sym e) (λ l. l)

-- an atom more of those read
pub left_next : (atoms : List Flat) (i : ℕ) (atom : Flat) (old new : List Bool) → i < length atoms → atom ≡ get_or atoms i atom
    → ((some : List Flat) → AreLeft some old → AreLeft (some ++ atom ∷ []) new) → AreLeft (take i atoms) old → AreLeft (take (i + 1) atoms) new
left_next atoms i atom old new within at step are =
    let front : take (i + 1) atoms ≡ take i atoms ++ atom ∷ [] = take_more atoms i atom within ∙ ap (λ (z : Flat). take i atoms ++ z ∷ []) (sym at) in
    subst (λ (z : List Flat). AreLeft z new) (sym front) (step (take i atoms) are)

-- in a solved conjunction the free variables reach along equations what they reach along terms
module _ (free : ℕ) (form : List Flat) (solved : IsSolved form) where
  reaches : {v : ℕ} → Under free form v → FreeReaches free form v
  reaches (top w) = start w
  reaches (below symbol xs r stands i w) = argument symbol xs (reaches r) stands i w

  left_is_free : {u : ℕ} (r : ℕ) → FreeReaches free form u → Contains form (VarVar u r) → u < free
  left_is_free r (start w) inside = w
  left_is_free r (argument {u} symbol xs p stands i w) inside = absurd (solved.plain u symbol xs stands i w r inside)
  left_is_free r (equal {u} {r = v} p stands) inside = absurd ((solved.direct u v stands).1 r inside)

  under : {v : ℕ} → FreeReaches free form v → Under free form v
  under (start w) = top w
  under (argument symbol xs p stands i w) = below symbol xs (under p) stands i w
  under (equal {u} {r} p stands) = top (omega (arith, left_is_free r p stands, (solved.direct u r stands).0))

  -- what is left of no equation is open
  open_where : (lefts : List Bool) (v : ℕ) → AreLeft form lefts → ¬ IsSet lefts v → IsOpen form v
  open_where lefts v are n = record {
    no_variable = λ r inside. n (are.all v (VarVar v r) inside refl);
    no_term = λ symbol xs inside. n (are.all v (VarTerm v symbol xs) inside refl);
  }

  not_open : (v : ℕ) (atom : Flat) → Contains form atom → IsLeft v atom → ¬ IsOpen form v
  not_open v (VarVar u r) inside l = λ is. is.no_variable r (subst (λ (z : ℕ). Contains form (VarVar z r)) l inside)
  not_open v (VarTerm u symbol xs) inside l = λ is. is.no_term symbol xs (subst (λ (z : ℕ). Contains form (VarTerm z symbol xs)) l inside)
  not_open v (Finite u) inside l = absurd l

  set_or_not : (flags : List Bool) (v : ℕ) → IsSet flags v ⊎ (¬ IsSet flags v)
  set_or_not flags v = either (get_or flags v false)

  pub split_at_last : (outer count : ℕ) (marks lefts : List Bool) (needed idle determined : List ℕ) → count ≡ free + outer → AreReached free count form marks → AreLeft form lefts
      → AreSorted free count marks lefts needed idle determined → IsSplit free outer form needed idle determined
  split_at_last outer count marks lefts needed idle determined e reached left are = record {
    needed_ascending = are.needed_are.ascending;
    idle_ascending = are.idle_are.ascending;
    determined_ascending = are.determined_are.ascending;
    needed_is = λ v. (
      λ inside. let (a, b, p) = (are.needed_are.is v).0 inside in ((a, omega (arith, b, e)), reaches ((reached.is v).0 p)),
      λ ((a, b), r). (are.needed_are.is v).1 (a, omega (arith, b, e), (reached.is v).1 (under r)),
    );
    idle_is = λ v. (
      λ inside. let (a, b, (n, m)) = (are.idle_are.is v).0 inside in ((a, omega (arith, b, e)), λ r. n ((reached.is v).1 (under r)), open_where lefts v left m),
      λ ((a, b), n, open_at). (are.idle_are.is v).1
          (a, omega (arith, b, e), (λ p. n (reaches ((reached.is v).0 p)), λ q. let (atom, stands, l) = left.from v q in not_open v atom stands l open_at)),
    );
    determined_is = λ v. (
      λ inside. let (a, b, (n, q)) = (are.determined_are.is v).0 inside in
          ((a, omega (arith, b, e)), λ r. n ((reached.is v).1 (under r)), let (atom, stands, l) = left.from v q in not_open v atom stands l),
      λ ((a, b), n, shut). (are.determined_are.is v).1 (
        a,
        omega (arith, b, e),
        (λ p. n (reaches ((reached.is v).0 p)), elim (set_or_not lefts v) [ inl q ↦ q | inr m ↦ absurd (shut (open_where lefts v left m)) ]),
      ),
    );
  }

pub not_set : (flags : List Bool) (v : ℕ) → get_or flags v false ≡ false → ¬ IsSet flags v
not_set flags v e = λ p. cc (e, p)

-- a step over flags that were lent
pub lent_twice : (free v : ℕ) (a b marks lefts : List Bool) (n i d m j f : List ℕ) → a ≡ marks → b ≡ lefts
    → (AreSorted free v a b n i d → AreSorted free (v + 1) a b m j f) → AreSorted free v marks lefts n i d → AreSorted free (v + 1) marks lefts m j f
lent_twice free v a b marks lefts n i d m j f ea eb step are =
    subst (λ (z : List Bool). AreSorted free (v + 1) z lefts m j f) ea (subst (λ (z : List Bool). AreSorted free (v + 1) a z m j f) eb
    (step (subst (λ (z : List Bool). AreSorted free v a z n i d) (sym eb) (subst (λ (z : List Bool). AreSorted free v z lefts n i d) (sym ea) are))))
