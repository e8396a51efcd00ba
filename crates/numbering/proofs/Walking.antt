-- A walk that meets variables along terms, and what comes of it.
use Rattle.std.proofs.Common.{ℕ, ◌≡◌, ◌<◌, ◌≤◌, ◌+◌, ◌-◌, List, [], ◌∷◌, ◌++◌, length, get_or, map, refl, sym, ap, ◌∙◌, subst, arith, inl, inr, ◌⊎◌, length-append}
use Rattle.std.specs.Prelude.{All, Contains, slice_index}
use Rattle.std.proofs.lemmas.List.{get_or-map, length-map, get_or_default}
use Rattle.std.proofs.lemmas.List.Elements.{All-contains, All-from_get_or, Contains-push, Contains-append_left}
use Rattle.tree_model.specs.declared.tree.Symbol.{Symbol}
use Rattle.flat_form.specs.declared.atom.Flat.{Flat}
use Rattle.flat_form.specs.declared.atom.Flat.TheVariants.{VarVar, VarTerm, Finite}
use Rattle.flat_form.specs.Numbering.{AtomOver, BasicOver}
use Rattle.flat_form.specs.Solved.{Ascends}
use Rattle.flat_form.specs.Parts.{Under, top, below, renumbered}
use Rattle.flat_facts.proofs.Lists.{one_each}
use Rattle.flat_form.specs.FirstOccurrence.{IsArgument, IsBefore, IsNumbered}
use Rattle.flat_form.specs.Orders.{place_of, new_number, IsRenumbering}
use Rattle.numbering.specs.Meeting.{Enters, known, new, EntersAll, none, next, Visits, bare, term, IsMeeting, IsMet}
use Rattle.numbering.proofs.Numbers.{lt_or_le, push_cases, distinct_push, item_in, item_kept, item_last, place_low, number_first, number_mid, number_stands, number_grows, number_kept, number_of_item, item_of_number, number_once}

-- the order of places
before_next : (a i p j : ℕ) → IsBefore a i p j → IsBefore a i p (j + 1)
before_next a i p j (inl l) = inl l
before_next a i p j (inr (e, l)) = inr (e, omega arith)

before_row : (a i p j : ℕ) → IsBefore a i p j → IsBefore a i (p + 1) 0
before_row a i p j (inl l) = inl (omega arith)
before_row a i p j (inr (e, l)) = inl (omega arith)

before_cases : (a i p j : ℕ) → IsBefore a i p (j + 1) → IsBefore a i p j ⊎ ((a ≡ p) × (i ≡ j))
before_cases a i p j (inl l) = inl (inl l)
before_cases a i p j (inr (e, l)) = elim (lt_or_le i j) [ inl m ↦ inl (inr (e, m)) | inr m ↦ inr (e, omega arith) ]

before_at_most : (a i p j : ℕ) → IsBefore a i p j → a ≤ p
before_at_most a i p j (inl l) = omega arith
before_at_most a i p j (inr (e, l)) = omega arith

before_later : (a i b j c : ℕ) → IsBefore a i b j → b ≤ c → IsBefore a i c j
before_later a i b j c (inl l) w = inl (omega arith)
before_later a i b j c (inr (e, l)) w = elim (lt_or_le b c) [ inl m ↦ inl (omega arith) | inr m ↦ inr (omega arith, l) ]

-- what is before p, j is before what is not
before_other : (a i p j b k : ℕ) → IsBefore a i p j → ¬ IsBefore b k p j → IsBefore a i b k
before_other a i p j b k w n = elim (lt_or_le b p) [
  | inl l ↦ absurd (n (inl l))
  | inr l ↦ elim (lt_or_le p b) [
    | inl m ↦ inl (omega (arith, before_at_most a i p j w, m))
    | inr m ↦ elim (lt_or_le k j) [
      | inl q ↦ absurd (n (inr (omega arith, q)))
      | inr q ↦
          let e : p ≡ b = omega arith in
          elim w [ inl x ↦ inl (omega arith) | inr x ↦ inr (omega (arith, x.0, e), omega (arith, x.1, q)) ]
    ]
  ]
]

before_moved : (a b i p j : ℕ) → a ≡ b → IsBefore a i p j → IsBefore b i p j
before_moved a b i p j e h = subst (λ (z : ℕ). IsBefore z i p j) e h

argument_of : (atoms : List Flat) (u v i x y : ℕ) → u ≡ v → x ≡ y → IsArgument atoms u i x → IsArgument atoms v i y
argument_of atoms u v i x y e f h = subst (λ (z : ℕ). IsArgument atoms v i z) f (subst (λ (z : ℕ). IsArgument atoms z i x) e h)

module _ (first count : ℕ) (atoms : List Flat) (ascends : Ascends atoms) where
  abbrev number : List ℕ → ℕ → ℕ
  number order v = new_number first count order v

  abbrev Meets : List ℕ → ℕ → ℕ → Type 0
  Meets order p j = IsMeeting first count atoms order p j

  one_term : (u : ℕ) (s t : Symbol) (xs ys : List ℕ) → Contains atoms (VarTerm u s xs) → Contains atoms (VarTerm u t ys) → xs ≡ ys
  one_term u s t xs ys i j = let e : VarTerm u s xs ≡ VarTerm u t ys = one_each atoms ascends (VarTerm u s xs) (VarTerm u t ys) i j refl in cc

  one_argument : (u i x y : ℕ) → IsArgument atoms u i x → IsArgument atoms u i y → x ≡ y
  one_argument u i x y a b = sym a.is ∙ ap (λ (z : List ℕ). slice_index z i) (one_term u a.symbol b.symbol a.xs b.xs a.stands b.stands) ∙ b.is

  -- argument j of w, which has number p in the order, is met
  module _ (order : List ℕ) (p j w x : ℕ) (met : Meets order p j) (is : number order w ≡ p) (low : p < first + length order) (at : IsArgument atoms w j x) where
    -- an argument with this place is x
    same_place : (u i y : ℕ) → number order u ≡ p → i ≡ j → IsArgument atoms u i y → x ≡ y
    same_place u i y e f a =
        let same : u ≡ w = number_once first count order u w (e ∙ sym is) (omega (arith, is, low)) in
        let here : IsArgument atoms w j y = subst (λ (z : ℕ). IsArgument atoms w z y) f (argument_of atoms u w i y y same refl a) in
        one_argument w j x y at here

    walk_known : (x < first) ⊎ Contains order x → Meets order p (j + 1)
    walk_known old = record {
      distinct = met.distinct;
      reached = met.reached;
      hangs = λ k l. let (t, i, m, b, a) = met.hangs k l in (t, i, m, before_next (number order t) i p j b, a);
      seen = λ u i y b a. elim (before_cases (number order u) i p j b) [
        | inl c ↦ met.seen u i y c a
        | inr (e, f) ↦ subst (λ (z : ℕ). (z < first) ⊎ Contains order z) (same_place u i y e f a) old
      ];
      earlier = met.earlier;
    }

    module _ (above : first ≤ x) (fresh : ¬ Contains order x) where
      abbrev after : List ℕ
      after = order ++ x ∷ []

      size : length after ≡ length order + 1
      size = omega (arith, length-append order (x ∷ []))

      under : Under first atoms w
      under = elim (number_stands first count order w (omega (arith, is, low))) [
        | inl (l, e) ↦ top l
        | inr (l, m, q, e) ↦
            let n : ℕ = place_of order w in
            let item : slice_index order n ≡ w = item_of_number first count order w n e q in
            (met.reached w (subst (λ (z : ℕ). Contains order z) item (item_in order n q))).1
      ]

      known_before : (u i : ℕ) → IsBefore (number after u) i p j → IsArgument atoms u i x → ⊥
      known_before u i b a =
          let le : number order u ≤ number after u = number_grows first count order x u in
          let same : number after u ≡ number order u = number_kept first count order x u (omega (arith, le, before_at_most (number after u) i p j b, low)) in
          elim (met.seen u i x (before_moved (number after u) (number order u) i p j same b) a) [ inl l ↦ omega (arith, l, above) | inr c ↦ fresh c ]

      walk_new : Meets after p (j + 1)
      walk_new = record {
        distinct = distinct_push order x met.distinct fresh;
        reached = λ v c. elim (push_cases order x v c) [
          | inl d ↦ met.reached v d
          | inr e ↦ subst (λ (z : ℕ). (first ≤ z) × Under first atoms z) (sym e)
              (above, subst (λ (z : ℕ). Under first atoms z) at.is (below at.symbol at.xs under at.stands j at.within))
        ];
        hangs = λ k l. elim (lt_or_le k (length order)) [
          | inl m ↦
              let (t, i, q, b, a) = met.hangs k m in
              let same : number order t ≡ number after t = sym (number_kept first count order x t (omega (arith, q, m))) in (
                t,
                i,
                omega (arith, same, q),
                before_moved (number order t) (number after t) i p (j + 1) same (before_next (number order t) i p j b),
                argument_of atoms t t i (slice_index order k) (slice_index after k) refl (sym (item_kept order x k m)) a,
              )
          | inr m ↦
              let e : length order ≡ k = omega (arith, l, m, size) in
              let same : number order w ≡ number after w = sym (number_kept first count order x w (omega (arith, is, low))) in (
                w,
                j,
                omega (arith, same, is, low, e),
                inr (sym same ∙ is, omega arith),
                argument_of atoms w w j x (slice_index after k) refl (sym (item_last order x) ∙ ap (λ (z : ℕ). slice_index after z) e) at,
              )
        ];
        seen = λ u i y b a.
            let le : number order u ≤ number after u = number_grows first count order x u in
            let same : number after u ≡ number order u = number_kept first count order x u (omega (arith, le, before_at_most (number after u) i p (j + 1) b, low)) in
            elim (before_cases (number order u) i p j (before_moved (number after u) (number order u) i p (j + 1) same b)) [
              | inl c ↦ elim (met.seen u i y c a) [ inl q ↦ inl q | inr q ↦ inr (Contains-append_left order (x ∷ []) y q) ]
              | inr (e, f) ↦ inr (subst (λ (z : ℕ). Contains after z) (same_place u i y e f a) (Contains-push order x))
            ];
        earlier = λ k l u i less m a. elim (lt_or_le l (length order)) [
          | inl n ↦
              let here : IsArgument atoms u i (slice_index order l) = argument_of atoms u u i (slice_index after l) (slice_index order l) refl (item_kept order x l n) a in
              let (t, h, q, b, c) = met.earlier k l u i less n here in
              let same : number order t ≡ number after t = sym (number_kept first count order x t q) in (
                t,
                h,
                omega (arith, same, q, size),
                before_moved (number order t) (number after t) h (number after u) i same
                    (before_later (number order t) h (number order u) i (number after u) b (number_grows first count order x u)),
                argument_of atoms t t h (slice_index order k) (slice_index after k) refl (sym (item_kept order x k (omega (arith, less, n)))) c,
              )
          | inr n ↦
              let e : l ≡ length order = omega (arith, m, n, size) in
              let within : k < length order = omega (arith, less, e) in
              let here : IsArgument atoms u i x = argument_of atoms u u i (slice_index after l) x refl (ap (λ (z : ℕ). slice_index after z) e ∙ item_last order x) a in
              let (t, h, q, b, c) = met.hangs k within in
              let same : number order t ≡ number after t = sym (number_kept first count order x t (omega (arith, q, within))) in (
                t,
                h,
                omega (arith, same, q, within, size),
                before_other (number after t) h p j (number after u) i (before_moved (number order t) (number after t) h p j same b) (λ f. known_before u i f here),
                argument_of atoms t t h (slice_index order k) (slice_index after k) refl (sym (item_kept order x k within)) c,
              )
        ];
      }

  -- the facts that a row keeps
  record InRow (order : List ℕ) (p j w : ℕ) : Type 0 where
    met : Meets order p j
    is : number order w ≡ p
    low : p < first + length order

  walk_enter : {x : ℕ} {order later : List ℕ} (p j w : ℕ) → InRow order p j w → IsArgument atoms w j x → Enters first x order later → InRow later p (j + 1) w
  walk_enter {x} {order} {later} p j w row at (known old) = record { met = walk_known order p j w x row.met row.is row.low at old; is = row.is; low = row.low }
  walk_enter {x} {order} {later} p j w row at (new above fresh) = record {
    met = walk_new order p j w x row.met row.is row.low at above fresh;
    is = number_kept first count order x w (omega (arith, row.is, row.low)) ∙ row.is;
    low = omega (arith, row.low, length-append order (x ∷ []));
  }

  walk_all : {xs old later : List ℕ} {j : ℕ} (p w : ℕ) (symbol : Symbol) → Contains atoms (VarTerm w symbol xs) → InRow old p 0 w → EntersAll first xs old j later → InRow later p j w
  walk_all p w symbol stands row none = row
  walk_all {xs} {old} {later} p w symbol stands row (next j mid order before within enters) =
      walk_enter p j w (walk_all p w symbol stands row before) (record { symbol = symbol; xs = xs; stands = stands; within = within; is = refl }) enters

  row_done : (order : List ℕ) (p j : ℕ) → Meets order p j → ((u i y : ℕ) → number order u ≡ p → IsArgument atoms u i y → i < j) → Meets order (p + 1) 0
  row_done order p j met all = record {
    distinct = met.distinct;
    reached = met.reached;
    hangs = λ k l. let (t, i, m, b, a) = met.hangs k l in (t, i, m, before_row (number order t) i p j b, a);
    seen = λ u i y b a. elim b [
      | inl l ↦ elim (lt_or_le (number order u) p) [
        | inl m ↦ met.seen u i y (inl m) a
        | inr m ↦ let e : number order u ≡ p = omega arith in met.seen u i y (inr (e, all u i y e a)) a
      ]
      | inr l ↦ absurd (omega (arith, l.1))
    ];
    earlier = met.earlier;
  }

  pub walk_on : {order later : List ℕ} (p w : ℕ) → Meets order p 0 → number order w ≡ p → p < first + length order → Visits first atoms w order later → Meets later (p + 1) 0 × (p < first + length later)
  walk_on {order} {later} p w met is low (bare lone) = (
    row_done order p 0 met
        (λ u i y e a. absurd (lone a.symbol a.xs
        (subst (λ (z : ℕ). Contains atoms (VarTerm z a.symbol a.xs)) (number_once first count order u w (e ∙ sym is) (omega (arith, is, low))) a.stands))),
    low,
  )
  walk_on {order} {later} p w met is low (term symbol xs longer stands all) =
      let row : InRow longer p (length xs) w = walk_all p w symbol stands (record { met = met; is = is; low = low }) all in (
        row_done longer p (length xs) row.met
            (λ u i y e a.
            let same : u ≡ w = number_once first count longer u w (e ∙ sym row.is) (omega (arith, row.is, row.low)) in
            let there : Contains atoms (VarTerm w a.symbol a.xs) = subst (λ (z : ℕ). Contains atoms (VarTerm z a.symbol a.xs)) same a.stands in
            omega (arith, a.within, ap length (one_term w a.symbol symbol a.xs xs there stands))),
        row.low,
      )

  -- the variable at a place of the order
  pub number_at : (order : List ℕ) (p j i w : ℕ) → Meets order p j → All (λ v. v < count) order → i < length order → w ≡ get_or order i w → number order w ≡ first + i
  number_at order p j i w met low l e =
      let item : slice_index order i ≡ w = get_or_default order i 0 w l ∙ sym e in
      ap (number order) (sym item) ∙ number_of_item first count order i met.distinct l (met.reached (slice_index order i) (item_in order i l)).0 (low i 0 l)

  -- at the end
  module _ (order : List ℕ) (met : Meets order (first + length order) 0) (each : BasicOver count atoms) where
    over_of : {v : ℕ} → first ≤ v → Under first atoms v → v < count
    over_of l (top m) = absurd (omega (arith, l, m))
    over_of l (below {u} symbol xs _ stands i within) = (All-contains (AtomOver count) atoms (VarTerm u symbol xs) each stands).1 i 0 within

    over : (v : ℕ) → Contains order v → v < count
    over v c = over_of (met.reached v c).0 (met.reached v c).1

    closed : {v : ℕ} → Under first atoms v → (v < first) ⊎ Contains order v
    closed (top l) = inl l
    closed (below {u} symbol xs under stands i within) =
        let arg : IsArgument atoms u i (slice_index xs i) = record { symbol = symbol; xs = xs; stands = stands; within = within; is = refl } in
        elim (closed under) [
          | inl l ↦ met.seen u i (slice_index xs i) (inl (omega (arith, number_first first count order u l))) arg
          | inr c ↦ met.seen u i (slice_index xs i) (inl (omega (arith, number_mid first count order u (met.reached u c).0 (over u c), place_low order u c))) arg
        ]

    abbrev f : ℕ → ℕ
    f = new_number first count order

    item_number : (k : ℕ) → k < length order → f (slice_index order k) ≡ first + k
    item_number k w = number_of_item first count order k met.distinct w (met.reached (slice_index order k) (item_in order k w)).0 (over (slice_index order k) (item_in order k w))

    module _ (numbered : List Flat) (is : IsRenumbering f (λ (atom : Flat). Unit {0}) atoms numbered) where
      forth : (u i y : ℕ) → IsArgument atoms u i y → IsArgument numbered (f u) i (f y)
      forth u i y a = record {
        symbol = a.symbol;
        xs = map f a.xs;
        stands = (is.is (VarTerm (f u) a.symbol (map f a.xs))).1 (VarTerm u a.symbol a.xs, a.stands, tt, refl);
        within = omega (arith, length-map a.xs f, a.within);
        is = get_or-map f a.xs i 0 0 a.within ∙ ap f a.is;
      }

      back_of : (u i v : ℕ) (symbol : Symbol) (ys : List ℕ) (other : Flat) → Contains atoms other → VarTerm u symbol ys ≡ renumbered f other → i < length ys → slice_index ys i ≡ v
          → (t : ℕ) × (y : ℕ) × (u ≡ f t) × (v ≡ f y) × IsArgument atoms t i y
      back_of u i v symbol ys (VarVar t r) inside e w at = absurd (cc e)
      back_of u i v symbol ys (Finite t) inside e w at = absurd (cc e)
      back_of u i v symbol ys (VarTerm t other xs) inside e w at =
          let same : ys ≡ map f xs = cc e in
          let left : u ≡ f t = cc e in
          let within : i < length xs = omega (arith, w, ap length same, length-map xs f) in (
            t,
            slice_index xs i,
            left,
            sym at ∙ ap (λ (z : List ℕ). slice_index z i) same ∙ get_or-map f xs i 0 0 within,
            record { symbol = other; xs = xs; stands = inside; within = within; is = refl },
          )

      back : (u i v : ℕ) → IsArgument numbered u i v → (t : ℕ) × (y : ℕ) × (u ≡ f t) × (v ≡ f y) × IsArgument atoms t i y
      back u i v a =
          let (other, inside, unit, e) = (is.is (VarTerm u a.symbol a.xs)).0 a.stands in
          back_of u i v a.symbol a.xs other inside e a.within a.is

      by_occurrence : IsNumbered first (first + length order) numbered
      by_occurrence = record {
        hangs = λ v l m.
            let k : ℕ = v - first in
            let w : k < length order = omega arith in
            let e : f (slice_index order k) ≡ v = omega (arith, item_number k w) in
            let (t, i, q, b, a) = met.hangs k w in
            (f t, i, inr (omega (arith, q, l)), argument_of numbered (f t) (f t) i (f (slice_index order k)) v refl e (forth t i (slice_index order k) a));
        first = λ v w u j l less m a.
            let k : ℕ = v - first in
            let n : ℕ = w - first in
            let kn : k < n = omega arith in
            let low : n < length order = omega arith in
            let (s, y, eu, ew, c) = back u j w a in
            let item : slice_index order n ≡ y = item_of_number first count order y n (omega (arith, ew, l, less)) low in
            let (t, i, q, b, d) = met.earlier k n s j kn low (argument_of atoms s s j y (slice_index order n) refl (sym item) c) in
            let e : f (slice_index order k) ≡ v = omega (arith, item_number k (omega (arith, kn, low)), l) in
            (f t, i, subst (λ (z : ℕ). IsBefore (f t) i z j) (sym eu) b, argument_of numbered (f t) (f t) i (f (slice_index order k)) v refl e (forth t i (slice_index order k) d));
      }

    pub all_met : IsMet first count atoms order
    all_met = record {
      distinct = met.distinct;
      within = All-from_get_or (λ (v : ℕ). (first ≤ v) × (v < count)) order 0
          (λ i w. ((met.reached (slice_index order i) (item_in order i w)).0, over (slice_index order i) (item_in order i w)));
      reached = λ v. (λ c. met.reached v c, λ (l, u). elim (closed u) [ inl m ↦ absurd (omega (arith, l, m)) | inr c ↦ c ]);
      numbered = by_occurrence;
    }

pub start : (first count : ℕ) (atoms : List Flat) → IsMeeting first count atoms [] 0 0
start first count atoms = record {
  distinct = tt;
  reached = λ v (k, w, e). absurd (omega (arith, w));
  hangs = λ k w. absurd (omega (arith, w));
  seen = λ u i x b a. elim b [ inl l ↦ absurd (omega (arith, l)) | inr l ↦ absurd (omega (arith, l.1)) ];
  earlier = λ k l u j w m a. absurd (omega (arith, m));
}
