-- Two orders of one set, under both of which the renumbered atoms are numbered by first occurrence, are equal.
use Rattle.std.specs.Prelude.{Contains, slice_index}
use Rattle.std.proofs.Common.{ℕ, zero, suc, ◌≡◌, ◌+◌, ◌-◌, ◌<◌, ◌≤◌, List, [], ◌∷◌, ◌++◌, length, refl, sym, ap, ◌∙◌, subst, arith, inl, inr, ◌⊎◌}
use Rattle.std.proofs.lemmas.List.Elements.{Contains-get_or}
use Rattle.lists.specs.Distinct.{IsDistinct}
use Rattle.flat_form.specs.declared.atom.Flat.{Flat}
use Rattle.flat_form.specs.FirstOccurrence.{IsArgument, IsBefore, IsNumbered}
use Rattle.flat_form.specs.Orders.{new_number, IsRenumbering}
use Rattle.cube_facts.proofs.Places.{Puts, side, same_or_not, number_back, number_back_low}
use Rattle.step_facts.proofs.Occurrences.{Occurs, ComesFrom, from_new, to_new}

-- Two numberings agree below a limit, and one has an occurrence of v before each of w, the other one of w before each
-- of v. So w does not occur below the limit: before its first occurrence there would be another.
module _ (A : ℕ → ℕ → ℕ → Type 0) (f g : ℕ → ℕ) (limit v w : ℕ)
    (agree : (u : ℕ) → f u < limit → g u ≡ f u)
    (back : (u : ℕ) → g u < limit → f u ≡ g u)
    (v_first : (u i : ℕ) → A u i w → f u < limit → (t : ℕ) × (j : ℕ) × IsBefore (f t) j (f u) i × A t j v)
    (w_first : (u i : ℕ) → A u i v → g u < limit → (t : ℕ) × (j : ℕ) × IsBefore (g t) j (g u) i × A t j w) where
  -- an occurrence of w that is before another one
  record Earlier (u i : ℕ) : Type 0 where
    other : ℕ
    place : ℕ
    before : IsBefore (f other) place (f u) i
    occurs : A other place w

  chain : (a i b j c k : ℕ) → IsBefore a i b j → IsBefore b j c k → IsBefore a i c k
  chain a i b j c k (inl p) (inl q) = inl (omega arith)
  chain a i b j c k (inl p) (inr q) = inl (omega (arith, p, q.0))
  chain a i b j c k (inr p) (inl q) = inl (omega (arith, p.0, q))
  chain a i b j c k (inr p) (inr q) = inr (p.0 ∙ q.0, omega (arith, p.1, q.1))

  not_above : (a i b j : ℕ) → IsBefore a i b j → a ≤ b
  not_above a i b j (inl p) = omega arith
  not_above a i b j (inr p) = omega (arith, p.0)

  earlier : (u i : ℕ) → f u < limit → A u i w → Earlier u i
  earlier u i low a =
      let (t, j, before, o) = v_first u i a low in
      let t_low : f t < limit = omega (arith, not_above (f t) j (f u) i before, low) in
      let same = agree t t_low in
      let (s, l, again, p) = w_first t j o (omega (arith, same, t_low)) in
      let s_low : g s < limit = omega (arith, not_above (g s) l (g t) j again, same, t_low) in
      let first : IsBefore (f s) l (f t) j = subst (λ (z : ℕ). IsBefore z l (f t) j) (sym (back s s_low)) (subst (λ (z : ℕ). IsBefore (g s) l z j) same again) in
      record { other = s; place = l; before = chain (f s) l (f t) j (f u) i first before; occurs = p }

  -- by places, where nothing stands at smaller variables
  none_at : (b : ℕ) → b < limit → ((s l : ℕ) → f s < b → ¬ A s l w) → (n u i : ℕ) → f u ≡ b → i < n → ¬ A u i w
  none_at b low smaller zero u i same short = λ a. absurd (omega (arith, short))
  none_at b low smaller (suc n) u i same short = λ a. do
    let next = earlier u i (omega (arith, same, low)) a
    elim next.before [
      | inl p ↦ smaller next.other next.place (omega (arith, p, same)) next.occurs
      | inr p ↦ none_at b low smaller n next.other next.place (p.0 ∙ same) (omega (arith, p.1, short)) next.occurs
    ]

  below_or_at : (x b : ℕ) → x < suc b → (x < b) ⊎ (x ≡ b)
  below_or_at x b l = grind arith

  none_below : (b : ℕ) → b ≤ limit → (u i : ℕ) → f u < b → ¬ A u i w
  none_below zero le u i l = λ a. absurd (omega (arith, l))
  none_below (suc b) le u i l = elim (below_or_at (f u) b l) [
    | inl p ↦ none_below b (omega arith) u i p
    | inr p ↦ none_at b (omega arith) (none_below b (omega arith)) (suc i) u i p (omega arith)
  ]

  pub never : (u i : ℕ) → f u < limit → ¬ A u i w
  never u i l = none_below limit (omega arith) u i l

-- no item of a list without repeats stands at two places
pub one_place : (xs : List ℕ) → IsDistinct xs → (i j : ℕ) → i < length xs → j < length xs → slice_index xs i ≡ slice_index xs j → i ≡ j
one_place [] distinct i j p q e = absurd (omega (arith, p))
one_place (x ∷ xs) distinct zero zero p q e = refl
one_place (x ∷ xs) distinct zero (suc j) p q e = absurd (distinct.0 (subst (Contains xs) (sym e) (Contains-get_or xs j 0 (omega arith))))
one_place (x ∷ xs) distinct (suc i) zero p q e = absurd (distinct.0 (subst (Contains xs) e (Contains-get_or xs i 0 (omega arith))))
one_place (x ∷ xs) distinct (suc i) (suc j) p q e = ap suc (one_place xs distinct.1 i j (omega arith) (omega arith) e)

-- the place of an item
pub place_in : (xs : List ℕ) (v : ℕ) → Contains xs v → (k : ℕ) × (k < length xs) × (slice_index xs k ≡ v)
place_in (x ∷ xs) v (zero, w, e) = (zero, w, e)
place_in (x ∷ xs) v (suc k, w, e) = let (j, low, same) = place_in xs v (k, omega arith, e) in (suc j, omega arith, same)
place_in [] v (k, w, e) = absurd (omega (arith, w))

-- lists of one length with the same item at each place are equal
pub same_items : (xs ys : List ℕ) → length xs ≡ length ys → ((k : ℕ) → k < length xs → slice_index xs k ≡ slice_index ys k) → xs ≡ ys
same_items [] [] e each = refl
same_items [] (y ∷ ys) e each = absurd (omega (arith, e))
same_items (x ∷ xs) [] e each = absurd (omega (arith, e))
same_items (x ∷ xs) (y ∷ ys) e each =
    let first : x ≡ y = each zero (omega arith) in
    let rest : xs ≡ ys = same_items xs ys (omega (arith, e)) (λ k w. each (suc k) (omega arith)) in
    ap (λ z. z ∷ xs) first ∙ ap (λ z. y ∷ z) rest

-- numberings by orders that agree below place k agree on what has a number there
follows : (free k : ℕ) (one other : List ℕ) (f g : ℕ → ℕ) → Puts free one f → Puts free other g → k ≤ length one → k ≤ length other
    → ((j : ℕ) → j < k → slice_index one j ≡ slice_index other j) → (u : ℕ) → f u < free + k → g u ≡ f u
follows free k one other f g puts also_puts p q agree u low = elim (side (f u) free) [
  | inl l ↦ let below = puts.back_low u l in also_puts.low u below ∙ sym (puts.low u below)
  | inr le ↦
      let j = f u - free in
      let is : f u ≡ free + j = omega arith in
      let there : u ≡ slice_index one j = puts.back u j (omega (arith, is, low, p)) is in
      let here : u ≡ slice_index other j = there ∙ agree j (omega (arith, is, low)) in
      ap g here ∙ (also_puts.put j (omega (arith, is, low, q)) ∙ sym is)
]

-- where the item at place l occurs, the one at an earlier place k has occurred
module _ (P : Flat → Type 0) (old new : List Flat) (free : ℕ) (order : List ℕ) (f : ℕ → ℕ) (puts : Puts free order f)
    (renumbering : IsRenumbering f P old new) (numbered : IsNumbered free (free + length order) new) where
  -- an occurrence of the number of the item at place k is one of the item
  of_item : (k x j : ℕ) → k < length order → (from : ComesFrom f P old x j (free + k)) → Occurs P old from.left j (slice_index order k)
  of_item k x j low from = subst (λ (z : ℕ). Occurs P old from.left j z) (puts.back from.variable k low from.is) from.occurs

  to_item : (l u i : ℕ) → l < length order → Occurs P old u i (slice_index order l) → IsArgument new (f u) i (free + l)
  to_item l u i low o = subst (λ (z : ℕ). IsArgument new (f u) i z) (puts.put l low) (to_new f P old new renumbering u i (slice_index order l) o)

  moved_before : (k x j u i : ℕ) → k < length order → IsBefore x j (f u) i → ComesFrom f P old x j (free + k)
      → (t : ℕ) × (j : ℕ) × IsBefore (f t) j (f u) i × Occurs P old t j (slice_index order k)
  moved_before k x j u i low before from =
      (from.left, j, subst (λ (z : ℕ). IsBefore z j (f u) i) {y = f from.left} (sym from.left_is) before, of_item k x j low from)

  pub has_occurred : (k l u i : ℕ) → k < l → l < length order → Occurs P old u i (slice_index order l)
      → (t : ℕ) × (j : ℕ) × IsBefore (f t) j (f u) i × Occurs P old t j (slice_index order k)
  has_occurred k l u i less low o =
      let (x, j, before, a) = numbered.first (free + k) (free + l) (f u) i (omega arith) (omega arith) (omega arith) (to_item l u i low o) in
      moved_before k x j u i (omega arith) before (from_new f P old new renumbering x j (free + k) a)

  hung_under : (k x i : ℕ) → k < length order → x < free + k → ComesFrom f P old x i (free + k)
      → (u : ℕ) × (i : ℕ) × (f u < free + k) × Occurs P old u i (slice_index order k)
  hung_under k x i low less from = (from.left, i, omega (arith, from.left_is, less), of_item k x i low from)

  below_both : (k x : ℕ) → (x < free) ⊎ (x < free + k) → x < free + k
  below_both k x (inl l) = omega arith
  below_both k x (inr l) = l

  -- and each item is an argument of a variable with a smaller number
  pub has_hung : (k : ℕ) → k < length order → (u : ℕ) × (i : ℕ) × (f u < free + k) × Occurs P old u i (slice_index order k)
  has_hung k low =
      let (x, i, before, a) = numbered.hangs (free + k) (omega arith) (omega arith) in
      hung_under k x i low (below_both k x before) (from_new f P old new renumbering x i (free + k) a)

-- an item at a place behind which the lists may differ stands later in the other list
stands_later : (one other : List ℕ) (k : ℕ) → IsDistinct other → ((v : ℕ) → Contains other v → Contains one v)
    → ((j : ℕ) → j < k → slice_index one j ≡ slice_index other j) → k < length other → ¬ (slice_index one k ≡ slice_index other k)
    → (l : ℕ) × (k < l) × (l < length one) × (slice_index one l ≡ slice_index other k)
stands_later one other k distinct among agree low differ =
    let (l, within, is) = place_in one (slice_index other k) (among (slice_index other k) (Contains-get_or other k 0 low)) in
    elim (side k l) [
      | inl less ↦ (l, less, within, is)
      | inr le ↦ elim (same_or_not l k) [
        | inl e ↦ absurd (differ (ap (λ j. slice_index one j) (sym e) ∙ is))
        | inr n ↦
            let less : l < k = grind arith in
            absurd (n (one_place other distinct l k (omega arith) low (sym (agree l less) ∙ is)))
      ]
    ]

no_longer : (one other : List ℕ) → IsDistinct other → ((v : ℕ) → Contains other v → Contains one v)
    → ((j : ℕ) → j < length one → slice_index one j ≡ slice_index other j) → ¬ (length one < length other)
no_longer one other distinct among agree = λ less. do
  let at = length one
  let (l, within, is) = place_in one (slice_index other at) (among (slice_index other at) (Contains-get_or other at 0 less))
  let e : l ≡ at = one_place other distinct l at (omega arith) less (sym (agree l within) ∙ is)
  omega (arith, e, within)

module _ (P : Flat → Type 0) (old one_new other_new : List Flat) (free : ℕ) (one other : List ℕ) (f g : ℕ → ℕ) (one_distinct : IsDistinct one)
    (other_distinct : IsDistinct other) (there : (v : ℕ) → Contains one v → Contains other v) (back : (v : ℕ) → Contains other v → Contains one v)
    (puts : Puts free one f) (also_puts : Puts free other g) (one_is : IsRenumbering f P old one_new) (other_is : IsRenumbering g P old other_new)
    (one_numbered : IsNumbered free (free + length one) one_new) (other_numbered : IsNumbered free (free + length other) other_new) where
  -- orders that agree below place k agree there
  agree_at : (k : ℕ) → k < length one → k < length other → ((j : ℕ) → j < k → slice_index one j ≡ slice_index other j)
      → slice_index one k ≡ slice_index other k
  agree_at k p q agree = elim (same_or_not (slice_index one k) (slice_index other k)) [
    | inl e ↦ e
    | inr differ ↦
        let (l, less, low, is) = stands_later one other k other_distinct back agree q differ in
        let (n, also_less, also_low, also_is) = stands_later other one k one_distinct there (λ j w. sym (agree j w)) p (λ e. differ (sym e)) in
        let (u, i, hung, o) = has_hung P old other_new free other g also_puts other_is other_numbered k q in
        let to : (u : ℕ) → f u < free + k → g u ≡ f u = follows free k one other f g puts also_puts (omega arith) (omega arith) agree in
        let fro : (u : ℕ) → g u < free + k → f u ≡ g u =
        follows free k other one g f also_puts puts (omega arith) (omega arith) (λ j w. sym (agree j w)) in
        absurd (never (Occurs P old) f g (free + k) (slice_index one k) (slice_index other k) to fro
        (λ t j a _. has_occurred P old one_new free one f puts one_is one_numbered k l t j less low (subst (λ (z : ℕ). Occurs P old t j z) (sym is) a))
        (λ t j a _. has_occurred P old other_new free other g also_puts other_is other_numbered k n t j also_less also_low
        (subst (λ (z : ℕ). Occurs P old t j z) (sym also_is) a))
        u i (omega (arith, fro u hung, hung)) o)
  ]

  agree_below : (k : ℕ) → k ≤ length one → k ≤ length other → (j : ℕ) → j < k → slice_index one j ≡ slice_index other j
  agree_below zero p q j w = absurd (omega (arith, w))
  agree_below (suc k) p q j w = elim (same_or_not j k) [
    | inl e ↦ subst (λ (z : ℕ). slice_index one z ≡ slice_index other z) (sym e)
        (agree_at k (omega arith) (omega arith) (agree_below k (omega arith) (omega arith)))
    | inr n ↦ agree_below k (omega arith) (omega arith) j (grind arith)
  ]

  pub one_order : one ≡ other
  one_order = elim (side (length one) (length other)) [
    | inl less ↦ absurd (no_longer one other other_distinct back (agree_below (length one) (omega arith) (omega arith)) less)
    | inr le ↦ elim (side (length other) (length one)) [
      | inl less ↦ absurd (no_longer other one one_distinct there (λ j w. sym (agree_below (length other) (omega arith) (omega arith) j w)) less)
      | inr also ↦ same_items one other (omega arith) (agree_below (length one) (omega arith) (omega arith))
    ]
  ]

-- each item of the order hangs on a variable, so it is in scope
pub in_scope : (P : Flat → Type 0) (old new : List Flat) (free scope : ℕ) (order more : List ℕ) → IsRenumbering (new_number free scope (order ++ more)) P old new
    → IsNumbered free (free + length order) new → (v : ℕ) → Contains order v → v < scope
in_scope P old new free scope order more renumbering numbered v inside =
    let (k, low, is) = place_in order v inside in
    let (x, i, before, a) = numbered.hangs (free + k) (omega arith) (omega arith) in
    let from = from_new (new_number free scope (order ++ more)) P old new renumbering x i (free + k) a in
    subst (λ (z : ℕ). z < scope) (number_back free scope order more from.variable k low from.is ∙ is) (number_back_low free scope order more from.variable k low from.is)
