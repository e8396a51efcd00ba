-- A settled part whose inner variables are numbered anew is reduced.
use Rattle.std.specs.Prelude.{Contains}
use Rattle.std.proofs.Common.{ℕ, ◌≡◌, ◌+◌, ◌<◌, ◌≤◌, List, [], ◌∷◌, map, refl, sym, ap, ◌∙◌, subst, arith, inl, inr, ◌⊎◌}
use Rattle.tree_model.specs.declared.tree.Symbol.{Symbol}
use Rattle.tree_facts.proofs.Members.{contains_first, contains_later}
use Rattle.tree_facts.proofs.Renumbering.{contains_map}
use Rattle.flat_form.specs.declared.atom.Flat.{Flat}
use Rattle.flat_form.specs.declared.atom.Flat.TheVariants.{VarVar, VarTerm, Finite}
use Rattle.flat_form.specs.declared.cube.Part.{Part}
use Rattle.flat_form.specs.Numbering.{BasicOver, PartOver}
use Rattle.flat_form.specs.Parts.{variables_of, renumbered}
use Rattle.flat_form.specs.Solved.{variable_of, IsOpen, HasTerm}
use Rattle.flat_form.specs.Orders.{new_number, place_of}
use Rattle.flat_form.specs.Reduced.{IsReducedPart}
use Rattle.flat_form.specs.Steps.{Mentions, NumbersInner}
use Rattle.flat_facts.proofs.Follows.{over_below}
use Rattle.cube_facts.specs.Numbers.{old_number}
use Rattle.cube_facts.specs.Settling.{HasSettledShape}
use Rattle.cube_facts.proofs.OldNumbers.{old_number_is_back}
use Rattle.cube_facts.proofs.Places.{number_low, number_in, place_low, side}
use Rattle.cube_facts.proofs.Settle.{some_atom}
use Rattle.cube_facts.proofs.Variables.{own_variable, variable_renumbered}
use Rattle.step_facts.proofs.Renumberings.{list_back, WasTerm, was_equal, was_term, was_finite, renumbering_over}

list_same : (f : ℕ → ℕ) (xs : List ℕ) → ((v : ℕ) → Contains xs v → f v ≡ v) → map f xs ≡ xs
list_same f [] same = refl
list_same f (x ∷ xs) same =
    ap (λ (z : ℕ). z ∷ map f xs) (same x (contains_first x xs)) ∙ ap (λ (zs : List ℕ). x ∷ zs) (list_same f xs (λ v i. same v (contains_later x v xs i)))

module _ (m : ℕ) (base : List Flat) (base_over : BasicOver m base) (part new : Part) (shape : HasSettledShape m base part) (n : NumbersInner m part new) where
  abbrev number : ℕ → ℕ
  number v = new_number m (m + part.inner) n.order v

  abbrev Any : Flat → Type 0
  Any atom = Unit {0}

  low_number : (v : ℕ) → v < m → number v ≡ v
  low_number v low = number_low m (m + part.inner) n.order v low

  part_low : (v : ℕ) → Mentions part v → v < m + part.inner
  part_low v (a, i, o) = over_below (m + part.inner) part.basic shape.over a i v o

  high_number : (v : ℕ) → Mentions part v → m ≤ v → number v ≡ m + place_of n.order v
  high_number v there le = number_in m (m + part.inner) n.order v le (part_low v there)

  back : (v : ℕ) → Mentions part v → old_number m (m + part.inner) n.order (number v) ≡ v
  back v there = old_number_is_back m (m + part.inner) n.order v (omega arith)
      (elim (side v m) as (λ s. (v < m) ⊎ (m + part.inner ≤ v) ⊎ ((m ≤ v) × (v < m + part.inner) × Contains n.order v)) [
        | inl low ↦ inl low
        | inr le ↦ inr (inr (le, part_low v there, (n.order_is v).1 (le, there)))
      ])

  number_below : (v : ℕ) → Mentions part v → number v < m + new.inner
  number_below v there = elim (side v m) [
    | inl low ↦ omega (arith, low_number v low, low)
    | inr le ↦ omega (arith, high_number v there le, place_low n.order v ((n.order_is v).1 (le, there)), n.inner_is)
  ]

  was_low : (v : ℕ) → Mentions part v → number v < m → v < m
  was_low v there low = elim (side v m) [ inl l ↦ l | inr le ↦ absurd (omega (arith, high_number v there le, low)) ]

  pub new_over : PartOver m new
  new_over = renumbering_over number Any part.basic new.basic n.basic_is (m + part.inner) (m + new.inner) shape.over (λ a i taken v o. number_below v (a, i, o))

  new_some : ¬ (part.basic ≡ []) → ¬ (new.basic ≡ [])
  new_some some = λ empty.
      let (a, i) = some_atom part.basic some in
      let inside : Contains new.basic (renumbered number a) = (n.basic_is.is (renumbered number a)).1 (a, i, tt, refl) in
      let nowhere : Contains [] (renumbered number a) = subst (λ (xs : List Flat). Contains xs (renumbered number a)) empty inside in
      omega (arith, nowhere.1)

  base_low : (a : Flat) → Contains base a → (v : ℕ) → Contains (variables_of a) v → v < m
  base_low a i v o = over_below m base base_over a i v o

  open_above : (v : ℕ) → m ≤ v → IsOpen base v
  open_above v le = record {
    no_variable = λ r i. let low = base_low (VarVar v r) i v (own_variable (VarVar v r)) in omega (arith, low, le);
    no_term = λ s xs i. let low = base_low (VarTerm v s xs) i v (own_variable (VarTerm v s xs)) in omega (arith, low, le);
  }

  new_open : (b : Flat) → Contains part.basic b → IsOpen base (number (variable_of b))
  new_open b i = elim (side (variable_of b) m) [
    | inl low ↦ subst (λ (z : ℕ). IsOpen base z) (sym (low_number (variable_of b) low)) (shape.left_open b i)
    | inr le ↦ open_above (number (variable_of b)) (omega (arith, high_number (variable_of b) (b, i, own_variable b) le))
  ]

  -- equations of variables stay as they are
  record Same (u h : ℕ) : Type 0 where
    stands : Contains part.basic (VarVar u h)
    left_low : u < m
    right_low : h < m

  same_equal : (u h : ℕ) → Contains new.basic (VarVar u h) → Same u h
  same_equal u h i =
      let q = was_equal number Any part.basic new.basic n.basic_is u h i in
      let low = shape.shape.equal q.left q.right q.stands in
      let a : q.left ≡ u = sym (q.left_is ∙ low_number q.left low.0) in
      let b : q.right ≡ h = sym (q.right_is ∙ low_number q.right low.1) in
      record {
        stands = subst (λ (z : ℕ). Contains part.basic (VarVar z h)) a (subst (λ (z : ℕ). Contains part.basic (VarVar q.left z)) b q.stands);
        left_low = subst (λ (z : ℕ). z < m) a low.0;
        right_low = subst (λ (z : ℕ). z < m) b low.1;
      }

  new_equal : (u h : ℕ) → Contains new.basic (VarVar u h) → (u < m) × ((h < u) ⊎ HasTerm base h) × ((w : ℕ) → ¬ Contains new.basic (VarVar h w))
  new_equal u h i =
      let q = same_equal u h i in
      let known = shape.equal u h q.stands in
      (q.left_low, known.0, λ w j. known.1 w (same_equal h w j).stands)

  new_unmarked : (u : ℕ) → Contains new.basic (Finite u) → ¬ Contains base (Finite u)
  new_unmarked u i = λ j.
      let q = was_finite number Any part.basic new.basic n.basic_is u i in
      let low : u < m = base_low (Finite u) j u (own_variable (Finite u)) in
      let left_low : q.left < m = was_low q.left (Finite q.left, q.stands, own_variable (Finite q.left)) (omega (arith, q.left_is, low)) in
      let same : u ≡ q.left = q.left_is ∙ low_number q.left left_low in
      shape.shape.unmarked q.left q.stands (subst (λ (z : ℕ). Contains base (Finite z)) same j)

  in_term : (u : ℕ) (s : Symbol) (xs : List ℕ) → Contains part.basic (VarTerm u s xs) → (v : ℕ) → Contains xs v → Mentions part v
  in_term u s xs i v o = (VarTerm u s xs, i, contains_later u v xs o)

  not_in_base : (u v : ℕ) (s : Symbol) (xs : List ℕ) → WasTerm number Any part.basic u s xs → ¬ Contains base (VarTerm v s xs)
  not_in_base u v s xs t = λ j.
      let same : xs ≡ t.arguments = t.all_are ∙ list_same number t.arguments (λ w o.
      let there : Mentions part w = in_term t.left s t.arguments t.stands w o in
      let image : Contains xs (number w) = subst (λ (zs : List ℕ). Contains zs (number w)) (sym t.all_are) (contains_map number t.arguments w o) in
      low_number w (was_low w there (base_low (VarTerm v s xs) j (number w) (contains_later v (number w) xs image)))) in
      (shape.apart t.left v s t.arguments t.stands).0 (subst (λ (zs : List ℕ). Contains base (VarTerm v s zs)) same j)

  not_twice : (u v : ℕ) (s : Symbol) (xs : List ℕ) → WasTerm number Any part.basic u s xs → WasTerm number Any part.basic v s xs → u ≡ v
  not_twice u v s xs t r =
      let g : ℕ → ℕ = λ w. old_number m (m + part.inner) n.order w in
      let a : map g (map number r.arguments) ≡ r.arguments = list_back number g r.arguments (λ w o. back w (in_term r.left s r.arguments r.stands w o)) in
      let b : map g (map number t.arguments) ≡ t.arguments = list_back number g t.arguments (λ w o. back w (in_term t.left s t.arguments t.stands w o)) in
      let same : r.arguments ≡ t.arguments = sym a ∙ (ap (λ (zs : List ℕ). map g zs) (sym r.all_are ∙ t.all_are) ∙ b) in
      let left : t.left ≡ r.left = (shape.apart t.left r.left s t.arguments t.stands).1 (subst (λ (zs : List ℕ). Contains part.basic (VarTerm r.left s zs)) same r.stands) in
      t.left_is ∙ (ap (λ (z : ℕ). number z) left ∙ sym r.left_is)

  pub new_reduced : ¬ (part.basic ≡ []) → IsReducedPart m base new
  new_reduced some = record {
    some_atom = new_some some;
    ascending = n.basic_is.ascending;
    left_open = λ a i.
        let (b, stands, taken, e) = (n.basic_is.is a).0 i in
        subst (λ (z : ℕ). IsOpen base z) (sym (ap variable_of e ∙ variable_renumbered number b)) (new_open b stands);
    equal = new_equal;
    unmarked = new_unmarked;
    numbered = n.numbered;
    apart = λ u v s xs i.
        let t = was_term number Any part.basic new.basic n.basic_is u s xs i in
        (not_in_base u v s xs t, λ j. not_twice u v s xs t (was_term number Any part.basic new.basic n.basic_is v s xs j));
  }
