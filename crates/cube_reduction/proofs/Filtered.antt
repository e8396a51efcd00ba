-- Some of the atoms of a list that ascends, in their order.
use Rattle.std.specs.Prelude.{Contains}
use Rattle.std.specs.List.{filter}
use Rattle.std.proofs.Common.{◌≡◌, refl, Bool, true, false, cond, List, [], ◌∷◌, sym, ap, ◌∙◌, subst, arith, inl, inr, ◌⊎◌}
use Rattle.tree_facts.proofs.Members.{contains_first, contains_later, contains_cases}
use Rattle.flat_form.specs.declared.atom.Flat.{Flat}
use Rattle.flat_form.specs.Solved.{Ascends}

module _ (test : Flat → Bool) where
  module _ (y : Flat) (xs : List Flat) (x : Flat) where
    from_step : (b : Bool) → test y ≡ b → (Contains (filter test xs) x → Contains xs x × (test x ≡ true))
        → Contains (cond b (y ∷ filter test xs) (filter test xs)) x → Contains (y ∷ xs) x × (test x ≡ true)
    from_step true e next i = elim (contains_cases y x (filter test xs) i) [
      | inl is ↦ (subst (λ (z : Flat). Contains (y ∷ xs) z) is (contains_first y xs), ap test (sym is) ∙ e)
      | inr more ↦ (contains_later y x xs (next more).0, (next more).1)
    ]
    from_step false e next i = (contains_later y x xs (next i).0, (next i).1)

    all_step : (b : Bool) → test y ≡ b → test x ≡ true → (Contains xs x → Contains (filter test xs) x) → (y ≡ x) ⊎ Contains xs x
        → Contains (cond b (y ∷ filter test xs) (filter test xs)) x
    all_step true e passes next (inl is) = subst (λ (z : Flat). Contains (y ∷ filter test xs) z) is (contains_first y (filter test xs))
    all_step true e passes next (inr more) = contains_later y x (filter test xs) (next more)
    all_step false e passes next (inl is) = let f : false ≡ true = sym e ∙ ap test is ∙ passes in absurd (cc)
    all_step false e passes next (inr more) = next more

  -- what stays stood there and passes
  pub filtered_from : (xs : List Flat) (x : Flat) → Contains (filter test xs) x → Contains xs x × (test x ≡ true)
  filtered_from [] x i = absurd (omega (arith, i.1))
  filtered_from (y ∷ xs) x i = from_step y xs x (test y) refl (filtered_from xs x) i

  -- and all that passes stays
  pub filtered_all : (xs : List Flat) (x : Flat) → Contains xs x → test x ≡ true → Contains (filter test xs) x
  filtered_all [] x i passes = absurd (omega (arith, i.1))
  filtered_all (y ∷ xs) x i passes = all_step y xs x (test y) refl passes (λ more. filtered_all xs x more passes) (contains_cases y x xs i)

  ascends_step : (y : Flat) (xs : List Flat) (b : Bool) → Ascends (y ∷ xs) → Ascends (filter test xs) → Ascends (cond b (y ∷ filter test xs) (filter test xs))
  ascends_step y xs true up next = (λ later i. up.0 later (filtered_from xs later i).0, next)
  ascends_step y xs false up next = next

  -- in ascending order
  pub filtered_ascends : (xs : List Flat) → Ascends xs → Ascends (filter test xs)
  filtered_ascends [] up = tt
  filtered_ascends (y ∷ xs) up = ascends_step y xs (test y) up (filtered_ascends xs up.1)
