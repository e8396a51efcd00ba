-- The atoms of a conjunction are those of both its sides.
use Rattle.std.proofs.Common.{◌≡◌, ℕ, zero, suc, List, [], ◌∷◌, ◌++◌, refl, sym, subst, ◌⊎◌, inl, inr, arith}
use Rattle.std.specs.Prelude.{All, Contains, ◌↔◌}
use Rattle.std.proofs.lemmas.List.Elements.{All-nil, All-cons, All-head, All-tail, All-append, All-contains, Contains-append_left, Contains-append_right, Contains-append_cases}
use Rattle.lists.specs.Distinct.{IsDistinct}
use Rattle.flat_form.specs.declared.atom.Flat.{Flat}
use Rattle.flat_form.specs.declared.atom.Flat.TheVariants.{Finite}
use Rattle.flat_form.specs.Solved.{variable_of}
use Rattle.flat_form.proofs.Symbols.{each_of}
use Rattle.explicit_form.specs.Shape.{SomeAtom, HaveSameTerm, AreApart, AllApart}

-- ---- one of the atoms

pub none_there : (P : Flat → Type 0) → ¬ SomeAtom P []
none_there P (atom, c, p) = absurd (omega (arith, c.1))

pub one_there : (P : Flat → Type 0) (atom : Flat) → SomeAtom P (atom ∷ []) ↔ P atom
one_there P atom = (by, λ p. (atom, (0, omega arith, refl), p))
  where
    by : SomeAtom P (atom ∷ []) → P atom
    by (other, (zero, less, is), p) = subst P (sym is) p
    by (other, (suc i, less, is), p) = absurd (omega (arith, less))

pub some_left : (P : Flat → Type 0) (xs ys : List Flat) → SomeAtom P xs → SomeAtom P (xs ++ ys)
some_left P xs ys (atom, c, p) = (atom, Contains-append_left xs ys atom c, p)

pub some_right : (P : Flat → Type 0) (xs ys : List Flat) → SomeAtom P ys → SomeAtom P (xs ++ ys)
some_right P xs ys (atom, c, p) = (atom, Contains-append_right xs ys atom c, p)

pub some_cases : (P : Flat → Type 0) (xs ys : List Flat) → SomeAtom P (xs ++ ys) → SomeAtom P xs ⊎ SomeAtom P ys
some_cases P xs ys (atom, c, p) = elim (Contains-append_cases xs ys atom c) [ inl left ↦ inl (atom, left, p) | inr right ↦ inr (atom, right, p) ]

pub not_some : (P : Flat → Type 0) (xs : List Flat) → (¬ SomeAtom P xs) ↔ All (λ atom. ¬ P atom) xs
not_some P xs = (
  λ none. each_of (λ atom. ¬ P atom) xs (λ atom c p. none (atom, c, p)),
  λ all (atom, c, p). All-contains (λ atom. ¬ P atom) xs atom all c p,
)

-- ---- all atoms

module _ {A : Type 0} (P : A → Type 0) where
  pub all_left : (xs ys : List A) → All P (xs ++ ys) → All P xs
  all_left xs ys all = each_of P xs (λ x c. All-contains P (xs ++ ys) x all (Contains-append_left xs ys x c))

  pub all_right : (xs ys : List A) → All P (xs ++ ys) → All P ys
  all_right xs ys all = each_of P ys (λ x c. All-contains P (xs ++ ys) x all (Contains-append_right xs ys x c))

  pub all_one : (x : A) → All P (x ∷ []) ↔ P x
  all_one x = (λ all. All-head P x [] all, λ p. All-cons P x [] p (All-nil P))

  pub all_both : (xs ys : List A) → All P (xs ++ ys) ↔ (All P xs × All P ys)
  all_both xs ys = (λ all. (all_left xs ys all, all_right xs ys all), λ both. All-append P xs ys both.0 both.1)

-- ---- atoms that are apart

-- an atom is apart from others exactly where none of these is of its variable or has its term
pub apart_is : (atom : Flat) (xs : List Flat) → All (AreApart atom) xs ↔ ((¬ SomeAtom (λ other. variable_of other ≡ variable_of atom) xs) × (¬ SomeAtom (HaveSameTerm atom) xs))
apart_is atom xs = (
  λ all. (
    λ (other, c, same). (All-contains (AreApart atom) xs other all c).0 (sym same),
    λ (other, c, same). (All-contains (AreApart atom) xs other all c).1 same,
  ),
  λ none. each_of (AreApart atom) xs (λ other c. (λ same. none.0 (other, c, sym same), λ same. none.1 (other, c, same))),
)

-- a finite atom has no term
pub finite_apart : (u : ℕ) (xs : List Flat) → All (AreApart (Finite u)) xs ↔ (¬ SomeAtom (λ other. variable_of other ≡ u) xs)
finite_apart u xs = (
  λ all. ((apart_is (Finite u) xs).0 all).0,
  λ none. (apart_is (Finite u) xs).1 (none, λ (other, c, same). same),
)

abbrev pub Each : List Flat → List Flat → Type 0
Each xs ys = All (λ atom. All (AreApart atom) ys) xs

pub apart_both : (xs ys : List Flat) → AllApart (xs ++ ys) ↔ (AllApart xs × AllApart ys × Each xs ys)
apart_both [] ys = (λ apart. (tt, apart, All-nil (λ atom. All (AreApart atom) ys)), λ all. all.1)
apart_both (x ∷ xs) ys =
    let rest = apart_both xs ys in (
      λ apart.
          let more = rest.0 apart.1 in
          ((all_left (AreApart x) xs ys apart.0, more.0), more.1, All-cons (λ atom. All (AreApart atom) ys) x xs (all_right (AreApart x) xs ys apart.0) more.2),
      λ all. (
        All-append (AreApart x) xs ys all.0.0 (All-head (λ atom. All (AreApart atom) ys) x xs all.2),
        rest.1 (all.0.1, all.1, All-tail (λ atom. All (AreApart atom) ys) x xs all.2),
      ),
    )

-- ---- distinct lists

module _ {A : Type 0} where
  pub distinct_more : (xs : List A) (y : A) → IsDistinct (xs ++ y ∷ []) ↔ (IsDistinct xs × (¬ Contains xs y))
  distinct_more [] y = (λ d. (tt, λ c. absurd (omega (arith, c.1))), λ d. (λ c. absurd (omega (arith, c.1)), tt))
  distinct_more (x ∷ xs) y =
      let rest = distinct_more xs y in (
        λ d.
            let more = rest.0 d.1 in
            ((λ c. d.0 (Contains-append_left xs (y ∷ []) x c), more.0), λ c. by d.0 more.1 c),
        λ d. (
          λ c. elim (Contains-append_cases xs (y ∷ []) x c) [
            | inl here ↦ d.0.0 here
            | inr there ↦ d.1 (0, omega arith, sym (only y x there))
          ],
          rest.1 (d.0.1, λ c. d.1 (suc c.0, omega (arith, c.1), c.2)),
        ),
      )
    where
      only : (y x : A) → Contains (y ∷ []) x → y ≡ x
      only y x (zero, less, is) = is
      only y x (suc i, less, is) = absurd (omega (arith, less))

      by : (¬ Contains (xs ++ y ∷ []) x) → (¬ Contains xs y) → ¬ Contains (x ∷ xs) y
      by first later (zero, less, is) = first (subst (Contains (xs ++ y ∷ [])) (sym is) (Contains-append_right xs (y ∷ []) y (0, omega arith, refl)))
      by first later (suc i, less, is) = later (i, omega (arith, less), is)
