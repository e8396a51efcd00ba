-- Noting places of terms for the names of their classes.
use Rattle.std.proofs.Common.{ℕ, zero, suc, ◌≡◌, ◌<◌, List, [], ◌∷◌, length, get_or, refl, sym, ap, ◌∙◌, subst, arith, inl, inr, ◌⊎◌, Option, Some, None}
use Rattle.std.specs.Prelude.{slice_get, slice_set, All}
use Rattle.std.proofs.lemmas.List.{length-set}
use Rattle.std.proofs.lemmas.List.Elements.{All-weaker}
use Rattle.std.proofs.lemmas.Option.{slice_get_within}
use Rattle.flat_form.specs.declared.atom.Flat.{Flat}
use Rattle.flat_form.specs.declared.atom.Flat.TheVariants.{VarVar, VarTerm, Finite}
use Rattle.flat_form.specs.Numbering.{AtomOver}
use Rattle.basic_solver.specs.Names.{name_in}
use Rattle.basic_solver.specs.Flags.{AreNames}
use Rattle.basic_solver.specs.Terms.{with_term, GivesTerm, IsNoted, AreTerms}

placed_back : (ts : List (Option ℕ)) (r k i j : ℕ) → get_or (slice_set ts r (Some i)) k None ≡ Some j → (k ≡ r) × (j ≡ i) ⊎ (get_or ts k None ≡ Some j)
placed_back [] r k i j e = inr e
placed_back (x ∷ xs) zero zero i j e = inl (refl, cc)
placed_back (x ∷ xs) zero (suc k) i j e = inr e
placed_back (x ∷ xs) (suc r) zero i j e = inr e
placed_back (x ∷ xs) (suc r) (suc k) i j e = elim (placed_back xs r k i j e) [ inl q ↦ inl (ap suc q.0, q.1) | inr q ↦ inr q ]

placed_kept : (ts : List (Option ℕ)) (r k i : ℕ) → ¬ (get_or ts k None ≡ None) → ¬ (get_or (slice_set ts r (Some i)) k None ≡ None)
placed_kept [] r k i n = n
placed_kept (x ∷ xs) zero zero i n = λ e. cc
placed_kept (x ∷ xs) zero (suc k) i n = n
placed_kept (x ∷ xs) (suc r) zero i n = n
placed_kept (x ∷ xs) (suc r) (suc k) i n = placed_kept xs r k i n

placed_there : (ts : List (Option ℕ)) (r i : ℕ) → r < length ts → ¬ (get_or (slice_set ts r (Some i)) r None ≡ None)
placed_there [] r i w = absurd (omega arith)
placed_there (x ∷ xs) zero i w = λ e. cc
placed_there (x ∷ xs) (suc r) i w = placed_there xs r i (omega arith)

-- at each place stands a term of the class
abbrev pub HaveTerms : List ℕ → List Flat → List (Option ℕ) → Type 0
HaveTerms names atoms terms = (name j : ℕ) → get_or terms name None ≡ Some j → (b : Flat) × (slice_get atoms j ≡ Some b) × GivesTerm names name b

module _ (names : List ℕ) where
  pub noted_size : (a : Flat) (i : ℕ) (terms : List (Option ℕ)) → length (with_term names a i terms) ≡ length terms
  noted_size (VarVar u r) i terms = refl
  noted_size (VarTerm u s xs) i terms = length-set terms (name_in names u) (Some i)
  noted_size (Finite u) i terms = refl

  noted_stays : (a : Flat) (i : ℕ) (terms : List (Option ℕ)) (b : Flat) → IsNoted names terms b → IsNoted names (with_term names a i terms) b
  noted_stays (VarVar u r) i terms b h = h
  noted_stays (VarTerm u s xs) i terms (VarVar v r) h = tt
  noted_stays (VarTerm u s xs) i terms (VarTerm v t ys) h = placed_kept terms (name_in names u) (name_in names v) i h
  noted_stays (VarTerm u s xs) i terms (Finite v) h = tt
  noted_stays (Finite u) i terms b h = h

  pub noted_more : (a : Flat) (i : ℕ) (terms : List (Option ℕ)) (atoms : List Flat) → All (IsNoted names terms) atoms → All (IsNoted names (with_term names a i terms)) atoms
  noted_more a i terms atoms h = All-weaker (IsNoted names terms) (IsNoted names (with_term names a i terms)) (noted_stays a i terms) atoms h

  pub noted_here : (a : Flat) (i : ℕ) (terms : List (Option ℕ)) → AreNames names → length terms ≡ length names → AtomOver (length names) a
      → IsNoted names (with_term names a i terms) a
  noted_here (VarVar u r) i terms low size over = tt
  noted_here (VarTerm u s xs) i terms low size over = placed_there terms (name_in names u) i (omega (arith, low u over.0, size))
  noted_here (Finite u) i terms low size over = tt

  pub have_more : (atoms : List Flat) (a : Flat) (i : ℕ) (terms : List (Option ℕ)) → slice_get atoms i ≡ Some a → HaveTerms names atoms terms
      → HaveTerms names atoms (with_term names a i terms)
  have_more atoms (VarVar u r) i terms at h name j e = h name j e
  have_more atoms (VarTerm u s xs) i terms at h name j e = elim (placed_back terms (name_in names u) name i j e) [
    | inl q ↦ (VarTerm u s xs, ap (slice_get atoms) q.1 ∙ at, sym q.0)
    | inr q ↦ h name j q
  ]
  have_more atoms (Finite u) i terms at h name j e = h name j e

  pub are_terms : (atoms : List Flat) (terms : List (Option ℕ)) → length terms ≡ length names → HaveTerms names atoms terms → All (IsNoted names terms) atoms
      → AreTerms names atoms terms
  are_terms atoms terms size have noted = record {
    size = size;
    places = λ name j e. slice_get_within atoms j (have name j e).0 (have name j e).1;
    stands = λ name atom at.
        let h = have name at.0 at.1 in
        let same : h.0 ≡ atom = cc (h.1, at.2) in
        subst (λ (z : Flat). GivesTerm names name z) same h.2;
    noted = noted;
  }
