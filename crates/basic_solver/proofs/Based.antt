-- Flags that are set for what the atoms of a base speak of.
use Rattle.std.proofs.Common.{ℕ, ◌≡◌, ◌<◌, ◌+◌, Bool, true, false, List, length, get_or, take, refl, sym, subst, inl, inr, Some}
use Rattle.std.specs.Prelude.{slice_get, slice_set, ◌↔◌, All}
use Rattle.std.proofs.lemmas.List.{length-set}
use Rattle.std.proofs.lemmas.List.Elements.{All-contains}
use Rattle.std.proofs.lemmas.Bool.Decides.{eqb_tells}
use Rattle.flat_form.specs.declared.atom.Flat.{Flat}
use Rattle.flat_form.specs.declared.atom.Flat.TheVariants.{VarVar, VarTerm, Finite}
use Rattle.flat_form.specs.Numbering.{AtomOver}
use Rattle.flat_form.proofs.Shapes.{all_next}
use Rattle.basic_solver.specs.Names.{name_in}
use Rattle.basic_solver.specs.Flags.{AreNames}
use Rattle.basic_solver.specs.Outcomes.{LeavesOpen, IsNoFinite}
use Rattle.basic_solver.specs.Bases.{with_bound, with_said}
use Rattle.basic_solver.proofs.Flagging.{set_there, set_kept, set_back}
use Rattle.basic_solver.proofs.Following.{stands_at}
use Rattle.basic_solver.proofs.Keys.{true_or_false}

-- what has no flag is not spoken of by some atoms
abbrev pub IsClean : (ℕ → Flat → Type 0) → List Flat → List Bool → Type 0
IsClean P some flags = (v : ℕ) → get_or flags v false ≡ false → All (P v) some

-- what has a flag is spoken of by an atom
abbrev pub IsUsed : (ℕ → Flat → Type 0) → List Flat → List Bool → Type 0
IsUsed P base flags = (v : ℕ) → get_or flags v false ≡ true → ¬ All (P v) base

module _ (P : ℕ → Flat → Type 0) (base : List Flat) (flags : List Bool) where
  pub told_by_flags : IsClean P base flags → IsUsed P base flags → (v : ℕ) → (get_or flags v false ≡ false) ↔ All (P v) base
  told_by_flags clean used v = (clean v, λ all. elim (true_or_false (get_or flags v false)) [ inl e ↦ absurd (used v e all) | inr e ↦ e ])

  module _ (i : ℕ) (a : Flat) (at : slice_get base i ≡ Some a) where
    clean_same : ((v : ℕ) → P v a) → IsClean P (take i base) flags → IsClean P (take (i + 1) base) flags
    clean_same none clean v e = all_next (P v) base i a at (clean v e) (none v)

    module _ (r : ℕ) (within : r < length flags) (others : (v : ℕ) → ¬ (v ≡ r) → P v a) (hit : ¬ P r a) where
      clean_set : IsClean P (take i base) flags → IsClean P (take (i + 1) base) (slice_set flags r true)
      clean_set clean v e = elim (eqb_tells v r) [
        | inl h ↦
            let there : get_or (slice_set flags r true) v false ≡ true = subst (λ (z : ℕ). get_or (slice_set flags r true) z false ≡ true) (sym h.1) (set_there flags r within) in
            absurd (cc (e, there))
        | inr h ↦ elim (true_or_false (get_or flags v false)) [
          | inl q ↦ let there : get_or (slice_set flags r true) v false ≡ true = set_kept flags r v q in absurd (cc (e, there))
          | inr q ↦ all_next (P v) base i a at (clean v q) (others v h.1)
        ]
      ]

      used_set : IsUsed P base flags → IsUsed P base (slice_set flags r true)
      used_set used v e = elim (set_back flags r v e) [
        | inl q ↦ λ all. hit (subst (λ (z : ℕ). P z a) q (All-contains (P v) base a all (stands_at base i a at)))
        | inr q ↦ used v q
      ]

pub bound_size : (flags : List Bool) (a : Flat) → length (with_bound a flags) ≡ length flags
bound_size flags (VarVar u r) = length-set flags u true
bound_size flags (VarTerm u s xs) = length-set flags u true
bound_size flags (Finite u) = refl

module _ (base : List Flat) (flags : List Bool) (i : ℕ) where
  pub bound_clean : (a : Flat) → slice_get base i ≡ Some a → AtomOver (length flags) a → IsClean LeavesOpen (take i base) flags
      → IsClean LeavesOpen (take (i + 1) base) (with_bound a flags)
  bound_clean (VarVar u r) at over clean = clean_set LeavesOpen base flags i (VarVar u r) at u over.0 (λ v n e. n (sym e)) (λ n. n refl) clean
  bound_clean (VarTerm u s xs) at over clean = clean_set LeavesOpen base flags i (VarTerm u s xs) at u over.0 (λ v n e. n (sym e)) (λ n. n refl) clean
  bound_clean (Finite u) at over clean = clean_same LeavesOpen base flags i (Finite u) at (λ v. tt) clean

  pub bound_used : (a : Flat) → slice_get base i ≡ Some a → AtomOver (length flags) a → IsUsed LeavesOpen base flags → IsUsed LeavesOpen base (with_bound a flags)
  bound_used (VarVar u r) at over used = used_set LeavesOpen base flags i (VarVar u r) at u over.0 (λ v n e. n (sym e)) (λ n. n refl) used
  bound_used (VarTerm u s xs) at over used = used_set LeavesOpen base flags i (VarTerm u s xs) at u over.0 (λ v n e. n (sym e)) (λ n. n refl) used
  bound_used (Finite u) at over used = used

  module _ (names : List ℕ) (low : AreNames names) (size : length flags ≡ length names) where
    pub said_size : (a : Flat) → length (with_said names a flags) ≡ length flags
    said_size (VarVar u r) = refl
    said_size (VarTerm u s xs) = refl
    said_size (Finite u) = length-set flags (name_in names u) true

    within : (u : ℕ) → u < length names → name_in names u < length flags
    within u w = subst (λ (z : ℕ). name_in names u < z) (sym size) (low u w)

    pub said_clean : (a : Flat) → slice_get base i ≡ Some a → AtomOver (length names) a → IsClean (IsNoFinite names) (take i base) flags
        → IsClean (IsNoFinite names) (take (i + 1) base) (with_said names a flags)
    said_clean (VarVar u r) at over clean = clean_same (IsNoFinite names) base flags i (VarVar u r) at (λ v. tt) clean
    said_clean (VarTerm u s xs) at over clean = clean_same (IsNoFinite names) base flags i (VarTerm u s xs) at (λ v. tt) clean
    said_clean (Finite u) at over clean =
        clean_set (IsNoFinite names) base flags i (Finite u) at (name_in names u) (within u over) (λ v n e. n (sym e)) (λ n. n refl) clean

    pub said_used : (a : Flat) → slice_get base i ≡ Some a → AtomOver (length names) a → IsUsed (IsNoFinite names) base flags
        → IsUsed (IsNoFinite names) base (with_said names a flags)
    said_used (VarVar u r) at over used = used
    said_used (VarTerm u s xs) at over used = used
    said_used (Finite u) at over used =
        used_set (IsNoFinite names) base flags i (Finite u) at (name_in names u) (within u over) (λ v n e. n (sym e)) (λ n. n refl) used
