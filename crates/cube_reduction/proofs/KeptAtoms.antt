-- What stays of the atoms that a part adds, by the marks of the variables that the first ones reach.
use Rattle.std.specs.Prelude.{ltb}
use Rattle.std.specs.List.{filter}
use Rattle.std.proofs.Common.{ℕ, ◌≡◌, Bool, true, List, sym, ap, ◌∙◌, subst, arith}
use Rattle.std.proofs.lemmas.Bool.Decides.{nat_tests}
use Rattle.flat_form.specs.declared.atom.Flat.{Flat}
use Rattle.flat_form.specs.declared.atom.Flat.TheVariants.{VarVar, VarTerm, Finite}
use Rattle.flat_form.specs.Parts.{IsKept, IsPruned}
use Rattle.flat_form.specs.Solved.{Ascends}
use Rattle.reachability.specs.Flags.{AreReached}
use Rattle.cube_reduction.specs.Keeping.{is_kept_by}
use Rattle.cube_reduction.proofs.Filtered.{filtered_from, filtered_all, filtered_ascends}

module _ (m count : ℕ) (added : List Flat) (marks : List Bool) (are : AreReached m count added marks) where
  kept_is : (atom : Flat) → is_kept_by m marks atom ≡ true → IsKept m added atom
  kept_is (VarVar u v) e = let t : ltb u m ≡ true = e in grind (arith, nat_tests)
  kept_is (VarTerm u symbol xs) e = (are.is u).0 e
  kept_is (Finite u) e = (are.is u).0 e

  is_kept : (atom : Flat) → IsKept m added atom → is_kept_by m marks atom ≡ true
  is_kept (VarVar u v) low = grind (arith, nat_tests)
  is_kept (VarTerm u symbol xs) r = (are.is u).1 r
  is_kept (Finite u) r = (are.is u).1 r

  pub filtered_is_pruned : Ascends added → IsPruned m added (filter (is_kept_by m marks) added)
  filtered_is_pruned up = record {
    ascending = filtered_ascends (is_kept_by m marks) added up;
    from = λ atom i. let (there, passes) = filtered_from (is_kept_by m marks) added atom i in (there, kept_is atom passes);
    all = λ atom i stays. filtered_all (is_kept_by m marks) added atom i (is_kept atom stays);
  }

  pub pruned_by : (lent : List Bool) (lent_atoms kept : List Flat) → lent ≡ marks → lent_atoms ≡ added → Ascends added → kept ≡ filter (is_kept_by m lent) lent_atoms
      → IsPruned m added kept
  pruned_by lent lent_atoms kept same same_atoms up e =
      let is : kept ≡ filter (is_kept_by m marks) added =
      e ∙ ap (λ (z : List Bool). filter (is_kept_by m z) lent_atoms) same ∙ ap (filter (is_kept_by m marks)) same_atoms in
      subst (IsPruned m added) (sym is) (filtered_is_pruned up)
