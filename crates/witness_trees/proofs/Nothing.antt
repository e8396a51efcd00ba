-- A cube that says nothing is reduced.
use Rattle.std.proofs.Common.{◌≡◌, ℕ, ◌+◌, List, [], sym, subst, arith}
use Rattle.std.proofs.lemmas.List.Elements.{All-nil}
use Rattle.flat_form.specs.declared.atom.Flat.{Flat}
use Rattle.flat_form.specs.declared.cube.Part.{Part}
use Rattle.flat_form.specs.declared.cube.Cube.{Cube}
use Rattle.flat_form.specs.Numbering.{AtomOver, PartOver}
use Rattle.flat_form.specs.Reduced.{IsReduced, IsReducedPart}
use Rattle.witness_trees.specs.Values.{IndexesAreUsed}

abbrev cube_of : ℕ → List Flat → List Part → Cube
cube_of free basic parts = record { free = free; outer = 0; basic = basic; parts = parts }

reduced : (free : ℕ) → IsReduced (cube_of free [] [])
reduced free = record {
  well_numbered = record { basic = All-nil (AtomOver (free + 0)); parts = All-nil (PartOver (free + 0)) };
  solved = record {
    ascending = tt;
    direct = λ u r c. absurd (omega (arith, c.1));
    plain = λ u s xs c. absurd (omega (arith, c.1));
    apart = λ u v s xs c. absurd (omega (arith, c.1));
  };
  numbered = record {
    hangs = λ v le w. absurd (omega arith);
    first = λ v w u j le less low argument. absurd (omega (arith, argument.stands.1));
  };
  parts = All-nil (IsReducedPart (free + 0) []);
  distinct = tt;
}

pub nothing_reduced : (free : ℕ) (basic : List Flat) (parts : List Part) → basic ≡ [] → parts ≡ [] → IsReduced (cube_of free basic parts)
nothing_reduced free basic parts e f =
    subst (λ (b : List Flat). IsReduced (cube_of free b parts)) (sym e) (subst (λ (p : List Part). IsReduced (cube_of free [] p)) (sym f) (reduced free))

no_index : (free : ℕ) (list : List ℕ) → IndexesAreUsed (cube_of free [] []) list
no_index free list k n c = absurd (omega (arith, c.1))

pub nothing_used : (free : ℕ) (basic : List Flat) (parts : List Part) → basic ≡ [] → parts ≡ [] → (list : List ℕ) → IndexesAreUsed (cube_of free basic parts) list
nothing_used free basic parts e f list =
    subst (λ (b : List Flat). IndexesAreUsed (cube_of free b parts) list) (sym e)
    (subst (λ (p : List Part). IndexesAreUsed (cube_of free [] p) list) (sym f) (no_index free list))
