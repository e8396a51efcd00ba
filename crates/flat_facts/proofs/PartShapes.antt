-- What is added, and what is kept of it, has the shape of a part.
use Rattle.std.proofs.Common.{ℕ, ◌≡◌, ◌<◌, List, arith}
use Rattle.std.specs.Prelude.{Contains}
use Rattle.flat_form.specs.declared.atom.Flat.{Flat}
use Rattle.flat_form.specs.declared.atom.Flat.TheVariants.{VarVar, VarTerm, Finite}
use Rattle.flat_form.specs.Classes.{itself}
use Rattle.flat_form.specs.Solved.{variable_of, IsOpen}
use Rattle.flat_form.specs.Added.{by_term, by_root, Adds, AddsEqual}
use Rattle.flat_form.specs.Parts.{Under, top, below, IsKept, IsPruned}
use Rattle.flat_facts.specs.PartLaws.{AddedIsLoose, PrunedIsPartOver}
use Rattle.flat_facts.proofs.Shapes.{added_direct, added_plain}

pub added_loose : AddedIsLoose
added_loose base atoms added adds = record {
  ascending = adds.ascending;
  direct = added_direct base atoms added adds;
  plain = added_plain base atoms added adds;
}

left_bare : (base atoms : List Flat) (a : Flat) → Adds base atoms a → IsOpen base (variable_of a)
left_bare base atoms (VarVar v h) new = new.bare
left_bare base atoms (VarTerm v s ys) new = new.bare
left_bare base atoms (Finite v) new = new.bare

module _ (m : ℕ) (added pruned : List Flat) (cut : IsPruned m added pruned) where
  under_pruned : {v : ℕ} → Under m added v → Under m pruned v
  under_pruned (top low) = top low
  under_pruned (below {u} s xs up i k w) = below s xs (under_pruned up) (cut.all (VarTerm u s xs) i up) k w

  kept_under : (a : Flat) → IsKept m added a → Under m pruned (variable_of a)
  kept_under (VarVar u h) low = top low
  kept_under (VarTerm u s xs) up = under_pruned up
  kept_under (Finite u) up = under_pruned up

pub pruned_part_over : PrunedIsPartOver
pruned_part_over m base atoms added pruned adds cut terms = record {
  left_open = λ a i low. left_bare base atoms a (adds.each a (cut.from a i).0);
  equal = λ u h i. let k = cut.from (VarVar u h) i in side u h k.1 (adds.each (VarVar u h) k.0);
  unmarked = λ u i. let new = adds.each (Finite u) (cut.from (Finite u) i).0 in new.new u (itself u);
  under = λ a i. kept_under m added pruned cut a (cut.from a i).1;
}
  where
    side : (u h : ℕ) → u < m → AddsEqual base atoms u h → (u < m) × (h < m) × (¬ (u ≡ h)) × ((r : ℕ) → Contains base (VarVar h r) → ¬ (u ≡ r))
    side u h low new = elim new.head [
      | by_term c t l ↦ (low, (terms h t).0, new.differ, λ r i e. (terms h t).1 r i)
      | by_root none c o l ↦ (low, omega (arith, l u (itself u) new.bare), new.differ, λ r i e. o.no_variable r i)
    ]
