-- Laws of a cube beside atoms: it can hold with them exactly where the basics can and no part is implied.
use Rattle.std.specs.Prelude.{◌≡◌, ℕ, ◌+◌, ◌≤◌, List, [], ◌++◌, Contains}
use Rattle.flat_form.specs.declared.atom.Flat.{Flat}
use Rattle.flat_form.specs.declared.cube.Part.{Part}
use Rattle.flat_form.specs.declared.cube.Cube.{Cube}
use Rattle.flat_form.specs.Added.{IsSolvedForm}
use Rattle.flat_form.specs.Meanings.{HasNone}
use Rattle.flat_form.specs.Numbering.{BasicOver}
use Rattle.flat_form.specs.Parts.{IsPruned}
use Rattle.flat_form.specs.Solved.{variable_of}
use Rattle.flat_form.specs.Steps.{Settles, IsImplied}
use Rattle.node_facts.specs.Nested.{beside, CanHold, NeverHolds}

-- of atoms that stand for variables from m on, the first m variables keep nothing
abbrev pub NothingBelow : Type 0
NothingBelow = (m : ℕ) (atoms : List Flat) → ((atom : Flat) → Contains atoms atom → m ≤ variable_of atom) → IsPruned m atoms []

-- where the atoms and the cube's basic have no solution, the cube never holds beside the atoms
abbrev pub ClashHoldsNowhere : Type 0
ClashHoldsNowhere = (C : List Flat) (c : Cube) → HasNone (C ++ c.basic) → NeverHolds (beside C c)

-- nor does it where they imply one of its parts
abbrev pub ImpliedHoldsNowhere : Type 0
ImpliedHoldsNowhere =
    (C form : List Flat) (c : Cube) (part : Part) → IsSolvedForm (C ++ c.basic) form → BasicOver (c.free + c.outer) form → Contains c.parts part
    → IsImplied (c.free + c.outer) form part → NeverHolds (beside C c)

-- else it can hold
abbrev pub SettledCanHold : Type 0
SettledCanHold =
    (C form : List Flat) (c : Cube) (parts : List Part) → IsSolvedForm (C ++ c.basic) form → BasicOver (c.free + c.outer) form
    → Settles (c.free + c.outer) form c.parts parts → ((part : Part) → Contains parts part → ¬ (part.basic ≡ [])) → CanHold (beside C c)
