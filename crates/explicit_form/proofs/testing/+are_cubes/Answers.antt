use Rattle.explicit_form.specs.Shape.{IsExplicitCube}
use Rattle.explicit_form.proofs.Equal.{all_disjuncts, only_disjunct}
use Rattle.explicit_form.proofs.Truth.{along, it_is, with_first, without_first}
use Rattle.explicit_form.proofs.testing.+are_cubes.Goals as goal

pub returns-then-are_cubes : goal.returns-then-are_cubes
returns-then-are_cubes t c =
    with_first c.is_cube.result (rw c.get-then-are_cubes.ensures at c.is_cube.ensures) (it_is c.are_cubes.result (rw c.get.ensures at c.are_cubes.ensures) c.if-are_cubes.true)
    (all_disjuncts (IsExplicitCube c.args.free) c.args.f.now c.in-Or.g c.in-Or.h c.in-Or.is)

pub returns-else-are_cubes : goal.returns-else-are_cubes
returns-else-are_cubes t c =
    without_first c.are_cubes.result (rw c.get.ensures at c.are_cubes.ensures) c.if-are_cubes.false
    (all_disjuncts (IsExplicitCube c.args.free) c.args.f.now c.in-Or.g c.in-Or.h c.in-Or.is)

pub returns-in_default : goal.returns-in_default
returns-in_default t c = along c.is_cube-in_default.result c.is_cube-in_default.ensures (only_disjunct (IsExplicitCube c.args.free) c.args.f.now c.in_default.not-Or)
