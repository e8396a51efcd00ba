use Rattle.formula_ast.specs.Forms.{form_of}
use Rattle.explicit_form.proofs.Deciding.{explicit_is, cubes_simple}
use Rattle.explicit_form.proofs.Truth.{it_is, with_first, without_first}
use Rattle.explicit_form.proofs.testing.is_explicit.Goals as goal

pub returns-then-are_cubes : goal.returns-then-are_cubes
returns-then-are_cubes c =
    let cubes = it_is c.are_cubes.result c.are_cubes.ensures c.if-are_cubes.true in
    with_first c.are_distinct.result (c.are_distinct.ensures (cubes_simple c.args.free _ cubes)) cubes (explicit_is c.args.free (form_of c.args.s.now.body))

pub returns-else-are_cubes : goal.returns-else-are_cubes
returns-else-are_cubes c = without_first c.are_cubes.result c.are_cubes.ensures c.if-are_cubes.false (explicit_is c.args.free (form_of c.args.s.now.body))
