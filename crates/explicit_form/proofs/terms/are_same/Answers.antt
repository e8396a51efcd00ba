use Rattle.std.proofs.Common.{arith}
use Rattle.formula_ast.specs.Terms.{list_of}
use Rattle.explicit_form.specs.Pieces as spec
use Rattle.explicit_form.proofs.Items.{map_differs, map_next, map_whole}
use Rattle.explicit_form.proofs.Truth.{yes, nope}
use Rattle.explicit_form.proofs.terms.are_same.Goals as goal

pub returns-then-variable_in : goal.returns-then-variable_in
returns-then-variable_in c =
    nope (map_differs spec.variable_in (list_of c.args.ts.now) (list_of c.args.us.now) c.loop-i.i c.get.result.now c.get-in-loop-i.result.now c.get.ensures c.get-in-loop-i.ensures
    (λ e. absurd (omega (arith, c.variable_in.ensures, c.variable_in-in-loop-i.ensures, e))))

pub loop-i-preserved : goal.loop-i-preserved
loop-i-preserved c =
    map_next spec.variable_in (list_of c.args.ts.now) (list_of c.args.us.now) c.loop-i.i c.get.result.now c.get-in-loop-i.result.now c.get.ensures c.get-in-loop-i.ensures c.loop-i.invariant
    (omega (arith, c.variable_in.ensures, c.variable_in-in-loop-i.ensures))

pub returns : goal.returns
returns c = yes (map_whole spec.variable_in (list_of c.args.ts.now) (list_of c.args.us.now) c.loop-i.i (omega arith) (omega arith) c.loop-i.invariant)
