use Rattle.std.proofs.Common.{◌++◌, arith}
use Rattle.std.proofs.lemmas.Bool.{ltb-true}
use Rattle.formula_ast.specs.Forms.{form_of}
use Rattle.explicit_form.specs.Pieces.{bound_of}
use Rattle.explicit_form.proofs.Scoping.{free_smaller, both_free, not_smaller, both_bound, less_test}
use Rattle.explicit_form.proofs.Truth.{yes, nope, along, turned}
use Rattle.explicit_form.proofs.scopes.is_smaller.Goals as goal

pub returns-then-u-free : goal.returns-then-u-free
returns-then-u-free c =
    let same = both_free c.args.free c.args.v c.args.u (bound_of (form_of c.args.outer.now) ++ bound_of (form_of c.args.inner.now)) c.if-v-free.true c.if-u-free.true in
    (λ t. same.1 (ltb-true c.args.v c.args.u t), λ s. less_test c.args.v c.args.u (same.0 s))

pub returns-else-u-free : goal.returns-else-u-free
returns-else-u-free c = yes (free_smaller c.args.free c.args.v c.args.u _ c.if-v-free.true (omega arith))

pub returns-then-u-free-2 : goal.returns-then-u-free-2
returns-then-u-free-2 c = nope (not_smaller c.args.free c.args.v c.args.u _ (omega arith) (omega arith))

pub returns-else-u-free-2 : goal.returns-else-u-free-2
returns-else-u-free-2 c = along c.is_earlier.result c.is_earlier.ensures (turned (both_bound c.args.free c.args.v c.args.u _ (omega arith) (omega arith)))
