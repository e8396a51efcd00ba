use Rattle.formula_ast.specs.Forms.{form_of}
use Rattle.explicit_form.proofs.Fitting.{block_is}
use Rattle.explicit_form.proofs.Truth.{it_is, with_first, without_first}
use Rattle.explicit_form.proofs.blocks.is_block.Goals as goal

pub returns-then-are_names_good : goal.returns-then-are_names_good
returns-then-are_names_good c =
    with_first c.are_atoms_good.result c.are_atoms_good.ensures (it_is c.are_names_good.result c.are_names_good.ensures c.if-are_names_good.true)
    (block_is c.args.free (form_of c.args.outer.now) (form_of c.args.inner.now))

pub returns-else-are_names_good : goal.returns-else-are_names_good
returns-else-are_names_good c =
    without_first c.are_names_good.result c.are_names_good.ensures c.if-are_names_good.false (block_is c.args.free (form_of c.args.outer.now) (form_of c.args.inner.now))
