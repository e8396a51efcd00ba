use Rattle.std.proofs.Common.{◌≡◌, take, subst, arith, rules}
use Rattle.std.specs.Prelude.{All}
use Rattle.lists.proofs.Items.{item_stands, all_items}
use Rattle.formula_ast.specs.Terms.{list_of}
use Rattle.explicit_form.specs.Shaped.{IsVariable}
use Rattle.explicit_form.proofs.Items.{all_next}
use Rattle.explicit_form.proofs.Truth.{yes}
use Rattle.explicit_form.proofs.terms.are_variables.Goals as goal

pub loop-t-preserved : goal.loop-t-preserved
loop-t-preserved c =
    all_next IsVariable (list_of c.args.ts.now) c.loop-t.t-index c.t-item.result (item_stands _ _ _ _ c.as_slice-t-items.ensures (omega arith) c.t-item.is)
    c.loop-t.invariant (c.is_variable.ensures.0 (search rules))

pub returns : goal.returns
returns c =
    let all : take c.loop-t.t-index (list_of c.args.ts.now) ≡ list_of c.args.ts.now = all_items _ _ _ c.as_slice-t-items.ensures (omega arith) in
    yes (subst (All IsVariable) all c.loop-t.invariant)
