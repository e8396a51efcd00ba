use Rattle.std.proofs.Common.{◌≡◌, take, subst, ◌∙◌, arith}
use Rattle.std.specs.Prelude.{All}
use Rattle.lists.proofs.Items.{item_stands, all_items}
use Rattle.formula_ast.specs.declared.term.Term.{Term}
use Rattle.formula_ast.specs.Terms.{list_of}
use Rattle.explicit_form.specs.Pieces as spec
use Rattle.explicit_form.proofs.Items.{all_next, not_in_map}
use Rattle.explicit_form.proofs.Truth.{nope}
use Rattle.explicit_form.proofs.terms.is_among.Goals as goal

pub loop-t-preserved : goal.loop-t-preserved
loop-t-preserved c =
    all_next (λ (t : Term). ¬ (spec.variable_in t ≡ c.args.x)) (list_of c.args.ts.now) c.loop-t.t-index c.t-item.result
    (item_stands _ _ _ _ c.as_slice-t-items.ensures (omega arith) c.t-item.is) c.loop-t.invariant (λ e. c.if-variable_in-x.false (c.variable_in.ensures ∙ e))

pub returns : goal.returns
returns c =
    let all : take c.loop-t.t-index (list_of c.args.ts.now) ≡ list_of c.args.ts.now = all_items _ _ _ c.as_slice-t-items.ensures (omega arith) in
    nope (not_in_map spec.variable_in (list_of c.args.ts.now) c.args.x (subst (All (λ (t : Term). ¬ (spec.variable_in t ≡ c.args.x))) all c.loop-t.invariant))
