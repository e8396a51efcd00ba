use Rattle.std.proofs.Common.{◌≡◌, ◌++◌, take, subst, arith, rules}
use Rattle.std.specs.Prelude.{All}
use Rattle.lists.proofs.Items.{item_stands, all_items}
use Rattle.formula_ast.specs.declared.term.Term.{Term}
use Rattle.formula_ast.specs.Forms.{form_of}
use Rattle.formula_ast.specs.Terms.{list_of}
use Rattle.explicit_form.specs.Pieces as spec
use Rattle.explicit_form.specs.Pieces.{bound_of}
use Rattle.explicit_form.specs.Shape.{InScope}
use Rattle.explicit_form.proofs.Items.{all_next, item_fails, all_map}
use Rattle.explicit_form.proofs.Truth.{yes, nope}
use Rattle.explicit_form.proofs.blocks.are_in_scope.Goals as goal

pub loop-t-preserved : goal.loop-t-preserved
loop-t-preserved c =
    all_next (λ (t : Term). InScope c.args.free (bound_of (form_of c.args.outer.now) ++ bound_of (form_of c.args.inner.now)) (spec.variable_in t)) (list_of c.args.ts.now) c.loop-t.t-index c.t-item.result
    (item_stands _ _ _ _ c.as_slice-t-items.ensures (omega arith) c.t-item.is) c.loop-t.invariant
    (rw c.variable_in.ensures at (c.is_in_scope.ensures.0 (search rules)))

pub returns : goal.returns
returns c =
    let In : Term → Type 0 = λ t. InScope c.args.free (bound_of (form_of c.args.outer.now) ++ bound_of (form_of c.args.inner.now)) (spec.variable_in t) in
    let all : take c.loop-t.t-index (list_of c.args.ts.now) ≡ list_of c.args.ts.now = all_items _ _ _ c.as_slice-t-items.ensures (omega arith) in
    yes ((all_map (InScope c.args.free (bound_of (form_of c.args.outer.now) ++ bound_of (form_of c.args.inner.now))) spec.variable_in (list_of c.args.ts.now)).1 (subst (All In) all c.loop-t.invariant))

pub returns-then-not-is_in_scope : goal.returns-then-not-is_in_scope
returns-then-not-is_in_scope c =
    let In = InScope c.args.free (bound_of (form_of c.args.outer.now) ++ bound_of (form_of c.args.inner.now)) in
    nope (λ all. item_fails (λ (t : Term). In (spec.variable_in t)) (list_of c.args.ts.now) c.loop-t.t-index c.t-item.result
    (item_stands _ _ _ _ c.as_slice-t-items.ensures (omega arith) c.t-item.is) (λ h. absurd (search (rules, c.is_in_scope.ensures.1 (rw c.variable_in.ensures h))))
    ((all_map In spec.variable_in (list_of c.args.ts.now)).0 all))
