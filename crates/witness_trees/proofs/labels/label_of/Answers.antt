use Rattle.std.proofs.Common.{◌∙◌, true, false, length, subst, sym}
use Rattle.std.specs.Prelude.{slice_index}
use Rattle.std.proofs.lemmas.Result.{IfOk-weaker}
use Rattle.tree_model.specs.Graphs.{ChildrenBelow}
use Rattle.witness_trees.proofs.Labelled.{by_term, by_finite, by_variable, by_none, fresh_below, right_below}
use Rattle.witness_trees.proofs.labels.label_of.Goals as goal

pub returns-in_ok-children-in-Some-VarTerm-clause-is : goal.returns-in_ok-children-in-Some-VarTerm-clause-is
returns-in_ok-children-in-Some-VarTerm-clause-is c =
    let k = slice_index c.args.indexes.now c.args.v in
    let u = c.in-Some-VarTerm.field-0-0 in
    let xs = c.as_slice.result.now in
    by_term c.args.atoms.now c.requires.ascending c.args.v k c.in-Some-VarTerm.field-0.now u c.in-Some-VarTerm.symbol xs c.in_ok-children-in-Some-VarTerm.children
    (cc (c.in-Some-VarTerm.field-0-is, c.as_slice.ensures)) c.in-Some-VarTerm.ensures c.in_ok-children-in-Some-VarTerm.ensures.are

pub returns-in-Some-Finite-clause-is : goal.returns-in-Some-Finite-clause-is
returns-in-Some-Finite-clause-is c =
    let k = slice_index c.args.indexes.now c.args.v in
    let is = by_finite c.args.atoms.now c.requires.ascending c.args.v k c.in-Some-Finite.field-0.now c.in-Some-Finite.field-0-0 c.in-Some-Finite.field-0-is c.in-Some-Finite.ensures in
    IfOk-weaker c.fresh.result _ _ (λ node e. e ∙ is) c.fresh.ensures

pub returns-in-Some-Finite-clause-below : goal.returns-in-Some-Finite-clause-below
returns-in-Some-Finite-clause-below c =
    let n = length c.args.places.now in
    let k = slice_index c.args.indexes.now c.args.v in
    IfOk-weaker c.fresh.result _ _ (λ node e. subst (ChildrenBelow n) (sym e) (fresh_below n k c.args.v true c.requires.within)) c.fresh.ensures

pub returns-in-Some-VarVar-clause-is : goal.returns-in-Some-VarVar-clause-is
returns-in-Some-VarVar-clause-is c =
    let k = slice_index c.args.indexes.now c.args.v in
    let u = c.in-Some-VarVar.field-0-0 in
    let is = by_variable c.args.atoms.now c.requires.ascending c.args.v k c.in-Some-VarVar.field-0.now u c.in-Some-VarVar.r c.in-Some-VarVar.field-0-is c.in-Some-VarVar.ensures in
    IfOk-weaker c.fresh-in-Some-VarVar.result _ _ (λ node e. e ∙ is) c.fresh-in-Some-VarVar.ensures

pub returns-in-Some-VarVar-clause-below : goal.returns-in-Some-VarVar-clause-below
returns-in-Some-VarVar-clause-below c =
    let n = length c.args.places.now in
    let k = slice_index c.args.indexes.now c.args.v in
    let u = c.in-Some-VarVar.field-0-0 in
    let low = right_below n c.args.atoms.now c.in-Some-VarVar.field-0.now u c.in-Some-VarVar.r c.requires.over c.in-Some-VarVar.field-0-is c.in-Some-VarVar.ensures.0 in
    IfOk-weaker c.fresh-in-Some-VarVar.result _ _ (λ node e. subst (ChildrenBelow n) (sym e) (fresh_below n k c.in-Some-VarVar.r false low)) c.fresh-in-Some-VarVar.ensures

pub returns-in-None-clause-is : goal.returns-in-None-clause-is
returns-in-None-clause-is c =
    let k = slice_index c.args.indexes.now c.args.v in
    IfOk-weaker c.fresh-in-None.result _ _ (λ node e. e ∙ by_none c.args.atoms.now c.requires.ascending c.args.v k c.in-None.ensures) c.fresh-in-None.ensures

pub returns-in-None-clause-below : goal.returns-in-None-clause-below
returns-in-None-clause-below c =
    let n = length c.args.places.now in
    let k = slice_index c.args.indexes.now c.args.v in
    IfOk-weaker c.fresh-in-None.result _ _ (λ node e. subst (ChildrenBelow n) (sym e) (fresh_below n k c.args.v false c.requires.within)) c.fresh-in-None.ensures
