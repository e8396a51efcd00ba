use Rattle.witness_trees.proofs.Labelled.{rep_variable, rep_term, rep_finite, rep_none}
use Rattle.witness_trees.proofs.labels.representative.Goals as goal

pub returns-in-Some-VarVar-clause-is : goal.returns-in-Some-VarVar-clause-is
returns-in-Some-VarVar-clause-is c =
    let u = c.in-Some-VarVar.field-0-0 in
    rep_variable c.args.atoms.now c.requires.ascending c.args.v c.in-Some-VarVar.field-0.now u c.in-Some-VarVar.r c.in-Some-VarVar.field-0-is c.in-Some-VarVar.ensures

pub returns-in-Some-VarTerm-clause-is : goal.returns-in-Some-VarTerm-clause-is
returns-in-Some-VarTerm-clause-is c =
    rep_term c.args.atoms.now c.requires.ascending c.args.v c.in-Some-VarTerm.field-0.now c.in-Some-VarTerm.field-0-0 c.in-Some-VarTerm.field-0-1 c.in-Some-VarTerm.field-0-2
    c.in-Some-VarTerm.field-0-is c.in-Some-VarTerm.ensures

pub returns-in-Some-Finite-clause-is : goal.returns-in-Some-Finite-clause-is
returns-in-Some-Finite-clause-is c =
    rep_finite c.args.atoms.now c.requires.ascending c.args.v c.in-Some-Finite.field-0.now c.in-Some-Finite.field-0-0 c.in-Some-Finite.field-0-is c.in-Some-Finite.ensures

pub returns-in-None-clause-is : goal.returns-in-None-clause-is
returns-in-None-clause-is c = rep_none c.args.atoms.now c.requires.ascending c.args.v c.in-None.ensures
