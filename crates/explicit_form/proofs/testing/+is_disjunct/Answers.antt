use Rattle.formula_ast.specs.Forms.{form_of}
use Rattle.explicit_form.specs.Shaped.{IsSimple}
use Rattle.explicit_form.proofs.Equal.{all_disjuncts, only_disjunct, among_disjuncts, is_only}
use Rattle.explicit_form.proofs.Truth.{along, it_is_not, with_either, with_other}
use Rattle.explicit_form.proofs.testing.+is_disjunct.Goals as goal

pub returns-then-is_disjunct : goal.returns-then-is_disjunct
returns-then-is_disjunct t c = λ all one.
    let simple = (all_disjuncts IsSimple c.args.f.now c.in-Or.h c.in-Or.k c.in-Or.is).1 all in
    with_either c.is_disjunct.result ((rw c.get.ensures at c.is_disjunct.ensures) simple.0 one) c.if-is_disjunct.true
    (among_disjuncts c.args.f.now c.in-Or.h c.in-Or.k (form_of c.args.g.now) c.in-Or.is)

pub returns-else-is_disjunct : goal.returns-else-is_disjunct
returns-else-is_disjunct t c = λ all one.
    let simple = (all_disjuncts IsSimple c.args.f.now c.in-Or.h c.in-Or.k c.in-Or.is).1 all in
    with_other c.is_same.result ((rw c.get-else-is_disjunct.ensures at c.is_same.ensures) simple.1 one)
    (it_is_not c.is_disjunct.result ((rw c.get.ensures at c.is_disjunct.ensures) simple.0 one) c.if-is_disjunct.false)
    (among_disjuncts c.args.f.now c.in-Or.h c.in-Or.k (form_of c.args.g.now) c.in-Or.is)

pub returns-in_default : goal.returns-in_default
returns-in_default t c = λ all one.
    along c.is_same-in_default.result (c.is_same-in_default.ensures ((only_disjunct IsSimple c.args.f.now c.in_default.not-Or).1 all) one)
    (is_only c.args.f.now (form_of c.args.g.now) c.in_default.not-Or)
