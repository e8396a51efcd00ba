use Rattle.std.proofs.Common.{not}
use Rattle.explicit_form.specs.Shaped.{IsSimple}
use Rattle.explicit_form.proofs.Equal.{all_disjuncts, distinct_or, distinct_one}
use Rattle.explicit_form.proofs.Truth.{yes, it_is, with_first, without_first, not_test}
use Rattle.explicit_form.proofs.testing.+are_distinct.Goals as goal

pub returns-then-are_distinct : goal.returns-then-are_distinct
returns-then-are_distinct t c = λ all.
    let simple = (all_disjuncts IsSimple c.args.f.now c.in-Or.g c.in-Or.h c.in-Or.is).1 all in
    with_first (not c.is_disjunct.result)
    (not_test c.is_disjunct.result ((rw (c.get-then-are_distinct.ensures, c.get-then-are_distinct-2.ensures) at c.is_disjunct.ensures) simple.0 simple.1))
    (it_is c.are_distinct.result ((rw c.get.ensures at c.are_distinct.ensures) simple.0) c.if-are_distinct.true)
    (distinct_or c.args.f.now c.in-Or.g c.in-Or.h c.in-Or.is)

pub returns-else-are_distinct : goal.returns-else-are_distinct
returns-else-are_distinct t c = λ all.
    let simple = (all_disjuncts IsSimple c.args.f.now c.in-Or.g c.in-Or.h c.in-Or.is).1 all in
    without_first c.are_distinct.result ((rw c.get.ensures at c.are_distinct.ensures) simple.0) c.if-are_distinct.false (distinct_or c.args.f.now c.in-Or.g c.in-Or.h c.in-Or.is)

pub returns-in_default : goal.returns-in_default
returns-in_default t c = λ all. yes (distinct_one c.args.f.now c.in_default.not-Or)
