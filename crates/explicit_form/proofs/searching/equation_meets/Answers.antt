use Rattle.std.proofs.Common.{refl}
use Rattle.explicit_form.proofs.Sides.{meets_pair, meets_term}
use Rattle.explicit_form.proofs.Truth.{nope, it_is, with_first, without_first}
use Rattle.explicit_form.proofs.searching.equation_meets.Goals as goal

pub returns-in-Var : goal.returns-in-Var
returns-in-Var c = nope (meets_pair c.args.free _ c.args.x c.args.t.now c.args.s.now _ c.in-Var.is)

pub returns-then-is_among : goal.returns-then-is_among
returns-then-is_among c =
    with_first c.is_smaller.result c.is_smaller.ensures (it_is c.is_among.result c.is_among.ensures c.if-is_among.true)
    (meets_term c.args.free _ c.args.x c.variable_in.result c.args.t.now c.args.s.now _ c.in-App.ts c.variable_in.ensures c.in-App.is)

pub returns-else-is_among : goal.returns-else-is_among
returns-else-is_among c =
    without_first c.is_among.result c.is_among.ensures c.if-is_among.false
    (meets_term c.args.free _ c.args.x _ c.args.t.now c.args.s.now _ c.in-App.ts refl c.in-App.is)
