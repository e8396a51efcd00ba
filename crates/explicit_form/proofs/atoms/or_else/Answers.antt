use Rattle.std.proofs.lemmas.Result.{IfOk-weaker}
use Rattle.formula_grammar.specs.Written as joint
use Rattle.explicit_form.proofs.Joined.{joins_more, joins_first}
use Rattle.explicit_form.proofs.atoms.or_else.Goals as goal

pub returns-in-Some : goal.returns-in-Some
returns-in-Some c = IfOk-weaker c.either.result _ _ (λ h is. joins_more joint.or c.args.before c.in-Some.g c.args.f h c.in-Some.is is) c.either.ensures

pub returns-in-None : goal.returns-in-None
returns-in-None c = joins_first joint.or c.args.before c.args.f c.in-None.is
