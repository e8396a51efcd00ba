use Rattle.std.proofs.Common.{sym}
use Rattle.explicit_form.proofs.Arms.{var_number, app_number}
use Rattle.explicit_form.proofs.terms.variable_in.Goals as goal

pub returns-in-Var : goal.returns-in-Var
returns-in-Var c = sym (var_number c.args.t.now _ c.in-Var.is)

pub returns-in-App : goal.returns-in-App
returns-in-App c = sym (app_number c.args.t.now _ _ c.in-App.is)
