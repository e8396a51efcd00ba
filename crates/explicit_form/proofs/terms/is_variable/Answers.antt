use Rattle.explicit_form.proofs.Arms.{var_variable, app_variable}
use Rattle.explicit_form.proofs.Truth.{yes, nope}
use Rattle.explicit_form.proofs.terms.is_variable.Goals as goal

pub returns-in-Var : goal.returns-in-Var
returns-in-Var c = yes (var_variable c.args.t.now _ c.in-Var.is)

pub returns-in-App : goal.returns-in-App
returns-in-App c = nope (app_variable c.args.t.now _ _ c.in-App.is)
