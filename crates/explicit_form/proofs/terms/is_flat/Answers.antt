use Rattle.explicit_form.proofs.Arms.{var_flat, app_flat}
use Rattle.explicit_form.proofs.Truth.{yes, along, turned}
use Rattle.explicit_form.proofs.terms.is_flat.Goals as goal

pub returns-in-Var : goal.returns-in-Var
returns-in-Var c = yes (var_flat _ _ c.in-Var.is)

pub returns-in-App : goal.returns-in-App
returns-in-App c = along c.are_variables.result c.are_variables.ensures (turned (app_flat c.args.t.now _ c.in-App.ts c.in-App.is))
