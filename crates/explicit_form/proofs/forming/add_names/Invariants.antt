use Rattle.std.proofs.Common.{◌≡◌, ◌++◌, take}
use Rattle.explicit_form.proofs.forming.add_names.Given as goal

abbrev pub invariant-loop-name : goal.invariant-loop-name
invariant-loop-name l = l.all ≡ l.initial.all ++ take l.name-index l.names
