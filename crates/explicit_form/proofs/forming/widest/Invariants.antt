use Rattle.std.proofs.Common.{◌≡◌, take}
use Rattle.explicit_form.specs.Explicit as spec
use Rattle.explicit_form.proofs.forming.widest.Given as goal

abbrev pub invariant-loop-part : goal.invariant-loop-part
invariant-loop-part l = l.most ≡ spec.widest (take l.part-index l.parts)
