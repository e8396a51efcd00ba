use Rattle.std.proofs.Common.{inl, arith}
use Rattle.explicit_form.proofs.Binding.{not_free}
use Rattle.explicit_form.proofs.Truth.{yes, along}
use Rattle.explicit_form.proofs.scopes.is_in_scope.Goals as goal

pub returns-then-v-free : goal.returns-then-v-free
returns-then-v-free c = yes (inl c.if-v-free.true)

pub returns-else-v-free : goal.returns-else-v-free
returns-else-v-free c = along c.is_bound.result c.is_bound.ensures (not_free c.args.v c.args.free (λ less. absurd (omega arith)))
