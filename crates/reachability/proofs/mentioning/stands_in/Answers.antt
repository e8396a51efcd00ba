use Rattle.std.proofs.Common.{List, ℕ, subst}
use Rattle.std.specs.Prelude.{Contains, IsTrue, ◌↔◌}
use Rattle.reachability.proofs.Mentioned.{among_arguments}
use Rattle.reachability.proofs.mentioning.stands_in.Goals as goal

pub returns-else-u-v-2 : goal.returns-else-u-v-2
returns-else-u-v-2 c =
    among_arguments c.args.atom.now c.in-VarTerm.u _ _ c.args.v c.is_among.result c.in-VarTerm.is c.if-u-v-2.false
    (subst (λ (z : List ℕ). IsTrue c.is_among.result ↔ Contains z c.args.v) c.as_slice.ensures c.is_among.ensures)
