use Rattle.std.proofs.Common.{List, ℕ, subst, sym}
use Rattle.std.specs.Prelude.{All, Contains}
use Rattle.flat_form.specs.Parts.{Under}
use Rattle.reachability.proofs.Flags.{arguments_under}
use Rattle.reachability.proofs.reaching.pass_on.Goals as goal

pub returns-else-not-marks-u-clause-kept : goal.returns-else-not-marks-u-clause-kept
returns-else-not-marks-u-clause-kept c = λ first atoms i are.
    let all = arguments_under first atoms c.args.marks.now are c.in-VarTerm.u _ _ (subst (λ z. Contains atoms z) c.in-VarTerm.is i) c.if-not-marks-u.false in
    c.mark_all.ensures.kept first atoms (subst (λ (z : List ℕ). All (Under first atoms) z) (sym c.as_slice.ensures) all) are
