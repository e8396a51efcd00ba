use Rattle.std.proofs.Common.{◌+◌, refl}
use Rattle.normal_form.proofs.NormLists.{shut_over}
use Rattle.working_rules.proofs.joining.closed_list.Goals as goal

pub not-requires : goal.not-requires
not-requires c =
    shut_over c.args.free (c.args.free + c.args.bound) c.args.bound c.in_ok-shut.shut refl (c.in_ok-shut.ensures.over (c.args.free + c.args.bound) c.requires)
