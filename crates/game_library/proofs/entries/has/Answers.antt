use Rattle.std.proofs.Common.{ap}
use Rattle.std.specs.Option.{option_copied}
use Rattle.game_library.proofs.Grown.{found_has, none_has}
use Rattle.game_library.proofs.entries.has.Goals as goal

pub returns-in-Some : goal.returns-in-Some
returns-in-Some c = found_has c.args.table.now c.args.key (option_copied c.find.result) c.in-Some.field-0.now c.find.ensures.stands (ap option_copied c.in-Some.is)

pub returns-in-None : goal.returns-in-None
returns-in-None c = none_has c.args.table.now c.args.key (option_copied c.find.result) c.find.ensures.stands (ap option_copied c.in-None.is)
