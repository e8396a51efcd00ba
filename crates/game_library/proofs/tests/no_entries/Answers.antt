use Rattle.game_library.proofs.Grown.{none_right}
use Rattle.game_library.proofs.tests.no_entries.Goals as goal

pub returns : goal.returns
returns g c = rw c.new.ensures (none_right g.E.Engine.gives c.args.file.now)
