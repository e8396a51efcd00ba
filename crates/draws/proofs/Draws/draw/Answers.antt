use Rattle.std.proofs.Common.{◌<◌, ◌*◌, ◌/◌, ap, sym, refl}
use Rattle.draws.specs.Draws.{next, drawn}
use Rattle.draws.proofs.Draws.draw.Goals as goal

pub returns-clause-next_state : goal.returns-clause-next_state
unfolding next
returns-clause-next_state c = ap next c.self.view_is

pub returns-clause-number : goal.returns-clause-number
unfolding drawn
returns-clause-number c = refl
