use Rattle.std.proofs.Common.{◌<◌, ℕ, length, get_or}
use Rattle.basic_solver.proofs.Flagging.{zero_low}
use Rattle.basic_solver.proofs.Visiting.{all_pushed}
use Rattle.basic_solver.proofs.reaching.reach.Goals as goal

pub returns-clause-stack : goal.returns-clause-stack
returns-clause-stack c = λ given.
    let names = c.args.names.now in
    all_pushed (λ (name : ℕ). name < length names) c.args.stack.now.items c.push.new.self.items (get_or names c.args.v 0) c.in-Ok.ensures.items
    (zero_low names c.args.v c.requires.names c.requires.within) given
