use Rattle.std.proofs.Common.{arith}
use Rattle.basic_solver.specs.Stores.{open_in}
use Rattle.basic_solver.proofs.Storing.{atom_wider}
use Rattle.basic_solver.proofs.Stored.{answer_keeps}
use Rattle.basic_solver.proofs.tests.answers.Goals as goal

pub assert-requires : goal.assert-requires
assert-requires c = atom_wider 8 (open_in c.args.store.now.scopes) c.requires.enough c.args.atom.now c.requires.over

pub returns-clause-enough : goal.returns-clause-enough
returns-clause-enough c =
    omega (arith, c.requires.enough, (answer_keeps c.args.store.now.scopes c.assert.new.self.scopes c.args.atom.now c.in_ok-answer.answer c.in_ok-answer.ensures.answer).0)

pub returns-clause-scopes : goal.returns-clause-scopes
returns-clause-scopes c = (answer_keeps c.args.store.now.scopes c.assert.new.self.scopes c.args.atom.now c.in_ok-answer.answer c.in_ok-answer.ensures.answer).1
