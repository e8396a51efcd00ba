use Rattle.basic_solver.proofs.closing.close.Goals as goal

pub returns-in-Stays-clause-sound : goal.returns-in-Stays-clause-sound
returns-in-Stays-clause-sound c = λ sound. c.take_round.ensures.sound (c.loop.invariant.sound sound)
