use Rattle.std.proofs.Common.{ℕ, ◌-◌, subst, arith}
use Rattle.flattening.specs.declared.solved.Key.TheVariants.{Win}
use Rattle.game_library.specs.Entries.{IsRight}
use Rattle.game_library.proofs.RightEntries.{lost_right}
use Rattle.game_library.proofs.entries.solve_win.Goals as goal

pub returns-then-moves-eq0 : goal.returns-then-moves-eq0
returns-then-moves-eq0 g c = rw (c.if-moves-eq0.true, c.new.ensures) (lost_right g.E.Engine.gives c.args.file.now c.args.pred.now.place)

pub solve_next-requires-clause-pred : goal.solve_next-requires-clause-pred
solve_next-requires-clause-pred g c = c.requires.pred (omega (arith, c.if-moves-eq0.false))

pub solve_next-requires-clause-win : goal.solve_next-requires-clause-win
solve_next-requires-clause-win g c = c.requires.fewer (c.args.moves - 1) (omega (arith, c.if-moves-eq0.false))

pub returns : goal.returns
returns g c =
    subst (λ (k : ℕ). IsRight g.E.Engine.gives c.args.file.now (Win c.args.pred.now.place k) c.in_ok-cubes.cubes) (omega (arith, c.if-moves-eq0.false)) c.in_ok-cubes.ensures
