use Rattle.std.proofs.Common.{◌≡◌, ◌++◌, List, ℕ, take, arith, subst, sym}
use Rattle.std.proofs.lemmas.Grind.{common_steps}
use Rattle.solver_cli.specs.Reading.{ReadsSome}
use Rattle.solver_cli.proofs.ReadingSteps.{begun, stepped, found_end}
use Rattle.solver_cli.proofs.reading.read_whole.Goals as goal

pub turns-init : goal.turns-init
turns-init g c = record {
  taken = rw c.new-bytes.ensures.items (begun g.S.Source.reads g.S.Source.left 1048577 c.args.source.now);
  count = omega arith;
}

pub returns-then-count-eq0-clause-all : goal.returns-then-count-eq0-clause-all
returns-then-count-eq0-clause-all g c =
    found_end g.S.Source.reads g.S.Source.left 1048577 c.args.source.now c.turns.source c.read.new.self c.turns.bytes.items c.read.new.into _ c.in-Ok.count
    c.turns.invariant.taken (grind (arith, common_steps)) (grind (arith, common_steps)) (grind (arith, common_steps)) c.if-count-eq0.true c.in-Ok.ensures.call c.in-Ok.ensures.bytes.0 c.in-Ok.ensures.bytes.1

pub returns-then-is_err-clause-some : goal.returns-then-is_err-clause-some
returns-then-is_err-clause-some g c is = (
  _,
  stepped g.S.Source.reads g.S.Source.left 1048577 c.args.source.now c.turns.source c.read.new.self c.turns.bytes.items c.read.new.into _ c.in-Ok.count
      c.turns.invariant.taken (grind (arith, common_steps)) (grind (arith, common_steps)) (omega arith) (grind (arith, common_steps)) c.in-Ok.ensures.call c.in-Ok.ensures.bytes.0,
)

pub turns-preserved : goal.turns-preserved
turns-preserved g c = record {
  taken =
      let far = stepped g.S.Source.reads g.S.Source.left 1048577 c.args.source.now c.turns.source c.read.new.self c.turns.bytes.items c.read.new.into _ c.in-Ok.count
      c.turns.invariant.taken (grind (arith, common_steps)) (grind (arith, common_steps)) (omega arith) (grind (arith, common_steps)) c.in-Ok.ensures.call c.in-Ok.ensures.bytes.0 in
      let grown : c.extend_from_slice.new.self.items ≡ c.turns.bytes.items ++ take c.in-Ok.count c.read.new.into = grind (arith, common_steps) in
      subst (λ (l : List ℕ). ReadsSome g.S.Source.reads g.S.Source.left 1048577 c.args.source.now l c.read.new.self) (sym grown) far;
  count = omega (arith, c.turns.invariant.count, c.in-Ok.ensures.count);
}
