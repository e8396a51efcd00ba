use Rattle.std.proofs.Common.{◌≡◌, ◌≤◌, ◌<◌, length, arith}
use Rattle.solver_cli.proofs.WritingSteps.{begun, stepped, finished, failed}
use Rattle.solver_cli.proofs.writing.write_whole.Goals as goal

pub loop-rest-init : goal.loop-rest-init
loop-rest-init g c = begun g.O.Sink.writes g.O.Sink.taken g.O.Sink.faults c.args.out.now c.args.text.now

pub loop-rest-preserved : goal.loop-rest-preserved
loop-rest-preserved g c =
    let room : 0 < length c.loop-rest.rest.now = grind arith in
    let progress : 1 ≤ c.in-Ok.n = omega (arith, c.in-Ok.ensures.progress room) in
    let far = stepped g.O.Sink.writes g.O.Sink.taken g.O.Sink.faults c.args.out.now c.loop-rest.out c.write.new.self c.args.text.now c.loop-rest.rest.now c.in-Ok.n c.loop-rest.invariant progress c.in-Ok.ensures.bound c.in-Ok.ensures.call c.in-Ok.ensures.bytes c.write.ensures.count in
    rw c.after-rest.ensures far

pub returns-in-Err-clause-cut : goal.returns-in-Err-clause-cut
returns-in-Err-clause-cut g c =
    let room : 1 ≤ length c.loop-rest.rest.now = grind arith in
    failed g.O.Sink.writes g.O.Sink.taken g.O.Sink.faults c.args.out.now c.loop-rest.out c.write.new.self c.args.text.now c.loop-rest.rest.now c.loop-rest.invariant room c.in-Err.ensures.call c.in-Err.ensures.bytes

pub returns-clause-whole : goal.returns-clause-whole
returns-clause-whole g c =
    let none : length c.loop-rest.rest.now ≡ 0 = grind arith in
    finished g.O.Sink.writes g.O.Sink.taken g.O.Sink.faults c.args.out.now c.loop-rest.out c.args.text.now c.loop-rest.rest.now c.loop-rest.invariant none
