use Rattle.std.proofs.lemmas.Result.{IfOk-weaker}
use Rattle.solver_cli.proofs.FileRead.{of_file}
use Rattle.solver_cli.proofs.reading.read_named.Goals as goal

pub returns-clause-all : goal.returns-clause-all
returns-clause-all g c = IfOk-weaker c.read_whole.result _ _
    (λ bytes all. of_file g.S.Source.opens g.S.Source.reads g.S.Source.left g.S.Source.files c.args.name.now c.args.source.now c.open.new.self c.read_whole.new.source bytes.items c.in-Ok.ensures.call c.in-Ok.ensures.bytes all)
    c.read_whole.ensures.all
