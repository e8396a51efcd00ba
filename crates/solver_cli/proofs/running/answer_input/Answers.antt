use Rattle.std.proofs.Common.{inl, inr, ⊎_elim}
use Rattle.command_words.specs.Words.{said}
use Rattle.solver_cli.specs.Run.{output_of, WritesAll, WritesFewer, WritesCut}
use Rattle.solver_cli.proofs.FileRead.{Takes, calls_of_input, fault_of_input, reading_of_input}
use Rattle.solver_cli.proofs.running.answer_input.Goals as goal

pub returns-in-Ok-clause-calls : goal.returns-in-Ok-clause-calls
returns-in-Ok-clause-calls g c _ =
    calls_of_input g.S.Source.opens g.S.Source.reads g.S.Source.left g.S.Source.files (said c.args.input.now) c.args.source.now c.input_bytes.new.source c.in-Ok.bytes.items c.in-Ok.ensures.all

pub returns-in-Ok-clause-refused : goal.returns-in-Ok-clause-refused
returns-in-Ok-clause-refused g c fault is =
    let taken : Takes g.S.Source.opens g.S.Source.reads g.S.Source.left g.S.Source.files (said c.args.input.now) c.args.source.now c.input_bytes.new.source c.deref.result.now = rw c.deref.ensures.value c.in-Ok.ensures.all in
    fault_of_input g.S.Source.opens g.S.Source.reads g.S.Source.left g.S.Source.files (said c.args.input.now) c.args.source.now c.input_bytes.new.source c.deref.result.now fault c.requires taken (c.answer_bytes.ensures.refused fault is)

pub returns-in-Ok-clause-cut : goal.returns-in-Ok-clause-cut
returns-in-Ok-clause-cut g c is =
    let taken : Takes g.S.Source.opens g.S.Source.reads g.S.Source.left g.S.Source.files (said c.args.input.now) c.args.source.now c.input_bytes.new.source c.deref.result.now = rw c.deref.ensures.value c.in-Ok.ensures.all in
    reading_of_input g.S.Source.opens g.S.Source.reads g.S.Source.left g.S.Source.files (said c.args.input.now) c.args.source.now c.input_bytes.new.source c.deref.result.now
    (λ file. WritesCut g.O.Sink.writes g.O.Sink.taken (output_of (said c.args.input.now)) file c.args.out.now c.answer_bytes.new.out) taken (c.answer_bytes.ensures.cut is)

pub returns-in-Ok-clause-memory : goal.returns-in-Ok-clause-memory
returns-in-Ok-clause-memory g c is =
    let taken : Takes g.S.Source.opens g.S.Source.reads g.S.Source.left g.S.Source.files (said c.args.input.now) c.args.source.now c.input_bytes.new.source c.deref.result.now = rw c.deref.ensures.value c.in-Ok.ensures.all in
    ⊎_elim
    (λ same. inl same)
    (λ some. inr (reading_of_input g.S.Source.opens g.S.Source.reads g.S.Source.left g.S.Source.files (said c.args.input.now) c.args.source.now c.input_bytes.new.source c.deref.result.now
    (λ file. WritesFewer g.O.Sink.writes g.O.Sink.taken (output_of (said c.args.input.now)) file c.args.out.now c.answer_bytes.new.out) taken some))
    (c.answer_bytes.ensures.fewer is)

pub returns-in-Ok-clause-done : goal.returns-in-Ok-clause-done
returns-in-Ok-clause-done g c is =
    let taken : Takes g.S.Source.opens g.S.Source.reads g.S.Source.left g.S.Source.files (said c.args.input.now) c.args.source.now c.input_bytes.new.source c.deref.result.now = rw c.deref.ensures.value c.in-Ok.ensures.all in
    reading_of_input g.S.Source.opens g.S.Source.reads g.S.Source.left g.S.Source.files (said c.args.input.now) c.args.source.now c.input_bytes.new.source c.deref.result.now
    (λ file. WritesAll g.O.Sink.writes g.O.Sink.taken (output_of (said c.args.input.now)) file c.args.out.now c.answer_bytes.new.out) taken (c.answer_bytes.ensures.all is)
