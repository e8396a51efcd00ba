use Rattle.std.proofs.Common.{◌≡◌, List, ℕ, inl, inr, ⊎_elim, sym, ◌∙◌, ap, Some, subst, ◌↔◌}
use Rattle.command_words.specs.Words.{said, texts, input_of}
use Rattle.solver_cli.specs.Files.{OfNamed}
use Rattle.solver_cli.specs.Inputs.{named_input, OfBytes}
use Rattle.solver_cli.specs.Language.{Fault, IsFirstFault}
use Rattle.solver_cli.specs.Lines.{fault_line}
use Rattle.solver_cli.specs.Run.{output_of, WritesAll, WritesCut, HasFault, Completes}
use Rattle.solver_cli.specs.Writing.{WritesLine}
use Rattle.solver_cli.specs.declared.status.Status.{Status}
use Rattle.solver_cli.specs.declared.status.Status.TheVariants.{Refused}
use Rattle.solver_cli.proofs.Verdicts.{of_words, of_input, refused_of, file_weaker, not_missing, refused_exactly, completes}
use Rattle.solver_cli.proofs.running.run.Goals as goal

pub returns-in-Ok-clause-calls : goal.returns-in-Ok-clause-calls
returns-in-Ok-clause-calls g c other =
    let found : named_input (texts c.args.words.now) ≡ Some (said c.in-Ok.input) = ap (λ names. input_of names (texts c.args.words.now)) (sym (ap texts c.as_slice.ensures ∙ c.game_names.ensures)) ∙ c.in-Ok.ensures.input in
    ⊎_elim
    (λ same. inl same)
    (λ of. inr (of_words (texts c.args.words.now) (said c.in-Ok.input) _ found of))
    (c.answer_input.ensures.calls (λ is. other (c.tell.ensures.status ∙ is)))

pub returns-in-Ok-clause-refused : goal.returns-in-Ok-clause-refused
returns-in-Ok-clause-refused g c is =
    let found : named_input (texts c.args.words.now) ≡ Some (said c.in-Ok.input) = ap (λ names. input_of names (texts c.args.words.now)) (sym (ap texts c.as_slice.ensures ∙ c.game_names.ensures)) ∙ c.in-Ok.ensures.input in
    let reason = refused_of c.answer_input.result (sym c.tell.ensures.status ∙ is) in
    of_words (texts c.args.words.now) (said c.in-Ok.input) _ found
    (file_weaker
    (λ name. OfNamed g.S.Source.opens g.S.Source.reads g.S.Source.left g.S.Source.files name c.args.source.now c.answer_input.new.source (λ bytes. IsFirstFault bytes reason.0))
    (λ name. OfNamed g.S.Source.opens g.S.Source.reads g.S.Source.left g.S.Source.files name c.args.source.now c.answer_input.new.source
    (λ bytes. (fault : Fault) × IsFirstFault bytes fault × WritesLine g.E.Sink.writes g.E.Sink.taken g.E.Sink.faults c.args.err.now (fault_line fault) c.tell.new.err))
    (said c.in-Ok.input)
    (λ name of. (of.0, of.1, (reason.0, of.2, c.tell.ensures.fault reason.0 reason.1)))
    (c.answer_input.ensures.refused reason.0 reason.1))

pub returns-in-Ok-clause-exactly : goal.returns-in-Ok-clause-exactly
returns-in-Ok-clause-exactly g c usage read memory =
    let found : named_input (texts c.args.words.now) ≡ Some (said c.in-Ok.input) = ap (λ names. input_of names (texts c.args.words.now)) (sym (ap texts c.as_slice.ensures ∙ c.game_names.ensures)) ∙ c.in-Ok.ensures.input in
    of_words (texts c.args.words.now) (said c.in-Ok.input) _ found
    (subst (λ (status : Status). OfBytes g.S.Source.opens g.S.Source.reads g.S.Source.left g.S.Source.files (said c.in-Ok.input) c.args.source.now c.answer_input.new.source (λ bytes. (status ≡ Refused) ↔ HasFault bytes))
    (sym c.tell.ensures.status)
    (refused_exactly g.S.Source.opens g.S.Source.reads g.S.Source.left g.S.Source.files (said c.in-Ok.input) c.args.source.now c.answer_input.new.source
    (λ file. WritesAll g.O.Sink.writes g.O.Sink.taken (output_of (said c.in-Ok.input)) file c.args.out.now c.answer_input.new.out)
    (λ file. WritesCut g.O.Sink.writes g.O.Sink.taken (output_of (said c.in-Ok.input)) file c.args.out.now c.answer_input.new.out)
    c.answer_input.result (λ is. usage (c.tell.ensures.status ∙ is)) (λ is. read (c.tell.ensures.status ∙ is)) (λ is. memory (c.tell.ensures.status ∙ is))
    c.answer_input.ensures.done c.answer_input.ensures.cut c.answer_input.ensures.refused))

pub returns-in-Ok-clause-complete : goal.returns-in-Ok-clause-complete
returns-in-Ok-clause-complete g c named memory source out =
    let found : named_input (texts c.args.words.now) ≡ Some (said c.in-Ok.input) = ap (λ names. input_of names (texts c.args.words.now)) (sym (ap texts c.as_slice.ensures ∙ c.game_names.ensures)) ∙ c.in-Ok.ensures.input in
    let there = of_input (texts c.args.words.now) (said c.in-Ok.input) _ found named in
    of_words (texts c.args.words.now) (said c.in-Ok.input) _ found
    (subst (λ (status : Status). OfBytes g.S.Source.opens g.S.Source.reads g.S.Source.left g.S.Source.files (said c.in-Ok.input) c.args.source.now c.answer_input.new.source (λ bytes. Completes bytes status))
    (sym c.tell.ensures.status)
    (completes g.S.Source.opens g.S.Source.reads g.S.Source.left g.S.Source.files (said c.in-Ok.input) c.args.source.now c.answer_input.new.source
    (λ file. WritesAll g.O.Sink.writes g.O.Sink.taken (output_of (said c.in-Ok.input)) file c.args.out.now c.answer_input.new.out)
    (λ file. WritesCut g.O.Sink.writes g.O.Sink.taken (output_of (said c.in-Ok.input)) file c.args.out.now c.answer_input.new.out)
    c.answer_input.result c.answer_input.ensures.usage
    (λ is. ⊎_elim source (λ missing. not_missing (g.S.Source.files c.args.source.now) (said c.in-Ok.input) there missing) (c.answer_input.ensures.read_fault is))
    (λ is. memory (c.tell.ensures.status ∙ is)) (λ is. out (c.answer_input.ensures.write_fault is))
    c.answer_input.ensures.done c.answer_input.ensures.refused))
