use Rattle.std.proofs.Common.{List, ℕ, sym, subst}
use Rattle.std.specs.Prelude.{string_bytes}
use Rattle.std.proofs.lemmas.Result.{IfOk-weaker}
use Rattle.decision.specs.declared.answer.Answer.{Answer}
use Rattle.decision.specs.Decided.{OpensRightly}
use Rattle.answer_texts.specs.Answered.{IsAnswer}
use Rattle.answer_texts.specs.Answered.IsAnswer.{valid, unsatisfiable}
use Rattle.answer_texts.specs.Given.{GivenLists}
use Rattle.answer_texts.proofs.OpenAnswers.{names, opened}
use Rattle.answer_texts.proofs.answering.answer.Goals as goal

pub open_text-requires-clause-names : goal.open_text-requires-clause-names
open_text-requires-clause-names g c =
    names g.E.Engine.gives c.args.file.now c.get-s.result.now c.requires.file c.in-Open.formula c.in-Open.complement c.in-Open.holds c.in-Open.fails
    (subst (λ (answer : Answer). OpensRightly g.E.Engine.gives c.args.file.now c.get-s.result.now answer) c.in-Open.is c.in_ok-decide_by.ensures.open)

pub returns-in-True-clause-answered : goal.returns-in-True-clause-answered
returns-in-True-clause-answered g c = IfOk-weaker c.true_line.result _ _
    (λ text is. record {
      statement = c.get-s.result.now;
      is_nth = (c.requires.first, c.get-s.ensures);
      is = subst (λ (t : List ℕ). IsAnswer (GivenLists g.E.Engine.gives) c.args.file.now c.args.number c.get-s.result.now t) (sym is)
          (valid (c.in_ok-decide_by.ensures.always.0 c.in-True.is));
    })
    c.true_line.ensures

pub returns-in-False-clause-answered : goal.returns-in-False-clause-answered
returns-in-False-clause-answered g c = IfOk-weaker c.false_line.result _ _
    (λ text is. record {
      statement = c.get-s.result.now;
      is_nth = (c.requires.first, c.get-s.ensures);
      is = subst (λ (t : List ℕ). IsAnswer (GivenLists g.E.Engine.gives) c.args.file.now c.args.number c.get-s.result.now t) (sym is)
          (unsatisfiable (c.in_ok-decide_by.ensures.never.0 c.in-False.is));
    })
    c.false_line.ensures

pub returns-in-Open-clause-answered : goal.returns-in-Open-clause-answered
returns-in-Open-clause-answered g c = IfOk-weaker c.open_text.result _ _
    (λ text printed. record {
      statement = c.get-s.result.now;
      is_nth = (c.requires.first, c.get-s.ensures);
      is = opened g.E.Engine.gives c.args.file.now c.get-s.result.now c.requires.file c.in-Open.formula c.in-Open.complement c.in-Open.holds c.in-Open.fails
          (subst (λ (answer : Answer). OpensRightly g.E.Engine.gives c.args.file.now c.get-s.result.now answer) c.in-Open.is c.in_ok-decide_by.ensures.open)
          c.args.number (string_bytes text) printed;
    })
    c.open_text.ensures
