use Rattle.form_facts.proofs.Winning.{winning_form_is}
use Rattle.form_facts.proofs.laws.winning_is_a_formula.Goals as goal

pub returns : goal.returns
returns c = winning_form_is
