use Rattle.formula_tokens.proofs.Longest.{found_within}
use Rattle.formula_tokens.proofs.tokens.front.Goals as goal

pub returns-then-is_ascii_lowercase-clause-within : goal.returns-then-is_ascii_lowercase-clause-within
returns-then-is_ascii_lowercase-clause-within c = found_within c.args.bytes.now c.word_front.result c.word_front.ensures

pub returns-then-is_ascii_uppercase-clause-within : goal.returns-then-is_ascii_uppercase-clause-within
returns-then-is_ascii_uppercase-clause-within c = found_within c.args.bytes.now c.variable_front.result c.variable_front.ensures

pub returns-then-is_ascii_digit-clause-within : goal.returns-then-is_ascii_digit-clause-within
returns-then-is_ascii_digit-clause-within c = found_within c.args.bytes.now c.number_front.result c.number_front.ensures

pub returns-then-first-eq36-clause-within : goal.returns-then-first-eq36-clause-within
returns-then-first-eq36-clause-within c = found_within c.args.bytes.now c.further_front.result c.further_front.ensures

pub returns-else-first-eq36-clause-within : goal.returns-else-first-eq36-clause-within
returns-else-first-eq36-clause-within c = found_within c.args.bytes.now c.mark_front.result c.mark_front.ensures
