use Rattle.std.proofs.Common.{◌≡◌, ◌<◌, ◌≤◌, ◌^◌, length, true, false, sym, arith, rules}
use Rattle.std.specs.List.{list_all}
use Rattle.std.specs.Char.{is_ascii_digit}
use Rattle.command_words.proofs.Digits.{long_text, other_text, small_number, great_number, no_value}
use Rattle.command_words.proofs.numbers.number.Goals as goal

pub returns-then-text-gt20-clause-value : goal.returns-then-text-gt20-clause-value
returns-then-text-gt20-clause-value c = let long : 20 < length c.args.text.now = omega arith in sym (long_text _ _ long)

pub returns-then-not-are_digits-clause-value : goal.returns-then-not-are_digits-clause-value
returns-then-not-are_digits-clause-value c =
    let none : list_all is_ascii_digit c.args.text.now ≡ false = search rules in sym (other_text _ _ none)

pub returns-in-Ok-clause-value : goal.returns-in-Ok-clause-value
returns-in-Ok-clause-value c =
    let all : list_all is_ascii_digit c.args.text.now ≡ true = search rules in
    let short : length c.args.text.now ≤ 20 = omega arith in
    sym (small_number _ _ c.parse.result all c.parse.ensures.value.0 _ c.in-Ok.is short c.if-value-most.true)

pub returns-in_default-clause-value : goal.returns-in_default-clause-value
returns-in_default-clause-value c =
    let all : list_all is_ascii_digit c.args.text.now ≡ true = search rules in
    sym (great_number _ _ c.parse.result all c.parse.ensures.value.0 _ c.in-Ok.is c.if-value-most.false)

pub returns-in_default-2-clause-value : goal.returns-in_default-2-clause-value
returns-in_default-2-clause-value c =
    let all : list_all is_ascii_digit c.args.text.now ≡ true = search rules in
    let small : c.args.most < 2 ^ 64 = omega (arith, c.ranges.most.fits) in
    sym (no_value _ _ c.parse.result all c.parse.ensures.value.0 _ c.in_default.is small)
