use Rattle.std.proofs.Common.{◌≡◌, take, Some, arith, rules}
use Rattle.std.proofs.lemmas.List.{take_all}
use Rattle.formula_ast.specs.declared.token.TokenKind.TheVariants as k
use Rattle.formula_ast.specs.Tokens.{kind_of}
use Rattle.formula_printer.specs.Writing.{names_of}
use Rattle.formula_printer.proofs.Checked.{one_more_item, names_length}
use Rattle.formula_printer.proofs.Places.{declared_at_place}
use Rattle.formula_printer.proofs.checks.are_declared.Goals as goal

pub loop-i-preserved : goal.loop-i-preserved
loop-i-preserved c =
    one_more_item (λ text. kind_of text ≡ Some k.Name) (names_of c.args.sig.now) c.loop-i.i c.name.result.now
    (declared_at_place c.args.sig.now c.loop-i.i c.name.result.now c.name.ensures) c.loop-i.invariant (search (rules, c.is_name.ensures))

pub returns : goal.returns
returns c =
    let all : take c.loop-i.i (names_of c.args.sig.now) ≡ names_of c.args.sig.now = take_all c.loop-i.i (names_of c.args.sig.now) (omega (arith, names_length c.args.sig.now)) in
    rw all at c.loop-i.invariant
