use Rattle.std.proofs.Common.{◌≡◌, take, Some, arith, rules}
use Rattle.lists.proofs.Items.{item_stands, all_items}
use Rattle.formula_ast.specs.declared.token.TokenKind.TheVariants as k
use Rattle.formula_ast.specs.Tokens.{kind_of}
use Rattle.formula_printer.proofs.Checked.{one_more_item}
use Rattle.formula_printer.proofs.checks.are_variables.Goals as goal

pub loop-name-preserved : goal.loop-name-preserved
loop-name-preserved c =
    let is : kind_of c.name-item.result ≡ Some k.Variable = rw (← c.as_str.ensures) (search (rules, c.is_variable.ensures)) in
    one_more_item (λ text. kind_of text ≡ Some k.Variable) c.args.names.now c.loop-name.name-index c.name-item.result (item_stands _ _ _ _ c.as_slice-name-items.ensures (omega arith) c.name-item.is) c.loop-name.invariant is

pub returns : goal.returns
returns c =
    let all : take c.loop-name.name-index c.args.names.now ≡ c.args.names.now = all_items _ _ _ c.as_slice-name-items.ensures (omega arith) in
    rw all at c.loop-name.invariant
