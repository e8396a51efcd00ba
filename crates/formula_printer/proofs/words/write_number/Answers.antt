use Rattle.std.proofs.Common.{◌<◌, ◌^◌, arith}
use Rattle.formula_printer.proofs.Decimals.{decimal_is}
use Rattle.formula_printer.proofs.words.write_number.Goals as goal

pub returns : goal.returns
returns c =
    let small : c.args.n < 2 ^ 64 = omega arith in
    rw (← decimal_is c.args.n small, ← c.format.ensures.text) c.write_text.ensures
