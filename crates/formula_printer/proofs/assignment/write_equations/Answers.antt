use Rattle.std.proofs.Common.{◌≡◌, ◌<◌, length, take, arith, rules, append_assoc}
use Rattle.std.specs.Prelude.{codes}
use Rattle.std.proofs.lemmas.List.{take_all}
use Rattle.formula_printer.specs.Assignments.{equations_of}
use Rattle.formula_printer.specs.Texts.{text_of}
use Rattle.formula_printer.specs.Writing.{written}
use Rattle.formula_printer.proofs.Assigned.{joined_more}
use Rattle.formula_printer.proofs.assignment.write_equations.Goals as goal

pub loop-i-preserved : goal.loop-i-preserved
loop-i-preserved c =
    let within : c.loop-i.i < length (equations_of c.args.a.now) = omega (arith, c.requires.all) in
    rw (joined_more (λ f. text_of (written c.args.sig.now c.args.names.now f)) (codes " & ") (equations_of c.args.a.now) c.loop-i.i within) (search (rules, append_assoc))

pub returns : goal.returns
returns c =
    let all : take c.loop-i.i (equations_of c.args.a.now) ≡ equations_of c.args.a.now = take_all c.loop-i.i (equations_of c.args.a.now) (omega (arith, c.requires.all)) in
    rw all at c.loop-i.invariant
