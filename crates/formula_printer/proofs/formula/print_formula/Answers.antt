use Rattle.std.specs.Prelude.{string_bytes}
use Rattle.formula_ast.specs.Forms.{form_of}
use Rattle.formula_printer.proofs.Back.{reads_back}
use Rattle.formula_printer.proofs.formula.print_formula.Goals as goal

pub returns-clause-reads : goal.returns-clause-reads
returns-clause-reads c =
    reads_back c.args.sig.now c.args.names.now (string_bytes c.write_formula.new.out) (form_of c.args.f.now) c.requires.names c.len.ensures.distinct c.requires.fits
    (rw c.new-text.ensures.bytes at c.in_ok-write_formula.ensures)
