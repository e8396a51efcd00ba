use Rattle.std.proofs.Common.{◌≡◌, []}
use Rattle.formula_ast.specs.Forms.{form_of}
use Rattle.formula_ast.specs.Occurrences.{first_occurrences, free_occurrences}
use Rattle.formula_ast.proofs.Standing.{listed_free}
use Rattle.formula_ast.proofs.free.free_variables.Goals as goal

pub returns : goal.returns
returns c =
    let list : c.formula.new.self.met ≡ first_occurrences (free_occurrences (form_of c.args.f.now)) =
    rw c.new-2.ensures.items at (c.in_ok-formula.ensures.met [] c.new.ensures) in
    record {
      order = list;
      free = rw list (listed_free (form_of c.args.f.now));
    }
