use Rattle.std.proofs.Common.{◌≡◌, ◌≤◌, ◌-◌}
use Rattle.std.specs.List.{range_with_len}
use Rattle.formula_ast.specs.Forms.{form_of, exists}
use Rattle.formula_grammar.specs.Meaning.{behind}
use Rattle.explicit_form.proofs.atoms.quantified.Given as goal

abbrev pub invariant-loop-x : goal.invariant-loop-x
invariant-loop-x l = record {
  low : l.first ≤ l.x;
  high : l.x ≤ l.end;
  form : form_of l.all ≡ behind exists (range_with_len l.x (l.end - l.x)) (form_of l.fn.f);
}

abbrev pub decreases-loop-x : goal.decreases-loop-x
decreases-loop-x l = l.x
