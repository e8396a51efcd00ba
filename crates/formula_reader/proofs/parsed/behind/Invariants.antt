use Rattle.std.proofs.Common.{◌≡◌}
use Rattle.std.specs.Iterator.Adapters.{rev_source}
use Rattle.std.specs.Slice.Iter.{iter_rest}
use Rattle.formula_ast.specs.Forms.{form_of}
use Rattle.formula_grammar.specs.Meaning.{behind, quantifier_form}
use Rattle.formula_reader.specs.Kinds.{quantifier_of}
use Rattle.formula_reader.proofs.parsed.behind.Given as goal

abbrev pub invariant-loop-variable : goal.invariant-loop-variable
invariant-loop-variable l = record {
  next : (goal.iterator-loop-variable).can_next l.variable-iterator;
  finite : (goal.iterator-loop-variable).is_finite l.variable-iterator;
  form : behind (quantifier_form (quantifier_of l.quantifier)) (iter_rest (rev_source l.variable-iterator)) (form_of l.formula)
      ≡ behind (quantifier_form (quantifier_of l.quantifier)) l.variables (form_of l.fn.inner);
}
