-- The texts of a right answer are right.
use Rattle.std.proofs.Common.{◌≡◌, ℕ, ◌<◌, ◌≤◌, List, ◌++◌, length, refl, sym, ap, ◌∙◌, subst, arith}
use Rattle.std.specs.Prelude.{take, decimal, codes}
use Rattle.std.proofs.Math.Seq.{take-append_seam}
use Rattle.std.proofs.lemmas.List.{length-append}
use Rattle.tree_model.specs.Graphs.{Forest, AreInRange}
use Rattle.formula_ast.specs.declared.file.File.{File}
use Rattle.formula_ast.specs.declared.statement.Statement.{Statement}
use Rattle.formula_ast.specs.Forms.{Form, form_of, no}
use Rattle.formula_ast.specs.WellFormed.{IsWellFormed}
use Rattle.flat_form.specs.declared.cube.Cube.{Cube}
use Rattle.flat_form.specs.Normals.{Norm}
use Rattle.formula_grammar.specs.Written.{Text}
use Rattle.formula_printer.specs.Bound.{bound_names}
use Rattle.formula_printer.specs.Printable.{AreNames}
use Rattle.formula_printer.proofs.Over.{statement_printable}
use Rattle.explicit_form.specs.Explicit.{width}
use Rattle.witness_trees.proofs.Table.{fresh_table}
use Rattle.decision.specs.Decided.{IsOpen, IsSide}
use Rattle.decision.specs.Naming.{ranks_of, free_names, used_indexes}
use Rattle.answer_texts.specs.Answered.{IsAnswer, IsOpenText, open_lines}
use Rattle.answer_texts.specs.Answered.IsAnswer.{neither}
use Rattle.answer_texts.specs.Given.{GivenLists}
use Rattle.answer_texts.specs.Printed.{ArePrinted}
use Rattle.answer_texts.proofs.Fronts.{front_names}
use Rattle.answer_texts.proofs.Meaning.{formula_text, trees_text}

module _ (gives : ℕ → Norm → List Cube → Type 0) (file : File) (s : Statement) where
  -- one side
  module _ (f : Form) (solved : Statement) (a : Forest) (side : IsSide gives file (free_names s) (ranks_of s.body) (used_indexes file s.body) f solved a) where
    in_range : AreInRange a.nodes a.roots
    in_range = fresh_table.in_range side.shown.first (used_indexes file s.body) a side.shown.fresh

    taken : take (length a.roots) solved.names ≡ free_names s
    taken =
        ap (λ k. take k solved.names) side.shown.roots ∙ ap (λ (names : List Text). take (length (free_names s)) names) side.shown.names_are
        ∙ take-append_seam (free_names s) (bound_names (free_names s) (width side.cubes))

    enough : length a.roots ≤ length solved.names
    enough = omega (arith, side.shown.roots, ap (λ (names : List Text). length names) side.shown.names_are, length-append (free_names s) (bound_names (free_names s) (width side.cubes)))

    are_names : IsWellFormed file → AreNames file.signature (take (length a.roots) solved.names)
    are_names well = subst (λ (names : List Text). AreNames file.signature names) (sym taken)
        (front_names file.signature (free_names s) (bound_names (free_names s) (width side.cubes))
        (subst (λ (names : List Text). AreNames file.signature names) side.shown.names_are (statement_printable file.signature solved well.words side.formed).0))

  module _ (well : IsWellFormed file) (formula complement : Statement) (holds fails : Forest) (opens : IsOpen gives file s formula complement holds fails) where
    pub some : 0 < length holds.roots
    some = omega (arith, opens.some_name, opens.body.shown.roots)

    pub within : length holds.roots ≤ length formula.names
    within = enough (form_of s.body) formula holds opens.body

    pub names : AreNames file.signature (take (length holds.roots) formula.names)
    names = are_names (form_of s.body) formula holds opens.body well

    pub as_many : length fails.roots ≡ length holds.roots
    as_many = opens.negation.shown.roots ∙ sym opens.body.shown.roots

    -- the lines are a right answer
    pub opened : (n : ℕ) (text : Text) → ArePrinted file.signature n (take (length holds.roots) formula.names) formula complement holds fails text
        → IsAnswer (GivenLists gives) file n s text
    opened n text printed =
        subst (λ (t : Text). IsAnswer (GivenLists gives) file n s t) (sym p.lines)
        (neither (record {
          cubes = opens.body.cubes;
          others = opens.negation.cubes;
          listed = opens.body.solution.given;
          others_listed = opens.negation.solution.given;
          formula_is = formula_text gives file s (form_of s.body) formula holds opens.body p.f p.f_printed.is p.f_printed.reads;
          complement_is = formula_text gives file s (no (form_of s.body)) complement fails opens.negation p.g p.g_printed.is p.g_printed.reads;
          holds_is = trees_text gives file s (form_of s.body) formula holds opens.body (in_range (form_of s.body) formula holds opens.body) p.a p.a_printed.is p.a_printed.reads;
          fails_is = trees_text gives file s (no (form_of s.body)) complement fails opens.negation (in_range (no (form_of s.body)) complement fails opens.negation) p.b p.b_printed.is p.b_printed.reads;
        }))
      where
        p : ArePrinted file.signature n (free_names s) formula complement holds fails text
        p = subst (λ (names : List Text). ArePrinted file.signature n names formula complement holds fails text) (taken (form_of s.body) formula holds opens.body) printed
