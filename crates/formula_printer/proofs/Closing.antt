-- The whole text of an assignment.
use Rattle.std.proofs.Common.{◌≡◌, ◌+◌, ◌<◌, List, [], ◌++◌, length, refl, arith, length-append}
use Rattle.std.specs.Prelude.{slice_index_or}
use Rattle.tree_model.specs.Graphs.{Forest, AreInRange}
use Rattle.tree_model.specs.Signatures.{Signature, Fits}
use Rattle.signature.specs.Names.{HasDistinctNames}
use Rattle.formula_grammar.specs.Written.{Text}
use Rattle.formula_printer.specs.Assignments.{assignment_form, assignment_names}
use Rattle.formula_printer.specs.Bound.{bound_names}
use Rattle.formula_printer.specs.Printable.{AreNames}
use Rattle.formula_printer.specs.Reads.{ReadsBack}
use Rattle.formula_printer.specs.Texts.{text_of}
use Rattle.formula_printer.specs.Writing.{written}
use Rattle.formula_printer.proofs.Assigned.{assignment_fits}
use Rattle.formula_printer.proofs.Back.{reads_back}
use Rattle.formula_printer.proofs.Rising.{bound_rise, rising_words, rising_distinct, bound_count}

pub all_count : (names : List Text) (a : Forest) → length (assignment_names names a) ≡ length a.nodes + length names
all_count names a = omega (arith, length-append (bound_names names (length a.nodes)) names, bound_count names (length a.nodes))

pub some_nodes : (a : Forest) → AreInRange a.nodes a.roots → 0 < length a.roots → 0 < length a.nodes
some_nodes a range some = let first : slice_index_or a.roots 0 0 < length a.nodes = range.roots_within 0 0 some in omega arith

-- five writes, one after another
pub written_out : {s0 s1 s2 s3 s4 s5 : Text} (x1 x2 x3 x4 x5 : Text) → s0 ≡ [] → s1 ≡ s0 ++ x1 → s2 ≡ s1 ++ x2 → s3 ≡ s2 ++ x3 → s4 ≡ s3 ++ x4 → s5 ≡ s4 ++ x5
    → s5 ≡ x1 ++ x2 ++ x3 ++ x4 ++ x5
written_out x1 x2 x3 x4 x5 e0 e1 e2 e3 e4 e5 = rw (e5, e4, e3, e2, e1, e0) refl

pub assignment_reads : (σ : Signature) (names : List Text) (bytes : Text) (a : Forest) → AreNames σ names → HasDistinctNames σ → length a.roots ≡ length names
    → Fits σ a.nodes → AreInRange a.nodes a.roots → bytes ≡ text_of (written σ (assignment_names names a) (assignment_form a))
    → ReadsBack σ (assignment_names names a) bytes (assignment_form a)
assignment_reads σ names bytes a good distinct rooted fits range is =
    reads_back σ (assignment_names names a) bytes (assignment_form a) (record {
      variables = rising_words (bound_rise names (length a.nodes)) good.variables;
      distinct = rising_distinct (bound_rise names (length a.nodes)) good.distinct;
      declared = good.declared;
    })
    distinct (assignment_fits σ (length (assignment_names names a)) a (omega (arith, all_count names a, rooted)) fits range) is
