-- What the printed texts of an open answer mean by name.
use Rattle.std.proofs.Common.{◌≡◌, ◌↔◌, ℕ, ◌+◌, ◌<◌, List, [], ◌++◌, length, get_or, slice_get, slice_index, Some, refl, sym, ap, ◌∙◌, subst, arith}
use Rattle.std.proofs.lemmas.List.{get_or_append_left, get_or-map, get_or-append-add, length-map}
use Rattle.tree_model.specs.Graphs.{Forest, AreInRange, tree_of}
use Rattle.tree_model.specs.Signatures.{Signature, Fits, Alike}
use Rattle.tree_model.specs.Trees.{at, Same}
use Rattle.tree_model.specs.Valuations.{Valuation}
use Rattle.formula_ast.specs.declared.file.File.{File}
use Rattle.formula_ast.specs.declared.statement.Statement.{Statement}
use Rattle.formula_ast.specs.Forms.{Form, form_of, no}
use Rattle.formula_ast.specs.Satisfaction.{Holds, meaning_of}
use Rattle.flat_form.specs.declared.cube.Cube.{Cube}
use Rattle.flat_form.specs.Normals.{Norm}
use Rattle.flattening.specs.Conditions.{GivesRanks}
use Rattle.formula_grammar.specs.Written.{Text}
use Rattle.formula_printer.specs.Assignments.{assignment_form, assignment_names}
use Rattle.formula_printer.specs.Bound.{bound_names}
use Rattle.formula_printer.specs.Reads.{ReadsBack}
use Rattle.formula_printer.specs.Texts.{text_of}
use Rattle.formula_printer.specs.Writing.{text_at, written}
use Rattle.explicit_form.specs.Explicit.{explicit_of, explicit_names, width}
use Rattle.explicit_form.specs.Shape.{IsExplicit}
use Rattle.explicit_form.proofs.Names.{bound_many}
use Rattle.assignment_facts.specs.Trees.{HasTrees}
use Rattle.assignment_facts.proofs.Assigned.{say_their_trees}
use Rattle.named_readings.specs.Naming.{Naming, valued}
use Rattle.named_readings.proofs.Again.{reads_back_means}
use Rattle.decision.specs.Decided.{IsSatisfied, GivesTrees, IsSide}
use Rattle.decision.specs.Naming.{ranks_of, names_at, free_names, used_indexes}
use Rattle.answer_texts.specs.Answered.{SatisfiedBy, Gives, MeansByName, IsFormulaText, IsTreesText}

-- ---- names by rank

-- the i-th free name is that of the variable of rank i
name_of_rank : (names : List Text) (ranks : List ℕ) (i : ℕ) → i < length ranks → get_or (names_at names ranks) i [] ≡ get_or names (slice_index ranks i) []
name_of_rank names ranks i within = get_or-map (λ x. get_or names x []) ranks i 0 [] within

module _ {σ : Signature} (v : Naming σ) (names : List Text) (ranks : List ℕ) where
  -- values by name give each rank its variable's value
  pub gives_ranks : (more : List Text) → GivesRanks ranks (valued v names) (valued v (names_at names ranks ++ more))
  gives_ranks more i within path =
      ap (λ x. at (v x).graph path)
      (sym (name_of_rank names ranks i within)
      ∙ sym (get_or_append_left (names_at names ranks) more [] i (omega (arith, within, length-map ranks (λ x. get_or names x [])))))

  pub gives_trees : (a : Forest) → ((i : ℕ) → i < length (names_at names ranks) → Same (v (get_or (names_at names ranks) i [])).graph (tree_of a i)) → GivesTrees ranks a (valued v names)
  gives_trees a trees i within path =
      ap (λ x. at (v x).graph path) (sym (name_of_rank names ranks i within))
      ∙ trees i (omega (arith, within, length-map ranks (λ x. get_or names x []))) path

-- behind as many names as there are nodes comes a name
behind_nodes : (names more : List Text) (n i : ℕ) → length more ≡ n → get_or (more ++ names) (n + i) [] ≡ get_or names i []
behind_nodes names more n i long = ap (λ k. get_or (more ++ names) (k + i) []) (sym long) ∙ get_or-append-add more names i []

-- ---- the texts

module _ (gives : ℕ → Norm → List Cube → Type 0) (file : File) (s : Statement) (f : Form) (solved : Statement) (a : Forest)
    (side : IsSide gives file (free_names s) (ranks_of s.body) (used_indexes file s.body) f solved a) where
  abbrev P : Naming file.signature → Type 0
  P v = IsSatisfied file f (valued v s.names)

  -- the formula's, which reads back
  formula_means : (text : Text) → ReadsBack file.signature solved.names text (form_of solved.body) → MeansByName file text P
  formula_means text back = record {
    names = back.names_read;
    form = back.form_read;
    reads = back.reads;
    exactly = λ v.
        let again = reads_back_means file.signature text solved.names back.names_read (form_of solved.body) back.form_read back back.reads (meaning_of file.signature file.preds) v in
        let here = side.solves (valued v s.names) (valued v solved.names)
        (subst (λ (names : List Text). GivesRanks (ranks_of s.body) (valued v s.names) (valued v names)) (sym side.shown.names_are)
        (gives_ranks v s.names (ranks_of s.body) (bound_names (free_names s) (width side.cubes)))) in
        (λ h. here.0 (again.0 h), λ p. again.1 (here.1 p));
  }

  pub formula_text : (text : Text) → text ≡ text_of (written file.signature solved.names (form_of solved.body)) → ReadsBack file.signature solved.names text (form_of solved.body)
      → IsFormulaText file s side.cubes P text
  formula_text text is back = record {
    explicit = subst (λ (g : Form). IsExplicit (length (free_names s)) g) side.shown.body_is side.shown.explicit;
    is = is ∙ ap (λ (names : List Text). text_of (written file.signature names (form_of solved.body))) side.shown.names_are
        ∙ ap (λ (g : Form). text_of (written file.signature (explicit_names (free_names s) side.cubes) g)) side.shown.body_is;
    means = formula_means text back;
  }

  -- the assignment's
  module _ (in_range : AreInRange a.nodes a.roots) where
    named_trees : (v : Naming file.signature) → HasTrees a (valued v (assignment_names (free_names s) a)) ↔ Gives file s a v
    named_trees v = (
      λ trees i within path. ap (λ x. at (v x).graph path) (sym (there i)) ∙ trees i (omega (arith, within, side.shown.roots)) path,
      λ given i within path. ap (λ x. at (v x).graph path) (there i) ∙ given i (omega (arith, within, side.shown.roots)) path,
    )
      where
        there : (i : ℕ) → text_at (assignment_names (free_names s) a) (length a.nodes + i) ≡ get_or (free_names s) i []
        there i = behind_nodes (free_names s) (bound_names (free_names s) (length a.nodes)) (length a.nodes) i (bound_many (free_names s) (length a.nodes))

    trees_mean : (text : Text) → ReadsBack file.signature (assignment_names (free_names s) a) text (assignment_form a) → MeansByName file text (Gives file s a)
    trees_mean text back = record {
      names = back.names_read;
      form = back.form_read;
      reads = back.reads;
      exactly = λ v.
          let again = reads_back_means file.signature text (assignment_names (free_names s) a) back.names_read (assignment_form a) back.form_read back back.reads (meaning_of file.signature file.preds) v in
          let here = say_their_trees file.signature file.preds a (valued v (assignment_names (free_names s) a)) in_range side.fits in
          let named = named_trees v in
          (λ h. named.0 (here.0 (again.0 h)), λ g. again.1 (here.1 (named.1 g)));
    }

    pub trees_text : (text : Text) → text ≡ text_of (written file.signature (assignment_names (free_names s) a) (assignment_form a))
        → ReadsBack file.signature (assignment_names (free_names s) a) text (assignment_form a) → IsTreesText file s side.cubes P text
    trees_text text is back = record {
      first = side.shown.first;
      is_first = side.shown.is_first;
      assignment = a;
      in_range = in_range;
      fits = side.fits;
      roots = side.shown.roots;
      fresh = side.shown.fresh;
      is = is;
      one = trees_mean text back;
      right = λ v given. side.satisfies (valued v s.names) (gives_trees v s.names (ranks_of s.body) a given);
    }
