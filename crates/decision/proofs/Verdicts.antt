-- What the two lists of a statement say: that it is valid, unsatisfiable, or open.
use Rattle.std.proofs.Common.{◌≡◌, ◌↔◌, ℕ, ◌<◌, List, [], ◌∷◌, length, slice_index, All, Contains, refl, sym, ap, ◌∙◌, subst, arith}
use Rattle.std.specs.Prelude.{Result, IfOk}
use Rattle.std.proofs.lemmas.List.Elements.{All-weaker}
use Rattle.std.proofs.lemmas.Result.{IfOk-weaker}
use Rattle.lists.specs.Distinct.{IsDistinct}
use Rattle.lists.specs.declared.NoMemory.{NoMemory}
use Rattle.tree_model.specs.Graphs.{Forest, tree_of}
use Rattle.tree_model.specs.OneNode.{constant}
use Rattle.tree_model.specs.Trees.{Same}
use Rattle.tree_model.specs.Valuations.{Valuation}
use Rattle.formula_ast.specs.declared.file.File.{File}
use Rattle.formula_ast.specs.declared.statement.Statement.{Statement}
use Rattle.formula_ast.specs.declared.token.TokenKind.TheVariants as word
use Rattle.formula_ast.specs.Forms.{Form, form_of, no}
use Rattle.formula_ast.specs.Occurrences.{free_occurrences}
use Rattle.formula_ast.specs.Satisfaction.{meaning_of}
use Rattle.formula_ast.specs.Valid.{IsValid, IsUnsatisfiable}
use Rattle.formula_ast.specs.WellFormed.{AreWords, AreDistinct, FormOver, IsFreeIn, IsWellFormed, IsStatementOver}
use Rattle.formula_ast.proofs.Stable.{Holds_stable}
use Rattle.flat_form.specs.declared.cube.Cube.{Cube}
use Rattle.flat_form.specs.Normals.{Norm}
use Rattle.flat_form.specs.Numbering.{CubesOver}
use Rattle.flat_form.specs.Symbols.{cube_symbols, cubes_symbols, CubesFit}
use Rattle.flat_form.proofs.Symbols.{each_of}
use Rattle.flattening.specs.Conditions.{GivesRanks}
use Rattle.flattening.specs.Symbols.{form_symbols}
use Rattle.flattening.proofs.EachItem.{flat_all}
use Rattle.game_library.specs.Solving.{StandsIn}
use Rattle.explicit_form.specs.Shape.{IsNotEmpty}
use Rattle.witness_trees.specs.Values.{IndexesAreUsed}
use Rattle.decision.specs.declared.answer.Answer.{Answer}
use Rattle.decision.specs.declared.answer.Answer.TheVariants.{«True», «False», Open}
use Rattle.decision.specs.Decided.{IsSatisfied, IsSolution, IsSide, OpensRightly}
use Rattle.decision.specs.Naming.{ranks_of, names_at, free_names, used_indexes}
use Rattle.decision.specs.Shown.{CanBeShown, ShowsCubes, ShowsBoth}
use Rattle.form_facts.proofs.Free.{free_below}
use Rattle.decision.proofs.ShownSymbols.{explicit_symbols, fresh_declared}
use Rattle.decision.proofs.Lists.{at_place, by_rank, gives_by_rank, IsListOf, holds_nowhere, holds_somewhere, not_empty, closed_holds}
use Rattle.decision.proofs.Names.{first_distinct, names_are_words, names_are_distinct, length_names}
use Rattle.decision.proofs.Solution.{solution_fits, indexes_are_used, list_of}

-- there is a valuation, so a statement is not both
pub not_both : (file : File) (s : Statement) → IsValid file s → IsUnsatisfiable file s → ⊥
not_both file s valid none = let e : Valuation file.signature = λ v. constant file.signature 0 in none e (valid e)

-- so `True` and `False` are right answers of a valid and of an unsatisfiable statement
module _ (file : File) (s : Statement) where
  pub true_always : IsValid file s → (◌≡◌ {A = Answer} «True» «True») ↔ IsValid file s
  true_always valid = (λ e. valid, λ again. refl)

  pub true_never : IsValid file s → (◌≡◌ {A = Answer} «True» «False») ↔ IsUnsatisfiable file s
  true_never valid = (λ e. cc e, λ none. absurd (not_both file s valid none))

  pub false_always : IsUnsatisfiable file s → (◌≡◌ {A = Answer} «False» «True») ↔ IsValid file s
  false_always none = (λ e. cc e, λ valid. absurd (not_both file s valid none))

  pub false_never : IsUnsatisfiable file s → (◌≡◌ {A = Answer} «False» «False») ↔ IsUnsatisfiable file s
  false_never none = (λ e. none, λ again. refl)

-- a list with an item begins with one
pub begins : {X : Type 0} (xs : List X) → ¬ (length xs ≡ 0) → (x : X) × (rest : List X) × (xs ≡ x ∷ rest)
begins [] some = absurd (some refl)
begins (x ∷ rest) some = (x, rest, refl)

module _ (gives : ℕ → Norm → List Cube → Type 0) (file : File) (formed : IsWellFormed file) (s : Statement) (over : IsStatementOver file.signature s)
    (ranks : List ℕ) (ranks_are : ranks ≡ ranks_of s.body) where
  abbrev f : Form
  f = form_of s.body

  abbrev P : Valuation file.signature → Type 0
  P d = IsSatisfied file f d

  abbrev Q : Valuation file.signature → Type 0
  Q d = IsSatisfied file (no f) d

  distinct : IsDistinct ranks
  distinct = subst (λ (l : List ℕ). IsDistinct l) (sym ranks_are) (first_distinct (free_occurrences f))

  -- each rank is that of a variable with a name
  pub within : ((x : ℕ) → Contains ranks x ↔ IsFreeIn x f) → All (λ x. x < length s.names) ranks
  within free = each_of (λ x. x < length s.names) ranks (λ x has. free_below file.signature file.signature (length s.names) x f over.formula ((free x).0 has))

  list : (cubes : List Cube) → IsSolution gives file ranks f cubes → IsListOf ranks P cubes
  list cubes is = list_of gives file formed ranks (length s.names) f over.formula cubes is

  other_list : (others : List Cube) → IsSolution gives file ranks (no f) others → IsListOf ranks Q others
  other_list others is = list_of gives file formed ranks (length s.names) (no f) over.formula others is

  -- ---- verdicts

  pub no_cube : (cubes : List Cube) → IsSolution gives file ranks f cubes → length cubes ≡ 0 → IsUnsatisfiable file s
  no_cube [] is none d = holds_nowhere ranks P (list [] is) d
  no_cube (cube ∷ rest) is none d = absurd (omega (arith, none))

  pub no_other : (others : List Cube) → IsSolution gives file ranks (no f) others → length others ≡ 0 → IsValid file s
  no_other [] is none d = (Holds_stable file.signature (meaning_of file.signature file.preds) f d).holds (holds_nowhere ranks Q (other_list [] is) d)
  no_other (cube ∷ rest) is none d = absurd (omega (arith, none))

  pub some_cube : (cubes : List Cube) → IsSolution gives file ranks f cubes → ¬ (length cubes ≡ 0) → ¬ IsUnsatisfiable file s
  some_cube [] is some none = some refl
  some_cube (cube ∷ rest) is some none = holds_somewhere ranks P distinct cube rest (list (cube ∷ rest) is) none

  pub some_other : (others : List Cube) → IsSolution gives file ranks (no f) others → ¬ (length others ≡ 0) → ¬ IsValid file s
  some_other [] is some valid = some refl
  some_other (cube ∷ rest) is some valid = holds_somewhere ranks Q distinct cube rest (other_list (cube ∷ rest) is) (λ d holds. holds (valid d))

  -- over no variable, a list with a cube holds everywhere
  pub closed_cube : (cubes : List Cube) → IsSolution gives file ranks f cubes → ¬ (length cubes ≡ 0) → length ranks ≡ 0 → IsValid file s
  closed_cube [] is some closed d = absurd (some refl)
  closed_cube (cube ∷ rest) is some closed d =
      (Holds_stable file.signature (meaning_of file.signature file.preds) f d).holds (closed_holds ranks P closed cube rest (list (cube ∷ rest) is) d)

  -- ---- both lists have a cube

  module _ (names : List (List ℕ)) (names_are : names ≡ names_at s.names ranks) (used : List ℕ) (used_are : used ≡ used_indexes file s.body)
      (free : (x : ℕ) → Contains ranks x ↔ IsFreeIn x f) where
    long : length names ≡ length ranks
    long = ap (λ (l : List (List ℕ)). length l) names_are ∙ length_names s.names ranks

    -- what can be shown, of the formula g that the cubes solve
    shows : (g : Form) (cubes : List Cube) → IsSolution gives file ranks g cubes → ((p : _) → StandsIn file g p → StandsIn file f p) → ¬ (length cubes ≡ 0) → All IsNotEmpty cubes
        → CanBeShown names used cubes
    shows g cubes is same some full = record {
      some = λ none. some (ap (λ (l : List Cube). length l) none);
      over = subst (λ (n : ℕ). CubesOver n cubes) (sym long) is.over;
      reduced = is.reduced;
      distinct = is.distinct;
      not_empty = full;
      words = subst (λ (l : List (List ℕ)). AreWords word.Variable l) (sym names_are) (names_are_words word.Variable s.names ranks over.words (within free));
      apart = subst (λ (l : List (List ℕ)). AreDistinct l) (sym names_are) (names_are_distinct s.names ranks over.distinct distinct (within free));
      indexes = subst (λ (l : List ℕ). All (λ cube. IndexesAreUsed cube l) cubes) (sym used_are)
          (indexes_are_used file s.body cubes (All-weaker (StandsIn file g) (StandsIn file f) (λ p stands. same p stands) (cubes_symbols cubes) is.symbols));
    }

    -- a list that is shown is a side of the answer
    pub side : (g : Form) (cubes : List Cube) (solved : Statement) (a : Forest) → FormOver file.signature file.signature (length s.names) g → IsSolution gives file ranks g cubes
        → ShowsCubes names used cubes solved a → IsSide gives file (free_names s) (ranks_of s.body) (used_indexes file s.body) g solved a
    side g cubes solved a g_over is shown =
        let fit : CubesFit file.signature cubes = solution_fits file formed (length s.names) g g_over cubes is.symbols in
        record {
          cubes = cubes;
          solution = subst (λ (l : List ℕ). IsSolution gives file l g cubes) ranks_are is;
          shown = subst (λ (l : List ℕ). ShowsCubes (free_names s) l cubes solved a) used_are
              (subst (λ (l : List (List ℕ)). ShowsCubes l used cubes solved a) (names_are ∙ ap (names_at s.names) ranks_are) shown);
          formed = shown.formed file.signature fit;
          solves = λ d e rank.
              let here = is.solves d e (subst (λ (l : List ℕ). GivesRanks l d e) (sym ranks_are) rank) in
              let there = shown.means file.signature file.preds e in
              (λ h. here.0 (there.0 h), λ h. there.1 (here.1 h));
          fits = shown.fits file.signature fit;
          symbols = subst (λ (h : Form). All (StandsIn file g) (form_symbols h)) (sym shown.body_is) (explicit_symbols (StandsIn file g) cubes is.symbols);
          declared = fresh_declared (StandsIn file g) shown.first used a
              (at_place (λ cube. All (StandsIn file g) (cube_symbols cube)) cubes 0 shown.first (flat_all (StandsIn file g) cube_symbols cubes is.symbols) shown.is_first) shown.fresh;
          satisfies = λ d trees.
              (is.solves d (by_rank ranks d) (gives_by_rank ranks d)).0
              (shown.holds file.signature (by_rank ranks d) fit
              (λ v within. subst (λ (l : List ℕ). (i : ℕ) → i < length l → Same (d (slice_index l i)).graph (tree_of a i)) (sym ranks_are) trees v
              (omega (arith, within, shown.roots, long))));
        }

    module _ (cubes others : List Cube) (is : IsSolution gives file ranks f cubes) (other : IsSolution gives file ranks (no f) others)
        (some : ¬ (length cubes ≡ 0)) (not_closed : ¬ (length ranks ≡ 0)) (some_more : ¬ (length others ≡ 0)) where
      full : All IsNotEmpty cubes
      full =
          let (one, rest, at) = begins others some_more in
          not_empty ranks P Q (λ d holds fails. fails holds) distinct cubes (list cubes is) one rest
          (subst (λ (l : List Cube). IsListOf ranks Q l) at (other_list others other))

      other_full : All IsNotEmpty others
      other_full =
          let (one, rest, at) = begins cubes some in
          not_empty ranks Q P (λ d fails holds. fails holds) distinct others (other_list others other) one rest
          (subst (λ (l : List Cube). IsListOf ranks P l) at (list cubes is))

      pub can_be_shown : CanBeShown names used cubes
      can_be_shown = shows f cubes is (λ p stands. stands) some full

      pub other_can_be_shown : CanBeShown names used others
      other_can_be_shown = shows (no f) others other (λ p stands. stands) some_more other_full

      pub some_name : 0 < length (free_names s)
      some_name = omega (arith, not_closed, ap (λ (l : List ℕ). length l) ranks_are, length_names s.names (ranks_of s.body))

      -- an answer that shows both lists
      module _ (result : Result Answer NoMemory) (shown : IfOk result (ShowsBoth names used cubes others)) where
        pub open_always : IfOk result (λ answer. (answer ≡ «True») ↔ IsValid file s)
        open_always = IfOk-weaker result (ShowsBoth names used cubes others) (λ answer. (answer ≡ «True») ↔ IsValid file s) always shown
          where
            always : (answer : Answer) → ShowsBoth names used cubes others answer → (answer ≡ «True») ↔ IsValid file s
            always «True» both = absurd both
            always «False» both = absurd both
            always (Open formula complement holds fails) both = (λ e. cc e, λ valid. absurd (some_other others other some_more valid))

        pub open_never : IfOk result (λ answer. (answer ≡ «False») ↔ IsUnsatisfiable file s)
        open_never = IfOk-weaker result (ShowsBoth names used cubes others) (λ answer. (answer ≡ «False») ↔ IsUnsatisfiable file s) never shown
          where
            never : (answer : Answer) → ShowsBoth names used cubes others answer → (answer ≡ «False») ↔ IsUnsatisfiable file s
            never «True» both = absurd both
            never «False» both = absurd both
            never (Open formula complement holds fails) both = (λ e. cc e, λ none. absurd (some_cube cubes is some none))

        pub opens : IfOk result (OpensRightly gives file s)
        opens = IfOk-weaker result (ShowsBoth names used cubes others) (OpensRightly gives file s) rightly shown
          where
            rightly : (answer : Answer) → ShowsBoth names used cubes others answer → OpensRightly gives file s answer
            rightly «True» both = absurd both
            rightly «False» both = absurd both
            rightly (Open formula complement holds fails) both = record {
              some_name = some_name;
              body = side f cubes formula holds over.formula is both.0;
              negation = side (no f) others complement fails over.formula other both.1;
            }
