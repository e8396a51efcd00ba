-- A text that reads as a file makes a well formed file.
use Rattle.std.proofs.Common.{◌≡◌, ℕ, ◌+◌, ◌<◌, ◌≤◌, List, [], ◌∷◌, ◌++◌, map, length, take, All, refl, sym, ◌∙◌, ap, subst, arith, append_assoc, append-nil, length-append}
use Rattle.std.proofs.lemmas.List.{take_at}
use Rattle.std.proofs.lemmas.List.Elements.{All-nil, All-cons, All-push}
use Rattle.tree_model.specs.declared.kind.Kind.TheVariants as kind
use Rattle.tree_model.specs.Signatures.{Signature}
use Rattle.formula_ast.specs.declared.file.File.{File}
use Rattle.formula_ast.specs.declared.formula.Formula.{Formula}
use Rattle.formula_ast.specs.declared.pred.Pred.{Pred}
use Rattle.formula_ast.specs.declared.statement.Statement.{Statement}
use Rattle.formula_ast.specs.Forms.{form_of}
use Rattle.formula_ast.specs.Tokens.{end}
use Rattle.formula_ast.specs.WellFormed.{AreDistinct, predicates_from, IsNamedOver, IsStatementOver, IsPredOver, IsWellFormed}
use Rattle.formula_grammar.specs.Written.{Text, WrittenFormula, Said, symbols, predicate, question}
use Rattle.formula_grammar.specs.Words.{WrittenStatement}
use Rattle.formula_grammar.specs.Checks.{entry_of}
use Rattle.formula_grammar.specs.Names.{UsesNames, IsDefinition, IsNamed, AreNamed, declared_by, symbol_entry}
use Rattle.formula_grammar.specs.Within.{IsSmall, IsWithin, AreWithin}
use Rattle.formula_grammar.specs.Meaning.{variables_in, first_occurrences, number_in, Stands, IsStatement, IsPredicate, MakesBy, Makes}
use Rattle.formula_grammar.specs.WellFormedLaws.{FilesAreWellFormed, HasFewArguments, StatementsAreWellFormed}
use Rattle.formula_grammar.proofs.WordKinds.{AreOfKinds, words_of_kinds}
use Rattle.formula_grammar.proofs.WrittenWords.{IsName, IsVariable, AreVariables, IsWorded, AreWorded, statements_worded, formula_worded}
use Rattle.formula_grammar.proofs.Occurrences.{AreAmong, first_among, first_begins, first_variables, first_distinct, number_before}
use Rattle.formula_grammar.proofs.FormedTerms.{StaysIn, IsNumberOf}
use Rattle.formula_grammar.proofs.FormedFormulas.{form_over, in_form}
use Rattle.formula_grammar.proofs.Declarations.{EachIsName, names_of, places_of, IsKept, distinct_names, kept_predicate, kept_symbols, stays_in_more}

all_variables : (xs : List Text) → AreVariables xs → All IsVariable xs
all_variables [] a = All-nil IsVariable
all_variables (x ∷ xs) a = All-cons IsVariable x xs a.0 (all_variables xs a.1)

all_names : (xs : List Text) → EachIsName xs → All IsName xs
all_names [] a = All-nil IsName
all_names (x ∷ xs) a = All-cons IsName x xs a.0 (all_names xs a.1)

none_distinct : AreDistinct []
none_distinct t i j a b = absurd (cc a)

-- a formula that is written, with its variables named by first occurrence behind others
module _ (σ τ callable : Signature) (stays : StaysIn σ τ) (called : StaysIn σ callable) (few : HasFewArguments σ) where
  named_over : (xs names : List Text) (w : WrittenFormula) (f : Formula) → names ≡ first_occurrences xs (variables_in w) → Stands σ names w (form_of f)
      → AreVariables xs → AreVariables (variables_in w) → AreDistinct xs → UsesNames σ w → IsSmall w → IsNamedOver τ callable names f
  named_over xs names w f e is a b d uses small =
      let among : AreAmong names (variables_in w) = subst (λ l. AreAmong l (variables_in w)) (sym e) (first_among (variables_in w) xs) in
      record {
        words = subst (λ l. All IsVariable l) (sym e) (all_variables (first_occurrences xs (variables_in w)) (first_variables (variables_in w) xs a b));
        distinct = subst (λ l. AreDistinct l) (sym e) (first_distinct (variables_in w) xs d);
        formula = form_over σ names τ callable stays called few w (form_of f) is uses small among;
      }

-- a statement or a predicate that is written, in a signature that begins with what is declared before it
module _ (σ τ more : Signature) (grown : τ ≡ σ ++ more) (few : HasFewArguments σ) where
  stays : StaysIn σ τ
  stays = subst (λ l. StaysIn σ l) (sym grown) (stays_in_more σ more)

  statement_over : (w : WrittenFormula) (s : Statement) → IsStatement σ w s → UsesNames σ w → IsSmall w → AreVariables (variables_in w) → IsStatementOver τ s
  statement_over w s is uses small b =
      named_over σ τ τ stays stays few [] s.names w s.body is.names is.body tt b none_distinct uses small

  module _ (p : Text) (xs : List Text) (w : WrittenFormula) (pred : Pred) (is : IsPredicate σ xs w pred) (may : IsDefinition σ p xs w) (small : IsSmall w) where
    before : take pred.place τ ≡ σ
    before = ap (λ l. take pred.place l) grown ∙ take_at σ more pred.place (sym is.place)

    called : StaysIn σ (take pred.place τ)
    called = subst (λ l. StaysIn σ l) (sym before) (λ place d e. e)

    others : (ys : List Text) × (pred.names ≡ xs ++ ys)
    others = let rest = first_begins (variables_in w) xs in (rest.0, is.names ∙ rest.1)

    enough : pred.params ≤ length pred.names
    enough =
        let size : length pred.names ≡ length xs + length others.0 = ap (λ l. length l) others.1 ∙ length-append xs others.0 in
        omega (arith, size, is.params)

    below : (x : ℕ) → IsNumberOf pred.names xs x → x < pred.params
    below x (z, a, e) =
        let less : number_in pred.names z < length xs = subst (λ l. number_in l z < length xs) (sym others.1) (number_before z xs others.0 a) in
        omega (arith, less, e, is.params)

    predicate_over : AreVariables xs → AreVariables (variables_in w) → IsPredOver τ pred
    predicate_over a b = record {
      body = named_over σ τ (take pred.place τ) stays called few xs pred.names w pred.body is.names is.body a b may.distinct may.uses small;
      params = enough;
      closed = λ x free. below x (in_form σ pred.names x w (form_of pred.body) is.body xs may.bound free);
    }

-- ---- files

module _ (file : File) where
  -- the file's signature begins with what is declared before a statement
  abbrev Grows : Signature → Type 0
  Grows σ = (more : Signature) × (file.signature ≡ σ ++ more)

  grows_behind : (σ : Signature) (said : Said) → Grows (declared_by σ said) → Grows σ
  grows_behind σ (symbols d ds) later =
      (map symbol_entry (d ∷ ds) ++ later.0, later.1 ∙ append_assoc σ (map symbol_entry (d ∷ ds)) later.0)
  grows_behind σ (predicate p xs w) later =
      (entry_of p kind.Pred (length xs) ∷ later.0, later.1 ∙ append_assoc σ (entry_of p kind.Pred (length xs) ∷ []) later.0)
  grows_behind σ (question w) later = later

  -- what a statement makes, and what is made behind it
  behind : (P : Signature → List Pred → List Statement → Type 0) (σ : Signature) (preds : List Pred) (solves : List Statement) (said : Said)
      → MakesBy σ preds solves P said → (ps : List Pred) × (ss : List Statement) × P (declared_by σ said) ps ss
  behind P σ preds solves (symbols d ds) m = (preds, solves, m)
  behind P σ preds solves (predicate p xs w) (pred, is, m) = (preds ++ pred ∷ [], solves, m)
  behind P σ preds solves (question w) (s, is, m) = (preds, solves ++ s ∷ [], m)

  grows : (ss : List WrittenStatement) (σ : Signature) (preds : List Pred) (solves : List Statement) → Makes file σ preds solves ss → Grows σ
  grows [] σ preds solves m = ([], m.0 ∙ sym (append-nil σ))
  grows (s ∷ ss) σ preds solves m =
      let later = behind (λ τ ps qs. Makes file τ ps qs ss) σ preds solves s.said m in
      grows_behind σ s.said (grows ss (declared_by σ s.said) later.0 later.1 later.2)

  abbrev ArePreds : List Pred → Type 0
  ArePreds preds = All (λ pred. IsPredOver file.signature pred) preds

  abbrev AreSolves : List Statement → Type 0
  AreSolves solves = All (λ s. IsStatementOver file.signature s) solves

  -- what is well formed before a statement
  record IsFormed (σ : Signature) (preds : List Pred) (solves : List Statement) : Type 0 where
    kept : IsKept σ preds
    preds_formed : ArePreds preds
    solves_formed : AreSolves solves

  -- and behind it
  formed_behind : (P : Signature → List Pred → List Statement → Type 0) (σ : Signature) (preds : List Pred) (solves : List Statement) (said : Said)
      → Grows σ → IsFormed σ preds solves → IsWorded said → IsNamed σ said → IsWithin σ said → MakesBy σ preds solves P said
      → (ps : List Pred) × (ss : List Statement) × IsFormed (declared_by σ said) ps ss × P (declared_by σ said) ps ss
  formed_behind P σ preds solves (symbols d ds) grown a words named within m = (
    preds,
    solves,
    record {
      kept = kept_symbols (d ∷ ds) σ preds a.kept named within words;
      preds_formed = a.preds_formed;
      solves_formed = a.solves_formed;
    },
    m,
  )
  formed_behind P σ preds solves (predicate p xs w) grown a words named within (pred, is, m) =
      let over : IsPredOver file.signature pred =
      predicate_over σ file.signature grown.0 grown.1 a.kept.few p xs w pred is named within.sized.small words.1 words.2 in (
        preds ++ pred ∷ [],
        solves,
        record {
          kept = kept_predicate σ preds a.kept p (length xs) pred named.new words.0 is.place is.params;
          preds_formed = All-push (λ (z : Pred). IsPredOver file.signature z) preds pred a.preds_formed over;
          solves_formed = a.solves_formed;
        },
        m,
      )
  formed_behind P σ preds solves (question w) grown a words named within (s, is, m) =
      let over : IsStatementOver file.signature s = statement_over σ file.signature grown.0 grown.1 a.kept.few w s is named within.small words in (
        preds,
        solves ++ s ∷ [],
        record {
          kept = a.kept;
          preds_formed = a.preds_formed;
          solves_formed = All-push (λ (z : Statement). IsStatementOver file.signature z) solves s a.solves_formed over;
        },
        m,
      )

  -- behind well formed predicates and questions the other statements make a well formed file
  made : (ss : List WrittenStatement) (σ : Signature) (preds : List Pred) (solves : List Statement) → IsFormed σ preds solves → AreWorded ss
      → AreNamed σ ss → AreWithin σ ss → Makes file σ preds solves ss → IsWellFormed file
  made [] σ preds solves a words named within (signature_is, preds_are, solves_are) = record {
    words = subst (λ (τ : Signature). All IsName (names_of τ)) (sym signature_is) (all_names (names_of σ) a.kept.names);
    distinct = distinct_names file.signature (subst (λ (τ : Signature). AreDistinct (names_of τ)) (sym signature_is) a.kept.distinct);
    declared = ap (λ l. places_of l) preds_are ∙ a.kept.places ∙ ap (λ τ. predicates_from 0 τ) (sym signature_is);
    preds = subst (λ l. ArePreds l) (sym preds_are) a.preds_formed;
    solves = subst (λ l. AreSolves l) (sym solves_are) a.solves_formed;
  }
  made (s ∷ ss) σ preds solves a words named within m =
      let later = formed_behind (λ τ ps qs. Makes file τ ps qs ss) σ preds solves s.said (grows (s ∷ ss) σ preds solves m) a words.0 named.0 within.0 m in
      made ss (declared_by σ s.said) later.0 later.1 later.2 words.1 named.1 within.1 later.3

nothing_kept : IsKept [] []
nothing_kept = record { names = tt; distinct = none_distinct; few = λ place n e. absurd (cc e); places = refl }

pub files_are_well_formed : FilesAreWellFormed
files_are_well_formed bytes file reads =
    let text = reads.reads.reads in
    let words : AreWorded reads.statements =
    statements_worded reads.statements (subst (λ ws. AreOfKinds ws) (sym text.grammar.words)
    (words_of_kinds bytes text.words (end text.written.stop) text.written.tokens)) in
    let formed : IsFormed file [] [] [] = record {
      kept = nothing_kept;
      preds_formed = All-nil (λ (z : Pred). IsPredOver file.signature z);
      solves_formed = All-nil (λ (z : Statement). IsStatementOver file.signature z);
    } in
    made file reads.statements [] [] [] formed words text.named reads.reads.within reads.makes

pub statements_are_well_formed : StatementsAreWellFormed
statements_are_well_formed σ bytes s few r =
    let text = r.reads in
    let words : AreVariables (variables_in text.formula) =
    (formula_worded text.formula [] (subst (λ ws. AreOfKinds ws) (sym text.grammar.words)
    (words_of_kinds bytes text.words (end text.written.stop) text.written.tokens))).0 in
    statement_over σ σ [] (sym (append-nil σ)) few text.formula s (record { names = text.names_are; body = text.stands }) text.uses r.sized.small words
