-- The generated file is one of the grammar within the limits.
use Rattle.std.proofs.Common.{◌≡◌, ℕ, ◌+◌, ◌*◌, ◌≤◌, List, [], ◌∷◌, length, None, Some, codes, map, cond, refl, ap, subst, ◌∙◌, arith, one-add, zero-add, length-append}
use Rattle.std.proofs.lemmas.List.Sums.{sum_by-cons}
use Rattle.std.specs.Prelude.{count_by}
use Rattle.formula_ast.specs.declared.token.TokenKind.TheVariants as k
use Rattle.formula_ast.specs.Tokens.{Word, kind_of}
use Rattle.formula_grammar.specs.Written.{WrittenFormula}
use Rattle.formula_grammar.specs.Words.{statement_words, statements_words}
use Rattle.formula_grammar.specs.Grammar.{files, AreStatementsOf}
use Rattle.formula_grammar.specs.Names.{AreNamed}
use Rattle.formula_grammar.specs.Within.{AreWithin}
use Rattle.formula_grammar.specs.FirstFault.{file_fault}
use Rattle.written_files.specs.Files.{file_text}
use Rattle.written_files.specs.WrittenLaws.{AreOfTheirKinds}
use Rattle.written_files.proofs.Statements.{file_is_faultless}
use Rattle.written_files.proofs.OfKinds.{statements_can_be_read}
use Rattle.generator.specs.Drawing.{times}
use Rattle.generator.specs.Generated.{drawn_formula, declares, asks, generated}
use Rattle.generator.specs.GeneratedLaws.{is_question, IsLargeInput}
use Rattle.generator.proofs.Always.{Each, always_times, times-length}
use Rattle.generator.proofs.Bounded.{symbols_here, bare, a_name, f_name, g_name, IsGood, formula_good}

abbrev AreGood : List WrittenFormula → Type 0
AreGood fs = Each (IsGood 193 8 7) fs

questions_grammar : (fs : List WrittenFormula) → AreGood fs → AreStatementsOf files (map asks fs)
questions_grammar [] g = tt
questions_grammar (f ∷ fs) g = (record { opened = refl; levelled = g.0.levelled }, questions_grammar fs g.1)

questions_named : (fs : List WrittenFormula) → AreGood fs → AreNamed symbols_here (map asks fs)
questions_named [] g = tt
questions_named (f ∷ fs) g = (g.0.uses, questions_named fs g.1)

questions_within : (fs : List WrittenFormula) → AreGood fs → AreWithin symbols_here (map asks fs)
questions_within [] g = tt
questions_within (f ∷ fs) g =
    (record { small = g.0.small; nested = omega (arith, g.0.nested); joined = omega (arith, g.0.joined) }, questions_within fs g.1)

questions_count : (fs : List WrittenFormula) → count_by is_question (map asks fs) ≡ length fs
questions_count [] = refl
questions_count (f ∷ fs) = sum_by-cons (λ s. cond (is_question s) 1 0) (asks f) (map asks fs) ∙ ap (λ n. 1 + n) (questions_count fs) ∙ one-add (length fs)

questions_kinds : (fs : List WrittenFormula) → AreGood fs → AreOfTheirKinds (statements_words (map asks fs) [])
questions_kinds [] g = tt
questions_kinds (f ∷ fs) g = (λ some. absurd (cc some), g.0.kinds _ (λ some. absurd (cc some), questions_kinds fs g.1))

questions_short : (fs : List WrittenFormula) → AreGood fs → length (file_text (map asks fs)) ≤ length fs * 201
questions_short [] g = omega arith
questions_short (f ∷ fs) g = simp length-append (omega (arith, g.0.short, questions_short fs g.1))

zero_digit : kind_of (codes "0") ≡ Some k.Number
unfolding kind_of
zero_digit = refl

one_digit : kind_of (codes "1") ≡ Some k.Number
unfolding kind_of
one_digit = refl

two_digit : kind_of (codes "2") ≡ Some k.Number
unfolding kind_of
two_digit = refl

declares_kinds : (ws : List Word) → AreOfTheirKinds ws → AreOfTheirKinds (statement_words declares ws)
declares_kinds ws h = (
  bare k.Symbol refl,
  (
    λ _. a_name,
    (
      bare k.Slash refl,
      (
        λ _. zero_digit,
        (
          bare k.Comma refl,
          (
            λ _. f_name,
            (
              bare k.Slash refl,
              (
                λ _. one_digit,
                (
                  bare k.Comma refl,
                  (λ _. g_name, (bare k.Slash refl, (λ _. two_digit, (bare k.Stop refl, h)))),
                ),
              ),
            ),
          ),
        ),
      ),
    ),
  ),
)

module _ (n : ℕ) where
  abbrev drawn_questions : List WrittenFormula
  drawn_questions = (times n (drawn_formula 3) n).0

  good : AreGood drawn_questions
  good = always_times (IsGood 193 8 7) n (drawn_formula 3) formula_good n

  pub is_large : IsLargeInput n (generated n)
  unfolding generated
  is_large = record {
    grammar = (record { opened = refl; levelled = tt }, questions_grammar drawn_questions good);
    named = ((refl, (refl, (refl, tt))), questions_named drawn_questions good);
    within = (
      (
        record { short = omega arith; few_arguments = omega arith; few_symbols = omega arith },
        (
          record { short = omega arith; few_arguments = omega arith; few_symbols = omega arith },
          (record { short = omega arith; few_arguments = omega arith; few_symbols = omega arith }, tt),
        ),
      ),
      questions_within drawn_questions good,
    );
    count = sum_by-cons (λ s. cond (is_question s) 1 0) declares (map asks drawn_questions) ∙ zero-add (count_by is_question (map asks drawn_questions))
        ∙ questions_count drawn_questions ∙ times-length n (drawn_formula 3) n;
  }

  pub is_short : length (file_text (generated n)) ≤ 22 + n * 201
  unfolding generated
  is_short =
      let count : length drawn_questions ≡ n = times-length n (drawn_formula 3) n in
      let rest : length (file_text (map asks drawn_questions)) ≤ n * 201 = subst (λ (m : ℕ). length (file_text (map asks drawn_questions)) ≤ m * 201) count (questions_short drawn_questions good) in
      simp length-append (omega (arith, rest))

  kinds : AreOfTheirKinds (statements_words (generated n) [])
  unfolding generated
  kinds = declares_kinds _ (questions_kinds drawn_questions good)

  pub is_faultless : n ≤ 1000 → file_fault (file_text (generated n)) ≡ None
  is_faultless few =
      let large = is_large in
      file_is_faultless (generated n) (statements_can_be_read (generated n) large.grammar kinds) large.named large.within (omega (arith, is_short))
