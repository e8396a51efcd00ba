-- What a symbol of the machine asks for, in words; and what the machine takes can be gone back over.
use Rattle.std.proofs.Common.{◌≡◌, ℕ, ◌≤◌, nat_le, Bool, true, false, List, [], ◌∷◌, ◌++◌, Option, Some, None, refl, sym, ◌∙◌, ap, subst, arith, rules, if◌then◌else◌}
use Rattle.std.proofs.lemmas.Bool.{leb-true}
use Rattle.std.specs.Option.{option_map}
use denote.Enum.Bare.{same_true}
use Rattle.formula_ast.specs.contracts.token.TokenKind.{the_type}
use Rattle.formula_ast.specs.declared.token.TokenKind.{TokenKind}
use Rattle.formula_ast.specs.declared.token.TokenKind.TheVariants as k
use Rattle.formula_ast.specs.Tokens.{Word}
use Rattle.formula_grammar.specs.Written.{Text, named, further, WrittenTerm, variable, headed, WrittenTerms, no_terms, one_more, Joint, and, or, imp, iff, exists, forall, equals, differs, WrittenFormula, truth, finite, win, compared, call, no, group, joined, quantified, Declaration, symbols, predicate, question}
use Rattle.formula_grammar.specs.Words.{same, word, mark, sign, term_words, arguments_words, more_words, variables_words, formula_words, declaration_words, declarations_words, more_parameters_words, parameters_words, said_words, statements_words, WrittenStatement}
use Rattle.formula_grammar.specs.Grammar.{strength, left, right, level, IsLevelled, FileGrammar, opening, Manner, declares_symbols, defines_predicate, asks, AreStatementsOf}
use Rattle.formula_grammar.specs.Machine.{Place, Role, Symbol, one, statements, declaration, declarations, predicate_name, header, parameter, more_parameters, definition, operand, tail, bound_variable, more_variables, name_tail, comparison, term, arguments, more_arguments, Stack, Turn, tails, tails_among, again, right_place, only, opened, unary_row, term_row, comparison_row, variables_row, header_row, parameters_row, defined, row, empty, Move, refused, goes, turned, passed, step, passed_end, at_end, followed_by}

-- ---- what is asked for

-- a formula of at least this level
abbrev Operand : ℕ → List Word → List Word → Type 0
Operand n ws rest = (f : WrittenFormula) × IsLevelled f × (n ≤ 5 → n ≤ level f) × (ws ≡ formula_words f rest)

-- the words go on from what a term or a name begins to a formula in which nothing is joined
abbrev Atom : List Word → List Word → Type 0
Atom ws rest = (f : WrittenFormula) × IsLevelled f × (5 ≤ level f) × (ws ≡ formula_words f rest)

-- These words are, up to the rest, what the symbol asks for. A tail says how each left side goes on.
abbrev pub Spells : Symbol → List Word → List Word → Type 0
Spells (one kind roles) ws rest = (t : Text) × (ws ≡ word kind t ∷ rest)
Spells (statements G) ws rest = (ss : List WrittenStatement) × AreStatementsOf G ss × (ws ≡ statements_words ss rest)
Spells declaration ws rest = (d : Declaration) × (ws ≡ declaration_words d rest)
Spells declarations ws rest = (ds : List Declaration) × (ws ≡ declarations_words ds rest)
Spells predicate_name ws rest = (p : Text) × (xs : List Text) × (f : WrittenFormula) × IsLevelled f × (ws ≡ said_words (predicate p xs f) rest)
Spells (header p) ws rest =
    (xs : List Text) × (f : WrittenFormula) × IsLevelled f × (ws ≡ parameters_words xs (mark k.Define ∷ formula_words f (mark k.Stop ∷ rest)))
Spells (parameter p before) ws rest =
    (x : Text) × (xs : List Text) × (f : WrittenFormula) × IsLevelled f
    × (ws ≡ word k.Variable x ∷ more_parameters_words xs (mark k.RightParen ∷ mark k.Define ∷ formula_words f (mark k.Stop ∷ rest)))
Spells (more_parameters p before) ws rest =
    (xs : List Text) × (f : WrittenFormula) × IsLevelled f
    × (ws ≡ more_parameters_words xs (mark k.RightParen ∷ mark k.Define ∷ formula_words f (mark k.Stop ∷ rest)))
Spells (definition p xs) ws rest = (f : WrittenFormula) × IsLevelled f × (ws ≡ mark k.Define ∷ formula_words f (mark k.Stop ∷ rest))
Spells (operand n c) ws rest = Operand n ws rest
Spells (tail j c) ws rest =
    (f : WrittenFormula) → IsLevelled f → left j ≤ level f
    → (g : WrittenFormula) × IsLevelled g × (strength j ≤ level g) × (formula_words f ws ≡ formula_words g rest)
Spells (bound_variable c) ws rest =
    (x : Text) × (xs : List Text) × (f : WrittenFormula) × (5 ≤ level f) × IsLevelled f
    × (ws ≡ word k.Variable x ∷ variables_words xs (mark k.Colon ∷ formula_words f rest))
Spells (more_variables c) ws rest =
    (xs : List Text) × (f : WrittenFormula) × (5 ≤ level f) × IsLevelled f × (ws ≡ variables_words xs (mark k.Colon ∷ formula_words f rest))
Spells (name_tail p c) ws rest = (ts : WrittenTerms) → Atom (word k.Name p ∷ arguments_words ts ws) rest
Spells (comparison c) ws rest = (t : WrittenTerm) → Atom (term_words t ws) rest
Spells (term c) ws rest = (t : WrittenTerm) × (ws ≡ term_words t rest)
Spells (arguments h c) ws rest = (ts : WrittenTerms) × (ws ≡ arguments_words ts rest)
Spells (more_arguments h n c) ws rest = (ts : WrittenTerms) × (ws ≡ more_words ts rest)

abbrev pub Spelled : Stack → List Word → Type 0
Spelled [] ws = ws ≡ []
Spelled (x ∷ s) ws = (rest : List Word) × Spells x ws rest × Spelled s rest

-- ---- the second table

-- a symbol that may be left out asks for no words
abbrev EmptySpells : Symbol → List Word → Option (List Role) → Type 0
EmptySpells x ws None = Unit {0}
EmptySpells x ws (Some rs) = Spells x ws ws

left_strength : (j : Joint) → strength j ≤ left j
left_strength and = omega arith
left_strength or = omega arith
left_strength imp = omega arith
left_strength iff = omega arith

empty_spells : (x : Symbol) (ws : List Word) → EmptySpells x ws (empty x)
empty_spells (statements G) ws = ([], tt, refl)
empty_spells declarations ws = ([], refl)
empty_spells (tail j c) ws = λ f l a. (f, l, omega (arith, left_strength j), refl)
empty_spells (name_tail p c) ws = λ ts. (call p ts, tt, omega arith, refl)
empty_spells (arguments h c) ws = (no_terms, refl)
empty_spells (more_arguments h n c) ws = (no_terms, refl)
empty_spells x ws = tt

-- ---- each symbol asks for something

completion : (x : Symbol) (rest : List Word) → (ws : List Word) × Spells x ws rest
completion (one kind roles) rest = (word kind [] ∷ rest, ([], refl))
completion (statements G) rest = (rest, ([], tt, refl))
completion declaration rest = let d : Declaration = record { name = []; digits = [] } in (declaration_words d rest, (d, refl))
completion declarations rest = (rest, ([], refl))
completion predicate_name rest = (said_words (predicate [] [] (truth true)) rest, ([], [], truth true, tt, refl))
completion (header p) rest = (mark k.Define ∷ mark k.«True» ∷ mark k.Stop ∷ rest, ([], truth true, tt, refl))
completion (parameter p before) rest =
    (word k.Variable [] ∷ mark k.RightParen ∷ mark k.Define ∷ mark k.«True» ∷ mark k.Stop ∷ rest, ([], [], truth true, tt, refl))
completion (more_parameters p before) rest =
    (mark k.RightParen ∷ mark k.Define ∷ mark k.«True» ∷ mark k.Stop ∷ rest, ([], truth true, tt, refl))
completion (definition p xs) rest = (mark k.Define ∷ mark k.«True» ∷ mark k.Stop ∷ rest, (truth true, tt, refl))
completion (operand n c) rest = (mark k.«True» ∷ rest, (truth true, tt, (λ a. a), refl))
completion (tail j c) rest = (rest, empty_spells (tail j c) rest)
completion (bound_variable c) rest = (word k.Variable [] ∷ mark k.Colon ∷ mark k.«True» ∷ rest, ([], [], truth true, omega arith, tt, refl))
completion (more_variables c) rest = (mark k.Colon ∷ mark k.«True» ∷ rest, ([], truth true, omega arith, tt, refl))
completion (name_tail p c) rest = (rest, empty_spells (name_tail p c) rest)
completion (comparison c) rest =
    (mark k.Equal ∷ word k.Variable [] ∷ rest, λ t. (compared equals t (variable []), tt, omega arith, refl))
completion (term c) rest = (word k.Variable [] ∷ rest, (variable [], refl))
completion (arguments h c) rest = (rest, (no_terms, refl))
completion (more_arguments h n c) rest = (rest, (no_terms, refl))

pub completes : (s : Stack) → (ws : List Word) × Spelled s ws
completes [] = ([], refl)
completes (x ∷ s) =
    let a = completes s in
    let b = completion x a.0 in
    (b.0, (a.0, b.1, a.1))

-- ---- tails, one after another

-- a formula goes on as one that is as strong as is asked
record Grown (n m : ℕ) (f : WrittenFormula) (ws : List Word) (s : Stack) : Type 0 where
  grown : WrittenFormula
  rest : List Word
  levelled : IsLevelled grown
  strong : m ≤ level grown
  asked : n ≤ 5 → n ≤ level grown
  words : formula_words f ws ≡ formula_words grown rest
  spelled : Spelled s rest

grown_tail : (n : ℕ) (j : Joint) (c : Place) (u s : Stack) (f : WrittenFormula) (ws : List Word) (b : Bool) → nat_le n (strength j) ≡ b
    → IsLevelled f → left j ≤ level f → (n ≤ 5 → n ≤ level f) → Spelled ((if b then tail j c ∷ u else u) ++ s) ws
    → Grown n (strength j) f ws (u ++ s)
grown_tail n j c u s f ws true e l a h d =
    let g = d.1 f l a in
    let m : n ≤ strength j = leb-true n (strength j) e in
    let k : strength j ≤ level g.0 = g.2 in
    record { grown = g.0; rest = d.0; levelled = g.1; strong = k; asked = λ x. omega arith; words = g.3; spelled = d.2 }
grown_tail n j c u s f ws false e l a h d =
    record { grown = f; rest = ws; levelled = l; strong = omega (arith, left_strength j); asked = h; words = refl; spelled = d }

tails_spell : (n : ℕ) (c : Place) (s : Stack) (f : WrittenFormula) (ws : List Word) → IsLevelled f → 5 ≤ level f → Spelled (tails n c ++ s) ws
    → Grown n 1 f ws s
tails_spell n c s f ws l a d =
    let x = grown_tail n and c (tails_among (or ∷ imp ∷ iff ∷ []) n c) s f ws (nat_le n 4) refl l (omega arith) (λ h. omega arith) d in
    let xs : 4 ≤ level x.grown = x.strong in
    let y = grown_tail n or c (tails_among (imp ∷ iff ∷ []) n c) s x.grown x.rest (nat_le n 3) refl x.levelled (omega arith) x.asked x.spelled in
    let ys : 3 ≤ level y.grown = y.strong in
    let z = grown_tail n imp c (tails_among (iff ∷ []) n c) s y.grown y.rest (nat_le n 2) refl y.levelled (omega arith) y.asked y.spelled in
    let zs : 2 ≤ level z.grown = z.strong in
    let u = grown_tail n iff c [] s z.grown z.rest (nat_le n 1) refl z.levelled (omega arith) z.asked z.spelled in
    record {
      grown = u.grown;
      rest = u.rest;
      levelled = u.levelled;
      strong = u.strong;
      asked = u.asked;
      words = x.words ∙ y.words ∙ z.words ∙ u.words;
      spelled = u.spelled;
    }

operand_by : (n : ℕ) (c : Place) (s : Stack) (f : WrittenFormula) (vs ws : List Word) → IsLevelled f → 5 ≤ level f → vs ≡ formula_words f ws
    → Spelled (tails n c ++ s) ws → Spelled (operand n c ∷ s) vs
operand_by n c s f vs ws l a e d =
    let g = tails_spell n c s f ws l a d in (g.rest, (g.grown, g.levelled, g.asked, e ∙ g.words), g.spelled)

-- ---- the first table

-- what is expected behind the word gives what was expected before it
abbrev RowSpells : Symbol → Stack → Word → List Word → Option Turn → Type 0
RowSpells x s w ws None = Unit {0}
RowSpells x s w ws (Some turn) = Spelled (turn.1 ++ s) ws → Spelled (x ∷ s) (w ∷ ws)

only_spells : (x : Symbol) (s : Stack) (kind asked : TokenKind) (t : Text) (ws : List Word) (turn : Turn)
    → (Spelled (turn.1 ++ s) ws → Spelled (x ∷ s) (word asked t ∷ ws)) → RowSpells x s (word kind t) ws (only kind asked turn)
only_spells x s kind asked t ws turn h = by_test (same kind asked) refl
  where
    by_test : (b : Bool) → same kind asked ≡ b → RowSpells x s (word kind t) ws (if b then Some turn else None)
    by_test true e = subst (λ (y : TokenKind). Spelled (turn.1 ++ s) ws → Spelled (x ∷ s) (word y t ∷ ws)) (sym (same_true the_type (search rules) kind asked e)) h
    by_test false e = tt

module _ (s : Stack) (ws : List Word) (t : Text) where
  unary_spells : (n : ℕ) (c : Place) (kind : TokenKind)
      → RowSpells (operand n c) s (word kind t) ws (option_map (λ turn. followed_by (tails n c) turn) (unary_row c kind (word kind t).text))
  unary_spells n c k.Tilde = λ d.
      let f : 5 ≤ level d.1.0 = d.1.2 (omega arith) in
      operand_by n c s (no d.1.0) (mark k.Tilde ∷ ws) d.0 (f, d.1.1) (omega arith) (ap (λ vs. mark k.Tilde ∷ vs) d.1.3) d.2
  unary_spells n c k.«Exists» = λ d.
      operand_by n c s (quantified exists d.1.0 d.1.1 d.1.2) (mark k.«Exists» ∷ ws) d.0 (d.1.3, d.1.4) (omega arith)
      (ap (λ vs. mark k.«Exists» ∷ vs) d.1.5) d.2
  unary_spells n c k.Forall = λ d.
      operand_by n c s (quantified forall d.1.0 d.1.1 d.1.2) (mark k.Forall ∷ ws) d.0 (d.1.3, d.1.4) (omega arith)
      (ap (λ vs. mark k.Forall ∷ vs) d.1.5) d.2
  unary_spells n c k.LeftParen = λ d.
      operand_by n c s (group d.1.0) (mark k.LeftParen ∷ ws) d.2.0 d.1.1 (omega arith)
      (ap (λ vs. mark k.LeftParen ∷ vs) (d.1.3 ∙ ap (λ vs. formula_words d.1.0 vs) d.2.1.1)) d.2.2
  unary_spells n c k.«True» = λ d. operand_by n c s (truth true) (mark k.«True» ∷ ws) ws tt (omega arith) refl d
  unary_spells n c k.«False» = λ d. operand_by n c s (truth false) (mark k.«False» ∷ ws) ws tt (omega arith) refl d
  unary_spells n c k.Finite = λ d.
      operand_by n c s (finite d.2.1.0) (mark k.Finite ∷ ws) d.2.2.0 tt (omega arith)
      (ap (λ vs. mark k.Finite ∷ vs) (d.1.1 ∙ ap (λ vs. mark k.LeftParen ∷ vs) (d.2.1.1 ∙ ap (λ vs. term_words d.2.1.0 vs) d.2.2.1.1))) d.2.2.2
  unary_spells n c k.Win = λ d.
      let p = d.2.1.0 in
      let m = d.2.2.2.1.0 in
      let u = d.2.2.2.2.2.1.0 in
      operand_by n c s (win p m u) (mark k.Win ∷ ws) d.2.2.2.2.2.2.0 tt (omega arith)
      (ap (λ vs. mark k.Win ∷ vs) (d.1.1 ∙ ap (λ vs. mark k.LeftParen ∷ vs) (d.2.1.1 ∙ ap (λ vs. word k.Name p ∷ vs)
      (d.2.2.1.1 ∙ ap (λ vs. mark k.Comma ∷ vs) (d.2.2.2.1.1 ∙ ap (λ vs. word k.Number m ∷ vs) (d.2.2.2.2.1.1 ∙ ap (λ vs. mark k.Comma ∷ vs)
      (d.2.2.2.2.2.1.1 ∙ ap (λ vs. term_words u vs) d.2.2.2.2.2.2.1.1))))))) d.2.2.2.2.2.2.2
  unary_spells n c k.Name = λ d.
      let f = d.2.1 d.1.0 in
      operand_by n c s f.0 (word k.Name t ∷ ws) d.2.0 f.1 f.2 (ap (λ vs. word k.Name t ∷ vs) d.1.1 ∙ f.3) d.2.2
  unary_spells n c k.Variable = λ d.
      let f = d.1 (variable t) in operand_by n c s f.0 (word k.Variable t ∷ ws) d.0 f.1 f.2 f.3 d.2
  unary_spells n c k.Further = λ d.
      let f = d.2.1 (headed (further t) d.1.0) in
      operand_by n c s f.0 (word k.Further t ∷ ws) d.2.0 f.1 f.2 (ap (λ vs. word k.Further t ∷ vs) d.1.1 ∙ f.3) d.2.2
  unary_spells n c kind = tt

  term_spells : (c : Place) (kind : TokenKind) → RowSpells (term c) s (word kind t) ws (term_row c kind (word kind t).text)
  term_spells c k.Variable = λ d. (ws, (variable t, refl), d)
  term_spells c k.Name = λ d. (d.0, (headed (named t) d.1.0, ap (λ vs. word k.Name t ∷ vs) d.1.1), d.2)
  term_spells c k.Further = λ d. (d.0, (headed (further t) d.1.0, ap (λ vs. word k.Further t ∷ vs) d.1.1), d.2)
  term_spells c kind = tt

  comparison_spells : (c : Place) (kind : TokenKind) → RowSpells (comparison c) s (word kind t) ws (comparison_row [] c kind)
  comparison_spells c k.Equal = λ d.
      (d.0, (λ u. (compared equals u d.1.0, tt, omega arith, ap (λ vs. term_words u (mark k.Equal ∷ vs)) d.1.1)), d.2)
  comparison_spells c k.Differ = λ d.
      (d.0, (λ u. (compared differs u d.1.0, tt, omega arith, ap (λ vs. term_words u (mark k.Differ ∷ vs)) d.1.1)), d.2)
  comparison_spells c kind = tt

  name_tail_spells : (rs : List Role) (p : Text) (c : Place) (kind : TokenKind) → RowSpells (name_tail p c) s (word kind t) ws (comparison_row rs c kind)
  name_tail_spells rs p c k.Equal = λ d. (
    d.0,
    (λ ts. (
      compared equals (headed (named p) ts) d.1.0,
      tt,
      omega arith,
      ap (λ vs. word k.Name p ∷ arguments_words ts (mark k.Equal ∷ vs)) d.1.1,
    )),
    d.2,
  )
  name_tail_spells rs p c k.Differ = λ d. (
    d.0,
    (λ ts. (
      compared differs (headed (named p) ts) d.1.0,
      tt,
      omega arith,
      ap (λ vs. word k.Name p ∷ arguments_words ts (mark k.Differ ∷ vs)) d.1.1,
    )),
    d.2,
  )
  name_tail_spells rs p c kind = tt

  variables_spell : (c : Place) (kind : TokenKind) → RowSpells (more_variables c) s (word kind t) ws (variables_row c kind (word kind t).text)
  variables_spell c k.Variable = λ d.
      (d.0, (t ∷ d.1.0, d.1.1, d.1.2, d.1.3, ap (λ vs. word k.Variable t ∷ vs) d.1.4), d.2)
  variables_spell c k.Colon = λ d.
      let f : 5 ≤ level d.1.0 = d.1.2 (omega arith) in
      (d.0, ([], d.1.0, f, d.1.1, ap (λ vs. mark k.Colon ∷ vs) d.1.3), d.2)
  variables_spell c kind = tt

  body_spells : (p : Text) (xs : List Text) → Spelled (defined p xs ++ s) ws
      → (rest : List Word) × ((f : WrittenFormula) × IsLevelled f × (ws ≡ formula_words f (mark k.Stop ∷ rest))) × Spelled s rest
  body_spells p xs d = (d.2.0, (d.1.0, d.1.1, d.1.3 ∙ ap (λ vs. formula_words d.1.0 vs) d.2.1.1), d.2.2)

  header_spells : (p : Text) (kind : TokenKind) → RowSpells (header p) s (word kind t) ws (header_row p kind)
  header_spells p k.LeftParen = λ d.
      (d.0, (d.1.0 ∷ d.1.1, d.1.2, d.1.3, ap (λ vs. mark k.LeftParen ∷ vs) d.1.4), d.2)
  header_spells p k.Define = λ d.
      let b = body_spells p [] d in (b.0, ([], b.1.0, b.1.1, ap (λ vs. mark k.Define ∷ vs) b.1.2), b.2)
  header_spells p kind = tt

  parameters_spell : (p : Text) (xs : List Text) (kind : TokenKind) → RowSpells (more_parameters p xs) s (word kind t) ws (parameters_row p xs kind)
  parameters_spell p xs k.Comma = λ d.
      (d.0, (d.1.0 ∷ d.1.1, d.1.2, d.1.3, ap (λ vs. mark k.Comma ∷ vs) d.1.4), d.2)
  parameters_spell p xs k.RightParen = λ d. (d.0, ([], d.1.0, d.1.1, ap (λ vs. mark k.RightParen ∷ vs) d.1.2), d.2)
  parameters_spell p xs kind = tt

  -- a sign and its right side, and what may be joined to both
  sign_spells : (j : Joint) (c d : Place) (rs : List Role) → Spelled (operand (right j) d ∷ again j c ++ s) ws → Spelled (tail j c ∷ s) (mark (sign j) ∷ ws)
  sign_spells and c d rs x =
      let g : right and ≤ level x.1.0 = x.1.2 (omega arith) in (
        x.2.0,
        (λ f l a.
            let y = x.2.1 (joined and f x.1.0) (a, g, l, x.1.1) (omega arith) in
            (y.0, y.1, y.2, ap (λ vs. formula_words f (mark k.Amp ∷ vs)) x.1.3 ∙ y.3)),
        x.2.2,
      )
  sign_spells or c d rs x =
      let g : right or ≤ level x.1.0 = x.1.2 (omega arith) in (
        x.2.0,
        (λ f l a.
            let y = x.2.1 (joined or f x.1.0) (a, g, l, x.1.1) (omega arith) in
            (y.0, y.1, y.2, ap (λ vs. formula_words f (mark k.Bar ∷ vs)) x.1.3 ∙ y.3)),
        x.2.2,
      )
  sign_spells imp c d rs x =
      let g : right imp ≤ level x.1.0 = x.1.2 (omega arith) in
      (x.0, (λ f l a. (joined imp f x.1.0, (a, g, l, x.1.1), omega arith, ap (λ vs. formula_words f (mark k.Arrow ∷ vs)) x.1.3)), x.2)
  sign_spells iff c d rs x =
      let g : right iff ≤ level x.1.0 = x.1.2 (omega arith) in
      (x.0, (λ f l a. (joined iff f x.1.0, (a, g, l, x.1.1), omega arith, ap (λ vs. formula_words f (mark k.DoubleArrow ∷ vs)) x.1.3)), x.2)

sign_word : (j : Joint) (t : Text) → word (sign j) t ≡ mark (sign j)
sign_word and t = refl
sign_word or t = refl
sign_word imp t = refl
sign_word iff t = refl

statement_spells : (G : FileGrammar) (s : Stack) (w : Word) (ws : List Word) (o : Option Manner) → opening G w ≡ o
    → RowSpells (statements G) s w ws (option_map (λ manner. opened G manner) o)
statement_spells G s w ws None e = tt
statement_spells G s w ws (Some declares_symbols) e = λ d. (
  d.2.2.2.0,
  (
    record { first = w; said = symbols d.1.0 d.2.1.0 } ∷ d.2.2.2.1.0,
    (record { opened = e; levelled = tt }, d.2.2.2.1.1),
    ap (λ vs. w ∷ vs) (d.1.1 ∙ ap (λ vs. declaration_words d.1.0 vs) (d.2.1.1 ∙ ap (λ vs. declarations_words d.2.1.0 vs)
        (d.2.2.1.1 ∙ ap (λ vs. mark k.Stop ∷ vs) d.2.2.2.1.2))),
  ),
  d.2.2.2.2,
)
statement_spells G s w ws (Some defines_predicate) e = λ d. (
  d.2.0,
  (
    record { first = w; said = predicate d.1.0 d.1.1 d.1.2 } ∷ d.2.1.0,
    (record { opened = e; levelled = d.1.3 }, d.2.1.1),
    ap (λ vs. w ∷ vs) (d.1.4 ∙ ap (λ vs. said_words (predicate d.1.0 d.1.1 d.1.2) vs) d.2.1.2),
  ),
  d.2.2,
)
statement_spells G s w ws (Some asks) e = λ d. (
  d.2.2.0,
  (
    record { first = w; said = question d.1.0 } ∷ d.2.2.1.0,
    (record { opened = e; levelled = d.1.1 }, d.2.2.1.1),
    ap (λ vs. w ∷ vs) (d.1.3 ∙ ap (λ vs. formula_words d.1.0 vs) (d.2.1.1 ∙ ap (λ vs. mark k.Stop ∷ vs) d.2.2.1.2)),
  ),
  d.2.2.2,
)

row_spells : (x : Symbol) (s : Stack) (kind : TokenKind) (t : Text) (ws : List Word) → RowSpells x s (word kind t) ws (row x (word kind t))
row_spells (one asked roles) s kind t ws =
    only_spells (one asked roles) s kind asked t ws (roles (word kind t).text, []) (λ d. (ws, (t, refl), d))
row_spells (statements G) s kind t ws = statement_spells G s (word kind t) ws (opening G (word kind t)) refl
row_spells declaration s kind t ws = only_spells declaration s kind k.Name t ws _ (λ d.
    (d.2.0, (record { name = t; digits = d.2.1.0 }, ap (λ vs. word k.Name t ∷ vs) (d.1.1 ∙ ap (λ vs. mark k.Slash ∷ vs) d.2.1.1)), d.2.2))
row_spells declarations s kind t ws = only_spells declarations s kind k.Comma t ws _ (λ d.
    (d.2.0, (d.1.0 ∷ d.2.1.0, ap (λ vs. mark k.Comma ∷ vs) (d.1.1 ∙ ap (λ vs. declaration_words d.1.0 vs) d.2.1.1)), d.2.2))
row_spells predicate_name s kind t ws = only_spells predicate_name s kind k.Name t ws _ (λ d.
    (d.0, (t, d.1.0, d.1.1, d.1.2, ap (λ vs. word k.Name t ∷ vs) d.1.3), d.2))
row_spells (header p) s kind t ws = header_spells s ws t p kind
row_spells (parameter p before) s kind t ws = only_spells (parameter p before) s kind k.Variable t ws _ (λ d.
    (d.0, (t, d.1.0, d.1.1, d.1.2, ap (λ vs. word k.Variable t ∷ vs) d.1.3), d.2))
row_spells (more_parameters p xs) s kind t ws = parameters_spell s ws t p xs kind
row_spells (definition p xs) s kind t ws = only_spells (definition p xs) s kind k.Define t ws _ (λ d.
    let b = body_spells s ws t p xs d in (b.0, (b.1.0, b.1.1, ap (λ vs. mark k.Define ∷ vs) b.1.2), b.2))
row_spells (operand n c) s kind t ws = unary_spells s ws t n c kind
row_spells (tail j c) s kind t ws = only_spells (tail j c) s kind (sign j) t ws _ (λ d.
    subst (λ (w : Word). Spelled (tail j c ∷ s) (w ∷ ws)) (sym (sign_word j t)) (sign_spells s ws t j c (right_place j c) [] d))
row_spells (bound_variable c) s kind t ws = only_spells (bound_variable c) s kind k.Variable t ws _ (λ d.
    (d.0, (t, d.1.0, d.1.1, d.1.2, d.1.3, ap (λ vs. word k.Variable t ∷ vs) d.1.4), d.2))
row_spells (more_variables c) s kind t ws = variables_spell s ws t c kind
row_spells (name_tail p c) s kind t ws = name_tail_spells s ws t _ p c kind
row_spells (comparison c) s kind t ws = comparison_spells s ws t c kind
row_spells (term c) s kind t ws = term_spells s ws t c kind
row_spells (arguments h c) s kind t ws = only_spells (arguments h c) s kind k.LeftParen t ws _ (λ d. (
  d.2.2.0,
  (
    one_more d.1.0 d.2.1.0,
    ap (λ vs. mark k.LeftParen ∷ vs) (d.1.1 ∙ ap (λ vs. term_words d.1.0 vs)
        (d.2.1.1 ∙ ap (λ vs. more_words d.2.1.0 vs) d.2.2.1.1)),
  ),
  d.2.2.2,
))
row_spells (more_arguments h n c) s kind t ws = only_spells (more_arguments h n c) s kind k.Comma t ws _ (λ d.
    (d.2.0, (one_more d.1.0 d.2.1.0, ap (λ vs. mark k.Comma ∷ vs) (d.1.1 ∙ ap (λ vs. term_words d.1.0 vs) d.2.1.1)), d.2.2))

-- ---- the machine's moves

abbrev pub MoveSpells : Stack → Word → List Word → Move → Type 0
MoveSpells s w ws refused = Unit {0}
MoveSpells s w ws (goes rs u) = Spelled u ws → Spelled s (w ∷ ws)

passed_spells : (x : Symbol) (s : Stack) (w : Word) (ws : List Word) (o : Option (List Role)) (m : Move) → EmptySpells x (w ∷ ws) o → MoveSpells s w ws m
    → MoveSpells (x ∷ s) w ws (passed o m)
passed_spells x s w ws None m e h = tt
passed_spells x s w ws (Some rs) refused e h = tt
passed_spells x s w ws (Some rs) (goes more u) e h = λ d. (w ∷ ws, e, h d)

turned_spells : (x : Symbol) (s : Stack) (w : Word) (ws : List Word) (o : Option Turn) (m : Move) → RowSpells x s w ws o → MoveSpells (x ∷ s) w ws m
    → MoveSpells (x ∷ s) w ws (turned o s m)
turned_spells x s w ws None m e h = h
turned_spells x s w ws (Some turn) m e h = e

pub step_spells : (s : Stack) (kind : TokenKind) (t : Text) (ws : List Word) → MoveSpells s (word kind t) ws (step s (word kind t))
step_spells [] kind t ws = tt
step_spells (x ∷ s) kind t ws =
    turned_spells x s (word kind t) ws (row x (word kind t)) (passed (empty x) (step s (word kind t))) (row_spells x s kind t ws)
    (passed_spells x s (word kind t) ws (empty x) (step s (word kind t)) (empty_spells x (word kind t ∷ ws)) (step_spells s kind t ws))

-- ---- the end

abbrev pub EndSpells : Stack → Option (List Role) → Type 0
EndSpells s None = Unit {0}
EndSpells s (Some rs) = Spelled s []

end_passed_spells : (x : Symbol) (s : Stack) (o p : Option (List Role)) → EmptySpells x [] o → EndSpells s p → EndSpells (x ∷ s) (passed_end o p)
end_passed_spells x s None p e h = tt
end_passed_spells x s (Some rs) None e h = tt
end_passed_spells x s (Some rs) (Some more) e h = ([], e, h)

pub end_spells : (s : Stack) → EndSpells s (at_end s)
end_spells [] = refl
end_spells (x ∷ s) = end_passed_spells x s (empty x) (at_end s) (empty_spells x []) (end_spells s)
