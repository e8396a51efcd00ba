-- Words read as at most one formula, and as at most one file.
use Rattle.std.proofs.Common.{◌≡◌, List, [], ◌∷◌, Some, refl, sym, ◌∙◌, ap}
use Rattle.formula_ast.specs.declared.token.TokenKind.TheVariants as k
use Rattle.formula_ast.specs.Tokens.{Word}
use Rattle.formula_grammar.specs.Written.{Text, WrittenFormula, Declaration, Said, symbols, predicate, question}
use Rattle.formula_grammar.specs.Words.{mark, formula_words, declaration_words, declarations_words, more_parameters_words, parameters_words, said_words, statements_words, WrittenStatement}
use Rattle.formula_grammar.specs.Grammar.{IsFormula, manner_of, IsLevelledSaid, FileGrammar, opening, IsStatementOf, AreStatementsOf, IsFileOf}
use Rattle.formula_grammar.proofs.Walk.{ends_stop}
use Rattle.formula_grammar.proofs.Decoder.{one_formula}

heads_same : {A : Type 0} {x y : A} {xs ys : List A} → x ∷ xs ≡ y ∷ ys → x ≡ y
heads_same e = cc e

tails_same : {A : Type 0} {x y : A} {xs ys : List A} → x ∷ xs ≡ y ∷ ys → xs ≡ ys
tails_same e = cc e

texts_same : {w v : Word} {ws vs : List Word} → w ∷ ws ≡ v ∷ vs → w.text ≡ v.text
texts_same e = ap (λ w. w.text) (heads_same e)

kinds_same : {w v : Word} {ws vs : List Word} → w ∷ ws ≡ v ∷ vs → w.kind ≡ v.kind
kinds_same e = ap (λ w. w.kind) (heads_same e)

pub one_formula_reading : (ws : List Word) (first other : WrittenFormula) → IsFormula ws first → IsFormula ws other → first ≡ other
one_formula_reading ws first other a b = (one_formula first other [] [] a.levelled b.levelled tt tt (a.words ∙ sym b.words)).0

-- ---- statements

declaration_of : Text → Text → Declaration
declaration_of name digits = record { name = name; digits = digits }

one_declaration : (d e : Declaration) (ws vs : List Word) → declaration_words d ws ≡ declaration_words e vs → (d ≡ e) × (ws ≡ vs)
unfolding declaration_of
one_declaration d e ws vs h =
    let name : d.name ≡ e.name = texts_same h in
    let digits : d.digits ≡ e.digits = texts_same (tails_same (tails_same h)) in
    (ap (λ x. declaration_of x d.digits) name ∙ ap (λ x. declaration_of e.name x) digits, tails_same (tails_same (tails_same h)))

comma_stop : k.Comma ≡ k.Stop → ⊥
comma_stop e = cc e

comma_paren : k.Comma ≡ k.RightParen → ⊥
comma_paren e = cc e

paren_define : k.LeftParen ≡ k.Define → ⊥
paren_define e = cc e

one_declarations : (ds es : List Declaration) (ws vs : List Word) → declarations_words ds (mark k.Stop ∷ ws) ≡ declarations_words es (mark k.Stop ∷ vs)
    → (ds ≡ es) × (ws ≡ vs)
one_declarations [] [] ws vs h = (refl, tails_same h)
one_declarations [] (e ∷ es) ws vs h = absurd (comma_stop (sym (kinds_same h)))
one_declarations (d ∷ ds) [] ws vs h = absurd (comma_stop (kinds_same h))
one_declarations (d ∷ ds) (e ∷ es) ws vs h =
    let a = one_declaration d e (declarations_words ds (mark k.Stop ∷ ws)) (declarations_words es (mark k.Stop ∷ vs)) (tails_same h) in
    let b = one_declarations ds es ws vs a.1 in
    (ap (λ x. x ∷ ds) a.0 ∙ ap (λ xs. e ∷ xs) b.0, b.1)

one_more_parameters : (xs ys : List Text) (ws vs : List Word)
    → more_parameters_words xs (mark k.RightParen ∷ ws) ≡ more_parameters_words ys (mark k.RightParen ∷ vs) → (xs ≡ ys) × (ws ≡ vs)
one_more_parameters [] [] ws vs h = (refl, tails_same h)
one_more_parameters [] (y ∷ ys) ws vs h = absurd (comma_paren (sym (kinds_same h)))
one_more_parameters (x ∷ xs) [] ws vs h = absurd (comma_paren (kinds_same h))
one_more_parameters (x ∷ xs) (y ∷ ys) ws vs h =
    let b = one_more_parameters xs ys ws vs (tails_same (tails_same h)) in
    (ap (λ z. z ∷ xs) (texts_same (tails_same h)) ∙ ap (λ zs. y ∷ zs) b.0, b.1)

one_parameters : (xs ys : List Text) (ws vs : List Word) → parameters_words xs (mark k.Define ∷ ws) ≡ parameters_words ys (mark k.Define ∷ vs)
    → (xs ≡ ys) × (ws ≡ vs)
one_parameters [] [] ws vs h = (refl, tails_same h)
one_parameters [] (y ∷ ys) ws vs h = absurd (paren_define (sym (kinds_same h)))
one_parameters (x ∷ xs) [] ws vs h = absurd (paren_define (kinds_same h))
one_parameters (x ∷ xs) (y ∷ ys) ws vs h =
    let b = one_more_parameters xs ys (mark k.Define ∷ ws) (mark k.Define ∷ vs) (tails_same (tails_same h)) in
    (ap (λ z. z ∷ xs) (texts_same (tails_same h)) ∙ ap (λ zs. y ∷ zs) b.0, tails_same b.1)

one_said : (a b : Said) (ws vs : List Word) → manner_of a ≡ manner_of b → IsLevelledSaid a → IsLevelledSaid b → said_words a ws ≡ said_words b vs
    → (a ≡ b) × (ws ≡ vs)
one_said (symbols d ds) (symbols e es) ws vs m l n h =
    let a = one_declaration d e (declarations_words ds (mark k.Stop ∷ ws)) (declarations_words es (mark k.Stop ∷ vs)) h in
    let b = one_declarations ds es ws vs a.1 in
    (ap (λ x. symbols x ds) a.0 ∙ ap (λ xs. symbols e xs) b.0, b.1)
one_said (predicate p xs f) (predicate q ys g) ws vs m l n h =
    let a = one_parameters xs ys (formula_words f (mark k.Stop ∷ ws)) (formula_words g (mark k.Stop ∷ vs)) (tails_same h) in
    let b = one_formula f g (mark k.Stop ∷ ws) (mark k.Stop ∷ vs) l n ends_stop ends_stop a.1 in
    (ap (λ x. predicate x xs f) (texts_same h) ∙ ap (λ zs. predicate q zs f) a.0 ∙ ap (λ x. predicate q ys x) b.0, tails_same b.1)
one_said (question f) (question g) ws vs m l n h =
    let b = one_formula f g (mark k.Stop ∷ ws) (mark k.Stop ∷ vs) l n ends_stop ends_stop h in
    (ap (λ x. question x) b.0, tails_same b.1)
one_said (symbols d ds) (predicate q ys g) ws vs m l n h = absurd (cc m)
one_said (symbols d ds) (question g) ws vs m l n h = absurd (cc m)
one_said (predicate p xs f) (symbols e es) ws vs m l n h = absurd (cc m)
one_said (predicate p xs f) (question g) ws vs m l n h = absurd (cc m)
one_said (question f) (symbols e es) ws vs m l n h = absurd (cc m)
one_said (question f) (predicate q ys g) ws vs m l n h = absurd (cc m)

statement_of : Word → Said → WrittenStatement
statement_of first said = record { first = first; said = said }

some_same : {A : Type 0} {x y : A} → Some x ≡ Some y → x ≡ y
some_same e = cc e

module _ (G : FileGrammar) where
  same_manner : (s t : WrittenStatement) → IsStatementOf G s → IsStatementOf G t → s.first ≡ t.first → manner_of s.said ≡ manner_of t.said
  same_manner s t a b e = some_same (sym a.opened ∙ ap (λ w. opening G w) e ∙ b.opened)

  one_statements : (ss ts : List WrittenStatement) → AreStatementsOf G ss → AreStatementsOf G ts → statements_words ss [] ≡ statements_words ts [] → ss ≡ ts
  unfolding statement_of
  one_statements [] [] a b h = refl
  one_statements [] (t ∷ ts) a b h = absurd (cc h)
  one_statements (s ∷ ss) [] a b h = absurd (cc h)
  one_statements (s ∷ ss) (t ∷ ts) a b h =
      let first : s.first ≡ t.first = heads_same h in
      let x = one_said s.said t.said (statements_words ss []) (statements_words ts []) (same_manner s t a.0 b.0 first) a.0.levelled b.0.levelled (tails_same h) in
      let same : s ≡ t = ap (λ w. statement_of w s.said) first ∙ ap (λ y. statement_of t.first y) x.0 in
      ap (λ y. y ∷ ss) same ∙ ap (λ ys. t ∷ ys) (one_statements ss ts a.1 b.1 x.1)

  pub one_file_reading : (ws : List Word) (ss ts : List WrittenStatement) → IsFileOf G ws ss → IsFileOf G ws ts → ss ≡ ts
  one_file_reading ws ss ts a b = one_statements ss ts a.each b.each (a.words ∙ sym b.words)
