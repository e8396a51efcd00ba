-- Statements are read by their words and parts.
use Rattle.std.proofs.Common.{◌≡◌, ℕ, ◌≤◌, ◌<◌, Bool, true, false, List, [], ◌∷◌, ◌++◌, map, length, Option, Some, None, refl, sym, ap, ◌∙◌, subst, append_assoc, arith}
use Rattle.std.specs.Prelude.{if◌then◌else◌}
use Rattle.std.proofs.lemmas.List.{append-nil, map_push}
use Rattle.tree_model.specs.declared.kind.Kind.TheVariants as kind
use Rattle.tree_model.specs.Signatures.{Signature}
use Rattle.formula_ast.specs.declared.token.TokenKind.TheVariants as k
use Rattle.formula_ast.specs.declared.file.File.{File}
use Rattle.formula_ast.specs.declared.formula.Formula.{Formula}
use Rattle.formula_ast.specs.declared.pred.Pred.{Pred}
use Rattle.formula_ast.specs.declared.statement.Statement.{Statement}
use Rattle.formula_ast.specs.Forms.{form_of}
use Rattle.formula_ast.specs.declared.token.Token.{Token}
use Rattle.formula_ast.specs.declared.token.TokenKind.{TokenKind}
use Rattle.formula_ast.specs.Tokens.{Word, Stream, end, bad, token}
use Rattle.formula_grammar.specs.declared.fault.FaultKind.{FaultKind}
use Rattle.formula_grammar.specs.declared.fault.FaultKind.TheVariants.{Syntax}
use Rattle.formula_grammar.specs.Written.{Text, Declaration, symbols, predicate, question}
use Rattle.formula_grammar.specs.Words.{mark, same, word, word_of, declaration_words, declarations_words, more_parameters_words, parameters_words, formula_words}
use Rattle.formula_grammar.specs.Grammar.{files}
use Rattle.formula_grammar.specs.Machine as m
use Rattle.formula_grammar.specs.Machine.{Stack, declares, has_arity, declares_predicate, has_parameter, ends_predicate, row, empty, refused, turned, passed, passed_end, step, at_end}
use Rattle.formula_grammar.specs.Checks.{Environment, check, entry_of, value_of}
use Rattle.formula_grammar.specs.FirstFault.{fault_from}
use Rattle.formula_grammar.specs.Names.{symbol_entry}
use Rattle.formula_grammar.specs.Meaning.{variables_in, first_occurrences, Stands, Makes}
use Rattle.formula_reader.specs.Input.{Input, Scope, left_of, words_left, starts, text_ahead, environment}
use Rattle.formula_reader.specs.Faults.{at_next, fault_of, fault_with, move_with, ended_with, Takes, TakesWord, KeepsNames}
use Rattle.formula_reader.specs.Reads.{IsRead, IsOperand, ReadsDeclaration, ReadsParameter, ReadsParameters, ReadsStatement}
use Rattle.formula_reader.proofs.Scoping.{scope_with}
use Rattle.formula_reader.proofs.Steps.{words_taken, took_in, took_plain, skipped, blocked, not_starting}

-- ---- declarations

module _ {σ τ : Signature} {old named slashed new : Input} {wrong wrong_2 : Option FaultKind} where
  -- a name, a slash and a number
  pub declaration_read : (next : starts k.Name (left_of old) ≡ true) → Takes wrong old named → wrong ≡ check (environment σ old.joints) (declares (text_ahead old))
      → named.joints ≡ old.joints → TakesWord (m.plain k.Slash) (mark k.Slash) σ named slashed
      → (next_2 : starts k.Number (left_of slashed) ≡ true) → Takes wrong_2 slashed new → wrong_2 ≡ check (environment σ slashed.joints) (has_arity (text_ahead old) (text_ahead slashed))
      → new.joints ≡ slashed.joints → τ ≡ σ ++ entry_of (text_ahead old) kind.Symbol (value_of (text_ahead slashed)) ∷ []
      → ReadsDeclaration old new σ τ
  declaration_read next takes wrong_is joints slash next_2 takes_2 wrong_2_is joints_2 declared = record {
    declaration = record { name = text_ahead old; digits = text_ahead slashed };
    faults = λ s.
        took_in k.Name next takes σ σ m.declaration (declares (text_ahead old)) (m.plain k.Slash ∷ number ∷ []) refl wrong_is (ap (environment σ) (sym joints)) s
        ∙ slash.faults (number ∷ s)
        ∙ took_in k.Number next_2 takes_2 σ τ number (has_arity (text_ahead old) (text_ahead slashed)) [] refl wrong_2_is
        (ap (λ ρ. environment ρ slashed.joints) (sym declared) ∙ ap (environment τ) (sym joints_2)) s;
    text = words_taken k.Name next takes
        ∙ ap (λ ws. word k.Name (text_ahead old) ∷ ws) (slash.words ∙ ap (λ ws. mark k.Slash ∷ ws) (words_taken k.Number next_2 takes_2));
    declared = declared;
    bytes = takes_2.bytes ∙ slash.bytes ∙ takes.bytes;
    on = omega (arith, takes.on, slash.on, takes_2.on);
  }
    where
      number : m.Symbol
      number = m.one k.Number (λ n. has_arity (text_ahead old) n ∷ [])

-- The first declarations of a statement were read, and their symbols declared.
pub record ReadsSymbols (start now : Input) (σ τ : Signature) : Type 0 where
  pub first : Declaration
  pub more : List Declaration
  pub faults : (s : Stack) → fault_of σ start (m.statements files ∷ s) ≡ fault_of τ now (m.declarations ∷ m.plain k.Stop ∷ m.statements files ∷ s)
  pub text : words_left start ≡ mark k.Symbol ∷ declaration_words first (declarations_words more (words_left now))
  pub declared : τ ≡ σ ++ map symbol_entry (first ∷ more)
  pub bytes : now.bytes ≡ start.bytes
  pub on : start.at < now.at

pub symbols_begin : {σ τ : Signature} {start begun now : Input} → starts k.Symbol (left_of start) ≡ true → Takes None start begun → begun.joints ≡ start.joints
    → ReadsDeclaration begun now σ τ → ReadsSymbols start now σ τ
symbols_begin {σ} {τ} {start} {begun} next takes joints d = record {
  first = d.declaration;
  more = [];
  faults = λ s.
      took_plain k.Symbol next takes σ (m.statements files) (m.declaration ∷ m.declarations ∷ m.plain k.Stop ∷ m.statements files ∷ []) refl joints s
      ∙ d.faults (m.declarations ∷ m.plain k.Stop ∷ m.statements files ∷ s);
  text = words_taken k.Symbol next takes ∙ ap (λ ws. mark k.Symbol ∷ ws) d.text;
  declared = d.declared;
  bytes = d.bytes ∙ takes.bytes;
  on = omega (arith, takes.on, d.on);
}

push_words : (ds : List Declaration) (d : Declaration) (ws : List Word) → declarations_words (ds ++ d ∷ []) ws ≡ declarations_words ds (mark k.Comma ∷ declaration_words d ws)
push_words [] d ws = refl
push_words (e ∷ ds) d ws = ap (λ vs. mark k.Comma ∷ declaration_words e vs) (push_words ds d ws)

pub symbols_more : {σ τ ρ : Signature} {start now behind new : Input} → ReadsSymbols start now σ τ → starts k.Comma (left_of now) ≡ true → Takes None now behind
    → behind.joints ≡ now.joints → ReadsDeclaration behind new τ ρ → ReadsSymbols start new σ ρ
symbols_more {σ} {τ} {ρ} {start} {now} {behind} {new} r next takes joints d = record {
  first = r.first;
  more = r.more ++ d.declaration ∷ [];
  faults = λ s.
      r.faults s
      ∙ took_plain k.Comma next takes τ m.declarations (m.declaration ∷ m.declarations ∷ []) refl joints (m.plain k.Stop ∷ m.statements files ∷ s)
      ∙ d.faults (m.declarations ∷ m.plain k.Stop ∷ m.statements files ∷ s);
  text = r.text
      ∙ ap (λ ws. mark k.Symbol ∷ declaration_words r.first (declarations_words r.more ws)) (words_taken k.Comma next takes ∙ ap (λ ws. mark k.Comma ∷ ws) d.text)
      ∙ ap (λ ws. mark k.Symbol ∷ declaration_words r.first ws) (sym (push_words r.more d.declaration (words_left new)));
  declared = d.declared ∙ ap (λ l. l ++ symbol_entry d.declaration ∷ []) r.declared ∙ append_assoc σ (map symbol_entry (r.first ∷ r.more)) (symbol_entry d.declaration ∷ [])
      ∙ ap (λ l. σ ++ l) (sym (map_push symbol_entry (r.first ∷ r.more) d.declaration));
  bytes = d.bytes ∙ takes.bytes ∙ r.bytes;
  on = omega (arith, r.on, takes.on, d.on);
}

-- no comma follows
pub symbols_past : {σ τ : Signature} {start now : Input} → ReadsSymbols start now σ τ → starts k.Comma (left_of now) ≡ false
    → (s : Stack) → fault_of σ start (m.statements files ∷ s) ≡ fault_of τ now (m.plain k.Stop ∷ m.statements files ∷ s)
symbols_past {σ} {τ} {start} {now} r other s =
    r.faults s ∙ skipped τ now m.declarations refl (blocked k.Comma now m.declarations other (λ t no. rw no refl)) (m.plain k.Stop ∷ m.statements files ∷ s)

pub symbols_read : {start now new : Input} (before after : File) → ReadsSymbols start now before.signature after.signature → starts k.Comma (left_of now) ≡ false
    → TakesWord (m.plain k.Stop) (mark k.Stop) after.signature now new → after.preds ≡ before.preds → after.solves ≡ before.solves → ReadsStatement start new before after
symbols_read {start} {now} {new} before after r other stop preds solves = record {
  written = record { first = mark k.Symbol; said = symbols r.first r.more };
  faults = λ s. symbols_past r other s ∙ stop.faults (m.statements files ∷ s);
  text = r.text ∙ ap (λ ws. mark k.Symbol ∷ declaration_words r.first (declarations_words r.more ws)) stop.words;
  opens = record { opened = refl; levelled = tt };
  makes = λ whole more m. subst (λ σ. Makes whole σ before.preds before.solves more) r.declared
      (subst (λ preds. Makes whole after.signature preds before.solves more) preds (subst (λ solves. Makes whole after.signature after.preds solves more) solves m));
  bytes = stop.bytes ∙ r.bytes;
  on = omega (arith, r.on, stop.on);
}

-- ---- parameters

pub parameter_read : {σ : Signature} {old new : Input} {wrong : Option FaultKind} → starts k.Variable (left_of old) ≡ true → Takes wrong old new
    → wrong ≡ check (environment σ old.joints) (has_parameter (text_ahead old) old.scope.bound) → new.joints ≡ old.joints
    → new.scope ≡ record { names = old.scope.names ++ text_ahead old ∷ []; bound = old.scope.bound ++ text_ahead old ∷ [] }
    → ReadsParameter σ old new
parameter_read {σ} {old} next takes wrong_is joints scope = record {
  parameter = text_ahead old;
  faults = λ p s.
      took_in k.Variable next takes σ σ (m.parameter p old.scope.bound) (has_parameter (text_ahead old) old.scope.bound)
      (m.more_parameters p (old.scope.bound ++ text_ahead old ∷ []) ∷ []) refl wrong_is (ap (environment σ) (sym joints)) s;
  text = words_taken k.Variable next takes;
  scope = scope;
  bytes = takes.bytes;
  on = takes.on;
}

-- The first parameters were read.
pub record ReadsSome (σ : Signature) (start now : Input) : Type 0 where
  pub first : Text
  pub more : List Text
  pub faults : (p : Text) (s : Stack) → fault_of σ start (m.header p ∷ s) ≡ fault_of σ now (m.more_parameters p (first ∷ more) ∷ s)
  pub text : words_left start ≡ mark k.LeftParen ∷ word k.Variable first ∷ more_parameters_words more (words_left now)
  pub scope : now.scope ≡ record { names = first ∷ more; bound = first ∷ more }
  pub bytes : now.bytes ≡ start.bytes
  pub on : start.at < now.at

empty_scope : (i j : Input) → i.scope ≡ record { names = []; bound = [] } → j.scope ≡ i.scope → j.scope.bound ≡ []
empty_scope i j none same = ap (λ (scope : Scope). scope.bound) (same ∙ none)

pub parameters_begin : {σ : Signature} {start opened now : Input} → start.scope ≡ record { names = []; bound = [] } → starts k.LeftParen (left_of start) ≡ true
    → Takes None start opened → opened.joints ≡ start.joints → KeepsNames start opened → ReadsParameter σ opened now → ReadsSome σ start now
parameters_begin {σ} {start} {opened} {now} none next takes joints keeps r =
    let no_bound : opened.scope.bound ≡ [] = empty_scope start opened none keeps.scope in
    let no_names : opened.scope.names ≡ [] = ap (λ (scope : Scope). scope.names) (keeps.scope ∙ none) in
    record {
      first = r.parameter;
      more = [];
      faults = λ p s.
          took_plain k.LeftParen next takes σ (m.header p) (m.parameter p [] ∷ []) refl joints s
          ∙ subst (λ xs. fault_of σ opened (m.parameter p xs ∷ s) ≡ fault_of σ now (m.more_parameters p (xs ++ r.parameter ∷ []) ∷ s)) no_bound (r.faults p s);
      text = words_taken k.LeftParen next takes ∙ ap (λ ws. mark k.LeftParen ∷ ws) r.text;
      scope = r.scope ∙ ap (λ xs. scope_with (xs ++ r.parameter ∷ []) (opened.scope.bound ++ r.parameter ∷ [])) no_names
          ∙ ap (λ xs. scope_with (r.parameter ∷ []) (xs ++ r.parameter ∷ [])) no_bound;
      bytes = r.bytes ∙ takes.bytes;
      on = omega (arith, takes.on, r.on);
    }

push_parameters : (xs : List Text) (x : Text) (ws : List Word) → more_parameters_words (xs ++ x ∷ []) ws ≡ more_parameters_words xs (mark k.Comma ∷ word k.Variable x ∷ ws)
push_parameters [] x ws = refl
push_parameters (y ∷ xs) x ws = ap (λ vs. mark k.Comma ∷ word k.Variable y ∷ vs) (push_parameters xs x ws)

pub parameters_more : {σ : Signature} {start now behind new : Input} → ReadsSome σ start now → starts k.Comma (left_of now) ≡ true → Takes None now behind → behind.joints ≡ now.joints
    → KeepsNames now behind → ReadsParameter σ behind new → ReadsSome σ start new
parameters_more {σ} {start} {now} {behind} {new} r next takes joints keeps q =
    let bound_is : behind.scope.bound ≡ r.first ∷ r.more = ap (λ (scope : Scope). scope.bound) (keeps.scope ∙ r.scope) in
    let names_are : behind.scope.names ≡ r.first ∷ r.more = ap (λ (scope : Scope). scope.names) (keeps.scope ∙ r.scope) in
    record {
      first = r.first;
      more = r.more ++ q.parameter ∷ [];
      faults = λ p s.
          r.faults p s
          ∙ took_plain k.Comma next takes σ (m.more_parameters p (r.first ∷ r.more)) (m.parameter p (r.first ∷ r.more) ∷ []) refl joints s
          ∙ subst (λ xs. fault_of σ behind (m.parameter p xs ∷ s) ≡ fault_of σ new (m.more_parameters p (xs ++ q.parameter ∷ []) ∷ s)) bound_is (q.faults p s);
      text = r.text
          ∙ ap (λ ws. mark k.LeftParen ∷ word k.Variable r.first ∷ more_parameters_words r.more ws) (words_taken k.Comma next takes ∙ ap (λ ws. mark k.Comma ∷ ws) q.text)
          ∙ ap (λ ws. mark k.LeftParen ∷ word k.Variable r.first ∷ ws) (sym (push_parameters r.more q.parameter (words_left new)));
      scope = q.scope ∙ ap (λ xs. scope_with (xs ++ q.parameter ∷ []) (behind.scope.bound ++ q.parameter ∷ [])) names_are
          ∙ ap (λ xs. scope_with ((r.first ∷ r.more) ++ q.parameter ∷ []) (xs ++ q.parameter ∷ [])) bound_is;
      bytes = q.bytes ∙ takes.bytes ∙ r.bytes;
      on = omega (arith, r.on, takes.on, q.on);
    }

-- ---- symbols that take one kind of word and leave the same

-- where no comma follows, more parameters are a parenthesis and a definition
not_comma : (p : Text) (xs : List Text) (kind : TokenKind) → same kind k.Comma ≡ false
    → m.parameters_row p xs kind ≡ m.only kind k.RightParen ([], m.definition p xs ∷ [])
not_comma p xs k.Comma h = absurd (cc h)
not_comma p xs kind h = refl

-- where no parenthesis follows, a header is `:=` and a body
not_paren : (p : Text) (kind : TokenKind) → same kind k.LeftParen ≡ false → m.header_row p kind ≡ m.only kind k.Define ([], m.defined p [])
not_paren p k.LeftParen h = absurd (cc h)
not_paren p kind h = refl

only_step : (kind : TokenKind) (s u : Stack) (w : Word) → step (m.plain kind ∷ s ++ u) w ≡ turned (m.only w.kind kind ([], s)) u refused
only_step kind s u w = by (same w.kind kind)
  where
    by : (b : Bool) → turned (if b then Some ([], []) else None) (s ++ u) refused ≡ turned (if b then Some ([], s) else None) u refused
    by true = refl
    by false = refl

-- what a symbol that can't be left out does where its row is that of one kind
same_from : (wrong : Option FaultKind) (bytes : List ℕ) (i : Stream) (E : Environment) (x : m.Symbol) (kind : TokenKind) (s u : Stack) → empty x ≡ None
    → ((t : Token) (more : Stream) → i ≡ token t more → row x (word_of bytes t) ≡ m.only t.kind kind ([], s))
    → fault_with wrong bytes i E (x ∷ u) ≡ fault_with wrong bytes i E (m.plain kind ∷ s ++ u)
same_from wrong bytes (end at) E x kind s u e rows = ap (λ o. ended_with wrong E at (passed_end o (at_end u))) e
same_from wrong bytes (bad at) E x kind s u e rows = refl
same_from wrong bytes (token t more) E x kind s u e rows =
    ap (λ m. move_with wrong E t.from (λ F v. fault_from bytes more F v) m)
    (ap (λ o. turned o u (passed (empty x) (step u (word_of bytes t)))) (rows t more refl)
    ∙ ap (λ o. turned (m.only t.kind kind ([], s)) u (passed o (step u (word_of bytes t)))) e
    ∙ sym (only_step kind s u (word_of bytes t)))

module _ (σ : Signature) (i : Input) where
  pub same_as : (x : m.Symbol) (kind : TokenKind) (s : Stack) → empty x ≡ None
      → ((t : Token) (more : Stream) → left_of i ≡ token t more → row x (word_of i.bytes t) ≡ m.only t.kind kind ([], s))
      → (u : Stack) → fault_of σ i (x ∷ u) ≡ fault_of σ i (m.plain kind ∷ s ++ u)
  same_as x kind s e rows u = same_from i.pending i.bytes (left_of i) (environment σ i.joints) x kind s u e rows

  pub parameters_past : (p : Text) (xs : List Text) → starts k.Comma (left_of i) ≡ false
      → (u : Stack) → fault_of σ i (m.more_parameters p xs ∷ u) ≡ fault_of σ i (m.plain k.RightParen ∷ m.definition p xs ∷ u)
  parameters_past p xs other u =
      same_as (m.more_parameters p xs) k.RightParen (m.definition p xs ∷ []) refl
      (λ t more is. not_comma p xs t.kind (not_starting k.Comma (left_of i) t more other is)) u

  pub header_past : (p : Text) → starts k.LeftParen (left_of i) ≡ false → (u : Stack) → fault_of σ i (m.header p ∷ u) ≡ fault_of σ i (m.plain k.Define ∷ m.defined p [] ++ u)
  header_past p other u =
      same_as (m.header p) k.Define (m.defined p []) refl (λ t more is. not_paren p t.kind (not_starting k.LeftParen (left_of i) t more other is)) u

  pub definition_is : (p : Text) (xs : List Text) (u : Stack) → fault_of σ i (m.definition p xs ∷ u) ≡ fault_of σ i (m.plain k.Define ∷ m.defined p xs ++ u)
  definition_is p xs u = same_as (m.definition p xs) k.Define (m.defined p xs) refl (λ t more is. refl) u

pub no_parameters_read : {σ : Signature} {start new : Input} → start.scope ≡ record { names = []; bound = [] } → starts k.LeftParen (left_of start) ≡ false
    → TakesWord (m.plain k.Define) (mark k.Define) σ start new → ReadsParameters σ start new
no_parameters_read {σ} {start} {new} none other define = record {
  parameters = [];
  faults = λ p s. header_past σ start p other s ∙ define.faults (m.defined p [] ++ s);
  text = define.words;
  scope = define.keeps.scope ∙ none;
  bytes = define.bytes;
  on = define.on;
}

pub parameters_read : {σ : Signature} {start now closed new : Input} → (r : ReadsSome σ start now) → starts k.Comma (left_of now) ≡ false
    → TakesWord (m.plain k.RightParen) (mark k.RightParen) σ now closed → TakesWord (m.plain k.Define) (mark k.Define) σ closed new → ReadsParameters σ start new
parameters_read {σ} {start} {now} {closed} {new} r other close define = record {
  parameters = r.first ∷ r.more;
  faults = λ p s.
      r.faults p s ∙ parameters_past σ now p (r.first ∷ r.more) other s ∙ close.faults (m.definition p (r.first ∷ r.more) ∷ s)
      ∙ definition_is σ closed p (r.first ∷ r.more) s ∙ define.faults (m.defined p (r.first ∷ r.more) ++ s);
  text = r.text
      ∙ ap (λ ws. mark k.LeftParen ∷ word k.Variable r.first ∷ more_parameters_words r.more ws) (close.words ∙ ap (λ ws. mark k.RightParen ∷ ws) define.words);
  scope = define.keeps.scope ∙ close.keeps.scope ∙ r.scope;
  bytes = define.bytes ∙ close.bytes ∙ r.bytes;
  on = omega (arith, r.on, close.on, define.on);
}

-- ---- the statements with formulas

-- what holds of the names with nothing behind them
alone : (P : List Text → Type 0) (names : List Text) → ((more : List Text) → P (names ++ more)) → P names
alone P names h = subst P (append-nil names) (h [])

abbrev pub ReadFormula : Signature → Input → Input → Formula → Type 0
ReadFormula σ old new f = IsRead formula_words variables_in (IsOperand 1) σ old new f

module _ {σ : Signature} {begun mid : Input} {p : Formula} (r : ReadFormula σ begun mid p) where
  pub named : (xs names : List Text) → begun.scope.names ≡ xs → names ≡ mid.scope.names → names ≡ first_occurrences xs (variables_in r.written)
  named xs names from same = same ∙ ap (λ (scope : Scope). scope.names) r.scope ∙ ap (λ l. first_occurrences l (variables_in r.written)) from

  pub is_operand : (names : List Text) → names ≡ mid.scope.names → IsOperand 1 σ names r.written p
  is_operand names same = subst (λ l. IsOperand 1 σ l r.written p) (sym same) (alone (λ l. IsOperand 1 σ l r.written p) mid.scope.names r.is)

pub question_read : {start begun mid behind new : Input} (before after : File) {p : Formula} {s : Statement} → starts k.Solve (left_of start) ≡ true → Takes None start begun
    → begun.joints ≡ 0 → begun.scope ≡ record { names = []; bound = [] }
    → ((s : Stack) → fault_of before.signature begun (m.operand 1 m.open_place ∷ s) ≡ fault_of before.signature mid s) → ReadFormula before.signature begun mid p
    → TakesWord (m.plain k.Stop) (mark k.Stop) before.signature mid behind
    → ((s : Stack) → fault_of before.signature behind s ≡ fault_of before.signature new s) → words_left new ≡ words_left behind → new.bytes ≡ behind.bytes → behind.at ≤ new.at
    → s.names ≡ behind.scope.names → s.body ≡ p → after.signature ≡ before.signature → after.preds ≡ before.preds → after.solves ≡ before.solves ++ s ∷ []
    → ReadsStatement start new before after
question_read {start} {begun} {mid} {behind} {new} before after {p} {s} next takes joints none formula r stop renamed same bytes on names body signature preds solves = record {
  written = record { first = mark k.Solve; said = question r.written };
  faults = λ u.
      took_in k.Solve next takes before.signature before.signature (m.statements files) m.begins
      (m.operand 1 m.open_place ∷ m.plain k.Stop ∷ m.statements files ∷ []) refl refl (ap (environment before.signature) (sym joints)) u
      ∙ formula (m.plain k.Stop ∷ m.statements files ∷ u) ∙ stop.faults (m.statements files ∷ u) ∙ renamed (m.statements files ∷ u)
      ∙ ap (λ σ. fault_of σ new (m.statements files ∷ u)) (sym signature);
  text = words_taken k.Solve next takes
      ∙ ap (λ ws. mark k.Solve ∷ ws) (r.text ∙ ap (formula_words r.written) (stop.words ∙ ap (λ ws. mark k.Stop ∷ ws) (sym same)));
  opens = record { opened = refl; levelled = operand.levelled };
  makes = λ whole more m. (
    s,
    record { names = named r [] s.names (ap (λ (scope : Scope). scope.names) none) names_are; body = subst (λ f. Stands before.signature s.names r.written (form_of f)) (sym body) operand.stands },
    subst (λ σ. Makes whole σ before.preds (before.solves ++ s ∷ []) more) signature (subst (λ l. Makes whole after.signature l (before.solves ++ s ∷ []) more) preds
        (subst (λ l. Makes whole after.signature after.preds l more) solves m)),
  );
  bytes = bytes ∙ stop.bytes ∙ r.bytes ∙ takes.bytes;
  on = omega (arith, takes.on, r.on, stop.on, on);
}
  where
    names_are : s.names ≡ mid.scope.names
    names_are = names ∙ ap (λ (scope : Scope). scope.names) stop.keeps.scope

    operand : IsOperand 1 before.signature s.names r.written p
    operand = is_operand r s.names names_are

pub predicate_read : {start begun named_at listed mid behind new : Input} (before after : File) {p : Formula} {pred : Pred} {wrong : Option FaultKind}
    → starts k.Pred (left_of start) ≡ true → Takes None start begun → begun.joints ≡ 0
    → (next : starts k.Name (left_of begun) ≡ true) → Takes wrong begun named_at → wrong ≡ check (environment before.signature begun.joints) (declares_predicate (text_ahead begun))
    → named_at.joints ≡ begun.joints → (l : ReadsParameters before.signature named_at listed)
    → ((s : Stack) → fault_of before.signature listed (m.operand 1 (m.closed_place l.parameters) ∷ s) ≡ fault_of before.signature mid s) → ReadFormula before.signature listed mid p
    → (next_2 : starts k.Stop (left_of mid) ≡ true) → Takes None mid behind → behind.joints ≡ mid.joints
    → ((s : Stack) → fault_of after.signature behind s ≡ fault_of after.signature new s) → words_left new ≡ words_left behind → new.bytes ≡ behind.bytes → behind.at ≤ new.at
    → pred.place ≡ length before.signature → pred.params ≡ length l.parameters → pred.names ≡ mid.scope.names → pred.body ≡ p
    → after.signature ≡ before.signature ++ entry_of (text_ahead begun) kind.Pred (length l.parameters) ∷ [] → after.preds ≡ before.preds ++ pred ∷ [] → after.solves ≡ before.solves
    → ReadsStatement start new before after
predicate_read {start} {begun} {named_at} {listed} {mid} {behind} {new} before after {p} {pred} first takes joints next takes_2 wrong_is joints_2 l formula r next_2 takes_3 joints_3
    renamed same bytes on place params are body signature preds solves = record {
      written = record { first = mark k.Pred; said = predicate name l.parameters r.written };
      faults = λ u.
          took_in k.Pred first takes σ σ (m.statements files) m.begins (m.predicate_name ∷ m.statements files ∷ []) refl refl (ap (environment σ) (sym joints)) u
          ∙ took_in k.Name next takes_2 σ σ m.predicate_name (declares_predicate name) (m.header name ∷ []) refl wrong_is (ap (environment σ) (sym joints_2)) (m.statements files ∷ u)
          ∙ l.faults name (m.statements files ∷ u) ∙ formula (stop ∷ m.statements files ∷ u)
          ∙ took_in k.Stop next_2 takes_3 σ after.signature stop (ends_predicate name (length l.parameters)) [] refl refl
          (ap (λ ρ. environment ρ mid.joints) (sym signature) ∙ ap (environment after.signature) (sym joints_3)) (m.statements files ∷ u)
          ∙ renamed (m.statements files ∷ u);
      text = words_taken k.Pred first takes
          ∙ ap (λ ws. mark k.Pred ∷ ws) (words_taken k.Name next takes_2
          ∙ ap (λ ws. word k.Name name ∷ ws) (l.text
          ∙ ap (λ ws. parameters_words l.parameters (mark k.Define ∷ ws)) (r.text ∙ ap (formula_words r.written) (words_taken k.Stop next_2 takes_3 ∙ ap (λ ws. mark k.Stop ∷ ws) (sym same)))));
      opens = record { opened = refl; levelled = operand.levelled };
      makes = λ whole more m. (
        pred,
        record {
          place = place;
          params = params;
          names = named r l.parameters pred.names (ap (λ (scope : Scope). scope.names) l.scope) are;
          body = subst (λ f. Stands σ pred.names r.written (form_of f)) (sym body) operand.stands;
        },
        subst (λ ρ. Makes whole ρ (before.preds ++ pred ∷ []) before.solves more) signature (subst (λ ps. Makes whole after.signature ps before.solves more) preds
            (subst (λ ss. Makes whole after.signature after.preds ss more) solves m)),
      );
      bytes = bytes ∙ takes_3.bytes ∙ r.bytes ∙ l.bytes ∙ takes_2.bytes ∙ takes.bytes;
      on = omega (arith, takes.on, takes_2.on, l.on, r.on, takes_3.on, on);
    }
  where
    σ : Signature
    σ = before.signature

    name : Text
    name = text_ahead begun

    stop : m.Symbol
    stop = m.one k.Stop (λ text. ends_predicate name (length l.parameters) ∷ [])

    operand : IsOperand 1 σ pred.names r.written p
    operand = is_operand r pred.names are

-- ---- no statement

no_opening : (kind : TokenKind) (text : Text) → same kind k.Symbol ≡ false → same kind k.Pred ≡ false → same kind k.Solve ≡ false → row (m.statements files) (word kind text) ≡ None
no_opening k.Symbol text a b c = absurd (cc a)
no_opening k.Pred text a b c = absurd (cc b)
no_opening k.Solve text a b c = absurd (cc c)
no_opening kind text a b c = refl

nothing_stands : (wrong : Option FaultKind) (bytes : List ℕ) (i : Stream) (E : Environment) (t : Token) (more : Stream) → i ≡ token t more
    → fault_with wrong bytes i E [] ≡ Some (at_next Syntax i)
nothing_stands wrong bytes (end at) E t more is = cc is
nothing_stands wrong bytes (bad at) E t more is = cc is
nothing_stands wrong bytes (token u rest) E t more is = refl

-- where a word is left that begins no statement, and nothing else is expected, it is refused
pub refused_statement : (σ : Signature) (i : Input) (t : Token) (more : Stream) → left_of i ≡ token t more
    → starts k.Symbol (left_of i) ≡ false → starts k.Pred (left_of i) ≡ false → starts k.Solve (left_of i) ≡ false
    → fault_of σ i (m.statements files ∷ []) ≡ Some (at_next Syntax (left_of i))
refused_statement σ i t more is a b c =
    skipped σ i (m.statements files) refl
    (λ u rest at. no_opening u.kind _ (not_starting k.Symbol (left_of i) u rest a at) (not_starting k.Pred (left_of i) u rest b at) (not_starting k.Solve (left_of i) u rest c at)) []
    ∙ nothing_stands i.pending i.bytes (left_of i) (environment σ i.joints) t more is
