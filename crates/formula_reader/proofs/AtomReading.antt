-- Atoms are read by their words and parts.
use Rattle.std.proofs.Common.{◌≡◌, ℕ, suc, ◌≤◌, Bool, true, false, ◌||◌, List, [], ◌∷◌, ◌++◌, Option, Some, None, refl, sym, ◌∙◌, ap, arith}
use Rattle.std.specs.Prelude.{Result, Ok, Err, OnOk, IfOk, IfErr, MatchResult}
use Rattle.tree_model.specs.Signatures.{Signature}
use Rattle.std.specs.Option.{option_map}
use Rattle.formula_ast.specs.Forms as form
use Rattle.formula_ast.specs.Forms.{Form, form_of}
use Rattle.formula_ast.specs.Terms.{list_of}
use Rattle.formula_ast.specs.declared.term.Terms.{Terms}
use Rattle.formula_ast.specs.Tokens.{Stream, end, bad, token}
use Rattle.formula_ast.specs.declared.token.TokenKind.{TokenKind}
use Rattle.formula_ast.specs.declared.token.TokenKind.TheVariants as k
use Rattle.formula_ast.specs.declared.term.Term.{Term}
use Rattle.formula_ast.specs.declared.formula.Formula.{Formula}
use Rattle.formula_grammar.specs.declared.fault.Fault.{Fault}
use Rattle.formula_grammar.specs.declared.fault.FaultKind.{FaultKind}
use Rattle.formula_grammar.specs.Written.{Text, named, Comparer, WrittenTerm, WrittenTerms, WrittenFormula, truth, call, compared}
use Rattle.formula_grammar.specs.Words.{same, word, mark, word_of, truth_kind, comparer_kind, term_words, arguments_words, formula_words}
use Rattle.formula_grammar.specs.Machine as m
use Rattle.formula_grammar.specs.Machine.{Place, Stack, Role, Turn, deeper, row, comparison_row, unary_row, followed_by}
use Rattle.formula_grammar.specs.Checks.{Environment, check, sooner}
use Rattle.formula_grammar.specs.FirstFault.{fault_from}
use Rattle.formula_grammar.specs.Meaning.{variables_of, variables_in, place_in, IsTerm, AreTerms, Stands, truth_form, comparer_form}
use Rattle.formula_reader.specs.declared.error.ReadError.{ReadError}
use Rattle.formula_reader.specs.declared.place.Place.{Place as PlaceRead}
use Rattle.formula_reader.specs.declared.parsed.Comparer.{Comparer as ComparerRead}
use Rattle.formula_reader.specs.Input.{Input, Scope, left_of, words_left, starts, text_ahead, environment, place_of}
use Rattle.formula_reader.specs.Kinds.{comparer_of}
use Rattle.formula_reader.specs.Faults.{fault_of, fault_with, Takes, TakesWord, Stops, RefusesAt, KeepsNames}
use Rattle.formula_reader.specs.Reads.{IsRead, Reads, IsOperand, TakesParen, comparison_words, comparison_variables, IsComparison}
use Rattle.formula_reader.proofs.Steps.{ahead, words_taken, took_in, took_plain, stopped_in, stopped_plain, moved, complained, Blocks, not_starting}
use Rattle.formula_reader.proofs.Reading.{Complains, same_place, kept_place, enclosed, both, nothing_read}
use Rattle.formula_reader.proofs.TermReading.{ReadTerm, ReadArguments, at_inner}

abbrev pub ReadOperand : ℕ → Signature → Input → Input → Formula → Type 0
ReadOperand n σ old new f = IsRead formula_words variables_in (IsOperand n) σ old new f

abbrev pub ReadComparison : Signature → Input → Input → ComparerRead × Term → Type 0
ReadComparison σ old new c = IsRead comparison_words comparison_variables IsComparison σ old new c

-- ---- the parenthesis behind `finite` or `win`

pub paren_answers : (σ : Signature) (old new : Input) (p : PlaceRead) (r : Result PlaceRead ReadError) → starts k.LeftParen (left_of old) ≡ true
    → ((E : Environment) → OnOk r (Takes (check E (m.opens (suc p.depth))) old new)) → OnOk r (KeepsNames old new) → OnOk r (new.joints ≡ old.joints)
    → IfOk r (λ inner. inner ≡ record p { depth = suc p.depth }) → IfOk r (λ inner. inner.depth ≤ 200)
    → ((E : Environment) → IfErr r (λ e. Stops (check E (m.opens (suc p.depth))) old e))
    → MatchResult r (λ inner. TakesParen p σ old new inner) (λ e. RefusesAt (m.opening_paren (place_of old p)) σ old e)
paren_answers σ old new p (Ok inner) next takes keeps joints is depth stops =
    let took_it = takes (environment σ old.joints) in
    record {
      word_is = record {
        faults = took_in k.LeftParen next took_it σ σ (m.opening_paren (place_of old p)) (m.opens (suc p.depth)) [] refl refl (ap (environment σ) (sym joints));
        words = words_taken k.LeftParen next took_it;
        keeps = keeps;
        bytes = took_it.bytes;
        on = took_it.on;
      };
      inner_is = is;
      depth = depth;
    }
paren_answers σ old new p (Err e) next takes keeps joints is depth stops =
    stopped_in k.LeftParen old next σ e (stops (environment σ old.joints)) (m.opening_paren (place_of old p)) (m.opens (suc p.depth)) [] refl refl

-- the word and its parenthesis were taken
module _ (kind : TokenKind) (σ : Signature) (old one : Input) (p : PlaceRead) (next : starts kind (left_of old) ≡ true) (takes : Takes None old one) (keeps : KeepsNames old one)
    (joints : one.joints ≡ old.joints) (rest : Stack)
    (row_is : row (m.operand 5 (place_of old p)) (ahead kind old) ≡ Some ([], m.opening_paren (place_of old p) ∷ rest)) where
  pub word_taken : (s : Stack) → fault_of σ old (m.operand 5 (place_of old p) ∷ s) ≡ fault_of σ one (m.opening_paren (place_of one p) ∷ rest ++ s)
  word_taken s =
      took_plain kind next takes σ (m.operand 5 (place_of old p)) (m.opening_paren (place_of old p) ∷ rest) row_is joints s
      ∙ ap (λ c. fault_of σ one (m.opening_paren c ∷ rest ++ s)) (sym (kept_place p keeps))

  pub both_taken : {two : Input} {inner : PlaceRead} → TakesParen p σ one two inner → (s : Stack) → fault_of σ old (m.operand 5 (place_of old p) ∷ s) ≡ fault_of σ two (rest ++ s)
  both_taken paren s = word_taken s ∙ paren.word_is.faults (rest ++ s)

-- and the term may come
pub inner_place : {σ : Signature} {old one two : Input} {p inner : PlaceRead} → KeepsNames old one → TakesParen p σ one two inner → place_of two inner ≡ deeper (place_of old p)
inner_place {old = old} {two = two} keeps paren = at_inner old two (ap (λ (scope : Scope). scope.bound) (paren.word_is.keeps.scope ∙ keeps.scope)) paren.inner_is

-- ---- comparisons

comparison_none : (rs : List Role) (c : Place) (kind : TokenKind) → same kind k.Equal ≡ false → same kind k.Differ ≡ false → comparison_row rs c kind ≡ None
comparison_none rs c k.Equal e d = absurd (cc e)
comparison_none rs c k.Differ e d = absurd (cc d)
comparison_none rs c kind e d = refl

pub comparison_blocked : (i : Input) (c : Place) → starts k.Equal (left_of i) ≡ false → starts k.Differ (left_of i) ≡ false → Blocks (m.comparison c) i
comparison_blocked i c e d t more is = comparison_none [] c t.kind (not_starting k.Equal (left_of i) t more e is) (not_starting k.Differ (left_of i) t more d is)

neither : (a b : Bool) → (a || b) ≡ false → (a ≡ false) × (b ≡ false)
neither true b h = absurd (cc h)
neither false b h = (refl, h)

pub tail_blocked : (i : Input) (f : Text) (c : Place) → (starts k.Equal (left_of i) || starts k.Differ (left_of i)) ≡ false → Blocks (m.name_tail f c) i
tail_blocked i f c none t more is =
    let both = neither (starts k.Equal (left_of i)) (starts k.Differ (left_of i)) none in
    comparison_none (m.compares f ∷ []) c t.kind (not_starting k.Equal (left_of i) t more both.0 is) (not_starting k.Differ (left_of i) t more both.1 is)

comparison_some : (rs : List Role) (c : Place) (kind : TokenKind) → (same kind k.Equal || same kind k.Differ) ≡ true → comparison_row rs c kind ≡ Some (rs, m.term c ∷ [])
comparison_some rs c k.Equal h = refl
comparison_some rs c k.Differ h = refl
comparison_some rs c kind h = absurd (cc h)

tail_compares : (wrong : Option FaultKind) (bytes : List ℕ) (i : Stream) (E : Environment) (f : Text) (c : Place) (s : Stack) → (starts k.Equal i || starts k.Differ i) ≡ true
    → fault_with wrong bytes i E (m.name_tail f c ∷ s) ≡ fault_with (sooner wrong (check E (m.compares f))) bytes i E (m.comparison c ∷ s)
tail_compares wrong bytes (end at) E f c s next = absurd (cc next)
tail_compares wrong bytes (bad at) E f c s next = absurd (cc next)
tail_compares wrong bytes (token t more) E f c s next =
    let later : Environment → Stack → Option Fault = λ F u. fault_from bytes more F u in
    moved wrong E t.from later (m.name_tail f c) s (word_of bytes t) (m.compares f ∷ [], m.term c ∷ []) (comparison_some (m.compares f ∷ []) c t.kind next)
    ∙ sym (moved (sooner wrong (check E (m.compares f))) E t.from later (m.comparison c) s (word_of bytes t) ([], m.term c ∷ []) (comparison_some [] c t.kind next))

-- a comparison stands behind a name and its arguments
pub compares_behind : (σ : Signature) (old new : Input) (f : Text) (c : Place) {wrong : Option FaultKind} → (starts k.Equal (left_of old) || starts k.Differ (left_of old)) ≡ true
    → new ≡ complained wrong old → wrong ≡ check (environment σ old.joints) (m.compares f) → (s : Stack) → fault_of σ old (m.name_tail f c ∷ s) ≡ fault_of σ new (m.comparison c ∷ s)
compares_behind σ old new f c next is wrong_is s =
    tail_compares old.pending old.bytes (left_of old) (environment σ old.joints) f c s next
    ∙ ap (λ w. fault_of σ (complained w old) (m.comparison c ∷ s)) (sym wrong_is) ∙ ap (λ i. fault_of σ i (m.comparison c ∷ s)) (sym is)

-- a sign was taken, and a term was read
pub comparison_read : {σ : Signature} {old mid new : Input} {t : Term} (r : Comparer) (read : ComparerRead) → comparer_of read ≡ r → words_left old ≡ mark (comparer_kind r) ∷ words_left mid
    → KeepsNames old mid → mid.bytes ≡ old.bytes → old.at ≤ mid.at → ReadTerm σ mid new t → ReadComparison σ old new (read, t)
comparison_read r read is text keeps bytes on q =
    enclosed comparison_words comparison_variables IsComparison (λ w. record { comparer = r; right = w }) (λ w. refl) keeps q
    (record { scope = refl }) (λ names one. (is, one)) (text ∙ ap (λ ws. mark (comparer_kind r) ∷ ws) q.text) bytes refl on (omega arith)

-- and what stands before it
compared_stands : (σ : Signature) (names : List Text) (w v : WrittenTerm) (t u : Term) (r : Comparer) (f : Form) → f ≡ comparer_form r t u → IsTerm σ names w t → IsTerm σ names v u
    → Stands σ names (compared r w v) f
compared_stands σ names w v t u r f is left right = (t, u, is, left, right)

pub compared_read : {σ : Signature} {old mid new : Input} {t : Term} {c : ComparerRead × Term} {f : Formula} → ReadTerm σ old mid t → ReadComparison σ mid new c
    → form_of f ≡ comparer_form (comparer_of c.0) t c.1 → ReadOperand 5 σ old new f
compared_read {σ} {t = t} {c = c} {f = f} left q is =
    both formula_words variables_in (IsOperand 5) (λ w v. compared v.comparer w v.right) (λ w v. refl) left q
    (λ names one two. record {
      strong = omega arith;
      levelled = tt;
      stands = compared_stands σ names left.written q.written.right t c.1 q.written.comparer (form_of f) (is ∙ ap (λ r. comparer_form r t c.1) two.0) one two.1;
    })
    (left.text ∙ ap (λ ws. term_words left.written ws) q.text)

-- behind a complaint
pub comparison_behind : {σ : Signature} {old mid new : Input} {c : ComparerRead × Term} → words_left old ≡ words_left mid → KeepsNames old mid → mid.bytes ≡ old.bytes → old.at ≤ mid.at
    → ReadComparison σ mid new c → ReadComparison σ old new c
comparison_behind text keeps bytes on q =
    enclosed comparison_words comparison_variables IsComparison (λ w. w) (λ w. refl) keeps q (record { scope = refl })
    (λ names is. is) (text ∙ q.text) bytes refl on (omega arith)

-- ---- an atom with one term in parentheses

-- its last parenthesis was read
pub wrapped_read : (make : WrittenTerm → WrittenFormula) → ((w : WrittenTerm) → variables_in (make w) ≡ variables_of w)
    → {σ : Signature} {old mid behind new : Input} {t : Term} {f : Formula} → KeepsNames old mid → mid.bytes ≡ old.bytes → old.at ≤ mid.at
    → (r : ReadTerm σ mid behind t) → TakesWord (m.plain k.RightParen) (mark k.RightParen) σ behind new
    → ((names : List Text) (w : WrittenTerm) → IsTerm σ names w t → IsOperand 5 σ names (make w) f)
    → ((w : WrittenTerm) → words_left mid ≡ term_words w (mark k.RightParen ∷ words_left new) → words_left old ≡ formula_words (make w) (words_left new))
    → ReadOperand 5 σ old new f
wrapped_read make variables_are keeps bytes on r last is text =
    enclosed formula_words variables_in (IsOperand 5) make variables_are keeps r last.keeps (λ names one. is names r.written one)
    (text r.written (r.text ∙ ap (λ ws. term_words r.written ws) last.words)) bytes last.bytes on (omega (arith, last.on))

-- ---- words that are atoms

truth_row : (value : Bool) (c : Place) (text : Text) → row (m.operand 5 c) (word (truth_kind value) text) ≡ Some ([], [])
truth_row true c text = refl
truth_row false c text = refl

truth_mark : (value : Bool) (text : Text) → word (truth_kind value) text ≡ mark (truth_kind value)
truth_mark true text = refl
truth_mark false text = refl

module _ (value : Bool) (kind : TokenKind) (is : kind ≡ truth_kind value) (σ : Signature) (p : PlaceRead) (old : Input) (next : starts kind (left_of old) ≡ true) where
  row_here : row (m.operand 5 (place_of old p)) (ahead kind old) ≡ Some ([], [])
  row_here = ap (λ of. row (m.operand 5 (place_of old p)) (ahead of old)) is ∙ truth_row value (place_of old p) (text_ahead old)

  pub truth_read : {new : Input} {f : Formula} → Takes None old new → KeepsNames old new → new.joints ≡ old.joints → form_of f ≡ truth_form value
      → Reads formula_words variables_in (IsOperand 5) (m.operand 5 (place_of old p)) σ old new f
  truth_read {new} takes keeps joints form = record {
    faults = took_plain kind next takes σ (m.operand 5 (place_of old p)) [] row_here joints;
    read = nothing_read formula_words variables_in (IsOperand 5) (truth value) refl keeps
        (λ names. record { strong = omega arith; levelled = tt; stands = form })
        (words_taken kind next takes ∙ ap (λ of. ahead of old ∷ words_left new) is ∙ ap (λ w. w ∷ words_left new) (truth_mark value (text_ahead old)))
        takes.bytes (omega (arith, takes.on));
  }

  pub truth_stopped : (e : ReadError) → Stops None old e → RefusesAt (m.operand 5 (place_of old p)) σ old e
  truth_stopped e stops = stopped_plain kind old next σ e stops (m.operand 5 (place_of old p)) [] row_here

-- ---- atoms that begin with a name or a variable

-- a variable was taken, and its comparison comes
pub variable_begins : (σ : Signature) (p : PlaceRead) (old new : Input) {wrong : Option FaultKind} → starts k.Variable (left_of old) ≡ true → Takes wrong old new
    → wrong ≡ check (environment σ old.joints) (m.stands (text_ahead old) (place_of old p)) → new.joints ≡ old.joints → new.scope.bound ≡ old.scope.bound
    → (s : Stack) → fault_of σ old (m.operand 5 (place_of old p) ∷ s) ≡ fault_of σ new (m.comparison (place_of new p) ∷ s)
variable_begins σ p old new next takes wrong_is joints bound s =
    took_in k.Variable next takes σ σ (m.operand 5 (place_of old p)) (m.stands (text_ahead old) (place_of old p)) (m.comparison (place_of old p) ∷ []) refl wrong_is
    (ap (environment σ) (sym joints)) s
    ∙ ap (λ c. fault_of σ new (m.comparison c ∷ s)) (sym (same_place old new p bound))

-- a name was taken, and its arguments come
pub name_begins : (σ : Signature) (p : PlaceRead) (old new : Input) (name : Text) {wrong : Option FaultKind} → starts k.Name (left_of old) ≡ true → name ≡ text_ahead old → Takes wrong old new
    → wrong ≡ check (environment σ old.joints) (m.begins_atom name) → new.joints ≡ old.joints → KeepsNames old new
    → (s : Stack) → fault_of σ old (m.operand 5 (place_of old p) ∷ s) ≡ fault_of σ new (m.arguments (named name) (place_of new p) ∷ m.name_tail name (place_of old p) ∷ s)
name_begins σ p old new name next name_is takes wrong_is joints keeps s =
    took_in k.Name next takes σ σ (m.operand 5 (place_of old p)) (m.begins_atom name) (m.arguments (named name) (place_of old p) ∷ m.name_tail name (place_of old p) ∷ [])
    (ap (λ f. row (m.operand 5 (place_of old p)) (word k.Name f)) (sym name_is)) wrong_is (ap (environment σ) (sym joints)) s
    ∙ ap (λ c. fault_of σ new (m.arguments (named name) c ∷ m.name_tail name (place_of old p) ∷ s)) (sym (kept_place p keeps))

-- a call was read, behind which nothing is compared
call_stands : (σ : Signature) (names : List Text) (f : Text) (ws : WrittenTerms) (ts : List Term) (g : Form) → g ≡ form.call (place_in σ f) ts → AreTerms σ names ws ts → Stands σ names (call f ws) g
call_stands σ names f ws ts g is are = (ts, is, are)

pub call_read : {σ : Signature} {old mid behind new : Input} {ts : Terms} {f : Formula} (name : Text) → words_left old ≡ word k.Name name ∷ words_left mid → KeepsNames old mid → mid.bytes ≡ old.bytes
    → old.at ≤ mid.at → ReadArguments σ mid behind ts → Complains behind new → form_of f ≡ form.call (place_in σ name) (list_of ts) → ReadOperand 5 σ old new f
call_read {σ} {ts = ts} {f = f} name text keeps bytes on r said is =
    enclosed formula_words variables_in (IsOperand 5) (λ ws. call name ws) (λ ws. refl) keeps r said.keeps
    (λ names are. record { strong = omega arith; levelled = tt; stands = call_stands σ names name r.written (list_of ts) (form_of f) is are })
    (text ∙ ap (λ ws. word k.Name name ∷ ws) (r.text ∙ ap (λ ws. arguments_words r.written ws) said.text)) bytes said.bytes on said.on

-- nothing that begins a formula stands here
unary_none : (c : Place) (kind : TokenKind) (text : Text) → same kind k.Tilde ≡ false → same kind k.«Exists» ≡ false → same kind k.Forall ≡ false → same kind k.LeftParen ≡ false
    → same kind k.«True» ≡ false → same kind k.«False» ≡ false → same kind k.Finite ≡ false → same kind k.Win ≡ false → same kind k.Name ≡ false → same kind k.Variable ≡ false
    → same kind k.Further ≡ false → unary_row c kind text ≡ None
unary_none c k.Tilde text h1 h2 h3 h4 h5 h6 h7 h8 h9 h10 h11 = absurd (cc h1)
unary_none c k.«Exists» text h1 h2 h3 h4 h5 h6 h7 h8 h9 h10 h11 = absurd (cc h2)
unary_none c k.Forall text h1 h2 h3 h4 h5 h6 h7 h8 h9 h10 h11 = absurd (cc h3)
unary_none c k.LeftParen text h1 h2 h3 h4 h5 h6 h7 h8 h9 h10 h11 = absurd (cc h4)
unary_none c k.«True» text h1 h2 h3 h4 h5 h6 h7 h8 h9 h10 h11 = absurd (cc h5)
unary_none c k.«False» text h1 h2 h3 h4 h5 h6 h7 h8 h9 h10 h11 = absurd (cc h6)
unary_none c k.Finite text h1 h2 h3 h4 h5 h6 h7 h8 h9 h10 h11 = absurd (cc h7)
unary_none c k.Win text h1 h2 h3 h4 h5 h6 h7 h8 h9 h10 h11 = absurd (cc h8)
unary_none c k.Name text h1 h2 h3 h4 h5 h6 h7 h8 h9 h10 h11 = absurd (cc h9)
unary_none c k.Variable text h1 h2 h3 h4 h5 h6 h7 h8 h9 h10 h11 = absurd (cc h10)
unary_none c k.Further text h1 h2 h3 h4 h5 h6 h7 h8 h9 h10 h11 = absurd (cc h11)
unary_none c kind text h1 h2 h3 h4 h5 h6 h7 h8 h9 h10 h11 = refl

-- the next token is of no such kind
abbrev pub Lacks : Input → TokenKind → Type 0
Lacks i kind = starts kind (left_of i) ≡ false

pub unary_blocked : (i : Input) (c : Place) → Lacks i k.Tilde → Lacks i k.«Exists» → Lacks i k.Forall → Lacks i k.LeftParen → Lacks i k.«True» → Lacks i k.«False» → Lacks i k.Finite
    → Lacks i k.Win → Lacks i k.Name → Lacks i k.Variable → Lacks i k.Further → Blocks (m.operand 5 c) i
unary_blocked i c h1 h2 h3 h4 h5 h6 h7 h8 h9 h10 h11 t more is =
    let none : (kind : TokenKind) → starts kind (left_of i) ≡ false → same t.kind kind ≡ false = λ kind h. not_starting kind (left_of i) t more h is in
    ap (λ o. option_map (λ turn. followed_by [] turn) o)
    (unary_none c t.kind _ (none k.Tilde h1) (none k.«Exists» h2) (none k.Forall h3) (none k.LeftParen h4) (none k.«True» h5) (none k.«False» h6) (none k.Finite h7) (none k.Win h8)
    (none k.Name h9) (none k.Variable h10) (none k.Further h11))
