-- Terms and their arguments are read by their words and parts.
use Rattle.std.proofs.Common.{◌≡◌, ℕ, suc, ◌≤◌, true, false, List, [], ◌∷◌, ◌++◌, Option, Some, None, refl, sym, ◌∙◌, ap, subst, append_assoc, arith}
use Rattle.std.proofs.lemmas.List.{append-nil}
use Rattle.std.specs.Prelude.{Result}
use Rattle.tree_model.specs.Signatures.{Signature}
use Rattle.formula_reader.specs.declared.error.ReadError.{ReadError}
use Rattle.formula_ast.specs.declared.term.Term.{Term}
use Rattle.formula_ast.specs.declared.term.Term.TheVariants as rust
use Rattle.formula_ast.specs.declared.term.Terms.{Terms}
use Rattle.formula_ast.specs.Terms.{list_of}
use Rattle.formula_ast.specs.Tokens.{Word}
use Rattle.formula_ast.specs.declared.token.TokenKind.{TokenKind}
use Rattle.formula_ast.specs.declared.token.TokenKind.TheVariants as k
use Rattle.formula_grammar.specs.declared.fault.FaultKind.{FaultKind}
use Rattle.formula_grammar.specs.Limits.{greatest_index}
use Rattle.formula_grammar.specs.Written.{Text, Head, further, WrittenTerm, variable, headed, WrittenTerms, no_terms, one_more}
use Rattle.formula_grammar.specs.Words.{same, mark, head_word, term_words, arguments_words, more_words}
use Rattle.formula_grammar.specs.Machine as m
use Rattle.formula_grammar.specs.Machine.{Place, Stack, deeper, row, term_row, heads}
use Rattle.formula_grammar.specs.Checks.{check, check_all, sooner, index_of}
use Rattle.formula_grammar.specs.Meaning.{variables_of, all_variables_of, number_in, IsTerm, AreTerms, head_symbol}
use Rattle.formula_reader.specs.declared.place.Place.{Place as PlaceRead}
use Rattle.formula_reader.specs.Input.{Input, Scope, added, left_of, words_left, starts, text_ahead, environment, place_of}
use Rattle.formula_reader.specs.Faults.{fault_of, Takes, Stops, RefusesAt, KeepsNames}
use Rattle.formula_reader.specs.Reads.{IsRead, AreArguments, IsHeaded, ParsesHeaded, ParsesTerm}
use Rattle.formula_reader.proofs.Steps.{ahead, words_taken, took, took_in, stopped, complained, taken_through, answers_as, refuses_before, Blocks, not_starting, within}
use Rattle.formula_reader.proofs.Reading.{same_place, kept_place, enclosed, both, nothing_read}

abbrev pub ReadTerm : Signature → Input → Input → Term → Type 0
ReadTerm σ old new t = IsRead term_words variables_of IsTerm σ old new t

abbrev pub ReadArguments : Signature → Input → Input → Terms → Type 0
ReadArguments σ old new ts = IsRead arguments_words all_variables_of AreArguments σ old new ts

abbrev pub ReadHeaded : Head → Signature → Input → Input → Term → Type 0
ReadHeaded h σ old new t = IsRead arguments_words all_variables_of (IsHeaded h) σ old new t

-- ---- one term

pub variable_read : {σ : Signature} {old new : Input} {wrong : Option FaultKind} {n : ℕ} → starts k.Variable (left_of old) ≡ true → Takes wrong old new
    → new.scope ≡ added old.scope (text_ahead old ∷ [])
    → ((more : List Text) → number_in (new.scope.names ++ more) (text_ahead old) ≡ n) → ReadTerm σ old new (rust.Var n)
variable_read {old = old} next takes scope number = record {
  written = variable (text_ahead old);
  text = words_taken k.Variable next takes;
  scope = scope;
  is = λ more. ap rust.Var (sym (number more));
  bytes = takes.bytes;
  on = omega (arith, takes.on);
}

-- the arguments of a head make a term
pub made_headed : {σ : Signature} {old new : Input} (h : Head) {ts : Terms} {t : Term} → ReadArguments σ old new ts → t ≡ rust.App (head_symbol σ h) ts → ReadHeaded h σ old new t
made_headed h {ts = ts} r is = record {
  written = r.written;
  text = r.text;
  scope = r.scope;
  is = λ more. (ts, is, r.is more);
  bytes = r.bytes;
  on = r.on;
}

-- its head was taken, and the arguments are read next
module _ (kind : TokenKind) (h : Head) (σ : Signature) {old mid : Input} {wrong : Option FaultKind} (next : starts kind (left_of old) ≡ true) (takes : Takes wrong old mid)
    (word_is : ahead kind old ≡ head_word h) (keeps : KeepsNames old mid) where
  pub head_taken : (x : m.Symbol) (c : Place) (rest : Stack) → row x (head_word h) ≡ Some (heads h ∷ [], m.arguments h c ∷ rest)
      → wrong ≡ check (environment σ old.joints) (heads h) → mid.joints ≡ old.joints
      → (s : Stack) → fault_of σ old (x ∷ s) ≡ fault_of σ mid (m.arguments h c ∷ rest ++ s)
  head_taken x c rest row_is wrong_is joints s =
      took_in kind next takes σ σ x (heads h) (m.arguments h c ∷ rest) (ap (row x) word_is ∙ row_is) wrong_is (ap (environment σ) (sym joints)) s

  pub headed_read : {new : Input} {t : Term} → ReadHeaded h σ mid new t → ReadTerm σ old new t
  headed_read {new} r =
      enclosed term_words variables_of IsTerm (λ ts. headed h ts) (λ ts. refl) keeps r (record { scope = refl })
      (λ names is. is) (words_taken kind next takes ∙ ap (λ w. w ∷ words_left mid) word_is ∙ ap (λ ws. head_word h ∷ ws) r.text)
      takes.bytes refl (omega (arith, takes.on)) (omega arith)

-- ---- arguments

-- the first argument, and more of them, which no parenthesis ends yet
pub record Opened : Type 0 where
  pub first : WrittenTerm
  pub more : WrittenTerms

abbrev pub all_of : Opened → WrittenTerms
all_of o = one_more o.first o.more

abbrev opened_words : Opened → List Word → List Word
opened_words o ws = mark k.LeftParen ∷ term_words o.first (more_words o.more ws)

abbrev opened_variables : Opened → List Text
opened_variables o = all_variables_of (all_of o)

abbrev AreOpened : Signature → List Text → Opened → List Term → Type 0
AreOpened σ names o ts = AreTerms σ names (all_of o) ts

abbrev pub ReadOpened : Signature → Input → Input → List Term → Type 0
ReadOpened σ old new ts = IsRead opened_words opened_variables AreOpened σ old new ts

-- one more behind
abbrev push : WrittenTerms → WrittenTerm → WrittenTerms
push no_terms t = one_more t no_terms
push (one_more u ts) t = one_more u (push ts t)

push_words : (ts : WrittenTerms) (t : WrittenTerm) (ws : List Word) → more_words (push ts t) ws ≡ more_words ts (mark k.Comma ∷ term_words t ws)
push_words no_terms t ws = refl
push_words (one_more u ts) t ws = ap (λ vs. mark k.Comma ∷ term_words u vs) (push_words ts t ws)

push_variables : (ts : WrittenTerms) (t : WrittenTerm) → all_variables_of (push ts t) ≡ all_variables_of ts ++ variables_of t
push_variables no_terms t = append-nil (variables_of t)
push_variables (one_more u ts) t =
    ap (λ xs. variables_of u ++ xs) (push_variables ts t) ∙ sym (append_assoc (variables_of u) (all_variables_of ts) (variables_of t))

push_are : (σ : Signature) (names : List Text) (w : WrittenTerm) (t : Term) (ws : WrittenTerms) (ts : List Term) → AreTerms σ names ws ts → IsTerm σ names w t
    → AreTerms σ names (push ws w) (ts ++ t ∷ [])
push_are σ names w t no_terms [] are is = (is, refl)
push_are σ names w t no_terms (u ∷ ts) are is = absurd (cc are)
push_are σ names w t (one_more v ws) [] are is = absurd are
push_are σ names w t (one_more v ws) (u ∷ ts) are is = (are.0, push_are σ names w t ws ts are.1 is)

-- a comma, and a term behind it
abbrev comma_words : WrittenTerm → List Word → List Word
comma_words t ws = mark k.Comma ∷ term_words t ws

module _ {σ : Signature} {start mid now : Input} {t : Term} where
  -- the parenthesis and the first argument were read
  pub opened_first : KeepsNames start mid → words_left start ≡ mark k.LeftParen ∷ words_left mid → mid.bytes ≡ start.bytes → start.at ≤ mid.at
      → ReadTerm σ mid now t → {ts : List Term} → ts ≡ t ∷ [] → ReadOpened σ start now ts
  opened_first keeps text bytes on r is =
      enclosed opened_words opened_variables AreOpened (λ w. record { first = w; more = no_terms })
      (λ w. append-nil (variables_of w)) keeps r (record { scope = refl })
      (λ names one. subst (λ us. AreTerms σ names (one_more r.written no_terms) us) (sym is) (one, refl))
      (text ∙ ap (λ ws. mark k.LeftParen ∷ ws) r.text) bytes refl on (omega arith)

  -- a comma and one more argument
  pub opened_next : {before : List Term} → ReadOpened σ start mid before → {comma : Input} → KeepsNames mid comma → words_left mid ≡ mark k.Comma ∷ words_left comma
      → comma.bytes ≡ mid.bytes → mid.at ≤ comma.at → ReadTerm σ comma now t → {ts : List Term} → ts ≡ before ++ t ∷ [] → ReadOpened σ start now ts
  opened_next {before} far {comma} keeps text bytes on r {ts} is =
      let one : IsRead comma_words variables_of IsTerm σ mid now t =
      enclosed comma_words variables_of IsTerm (λ w. w) (λ w. refl) keeps r (record { scope = refl }) (λ names one. one)
      (text ∙ ap (λ ws. mark k.Comma ∷ ws) r.text) bytes refl on (omega arith) in
      both opened_words opened_variables AreOpened (λ o w. record { first = o.first; more = push o.more w })
      (λ o w. push_variables (all_of o) w) far one
      (λ names are last. subst (λ us. AreTerms σ names (push (all_of far.written) r.written) us) (sym is) (push_are σ names r.written t (all_of far.written) before are last))
      (far.text ∙ ap (λ ws. opened_words far.written ws) one.text
      ∙ ap (λ ws. mark k.LeftParen ∷ term_words far.written.first ws) (sym (push_words far.written.more r.written (words_left now))))

-- the list was closed
pub opened_last : {σ : Signature} {start now new : Input} {ts : Terms} → ReadOpened σ start now (list_of ts) → KeepsNames now new → words_left now ≡ mark k.RightParen ∷ words_left new
    → new.bytes ≡ now.bytes → now.at ≤ new.at → ReadArguments σ start new ts
opened_last {new = new} far keeps text bytes on =
    enclosed arguments_words all_variables_of AreArguments (λ o. all_of o) (λ o. refl)
    (record { scope = refl }) far keeps (λ names are. are) (far.text ∙ ap (λ ws. opened_words far.written ws) text)
    refl bytes (omega arith) on

-- no arguments stand here
pub no_arguments_read : {σ : Signature} {old new : Input} {ts : Terms} → list_of ts ≡ [] → KeepsNames old new → words_left old ≡ words_left new → new.bytes ≡ old.bytes → old.at ≤ new.at
    → ReadArguments σ old new ts
no_arguments_read none keeps text bytes on =
    nothing_read arguments_words all_variables_of AreArguments no_terms refl keeps (λ names. none) text bytes on

-- ---- the first fault of arguments

-- a reader in a deeper nesting
pub at_inner : (old mid : Input) {p inner : PlaceRead} → mid.scope.bound ≡ old.scope.bound → inner ≡ record p { depth = suc p.depth }
    → place_of mid inner ≡ deeper (place_of old p)
at_inner old mid {p} {inner} same is = ap (λ q. place_of mid q) is ∙ same_place old mid (record p { depth = suc p.depth }) same

module _ (σ : Signature) (old : Input) (h : Head) (p : PlaceRead) {wrong : Option FaultKind} (next : starts k.LeftParen (left_of old) ≡ true)
    (wrong_is : wrong ≡ check (environment σ old.joints) (m.opens_arguments h)) where
  abbrev opening_turn : m.Turn
  opening_turn = (
    m.opens_arguments h ∷ m.opens (suc p.depth) ∷ [],
    m.term (deeper (place_of old p)) ∷ m.more_arguments h 1 (deeper (place_of old p)) ∷ m.plain k.RightParen ∷ [],
  )

  opening_wrong : check_all (environment σ old.joints) old.pending (m.opens_arguments h ∷ m.opens (suc p.depth) ∷ [])
      ≡ sooner (sooner old.pending wrong) (check (environment σ old.joints) (m.opens (suc p.depth)))
  opening_wrong = ap (λ w. sooner (sooner old.pending w) (check (environment σ old.joints) (m.opens (suc p.depth)))) (sym wrong_is)

  -- the parenthesis was taken
  pub arguments_open : {mid : Input} {inner : PlaceRead} → Takes (check (environment σ old.joints) (m.opens (suc p.depth))) (complained wrong old) mid
      → mid.joints ≡ old.joints → mid.scope ≡ old.scope → inner ≡ record p { depth = suc p.depth } → (s : Stack)
      → fault_of σ old (m.arguments h (place_of old p) ∷ s)
      ≡ fault_of σ mid (m.term (place_of mid inner) ∷ m.more_arguments h 1 (deeper (place_of old p)) ∷ m.plain k.RightParen ∷ s)
  arguments_open {mid} {inner} takes joints scope is s =
      took k.LeftParen next (taken_through wrong takes) σ σ (m.arguments h (place_of old p)) opening_turn refl
      (opening_wrong ∙ takes.right) (ap (environment σ) (sym joints)) s
      ∙ ap (λ q. fault_of σ mid (m.term q ∷ m.more_arguments h 1 (deeper (place_of old p)) ∷ m.plain k.RightParen ∷ s))
      (sym (at_inner old mid (ap (λ (scope : Scope). scope.bound) scope) is))

  -- or not
  pub arguments_stopped : (e : ReadError) → Stops (check (environment σ old.joints) (m.opens (suc p.depth))) (complained wrong old) e
      → RefusesAt (m.arguments h (place_of old p)) σ old e
  arguments_stopped e stops =
      stopped k.LeftParen old next σ (sooner (sooner old.pending wrong) (check (environment σ old.joints) (m.opens (suc p.depth)))) e stops (m.arguments h (place_of old p)) opening_turn refl opening_wrong

-- the head of a term was taken, and what its arguments answer is handed on
pub headed_answers : (kind : TokenKind) (h : Head) (σ : Signature) (old mid new : Input) {wrong : Option FaultKind} (p : PlaceRead) (r : Result Term ReadError)
    → starts kind (left_of old) ≡ true → Takes wrong old mid → ahead kind old ≡ head_word h → KeepsNames old mid
    → ((c : Place) → row (m.term c) (head_word h) ≡ Some (heads h ∷ [], m.arguments h c ∷ []))
    → wrong ≡ check (environment σ old.joints) (heads h) → mid.joints ≡ old.joints
    → ParsesHeaded h p r σ mid new → ParsesTerm p r σ old new
headed_answers kind h σ old mid new p r next takes word_is keeps row_is wrong_is joints answer =
    answers_as _ _ _ _ r
    (λ t read. record { faults = λ s. front s ∙ read.faults s; read = headed_read kind h σ next takes word_is keeps read.read })
    (λ e refuses s. refuses_before e (front s) (refuses s)) answer
  where
    front : (s : Stack) → fault_of σ old (m.term (place_of old p) ∷ s) ≡ fault_of σ mid (m.arguments h (place_of mid p) ∷ s)
    front s =
        head_taken kind h σ next takes word_is keeps (m.term (place_of old p)) (place_of old p) [] (row_is (place_of old p)) wrong_is joints s
        ∙ ap (λ c. fault_of σ mid (m.arguments h c ∷ s)) (sym (kept_place p keeps))

-- nothing that begins a term stands here
term_row_none : (c : Place) (kind : TokenKind) (text : Text) → same kind k.Variable ≡ false → same kind k.Name ≡ false → same kind k.Further ≡ false → term_row c kind text ≡ None
term_row_none c k.Variable text v n f = absurd (cc v)
term_row_none c k.Name text v n f = absurd (cc n)
term_row_none c k.Further text v n f = absurd (cc f)
term_row_none c kind text v n f = refl

pub term_blocked : (i : Input) (c : Place) → starts k.Variable (left_of i) ≡ false → starts k.Name (left_of i) ≡ false → starts k.Further (left_of i) ≡ false → Blocks (m.term c) i
term_blocked i c v n f u more is =
    term_row_none c u.kind _ (not_starting k.Variable (left_of i) u more v is) (not_starting k.Name (left_of i) u more n is) (not_starting k.Further (left_of i) u more f is)

-- the index of a further symbol with which nothing is wrong fits its type
pub index_fits : (σ : Signature) (n : ℕ) (pending wrong : Option FaultKind) {i : Text} → wrong ≡ check (environment σ n) (heads (further i)) → sooner pending wrong ≡ None
    → (text : Text) → further i ≡ further text → index_of text ≤ 18446744073709551615
index_fits σ n pending wrong {i} is right text same =
    subst (λ (u : Text). index_of u ≤ 18446744073709551615) {x = i} {y = text} (cc same) (within pending wrong (index_of i) greatest_index is right)
