-- Formulas are read by their operands and signs.
use Rattle.std.proofs.Common.{◌≡◌, ℕ, suc, ◌+◌, ◌≤◌, ◌<◌, true, false, List, [], ◌∷◌, ◌++◌, length, map, drop, take, Option, Some, None, refl, sym, ◌∙◌, ap, subst, append_assoc, add-one, length-append, arith}
use Rattle.std.specs.Prelude.{Result, Ok, Err, OnOk, IfOk, IfErr, MatchResult, if◌then◌else◌}
use Rattle.std.specs.Option.{option_map}
use Rattle.tree_model.specs.Signatures.{Signature}
use Rattle.formula_ast.specs.Forms as form
use Rattle.formula_ast.specs.Forms.{Form, form_of}
use Rattle.formula_ast.specs.Tokens.{Stream, end, bad, token, Word}
use Rattle.formula_ast.specs.declared.token.TokenKind.{TokenKind}
use Rattle.formula_ast.specs.declared.token.TokenKind.TheVariants as k
use Rattle.formula_ast.specs.declared.formula.Formula.{Formula}
use Rattle.formula_grammar.specs.declared.fault.Fault.{Fault}
use Rattle.formula_grammar.specs.declared.fault.FaultKind.{FaultKind}
use Rattle.formula_grammar.specs.Written.{Text, Joint, and, or, imp, iff, Quantifier, WrittenFormula, no, group, joined, quantified}
use Rattle.formula_grammar.specs.Words.{same, mark, word, sign, quantifier_kind, word_of, variables_words, formula_words}
use Rattle.formula_grammar.specs.Grammar.{strength, left, right}
use Rattle.formula_grammar.specs.Machine as m
use Rattle.formula_grammar.specs.Machine.{Place, Stack, Symbol, Role, Turn, deeper, binding, tails, unary_row, variables_row, followed_by, turned, row}
use Rattle.formula_grammar.specs.Checks.{Environment, check, check_all, update_all, sooner}
use Rattle.formula_grammar.specs.FirstFault.{fault_from}
use Rattle.formula_grammar.specs.Meaning.{variables_in, first_occurrences, number_in, Stands, joint_form, quantifier_form, behind}
use Rattle.formula_reader.specs.declared.error.ReadError.{ReadError}
use Rattle.formula_reader.specs.declared.error.ReadError.TheVariants.{Refused, NoMemory}
use Rattle.formula_reader.specs.declared.place.Place.{Place as PlaceRead}
use Rattle.formula_reader.specs.Input.{Input, Scope, added, left_of, words_left, starts, text_ahead, environment, place_of}
use Rattle.formula_reader.specs.Kinds.{chains, nests}
use Rattle.formula_reader.specs.Faults.{fault_of, fault_with, move_with, Takes, TakesWord, Stops, RefusesAt, KeepsNames}
use Rattle.formula_reader.specs.Reads.{IsRead, IsOperand, Bound, bound_words, bound_variables, IsQuantified, ReadsSign}
use Rattle.formula_reader.proofs.Steps.{ahead, words_taken, only_itself, took, took_in, took_plain, stopped, stopped_in, plainly, nothing_more, skipped, blocked, Blocks, not_starting}
use Rattle.formula_reader.proofs.Rooms.{room, less}
use Rattle.formula_reader.proofs.NamesRead.{first_append}
use Rattle.formula_reader.proofs.Reading.{kept_place, enclosed, both}
use Rattle.formula_reader.proofs.TermReading.{at_inner}
use Rattle.formula_reader.proofs.AtomReading.{ReadOperand}

abbrev pub ReadQuantified : Quantifier → Signature → Input → Input → Formula → Type 0
ReadQuantified q σ old new f = IsRead bound_words bound_variables (IsQuantified q) σ old new f

-- ---- an operand is one of the next level, and what may be joined to it

stacks_same : (a b : Stack) (x : Symbol) (s t : Stack) → a ≡ b ++ x ∷ [] → (t ++ a) ++ s ≡ (t ++ b) ++ x ∷ s
stacks_same a b x s t e =
    append_assoc t a s ∙ ap (λ u. t ++ (u ++ s)) e ∙ ap (λ u. t ++ u) (append_assoc b (x ∷ []) s) ∙ sym (append_assoc t b (x ∷ s))

last_tail : (j : Joint) (c : Place) → tails (strength j) c ≡ tails (suc (strength j)) c ++ m.tail j c ∷ []
last_tail and c = refl
last_tail or c = refl
last_tail imp c = refl
last_tail iff c = refl

module _ (n : ℕ) (c : Place) (x : Symbol) (e : tails n c ≡ tails (suc n) c ++ x ∷ []) (s : Stack) where
  level_moves : (wrong : Option FaultKind) (E : Environment) (at : ℕ) (later : Environment → Stack → Option Fault) (o : Option Turn)
      → move_with wrong E at later (turned (option_map (λ turn. followed_by (tails n c) turn) o) s m.refused)
      ≡ move_with wrong E at later (turned (option_map (λ turn. followed_by (tails (suc n) c) turn) o) (x ∷ s) m.refused)
  level_moves wrong E at later None = refl
  level_moves wrong E at later (Some turn) =
      ap (λ u. move_with wrong E at later (m.goes turn.0 u)) (stacks_same (tails n c) (tails (suc n) c) x s turn.1 e)

  level_from : (wrong : Option FaultKind) (bytes : List ℕ) (i : Stream) (E : Environment)
      → fault_with wrong bytes i E (m.operand n c ∷ s) ≡ fault_with wrong bytes i E (m.operand (suc n) c ∷ x ∷ s)
  level_from wrong bytes (end at) E = refl
  level_from wrong bytes (bad at) E = refl
  level_from wrong bytes (token t more) E =
      level_moves wrong E t.from (λ F u. fault_from bytes more F u) (unary_row c (word_of bytes t).kind (word_of bytes t).text)

pub operand_level : (σ : Signature) (i : Input) (j : Joint) (n : ℕ) (c : Place) → strength j ≡ n → (s : Stack)
    → fault_of σ i (m.operand n c ∷ s) ≡ fault_of σ i (m.operand (n + 1) c ∷ m.tail j c ∷ s)
operand_level σ i j n c is s =
    subst (λ l. fault_of σ i (m.operand l c ∷ s) ≡ fault_of σ i (m.operand (suc l) c ∷ m.tail j c ∷ s)) {x = strength j} {y = n} is
    (level_from (strength j) c (m.tail j c) (last_tail j c) s i.pending i.bytes (left_of i) (environment σ i.joints))
    ∙ ap (λ l. fault_of σ i (m.operand l c ∷ m.tail j c ∷ s)) (sym (add-one n))

-- nothing more is joined
pub tail_passes : (σ : Signature) (i : Input) (j : Joint) (c : Place) → starts (sign j) (left_of i) ≡ false → (s : Stack) → fault_of σ i (m.tail j c ∷ s) ≡ fault_of σ i s
tail_passes σ i j c fails s = skipped σ i (m.tail j c) refl (blocked (sign j) i (m.tail j c) fails (λ t other. only_none t.kind (sign j) _ other)) s
  where
    only_none : (kind asked : TokenKind) (turn : Turn) → same kind asked ≡ false → m.only kind asked turn ≡ None
    only_none kind asked turn other = ap (λ b. if b then Some turn else None) other

-- ---- levels

pub level_bounds : (j : Joint) → (1 ≤ strength j) × (strength j ≤ 4) × (1 ≤ right j) × (right j ≤ 5) × (left j ≤ suc (strength j)) × (strength j ≤ left j)
level_bounds and = (omega arith, omega arith, omega arith, omega arith, omega arith, omega arith)
level_bounds or = (omega arith, omega arith, omega arith, omega arith, omega arith, omega arith)
level_bounds imp = (omega arith, omega arith, omega arith, omega arith, omega arith, omega arith)
level_bounds iff = (omega arith, omega arith, omega arith, omega arith, omega arith, omega arith)

pub chain_left : (j : Joint) → chains j ≡ true → left j ≡ strength j
chain_left and h = refl
chain_left or h = refl
chain_left imp h = absurd (cc h)
chain_left iff h = absurd (cc h)

pub weaker : {m n : ℕ} {σ : Signature} {old new : Input} {f : Formula} → m ≤ n → ReadOperand n σ old new f → ReadOperand m σ old new f
weaker {m} {n} le r = record {
  written = r.written;
  text = r.text;
  scope = r.scope;
  is = λ more. record { strong = omega (arith, le, (r.is more).strong); levelled = (r.is more).levelled; stands = (r.is more).stands };
  bytes = r.bytes;
  on = r.on;
}

-- ---- joints

joint_stands : (σ : Signature) (names : List Text) (j : Joint) (v w : WrittenFormula) (f g h : Form) → h ≡ joint_form j f g → Stands σ names v f → Stands σ names w g
    → Stands σ names (joined j v w) h
joint_stands σ names j v w f g h is a b = (f, g, is, a, b)

abbrev signed_words : Joint → WrittenFormula → List Word → List Word
signed_words j w ws = mark (sign j) ∷ formula_words w ws

pub joined_read : (j : Joint) {σ : Signature} {old mid one new : Input} {f g h : Formula} → ReadOperand (left j) σ old mid f → words_left mid ≡ mark (sign j) ∷ words_left one
    → KeepsNames mid one → one.bytes ≡ mid.bytes → mid.at ≤ one.at → ReadOperand (right j) σ one new g → form_of h ≡ joint_form j (form_of f) (form_of g)
    → ReadOperand (strength j) σ old new h
joined_read j {σ} {old} {mid} {one} {new} {f} {g} {h} a text keeps bytes on b is =
    let signed : IsRead (signed_words j) variables_in (IsOperand (right j)) σ mid new g =
    enclosed (signed_words j) variables_in (IsOperand (right j)) (λ w. w) (λ w. refl) keeps b (record { scope = refl }) (λ names two. two)
    (text ∙ ap (λ ws. mark (sign j) ∷ ws) b.text) bytes refl on (omega arith) in
    both formula_words variables_in (IsOperand (strength j)) (λ v w. joined j v w) (λ v w. refl) a signed
    (λ names one two. record {
      strong = omega arith;
      levelled = (one.strong, two.strong, one.levelled, two.levelled);
      stands = joint_stands σ names j a.written b.written (form_of f) (form_of g) (form_of h) is one.stands two.stands;
    })
    (a.text ∙ ap (λ ws. formula_words a.written ws) signed.text)

pub again_more : (j : Joint) (c : Place) → chains j ≡ true → m.again j c ≡ m.tail j c ∷ []
again_more and c h = refl
again_more or c h = refl
again_more imp c h = absurd (cc h)
again_more iff c h = absurd (cc h)

pub again_none : (j : Joint) (c : Place) → chains j ≡ false → m.again j c ≡ []
again_none and c h = absurd (cc h)
again_none or c h = absurd (cc h)
again_none imp c h = refl
again_none iff c h = refl

-- ---- signs

sign_mark : (j : Joint) (text : Text) → word (sign j) text ≡ mark (sign j)
sign_mark and text = refl
sign_mark or text = refl
sign_mark imp text = refl
sign_mark iff text = refl

module _ (j : Joint) (p : PlaceRead) (σ : Signature) (old : Input) (next : starts (sign j) (left_of old) ≡ true) (rs : List Role) (c : Place)
    (roles_are : m.sign_roles j (place_of old p) ≡ rs) (place_is : m.right_place j (place_of old p) ≡ c) where
  sign_row : row (m.tail j (place_of old p)) (ahead (sign j) old) ≡ Some (rs, m.operand (right j) c ∷ m.again j (place_of old p))
  sign_row =
      only_itself (sign j) ∙ ap (λ us. Some (us, m.operand (right j) (m.right_place j (place_of old p)) ∷ m.again j (place_of old p))) roles_are
      ∙ ap (λ d. Some (rs, m.operand (right j) d ∷ m.again j (place_of old p))) place_is

  sign_read : {new : Input} {inner : PlaceRead} {wrong : Option FaultKind} → Takes wrong old new → check_all (environment σ old.joints) old.pending rs ≡ None
      → update_all (environment σ old.joints) rs ≡ environment σ new.joints → KeepsNames old new → place_of new inner ≡ c → inner.depth ≤ 200 → ReadsSign j p σ old new inner
  sign_read {new} takes right_is becomes keeps inner_is depth = record {
    faults = λ s. took (sign j) next takes σ σ (m.tail j (place_of old p)) (rs, m.operand (right j) c ∷ m.again j (place_of old p)) sign_row right_is becomes s
        ∙ ap (λ d. fault_of σ new (m.operand (right j) d ∷ m.again j (place_of old p) ++ s)) (sym inner_is);
    text = words_taken (sign j) next takes ∙ ap (λ w. w ∷ words_left new) (sign_mark j (text_ahead old));
    keeps = keeps;
    bytes = takes.bytes;
    on = takes.on;
    depth = depth;
  }

  sign_stopped : (e : ReadError) (wrong : Option FaultKind) → Stops wrong old e → check_all (environment σ old.joints) old.pending rs ≡ sooner old.pending wrong
      → RefusesAt (m.tail j (place_of old p)) σ old e
  sign_stopped e wrong stops checked =
      stopped (sign j) old next σ (sooner old.pending wrong) e stops (m.tail j (place_of old p)) (rs, m.operand (right j) c ∷ m.again j (place_of old p)) sign_row checked

chain_roles : (j : Joint) (c : Place) → chains j ≡ true → (m.sign_roles j c ≡ m.joins ∷ []) × (m.right_place j c ≡ c)
chain_roles and c h = (refl, refl)
chain_roles or c h = (refl, refl)
chain_roles imp c h = absurd (cc h)
chain_roles iff c h = absurd (cc h)

nest_roles : (j : Joint) (c : Place) → nests j ≡ true → (m.sign_roles j c ≡ m.opens (suc c.depth) ∷ []) × (m.right_place j c ≡ deeper c)
nest_roles imp c h = (refl, refl)
nest_roles and c h = absurd (cc h)
nest_roles or c h = absurd (cc h)
nest_roles iff c h = absurd (cc h)

no_roles : (j : Joint) (c : Place) → chains j ≡ false → nests j ≡ false → (m.sign_roles j c ≡ []) × (m.right_place j c ≡ c)
no_roles iff c h n = (refl, refl)
no_roles and c h n = absurd (cc h)
no_roles or c h n = absurd (cc h)
no_roles imp c h n = absurd (cc n)

-- `&` or `|`,
pub chain_read : (j : Joint) (p : PlaceRead) (σ : Signature) (old new : Input) → chains j ≡ true → starts (sign j) (left_of old) ≡ true
    → Takes (check (environment σ old.joints) m.joins) old new → new.joints ≡ suc old.joints → KeepsNames old new → p.depth ≤ 200 → ReadsSign j p σ old new p
chain_read j p σ old new h next takes joints keeps depth =
    let is = chain_roles j (place_of old p) h in
    sign_read j p σ old next (m.joins ∷ []) (place_of old p) is.0 is.1 takes takes.right (ap (environment σ) (sym joints)) keeps (kept_place p keeps) depth

pub chain_stopped : (j : Joint) (p : PlaceRead) (σ : Signature) (old : Input) → chains j ≡ true → starts (sign j) (left_of old) ≡ true → (e : ReadError)
    → Stops (check (environment σ old.joints) m.joins) old e → RefusesAt (m.tail j (place_of old p)) σ old e
chain_stopped j p σ old h next e stops =
    let is = chain_roles j (place_of old p) h in
    sign_stopped j p σ old next (m.joins ∷ []) (place_of old p) is.0 is.1 e (check (environment σ old.joints) m.joins) stops refl

-- `->`,
pub nest_answers : (j : Joint) (p : PlaceRead) (σ : Signature) (old new : Input) (r : Result PlaceRead ReadError) → nests j ≡ true → starts (sign j) (left_of old) ≡ true
    → ((E : Environment) → OnOk r (Takes (check E (m.opens (suc p.depth))) old new)) → OnOk r (KeepsNames old new) → OnOk r (new.joints ≡ old.joints)
    → IfOk r (λ inner. inner ≡ record p { depth = suc p.depth }) → IfOk r (λ inner. inner.depth ≤ 200)
    → ((E : Environment) → IfErr r (λ e. Stops (check E (m.opens (suc p.depth))) old e))
    → MatchResult r (λ inner. ReadsSign j p σ old new inner) (λ e. RefusesAt (m.tail j (place_of old p)) σ old e)
nest_answers j p σ old new (Ok inner) h next takes keeps joints is depth stops =
    let roles = nest_roles j (place_of old p) h in
    let took_it = takes (environment σ old.joints) in
    sign_read j p σ old next (m.opens (suc p.depth) ∷ []) (deeper (place_of old p)) roles.0 roles.1 took_it took_it.right (ap (environment σ) (sym joints)) keeps
    (at_inner old new (ap (λ (scope : Scope). scope.bound) keeps.scope) is) depth
nest_answers j p σ old new (Err e) h next takes keeps joints is depth stops =
    let roles = nest_roles j (place_of old p) h in
    sign_stopped j p σ old next (m.opens (suc p.depth) ∷ []) (deeper (place_of old p)) roles.0 roles.1 e (check (environment σ old.joints) (m.opens (suc p.depth)))
    (stops (environment σ old.joints)) refl

-- and `<->`
pub plain_read : (j : Joint) (p : PlaceRead) (σ : Signature) (old new : Input) → chains j ≡ false → nests j ≡ false → starts (sign j) (left_of old) ≡ true → Takes None old new
    → new.joints ≡ old.joints → KeepsNames old new → p.depth ≤ 200 → ReadsSign j p σ old new p
plain_read j p σ old new h n next takes joints keeps depth =
    let is = no_roles j (place_of old p) h n in
    sign_read j p σ old next [] (place_of old p) is.0 is.1 takes (plainly old.pending takes.right) (ap (environment σ) (sym joints)) keeps (kept_place p keeps) depth

pub plain_stopped : (j : Joint) (p : PlaceRead) (σ : Signature) (old : Input) → chains j ≡ false → nests j ≡ false → starts (sign j) (left_of old) ≡ true → (e : ReadError) → Stops None old e
    → RefusesAt (m.tail j (place_of old p)) σ old e
plain_stopped j p σ old h n next e stops =
    let is = no_roles j (place_of old p) h n in
    sign_stopped j p σ old next [] (place_of old p) is.0 is.1 e None stops (nothing_more old.pending)

-- ---- what is made of memory that may be wanting

pub made : {A : Type 0} {P F : A → Type 0} (x : Symbol) (σ : Signature) (old : Input) (r : Result A ReadError) → IfErr r (λ e. e ≡ NoMemory) → IfOk r F → ((v : A) → F v → P v)
    → MatchResult r P (λ e. RefusesAt x σ old e)
made x σ old (Ok v) none f p = p v f
made x σ old (Err NoMemory) none f p = λ s. tt
made x σ old (Err (Refused fault)) none f p = absurd (cc none)

-- ---- what opens a nesting

module _ (kind : TokenKind) (σ : Signature) (old : Input) (p : PlaceRead) (next : starts kind (left_of old) ≡ true) (x : Place → Symbol) (rest : Stack)
    (row_is : row (m.operand 5 (place_of old p)) (ahead kind old) ≡ Some (m.opens (suc p.depth) ∷ [], x (deeper (place_of old p)) ∷ rest)) where
  pub nested : {mid : Input} {inner : PlaceRead} → ((E : Environment) → Takes (check E (m.opens (suc p.depth))) old mid) → mid.joints ≡ old.joints → mid.scope ≡ old.scope
      → inner ≡ record p { depth = suc p.depth } → (s : Stack) → fault_of σ old (m.operand 5 (place_of old p) ∷ s) ≡ fault_of σ mid (x (place_of mid inner) ∷ rest ++ s)
  nested {mid} takes joints scope is s =
      took_in kind next (takes (environment σ old.joints)) σ σ (m.operand 5 (place_of old p)) (m.opens (suc p.depth)) (x (deeper (place_of old p)) ∷ rest) row_is refl
      (ap (environment σ) (sym joints)) s
      ∙ ap (λ c. fault_of σ mid (x c ∷ rest ++ s)) (sym (at_inner old mid (ap (λ (scope : Scope). scope.bound) scope) is))

  pub not_nested : (e : ReadError) → ((E : Environment) → Stops (check E (m.opens (suc p.depth))) old e) → RefusesAt (m.operand 5 (place_of old p)) σ old e
  not_nested e stops =
      stopped_in kind old next σ e (stops (environment σ old.joints)) (m.operand 5 (place_of old p)) (m.opens (suc p.depth)) (x (deeper (place_of old p)) ∷ rest) row_is refl

no_stands : (σ : Signature) (names : List Text) (w : WrittenFormula) (f g : Form) → g ≡ form.no f → Stands σ names w f → Stands σ names (no w) g
no_stands σ names w f g is a = (f, is, a)

pub no_read : {σ : Signature} {old mid new : Input} {f g : Formula} → words_left old ≡ mark k.Tilde ∷ words_left mid → KeepsNames old mid → mid.bytes ≡ old.bytes → old.at ≤ mid.at
    → ReadOperand 5 σ mid new f → form_of g ≡ form.no (form_of f) → ReadOperand 5 σ old new g
no_read {σ} {f = f} {g = g} text keeps bytes on r is =
    enclosed formula_words variables_in (IsOperand 5) (λ w. no w) (λ w. refl) keeps r (record { scope = refl })
    (λ names one. record {
      strong = omega arith;
      levelled = (one.strong, one.levelled);
      stands = no_stands σ names r.written (form_of f) (form_of g) is one.stands;
    })
    (text ∙ ap (λ ws. mark k.Tilde ∷ ws) r.text) bytes refl on (omega arith)

pub group_read : {σ : Signature} {old mid behind new : Input} {f : Formula} → words_left old ≡ mark k.LeftParen ∷ words_left mid → KeepsNames old mid → mid.bytes ≡ old.bytes → old.at ≤ mid.at
    → ReadOperand 1 σ mid behind f → TakesWord (m.plain k.RightParen) (mark k.RightParen) σ behind new → ReadOperand 5 σ old new f
group_read text keeps bytes on r last =
    enclosed formula_words variables_in (IsOperand 5) (λ w. group w) (λ w. refl) keeps r last.keeps
    (λ names one. record { strong = omega arith; levelled = one.levelled; stands = one.stands })
    (text ∙ ap (λ ws. mark k.LeftParen ∷ ws) (r.text ∙ ap (λ ws. formula_words r.written ws) last.words)) bytes last.bytes on (omega (arith, last.on))

pub quantified_read : (q : Quantifier) {σ : Signature} {old mid new : Input} {f : Formula} → words_left old ≡ mark (quantifier_kind q) ∷ words_left mid → KeepsNames old mid → mid.bytes ≡ old.bytes
    → old.at ≤ mid.at → ReadQuantified q σ mid new f → ReadOperand 5 σ old new f
quantified_read q text keeps bytes on r =
    enclosed formula_words variables_in (IsOperand 5) (λ b. quantified q b.first b.more b.body) (λ b. refl) keeps r (record { scope = refl })
    (λ names one. one) (text ∙ ap (λ ws. mark (quantifier_kind q) ∷ ws) r.text) bytes refl on (omega arith)

-- ---- the variables of a quantifier

-- so many variables were bound
pub record Binds (σ : Signature) (p : PlaceRead) (old now : Input) : Type 0 where
  pub first : Text
  pub more : List Text
  pub faults : (s : Stack) → fault_of σ old (m.bound_variable (place_of old p) ∷ s) ≡ fault_of σ now (m.more_variables (place_of now p) ∷ s)
  pub text : words_left old ≡ word k.Variable first ∷ variables_words more (words_left now)
  pub scope : now.scope ≡ record { names = first_occurrences old.scope.names (first ∷ more); bound = old.scope.bound ++ first ∷ more }
  pub bytes : now.bytes ≡ old.bytes
  pub on : old.at ≤ now.at
  pub less : room now < room old

more_words : (xs : List Text) (x : Text) (ws : List Word) → variables_words (xs ++ x ∷ []) ws ≡ variables_words xs (word k.Variable x ∷ ws)
more_words [] x ws = refl
more_words (y ∷ xs) x ws = ap (λ vs. word k.Variable y ∷ vs) (more_words xs x ws)

-- the next variable was bound, where a symbol is expected that takes it
module _ (σ : Signature) (p : PlaceRead) (old new : Input) (next : starts k.Variable (left_of old) ≡ true)
    (takes : (τ : Signature) → Takes (check (environment τ old.joints) (m.binds (text_ahead old))) old new) (joints : new.joints ≡ suc old.joints)
    (scope : new.scope ≡ record { names = first_occurrences old.scope.names (text_ahead old ∷ []); bound = old.scope.bound ++ text_ahead old ∷ [] }) where
  binds_next : (x : Symbol) → row x (ahead k.Variable old) ≡ Some (m.binds (text_ahead old) ∷ [], m.more_variables (binding (text_ahead old) (place_of old p)) ∷ [])
      → (s : Stack) → fault_of σ old (x ∷ s) ≡ fault_of σ new (m.more_variables (place_of new p) ∷ s)
  binds_next x row_is s =
      took_in k.Variable next (takes σ) σ σ x (m.binds (text_ahead old)) (m.more_variables (binding (text_ahead old) (place_of old p)) ∷ []) row_is refl (ap (environment σ) (sym joints)) s
      ∙ ap (λ (of : Scope). fault_of σ new (m.more_variables (record { depth = p.depth; bound = of.bound; closed = p.closed }) ∷ s)) (sym scope)

  pub first_bound : Binds σ p old new
  first_bound = record {
    first = text_ahead old;
    more = [];
    faults = binds_next (m.bound_variable (place_of old p)) refl;
    text = words_taken k.Variable next (takes σ);
    scope = scope;
    bytes = (takes σ).bytes;
    on = omega (arith, (takes σ).on);
    less = less (takes σ);
  }

  pub next_bound : {start : Input} → Binds σ p start old → Binds σ p start new
  next_bound {start} far =
      let further = less (takes σ) in
      record {
        first = far.first;
        more = far.more ++ text_ahead old ∷ [];
        faults = λ s. far.faults s ∙ binds_next (m.more_variables (place_of old p)) refl s;
        text = far.text ∙ ap (λ ws. word k.Variable far.first ∷ variables_words far.more ws) (words_taken k.Variable next (takes σ))
            ∙ ap (λ ws. word k.Variable far.first ∷ ws) (sym (more_words far.more (text_ahead old) (words_left new)));
        scope = scope
            ∙ ap (λ (of : Scope). record { names = first_occurrences of.names (text_ahead old ∷ []); bound = of.bound ++ text_ahead old ∷ [] }) far.scope
            ∙ ap (λ names. record { names = names; bound = (start.scope.bound ++ far.first ∷ far.more) ++ text_ahead old ∷ [] })
            (sym (first_append start.scope.names (far.first ∷ far.more) (text_ahead old ∷ [])))
            ∙ ap (λ bound. record { names = first_occurrences start.scope.names (far.first ∷ far.more ++ text_ahead old ∷ []); bound = bound })
            (append_assoc start.scope.bound (far.first ∷ far.more) (text_ahead old ∷ []));
        bytes = (takes σ).bytes ∙ far.bytes;
        on = omega (arith, far.on, (takes σ).on);
        less = omega (arith, further, far.less);
      }

pub not_bound : (σ : Signature) (p : PlaceRead) (old : Input) → starts k.Variable (left_of old) ≡ true → (x : Symbol) (e : ReadError)
    → ((τ : Signature) → Stops (check (environment τ old.joints) (m.binds (text_ahead old))) old e)
    → row x (ahead k.Variable old) ≡ Some (m.binds (text_ahead old) ∷ [], m.more_variables (binding (text_ahead old) (place_of old p)) ∷ []) → RefusesAt x σ old e
not_bound σ p old next x e stops row_is =
    stopped_in k.Variable old next σ e (stops σ) x (m.binds (text_ahead old)) (m.more_variables (binding (text_ahead old) (place_of old p)) ∷ []) row_is refl

variables_none : (c : Place) (kind : TokenKind) (text : Text) → same kind k.Variable ≡ false → same kind k.Colon ≡ false → variables_row c kind text ≡ None
variables_none c k.Variable text v d = absurd (cc v)
variables_none c k.Colon text v d = absurd (cc d)
variables_none c kind text v d = refl

pub variables_blocked : (i : Input) (c : Place) → starts k.Variable (left_of i) ≡ false → starts k.Colon (left_of i) ≡ false → Blocks (m.more_variables c) i
variables_blocked i c v d t more is = variables_none c t.kind _ (not_starting k.Variable (left_of i) t more v is) (not_starting k.Colon (left_of i) t more d is)

pub colon_taken : (σ : Signature) (p : PlaceRead) (old new : Input) → starts k.Colon (left_of old) ≡ true → Takes None old new → KeepsNames old new → new.joints ≡ old.joints
    → (s : Stack) → fault_of σ old (m.more_variables (place_of old p) ∷ s) ≡ fault_of σ new (m.operand 5 (place_of new p) ∷ s)
colon_taken σ p old new next takes keeps joints s =
    took_plain k.Colon next takes σ (m.more_variables (place_of old p)) (m.operand 5 (place_of old p) ∷ []) refl joints s
    ∙ ap (λ c. fault_of σ new (m.operand 5 c ∷ s)) (sym (kept_place p keeps))

-- the numbers of the variables that were bound
bound_stands : (q : Quantifier) (σ : Signature) (names : List Text) (b : Bound) (f g : Form) (numbers : List ℕ) → numbers ≡ map (number_in names) (b.first ∷ b.more)
    → g ≡ behind (quantifier_form q) numbers f → Stands σ names b.body f → Stands σ names (quantified q b.first b.more b.body) g
bound_stands q σ names b f g numbers numbered is a = (f, is ∙ ap (λ ns. behind (quantifier_form q) ns f) numbered, a)

drop_front : (xs ys : List Text) → drop (length xs) (xs ++ ys) ≡ ys
drop_front [] ys = refl
drop_front (x ∷ xs) ys = drop_front xs ys

take_front : (xs ys : List Text) → take (length xs) (xs ++ ys) ≡ xs
take_front [] ys = refl
take_front (x ∷ xs) ys = ap (λ zs. x ∷ zs) (take_front xs ys)

-- the body was read, and its variables are bound no more
pub body_read : (q : Quantifier) {σ : Signature} {p : PlaceRead} {old now mid new : Input} {f g : Formula} (outer : ℕ) (numbers : List ℕ) → Binds σ p old now
    → words_left now ≡ mark k.Colon ∷ words_left mid → KeepsNames now mid → mid.bytes ≡ now.bytes → now.at ≤ mid.at → ReadOperand 5 σ mid new f
    → outer ≡ length old.scope.bound → ((more : List Text) → numbers ≡ map (number_in (new.scope.names ++ more)) (drop outer new.scope.bound))
    → form_of g ≡ behind (quantifier_form q) numbers (form_of f) → (released : Input)
    → released ≡ record new { scope = record { names = new.scope.names; bound = take outer new.scope.bound } } → ReadQuantified q σ old released g
body_read q {σ} {p} {old} {now} {mid} {new} {f} {g} outer numbers far text keeps bytes on r outer_is numbered is released released_is =
    let b : Bound = record { first = far.first; more = far.more; body = r.written } in
    let scope_is : new.scope ≡ record { names = first_occurrences old.scope.names (bound_variables b); bound = old.scope.bound ++ far.first ∷ far.more } =
    r.scope ∙ ap (λ of. added of (variables_in r.written)) (keeps.scope ∙ far.scope)
    ∙ ap (λ names. record { names = names; bound = old.scope.bound ++ far.first ∷ far.more }) (sym (first_append old.scope.names (far.first ∷ far.more) (variables_in r.written))) in
    subst (λ i. ReadQuantified q σ old i g) (sym released_is) (record {
      written = b;
      text = far.text ∙ ap (λ ws. word k.Variable far.first ∷ variables_words far.more ws) (text ∙ ap (λ ws. mark k.Colon ∷ ws) r.text);
      scope = ap (λ (of : Scope). record { names = of.names; bound = take outer of.bound }) scope_is
          ∙ ap (λ n. record { names = first_occurrences old.scope.names (bound_variables b); bound = take n (old.scope.bound ++ far.first ∷ far.more) }) outer_is
          ∙ ap (λ bound. record { names = first_occurrences old.scope.names (bound_variables b); bound = bound }) (take_front old.scope.bound (far.first ∷ far.more));
      is = λ more. record {
        strong = omega arith;
        levelled = ((r.is more).strong, (r.is more).levelled);
        stands = bound_stands q σ (new.scope.names ++ more) b (form_of f) (form_of g) numbers
            (numbered more ∙ ap (λ (of : Scope). map (number_in (new.scope.names ++ more)) (drop outer of.bound)) scope_is
            ∙ ap (λ n. map (number_in (new.scope.names ++ more)) (drop n (old.scope.bound ++ far.first ∷ far.more))) outer_is
            ∙ ap (map (number_in (new.scope.names ++ more))) (drop_front old.scope.bound (far.first ∷ far.more)))
            is (r.is more).stands;
      };
      bytes = r.bytes ∙ bytes ∙ far.bytes;
      on = omega (arith, far.on, on, r.on);
    })

-- those that were bound before are bound behind the body
pub outer_within : {σ : Signature} {p : PlaceRead} {old now mid new : Input} {f : Formula} {outer : ℕ} → outer ≡ length old.scope.bound → Binds σ p old now → KeepsNames now mid
    → ReadOperand 5 σ mid new f → outer ≤ length new.scope.bound
outer_within {old = old} {now = now} {mid = mid} {new = new} is far keeps r =
    let same : length new.scope.bound ≡ length (old.scope.bound ++ far.first ∷ far.more) = ap (λ (of : Scope). length of.bound) (r.scope ∙ ap (λ of. added of (variables_in r.written)) (keeps.scope ∙ far.scope)) in
    omega (arith, is, same, length-append old.scope.bound (far.first ∷ far.more))
