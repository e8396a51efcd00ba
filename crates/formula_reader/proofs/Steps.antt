-- What one word is to the text and to the machine: a symbol takes it, or may be left out, or nothing fits.
use Rattle.std.proofs.Common.{rules, ◌≡◌, ℕ, ◌+◌, Bool, true, false, nat_lt, nat_le, ◌≤◌, ◌<◌, arith, List, [], ◌∷◌, ◌++◌, Option, Some, None, refl, sym, ◌∙◌, ap, subst}
use Rattle.std.specs.Prelude.{slice_range, Result, Ok, Err, IsErrAnd, OnOk, IfErr, MatchResult, if◌then◌else◌}
use Rattle.std.proofs.lemmas.Bool.Decides.{nat_tests}
use denote.Enum.Bare.{same_true}
use Rattle.tree_model.specs.Signatures.{Signature}
use Rattle.formula_ast.specs.contracts.token.TokenKind.{the_type}
use Rattle.formula_ast.specs.declared.token.Token.{Token}
use Rattle.formula_ast.specs.declared.token.TokenKind.{TokenKind}
use Rattle.formula_ast.specs.Tokens.{Stream, end, bad, token, tokens_at, Word}
use Rattle.formula_grammar.specs.declared.fault.Fault.{Fault}
use Rattle.formula_grammar.specs.declared.fault.FaultKind.{FaultKind}
use Rattle.formula_grammar.specs.declared.fault.FaultKind.TheVariants.{Syntax, Limit}
use Rattle.formula_grammar.specs.Words.{same, has_text, word, mark, word_of}
use Rattle.formula_grammar.specs.Machine.{Place, Symbol, Stack, plain, only, stands, Role, Turn, Move, refused, goes, row, empty, turned, passed, passed_end, step, at_end}
use Rattle.formula_grammar.specs.Checks.{Environment, check, check_all, update, update_all, first_of, is_among, sooner, rank}
use Rattle.formula_grammar.specs.FirstFault.{fault_from, at_move, judged, ended}
use Rattle.formula_reader.specs.declared.error.ReadError.{ReadError}
use Rattle.formula_reader.specs.declared.place.Place.{Place as PlaceRead}
use Rattle.formula_grammar.specs.Written.{Text}
use Rattle.formula_reader.specs.declared.error.ReadError.TheVariants.{Refused, NoMemory}
use Rattle.formula_reader.specs.Input.{Input, left_of, words_of, words_left, starts, text_at, text_ahead, environment, place_of}
use Rattle.formula_reader.specs.Faults.{fault_with, fault_of, move_with, ended_with, at_next, Takes, TakesWord, KeepsNames, Stops, Refuses, RefusesAt}

kind_is : (kind other : TokenKind) → same kind other ≡ true → kind ≡ other
kind_is kind other h = same_true the_type (search rules) kind other h

same_self : (kind : TokenKind) → same kind kind ≡ true
same_self kind = search rules

-- the next word, which is of this kind
abbrev pub ahead : TokenKind → Input → Word
ahead kind i = word kind (text_ahead i)

-- ---- where nothing is wrong with the next token yet, the first fault is the grammar's

move_none : (E : Environment) (at : ℕ) (later : Environment → Stack → Option Fault) (m : Move) → at_move E at later m ≡ move_with None E at later m
move_none E at later refused = refl
move_none E at later (goes roles s) = refl

ended_none : (E : Environment) (at : ℕ) (o : Option (List Role)) → ended E at o ≡ ended_with None E at o
ended_none E at None = refl
ended_none E at (Some roles) = refl

pub with_none : (bytes : List ℕ) (i : Stream) (E : Environment) (s : Stack) → fault_from bytes i E s ≡ fault_with None bytes i E s
with_none bytes (end at) E s = ended_none E at (at_end s)
with_none bytes (bad at) E s = refl
with_none bytes (token t more) E s = move_none E t.from (λ F u. fault_from bytes more F u) (step s (word_of bytes t))

-- ---- a symbol takes the next word

-- nothing is wrong
pub plainly : (x : Option FaultKind) → sooner x None ≡ None → x ≡ None
plainly None h = refl
plainly (Some kind) h = cc

pub nothing_more : (x : Option FaultKind) → x ≡ sooner x None
nothing_more None = refl
nothing_more (Some kind) = refl

-- what the first symbol of a stack does with a token, where its row is this
pub moved : (wrong : Option FaultKind) (E : Environment) (at : ℕ) (later : Environment → Stack → Option Fault) (x : Symbol) (s : Stack) (w : Word) (turn : Turn)
    → row x w ≡ Some turn → move_with wrong E at later (step (x ∷ s) w) ≡ judged at (check_all E wrong turn.0) (later (update_all E turn.0) (turn.1 ++ s))
moved wrong E at later x s w turn e = ap (λ o. move_with wrong E at later (turned o s (passed (empty x) (step s w)))) e

module _ (kind : TokenKind) {wrong : Option FaultKind} {old new : Input} (next : starts kind (left_of old) ≡ true) (h : Takes wrong old new) where
  kind_taken : h.taken.kind ≡ kind
  kind_taken = kind_is h.taken.kind kind (subst (λ i. starts kind i ≡ true) h.left next)

  word_is : word_of old.bytes h.taken ≡ ahead kind old
  word_is =
      ap (λ (of : TokenKind). word of (slice_range old.bytes h.taken.from h.taken.to)) kind_taken
      ∙ ap (λ i. word kind (text_at old.bytes i)) (sym h.left)

  -- the words are this one and those that are left
  pub words_taken : words_left old ≡ ahead kind old ∷ words_left new
  words_taken =
      ap (words_of old.bytes) h.left ∙ ap (λ w. w ∷ words_of old.bytes (left_of new)) word_is
      ∙ ap (λ bytes. ahead kind old ∷ words_of bytes (left_of new)) (sym h.bytes)

  -- where nothing is wrong with it, the first fault is that of what comes behind
  pub took : (σ τ : Signature) (x : Symbol) (turn : Turn) → row x (ahead kind old) ≡ Some turn
      → check_all (environment σ old.joints) old.pending turn.0 ≡ None → update_all (environment σ old.joints) turn.0 ≡ environment τ new.joints
      → (s : Stack) → fault_of σ old (x ∷ s) ≡ fault_of τ new (turn.1 ++ s)
  took σ τ x turn takes right becomes s =
      let E = environment σ old.joints in
      let later : Environment → Stack → Option Fault = λ F u. fault_from old.bytes (left_of new) F u in
      ap (λ i. fault_with old.pending old.bytes i E (x ∷ s)) h.left
      ∙ ap (λ w. move_with old.pending E h.taken.from later (step (x ∷ s) w)) word_is
      ∙ moved old.pending E h.taken.from later x s (ahead kind old) turn takes
      ∙ ap (λ o. judged h.taken.from o (later (update_all E turn.0) (turn.1 ++ s))) right
      ∙ ap (λ F. later F (turn.1 ++ s)) becomes
      ∙ with_none old.bytes (left_of new) (environment τ new.joints) (turn.1 ++ s)
      ∙ ap (λ p. fault_with p old.bytes (left_of new) (environment τ new.joints) (turn.1 ++ s)) (sym h.pending)
      ∙ ap (λ bytes. fault_with new.pending bytes (left_of new) (environment τ new.joints) (turn.1 ++ s)) (sym h.bytes)

  -- the same for a word of one role, and for one of none
  pub took_in : (σ τ : Signature) (x : Symbol) (r : Role) (xs : Stack) → row x (ahead kind old) ≡ Some (r ∷ [], xs) → wrong ≡ check (environment σ old.joints) r
      → update (environment σ old.joints) r ≡ environment τ new.joints → (s : Stack) → fault_of σ old (x ∷ s) ≡ fault_of τ new (xs ++ s)
  took_in σ τ x r xs takes wrong_is becomes =
      took σ τ x (r ∷ [], xs) takes (ap (sooner old.pending) (sym wrong_is) ∙ h.right) becomes

-- nothing can be wrong with it
module _ (kind : TokenKind) {old new : Input} (next : starts kind (left_of old) ≡ true) (h : Takes None old new) where
  pub took_plain : (σ : Signature) (x : Symbol) (xs : Stack) → row x (ahead kind old) ≡ Some ([], xs) → new.joints ≡ old.joints
      → (s : Stack) → fault_of σ old (x ∷ s) ≡ fault_of σ new (xs ++ s)
  took_plain σ x xs takes joints = took kind next h σ σ x ([], xs) takes (plainly old.pending h.right) (ap (environment σ) (sym joints))

-- ---- something is wrong with it

-- the error is the fault of the next token, of which this kind counts, unless memory was wanting
abbrev pub StopsWith : Option FaultKind → Stream → ReadError → Type 0
StopsWith total i NoMemory = Unit {0}
StopsWith total i (Refused fault) = (kind : FaultKind) × (total ≡ Some kind) × (fault ≡ at_next kind i)

module _ (kind : TokenKind) (old : Input) (next : starts kind (left_of old) ≡ true) where
  stops_at : (σ : Signature) (i : Stream) (x : Symbol) (turn : Turn) (found : FaultKind) (s : Stack) → starts kind i ≡ true
      → row x (word kind (text_at old.bytes i)) ≡ Some turn → check_all (environment σ old.joints) old.pending turn.0 ≡ Some found
      → fault_with old.pending old.bytes i (environment σ old.joints) (x ∷ s) ≡ Some (at_next found i)
  stops_at σ (end at) x turn found s so takes wrong_is = cc
  stops_at σ (bad at) x turn found s so takes wrong_is = cc
  stops_at σ (token t more) x turn found s so takes wrong_is =
      let E = environment σ old.joints in
      let later : Environment → Stack → Option Fault = λ F u. fault_from old.bytes more F u in
      ap (λ (of : TokenKind). move_with old.pending E t.from later (step (x ∷ s) (word of (slice_range old.bytes t.from t.to)))) (kind_is t.kind kind so)
      ∙ moved old.pending E t.from later x s (word kind (slice_range old.bytes t.from t.to)) turn takes
      ∙ ap (λ o. judged t.from o (later (update_all E turn.0) (turn.1 ++ s))) wrong_is

  pub stopped : (σ : Signature) (total : Option FaultKind) (e : ReadError) → StopsWith total (left_of old) e → (x : Symbol) (turn : Turn)
      → row x (ahead kind old) ≡ Some turn → check_all (environment σ old.joints) old.pending turn.0 ≡ total → RefusesAt x σ old e
  stopped σ total NoMemory h x turn takes checked s = tt
  stopped σ total (Refused fault) h x turn takes checked s =
      stops_at σ (left_of old) x turn h.0 s next takes (checked ∙ h.1) ∙ ap (λ f. Some f) (sym h.2)

  -- the same for a word of one role, and for one of none
  pub stopped_in : (σ : Signature) {wrong : Option FaultKind} (e : ReadError) → Stops wrong old e → (x : Symbol) (r : Role) (xs : Stack)
      → row x (ahead kind old) ≡ Some (r ∷ [], xs) → wrong ≡ check (environment σ old.joints) r → RefusesAt x σ old e
  stopped_in σ {wrong} e h x r xs takes wrong_is = stopped σ (sooner old.pending wrong) e h x (r ∷ [], xs) takes (ap (sooner old.pending) (sym wrong_is))

  pub stopped_plain : (σ : Signature) (e : ReadError) → Stops None old e → (x : Symbol) (xs : Stack) → row x (ahead kind old) ≡ Some ([], xs) → RefusesAt x σ old e
  stopped_plain σ e h x xs takes = stopped σ (sooner old.pending None) e h x ([], xs) takes (nothing_more old.pending)

-- ---- a symbol does not take it

-- the next word, if there is one, is none that the symbol takes
abbrev pub Blocks : Symbol → Input → Type 0
Blocks x i = (t : Token) (more : Stream) → left_of i ≡ token t more → row x (word_of i.bytes t) ≡ None

-- the next token is of no such kind
pub not_starting : (kind : TokenKind) (i : Stream) (t : Token) (more : Stream) → starts kind i ≡ false → i ≡ token t more → same t.kind kind ≡ false
not_starting kind i t more fails is = sym (ap (starts kind) is) ∙ fails

-- and this one kind is all that the symbol takes
pub blocked : (kind : TokenKind) (i : Input) (x : Symbol) → starts kind (left_of i) ≡ false
    → ((t : Token) → same t.kind kind ≡ false → row x (word_of i.bytes t) ≡ None) → Blocks x i
blocked kind i x fails none t more is = none t (not_starting kind (left_of i) t more fails is)

unmoved : (x : Symbol) (s : Stack) (w : Word) (o : Option (List Role)) → row x w ≡ None → empty x ≡ o → step (x ∷ s) w ≡ passed o (step s w)
unmoved x s w o none e = ap (λ r. turned r s (passed (empty x) (step s w))) none ∙ ap (λ o. passed o (step s w)) e

-- it can't be left out: nothing else may stand there
refused_from : (wrong : Option FaultKind) (bytes : List ℕ) (i : Stream) (E : Environment) (x : Symbol) (s : Stack) → empty x ≡ None
    → ((t : Token) (more : Stream) → i ≡ token t more → row x (word_of bytes t) ≡ None) → fault_with wrong bytes i E (x ∷ s) ≡ Some (at_next Syntax i)
refused_from wrong bytes (end at) E x s e none = ap (λ o. ended_with wrong E at (passed_end o (at_end s))) e
refused_from wrong bytes (bad at) E x s e none = refl
refused_from wrong bytes (token t more) E x s e none =
    ap (λ m. move_with wrong E t.from (λ F u. fault_from bytes more F u) m) (unmoved x s (word_of bytes t) None (none t more refl) e)

pub refused_here : (σ : Signature) (i : Input) (x : Symbol) → empty x ≡ None → Blocks x i
    → (s : Stack) → fault_of σ i (x ∷ s) ≡ Some (at_next Syntax (left_of i))
refused_here σ i x e none s = refused_from i.pending i.bytes (left_of i) (environment σ i.joints) x s e none

-- it may be left out: the next word, or the end, has its roles besides
check_append : (E : Environment) (wrong : Option FaultKind) (rs more : List Role) → check_all E wrong (rs ++ more) ≡ check_all (update_all E rs) (check_all E wrong rs) more
check_append E wrong [] more = refl
check_append E wrong (r ∷ rs) more = check_append (update E r) (sooner wrong (check E r)) rs more

update_append : (E : Environment) (rs more : List Role) → update_all E (rs ++ more) ≡ update_all (update_all E rs) more
update_append E [] more = refl
update_append E (r ∷ rs) more = update_append (update E r) rs more

module _ (wrong : Option FaultKind) (E : Environment) (at : ℕ) (rs : List Role) (kept : update_all E rs ≡ E) where
  checked_on : (more : List Role) → check_all E wrong (rs ++ more) ≡ check_all E (check_all E wrong rs) more
  checked_on more = check_append E wrong rs more ∙ ap (λ F. check_all F (check_all E wrong rs) more) kept

  end_skipped : (o : Option (List Role)) → ended_with wrong E at (passed_end (Some rs) o) ≡ ended_with (check_all E wrong rs) E at o
  end_skipped None = refl
  end_skipped (Some more) = ap (λ x. judged at x None) (checked_on more)

  move_skipped : (later : Environment → Stack → Option Fault) (m : Move) → move_with wrong E at later (passed (Some rs) m) ≡ move_with (check_all E wrong rs) E at later m
  move_skipped later refused = refl
  move_skipped later (goes more s) =
      ap (λ x. judged at x (later (update_all E (rs ++ more)) s)) (checked_on more)
      ∙ ap (λ F. judged at (check_all E (check_all E wrong rs) more) (later F s)) (update_append E rs more ∙ ap (λ F. update_all F more) kept)

skipped_from : (wrong : Option FaultKind) (bytes : List ℕ) (i : Stream) (E : Environment) (x : Symbol) (s : Stack) (rs : List Role) → update_all E rs ≡ E → empty x ≡ Some rs
    → ((t : Token) (more : Stream) → i ≡ token t more → row x (word_of bytes t) ≡ None) → fault_with wrong bytes i E (x ∷ s) ≡ fault_with (check_all E wrong rs) bytes i E s
skipped_from wrong bytes (end at) E x s rs kept e none = ap (λ o. ended_with wrong E at (passed_end o (at_end s))) e ∙ end_skipped wrong E at rs kept (at_end s)
skipped_from wrong bytes (bad at) E x s rs kept e none = refl
skipped_from wrong bytes (token t more) E x s rs kept e none =
    let later : Environment → Stack → Option Fault = λ F u. fault_from bytes more F u in
    ap (λ m. move_with wrong E t.from later m) (unmoved x s (word_of bytes t) (Some rs) (none t more refl) e)
    ∙ move_skipped wrong E t.from rs kept later (step s (word_of bytes t))

-- something is wrong with the next token, if the grammar allows it
abbrev pub complained : Option FaultKind → Input → Input
complained wrong i = record i { pending = sooner i.pending wrong }

first_none : (x y z : Option FaultKind) → sooner (sooner x y) z ≡ None → x ≡ None
first_none None y z h = refl
first_none (Some a) None None h = cc
first_none (Some a) None (Some b) h = by_test (nat_le (rank a) (rank b)) h
  where
    by_test : (t : Bool) → (if t then Some a else Some b) ≡ None → Some a ≡ None
    by_test true h = cc
    by_test false h = cc
first_none (Some a) (Some b) z h = by_test (nat_le (rank a) (rank b)) z h
  where
    by_last : (d c : FaultKind) (t : Bool) → (if t then Some d else Some c) ≡ None → Some a ≡ None
    by_last d c true h = cc
    by_last d c false h = cc

    by_some : (d : FaultKind) (z : Option FaultKind) → sooner (Some d) z ≡ None → Some a ≡ None
    by_some d None h = cc
    by_some d (Some c) h = by_last d c (nat_le (rank d) (rank c)) h

    by_test : (t : Bool) (z : Option FaultKind) → sooner (if t then Some a else Some b) z ≡ None → Some a ≡ None
    by_test true z h = by_some a z h
    by_test false z h = by_some b z h

-- what was taken behind a complaint was taken
pub taken_through : (wrong : Option FaultKind) {next : Option FaultKind} {old new : Input} → Takes next (complained wrong old) new → Takes None old new
taken_through wrong {next} {old} {new} h = record {
  taken = h.taken;
  left = h.left;
  right = ap (λ x. sooner x None) (first_none old.pending wrong next h.right);
  pending = h.pending;
  bytes = h.bytes;
  on = h.on;
}

-- without a role,
pub skipped : (σ : Signature) (i : Input) (x : Symbol) → empty x ≡ Some [] → Blocks x i → (s : Stack) → fault_of σ i (x ∷ s) ≡ fault_of σ i s
skipped σ i x e none s = skipped_from i.pending i.bytes (left_of i) (environment σ i.joints) x s [] refl e none

-- and with one
pub skipped_in : (σ : Signature) (i new : Input) (x : Symbol) (r : Role) {wrong : Option FaultKind} → empty x ≡ Some (r ∷ []) → Blocks x i
    → update (environment σ i.joints) r ≡ environment σ i.joints → new ≡ complained wrong i → wrong ≡ check (environment σ i.joints) r
    → (s : Stack) → fault_of σ i (x ∷ s) ≡ fault_of σ new s
skipped_in σ i new x r {wrong} e none kept is wrong_is s =
    skipped_from i.pending i.bytes (left_of i) (environment σ i.joints) x s (r ∷ []) kept e none
    ∙ ap (λ w. fault_of σ (complained w i) s) (sym wrong_is) ∙ ap (λ j. fault_of σ j s) (sym is)

-- ---- what a call answers

pub refuses_before : {before mid : Option Fault} (e : ReadError) → before ≡ mid → Refuses e mid → Refuses e before
refuses_before NoMemory same h = tt
refuses_before (Refused fault) same h = same ∙ h

-- the exit of a `?`: the error that came is answered
pub failed : {A : Type 0} (P : A → Type 0) (x : Symbol) (σ : Signature) (old : Input) (r : Result A ReadError) (e : ReadError) → IsErrAnd r (λ y. y ≡ e) → RefusesAt x σ old e
    → MatchResult r P (λ y. RefusesAt x σ old y)
failed P x σ old (Ok v) e is h = absurd is
failed P x σ old (Err y) e is h = subst (λ z. RefusesAt x σ old z) (sym is) h

pub failed_with : {A : Type 0} (P : A → Type 0) (Q : ReadError → Type 0) (r : Result A ReadError) (e : ReadError) → IsErrAnd r (λ y. y ≡ e) → Q e → MatchResult r P Q
failed_with P Q (Ok v) e is h = absurd is
failed_with P Q (Err y) e is h = subst Q (sym is) h

pub refusal : {A : Type 0} (P : A → Type 0) (x : Symbol) (σ : Signature) (old : Input) (r : Result A ReadError) (e : ReadError) (mid : Stack → Option Fault)
    → IsErrAnd r (λ y. y ≡ e) → ((s : Stack) → fault_of σ old (x ∷ s) ≡ mid s) → ((s : Stack) → Refuses e (mid s)) → MatchResult r P (λ y. RefusesAt x σ old y)
refusal P x σ old r e mid is moves h = failed P x σ old r e is (λ s. refuses_before e (moves s) (h s))

-- what a last call answers is handed on
pub answers_as : {A : Type 0} (P P' : A → Type 0) (Q Q' : ReadError → Type 0) (r : Result A ReadError) → ((x : A) → P x → P' x) → ((e : ReadError) → Q e → Q' e)
    → MatchResult r P Q → MatchResult r P' Q'
answers_as P P' Q Q' (Ok x) p q h = p x h
answers_as P P' Q Q' (Err e) p q h = q e h

-- the fault of the next token is the error
pub refused_as : {before : Option Fault} (e : ReadError) (fault : Fault) → e ≡ Refused fault → before ≡ Some fault → Refuses e before
refused_as {before} e fault is h = subst (λ y. Refuses y before) (sym is) h

-- want of memory is no fault
pub no_memory : (before : Option Fault) (e : ReadError) → e ≡ NoMemory → Refuses e before
no_memory before e is = subst (λ y. Refuses y before) (sym is) tt

-- ---- a limit is kept with which nothing is wrong

within_limit : (b : Bool) (i n : ℕ) → nat_lt n i ≡ b → first_of ((b, Limit) ∷ []) ≡ None → i ≤ n
within_limit true i n is h = absurd (cc h)
within_limit false i n is h = grind (arith, nat_tests, is)

last_none : (x y : Option FaultKind) → sooner x y ≡ None → y ≡ None
last_none None y h = h
last_none (Some a) None h = refl
last_none (Some a) (Some b) h = by_test (nat_le (rank a) (rank b)) h
  where
    by_test : (t : Bool) → (if t then Some a else Some b) ≡ None → Some b ≡ None
    by_test true h = cc
    by_test false h = cc

pub within : (pending wrong : Option FaultKind) (i n : ℕ) → wrong ≡ first_of ((nat_lt n i, Limit) ∷ []) → sooner pending wrong ≡ None → i ≤ n
within pending wrong i n is right = within_limit (nat_lt n i) i n refl (sym is ∙ last_none pending wrong right)

-- and a count that may rise
one_more : (b : Bool) (n most : ℕ) → nat_le most n ≡ b → first_of ((b, Limit) ∷ []) ≡ None → n + 1 ≤ most
one_more true n most is h = absurd (cc h)
one_more false n most is h = grind (arith, nat_tests, is)

second_none : (a b : Bool) → first_of ((a, Limit) ∷ (b, Limit) ∷ []) ≡ None → first_of ((b, Limit) ∷ []) ≡ None
second_none true b h = absurd (cc h)
second_none false b h = h

pub may_rise : (pending wrong : Option FaultKind) (n most : ℕ) → wrong ≡ first_of ((nat_le most n, Limit) ∷ []) → sooner pending wrong ≡ None → n + 1 ≤ most
may_rise pending wrong n most is right = one_more (nat_le most n) n most refl (sym is ∙ last_none pending wrong right)

pub may_rise_behind : (pending wrong : Option FaultKind) (b : Bool) (n most : ℕ) → wrong ≡ first_of ((b, Limit) ∷ (nat_le most n, Limit) ∷ []) → sooner pending wrong ≡ None → n + 1 ≤ most
may_rise_behind pending wrong b n most is right = one_more (nat_le most n) n most refl (second_none b (nat_le most n) (sym is ∙ last_none pending wrong right))

-- the exit of a `?` under a clause of its own
pub exits : {A : Type 0} (P : ReadError → Type 0) (r : Result A ReadError) (e : ReadError) → IsErrAnd r (λ y. y ≡ e) → P e → IfErr r P
exits P (Ok x) e is h = tt
exits P (Err y) e is h = subst P (sym is) h

-- ---- a word without a text

pub only_itself : (kind : TokenKind) {turn : Turn} → only kind kind turn ≡ Some turn
only_itself kind {turn} = ap (λ b. if b then Some turn else None) (same_self kind)

mark_is : (kind : TokenKind) (text : List ℕ) → has_text kind ≡ false → word kind text ≡ mark kind
mark_is kind text none = ap (λ b. record { kind = kind; text = if b then text else [] }) none

pub expects : (σ : Signature) (old new : Input) (kind : TokenKind) {A : Type 0} (r : Result A ReadError) → has_text kind ≡ false → starts kind (left_of old) ≡ true
    → OnOk r (Takes None old new) → OnOk r (KeepsNames old new) → OnOk r (new.joints ≡ old.joints) → IfErr r (λ e. Stops None old e)
    → MatchResult r (λ _. TakesWord (plain kind) (mark kind) σ old new) (λ e. RefusesAt (plain kind) σ old e)
expects σ old new kind (Ok v) marks next takes keeps joints stops = record {
  faults = took_plain kind next takes σ (plain kind) [] (only_itself kind) joints;
  words = words_taken kind next takes ∙ ap (λ w. w ∷ words_left new) (mark_is kind (text_ahead old) marks);
  keeps = keeps;
  bytes = takes.bytes;
  on = takes.on;
}
expects σ old new kind (Err e) marks next takes keeps joints stops = stopped_plain kind old next σ e stops (plain kind) [] (only_itself kind)

-- what was taken was, whatever else has changed since
pub taken_on : {wrong : Option FaultKind} {old mid : Input} → Takes wrong old mid → (new : Input) → new.bytes ≡ mid.bytes → new.at ≡ mid.at → new.pending ≡ mid.pending
    → Takes wrong old new
taken_on {old = old} {mid = mid} h new bytes at pending = record {
  taken = h.taken;
  left = h.left ∙ ap (λ b. token h.taken (tokens_at b mid.at)) (sym bytes) ∙ ap (λ n. token h.taken (tokens_at new.bytes n)) (sym at);
  right = h.right;
  pending = pending ∙ h.pending;
  bytes = bytes ∙ h.bytes;
  on = subst (λ n. old.at < n) (sym at) h.on;
}

-- a variable is checked by whether it is bound
pub stands_is : (old : Input) (p : PlaceRead) (name : Text) (bound : Bool) (wrong : Option FaultKind)
    → ((E : Environment) (c : Place) → p.closed ≡ c.closed → bound ≡ is_among name c.bound → wrong ≡ check E (stands name c)) → bound ≡ is_among name old.scope.bound → name ≡ text_ahead old
    → (E : Environment) → wrong ≡ check E (stands (text_ahead old) (place_of old p))
stands_is old p name bound wrong checked bound_is name_is E = checked E (place_of old p) refl bound_is ∙ ap (λ f. check E (stands f (place_of old p))) name_is
