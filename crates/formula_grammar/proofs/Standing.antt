-- The machine's fault stands where the grammar says.
use Rattle.std.proofs.Common.{◌≡◌, ℕ, ◌≤◌, length, List, [], ◌∷◌, ◌++◌, Bool, true, false, Option, Some, None, subst, sym, refl, ◌∙◌, ap, if◌then◌else◌, nat_lt}
use Rattle.std.specs.Prelude.{slice_range}
use Rattle.std.proofs.lemmas.Bool.{le-ltb}
use Rattle.formula_ast.specs.declared.token.Token.{Token}
use Rattle.formula_ast.specs.Tokens.{Stream, end, bad, token, tokens_at, Word}
use Rattle.tree_model.specs.Signatures.{Signature}
use Rattle.formula_grammar.specs.declared.fault.Fault.{Fault}
use Rattle.formula_grammar.specs.declared.fault.FaultKind.{FaultKind}
use Rattle.formula_grammar.specs.declared.fault.FaultKind.TheVariants.{Byte, Ended, Syntax, Limit}
use Rattle.formula_grammar.specs.Limits.{most_bytes}
use Rattle.formula_grammar.specs.Words.{word_of, formula_words, WrittenStatement, statements_words}
use Rattle.formula_grammar.specs.Grammar.{FileGrammar, files, IsFileOf}
use Rattle.formula_grammar.specs.Machine.{Stack, statements, operand, open_place, Role, Move, refused, goes, step, at_end}
use Rattle.formula_grammar.specs.Checks.{Environment, check_all, update_all}
use Rattle.formula_grammar.specs.FirstFault.{fault_at, judged, at_move, ended, fault_from, fault_of_text, file_fault, formula_fault}
use Rattle.formula_grammar.specs.Begins as b
use Rattle.formula_grammar.specs.Begins.{BeginsWith, CanBegin, StandsRight, IsSomeFile, IsSomeFormula}
use Rattle.formula_grammar.proofs.Run.{Course, in_roles, in_none, run, run_move}
use Rattle.formula_grammar.proofs.Walk.{walk_statements, walk_operand, least}
use Rattle.formula_grammar.proofs.Taken as t
use Rattle.formula_grammar.proofs.Taken.{statements_taken}
use Rattle.formula_grammar.proofs.Spelling.{Spelled, MoveSpells, EndSpells, step_spells, end_spells, completes}
use Rattle.formula_grammar.proofs.Mild.{IsMild, OfOthers, nothing_wrong, of_others, mild_all}

-- the machine takes the words
pub record Takes (s : Stack) (ws : List Word) : Type 0 where
  pub roles : List Role
  pub are : run s ws ≡ Some roles

pub no_roles : (rs : List Role) → None ≡ Some rs → ⊥
no_roles rs e = cc e

-- a fault stands right by what the symbols ask for, and by what the machine takes
pub data Stands (s : Stack) (bytes : List ℕ) (tokens : Stream) : Fault → Type 0 where
  at_byte : {at : ℕ} (before : List Word) → BeginsWith bytes tokens before (bad at) → CanBegin (Spelled s) before
      → Stands s bytes tokens (record { offset = at; kind = Byte })
  at_last : {at : ℕ} (before : List Word) → BeginsWith bytes tokens before (end at) → CanBegin (Spelled s) before → ¬ Takes s before
      → Stands s bytes tokens (record { offset = at; kind = Ended })
  at_word : (t : Token) (more : Stream) (before : List Word) → BeginsWith bytes tokens before (token t more) → CanBegin (Spelled s) before
      → ¬ CanBegin (Takes s) (before ++ word_of bytes t ∷ []) → Stands s bytes tokens (record { offset = t.from; kind = Syntax })
  of_word : (t : Token) (more : Stream) {kind : FaultKind} (before : List Word) → BeginsWith bytes tokens before (token t more)
      → CanBegin (Spelled s) (before ++ word_of bytes t ∷ []) → OfOthers kind → Stands s bytes tokens (record { offset = t.from; kind = kind })
  of_end : {at : ℕ} {kind : FaultKind} (before : List Word) → BeginsWith bytes tokens before (end at) → Spelled s before
      → OfOthers kind → Stands s bytes tokens (record { offset = at; kind = kind })

-- a whole text of the symbols
abbrev Whole : List ℕ → Stack → Stream → Type 0
Whole bytes s i = (ws : List Word) × (at : ℕ) × BeginsWith bytes i ws (end at) × Spelled s ws

-- what a fault, or none, says of the tokens
abbrev Says : List ℕ → Stack → Stream → Option Fault → Type 0
Says bytes s i None = Whole bytes s i
Says bytes s i (Some f) = Stands s bytes i f

taken_roles : (rs : List Role) (o : Course) (all : List Role) → in_roles rs o ≡ Some all → (more : List Role) × (o ≡ Some more)
taken_roles rs None all e = absurd (no_roles all (sym (in_none rs) ∙ e))
taken_roles rs (Some more) all e = (more, refl)

begins_empty : (s : Stack) → CanBegin (Spelled s) []
begins_empty s = let c = completes s in (c.0, c.1)

module _ (bytes : List ℕ) (s : Stack) (t : Token) (roles : List Role) (u : Stack) (e : step s (word_of bytes t) ≡ goes roles u) where
  forward : (ws : List Word) → Takes s (word_of bytes t ∷ ws) → Takes u ws
  forward ws x =
      let h : in_roles roles (run u ws) ≡ Some x.roles = ap (λ m. run_move (λ v. run v ws) m) (sym e) ∙ x.are in
      let more = taken_roles roles (run u ws) x.roles h in record { roles = more.0; are = more.1 }

  backward : (ws : List Word) → Spelled u ws → Spelled s (word_of bytes t ∷ ws)
  backward ws = subst (λ m. MoveSpells s (word_of bytes t) ws m) e (step_spells s t.kind (slice_range bytes t.from t.to) ws)

  begins_forward : (ws : List Word) → CanBegin (Takes s) (word_of bytes t ∷ ws) → CanBegin (Takes u) ws
  begins_forward ws c = (c.0, forward (ws ++ c.0) c.1)

  begins_backward : (ws : List Word) → CanBegin (Spelled u) ws → CanBegin (Spelled s) (word_of bytes t ∷ ws)
  begins_backward ws c = (c.0, backward (ws ++ c.0) c.1)

  stands_before : {more : Stream} {f : Fault} → Stands u bytes more f → Stands s bytes (token t more) f
  stands_before (at_byte before h c) = at_byte (word_of bytes t ∷ before) (refl, h) (begins_backward before c)
  stands_before (at_last before h c n) = at_last (word_of bytes t ∷ before) (refl, h) (begins_backward before c) (λ f. n (forward before f))
  stands_before (at_word x rest before h c n) =
      at_word x rest (word_of bytes t ∷ before) (refl, h) (begins_backward before c) (λ d. n (begins_forward (before ++ word_of bytes x ∷ []) d))
  stands_before (of_word x rest before h c o) =
      of_word x rest (word_of bytes t ∷ before) (refl, h) (begins_backward (before ++ word_of bytes x ∷ []) c) o
  stands_before (of_end before h c o) = of_end (word_of bytes t ∷ before) (refl, h) (backward before c) o

  says_before : (more : Stream) (o : Option Fault) → Says bytes u more o → Says bytes s (token t more) o
  says_before more None h = (word_of bytes t ∷ h.0, h.1, (refl, h.2), backward h.0 h.3)
  says_before more (Some f) h = stands_before h

  judged_says : (more : Stream) (wrong : Option FaultKind) (later : Option Fault) → IsMild wrong → Says bytes u more later
      → Says bytes s (token t more) (judged t.from wrong later)
  judged_says more None later m h = says_before more later h
  judged_says more (Some kind) later m h = of_word t more [] refl (begins_backward [] (begins_empty u)) (of_others kind m)

-- a word
module _ (bytes : List ℕ) (E : Environment) (s : Stack) (t : Token) (more : Stream) (later : (F : Environment) (u : Stack) → Says bytes u more (fault_from bytes more F u)) where
  refused_word : step s (word_of bytes t) ≡ refused → ¬ CanBegin (Takes s) (word_of bytes t ∷ [])
  refused_word e = λ c. no_roles c.1.roles (ap (λ m. run_move (λ v. run v c.0) m) (sym e) ∙ c.1.are)

  move_says : (m : Move) → step s (word_of bytes t) ≡ m → Says bytes s (token t more) (at_move E t.from (λ F u. fault_from bytes more F u) m)
  move_says refused e = at_word t more [] refl (begins_empty s) (refused_word e)
  move_says (goes roles u) e =
      judged_says bytes s t roles u e more (check_all E None roles) _ (mild_all E None roles nothing_wrong) (later (update_all E roles) u)

-- the end
module _ (bytes : List ℕ) (s : Stack) (at : ℕ) where
  end_judged : (wrong : Option FaultKind) → IsMild wrong → Spelled s [] → Says bytes s (end at) (judged at wrong None)
  end_judged None m f = ([], at, refl, f)
  end_judged (Some kind) m f = of_end [] refl f (of_others kind m)

  end_says : (E : Environment) (o : Option (List Role)) → at_end s ≡ o → Says bytes s (end at) (ended E at o)
  end_says E None e = at_last [] refl (begins_empty s) (λ x. no_roles x.roles (sym e ∙ x.are))
  end_says E (Some roles) e =
      end_judged (check_all E None roles) (mild_all E None roles nothing_wrong) (subst (λ o. EndSpells s o) e (end_spells s))

pub says : (bytes : List ℕ) (i : Stream) (E : Environment) (s : Stack) → Says bytes s i (fault_from bytes i E s)
says bytes (end at) E s = end_says bytes s at E (at_end s) refl
says bytes (bad at) E s = at_byte [] refl (begins_empty s)
says bytes (token t more) E s = move_says bytes E s t more (λ F u. says bytes more F u) (step s (word_of bytes t)) refl

-- ---- for whole texts: what is spelled is whole, and what is whole is taken

module _ (s : Stack) (IsWhole : List Word → Type 0) (into : (ws : List Word) → Spelled s ws → IsWhole ws) (back : (ws : List Word) → IsWhole ws → Takes s ws) where
  can_into : (ws : List Word) → CanBegin (Spelled s) ws → CanBegin IsWhole ws
  can_into ws c = (c.0, into (ws ++ c.0) c.1)

  can_back : (ws : List Word) → CanBegin IsWhole ws → CanBegin (Takes s) ws
  can_back ws c = (c.0, back (ws ++ c.0) c.1)

  stands_right : {bytes : List ℕ} {i : Stream} {f : Fault} → Stands s bytes i f → StandsRight IsWhole bytes i f
  stands_right (at_byte before h c) = b.at_byte before h (can_into before c)
  stands_right (at_last before h c n) = b.at_end before h (can_into before c) (λ q. n (back before q))
  stands_right {bytes = bytes} (at_word x rest before h c n) =
      b.at_word x rest before h (can_into before c) (λ d. n (can_back (before ++ word_of bytes x ∷ []) d))
  stands_right {bytes = bytes} (of_word x rest before h c o) =
      b.of_word x rest before h (can_into (before ++ word_of bytes x ∷ []) c) o.syntax o.ended o.byte
  stands_right (of_end before h c o) = b.of_end before h (into before c) o.syntax o.ended o.byte

module _ (σ : Signature) (s : Stack) (bytes : List ℕ) where
  start : Environment
  start = record { signature = σ; joints = 0 }

  fault_says : (fault : Fault) → length bytes ≤ most_bytes → fault_of_text σ s bytes ≡ Some fault → Stands s bytes (tokens_at bytes 0) fault
  unfolding start
  fault_says fault h e =
      let c : fault_from bytes (tokens_at bytes 0) start s ≡ Some fault = rw (le-ltb most_bytes (length bytes) h) at e in
      subst (λ o. Says bytes s (tokens_at bytes 0) o) c (says bytes (tokens_at bytes 0) start s)

  whole_at : (large : Bool) → (if large then fault_at most_bytes Limit else fault_from bytes (tokens_at bytes 0) start s) ≡ None
      → Whole bytes s (tokens_at bytes 0)
  whole_at true e = absurd (cc e)
  whole_at false e = subst (λ o. Says bytes s (tokens_at bytes 0) o) e (says bytes (tokens_at bytes 0) start s)

  faultless_says : fault_of_text σ s bytes ≡ None → Whole bytes s (tokens_at bytes 0)
  unfolding start
  faultless_says e = whole_at (nat_lt most_bytes (length bytes)) e

-- ---- files and formulas

module _ (G : FileGrammar) where
  is_file : (ws : List Word) → Spelled (statements G ∷ []) ws → (ss : List WrittenStatement) × IsFileOf G ws ss
  is_file ws d =
      (d.1.0, record { words = sym (d.1.2 ∙ ap (λ vs. statements_words d.1.0 vs) d.2); each = d.1.1 })

  file_taken : (ws : List Word) → (ss : List WrittenStatement) × IsFileOf G ws ss → Takes (statements G ∷ []) ws
  file_taken ws f =
      let whole = f.1 in
      let e = walk_statements G f.0 [] [] whole.each in
      let x = statements_taken f.0 (Some []) (record { roles = []; are = refl }) in
      record { roles = x.roles; are = ap (λ vs. run (statements G ∷ []) vs) (sym whole.words) ∙ e ∙ x.are }

is_formula : (ws : List Word) → Spelled (operand 1 open_place ∷ []) ws → IsSomeFormula ws
is_formula ws d = (d.1.0, record { words = sym (d.1.3 ∙ ap (λ vs. formula_words d.1.0 vs) d.2); levelled = d.1.1 })

formula_taken : (ws : List Word) → IsSomeFormula ws → Takes (operand 1 open_place ∷ []) ws
formula_taken ws f =
    let whole = f.1 in
    let e = walk_operand f.0 1 open_place [] [] whole.levelled (least f.0) tt in
    let x = t.formula_taken open_place f.0 (Some []) (record { roles = []; are = refl }) in
    record { roles = x.roles; are = ap (λ vs. run (operand 1 open_place ∷ []) vs) (sym whole.words) ∙ e ∙ x.are }

pub file_faults_stand_right : (bytes : List ℕ) (fault : Fault) → length bytes ≤ most_bytes → file_fault bytes ≡ Some fault
    → StandsRight IsSomeFile bytes (tokens_at bytes 0) fault
unfolding file_fault
file_faults_stand_right bytes fault h e =
    stands_right (statements files ∷ []) IsSomeFile (is_file files) (file_taken files) (fault_says [] (statements files ∷ []) bytes fault h e)

pub formula_faults_stand_right : (σ : Signature) (bytes : List ℕ) (fault : Fault) → length bytes ≤ most_bytes → formula_fault σ bytes ≡ Some fault
    → StandsRight IsSomeFormula bytes (tokens_at bytes 0) fault
unfolding formula_fault
formula_faults_stand_right σ bytes fault h e =
    stands_right (operand 1 open_place ∷ []) IsSomeFormula is_formula formula_taken (fault_says σ (operand 1 open_place ∷ []) bytes fault h e)

pub faultless_files_read : (bytes : List ℕ) → file_fault bytes ≡ None
    → (ws : List Word) × (at : ℕ) × BeginsWith bytes (tokens_at bytes 0) ws (end at) × IsSomeFile ws
unfolding file_fault
faultless_files_read bytes e = let f = faultless_says [] (statements files ∷ []) bytes e in (f.0, f.1, f.2, is_file files f.0 f.3)

pub faultless_formulas_read : (σ : Signature) (bytes : List ℕ) → formula_fault σ bytes ≡ None
    → (ws : List Word) × (at : ℕ) × BeginsWith bytes (tokens_at bytes 0) ws (end at) × IsSomeFormula ws
unfolding formula_fault
faultless_formulas_read σ bytes e =
    let f = faultless_says σ (operand 1 open_place ∷ []) bytes e in (f.0, f.1, f.2, is_formula f.0 f.3)
