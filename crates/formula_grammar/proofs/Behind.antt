-- Where a fault stands, and that nothing behind it counts.
use Rattle.std.proofs.Common.{◌≡◌, ◌==◌, ℕ, zero, suc, ◌+◌, ◌-◌, ◌≤◌, Bool, true, false, List, [], ◌∷◌, length, Option, Some, None, refl, sym, ◌∙◌, ap, subst, arith, if◌then◌else◌}
use Rattle.std.proofs.lemmas.Bool.{le-ltb}
use Rattle.tree_model.specs.Signatures.{Signature}
use Rattle.formula_ast.specs.declared.token.Token.{Token}
use Rattle.formula_ast.specs.declared.token.TokenKind.{TokenKind}
use Rattle.formula_ast.specs.Tokens.{Stream, end, bad, token, tokens_at, tokens_of, begun, front, is_blank, comment_len, Word}
use Rattle.formula_grammar.specs.declared.fault.Fault.{Fault}
use Rattle.formula_grammar.specs.declared.fault.FaultKind.{FaultKind}
use Rattle.formula_grammar.specs.Limits.{most_bytes}
use Rattle.formula_grammar.specs.Words.{word_of}
use Rattle.formula_grammar.specs.Grammar.{files}
use Rattle.formula_grammar.specs.Machine.{Stack, statements, operand, open_place, Role, Move, refused, goes, step, at_end}
use Rattle.formula_grammar.specs.Checks.{Environment, start, check_all, update_all}
use Rattle.formula_grammar.specs.Begins.{BeginsWith}
use Rattle.formula_grammar.specs.FirstFault.{fault_at, judged, at_move, ended, fault_from, fault_of_text, file_fault, formula_fault}
use Rattle.formula_grammar.specs.Kinds.{IsFirstOf, behind_words, behind_move, next_roles, move_roles, offset_of, StandsBehind}
use Rattle.formula_grammar.specs.KindLaws.{LooksFurther, BeginAlike}
use Rattle.formula_grammar.proofs.Reasons.{first_kind}

no_fault : (fault : Fault) → None ≡ Some fault → ⊥
no_fault fault e = cc e

fault_same : {x y : Fault} → Some x ≡ Some y → x ≡ y
fault_same e = cc e

kind_is : {offset : ℕ} {kind : FaultKind} {fault : Fault} → fault_at offset kind ≡ Some fault → kind ≡ fault.kind
kind_is e = ap (λ (x : Fault). x.kind) (fault_same e)

offset_is : {offset : ℕ} {kind : FaultKind} {fault : Fault} → fault_at offset kind ≡ Some fault → offset ≡ fault.offset
offset_is e = ap (λ (x : Fault). x.offset) (fault_same e)

-- ---- where it stands

module _ (bytes : List ℕ) (fault : Fault) (further : LooksFurther fault.kind) where
  -- at this token, or at the end
  here : (E : Environment) (s : Stack) (tokens : Stream) (roles : List Role) (kind : FaultKind) → next_roles bytes s tokens ≡ Some roles
      → check_all E None roles ≡ Some kind → fault_at (offset_of tokens) kind ≡ Some fault → StandsBehind E s bytes tokens fault
  here E s tokens roles kind r c e = record {
    before = [];
    next = tokens;
    tokens_are = refl;
    environment = E;
    expected = s;
    reached = refl;
    roles = roles;
    roles_are = r;
    kind = subst (λ k. IsFirstOf k E roles) (kind_is e) (first_kind kind E roles c);
    offset = sym (offset_is e);
  }

  -- behind a token more
  behind : (E F : Environment) (s u : Stack) (t : Token) (more : Stream) (roles : List Role) → step s (word_of bytes t) ≡ goes roles u
      → F ≡ update_all E roles → StandsBehind F u bytes more fault → StandsBehind E s bytes (token t more) fault
  behind E F s u t more roles e m h = record {
    before = word_of bytes t ∷ h.before;
    next = h.next;
    tokens_are = (refl, h.tokens_are);
    environment = h.environment;
    expected = h.expected;
    reached = ap (λ x. behind_move (λ G v. behind_words G v h.before) E x) e ∙ ap (λ G. behind_words G u h.before) (sym m) ∙ h.reached;
    roles = h.roles;
    roles_are = h.roles_are;
    kind = h.kind;
    offset = h.offset;
  }

  module _ (E : Environment) (s : Stack) (t : Token) (more : Stream)
      (later : (F : Environment) (u : Stack) → fault_from bytes more F u ≡ Some fault → StandsBehind F u bytes more fault) where
    judged_stands : (roles : List Role) (u : Stack) → step s (word_of bytes t) ≡ goes roles u → (o : Option FaultKind) → check_all E None roles ≡ o
        → judged t.from o (fault_from bytes more (update_all E roles) u) ≡ Some fault → StandsBehind E s bytes (token t more) fault
    judged_stands roles u m None c e = behind E (update_all E roles) s u t more roles m refl (later (update_all E roles) u e)
    judged_stands roles u m (Some kind) c e = here E s (token t more) roles kind (ap (λ x. move_roles x) m) c e

    move_stands : (m : Move) → step s (word_of bytes t) ≡ m → at_move E t.from (λ F u. fault_from bytes more F u) m ≡ Some fault
        → StandsBehind E s bytes (token t more) fault
    move_stands refused m e = absurd (further.syntax (sym (kind_is e)))
    move_stands (goes roles u) m e = judged_stands roles u m (check_all E None roles) refl e

  end_judged : (E : Environment) (s : Stack) (at : ℕ) (roles : List Role) → at_end s ≡ Some roles → (o : Option FaultKind) → check_all E None roles ≡ o
      → judged at o None ≡ Some fault → StandsBehind E s bytes (end at) fault
  end_judged E s at roles r None c e = absurd (no_fault fault e)
  end_judged E s at roles r (Some kind) c e = here E s (end at) roles kind r c e

  end_stands : (E : Environment) (s : Stack) (at : ℕ) (o : Option (List Role)) → at_end s ≡ o → ended E at o ≡ Some fault → StandsBehind E s bytes (end at) fault
  end_stands E s at None r e = absurd (further.ended (sym (kind_is e)))
  end_stands E s at (Some roles) r e = end_judged E s at roles r (check_all E None roles) refl e

  stands : (tokens : Stream) (E : Environment) (s : Stack) → fault_from bytes tokens E s ≡ Some fault → StandsBehind E s bytes tokens fault
  stands (end at) E s e = end_stands E s at (at_end s) refl e
  stands (bad at) E s e = absurd (further.byte (sym (kind_is e)))
  stands (token t more) E s e = move_stands E s t more (λ F u. stands more F u) (step s (word_of bytes t)) refl e

text_fault : (σ : Signature) (s : Stack) (bytes : List ℕ) → length bytes ≤ most_bytes
    → fault_of_text σ s bytes ≡ fault_from bytes (tokens_at bytes 0) (start σ) s
text_fault σ s bytes short = rw (le-ltb most_bytes (length bytes) short) refl

text_stands : (σ : Signature) (s : Stack) (bytes : List ℕ) (fault : Fault) → length bytes ≤ most_bytes → fault_of_text σ s bytes ≡ Some fault
    → LooksFurther fault.kind → StandsBehind (start σ) s bytes (tokens_at bytes 0) fault
text_stands σ s bytes fault short e further =
    stands bytes fault further (tokens_at bytes 0) (start σ) s (sym (text_fault σ s bytes short) ∙ e)

pub file_kinds : (bytes : List ℕ) (fault : Fault) → length bytes ≤ most_bytes → file_fault bytes ≡ Some fault → LooksFurther fault.kind
    → StandsBehind (start []) (statements files ∷ []) bytes (tokens_at bytes 0) fault
unfolding file_fault
file_kinds bytes fault short e further = text_stands [] (statements files ∷ []) bytes fault short e further

pub formula_kinds : (σ : Signature) (bytes : List ℕ) (fault : Fault) → length bytes ≤ most_bytes → formula_fault σ bytes ≡ Some fault
    → LooksFurther fault.kind → StandsBehind (start σ) (operand 1 open_place ∷ []) bytes (tokens_at bytes 0) fault
unfolding formula_fault
formula_kinds σ bytes fault short e further = text_stands σ (operand 1 open_place ∷ []) bytes fault short e further

-- ---- tokens stand one behind another

abbrev Rising : ℕ → Stream → Type 0
Rising n (end at) = n ≤ at
Rising n (bad at) = n ≤ at
Rising n (token t more) = (n ≤ t.from) × Rising (suc t.from) more

rising_from : (m n : ℕ) (i : Stream) → m ≤ n → Rising n i → Rising m i
rising_from m n (end at) l a = omega arith
rising_from m n (bad at) l a = omega arith
rising_from m n (token t more) l a = let b : n ≤ t.from = a.0 in (omega arith, a.1)

rising_if : (n : ℕ) (b : Bool) (x y : Stream) → Rising n x → Rising n y → Rising n (if b then x else y)
rising_if n true x y a b = a
rising_if n false x y a b = b

rising_begun : (o : Option (TokenKind × ℕ)) (at : ℕ) (more : ℕ → Stream) → ((n : ℕ) → Rising (at + 1) (more n)) → Rising at (begun o at more)
rising_begun None at more h = omega arith
rising_begun (Some (kind, len)) at more h = (omega arith, rising_from (suc at) (at + 1) (more (len - 1)) (omega arith) (h (len - 1)))

tokens_rise : (text : List ℕ) (passed at : ℕ) → Rising at (tokens_of passed at text)
tokens_rise [] passed at = omega arith
tokens_rise (b ∷ bs) (suc passed) at = rising_from at (at + 1) (tokens_of passed (at + 1) bs) (omega arith) (tokens_rise bs passed (at + 1))
tokens_rise (b ∷ bs) zero at =
    let later = λ (n : ℕ). tokens_rise bs n (at + 1) in
    rising_if at (is_blank b) _ _ (rising_from at (at + 1) (tokens_of 0 (at + 1) bs) (omega arith) (later 0))
    (rising_if at (b == 37) _ _ (rising_from at (at + 1) (tokens_of (comment_len bs) (at + 1) bs) (omega arith) (later (comment_len bs)))
    (rising_begun (front (b ∷ bs)) at (λ n. tokens_of n (at + 1) bs) later))

text_rises : (bytes : List ℕ) → Rising 0 (tokens_at bytes 0)
unfolding tokens_at
text_rises bytes = tokens_rise bytes 0 0

-- a fault stands no earlier than the tokens
module _ (bytes : List ℕ) (fault : Fault) where
  late_judged : (n offset : ℕ) (o : Option FaultKind) (later : Option Fault) → n ≤ offset → (later ≡ Some fault → suc offset ≤ fault.offset)
      → judged offset o later ≡ Some fault → n ≤ fault.offset
  late_judged n offset None later l h e = let x = h e in omega arith
  late_judged n offset (Some kind) later l h e = let x = offset_is e in omega arith

  late_move : (n : ℕ) (E : Environment) (offset : ℕ) (later : Environment → Stack → Option Fault) (m : Move) → n ≤ offset
      → ((F : Environment) (u : Stack) → later F u ≡ Some fault → suc offset ≤ fault.offset) → at_move E offset later m ≡ Some fault → n ≤ fault.offset
  late_move n E offset later refused l h e = let x = offset_is e in omega arith
  late_move n E offset later (goes roles u) l h e =
      late_judged n offset (check_all E None roles) (later (update_all E roles) u) l (h (update_all E roles) u) e

  late_end : (n : ℕ) (E : Environment) (at : ℕ) (o : Option (List Role)) → n ≤ at → ended E at o ≡ Some fault → n ≤ fault.offset
  late_end n E at None l e = let x = offset_is e in omega arith
  late_end n E at (Some roles) l e = late_judged n at (check_all E None roles) None l (λ x. absurd (no_fault fault x)) e

  late : (n : ℕ) (tokens : Stream) (E : Environment) (s : Stack) → Rising n tokens → fault_from bytes tokens E s ≡ Some fault → n ≤ fault.offset
  late n (end at) E s a e = late_end n E at (at_end s) a e
  late n (bad at) E s a e = let x = offset_is e in omega arith
  late n (token t more) E s a e =
      late_move n E t.from (λ F u. fault_from bytes more F u) (step s (word_of bytes t)) a.0
      (λ F u x. late (suc t.from) more F u a.1 x) e

token_late : (bytes : List ℕ) (n : ℕ) (tokens : Stream) (before : List Word) (t : Token) (more : Stream) → Rising n tokens
    → BeginsWith bytes tokens before (token t more) → n ≤ t.from
token_late bytes n tokens [] t more a b = (subst (λ i. Rising n i) b a).0
token_late bytes n (token x rest) (w ∷ ws) t more a b =
    let h = token_late bytes (suc x.from) rest ws t more a.1 b.1 in let l : n ≤ x.from = a.0 in omega arith
token_late bytes n (end at) (w ∷ ws) t more a b = absurd b
token_late bytes n (bad at) (w ∷ ws) t more a b = absurd b

-- ---- nothing behind a fault's token counts

module _ (bytes other : List ℕ) (t u : Token) (kind : FaultKind) where
  at_first : Option Fault
  at_first = Some (record { offset = t.from; kind = kind })

  at_second : Option Fault
  at_second = Some (record { offset = u.from; kind = kind })

  judged_alike : (o : Option FaultKind) (x y : Option Fault) → (x ≡ at_first → ⊥) → judged t.from o x ≡ at_first → judged u.from o y ≡ at_second
  unfolding at_first at_second
  judged_alike None x y n e = absurd (n e)
  judged_alike (Some k) x y n e = ap (λ k. fault_at u.from k) (kind_is e)

  last_move : (E : Environment) (more rest : Stream) (m : Move) → Rising (suc t.from) more → at_move E t.from (λ F v. fault_from bytes more F v) m ≡ at_first
      → at_move E u.from (λ F v. fault_from other rest F v) m ≡ at_second
  unfolding at_first at_second
  last_move E more rest refused a e = ap (λ k. fault_at u.from k) (kind_is e)
  last_move E more rest (goes roles v) a e =
      judged_alike (check_all E None roles) (fault_from bytes more (update_all E roles) v) (fault_from other rest (update_all E roles) v)
      (λ x. absurd (no_later (late bytes (record { offset = t.from; kind = kind }) (suc t.from) more (update_all E roles) v a x))) e
    where
      no_later : suc t.from ≤ t.from → ⊥
      no_later l = omega arith

  -- a token before it has no fault
  module _ (E : Environment) (x y : Token) (more rest : Stream) (earlier : suc x.from ≤ t.from)
      (later : (F : Environment) (v : Stack) → fault_from bytes more F v ≡ at_first → fault_from other rest F v ≡ at_second) where
    judged_before : (F : Environment) (v : Stack) (o : Option FaultKind) → judged x.from o (fault_from bytes more F v) ≡ at_first
        → judged y.from o (fault_from other rest F v) ≡ at_second
    unfolding at_first at_second
    judged_before F v None e = later F v e
    judged_before F v (Some k) e = absurd (let o = offset_is e in omega arith)

    move_before : (m : Move) → at_move E x.from (λ F v. fault_from bytes more F v) m ≡ at_first → at_move E y.from (λ F v. fault_from other rest F v) m ≡ at_second
    unfolding at_first at_second
    move_before refused e = absurd (let o = offset_is e in omega arith)
    move_before (goes roles v) e = judged_before (update_all E roles) v (check_all E None roles) e

  alike : (n : ℕ) (i j : Stream) (before : List Word) (more rest : Stream) (E : Environment) (s : Stack) → Rising n i
      → BeginsWith bytes i before (token t more) → BeginsWith other j before (token u rest) → word_of bytes t ≡ word_of other u
      → fault_from bytes i E s ≡ at_first → fault_from other j E s ≡ at_second
  alike n i j [] more rest E s a b c w e =
      let rise : Rising n (token t more) = subst (λ k. Rising n k) b a in
      let found : fault_from bytes (token t more) E s ≡ at_first = ap (λ k. fault_from bytes k E s) (sym b) ∙ e in
      ap (λ k. fault_from other k E s) c ∙ ap (λ v. at_move E u.from (λ F x. fault_from other rest F x) (step s v)) (sym w)
      ∙ last_move E more rest (step s (word_of bytes t)) rise.1 found
  alike n (token p i) (token q j) (x ∷ before) more rest E s a b c w e =
      let same : word_of other q ≡ word_of bytes p = c.0 ∙ sym b.0 in
      ap (λ v. at_move E q.from (λ F y. fault_from other j F y) (step s v)) same
      ∙ move_before E p q i j (token_late bytes (suc p.from) i before t more a.1 b.1)
      (λ F v h. alike (suc p.from) i j before more rest F v a.1 b.1 c.1 w h) (step s (word_of bytes p)) e
  alike n (end at) j (x ∷ before) more rest E s a b c w e = absurd b
  alike n (bad at) j (x ∷ before) more rest E s a b c w e = absurd b
  alike n (token p i) (end at) (x ∷ before) more rest E s a b c w e = absurd c
  alike n (token p i) (bad at) (x ∷ before) more rest E s a b c w e = absurd c

  text_alike : (σ : Signature) (s : Stack) → BeginAlike bytes other t u → fault_of_text σ s bytes ≡ at_first → fault_of_text σ s other ≡ at_second
  text_alike σ s h e =
      text_fault σ s other h.short_other
      ∙ alike 0 (tokens_at bytes 0) (tokens_at other 0) h.before h.more h.more_other (start σ) s (text_rises bytes) h.tokens h.tokens_other h.same
      (sym (text_fault σ s bytes h.short) ∙ e)

pub file_no_further : (bytes other : List ℕ) (t u : Token) (kind : FaultKind) → BeginAlike bytes other t u
    → file_fault bytes ≡ Some (record { offset = t.from; kind = kind }) → file_fault other ≡ Some (record { offset = u.from; kind = kind })
unfolding file_fault at_first at_second
file_no_further bytes other t u kind h e = text_alike bytes other t u kind [] (statements files ∷ []) h e

pub formula_no_further : (σ : Signature) (bytes other : List ℕ) (t u : Token) (kind : FaultKind) → BeginAlike bytes other t u
    → formula_fault σ bytes ≡ Some (record { offset = t.from; kind = kind }) → formula_fault σ other ≡ Some (record { offset = u.from; kind = kind })
unfolding formula_fault at_first at_second
formula_no_further σ bytes other t u kind h e = text_alike bytes other t u kind σ (operand 1 open_place ∷ []) h e
