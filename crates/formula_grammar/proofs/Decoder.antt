-- A reader of words that tells what is written in them: it shows that words are read in one way.
use Rattle.std.proofs.Common.{◌≡◌, ℕ, ◌≤◌, nat_le, Bool, true, false, ◌&&◌, List, [], ◌∷◌, ◌++◌, Option, Some, None, refl, sym, ◌∙◌, ap, append_assoc, append-nil, if◌then◌else◌}
use Rattle.std.proofs.lemmas.Bool.{leb-true, le-leb}
use Rattle.formula_ast.specs.declared.token.TokenKind.{TokenKind}
use Rattle.formula_ast.specs.declared.token.TokenKind.TheVariants as k
use Rattle.formula_ast.specs.Tokens.{Word}
use Rattle.formula_grammar.specs.Written.{Text, Head, named, further, WrittenTerm, variable, headed, WrittenTerms, no_terms, one_more, Joint, and, or, imp, iff, Quantifier, exists, forall, Comparer, equals, differs, WrittenFormula, truth, finite, win, compared, call, no, group, joined, quantified}
use Rattle.formula_grammar.specs.Words.{same, word, mark, sign, comparer_kind, quantifier_kind, head_word, term_words, arguments_words, more_words, variables_words, formula_words}
use Rattle.formula_grammar.specs.Grammar.{strength, left, right, level, IsLevelled}
use Rattle.formula_grammar.proofs.Walk.{Avoids, Ends, Closed, closed_avoids, closed_more, closed_sign, reach, below, least, left_below, ends_paren, more_avoid, comparer_avoids}

-- ---- the reader's states

-- what is begun and not ended, each formula with the level that its place asks for
pub data Frame : Type 0 where
  right_of : ℕ → Joint → WrittenFormula → Frame
  negation : ℕ → Frame
  grouping : ℕ → Frame
  body : ℕ → Quantifier → Text → List Text → Frame
  argument : Head → List WrittenTerm → Frame
  left_side : ℕ → Frame
  right_side : ℕ → Comparer → WrittenTerm → Frame
  in_finite : ℕ → Frame
  in_win : ℕ → Text → Text → Frame

pub data State : Type 0 where
  wants_operand : ℕ → List Frame → State
  has_formula : ℕ → WrittenFormula → List Frame → State
  wants_term : List Frame → State
  has_head : Head → List Frame → State
  has_term : WrittenTerm → List Frame → State
  opens_finite : ℕ → List Frame → State
  opens_win : ℕ → List Frame → State
  win_name : ℕ → List Frame → State
  win_comma : ℕ → Text → List Frame → State
  win_moves : ℕ → Text → List Frame → State
  win_last : ℕ → Text → Text → List Frame → State
  first_variable : ℕ → Quantifier → List Frame → State
  next_variable : ℕ → Quantifier → Text → List Text → List Frame → State

pub data Outcome : Type 0 where
  goes_on : State → Outcome
  finished : WrittenFormula → Outcome
  stuck : Outcome

-- ---- the next word, or the end

abbrev joint_of : TokenKind → Option Joint
joint_of k.Amp = Some and
joint_of k.Bar = Some or
joint_of k.Arrow = Some imp
joint_of k.DoubleArrow = Some iff
joint_of kind = None

-- the joint may have this left side, in an operand of this level
abbrev kept : ℕ → ℕ → Option Joint → Option Joint
kept n l None = None
kept n l (Some j) = if nat_le n (strength j) && nat_le (left j) l then Some j else None

abbrev taking : ℕ → ℕ → Option Word → Option Joint
taking n l None = None
taking n l (Some w) = kept n l (joint_of w.kind)

abbrev pick : Option Joint → ℕ → WrittenFormula → List Frame → Outcome → Outcome
pick None n f fs other = other
pick (Some j) n f fs other = goes_on (wants_operand (right j) (right_of n j f ∷ fs))

-- behind a formula
abbrev after : ℕ → WrittenFormula → List Frame → Option Word → Outcome
after n f [] o = pick (taking n (level f) o) n f [] (finished f)
after n f (right_of m j g ∷ fs) o = pick (taking n (level f) o) n f (right_of m j g ∷ fs) (after m (joined j g f) fs o)
after n f (negation m ∷ fs) o = pick (taking n (level f) o) n f (negation m ∷ fs) (after m (no f) fs o)
after n f (body m q x xs ∷ fs) o = pick (taking n (level f) o) n f (body m q x xs ∷ fs) (after m (quantified q x xs f) fs o)
after n f (grouping m ∷ fs) o = pick (taking n (level f) o) n f (grouping m ∷ fs) (goes_on (has_formula m (group f) fs))
after n f (x ∷ fs) o = stuck

abbrev call_of : WrittenTerm → WrittenFormula
call_of (headed (named p) ts) = call p ts
call_of t = truth true

abbrev terms_behind : List WrittenTerm → WrittenTerms → WrittenTerms
terms_behind [] ts = ts
terms_behind (u ∷ us) ts = one_more u (terms_behind us ts)

-- behind a term that begins an atom, and behind an argument
abbrev after_left : ℕ → WrittenTerm → List Frame → Option Word → TokenKind → Outcome
after_left n t fs o k.Equal = goes_on (wants_term (right_side n equals t ∷ fs))
after_left n t fs o k.Differ = goes_on (wants_term (right_side n differs t ∷ fs))
after_left n t fs o kind = after n (call_of t) fs o

abbrev after_argument : Head → List WrittenTerm → List Frame → TokenKind → Outcome
after_argument h ts fs k.Comma = goes_on (wants_term (argument h ts ∷ fs))
after_argument h ts fs kind = goes_on (has_term (headed h (terms_behind ts no_terms)) fs)

abbrev after_term : WrittenTerm → List Frame → Option Word → Outcome
after_term t (argument h ts ∷ fs) (Some w) = after_argument h (ts ++ t ∷ []) fs w.kind
after_term t (left_side n ∷ fs) None = after n (call_of t) fs None
after_term t (left_side n ∷ fs) (Some w) = after_left n t fs (Some w) w.kind
after_term t (right_side n r u ∷ fs) o = after n (compared r u t) fs o
after_term t (in_finite n ∷ fs) (Some w) = goes_on (has_formula n (finite t) fs)
after_term t (in_win n p d ∷ fs) (Some w) = goes_on (has_formula n (win p d t) fs)
after_term t fs o = stuck

abbrev after_head : Head → List Frame → Option Word → TokenKind → Outcome
after_head h fs o k.LeftParen = goes_on (wants_term (argument h [] ∷ fs))
after_head h fs o kind = after_term (headed h no_terms) fs o

abbrev begin_operand : ℕ → List Frame → Text → TokenKind → Outcome
begin_operand n fs t k.Tilde = goes_on (wants_operand 5 (negation n ∷ fs))
begin_operand n fs t k.«Exists» = goes_on (first_variable n exists fs)
begin_operand n fs t k.Forall = goes_on (first_variable n forall fs)
begin_operand n fs t k.LeftParen = goes_on (wants_operand 1 (grouping n ∷ fs))
begin_operand n fs t k.«True» = goes_on (has_formula n (truth true) fs)
begin_operand n fs t k.«False» = goes_on (has_formula n (truth false) fs)
begin_operand n fs t k.Finite = goes_on (opens_finite n fs)
begin_operand n fs t k.Win = goes_on (opens_win n fs)
begin_operand n fs t k.Name = goes_on (has_head (named t) (left_side n ∷ fs))
begin_operand n fs t k.Further = goes_on (has_head (further t) (left_side n ∷ fs))
begin_operand n fs t k.Variable = goes_on (has_term (variable t) (left_side n ∷ fs))
begin_operand n fs t kind = stuck

abbrev begin_term : List Frame → Text → TokenKind → Outcome
begin_term fs t k.Variable = goes_on (has_term (variable t) fs)
begin_term fs t k.Name = goes_on (has_head (named t) fs)
begin_term fs t k.Further = goes_on (has_head (further t) fs)
begin_term fs t kind = stuck

abbrev after_variable : ℕ → Quantifier → Text → List Text → List Frame → Text → TokenKind → Outcome
after_variable n q x xs fs t k.Variable = goes_on (next_variable n q x (xs ++ t ∷ []) fs)
after_variable n q x xs fs t kind = goes_on (wants_operand 5 (body n q x xs ∷ fs))

abbrev next : State → Option Word → Outcome
next (has_formula n f fs) o = after n f fs o
next (has_term t fs) o = after_term t fs o
next (has_head h fs) None = after_term (headed h no_terms) fs None
next (has_head h fs) (Some w) = after_head h fs (Some w) w.kind
next (wants_operand n fs) (Some w) = begin_operand n fs w.text w.kind
next (wants_term fs) (Some w) = begin_term fs w.text w.kind
next (opens_finite n fs) (Some w) = goes_on (wants_term (in_finite n ∷ fs))
next (opens_win n fs) (Some w) = goes_on (win_name n fs)
next (win_name n fs) (Some w) = goes_on (win_comma n w.text fs)
next (win_comma n p fs) (Some w) = goes_on (win_moves n p fs)
next (win_moves n p fs) (Some w) = goes_on (win_last n p w.text fs)
next (win_last n p d fs) (Some w) = goes_on (wants_term (in_win n p d ∷ fs))
next (first_variable n q fs) (Some w) = goes_on (next_variable n q w.text [] fs)
next (next_variable n q x xs fs) (Some w) = after_variable n q x xs fs w.text w.kind
next state None = stuck

-- ---- the formula that words begin with, and the words behind it

abbrev Decoded : Type 0
Decoded = Option (WrittenFormula × List Word)

abbrev at_last : Outcome → Decoded
at_last (goes_on state) = None
at_last (finished f) = Some (f, [])
at_last stuck = None

abbrev onward : Word → List Word → (State → Decoded) → Outcome → Decoded
onward w ws later (goes_on state) = later state
onward w ws later (finished f) = Some (f, w ∷ ws)
onward w ws later stuck = None

abbrev decode : State → List Word → Decoded
decode state [] = at_last (next state None)
decode state (w ∷ ws) = onward w ws (λ s. decode s ws) (next state (Some w))

abbrev first : List Word → Option Word
first [] = None
first (w ∷ ws) = Some w

-- only the first word counts at once
alike : (a b : State) (ws : List Word) → next a (first ws) ≡ next b (first ws) → decode a ws ≡ decode b ws
alike a b [] e = ap (λ x. at_last x) e
alike a b (w ∷ ws) e = ap (λ x. onward w ws (λ s. decode s ws) x) e

-- ---- terms

bare_head : (h : Head) (fs : List Frame) (o : Option Word) (kind : TokenKind) → same kind k.LeftParen ≡ false
    → after_head h fs o kind ≡ after_term (headed h no_terms) fs o
bare_head h fs o k.LeftParen a = absurd (cc a)
bare_head h fs o kind a = refl

no_arguments : (h : Head) (fs : List Frame) (ws : List Word) → Avoids k.LeftParen ws
    → decode (has_head h fs) ws ≡ decode (has_term (headed h no_terms) fs) ws
no_arguments h fs [] a = refl
no_arguments h fs (w ∷ ws) a = alike (has_head h fs) (has_term (headed h no_terms) fs) (w ∷ ws) (bare_head h fs (Some w) w.kind a)

one_behind : (us : List WrittenTerm) (t : WrittenTerm) (ts : WrittenTerms) → terms_behind (us ++ t ∷ []) ts ≡ terms_behind us (one_more t ts)
one_behind [] t ts = refl
one_behind (u ∷ us) t ts = ap (λ x. one_more u x) (one_behind us t ts)

head_decoded : (h : Head) (fs : List Frame) (ws : List Word) → decode (wants_term fs) (head_word h ∷ ws) ≡ decode (has_head h fs) ws
head_decoded (named f) fs ws = refl
head_decoded (further i) fs ws = refl

mutual
  term_decoded : (t : WrittenTerm) (fs : List Frame) (ws : List Word) → Avoids k.LeftParen ws
      → decode (wants_term fs) (term_words t ws) ≡ decode (has_term t fs) ws
  term_decoded (variable x) fs ws a = refl
  term_decoded (headed h ts) fs ws a = head_decoded h fs (arguments_words ts ws) ∙ arguments_decoded ts h fs ws a

  arguments_decoded : (ts : WrittenTerms) (h : Head) (fs : List Frame) (ws : List Word) → Avoids k.LeftParen ws
      → decode (has_head h fs) (arguments_words ts ws) ≡ decode (has_term (headed h ts) fs) ws
  arguments_decoded no_terms h fs ws a = no_arguments h fs ws a
  arguments_decoded (one_more t ts) h fs ws a =
      term_decoded t (argument h [] ∷ fs) (more_words ts (mark k.RightParen ∷ ws)) (more_avoid ts ws) ∙ more_decoded ts t [] h fs ws

  more_decoded : (ts : WrittenTerms) (t : WrittenTerm) (us : List WrittenTerm) (h : Head) (fs : List Frame) (ws : List Word)
      → decode (has_term t (argument h us ∷ fs)) (more_words ts (mark k.RightParen ∷ ws)) ≡ decode (has_term (headed h (terms_behind us (one_more t ts))) fs) ws
  more_decoded no_terms t us h fs ws = ap (λ x. decode (has_term (headed h x) fs) ws) (one_behind us t no_terms)
  more_decoded (one_more u ts) t us h fs ws =
      term_decoded u (argument h (us ++ t ∷ []) ∷ fs) (more_words ts (mark k.RightParen ∷ ws)) (more_avoid ts ws)
      ∙ more_decoded ts u (us ++ t ∷ []) h fs ws ∙ ap (λ x. decode (has_term (headed h x) fs) ws) (one_behind us t (one_more u ts))

-- ---- formulas

-- nothing continues an operand of this level
kept_none : (n l : ℕ) (j : Joint) → (n ≤ strength j → ⊥) → kept n l (Some j) ≡ None
kept_none n l j a = by_test (nat_le n (strength j)) refl
  where
    by_test : (b : Bool) → nat_le n (strength j) ≡ b → (if b && nat_le (left j) l then Some j else None) ≡ None
    by_test true e = absurd (a (leb-true n (strength j) e))
    by_test false e = refl

not_true : true ≡ false → ⊥
not_true e = cc e

kind_ends : (n l : ℕ) (kind : TokenKind) → Ends n kind → kept n l (joint_of kind) ≡ None
kind_ends n l k.Amp a = kept_none n l and (λ h. not_true (a.sign and h))
kind_ends n l k.Bar a = kept_none n l or (λ h. not_true (a.sign or h))
kind_ends n l k.Arrow a = kept_none n l imp (λ h. not_true (a.sign imp h))
kind_ends n l k.DoubleArrow a = kept_none n l iff (λ h. not_true (a.sign iff h))
kind_ends n l kind a = refl

takes_none : (n l : ℕ) (ws : List Word) → Closed n ws → taking n l (first ws) ≡ None
takes_none n l [] a = refl
takes_none n l (w ∷ ws) a = kind_ends n l w.kind a

takes_joint : (n l : ℕ) (j : Joint) → n ≤ strength j → left j ≤ l → kept n l (Some j) ≡ Some j
takes_joint n l j a b = rw (le-leb n (strength j) a, le-leb (left j) l b) refl

sign_joint : (j : Joint) → joint_of (sign j) ≡ Some j
sign_joint and = refl
sign_joint or = refl
sign_joint imp = refl
sign_joint iff = refl

module _ (n : ℕ) (f : WrittenFormula) (fs : List Frame) (ws : List Word) (a : Closed n ws) where
  -- what is begun ends with an operand that nothing continues
  right_ends : (m : ℕ) (j : Joint) (g : WrittenFormula)
      → decode (has_formula n f (right_of m j g ∷ fs)) ws ≡ decode (has_formula m (joined j g f) fs) ws
  right_ends m j g =
      alike (has_formula n f (right_of m j g ∷ fs)) (has_formula m (joined j g f) fs) ws
      (ap (λ o. pick o n f (right_of m j g ∷ fs) (after m (joined j g f) fs (first ws))) (takes_none n (level f) ws a))

  negation_ends : (m : ℕ) → decode (has_formula n f (negation m ∷ fs)) ws ≡ decode (has_formula m (no f) fs) ws
  negation_ends m =
      alike (has_formula n f (negation m ∷ fs)) (has_formula m (no f) fs) ws
      (ap (λ o. pick o n f (negation m ∷ fs) (after m (no f) fs (first ws))) (takes_none n (level f) ws a))

  body_ends : (m : ℕ) (q : Quantifier) (x : Text) (xs : List Text)
      → decode (has_formula n f (body m q x xs ∷ fs)) ws ≡ decode (has_formula m (quantified q x xs f) fs) ws
  body_ends m q x xs =
      alike (has_formula n f (body m q x xs ∷ fs)) (has_formula m (quantified q x xs f) fs) ws
      (ap (λ o. pick o n f (body m q x xs ∷ fs) (after m (quantified q x xs f) fs (first ws))) (takes_none n (level f) ws a))

group_ends : (n m : ℕ) (f : WrittenFormula) (fs : List Frame) (ws : List Word)
    → decode (has_formula n f (grouping m ∷ fs)) (mark k.RightParen ∷ ws) ≡ decode (has_formula m (group f) fs) ws
group_ends n m f fs ws = refl

joint_begins : (j : Joint) (n : ℕ) (f : WrittenFormula) (fs : List Frame) (o : Option Word) (other : Outcome) → taking n (level f) o ≡ Some j
    → pick (taking n (level f) o) n f fs other ≡ goes_on (wants_operand (right j) (right_of n j f ∷ fs))
joint_begins j n f fs o other e = ap (λ x. pick x n f fs other) e

-- a frame that holds a formula
abbrev HoldsFormula : List Frame → Type 0
HoldsFormula [] = Unit {0}
HoldsFormula (right_of n j f ∷ fs) = Unit {0}
HoldsFormula (negation n ∷ fs) = Unit {0}
HoldsFormula (grouping n ∷ fs) = Unit {0}
HoldsFormula (body n q x xs ∷ fs) = Unit {0}
HoldsFormula (x ∷ fs) = ⊥

after_joint : (j : Joint) (n : ℕ) (f : WrittenFormula) (fs : List Frame) (o : Option Word) → HoldsFormula fs → taking n (level f) o ≡ Some j
    → after n f fs o ≡ goes_on (wants_operand (right j) (right_of n j f ∷ fs))
after_joint j n f [] o h e = joint_begins j n f [] o _ e
after_joint j n f (right_of m i g ∷ fs) o h e = joint_begins j n f (right_of m i g ∷ fs) o _ e
after_joint j n f (negation m ∷ fs) o h e = joint_begins j n f (negation m ∷ fs) o _ e
after_joint j n f (grouping m ∷ fs) o h e = joint_begins j n f (grouping m ∷ fs) o _ e
after_joint j n f (body m q x xs ∷ fs) o h e = joint_begins j n f (body m q x xs ∷ fs) o _ e
after_joint j n f (x ∷ fs) o h e = absurd h

sign_decoded : (j : Joint) (n : ℕ) (f : WrittenFormula) (fs : List Frame) (ws : List Word) → HoldsFormula fs → n ≤ strength j → left j ≤ level f
    → decode (has_formula n f fs) (mark (sign j) ∷ ws) ≡ decode (wants_operand (right j) (right_of n j f ∷ fs)) ws
sign_decoded j n f fs ws h a b =
    ap (λ x. onward (mark (sign j)) ws (λ s. decode s ws) x)
    (after_joint j n f fs (Some (mark (sign j))) h (ap (λ x. kept n (level f) x) (sign_joint j) ∙ takes_joint n (level f) j a b))

-- ---- whole formulas

left_marked : (r : Comparer) (n : ℕ) (t : WrittenTerm) (fs : List Frame) (ws : List Word)
    → decode (has_term t (left_side n ∷ fs)) (mark (comparer_kind r) ∷ ws) ≡ decode (wants_term (right_side n r t ∷ fs)) ws
left_marked equals n t fs ws = refl
left_marked differs n t fs ws = refl

left_decoded : (r : Comparer) (t : WrittenTerm) (n : ℕ) (fs : List Frame) (ws : List Word)
    → decode (wants_operand n fs) (term_words t (mark (comparer_kind r) ∷ ws)) ≡ decode (wants_term (right_side n r t ∷ fs)) ws
left_decoded r (variable x) n fs ws = left_marked r n (variable x) fs ws
left_decoded r (headed (named f) ts) n fs ws =
    arguments_decoded ts (named f) (left_side n ∷ fs) (mark (comparer_kind r) ∷ ws) (comparer_avoids r ws) ∙ left_marked r n (headed (named f) ts) fs ws
left_decoded r (headed (further i) ts) n fs ws =
    arguments_decoded ts (further i) (left_side n ∷ fs) (mark (comparer_kind r) ∷ ws) (comparer_avoids r ws) ∙ left_marked r n (headed (further i) ts) fs ws

not_compared : (n : ℕ) (t : WrittenTerm) (fs : List Frame) (o : Option Word) (kind : TokenKind) → same kind k.Equal ≡ false → same kind k.Differ ≡ false
    → after_left n t fs o kind ≡ after n (call_of t) fs o
not_compared n t fs o k.Equal a b = absurd (cc a)
not_compared n t fs o k.Differ a b = absurd (cc b)
not_compared n t fs o kind a b = refl

call_ends : (m n : ℕ) (p : Text) (ts : WrittenTerms) (fs : List Frame) (ws : List Word) → Closed m ws
    → decode (has_term (headed (named p) ts) (left_side n ∷ fs)) ws ≡ decode (has_formula n (call p ts) fs) ws
call_ends m n p ts fs [] a = refl
call_ends m n p ts fs (w ∷ ws) a =
    alike (has_term (headed (named p) ts) (left_side n ∷ fs)) (has_formula n (call p ts) fs) (w ∷ ws)
    (not_compared n (headed (named p) ts) fs (Some w) w.kind a.equal a.differ)

variables_decoded : (n : ℕ) (q : Quantifier) (x : Text) (ys xs : List Text) (fs : List Frame) (ws : List Word)
    → decode (next_variable n q x xs fs) (variables_words ys (mark k.Colon ∷ ws)) ≡ decode (wants_operand 5 (body n q x (xs ++ ys) ∷ fs)) ws
variables_decoded n q x [] xs fs ws = ap (λ zs. decode (wants_operand 5 (body n q x zs ∷ fs)) ws) (sym (append-nil xs))
variables_decoded n q x (y ∷ ys) xs fs ws =
    variables_decoded n q x ys (xs ++ y ∷ []) fs ws
    ∙ ap (λ zs. decode (wants_operand 5 (body n q x zs ∷ fs)) ws) (append_assoc xs (y ∷ []) ys)

quantifier_decoded : (q : Quantifier) (n : ℕ) (x : Text) (fs : List Frame) (ws : List Word)
    → decode (wants_operand n fs) (mark (quantifier_kind q) ∷ word k.Variable x ∷ ws) ≡ decode (next_variable n q x [] fs) ws
quantifier_decoded exists n x fs ws = refl
quantifier_decoded forall n x fs ws = refl

truth_decoded : (b : Bool) (n : ℕ) (fs : List Frame) (ws : List Word)
    → decode (wants_operand n fs) (formula_words (truth b) ws) ≡ decode (has_formula n (truth b) fs) ws
truth_decoded true n fs ws = refl
truth_decoded false n fs ws = refl

formula_decoded : (f : WrittenFormula) (n : ℕ) (fs : List Frame) (ws : List Word) → HoldsFormula fs → IsLevelled f → n ≤ level f → Closed (reach f) ws
    → decode (wants_operand n fs) (formula_words f ws) ≡ decode (has_formula n f fs) ws
formula_decoded (truth b) n fs ws h l m a = truth_decoded b n fs ws
formula_decoded (finite t) n fs ws h l m a = term_decoded t (in_finite n ∷ fs) (mark k.RightParen ∷ ws) refl
formula_decoded (win p d t) n fs ws h l m a = term_decoded t (in_win n p d ∷ fs) (mark k.RightParen ∷ ws) refl
formula_decoded (compared r t u) n fs ws h l m a =
    left_decoded r t n fs (term_words u ws) ∙ term_decoded u (right_side n r t ∷ fs) ws (closed_avoids 5 ws a)
    ∙ alike (has_term u (right_side n r t ∷ fs)) (has_formula n (compared r t u) fs) ws refl
formula_decoded (call p ts) n fs ws h l m a =
    arguments_decoded ts (named p) (left_side n ∷ fs) ws (closed_avoids 5 ws a) ∙ call_ends 5 n p ts fs ws a
formula_decoded (no f) n fs ws h l m a =
    formula_decoded f 5 (negation n ∷ fs) ws tt l.1 l.0 (closed_more 5 (reach f) ws (below 5 f l.0) a) ∙ negation_ends 5 f fs ws a n
formula_decoded (group f) n fs ws h l m a =
    formula_decoded f 1 (grouping n ∷ fs) (mark k.RightParen ∷ ws) tt l (least f) (closed_more 1 (reach f) (mark k.RightParen ∷ ws) (below 1 f (least f)) ends_paren)
    ∙ group_ends 1 n f fs ws
formula_decoded (joined j f g) n fs ws h l m a =
    formula_decoded f n fs (mark (sign j) ∷ formula_words g ws) h l.2 (left_below j n f m l.0) (closed_sign j f (formula_words g ws) l.0)
    ∙ sign_decoded j n f fs (formula_words g ws) h m l.0
    ∙ formula_decoded g (right j) (right_of n j f ∷ fs) ws tt l.3 l.1 (closed_more (right j) (reach g) ws (below (right j) g l.1) a)
    ∙ right_ends (right j) g fs ws a n j f
formula_decoded (quantified q x xs f) n fs ws h l m a =
    quantifier_decoded q n x fs (variables_words xs (mark k.Colon ∷ formula_words f ws))
    ∙ variables_decoded n q x xs [] fs (formula_words f ws)
    ∙ formula_decoded f 5 (body n q x xs ∷ fs) ws tt l.1 l.0 (closed_more 5 (reach f) ws (below 5 f l.0) a)
    ∙ body_ends 5 f fs ws a n q x xs

whole_ends : (f : WrittenFormula) (ws : List Word) → Closed 1 ws → decode (has_formula 1 f []) ws ≡ Some (f, ws)
whole_ends f [] a = refl
whole_ends f (w ∷ ws) a =
    ap (λ o. onward w ws (λ s. decode s ws) (pick o 1 f [] (finished f))) (takes_none 1 (level f) (w ∷ ws) a)

whole_decoded : (f : WrittenFormula) (ws : List Word) → IsLevelled f → Closed 1 ws → decode (wants_operand 1 []) (formula_words f ws) ≡ Some (f, ws)
whole_decoded f ws l a =
    formula_decoded f 1 [] ws tt l (least f) (closed_more 1 (reach f) ws (below 1 f (least f)) a) ∙ whole_ends f ws a

some_same : {A : Type 0} {x y : A} → Some x ≡ Some y → x ≡ y
some_same e = cc e

-- words begin with at most one formula that they do not continue
pub one_formula : (f g : WrittenFormula) (ws vs : List Word) → IsLevelled f → IsLevelled g → Closed 1 ws → Closed 1 vs
    → formula_words f ws ≡ formula_words g vs → (f ≡ g) × (ws ≡ vs)
one_formula f g ws vs l m a b e =
    let h : (f, ws) ≡ (g, vs) =
    some_same (sym (whole_decoded f ws l a) ∙ ap (λ x. decode (wants_operand 1 []) x) e ∙ whole_decoded g vs m b) in
    (ap (λ (p : WrittenFormula × List Word). p.0) h, ap (λ (p : WrittenFormula × List Word). p.1) h)
