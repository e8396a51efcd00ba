-- The machine takes the words of what is written, and finds its roles.
use Rattle.std.proofs.Common.{◌≡◌, ℕ, suc, ◌≤◌, ◌<◌, nat_le, Bool, true, false, List, [], ◌∷◌, ◌++◌, length, Some, None, refl, sym, ◌∙◌, ap, arith, append_assoc, append-nil, if◌then◌else◌}
use Rattle.std.proofs.lemmas.Bool.{leb-true, le-leb}
use Rattle.std.proofs.lemmas.Bool.Decides.{leb_tells}
use Rattle.std.proofs.Common.{inl, inr}
use Rattle.std.specs.Option.{option_map}
use Rattle.formula_ast.specs.declared.token.TokenKind.{TokenKind}
use Rattle.formula_ast.specs.declared.token.TokenKind.TheVariants as k
use Rattle.formula_ast.specs.Tokens.{Word}
use Rattle.formula_grammar.specs.Written.{Text, Head, named, further, WrittenTerm, variable, headed, WrittenTerms, no_terms, one_more, Joint, and, or, imp, iff, Quantifier, exists, forall, Comparer, equals, differs, WrittenFormula, truth, finite, win, compared, call, no, group, joined, quantified, Declaration, Said, symbols, predicate, question}
use Rattle.formula_grammar.specs.Words.{same, word, mark, sign, comparer_kind, quantifier_kind, term_words, arguments_words, more_words, variables_words, formula_words, declarations_words, more_parameters_words, parameters_words, said_words, statements_words, WrittenStatement}
use Rattle.formula_grammar.specs.Grammar.{strength, left, right, level, IsLevelled, IsLevelledSaid, FileGrammar, manner_of, AreStatementsOf}
use Rattle.formula_grammar.specs.Machine.{Place, deeper, binding, Role, Symbol, Stack, Turn, one, plain, statements, declarations, header, definition, more_parameters, operand, tail, tails, more_variables, name_tail, comparison, term, arguments, more_arguments, opens, heads, begins_atom, opens_arguments, separates, stands, compares, plays, counts, comparison_row, row, sign_roles, right_place, opened, begins, declares_predicate, has_parameter, ends_predicate, stands_alone, defined, open_place, closed_place, binds, joins}
use Rattle.formula_grammar.proofs.Run.{in_role, in_roles, run, takes, skips, Refuses}
use Rattle.formula_grammar.proofs.WrittenRoles.{term_roles, arguments_roles, more_roles, left_roles, variables_roles, bind_all, formula_roles, declaration_roles, declarations_roles, parameters_roles, said_roles, statements_roles}

-- ---- terms

-- the first of the words is not of this kind
abbrev pub Avoids : TokenKind → List Word → Type 0
Avoids kind [] = Unit {0}
Avoids kind (w ∷ ws) = same w.kind kind ≡ false

refuses_one : (x : Symbol) (kind : TokenKind) (turn : Word → Turn) → ((w : Word) → row x w ≡ (if same w.kind kind then Some (turn w) else None))
    → (ws : List Word) → Avoids kind ws → Refuses x ws
refuses_one x kind turn e [] a = tt
refuses_one x kind turn e (w ∷ ws) a = e w ∙ ap (λ b. if b then Some (turn w) else None) a

pub more_avoid : (ts : WrittenTerms) (ws : List Word) → Avoids k.LeftParen (more_words ts (mark k.RightParen ∷ ws))
more_avoid no_terms ws = refl
more_avoid (one_more t ts) ws = refl

no_arguments_walk : (h : Head) (c : Place) (s : Stack) (ws : List Word) → Avoids k.LeftParen ws
    → run (arguments h c ∷ s) ws ≡ arguments_roles h c no_terms (run s ws)
no_arguments_walk h c s ws a = skips (arguments h c) s ws _ refl (refuses_one (arguments h c) k.LeftParen _ (λ w. refl) ws a)

head_walk : (h : Head) (ts : WrittenTerms) (c : Place) (s : Stack) (ws : List Word)
    → run (arguments h c ∷ s) (arguments_words ts ws) ≡ arguments_roles h c ts (run s ws)
    → run (term c ∷ s) (term_words (headed h ts) ws) ≡ term_roles c (headed h ts) (run s ws)
head_walk (named f) ts c s ws e = ap (λ o. in_role (heads (named f)) o) e
head_walk (further i) ts c s ws e = ap (λ o. in_role (heads (further i)) o) e

mutual
  pub walk_term : (t : WrittenTerm) (c : Place) (s : Stack) (ws : List Word) → Avoids k.LeftParen ws
      → run (term c ∷ s) (term_words t ws) ≡ term_roles c t (run s ws)
  walk_term (variable x) c s ws a = refl
  walk_term (headed h ts) c s ws a = head_walk h ts c s ws (walk_arguments ts h c s ws a)

  pub walk_arguments : (ts : WrittenTerms) (h : Head) (c : Place) (s : Stack) (ws : List Word) → Avoids k.LeftParen ws
      → run (arguments h c ∷ s) (arguments_words ts ws) ≡ arguments_roles h c ts (run s ws)
  walk_arguments no_terms h c s ws a = no_arguments_walk h c s ws a
  walk_arguments (one_more t ts) h c s ws a =
      ap (λ o. in_role (opens_arguments h) (in_role (opens (suc c.depth)) o))
      (walk_term t (deeper c) (more_arguments h 1 (deeper c) ∷ plain k.RightParen ∷ s) (more_words ts (mark k.RightParen ∷ ws)) (more_avoid ts ws)
      ∙ ap (λ o. term_roles (deeper c) t o) (walk_more ts h 1 (deeper c) s ws))

  walk_more : (ts : WrittenTerms) (h : Head) (n : ℕ) (c : Place) (s : Stack) (ws : List Word)
      → run (more_arguments h n c ∷ plain k.RightParen ∷ s) (more_words ts (mark k.RightParen ∷ ws)) ≡ more_roles h n c ts (run s ws)
  walk_more no_terms h n c s ws = refl
  walk_more (one_more t ts) h n c s ws =
      ap (λ o. in_role (separates h n) o)
      (walk_term t c (more_arguments h (suc n) c ∷ plain k.RightParen ∷ s) (more_words ts (mark k.RightParen ∷ ws)) (more_avoid ts ws)
      ∙ ap (λ o. term_roles c t o) (walk_more ts h (suc n) c s ws))

-- ---- what may stand behind a formula

-- a word of this kind continues no operand of this level: it opens no arguments, compares nothing, and joins nothing so
-- strongly
pub record Ends (n : ℕ) (kind : TokenKind) : Type 0 where
  pub paren : same kind k.LeftParen ≡ false
  pub equal : same kind k.Equal ≡ false
  pub differ : same kind k.Differ ≡ false
  pub sign : (j : Joint) → n ≤ strength j → same kind (sign j) ≡ false

abbrev pub Closed : ℕ → List Word → Type 0
Closed n [] = Unit {0}
Closed n (w ∷ ws) = Ends n w.kind

pub closed_more : (m n : ℕ) (ws : List Word) → m ≤ n → Closed m ws → Closed n ws
closed_more m n [] l a = tt
closed_more m n (w ∷ ws) l a = record { paren = a.paren; equal = a.equal; differ = a.differ; sign = λ j h. a.sign j (omega arith) }

pub closed_avoids : (n : ℕ) (ws : List Word) → Closed n ws → Avoids k.LeftParen ws
closed_avoids n [] a = tt
closed_avoids n (w ∷ ws) a = a.paren

-- the least level that a formula's last operand may have: what joins so strongly goes on with that one
abbrev pub reach : WrittenFormula → ℕ
reach (joined j f g) = right j
reach f = 5

pub ends_paren : Ends 1 k.RightParen
ends_paren = record { paren = refl; equal = refl; differ = refl; sign = λ j h. apart j }
  where
    apart : (j : Joint) → same k.RightParen (sign j) ≡ false
    apart and = refl
    apart or = refl
    apart imp = refl
    apart iff = refl

pub ends_stop : Ends 1 k.Stop
ends_stop = record { paren = refl; equal = refl; differ = refl; sign = λ j h. apart j }
  where
    apart : (j : Joint) → same k.Stop (sign j) ≡ false
    apart and = refl
    apart or = refl
    apart imp = refl
    apart iff = refl

pub level_reach : (f : WrittenFormula) → level f ≤ reach f
level_reach (joined and f g) = omega arith
level_reach (joined or f g) = omega arith
level_reach (joined imp f g) = omega arith
level_reach (joined iff f g) = omega arith
level_reach f = omega arith

pub below : (n : ℕ) (f : WrittenFormula) → n ≤ level f → n ≤ reach f
below n f l = omega (arith, level_reach f)

pub least : (f : WrittenFormula) → 1 ≤ level f
least (joined and f g) = omega arith
least (joined or f g) = omega arith
least (joined imp f g) = omega arith
least (joined iff f g) = omega arith
least f = omega arith

left_strength : (j : Joint) → strength j ≤ left j
left_strength and = omega arith
left_strength or = omega arith
left_strength imp = omega arith
left_strength iff = omega arith

pub left_below : (j : Joint) (n : ℕ) (f : WrittenFormula) → n ≤ strength j → left j ≤ level f → n ≤ level f
left_below j n f a b = omega (arith, left_strength j)

-- a joint's sign behind its left side
pub strong : (j : Joint) (f : WrittenFormula) → left j ≤ level f → strength j < reach f
strong and (joined and f g) l = omega arith
strong and (joined or f g) l = omega arith
strong and (joined imp f g) l = omega arith
strong and (joined iff f g) l = omega arith
strong or (joined and f g) l = omega arith
strong or (joined or f g) l = omega arith
strong or (joined imp f g) l = omega arith
strong or (joined iff f g) l = omega arith
strong imp (joined and f g) l = omega arith
strong imp (joined or f g) l = omega arith
strong imp (joined imp f g) l = omega arith
strong imp (joined iff f g) l = omega arith
strong iff (joined and f g) l = omega arith
strong iff (joined or f g) l = omega arith
strong iff (joined imp f g) l = omega arith
strong iff (joined iff f g) l = omega arith
strong and f l = omega arith
strong or f l = omega arith
strong imp f l = omega arith
strong iff f l = omega arith

signs_apart : (j i : Joint) → strength j < strength i → same (sign j) (sign i) ≡ false
signs_apart and and l = absurd (omega arith)
signs_apart or or l = absurd (omega arith)
signs_apart imp imp l = absurd (omega arith)
signs_apart iff iff l = absurd (omega arith)
signs_apart and i l = absurd (omega arith)
signs_apart or and l = refl
signs_apart or i l = absurd (omega arith)
signs_apart imp and l = refl
signs_apart imp or l = refl
signs_apart imp iff l = absurd (omega arith)
signs_apart iff and l = refl
signs_apart iff or l = refl
signs_apart iff imp l = refl

sign_kinds : (j : Joint) → (same (sign j) k.LeftParen ≡ false) × (same (sign j) k.Equal ≡ false) × (same (sign j) k.Differ ≡ false)
sign_kinds and = (refl, refl, refl)
sign_kinds or = (refl, refl, refl)
sign_kinds imp = (refl, refl, refl)
sign_kinds iff = (refl, refl, refl)

pub closed_sign : (j : Joint) (f : WrittenFormula) (ws : List Word) → left j ≤ level f → Closed (reach f) (mark (sign j) ∷ ws)
closed_sign j f ws l =
    let a = sign_kinds j in
    let b : strength j < reach f = strong j f l in
    record { paren = a.0; equal = a.1; differ = a.2; sign = λ i h. signs_apart j i (omega arith) }

-- ---- the tails that stand behind a formula of level `l` that may have the level `n`

abbrev pub open_among : List Joint → ℕ → ℕ → Place → Stack
open_among [] n l c = []
open_among (j ∷ js) n l c =
    if nat_le n (strength j) then (if nat_le (left j) l then tail j c ∷ open_among js n l c else open_among js n l c) else open_among js n l c

abbrev pub open_tails : ℕ → ℕ → Place → Stack
open_tails = open_among (and ∷ or ∷ imp ∷ iff ∷ [])

-- they are passed over where the next word continues no such operand
tail_skips : (j : Joint) (n : ℕ) (c : Place) (s : Stack) (ws : List Word) → n ≤ strength j → Closed n ws → run (tail j c ∷ s) ws ≡ run s ws
tail_skips j n c s [] l a = skips (tail j c) s [] [] refl tt
tail_skips j n c s (w ∷ ws) l a = skips (tail j c) s (w ∷ ws) [] refl (refuses_one (tail j c) (sign j) _ (λ w. refl) (w ∷ ws) (a.sign j l))

open_one : (j : Joint) (n : ℕ) (c : Place) (s u : Stack) (ws : List Word) (asked strong : Bool) → nat_le n (strength j) ≡ asked → Closed n ws
    → run (u ++ s) ws ≡ run s ws
    → run ((if asked then (if strong then tail j c ∷ u else u) else u) ++ s) ws ≡ run s ws
open_one j n c s u ws true true e a h = tail_skips j n c (u ++ s) ws (leb-true n (strength j) e) a ∙ h
open_one j n c s u ws true false e a h = h
open_one j n c s u ws false strong e a h = h

pub open_skips : (js : List Joint) (n l : ℕ) (c : Place) (s : Stack) (ws : List Word) → Closed n ws → run (open_among js n l c ++ s) ws ≡ run s ws
open_skips [] n l c s ws a = refl
open_skips (j ∷ js) n l c s ws a =
    open_one j n c s (open_among js n l c) ws (nat_le n (strength j)) (nat_le (left j) l) refl a (open_skips js n l c s ws a)

take_and : (n l : ℕ) (c : Place) (s : Stack) (ws : List Word) → n ≤ 4 → 4 ≤ l
    → run (open_tails n l c ++ s) (mark k.Amp ∷ ws) ≡ in_role joins (run (operand 5 c ∷ open_tails n 4 c ++ s) ws)
take_and n l c s ws a b = rw (le-leb n 4 a, le-leb 4 l b, le-leb 3 l (omega arith), le-leb 2 l (omega arith)) refl

take_or : (n l : ℕ) (c : Place) (s : Stack) (ws : List Word) → n ≤ 3 → 3 ≤ l
    → run (open_tails n l c ++ s) (mark k.Bar ∷ ws) ≡ in_role joins (run (operand 4 c ∷ open_tails n 3 c ++ s) ws)
take_or n l c s ws a b =
    elim (leb_tells 4 l) as (λ x. run (open_tails n l c ++ s) (mark k.Bar ∷ ws) ≡ in_role joins (run (operand 4 c ∷ open_tails n 3 c ++ s) ws)) [
      | inl p ↦ rw (le-leb n 4 (omega arith), le-leb n 3 a, le-leb 3 l b, le-leb 2 l (omega arith), p.0) refl
      | inr p ↦ rw (le-leb n 4 (omega arith), le-leb n 3 a, le-leb 3 l b, le-leb 2 l (omega arith), p.0) refl
    ]

take_imp : (n l : ℕ) (c : Place) (s : Stack) (ws : List Word) → n ≤ 2 → 3 ≤ l
    → run (open_tails n l c ++ s) (mark k.Arrow ∷ ws) ≡ in_role (opens (suc c.depth)) (run (operand 2 (deeper c) ∷ open_tails n 2 c ++ s) ws)
take_imp n l c s ws a b =
    elim (leb_tells 4 l) as (λ x. run (open_tails n l c ++ s) (mark k.Arrow ∷ ws) ≡ in_role (opens (suc c.depth)) (run (operand 2 (deeper c) ∷ open_tails n 2 c ++ s) ws)) [
      | inl p ↦ rw (le-leb n 4 (omega arith), le-leb n 3 (omega arith), le-leb n 2 a, le-leb 3 l b, le-leb 2 l (omega arith), p.0) refl
      | inr p ↦ rw (le-leb n 4 (omega arith), le-leb n 3 (omega arith), le-leb n 2 a, le-leb 3 l b, le-leb 2 l (omega arith), p.0) refl
    ]

take_iff : (n l : ℕ) (c : Place) (s : Stack) (ws : List Word) → n ≤ 1 → 2 ≤ l
    → run (open_tails n l c ++ s) (mark k.DoubleArrow ∷ ws) ≡ run (operand 2 c ∷ open_tails n 1 c ++ s) ws
take_iff n l c s ws a b =
    elim (leb_tells 4 l) as (λ x. run (open_tails n l c ++ s) (mark k.DoubleArrow ∷ ws) ≡ run (operand 2 c ∷ open_tails n 1 c ++ s) ws) [
      | inl p ↦ rw (le-leb n 4 (omega arith), le-leb n 3 (omega arith), le-leb n 2 (omega arith), le-leb n 1 a, le-leb 2 l b, le-leb 3 l (omega arith), p.0) refl
      | inr p ↦ elim (leb_tells 3 l) as (λ x. run (open_tails n l c ++ s) (mark k.DoubleArrow ∷ ws) ≡ run (operand 2 c ∷ open_tails n 1 c ++ s) ws) [
        | inl q ↦ rw (le-leb n 4 (omega arith), le-leb n 3 (omega arith), le-leb n 2 (omega arith), le-leb n 1 a, le-leb 2 l b, q.0, p.0) refl
        | inr q ↦ rw (le-leb n 4 (omega arith), le-leb n 3 (omega arith), le-leb n 2 (omega arith), le-leb n 1 a, le-leb 2 l b, q.0, p.0) refl
      ]
    ]

-- the sign of a joint behind its left side
take_sign : (j : Joint) (n l : ℕ) (c : Place) (s : Stack) (ws : List Word) → n ≤ strength j → left j ≤ l
    → run (open_tails n l c ++ s) (mark (sign j) ∷ ws) ≡ in_roles (sign_roles j c) (run (operand (right j) (right_place j c) ∷ open_tails n (strength j) c ++ s) ws)
take_sign and n l c s ws a b = take_and n l c s ws a b
take_sign or n l c s ws a b = take_or n l c s ws a b
take_sign imp n l c s ws a b = take_imp n l c s ws a b
take_sign iff n l c s ws a b = take_iff n l c s ws a b

-- ---- formulas

comparison_walk : (r : Comparer) (c : Place) (s : Stack) (ws : List Word)
    → run (comparison c ∷ s) (mark (comparer_kind r) ∷ ws) ≡ run (term c ∷ s) ws
comparison_walk equals c s ws = refl
comparison_walk differs c s ws = refl

name_comparison_walk : (r : Comparer) (p : Text) (c : Place) (s : Stack) (ws : List Word)
    → run (name_tail p c ∷ s) (mark (comparer_kind r) ∷ ws) ≡ in_role (compares p) (run (term c ∷ s) ws)
name_comparison_walk equals p c s ws = refl
name_comparison_walk differs p c s ws = refl

pub comparer_avoids : (r : Comparer) (ws : List Word) → Avoids k.LeftParen (mark (comparer_kind r) ∷ ws)
comparer_avoids equals ws = refl
comparer_avoids differs ws = refl

-- what begins an atom, with what is expected behind it
left_walk : (r : Comparer) (t : WrittenTerm) (n : ℕ) (c : Place) (s : Stack) (ws : List Word)
    → run (operand n c ∷ s) (term_words t (mark (comparer_kind r) ∷ ws)) ≡ left_roles c t (run (term c ∷ tails n c ++ s) ws)
left_walk r (variable x) n c s ws = ap (λ o. in_role (stands x c) o) (comparison_walk r c (tails n c ++ s) ws)
left_walk r (headed (named f) ts) n c s ws =
    ap (λ o. in_role (begins_atom f) o)
    (walk_arguments ts (named f) c (name_tail f c ∷ tails n c ++ s) (mark (comparer_kind r) ∷ ws) (comparer_avoids r ws)
    ∙ ap (λ o. arguments_roles (named f) c ts o) (name_comparison_walk r f c (tails n c ++ s) ws))
left_walk r (headed (further i) ts) n c s ws =
    ap (λ o. in_role (heads (further i)) o)
    (walk_arguments ts (further i) c (comparison c ∷ tails n c ++ s) (mark (comparer_kind r) ∷ ws) (comparer_avoids r ws)
    ∙ ap (λ o. arguments_roles (further i) c ts o) (comparison_walk r c (tails n c ++ s) ws))

no_comparison : (rs : List Role) (c : Place) (kind : TokenKind) → same kind k.Equal ≡ false → same kind k.Differ ≡ false
    → comparison_row rs c kind ≡ None
no_comparison rs c k.Equal a b = absurd (cc a)
no_comparison rs c k.Differ a b = absurd (cc b)
no_comparison rs c kind a b = refl

alone_walk : (p : Text) (c : Place) (s : Stack) (ws : List Word) (n : ℕ) → Closed n ws
    → run (name_tail p c ∷ s) ws ≡ in_role (stands_alone p) (run s ws)
alone_walk p c s [] n a = skips (name_tail p c) s [] _ refl tt
alone_walk p c s (w ∷ ws) n a = skips (name_tail p c) s (w ∷ ws) _ refl (no_comparison (compares p ∷ []) c w.kind a.equal a.differ)

variables_walk : (xs : List Text) (c : Place) (s : Stack) (ws : List Word)
    → run (more_variables c ∷ s) (variables_words xs (mark k.Colon ∷ ws)) ≡ variables_roles xs (run (operand 5 (bind_all xs c) ∷ s) ws)
variables_walk [] c s ws = refl
variables_walk (x ∷ xs) c s ws = ap (λ o. in_role (binds x) o) (variables_walk xs (binding x c) s ws)

truth_walk : (b : Bool) (n : ℕ) (c : Place) (s : Stack) (ws : List Word)
    → run (operand n c ∷ s) (formula_words (truth b) ws) ≡ run (tails n c ++ s) ws
truth_walk true n c s ws = refl
truth_walk false n c s ws = refl

quantifier_walk : (q : Quantifier) (x : Text) (n : ℕ) (c : Place) (s : Stack) (ws : List Word)
    → run (operand n c ∷ s) (mark (quantifier_kind q) ∷ word k.Variable x ∷ ws)
    ≡ in_role (opens (suc c.depth)) (in_role (binds x) (run (more_variables (binding x (deeper c)) ∷ tails n c ++ s) ws))
quantifier_walk exists x n c s ws = refl
quantifier_walk forall x n c s ws = refl

module _ (n : ℕ) (c : Place) (s : Stack) where
  pub walk_whole : (f : WrittenFormula) (ws : List Word) → Closed n ws
      → run (operand n c ∷ s) (formula_words f ws) ≡ formula_roles c f (run (open_tails n (level f) c ++ s) ws)
      → run (operand n c ∷ s) (formula_words f ws) ≡ formula_roles c f (run s ws)
  walk_whole f ws a e = e ∙ ap (λ o. formula_roles c f o) (open_skips (and ∷ or ∷ imp ∷ iff ∷ []) n (level f) c s ws a)

-- Behind a formula the machine expects what may be joined to it.
pub walk : (f : WrittenFormula) (n : ℕ) (c : Place) (s : Stack) (ws : List Word) → IsLevelled f → n ≤ level f → Closed (reach f) ws
    → run (operand n c ∷ s) (formula_words f ws) ≡ formula_roles c f (run (open_tails n (level f) c ++ s) ws)
walk (truth b) n c s ws l m a = truth_walk b n c s ws
walk (finite t) n c s ws l m a =
    ap (λ o. in_role (opens (suc c.depth)) o) (walk_term t (deeper c) (plain k.RightParen ∷ tails n c ++ s) (mark k.RightParen ∷ ws) refl)
walk (win p d t) n c s ws l m a =
    ap (λ o. in_role (opens (suc c.depth)) (in_role (plays p) (in_role (counts d) o)))
    (walk_term t (deeper c) (plain k.RightParen ∷ tails n c ++ s) (mark k.RightParen ∷ ws) refl)
walk (compared r t u) n c s ws l m a =
    left_walk r t n c s (term_words u ws) ∙ ap (λ o. left_roles c t o) (walk_term u c (tails n c ++ s) ws (closed_avoids 5 ws a))
walk (call p ts) n c s ws l m a =
    ap (λ o. in_role (begins_atom p) o)
    (walk_arguments ts (named p) c (name_tail p c ∷ tails n c ++ s) ws (closed_avoids 5 ws a)
    ∙ ap (λ o. arguments_roles (named p) c ts o) (alone_walk p c (tails n c ++ s) ws 5 a))
walk (no f) n c s ws l m a =
    ap (λ o. in_role (opens (suc c.depth)) o)
    (walk_whole 5 (deeper c) (tails n c ++ s) f ws a
    (walk f 5 (deeper c) (tails n c ++ s) ws l.1 l.0 (closed_more 5 (reach f) ws (below 5 f l.0) a)))
walk (group f) n c s ws l m a =
    ap (λ o. in_role (opens (suc c.depth)) o)
    (walk_whole 1 (deeper c) (plain k.RightParen ∷ tails n c ++ s) f (mark k.RightParen ∷ ws) ends_paren
    (walk f 1 (deeper c) (plain k.RightParen ∷ tails n c ++ s) (mark k.RightParen ∷ ws) l (least f) (closed_more 1 (reach f) (mark k.RightParen ∷ ws) (below 1 f (least f)) ends_paren)))
walk (joined j f g) n c s ws l m a =
    walk f n c s (mark (sign j) ∷ formula_words g ws) l.2 (left_below j n f m l.0) (closed_sign j f (formula_words g ws) l.0)
    ∙ ap (λ o. formula_roles c f o)
    (take_sign j n (level f) c s (formula_words g ws) m l.0
    ∙ ap (λ o. in_roles (sign_roles j c) o)
    (walk_whole (right j) (right_place j c) (open_tails n (strength j) c ++ s) g ws a
    (walk g (right j) (right_place j c) (open_tails n (strength j) c ++ s) ws l.3 l.1 (closed_more (right j) (reach g) ws (below (right j) g l.1) a))))
walk (quantified q x xs f) n c s ws l m a =
    quantifier_walk q x n c s (variables_words xs (mark k.Colon ∷ formula_words f ws))
    ∙ ap (λ o. in_role (opens (suc c.depth)) (in_role (binds x) o))
    (variables_walk xs (binding x (deeper c)) (tails n c ++ s) (formula_words f ws)
    ∙ ap (λ o. variables_roles xs o)
    (walk_whole 5 (bind_all xs (binding x (deeper c))) (tails n c ++ s) f ws a
    (walk f 5 (bind_all xs (binding x (deeper c))) (tails n c ++ s) ws l.1 l.0 (closed_more 5 (reach f) ws (below 5 f l.0) a))))

-- ---- whole operands, and statements

-- a formula with nothing behind it that continues it
pub walk_operand : (f : WrittenFormula) (n : ℕ) (c : Place) (s : Stack) (ws : List Word) → IsLevelled f → n ≤ level f → Closed n ws
    → run (operand n c ∷ s) (formula_words f ws) ≡ formula_roles c f (run s ws)
walk_operand f n c s ws l m a = walk_whole n c s f ws a (walk f n c s ws l m (closed_more n (reach f) ws (below n f m) a))

declarations_walk : (ds : List Declaration) (s : Stack) (ws : List Word)
    → run (declarations ∷ plain k.Stop ∷ s) (declarations_words ds (mark k.Stop ∷ ws)) ≡ declarations_roles ds (run s ws)
declarations_walk [] s ws = refl
declarations_walk (d ∷ ds) s ws = ap (λ o. declaration_roles d o) (declarations_walk ds s ws)

parameters_walk : (p : Text) (xs before : List Text) (s : Stack) (ws : List Word)
    → run (more_parameters p before ∷ s) (more_parameters_words xs (mark k.RightParen ∷ ws))
    ≡ parameters_roles before xs (run (definition p (before ++ xs) ∷ s) ws)
parameters_walk p [] before s ws = ap (λ ys. run (definition p ys ∷ s) ws) (sym (append-nil before))
parameters_walk p (x ∷ xs) before s ws =
    ap (λ o. in_role (has_parameter x before) o)
    (parameters_walk p xs (before ++ x ∷ []) s ws
    ∙ ap (λ ys. parameters_roles (before ++ x ∷ []) xs (run (definition p ys ∷ s) ws)) (append_assoc before (x ∷ []) xs))

module _ (s : Stack) (ws : List Word) where
  body_walk : (p : Text) (xs : List Text) (f : WrittenFormula) → IsLevelled f
      → run (defined p xs ++ s) (formula_words f (mark k.Stop ∷ ws)) ≡ formula_roles (closed_place xs) f (in_role (ends_predicate p (length xs)) (run s ws))
  body_walk p xs f l =
      walk_operand f 1 (closed_place xs) (one k.Stop (λ text. ends_predicate p (length xs) ∷ []) ∷ s) (mark k.Stop ∷ ws) l (least f) ends_stop

  header_walk : (p : Text) (xs : List Text) (f : WrittenFormula) → IsLevelled f
      → run (header p ∷ s) (parameters_words xs (mark k.Define ∷ formula_words f (mark k.Stop ∷ ws)))
      ≡ parameters_roles [] xs (formula_roles (closed_place xs) f (in_role (ends_predicate p (length xs)) (run s ws)))
  header_walk p [] f l = body_walk p [] f l
  header_walk p (x ∷ xs) f l =
      ap (λ o. in_role (has_parameter x []) o)
      (parameters_walk p xs (x ∷ []) s (mark k.Define ∷ formula_words f (mark k.Stop ∷ ws))
      ∙ ap (λ o. parameters_roles (x ∷ []) xs o) (body_walk p (x ∷ xs) f l))

module _ (G : FileGrammar) where
  -- behind the first word of a statement
  said_walk : (said : Said) (s : Stack) (ws : List Word) → IsLevelledSaid said
      → in_roles (opened G (manner_of said)).0 (run ((opened G (manner_of said)).1 ++ s) (said_words said ws)) ≡ said_roles said (run (statements G ∷ s) ws)
  said_walk (symbols d ds) s ws l = ap (λ o. declaration_roles d o) (declarations_walk ds (statements G ∷ s) ws)
  said_walk (predicate p xs f) s ws l =
      ap (λ o. in_role begins (in_role (declares_predicate p) o)) (header_walk (statements G ∷ s) ws p xs f l)
  said_walk (question f) s ws l =
      ap (λ o. in_role begins o)
      (walk_operand f 1 open_place (plain k.Stop ∷ statements G ∷ s) (mark k.Stop ∷ ws) l (least f) ends_stop)

  pub walk_statements : (ss : List WrittenStatement) (s : Stack) (ws : List Word) → AreStatementsOf G ss
      → run (statements G ∷ s) (statements_words ss ws) ≡ statements_roles ss (run (statements G ∷ s) ws)
  walk_statements [] s ws a = refl
  walk_statements (x ∷ ss) s ws a =
      takes (statements G) s x.first (said_words x.said (statements_words ss ws)) (opened G (manner_of x.said))
      (ap (λ o. option_map (λ manner. opened G manner) o) a.0.opened)
      ∙ said_walk x.said s (statements_words ss ws) a.0.levelled
      ∙ ap (λ o. said_roles x.said o) (walk_statements ss s ws a.1)
