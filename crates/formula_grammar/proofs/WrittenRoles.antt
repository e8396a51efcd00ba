-- The roles of the words of what is written, before those of the words behind them.
use Rattle.std.proofs.Common.{ℕ, suc, List, [], ◌∷◌, ◌++◌, length}
use Rattle.formula_grammar.specs.Written.{Text, Head, named, further, WrittenTerm, variable, headed, WrittenTerms, no_terms, one_more, WrittenFormula, truth, finite, win, compared, call, no, group, joined, quantified, Declaration, Said, symbols, predicate, question}
use Rattle.formula_grammar.specs.Words.{WrittenStatement}
use Rattle.formula_grammar.specs.Machine.{Place, deeper, binding, open_place, closed_place, begins, opens, declares, has_arity, declares_predicate, has_parameter, ends_predicate, binds, stands, heads, begins_atom, opens_arguments, no_arguments, separates, closes, compares, stands_alone, plays, counts, sign_roles, right_place}
use Rattle.formula_grammar.proofs.Run.{Course, in_role, in_roles}

-- a term; its arguments; and those behind so many
abbrev mutual
  pub term_roles : Place → WrittenTerm → Course → Course
  term_roles c (variable x) o = in_role (stands x c) o
  term_roles c (headed h ts) o = in_role (heads h) (arguments_roles h c ts o)

  pub arguments_roles : Head → Place → WrittenTerms → Course → Course
  arguments_roles h c no_terms o = in_role (no_arguments h) o
  arguments_roles h c (one_more t ts) o =
      in_role (opens_arguments h) (in_role (opens (suc c.depth)) (term_roles (deeper c) t (more_roles h 1 (deeper c) ts o)))

  pub more_roles : Head → ℕ → Place → WrittenTerms → Course → Course
  more_roles h n c no_terms o = in_role (closes h n) o
  more_roles h n c (one_more t ts) o = in_role (separates h n) (term_roles c t (more_roles h (suc n) c ts o))

-- the left side of a comparison, and its sign
abbrev pub left_roles : Place → WrittenTerm → Course → Course
left_roles c (variable x) o = in_role (stands x c) o
left_roles c (headed (named f) ts) o = in_role (begins_atom f) (arguments_roles (named f) c ts (in_role (compares f) o))
left_roles c (headed (further i) ts) o = in_role (heads (further i)) (arguments_roles (further i) c ts o)

-- further variables of a quantifier, and the place behind them
abbrev pub variables_roles : List Text → Course → Course
variables_roles [] o = o
variables_roles (x ∷ xs) o = in_role (binds x) (variables_roles xs o)

abbrev pub bind_all : List Text → Place → Place
bind_all [] c = c
bind_all (x ∷ xs) c = bind_all xs (binding x c)

abbrev pub formula_roles : Place → WrittenFormula → Course → Course
formula_roles c (truth b) o = o
formula_roles c (finite t) o = in_role (opens (suc c.depth)) (term_roles (deeper c) t o)
formula_roles c (win p n t) o =
    in_role (opens (suc c.depth)) (in_role (plays p) (in_role (counts n) (term_roles (deeper c) t o)))
formula_roles c (compared r t u) o = left_roles c t (term_roles c u o)
formula_roles c (call p ts) o = in_role (begins_atom p) (arguments_roles (named p) c ts (in_role (stands_alone p) o))
formula_roles c (no f) o = in_role (opens (suc c.depth)) (formula_roles (deeper c) f o)
formula_roles c (group f) o = in_role (opens (suc c.depth)) (formula_roles (deeper c) f o)
formula_roles c (joined j f g) o = formula_roles c f (in_roles (sign_roles j c) (formula_roles (right_place j c) g o))
formula_roles c (quantified q x xs f) o =
    in_role (opens (suc c.depth)) (in_role (binds x) (variables_roles xs (formula_roles (bind_all xs (binding x (deeper c))) f o)))

-- ---- statements

abbrev pub declaration_roles : Declaration → Course → Course
declaration_roles d o = in_role (declares d.name) (in_role (has_arity d.name d.digits) o)

abbrev pub declarations_roles : List Declaration → Course → Course
declarations_roles [] o = o
declarations_roles (d ∷ ds) o = declaration_roles d (declarations_roles ds o)

-- parameters behind these
abbrev pub parameters_roles : List Text → List Text → Course → Course
parameters_roles before [] o = o
parameters_roles before (x ∷ xs) o = in_role (has_parameter x before) (parameters_roles (before ++ x ∷ []) xs o)

abbrev pub said_roles : Said → Course → Course
said_roles (symbols d ds) o = declaration_roles d (declarations_roles ds o)
said_roles (predicate p xs f) o =
    in_role begins (in_role (declares_predicate p) (parameters_roles [] xs
    (formula_roles (closed_place xs) f (in_role (ends_predicate p (length xs)) o))))
said_roles (question f) o = in_role begins (formula_roles open_place f o)

abbrev pub statements_roles : List WrittenStatement → Course → Course
statements_roles [] o = o
statements_roles (s ∷ ss) o = said_roles s.said (statements_roles ss o)
