-- Which written statements are within the limits on sizes and numbers.
use Rattle.std.specs.Prelude.{ℕ, suc, ◌+◌, ◌≤◌, ◌<◌, max, List, [], ◌∷◌, ◌++◌, length, All}
use Rattle.tree_model.specs.declared.kind.Kind.TheVariants as kind
use Rattle.tree_model.specs.Signatures.{Signature}
use Rattle.formula_grammar.specs.Limits.{longest_name, most_arguments, most_parameters, most_symbols, most_predicates, greatest_index, most_moves, deepest_nesting, most_joints}
use Rattle.formula_grammar.specs.Written.{Text, Head, named, further, WrittenTerm, variable, headed, WrittenTerms, no_terms, one_more, Joint, and, or, imp, WrittenFormula, truth, finite, win, compared, call, no, group, joined, quantified, Declaration, Said, symbols, predicate, question}
use Rattle.formula_grammar.specs.Words.{WrittenStatement}
use Rattle.formula_grammar.specs.Checks.{count_of, value_of, index_of}
use Rattle.formula_grammar.specs.Names.{count, symbol_entry, declared_by}

abbrev pub IsShort : Text → Type 0
IsShort text = length text ≤ longest_name

-- a name is short; a further symbol's index is not too great, and its arguments are not too many
abbrev pub IsSmallHead : Head → ℕ → Type 0
IsSmallHead (named f) n = IsShort f
IsSmallHead (further i) n = (index_of i ≤ greatest_index) × (n ≤ most_arguments)

-- the words of a term are within the limits
abbrev mutual
  pub IsSmallTerm : WrittenTerm → Type 0
  IsSmallTerm (variable x) = IsShort x
  IsSmallTerm (headed h ts) = IsSmallHead h (count ts) × AreSmallTerms ts

  pub AreSmallTerms : WrittenTerms → Type 0
  AreSmallTerms no_terms = Unit {0}
  AreSmallTerms (one_more t ts) = IsSmallTerm t × AreSmallTerms ts

-- and those of a formula
abbrev pub IsSmall : WrittenFormula → Type 0
IsSmall (truth b) = Unit {0}
IsSmall (finite t) = IsSmallTerm t
IsSmall (win p n t) = IsShort p × (value_of n ≤ most_moves) × IsSmallTerm t
IsSmall (compared r t u) = IsSmallTerm t × IsSmallTerm u
IsSmall (call p ts) = IsShort p × AreSmallTerms ts
IsSmall (no f) = IsSmall f
IsSmall (group f) = IsSmall f
IsSmall (joined j f g) = IsSmall f × IsSmall g
IsSmall (quantified q x xs f) = All IsShort (x ∷ xs) × IsSmall f

-- how many nestings stand within one another: lists of arguments in parentheses in a term,
abbrev mutual
  pub term_nesting : WrittenTerm → ℕ
  term_nesting (variable x) = 0
  term_nesting (headed h ts) = terms_nesting ts

  pub terms_nesting : WrittenTerms → ℕ
  terms_nesting no_terms = 0
  terms_nesting (one_more t ts) = max (suc (term_nesting t)) (terms_nesting ts)

-- how many nestings the right side of a joint stands in
abbrev pub right_nesting : Joint → ℕ
right_nesting imp = 1
right_nesting j = 0

-- and negations, quantifiers, right sides of `->` and parentheses in a formula
abbrev pub nesting : WrittenFormula → ℕ
nesting (truth b) = 0
nesting (finite t) = suc (term_nesting t)
nesting (win p n t) = suc (term_nesting t)
nesting (compared r t u) = max (term_nesting t) (term_nesting u)
nesting (call p ts) = terms_nesting ts
nesting (no f) = suc (nesting f)
nesting (group f) = suc (nesting f)
nesting (joined j f g) = max (nesting f) (right_nesting j + nesting g)
nesting (quantified q x xs f) = suc (nesting f)

-- how many `&`, `|` and variables in quantifiers' lists a formula has
abbrev pub joint_weight : Joint → ℕ
joint_weight and = 1
joint_weight or = 1
joint_weight j = 0

abbrev pub joints : WrittenFormula → ℕ
joints (no f) = joints f
joints (group f) = joints f
joints (joined j f g) = joints f + (joint_weight j + joints g)
joints (quantified q x xs f) = length (x ∷ xs) + joints f
joints f = 0

-- the formula of a statement is within the limits
pub record IsSized (f : WrittenFormula) : Type 0 where
  pub small : IsSmall f
  pub nested : nesting f ≤ deepest_nesting
  pub joined : joints f ≤ most_joints

-- ---- statements

-- a symbol's name is short, it has not too many arguments, and there are not too many symbols
pub record IsSmallDeclaration (σ : Signature) (d : Declaration) : Type 0 where
  pub short : IsShort d.name
  pub few_arguments : value_of d.digits ≤ most_arguments
  pub few_symbols : count_of kind.Symbol σ < most_symbols

abbrev pub AreSmallDeclarations : Signature → List Declaration → Type 0
AreSmallDeclarations σ [] = Unit {0}
AreSmallDeclarations σ (d ∷ ds) = IsSmallDeclaration σ d × AreSmallDeclarations (σ ++ symbol_entry d ∷ []) ds

-- a predicate's name and parameters are short, there are not too many of either, and its body is within the limits
pub record IsSmallDefinition (σ : Signature) (p : Text) (xs : List Text) (f : WrittenFormula) : Type 0 where
  pub short : IsShort p
  pub few_predicates : count_of kind.Pred σ < most_predicates
  pub short_parameters : All IsShort xs
  pub few_parameters : length xs ≤ most_parameters
  pub sized : IsSized f

abbrev pub IsWithin : Signature → Said → Type 0
IsWithin σ (symbols d ds) = AreSmallDeclarations σ (d ∷ ds)
IsWithin σ (predicate p xs f) = IsSmallDefinition σ p xs f
IsWithin σ (question f) = IsSized f

-- each statement is within the limits behind those before it
abbrev pub AreWithin : Signature → List WrittenStatement → Type 0
AreWithin σ [] = Unit {0}
AreWithin σ (s ∷ ss) = IsWithin σ s.said × AreWithin (declared_by σ s.said) ss
