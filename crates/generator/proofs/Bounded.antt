-- Drawn formulas are levelled, use the three symbols as they are declared, and are not too large.
use Rattle.std.proofs.Common.{◌≡◌, ℕ, ◌+◌, ◌*◌, ◌≤◌, true, false, List, [], ◌∷◌, ◌++◌, length, Some, codes, refl, sym, ◌∙◌, arith, length-append}
use Rattle.std.proofs.lemmas.List.Elements.{All-cons, All-nil}
use Rattle.tree_model.specs.Signatures.{Signature}
use Rattle.formula_ast.specs.declared.token.TokenKind.{TokenKind}
use Rattle.formula_ast.specs.declared.token.TokenKind.TheVariants as k
use Rattle.formula_ast.specs.Tokens.{Word, kind_of}
use Rattle.formula_grammar.specs.Written.{Text, WrittenTerm, variable, Joint, and, or, imp, iff, Quantifier, exists, forall, Comparer, equals, differs, WrittenFormula, finite, compared}
use Rattle.formula_grammar.specs.Words.{mark, has_text, sign, comparer_kind, quantifier_kind, term_words, formula_words}
use Rattle.formula_grammar.specs.Grammar.{IsLevelled}
use Rattle.formula_grammar.specs.Names.{UsesSymbols, UsesNames, declared_by}
use Rattle.formula_grammar.specs.Within.{IsShort, IsSmallTerm, IsSmall, term_nesting, nesting, joints}
use Rattle.formula_printer.specs.Texts.{term_text, comparer_text, joint_text, quantifier_text, text_of}
use Rattle.written_files.specs.WrittenLaws.{IsOfItsKind, AreOfTheirKinds}
use Rattle.generator.specs.Drawing.{Draw, always, one_of}
use Rattle.generator.specs.Generated.{constant, one_argument, two_arguments, one_variable, other_leaves, drawn_leaf, nodes, drawn_term, comparison, other_atoms, drawn_atom, other_variables, drawn_variable, negation, joint, quantifier, compounds, drawn_formula, declares}
use Rattle.generator.proofs.Always.{Always, AllAlways, always_made, always_two, always_one_of}

-- the three declared symbols
abbrev pub symbols_here : Signature
symbols_here = declared_by [] declares.said

abbrev Kinds : List Word → Type 0
Kinds = AreOfTheirKinds

pub bare : (kind : TokenKind) → has_text kind ≡ false → IsOfItsKind (mark kind)
bare kind none = λ some. let bad : false ≡ true = sym none ∙ some in absurd (cc bad)

comparer_bare : (r : Comparer) → has_text (comparer_kind r) ≡ false
comparer_bare equals = refl
comparer_bare differs = refl

sign_bare : (j : Joint) → has_text (sign j) ≡ false
sign_bare and = refl
sign_bare or = refl
sign_bare imp = refl
sign_bare iff = refl

quantifier_bare : (q : Quantifier) → has_text (quantifier_kind q) ≡ false
quantifier_bare exists = refl
quantifier_bare forall = refl

-- ---- terms

pub record IsGoodTerm (bytes nests : ℕ) (t : WrittenTerm) : Type 0 where
  pub uses : UsesSymbols symbols_here t
  pub small : IsSmallTerm t
  pub nested : term_nesting t ≤ nests
  pub short : length (term_text t) ≤ bytes
  pub kinds : (ws : List Word) → Kinds ws → Kinds (term_words t ws)

-- a variable of one letter
record IsLetter (x : Text) : Type 0 where
  is : kind_of x ≡ Some k.Variable
  short : length x ≡ 1

x_letter : IsLetter (codes "X")
unfolding kind_of
x_letter = record { is = refl; short = refl }

y_letter : IsLetter (codes "Y")
unfolding kind_of
y_letter = record { is = refl; short = refl }

z_letter : IsLetter (codes "Z")
unfolding kind_of
z_letter = record { is = refl; short = refl }

pub a_name : kind_of (codes "a") ≡ Some k.Name
unfolding kind_of
a_name = refl

pub f_name : kind_of (codes "f") ≡ Some k.Name
unfolding kind_of
f_name = refl

pub g_name : kind_of (codes "g") ≡ Some k.Name
unfolding kind_of
g_name = refl

letter_good : (x : Text) → IsLetter x → IsGoodTerm 1 0 (variable x)
letter_good x l = record {
  uses = tt;
  small = omega (arith, l.short);
  nested = omega arith;
  short = omega (arith, l.short);
  kinds = λ ws h. (λ _. l.is, h);
}

constant_good : IsGoodTerm 1 0 constant
constant_good = record {
  uses = (refl, tt);
  small = (omega arith, tt);
  nested = omega arith;
  short = omega arith;
  kinds = λ ws h. (λ _. a_name, h);
}

one_good : (t : WrittenTerm) → IsGoodTerm 1 0 t → IsGoodTerm 7 1 (one_argument t)
one_good t g = record {
  uses = (refl, (g.uses, tt));
  small = (omega arith, (g.small, tt));
  nested = omega (arith, g.nested);
  short = simp length-append (omega (arith, g.short));
  kinds = λ ws h. (λ _. f_name, (bare k.LeftParen refl, g.kinds _ (bare k.RightParen refl, h)));
}

two_good : (t u : WrittenTerm) → IsGoodTerm 1 0 t → IsGoodTerm 1 0 u → IsGoodTerm 7 1 (two_arguments t u)
two_good t u g h = record {
  uses = (refl, (g.uses, (h.uses, tt)));
  small = (omega arith, (g.small, (h.small, tt)));
  nested = omega (arith, g.nested, h.nested);
  short = simp length-append (omega (arith, g.short, h.short));
  kinds = λ ws e. (λ _. g_name, (bare k.LeftParen refl, g.kinds _ (bare k.Comma refl, h.kinds _ (bare k.RightParen refl, e))));
}

deeper_term : (t : WrittenTerm) → IsGoodTerm 1 0 t → IsGoodTerm 7 1 t
deeper_term t g = record { uses = g.uses; small = g.small; nested = omega (arith, g.nested); short = omega (arith, g.short); kinds = g.kinds }

leaves_good : AllAlways (IsGoodTerm 1 0) (one_variable ∷ other_leaves)
leaves_good = (λ state. letter_good _ x_letter, (λ state. letter_good _ y_letter, (λ state. letter_good _ z_letter, (λ state. constant_good, tt))))

leaf_good : Always (IsGoodTerm 1 0) drawn_leaf
unfolding drawn_leaf
leaf_good = always_one_of (IsGoodTerm 1 0) one_variable other_leaves leaves_good.0 leaves_good.1

term_good : Always (IsGoodTerm 7 1) drawn_term
unfolding drawn_term
term_good = always_one_of (IsGoodTerm 7 1) one_variable (other_leaves ++ nodes)
    (λ state. deeper_term _ (leaves_good.0 state)) (
      λ state. deeper_term _ (leaves_good.1.0 state),
      (
        λ state. deeper_term _ (leaves_good.1.1.0 state),
        (
          λ state. deeper_term _ (leaves_good.1.1.1.0 state),
          (
            always_made (IsGoodTerm 1 0) (IsGoodTerm 7 1) one_argument drawn_leaf one_good leaf_good,
            (always_two (IsGoodTerm 1 0) (IsGoodTerm 1 0) (IsGoodTerm 7 1) two_arguments drawn_leaf drawn_leaf two_good leaf_good leaf_good, tt),
          ),
        ),
      ),
    )

-- ---- formulas

pub record IsGood (bytes nests joins : ℕ) (f : WrittenFormula) : Type 0 where
  pub levelled : IsLevelled f
  pub uses : UsesNames symbols_here f
  pub small : IsSmall f
  pub nested : nesting f ≤ nests
  pub joined : joints f ≤ joins
  pub short : length (text_of f) ≤ bytes
  pub kinds : (ws : List Word) → Kinds ws → Kinds (formula_words f ws)

comparer_short : (r : Comparer) → length (comparer_text r) ≤ 2
comparer_short equals = omega arith
comparer_short differs = omega arith

compared_good : (r : Comparer) (t u : WrittenTerm) → IsGoodTerm 7 1 t → IsGoodTerm 7 1 u → IsGood 18 2 0 (compared r t u)
compared_good r t u g h = record {
  levelled = tt;
  uses = (g.uses, h.uses);
  small = (g.small, h.small);
  nested = omega (arith, g.nested, h.nested);
  joined = omega arith;
  short = simp length-append (omega (arith, g.short, h.short, comparer_short r));
  kinds = λ ws e. g.kinds _ (bare (comparer_kind r) (comparer_bare r), h.kinds _ e);
}

finite_good : (t : WrittenTerm) → IsGoodTerm 7 1 t → IsGood 18 2 0 (finite t)
finite_good t g = record {
  levelled = tt;
  uses = g.uses;
  small = g.small;
  nested = omega (arith, g.nested);
  joined = omega arith;
  short = simp length-append (omega (arith, g.short));
  kinds = λ ws e. (bare k.Finite refl, (bare k.LeftParen refl, g.kinds _ (bare k.RightParen refl, e)));
}

comparison_good : (r : Comparer) → Always (IsGood 18 2 0) (comparison r)
comparison_good r = always_two (IsGoodTerm 7 1) (IsGoodTerm 7 1) (IsGood 18 2 0) (compared r) drawn_term drawn_term (compared_good r) term_good term_good

atom_good : Always (IsGood 18 2 0) drawn_atom
unfolding drawn_atom
atom_good = always_one_of (IsGood 18 2 0) (comparison equals) other_atoms (comparison_good equals)
    (comparison_good differs, (always_made (IsGoodTerm 7 1) (IsGood 18 2 0) finite drawn_term finite_good term_good, tt))

variable_good : Always IsLetter drawn_variable
unfolding drawn_variable
variable_good = always_one_of IsLetter (always (codes "X")) other_variables (λ state. x_letter) (λ state. y_letter, (λ state. z_letter, tt))

joint_short : (j : Joint) → length (joint_text j) ≤ 3
joint_short and = omega arith
joint_short or = omega arith
joint_short imp = omega arith
joint_short iff = omega arith

quantifier_short : (q : Quantifier) → length (quantifier_text q) ≡ 6
quantifier_short exists = refl
quantifier_short forall = refl

-- what the bounds on an operand become
module _ (b n j : ℕ) (some : 18 ≤ b) (deep : 2 ≤ n) where
  abbrev Next : WrittenFormula → Type 0
  Next = IsGood (2 * b + 7) (n + 2) (2 * j + 1)

  atom_next : Always Next drawn_atom
  atom_next state = let g = atom_good state in record {
    levelled = g.levelled;
    uses = g.uses;
    small = g.small;
    nested = omega (arith, g.nested);
    joined = omega (arith, g.joined);
    short = omega (arith, g.short);
    kinds = g.kinds;
  }

  negation_next : (f : WrittenFormula) → IsGood b n j f → Next (negation f)
  negation_next f g = record {
    levelled = (omega arith, g.levelled);
    uses = g.uses;
    small = g.small;
    nested = omega (arith, g.nested);
    joined = omega (arith, g.joined);
    short = simp length-append (omega (arith, g.short));
    kinds = λ ws e. (bare k.Tilde refl, (bare k.LeftParen refl, g.kinds _ (bare k.RightParen refl, e)));
  }

  and_next : (f g : WrittenFormula) → IsGood b n j f → IsGood b n j g → Next (joint and f g)
  and_next f g p q = record {
    levelled = (omega arith, omega arith, p.levelled, q.levelled);
    uses = (p.uses, q.uses);
    small = (p.small, q.small);
    nested = omega (arith, p.nested, q.nested);
    joined = omega (arith, p.joined, q.joined);
    short = simp length-append (omega (arith, p.short, q.short));
    kinds = λ ws e. (bare k.LeftParen refl, p.kinds _ (bare k.RightParen refl, (bare k.Amp refl, (bare k.LeftParen refl, q.kinds _ (bare k.RightParen refl, e)))));
  }

  or_next : (f g : WrittenFormula) → IsGood b n j f → IsGood b n j g → Next (joint or f g)
  or_next f g p q = record {
    levelled = (omega arith, omega arith, p.levelled, q.levelled);
    uses = (p.uses, q.uses);
    small = (p.small, q.small);
    nested = omega (arith, p.nested, q.nested);
    joined = omega (arith, p.joined, q.joined);
    short = simp length-append (omega (arith, p.short, q.short));
    kinds = λ ws e. (bare k.LeftParen refl, p.kinds _ (bare k.RightParen refl, (bare k.Bar refl, (bare k.LeftParen refl, q.kinds _ (bare k.RightParen refl, e)))));
  }

  quantifier_next : (q : Quantifier) (x : Text) (f : WrittenFormula) → IsLetter x → IsGood b n j f → Next (quantifier q x f)
  quantifier_next q x f l g = record {
    levelled = (omega arith, g.levelled);
    uses = g.uses;
    small = (All-cons IsShort x [] (omega (arith, l.short)) (All-nil IsShort), g.small);
    nested = omega (arith, g.nested);
    joined = omega (arith, g.joined);
    short = simp length-append (omega (arith, g.short, l.short, quantifier_short q));
    kinds = λ ws e. (bare (quantifier_kind q) (quantifier_bare q), (λ _. l.is, (bare k.Colon refl, (bare k.LeftParen refl, g.kinds _ (bare k.RightParen refl, e)))));
  }

  next_good : (operand : Draw WrittenFormula) → Always (IsGood b n j) operand → Always Next (one_of drawn_atom (compounds operand))
  next_good operand g = always_one_of Next drawn_atom (compounds operand) atom_next (
    always_made (IsGood b n j) Next negation operand negation_next g,
    (
      always_two (IsGood b n j) (IsGood b n j) Next (joint and) operand operand and_next g g,
      (
        always_two (IsGood b n j) (IsGood b n j) Next (joint or) operand operand or_next g g,
        (
          always_two IsLetter (IsGood b n j) Next (quantifier exists) drawn_variable operand (quantifier_next exists) variable_good g,
          (always_two IsLetter (IsGood b n j) Next (quantifier forall) drawn_variable operand (quantifier_next forall) variable_good g, tt),
        ),
      ),
    ),
  )

pub formula_good : Always (IsGood 193 8 7) (drawn_formula 3)
unfolding drawn_formula
formula_good = next_good 93 6 3 (omega arith) (omega arith) (drawn_formula 2)
    (next_good 43 4 1 (omega arith) (omega arith) (drawn_formula 1)
    (next_good 18 2 0 (omega arith) (omega arith) (drawn_formula 0) atom_good))
