-- The texts of what is drawn, with those of its parts.
use Rattle.std.proofs.Common.{◌≡◌, [], ◌++◌, codes, refl, sym, append_assoc, append-nil}
use Rattle.formula_grammar.specs.Written.{Text, WrittenTerm, and, or, exists, forall, equals, differs, WrittenFormula, finite, compared}
use Rattle.formula_printer.specs.Texts.{term_text, text_of}
use Rattle.generator.specs.Generated.{one_argument, two_arguments, negation, joint, quantifier}

-- ---- how texts are grouped

one_in_parentheses : (f l t r : Text) → f ++ (((l ++ t) ++ []) ++ r) ≡ ((f ++ l) ++ t) ++ r
one_in_parentheses f l t r = simp (append-nil, append_assoc)

two_in_parentheses : (f l t k u r : Text) → f ++ (((l ++ t) ++ ((k ++ u) ++ [])) ++ r) ≡ ((((f ++ l) ++ t) ++ k) ++ u) ++ r
two_in_parentheses f l t k u r = simp (append-nil, append_assoc)

between_blanks : (t b r u : Text) → (t ++ ((b ++ r) ++ b)) ++ u ≡ (((([] ++ t) ++ ((b ++ r) ++ b)) ++ u) ++ [])
between_blanks t b r u = sym (append-nil _)

two_operands : (l f r b j g : Text) → (((l ++ f) ++ r) ++ ((b ++ j) ++ b)) ++ ((l ++ g) ++ r) ≡ (((l ++ f) ++ (((r ++ (b ++ j)) ++ b) ++ l)) ++ g) ++ r
two_operands l f r b j g = simp append_assoc

behind_quantifier : (q b x c l f r : Text) → ((q ++ ((b ++ x) ++ [])) ++ c) ++ ((l ++ f) ++ r) ≡ ((((q ++ b) ++ x) ++ (c ++ l)) ++ f) ++ r
behind_quantifier q b x c l f r = simp (append-nil, append_assoc)

-- ---- the parts

pub one_argument-text : (t : WrittenTerm) → term_text (one_argument t) ≡ codes "f(" ++ term_text t ++ codes ")"
one_argument-text t = one_in_parentheses (codes "f") (codes "(") (term_text t) (codes ")")

pub two_arguments-text : (t u : WrittenTerm) → term_text (two_arguments t u) ≡ codes "g(" ++ term_text t ++ codes ", " ++ term_text u ++ codes ")"
two_arguments-text t u = two_in_parentheses (codes "g") (codes "(") (term_text t) (codes ", ") (term_text u) (codes ")")

pub equation-text : (t u : WrittenTerm) → text_of (compared equals t u) ≡ [] ++ term_text t ++ codes " = " ++ term_text u ++ []
equation-text t u = between_blanks (term_text t) (codes " ") (codes "=") (term_text u)

pub inequation-text : (t u : WrittenTerm) → text_of (compared differs t u) ≡ [] ++ term_text t ++ codes " != " ++ term_text u ++ []
inequation-text t u = between_blanks (term_text t) (codes " ") (codes "!=") (term_text u)

pub finite-text : (t : WrittenTerm) → text_of (finite t) ≡ codes "finite(" ++ term_text t ++ codes ")"
finite-text t = refl

pub negation-text : (f : WrittenFormula) → text_of (negation f) ≡ codes "~(" ++ text_of f ++ codes ")"
negation-text f = sym (append_assoc (codes "~") (codes "(" ++ text_of f) (codes ")"))

pub and-text : (f g : WrittenFormula) → text_of (joint and f g) ≡ codes "(" ++ text_of f ++ codes ") & (" ++ text_of g ++ codes ")"
and-text f g = two_operands (codes "(") (text_of f) (codes ")") (codes " ") (codes "&") (text_of g)

pub or-text : (f g : WrittenFormula) → text_of (joint or f g) ≡ codes "(" ++ text_of f ++ codes ") | (" ++ text_of g ++ codes ")"
or-text f g = two_operands (codes "(") (text_of f) (codes ")") (codes " ") (codes "|") (text_of g)

pub exists-text : (x : Text) (f : WrittenFormula) → text_of (quantifier exists x f) ≡ codes "exists " ++ x ++ codes ": (" ++ text_of f ++ codes ")"
exists-text x f = behind_quantifier (codes "exists") (codes " ") x (codes ": ") (codes "(") (text_of f) (codes ")")

pub forall-text : (x : Text) (f : WrittenFormula) → text_of (quantifier forall x f) ≡ codes "forall " ++ x ++ codes ": (" ++ text_of f ++ codes ")"
forall-text x f = behind_quantifier (codes "forall") (codes " ") x (codes ": ") (codes "(") (text_of f) (codes ")")
