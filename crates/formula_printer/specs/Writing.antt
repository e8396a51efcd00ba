-- How terms and formulas are written: with which names and numbers, and where in parentheses.
use Rattle.std.specs.Prelude.{ℕ, true, false, List, [], ◌∷◌, map, get_or, if◌then◌else◌, nat_lt}
use Rattle.tree_model.specs.Signatures.{Signature, Entry}
use Rattle.tree_model.specs.declared.tree.Symbol.{Symbol}
use Rattle.tree_model.specs.declared.tree.Symbol.TheVariants.{Named, Further}
use Rattle.formula_ast.specs.declared.term.Term.{Term, Var, App', Row_of-Term, end_of-Term, more_of-Term}
use Rattle.formula_ast.specs.Forms as form
use Rattle.formula_ast.specs.Forms.{Form}
use Rattle.formula_grammar.specs.Written.{Text, Head, named, further, WrittenTerm, variable, headed, WrittenTerms, no_terms, one_more, Joint, and, or, imp, iff, Quantifier, exists, forall, equals, differs, WrittenFormula, truth, finite, win, compared, call, no, group, joined, quantified}
use Rattle.formula_grammar.specs.Grammar.{left, right, level}
use Rattle.formula_printer.specs.Numerals.{numeral}

-- the text at a place of a list
abbrev pub text_at : List Text → ℕ → Text
text_at texts place = get_or texts place []

-- the declared names, in order
abbrev pub names_of : Signature → List Text
names_of σ = map {A = Entry} {B = List ℕ} (λ entry. entry.name) σ

-- the word of a symbol: its name, or `$` and its index
abbrev pub symbol_head : Signature → Symbol → Head
symbol_head σ (Named place) = named (text_at (names_of σ) place)
symbol_head σ (Further index) = further (36 ∷ numeral index)

unfoldable mutual
  -- a term, where each variable has the name at its place
  pub written_term : Signature → List Text → Term → WrittenTerm
  written_term σ names (Var x) = variable (text_at names x)
  written_term σ names (App' symbol shape terms) = headed (symbol_head σ symbol) (written_row σ names terms)

  -- its arguments, as Rattle keeps them
  pub written_row : {m : _} → Signature → List Text → Row_of-Term m → WrittenTerms
  written_row σ names end_of-Term = no_terms
  written_row σ names (more_of-Term t terms) = one_more (written_term σ names t) (written_row σ names terms)

-- terms, one after another
abbrev pub written_terms : Signature → List Text → List Term → WrittenTerms
written_terms σ names [] = no_terms
written_terms σ names (t ∷ ts) = one_more (written_term σ names t) (written_terms σ names ts)

-- a formula at a place that asks for a level: in parentheses, where its own is below
abbrev pub placed : ℕ → WrittenFormula → WrittenFormula
placed asked f = if nat_lt (level f) asked then group f else f

-- two formulas on the sides of a joint
abbrev pub between : Joint → WrittenFormula → WrittenFormula → WrittenFormula
between j f g = joined j (placed (left j) f) (placed (right j) g)

-- A quantifier before its body. Where the body begins with a quantifier of the same kind, both are written as one.
abbrev pub quantify : Quantifier → Text → WrittenFormula → WrittenFormula
quantify exists x (quantified exists y ys f) = quantified exists x (y ∷ ys) f
quantify forall x (quantified forall y ys f) = quantified forall x (y ∷ ys) f
quantify q x f = quantified q x [] f

-- a formula, where each variable has the name at its place
abbrev pub written : Signature → List Text → Form → WrittenFormula
written σ names form.always = truth true
written σ names form.never = truth false
written σ names (form.equal t u) = compared equals (written_term σ names t) (written_term σ names u)
written σ names (form.differ t u) = compared differs (written_term σ names t) (written_term σ names u)
written σ names (form.finite t) = finite (written_term σ names t)
written σ names (form.call p ts) = call (text_at (names_of σ) p) (written_terms σ names ts)
written σ names (form.win p k t) = win (text_at (names_of σ) p) (numeral k) (written_term σ names t)
written σ names (form.no f) = no (placed 5 (written σ names f))
written σ names (form.and f g) = between and (written σ names f) (written σ names g)
written σ names (form.or f g) = between or (written σ names f) (written σ names g)
written σ names (form.imp f g) = between imp (written σ names f) (written σ names g)
written σ names (form.iff f g) = between iff (written σ names f) (written σ names g)
written σ names (form.exists x f) = quantify exists (text_at names x) (placed 5 (written σ names f))
written σ names (form.forall x f) = quantify forall (text_at names x) (placed 5 (written σ names f))
