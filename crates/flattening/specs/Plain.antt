-- Terms and formulas as plain data, in which "not", "and" and "exists" stand for the other connectives.
use Rattle.std.specs.Prelude.{ℕ, List, [], ◌∷◌}
use Rattle.tree_model.specs.declared.tree.Symbol.{Symbol}
use Rattle.formula_ast.specs.declared.term.Term.{Term, Var, App', Row_of-Term, end_of-Term, more_of-Term}
use Rattle.formula_ast.specs.Forms.{Form}
use Rattle.formula_ast.specs.Forms as form
use Rattle.flattening.specs.declared.solved.Key.{Key}
use Rattle.flattening.specs.declared.solved.Key.TheVariants.{Call, Win}

mutual
  pub data PlainTerm : Type 0 where
    variable : ℕ → PlainTerm
    apply : Symbol → PlainTerms → PlainTerm

  pub data PlainTerms : Type 0 where
    no_terms : PlainTerms
    one_more : PlainTerm → PlainTerms → PlainTerms

unfoldable mutual
  pub term_of : Term → PlainTerm
  term_of (Var v) = variable v
  term_of (App' symbol shape row) = apply symbol (row_terms row)

  -- the arguments, as Rattle keeps them
  pub row_terms : {m : _} → Row_of-Term m → PlainTerms
  row_terms end_of-Term = no_terms
  row_terms (more_of-Term t rest) = one_more (term_of t) (row_terms rest)

abbrev pub terms_of : List Term → PlainTerms
terms_of [] = no_terms
terms_of (t ∷ ts) = one_more (term_of t) (terms_of ts)

-- a formula; `ask` is a call or a win, by the key of its entry and its arguments
pub data Plain : Type 0 where
  always : Plain
  equal : PlainTerm → PlainTerm → Plain
  finite : PlainTerm → Plain
  ask : Key → PlainTerms → Plain
  no : Plain → Plain
  and : Plain → Plain → Plain
  exists : ℕ → Plain → Plain

-- f implies g: not both f and not g
abbrev pub imply : Plain → Plain → Plain
imply f g = no (and f (no g))

abbrev pub plain_of : Form → Plain
plain_of form.always = always
plain_of form.never = no always
plain_of (form.equal t s) = equal (term_of t) (term_of s)
plain_of (form.differ t s) = no (equal (term_of t) (term_of s))
plain_of (form.finite t) = finite (term_of t)
plain_of (form.call p ts) = ask (Call p) (terms_of ts)
plain_of (form.win p k t) = ask (Win p k) (one_more (term_of t) no_terms)
plain_of (form.no f) = no (plain_of f)
plain_of (form.and f g) = and (plain_of f) (plain_of g)
plain_of (form.or f g) = no (and (no (plain_of f)) (no (plain_of g)))
plain_of (form.imp f g) = imply (plain_of f) (plain_of g)
plain_of (form.iff f g) = and (imply (plain_of f) (plain_of g)) (imply (plain_of g) (plain_of f))
plain_of (form.exists x f) = exists x (plain_of f)
plain_of (form.forall x f) = no (exists x (no (plain_of f)))
