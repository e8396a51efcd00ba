-- Well formed statements and files.
use Rattle.std.specs.Prelude.{◌≡◌, ◌≢◌, ℕ, ◌+◌, ◌<◌, ◌≤◌, ◌⊎◌, List, [], ◌∷◌, ◌++◌, map, take, length, All, slice_get, Some, IfSome}
use Rattle.signature.specs.Names.{HasDistinctNames}
use Rattle.tree_model.specs.declared.kind.Kind.{Kind}
use Rattle.tree_model.specs.declared.kind.Kind.TheVariants as kind
use Rattle.tree_model.specs.Signatures.{Signature, Entry, IsRoot, declared_at}
use Rattle.formula_ast.specs.declared.term.Term.{Term, Var}
use Rattle.formula_ast.specs.declared.term.Terms.{Terms}
use Rattle.formula_ast.specs.declared.term.Term.TheOpen.{Term-F}
use Rattle.formula_ast.specs.declared.term.Term.TheOpen as layer
use Rattle.formula_ast.specs.declared.term.Term.TheViews.{out-Term}
use Rattle.formula_ast.specs.declared.file.File.{File}
use Rattle.formula_ast.specs.declared.formula.Formula.{Formula}
use Rattle.formula_ast.specs.declared.pred.Pred.{Pred}
use Rattle.formula_ast.specs.declared.statement.Statement.{Statement}
use Rattle.formula_ast.specs.declared.token.TokenKind.{TokenKind}
use Rattle.formula_ast.specs.declared.token.TokenKind.TheVariants as word
use Rattle.formula_ast.specs.Forms.{Form, form_of, always, never, equal, differ, finite, call, win, no, and, or, imp, iff, exists, forall}
use Rattle.formula_ast.specs.Terms.{list_of, subterm}
use Rattle.formula_ast.specs.Tokens.{kind_of}

-- each of the texts is, as a whole, a token of this kind
abbrev pub AreWords : TokenKind → List (List ℕ) → Type 0
AreWords kind texts = All (λ text. kind_of text ≡ Some kind) texts

-- no text stands at two places
abbrev pub AreDistinct : List (List ℕ) → Type 0
AreDistinct texts = (text : List ℕ) (i j : ℕ) → slice_get texts i ≡ Some text → slice_get texts j ≡ Some text → i ≡ j

-- The outermost layer of a term is over a signature and n variables: it is one of these variables, or a root symbol
-- over the signature, with its number of arguments, of which there are at most eight.
abbrev pub LayerOver : Signature → ℕ → Term-F Term Terms → Type 0
LayerOver σ n (layer.Var v) = v < n
LayerOver σ n (layer.App s ts) = IsRoot σ s (length (list_of ts)) × (length (list_of ts) ≤ 8)

-- a term is over a signature and n variables: each of its subterms is, in its outermost layer
abbrev pub TermOver : Signature → ℕ → Term → Type 0
TermOver σ n t = (path : List ℕ) → IfSome (subterm t path) (λ u. LayerOver σ n (out-Term u))

-- A formula is over a signature and n variables: its terms and the variables behind its quantifiers are, and each
-- predicate that it names is declared, with this arity, in the part of the signature that may be called.
module _ (σ callable : Signature) (n : ℕ) where
  abbrev pub FormOver : Form → Type 0
  FormOver always = Unit {0}
  FormOver never = Unit {0}
  FormOver (equal t s) = TermOver σ n t × TermOver σ n s
  FormOver (differ t s) = TermOver σ n t × TermOver σ n s
  FormOver (finite t) = TermOver σ n t
  FormOver (call p ts) = (declared_at callable p ≡ Some (kind.Pred, length ts)) × All (TermOver σ n) ts
  FormOver (win p k t) = (declared_at callable p ≡ Some (kind.Pred, 2)) × TermOver σ n t
  FormOver (no f) = FormOver f
  FormOver (and f g) = FormOver f × FormOver g
  FormOver (or f g) = FormOver f × FormOver g
  FormOver (imp f g) = FormOver f × FormOver g
  FormOver (iff f g) = FormOver f × FormOver g
  FormOver (exists x f) = (x < n) × FormOver f
  FormOver (forall x f) = (x < n) × FormOver f

-- the variable x stands in the term
abbrev pub OccursIn : ℕ → Term → Type 0
OccursIn x t = (path : List ℕ) × (subterm t path ≡ Some (Var x))

-- the variable x stands in the formula where no quantifier of the formula binds it
abbrev pub IsFreeIn : ℕ → Form → Type 0
IsFreeIn x always = ⊥
IsFreeIn x never = ⊥
IsFreeIn x (equal t s) = OccursIn x t ⊎ OccursIn x s
IsFreeIn x (differ t s) = OccursIn x t ⊎ OccursIn x s
IsFreeIn x (finite t) = OccursIn x t
IsFreeIn x (call p ts) = (i : ℕ) × (t : Term) × (slice_get ts i ≡ Some t) × OccursIn x t
IsFreeIn x (win p k t) = OccursIn x t
IsFreeIn x (no f) = IsFreeIn x f
IsFreeIn x (and f g) = IsFreeIn x f ⊎ IsFreeIn x g
IsFreeIn x (or f g) = IsFreeIn x f ⊎ IsFreeIn x g
IsFreeIn x (imp f g) = IsFreeIn x f ⊎ IsFreeIn x g
IsFreeIn x (iff f g) = IsFreeIn x f ⊎ IsFreeIn x g
IsFreeIn x (exists y f) = (x ≢ y) × IsFreeIn x f
IsFreeIn x (forall y f) = (x ≢ y) × IsFreeIn x f

-- a formula with names for its variables, over a signature of which a part may be called
pub record IsNamedOver (σ callable : Signature) (names : List (List ℕ)) (f : Formula) : Type 0 where
  -- the names are variables as they are written
  pub words : AreWords word.Variable names
  pub distinct : AreDistinct names
  -- symbols and calls are declared, and each variable has a name
  pub formula : FormOver σ callable (length names) (form_of f)

-- a statement, over a signature all of whose predicates may be called
abbrev pub IsStatementOver : Signature → Statement → Type 0
IsStatementOver σ s = IsNamedOver σ σ s.names s.body

-- a predicate, over the signature in which it stands
pub record IsPredOver (σ : Signature) (pred : Pred) : Type 0 where
  -- the body calls none but predicates that are declared before this one
  pub body : IsNamedOver σ (take pred.place σ) pred.names pred.body
  -- the parameters are the first of the names, and no other variable is free in the body
  pub params : pred.params ≤ length pred.names
  pub closed : (x : ℕ) → IsFreeIn x (form_of pred.body) → x < pred.params

-- what an entry at a place declares, if it is a predicate: the place and the arity
abbrev pub predicate_at : ℕ → Kind → ℕ → List (ℕ × ℕ)
predicate_at place kind.Symbol arity = []
predicate_at place kind.Pred arity = (place, arity) ∷ []

-- the places and arities of the predicates among entries of which the first stands at a place
abbrev pub predicates_from : ℕ → List Entry → List (ℕ × ℕ)
predicates_from place [] = []
predicates_from place (entry ∷ later) = predicate_at place entry.kind entry.arity ++ predicates_from (place + 1) later

-- a file that is as a text may declare it
pub record IsWellFormed (file : File) : Type 0 where
  -- the declared names are names as they are written
  pub words : AreWords word.Name (map {A = Entry} {B = List ℕ} (λ entry. entry.name) file.signature)
  pub distinct : HasDistinctNames file.signature
  -- the predicates are those of the signature, in their order, with as many parameters as their arity
  pub declared : map {A = Pred} {B = ℕ × ℕ} (λ pred. (pred.place, pred.params)) file.preds ≡ predicates_from 0 file.signature
  pub preds : All (λ pred. IsPredOver file.signature pred) file.preds
  pub solves : All (λ s. IsStatementOver file.signature s) file.solves
