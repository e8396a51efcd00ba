-- Which formulas can be printed, with which names.
use Rattle.std.specs.Prelude.{◌≡◌, ℕ, ◌<◌, List, length, All, Some, IfSome}
use Rattle.tree_model.specs.declared.kind.Kind.TheVariants as kind
use Rattle.tree_model.specs.declared.tree.Node.{Node}
use Rattle.tree_model.specs.declared.tree.Symbol.{Symbol}
use Rattle.tree_model.specs.declared.tree.Symbol.TheVariants.{Named, Further}
use Rattle.tree_model.specs.Signatures.{Signature, IsRoot, declared_at}
use Rattle.formula_ast.specs.declared.term.Term.{Term}
use Rattle.formula_ast.specs.declared.term.Terms.{Terms}
use Rattle.formula_ast.specs.declared.term.Term.TheOpen.{Term-F}
use Rattle.formula_ast.specs.declared.term.Term.TheOpen as layer
use Rattle.formula_ast.specs.declared.term.Term.TheViews.{out-Term}
use Rattle.formula_ast.specs.declared.token.TokenKind.TheVariants as k
use Rattle.formula_ast.specs.Forms.{Form, always, never, equal, differ, finite, call, win, no, and, or, imp, iff, exists, forall}
use Rattle.formula_ast.specs.Terms.{list_of, subterm}
use Rattle.formula_ast.specs.WellFormed.{AreWords, AreDistinct}
use Rattle.formula_printer.specs.Writing.{names_of}

-- the symbol is a further one, or stands at a place of the signature
abbrev pub HasWord : Signature → Symbol → Type 0
HasWord σ (Named place) = place < length σ
HasWord σ (Further index) = Unit {0}

-- the symbol of a node has a word, and its children are among n variables
pub record NodeHasWords (σ : Signature) (n : ℕ) (node : Node) : Type 0 where
  pub symbol : HasWord σ node.symbol
  pub children : All (λ child. child < n) node.children

-- the outermost layer of a term is one of n variables, or a root symbol over the signature with its number of arguments
abbrev pub LayerFits : Signature → ℕ → Term-F Term Terms → Type 0
LayerFits σ n (layer.Var v) = v < n
LayerFits σ n (layer.App s ts) = IsRoot σ s (length (list_of ts))

-- and so is each of its subterms
abbrev pub TermFits : Signature → ℕ → Term → Type 0
TermFits σ n t = (path : List ℕ) → IfSome (subterm t path) (λ u. LayerFits σ n (out-Term u))

-- the terms of the formula and the variables behind its quantifiers fit, and each predicate is one of the signature,
-- with its number of arguments
abbrev pub FormFits : Signature → ℕ → Form → Type 0
FormFits σ n always = Unit {0}
FormFits σ n never = Unit {0}
FormFits σ n (equal t s) = TermFits σ n t × TermFits σ n s
FormFits σ n (differ t s) = TermFits σ n t × TermFits σ n s
FormFits σ n (finite t) = TermFits σ n t
FormFits σ n (call p ts) = (declared_at σ p ≡ Some (kind.Pred, length ts)) × All (TermFits σ n) ts
FormFits σ n (win p k t) = (declared_at σ p ≡ Some (kind.Pred, 2)) × TermFits σ n t
FormFits σ n (no f) = FormFits σ n f
FormFits σ n (and f g) = FormFits σ n f × FormFits σ n g
FormFits σ n (or f g) = FormFits σ n f × FormFits σ n g
FormFits σ n (imp f g) = FormFits σ n f × FormFits σ n g
FormFits σ n (iff f g) = FormFits σ n f × FormFits σ n g
FormFits σ n (exists x f) = (x < n) × FormFits σ n f
FormFits σ n (forall x f) = (x < n) × FormFits σ n f

-- the names are distinct variables as they are written, and those of the signature names as they are written
pub record AreNames (σ : Signature) (names : List (List ℕ)) : Type 0 where
  pub variables : AreWords k.Variable names
  pub distinct : AreDistinct names
  pub declared : AreWords k.Name (names_of σ)
