-- What is well formed fits.
use Rattle.std.proofs.Common.{ℕ, length, Option, Some, None}
use Rattle.std.specs.Prelude.{IfSome}
use Rattle.tree_model.specs.Signatures.{Signature}
use Rattle.formula_ast.specs.declared.statement.Statement.{Statement}
use Rattle.formula_ast.specs.declared.term.Term.{Term}
use Rattle.formula_ast.specs.declared.term.Terms.{Terms}
use Rattle.formula_ast.specs.declared.term.Term.TheOpen.{Term-F}
use Rattle.formula_ast.specs.declared.term.Term.TheOpen as layer
use Rattle.formula_ast.specs.declared.term.Term.TheViews.{out-Term}
use Rattle.formula_ast.specs.declared.token.TokenKind.TheVariants as k
use Rattle.formula_ast.specs.Forms.{Form, form_of, always, never, equal, differ, finite, call, win, no, and, or, imp, iff, exists, forall}
use Rattle.formula_ast.specs.Terms.{subterm}
use Rattle.formula_ast.specs.WellFormed.{AreWords, LayerOver, TermOver, FormOver, IsStatementOver}
use Rattle.formula_printer.specs.Printable.{AreNames, LayerFits, TermFits, FormFits}
use Rattle.formula_printer.specs.Writing.{names_of}

layer_over : (σ : Signature) (n : ℕ) (l : Term-F Term Terms) → LayerOver σ n l → LayerFits σ n l
layer_over σ n (layer.Var v) h = h
layer_over σ n (layer.App s ts) h = h.0

found_over : (σ : Signature) (n : ℕ) (o : Option Term) → IfSome o (λ u. LayerOver σ n (out-Term u)) → IfSome o (λ u. LayerFits σ n (out-Term u))
found_over σ n None h = tt
found_over σ n (Some u) h = layer_over σ n (out-Term u) h

term_over : (σ : Signature) (n : ℕ) (t : Term) → TermOver σ n t → TermFits σ n t
term_over σ n t h path = found_over σ n (subterm t path) (h path)

pub form_over : (σ : Signature) (n : ℕ) (f : Form) → FormOver σ σ n f → FormFits σ n f
form_over σ n always h = tt
form_over σ n never h = tt
form_over σ n (equal t s) h = (term_over σ n t h.0, term_over σ n s h.1)
form_over σ n (differ t s) h = (term_over σ n t h.0, term_over σ n s h.1)
form_over σ n (finite t) h = term_over σ n t h
form_over σ n (call p ts) h = (h.0, λ i d w. term_over σ n _ (h.1 i d w))
form_over σ n (win p m t) h = (h.0, term_over σ n t h.1)
form_over σ n (no f) h = form_over σ n f h
form_over σ n (and f g) h = (form_over σ n f h.0, form_over σ n g h.1)
form_over σ n (or f g) h = (form_over σ n f h.0, form_over σ n g h.1)
form_over σ n (imp f g) h = (form_over σ n f h.0, form_over σ n g h.1)
form_over σ n (iff f g) h = (form_over σ n f h.0, form_over σ n g h.1)
form_over σ n (exists x f) h = (h.0, form_over σ n f h.1)
form_over σ n (forall x f) h = (h.0, form_over σ n f h.1)

pub statement_printable : (σ : Signature) (s : Statement) → AreWords k.Name (names_of σ) → IsStatementOver σ s → AreNames σ s.names × FormFits σ (length s.names) (form_of s.body)
statement_printable σ s words h =
    (record { variables = h.words; distinct = h.distinct; declared = words }, form_over σ (length s.names) (form_of s.body) h.formula)
