-- What terms read, as plain data.
use Rattle.std.proofs.Common.{ℕ, zero, suc, ◌≡◌, List, [], ◌∷◌, length, refl, ap, sym, ◌∙◌, arith}
use Rattle.std.specs.Prelude.{Option, Some, None, slice_get, option_and_then}
use Rattle.tree_model.specs.declared.tree.Symbol.{Symbol}
use Rattle.tree_model.specs.Graphs.{Graph}
use Rattle.tree_model.specs.Trees.{at}
use Rattle.formula_ast.specs.declared.term.Term.{Term}
use Rattle.formula_ast.specs.declared.term.Term.TheOpen.{Term-F}
use Rattle.formula_ast.specs.declared.term.Term.TheOpen as layer
use Rattle.formula_ast.specs.declared.term.Term.TheViews as views
use Rattle.formula_ast.specs.declared.term.Term.TheViews.{out-Term, roll-Term}
use Rattle.formula_ast.specs.declared.term.Terms.{Terms}
use Rattle.formula_ast.specs.Terms.{list_of, reads, layer_reads}
use Rattle.flattening.specs.Plain.{PlainTerm, PlainTerms, variable, apply, no_terms, one_more, term_of, terms_of}
use Rattle.flattening.specs.Conditions.{count}
use Rattle.flattening.proofs.Ties.{variable_term, applied_term}

abbrev mutual
  -- what a term reads
  pub plain_reads : (ℕ → Graph) → PlainTerm → List ℕ → Option (Symbol × ℕ)
  plain_reads e (variable v) path = at (e v) path
  plain_reads e (apply s ts) [] = Some (s, count ts)
  plain_reads e (apply s ts) (i ∷ path) = nth_reads e ts i path

  -- what the i-th of some terms reads
  pub nth_reads : (ℕ → Graph) → PlainTerms → ℕ → List ℕ → Option (Symbol × ℕ)
  nth_reads e no_terms i path = None
  nth_reads e (one_more t ts) zero path = plain_reads e t path
  nth_reads e (one_more t ts) (suc i) path = nth_reads e ts i path

abbrev pub layer_plain : Term-F Term Terms → PlainTerm
layer_plain (layer.Var v) = variable v
layer_plain (layer.App s ts) = apply s (terms_of (list_of ts))

rolled : (l : Term-F Term Terms) → term_of (roll-Term l) ≡ layer_plain l
unfolding roll-Term term_of denote.Hole.Carrier.roll
rolled (layer.Var v) = variable_term v
rolled (layer.App s ts) = applied_term s ts

pub by_layer : (t : Term) → term_of t ≡ layer_plain (out-Term t)
by_layer t = ap term_of (sym (views.roll-out-Term t)) ∙ rolled (out-Term t)

pub count_length : (ts : List Term) → length ts ≡ count (terms_of ts)
count_length [] = refl
count_length (t ∷ ts) = omega (arith, count_length ts)

nth_reading : (e : ℕ → Graph) (path : List ℕ) → ((l : Term-F Term Terms) → layer_reads e l path ≡ plain_reads e (layer_plain l) path) → (ts : List Term) (i : ℕ)
    → option_and_then {T = Term} {U = Symbol × ℕ} (λ t. layer_reads e (out-Term t) path) (slice_get ts i) ≡ nth_reads e (terms_of ts) i path
nth_reading e path each [] i = refl
nth_reading e path each (t ∷ ts) zero = each (out-Term t) ∙ ap (λ p. plain_reads e p path) (sym (by_layer t))
nth_reading e path each (t ∷ ts) (suc i) = nth_reading e path each ts i

layer_reading : (e : ℕ → Graph) (path : List ℕ) (l : Term-F Term Terms) → layer_reads e l path ≡ plain_reads e (layer_plain l) path
layer_reading e path (layer.Var v) = refl
layer_reading e [] (layer.App s ts) = ap (λ n. Some (s, n)) (count_length (list_of ts))
layer_reading e (i ∷ path) (layer.App s ts) = nth_reading e path (layer_reading e path) (list_of ts) i

-- a term reads as its plain form does
pub reading : (e : ℕ → Graph) (t : Term) (path : List ℕ) → reads e t path ≡ plain_reads e (term_of t) path
reading e t path = layer_reading e path (out-Term t) ∙ ap (λ p. plain_reads e p path) (sym (by_layer t))
