-- Terms as plain data, one layer at a time.
use Rattle.std.proofs.Common.{ℕ, ◌≡◌, ◌+◌, List, [], ◌∷◌, drop, drop-cons, add-one, refl, ap}
use Rattle.std.specs.Prelude.{slice_get, Some}
use Rattle.std.proofs.lemmas.Option.{slice_get_within, get_or_from_slice_get}
use Rattle.tree_model.specs.declared.tree.Symbol.{Symbol}
use Rattle.formula_ast.specs.declared.term.Term.{Term}
use Rattle.formula_ast.specs.declared.term.Term.TheVariants as rust
use Rattle.formula_ast.specs.declared.term.Terms.{Terms}
use Rattle.formula_ast.specs.Terms.{list_of}
use Rattle.flattening.specs.Plain.{variable, apply, one_more, term_of, row_terms, terms_of}

pub variable_term : (v : ℕ) → term_of (rust.Var v) ≡ variable v
unfolding term_of
variable_term v = refl

hidden_terms : (ts : List Term) → row_terms (Rattle.formula_ast.specs.declared.term.Term.TheBlock.hidden-the_row-Term-0 ts) ≡ terms_of ts
unfolding term_of row_terms Rattle.formula_ast.specs.declared.term.Term.TheBlock.hidden-the_row-Term-0 denote.Hole.Carrier.hidden
hidden_terms [] = refl
hidden_terms (t ∷ ts) = ap (one_more (term_of t)) (hidden_terms ts)

pub applied_term : (s : Symbol) (ts : Terms) → term_of (rust.App s ts) ≡ apply s (terms_of (list_of ts))
unfolding term_of row_terms
applied_term s ts = ap (apply s) (hidden_terms (list_of ts))

pub ruleset term_rules = (variable_term, applied_term)

-- the terms from a place on are the one there and those behind it
pub rest_terms : (ts : List Term) (i : ℕ) (t : Term) → slice_get ts i ≡ Some t → terms_of (drop i ts) ≡ one_more (term_of t) (terms_of (drop (i + 1) ts))
rest_terms ts i t there = rw (add-one, drop-cons ts i t (slice_get_within ts i t there), get_or_from_slice_get ts i t t there) refl
