-- The contents of a graph are well formed.
use Rattle.std.proofs.Common.{◌<◌, length, arith, sym, subst, ◌∙◌, ℕ, ◌≡◌}
use Rattle.std.specs.Prelude.{All}
use Rattle.std.proofs.lemmas.List.{length-map, get_or_default}
use Rattle.term_graph.specs.Contents.{IsWellFormed, term_at}
use Rattle.term_graph.specs.Fields.{owners_of, Fields, seen, bindings_of}
use Rattle.term_graph.specs.Good.{IsGood}
use Rattle.term_graph.proofs.Adding.{args_in}

pub good-formed : (f : Fields) → IsGood f → IsWellFormed (seen f)
good-formed f g = record {
  forest = g.ringed.forest;
  sizes = length-map f.slots (λ s. s.finite) ∙ sym (length-map f.slots (λ s. s.binding));
  bound_terms = g.bound;
  arguments = λ t l i d k. subst (λ x. x < length (bindings_of f.slots)) (get_or_default (term_at f.terms t).args i 0 d k) (args_in f g t i l k);
  few = g.few;
}

pub args_within : (f : Fields) → IsGood f → (t : ℕ) → t < length f.terms → All (λ x. x < length f.slots) (term_at f.terms t).args
args_within f g t l i d k = let e : length (bindings_of f.slots) ≡ length f.slots = length-map f.slots (λ s. s.binding) in rw (← e) ((good-formed f g).arguments t l i d k)

pub cell_within : (f : Fields) → IsGood f → (c : ℕ) → c < length f.next → c < length f.cells
cell_within f g c l = let e : length (owners_of f.cells) ≡ length f.cells = length-map f.cells (λ x. x.variable) in let k = g.ringed.cells in omega arith

pub cells_as : (f : Fields) → IsGood f → length f.cells ≡ length f.next
cells_as f g = sym (length-map f.cells (λ x. x.variable)) ∙ g.ringed.cells
