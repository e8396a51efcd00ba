use Rattle.std.proofs.Common.{ℕ, List, ◌∷◌, [], ◌++◌, subst}
use Rattle.formula_reader.specs.Scopes.{texts_of, IsCounted}
use Rattle.formula_reader.proofs.Scoping.{released_value, release_found}
use Rattle.formula_reader.proofs.variables.Variables.release_one.Goals as goal

-- what stood before the last was taken
abbrev before : (c : goal.After-row_known-1) → IsCounted (texts_of c.self.inside.names.keys) c.self.inside.counts.items (c.pop.new.self.items ++ c.in-Some.number ∷ [])
before c = subst (λ (bound : List ℕ). IsCounted (texts_of c.self.inside.names.keys) c.self.inside.counts.items bound) c.in-Some.ensures.items c.self.invariant

pub overflow_sub-index_mut : goal.overflow_sub-index_mut
overflow_sub-index_mut c =
    released_value (texts_of c.self.inside.names.keys) c.self.inside.counts.items c.pop.new.self.items c.in-Some.number (before c) c.index_mut.result.now c.index_mut.ensures.value

pub invariant_of-self : goal.invariant_of-self
invariant_of-self c =
    release_found (texts_of c.self.inside.names.keys) c.self.inside.counts.items c.pop.new.self.items c.in-Some.number
    (subst (λ (bound : List ℕ). IsCounted (texts_of c.self.inside.names.keys) c.self.inside.counts.items bound) c.in-Some.ensures.items c.self.invariant)
    c.index_mut.result.now c.index_mut.ensures.value
