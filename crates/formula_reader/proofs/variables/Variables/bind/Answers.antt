use Rattle.std.proofs.Common.{ℕ, List, [], ◌∷◌, ◌++◌, ◌∙◌, length, ◌+◌, sym, ap, subst, arith}
use Rattle.std.specs.Prelude.{slice_set}
use Rattle.formula_reader.specs.Input.{Scope}
use Rattle.formula_reader.specs.Scopes.{texts_of, scope_of, IsCounted}
use Rattle.formula_reader.proofs.Scoping.{bound_within, bound_small, bind_found, shows_bound_one, scope_with}
use Rattle.formula_reader.proofs.variables.Variables.bind.Goals as goal

pub index_mut-requires : goal.index_mut-requires
index_mut-requires c =
    omega (
      arith,
      c.as_slice.ensures.len,
      ap (λ (l : List ℕ). length l) c.as_slice.ensures.value,
      bound_within (texts_of c.self.inside.names.keys) c.self.inside.counts.items c.self.inside.bound.items c.self.invariant c.number.new.self c.self.view_is
          c.args.name.now c.in_ok-number.number c.in_ok-number.ensures.found,
    )

pub overflow_add-index_mut : goal.overflow_add-index_mut
overflow_add-index_mut c =
    omega (
      arith,
      c.len.ensures,
      c.len.type_inv,
      ap length c.in_ok-push.ensures.items,
      bound_small (texts_of c.self.inside.names.keys) c.self.inside.counts.items c.self.inside.bound.items c.self.invariant c.number.new.self c.self.view_is
          c.args.name.now c.in_ok-number.number c.in_ok-number.ensures.found c.index_mut.result.now c.index_mut.ensures.value,
    )

pub invariant_of-self-2 : goal.invariant_of-self-2
invariant_of-self-2 c =
    subst (λ (bound : List ℕ). IsCounted (texts_of c.self.inside.names.keys) (slice_set c.self.inside.counts.items c.in_ok-number.number (c.index_mut.result.now + 1)) bound)
    (sym c.in_ok-push.ensures.items)
    (bind_found (texts_of c.self.inside.names.keys) c.self.inside.counts.items c.self.inside.bound.items c.self.invariant c.number.new.self c.self.view_is
    c.args.name.now c.in_ok-number.number c.in_ok-number.ensures.found c.index_mut.result.now c.index_mut.ensures.value)

pub returns-clause-bound : goal.returns-clause-bound
returns-clause-bound c =
    ap (λ (bound : List ℕ). scope_of (texts_of c.self.inside.names.keys) bound) c.in_ok-push.ensures.items
    ∙ shows_bound_one (texts_of c.self.inside.names.keys) c.self.inside.counts.items c.self.inside.bound.items c.self.invariant c.number.new.self c.self.view_is
    c.args.name.now c.in_ok-number.number c.in_ok-number.ensures.found
    ∙ ap (λ (S : Scope). scope_with S.names (S.bound ++ c.args.name.now ∷ [])) c.in_ok-number.ensures.named
