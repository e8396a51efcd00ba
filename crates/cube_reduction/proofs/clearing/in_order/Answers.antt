use Rattle.std.proofs.Common.{ℕ, ◌+◌, ◌<◌, ◌≤◌, List, sym, subst, ◌⊎◌}
use Rattle.std.specs.Prelude.{Contains, All, ◌↔◌}
use Rattle.flat_form.specs.declared.atom.Flat.{Flat}
use Rattle.flat_form.specs.Numbering.{BasicOver}
use Rattle.flat_form.specs.Orders.{new_number, IsRenumbering}
use Rattle.flat_form.specs.Solved.{variable_of, Ascends}
use Rattle.numbering.specs.Meeting.{IsMet}
use Rattle.step_facts.proofs.Grouped.{grouped_is_right}
use Rattle.cube_reduction.proofs.IsOrdered.{rest_over, ordered}
use Rattle.cube_reduction.proofs.clearing.in_order.Goals as goal

pub atoms_without-requires : goal.atoms_without-requires
atoms_without-requires c =
    let g = c.requires.grouped in
    record { ascending = subst (λ (z : List Flat). Ascends z) (sym c.as_slice.ensures) (grouped_is_right g.0 c.args.mid.now c.args.idle.now g.1 g.2).solved.ascending }

pub met-requires-clause-over : goal.met-requires-clause-over
met-requires-clause-over c =
    let mid = c.args.mid.now in
    let idle = c.args.idle.now in
    let g = c.requires.grouped in
    let rest = c.in_ok-rest.rest in
    let rest_is : (atom : Flat) → Contains rest atom ↔ (Contains mid.basic atom × (¬ Contains idle (variable_of atom))) =
    subst (λ (z : List Flat). (atom : Flat) → Contains rest atom ↔ (Contains z atom × (¬ Contains idle (variable_of atom)))) c.as_slice.ensures c.in_ok-rest.ensures.is in
    subst (λ (z : ℕ). BasicOver z rest) (sym c.requires.scope) (rest_over g.0 mid idle g.1 g.2 rest rest_is)

pub number_all-requires-clause-over : goal.number_all-requires-clause-over
number_all-requires-clause-over c =
    let mid = c.args.mid.now in
    let idle = c.args.idle.now in
    let g = c.requires.grouped in
    let rest = c.in_ok-rest.rest in
    let rest_is : (atom : Flat) → Contains rest atom ↔ (Contains mid.basic atom × (¬ Contains idle (variable_of atom))) =
    subst (λ (z : List Flat). (atom : Flat) → Contains rest atom ↔ (Contains z atom × (¬ Contains idle (variable_of atom)))) c.as_slice.ensures c.in_ok-rest.ensures.is in
    subst (λ (z : ℕ). BasicOver z rest) (sym c.requires.scope) (rest_over g.0 mid idle g.1 g.2 rest rest_is)

pub number_all-requires-clause-within : goal.number_all-requires-clause-within
number_all-requires-clause-within c =
    subst (λ (z : List ℕ). All (λ v. (c.args.mid.now.free ≤ v) × (v < c.args.scope)) z) (sym c.as_slice-2.ensures) c.in_ok-order.ensures.within

pub returns : goal.returns
returns c =
    let mid = c.args.mid.now in
    let idle = c.args.idle.now in
    let g = c.requires.grouped in
    let rest = c.in_ok-rest.rest in
    let order = c.in_ok-order.order in
    let basic = c.in_ok-basic.basic in
    let rest_is : (atom : Flat) → Contains rest atom ↔ (Contains mid.basic atom × (¬ Contains idle (variable_of atom))) =
    subst (λ (z : List Flat). (atom : Flat) → Contains rest atom ↔ (Contains z atom × (¬ Contains idle (variable_of atom)))) c.as_slice.ensures c.in_ok-rest.ensures.is in
    let met : IsMet mid.free (mid.free + mid.outer) rest order = subst (λ (z : ℕ). IsMet mid.free z rest order) c.requires.scope c.in_ok-order.ensures in
    let numbered : IsRenumbering (new_number mid.free c.args.scope order) (λ (atom : Flat). (variable_of atom < mid.free) ⊎ Contains order (variable_of atom)) rest basic =
    subst (λ (z : List ℕ). IsRenumbering (new_number mid.free c.args.scope z) (λ (atom : Flat). (variable_of atom < mid.free) ⊎ Contains z (variable_of atom)) rest basic)
    c.as_slice-2.ensures c.in_ok-basic.ensures in
    ordered g.0 mid idle g.1 g.2 rest rest_is order met basic
    (subst (λ (z : ℕ). IsRenumbering (new_number mid.free z order) (λ (atom : Flat). (variable_of atom < mid.free) ⊎ Contains order (variable_of atom)) rest basic) c.requires.scope numbered)
