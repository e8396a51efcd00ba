use Rattle.std.proofs.Common.{ℕ, ◌≡◌, ◌+◌, List, [], sym, subst, Option}
use Rattle.std.specs.Prelude.{All, Contains, MatchOption}
use Rattle.flat_form.specs.declared.cube.Part.{Part}
use Rattle.flat_form.specs.Numbering.{BasicOver, PartOver}
use Rattle.flat_form.specs.Steps.{IsImplied, Settles, IsCleared, Outcome}
use Rattle.step_facts.proofs.Grouped.{grouped_is_right}
use Rattle.cube_reduction.proofs.reducing.renumbered.Goals as goal

pub settled_unless_implied-requires-clause-direct : goal.settled_unless_implied-requires-clause-direct
settled_unless_implied-requires-clause-direct c =
    (grouped_is_right c.requires.grouped.0 c.args.mid c.args.idle.now c.requires.grouped.1 c.requires.grouped.2).solved.direct

pub settled_unless_implied-requires-clause-base : goal.settled_unless_implied-requires-clause-base
settled_unless_implied-requires-clause-base c =
    let mid = c.args.mid in
    subst (λ (z : ℕ). BasicOver z mid.basic) (sym c.requires.scope) (grouped_is_right c.requires.grouped.0 mid c.args.idle.now c.requires.grouped.1 c.requires.grouped.2).over.basic

pub settled_unless_implied-requires-clause-parts : goal.settled_unless_implied-requires-clause-parts
settled_unless_implied-requires-clause-parts c =
    let mid = c.args.mid in
    subst (λ (z : List Part). All (PartOver c.args.scope) z) (sym c.as_slice.ensures)
    (subst (λ (z : ℕ). All (PartOver z) mid.parts) (sym c.requires.scope) (grouped_is_right c.requires.grouped.0 mid c.args.idle.now c.requires.grouped.1 c.requires.grouped.2).over.parts)

pub returns-in-None : goal.returns-in-None
returns-in-None c =
    let mid = c.args.mid in
    let slice = c.as_slice.result.now in
    let count = c.args.scope in
    let found : (part : Part) × Contains slice part × IsImplied count mid.basic part =
    subst (λ (z : Option (List Part)). MatchOption z ((part : Part) × Contains slice part × IsImplied count mid.basic part)
    (λ (all : List Part). Settles count mid.basic slice all × ((part : Part) → Contains all part → ¬ (part.basic ≡ [])))) c.in-None.is c.in_ok-first.ensures in
    λ raw grouped. Outcome.implied mid c.args.idle.now found.0 grouped
    (subst (λ (z : List Part). Contains z found.0) c.as_slice.ensures found.1)
    (subst (λ (z : ℕ). IsImplied z mid.basic found.0) c.requires.scope found.2)

pub returns-in_ok-cube-in-Some : goal.returns-in_ok-cube-in-Some
returns-in_ok-cube-in-Some c =
    let mid = c.args.mid in
    let idle = c.args.idle.now in
    let slice = c.as_slice.result.now in
    let count = c.args.scope in
    let first = c.in-Some.first in
    let found : Settles count mid.basic slice first × ((part : Part) → Contains first part → ¬ (part.basic ≡ [])) =
    subst (λ (z : Option (List Part)). MatchOption z ((part : Part) × Contains slice part × IsImplied count mid.basic part)
    (λ (all : List Part). Settles count mid.basic slice all × ((part : Part) → Contains all part → ¬ (part.basic ≡ [])))) c.in-Some.is c.in_ok-first.ensures in
    let settles : Settles (mid.free + mid.outer) mid.basic mid.parts first =
    subst (λ (z : List Part). Settles (mid.free + mid.outer) mid.basic z first) c.as_slice.ensures (subst (λ (z : ℕ). Settles z mid.basic slice first) c.requires.scope found.0) in
    let clears : IsCleared mid idle first c.in_ok-cube-in-Some.cube =
    subst (λ (z : List Part). IsCleared mid idle z c.in_ok-cube-in-Some.cube) c.as_slice-in-Some.ensures c.in_ok-cube-in-Some.ensures in
    λ raw grouped. Outcome.cleared mid idle first c.in_ok-cube-in-Some.cube grouped settles found.1 clears
