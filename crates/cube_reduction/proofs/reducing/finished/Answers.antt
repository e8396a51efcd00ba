use Rattle.std.proofs.Common.{ℕ, ◌+◌, List, [], sym, subst, Option}
use Rattle.std.specs.Prelude.{All, Contains, MatchOption}
use Rattle.flat_form.specs.declared.cube.Part.{Part}
use Rattle.flat_form.specs.Numbering.{BasicOver, PartOver}
use Rattle.flat_form.specs.Steps.{IsImplied, Outcome}
use Rattle.step_facts.proofs.Grouped.{grouped_is_right}
use Rattle.cube_reduction.specs.Fates.{Stay}
use Rattle.cube_reduction.proofs.KeepingNumbers.{keeps_cleared}
use Rattle.cube_reduction.proofs.reducing.finished.Goals as goal

pub staying-requires-clause-solved : goal.staying-requires-clause-solved
staying-requires-clause-solved c = (grouped_is_right c.requires.grouped.0 c.args.mid [] c.requires.grouped.1 c.requires.grouped.2).solved

pub staying-requires-clause-base : goal.staying-requires-clause-base
staying-requires-clause-base c =
    let mid = c.args.mid in
    subst (λ (z : ℕ). BasicOver z mid.basic) (sym c.in-Some.ensures.1) (grouped_is_right c.requires.grouped.0 mid [] c.requires.grouped.1 c.requires.grouped.2).over.basic

pub staying-requires-clause-parts : goal.staying-requires-clause-parts
staying-requires-clause-parts c =
    let mid = c.args.mid in
    subst (λ (z : ℕ). All (PartOver z) mid.parts) (sym c.in-Some.ensures.1) (grouped_is_right c.requires.grouped.0 mid [] c.requires.grouped.1 c.requires.grouped.2).over.parts

pub returns-in-Some-2 : goal.returns-in-Some-2
returns-in-Some-2 c =
    let mid = c.args.mid in
    let count = c.in-Some.count in
    let parts = c.in-Some-2.parts in
    let found : Stay count mid.basic mid.parts parts =
    subst (λ (z : Option (List Part)). MatchOption z ((part : Part) × Contains mid.parts part × IsImplied count mid.basic part) (Stay count mid.basic mid.parts)) c.in-Some-2.is
    c.in_ok-parts.ensures in
    let stay : Stay (mid.free + mid.outer) mid.basic mid.parts parts = subst (λ (z : ℕ). Stay z mid.basic mid.parts parts) c.in-Some.ensures.1 found in
    let (order, basic, ordered, keeps) = c.requires.stays in
    λ raw grouped. Outcome.cleared mid [] stay.first (record { free = mid.free; outer = mid.outer; basic = mid.basic; parts = parts }) grouped stay.settled stay.some_atom
    (keeps_cleared mid order basic ordered keeps parts stay)

pub returns-in-None : goal.returns-in-None
returns-in-None c =
    let mid = c.args.mid in
    let count = c.in-Some.count in
    let found : (part : Part) × Contains mid.parts part × IsImplied count mid.basic part =
    subst (λ (z : Option (List Part)). MatchOption z ((part : Part) × Contains mid.parts part × IsImplied count mid.basic part) (Stay count mid.basic mid.parts)) c.in-None.is
    c.in_ok-parts.ensures in
    λ raw grouped. Outcome.implied mid [] found.0 grouped found.1 (subst (λ (z : ℕ). IsImplied z mid.basic found.0) c.in-Some.ensures.1 found.2)
