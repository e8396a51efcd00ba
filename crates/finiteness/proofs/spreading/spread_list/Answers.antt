use Rattle.std.proofs.Common.{ℕ, List, length, ap, sym, ◌∙◌, subst}
use Rattle.std.specs.Prelude.{◌↔◌, Contains}
use Rattle.flat_facts.specs.Spread.{IsLeaf}
use Rattle.finiteness.specs.declared.search.Mark.{Mark}
use Rattle.finiteness.specs.declared.search.Found.{Found}
use Rattle.finiteness.specs.declared.search.Found.TheVariants.{Met}
use Rattle.finiteness.specs.Marks.{IsLeafAt}
use Rattle.finiteness.specs.Found.{IsFound}
use Rattle.finiteness.proofs.Ending.{bare_none, bare_leaf, done_none, done_leaf}
use Rattle.finiteness.proofs.spreading.spread_list.Goals as goal

pub returns-in_default-clause-none : goal.returns-in_default-clause-none
returns-in_default-clause-none c = bare_none c.args.b.now c.requires c.args.v c.target-start.result c.target-start.ensures c.in_default.ensures

pub returns-in_default-clause-exact : goal.returns-in_default-clause-exact
returns-in_default-clause-exact c =
    subst (λ (z : List ℕ). (u : ℕ) → Contains z u ↔ IsLeaf c.args.b.now c.args.v u) (sym c.in_ok-only.ensures)
    (bare_leaf c.args.b.now c.requires c.args.v c.target-start.result c.target-start.ensures c.in_default.ensures)

pub leaves-requires-clause-size : goal.leaves-requires-clause-size
leaves-requires-clause-size c =
    let found : IsFound c.args.b.now c.args.v c.target-start.result (Met c.in-Met.marks) =
    subst (λ (z : Found). IsFound c.args.b.now c.args.v c.target-start.result z) c.in-Met.is
    (c.in_ok-path.ensures c.args.v c.target-start.result c.target-start.ensures c.in-Some.ensures) in
    ap length c.as_slice.ensures.value ∙ found.0

pub returns-in-Round-clause-least : goal.returns-in-Round-clause-least
returns-in-Round-clause-least c =
    subst (λ (z : Found). IsFound c.args.b.now c.args.v c.target-start.result z) c.in-Round.is
    (c.in_ok-path.ensures c.args.v c.target-start.result c.target-start.ensures c.in-Some.ensures)

pub returns-in_ok-leaves-in-Met-clause-none : goal.returns-in_ok-leaves-in-Met-clause-none
returns-in_ok-leaves-in-Met-clause-none c =
    let found : IsFound c.args.b.now c.args.v c.target-start.result (Met c.in-Met.marks) =
    subst (λ (z : Found). IsFound c.args.b.now c.args.v c.target-start.result z) c.in-Met.is
    (c.in_ok-path.ensures c.args.v c.target-start.result c.target-start.ensures c.in-Some.ensures) in
    done_none c.args.b.now c.requires c.args.v c.target-start.result c.target-start.ensures c.in-Met.marks.items found.1 found.2

pub returns-in_ok-leaves-in-Met-clause-exact : goal.returns-in_ok-leaves-in-Met-clause-exact
returns-in_ok-leaves-in-Met-clause-exact c =
    let found : IsFound c.args.b.now c.args.v c.target-start.result (Met c.in-Met.marks) =
    subst (λ (z : Found). IsFound c.args.b.now c.args.v c.target-start.result z) c.in-Met.is
    (c.in_ok-path.ensures c.args.v c.target-start.result c.target-start.ensures c.in-Some.ensures) in
    let held : (u : ℕ) → Contains c.in_ok-leaves-in-Met.field-0 u ↔ ((place : ℕ) × IsLeafAt c.args.b.now c.in-Met.marks.items place u) =
    subst (λ (z : List Mark). (u : ℕ) → Contains c.in_ok-leaves-in-Met.field-0 u ↔ ((place : ℕ) × IsLeafAt c.args.b.now z place u)) c.as_slice.ensures.value
    c.in_ok-leaves-in-Met.ensures.exact in
    done_leaf c.args.b.now c.requires c.args.v c.target-start.result c.target-start.ensures c.in-Met.marks.items found.1 found.2
    c.in_ok-leaves-in-Met.field-0 held
