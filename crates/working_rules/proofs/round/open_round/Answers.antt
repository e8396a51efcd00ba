use Rattle.std.proofs.Common.{Bool, ◌≡◌, ◌+◌, ℕ, List, [], ◌++◌, true, refl, sym, subst, arith}
use Rattle.flat_form.specs.declared.atom.Flat.{Flat}
use Rattle.working_rules.specs.Forests.{branch_at}
use Rattle.working_rules.specs.Rounds.{AreInScopes}
use Rattle.working_rules.proofs.Rounds.{WayTo, above_none, way_first, way_into, way_past, way_ends, opening_in, slot_behind}
use Rattle.working_rules.proofs.round.open_round.Goals as goal

pub loop-at-init : goal.loop-at-init
loop-at-init c = record {
  count = omega (arith, c.requires.count);
  above = above_none c.args.store.now.scopes c.args.round.now.scopes c.requires.count;
  atoms = [];
  way = way_first c.args.round.now.variables c.args.arena.now c.args.place c.requires.within c.requires.over;
  are = subst (λ (b : Bool). AreInScopes [] c.args.round.now.variables c.args.store.now.scopes b) (sym c.requires.solvable)
      (opening_in c.args.round.now.variables c.args.store.now.scopes c.requires.opening);
}

pub enter-requires-clause-over : goal.enter-requires-clause-over
enter-requires-clause-over c =
    (way_into c.args.round.now.variables c.args.arena.now c.args.place c.loop-at.at c.loop-at.round.variables c.loop-at.invariant.atoms c.slot-slot.result.now
    c.slot-slot.ensures c.loop-at-test.true c.loop-at.invariant.way c.if-slot-place.true).1

pub loop-at-preserved-then-slot-place : goal.loop-at-preserved-then-slot-place
loop-at-preserved-then-slot-place c =
    let slot = c.slot-slot.result.now in
    let way =
    (way_into c.args.round.now.variables c.args.arena.now c.args.place c.loop-at.at c.loop-at.round.variables c.loop-at.invariant.atoms slot c.slot-slot.ensures
    c.loop-at-test.true c.loop-at.invariant.way c.if-slot-place.true).0
    in record {
      count = omega (arith, c.loop-at.invariant.count, c.enter.ensures.count);
      above = c.enter.ensures.above c.args.store.now.scopes c.loop-at.invariant.above;
      atoms = c.loop-at.invariant.atoms ++ slot.basic;
      way = subst (λ (k : ℕ). WayTo c.args.round.now.variables c.args.arena.now c.args.place (c.loop-at.at + 1) k (c.loop-at.invariant.atoms ++ slot.basic))
          (sym c.in_ok-enter.ensures.variables) way;
      are = c.in_ok-enter.ensures.asserted c.loop-at.invariant.atoms c.loop-at.invariant.are;
    }

pub loop-at-preserved : goal.loop-at-preserved
loop-at-preserved c =
    let slot = c.slot-slot.result.now in
    let behind = slot_behind c.loop-at.at (branch_at c.loop-at.at c.args.arena.now) slot c.slot-slot.ensures in record {
      count = omega (arith, c.loop-at.invariant.count, behind);
      above = c.loop-at.invariant.above;
      atoms = c.loop-at.invariant.atoms;
      way = way_past c.args.round.now.variables c.args.arena.now c.args.place c.loop-at.at c.loop-at.round.variables c.loop-at.invariant.atoms slot c.slot-slot.ensures
          c.loop-at-test.true c.loop-at.invariant.way c.if-slot-place.false;
      are = c.loop-at.invariant.are;
    }

pub returns-clause-opened : goal.returns-clause-opened
returns-clause-opened c =
    way_ends c.args.round.now.variables c.args.arena.now c.args.place c.loop-at.at c.loop-at.round.variables c.loop-at.invariant.atoms c.loop-at.store.scopes
    c.loop-at.round.is_solvable c.loop-at.invariant.way c.loop-at.invariant.are c.loop-at-test.false
