use Rattle.std.proofs.Common.{◌≡◌, Bool, true, false, length, sym, ap, ◌∙◌, subst, rules, arith}
use Rattle.std.specs.Prelude.{IsTrue, ◌↔◌}
use Rattle.flat_form.specs.declared.cube.Part.{Part}
use Rattle.flat_form.specs.Steps.{SettlesTo, NumbersInner}
use Rattle.cube_facts.specs.Settling.{HasSettledShape}
use Rattle.cube_reduction.specs.Fates.{drops, drops_then, implied, stays, changes}
use Rattle.cube_reduction.proofs.Lasting.{after_shape, after_reached, implied_by}
use Rattle.cube_reduction.proofs.SettledParts.{some_said, none_said}
use Rattle.cube_reduction.proofs.fates.fate_of.Goals as goal

same : (b : Bool) (one other : Part) → IsTrue b ↔ (one ≡ other) → b ≡ true → one ≡ other
same true one other is e = is.0 (search rules)
same false one other is e = absurd (cc e)

pub returns-in_default : goal.returns-in_default
returns-in_default c = drops (none_said _ _ _ c.in_default.is c.in_ok-first.ensures)

pub returns-then-len-eq0 : goal.returns-then-len-eq0
returns-then-len-eq0 c =
    implied (implied_by c.args.over.now.count c.args.over.now.base c.args.part.now c.in-Some.first (some_said _ _ _ _ c.in-Some.is c.in_ok-first.ensures)
    (sym c.len.ensures ∙ c.if-len-eq0.true))

pub returns-in_default-2 : goal.returns-in_default-2
returns-in_default-2 c =
    drops_then c.in-Some.first (some_said _ _ _ _ c.in-Some.is c.in_ok-first.ensures)
    (λ e. let none : length c.in-Some.first.basic ≡ 0 = ap length e in omega (arith, none, c.len.ensures, c.if-len-eq0.false))
    (none_said _ _ _ c.in_default-2.is c.in_ok-second.ensures)

pub number_inner-requires-clause-over : goal.number_inner-requires-clause-over
number_inner-requires-clause-over c =
    let m = c.args.over.now.count in
    let base = c.args.over.now.base in
    let once : SettlesTo m base c.args.part.now c.in-Some.first = some_said _ _ _ _ c.in-Some.is c.in_ok-first.ensures in
    let twice : SettlesTo m base c.in-Some.first c.in-Some-2.second = some_said _ _ _ _ c.in-Some-2.is c.in_ok-second.ensures in
    let first : HasSettledShape m base c.in-Some.first = after_shape m base c.args.part.now c.in-Some.first c.requires.solved c.requires.base c.requires.part once in
    (after_shape m base c.in-Some.first c.in-Some-2.second c.requires.solved c.requires.base first.over twice).over

pub returns-then-is_same_part : goal.returns-then-is_same_part
returns-then-is_same_part c =
    let m = c.args.over.now.count in
    let base = c.args.over.now.base in
    let once : SettlesTo m base c.args.part.now c.in-Some.first = some_said _ _ _ _ c.in-Some.is c.in_ok-first.ensures in
    let twice : SettlesTo m base c.in-Some.first c.in-Some-2.second = some_said _ _ _ _ c.in-Some-2.is c.in_ok-second.ensures in
    let first : HasSettledShape m base c.in-Some.first = after_shape m base c.args.part.now c.in-Some.first c.requires.solved c.requires.base c.requires.part once in
    stays c.in-Some.first c.in-Some-2.second once
    (λ e. let none : length c.in-Some.first.basic ≡ 0 = ap length e in omega (arith, none, c.len.ensures, c.if-len-eq0.false)) twice
    (subst (λ (z : Part). NumbersInner m c.in-Some-2.second z) (same c.is_same_part.result c.in_ok-new.new c.args.part.now c.is_same_part.ensures c.if-is_same_part.true)
    (c.in_ok-new.ensures (after_reached m base c.in-Some.first c.in-Some-2.second c.requires.solved c.requires.base first.over twice)))

pub returns : goal.returns
returns c =
    let m = c.args.over.now.count in
    let base = c.args.over.now.base in
    let once : SettlesTo m base c.args.part.now c.in-Some.first = some_said _ _ _ _ c.in-Some.is c.in_ok-first.ensures in
    let twice : SettlesTo m base c.in-Some.first c.in-Some-2.second = some_said _ _ _ _ c.in-Some-2.is c.in_ok-second.ensures in
    let first : HasSettledShape m base c.in-Some.first = after_shape m base c.args.part.now c.in-Some.first c.requires.solved c.requires.base c.requires.part once in
    changes c.in-Some.first c.in-Some-2.second c.in_ok-new.new once
    (λ e. let none : length c.in-Some.first.basic ≡ 0 = ap length e in omega (arith, none, c.len.ensures, c.if-len-eq0.false)) twice
    (c.in_ok-new.ensures (after_reached m base c.in-Some.first c.in-Some-2.second c.requires.solved c.requires.base first.over twice))
