use Rattle.std.proofs.Common.{length, refl, arith}
use Rattle.decision.proofs.Verdicts.{false_always, false_never, true_always, true_never, no_cube, no_other, closed_cube, within, can_be_shown, other_can_be_shown, open_always, open_never, opens}
use Rattle.decision.proofs.deciding.decide_by.Goals as goal

pub solution-requires-clause-over : goal.solution-requires-clause-over
solution-requires-clause-over g c = (length c.args.s.now.names, c.requires.statement.formula)

pub solution-requires-clause-free : goal.solution-requires-clause-free
solution-requires-clause-free g c = λ x free. (c.in_ok-ranks.ensures.free x).1 free

pub denied-requires-clause-free : goal.denied-requires-clause-free
denied-requires-clause-free g c = λ x free. (c.in_ok-ranks.ensures.free x).1 free

pub returns-then-len-eq0-clause-always : goal.returns-then-len-eq0-clause-always
returns-then-len-eq0-clause-always g c =
    false_always c.args.file.now c.args.s.now
    (no_cube g.E.Engine.gives c.args.file.now c.requires.file c.args.s.now c.requires.statement c.in_ok-ranks.ranks c.in_ok-ranks.ensures.order c.in_ok-cubes.cubes c.in_ok-cubes.ensures.solution (omega (arith, c.len.ensures, c.if-len-eq0.true)))

pub returns-then-len-eq0-clause-never : goal.returns-then-len-eq0-clause-never
returns-then-len-eq0-clause-never g c =
    false_never c.args.file.now c.args.s.now
    (no_cube g.E.Engine.gives c.args.file.now c.requires.file c.args.s.now c.requires.statement c.in_ok-ranks.ranks c.in_ok-ranks.ensures.order c.in_ok-cubes.cubes c.in_ok-cubes.ensures.solution (omega (arith, c.len.ensures, c.if-len-eq0.true)))

pub returns-then-len-eq0-2-clause-always : goal.returns-then-len-eq0-2-clause-always
returns-then-len-eq0-2-clause-always g c =
    true_always c.args.file.now c.args.s.now
    (closed_cube g.E.Engine.gives c.args.file.now c.requires.file c.args.s.now c.requires.statement c.in_ok-ranks.ranks c.in_ok-ranks.ensures.order c.in_ok-cubes.cubes c.in_ok-cubes.ensures.solution (λ none. c.if-len-eq0.false (omega (arith, none, c.len.ensures))) (omega (arith, c.len-2.ensures, c.if-len-eq0-2.true)))

pub returns-then-len-eq0-2-clause-never : goal.returns-then-len-eq0-2-clause-never
returns-then-len-eq0-2-clause-never g c =
    true_never c.args.file.now c.args.s.now
    (closed_cube g.E.Engine.gives c.args.file.now c.requires.file c.args.s.now c.requires.statement c.in_ok-ranks.ranks c.in_ok-ranks.ensures.order c.in_ok-cubes.cubes c.in_ok-cubes.ensures.solution (λ none. c.if-len-eq0.false (omega (arith, none, c.len.ensures))) (omega (arith, c.len-2.ensures, c.if-len-eq0-2.true)))

pub returns-then-len-eq0-3-clause-always : goal.returns-then-len-eq0-3-clause-always
returns-then-len-eq0-3-clause-always g c =
    true_always c.args.file.now c.args.s.now
    (no_other g.E.Engine.gives c.args.file.now c.requires.file c.args.s.now c.requires.statement c.in_ok-ranks.ranks c.in_ok-ranks.ensures.order c.in_ok-others.others c.in_ok-others.ensures.solution (omega (arith, c.len-3.ensures, c.if-len-eq0-3.true)))

pub returns-then-len-eq0-3-clause-never : goal.returns-then-len-eq0-3-clause-never
returns-then-len-eq0-3-clause-never g c =
    true_never c.args.file.now c.args.s.now
    (no_other g.E.Engine.gives c.args.file.now c.requires.file c.args.s.now c.requires.statement c.in_ok-ranks.ranks c.in_ok-ranks.ensures.order c.in_ok-others.others c.in_ok-others.ensures.solution (omega (arith, c.len-3.ensures, c.if-len-eq0-3.true)))

pub opened-requires-clause-ranks : goal.opened-requires-clause-ranks
opened-requires-clause-ranks g c =
    within g.E.Engine.gives c.args.file.now c.requires.file c.args.s.now c.requires.statement c.in_ok-ranks.ranks c.in_ok-ranks.ensures.order c.in_ok-ranks.ensures.free

pub opened-requires-clause-cubes : goal.opened-requires-clause-cubes
opened-requires-clause-cubes g c =
    can_be_shown g.E.Engine.gives c.args.file.now c.requires.file c.args.s.now c.requires.statement c.in_ok-ranks.ranks c.in_ok-ranks.ensures.order _ refl _ refl c.in_ok-ranks.ensures.free c.in_ok-cubes.cubes c.in_ok-others.others
    c.in_ok-cubes.ensures.solution c.in_ok-others.ensures.solution (λ none. c.if-len-eq0.false (omega (arith, none, c.len.ensures)))
    (λ none. c.if-len-eq0-2.false (omega (arith, none, c.len-2.ensures))) (λ none. c.if-len-eq0-3.false (omega (arith, none, c.len-3.ensures)))

pub opened-requires-clause-others : goal.opened-requires-clause-others
opened-requires-clause-others g c =
    other_can_be_shown g.E.Engine.gives c.args.file.now c.requires.file c.args.s.now c.requires.statement c.in_ok-ranks.ranks c.in_ok-ranks.ensures.order _ refl _ refl c.in_ok-ranks.ensures.free c.in_ok-cubes.cubes c.in_ok-others.others
    c.in_ok-cubes.ensures.solution c.in_ok-others.ensures.solution (λ none. c.if-len-eq0.false (omega (arith, none, c.len.ensures)))
    (λ none. c.if-len-eq0-2.false (omega (arith, none, c.len-2.ensures))) (λ none. c.if-len-eq0-3.false (omega (arith, none, c.len-3.ensures)))

pub returns-clause-always : goal.returns-clause-always
returns-clause-always g c =
    open_always g.E.Engine.gives c.args.file.now c.requires.file c.args.s.now c.requires.statement c.in_ok-ranks.ranks c.in_ok-ranks.ensures.order _ refl _ refl c.in_ok-ranks.ensures.free c.in_ok-cubes.cubes c.in_ok-others.others
    c.in_ok-cubes.ensures.solution c.in_ok-others.ensures.solution (λ none. c.if-len-eq0.false (omega (arith, none, c.len.ensures)))
    (λ none. c.if-len-eq0-2.false (omega (arith, none, c.len-2.ensures))) (λ none. c.if-len-eq0-3.false (omega (arith, none, c.len-3.ensures))) c.opened.result c.opened.ensures

pub returns-clause-never : goal.returns-clause-never
returns-clause-never g c =
    open_never g.E.Engine.gives c.args.file.now c.requires.file c.args.s.now c.requires.statement c.in_ok-ranks.ranks c.in_ok-ranks.ensures.order _ refl _ refl c.in_ok-ranks.ensures.free c.in_ok-cubes.cubes c.in_ok-others.others
    c.in_ok-cubes.ensures.solution c.in_ok-others.ensures.solution (λ none. c.if-len-eq0.false (omega (arith, none, c.len.ensures)))
    (λ none. c.if-len-eq0-2.false (omega (arith, none, c.len-2.ensures))) (λ none. c.if-len-eq0-3.false (omega (arith, none, c.len-3.ensures))) c.opened.result c.opened.ensures

pub returns-clause-open : goal.returns-clause-open
returns-clause-open g c =
    opens g.E.Engine.gives c.args.file.now c.requires.file c.args.s.now c.requires.statement c.in_ok-ranks.ranks c.in_ok-ranks.ensures.order _ refl _ refl c.in_ok-ranks.ensures.free c.in_ok-cubes.cubes c.in_ok-others.others
    c.in_ok-cubes.ensures.solution c.in_ok-others.ensures.solution (λ none. c.if-len-eq0.false (omega (arith, none, c.len.ensures)))
    (λ none. c.if-len-eq0-2.false (omega (arith, none, c.len-2.ensures))) (λ none. c.if-len-eq0-3.false (omega (arith, none, c.len-3.ensures))) c.opened.result c.opened.ensures
