use Rattle.std.proofs.Common.{◌≡◌, ◌+◌, ◌-◌, ◌<◌, length, take, get_or, arith, ap, ◌∙◌, sym}
use Rattle.std.proofs.lemmas.List.{length-map, length-take-le}
use Rattle.index_lists.specs.Links.{nexts, previouses}
use Rattle.index_lists.specs.Rings.{exchanged}
use Rattle.index_lists.proofs.Exchanging.{length-exchanged}
use Rattle.index_lists.proofs.Leaving.{round_stays, round_left, cut_off, cut_off-linked, without_last-is}
use Rattle.index_lists.proofs.Rings.remove_last.Goals as goal

some : (c : goal.After-truncate) → length c.self.inside.cells.items ≡ (c.len-last.result - 1) + 1
some c =
    let r : 0 < length (nexts c.self.inside.cells.items) = rw c.self.view_is c.requires in
    omega (arith, length-map c.self.inside.cells.items (λ l. l.next), r)

long : (c : goal.After-truncate) → length (nexts c.self.inside.cells.items) ≡ (c.len-last.result - 1) + 1
long c = length-map c.self.inside.cells.items (λ l. l.next) ∙ some c

cut : (c : goal.After-truncate)
    → nexts c.exchange.new.cells.items ≡ exchanged (get_or (previouses c.self.inside.cells.items) (c.len-last.result - 1) 0) (c.len-last.result - 1) (nexts c.self.inside.cells.items)
cut c = c.exchange.ensures.exchanged ∙ ap (λ k. exchanged k (c.len-last.result - 1) (nexts c.self.inside.cells.items)) c.previous_of-before.ensures

now : (c : goal.After-truncate)
    → nexts c.truncate.new.self.items ≡ take (c.len-last.result - 1) (exchanged (get_or (previouses c.self.inside.cells.items) (c.len-last.result - 1) 0) (c.len-last.result - 1) (nexts c.self.inside.cells.items))
now c = cut_off c.self.inside.cells.items c.exchange.new.cells.items c.truncate.new.self.items (c.len-last.result - 1) (some c) (cut c) c.truncate.ensures.items

shorter : (c : goal.After-truncate) → length (nexts c.truncate.new.self.items) ≡ c.len-last.result - 1
shorter c =
    let n = c.len-last.result - 1 in
    let m = exchanged (get_or (previouses c.self.inside.cells.items) (c.len-last.result - 1) 0) (c.len-last.result - 1) (nexts c.self.inside.cells.items) in
    let k = length-exchanged (get_or (previouses c.self.inside.cells.items) (c.len-last.result - 1) 0) (c.len-last.result - 1) (nexts c.self.inside.cells.items) in
    ap length (now c) ∙ length-take-le (c.len-last.result - 1) m (omega (arith, k, long c))

pub invariant_of-self : goal.invariant_of-self
invariant_of-self c = cut_off-linked c.self.inside.cells.items c.exchange.new.cells.items c.truncate.new.self.items (c.len-last.result - 1) (some c) (cut c) c.truncate.ensures.items c.self.invariant c.exchange.ensures.linked

pub returns-clause-left : goal.returns-clause-left
returns-clause-left c = rw (← c.self.view_is) (now c ∙ sym (without_last-is (nexts c.self.inside.cells.items) (previouses c.self.inside.cells.items) (c.len-last.result - 1) c.self.invariant (long c)))

pub returns-clause-parted : goal.returns-clause-parted
returns-clause-parted c =
    rw (← c.self.view_is, shorter c, now c) (round_left (nexts c.self.inside.cells.items) (previouses c.self.inside.cells.items) (c.len-last.result - 1) c.self.invariant (long c))

pub returns-clause-others : goal.returns-clause-others
returns-clause-others c =
    rw (← c.self.view_is, shorter c, now c) (round_stays (nexts c.self.inside.cells.items) (previouses c.self.inside.cells.items) (c.len-last.result - 1) c.self.invariant (long c))

pub returns-clause-len : goal.returns-clause-len
returns-clause-len c = omega (arith, shorter c, long c, ap length c.self.view_is)
