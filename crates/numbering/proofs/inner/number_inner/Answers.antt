use Rattle.numbering.proofs.Inside.{inner_told}
use Rattle.numbering.proofs.inner.number_inner.Goals as goal

pub returns : goal.returns
returns c = λ reached.
    inner_told c.args.m c.args.part.now c.in-Some.count c.in_ok-order.order c.as_slice.result.now (record { inner = c.len.result; basic = c.in_ok-basic.basic }) c.in-Some.ensures.1
    c.as_slice.ensures reached c.in_ok-order.ensures c.len.ensures c.in_ok-basic.ensures
