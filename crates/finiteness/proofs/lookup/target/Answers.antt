use Rattle.finiteness.proofs.Standing.{IsFirst, own_target}
use Rattle.finiteness.proofs.lookup.target.Goals as goal

pub returns-else-u-v : goal.returns-else-u-v
returns-else-u-v c =
    let first : IsFirst c.args.b.now c.args.v c.first_from-place.result c.get.result.now = record {
      up = c.requires;
      at = c.get.ensures;
      before = c.first_from-place.ensures.before;
      from = c.first_from-place.ensures.from;
    } in
    own_target c.args.b.now c.args.v c.first_from-place.result c.get.result.now first (λ r e. c.if-u-v.false (cc (e, c.in-VarVar.is)))

pub returns-in-VarTerm : goal.returns-in-VarTerm
returns-in-VarTerm c =
    let first : IsFirst c.args.b.now c.args.v c.first_from-place.result c.get.result.now = record {
      up = c.requires;
      at = c.get.ensures;
      before = c.first_from-place.ensures.before;
      from = c.first_from-place.ensures.from;
    } in
    own_target c.args.b.now c.args.v c.first_from-place.result c.get.result.now first (λ r e. cc (e, c.in-VarTerm.is))

pub returns-in-Finite : goal.returns-in-Finite
returns-in-Finite c =
    let first : IsFirst c.args.b.now c.args.v c.first_from-place.result c.get.result.now = record {
      up = c.requires;
      at = c.get.ensures;
      before = c.first_from-place.ensures.before;
      from = c.first_from-place.ensures.from;
    } in
    own_target c.args.b.now c.args.v c.first_from-place.result c.get.result.now first (λ r e. cc (e, c.in-Finite.is))
