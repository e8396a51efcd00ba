use Rattle.flat_form.specs.declared.atom.Flat.TheVariants.{VarTerm}
use Rattle.finiteness.proofs.Standing.{IsFirst, no_term, stands_as}
use Rattle.finiteness.proofs.lookup.term_place.Goals as goal

pub returns-in-VarVar : goal.returns-in-VarVar
returns-in-VarVar c =
    let first : IsFirst c.args.b.now c.args.v c.first_from-place.result c.get.result.now = record {
      up = c.requires;
      at = c.get.ensures;
      before = c.first_from-place.ensures.before;
      from = c.first_from-place.ensures.from;
    } in
    no_term c.args.b.now c.args.v c.first_from-place.result c.get.result.now first (λ s ys e. cc (e, c.in-VarVar.is))

pub returns-then-u-v : goal.returns-then-u-v
returns-then-u-v c = (
  c.in-VarTerm.field-1,
  c.in-VarTerm.field-2,
  stands_as c.args.b.now c.first_from-place.result c.get.result.now (VarTerm c.args.v c.in-VarTerm.field-1 c.in-VarTerm.field-2) c.get.ensures
      (cc (c.in-VarTerm.is, c.if-u-v.true)),
)

pub returns-else-u-v : goal.returns-else-u-v
returns-else-u-v c =
    let first : IsFirst c.args.b.now c.args.v c.first_from-place.result c.get.result.now = record {
      up = c.requires;
      at = c.get.ensures;
      before = c.first_from-place.ensures.before;
      from = c.first_from-place.ensures.from;
    } in
    no_term c.args.b.now c.args.v c.first_from-place.result c.get.result.now first (λ s ys e. c.if-u-v.false (cc (e, c.in-VarTerm.is)))

pub returns-in-Finite : goal.returns-in-Finite
returns-in-Finite c =
    let first : IsFirst c.args.b.now c.args.v c.first_from-place.result c.get.result.now = record {
      up = c.requires;
      at = c.get.ensures;
      before = c.first_from-place.ensures.before;
      from = c.first_from-place.ensures.from;
    } in
    no_term c.args.b.now c.args.v c.first_from-place.result c.get.result.now first (λ s ys e. cc (e, c.in-Finite.is))
