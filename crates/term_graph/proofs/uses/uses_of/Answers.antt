use Rattle.std.proofs.Common.{◌<◌, ◌∙◌, ap, length}
use Rattle.term_graph.specs.Fields.{fields}
use Rattle.term_graph.proofs.Forming.{cells_as}
use Rattle.term_graph.proofs.Splicing.{head_within}
use Rattle.term_graph.proofs.Yielding.{on_starts}
use Rattle.term_graph.proofs.uses.uses_of.Goals as goal

pub invariant_of-result : goal.invariant_of-result
invariant_of-result c =
    let l : c.head_at-head.result < length c.args.parts.now.rings = head_within (fields c.args.parts.now) c.requires.good c.args.class c.head_at-head.result c.requires.class_in c.head_at-head.ensures in
    let r = c.rounds.ensures.each c.head_at-head.result l in (
      ap length c.as_slice.ensures.value ∙ cells_as (fields c.args.parts.now) c.requires.good,
      on_starts c.args.parts.now.rings c.head_at-head.result c.next-at.result r.0 c.rounds.ensures.inside l r.1 c.next-at.ensures,
    )
