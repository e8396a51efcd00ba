use Rattle.std.proofs.Common.{[], ◌∷◌, ◌++◌, ap, ◌∙◌}
use Rattle.flat_form.specs.declared.cube.Part.{Part}
use Rattle.numbering.proofs.Finished.{joins_there, joins_last}
use Rattle.cube_reduction.proofs.fates.push_copy.Goals as goal

pub returns-then-is_among : goal.returns-then-is_among
returns-then-is_among c = joins_there c.args.part.now c.as_slice.result.now c.args.done.now c.is_among.result c.as_slice.ensures c.if-is_among.true c.is_among.ensures

pub returns : goal.returns
returns c =
    joins_last c.args.part.now c.as_slice.result.now c.args.done.now c.push.new.self c.is_among.result c.as_slice.ensures c.if-is_among.false c.is_among.ensures
    (c.in_ok-push.ensures.ok ∙ ap (λ (z : Part). c.args.done.now ++ z ∷ []) c.in_ok-copy.ensures)
