use Rattle.std.proofs.Common.{List, ◌≡◌}
use Rattle.std.specs.List.{filter}
use Rattle.std.proofs.lemmas.Result.{IfOk-weaker}
use Rattle.flat_form.specs.declared.atom.Flat.{Flat}
use Rattle.flat_form.specs.Parts.{IsPruned}
use Rattle.cube_reduction.specs.Keeping.{is_kept_by}
use Rattle.cube_reduction.proofs.KeptAtoms.{pruned_by}
use Rattle.cube_reduction.proofs.pruning.pruned.Goals as goal

pub returns : goal.returns
returns c =
    IfOk-weaker c.kept.result
    (λ (kept : List Flat). kept ≡ filter (is_kept_by c.args.m c.as_slice.result.now) c.as_slice-2.result.now)
    (IsPruned c.args.m c.args.added.now)
    (λ kept e. pruned_by c.args.m c.args.count c.args.added.now c.in_ok-marks.marks.items c.in_ok-marks.ensures c.as_slice.result.now c.as_slice-2.result.now kept
    c.as_slice.ensures.value c.as_slice-2.ensures c.requires.ascending e)
    c.kept.ensures
