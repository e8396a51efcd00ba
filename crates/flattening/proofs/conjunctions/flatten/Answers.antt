use Rattle.flattening.specs.Flattening.{flattening_of}
use Rattle.flattening.specs.Tables.{cubes_at}
use Rattle.flattening.proofs.ByForm.{flattening_made}
use Rattle.flattening.proofs.Numbered.{well_numbered}
use Rattle.flattening.proofs.Whole.{means_formula}
use Rattle.flattening.proofs.conjunctions.flatten.Goals as goal

pub returns-clause-normal : goal.returns-clause-normal
unfolding flattening_of
returns-clause-normal c =
    flattening_made (cubes_at c.args.table.now) _ c.args.ranks.now _ _ _ _ _ c.none_of.ensures c.in_ok-parts.ensures c.in_ok-part.ensures.normal c.in_ok-given.ensures c.len.ensures

pub returns-clause-meaning : goal.returns-clause-meaning
returns-clause-meaning c =
    means_formula _ _ _ _ (flattening_made (cubes_at c.args.table.now) _ c.args.ranks.now _ _ _ _ _ c.none_of.ensures c.in_ok-parts.ensures c.in_ok-part.ensures.normal
    c.in_ok-given.ensures c.len.ensures)

pub returns-clause-well_numbered : goal.returns-clause-well_numbered
returns-clause-well_numbered c =
    well_numbered _ _ _ _ (flattening_made (cubes_at c.args.table.now) _ c.args.ranks.now _ _ _ _ _ c.none_of.ensures c.in_ok-parts.ensures c.in_ok-part.ensures.normal
    c.in_ok-given.ensures c.len.ensures)
