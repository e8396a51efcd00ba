use Rattle.std.proofs.Common.{◌≡◌, length, ◌∙◌}
use Rattle.flat_form.specs.declared.cube.Cube.{Cube}
use Rattle.flat_form.specs.Fitting.{CubeFits}
use Rattle.flat_form.specs.Numbering.{IsWellNumbered}
use Rattle.list_facts.proofs.Some.{in_some}
use Rattle.witness_trees.specs.Values.{IndexesAreUsed}
use Rattle.decision.proofs.Lists.{at_place, stands_at}
use Rattle.decision.proofs.sides.shown.Goals as goal

pub witness-requires-clause-used : goal.witness-requires-clause-used
witness-requires-clause-used c = at_place (λ (cube : Cube). IndexesAreUsed cube c.args.used.now) c.args.cubes.now 0 c.get.result.now c.requires.indexes c.get.ensures

pub returns : goal.returns
returns c =
    let cubes = c.args.cubes.now in
    let first = c.get.result.now in
    let solved = c.in_ok-solved.ensures in
    let example = c.in_ok-example.ensures in
    record {
      names_are = solved.names;
      body_is = solved.body;
      explicit = solved.shape;
      formed = solved.well_formed;
      means = solved.meaning;
      first = first;
      is_first = c.get.ensures;
      fresh = example.fresh;
      roots = example.roots ∙ (at_place (λ (cube : Cube). (cube.free ≡ length c.args.names.now) × IsWellNumbered cube) cubes 0 first c.requires.over c.get.ensures).0;
      fits = λ σ fit. example.fits σ (at_place (CubeFits σ) cubes 0 first fit c.get.ensures);
      holds = λ σ e fit has. in_some e cubes first (stands_at cubes 0 first c.get.ensures) (example.holds σ e (at_place (CubeFits σ) cubes 0 first fit c.get.ensures) has);
    }
