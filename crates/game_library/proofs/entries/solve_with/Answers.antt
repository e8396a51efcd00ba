use Rattle.formula_ast.specs.Forms.{form_of}
use Rattle.flat_form.specs.Normals.{norm_of}
use Rattle.flattening.proofs.Fitting.{formula_fits}
use Rattle.game_library.proofs.Solved.{IsPromised, solved_as}
use Rattle.game_library.proofs.entries.solve_with.Goals as goal

pub solve-requires : goal.solve-requires
solve-requires g c =
    let narrow = (formula_fits c.args.file.now.signature c.args.file.now.signature c.requires.over.0 (form_of c.args.f.now) c.requires.over.1).1 in
    rw c.len.ensures (c.in_ok-normal.ensures.well_numbered c.requires.free narrow c.requires.has)

pub returns : goal.returns
returns g c =
    let promised : IsPromised g.E.Engine.gives c.len.result (norm_of c.in_ok-normal.normal) c.in_ok-cubes.cubes = record {
      over = c.in_ok-cubes.ensures.over;
      given = c.in_ok-cubes.ensures.given;
      reduced = c.in_ok-cubes.ensures.reduced;
      distinct = c.in_ok-cubes.ensures.distinct;
      symbols = c.in_ok-cubes.ensures.symbols;
      meaning = c.in_ok-cubes.ensures.meaning;
    } in
    solved_as g.E.Engine.gives c.args.file.now c.requires.formed c.args.table.now c.requires.right c.args.ranks.now (form_of c.args.f.now) c.requires.over c.requires.has
    (norm_of c.in_ok-normal.normal) c.in_ok-cubes.cubes c.in_ok-normal.ensures.normal c.requires.free c.in_ok-normal.ensures.meaning (rw c.len.ensures at promised)
