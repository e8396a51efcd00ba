use Rattle.formula_ast.specs.Forms.{form_of}
use Rattle.game_library.proofs.completing.complete.Goals as goal

pub fill-requires-clause-needed : goal.fill-requires-clause-needed
fill-requires-clause-needed g c = (form_of c.args.f.now, c.requires.over, c.in_ok-marks.ensures)

pub returns-clause-ok : goal.returns-clause-ok
returns-clause-ok g c = c.in_ok-fill.ensures.ok (form_of c.args.f.now) c.requires.over c.in_ok-marks.ensures
