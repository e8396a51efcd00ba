use Rattle.std.proofs.Common.{◌∙◌}
use Rattle.formula_reader.proofs.Keys.{found_in}
use Rattle.formula_reader.proofs.variables.Variables.find.Goals as goal

pub returns : goal.returns
returns c = rw (← c.self.view_is) (c.get_index_of.ensures.index ∙ found_in _ c.args.name.now)
