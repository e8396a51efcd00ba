use Rattle.std.proofs.Common.{◌≡◌, [], ap, ◌∙◌}
use Rattle.std.specs.Prelude.{Option, None, List}
use Rattle.flat_form.specs.declared.cube.Cube.{Cube}
use Rattle.flat_form.specs.Normals.{norm}
use Rattle.flattening.proofs.Norms.{none_made}
use Rattle.flattening.specs.Tables.{entry_at, cubes_of}
use Rattle.flattening.specs.Flattening.{all_denied}
use Rattle.flattening.proofs.conjunctions.asked.Goals as goal

pub returns-in-None : goal.returns-in-None
returns-in-None c =
    let none_there : ◌≡◌ {A = Option (List Cube)} None (entry_at c.args.table.now c.args.key) = rw c.in-None.is at c.find.ensures.first in
    c.none_of-in-None.ensures
    ∙ ap (norm 0 []) (none_made _ c.new.ensures ∙ ap (λ o. all_denied c.args.args.now c.args.scope (cubes_of o)) none_there)
