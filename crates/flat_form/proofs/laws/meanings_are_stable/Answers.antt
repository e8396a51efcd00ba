use Rattle.classical.proofs.Stable.{not_stable}
use Rattle.flat_form.proofs.Stable.{atom_stable, basic_stable, part_stable, parts_stable, cubes_stable, norm_stable, norms_stable}
use Rattle.flat_form.proofs.laws.meanings_are_stable.Goals as goal

pub returns : goal.returns
returns c = record {
  basics = record { atom = atom_stable; basic = basic_stable };
  cubes = record { part = part_stable; parts = parts_stable; cube = λ σ e cube. not_stable; cubes = cubes_stable };
  normals = record { one = norm_stable; all = norms_stable };
}
