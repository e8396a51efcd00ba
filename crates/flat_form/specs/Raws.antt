-- Raw cubes that are made of others: joined, opened and denied ones.
use Rattle.std.specs.Prelude.{ℕ, ◌+◌, ◌-◌, cond, ltb, List, [], ◌∷◌, ◌++◌, map}
use Rattle.flat_form.specs.declared.cube.Part.{Part}
use Rattle.flat_form.specs.declared.cube.Cube.{Cube}
use Rattle.flat_form.specs.Parts.{renumbered}
use Rattle.flat_form.specs.Orders.{renumbered_part}

-- variables from k on are moved up by s
abbrev pub raised : ℕ → ℕ → ℕ → ℕ
raised k s v = cond (ltb v k) v (v + s)

-- both cubes at once, over the same free variables: the outer variables of the left come first
abbrev pub joined : Cube → Cube → Cube
joined left right = record {
  free = left.free;
  outer = left.outer + right.outer;
  basic = left.basic ++ map (renumbered (raised left.free left.outer)) right.basic;
  parts = map (renumbered_part (raised (left.free + left.outer) right.outer) 0) left.parts
      ++ map (renumbered_part (raised left.free left.outer) 0) right.parts;
}

-- the last so many free variables become outer ones
abbrev pub opened : ℕ → Cube → Cube
opened quantified cube = record { free = cube.free - quantified; outer = quantified + cube.outer; basic = cube.basic; parts = cube.parts }

-- the raw cubes of a cube's negation: its basic fails, or a part holds beside it
abbrev pub denied : Cube → List Cube
denied cube =
    record { free = cube.free; outer = 0; basic = []; parts = record { inner = cube.outer; basic = cube.basic } ∷ [] }
    ∷ map (λ (part : Part). record { free = cube.free; outer = cube.outer + part.inner; basic = cube.basic ++ part.basic; parts = [] }) cube.parts
