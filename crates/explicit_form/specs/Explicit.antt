-- Cubes and lists of cubes as formulas.
use Rattle.std.specs.Prelude.{ℕ, ◌+◌, List, [], ◌∷◌, ◌++◌, map, max}
use Rattle.std.specs.List.{range_with_len}
use Rattle.tree_model.specs.declared.tree.Symbol.{Symbol}
use Rattle.formula_ast.specs.declared.term.Term.{Term}
use Rattle.formula_ast.specs.declared.term.Term.TheVariants.{Var, App}
use Rattle.formula_ast.specs.Forms.{Form, equal, differ, finite, no, exists}
use Rattle.flat_form.specs.declared.atom.Flat.{Flat}
use Rattle.flat_form.specs.declared.atom.Flat.TheVariants.{VarVar, VarTerm, Finite}
use Rattle.flat_form.specs.declared.cube.Part.{Part}
use Rattle.flat_form.specs.declared.cube.Cube.{Cube}
use Rattle.formula_grammar.specs.Written.{Text}
use Rattle.formula_printer.specs.Bound.{bound_names, conjunction, disjunction}
use Rattle.formula_grammar.specs.Meaning.{behind}

-- ---- atoms and parts

-- the symbol with these variables as arguments
abbrev pub applied : Symbol → List ℕ → Term
applied symbol xs = App symbol (record { items = map (λ x. Var x) xs })

abbrev pub atom_form : Flat → Form
atom_form (VarVar u v) = equal (Var u) (Var v)
atom_form (VarTerm u symbol xs) = equal (Var u) (applied symbol xs)
atom_form (Finite u) = finite (Var u)

-- a conjunction of atoms that is denied, with the variables that it binds
pub record Denied : Type 0 where
  pub bound : List ℕ
  pub basic : List Flat

-- one equation that binds nothing is written with `!=`
abbrev pub denied_form : List ℕ → List Flat → Form
denied_form [] (VarVar u v ∷ []) = differ (Var u) (Var v)
denied_form [] (VarTerm u symbol xs ∷ []) = differ (Var u) (applied symbol xs)
denied_form bound basic = no (behind exists bound (conjunction (map atom_form basic)))

abbrev pub denied : Denied → Form
denied part = denied_form part.bound part.basic

-- ---- cubes

-- a cube that binds these variables: its atoms, then its parts
abbrev pub explicit_cube : List ℕ → List Flat → List Denied → Form
explicit_cube outer basic parts = behind exists outer (conjunction (map atom_form basic ++ map denied parts))

-- the part, whose own variables come behind the m of its cube
abbrev pub denied_part : ℕ → Part → Denied
denied_part m part = record { bound = range_with_len m part.inner; basic = part.basic }

-- the formula of a cube, with its own numbers of variables
abbrev pub cube_form : Cube → Form
cube_form cube = explicit_cube (range_with_len cube.free cube.outer) cube.basic (map (denied_part (cube.free + cube.outer)) cube.parts)

-- the formula of a list of cubes
abbrev pub explicit_of : List Cube → Form
explicit_of cubes = disjunction (map cube_form cubes)

-- ---- names

-- the greatest number of variables that a part binds
abbrev pub widest : List Part → ℕ
widest [] = 0
widest (part ∷ rest) = max part.inner (widest rest)

-- the greatest number that a cube and one of its parts bind together
abbrev pub width : List Cube → ℕ
width [] = 0
width (cube ∷ rest) = max (cube.outer + widest cube.parts) (width rest)

-- the names of all variables of the formula, where these are the names of the free ones
abbrev pub explicit_names : List Text → List Cube → List Text
explicit_names names cubes = names ++ bound_names names (width cubes)
