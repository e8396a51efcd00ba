-- When a formula is put together as an explicit cube is: quantifiers before a conjunction of atoms and then of parts.
use Rattle.std.specs.Prelude.{◌⊎◌, All}
use Rattle.formula_ast.specs.declared.term.Term.{Term}
use Rattle.formula_ast.specs.declared.term.Terms.{Terms}
use Rattle.formula_ast.specs.declared.term.Term.TheOpen.{Term-F}
use Rattle.formula_ast.specs.declared.term.Term.TheOpen as layer
use Rattle.formula_ast.specs.declared.term.Term.TheViews.{out-Term}
use Rattle.formula_ast.specs.Terms.{list_of}
use Rattle.formula_ast.specs.Forms.{Form, equal, differ, finite, no, and, exists}

abbrev pub LayerIsVariable : Term-F Term Terms → Type 0
LayerIsVariable (layer.Var v) = Unit {0}
LayerIsVariable (layer.App s ts) = ⊥

-- the term is a variable
abbrev pub IsVariable : Term → Type 0
IsVariable t = LayerIsVariable (out-Term t)

abbrev pub LayerIsFlat : Term-F Term Terms → Type 0
LayerIsFlat (layer.Var v) = Unit {0}
LayerIsFlat (layer.App s ts) = All IsVariable (list_of ts)

-- the term is a variable, or a symbol with variables as arguments
abbrev pub IsFlat : Term → Type 0
IsFlat t = LayerIsFlat (out-Term t)

-- an atom
abbrev pub IsAtom : Form → Type 0
IsAtom (equal t s) = IsVariable t × IsFlat s
IsAtom (finite t) = IsVariable t
IsAtom f = ⊥

-- a conjunction of atoms, of one at least
abbrev pub AreAtoms : Form → Type 0
AreAtoms (and f g) = AreAtoms f × IsAtom g
AreAtoms f = IsAtom f

-- such a one behind quantifiers
abbrev pub AreBound : Form → Type 0
AreBound (exists x f) = AreBound f
AreBound f = AreAtoms f

-- what is denied by `no`: atoms, but not one equation alone
abbrev pub IsDenied : Form → Type 0
IsDenied (exists x f) = AreBound f
IsDenied (equal t s) = ⊥
IsDenied f = AreAtoms f

-- a part
abbrev pub IsPart : Form → Type 0
IsPart (differ t s) = IsVariable t × IsFlat s
IsPart (no f) = IsDenied f
IsPart f = ⊥

-- a conjunction of atoms and then of parts
abbrev pub AreItems : Form → Type 0
AreItems (and f g) = (AreAtoms f × IsAtom g) ⊎ (AreItems f × IsPart g)
AreItems f = IsAtom f ⊎ IsPart f

-- such a one behind quantifiers
abbrev pub IsShaped : Form → Type 0
IsShaped (exists x f) = IsShaped f
IsShaped f = AreItems f

-- a formula with flat equations alone, of the kinds that stand in explicit cubes
abbrev pub IsSimple : Form → Type 0
IsSimple (equal t s) = IsVariable t × IsFlat s
IsSimple (differ t s) = IsVariable t × IsFlat s
IsSimple (finite t) = IsVariable t
IsSimple (no f) = IsSimple f
IsSimple (and f g) = IsSimple f × IsSimple g
IsSimple (exists x f) = IsSimple f
IsSimple f = ⊥
