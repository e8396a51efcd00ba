-- When a formula is explicit, its first variables being free.
use Rattle.std.specs.Prelude.{◌≡◌, ℕ, ◌+◌, ◌<◌, ◌≤◌, ◌⊎◌, List, [], ◌∷◌, ◌++◌, All, Contains, cond, nat_lt}
use Rattle.lists.specs.Distinct.{IsDistinct}
use Rattle.formula_ast.specs.Forms.{Form}
use Rattle.flat_form.specs.declared.atom.Flat.{Flat}
use Rattle.flat_form.specs.declared.atom.Flat.TheVariants.{VarVar, VarTerm, Finite}
use Rattle.flat_form.specs.declared.cube.Cube.{Cube}
use Rattle.flat_form.specs.Orders.{place_of}
use Rattle.flat_form.specs.Solved.{variable_of}
use Rattle.formula_printer.specs.Bound.{disjunction}
use Rattle.explicit_form.specs.Explicit.{Denied, explicit_cube}

-- ---- variables

-- the variable is free or bound
abbrev pub InScope : ℕ → List ℕ → ℕ → Type 0
InScope free block v = (v < free) ⊎ Contains block v

-- the rank of a variable: the free ones come first, then the bound ones in their order
abbrev pub rank : ℕ → List ℕ → ℕ → ℕ
rank free block v = cond (nat_lt v free) v (free + place_of block v)

-- v has a smaller rank than u
abbrev pub IsSmaller : ℕ → List ℕ → ℕ → ℕ → Type 0
IsSmaller free block v u = rank free block v < rank free block u

-- ---- atoms

-- one of the atoms is so
abbrev pub SomeAtom : (Flat → Type 0) → List Flat → Type 0
SomeAtom P atoms = (atom : Flat) × Contains atoms atom × P atom

-- v is left of the equation
abbrev pub IsLeftOf : ℕ → Flat → Type 0
IsLeftOf v (VarVar u w) = u ≡ v
IsLeftOf v (VarTerm u symbol xs) = u ≡ v
IsLeftOf v (Finite u) = ⊥

-- both are equations with the same symbol and the same arguments
abbrev pub HaveSameTerm : Flat → Flat → Type 0
HaveSameTerm (VarTerm u s xs) (VarTerm v r ys) = (s ≡ r) × (xs ≡ ys)
HaveSameTerm a b = ⊥

-- v is an argument of the equation, whose left side has a smaller rank
abbrev pub Meets : ℕ → List ℕ → ℕ → Flat → Type 0
Meets free block v (VarVar u w) = ⊥
Meets free block v (VarTerm u symbol xs) = Contains xs v × IsSmaller free block u v
Meets free block v (Finite u) = ⊥

-- The atom's variables are in scope. If it is an equation of variables, then the right side has a smaller rank or is left
-- of an equation of the base, and the left side is not bound in this block.
abbrev pub IsPlaced : ℕ → List Flat → List ℕ → List ℕ → Flat → Type 0
IsPlaced free base block bound (VarVar u v) =
    InScope free block u × InScope free block v × (IsSmaller free block v u ⊎ SomeAtom (IsLeftOf v) base) × (¬ Contains bound u)
IsPlaced free base block bound (VarTerm u symbol xs) = InScope free block u × All (InScope free block) xs
IsPlaced free base block bound (Finite u) = InScope free block u

-- The atom is not of the base: its left side is left of no equation of the base, and its term is none there; and the
-- base does not say that the variable is finite.
abbrev pub IsNew : List Flat → Flat → Type 0
IsNew base (VarVar u v) = ¬ SomeAtom (IsLeftOf u) base
IsNew base (VarTerm u symbol xs) = (¬ SomeAtom (IsLeftOf u) base) × (¬ SomeAtom (HaveSameTerm (VarTerm u symbol xs)) base)
IsNew base (Finite u) = ¬ Contains base (Finite u)

-- The atoms are of different variables, so a variable is left of one equation, or is finite, or neither; and they have
-- different terms.
abbrev pub AreApart : Flat → Flat → Type 0
AreApart a b = (¬ (variable_of a ≡ variable_of b)) × (¬ HaveSameTerm a b)

-- each two are apart
abbrev pub AllApart : List Flat → Type 0
AllApart [] = Unit {0}
AllApart (atom ∷ rest) = All (AreApart atom) rest × AllApart rest

-- ---- blocks, cubes and formulas

-- the atoms behind a block of quantifiers, where others are bound outside, with a base that holds there
pub record IsBlock (free : ℕ) (base : List Flat) (outer bound : List ℕ) (atoms : List Flat) : Type 0 where
  -- the bound variables are distinct, none is free, and none is bound outside
  pub distinct : IsDistinct bound
  pub new_names : All (λ x. (free ≤ x) × (¬ Contains outer x)) bound
  pub placed : All (IsPlaced free base (outer ++ bound) bound) atoms
  pub new_atoms : All (IsNew base) atoms
  pub all_apart : AllApart atoms
  -- each bound variable is an argument of an equation whose left side has a smaller rank
  pub met : All (λ x. SomeAtom (Meets free (outer ++ bound) x) atoms) bound

-- a part of a cube with these variables and atoms
pub record IsExplicitPart (free : ℕ) (outer : List ℕ) (basic : List Flat) (part : Denied) : Type 0 where
  pub some_atom : ¬ (part.basic ≡ [])
  pub block : IsBlock free basic outer part.bound part.basic

-- the formula is an explicit cube: an atom or a part at least, its atoms a block over nothing, each part one over these
pub record IsExplicitCube (free : ℕ) (f : Form) : Type 0 where
  pub outer : List ℕ
  pub basic : List Flat
  pub parts : List Denied
  pub is : f ≡ explicit_cube outer basic parts
  pub some_item : ¬ ((basic ≡ []) × (parts ≡ []))
  pub block : IsBlock free [] [] outer basic
  pub each_part : All (IsExplicitPart free outer basic) parts

-- the formula is a disjunction of distinct explicit cubes, of one at least
pub record IsExplicit (free : ℕ) (f : Form) : Type 0 where
  pub disjuncts : List Form
  pub is : f ≡ disjunction disjuncts
  pub some_cube : ¬ (disjuncts ≡ [])
  pub distinct : IsDistinct disjuncts
  pub each : All (IsExplicitCube free) disjuncts

-- the cube has an atom or a part
abbrev pub IsNotEmpty : Cube → Type 0
IsNotEmpty cube = ¬ ((cube.basic ≡ []) × (cube.parts ≡ []))
