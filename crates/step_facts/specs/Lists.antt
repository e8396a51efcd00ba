-- Lists of cubes: which lists the steps, conjunction, disjunction, negation, quantifiers and negated conjunctions come to.
use Rattle.std.specs.Prelude.{◌≡◌, ℕ, ◌+◌, List, [], ◌∷◌, ◌++◌, map, flat_map, Contains, Some, None}
use Rattle.flat_form.specs.declared.atom.Flat.{Flat}
use Rattle.flat_form.specs.declared.cube.Cube.{Cube}
use Rattle.flat_form.specs.Normals.{Norm, Norms, norm, none, also}
use Rattle.flat_form.specs.Raws.{joined, opened, denied}
use Rattle.flat_form.specs.Steps.{Outcome}

-- the steps are taken on each raw cube, and each outcome is kept unless it equals one of those so far
pub data TakesSteps : List Cube → List Cube → List Cube → Type 0 where
  all_done : (done : List Cube) → TakesSteps done [] done
  without : (done : List Cube) (raw : Cube) (rest out : List Cube) → Outcome raw None → TakesSteps done rest out → TakesSteps done (raw ∷ rest) out
  twice : (done : List Cube) (raw cube : Cube) (rest out : List Cube) → Outcome raw (Some cube) → Contains done cube → TakesSteps done rest out
      → TakesSteps done (raw ∷ rest) out
  new : (done : List Cube) (raw cube : Cube) (rest out : List Cube) → Outcome raw (Some cube) → ¬ Contains done cube
      → TakesSteps (done ++ cube ∷ []) rest out → TakesSteps done (raw ∷ rest) out

-- each cube is kept unless it equals one of those so far
pub data KeepsFirst : List Cube → List Cube → List Cube → Type 0 where
  all_done : (done : List Cube) → KeepsFirst done [] done
  twice : (done : List Cube) (cube : Cube) (rest out : List Cube) → Contains done cube → KeepsFirst done rest out → KeepsFirst done (cube ∷ rest) out
  new : (done : List Cube) (cube : Cube) (rest out : List Cube) → ¬ Contains done cube → KeepsFirst (done ++ cube ∷ []) rest out
      → KeepsFirst done (cube ∷ rest) out

-- a cube of both lists holds: each of the left joined with each of the right
abbrev pub IsAnd : List Cube → List Cube → List Cube → Type 0
IsAnd left right out = TakesSteps [] (flat_map (λ one. map (joined one) right) left) out

-- a cube of one of the lists holds; no steps are taken
abbrev pub IsOr : List Cube → List Cube → List Cube → Type 0
IsOr left right out = KeepsFirst [] (left ++ right) out

-- a cube of the list so far holds, and none of these
abbrev pub DeniesEach : List Cube → List Cube → List Cube → Type 0
DeniesEach so_far [] out = out ≡ so_far
DeniesEach so_far (cube ∷ rest) out = (negation : List Cube) × (next : List Cube) × TakesSteps [] (denied cube) negation × IsAnd so_far negation next × DeniesEach next rest out

-- no cube of the list holds, over n free variables
abbrev pub IsNot : ℕ → List Cube → List Cube → Type 0
IsNot n cubes out = DeniesEach (record { free = n; outer = 0; basic = []; parts = [] } ∷ []) cubes out

-- a cube of the list holds for some values of the last so many variables
abbrev pub IsExists : ℕ → List Cube → List Cube → Type 0
IsExists quantified cubes out = TakesSteps [] (map (opened quantified) cubes) out

-- the list of a basic alone, over n variables and those that are bound beside it
abbrev pub IsFirst : ℕ → ℕ → List Flat → List Cube → Type 0
IsFirst n bound basic out = TakesSteps [] (record { free = n + bound; outer = 0; basic = basic; parts = [] } ∷ []) out

-- a cube of the list so far and one of each of the lists hold
abbrev pub IsJoined : List Cube → List (List Cube) → List Cube → Type 0
IsJoined so_far [] out = out ≡ so_far
IsJoined so_far (list ∷ lists) out = (next : List Cube) × IsAnd so_far list next × IsJoined next lists out

-- no values of the bound variables, the last ones, make a cube of the list hold
abbrev pub IsClosed : ℕ → ℕ → List Cube → List Cube → Type 0
IsClosed n bound cubes out = (shut : List Cube) × IsExists bound cubes shut × IsNot n shut out

abbrev mutual
  -- the list that a negated conjunction comes to, from the inside out
  pub IsPlain : ℕ → Norm → List Cube → Type 0
  IsPlain n (norm bound basic parts) out =
      (first : List Cube) × (all : List Cube) × (lists : List (List Cube)) × IsFirst n bound basic first × PlainLists (n + bound) parts lists
      × IsJoined first lists all × IsClosed n bound all out

  -- those of its parts, in order
  pub PlainLists : ℕ → Norms → List (List Cube) → Type 0
  PlainLists n none lists = lists ≡ []
  PlainLists n (also part parts) lists =
      (list : List Cube) × (rest : List (List Cube)) × IsPlain n part list × PlainLists n parts rest × (lists ≡ list ∷ rest)
