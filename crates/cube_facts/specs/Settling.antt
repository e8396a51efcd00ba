-- Laws of settled parts, of idle variables and of equations that move into parts.
use Rattle.std.specs.Prelude.{◌≡◌, ℕ, ◌+◌, ◌<◌, List, [], ◌++◌, map, Contains, All, ◌↔◌, ◌⊎◌}
use Rattle.tree_model.specs.declared.tree.Symbol.{Symbol}
use Rattle.tree_model.specs.Signatures.{Signature}
use Rattle.tree_model.specs.Valuations.{Valuation}
use Rattle.flat_form.specs.declared.atom.Flat.{Flat}
use Rattle.flat_form.specs.declared.atom.Flat.TheVariants.{VarVar, VarTerm, Finite}
use Rattle.flat_form.specs.declared.cube.Part.{Part}
use Rattle.flat_form.specs.declared.cube.Cube.{Cube}
use Rattle.flat_form.specs.Added.{IsAdded}
use Rattle.flat_form.specs.Fitting.{BasicFits}
use Rattle.flat_form.specs.Meanings.{BasicHolds, AllFail, CubeHolds}
use Rattle.flat_form.specs.Numbering.{BasicOver, PartOver}
use Rattle.flat_form.specs.Parts.{variables_of, AllBelow, IsPruned, IsPartOver}
use Rattle.flat_form.specs.Solved.{variable_of, Ascends, IsOpen, HasTerm, IsSolved}
use Rattle.flat_form.specs.Steps.{IsOuter, Settles, WithoutIdle}
use Rattle.flat_facts.specs.PartLaws.{Determines}

-- where the base holds, settled parts all fail exactly where the parts do
abbrev pub SettledFails : Type 0
SettledFails =
    (σ : Signature) (m : ℕ) (base : List Flat) (old new : List Part) (e : Valuation σ) → IsSolved base → BasicOver m base
    → BasicFits σ base → All (λ (part : Part). BasicFits σ part.basic) old → Settles m base old new
    → BasicHolds e base → AllFail m e old ↔ AllFail m e new

-- what a settled part is like
pub record HasSettledShape (m : ℕ) (base : List Flat) (part : Part) : Type 0 where
  pub over : PartOver m part
  pub ascending : Ascends part.basic
  pub shape : IsPartOver m base part.basic
  pub left_open : (atom : Flat) → Contains part.basic atom → IsOpen base (variable_of atom)
  pub equal : (u h : ℕ) → Contains part.basic (VarVar u h) → ((h < u) ⊎ HasTerm base h) × ((w : ℕ) → ¬ Contains part.basic (VarVar h w))
  pub apart : (u v : ℕ) (symbol : Symbol) (xs : List ℕ) → Contains part.basic (VarTerm u symbol xs)
      → (¬ Contains base (VarTerm v symbol xs)) × (Contains part.basic (VarTerm v symbol xs) → u ≡ v)

-- settled parts are so
abbrev pub SettledShape : Type 0
SettledShape =
    (m : ℕ) (base : List Flat) (old new : List Part) → IsSolved base → BasicOver m base → All (PartOver m) old → Settles m base old new
    → All (HasSettledShape m base) new

-- something is left of a part that has the shape of one, and an atom
abbrev pub SomethingIsLeft : Type 0
SomethingIsLeft =
    (σ : Signature) (m : ℕ) (base : List Flat) (part : Part) (added pruned : List Flat) → IsSolved base → BasicOver m base
    → BasicFits σ base → BasicFits σ part.basic → IsPartOver m base part.basic → ¬ (part.basic ≡ [])
    → IsAdded base (base ++ part.basic) added → IsPruned m added pruned → ¬ (pruned ≡ [])

-- Idle variables, which are outer ones that stand in finite atoms alone, may go with these, and with the parts that
-- mention them.
abbrev pub IdleMayGo : Type 0
IdleMayGo =
    (σ : Signature) (mid : Cube) (idle : List ℕ) (rest : List Flat) (busy : List Part) (e : Valuation σ) → IsSolved mid.basic
    → All (λ (part : Part). IsPartOver (mid.free + mid.outer) mid.basic part.basic) mid.parts
    → ((v : ℕ) → Contains idle v → IsOuter mid.free mid.outer v × ((atom : Flat) → Contains mid.basic atom → Contains (variables_of atom) v → atom ≡ Finite v))
    → WithoutIdle idle mid.parts busy
    → ((atom : Flat) → Contains rest atom ↔ (Contains mid.basic atom × (¬ Contains idle (variable_of atom))))
    → CubeHolds e mid ↔ CubeHolds e (record { free = mid.free; outer = mid.outer; basic = rest; parts = busy })

-- the part with these equations besides, and so many more inner variables
abbrev pub with_moved : ℕ → List Flat → Part → Part
with_moved count moved part = record { inner = count + part.inner; basic = moved ++ part.basic }

-- equations that determine the last outer variables, which stand in no other atom of the basic, may move into each part
abbrev pub MovedMeans : Type 0
MovedMeans =
    (σ : Signature) (free kept count : ℕ) (rest moved : List Flat) (parts : List Part) (e : Valuation σ) → AllBelow (free + kept) rest
    → Determines (free + kept) (free + kept + count) moved → BasicFits σ moved
    → CubeHolds e (record { free = free; outer = kept + count; basic = rest ++ moved; parts = parts })
    ↔ CubeHolds e (record { free = free; outer = kept; basic = rest; parts = map (with_moved count moved) parts })
