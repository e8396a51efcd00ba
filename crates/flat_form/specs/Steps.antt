-- The steps that reduce a raw cube, each as a relation, and what they may come to.
--
-- First the basic is solved. Second, the outer variables are split, and equations of determined ones move into the parts.
-- Third, the parts are settled. Fourth, a part that adds nothing ends the work. Fifth and sixth, idle variables go, with
-- the parts that mention them. Seventh, variables are numbered by first occurrence, and the parts settled again.
use Rattle.std.specs.Prelude.{◌≡◌, ℕ, ◌+◌, ◌<◌, ◌≤◌, List, [], ◌∷◌, ◌++◌, map, length, slice_index, Contains, ◌↔◌, Option, Some, None}
use Rattle.std.specs.List.Sorted.{IsStrictlyIncreasing}
use Rattle.tree_model.specs.declared.tree.Symbol.{Symbol}
use Rattle.flat_form.specs.declared.atom.Flat.{Flat}
use Rattle.flat_form.specs.declared.atom.Flat.TheVariants.{VarVar, VarTerm}
use Rattle.flat_form.specs.declared.cube.Part.{Part}
use Rattle.flat_form.specs.declared.cube.Cube.{Cube}
use Rattle.flat_form.specs.Solved.{variable_of, IsOpen}
use Rattle.flat_form.specs.Added.{IsAdded, IsSolvedForm}
use Rattle.flat_form.specs.Meanings.{HasNone}
use Rattle.flat_form.specs.Parts.{variables_of, IsPruned, renumbered}
use Rattle.lists.specs.Distinct.{IsDistinct}
use Rattle.flat_form.specs.FirstOccurrence.{IsNumbered}
use Rattle.flat_form.specs.Orders.{new_number, renumbered_part, IsRenumbering}

-- the free variables reach v along equations, from left to right
pub data FreeReaches (free : ℕ) (form : List Flat) : ℕ → Type 0 where
  start : {v : ℕ} → v < free → FreeReaches free form v
  argument : {u : ℕ} (symbol : Symbol) (xs : List ℕ) → FreeReaches free form u → Contains form (VarTerm u symbol xs) → (i : ℕ) → i < length xs
      → FreeReaches free form (slice_index xs i)
  equal : {u r : ℕ} → FreeReaches free form u → Contains form (VarVar u r) → FreeReaches free form r

-- v is an outer variable
abbrev pub IsOuter : ℕ → ℕ → ℕ → Type 0
IsOuter free outer v = (free ≤ v) × (v < free + outer)

-- The outer variables in three ascending lists: needed ones, which the free ones reach; of the others the determined
-- ones, which are left of an equation, and the idle ones.
pub record IsSplit (free outer : ℕ) (form : List Flat) (needed idle determined : List ℕ) : Type 0 where
  pub needed_ascending : IsStrictlyIncreasing needed
  pub idle_ascending : IsStrictlyIncreasing idle
  pub determined_ascending : IsStrictlyIncreasing determined
  pub needed_is : (v : ℕ) → Contains needed v ↔ (IsOuter free outer v × FreeReaches free form v)
  pub idle_is : (v : ℕ) → Contains idle v ↔ (IsOuter free outer v × (¬ FreeReaches free form v) × IsOpen form v)
  pub determined_is : (v : ℕ) → Contains determined v ↔ (IsOuter free outer v × (¬ FreeReaches free form v) × (¬ IsOpen form v))

-- Steps 1 and 2: the basic is solved, and the determined variables go into each part, with their equations. The kept
-- ones come first, in their order, and then the determined ones.
pub record IsGrouped (raw mid : Cube) (idle : List ℕ) : Type 0 where
  pub form : List Flat
  pub needed : List ℕ
  pub idle_before : List ℕ
  pub determined : List ℕ
  pub kept : List ℕ
  pub moved : List Flat
  pub solved : IsSolvedForm raw.basic form
  pub split : IsSplit raw.free raw.outer form needed idle_before determined
  pub kept_ascending : IsStrictlyIncreasing kept
  pub kept_is : (v : ℕ) → Contains kept v ↔ (IsOuter raw.free raw.outer v × (¬ Contains determined v))
  pub free_is : mid.free ≡ raw.free
  pub outer_is : mid.outer ≡ length kept
  pub idle_are : idle ≡ map (new_number raw.free (raw.free + raw.outer) (kept ++ determined)) idle_before
  pub rest_is : IsRenumbering (new_number raw.free (raw.free + raw.outer) (kept ++ determined)) (λ atom. ¬ Contains determined (variable_of atom)) form mid.basic
  pub moved_is : IsRenumbering (new_number raw.free (raw.free + raw.outer) (kept ++ determined)) (λ atom. Contains determined (variable_of atom)) form moved
  pub parts_are : mid.parts ≡ map (λ (part : Part). record {
    inner = length determined + part.inner;
    basic = moved ++ map (renumbered (new_number raw.free (raw.free + raw.outer) (kept ++ determined))) part.basic;
  }) raw.parts

-- the part becomes what it adds to the base, without what the first m variables do not reach
pub record SettlesTo (m : ℕ) (base : List Flat) (part new : Part) : Type 0 where
  pub added : List Flat
  pub is_added : IsAdded base (base ++ part.basic) added
  pub inner_is : new.inner ≡ part.inner
  pub is_pruned : IsPruned m added new.basic

-- Steps 3 and 7: each part is settled, and one that cannot hold beside the base goes.
pub data Settles (m : ℕ) (base : List Flat) : List Part → List Part → Type 0 where
  all_done : Settles m base [] []
  dropped : (part : Part) (old new : List Part) → HasNone (base ++ part.basic) → Settles m base old new → Settles m base (part ∷ old) new
  settled : (part new_part : Part) (old new : List Part) → SettlesTo m base part new_part → Settles m base old new
      → Settles m base (part ∷ old) (new_part ∷ new)

-- Step 4: the part adds nothing, so that it holds wherever the base does
abbrev pub IsImplied : ℕ → List Flat → Part → Type 0
IsImplied m base part = (added : List Flat) × IsAdded base (base ++ part.basic) added × IsPruned m added []

-- v stands in the part
abbrev pub Mentions : Part → ℕ → Type 0
Mentions part v = (atom : Flat) × Contains part.basic atom × Contains (variables_of atom) v

-- Steps 5 and 6: the parts in which no idle variable stands
pub data WithoutIdle (idle : List ℕ) : List Part → List Part → Type 0 where
  all_done : WithoutIdle idle [] []
  dropped : (part : Part) (v : ℕ) (old new : List Part) → Contains idle v → Mentions part v → WithoutIdle idle old new → WithoutIdle idle (part ∷ old) new
  stays : (part : Part) (old new : List Part) → ((v : ℕ) → Contains idle v → ¬ Mentions part v) → WithoutIdle idle old new
      → WithoutIdle idle (part ∷ old) (part ∷ new)

-- the part with its inner variables, those from m on that stand in it, numbered by first occurrence
pub record NumbersInner (m : ℕ) (part new : Part) : Type 0 where
  pub order : List ℕ
  pub order_distinct : IsDistinct order
  pub order_is : (v : ℕ) → Contains order v ↔ ((m ≤ v) × Mentions part v)
  pub inner_is : new.inner ≡ length order
  pub basic_is : IsRenumbering (new_number m (m + part.inner) order) (λ atom. Unit {0}) part.basic new.basic
  pub numbered : IsNumbered m (m + new.inner) new.basic

-- each part with its inner variables numbered anew, unless it then equals one of those so far
pub data Finishes (m : ℕ) : List Part → List Part → List Part → Type 0 where
  all_done : (done : List Part) → Finishes m done [] done
  twice : (done : List Part) (part new : Part) (rest out : List Part) → NumbersInner m part new → Contains done new → Finishes m done rest out
      → Finishes m done (part ∷ rest) out
  new : (done : List Part) (part new : Part) (rest out : List Part) → NumbersInner m part new → ¬ Contains done new → Finishes m (done ++ new ∷ []) rest out
      → Finishes m done (part ∷ rest) out

-- Steps 5 to 7: the idle variables go, with what stands at them and the parts that mention them; the others are
-- numbered by first occurrence, and the parts are settled again.
pub record IsCleared (mid : Cube) (idle : List ℕ) (first : List Part) (cube : Cube) : Type 0 where
  pub busy : List Part
  pub order : List ℕ
  pub second : List Part
  pub busy_is : WithoutIdle idle first busy
  pub order_distinct : IsDistinct order
  pub order_is : (v : ℕ) → Contains order v ↔ (IsOuter mid.free mid.outer v × (¬ Contains idle v))
  pub free_is : cube.free ≡ mid.free
  pub outer_is : cube.outer ≡ length order
  pub basic_is : IsRenumbering (new_number mid.free (mid.free + mid.outer) (order ++ idle)) (λ atom. ¬ Contains idle (variable_of atom)) mid.basic cube.basic
  pub numbered : IsNumbered cube.free (cube.free + cube.outer) cube.basic
  pub second_is : Settles (cube.free + cube.outer) cube.basic
      (map (renumbered_part (new_number mid.free (mid.free + mid.outer) (order ++ idle)) (length idle)) busy) second
  pub parts_are : Finishes (cube.free + cube.outer) [] second cube.parts

-- What the steps come to: nothing, where the basic has no solution or a part is implied; else a cube.
pub data Outcome (raw : Cube) : Option Cube → Type 0 where
  unsolvable : HasNone raw.basic → Outcome raw None
  implied : (mid : Cube) (idle : List ℕ) (part : Part) → IsGrouped raw mid idle → Contains mid.parts part
      → IsImplied (mid.free + mid.outer) mid.basic part → Outcome raw None
  cleared : (mid : Cube) (idle : List ℕ) (first : List Part) (cube : Cube) → IsGrouped raw mid idle
      → Settles (mid.free + mid.outer) mid.basic mid.parts first → ((part : Part) → Contains first part → ¬ (part.basic ≡ []))
      → IsCleared mid idle first cube → Outcome raw (Some cube)
