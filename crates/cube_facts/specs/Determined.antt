-- Which variables the values of others determine.
use Rattle.std.specs.Prelude.{ℕ, ◌<◌, List}
use Rattle.tree_model.specs.Signatures.{Signature, Alike}
use Rattle.tree_model.specs.Valuations.{Valuation}
use Rattle.flat_form.specs.declared.atom.Flat.{Flat}
use Rattle.flat_form.specs.Meanings.{BasicHolds}
use Rattle.flat_form.specs.FirstOccurrence.{IsNumbered}
use Rattle.flat_form.specs.Parts.{Under}

-- what the first k variables reach along terms has the same values in two solutions where these have
abbrev pub UnderIsDetermined : Type 0
UnderIsDetermined =
    (σ : Signature) (k : ℕ) (basic : List Flat) (d e : Valuation σ) (v : ℕ) → BasicHolds d basic → BasicHolds e basic
    → ((u : ℕ) → u < k → Alike (d u) (e u)) → Under k basic v → Alike (d v) (e v)

-- variables that are numbered by first occurrence are reached along terms
abbrev pub NumberedIsUnder : Type 0
NumberedIsUnder = (k m : ℕ) (basic : List Flat) → IsNumbered k m basic → (v : ℕ) → v < m → Under k basic v

-- in a basic that is numbered by first occurrence the values of the first k variables determine those below m
abbrev pub OuterIsDetermined : Type 0
OuterIsDetermined =
    (σ : Signature) (k m : ℕ) (basic : List Flat) (d e : Valuation σ) → IsNumbered k m basic → BasicHolds d basic → BasicHolds e basic
    → ((v : ℕ) → v < k → Alike (d v) (e v)) → (v : ℕ) → v < m → Alike (d v) (e v)
