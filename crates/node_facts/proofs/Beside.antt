-- A cube beside atoms.
use Rattle.std.proofs.Common.{ℕ, List, sym}
use Rattle.std.proofs.lemmas.List.Elements.{All-append}
use Rattle.classical.proofs.Stable.{◌>>=◌}
use Rattle.tree_model.specs.Signatures.{Signature}
use Rattle.tree_model.specs.Valuations.{Valuation}
use Rattle.flat_form.specs.declared.atom.Flat.{Flat}
use Rattle.flat_form.specs.declared.cube.Cube.{Cube}
use Rattle.flat_form.specs.Fitting.{AtomFits, BasicFits, CubeFits}
use Rattle.flat_form.specs.Meanings.{BasicHolds, Extends}
use Rattle.flat_form.specs.Numbering.{BasicOver}
use Rattle.flat_form.proofs.Stable.{basic_stable}
use Rattle.flat_facts.proofs.Follows.{over_below}
use Rattle.flat_facts.proofs.Lists.{both_hold, front_holds, later_holds}
use Rattle.cube_facts.proofs.Moved.{holds_again}
use Rattle.node_facts.specs.Nested.{beside}
use Rattle.node_facts.specs.KeepLaws.{BesideMeans}

module _ {σ : Signature} (n : ℕ) (atoms : List Flat) (e d : Valuation σ) (over : BasicOver n atoms) (like : Extends n e d) where
  -- atoms over n variables hold under what extends a valuation from there where they hold under it
  pub holds_on : BasicHolds e atoms → BasicHolds d atoms
  holds_on h = holds_again n atoms e d (over_below n atoms over) like h

  pub holds_back : BasicHolds d atoms → BasicHolds e atoms
  holds_back h = holds_again n atoms d e (over_below n atoms over) (λ v w path. sym (like v w path)) h

pub beside_means : BesideMeans
beside_means σ atoms cube e over = (
  (λ holds. (
    (basic_stable σ e atoms).holds (λ none. do
      (d, (like, h, fail)) ← holds
      none (holds_back cube.free atoms e d over like (front_holds d atoms cube.basic h))),
    λ none. do
      (d, (like, h, fail)) ← holds
      none (d, (like, later_holds d atoms cube.basic h, fail)),
  )),
  (λ both none. do
    (d, (like, h, fail)) ← both.1
    none (d, (like, both_hold d atoms cube.basic (holds_on cube.free atoms e d over like both.0) h, fail))),
)

pub beside_fits : (σ : Signature) (atoms : List Flat) (cube : Cube) → BasicFits σ atoms → CubeFits σ cube → CubeFits σ (beside atoms cube)
beside_fits σ atoms cube f g = record { basic = All-append (AtomFits σ) atoms cube.basic f g.basic; parts = g.parts }
