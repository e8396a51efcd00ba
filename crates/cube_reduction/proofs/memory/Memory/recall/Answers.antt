use Rattle.std.specs.Prelude.{Some, slice_get}
use Rattle.std.proofs.Common.{◌≡◌, List, sym, subst}
use Rattle.std.proofs.lemmas.Option.{slice_get_within, get_or_from_slice_get}
use Rattle.std.proofs.lemmas.List.Elements.{All-contains}
use Rattle.flat_form.specs.declared.atom.Flat.{Flat}
use Rattle.cube_reduction.specs.Remembered.{IsRight}
use Rattle.cube_reduction.proofs.Remembered.{recalled}
use Rattle.cube_reduction.proofs.memory.Memory.recall.Goals as goal

pub returns-then-is_same_part : goal.returns-then-is_same_part
returns-then-is_same_part c = λ base at.
    let known = c.get-known.result.now in
    let is : IsRight c.self.inside.bases known = All-contains (IsRight c.self.inside.bases) c.self.inside.known known c.self.invariant
    (_, slice_get_within c.self.inside.known _ known c.get-known.ensures, get_or_from_slice_get c.self.inside.known _ known known c.get-known.ensures) in
    recalled c.self.inside.bases known c.args.place c.args.count c.args.part.now is c.if-known-place.true c.if-known-count.true (c.is_same_part.ensures.0 c.if-is_same_part.true) base
    (subst (λ (z : List (List Flat)). slice_get z c.args.place ≡ Some base) (sym c.self.view_is) at)
