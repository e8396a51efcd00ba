-- What is remembered stays right when further cubes are kept.
use Rattle.std.specs.Prelude.{All, Option, Some, None, slice_get}
use Rattle.std.proofs.Common.{ℕ, ◌≡◌, List, [], ◌∷◌, ◌++◌, length, sym, ap, ◌∙◌, subst}
use Rattle.std.proofs.lemmas.List.Elements.{All-weaker, All-cons, All-nil, All-append, All-contains}
use Rattle.std.proofs.lemmas.Option.{slice_get_within, get_or_from_slice_get}
use Rattle.flat_form.specs.declared.cube.Cube.{Cube}
use Rattle.flat_form.specs.Raws.{joined}
use Rattle.flat_form.specs.Steps.{Outcome}
use Rattle.cube_reduction.proofs.Remembered.{same_item, in_front, at_end}
use Rattle.normal_form.specs.declared.memory.Join.{Join}
use Rattle.normal_form.specs.Remembered.{KeepsAll, ComesTo, IsRight}

one_more : (kept : List Cube) (cube : Cube) → KeepsAll kept (kept ++ cube ∷ [])
one_more kept cube place other stands = in_front kept (cube ∷ []) place other stands

comes_still : (old new : List Cube) (raw : Cube) (outcome : Option ℕ) → KeepsAll old new → ComesTo old raw outcome → ComesTo new raw outcome
comes_still old new raw None keeps comes = comes
comes_still old new raw (Some place) keeps (cube, stands, outcome) = (cube, keeps place cube stands, outcome)

right_still : (old new : List Cube) (join : Join) → KeepsAll old new → IsRight old join → IsRight new join
right_still old new join keeps (left, right, at_left, at_right, comes) =
    (left, right, keeps join.left left at_left, keeps join.right right at_right, comes_still old new (joined left right) join.outcome keeps comes)

all_right_still : (old new : List Cube) (joins : List Join) → KeepsAll old new → All (IsRight old) joins → All (IsRight new) joins
all_right_still old new joins keeps are = All-weaker (IsRight old) (IsRight new) (λ join is. right_still old new join keeps is) joins are

pub recalled : (kept : List Cube) (join : Join) (left right : ℕ) → IsRight kept join → join.left ≡ left → join.right ≡ right
    → (one other : Cube) → slice_get kept left ≡ Some one → slice_get kept right ≡ Some other → ComesTo kept (joined one other) join.outcome
recalled kept join left right (a, b, at_a, at_b, comes) is_left is_right one other at_one at_other =
    subst (λ (z : Cube). ComesTo kept (joined z other) join.outcome) (same_item at_a (ap (λ (i : ℕ). slice_get kept i) is_left ∙ at_one))
    (subst (λ (z : Cube). ComesTo kept (joined a z) join.outcome) (same_item at_b (ap (λ (i : ℕ). slice_get kept i) is_right ∙ at_other)) comes)

pub right_over : (cubes new : List Cube) (joins : List Join) → All (IsRight cubes) joins → new ≡ cubes → All (IsRight new) joins
right_over cubes new joins are same = subst (λ (z : List Cube). All (IsRight z) joins) (sym same) are

pub right_over_more : (cubes new : List Cube) (cube : Cube) (joins : List Join) → All (IsRight cubes) joins → new ≡ cubes ++ cube ∷ [] → All (IsRight new) joins
right_over_more cubes new cube joins are more =
    subst (λ (z : List Cube). All (IsRight z) joins) (sym more) (all_right_still cubes (cubes ++ cube ∷ []) joins (one_more cubes cube) are)

-- a list by another name, and one cube more
pub keeps_more : (now cubes new : List Cube) (cube : Cube) → cubes ≡ now → new ≡ cubes ++ cube ∷ [] → KeepsAll now new
keeps_more now cubes new cube same more place other stands =
    subst (λ (z : List Cube). slice_get z place ≡ Some other) (sym more) (in_front cubes (cube ∷ []) place other (subst (λ (z : List Cube). slice_get z place ≡ Some other) (sym same) stands))

pub last_stands : (cubes new : List Cube) (cube : Cube) (place : ℕ) → new ≡ cubes ++ cube ∷ [] → place ≡ length cubes → slice_get new place ≡ Some cube
last_stands cubes new cube place more at =
    subst (λ (z : List Cube). slice_get z place ≡ Some cube) (sym more) (subst (λ (k : ℕ). slice_get (cubes ++ cube ∷ []) k ≡ Some cube) (sym at) (at_end cubes cube))

pub still_right : (cubes : List Cube) (joins new : List Join) → All (IsRight cubes) joins → new ≡ joins → All (IsRight cubes) new
still_right cubes joins new are same = subst (λ (z : List Join). All (IsRight cubes) z) (sym same) are

pub one_right_more : (cubes : List Cube) (joins new : List Join) (join : Join) → All (IsRight cubes) joins → IsRight cubes join → new ≡ joins ++ join ∷ [] → All (IsRight cubes) new
one_right_more cubes joins new join are is more =
    subst (λ (z : List Join). All (IsRight cubes) z) (sym more) (All-append (IsRight cubes) joins (join ∷ []) are (All-cons (IsRight cubes) join [] is (All-nil (IsRight cubes))))

pub right_at : (cubes : List Cube) (joins : List Join) (i : ℕ) (join : Join) → All (IsRight cubes) joins → slice_get joins i ≡ Some join → IsRight cubes join
right_at cubes joins i join are at =
    All-contains (IsRight cubes) joins join are (i, slice_get_within joins i join at, get_or_from_slice_get joins i join join at)

-- A join of two cubes that are kept: what it comes to is kept, or it comes to none.
module _ (start mid : List Cube) (left right : ℕ) (one other raw : Cube) (found : Option Cube) (same : mid ≡ start) (at_left : slice_get start left ≡ Some one)
    (at_right : slice_get start right ≡ Some other) (is : raw ≡ joined one other) (outcome : Outcome raw found) where
  of_joined : (o : Option Cube) → found ≡ o → Outcome (joined one other) o
  of_joined o e = subst (λ (z : Option Cube). Outcome (joined one other) z) e (subst (λ (z : Cube). Outcome z found) is outcome)

  pub some_right : (new self : List Cube) (cube : Cube) (place : ℕ) (o : Option ℕ) → found ≡ Some cube → KeepsAll mid new → slice_get new place ≡ Some cube
      → self ≡ new → o ≡ Some place → IsRight self (record { left = left; right = right; outcome = o })
  some_right new self cube place o e keeps at now told =
      let keeps_start : KeepsAll start new = subst (λ (z : List Cube). KeepsAll z new) same keeps in
      subst (λ (z : List Cube). IsRight z (record { left = left; right = right; outcome = o })) (sym now)
      (subst (λ (p : Option ℕ). IsRight new (record { left = left; right = right; outcome = p })) (sym told)
      (one, other, keeps_start left one at_left, keeps_start right other at_right, (cube, at, of_joined (Some cube) e)))

  pub none_right : (self : List Cube) (o : Option ℕ) → found ≡ None → self ≡ mid → o ≡ None → IsRight self (record { left = left; right = right; outcome = o })
  none_right self o e now told =
      subst (λ (z : List Cube). IsRight z (record { left = left; right = right; outcome = o })) (sym (now ∙ same))
      (subst (λ (p : Option ℕ). IsRight start (record { left = left; right = right; outcome = p })) (sym told)
      (one, other, at_left, at_right, of_joined None e))

pub comes_some : (kept : List Cube) (raw cube : Cube) (o : Option ℕ) (place : ℕ) → ComesTo kept raw o → o ≡ Some place → slice_get kept place ≡ Some cube → Outcome raw (Some cube)
comes_some kept raw cube o place comes told at =
    let (own, stands, outcome) = subst (λ (p : Option ℕ). ComesTo kept raw p) told comes in
    subst (λ (z : Cube). Outcome raw (Some z)) (same_item stands at) outcome

pub comes_none : (kept : List Cube) (raw : Cube) (o : Option ℕ) → ComesTo kept raw o → o ≡ None → Outcome raw None
comes_none kept raw o comes told = subst (λ (p : Option ℕ). ComesTo kept raw p) told comes
