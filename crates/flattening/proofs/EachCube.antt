-- The cubes of an entry, one after another.
use Rattle.std.proofs.Common.{ℕ, ◌≡◌, ◌+◌, ◌≤◌, List, [], ◌∷◌, ◌++◌, length, map, take, drop, drop-cons, add-one, refl, sym, ◌∙◌, arith}
use Rattle.std.proofs.Math.Seq.{drop-length}
use Rattle.std.specs.Prelude.{slice_get, Some}
use Rattle.std.proofs.lemmas.List.{map-append}
use Rattle.std.proofs.lemmas.Option.{slice_get_within, get_or_from_slice_get}
use Rattle.formula_ast.proofs.Lists.{take_more_got}
use Rattle.flat_form.specs.declared.atom.Flat.{Flat}
use Rattle.flat_form.specs.declared.cube.Part.{Part}
use Rattle.flat_form.specs.declared.cube.Cube.{Cube}
use Rattle.flat_form.specs.Normals.{Norm, Norms, norm, none, also, join}
use Rattle.flattening.proofs.Norms.{join_none, join_join}
use Rattle.flat_form.specs.Parts.{renumbered}
use Rattle.flattening.specs.Flattening.{denied_parts, denied, all_denied}

pub rest_at : {A : Type 0} (xs : List A) (i : ℕ) (x : A) → slice_get xs i ≡ Some x → drop i xs ≡ x ∷ drop (i + 1) xs
rest_at xs i x there = rw (add-one, drop-cons xs i x (slice_get_within xs i x there), get_or_from_slice_get xs i x x there) refl

pub map_more : {A B : Type 0} (f : A → B) (xs : List A) (i : ℕ) (x : A) (y : B) (made new : List B) → slice_get xs i ≡ Some x → made ≡ map f (take i xs) → y ≡ f x
    → new ≡ made ++ y ∷ [] → new ≡ map f (take (i + 1) xs)
map_more f xs i x y made new there was is more = rw (take_more_got xs i x there, map-append, more, was, is) refl

pub denied_part_more : (f : ℕ → ℕ) (parts : List Part) (i : ℕ) (part : Part) (item : Norm) (made new all : Norms) → slice_get parts i ≡ Some part
    → join made (denied_parts f (drop i parts)) ≡ all → item ≡ norm part.inner (map (renumbered f) part.basic) none → new ≡ join made (also item none)
    → join new (denied_parts f (drop (i + 1) parts)) ≡ all
denied_part_more f parts i part item made new all there was is more = rw (more, is, join_join) (rw (rest_at parts i part there) at was)

pub denied_more : (args : List ℕ) (scope : ℕ) (cubes : List Cube) (i : ℕ) (cube : Cube) (item : Norm) (made new all : Norms) → slice_get cubes i ≡ Some cube
    → join made (all_denied args scope (drop i cubes)) ≡ all → item ≡ denied args scope cube → new ≡ join made (also item none)
    → join new (all_denied args scope (drop (i + 1) cubes)) ≡ all
denied_more args scope cubes i cube item made new all there was is more = rw (more, is, join_join) (rw (rest_at cubes i cube there) at was)

pub all_gone : {A : Type 0} (xs : List A) (i n : ℕ) → n ≡ length xs → i ≤ n → n ≤ i → drop i xs ≡ []
all_gone xs i n e a b = let at_end : i ≡ length xs = omega (arith, e) in rw at_end (drop-length xs)

pub parts_done : (f : ℕ → ℕ) (parts : List Part) (i n : ℕ) (made : Norms) → n ≡ length parts → i ≤ n → n ≤ i
    → join made (denied_parts f (drop i parts)) ≡ denied_parts f parts → made ≡ denied_parts f parts
parts_done f parts i n made e a b was = sym (join_none made) ∙ rw (all_gone parts i n e a b) at was

pub cubes_done : (args : List ℕ) (scope : ℕ) (cubes : List Cube) (i n : ℕ) (made : Norms) → n ≡ length cubes → i ≤ n → n ≤ i
    → join made (all_denied args scope (drop i cubes)) ≡ all_denied args scope cubes → made ≡ all_denied args scope cubes
cubes_done args scope cubes i n made e a b was = sym (join_none made) ∙ rw (all_gone cubes i n e a b) at was

pub made_alone : (bound : ℕ) (basic atoms : List Flat) (parts : Norms) → basic ≡ atoms → parts ≡ none → norm bound basic parts ≡ norm bound atoms none
made_alone bound basic atoms parts e p = rw (e, p) refl
