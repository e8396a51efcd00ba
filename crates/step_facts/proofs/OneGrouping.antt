-- Ascending lists of numbers with the same members are one, and so is the grouping of a raw cube's variables.
use Rattle.std.specs.Prelude.{Contains, AllPairs, ◌↔◌}
use Rattle.std.specs.List.Sorted.{IsStrictlyIncreasing}
use Rattle.std.proofs.Common.{ℕ, suc, ◌≡◌, ◌+◌, ◌<◌, List, [], ◌∷◌, ◌++◌, map, length, refl, sym, ap, ◌∙◌, subst, arith, inl, inr}
use Rattle.std.proofs.lemmas.List.Kept.{AllPairs-from_increasing}
use Rattle.tree_facts.proofs.Members.{contains_first, contains_later, contains_cases}
use Rattle.flat_form.specs.declared.atom.Flat.{Flat}
use Rattle.flat_form.specs.declared.cube.Part.{Part}
use Rattle.flat_form.specs.declared.cube.Cube.{Cube}
use Rattle.flat_form.specs.Solved.{variable_of}
use Rattle.flat_form.specs.Parts.{renumbered}
use Rattle.flat_form.specs.Orders.{new_number, IsRenumbering}
use Rattle.flat_form.specs.Steps.{IsGrouped, IsOuter, IsSplit}
use Rattle.flat_facts.proofs.Shapes.{added_determined}
use Rattle.step_facts.proofs.NewNumbers.{pair_tail}
use Rattle.step_facts.specs.OneOutcome.{GroupedIsOne}
use Rattle.step_facts.proofs.OneNumbering.{one_renumbering}

-- each number is below all behind it
abbrev Rises : List ℕ → Type 0
Rises [] = Unit {0}
Rises (x ∷ xs) = ((y : ℕ) → Contains xs y → x < y) × Rises xs

rises : (xs : List ℕ) → AllPairs (λ (a : ℕ) (b : ℕ). a < b) xs → Rises xs
rises [] pairs = tt
rises (x ∷ xs) pairs = (
  λ y inside. let (k, low, is) = inside in subst (λ (z : ℕ). x < z) is (pairs 0 (suc k) y (omega arith) (omega arith)),
  rises xs (pair_tail x xs pairs),
)

one_rising : (xs ys : List ℕ) → Rises xs → Rises ys → ((v : ℕ) → Contains xs v → Contains ys v) → ((v : ℕ) → Contains ys v → Contains xs v) → xs ≡ ys
one_rising [] [] up on there back = refl
one_rising [] (y ∷ ys) up on there back = absurd (omega (arith, (back y (contains_first y ys)).1))
one_rising (x ∷ xs) [] up on there back = absurd (omega (arith, (there x (contains_first x xs)).1))
one_rising (x ∷ xs) (y ∷ ys) up on there back =
    let first : x ≡ y = elim (contains_cases y x ys (there x (contains_first x xs))) [
      | inl e ↦ sym e
      | inr l ↦ elim (contains_cases x y xs (back y (contains_first y ys))) [
        | inl e ↦ e
        | inr k ↦ absurd (omega (arith, on.0 x l, up.0 y k))
      ]
    ] in
    let rest : xs ≡ ys = one_rising xs ys up.1 on.1
    (λ a i. elim (contains_cases y a ys (there a (contains_later x a xs i))) [
      | inl e ↦ absurd (omega (arith, up.0 a i, first, e))
      | inr k ↦ k
    ])
    (λ a i. elim (contains_cases x a xs (back a (contains_later y a ys i))) [
      | inl e ↦ absurd (omega (arith, on.0 a i, first, e))
      | inr k ↦ k
    ]) in
    ap (λ z. z ∷ xs) first ∙ ap (λ z. y ∷ z) rest

-- increasing lists with the same members are one list
pub one_increasing : (xs ys : List ℕ) → IsStrictlyIncreasing xs → IsStrictlyIncreasing ys → ((v : ℕ) → Contains xs v → Contains ys v)
    → ((v : ℕ) → Contains ys v → Contains xs v) → xs ≡ ys
one_increasing xs ys up on there back = one_rising xs ys (rises xs (AllPairs-from_increasing xs up)) (rises ys (AllPairs-from_increasing ys on)) there back

pub same_cube : (one other : Cube) → one.free ≡ other.free → one.outer ≡ other.outer → one.basic ≡ other.basic → one.parts ≡ other.parts → one ≡ other
same_cube one other p q r s =
    ap (λ (n : ℕ). let it : Cube = record { free = n; outer = one.outer; basic = one.basic; parts = one.parts } in it) p
    ∙ (ap (λ (n : ℕ). let it : Cube = record { free = other.free; outer = n; basic = one.basic; parts = one.parts } in it) q
    ∙ (ap (λ (b : List Flat). let it : Cube = record { free = other.free; outer = other.outer; basic = b; parts = one.parts } in it) r
    ∙ ap (λ (ps : List Part). let it : Cube = record { free = other.free; outer = other.outer; basic = other.basic; parts = ps } in it) s))

-- the grouping that these lists determine
record Groups (raw : Cube) (form : List Flat) (determined kept idle_before : List ℕ) (mid : Cube) (idle : List ℕ) : Type 0 where
  moved : List Flat
  free_is : mid.free ≡ raw.free
  outer_is : mid.outer ≡ length kept
  idle_are : idle ≡ map (new_number raw.free (raw.free + raw.outer) (kept ++ determined)) idle_before
  rest_is : IsRenumbering (new_number raw.free (raw.free + raw.outer) (kept ++ determined)) (λ atom. ¬ Contains determined (variable_of atom)) form mid.basic
  moved_is : IsRenumbering (new_number raw.free (raw.free + raw.outer) (kept ++ determined)) (λ atom. Contains determined (variable_of atom)) form moved
  parts_are : mid.parts ≡ map (λ (part : Part). record {
    inner = length determined + part.inner;
    basic = moved ++ map (renumbered (new_number raw.free (raw.free + raw.outer) (kept ++ determined))) part.basic;
  }) raw.parts

groups : (raw mid : Cube) (idle : List ℕ) (g : IsGrouped raw mid idle) → Groups raw g.form g.determined g.kept g.idle_before mid idle
groups raw mid idle g = record {
  moved = g.moved;
  free_is = g.free_is;
  outer_is = g.outer_is;
  idle_are = g.idle_are;
  rest_is = g.rest_is;
  moved_is = g.moved_is;
  parts_are = g.parts_are;
}

one_group : (raw : Cube) (form : List Flat) (determined kept idle_before : List ℕ) (one other : Cube) (idle also_idle : List ℕ)
    → Groups raw form determined kept idle_before one idle → Groups raw form determined kept idle_before other also_idle → (one ≡ other) × (idle ≡ also_idle)
one_group raw form determined kept idle_before one other idle also_idle a b =
    let f : ℕ → ℕ = new_number raw.free (raw.free + raw.outer) (kept ++ determined) in
    let moved : a.moved ≡ b.moved = one_renumbering f (λ atom. Contains determined (variable_of atom)) form a.moved b.moved a.moved_is b.moved_is in (
      same_cube one other (a.free_is ∙ sym b.free_is) (a.outer_is ∙ sym b.outer_is)
          (one_renumbering f (λ atom. ¬ Contains determined (variable_of atom)) form one.basic other.basic a.rest_is b.rest_is)
          (a.parts_are ∙ (ap (λ (atoms : List Flat). map (λ (part : Part). let it : Part = record {
            inner = length determined + part.inner;
            basic = atoms ++ map (renumbered f) part.basic;
          } in it) raw.parts) moved ∙ sym b.parts_are)),
      a.idle_are ∙ sym b.idle_are,
    )

pub grouped_is_one : GroupedIsOne
grouped_is_one raw one other idle also_idle a b =
    let form : a.form ≡ b.form = added_determined [] raw.basic a.form b.form a.solved b.solved in
    let a_split = subst (λ (atoms : List Flat). IsSplit raw.free raw.outer atoms a.needed a.idle_before a.determined) form a.split in
    let determined : a.determined ≡ b.determined = one_increasing a.determined b.determined a_split.determined_ascending b.split.determined_ascending
    (λ v i. (b.split.determined_is v).1 ((a_split.determined_is v).0 i)) (λ v i. (a_split.determined_is v).1 ((b.split.determined_is v).0 i)) in
    let idle_before : a.idle_before ≡ b.idle_before = one_increasing a.idle_before b.idle_before a_split.idle_ascending b.split.idle_ascending
    (λ v i. (b.split.idle_is v).1 ((a_split.idle_is v).0 i)) (λ v i. (a_split.idle_is v).1 ((b.split.idle_is v).0 i)) in
    let a_kept_is : (v : ℕ) → Contains a.kept v ↔ (IsOuter raw.free raw.outer v × (¬ Contains b.determined v)) =
    subst (λ (xs : List ℕ). (v : ℕ) → Contains a.kept v ↔ (IsOuter raw.free raw.outer v × (¬ Contains xs v))) determined a.kept_is in
    let kept : a.kept ≡ b.kept = one_increasing a.kept b.kept a.kept_ascending b.kept_ascending
    (λ v i. (b.kept_is v).1 ((a_kept_is v).0 i)) (λ v i. (a_kept_is v).1 ((b.kept_is v).0 i)) in
    one_group raw b.form b.determined b.kept b.idle_before one other idle also_idle
    (subst (λ (xs : List ℕ). Groups raw b.form b.determined b.kept xs one idle) idle_before
    (subst (λ (xs : List ℕ). Groups raw b.form b.determined xs a.idle_before one idle) kept
    (subst (λ (xs : List ℕ). Groups raw b.form xs a.kept a.idle_before one idle) determined
    (subst (λ (atoms : List Flat). Groups raw atoms a.determined a.kept a.idle_before one idle) form (groups raw one idle a)))))
    (groups raw other also_idle b)
