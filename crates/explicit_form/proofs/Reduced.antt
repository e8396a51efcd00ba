-- The formula of reduced cubes is explicit.
use Rattle.std.proofs.Common.{◌≡◌, ℕ, zero, suc, ◌+◌, ◌<◌, ◌≤◌, List, [], ◌∷◌, ◌++◌, length, get_or, map, refl, sym, subst, ◌∙◌, ◌⊎◌, inl, inr, arith}
use Rattle.std.specs.Prelude.{All, Contains, slice_index}
use Rattle.std.specs.List.{range_with_len}
use Rattle.std.proofs.lemmas.List.Elements.{All-head, All-tail, All-weaker, All-map, All-contains}
use Rattle.lists.specs.Distinct.{IsDistinct}
use Rattle.tree_model.specs.declared.tree.Symbol.{Symbol}
use Rattle.tree_facts.proofs.Equations.{within_or_past}
use Rattle.flat_form.specs.declared.atom.Flat.{Flat}
use Rattle.flat_form.specs.declared.atom.Flat.TheVariants.{VarVar, VarTerm, Finite}
use Rattle.flat_form.specs.declared.cube.Part.{Part}
use Rattle.flat_form.specs.declared.cube.Cube.{Cube}
use Rattle.flat_form.specs.FirstOccurrence.{IsArgument, IsNumbered}
use Rattle.flat_form.specs.Numbering.{AtomOver, BasicOver, PartOver, CubesOver}
use Rattle.flat_form.specs.Reduced.{IsReducedPart, IsReduced}
use Rattle.flat_form.specs.Solved.{variable_of, Ascends, IsOpen, HasTerm}
use Rattle.flat_form.proofs.Symbols.{each_of}
use Rattle.explicit_form.specs.Explicit.{denied_part, cube_form, explicit_of}
use Rattle.explicit_form.specs.Shape.{InScope, IsSmaller, SomeAtom, IsLeftOf, HaveSameTerm, Meets, IsPlaced, IsNew, AreApart, AllApart, IsExplicitPart, IsExplicitCube, IsExplicit, IsNotEmpty}
use Rattle.explicit_form.proofs.Pieces.{one_cube}
use Rattle.explicit_form.proofs.Ranges.{all_range, in_range, range_in, range_distinct, range_joined, rank_is}

-- ---- left sides

-- what is left of no equation
no_left : (atoms : List Flat) (u : ℕ) → IsOpen atoms u → ¬ SomeAtom (IsLeftOf u) atoms
no_left atoms u root (VarVar v r, there, is) = root.no_variable r (subst (λ (w : ℕ). Contains atoms (VarVar w r)) is there)
no_left atoms u root (VarTerm v s xs, there, is) = root.no_term s xs (subst (λ (w : ℕ). Contains atoms (VarTerm w s xs)) is there)
no_left atoms u root (Finite v, there, is) = absurd is

term_left : (atoms : List Flat) (u : ℕ) → HasTerm atoms u → SomeAtom (IsLeftOf u) atoms
term_left atoms u (s, xs, c) = (VarTerm u s xs, c, refl)

-- ---- atoms that are apart

-- no two equations have the same term
abbrev NoTwins : List Flat → Type 0
NoTwins atoms = (u v : ℕ) (symbol : Symbol) (xs : List ℕ) → Contains atoms (VarTerm u symbol xs) → Contains atoms (VarTerm v symbol xs) → u ≡ v

later : (atom : Flat) (atoms : List Flat) (other : Flat) → Contains atoms other → Contains (atom ∷ atoms) other
later atom atoms other c = (suc c.0, omega (arith, c.1), c.2)

first_apart : (atom : Flat) (atoms : List Flat) → ((other : Flat) → Contains atoms other → variable_of atom < variable_of other) → NoTwins (atom ∷ atoms) → All (AreApart atom) atoms
first_apart atom atoms before twins = each_of (AreApart atom) atoms (λ other c. ((λ same. absurd (omega (arith, before other c, same))), by atom other (before other c) c twins))
  where
    by : (atom other : Flat) → variable_of atom < variable_of other → Contains atoms other → NoTwins (atom ∷ atoms) → ¬ HaveSameTerm atom other
    by (VarVar u w) other less c twins same = same
    by (Finite u) other less c twins same = same
    by (VarTerm u s xs) (VarVar v w) less c twins same = same
    by (VarTerm u s xs) (Finite v) less c twins same = same
    by (VarTerm u s xs) (VarTerm v r ys) less c twins (is, are) =
        let twin : Contains atoms (VarTerm v s xs) = subst (λ (zs : List ℕ). Contains atoms (VarTerm v s zs)) (sym are) (subst (λ (q : Symbol). Contains atoms (VarTerm v q ys)) (sym is) c) in
        let one : u ≡ v = twins u v s xs (0, omega arith, refl) (later (VarTerm u s xs) atoms (VarTerm v s xs) twin) in
        absurd (omega (arith, less, one))

all_apart : (atoms : List Flat) → Ascends atoms → NoTwins atoms → AllApart atoms
all_apart [] ascends twins = tt
all_apart (atom ∷ rest) ascends twins = (
  first_apart atom rest ascends.0 twins,
  all_apart rest ascends.1 (λ u v s xs c d. twins u v s xs (later atom rest (VarTerm u s xs) c) (later atom rest (VarTerm v s xs) d)),
)

-- ---- blocks

index_in : (xs : List ℕ) (i v : ℕ) → i < length xs → slice_index xs i ≡ v → Contains xs v
index_in [] i v w is = absurd (omega arith)
index_in (x ∷ xs) zero v w is = (0, omega arith, is)
index_in (x ∷ xs) (suc i) v w is = let c = index_in xs i v (omega arith) is in (suc c.0, omega (arith, c.1), c.2)

-- the variables below free + all are in scope, and their ranks are their numbers
scope_is : (free all v : ℕ) → v < free + all → InScope free (range_with_len free all) v
scope_is free all v within = elim (within_or_past v free) [ inl less ↦ inl less | inr le ↦ inr (in_range free all v le within) ]

smaller_is : (free all u v : ℕ) → u < v → v < free + all → IsSmaller free (range_with_len free all) u v
smaller_is free all u v less within = omega (arith, rank_is free all u (omega arith), rank_is free all v within)

-- each numbered variable is met
hung : (free all first count : ℕ) (atoms : List Flat) → first + count ≡ free + all → IsNumbered first (first + count) atoms
    → All (λ x. SomeAtom (Meets free (range_with_len free all) x) atoms) (range_with_len first count)
hung free all first count atoms sizes numbered =
    all_range (λ x. SomeAtom (Meets free (range_with_len free all) x) atoms) first count (λ v le less. by v le less (numbered.hangs v le less))
  where
    by : (v : ℕ) → first ≤ v → v < first + count → (u : ℕ) × (i : ℕ) × ((u < first) ⊎ (u < v)) × IsArgument atoms u i v
        → SomeAtom (Meets free (range_with_len free all) v) atoms
    by v le less (u, i, smaller, argument) =
        let lower : u < v = elim smaller [ inl below ↦ omega arith | inr before ↦ before ] in (
          VarTerm u argument.symbol argument.xs,
          argument.stands,
          (index_in argument.xs i v argument.within argument.is, smaller_is free all u v lower (omega arith)),
        )

-- what the sides of the atoms need to be placed
abbrev Sides : ℕ → List Flat → ℕ → ℕ → Flat → Type 0
Sides all base first count atom = (u v : ℕ) → atom ≡ VarVar u v → ((v < u) ⊎ SomeAtom (IsLeftOf v) base) × (u < first)

placed_is : (free all first count : ℕ) (base : List Flat) (atom : Flat) → AtomOver (free + all) atom → Sides all base first count atom
    → IsPlaced free base (range_with_len free all) (range_with_len first count) atom
placed_is free all first count base (VarVar u v) over sides =
    let side = sides u v refl in (
      scope_is free all u over.0,
      scope_is free all v over.1,
      elim side.0 [ inl less ↦ inl (smaller_is free all v u less over.0) | inr left ↦ inr left ],
      λ c. absurd (omega (arith, (range_in first count u c).0, side.1)),
    )
placed_is free all first count base (VarTerm u s xs) over sides =
    (scope_is free all u over.0, All-weaker (λ v. v < free + all) (InScope free (range_with_len free all)) (scope_is free all) xs over.1)
placed_is free all first count base (Finite u) over sides = scope_is free all u over

-- ---- parts and cubes

no_items : {A B : Type 0} (f : A → B) (xs : List A) → map f xs ≡ [] → xs ≡ []
no_items f [] e = refl
no_items f (x ∷ xs) e = absurd (cc)

-- an atom of a reduced part is none of the basic
new_is : (m : ℕ) (basic : List Flat) (part : Part) → IsReducedPart m basic part → (atom : Flat) → Contains part.basic atom → IsNew basic atom
new_is m basic part reduced (VarVar u v) c = no_left basic u (reduced.left_open (VarVar u v) c)
new_is m basic part reduced (VarTerm u s xs) c = (
  no_left basic u (reduced.left_open (VarTerm u s xs) c),
  λ (atom, there, same). by atom there same,
)
  where
    by : (atom : Flat) → Contains basic atom → HaveSameTerm (VarTerm u s xs) atom → ⊥
    by (VarVar v w) there same = same
    by (Finite v) there same = same
    by (VarTerm v r ys) there (is, are) =
        (reduced.apart u v s xs c).0
        (subst (λ (zs : List ℕ). Contains basic (VarTerm v s zs)) (sym are) (subst (λ (q : Symbol). Contains basic (VarTerm v q ys)) (sym is) there))
new_is m basic part reduced (Finite u) c = reduced.unmarked u c

part_is : (free outer : ℕ) (basic : List Flat) (part : Part) → PartOver (free + outer) part → IsReducedPart (free + outer) basic part
    → IsExplicitPart free (range_with_len free outer) basic (denied_part (free + outer) part)
part_is free outer basic part over reduced =
    let all = outer + part.inner in
    let joined : range_with_len free outer ++ range_with_len (free + outer) part.inner ≡ range_with_len free all = range_joined free outer part.inner in
    let sizes : free + outer + part.inner ≡ free + all = omega arith in
    let basic_over : BasicOver (free + all) part.basic = subst (λ (n : ℕ). BasicOver n part.basic) sizes over in
    record {
      some_atom = reduced.some_atom;
      block = record {
        distinct = range_distinct (free + outer) part.inner;
        new_names = all_range (λ x. (free ≤ x) × (¬ Contains (range_with_len free outer) x)) (free + outer) part.inner
            (λ v le less. (omega arith, λ c. absurd (omega (arith, (range_in free outer v c).1))));
        placed = subst (λ (block : List ℕ). All (IsPlaced free basic block (range_with_len (free + outer) part.inner)) part.basic) (sym joined)
            (each_of (IsPlaced free basic (range_with_len free all) (range_with_len (free + outer) part.inner)) part.basic
            (λ atom c. placed_is free all (free + outer) part.inner basic atom (All-contains (AtomOver (free + all)) part.basic atom basic_over c)
            (λ u v is. sides u v (subst (Contains part.basic) is c))));
        new_atoms = each_of (IsNew basic) part.basic (new_is (free + outer) basic part reduced);
        all_apart = all_apart part.basic reduced.ascending (λ u v s xs c. (reduced.apart u v s xs c).1);
        met = subst (λ (block : List ℕ). All (λ x. SomeAtom (Meets free block x) part.basic) (range_with_len (free + outer) part.inner)) (sym joined)
            (hung free all (free + outer) part.inner part.basic sizes reduced.numbered);
      };
    }
  where
    sides : (u v : ℕ) → Contains part.basic (VarVar u v) → ((v < u) ⊎ SomeAtom (IsLeftOf v) basic) × (u < free + outer)
    sides u v c =
        let equal = reduced.equal u v c in
        (elim equal.1 [ inl less ↦ inl less | inr has ↦ inr (term_left basic v has) ], equal.0)

cube_is : (cube : Cube) → IsReduced cube → IsNotEmpty cube → IsExplicitCube cube.free (cube_form cube)
cube_is cube reduced some = record {
  outer = range_with_len cube.free cube.outer;
  basic = cube.basic;
  parts = map (denied_part (cube.free + cube.outer)) cube.parts;
  is = refl;
  some_item = λ none. some (none.0, no_items (denied_part (cube.free + cube.outer)) cube.parts none.1);
  block = record {
    distinct = range_distinct cube.free cube.outer;
    new_names = all_range (λ x. (cube.free ≤ x) × (¬ Contains [] x)) cube.free cube.outer (λ v le less. (le, λ c. absurd (omega (arith, c.1))));
    placed = each_of (IsPlaced cube.free [] (range_with_len cube.free cube.outer) (range_with_len cube.free cube.outer)) cube.basic
        (λ atom c. placed_is cube.free cube.outer cube.free cube.outer [] atom (All-contains (AtomOver (cube.free + cube.outer)) cube.basic atom reduced.well_numbered.basic c)
        (λ u v is. sides u v (subst (Contains cube.basic) is c)));
    new_atoms = each_of (IsNew []) cube.basic (λ atom c. nothing atom);
    all_apart = all_apart cube.basic reduced.solved.ascending reduced.solved.apart;
    met = hung cube.free cube.outer cube.free cube.outer cube.basic refl reduced.numbered;
  };
  each_part = All-map (IsExplicitPart cube.free (range_with_len cube.free cube.outer) cube.basic) (denied_part (cube.free + cube.outer)) cube.parts
      (λ k d w. part_is cube.free cube.outer cube.basic (get_or cube.parts k d) (reduced.well_numbered.parts k d w) (reduced.parts k d w));
}
  where
    none : (P : Flat → Type 0) → ¬ SomeAtom P []
    none P (atom, c, p) = absurd (omega (arith, c.1))

    nothing : (atom : Flat) → IsNew [] atom
    nothing (VarVar u v) = none (IsLeftOf u)
    nothing (VarTerm u s xs) = (none (IsLeftOf u), none (HaveSameTerm (VarTerm u s xs)))
    nothing (Finite u) = λ c. absurd (omega (arith, c.1))

    not_left : (x v : ℕ) → (u : ℕ) × (i : ℕ) × ((u < cube.free) ⊎ (u < x)) × IsArgument cube.basic u i x → ¬ Contains cube.basic (VarVar x v)
    not_left x v (u, i, smaller, argument) =
        subst (λ (y : ℕ). ¬ Contains cube.basic (VarVar y v)) argument.is (reduced.solved.plain u argument.symbol argument.xs argument.stands i argument.within v)

    sides : (u v : ℕ) → Contains cube.basic (VarVar u v) → ((v < u) ⊎ SomeAtom (IsLeftOf v) []) × (u < cube.free)
    sides u v c =
        let over : (u < cube.free + cube.outer) × (v < cube.free + cube.outer) = All-contains (AtomOver (cube.free + cube.outer)) cube.basic (VarVar u v) reduced.well_numbered.basic c in
        (inl (reduced.solved.direct u v c).0, elim (within_or_past u cube.free) [ inl less ↦ less | inr le ↦ absurd (not_left u v (reduced.numbered.hangs u le over.0) c) ])

-- ---- lists of cubes

-- a cube whose formula stands among those of cubes over as many free variables stands among these
form_among : (free : ℕ) (cube : Cube) (cubes : List Cube) → cube.free ≡ free → All (λ (cube : Cube). cube.free ≡ free) cubes
    → Contains (map cube_form cubes) (cube_form cube) → Contains cubes cube
form_among free cube [] same all c = absurd (omega (arith, c.1))
form_among free cube (it ∷ rest) same all (zero, w, is) =
    (0, omega arith, one_cube it cube (All-head (λ (cube : Cube). cube.free ≡ free) it rest all ∙ sym same) is)
form_among free cube (it ∷ rest) same all (suc i, w, is) =
    let c = form_among free cube rest same (All-tail (λ (cube : Cube). cube.free ≡ free) it rest all) (i, omega (arith, w), is) in (suc c.0, omega (arith, c.1), c.2)

forms_distinct : (free : ℕ) (cubes : List Cube) → All (λ (cube : Cube). cube.free ≡ free) cubes → IsDistinct cubes → IsDistinct (map cube_form cubes)
forms_distinct free [] all distinct = tt
forms_distinct free (cube ∷ rest) all distinct = (
  λ c. distinct.0 (form_among free cube rest (All-head (λ (cube : Cube). cube.free ≡ free) cube rest all) (All-tail (λ (cube : Cube). cube.free ≡ free) cube rest all) c),
  forms_distinct free rest (All-tail (λ (cube : Cube). cube.free ≡ free) cube rest all) distinct.1,
)

pub reduced_is_explicit : (free : ℕ) (cubes : List Cube) → ¬ (cubes ≡ []) → CubesOver free cubes → All IsReduced cubes → IsDistinct cubes → All IsNotEmpty cubes
    → IsExplicit free (explicit_of cubes)
reduced_is_explicit free cubes some over reduced distinct full = record {
  disjuncts = map cube_form cubes;
  is = refl;
  some_cube = λ none. some (no_items cube_form cubes none);
  distinct = forms_distinct free cubes (λ k d w. (over k d w).0) distinct;
  each = All-map (IsExplicitCube free) cube_form cubes (λ k d w. subst (λ (n : ℕ). IsExplicitCube n (cube_form (get_or cubes k d))) (over k d w).0
      (cube_is (get_or cubes k d) (reduced k d w) (full k d w)));
}
