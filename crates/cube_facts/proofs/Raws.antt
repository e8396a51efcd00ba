-- Raw cubes made of others are well numbered and fit.
use Rattle.std.specs.Prelude.{Contains, All}
use Rattle.std.proofs.Common.{ℕ, ◌≡◌, ◌+◌, ◌-◌, ◌<◌, ◌≤◌, List, [], ◌∷◌, ◌++◌, map, refl, subst, arith, inl, inr}
use Rattle.std.proofs.lemmas.List.{length-map}
use Rattle.std.proofs.lemmas.List.Elements.{All-append, All-contains, Contains-append_cases, Contains-append_left, Contains-append_right}
use Rattle.tree_model.specs.declared.tree.Symbol.{Symbol}
use Rattle.tree_model.specs.Signatures.{IsRoot}
use Rattle.tree_facts.proofs.Members.{contains_cases}
use Rattle.tree_facts.proofs.Renumbering.{contains_image}
use Rattle.flat_form.specs.declared.atom.Flat.{Flat}
use Rattle.flat_form.specs.declared.atom.Flat.TheVariants.{VarVar, VarTerm, Finite}
use Rattle.flat_form.specs.declared.cube.Part.{Part}
use Rattle.flat_form.specs.declared.cube.Cube.{Cube}
use Rattle.flat_form.specs.Numbering.{AtomOver, BasicOver, PartOver, IsWellNumbered, CubesOver}
use Rattle.flat_form.specs.Fitting.{CubeFits}
use Rattle.flat_form.specs.Parts.{renumbered}
use Rattle.flat_form.specs.Orders.{renumbered_part}
use Rattle.flat_form.specs.Symbols.{cube_symbols, cubes_symbols}
use Rattle.flat_form.specs.Raws.{raised, joined, opened, denied}
use Rattle.flat_form.proofs.Symbols.{Fit, PartsFit, IsFit, each_of, cube_fit, cube_fits, flat_from, all_of_cube, cube_of_all}
use Rattle.flat_facts.proofs.Renumbered.{split}
use Rattle.cube_facts.specs.Raws.{RawsAreWellNumbered, RawsFit, RawsHaveSymbols}
use Rattle.cube_facts.proofs.Fits.{both_fit, map_fits, none_fit, moved_parts_fit}
use Rattle.cube_facts.proofs.Raised.{raised_low, raised_high}

all_below_wider : (n k : ℕ) → n ≤ k → (xs : List ℕ) → All (λ v. v < n) xs → All (λ v. v < k) xs
all_below_wider n k le xs all = each_of (λ v. v < k) xs (λ v i. let low : v < n = All-contains (λ v. v < n) xs v all i in omega (arith, low, le))

atom_wider : (n k : ℕ) → n ≤ k → (a : Flat) → AtomOver n a → AtomOver k a
atom_wider n k le (VarVar u v) over = (omega (arith, over.0), omega (arith, over.1))
atom_wider n k le (VarTerm u s xs) over = (omega (arith, over.0), all_below_wider n k le xs over.1, over.2)
atom_wider n k le (Finite u) over = omega (arith, over)

pub basic_wider : (n k : ℕ) → n ≤ k → (atoms : List Flat) → BasicOver n atoms → BasicOver k atoms
basic_wider n k le atoms over = each_of (AtomOver k) atoms (λ a i. atom_wider n k le a (All-contains (AtomOver n) atoms a over i))

atom_renumbered : (n k : ℕ) (f : ℕ → ℕ) → ((v : ℕ) → v < n → f v < k) → (a : Flat) → AtomOver n a → AtomOver k (renumbered f a)
atom_renumbered n k f low (VarVar u v) over = (low u over.0, low v over.1)
atom_renumbered n k f low (VarTerm u s xs) over = (
  low u over.0,
  each_of (λ v. v < k) (map f xs) (λ v i.
      let (w, stands, same) = contains_image f xs v i in subst (λ (z : ℕ). z < k) same (low w (All-contains (λ v. v < n) xs w over.1 stands))),
  rw (length-map xs f) over.2,
)
atom_renumbered n k f low (Finite u) over = low u over

basic_renumbered : (n k : ℕ) (f : ℕ → ℕ) → ((v : ℕ) → v < n → f v < k) → (atoms : List Flat) → BasicOver n atoms → BasicOver k (map (renumbered f) atoms)
basic_renumbered n k f low atoms over = each_of (AtomOver k) (map (renumbered f) atoms) (λ b i.
    let (a, stands, same) = contains_image (renumbered f) atoms b i in
    subst (λ (z : Flat). AtomOver k z) same (atom_renumbered n k f low a (All-contains (AtomOver n) atoms a over stands)))

parts_renumbered : (n k : ℕ) (f : ℕ → ℕ) → ((more v : ℕ) → v < n + more → f v < k + more) → (parts : List Part) → All (PartOver n) parts
    → All (PartOver k) (map (renumbered_part f 0) parts)
parts_renumbered n k f low parts over = each_of (PartOver k) (map (renumbered_part f 0) parts) (λ p i.
    let (part, stands, same) = contains_image (renumbered_part f 0) parts p i in
    subst (λ (z : Part). PartOver k z) same
    (basic_renumbered (n + part.inner) (k + (0 + part.inner)) f (λ v w. let l : f v < k + part.inner = low part.inner v w in omega (arith, l)) part.basic
    (All-contains (PartOver n) parts part over stands)))

module _ (l r : Cube) (same : l.free ≡ r.free) (at_left : IsWellNumbered l) (at_right : IsWellNumbered r) where
  right_low : (more v : ℕ) → v < r.free + r.outer + more → raised l.free l.outer v < l.free + (l.outer + r.outer) + more
  right_low more v w = elim (split v l.free) [
    | inl x ↦ omega (arith, raised_low l.free l.outer v x, x)
    | inr le ↦ omega (arith, raised_high l.free l.outer v le, same, w)
  ]

  left_low : (more v : ℕ) → v < l.free + l.outer + more → raised (l.free + l.outer) r.outer v < l.free + (l.outer + r.outer) + more
  left_low more v w = elim (split v (l.free + l.outer)) [
    | inl x ↦ omega (arith, raised_low (l.free + l.outer) r.outer v x, x)
    | inr le ↦ omega (arith, raised_high (l.free + l.outer) r.outer v le, w)
  ]

  right_low_here : (v : ℕ) → v < r.free + r.outer → raised l.free l.outer v < l.free + (l.outer + r.outer)
  right_low_here v w = elim (split v l.free) [
    | inl x ↦ omega (arith, raised_low l.free l.outer v x, x)
    | inr le ↦ omega (arith, raised_high l.free l.outer v le, same, w)
  ]

  joined_over : IsWellNumbered (joined l r)
  joined_over = record {
    basic = All-append (AtomOver (l.free + (l.outer + r.outer))) l.basic (map (renumbered (raised l.free l.outer)) r.basic)
        (basic_wider (l.free + l.outer) (l.free + (l.outer + r.outer)) (omega arith) l.basic at_left.basic)
        (basic_renumbered (r.free + r.outer) (l.free + (l.outer + r.outer)) (raised l.free l.outer) right_low_here r.basic at_right.basic);
    parts = All-append (PartOver (l.free + (l.outer + r.outer))) (map (renumbered_part (raised (l.free + l.outer) r.outer) 0) l.parts)
        (map (renumbered_part (raised l.free l.outer) 0) r.parts)
        (parts_renumbered (l.free + l.outer) (l.free + (l.outer + r.outer)) (raised (l.free + l.outer) r.outer) left_low l.parts at_left.parts)
        (parts_renumbered (r.free + r.outer) (l.free + (l.outer + r.outer)) (raised l.free l.outer) right_low r.parts at_right.parts);
  }

opened_over : (quantified : ℕ) (cube : Cube) → quantified ≤ cube.free → IsWellNumbered cube → IsWellNumbered (opened quantified cube)
opened_over quantified cube within over =
    let same : cube.free + cube.outer ≡ cube.free - quantified + (quantified + cube.outer) = omega arith in
    record {
      basic = subst (λ (n : ℕ). BasicOver n cube.basic) same over.basic;
      parts = subst (λ (n : ℕ). All (PartOver n) cube.parts) same over.parts;
    }

-- the raw cube of a part
abbrev pub beside : Cube → Part → Cube
beside cube part = record { free = cube.free; outer = cube.outer + part.inner; basic = cube.basic ++ part.basic; parts = [] }

-- and that of a cube's basic
abbrev pub basic_fails : Cube → Cube
basic_fails cube = record { free = cube.free; outer = 0; basic = []; parts = record { inner = cube.outer; basic = cube.basic } ∷ [] }

pub denied_cases : (cube raw : Cube) → (P : Cube → Type 0) → P (basic_fails cube) → ((part : Part) → Contains cube.parts part → P (beside cube part)) → Contains (denied cube) raw → P raw
denied_cases cube raw P first each i = elim (contains_cases (basic_fails cube) raw (map (beside cube) cube.parts) i) [
  | inl e ↦ subst P e first
  | inr j ↦ let (part, stands, same) = contains_image (beside cube) cube.parts raw j in subst P same (each part stands)
]

abbrev Over : ℕ → Cube → Type 0
Over n cube = (cube.free ≡ n) × IsWellNumbered cube

denied_over : (cube : Cube) → IsWellNumbered cube → CubesOver cube.free (denied cube)
denied_over cube over = each_of (Over cube.free) (denied cube) (λ raw i.
    denied_cases cube raw (Over cube.free) (
      refl,
      record {
        basic = λ k d low. absurd (omega (arith, low));
        parts = let whole : Part = record { inner = cube.outer; basic = cube.basic } in
            each_of (PartOver (cube.free + 0)) (whole ∷ []) (λ part j. elim (contains_cases whole part [] j) [
              | inl e ↦ subst (λ (z : Part). PartOver (cube.free + 0) z) e (basic_wider (cube.free + cube.outer) (cube.free + 0 + cube.outer) (omega arith) cube.basic over.basic)
              | inr none ↦ absurd (omega (arith, none.1))
            ]);
      },
    )
    (λ part stands. (
      refl,
      record {
        basic =
            All-append (AtomOver (cube.free + (cube.outer + part.inner))) cube.basic part.basic
            (basic_wider (cube.free + cube.outer) (cube.free + (cube.outer + part.inner)) (omega arith) cube.basic over.basic)
            (basic_wider (cube.free + cube.outer + part.inner) (cube.free + (cube.outer + part.inner)) (omega arith) part.basic
            (All-contains (PartOver (cube.free + cube.outer)) cube.parts part over.parts stands));
        parts = λ k d low. absurd (omega (arith, low));
      },
    )) i)

module _ (Q : Symbol → ℕ → Type 0) where
  both_parts : (xs ys : List Part) → PartsFit Q xs → PartsFit Q ys → PartsFit Q (xs ++ ys)
  both_parts xs ys f g = record { each = λ part i. elim (Contains-append_cases xs ys part i) [ inl j ↦ f.each part j | inr j ↦ g.each part j ] }

  pub joined_fit : (l r : Cube) → IsFit Q l → IsFit Q r → IsFit Q (joined l r)
  joined_fit l r f g =
      let to_left : ℕ → ℕ = raised (l.free + l.outer) r.outer in
      let to_right : ℕ → ℕ = raised l.free l.outer in
      record {
        basic = both_fit Q l.basic (map (renumbered to_right) r.basic) f.basic (map_fits Q to_right r.basic g.basic);
        parts = both_parts (map (renumbered_part to_left 0) l.parts) (map (renumbered_part to_right 0) r.parts)
            (moved_parts_fit Q to_left 0 l.parts f.parts) (moved_parts_fit Q to_right 0 r.parts g.parts);
      }

  pub opened_fit : (quantified : ℕ) (cube : Cube) → IsFit Q cube → IsFit Q (opened quantified cube)
  opened_fit quantified cube f = record { basic = f.basic; parts = f.parts }

  pub lone_fit : (n m : ℕ) (basic : List Flat) → Fit Q basic → IsFit Q (record { free = n; outer = m; basic = basic; parts = [] })
  lone_fit n m basic f = record { basic = f; parts = none_fit Q }

  empty_fit : Fit Q []
  empty_fit = record { each = λ u symbol xs i. absurd (omega (arith, i.1)) }

  one_part : (part : Part) → Fit Q part.basic → PartsFit Q (part ∷ [])
  one_part part f = record {
    each = λ other i. elim (contains_cases part other [] i) [
      | inl e ↦ subst (λ (z : Part). Fit Q z.basic) e f
      | inr j ↦ absurd (omega (arith, j.1))
    ];
  }

  pub denied_fit : (cube raw : Cube) → IsFit Q cube → Contains (denied cube) raw → IsFit Q raw
  denied_fit cube raw f i = denied_cases cube raw (IsFit Q)
      (record { basic = empty_fit; parts = one_part (record { inner = cube.outer; basic = cube.basic }) f.basic })
      (λ part stands. lone_fit cube.free (cube.outer + part.inner) (cube.basic ++ part.basic)
      (both_fit Q cube.basic part.basic f.basic (f.parts.each part stands))) i

pub raws_are_well_numbered : RawsAreWellNumbered
raws_are_well_numbered = record { joined = joined_over; opened = opened_over; denied = denied_over }

pub raws_fit : RawsFit
raws_fit = record {
  joined = λ σ l r f g. cube_fits σ (joined l r) (joined_fit (IsRoot σ) l r (cube_fit σ l f) (cube_fit σ r g));
  opened = λ σ quantified cube f. record { basic = f.basic; parts = f.parts };
  denied = λ σ cube f. each_of (CubeFits σ) (denied cube) (λ raw i. cube_fits σ raw (denied_fit (IsRoot σ) cube raw (cube_fit σ cube f) i));
}

pub raws_have_symbols : RawsHaveSymbols
raws_have_symbols = record {
  joined = λ l r.
      let all = cube_symbols l ++ cube_symbols r in
      let Q : Symbol → ℕ → Type 0 = λ symbol n. Contains all (symbol, n) in
      all_of_cube Q (joined l r)
      (joined_fit Q l r (cube_of_all Q l (λ p i. Contains-append_left (cube_symbols l) (cube_symbols r) p i))
      (cube_of_all Q r (λ p i. Contains-append_right (cube_symbols l) (cube_symbols r) p i)));
  opened = λ quantified cube. refl;
  denied = λ cube.
      let Q : Symbol → ℕ → Type 0 = λ symbol n. Contains (cube_symbols cube) (symbol, n) in
      each_of (Contains (cube_symbols cube)) (cubes_symbols (denied cube)) (λ p i.
      let (raw, stands, j) = flat_from cube_symbols (denied cube) p i in
      All-contains (Contains (cube_symbols cube)) (cube_symbols raw) p
      (all_of_cube Q raw (denied_fit Q cube raw (cube_of_all Q cube (λ p i. i)) stands)) j);
}
