-- What fits a signature is what has root symbols of it alone.
use Rattle.std.proofs.Common.{ℕ, zero, suc, List, [], ◌∷◌, ◌++◌, length, sym, subst, arith, inl, inr}
use Rattle.std.specs.Prelude.{Contains, All, flat_map}
use Rattle.std.proofs.lemmas.List.Elements.{All-contains, Contains-append_left, Contains-append_right, Contains-append_cases}
use Rattle.tree_facts.proofs.Members.{contains_first, contains_later, contains_cases}
use Rattle.tree_model.specs.declared.tree.Symbol.{Symbol}
use Rattle.tree_model.specs.Signatures.{Signature, IsRoot}
use Rattle.flat_form.specs.declared.atom.Flat.{Flat}
use Rattle.flat_form.specs.declared.atom.Flat.TheVariants.{VarVar, VarTerm, Finite}
use Rattle.flat_form.specs.declared.cube.Part.{Part}
use Rattle.flat_form.specs.declared.cube.Cube.{Cube}
use Rattle.flat_form.specs.Normals.{Norm, Norms, norm, none, also}
use Rattle.flat_form.specs.Fitting.{AtomFits, BasicFits, CubeFits, NormFits, NormsFit}
use Rattle.flat_form.specs.Symbols.{atom_symbols, basic_symbols, cube_symbols, norm_symbols, norms_symbols, AreRoots}
use Rattle.flat_form.specs.Laws.{FitsBySymbols}

-- what each item has, all have
pub each_of : {A : Type 0} (P : A → Type 0) (xs : List A) → ((x : A) → Contains xs x → P x) → All P xs
each_of P [] each k d low = absurd (omega (arith, low))
each_of P (x ∷ xs) each zero d low = each x (contains_first x xs)
each_of P (x ∷ xs) each (suc k) d low = each_of P xs (λ y i. each y (contains_later x y xs i)) k d (omega arith)

-- members of lists one behind the other
pub flat_in : {X A : Type 0} (f : X → List A) (xs : List X) (x : X) (a : A) → Contains xs x → Contains (f x) a → Contains (flat_map f xs) a
flat_in f [] x a i j = absurd (omega (arith, i.1))
flat_in f (y ∷ xs) x a i j = elim (contains_cases y x xs i) [
  | inl e ↦ Contains-append_left (f y) (flat_map f xs) a (subst (λ z. Contains (f z) a) (sym e) j)
  | inr later ↦ Contains-append_right (f y) (flat_map f xs) a (flat_in f xs x a later j)
]

pub flat_from : {X A : Type 0} (f : X → List A) (xs : List X) (a : A) → Contains (flat_map f xs) a → (x : X) × Contains xs x × Contains (f x) a
flat_from f [] a i = absurd (omega (arith, i.1))
flat_from f (y ∷ xs) a i = elim (Contains-append_cases (f y) (flat_map f xs) a i) [
  | inl j ↦ (y, contains_first y xs, j)
  | inr j ↦ let (x, stands, k) = flat_from f xs a j in (x, contains_later y x xs stands, k)
]

symbol_in : (atoms : List Flat) (u : ℕ) (symbol : Symbol) (xs : List ℕ) → Contains atoms (VarTerm u symbol xs) → Contains (basic_symbols atoms) (symbol, length xs)
symbol_in atoms u symbol xs i = flat_in atom_symbols atoms (VarTerm u symbol xs) (symbol, length xs) i (contains_first (symbol, length xs) [])

module _ (Q : Symbol → ℕ → Type 0) where
  -- each symbol of the atoms has the property, with its number of arguments; and so those of parts and of a cube
  pub record Fit (atoms : List Flat) : Type 0 where
    pub each : (u : ℕ) (symbol : Symbol) (xs : List ℕ) → Contains atoms (VarTerm u symbol xs) → Q symbol (length xs)

  pub record PartsFit (parts : List Part) : Type 0 where
    pub each : (part : Part) → Contains parts part → Fit part.basic

  pub record IsFit (cube : Cube) : Type 0 where
    pub basic : Fit cube.basic
    pub parts : PartsFit cube.parts

module _ (Q : Symbol → ℕ → Type 0) where
  abbrev At : Symbol × ℕ → Type 0
  At p = Q p.0 p.1

  of_atom : (atoms : List Flat) (atom : Flat) (p : Symbol × ℕ) → Fit Q atoms → Contains atoms atom → Contains (atom_symbols atom) p → At p
  of_atom atoms (VarVar u v) p f i j = absurd (omega (arith, j.1))
  of_atom atoms (VarTerm u symbol xs) p f i j = elim (contains_cases (symbol, length xs) p [] j) [
    | inl e ↦ subst At e (f.each u symbol xs i)
    | inr more ↦ absurd (omega (arith, more.1))
  ]
  of_atom atoms (Finite u) p f i j = absurd (omega (arith, j.1))

  of_basic : (atoms : List Flat) (p : Symbol × ℕ) → Fit Q atoms → Contains (basic_symbols atoms) p → At p
  of_basic atoms p f i = let (atom, stands, j) = flat_from atom_symbols atoms p i in of_atom atoms atom p f stands j

  abbrev part_symbols : Part → List (Symbol × ℕ)
  part_symbols part = basic_symbols part.basic

  of_cube : (cube : Cube) (p : Symbol × ℕ) → IsFit Q cube → Contains (cube_symbols cube) p → At p
  of_cube cube p f i = elim (Contains-append_cases (basic_symbols cube.basic) (flat_map part_symbols cube.parts) p i) [
    | inl j ↦ of_basic cube.basic p f.basic j
    | inr j ↦ let (part, stands, k) = flat_from part_symbols cube.parts p j in of_basic part.basic p (f.parts.each part stands) k
  ]

  pub all_of_basic : (atoms : List Flat) → Fit Q atoms → All At (basic_symbols atoms)
  all_of_basic atoms f = each_of At (basic_symbols atoms) (λ p i. of_basic atoms p f i)

  pub all_of_cube : (cube : Cube) → IsFit Q cube → All At (cube_symbols cube)
  all_of_cube cube f = each_of At (cube_symbols cube) (λ p i. of_cube cube p f i)

  pub basic_of_all : (atoms : List Flat) → ((p : Symbol × ℕ) → Contains (basic_symbols atoms) p → At p) → Fit Q atoms
  basic_of_all atoms each = record { each = λ u symbol xs i. each (symbol, length xs) (symbol_in atoms u symbol xs i) }

  pub cube_of_all : (cube : Cube) → ((p : Symbol × ℕ) → Contains (cube_symbols cube) p → At p) → IsFit Q cube
  cube_of_all cube each = record {
    basic = basic_of_all cube.basic (λ p i. each p (Contains-append_left (basic_symbols cube.basic) (flat_map part_symbols cube.parts) p i));
    parts = record {
      each = λ part stands. basic_of_all part.basic (λ p i. each p
          (Contains-append_right (basic_symbols cube.basic) (flat_map part_symbols cube.parts) p (flat_in part_symbols cube.parts part p stands i)));
    };
  }

module _ (σ : Signature) where
  pub fit : (atoms : List Flat) → BasicFits σ atoms → Fit (IsRoot σ) atoms
  fit atoms fits = record { each = λ u symbol xs i. All-contains (AtomFits σ) atoms (VarTerm u symbol xs) fits i }

  atom_fits : (atoms : List Flat) → Fit (IsRoot σ) atoms → (atom : Flat) → Contains atoms atom → AtomFits σ atom
  atom_fits atoms f (VarVar u v) i = tt
  atom_fits atoms f (VarTerm u symbol xs) i = f.each u symbol xs i
  atom_fits atoms f (Finite u) i = tt

  pub fits : (atoms : List Flat) → Fit (IsRoot σ) atoms → BasicFits σ atoms
  fits atoms f = each_of (AtomFits σ) atoms (atom_fits atoms f)

  pub cube_fit : (cube : Cube) → CubeFits σ cube → IsFit (IsRoot σ) cube
  cube_fit cube f = record {
    basic = fit cube.basic f.basic;
    parts = record { each = λ part i. fit part.basic (All-contains (λ (part : Part). BasicFits σ part.basic) cube.parts part f.parts i) };
  }

  pub cube_fits : (cube : Cube) → IsFit (IsRoot σ) cube → CubeFits σ cube
  cube_fits cube f = record {
    basic = fits cube.basic f.basic;
    parts = each_of (λ (part : Part). BasicFits σ part.basic) cube.parts (λ part i. fits part.basic (f.parts.each part i));
  }

module _ (σ : Signature) where
  abbrev Root : Symbol × ℕ → Type 0
  Root p = IsRoot σ p.0 p.1

  basic_there : (atoms : List Flat) → BasicFits σ atoms → AreRoots σ (basic_symbols atoms)
  basic_there atoms f = all_of_basic (IsRoot σ) atoms (fit σ atoms f)

  basic_back : (atoms : List Flat) → AreRoots σ (basic_symbols atoms) → BasicFits σ atoms
  basic_back atoms all = fits σ atoms (basic_of_all (IsRoot σ) atoms (λ p i. All-contains Root (basic_symbols atoms) p all i))

  both_roots : (xs ys : List (Symbol × ℕ)) → AreRoots σ xs → AreRoots σ ys → AreRoots σ (xs ++ ys)
  both_roots xs ys a b = each_of Root (xs ++ ys) (λ p i. elim (Contains-append_cases xs ys p i) [
    | inl j ↦ All-contains Root xs p a j
    | inr j ↦ All-contains Root ys p b j
  ])

  left_roots : (xs ys : List (Symbol × ℕ)) → AreRoots σ (xs ++ ys) → AreRoots σ xs
  left_roots xs ys a = each_of Root xs (λ p i. All-contains Root (xs ++ ys) p a (Contains-append_left xs ys p i))

  right_roots : (xs ys : List (Symbol × ℕ)) → AreRoots σ (xs ++ ys) → AreRoots σ ys
  right_roots xs ys a = each_of Root ys (λ p i. All-contains Root (xs ++ ys) p a (Contains-append_right xs ys p i))

  mutual
    norm_there : (x : Norm) → NormFits σ x → AreRoots σ (norm_symbols x)
    norm_there (norm bound basic parts) f = both_roots (basic_symbols basic) (norms_symbols parts) (basic_there basic f.0) (norms_there parts f.1)

    norms_there : (xs : Norms) → NormsFit σ xs → AreRoots σ (norms_symbols xs)
    norms_there none f = λ k d low. absurd (omega (arith, low))
    norms_there (also part rest) f = both_roots (norm_symbols part) (norms_symbols rest) (norm_there part f.0) (norms_there rest f.1)

  mutual
    norm_back : (x : Norm) → AreRoots σ (norm_symbols x) → NormFits σ x
    norm_back (norm bound basic parts) all = (
      basic_back basic (left_roots (basic_symbols basic) (norms_symbols parts) all),
      norms_back parts (right_roots (basic_symbols basic) (norms_symbols parts) all),
    )

    norms_back : (xs : Norms) → AreRoots σ (norms_symbols xs) → NormsFit σ xs
    norms_back none all = tt
    norms_back (also part rest) all = (
      norm_back part (left_roots (norm_symbols part) (norms_symbols rest) all),
      norms_back rest (right_roots (norm_symbols part) (norms_symbols rest) all),
    )

pub fits_by_symbols : FitsBySymbols
fits_by_symbols = record {
  basic = λ σ basic. (basic_there σ basic, basic_back σ basic);
  cube = λ σ cube. (
    λ f. all_of_cube (IsRoot σ) cube (cube_fit σ cube f),
    λ all. cube_fits σ cube (cube_of_all (IsRoot σ) cube (λ p i. All-contains (Root σ) (cube_symbols cube) p all i)),
  );
  norm = λ σ x. (norm_there σ x, norm_back σ x);
}
