-- Terms with one symbol whose arguments have the same names, place by place: for each atom the place of its first such twin.
use Rattle.std.specs.Prelude.{◌≡◌, ℕ, ◌<◌, ◌&&◌, nat_eq, Bool, false, cond, List, length, map, slice_get, slice_index, Option, Some, None}
use Rattle.std.specs.Cmp.Lexicographic.{pointwise}
use Rattle.tree_model.specs.declared.tree.Symbol.{Symbol}
use Rattle.tree_model.specs.declared.tree.Symbol.TheVariants as symbols
use Rattle.flat_form.specs.declared.atom.Flat.{Flat}
use Rattle.flat_form.specs.declared.atom.Flat.TheVariants.{VarVar, VarTerm, Finite}
use Rattle.basic_solver.specs.declared.twins.Sign.{Sign}
use Rattle.basic_solver.specs.declared.twins.Sign.TheVariants.{Named, Further}
use Rattle.basic_solver.specs.declared.twins.Application.{Application}
use Rattle.basic_solver.specs.Names.{name_in, AreAlike, IsFollowed}

-- the symbol as a part of a key
abbrev pub sign_of : Symbol → Sign
sign_of (symbols.Named place) = Named place
sign_of (symbols.Further index) = Further index

abbrev pub is_same_sign : Sign → Sign → Bool
is_same_sign (Named m) (Named n) = nat_eq m n
is_same_sign (Named m) (Further n) = false
is_same_sign (Further m) (Named n) = false
is_same_sign (Further m) (Further n) = nat_eq m n

-- whether two keys are equal
abbrev pub is_same_key : Application → Application → Bool
is_same_key a b = is_same_sign a.sign b.sign && pointwise nat_eq a.names.items b.names.items

-- the key of the symbol with these arguments
abbrev pub IsKeyOf : List ℕ → Symbol → List ℕ → Application → Type 0
IsKeyOf names symbol xs key = (key.sign ≡ sign_of symbol) × (key.names.items ≡ map (name_in names) xs)

-- where the key had a place, this is it, else it is i; and no other key's place changes
abbrev pub IsPlaced : (Application → Option ℕ) → (Application → Option ℕ) → Application → ℕ → ℕ → Type 0
IsPlaced old new key i j =
    ((q : Application) → new q ≡ cond (is_same_key key q) (Some j) (old q)) × (old key ≡ None → j ≡ i) × ((k : ℕ) → old key ≡ Some k → j ≡ k)

-- so it is for the atom's key; an atom with no term has the place i
abbrev pub IsTwinned : List ℕ → (Application → Option ℕ) → (Application → Option ℕ) → Flat → ℕ → ℕ → Type 0
IsTwinned names old new (VarVar u r) i j = ((q : Application) → new q ≡ old q) × (j ≡ i)
IsTwinned names old new (VarTerm u symbol xs) i j = (key : Application) × IsKeyOf names symbol xs key × IsPlaced old new key i j
IsTwinned names old new (Finite u) i j = ((q : Application) → new q ≡ old q) × (j ≡ i)

-- the other atom has a term with this symbol, whose arguments have the same names
abbrev pub IsTwin : List ℕ → Symbol → List ℕ → Flat → Type 0
IsTwin names symbol xs (VarVar v r) = ⊥
IsTwin names symbol xs (VarTerm v other ys) = (symbol ≡ other) × (length xs ≡ length ys) × AreAlike names xs ys
IsTwin names symbol xs (Finite v) = ⊥

-- each place is that of an atom, each term's twin is one, and terms that are twins have the same one
pub record AreTwins (names : List ℕ) (atoms : List Flat) (twins : List ℕ) : Type 0 where
  pub size : length twins ≡ length atoms
  pub within : (k : ℕ) → k < length atoms → slice_index twins k < length atoms
  pub twin : (k u : ℕ) (symbol : Symbol) (xs : List ℕ) (b : Flat) → slice_get atoms k ≡ Some (VarTerm u symbol xs)
      → slice_get atoms (slice_index twins k) ≡ Some b → IsTwin names symbol xs b
  pub one : (k j u v : ℕ) (symbol : Symbol) (xs ys : List ℕ) → slice_get atoms k ≡ Some (VarTerm u symbol xs)
      → slice_get atoms j ≡ Some (VarTerm v symbol ys) → length xs ≡ length ys → AreAlike names xs ys → slice_index twins k ≡ slice_index twins j

-- the names follow each of the first n atoms and its twin
abbrev pub FollowTwins : List ℕ → List ℕ → List Flat → ℕ → Type 0
FollowTwins names twins atoms n =
    (k : ℕ) (a b : Flat) → k < n → slice_get atoms k ≡ Some a → slice_get atoms (slice_index twins k) ≡ Some b → IsFollowed names a b
