-- An explicit formula is made of one list of pieces, which are taken from it.
use Rattle.std.proofs.Common.{◌≡◌, ℕ, ◌+◌, List, [], ◌∷◌, ◌++◌, length, map, refl, sym, ap, ◌∙◌, append_assoc}
use Rattle.std.specs.Prelude.{All, flat_map}
use Rattle.std.specs.List.{range_with_len}
use Rattle.std.proofs.lemmas.List.{append-nil}
use Rattle.std.proofs.lemmas.List.Elements.{All-head}
use Rattle.std.proofs.lemmas.List.FromFn.{length-range_with_len}
use Rattle.tree_model.specs.declared.tree.Symbol.{Symbol}
use Rattle.formula_ast.specs.declared.term.Term.TheVariants.{Var}
use Rattle.formula_ast.specs.declared.term.Term.TheViews as views
use Rattle.formula_ast.specs.declared.term.Term.TheViews.{out-Term}
use Rattle.formula_ast.specs.Forms.{Form, no, and, exists}
use Rattle.flat_form.specs.declared.atom.Flat.{Flat}
use Rattle.flat_form.specs.declared.atom.Flat.TheVariants.{VarVar, VarTerm, Finite}
use Rattle.flat_form.specs.declared.cube.Part.{Part}
use Rattle.flat_form.specs.declared.cube.Cube.{Cube}
use Rattle.formula_printer.specs.Bound.{chained, conjunction}
use Rattle.formula_grammar.specs.Meaning.{behind}
use Rattle.formula_grammar.specs.Written as joint
use Rattle.explicit_form.specs.Explicit.{Denied, applied, atom_form, denied, denied_form, denied_part, explicit_cube, cube_form}
use Rattle.explicit_form.specs.Pieces.{layer_variable, layer_equation, variable_in, equation, bound_of, basic_of, parts_of}

-- ---- atoms

pub variable_is : (v : ℕ) → variable_in (Var v) ≡ v
variable_is v = ap layer_variable (views.outs-Var v)

variables_are : (xs : List ℕ) → map variable_in (map (λ x. Var x) xs) ≡ xs
variables_are [] = refl
variables_are (x ∷ xs) = ap (λ y. y ∷ map variable_in (map (λ x. Var x) xs)) (variable_is x) ∙ ap (λ l. x ∷ l) (variables_are xs)

pub equal_variables : (u v : ℕ) → equation (Var u) (Var v) ≡ VarVar u v
equal_variables u v = ap (layer_equation (variable_in (Var u))) (views.outs-Var v) ∙ ap (λ w. VarVar w v) (variable_is u)

pub equal_applied : (u : ℕ) (s : Symbol) (xs : List ℕ) → equation (Var u) (applied s xs) ≡ VarTerm u s xs
equal_applied u s xs =
    ap (layer_equation (variable_in (Var u))) (views.outs-App s (record { items = map (λ x. Var x) xs }))
    ∙ ap (λ w. VarTerm w s (map variable_in (map (λ x. Var x) xs))) (variable_is u) ∙ ap (VarTerm u s) (variables_are xs)

pub atom_is : (atom : Flat) → basic_of (atom_form atom) ≡ atom ∷ []
atom_is (VarVar u v) = ap (λ a. a ∷ []) (equal_variables u v)
atom_is (VarTerm u s xs) = ap (λ a. a ∷ []) (equal_applied u s xs)
atom_is (Finite u) = ap (λ w. Finite w ∷ []) (variable_is u)

atom_denies : (atom : Flat) → parts_of (atom_form atom) ≡ []
atom_denies (VarVar u v) = refl
atom_denies (VarTerm u s xs) = refl
atom_denies (Finite u) = refl

atom_binds : (atom : Flat) → bound_of (atom_form atom) ≡ []
atom_binds (VarVar u v) = refl
atom_binds (VarTerm u s xs) = refl
atom_binds (Finite u) = refl

-- ---- conjunctions and quantifiers

joined_basic : (f : Form) (gs : List Form) → basic_of (chained joint.and f gs) ≡ basic_of f ++ flat_map basic_of gs
joined_basic f [] = sym (append-nil (basic_of f))
joined_basic f (g ∷ gs) = joined_basic (and f g) gs ∙ append_assoc (basic_of f) (basic_of g) (flat_map basic_of gs)

conjunction_basic : (fs : List Form) → basic_of (conjunction fs) ≡ flat_map basic_of fs
conjunction_basic [] = refl
conjunction_basic (f ∷ fs) = joined_basic f fs

joined_parts : (f : Form) (gs : List Form) → parts_of (chained joint.and f gs) ≡ parts_of f ++ flat_map parts_of gs
joined_parts f [] = sym (append-nil (parts_of f))
joined_parts f (g ∷ gs) = joined_parts (and f g) gs ∙ append_assoc (parts_of f) (parts_of g) (flat_map parts_of gs)

conjunction_parts : (fs : List Form) → parts_of (conjunction fs) ≡ flat_map parts_of fs
conjunction_parts [] = refl
conjunction_parts (f ∷ fs) = joined_parts f fs

joined_binds : (f g : Form) (gs : List Form) → bound_of (chained joint.and (and f g) gs) ≡ []
joined_binds f g [] = refl
joined_binds f g (h ∷ gs) = joined_binds (and f g) h gs

-- a conjunction of formulas that bind nothing binds nothing
conjunction_binds : (fs : List Form) → All (λ f. bound_of f ≡ []) fs → bound_of (conjunction fs) ≡ []
conjunction_binds [] none = refl
conjunction_binds (f ∷ []) none = All-head (λ f. bound_of f ≡ []) f [] none
conjunction_binds (f ∷ g ∷ gs) none = joined_binds f g gs

behind_basic : (xs : List ℕ) (f : Form) → basic_of (behind exists xs f) ≡ basic_of f
behind_basic [] f = refl
behind_basic (x ∷ xs) f = behind_basic xs f

behind_parts : (xs : List ℕ) (f : Form) → parts_of (behind exists xs f) ≡ parts_of f
behind_parts [] f = refl
behind_parts (x ∷ xs) f = behind_parts xs f

behind_binds : (xs : List ℕ) (f : Form) → bound_of f ≡ [] → bound_of (behind exists xs f) ≡ xs
behind_binds [] f e = e
behind_binds (x ∷ xs) f e = ap (λ l. x ∷ l) (behind_binds xs f e)

-- ---- parts

atoms_are : (basic : List Flat) → flat_map basic_of (map atom_form basic) ≡ basic
atoms_are [] = refl
atoms_are (atom ∷ rest) = ap (λ l. l ++ flat_map basic_of (map atom_form rest)) (atom_is atom) ∙ ap (λ l. atom ∷ l) (atoms_are rest)

atoms_bind : (basic : List Flat) → bound_of (conjunction (map atom_form basic)) ≡ []
atoms_bind [] = refl
atoms_bind (atom ∷ []) = atom_binds atom
atoms_bind (atom ∷ next ∷ rest) = joined_binds (atom_form atom) (atom_form next) (map atom_form rest)

abbrev denied_of : List ℕ → List Flat → Denied
denied_of bound basic = record { bound = bound; basic = basic }

no_is : (bound : List ℕ) (basic : List Flat) → parts_of (no (behind exists bound (conjunction (map atom_form basic)))) ≡ denied_of bound basic ∷ []
no_is bound basic =
    let f = conjunction (map atom_form basic) in
    let atoms : basic_of (behind exists bound f) ≡ basic = behind_basic bound f ∙ conjunction_basic (map atom_form basic) ∙ atoms_are basic in
    ap (λ l. denied_of l (basic_of (behind exists bound f)) ∷ []) (behind_binds bound f (atoms_bind basic)) ∙ ap (λ l. denied_of bound l ∷ []) atoms

part_is : (bound : List ℕ) (basic : List Flat) → parts_of (denied_form bound basic) ≡ denied_of bound basic ∷ []
part_is [] [] = no_is [] []
part_is [] (VarVar u v ∷ []) = ap (λ a. denied_of [] (a ∷ []) ∷ []) (equal_variables u v)
part_is [] (VarTerm u s xs ∷ []) = ap (λ a. denied_of [] (a ∷ []) ∷ []) (equal_applied u s xs)
part_is [] (Finite u ∷ []) = no_is [] (Finite u ∷ [])
part_is [] (VarVar u v ∷ atom ∷ rest) = no_is [] (VarVar u v ∷ atom ∷ rest)
part_is [] (VarTerm u s xs ∷ atom ∷ rest) = no_is [] (VarTerm u s xs ∷ atom ∷ rest)
part_is [] (Finite u ∷ atom ∷ rest) = no_is [] (Finite u ∷ atom ∷ rest)
part_is (x ∷ bound) basic = no_is (x ∷ bound) basic

-- a part has no atoms of its cube, and binds nothing there
part_apart : (bound : List ℕ) (basic : List Flat) → (basic_of (denied_form bound basic) ≡ []) × (bound_of (denied_form bound basic) ≡ [])
part_apart [] [] = (refl, refl)
part_apart [] (VarVar u v ∷ []) = (refl, refl)
part_apart [] (VarTerm u s xs ∷ []) = (refl, refl)
part_apart [] (Finite u ∷ []) = (refl, refl)
part_apart [] (VarVar u v ∷ atom ∷ rest) = (refl, refl)
part_apart [] (VarTerm u s xs ∷ atom ∷ rest) = (refl, refl)
part_apart [] (Finite u ∷ atom ∷ rest) = (refl, refl)
part_apart (x ∷ bound) basic = (refl, refl)

-- ---- cubes

no_atoms : (parts : List Denied) → flat_map basic_of (map denied parts) ≡ []
no_atoms [] = refl
no_atoms (part ∷ rest) = ap (λ l. l ++ flat_map basic_of (map denied rest)) (part_apart part.bound part.basic).0 ∙ no_atoms rest

items_basic : (basic : List Flat) (parts : List Denied) → flat_map basic_of (map atom_form basic ++ map denied parts) ≡ basic
items_basic [] parts = no_atoms parts
items_basic (atom ∷ rest) parts =
    ap (λ l. l ++ flat_map basic_of (map atom_form rest ++ map denied parts)) (atom_is atom) ∙ ap (λ l. atom ∷ l) (items_basic rest parts)

denied_are : (parts : List Denied) → flat_map parts_of (map denied parts) ≡ parts
denied_are [] = refl
denied_are (part ∷ rest) = ap (λ l. l ++ flat_map parts_of (map denied rest)) (part_is part.bound part.basic) ∙ ap (λ l. part ∷ l) (denied_are rest)

items_parts : (basic : List Flat) (parts : List Denied) → flat_map parts_of (map atom_form basic ++ map denied parts) ≡ parts
items_parts [] parts = denied_are parts
items_parts (atom ∷ rest) parts = ap (λ l. l ++ flat_map parts_of (map atom_form rest ++ map denied parts)) (atom_denies atom) ∙ items_parts rest parts

items_bind : (basic : List Flat) (parts : List Denied) → bound_of (conjunction (map atom_form basic ++ map denied parts)) ≡ []
items_bind [] [] = refl
items_bind [] (part ∷ []) = (part_apart part.bound part.basic).1
items_bind [] (part ∷ next ∷ rest) = joined_binds (denied part) (denied next) (map denied rest)
items_bind (atom ∷ []) [] = atom_binds atom
items_bind (atom ∷ []) (part ∷ rest) = joined_binds (atom_form atom) (denied part) (map denied rest)
items_bind (atom ∷ next ∷ more) parts = joined_binds (atom_form atom) (atom_form next) (map atom_form more ++ map denied parts)

module _ (outer : List ℕ) (basic : List Flat) (parts : List Denied) where
  body : Form
  body = conjunction (map atom_form basic ++ map denied parts)

  pub cube_binds : bound_of (explicit_cube outer basic parts) ≡ outer
  cube_binds = behind_binds outer (conjunction (map atom_form basic ++ map denied parts)) (items_bind basic parts)

  pub cube_basic : basic_of (explicit_cube outer basic parts) ≡ basic
  cube_basic = behind_basic outer (conjunction (map atom_form basic ++ map denied parts))
      ∙ conjunction_basic (map atom_form basic ++ map denied parts) ∙ items_basic basic parts

  pub cube_parts : parts_of (explicit_cube outer basic parts) ≡ parts
  cube_parts = behind_parts outer (conjunction (map atom_form basic ++ map denied parts))
      ∙ conjunction_parts (map atom_form basic ++ map denied parts) ∙ items_parts basic parts

-- ---- cubes by number

-- the part that is denied
abbrev part_back : Denied → Part
part_back part = record { inner = length part.bound; basic = part.basic }

abbrev part_of : ℕ → List Flat → Part
part_of inner basic = record { inner = inner; basic = basic }

parts_back : (m : ℕ) (parts : List Part) → map part_back (map (denied_part m) parts) ≡ parts
parts_back m [] = refl
parts_back m (part ∷ rest) =
    ap (λ n. part_of n part.basic ∷ map part_back (map (denied_part m) rest)) (length-range_with_len m part.inner)
    ∙ ap (λ l. part ∷ l) (parts_back m rest)

abbrev cube_of : ℕ → ℕ → List Flat → List Part → Cube
cube_of free outer basic parts = record { free = free; outer = outer; basic = basic; parts = parts }

abbrev cube_back : ℕ → Form → Cube
cube_back free f = cube_of free (length (bound_of f)) (basic_of f) (map part_back (parts_of f))

back : (c : Cube) → cube_back c.free (cube_form c) ≡ c
back c =
    let outer = range_with_len c.free c.outer in
    let parts = map (denied_part (c.free + c.outer)) c.parts in
    let f = explicit_cube outer c.basic parts in
    ap (λ n. cube_of c.free n (basic_of f) (map part_back (parts_of f))) (ap length (cube_binds outer c.basic parts) ∙ length-range_with_len c.free c.outer)
    ∙ ap (λ l. cube_of c.free c.outer l (map part_back (parts_of f))) (cube_basic outer c.basic parts)
    ∙ ap (λ l. cube_of c.free c.outer c.basic l) (ap (map part_back) (cube_parts outer c.basic parts) ∙ parts_back (c.free + c.outer) c.parts)

-- a formula is that of one cube over so many free variables at most
pub one_cube : (c d : Cube) → c.free ≡ d.free → cube_form c ≡ cube_form d → c ≡ d
one_cube c d free e = sym (back c) ∙ ap (λ n. cube_back n (cube_form c)) free ∙ ap (cube_back d.free) e ∙ back d
