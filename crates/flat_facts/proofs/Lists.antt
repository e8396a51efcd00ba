-- Conjunctions as lists: what stands in them, ascending ones, and their equations.
use Rattle.std.proofs.Common.{ℕ, ◌≡◌, ◌<◌, List, [], ◌∷◌, ◌++◌, refl, sym, ap, ◌∙◌, subst, arith, inl, inr}
use Rattle.std.specs.Prelude.{Contains}
use Rattle.std.proofs.lemmas.List.Elements.{All-contains}
use Rattle.tree_model.specs.declared.tree.Symbol.{Symbol}
use Rattle.tree_model.specs.Signatures.{Signature}
use Rattle.tree_model.specs.Valuations.{Valuation}
use Rattle.flat_form.specs.Parts.{AllBelow}
use Rattle.tree_facts.specs.Equations.{Equation, variables_of, equals_variable, equals_term, Solves, SystemFits, IsParameter}
use Rattle.tree_facts.proofs.Members.{contains_first, contains_later, contains_cases}
use Rattle.flat_form.specs.declared.atom.Flat.{Flat}
use Rattle.flat_form.specs.declared.atom.Flat.TheVariants.{VarVar, VarTerm, Finite}
use Rattle.flat_form.specs.Meanings.{AtomHolds, BasicHolds}
use Rattle.flat_form.specs.Fitting.{AtomFits, BasicFits}
use Rattle.flat_form.specs.Solved.{variable_of, Ascends, IsOpen}

module _ {σ : Signature} (e : Valuation σ) where
  pub holds_in : (atoms : List Flat) (a : Flat) → BasicHolds e atoms → Contains atoms a → AtomHolds e a
  holds_in [] a h inside = absurd (omega (arith, inside.1))
  holds_in (b ∷ rest) a h inside = elim (contains_cases b a rest inside) [
    | inl same ↦ let P : Flat → Type 0 = AtomHolds e in subst P same h.0
    | inr more ↦ holds_in rest a h.1 more
  ]

  pub all_hold : (atoms : List Flat) → ((a : Flat) → Contains atoms a → AtomHolds e a) → BasicHolds e atoms
  all_hold [] each = tt
  all_hold (a ∷ rest) each = (each a (contains_first a rest), all_hold rest (λ b inside. each b (contains_later a b rest inside)))

  pub both_hold : (xs ys : List Flat) → BasicHolds e xs → BasicHolds e ys → BasicHolds e (xs ++ ys)
  both_hold [] ys h k = k
  both_hold (a ∷ xs) ys h k = (h.0, both_hold xs ys h.1 k)

  pub front_holds : (xs ys : List Flat) → BasicHolds e (xs ++ ys) → BasicHolds e xs
  front_holds [] ys h = tt
  front_holds (a ∷ xs) ys h = (h.0, front_holds xs ys h.1)

  pub later_holds : (xs ys : List Flat) → BasicHolds e (xs ++ ys) → BasicHolds e ys
  later_holds [] ys h = h
  later_holds (a ∷ xs) ys h = later_holds xs ys h.1

-- in an ascending list a variable has one atom
pub one_each : (xs : List Flat) → Ascends xs → (a b : Flat) → Contains xs a → Contains xs b → variable_of a ≡ variable_of b → a ≡ b
one_each [] up a b i j e = absurd (omega (arith, i.1))
one_each (x ∷ xs) up a b i j e = elim (contains_cases x a xs i) [
  | inl p ↦ elim (contains_cases x b xs j) [
    | inl q ↦ sym p ∙ q
    | inr k ↦ absurd (omega (arith, up.0 b k, ap variable_of p, e))
  ]
  | inr l ↦ elim (contains_cases x b xs j) [
    | inl q ↦ absurd (omega (arith, up.0 a l, ap variable_of q, e))
    | inr k ↦ one_each xs up.1 a b l k e
  ]
]

-- ascending lists with the same atoms are one list
pub one_list : (xs ys : List Flat) → Ascends xs → Ascends ys → ((a : Flat) → Contains xs a → Contains ys a) → ((a : Flat) → Contains ys a → Contains xs a) → xs ≡ ys
one_list [] [] up on there back = refl
one_list [] (y ∷ ys) up on there back = absurd (omega (arith, (back y (contains_first y ys)).1))
one_list (x ∷ xs) [] up on there back = absurd (omega (arith, (there x (contains_first x xs)).1))
one_list (x ∷ xs) (y ∷ ys) up on there back =
    let first : x ≡ y = elim (contains_cases y x ys (there x (contains_first x xs))) [
      | inl e ↦ sym e
      | inr l ↦ elim (contains_cases x y xs (back y (contains_first y ys))) [
        | inl e ↦ e
        | inr k ↦ absurd (omega (arith, on.0 x l, up.0 y k))
      ]
    ] in
    let rest : xs ≡ ys = one_list xs ys up.1 on.1
    (λ a i. elim (contains_cases y a ys (there a (contains_later x a xs i))) [
      | inl e ↦ absurd (omega (arith, up.0 a i, ap variable_of first, ap variable_of e))
      | inr k ↦ k
    ])
    (λ a i. elim (contains_cases x a xs (back a (contains_later y a ys i))) [
      | inl e ↦ absurd (omega (arith, on.0 a i, ap variable_of first, ap variable_of e))
      | inr k ↦ k
    ]) in
    ap (λ z. z ∷ xs) first ∙ ap (λ z. y ∷ z) rest

-- the equations of the atoms, in order
abbrev pub equations_of : List Flat → List Equation
equations_of [] = []
equations_of (VarVar u v ∷ rest) = equals_variable u v ∷ equations_of rest
equations_of (VarTerm u symbol arguments ∷ rest) = equals_term u symbol arguments ∷ equations_of rest
equations_of (Finite u ∷ rest) = equations_of rest

-- the atom that an equation is
abbrev pub atom_of : Equation → Flat
atom_of (equals_variable u r) = VarVar u r
atom_of (equals_term u symbol arguments) = VarTerm u symbol arguments

pub atom_stands : (atoms : List Flat) (q : Equation) → Contains (equations_of atoms) q → Contains atoms (atom_of q)
atom_stands [] q inside = absurd (omega (arith, inside.1))
atom_stands (VarVar u v ∷ rest) q inside = elim (contains_cases (equals_variable u v) q (equations_of rest) inside) [
  | inl same ↦ subst (λ z. Contains (VarVar u v ∷ rest) (atom_of z)) same (contains_first (VarVar u v) rest)
  | inr more ↦ contains_later (VarVar u v) (atom_of q) rest (atom_stands rest q more)
]
atom_stands (VarTerm u s xs ∷ rest) q inside = elim (contains_cases (equals_term u s xs) q (equations_of rest) inside) [
  | inl same ↦ subst (λ z. Contains (VarTerm u s xs ∷ rest) (atom_of z)) same (contains_first (VarTerm u s xs) rest)
  | inr more ↦ contains_later (VarTerm u s xs) (atom_of q) rest (atom_stands rest q more)
]
atom_stands (Finite u ∷ rest) q inside = contains_later (Finite u) (atom_of q) rest (atom_stands rest q inside)

-- the equation of an atom, where it is one
abbrev IsEquationIn : List Equation → Flat → Type 0
IsEquationIn system (VarVar u v) = Contains system (equals_variable u v)
IsEquationIn system (VarTerm u symbol arguments) = Contains system (equals_term u symbol arguments)
IsEquationIn system (Finite u) = Unit {0}

in_later : (q : Equation) (system : List Equation) (a : Flat) → IsEquationIn system a → IsEquationIn (q ∷ system) a
in_later q system (VarVar u v) inside = contains_later q (equals_variable u v) system inside
in_later q system (VarTerm u s xs) inside = contains_later q (equals_term u s xs) system inside
in_later q system (Finite u) inside = tt

equation_in : (atoms : List Flat) (a : Flat) → Contains atoms a → IsEquationIn (equations_of atoms) a
equation_in [] a inside = absurd (omega (arith, inside.1))
equation_in (VarVar u v ∷ rest) a inside = elim (contains_cases (VarVar u v) a rest inside) [
  | inl same ↦ subst (λ z. IsEquationIn (equals_variable u v ∷ equations_of rest) z) same (contains_first (equals_variable u v) (equations_of rest))
  | inr more ↦ in_later (equals_variable u v) (equations_of rest) a (equation_in rest a more)
]
equation_in (VarTerm u s xs ∷ rest) a inside = elim (contains_cases (VarTerm u s xs) a rest inside) [
  | inl same ↦ subst (λ z. IsEquationIn (equals_term u s xs ∷ equations_of rest) z) same (contains_first (equals_term u s xs) (equations_of rest))
  | inr more ↦ in_later (equals_term u s xs) (equations_of rest) a (equation_in rest a more)
]
equation_in (Finite u ∷ rest) a inside = elim (contains_cases (Finite u) a rest inside) [
  | inl same ↦ subst (λ z. IsEquationIn (equations_of rest) z) same tt
  | inr more ↦ equation_in rest a more
]

pub variable_stands : (atoms : List Flat) (u v : ℕ) → Contains atoms (VarVar u v) → Contains (equations_of atoms) (equals_variable u v)
variable_stands atoms u v inside = equation_in atoms (VarVar u v) inside

pub term_stands : (atoms : List Flat) (u : ℕ) (s : Symbol) (xs : List ℕ) → Contains atoms (VarTerm u s xs) → Contains (equations_of atoms) (equals_term u s xs)
term_stands atoms u s xs inside = equation_in atoms (VarTerm u s xs) inside

-- a root is a parameter of the equations, and the other way round
pub open_parameter : (atoms : List Flat) (v : ℕ) → IsOpen atoms v → IsParameter (equations_of atoms) v
open_parameter atoms v bare (equals_variable u r) inside = λ same.
    bare.no_variable r (subst (λ (z : ℕ). Contains atoms (VarVar z r)) same (atom_stands atoms (equals_variable u r) inside))
open_parameter atoms v bare (equals_term u s xs) inside = λ same.
    bare.no_term s xs (subst (λ (z : ℕ). Contains atoms (VarTerm z s xs)) same (atom_stands atoms (equals_term u s xs) inside))

pub parameter_open : (atoms : List Flat) (v : ℕ) → IsParameter (equations_of atoms) v → IsOpen atoms v
parameter_open atoms v parameter = record {
  no_variable = λ r inside. parameter (equals_variable v r) (variable_stands atoms v r inside) refl;
  no_term = λ s xs inside. parameter (equals_term v s xs) (term_stands atoms v s xs inside) refl;
}

pub equation_fits : (σ : Signature) (atoms : List Flat) → BasicFits σ atoms → SystemFits σ (equations_of atoms)
equation_fits σ atoms fits u s xs inside = All-contains (AtomFits σ) atoms (VarTerm u s xs) fits (atom_stands atoms (equals_term u s xs) inside)

pub equations_hold : {σ : Signature} (e : Valuation σ) (atoms : List Flat) → BasicHolds e atoms → Solves e (equations_of atoms)
equations_hold e atoms holds (equals_variable u r) inside = holds_in e atoms (VarVar u r) holds (atom_stands atoms (equals_variable u r) inside)
equations_hold e atoms holds (equals_term u s xs) inside = holds_in e atoms (VarTerm u s xs) holds (atom_stands atoms (equals_term u s xs) inside)

-- an equation's variables are those of its atom
pub equation_low : (n : ℕ) (atoms : List Flat) → AllBelow n atoms → (q : Equation) → Contains (equations_of atoms) q
    → (v : ℕ) → Contains (variables_of q) v → v < n
equation_low n atoms low (equals_variable u r) i v o = low (VarVar u r) (atom_stands atoms (equals_variable u r) i) v o
equation_low n atoms low (equals_term u s xs) i v o = low (VarTerm u s xs) (atom_stands atoms (equals_term u s xs) i) v o
