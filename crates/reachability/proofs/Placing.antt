-- Where the atoms of variables stand.
use Rattle.std.proofs.Common.{ℕ, zero, suc, ◌≡◌, ◌<◌, ◌≤◌, ◌+◌, List, [], ◌∷◌, length, get_or, refl, sym, ap, ◌∙◌, subst, arith, inl, inr, ◌⊎◌, Option, Some, None, Bor}
use Rattle.std.specs.Prelude.{slice_set, slice_get, MatchOption, Contains}
use Rattle.std.proofs.lemmas.List.{length-set}
use Rattle.std.proofs.lemmas.Bool.Decides.{eqb_tells}
use Rattle.std.proofs.lemmas.Option.{slice_get_within, get_or_from_slice_get}
use Rattle.std.proofs.lemmas.List.Elements.{All-contains}
use Rattle.flat_form.specs.declared.atom.Flat.{Flat}
use Rattle.tree_model.specs.declared.tree.Symbol.{Symbol}
use Rattle.flat_form.specs.declared.atom.Flat.TheVariants.{VarVar, VarTerm, Finite}
use Rattle.flat_form.specs.Numbering.{AtomOver, BasicOver}
use Rattle.flat_form.specs.Solved.{variable_of, Ascends}
use Rattle.flat_facts.proofs.Lists.{one_each}
use Rattle.reachability.specs.Places.{ArePlaces}

lt_or_le : (m n : ℕ) → (m < n) ⊎ (n ≤ m)
lt_or_le m n = grind arith

pub stands_at : (xs : List Flat) (i : ℕ) (x : Flat) → slice_get xs i ≡ Some x → Contains xs x
stands_at xs i x e = (i, slice_get_within xs i x e, get_or_from_slice_get xs i x x e)

variable_low : (n : ℕ) (atom : Flat) → AtomOver n atom → variable_of atom < n
variable_low n (VarVar u v) over = over.0
variable_low n (VarTerm u s xs) over = over.0
variable_low n (Finite u) over = over

pub left_low : (n i v : ℕ) (atoms : List Flat) (atom : Flat) → BasicOver n atoms → slice_get atoms i ≡ Some atom → v ≡ variable_of atom → v < n
left_low n i v atoms atom over at e =
    let inside : Contains atoms atom = (i, slice_get_within atoms i atom at, get_or_from_slice_get atoms i atom atom at) in
    omega (arith, e, variable_low n atom (All-contains (AtomOver n) atoms atom over inside))

place_there : (places : List (Option ℕ)) (r i : ℕ) → r < length places → get_or (slice_set places r (Some i)) r None ≡ Some i
place_there [] r i w = absurd (omega arith)
place_there (x ∷ xs) zero i w = refl
place_there (x ∷ xs) (suc r) i w = place_there xs r i (omega arith)

place_other : (places : List (Option ℕ)) (r k i : ℕ) → ¬ (k ≡ r) → get_or (slice_set places r (Some i)) k None ≡ get_or places k None
place_other [] r k i n = refl
place_other (x ∷ xs) zero zero i n = absurd (n refl)
place_other (x ∷ xs) zero (suc k) i n = refl
place_other (x ∷ xs) (suc r) zero i n = refl
place_other (x ∷ xs) (suc r) (suc k) i n = place_other xs r k i (λ e. n (ap suc e))

eq_or_not : (k r : ℕ) → (k ≡ r) ⊎ (¬ (k ≡ r))
eq_or_not k r = elim (eqb_tells k r) [ inl t ↦ inl t.1 | inr t ↦ inr t.1 ]

pub places_more : (n : ℕ) (atoms : List Flat) (places : List (Option ℕ)) (atom : Flat) (v : ℕ) → v < length places → slice_get atoms n ≡ Some atom → v ≡ variable_of atom
    → ArePlaces n atoms places → ArePlaces (n + 1) atoms (slice_set places v (Some n))
places_more n atoms places atom v w at is old = record {
  found = λ u i e. elim (eq_or_not u v) [
    | inl f ↦
        let there : get_or (slice_set places v (Some n)) u None ≡ Some n = subst (λ (z : ℕ). get_or (slice_set places v (Some n)) z None ≡ Some n) (sym f) (place_there places v n w) in
        let same : n ≡ i = cc (there, e) in
        let here : slice_get atoms i ≡ Some atom = subst (λ (z : ℕ). slice_get atoms z ≡ Some atom) same at in
        (slice_get_within atoms i atom here, λ other a. let both : atom ≡ other = cc (here, a) in sym (ap variable_of both) ∙ sym is ∙ sym f)
    | inr f ↦ old.found u i (sym (place_other places v u n f) ∙ e)
  ];
  none = λ u l e i other m a. elim (eq_or_not u v) [
    | inl f ↦
        let there : get_or (slice_set places v (Some n)) u None ≡ Some n = subst (λ (z : ℕ). get_or (slice_set places v (Some n)) z None ≡ Some n) (sym f) (place_there places v n w) in
        absurd (cc (there, e))
    | inr f ↦ elim (lt_or_le i n) [
      | inl q ↦ old.none u (omega (arith, l, length-set places v (Some n))) (sym (place_other places v u n f) ∙ e) i other q a
      | inr q ↦
          let same : i ≡ n = omega (arith, m, q) in
          let here : slice_get atoms n ≡ Some other = subst (λ (z : ℕ). slice_get atoms z ≡ Some other) same a in
          let both : atom ≡ other = cc (at, here) in
          λ g. f (sym g ∙ sym (ap variable_of both) ∙ sym is)
    ]
  ];
}

-- what an atom of v tells of v's term
pub term_told : (atoms : List Flat) (v : ℕ) (atom : Flat) (r : Option (Bor (List ℕ))) → Ascends atoms → Contains atoms atom × (variable_of atom ≡ v)
    → MatchOption r ((u : ℕ) (symbol : Symbol) (xs : List ℕ) → ¬ (atom ≡ VarTerm u symbol xs)) (λ xs. (symbol : Symbol) × (atom ≡ VarTerm (variable_of atom) symbol xs.now))
    → MatchOption r ((symbol : Symbol) (xs : List ℕ) → ¬ Contains atoms (VarTerm v symbol xs)) (λ xs. (symbol : Symbol) × Contains atoms (VarTerm v symbol xs.now))
term_told atoms v atom None ascends (inside, e) h = λ symbol xs i. h v symbol xs (one_each atoms ascends atom (VarTerm v symbol xs) inside i e)
term_told atoms v atom (Some xs) ascends (inside, e) (symbol, f) =
    (symbol, subst (λ (z : Flat). Contains atoms z) (f ∙ ap (λ (u : ℕ). VarTerm u symbol xs.now) e) inside)

pub term_low : (n : ℕ) (a : Flat) (u : ℕ) (s : Symbol) (xs : List ℕ) → a ≡ VarTerm u s xs → AtomOver n a → u < n
term_low n a u s xs e over = (subst (λ z. AtomOver n z) e over).0

pub equal_low : (n : ℕ) (a : Flat) (u r : ℕ) → a ≡ VarVar u r → AtomOver n a → u < n
equal_low n a u r e over = (subst (λ z. AtomOver n z) e over).0
