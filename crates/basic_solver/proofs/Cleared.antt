-- Flags that are taken from the classes with a term.
use Rattle.std.proofs.Common.{ℕ, ◌≡◌, ◌<◌, Bool, false, List, length, refl, sym, inl, inr}
use Rattle.std.specs.Prelude.{All, Contains}
use Rattle.std.proofs.lemmas.List.Elements.{All-weaker, All-contains}
use Rattle.std.proofs.lemmas.List.{length-set}
use Rattle.std.proofs.lemmas.Bool.Decides.{eqb_tells}
use Rattle.tree_model.specs.declared.tree.Symbol.{Symbol}
use Rattle.flat_form.specs.declared.atom.Flat.{Flat}
use Rattle.flat_form.specs.declared.atom.Flat.TheVariants.{VarVar, VarTerm, Finite}
use Rattle.basic_solver.specs.Names.{name_in}
use Rattle.basic_solver.specs.Flags.{AreClasses, IsSet, without_term, IsGrounded}
use Rattle.basic_solver.proofs.Flagging.{cleared_back, cleared_there, cleared_kept, none_leaves}

abbrev pub IsCleared : List ℕ → List Bool → Flat → Type 0
IsCleared names done (VarVar u r) = Unit {0}
IsCleared names done (VarTerm u s xs) = ¬ IsSet names done u
IsCleared names done (Finite u) = Unit {0}

abbrev pub HasNamedTerm : List ℕ → List Flat → ℕ → Type 0
HasNamedTerm names atoms v = (u : ℕ) × (s : Symbol) × (xs : List ℕ) × Contains atoms (VarTerm u s xs) × (name_in names u ≡ name_in names v)

pub cleared_stays : (names : List ℕ) (done : List Bool) (a b : Flat) → IsCleared names done b → IsCleared names (without_term names a done) b
cleared_stays names done (VarVar u r) b h = h
cleared_stays names done (Finite u) b h = h
cleared_stays names done (VarTerm u s xs) (VarVar v r) h = tt
cleared_stays names done (VarTerm u s xs) (VarTerm v t ys) h = λ e. h (cleared_back done (name_in names u) (name_in names v) e)
cleared_stays names done (VarTerm u s xs) (Finite v) h = tt

pub cleared_here : (names : List ℕ) (done : List Bool) (a : Flat) → IsCleared names (without_term names a done) a
cleared_here names done (VarVar u r) = tt
cleared_here names done (VarTerm u s xs) = cleared_there done (name_in names u)
cleared_here names done (Finite u) = tt

pub cleared_size : (names : List ℕ) (done : List Bool) (a : Flat) → length (without_term names a done) ≡ length done
cleared_size names done (VarVar u r) = refl
cleared_size names done (VarTerm u s xs) = length-set done (name_in names u) false
cleared_size names done (Finite u) = refl

pub cleared_more : (names : List ℕ) (done : List Bool) (a : Flat) (atoms : List Flat) → All (IsCleared names done) atoms → All (IsCleared names (without_term names a done)) atoms
cleared_more names done a atoms h = All-weaker (IsCleared names done) (IsCleared names (without_term names a done)) (cleared_stays names done a) atoms h

pub cleared_term : (names : List ℕ) (atoms : List Flat) (done : List Bool) (a : Flat) → Contains atoms a
    → ((v : ℕ) → v < length names → ¬ IsSet names done v → HasNamedTerm names atoms v)
    → (v : ℕ) → v < length names → ¬ IsSet names (without_term names a done) v → HasNamedTerm names atoms v
cleared_term names atoms done (VarVar u r) i term v w n = term v w n
cleared_term names atoms done (Finite u) i term v w n = term v w n
cleared_term names atoms done (VarTerm u s xs) i term v w n = elim (eqb_tells (name_in names u) (name_in names v)) [
  | inl h ↦ (u, s, xs, i, h.1)
  | inr h ↦ term v w (λ p. n (cleared_kept done (name_in names u) (name_in names v) p (λ q. h.1 (sym q))))
]

pub grounded_first : (names : List ℕ) (atoms : List Flat) (done : List Bool) → length done ≡ length names → All (IsCleared names done) atoms
    → ((v : ℕ) → v < length names → ¬ IsSet names done v → HasNamedTerm names atoms v) → AreClasses names atoms → IsGrounded names atoms done
grounded_first names atoms done size cleared term classes =
    let bare : (u : ℕ) (s : Symbol) (xs : List ℕ) → Contains atoms (VarTerm u s xs) → ¬ IsSet names done u
    = λ u s xs i. All-contains (IsCleared names done) atoms (VarTerm u s xs) cleared i in
    record {
      size = size;
      down = λ u s xs i p. absurd (bare u s xs i p);
      no_round = none_leaves names atoms classes done bare;
      term = term;
    }
