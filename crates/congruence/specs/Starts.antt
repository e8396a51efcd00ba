-- What an atom more makes wait.
use Rattle.std.specs.Prelude.{◌≡◌, ℕ, ◌<◌, List, [], ◌∷◌, ◌++◌, length, map, Contains, None, Some}
use Rattle.tree_model.specs.declared.tree.Symbol.{Symbol}
use Rattle.flat_form.specs.declared.atom.Flat.{Flat}
use Rattle.flat_form.specs.declared.atom.Flat.TheVariants.{VarVar, VarTerm, Finite}
use Rattle.term_graph.specs.declared.bound.Bound.TheVariants.{Term}
use Rattle.term_graph.specs.Contents.{Contents, binding_of, term_at, IsLeader, with_term, with_binding}
use Rattle.settled_facts.specs.Settled.{name, IsFree, IsShaped, IsSettled}
use Rattle.congruence.specs.Agenda.{owner, Agenda, idle, Joins, HasTerm, IsUnderway}
use Rattle.congruence.specs.Merges.{IsAgendaSound}
use Rattle.congruence.specs.Turns.{ArePaired}

-- settled contents make nothing wait
abbrev pub SettledIsUnderway : Type 0
SettledIsUnderway = (c : Contents) (owners : List ℕ) (atoms : List Flat) → IsShaped c → IsSettled c owners atoms → IsUnderway c owners idle atoms

-- what an atom says is there, or waits
abbrev pub IsHeeded : Contents → List ℕ → Agenda → Flat → Type 0
IsHeeded c owners a (VarVar u v) = Joins c owners a u v
IsHeeded c owners a (VarTerm u symbol xs) = HasTerm c owners a u symbol xs
IsHeeded c owners a (Finite u) = Unit {0}

abbrev pub AtomWaits : Type 0
AtomWaits = (c : Contents) (owners : List ℕ) (a : Agenda) (atoms : List Flat) (atom : Flat)
    → IsUnderway c owners idle atoms → IsAgendaSound c owners a (atoms ++ atom ∷ []) → IsHeeded c owners a atom → IsUnderway c owners a (atoms ++ atom ∷ [])

-- an equation waits
abbrev pub EquationWaits : Type 0
EquationWaits = (c : Contents) (owners : List ℕ) (atoms : List Flat) (u v : ℕ)
    → IsUnderway c owners idle atoms → IsUnderway c owners (record { equal = (u, v) ∷ []; alike = [] }) (atoms ++ VarVar u v ∷ [])

-- where the class has a term with this symbol, the arguments wait
abbrev pub ArgumentsWait : Type 0
ArgumentsWait = (c : Contents) (owners : List ℕ) (atoms : List Flat) (u t : ℕ) (symbol : Symbol) (xs : List ℕ) (pairs : List (ℕ × ℕ))
    → IsShaped c → binding_of c.bindings (name c u) ≡ Term t → (term_at c.terms t).symbol ≡ symbol → length (term_at c.terms t).args ≡ length xs
    → ArePaired (term_at c.terms t).args xs [] pairs
    → IsUnderway c owners idle atoms → IsUnderway c owners (record { equal = pairs; alike = [] }) (atoms ++ VarTerm u symbol xs ∷ [])

-- where the class is free and there is such a term, the class waits for that of its owner
abbrev pub OwnerWaits : Type 0
OwnerWaits = (c : Contents) (owners : List ℕ) (atoms : List Flat) (u t : ℕ) (symbol : Symbol) (xs : List ℕ)
    → IsShaped c → IsLeader c.bindings c.terms symbol (map (name c) xs) (Some t)
    → IsUnderway c owners idle atoms → IsUnderway c owners (record { equal = (name c u, owner owners t) ∷ []; alike = [] }) (atoms ++ VarTerm u symbol xs ∷ [])

-- and where there is none, the class is bound to a new one, which it owns
abbrev pub TermStands : Type 0
TermStands = (c : Contents) (owners : List ℕ) (atoms : List Flat) (u : ℕ) (symbol : Symbol) (xs : List ℕ)
    → IsShaped c → length owners ≡ length c.terms → u < length c.bindings → ((x : ℕ) → Contains xs x → x < length c.bindings) → IsFree c (name c u) → IsLeader c.bindings c.terms symbol (map (name c) xs) None
    → IsUnderway c owners idle atoms
    → IsUnderway (with_binding (name c u) (Term (length c.terms)) (with_term symbol (map (name c) xs) c)) (owners ++ name c u ∷ []) idle (atoms ++ VarTerm u symbol xs ∷ [])
