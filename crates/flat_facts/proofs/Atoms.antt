-- Atoms read their own variables alone, and renumbered ones mean the same under the values of the new numbers.
use Rattle.std.proofs.Common.{ℕ, List, [], map, subst}
use Rattle.std.specs.Prelude.{Contains}
use Rattle.tree_model.specs.Signatures.{Signature, Alike}
use Rattle.tree_model.specs.Valuations.{Valuation}
use Rattle.tree_model.proofs.Sameness.{finite_same}
use Rattle.tree_facts.specs.Equations.{equals_variable, equals_term}
use Rattle.tree_facts.proofs.Equations.{equation_moves}
use Rattle.tree_facts.proofs.Members.{contains_first}
use Rattle.tree_facts.proofs.Renumbering.{renumbered_holds, contains_map, contains_image}
use Rattle.flat_form.specs.declared.atom.Flat.{Flat}
use Rattle.flat_form.specs.declared.atom.Flat.TheVariants.{VarVar, VarTerm, Finite}
use Rattle.flat_form.specs.Meanings.{AtomHolds, BasicHolds}
use Rattle.flat_form.specs.Parts.{variables_of, renumbered}
use Rattle.flat_facts.proofs.Lists.{holds_in, all_hold}

-- an atom speaks of its own variables alone
pub atom_moves : {σ : Signature} (a : Flat) (d e : Valuation σ) → ((v : ℕ) → Contains (variables_of a) v → Alike (d v) (e v)) → AtomHolds d a → AtomHolds e a
atom_moves {σ} (VarVar u r) d e alike holds = equation_moves σ d e (equals_variable u r) alike holds
atom_moves {σ} (VarTerm u s xs) d e alike holds = equation_moves σ d e (equals_term u s xs) alike holds
atom_moves {σ} (Finite u) d e alike holds = finite_same (d u).graph (e u).graph (alike u (contains_first u [])) holds

pub from_renumbered : {σ : Signature} (f : ℕ → ℕ) (e : Valuation σ) (a : Flat) → AtomHolds e (renumbered f a) → AtomHolds (λ v. e (f v)) a
from_renumbered {σ} f e (VarVar u r) holds = (renumbered_holds σ e f (equals_variable u r)).0 holds
from_renumbered {σ} f e (VarTerm u s xs) holds = (renumbered_holds σ e f (equals_term u s xs)).0 holds
from_renumbered {σ} f e (Finite u) holds = holds

pub to_renumbered : {σ : Signature} (f : ℕ → ℕ) (e : Valuation σ) (a : Flat) → AtomHolds (λ v. e (f v)) a → AtomHolds e (renumbered f a)
to_renumbered {σ} f e (VarVar u r) holds = (renumbered_holds σ e f (equals_variable u r)).1 holds
to_renumbered {σ} f e (VarTerm u s xs) holds = (renumbered_holds σ e f (equals_term u s xs)).1 holds
to_renumbered {σ} f e (Finite u) holds = holds

pub all_from_renumbered : {σ : Signature} (f : ℕ → ℕ) (e : Valuation σ) (atoms : List Flat) → BasicHolds e (map (renumbered f) atoms)
    → (a : Flat) → Contains atoms a → AtomHolds (λ v. e (f v)) a
all_from_renumbered f e atoms holds a i =
    from_renumbered f e a (holds_in e (map (renumbered f) atoms) (renumbered f a) holds (contains_map (renumbered f) atoms a i))

pub all_to_renumbered : {σ : Signature} (f : ℕ → ℕ) (e : Valuation σ) (atoms : List Flat) → ((a : Flat) → Contains atoms a → AtomHolds (λ v. e (f v)) a)
    → BasicHolds e (map (renumbered f) atoms)
all_to_renumbered f e atoms each = all_hold e (map (renumbered f) atoms) (λ b i.
    let (a, stands, same) = contains_image (renumbered f) atoms b i in
    let P : Flat → Type 0 = AtomHolds e in subst P same (to_renumbered f e a (each a stands)))
