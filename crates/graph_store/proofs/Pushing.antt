-- A scope more.
use Rattle.std.proofs.Common.{ℕ, ◌≡◌, List, [], ◌∷◌, ◌++◌, length, take, sym, ◌∙◌, ap, subst, append-nil, arith}
use Rattle.std.proofs.lemmas.List.{take_all}
use Rattle.flat_form.specs.declared.atom.Flat.{Flat}
use Rattle.term_graph.specs.Contents.{History, back_to, Grows}
use Rattle.settled_facts.specs.Settled.{IsSettled}
use Rattle.basic_solver.specs.declared.scope.Scope.{Scope}
use Rattle.basic_solver.specs.Stores.{atoms_of}
use Rattle.basic_solver.proofs.Storing.{atoms_push, open_push}
use Rattle.graph_store.specs.declared.floor.Floor.{Floor}
use Rattle.graph_store.specs.Levels.{IsLevel, AreLevels, lowest, above, HasGrownBy}

-- what holds of the graph now
pub level_now : (h : History) (owners : List ℕ) (scopes : List Scope) (floors : List Floor) → AreLevels h owners scopes floors → IsLevel h.contents owners scopes
level_now h owners scopes floors (lowest g mine scope level) = level
level_now h owners scopes floors (above g mine under scope below last level low few levels) = level

pub opened : (h new : History) (owners : List ℕ) (scopes : List Scope) (floors : List Floor) (floor : Floor) (count : ℕ) → AreLevels h owners scopes floors
    → Grows h new → HasGrownBy h.contents new.contents count → floor.mark.length ≡ length h.trail → floor.owners ≡ length owners
    → AreLevels new owners (scopes ++ record { variables = count; atoms = [] } ∷ []) (floors ++ floor ∷ [])
opened h new owners scopes floors floor count levels grows grown at_trail at_owners =
    let scope : Scope = record { variables = count; atoms = [] } in
    let now = level_now h owners scopes floors levels in
    let level : IsLevel new.contents owners (scopes ++ scope ∷ []) = record {
      settled = subst (λ (z : List Flat). IsSettled new.contents owners z) (sym (atoms_push scopes scope ∙ append-nil (atoms_of scopes))) (grown.settled owners (atoms_of scopes) now.settled);
      owned = record {
        counted = now.owned.counted ∙ sym grown.terms;
        within = λ t w. omega (arith, now.owned.within t (omega (arith, w, grown.terms)), grown.variables);
      };
      variables = omega (arith, grown.variables, now.variables, open_push scopes scope);
    } in
    above new owners scopes scope floors floor level (omega (arith, grows.0, at_trail)) (omega (arith, at_owners))
    (subst (λ (z : List ℕ). AreLevels (back_to floor.mark.length new) z scopes floors) (sym (ap (λ n. take n owners) at_owners ∙ take_all (length owners) owners (omega arith)))
    (subst (λ (z : History). AreLevels z owners scopes floors) (sym (ap (λ n. back_to n new) at_trail ∙ grows.1)) levels))

-- with plain lists
pub opened_to : (h new : History) (owners : List ℕ) (scopes after : List Scope) (floors more : List Floor) (floor : Floor) (count : ℕ) (atoms : List Flat) → AreLevels h owners scopes floors
    → Grows h new → HasGrownBy h.contents new.contents count → floor.mark.length ≡ length h.trail → floor.owners ≡ length owners
    → atoms ≡ [] → after ≡ scopes ++ record { variables = count; atoms = atoms } ∷ [] → more ≡ floors ++ floor ∷ [] → AreLevels new owners after more
opened_to h new owners scopes after floors more floor count atoms levels grows grown at_trail at_owners none is_after is_more =
    subst (λ (z : List Scope). AreLevels new owners z more) (sym (is_after ∙ ap (λ (z : List Flat). scopes ++ record { variables = count; atoms = z } ∷ []) none))
    (subst (λ (z : List Floor). AreLevels new owners (scopes ++ record { variables = count; atoms = [] } ∷ []) z) (sym is_more)
    (opened h new owners scopes floors floor count levels grows grown at_trail at_owners))
