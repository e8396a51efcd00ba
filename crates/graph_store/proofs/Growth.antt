-- Variables more, one after the other.
use Rattle.std.proofs.Common.{ℕ, ◌≡◌, ◌+◌, List, [], ◌∷◌, refl, sym, subst, inr, arith}
use Rattle.std.proofs.lemmas.List.{length_push}
use Rattle.term_graph.specs.declared.bound.Bound.TheVariants.{Free}
use Rattle.term_graph.specs.Contents.{Contents, History, Grows, grown, Grew, empty, with_variable, IsWellFormed}
use Rattle.term_graph.proofs.Growing.{grows_on}
use Rattle.settled_facts.proofs.Terms.{shaped_of}
use Rattle.settled_facts.proofs.Alike.{nothing_settled, variable_keeps}
use Rattle.basic_solver.specs.declared.scope.Scope.{Scope}
use Rattle.graph_store.specs.declared.floor.Floor.{Floor}
use Rattle.graph_store.specs.Levels.{IsLevel, AreLevels, lowest, HasGrownBy}

pub grown_none : (c : Contents) → HasGrownBy c c 0
grown_none c = record { variables = omega arith; terms = refl; settled = λ owners atoms is. is }

pub grown_more : (first : Contents) (old new : History) (count : ℕ) → IsWellFormed old.contents → new ≡ grown Grew (with_variable old.contents) old
    → HasGrownBy first old.contents count → HasGrownBy first new.contents (count + 1)
grown_more first old new count formed e so_far =
    subst (λ (z : History). HasGrownBy first z.contents (count + 1)) (sym e) (record {
      variables = omega (arith, so_far.variables, length_push old.contents.bindings Free);
      terms = so_far.terms;
      settled = λ owners atoms is. variable_keeps old.contents owners atoms (shaped_of old.contents formed) (so_far.settled owners atoms is);
    })

pub grows_more : (first old new : History) → new ≡ grown Grew (with_variable old.contents) old → Grows first old → Grows first new
grows_more first old new e grows = grows_on first old new grows (inr (Grew, with_variable old.contents, e))

-- one scope with variables, and nothing besides
pub first_level : (start new : History) (owners : List ℕ) (scopes : List Scope) (floors : List Floor) (count : ℕ) → start ≡ empty → HasGrownBy start.contents new.contents count
    → owners ≡ [] → floors ≡ [] → scopes ≡ record { variables = count; atoms = [] } ∷ [] → AreLevels new owners scopes floors
first_level start new owners scopes floors count at_start grown no_owners no_floors one =
    let from : HasGrownBy empty.contents new.contents count = subst (λ (z : History). HasGrownBy z.contents new.contents count) at_start grown in
    let scope : Scope = record { variables = count; atoms = [] } in
    let level : IsLevel new.contents [] (scope ∷ []) = record {
      settled = from.settled [] [] (nothing_settled empty.contents [] refl refl refl);
      owned = record { counted = sym from.terms; within = λ t w. absurd (omega (arith, w, from.terms)) };
      variables = omega (arith, from.variables);
    } in
    subst (λ (z : List ℕ). AreLevels new z scopes floors) (sym no_owners)
    (subst (λ (z : List Scope). AreLevels new [] z floors) (sym one)
    (subst (λ (z : List Floor). AreLevels new [] (scope ∷ []) z) (sym no_floors) (lowest new [] scope level)))
