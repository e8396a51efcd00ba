-- How far a search along the terms of a graph is, class by class.
use Rattle.std.specs.Prelude.{ℕ, ◌≡◌, ◌<◌, ◌≤◌, nat_eq, List, length, slice_index, Option, Some}
use Rattle.std.specs.Map.{lookup}
use Rattle.tree_model.specs.declared.tree.Symbol.{Symbol}
use Rattle.term_graph.specs.Contents.{Contents}
use Rattle.settled_facts.specs.Settled.{HasTermIn}
use Rattle.finiteness.specs.declared.visits.Stage.{Stage}
use Rattle.finiteness.specs.declared.visits.Stage.TheVariants.{Done}
use Rattle.finiteness.specs.declared.walks.Turn.{Turn}

-- how far the search is with the class, if it has met it
abbrev pub stage_of : List (ℕ × Stage) → ℕ → Option Stage
stage_of visits class = lookup (nat_eq class) visits

-- the search has shown that all walks from the class end
abbrev pub IsDone : List (ℕ × Stage) → ℕ → Type 0
IsDone visits class = stage_of visits class ≡ Some Done

-- the arguments of the class's term, from one number on and below another, are done
abbrev pub AreDoneBelow : Contents → List (ℕ × Stage) → ℕ → ℕ → ℕ → Type 0
AreDoneBelow c visits class from upto =
    (symbol : Symbol) (ys : List ℕ) → HasTermIn c class symbol ys → (i : ℕ) → from ≤ i → i < upto → i < length ys → IsDone visits (slice_index ys i)

-- each argument from the one at hand on is done
abbrev pub AllAreDone : Contents → List (ℕ × Stage) → Turn → Type 0
AllAreDone c visits at = (upto : ℕ) → AreDoneBelow c visits at.class at.argument upto

-- the first argument, from the one at hand on, that is not done, and its class
pub record IsNext (c : Contents) (visits : List (ℕ × Stage)) (at next : Turn) : Type 0 where
  pub symbol : Symbol
  pub arguments : List ℕ
  pub term : HasTermIn c at.class symbol arguments
  pub from : at.argument ≤ next.argument
  pub within : next.argument < length arguments
  pub class : slice_index arguments next.argument ≡ next.class
  pub passed : AreDoneBelow c visits at.class at.argument next.argument
  pub waits : ¬ IsDone visits next.class
