-- What a search from a class of a graph finds.
use Rattle.std.specs.Prelude.{ℕ, ◌≡◌, ◌<◌, List, length, Contains, ◌↔◌}
use Rattle.std.specs.Map.{keys_of}
use Rattle.flat_facts.specs.Spread.{IsLeastRound}
use Rattle.term_graph.specs.Contents.{Contents}
use Rattle.settled_facts.specs.Settled.{name}
use Rattle.settled_facts.specs.Ends.{Ends}
use Rattle.settled_facts.specs.Forms.{equations_of}
use Rattle.finiteness.specs.declared.walks.Walked.{Walked}
use Rattle.finiteness.specs.declared.walks.Walked.TheVariants.{Round, Ended}
use Rattle.finiteness.specs.Found.{Reaches}

-- all walks from the class end, and these are the classes that they meet, all of which there are
pub record AreMet (c : Contents) (start : ℕ) (classes : List ℕ) : Type 0 where
  pub ends : Ends (equations_of c) start
  pub within : (u : ℕ) → Contains classes u → u < length c.bindings
  pub met : (u : ℕ) → Contains classes u ↔ Reaches (equations_of c) start u

-- the least path of a walk that comes round, or that none does
abbrev pub IsWalked : Contents → ℕ → Walked → Type 0
IsWalked c start (Round path) = (v : ℕ) → name c v ≡ start → IsLeastRound (equations_of c) v path
IsWalked c start (Ended visits) = AreMet c start (keys_of visits.entries)
