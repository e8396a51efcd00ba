-- Contents without atoms, and with a variable more.
use Rattle.std.specs.Prelude.{◌≡◌, ℕ, List, []}
use Rattle.flat_form.specs.declared.atom.Flat.{Flat}
use Rattle.term_graph.specs.Contents.{Contents, with_variable}
use Rattle.settled_facts.specs.Settled.{IsShaped, IsSettled}

-- a variable more, which no atom has, changes nothing of what is settled
abbrev pub VariableKeepsSettled : Type 0
VariableKeepsSettled = (c : Contents) (owners : List ℕ) (atoms : List Flat) → IsShaped c → IsSettled c owners atoms → IsSettled (with_variable c) owners atoms

-- contents with nothing in them have settled no atoms
abbrev pub NothingIsSettled : Type 0
NothingIsSettled = (c : Contents) (owners : List ℕ) → c.bindings ≡ [] → c.marks ≡ [] → c.terms ≡ [] → IsSettled c owners []
