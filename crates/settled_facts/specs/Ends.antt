-- Walks along equations that end.
use Rattle.std.specs.Prelude.{ℕ, ◌<◌, List, length, slice_index, Contains}
use Rattle.tree_model.specs.declared.tree.Symbol.{Symbol}
use Rattle.flat_form.specs.declared.atom.Flat.{Flat}
use Rattle.flat_form.specs.declared.atom.Flat.TheVariants.{VarTerm}
use Rattle.flat_form.specs.Classes.{Reached}
use Rattle.flat_facts.specs.Spread.{IsTarget, ComesRound, IsLeaf}
use Rattle.term_graph.specs.Contents.{Contents}
use Rattle.settled_facts.specs.Settled.{name, IsMarked, IsShaped, Firm, Follows}
use Rattle.settled_facts.specs.Forms.{AreEquations}

-- no walk from u along the equations goes on for ever: those from its arguments all end
pub data Ends (basic : List Flat) : ℕ → Type 0 where
  ends : (u : ℕ) → ((symbol : Symbol) (xs : List ℕ) → Contains basic (VarTerm u symbol xs) → (i : ℕ) → i < length xs → Ends basic (slice_index xs i)) → Ends basic u

-- then none comes round
abbrev pub EndsHasNoRound : Type 0
EndsHasNoRound =
    (basic : List Flat) (v : ℕ) (path : List ℕ) → ((start : ℕ) → IsTarget basic v start → Ends basic start) → ¬ ComesRound basic v path

-- and where each leaf has a mark, the variable is firm
abbrev pub MarkedLeavesMakeFirm : Type 0
MarkedLeavesMakeFirm =
    (c : Contents) (basic : List Flat) (v : ℕ) → IsShaped c → AreEquations c basic → Ends basic (name c v)
    → ((u : ℕ) → IsLeaf basic v u → IsMarked c u) → Firm c (name c v)

-- what must be finite makes the leaves finite at which walks from it end
abbrev pub LeavesAreReached : Type 0
LeavesAreReached =
    (c : Contents) (atoms basic : List Flat) (v u : ℕ) → IsShaped c → Follows c atoms → AreEquations c basic → Reached atoms v
    → IsLeaf basic v u → Reached atoms u
