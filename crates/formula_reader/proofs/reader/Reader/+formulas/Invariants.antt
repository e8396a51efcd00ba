use Rattle.std.proofs.Common.{◌≡◌, ◌+◌, ◌-◌, ◌*◌, ◌∷◌}
use Rattle.formula_grammar.specs.Grammar.{left}
use Rattle.formula_grammar.specs.Machine as m
use Rattle.formula_reader.specs.Input.{place_of}
use Rattle.formula_reader.specs.Kinds.{joint_of}
use Rattle.formula_reader.specs.Faults.{fault_of}
use Rattle.formula_reader.proofs.Rooms.{room}
use Rattle.formula_reader.proofs.AtomReading.{ReadOperand}
use Rattle.formula_reader.proofs.FormulaReading.{Binds}
use Rattle.formula_reader.proofs.reader.Reader.+formulas.Given as goal

abbrev pub decreases-operand : goal.decreases-operand
decreases-operand l = 8 * room l.self.now + (6 - l.level)

abbrev pub decreases-unary : goal.decreases-unary
decreases-unary l = 8 * room l.self.now

abbrev pub decreases-quantified : goal.decreases-quantified
decreases-quantified l = 8 * room l.self.now

abbrev pub invariant-operand-more : goal.invariant-operand-more
invariant-operand-more l = record {
  read : ReadOperand (left (joint_of l.joint)) l.signature l.fn.self l.self l.left;
  faults : (s : m.Stack) → fault_of l.signature l.fn.self (m.operand l.fn.level (place_of l.fn.self l.place) ∷ s)
      ≡ fault_of l.signature l.self (m.tail (joint_of l.joint) (place_of l.fn.self l.place) ∷ s);
}

abbrev pub decreases-operand-more : goal.decreases-operand-more
decreases-operand-more l = room l.self

abbrev pub invariant-quantified-more : goal.invariant-quantified-more
invariant-quantified-more l = record { binds : Binds l.signature l.place l.fn.self l.self }

abbrev pub decreases-quantified-more : goal.decreases-quantified-more
decreases-quantified-more l = room l.self
