use Rattle.std.proofs.Common.{◌≡◌, ◌<◌, ◌+◌, ◌*◌, ◌∷◌, length}
use Rattle.formula_ast.specs.Terms.{list_of}
use Rattle.formula_ast.specs.declared.token.TokenKind.TheVariants as k
use Rattle.formula_grammar.specs.Machine as m
use Rattle.formula_reader.specs.Input.{place_of}
use Rattle.formula_reader.specs.Kinds.{head_of}
use Rattle.formula_reader.specs.Faults.{fault_of}
use Rattle.formula_reader.proofs.Rooms.{room}
use Rattle.formula_reader.proofs.TermReading.{ReadOpened}
use Rattle.formula_reader.proofs.reader.Reader.+terms.Given as goal

abbrev pub decreases-term : goal.decreases-term
decreases-term l = 4 * room l.self.now + 2

abbrev pub decreases-headed : goal.decreases-headed
decreases-headed l = 4 * room l.self.now + 1

abbrev pub decreases-arguments : goal.decreases-arguments
decreases-arguments l = 4 * room l.self.now

abbrev pub invariant-arguments-more : goal.invariant-arguments-more
invariant-arguments-more l = record {
  read : ReadOpened l.signature l.fn.self l.self (list_of l.found);
  faults : (s : m.Stack) → fault_of l.signature l.fn.self (m.arguments (head_of l.head) (place_of l.fn.self l.fn.place) ∷ s)
      ≡ fault_of l.signature l.self (m.more_arguments (head_of l.head) (length (list_of l.found)) (m.deeper (place_of l.fn.self l.fn.place)) ∷ m.plain k.RightParen ∷ s);
  less : room l.self < room l.fn.self;
}

abbrev pub decreases-arguments-more : goal.decreases-arguments-more
decreases-arguments-more l = room l.self
