use Rattle.std.proofs.Common.{◌≡◌, length, take}
use Rattle.std.specs.Prelude.{All}
use Rattle.basic_solver.specs.Terms.{IsNoted}
use Rattle.basic_solver.proofs.Noting.{HaveTerms}
use Rattle.basic_solver.proofs.terms.terms_of.Given as goal

abbrev pub invariant-loop-i : goal.invariant-loop-i
invariant-loop-i l = record {
  size : length l.terms.items ≡ length l.names;
  have : HaveTerms l.names l.atoms l.terms.items;
  noted : All (IsNoted l.names l.terms.items) (take l.i l.atoms);
}
