use Rattle.std.proofs.Common.{ℕ, ◌≡◌, true, false, length, get_or, take}
use Rattle.std.specs.Prelude.{All}
use Rattle.flat_form.specs.Solved.{HasTerm}
use Rattle.basic_solver.proofs.Led.{IsLed}
use Rattle.basic_solver.proofs.bases.leads_of.Given as goal

abbrev pub invariant-loop-i : goal.invariant-loop-i
invariant-loop-i l = record {
  size : length l.leads.items ≡ l.count;
  sound : (v : ℕ) → get_or l.leads.items v false ≡ true → HasTerm l.base v;
  all : All (IsLed l.leads.items) (take l.i l.base);
}
