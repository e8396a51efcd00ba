use Rattle.std.proofs.Common.{◌≡◌, take}
use Rattle.answer_texts.proofs.wording.front.Given as goal

abbrev pub invariant-loop-place : goal.invariant-loop-place
invariant-loop-place l = l.front ≡ take l.place l.names
