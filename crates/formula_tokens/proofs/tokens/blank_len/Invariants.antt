use Rattle.std.proofs.Common.{◌≡◌, ℕ, ◌+◌, drop}
use Rattle.formula_ast.specs.Tokens.{tokens_of}
use Rattle.formula_tokens.proofs.Streams.{left}
use Rattle.formula_tokens.proofs.tokens.blank_len.Given as goal

abbrev pub invariant-bytes : goal.invariant-bytes
invariant-bytes l = record {
  count : l.n ≡ l.b-index;
  rest : (at : ℕ) → tokens_of 0 at l.bytes ≡ tokens_of (left l.in_comment (drop l.b-index l.bytes)) (at + l.b-index) (drop l.b-index l.bytes);
}
