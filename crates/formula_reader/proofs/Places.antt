-- What a token's reading answers is kept.
use Rattle.std.proofs.Common.{◌≡◌, ◌≤◌, ◌<◌, ℕ, List, length, Option, Some, None, arith}
use Rattle.std.specs.Prelude.{Result, Ok, Err, MatchResult, MatchOption, IfOk, IfSome, slice_range}
use Rattle.std.specs.Str.{IsAscii}
use Rattle.formula_ast.specs.declared.token.Token.{Token}
use Rattle.formula_ast.specs.Tokens.{end, bad, token, tokens_at}
use Rattle.formula_reader.specs.Input.{IsNext}

pub next_kept : (bytes : List ℕ) (at : ℕ) (r : Result (Option Token) ℕ)
    → MatchResult r (λ found. MatchOption found (tokens_at bytes at ≡ end (length bytes)) (λ t. tokens_at bytes at ≡ token t (tokens_at bytes t.to))) (λ n. tokens_at bytes at ≡ bad n)
    → IfOk r (λ found. IfSome found (λ t. (at ≤ t.from) × (t.from < t.to) × (t.to ≤ length bytes)))
    → IfOk r (λ found. IfSome found (λ t. IsAscii (slice_range bytes t.from t.to))) → IsNext bytes at r
next_kept bytes at (Ok (Some t)) begins within ascii = (begins, omega (arith, within.0, within.1), omega (arith, within.1), within.2, ascii)
next_kept bytes at (Ok None) begins within ascii = begins
next_kept bytes at (Err n) begins within ascii = begins
