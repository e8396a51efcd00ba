-- How many bytes are still to be read.
use Rattle.std.proofs.Common.{◌≡◌, ◌⊎◌, inl, inr, ℕ, ◌≤◌, ◌<◌, ◌-◌, List, [], length, refl, sym, ◌∙◌, ap, arith, true}
use Rattle.formula_ast.specs.declared.token.TokenKind.{TokenKind}
use Rattle.std.proofs.lemmas.List.{drop_all}
use Rattle.formula_ast.specs.declared.token.Token.{Token}
use Rattle.formula_ast.specs.Tokens.{Stream, end, bad, token, tokens_of, tokens_at}
use Rattle.formula_grammar.specs.declared.fault.FaultKind.{FaultKind}
use Rattle.formula_reader.specs.Input.{Input, left_of, starts}
use Rattle.formula_reader.specs.Faults.{Takes}
use Rattle.std.specs.Prelude.{Option}

abbrev pub room : Input → ℕ
room i = length i.bytes - i.at

compare : (m n : ℕ) → (m ≤ n) ⊎ (n < m)
compare m n = grind arith

none_past : (bytes : List ℕ) (at : ℕ) (t : Token) (more : Stream) → tokens_at bytes at ≡ token t more → length bytes ≤ at → ⊥
unfolding tokens_at
none_past bytes at t more is past = let ends : tokens_of 0 at [] ≡ token t more = sym (ap (tokens_of 0 at) (drop_all at bytes past)) ∙ is in cc

-- where a token is left, a byte is left
token_within : (bytes : List ℕ) (at : ℕ) (t : Token) (more : Stream) → tokens_at bytes at ≡ token t more → at < length bytes
token_within bytes at t more is = by_case (compare (length bytes) at)
  where
    by_case : (length bytes ≤ at) ⊎ (at < length bytes) → at < length bytes
    by_case (inl past) = absurd (none_past bytes at t more is past)
    by_case (inr within) = within

-- a taken token leaves less
pub less : {wrong : Option FaultKind} {old new : Input} → Takes wrong old new → room new < room old
less {old = old} {new = new} h =
    let within = token_within old.bytes old.at h.taken (left_of new) h.left in
    let same = ap (λ (bytes : List ℕ). length bytes) h.bytes in
    omega (arith, h.on)

pub kept : (old new : Input) → new.bytes ≡ old.bytes → old.at ≤ new.at → room new ≤ room old
kept old new bytes on = let same = ap (λ (b : List ℕ). length b) bytes in omega arith

seen_from : (kind : TokenKind) (bytes : List ℕ) (at : ℕ) (i : Stream) → tokens_at bytes at ≡ i → starts kind i ≡ true → at < length bytes
seen_from kind bytes at (end n) e h = absurd (cc h)
seen_from kind bytes at (bad n) e h = absurd (cc h)
seen_from kind bytes at (token t more) e h = token_within bytes at t more e

-- fewer bytes are left behind a token that was seen
pub less_seen : (kind : TokenKind) (mid new : Input) → starts kind (left_of mid) ≡ true → new.bytes ≡ mid.bytes → mid.at < new.at → room new < room mid
less_seen kind mid new seen bytes further =
    let within = seen_from kind mid.bytes mid.at (left_of mid) refl seen in
    let same = ap (λ (b : List ℕ). length b) bytes in
    omega arith

-- and behind a token that is there
pub less_token : (old new : Input) (t : Token) (more : Stream) → left_of old ≡ token t more → new.bytes ≡ old.bytes → old.at < new.at → room new < room old
less_token old new t more left bytes further =
    let within = token_within old.bytes old.at t more left in
    let same = ap (λ (b : List ℕ). length b) bytes in
    omega arith
