-- Texts of tokens by their places.
use Rattle.std.proofs.Common.{◌≡◌, ℕ, ◌+◌, ◌-◌, ◌≤◌, ◌<◌, List, drop, length, Some, None, slice_range, ◌∙◌, ap, arith, length-drop}
use Rattle.formula_ast.specs.declared.token.TokenKind.{TokenKind}
use Rattle.formula_ast.specs.Tokens.{kind_of, front}
use Rattle.formula_tokens.proofs.Longest.{front_longest, none_longest}

module _ (bytes tail : List ℕ) (at : ℕ) (t : tail ≡ drop at bytes) (kind : TokenKind) (len : ℕ) (e : Some (kind, len) ≡ front tail) where
  pub text_kind : kind_of (slice_range bytes at (at + len)) ≡ Some kind
  text_kind =
      let size : (at + len) - at ≡ len = omega arith in
      rw (size, ← t) (front_longest tail kind len e).is_token

  pub no_longer_text : (to : ℕ) → at + len < to → to ≤ length bytes → kind_of (slice_range bytes at to) ≡ None
  no_longer_text to above below =
      let size : length tail ≡ length bytes - at = ap (λ x. length x) t ∙ length-drop at bytes in
      rw (← t) ((front_longest tail kind len e).no_longer (to - at) (omega arith) (omega (arith, size)))

pub no_text : (bytes tail : List ℕ) (at : ℕ) → tail ≡ drop at bytes → None ≡ front tail
    → (to : ℕ) → at < to → to ≤ length bytes → kind_of (slice_range bytes at to) ≡ None
no_text bytes tail at t e to above below =
    let size : length tail ≡ length bytes - at = ap (λ x. length x) t ∙ length-drop at bytes in
    rw (← t) (none_longest tail e (to - at) (omega arith) (omega (arith, size)))
