-- The tokens of a text, step by step.
use Rattle.std.proofs.Common.{◌≡◌, ◌≢◌, length-drop, ℕ, zero, suc, ◌+◌, ◌≤◌, ◌<◌, Bool, true, false, ◌||◌, ◌==◌, List, [], ◌∷◌, drop, length, get_or, Some, None, refl, sym, ◌∙◌, ap, subst, arith, add-zero, sub-one}
use Rattle.std.proofs.lemmas.List.{drop-drop, get_or-drop}
use Rattle.std.proofs.Math.Seq.{drop-length}
use Rattle.formula_ast.specs.declared.token.TokenKind.{TokenKind}
use Rattle.formula_ast.specs.Tokens.{is_blank, comment_len, front, end, bad, token, token_of, tokens_of, tokens_at}
use Rattle.formula_tokens.specs.Fronts.{separates}

-- how many bytes are passed over, in a comment or outside
abbrev pub left : Bool → List ℕ → ℕ
left true bs = comment_len bs
left false bs = 0

pub reaches : (bytes rest : List ℕ) (from n : ℕ) → rest ≡ drop from bytes
    → ((at : ℕ) → tokens_of 0 at rest ≡ tokens_of 0 (at + n) (drop n rest)) → tokens_at bytes from ≡ tokens_at bytes (from + n)
unfolding tokens_at
reaches bytes rest from n r h =
    ap (λ x. tokens_of 0 from x) (sym r) ∙ h from
    ∙ ap (λ x. tokens_of 0 (from + n) x) (ap (λ x. drop n x) r ∙ drop-drop n from bytes)

pub at_end : (bytes : List ℕ) → tokens_at bytes (length bytes) ≡ end (length bytes)
unfolding tokens_at
at_end bytes = rw (drop-length bytes) refl

pub passed : (n at : ℕ) (bs : List ℕ) → n ≤ length bs → tokens_of n at bs ≡ tokens_of 0 (at + n) (drop n bs)
passed zero at bs h = ap (λ m. tokens_of 0 m bs) (sym (add-zero at))
passed (suc n) at [] h = absurd (omega arith)
passed (suc n) at (b ∷ bs) h =
    let less : n ≤ length bs = omega arith in
    passed n (at + 1) bs less ∙ ap (λ m. tokens_of 0 m (drop n bs)) (omega arith)

no_left : (x y : Bool) → (x || y) ≡ false → x ≡ false
no_left true y h = h
no_left false y h = refl

no_right : (x y : Bool) → (x || y) ≡ false → y ≡ false
no_right true y h = absurd (cc)
no_right false y h = h

found : (tail : List ℕ) (at : ℕ) (kind : TokenKind) (len : ℕ) → separates (get_or tail 0 0) ≡ false → front tail ≡ Some (kind, len) → 0 < len → len ≤ length tail
    → tokens_of 0 at tail ≡ token (token_of kind at len) (tokens_of 0 (at + len) (drop len tail))
found [] at kind len s e some w = absurd (omega arith)
found (b ∷ bs) at kind zero s e some w = absurd (omega arith)
found (b ∷ bs) at kind (suc len) s e some w =
    let less : len ≤ length bs = omega arith in
    let same : (at + 1) + len ≡ at + suc len = omega arith in
    rw (no_left (is_blank b) (b == 37) s, no_right (is_blank b) (b == 37) s, e, sub-one)
    (ap (λ more. token (token_of kind at (suc len)) more) (passed len (at + 1) bs less ∙ ap (λ m. tokens_of 0 m (drop len bs)) same))

none_found : (tail : List ℕ) (at : ℕ) → separates (get_or tail 0 0) ≡ false → front tail ≡ None → 0 < length tail → tokens_of 0 at tail ≡ bad at
none_found [] at s e some = absurd (omega arith)
none_found (b ∷ bs) at s e some = rw (no_left (is_blank b) (b == 37) s, no_right (is_blank b) (b == 37) s, e) refl

pub at_token : (bytes tail : List ℕ) (at : ℕ) (kind : TokenKind) (len : ℕ) → tail ≡ drop at bytes → separates (get_or tail 0 0) ≡ false
    → Some (kind, len) ≡ front tail → 0 < len → len ≤ length tail → tokens_at bytes at ≡ token (token_of kind at len) (tokens_at bytes (at + len))
unfolding tokens_at
at_token bytes tail at kind len t s e some w =
    ap (λ x. tokens_of 0 at x) (sym t) ∙ found tail at kind len s (sym e) some w
    ∙ ap (λ x. token (token_of kind at len) (tokens_of 0 (at + len) x)) (ap (λ x. drop len x) t ∙ drop-drop len at bytes)

pub at_bad : (bytes tail : List ℕ) (at : ℕ) → tail ≡ drop at bytes → separates (get_or tail 0 0) ≡ false
    → None ≡ front tail → 0 < length tail → tokens_at bytes at ≡ bad at
unfolding tokens_at
at_bad bytes tail at t s e some = ap (λ x. tokens_of 0 at x) (sym t) ∙ none_found tail at s (sym e) some

-- the byte behind blanks and comments neither is a blank nor begins a comment
pub tail_plain : (bytes rest tail : List ℕ) (from n : ℕ) → rest ≡ drop from bytes → tail ≡ drop (from + n) bytes → from ≤ length bytes
    → n ≤ length rest → from + n ≢ length bytes → (n < length rest → separates (get_or rest n 0) ≡ false) → separates (get_or tail 0 0) ≡ false
tail_plain bytes rest tail from n r t w within some stops =
    let less : n < length rest = omega (arith, ap (λ x. length x) r, length-drop from bytes) in
    let same : get_or rest n 0 ≡ get_or tail 0 0 =
    ap (λ x. get_or x n 0) r ∙ get_or-drop from bytes n 0 ∙ ap (λ i. get_or bytes i 0) (sym (add-zero (from + n)))
    ∙ sym (get_or-drop (from + n) bytes 0 0) ∙ ap (λ x. get_or x 0 0) (sym t) in
    subst (λ b. separates b ≡ false) same (stops less)
