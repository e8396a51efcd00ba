-- The longest token at the front of a text.
use Rattle.std.proofs.Common.{unwrap_or, below_more, ◌≡◌, ℕ, zero, suc, ◌+◌, ◌-◌, ◌≤◌, ◌<◌, List, take, length, Option, Some, None, IfSome, refl, ◌∙◌, ap, subst, sym, arith}
use Rattle.std.specs.Option.{option_map, option_or}
use Rattle.formula_ast.specs.declared.token.TokenKind.{TokenKind}
use Rattle.formula_ast.specs.Tokens.{kind_of, longest, front}

-- no text of more than j bytes at the front is a token
pub record NoLonger (bs : List ℕ) (j : ℕ) : Type 0 where
  pub none : (m : ℕ) → j < m → m ≤ length bs → kind_of (take m bs) ≡ None

cut : (bs : List ℕ) (j d : ℕ) → NoLonger bs j → j + d ≤ length bs → longest (d + j) bs ≡ longest j bs
cut bs j zero h w = ap (λ n. longest n bs) (omega arith)
cut bs j (suc d) h w =
    let same : suc d + j ≡ suc (d + j) = omega arith in
    let gone : kind_of (take (suc (d + j)) bs) ≡ None = h.none (suc (d + j)) (omega arith) (omega arith) in
    rw (same, gone) (cut bs j d h (omega arith))

pub front_cut : (bs : List ℕ) (j : ℕ) → NoLonger bs j → j ≤ length bs → front bs ≡ longest j bs
unfolding front
front_cut bs j h w =
    let d : (d : ℕ) × (d + j ≡ length bs) = ((length bs) - j, omega arith) in
    ap (λ n. longest n bs) (sym d.1) ∙ cut bs j d.0 h (omega (arith, d.1))

pub front_is : (bs : List ℕ) (kind : TokenKind) (n : ℕ) → kind_of (take n bs) ≡ Some kind → 0 < n → n ≤ length bs → NoLonger bs n → front bs ≡ Some (kind, n)
front_is bs kind zero e p w h = absurd (omega arith)
front_is bs kind (suc n) e p w h = rw (front_cut bs (suc n) h w, e) refl

pub front_none : (bs : List ℕ) → NoLonger bs 0 → front bs ≡ None
front_none bs h = front_cut bs 0 h (omega arith)

longest_within : (bs : List ℕ) (n : ℕ) → IfSome (longest n bs) (λ found. (0 < found.1) × (found.1 ≤ n))
longest_within bs zero = tt
longest_within bs (suc n) = step (kind_of (take (suc n) bs)) (longest n bs) (longest_within bs n)
  where
    step : (kind : Option TokenKind) (rest : Option (TokenKind × ℕ)) → IfSome rest (λ found. (0 < found.1) × (found.1 ≤ n))
        → IfSome (option_or (option_map (λ k. (k, suc n)) kind) rest) (λ found. (0 < found.1) × (found.1 ≤ suc n))
    step (Some kind) rest h = (omega arith, omega arith)
    step None (Some found) h = (h.0, omega (arith, h.1))
    step None None h = tt

-- the token at the front has bytes, and they are of the text
front_within : (bs : List ℕ) → IfSome (front bs) (λ found. (0 < found.1) × (found.1 ≤ length bs))
unfolding front
front_within bs = longest_within bs (length bs)

pub found_within : (bs : List ℕ) (found : Option (TokenKind × ℕ)) → found ≡ front bs → IfSome found (λ f. (0 < f.1) × (f.1 ≤ length bs))
found_within bs found e = subst (λ o. IfSome o (λ f. (0 < f.1) × (f.1 ≤ length bs))) (sym e) (front_within bs)

longest_is : (bs : List ℕ) (j : ℕ) (kind : TokenKind) (n : ℕ) → longest j bs ≡ Some (kind, n)
    → (kind_of (take n bs) ≡ Some kind) × ((m : ℕ) → m < j + 1 → n < m → kind_of (take m bs) ≡ None)
longest_is bs zero kind n e = absurd (cc)
longest_is bs (suc j) kind n e = step (kind_of (take (suc j) bs)) refl (λ rest. longest_is bs j kind n rest) e
  where
    step : (found : Option TokenKind) → kind_of (take (suc j) bs) ≡ found
        → (longest j bs ≡ Some (kind, n) → (kind_of (take n bs) ≡ Some kind) × ((m : ℕ) → m < j + 1 → n < m → kind_of (take m bs) ≡ None))
        → option_or (option_map (λ k. (k, suc j)) found) (longest j bs) ≡ Some (kind, n)
        → (kind_of (take n bs) ≡ Some kind) × ((m : ℕ) → m < suc j + 1 → n < m → kind_of (take m bs) ≡ None)
    step (Some k) here rest h =
        let len : suc j ≡ n = ap (λ o. (unwrap_or {T = TokenKind × ℕ} o (k, 0)).1) h in
        let same : k ≡ kind = ap (λ o. (unwrap_or {T = TokenKind × ℕ} o (k, 0)).0) h in
        (ap (λ m. kind_of (take m bs)) (sym len) ∙ here ∙ ap (λ x. Some x) same, λ m below above. absurd (omega arith))
    step None here rest h =
        let r = rest h in
        let P : ℕ → Type 0 = λ m. n < m → kind_of (take m bs) ≡ None in
        (r.0, below_more P (suc j) (λ m below above. r.1 m (omega arith) above) (λ above. here))

-- the text of the token at the front has its kind, and no longer text has any
pub record IsLongest (bs : List ℕ) (kind : TokenKind) (n : ℕ) : Type 0 where
  pub is_token : kind_of (take n bs) ≡ Some kind
  pub no_longer : (m : ℕ) → n < m → m ≤ length bs → kind_of (take m bs) ≡ None

pub front_longest : (bs : List ℕ) (kind : TokenKind) (n : ℕ) → Some (kind, n) ≡ front bs → IsLongest bs kind n
unfolding front
front_longest bs kind n e =
    let l = longest_is bs (length bs) kind n (sym e) in
    record { is_token = l.0; no_longer = λ m above below. l.1 m (omega arith) above }

longest_none : (bs : List ℕ) (j : ℕ) → longest j bs ≡ None → (m : ℕ) → m < j + 1 → 0 < m → kind_of (take m bs) ≡ None
longest_none bs zero e = λ m below some. absurd (omega arith)
longest_none bs (suc j) e = step (kind_of (take (suc j) bs)) refl (λ rest. longest_none bs j rest) e
  where
    step : (found : Option TokenKind) → kind_of (take (suc j) bs) ≡ found
        → (longest j bs ≡ None → (m : ℕ) → m < j + 1 → 0 < m → kind_of (take m bs) ≡ None)
        → option_or (option_map (λ k. (k, suc j)) found) (longest j bs) ≡ None
        → (m : ℕ) → m < suc j + 1 → 0 < m → kind_of (take m bs) ≡ None
    step (Some k) here rest h = λ m below some. absurd (cc)
    step None here rest h =
        let P : ℕ → Type 0 = λ m. 0 < m → kind_of (take m bs) ≡ None in
        below_more P (suc j) (λ m below some. rest h m (omega arith) some) (λ some. here)

pub none_longest : (bs : List ℕ) → None ≡ front bs → (m : ℕ) → 0 < m → m ≤ length bs → kind_of (take m bs) ≡ None
unfolding front
none_longest bs e m some below = longest_none bs (length bs) (sym e) m (omega arith) some
