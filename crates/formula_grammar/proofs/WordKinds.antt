-- Each word of a text is of its kind.
use Rattle.std.proofs.Common.{◌≡◌, ℕ, zero, suc, ◌+◌, ◌-◌, Bool, true, false, List, [], ◌∷◌, length, take, drop, Option, Some, None, unwrap_or, option_map, refl, sym, ◌∙◌, ap, arith, if◌then◌else◌, ◌==◌}
use Rattle.std.specs.Prelude.{slice_range}
use Rattle.std.specs.Option.{option_or}
use Rattle.std.proofs.lemmas.List.{drop-drop}
use Rattle.formula_ast.specs.declared.token.TokenKind.{TokenKind}
use Rattle.formula_ast.specs.Tokens.{Stream, Word, kind_of, longest, front, tokens_of, tokens_at, begun, comment_len, is_blank}
use Rattle.formula_grammar.specs.Words.{has_text, word}
use Rattle.formula_grammar.specs.Begins.{BeginsWith}

-- the text of each word that has one is, as a whole, a token of its kind
abbrev pub AreOfKinds : List Word → Type 0
AreOfKinds [] = Unit {0}
AreOfKinds (w ∷ ws) = (has_text w.kind ≡ true → kind_of w.text ≡ Some w.kind) × AreOfKinds ws

word_text : (kind : TokenKind) (text : List ℕ) (w : Word) → word kind text ≡ w → has_text w.kind ≡ true → w.text ≡ text
word_text kind text w e h =
    let has : has_text kind ≡ true = ap (λ (v : Word). has_text v.kind) e ∙ h in
    sym (ap (λ (v : Word). v.text) e) ∙ ap (λ b. if b then text else []) has

longest_is : (bs : List ℕ) (j : ℕ) (kind : TokenKind) (n : ℕ) → longest j bs ≡ Some (kind, n) → kind_of (take n bs) ≡ Some kind
longest_is bs zero kind n e = absurd (cc)
longest_is bs (suc j) kind n e = step (kind_of (take (suc j) bs)) refl (λ rest. longest_is bs j kind n rest) e
  where
    step : (found : Option TokenKind) → kind_of (take (suc j) bs) ≡ found → (longest j bs ≡ Some (kind, n) → kind_of (take n bs) ≡ Some kind)
        → option_or (option_map (λ k. (k, suc j)) found) (longest j bs) ≡ Some (kind, n) → kind_of (take n bs) ≡ Some kind
    step (Some k) here rest h =
        let len : suc j ≡ n = ap (λ o. (unwrap_or {T = TokenKind × ℕ} o (k, 0)).1) h in
        let same : k ≡ kind = ap (λ o. (unwrap_or {T = TokenKind × ℕ} o (k, 0)).0) h in
        ap (λ m. kind_of (take m bs)) (sym len) ∙ here ∙ ap (λ x. Some x) same
    step None here rest h = rest h

front_is : (bs : List ℕ) (kind : TokenKind) (n : ℕ) → front bs ≡ Some (kind, n) → kind_of (take n bs) ≡ Some kind
unfolding front
front_is bs kind n e = longest_is bs (length bs) kind n e

-- the text of a token that is found at the front of what is left
text_is : (bytes rest : List ℕ) (at len : ℕ) → drop at bytes ≡ rest → slice_range bytes at (at + len) ≡ take len rest
text_is bytes rest at len e = ap (λ n. take n (drop at bytes)) (omega arith) ∙ ap (λ l. take len l) e

drop_one : (bytes : List ℕ) (at : ℕ) (b : ℕ) (bs : List ℕ) → drop at bytes ≡ b ∷ bs → drop (at + 1) bytes ≡ bs
drop_one bytes at b bs e = sym (drop-drop 1 at bytes) ∙ ap (λ l. drop 1 l) e

module _ (bytes : List ℕ) (rest : Stream) where
  either : (c : Bool) (x y : Stream) (ws : List Word) (G : Type 0) → (BeginsWith bytes x ws rest → G) → (BeginsWith bytes y ws rest → G)
      → BeginsWith bytes (if c then x else y) ws rest → G
  either true x y ws G f g h = f h
  either false x y ws G f g h = g h

  first_word : (bs : List ℕ) (at : ℕ) (more : ℕ → Stream) (w : Word) (ws : List Word) → drop at bytes ≡ bs
      → ((n : ℕ) → BeginsWith bytes (more n) ws rest → AreOfKinds ws)
      → (found : Option (TokenKind × ℕ)) → front bs ≡ found → BeginsWith bytes (begun found at more) (w ∷ ws) rest → AreOfKinds (w ∷ ws)
  first_word bs at more w ws d next None f h = absurd h
  first_word bs at more w ws d next (Some (kind, len)) f h =
      let same : kind ≡ w.kind = ap (λ (v : Word). v.kind) h.0 in (
        (λ has. ap kind_of (word_text kind (slice_range bytes at (at + len)) w h.0 has ∙ text_is bytes bs at len d)
            ∙ front_is bs kind len f ∙ ap (λ x. Some x) same),
        next (len - 1) h.1,
      )

  of_kinds : (text : List ℕ) (passed at : ℕ) → drop at bytes ≡ text → (ws : List Word)
      → BeginsWith bytes (tokens_of passed at text) ws rest → AreOfKinds ws
  of_kinds text passed at d [] h = tt
  of_kinds [] passed at d (w ∷ ws) h = absurd h
  of_kinds (b ∷ bs) (suc passed) at d (w ∷ ws) h = of_kinds bs passed (at + 1) (drop_one bytes at b bs d) (w ∷ ws) h
  of_kinds (b ∷ bs) zero at d (w ∷ ws) h =
      let later : drop (at + 1) bytes ≡ bs = drop_one bytes at b bs d in
      either (is_blank b) _ _ (w ∷ ws) (AreOfKinds (w ∷ ws)) (λ h. of_kinds bs 0 (at + 1) later (w ∷ ws) h)
      (λ h. either (b == 37) _ _ (w ∷ ws) (AreOfKinds (w ∷ ws)) (λ h. of_kinds bs (comment_len bs) (at + 1) later (w ∷ ws) h)
      (λ h. first_word (b ∷ bs) at (λ n. tokens_of n (at + 1) bs) w ws d (λ n. of_kinds bs n (at + 1) later ws) (front (b ∷ bs)) refl h) h) h

-- the words that a text begins with are of their kinds
pub words_of_kinds : (bytes : List ℕ) (ws : List Word) (rest : Stream) → BeginsWith bytes (tokens_at bytes 0) ws rest → AreOfKinds ws
unfolding tokens_at
words_of_kinds bytes ws rest h = of_kinds bytes rest bytes 0 0 refl ws h
