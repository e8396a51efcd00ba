-- Whether each word is of its kind, as a test.
use Rattle.std.proofs.Common.{◌≡◌, Bool, true, false, not, ◌||◌, cond, List, [], ◌∷◌, Option, Some, None, refl, ap, rules}
use denote.Enum.Bare.{same_true}
use Rattle.formula_ast.specs.contracts.token.TokenKind.{the_type}
use Rattle.formula_ast.specs.declared.token.TokenKind.{TokenKind}
use Rattle.formula_ast.specs.Tokens.{Word, kind_of}
use Rattle.formula_grammar.specs.Words.{same, has_text}
use Rattle.written_files.specs.WrittenLaws.{AreOfTheirKinds}

abbrev is_that : Option TokenKind → TokenKind → Bool
is_that None kind = false
is_that (Some x) kind = same x kind

abbrev of_its_kind : Word → Bool
of_its_kind w = not (has_text w.kind) || is_that (kind_of w.text) w.kind

abbrev pub of_their_kinds : List Word → Bool
of_their_kinds [] = true
of_their_kinds (w ∷ ws) = cond (of_its_kind w) (of_their_kinds ws) false

that_is : (found : Option TokenKind) (kind : TokenKind) → is_that found kind ≡ true → found ≡ Some kind
that_is None kind e = absurd (cc e)
that_is (Some x) kind e = ap Some (same_true the_type (search rules) x kind e)

found_is : (has : Bool) (found : Option TokenKind) (kind : TokenKind) → (not has || is_that found kind) ≡ true → has ≡ true → found ≡ Some kind
found_is true found kind e some = that_is found kind e
found_is false found kind e some = absurd (cc some)

pub are_of_their_kinds : (ws : List Word) → of_their_kinds ws ≡ true → AreOfTheirKinds ws
are_of_their_kinds [] e = tt
are_of_their_kinds (w ∷ ws) e = go (of_its_kind w) refl (λ rest. are_of_their_kinds ws rest) e where
  go : (b : Bool) → of_its_kind w ≡ b → (of_their_kinds ws ≡ true → AreOfTheirKinds ws) → cond b (of_their_kinds ws) false ≡ true → AreOfTheirKinds (w ∷ ws)
  go true first others rest = (found_is (has_text w.kind) (kind_of w.text) w.kind first, others rest)
  go false first others rest = absurd (cc rest)
