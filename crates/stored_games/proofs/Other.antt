-- Where a name is none of the three, no game has it.
use Rattle.std.proofs.Common.{◌≡◌, Bool, true, false, cond, Some, None, codes, refl}
use Rattle.std.specs.Prelude.{option_map}
use Rattle.std.specs.Str.{bytes_eq}
use Rattle.std.proofs.lemmas.Slice.Eq.{bytes_eq-Decides}
use Rattle.formula_grammar.specs.Written.{Text}
use Rattle.written_files.specs.Files.{file_text}
use Rattle.stored_games.specs.Games.{take2, two_piles, unroll, game_text}

differs : (x y : Text) → ¬ (x ≡ y) → bytes_eq x y ≡ false
differs x y apart = go (bytes_eq x y) (λ same. (bytes_eq-Decides x y).0 same) where
  go : (b : Bool) → (b ≡ true → x ≡ y) → b ≡ false
  go true same = absurd (apart (same refl))
  go false same = refl

none : (a b c : Bool) → a ≡ false → b ≡ false → c ≡ false → option_map file_text (cond a (Some take2) (cond b (Some two_piles) (cond c (Some unroll) None))) ≡ None
none false false false e f g = refl
none true b c e f g = absurd (cc e)
none false true c e f g = absurd (cc f)
none false false true e f g = absurd (cc g)

pub no_game : (name : Text) → ¬ (name ≡ codes "take2") → ¬ (name ≡ codes "two_piles") → ¬ (name ≡ codes "unroll") → game_text name ≡ None
unfolding game_text
no_game name p q r =
    none (bytes_eq name (codes "take2")) (bytes_eq name (codes "two_piles")) (bytes_eq name (codes "unroll")) (differs name _ p) (differs name _ q) (differs name _ r)
