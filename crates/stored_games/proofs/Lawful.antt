-- The stored games as they are written: each is a file of the grammar within the limits.
use Rattle.std.proofs.Common.{◌≡◌, ◌≤◌, ℕ, zero, suc, true, List, [], ◌∷◌, length, Option, Some, None, All, IfSome, refl, ap, sym, ◌∙◌, arith, option_map, codes}
use Rattle.std.specs.Str.{bytes_eq}
use Rattle.std.proofs.lemmas.List.Elements.{All-cons, All-nil}
use Rattle.std.proofs.lemmas.Map.Entries.{All-lookup}
use Rattle.formula_ast.specs.Tokens.{kind_of}
use Rattle.formula_ast.specs.WellFormed.{AreDistinct}
use Rattle.formula_grammar.specs.Written.{Text}
use Rattle.formula_grammar.specs.Words.{WrittenStatement, statements_words}
use Rattle.formula_grammar.specs.Grammar.{files, AreStatementsOf}
use Rattle.formula_grammar.specs.Limits.{most_bytes}
use Rattle.formula_grammar.specs.Names.{AreNamed}
use Rattle.formula_grammar.specs.Within.{AreWithin}
use Rattle.formula_grammar.specs.FirstFault.{file_fault}
use Rattle.written_files.specs.Files.{file_text}
use Rattle.written_files.proofs.OfKinds.{statements_can_be_read}
use Rattle.written_files.proofs.Statements.{file_is_faultless}
use Rattle.stored_games.specs.Games.{take2, two_piles, unroll, games, game_text}
use Rattle.stored_games.proofs.Told.{of_their_kinds, are_of_their_kinds}

record IsLawful (ss : List WrittenStatement) : Type 0 where
  grammar : AreStatementsOf files ss
  kinds : of_their_kinds (statements_words ss []) ≡ true
  named : AreNamed [] ss
  within : AreWithin [] ss
  short : length (file_text ss) ≤ most_bytes

no_fault : (ss : List WrittenStatement) → IsLawful ss → file_fault (file_text ss) ≡ None
no_fault ss l =
    let kinds = are_of_their_kinds (statements_words ss []) l.kinds in
    file_is_faultless ss (statements_can_be_read ss l.grammar kinds) l.named l.within l.short

-- two parameters are two
first_code : Option Text → ℕ
first_code None = 0
first_code (Some []) = 0
first_code (Some (c ∷ cs)) = c

not_one : (text : Text) → Some (codes "X") ≡ Some text → Some (codes "Y") ≡ Some text → ⊥
unfolding first_code
not_one text first second = let same : 88 ≡ 89 = ap first_code (first ∙ sym second) in absurd (omega (arith, same))

x_and_y : AreDistinct (codes "X" ∷ codes "Y" ∷ [])
x_and_y text zero zero first second = refl
x_and_y text zero (suc zero) first second = absurd (not_one text first second)
x_and_y text zero (suc (suc j)) first second = absurd (cc second)
x_and_y text (suc zero) zero first second = absurd (not_one text second first)
x_and_y text (suc zero) (suc zero) first second = refl
x_and_y text (suc zero) (suc (suc j)) first second = absurd (cc second)
x_and_y text (suc (suc i)) j first second = absurd (cc first)

take2_lawful : IsLawful take2
unfolding take2 kind_of
take2_lawful = record {
  grammar = search (arith, tt) depth 20 parts 40;
  kinds = refl;
  named = assumption x_and_y;
  within = search (arith, tt, All-cons, All-nil) depth 20 parts 60;
  short = omega arith;
}

two_piles_lawful : IsLawful two_piles
unfolding two_piles kind_of
two_piles_lawful = record {
  grammar = search (arith, tt) depth 20 parts 40;
  kinds = refl;
  named = assumption x_and_y;
  within = search (arith, tt, All-cons, All-nil) depth 20 parts 60;
  short = omega arith;
}

unroll_lawful : IsLawful unroll
unfolding unroll kind_of
unroll_lawful = record {
  grammar = search (arith, tt) depth 20 parts 40;
  kinds = refl;
  named = assumption x_and_y;
  within = search (arith, tt, All-cons, All-nil) depth 20 parts 60;
  short = omega arith;
}

-- ---- the texts that are found by a name

abbrev HasNoFault : List WrittenStatement → Type 0
HasNoFault ss = file_fault (file_text ss) ≡ None

abbrev IsFaultless : Text × List WrittenStatement → Type 0
IsFaultless game = HasNoFault game.1

each : All IsFaultless games
each =
    let none = All-nil IsFaultless in
    let third = All-cons IsFaultless (codes "unroll", unroll) [] (no_fault unroll unroll_lawful) none in
    let second = All-cons IsFaultless (codes "two_piles", two_piles) ((codes "unroll", unroll) ∷ []) (no_fault two_piles two_piles_lawful) third in
    All-cons IsFaultless (codes "take2", take2) ((codes "two_piles", two_piles) ∷ (codes "unroll", unroll) ∷ []) (no_fault take2 take2_lawful) second

found : (game : Option (List WrittenStatement)) (text : Text) → IfSome game HasNoFault → option_map file_text game ≡ Some text → file_fault text ≡ None
found None text h e = absurd (cc e)
found (Some ss) text h e = let is : file_text ss ≡ text = cc e in ap file_fault (sym is) ∙ h

pub faultless : (name text : Text) → game_text name ≡ Some text → file_fault text ≡ None
unfolding game_text
faultless name text e = found _ text (All-lookup HasNoFault (bytes_eq name) games each) e
