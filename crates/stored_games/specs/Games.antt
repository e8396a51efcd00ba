-- The stored games: of each the name, and what is written of it. Each has one predicate of moves, by which a position has
-- another behind it. Whoever can't move has lost.
use Rattle.std.specs.Prelude.{List, [], ◌∷◌, Option, codes, option_map}
use Rattle.std.specs.Map.{lookup, keys_of}
use Rattle.std.specs.Str.{bytes_eq}
use Rattle.formula_ast.specs.declared.token.TokenKind.TheVariants as k
use Rattle.formula_grammar.specs.Written.{Text, named, WrittenTerm, variable, headed, no_terms, one_more, and, or, exists, equals, WrittenFormula, win, compared, group, joined, quantified, Declaration, symbols, predicate, question}
use Rattle.formula_grammar.specs.Words.{mark, WrittenStatement}
use Rattle.written_files.specs.Files.{file_text}

-- ---- terms

abbrev pub A : WrittenTerm
A = variable (codes "A")

abbrev pub B : WrittenTerm
B = variable (codes "B")

abbrev pub X : WrittenTerm
X = variable (codes "X")

abbrev pub Y : WrittenTerm
Y = variable (codes "Y")

abbrev pub constant : Text → WrittenTerm
constant f = headed (named f) no_terms

abbrev pub of_one : Text → WrittenTerm → WrittenTerm
of_one f t = headed (named f) (one_more t no_terms)

abbrev pub of_two : Text → WrittenTerm → WrittenTerm → WrittenTerm
of_two f t u = headed (named f) (one_more t (one_more u no_terms))

-- ---- formulas

abbrev pub is : WrittenTerm → WrittenTerm → WrittenFormula
is t u = compared equals t u

abbrev pub both : WrittenFormula → WrittenFormula → WrittenFormula
both f g = joined and f g

abbrev pub either : WrittenFormula → WrittenFormula → WrittenFormula
either f g = joined or f g

-- the player to move at the position wins within so many moves
abbrev pub wins : Text → WrittenTerm → WrittenFormula
wins digits t = win (codes "move") digits t

-- so does the one at a position by which the tree X is described
abbrev pub some_wins : WrittenTerm → Text → WrittenTerm → WrittenFormula
some_wins described digits t = quantified exists (codes "X") [] (group (both (is X described) (wins digits t)))

-- ---- statements

abbrev pub symbol : Text → Text → Declaration
symbol f digits = record { name = f; digits = digits }

abbrev pub declares : Declaration → List Declaration → WrittenStatement
declares d ds = record { first = mark k.Symbol; said = symbols d ds }

-- there is a move from X to Y exactly where the formula holds
abbrev pub moves_where : WrittenFormula → WrittenStatement
moves_where f = record { first = mark k.Pred; said = predicate (codes "move") (codes "X" ∷ codes "Y" ∷ []) f }

abbrev pub asks : WrittenFormula → WrittenStatement
asks f = record { first = mark k.Solve; said = question f }

-- ---- one heap, of which one or two are taken

abbrev pub z : WrittenTerm
z = constant (codes "z")

abbrev pub s : WrittenTerm → WrittenTerm
s t = of_one (codes "s") t

unfoldable pub take2 : List WrittenStatement
take2 =
    declares (symbol (codes "s") (codes "1")) (symbol (codes "z") (codes "0") ∷ [])
    ∷ moves_where (either (is X (s Y)) (is X (s (s Y))))
    ∷ asks (wins (codes "1") (s z))
    ∷ asks (wins (codes "1") (s (s (s z))))
    ∷ asks (wins (codes "2") (s (s (s (s z)))))
    ∷ asks (some_wins (s X) (codes "3") X)
    ∷ asks (wins (codes "0") z) ∷ []

-- ---- two heaps, from one of which one is taken

abbrev pub p : WrittenTerm → WrittenTerm → WrittenTerm
p t u = of_two (codes "p") t u

unfoldable pub two_piles : List WrittenStatement
two_piles =
    declares (symbol (codes "p") (codes "2")) (symbol (codes "s") (codes "1") ∷ symbol (codes "z") (codes "0") ∷ [])
    ∷ moves_where (quantified exists (codes "A") (codes "B" ∷ []) (group (both (is Y (p A B)) (group (either (is X (p (s A) B)) (is X (p A (s B))))))))
    ∷ asks (wins (codes "1") (p (s z) z))
    ∷ asks (wins (codes "1") (p (s z) (s z)))
    ∷ asks (some_wins (s X) (codes "1") (p X z)) ∷ []

-- ---- a tree, which moves to one of its two parts

abbrev pub e : WrittenTerm
e = constant (codes "e")

abbrev pub u : WrittenTerm → WrittenTerm → WrittenTerm
u t v = of_two (codes "u") t v

unfoldable pub unroll : List WrittenStatement
unroll =
    declares (symbol (codes "u") (codes "2")) (symbol (codes "e") (codes "0") ∷ [])
    ∷ moves_where (quantified exists (codes "A") [] (group (either (is X (u Y A)) (is X (u A Y)))))
    ∷ asks (wins (codes "1") (u e (u e e)))
    ∷ asks (wins (codes "1") (u (u e e) (u e e)))
    ∷ asks (some_wins (u X e) (codes "1") X)
    ∷ asks (some_wins (u X X) (codes "2") X) ∷ []

-- ---- the games by their names

abbrev pub games : List (Text × List WrittenStatement)
games = (codes "take2", take2) ∷ (codes "two_piles", two_piles) ∷ (codes "unroll", unroll) ∷ []

unfoldable pub game_names : List Text
game_names = keys_of games

-- the text of the game with this name, where one has it
unfoldable pub game_text : Text → Option Text
game_text name = option_map file_text (lookup (λ other. bytes_eq name other) games)
