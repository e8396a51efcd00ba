-- The text of a file, each statement on a line of its own.
use Rattle.std.specs.Prelude.{List, [], ◌∷◌, ◌++◌, codes}
use Rattle.formula_ast.specs.declared.token.TokenKind.{TokenKind}
use Rattle.formula_ast.specs.declared.token.TokenKind.TheVariants as k
use Rattle.formula_grammar.specs.Written.{Text, Declaration, Said, symbols, predicate, question}
use Rattle.formula_grammar.specs.Words.{WrittenStatement}
use Rattle.formula_printer.specs.Texts.{text_of}

-- the word that begins a statement
abbrev pub opening_text : TokenKind → Text
opening_text k.Symbol = codes "symbol"
opening_text k.Pred = codes "pred"
opening_text k.Solve = codes "solve"
opening_text kind = []

abbrev pub declaration_text : Declaration → Text
declaration_text d = d.name ++ codes "/" ++ d.digits

-- each behind a comma
abbrev pub more_declarations_text : List Declaration → Text
more_declarations_text [] = []
more_declarations_text (d ∷ ds) = codes ", " ++ declaration_text d ++ more_declarations_text ds

abbrev pub more_parameters_text : List Text → Text
more_parameters_text [] = []
more_parameters_text (x ∷ xs) = codes ", " ++ x ++ more_parameters_text xs

-- nothing, or the parameters in parentheses
abbrev pub parameters_text : List Text → Text
parameters_text [] = []
parameters_text (x ∷ xs) = codes "(" ++ x ++ more_parameters_text xs ++ codes ")"

abbrev pub said_text : Said → Text
said_text (symbols d ds) = declaration_text d ++ more_declarations_text ds
said_text (predicate p xs f) = p ++ parameters_text xs ++ codes " := " ++ text_of f
said_text (question f) = text_of f

-- the full stop, and the line feed that ends the line
abbrev pub line_end : Text
line_end = 46 ∷ 10 ∷ []

abbrev pub statement_text : WrittenStatement → Text
statement_text s = opening_text s.first.kind ++ codes " " ++ said_text s.said ++ line_end

abbrev pub file_text : List WrittenStatement → Text
file_text [] = []
file_text (s ∷ ss) = statement_text s ++ file_text ss
