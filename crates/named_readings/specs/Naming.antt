-- Values of variables by their names.
use Rattle.std.specs.Prelude.{List}
use Rattle.tree_model.specs.Signatures.{Signature, TreeOver}
use Rattle.tree_model.specs.Valuations.{Valuation}
use Rattle.formula_grammar.specs.Written.{Text}
use Rattle.formula_printer.specs.Writing.{text_at}

-- a tree for each name
abbrev pub Naming : Signature → Type 0
Naming σ = Text → TreeOver σ

-- each variable has the tree of its name
abbrev pub valued : {σ : Signature} → Naming σ → List Text → Valuation σ
valued v names x = v (text_at names x)
