-- What a text reads as, and what that means by name.
use Rattle.std.specs.Prelude.{◌≡◌, ◌↔◌, List}
use Rattle.tree_model.specs.Signatures.{Signature}
use Rattle.formula_ast.specs.declared.pred.Pred.{Pred}
use Rattle.formula_ast.specs.Forms.{Form}
use Rattle.formula_ast.specs.Satisfaction.{Holds, meaning_of}
use Rattle.formula_grammar.specs.Reading.{ReadsAsNamed}
use Rattle.formula_grammar.specs.Written.{Text}
use Rattle.formula_printer.specs.Reads.{ReadsBack}
use Rattle.named_readings.specs.Naming.{Naming, valued}

-- a text reads as one formula over one list of names
abbrev pub ReadsOnce : Type 0
ReadsOnce = (σ : Signature) (bytes : Text) (names others : List Text) (f g : Form) → ReadsAsNamed σ bytes names f → ReadsAsNamed σ bytes others g
    → (names ≡ others) × (f ≡ g)

-- where a text reads back as a formula f over some names, what it reads as over names by first occurrence holds with a tree
-- for each name exactly where f does
abbrev pub ReadsBackMeans : Type 0
ReadsBackMeans = (σ : Signature) (bytes : Text) (names read : List Text) (f g : Form) → ReadsBack σ names bytes f → ReadsAsNamed σ bytes read g
    → (preds : List Pred) (v : Naming σ) → Holds σ (meaning_of σ preds) g (valued v read) ↔ Holds σ (meaning_of σ preds) f (valued v names)
