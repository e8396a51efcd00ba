-- A text reads once, and a printed text means by name what was printed.
use Rattle.std.proofs.Common.{◌≡◌, List, [], ◌∷◌, true, sym, ap, ◌∙◌, subst, arith, suc}
use Rattle.std.specs.Prelude.{◌↔◌, All}
use Rattle.tree_model.specs.Signatures.{Signature}
use Rattle.tree_model.specs.Trees.{at}
use Rattle.formula_ast.specs.Forms.{Form}
use Rattle.formula_ast.specs.Tokens.{tokens_at}
use Rattle.formula_ast.specs.Satisfaction.{Relations, Holds}
use Rattle.formula_grammar.specs.Checks.{is_among}
use Rattle.formula_grammar.specs.Grammar.{IsFormula}
use Rattle.formula_grammar.specs.Meaning.{variables_in, first_occurrences}
use Rattle.formula_grammar.specs.Reading.{ReadsAsNamed}
use Rattle.formula_grammar.specs.Written.{Text}
use Rattle.formula_grammar.proofs.Meant.{meant, one_form}
use Rattle.formula_grammar.proofs.Occurrences.{AreAmong, first_among}
use Rattle.formula_grammar.proofs.OneReading.{one_formula_reading}
use Rattle.formula_grammar.proofs.Outcomes.{one_writing}
use Rattle.formula_printer.specs.Reads.{ReadsBack}
use Rattle.formula_printer.proofs.Places.{named}
use Rattle.named_readings.specs.Naming.{Naming, valued}
use Rattle.named_readings.proofs.Renamed.{AreBoth, Agree, same}

-- a text is written as one formula
one_written : (σ : Signature) (bytes : Text) (names others : List Text) (f g : Form) (a : ReadsAsNamed σ bytes names f) (b : ReadsAsNamed σ bytes others g)
    → a.formula ≡ b.formula
one_written σ bytes names others f g a b =
    let words : b.words ≡ a.words = one_writing bytes (tokens_at bytes 0) b.words a.words b.written.stop a.written.stop b.written.tokens a.written.tokens in
    one_formula_reading a.words a.formula b.formula a.grammar (subst (λ ws. IsFormula ws b.formula) words b.grammar)

pub reads_once : (σ : Signature) (bytes : Text) (names others : List Text) (f g : Form) → ReadsAsNamed σ bytes names f → ReadsAsNamed σ bytes others g
    → (names ≡ others) × (f ≡ g)
reads_once σ bytes names others f g a b =
    let written : a.formula ≡ b.formula = one_written σ bytes names others f g a b in
    let both : names ≡ others = a.names_are ∙ ap (λ w. first_occurrences [] (variables_in w)) written ∙ sym b.names_are in
    let first : f ≡ meant σ names a.formula = one_form σ names a.formula f a.stands in
    let second : g ≡ meant σ others b.formula = one_form σ others b.formula g b.stands in
    (both, first ∙ ap (λ w. meant σ names w) written ∙ ap (λ ns. meant σ ns b.formula) both ∙ sym second)

all_among : (names xs : List Text) → All (λ x. is_among x names ≡ true) xs → AreAmong names xs
all_among names [] h = tt
all_among names (x ∷ xs) h = (h 0 x (omega arith), all_among names xs (λ i d w. h (suc i) d (omega arith)))

-- values by name agree
by_name : (σ : Signature) (v : Naming σ) (ns ms : List Text) → Agree σ ns ms (valued v ns) (valued v ms)
by_name σ v ns ms x a b path = ap (λ y. at (v y).graph path) (named ns x a ∙ sym (named ms x b))

pub reads_back_means : (σ : Signature) (bytes : Text) (names read : List Text) (f g : Form) → ReadsBack σ names bytes f → ReadsAsNamed σ bytes read g
    → (ρ : Relations σ) (v : Naming σ) → Holds σ ρ g (valued v read) ↔ Holds σ ρ f (valued v names)
reads_back_means σ bytes names read f g back b ρ v =
    let a = back.reads in
    let w = a.formula in
    let written : b.formula ≡ w = one_written σ bytes read back.names_read g back.form_read b a in
    let read_is : first_occurrences [] (variables_in w) ≡ read = sym (b.names_are ∙ ap (λ u. first_occurrences [] (variables_in u)) written) in
    let among : AreAmong read (variables_in w) = subst (λ ns. AreAmong ns (variables_in w)) read_is (first_among (variables_in w) []) in
    let both : AreBoth read names (variables_in w) = record { first = among; second = all_among names (variables_in w) back.known } in
    let g_is : g ≡ meant σ read w = one_form σ read b.formula g b.stands ∙ ap (λ u. meant σ read u) written in
    let f_is : f ≡ meant σ names w = one_form σ names w f back.stands in
    let means = same σ read names ρ w both (valued v read) (valued v names) (by_name σ v read names) in (
      λ h. subst (λ x. Holds σ ρ x (valued v names)) (sym f_is) (means.0 (subst (λ x. Holds σ ρ x (valued v read)) g_is h)),
      λ h. subst (λ x. Holds σ ρ x (valued v read)) (sym g_is) (means.1 (subst (λ x. Holds σ ρ x (valued v names)) f_is h)),
    )
