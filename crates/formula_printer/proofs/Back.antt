-- A printed text reads back.
use Rattle.std.proofs.Common.{◌≡◌, List, [], length, refl, sym, ◌∙◌, subst, arith}
use Rattle.std.proofs.lemmas.List.{append-nil}
use Rattle.tree_model.specs.Signatures.{Signature}
use Rattle.signature.specs.Names.{HasDistinctNames}
use Rattle.formula_ast.specs.Forms.{Form, form_of}
use Rattle.formula_grammar.specs.Reading.{IsWritten}
use Rattle.formula_grammar.specs.Words.{formula_words}
use Rattle.formula_grammar.specs.Written.{Text, WrittenFormula}
use Rattle.formula_grammar.proofs.Meant.{a_statement}
use Rattle.formula_printer.specs.Printable.{AreNames, FormFits}
use Rattle.formula_printer.specs.Reads.{ReadsBack}
use Rattle.formula_printer.specs.Texts.{text_of}
use Rattle.formula_printer.specs.Writing.{written}
use Rattle.formula_printer.proofs.Good.{written_good}
use Rattle.formula_printer.proofs.Pieces.{bytes_of, has_tokens}
use Rattle.formula_printer.proofs.Printed.{HasWords, pieces, formula_bytes, formula_words_are, formula_apart}

-- the tokens of the text of what is written are its words
pub text_reads : (f : WrittenFormula) → HasWords f → IsWritten (text_of f) (formula_words f [])
text_reads f words =
    let bytes : text_of f ≡ bytes_of (pieces f []) = sym (formula_bytes f [] ∙ append-nil (text_of f)) in
    let tokens = has_tokens (text_of f) (pieces f []) 0 (omega arith) bytes (formula_apart f [] words refl tt) in
    subst (IsWritten (text_of f)) (formula_words_are f []) (record { stop = length (text_of f); tokens = tokens })

pub reads_back : (σ : Signature) (names : List Text) (bytes : Text) (f : Form) → AreNames σ names → HasDistinctNames σ → FormFits σ (length names) f
    → bytes ≡ text_of (written σ names f) → ReadsBack σ names bytes f
reads_back σ names bytes f good distinct fits is =
    let w = written σ names f in
    let h = written_good σ names good distinct f fits in
    let s = a_statement σ w in
    record {
      names_read = s.0.names;
      form_read = form_of s.0.body;
      reads = record {
        words = formula_words w [];
        written = subst (λ b. IsWritten b (formula_words w [])) (sym is) (text_reads w h.words);
        formula = w;
        grammar = record { words = refl; levelled = h.levelled };
        uses = h.uses;
        names_are = s.1.names;
        stands = s.1.body;
      };
      known = h.known;
      stands = h.stands;
    }
