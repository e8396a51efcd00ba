-- A text that is written as a file or as a formula has no first fault exactly where it is lawful.
use Rattle.std.proofs.Common.{◌≡◌, ◌↔◌, ℕ, ◌≤◌, true, List, [], ◌∷◌, length, Some, None, refl, sym, ◌∙◌, ap}
use Rattle.std.proofs.lemmas.Bool.{le-ltb}
use Rattle.tree_model.specs.Signatures.{Signature}
use Rattle.formula_ast.specs.Tokens.{tokens_at, Word}
use Rattle.formula_grammar.specs.Limits.{most_bytes}
use Rattle.formula_grammar.specs.Written.{WrittenFormula}
use Rattle.formula_grammar.specs.Words.{WrittenStatement}
use Rattle.formula_grammar.specs.Grammar.{files, IsFormula, IsFile}
use Rattle.formula_grammar.specs.Machine.{Stack, statements, operand, open_place}
use Rattle.formula_grammar.specs.FirstFault.{fault_from, fault_of_text, file_fault, formula_fault}
use Rattle.formula_grammar.specs.Names.{UsesNames, AreNamed}
use Rattle.formula_grammar.specs.Within.{IsSized, AreWithin}
use Rattle.formula_grammar.specs.Reading.{IsWritten}
use Rattle.formula_grammar.proofs.Run.{run, passes, faultless}
use Rattle.formula_grammar.proofs.WrittenRoles.{formula_roles, statements_roles}
use Rattle.formula_grammar.proofs.Walk.{walk_statements, walk_operand, least}
use Rattle.formula_grammar.proofs.FormulaChecks.{at_joints}
use Rattle.formula_grammar.proofs.StatementChecks.{asked_allowed, asked_granted, statements_allowed, statements_granted}

module _ (σ : Signature) (s : Stack) (bytes : List ℕ) (short : length bytes ≤ most_bytes) where
  -- a text within the limit of size
  text_fault : fault_of_text σ s bytes ≡ fault_from bytes (tokens_at bytes 0) (at_joints σ 0) s
  text_fault = rw (le-ltb most_bytes (length bytes) short) refl

  -- no fault is found exactly where the words pass
  text_passes : (words : List Word) → IsWritten bytes words → (fault_of_text σ s bytes ≡ None) ↔ (passes (at_joints σ 0) (run s words) ≡ true)
  text_passes words w =
      let h = faultless bytes (tokens_at bytes 0) words w.stop w.tokens (at_joints σ 0) s in
      (λ e. h.0 (sym text_fault ∙ e), λ e. text_fault ∙ h.1 e)

pub file_run : (words : List Word) (ss : List WrittenStatement) → IsFile words ss → run (statements files ∷ []) words ≡ statements_roles ss (Some [])
file_run words ss d = ap (λ ws. run (statements files ∷ []) ws) (sym d.words) ∙ walk_statements files ss [] [] d.each

pub formula_run : (words : List Word) (f : WrittenFormula) → IsFormula words f → run (operand 1 open_place ∷ []) words ≡ formula_roles open_place f (Some [])
formula_run words f d =
    ap (λ ws. run (operand 1 open_place ∷ []) ws) (sym d.words) ∙ walk_operand f 1 open_place [] [] d.levelled (least f) tt

pub lawful_files : (bytes : List ℕ) (words : List Word) (ss : List WrittenStatement) → length bytes ≤ most_bytes
    → IsWritten bytes words → IsFile words ss → (file_fault bytes ≡ None) ↔ (AreNamed [] ss × AreWithin [] ss)
unfolding file_fault
lawful_files bytes words ss short w d =
    let h = text_passes [] (statements files ∷ []) bytes short words w in
    let p = ap (λ o. passes (at_joints [] 0) o) (file_run words ss d) in
    (λ e. statements_allowed ss (at_joints [] 0) (sym p ∙ h.0 e), λ a. h.1 (p ∙ statements_granted ss (at_joints [] 0) a.0 a.1))

pub lawful_formulas : (σ : Signature) (bytes : List ℕ) (words : List Word) (f : WrittenFormula) → length bytes ≤ most_bytes
    → IsWritten bytes words → IsFormula words f → (formula_fault σ bytes ≡ None) ↔ (UsesNames σ f × IsSized f)
unfolding formula_fault
lawful_formulas σ bytes words f short w d =
    let h = text_passes σ (operand 1 open_place ∷ []) bytes short words w in
    let p = ap (λ o. passes (at_joints σ 0) o) (formula_run words f d) in
    (λ e. let a = asked_allowed σ f (Some []) (sym p ∙ h.0 e) in (a.0, a.1), λ a. h.1 (p ∙ asked_granted σ f (Some []) a.0 a.1 refl))
