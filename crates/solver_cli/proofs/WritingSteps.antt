-- How far a writing loop has come.
use Rattle.std.proofs.Common.{◌≡◌, ℕ, zero, suc, ◌+◌, ◌-◌, ◌≤◌, List, [], ◌∷◌, ◌++◌, length, take, drop, Option, Result, Ok, Err, refl, sym, ◌∙◌, ap, subst, arith, length-drop}
use Rattle.std.proofs.lemmas.List.{drop-drop, take_all, nil_from_length}
use Rattle.std.proofs.KnownBytes.{Appends-nil, Appends-trans, Appends-kept}
use Rattle.std.specs.Io.KnownBytes.{Appends, Keeps}
use Rattle.io_edge.specs.declared.failed.Failed.{Failed}
use Rattle.solver_cli.specs.Writing.{WritesWhole, FailsIn, IsWhole, IsCut}
use Rattle.solver_cli.specs.Writing.WritesWhole.{nothing, some}
use Rattle.solver_cli.specs.Writing.FailsIn.{here, later}

pub record Written {O : Type 0} (writes : O → List ℕ → Result ℕ Failed → O → Type 0) (taken : O → Option (List ℕ)) (faults : O → ℕ) (old now : O) (text rest : List ℕ) : Type 0 where
  pub at : ℕ
  pub within : at ≤ length text
  pub left : rest ≡ drop at text
  pub bytes : Appends (taken old) (taken now) (take at text)
  pub whole : (new : O) → WritesWhole writes now rest new → WritesWhole writes old text new
  pub fails : (end : List ℕ) (new : O) → FailsIn writes now rest end new → FailsIn writes old text end new
  pub count : faults old ≤ faults now

pub take_both : (xs : List ℕ) (m n k : ℕ) → k ≡ m + n → take m xs ++ take n (drop m xs) ≡ take k xs
take_both xs zero n k is = let same : n ≡ k = omega arith in ap (λ (j : ℕ). take j xs) same
take_both [] (suc m) n zero is = absurd (omega arith)
take_both [] (suc m) zero (suc k) is = refl
take_both [] (suc m) (suc n) (suc k) is = refl
take_both (x ∷ xs) (suc m) n zero is = absurd (omega arith)
take_both (x ∷ xs) (suc m) n (suc k) is = ap (λ (l : List ℕ). x ∷ l) (take_both xs m n k (omega arith))

module _ {O : Type 0} (writes : O → List ℕ → Result ℕ Failed → O → Type 0) (taken : O → Option (List ℕ)) (faults : O → ℕ) where
  pub begun : (old : O) (text : List ℕ) → Written writes taken faults old old text text
  begun old text = record {
    at = 0;
    within = omega arith;
    left = refl;
    bytes = Appends-nil (taken old);
    whole = λ new w. w;
    fails = λ end new f. f;
    count = omega arith;
  }

  pub stepped : (old mid new : O) (text rest : List ℕ) (n : ℕ) → Written writes taken faults old mid text rest → 1 ≤ n → n ≤ length rest
      → writes mid rest (Ok n) new → Appends (taken mid) (taken new) (take n rest) → faults mid ≤ faults new → Written writes taken faults old new text (drop n rest)
  stepped old mid new text rest n far progress fits call appends count =
      let size : length rest ≡ length text - far.at = ap length far.left ∙ length-drop far.at text in
      let more : take far.at text ++ take n rest ≡ take (far.at + n) text = ap (λ (l : List ℕ). take far.at text ++ take n l) far.left ∙ take_both text far.at n (far.at + n) refl in
      record {
        at = far.at + n;
        within = omega (arith, far.within);
        left = ap (λ (l : List ℕ). drop n l) far.left ∙ drop-drop n far.at text;
        bytes = subst (λ (l : List ℕ). Appends (taken old) (taken new) l) more (Appends-trans (taken old) (taken mid) (taken new) _ _ far.bytes appends);
        whole = λ end w. far.whole end (some n progress fits call w);
        fails = λ end last f. far.fails end last (later n progress fits call f);
        count = omega (arith, far.count, count);
      }

  pub finished : (old now : O) (text rest : List ℕ) → Written writes taken faults old now text rest → length rest ≡ 0 → IsWhole writes taken old text now
  finished old now text rest far none =
      let size : length rest ≡ length text - far.at = ap length far.left ∙ length-drop far.at text in
      record {
        calls = far.whole now (subst (λ (l : List ℕ). WritesWhole writes now l now) (sym (nil_from_length rest none)) nothing);
        known = subst (λ (l : List ℕ). Appends (taken old) (taken now) l) (take_all far.at text (omega arith)) far.bytes;
      }

  pub failed : (old mid new : O) (text rest : List ℕ) → Written writes taken faults old mid text rest → 1 ≤ length rest → writes mid rest (Err (record {})) new → Keeps (taken mid) (taken new) → IsCut writes taken old text new
  failed old mid new text rest far room call kept =
      let size : length rest ≡ length text - far.at = ap length far.left ∙ length-drop far.at text in
      record {
        at = far.at;
        proper = omega arith;
        calls = subst (λ (l : List ℕ). FailsIn writes old text l new) far.left (far.fails rest new (here room call));
        known = Appends-kept (taken old) (taken mid) (taken new) _ far.bytes kept;
      }
