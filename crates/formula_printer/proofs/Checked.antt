-- What the tests on names and formulas find.
use Rattle.std.proofs.Common.{◌≡◌, ◌≢◌, ℕ, suc, ◌+◌, ◌<◌, ◌⊎◌, inl, inr, List, [], ◌∷◌, take, length, Some, Bool, true, false, nat_lt, slice_range, refl, sym, ap, ◌∙◌, arith}
use Rattle.std.specs.Prelude.{All, slice_get}
use Rattle.std.specs.Bool.{OnTrue}
use Rattle.std.proofs.lemmas.Bool.Decides.{nat_tests}
use Rattle.std.proofs.lemmas.Slice.{between_to_end}
use Rattle.tree_model.specs.declared.kind.Kind.TheVariants as kind
use Rattle.formula_ast.specs.declared.formula.Formula.{Formula}
use Rattle.formula_ast.specs.declared.formula.Formula.TheVariants as v
use Rattle.formula_ast.specs.declared.token.TokenKind.{TokenKind}
use Rattle.formula_ast.specs.Forms.{form_of}
use Rattle.formula_ast.specs.Tokens.{kind_of}
use Rattle.formula_ast.proofs.Ties.{always_form, never_form, equal_form, differ_form, finite_form, call_form, win_form, no_form, and_form, or_form, imp_form, iff_form, exists_form, forall_form}
use Rattle.std.proofs.lemmas.List.Elements.{All-append, All-cons, All-nil}
use Rattle.tree_model.specs.Signatures.{Signature, declared_at}
use Rattle.formula_ast.specs.declared.term.Term.{Term}
use Rattle.formula_ast.specs.declared.term.Terms.{Terms}
use Rattle.formula_ast.specs.Terms.{list_of}
use Rattle.formula_ast.specs.WellFormed.{AreDistinct}
use Rattle.formula_ast.proofs.Lists.{take_more_got}
use Rattle.formula_grammar.specs.Written.{Text}
use Rattle.formula_printer.specs.Printable.{TermFits, FormFits}
use Rattle.formula_printer.specs.Writing.{text_at, names_of}
use Rattle.formula_printer.proofs.Layers.{within}
use Rattle.formula_printer.proofs.Places.{named_at, same_text}
use Rattle.std.specs.Str.{bytes_eq}

pub one_more_item : {A : Type 0} (P : A → Type 0) (xs : List A) (i : ℕ) (x : A) → slice_get xs i ≡ Some x → All P (take i xs) → P x → All P (take (i + 1) xs)
one_more_item P xs i x got all here = rw (take_more_got xs i x got) (All-append P (take i xs) (x ∷ []) all (All-cons P x [] here (All-nil P)))

order : (i j : ℕ) → (i ≡ j) ⊎ ((i < j) ⊎ (j < i))
order i j = grind arith

pub distinct_from : (names : List Text) → ((i : ℕ) → i < length names → (j : ℕ) → j < i → text_at names j ≢ text_at names i) → AreDistinct names
distinct_from names apart text i j at_i at_j = by (order i j)
  where
    same : text_at names i ≡ text_at names j
    same = named_at names i text at_i ∙ sym (named_at names j text at_j)

    by : (i ≡ j) ⊎ ((i < j) ⊎ (j < i)) → i ≡ j
    by (inl e) = e
    by (inr (inl less)) = absurd (apart j (within names j text at_j) i less same)
    by (inr (inr less)) = absurd (apart i (within names i text at_i) j less (sym same))

-- ---- what a test that succeeds says

pub on_true : {P Q : Type 0} (b : Bool) → (P → Q) → OnTrue b P → OnTrue b Q
on_true true f h = f h
on_true false f h = tt

pub on_less : (m n : ℕ) {P : Type 0} → (m < n → P) → OnTrue (nat_lt m n) P
on_less m n {P} f = by (nat_lt m n) refl
  where
    by : (b : Bool) → nat_lt m n ≡ b → OnTrue b P
    by true is = f (grind (arith, nat_tests))
    by false is = tt

pub whole_text : (text : Text) (from to : ℕ) (kind : TokenKind) → kind_of (slice_range text from to) ≡ Some kind → from ≡ 0 → to ≡ length text → kind_of text ≡ Some kind
whole_text text from to kind h start stop =
    let all : slice_range text 0 (length text) ≡ text = between_to_end text 0 (length text) (omega arith) in
    ap kind_of (sym (ap (λ i. slice_range text i to) start ∙ ap (λ j. slice_range text 0 j) stop ∙ all)) ∙ h

module _ (σ : Signature) (n : ℕ) where
  pub nothing_fits : (f : Formula) → (f ≡ v.True) ⊎ (f ≡ v.False) → FormFits σ n (form_of f)
  nothing_fits f (inl is) = rw (is, always_form) tt
  nothing_fits f (inr is) = rw (is, never_form) tt

  pub pair_fits_in : (f : Formula) (t u : Term) → (f ≡ v.Eq t u) ⊎ (f ≡ v.Differ t u) → TermFits σ n t × TermFits σ n u → FormFits σ n (form_of f)
  pair_fits_in f t u (inl is) h = rw (is, equal_form) h
  pair_fits_in f t u (inr is) h = rw (is, differ_form) h

  pub finite_fits_in : (f : Formula) (t : Term) → f ≡ v.Finite t → TermFits σ n t → FormFits σ n (form_of f)
  finite_fits_in f t is h = rw (is, finite_form) h

  pub call_fits_in : (f : Formula) (p : ℕ) (ts : Terms) → f ≡ v.Call p ts → (declared_at σ p ≡ Some (kind.Pred, length (list_of ts))) × All (TermFits σ n) (list_of ts) → FormFits σ n (form_of f)
  call_fits_in f p ts is h = rw (is, call_form) h

  pub win_fits_in : (f : Formula) (p k : ℕ) (t : Term) → f ≡ v.Win p k t → (declared_at σ p ≡ Some (kind.Pred, 2)) × TermFits σ n t → FormFits σ n (form_of f)
  win_fits_in f p k t is h = rw (is, win_form) h

  pub not_fits_in : (f g : Formula) → f ≡ v.Not g → FormFits σ n (form_of g) → FormFits σ n (form_of f)
  not_fits_in f g is h = rw (is, no_form) h

  pub both_fit_in : (f g h : Formula) → (f ≡ v.And g h) ⊎ ((f ≡ v.Or g h) ⊎ ((f ≡ v.Imp g h) ⊎ (f ≡ v.Iff g h))) → FormFits σ n (form_of g) → FormFits σ n (form_of h) → FormFits σ n (form_of f)
  both_fit_in f g h (inl is) a b = rw (is, and_form) (a, b)
  both_fit_in f g h (inr (inl is)) a b = rw (is, or_form) (a, b)
  both_fit_in f g h (inr (inr (inl is))) a b = rw (is, imp_form) (a, b)
  both_fit_in f g h (inr (inr (inr is))) a b = rw (is, iff_form) (a, b)

  pub body_fits_in : (f g : Formula) (x : ℕ) → (f ≡ v.Exists x g) ⊎ (f ≡ v.Forall x g) → x < n → FormFits σ n (form_of g) → FormFits σ n (form_of f)
  body_fits_in f g x (inl is) w h = rw (is, exists_form) (w, h)
  body_fits_in f g x (inr is) w h = rw (is, forall_form) (w, h)

pub names_length : (σ : Signature) → length (names_of σ) ≡ length σ
names_length [] = refl
names_length (entry ∷ σ) = ap suc (names_length σ)

pub apart_texts : (x y : Text) → bytes_eq x y ≡ false → ¬ (x ≡ y)
apart_texts x y other same = let is = same_text x y same in absurd (cc (is, other))
