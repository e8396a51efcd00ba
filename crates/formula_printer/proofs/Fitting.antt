-- What fits in a formula, and its text, by its kind.
use Rattle.std.proofs.Common.{◌≡◌, ℕ, ◌<◌, List, ◌++◌, length, refl}
use Rattle.std.specs.Prelude.{All, codes}
use Rattle.tree_model.specs.declared.kind.Kind.TheVariants as kind
use Rattle.tree_model.specs.Signatures.{Signature}
use Rattle.formula_ast.specs.declared.term.Term.{Term}
use Rattle.formula_ast.specs.declared.term.Terms.{Terms}
use Rattle.formula_ast.specs.declared.formula.Formula.{Formula}
use Rattle.formula_ast.specs.declared.formula.Formula.TheVariants as v
use Rattle.formula_ast.specs.Forms.{form_of}
use Rattle.formula_ast.specs.Terms.{list_of}
use Rattle.formula_ast.proofs.Ties.{always_form, never_form, equal_form, differ_form, finite_form, call_form, win_form, no_form, and_form, or_form, imp_form, iff_form, exists_form, forall_form}
use Rattle.formula_grammar.specs.Written.{Text, Quantifier, exists, forall}
use Rattle.formula_printer.specs.Numerals.{numeral}
use Rattle.formula_printer.specs.Printable.{FormFits, TermFits}
use Rattle.formula_printer.specs.Steps.{behind_quantifier}
use Rattle.formula_printer.specs.Texts.{term_text, arguments_text, text_of}
use Rattle.formula_printer.specs.Writing.{text_at, names_of, written_term, written_terms, written, placed, quantify}
use Rattle.formula_printer.proofs.Layers.{declared_within}
use Rattle.formula_printer.proofs.Levels.{text_quantify}

module _ (σ : Signature) (n : ℕ) where
  pub fits_equal : (f : Formula) (t u : Term) → f ≡ v.Eq t u → FormFits σ n (form_of f) → TermFits σ n t × TermFits σ n u
  fits_equal f t u is h = rw (is, equal_form) at h

  pub fits_differ : (f : Formula) (t u : Term) → f ≡ v.Differ t u → FormFits σ n (form_of f) → TermFits σ n t × TermFits σ n u
  fits_differ f t u is h = rw (is, differ_form) at h

  pub fits_finite : (f : Formula) (t : Term) → f ≡ v.Finite t → FormFits σ n (form_of f) → TermFits σ n t
  fits_finite f t is h = rw (is, finite_form) at h

  pub fits_call : (f : Formula) (p : ℕ) (ts : Terms) → f ≡ v.Call p ts → FormFits σ n (form_of f) → (p < length σ) × All (TermFits σ n) (list_of ts)
  fits_call f p ts is h =
      let all = rw (is, call_form) at h in
      (declared_within σ p (kind.Pred, length (list_of ts)) all.0, all.1)

  pub fits_win : (f : Formula) (p k : ℕ) (t : Term) → f ≡ v.Win p k t → FormFits σ n (form_of f) → (p < length σ) × TermFits σ n t
  fits_win f p k t is h =
      let all = rw (is, win_form) at h in
      (declared_within σ p (kind.Pred, 2) all.0, all.1)

  pub fits_not : (f g : Formula) → f ≡ v.Not g → FormFits σ n (form_of f) → FormFits σ n (form_of g)
  fits_not f g is h = rw (is, no_form) at h

  pub fits_and : (f g h : Formula) → f ≡ v.And g h → FormFits σ n (form_of f) → FormFits σ n (form_of g) × FormFits σ n (form_of h)
  fits_and f g h is fits = rw (is, and_form) at fits

  pub fits_or : (f g h : Formula) → f ≡ v.Or g h → FormFits σ n (form_of f) → FormFits σ n (form_of g) × FormFits σ n (form_of h)
  fits_or f g h is fits = rw (is, or_form) at fits

  pub fits_imp : (f g h : Formula) → f ≡ v.Imp g h → FormFits σ n (form_of f) → FormFits σ n (form_of g) × FormFits σ n (form_of h)
  fits_imp f g h is fits = rw (is, imp_form) at fits

  pub fits_iff : (f g h : Formula) → f ≡ v.Iff g h → FormFits σ n (form_of f) → FormFits σ n (form_of g) × FormFits σ n (form_of h)
  fits_iff f g h is fits = rw (is, iff_form) at fits

  pub fits_exists : (f : Formula) (x : ℕ) (g : Formula) → f ≡ v.Exists x g → FormFits σ n (form_of f) → (x < n) × FormFits σ n (form_of g)
  fits_exists f x g is h = rw (is, exists_form) at h

  pub fits_forall : (f : Formula) (x : ℕ) (g : Formula) → f ≡ v.Forall x g → FormFits σ n (form_of f) → (x < n) × FormFits σ n (form_of g)
  fits_forall f x g is h = rw (is, forall_form) at h

module _ (σ : Signature) (names : List Text) where
  abbrev whole : Formula → Text
  whole f = text_of (written σ names (form_of f))

  abbrev at_place : ℕ → Formula → Text
  at_place asked f = text_of (placed asked (written σ names (form_of f)))

  abbrev term : Term → Text
  term t = term_text (written_term σ names t)

  pub true_text : (f : Formula) → f ≡ v.True → whole f ≡ codes "true"
  true_text f is = rw (is, always_form) refl

  pub false_text : (f : Formula) → f ≡ v.False → whole f ≡ codes "false"
  false_text f is = rw (is, never_form) refl

  pub equal_text : (f : Formula) (t u : Term) → f ≡ v.Eq t u → whole f ≡ term t ++ codes " = " ++ term u
  equal_text f t u is = rw (is, equal_form) refl

  pub differ_text : (f : Formula) (t u : Term) → f ≡ v.Differ t u → whole f ≡ term t ++ codes " != " ++ term u
  differ_text f t u is = rw (is, differ_form) refl

  pub finite_text : (f : Formula) (t : Term) → f ≡ v.Finite t → whole f ≡ codes "finite(" ++ term t ++ codes ")"
  finite_text f t is = rw (is, finite_form) refl

  pub call_text : (f : Formula) (p : ℕ) (ts : Terms) → f ≡ v.Call p ts → whole f ≡ text_at (names_of σ) p ++ arguments_text (written_terms σ names (list_of ts))
  call_text f p ts is = rw (is, call_form) refl

  pub win_text : (f : Formula) (p k : ℕ) (t : Term) → f ≡ v.Win p k t
      → whole f ≡ (codes "win(" ++ text_at (names_of σ) p ++ codes ", " ++ numeral k ++ codes ", ") ++ term t ++ codes ")"
  win_text f p k t is = rw (is, win_form) refl

  pub not_text : (f g : Formula) → f ≡ v.Not g → whole f ≡ codes "~" ++ at_place 5 g
  not_text f g is = rw (is, no_form) refl

  pub and_text : (f g h : Formula) → f ≡ v.And g h → whole f ≡ (at_place 4 g ++ codes " & ") ++ at_place 5 h
  and_text f g h is = rw (is, and_form) refl

  pub or_text : (f g h : Formula) → f ≡ v.Or g h → whole f ≡ (at_place 3 g ++ codes " | ") ++ at_place 4 h
  or_text f g h is = rw (is, or_form) refl

  pub imp_text : (f g h : Formula) → f ≡ v.Imp g h → whole f ≡ (at_place 3 g ++ codes " -> ") ++ at_place 2 h
  imp_text f g h is = rw (is, imp_form) refl

  pub iff_text : (f g h : Formula) → f ≡ v.Iff g h → whole f ≡ (at_place 2 g ++ codes " <-> ") ++ at_place 2 h
  iff_text f g h is = rw (is, iff_form) refl

  -- what stands behind the word of a quantifier
  abbrev bound : Quantifier → ℕ → Formula → Text
  bound q x g = behind_quantifier (quantify q (text_at names x) (placed 5 (written σ names (form_of g))))

  pub exists_text : (f : Formula) (x : ℕ) (g : Formula) → f ≡ v.Exists x g → whole f ≡ codes "exists" ++ bound exists x g
  exists_text f x g is = rw (is, exists_form) (text_quantify exists (text_at names x) (placed 5 (written σ names (form_of g))))

  pub forall_text : (f : Formula) (x : ℕ) (g : Formula) → f ≡ v.Forall x g → whole f ≡ codes "forall" ++ bound forall x g
  forall_text f x g is = rw (is, forall_form) (text_quantify forall (text_at names x) (placed 5 (written σ names (form_of g))))
