-- The symbols of a formula over a signature fit it, and have few arguments.
use Rattle.std.proofs.Common.{ℕ, suc, zero, ◌≡◌, List, [], ◌∷◌, length, refl, ap, sym, subst, ◌∙◌, arith}
use Rattle.std.specs.Prelude.{Option, Some, IfSome, All, slice_get, option_and_then}
use Rattle.std.proofs.lemmas.List.Elements.{All-head, All-tail}
use Rattle.tree_model.specs.declared.tree.Symbol.{Symbol}
use Rattle.tree_model.specs.Signatures.{Signature, IsRoot}
use Rattle.formula_ast.specs.declared.term.Term.{Term}
use Rattle.formula_ast.specs.declared.term.Terms.{Terms}
use Rattle.formula_ast.specs.declared.term.Term.TheOpen.{Term-F}
use Rattle.formula_ast.specs.declared.term.Term.TheOpen as layer
use Rattle.formula_ast.specs.declared.term.Term.TheViews.{out-Term}
use Rattle.formula_ast.specs.Forms.{Form}
use Rattle.formula_ast.specs.Forms as form
use Rattle.formula_ast.specs.Terms.{list_of, subterm, argument}
use Rattle.formula_ast.specs.WellFormed.{LayerOver, TermOver, FormOver}
use Rattle.flattening.specs.Plain.{PlainTerm, PlainTerms, variable, apply, no_terms, one_more, term_of, terms_of, plain_of}
use Rattle.flattening.specs.Conditions.{count, TermFits, TermsFit, FormulaFits, TermIsNarrow, TermsAreNarrow, IsNarrow}
use Rattle.flattening.specs.FittingLaws.{WellFormedFits}
use Rattle.flattening.proofs.Readings.{layer_plain, by_layer, count_length}

module _ (σ : Signature) (n : ℕ) where
  abbrev Fits : PlainTerm → Type 0
  Fits t = TermFits σ t × TermIsNarrow t

  abbrev AllFit : PlainTerms → Type 0
  AllFit ts = TermsFit σ ts × TermsAreNarrow ts

  -- an argument of a term over the signature is over it
  argument_over : (t : Term) (s : Symbol) (ts : Terms) → out-Term t ≡ layer.App s ts → TermOver σ n t → (i : ℕ) (u : Term) → slice_get (list_of ts) i ≡ Some u → TermOver σ n u
  argument_over t s ts e over i u got path =
      let found : subterm t (i ∷ path) ≡ subterm u path =
      ap (λ l. option_and_then {T = Term} {U = Term} (λ u. subterm u path) (argument l i)) e
      ∙ ap (λ o. option_and_then {T = Term} {U = Term} (λ u. subterm u path) o) got in
      subst (λ (o : Option Term). IfSome o (λ u. LayerOver σ n (out-Term u))) found (over (i ∷ path))

  in_layer : (t : Term) (l : Term-F Term Terms) (s : Symbol) (ps : PlainTerms) → out-Term t ≡ l → layer_plain l ≡ apply s ps → TermOver σ n t
      → ((ts : List Term) → terms_of ts ≡ ps → ((i : ℕ) (u : Term) → slice_get ts i ≡ Some u → TermOver σ n u) → AllFit ps) → Fits (apply s ps)
  in_layer t (layer.Var w) s ps e is over each = absurd (cc is)
  in_layer t (layer.App r ts) s ps e is over each =
      let symbol : r ≡ s = cc in
      let same : terms_of (list_of ts) ≡ ps = cc in
      let here : LayerOver σ n (layer.App r ts) = subst (λ (l : Term-F Term Terms). LayerOver σ n l) e (over []) in
      let size : length (list_of ts) ≡ count ps = count_length (list_of ts) ∙ ap count same in
      let root : IsRoot σ s (count ps) = subst (λ (k : ℕ). IsRoot σ s k) size (subst (λ (q : Symbol). IsRoot σ q (length (list_of ts))) symbol here.0) in
      let below = each (list_of ts) same (argument_over t r ts e over) in
      ((root, below.0), (omega (arith, here.1, size), below.1))

  mutual
    term_fits : (p : PlainTerm) (t : Term) → term_of t ≡ p → TermOver σ n t → Fits p
    term_fits (variable v) t is over = (tt, tt)
    term_fits (apply s ps) t is over = in_layer t (out-Term t) s ps refl (sym (by_layer t) ∙ is) over (λ ts e each. terms_fit ps ts e each)

    terms_fit : (ps : PlainTerms) (ts : List Term) → terms_of ts ≡ ps → ((i : ℕ) (u : Term) → slice_get ts i ≡ Some u → TermOver σ n u) → AllFit ps
    terms_fit no_terms ts is each = (tt, tt)
    terms_fit (one_more p ps) [] is each = absurd (cc is)
    terms_fit (one_more p ps) (t ∷ ts) is each =
        let first : term_of t ≡ p = cc in
        let rest : terms_of ts ≡ ps = cc in
        let one = term_fits p t first (each zero t refl) in
        let more = terms_fit ps ts rest (λ i u got. each (suc i) u got) in
        ((one.0, more.0), (one.1, more.1))

  fits : (t : Term) → TermOver σ n t → Fits (term_of t)
  fits t over = term_fits (term_of t) t refl over

  all_fit : (ts : List Term) → All (TermOver σ n) ts → AllFit (terms_of ts)
  all_fit [] over = (tt, tt)
  all_fit (t ∷ ts) over =
      let one = fits t (All-head (TermOver σ n) t ts over) in let more = all_fit ts (All-tail (TermOver σ n) t ts over) in ((one.0, more.0), (one.1, more.1))

  module _ (callable : Signature) where
    abbrev Result : Form → Type 0
    Result f = FormulaFits σ (plain_of f) × IsNarrow (plain_of f)

    two : (t s : Term) → TermOver σ n t × TermOver σ n s → (TermFits σ (term_of t) × TermFits σ (term_of s)) × (TermIsNarrow (term_of t) × TermIsNarrow (term_of s))
    two t s over = let a = fits t over.0 in let b = fits s over.1 in ((a.0, b.0), (a.1, b.1))

    form_fits : (f : Form) → FormOver σ callable n f → Result f
    form_fits form.always over = (tt, tt)
    form_fits form.never over = (tt, tt)
    form_fits (form.equal t s) over = two t s over
    form_fits (form.differ t s) over = two t s over
    form_fits (form.finite t) over = fits t over
    form_fits (form.call p ts) over = all_fit ts over.1
    form_fits (form.win p k t) over = let one = fits t over.1 in ((one.0, tt), (one.1, tt))
    form_fits (form.no f) over = form_fits f over
    form_fits (form.and f g) over = let a = form_fits f over.0 in let b = form_fits g over.1 in ((a.0, b.0), (a.1, b.1))
    form_fits (form.or f g) over = let a = form_fits f over.0 in let b = form_fits g over.1 in ((a.0, b.0), (a.1, b.1))
    form_fits (form.imp f g) over = let a = form_fits f over.0 in let b = form_fits g over.1 in ((a.0, b.0), (a.1, b.1))
    form_fits (form.iff f g) over = let a = form_fits f over.0 in let b = form_fits g over.1 in (((a.0, b.0), (b.0, a.0)), ((a.1, b.1), (b.1, a.1)))
    form_fits (form.exists x f) over = form_fits f over.1
    form_fits (form.forall x f) over = form_fits f over.1

pub formula_fits : WellFormedFits
formula_fits σ callable n f over = form_fits σ n callable f over
