-- How a term and a formula are written, one layer at a time.
use Rattle.std.proofs.lemmas.Bool.Decides.{nat_tests}
use Rattle.std.proofs.Common.{◌≡◌, ℕ, zero, suc, ◌+◌, ◌<◌, ◌==◌, false, List, [], ◌∷◌, ◌++◌, take, length, refl, sym, ap, ◌∙◌, subst, arith, Option, Some, None, append_assoc}
use Rattle.std.specs.Prelude.{All, slice_get, slice_index_or, option_and_then, IfSome, codes}
use Rattle.std.specs.Option.{option_map}
use Rattle.std.proofs.lemmas.List.{append-nil, length-take-le}
use Rattle.formula_ast.proofs.Lists.{take_more_got}
use Rattle.formula_printer.specs.Steps.{before}
use Rattle.std.proofs.lemmas.Option.{slice_get-get_or}
use Rattle.tree_model.specs.declared.kind.Kind.{Kind}
use Rattle.tree_model.specs.declared.kind.Kind.TheVariants as kind
use Rattle.tree_model.specs.Signatures.{Signature, Entry, IsRoot, declared_at}
use Rattle.tree_model.specs.declared.tree.Symbol.{Symbol}
use Rattle.tree_model.specs.declared.tree.Symbol.TheVariants.{Named, Further}
use Rattle.formula_ast.specs.declared.term.Term.{Term}
use Rattle.formula_ast.specs.declared.term.Term.TheVariants as term
use Rattle.formula_ast.specs.declared.term.Term.TheBlock.{hidden-the_row-Term-0 as row}
use Rattle.formula_ast.specs.declared.term.Term.TheViews.{out-Term}
use Rattle.formula_ast.specs.declared.term.Terms.{Terms}
use Rattle.formula_ast.specs.Terms.{list_of, subterm, argument}
use Rattle.formula_grammar.specs.Written.{Text, variable, headed, WrittenTerms, no_terms, one_more}
use Rattle.formula_printer.specs.Printable.{HasWord, LayerFits, TermFits}
use Rattle.formula_printer.specs.Texts.{term_text, arguments_text, more_text}
use Rattle.formula_printer.specs.Writing.{text_at, symbol_head, written_term, written_row, written_terms}

module _ (σ : Signature) (names : List Text) where
  pub written-var : (x : ℕ) → written_term σ names (term.Var x) ≡ variable (text_at names x)
  unfolding written_term
  written-var x = refl

  written_hidden : (ts : List Term) → written_row σ names (row ts) ≡ written_terms σ names ts
  unfolding written_term written_row row denote.Hole.Carrier.hidden
  written_hidden [] = refl
  written_hidden (t ∷ ts) = ap (λ l. one_more (written_term σ names t) l) (written_hidden ts)

  pub written-app : (s : Symbol) (ts : Terms) → written_term σ names (term.App s ts) ≡ headed (symbol_head σ s) (written_terms σ names (list_of ts))
  unfolding written_term
  written-app s ts = ap (λ l. headed (symbol_head σ s) l) (written_hidden (list_of ts))

pub within : {A : Type 0} (xs : List A) (i : ℕ) (x : A) → slice_get xs i ≡ Some x → i < length xs
within [] i x got = absurd (cc got)
within (y ∷ xs) zero x got = omega arith
within (y ∷ xs) (suc i) x got = let less = within xs i x got in omega arith

some_declared : (σ : Signature) (i : ℕ) (found : Option Entry) (d : Kind × ℕ) → slice_get σ i ≡ found
    → option_map {T = Entry} {U = Kind × ℕ} (λ entry. (entry.kind, entry.arity)) found ≡ Some d → i < length σ
some_declared σ i None d is got = absurd (cc got)
some_declared σ i (Some entry) d is got = within σ i entry is

-- a place at which something is declared is one of the signature
pub declared_within : (σ : Signature) (i : ℕ) (d : Kind × ℕ) → declared_at σ i ≡ Some d → i < length σ
declared_within σ i d got = some_declared σ i (slice_get σ i) d refl got

pub has_word : (σ : Signature) (s : Symbol) (n : ℕ) → IsRoot σ s n → HasWord σ s
has_word σ (Named place) n h = declared_within σ place (kind.Symbol, n) h
has_word σ (Further index) n h = tt

-- what fits
module _ (σ : Signature) (n : ℕ) where
  pub symbol_fits : (s : Symbol) (ts : Terms) → TermFits σ n (term.App s ts) → HasWord σ s
  symbol_fits s ts h = has_word σ s (length (list_of ts)) (subst (LayerFits σ n) (term.outs-App s ts) (h []))

  pub variable_fits : (x : ℕ) → TermFits σ n (term.Var x) → x < n
  variable_fits x h = subst (LayerFits σ n) (term.outs-Var x) (h [])

  pub arguments_fit : (s : Symbol) (ts : Terms) → TermFits σ n (term.App s ts) → All (TermFits σ n) (list_of ts)
  arguments_fit s ts h i d w path =
      subst (λ o. IfSome o (λ u. LayerFits σ n (out-Term u))) (below path) (h (i ∷ path))
    where
      below : (path : List ℕ) → subterm (term.App s ts) (i ∷ path) ≡ subterm (slice_index_or (list_of ts) i d) path
      below path =
          ap (λ z. option_and_then {T = Term} {U = Term} (λ u. subterm u path) (argument z i)) (term.outs-App s ts)
          ∙ ap (λ o. option_and_then {T = Term} {U = Term} (λ u. subterm u path) o) (slice_get-get_or (list_of ts) i d w)

module _ (σ : Signature) (n : ℕ) where
  pub variable_fits_in : (v : ℕ) → v < n → TermFits σ n (term.Var v)
  variable_fits_in v h [] = subst (LayerFits σ n) (sym (term.outs-Var v)) h
  variable_fits_in v h (i ∷ path) =
      subst (λ o. IfSome o (λ u. LayerFits σ n (out-Term u))) (sym (ap (λ z. option_and_then {T = Term} {U = Term} (λ u. subterm u path) (argument z i)) (term.outs-Var v))) tt

  each_fits : (ts : List Term) → All (TermFits σ n) ts → (i : ℕ) (path : List ℕ)
      → IfSome (option_and_then {T = Term} {U = Term} (λ u. subterm u path) (slice_get ts i)) (λ u. LayerFits σ n (out-Term u))
  each_fits [] h i path = tt
  each_fits (t ∷ ts) h zero path = h 0 t (omega arith) path
  each_fits (t ∷ ts) h (suc i) path = each_fits ts (λ j d w. h (suc j) d (omega arith)) i path

  pub application_fits_in : (s : Symbol) (ts : Terms) → IsRoot σ s (length (list_of ts)) → All (TermFits σ n) (list_of ts) → TermFits σ n (term.App s ts)
  application_fits_in s ts root all [] = subst (LayerFits σ n) (sym (term.outs-App s ts)) root
  application_fits_in s ts root all (i ∷ path) =
      subst (λ o. IfSome o (λ u. LayerFits σ n (out-Term u)))
      (sym (ap (λ z. option_and_then {T = Term} {U = Term} (λ u. subterm u path) (argument z i)) (term.outs-App s ts)))
      (each_fits (list_of ts) all i path)

-- ---- arguments, one after another

abbrev pub opened : WrittenTerms → Text
opened no_terms = []
opened (one_more t ts) = codes "(" ++ term_text t ++ more_text ts

regroup : (a b c d e : Text) → (a ++ b) ++ ((c ++ d) ++ e) ≡ (((a ++ b) ++ c) ++ d) ++ e
regroup a b c d e = simp append_assoc

abbrev opening : ℕ → Text
opening i = before (codes "(") (codes ", ") i

opening_later : (n : ℕ) → opening (suc n) ≡ codes ", "
opening_later n = let e : (suc n == 0) ≡ false = grind (arith, nat_tests) in rw e refl

module _ (σ : Signature) (names : List Text) where
  more_push : (ts : List Term) (t : Term) → more_text (written_terms σ names (ts ++ t ∷ [])) ≡ more_text (written_terms σ names ts) ++ codes ", " ++ term_text (written_term σ names t)
  more_push [] t = ap (λ l. codes ", " ++ l) (append-nil (term_text (written_term σ names t)))
  more_push (u ∷ ts) t = rw (more_push ts t) (simp append_assoc)

  opened_push : (ts : List Term) (t : Term) → opened (written_terms σ names (ts ++ t ∷ [])) ≡ opened (written_terms σ names ts) ++ opening (length ts) ++ term_text (written_term σ names t)
  opened_push [] t = ap (λ l. codes "(" ++ l) (append-nil (term_text (written_term σ names t)))
  opened_push (u ∷ ts) t =
      rw (more_push ts t, opening_later (length ts))
      (regroup (codes "(") (term_text (written_term σ names u)) (more_text (written_terms σ names ts)) (codes ", ") (term_text (written_term σ names t)))

  pub opened_more : (ts : List Term) (i : ℕ) (t : Term) → slice_get ts i ≡ Some t
      → opened (written_terms σ names (take (i + 1) ts)) ≡ opened (written_terms σ names (take i ts)) ++ opening i ++ term_text (written_term σ names t)
  opened_more ts i t got =
      let size : length (take i ts) ≡ i = length-take-le i ts (omega (arith, within ts i t got)) in
      ap (λ l. opened (written_terms σ names l)) (take_more_got ts i t got) ∙ opened_push (take i ts) t
      ∙ ap (λ n. opened (written_terms σ names (take i ts)) ++ opening n ++ term_text (written_term σ names t)) size

  pub closed : (ts : List Term) → ¬ (length ts ≡ 0) → arguments_text (written_terms σ names ts) ≡ opened (written_terms σ names ts) ++ codes ")"
  closed [] some = absurd (some refl)
  closed (t ∷ ts) some = simp append_assoc
