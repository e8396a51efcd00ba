-- The terms that are written are over the signature, and their variables are numbers of the variables that are written.
use Rattle.std.proofs.Common.{◌≡◌, ℕ, zero, suc, ◌≤◌, Bool, true, false, ◌&&◌, List, [], ◌∷◌, length, All, Option, Some, None, slice_get, refl, sym, ◌∙◌, ap, subst, arith}
use Rattle.std.specs.Prelude.{IfSome, option_and_then, unwrap_or}
use Rattle.std.proofs.lemmas.List.Elements.{All-nil, All-cons}
use Rattle.tree_model.specs.declared.kind.Kind.{Kind}
use Rattle.tree_model.specs.declared.kind.Kind.TheVariants as kind
use Rattle.tree_model.specs.declared.tree.Symbol.{Symbol}
use Rattle.tree_model.specs.declared.tree.Symbol.TheVariants.{Named, Further}
use Rattle.tree_model.specs.Signatures.{Signature, declared_at}
use Rattle.signature.specs.Names.{place_of}
use Rattle.formula_ast.specs.declared.term.Term.{Term}
use Rattle.formula_ast.specs.declared.term.Term.TheOpen.{Term-F}
use Rattle.formula_ast.specs.declared.term.Term.TheOpen as layer
use Rattle.formula_ast.specs.declared.term.Term.TheViews.{out-Term}
use Rattle.formula_ast.specs.declared.term.Term.TheVariants as term
use Rattle.formula_ast.specs.declared.term.Terms.{Terms}
use Rattle.formula_ast.specs.Terms.{list_of, argument, subterm}
use Rattle.formula_ast.specs.WellFormed.{LayerOver, TermOver, OccursIn}
use Rattle.formula_grammar.specs.Written.{Text, Head, named, further, WrittenTerm, variable, headed, WrittenTerms, no_terms, one_more}
use Rattle.formula_grammar.specs.Limits.{most_arguments}
use Rattle.formula_grammar.specs.Checks.{declared, index_of, is_among}
use Rattle.formula_grammar.specs.Names.{count, TakesArguments, UsesSymbols, AllUseSymbols, has_bound, all_have_bound}
use Rattle.formula_grammar.specs.Within.{IsSmallHead, IsSmallTerm, AreSmallTerms}
use Rattle.formula_grammar.specs.Meaning.{variables_of, all_variables_of, number_in, place_in, head_symbol, IsTerm, AreTerms}
use Rattle.formula_grammar.specs.WellFormedLaws.{HasFewArguments}
use Rattle.formula_grammar.proofs.Occurrences.{AreAmong, among_left, among_right, number_within}

-- what is declared in the one signature is declared in the other
abbrev pub StaysIn : Signature → Signature → Type 0
StaysIn σ τ = (place : ℕ) (d : Kind × ℕ) → declared_at σ place ≡ Some d → declared_at τ place ≡ Some d

-- x is the number of one of these variables
abbrev pub IsNumberOf : List Text → List Text → ℕ → Type 0
IsNumberOf names zs x = (z : Text) × (is_among z zs ≡ true) × (number_in names z ≡ x)

-- a name that is declared is declared at its place
pub declared_there : (σ : Signature) (f : Text) (d : Kind × ℕ) → declared σ f ≡ Some d → declared_at σ (place_in σ f) ≡ Some d
declared_there σ f d e = step (place_of σ f) e
  where
    step : (o : Option ℕ) → option_and_then {T = ℕ} {U = Kind × ℕ} (λ place. declared_at σ place) o ≡ Some d
        → declared_at σ (unwrap_or o 0) ≡ Some d
    step None e = absurd (cc e)
    step (Some place) e = e

pub both_true : (a b : Bool) → (a && b) ≡ true → (a ≡ true) × (b ≡ true)
both_true true b e = (refl, e)
both_true false b e = absurd (cc e)

abbrev variable_or : ℕ → Term-F Term Terms → ℕ
variable_or d (layer.Var v) = v
variable_or d (layer.App s ts) = d

abbrev is_application : Term-F Term Terms → ℕ
is_application (layer.Var v) = 0
is_application (layer.App s ts) = 1

same_variable : (v x : ℕ) → term.Var v ≡ term.Var x → v ≡ x
same_variable v x e =
    ap (λ l. variable_or 0 l) (sym (term.outs-Var v)) ∙ ap (λ t. variable_or 0 (out-Term t)) e ∙ ap (λ l. variable_or 0 l) (term.outs-Var x)

no_application : (v : ℕ) (s : Symbol) (ts : Terms) → term.App s ts ≡ term.Var v → ⊥
no_application v s ts e =
    let one : ◌≡◌ {A = ℕ} 1 0 =
    ap (λ l. is_application l) (sym (term.outs-App s ts)) ∙ ap (λ t. is_application (out-Term t)) e
    ∙ ap (λ l. is_application l) (term.outs-Var v) in
    absurd (omega (arith, one))

some_is : {A : Type 0} (x y : A) → ◌≡◌ {A = Option A} (Some x) (Some y) → x ≡ y
some_is {A = A} x y e = ap (or_else x) e
  where
    or_else : A → Option A → A
    or_else d None = d
    or_else d (Some z) = z

-- the outermost layers of a variable and of an application
layer_of_variable : (t : Term) (v : ℕ) → t ≡ term.Var v → out-Term t ≡ layer.Var v
layer_of_variable t v e = ap out-Term e ∙ term.outs-Var v

layer_of_application : (t : Term) (s : Symbol) (ts : Terms) → t ≡ term.App s ts → out-Term t ≡ layer.App s ts
layer_of_application t s ts e = ap out-Term e ∙ term.outs-App s ts

module _ (σ : Signature) (names : List Text) where
  pub count_is : (ws : WrittenTerms) (ts : List Term) → AreTerms σ names ws ts → length ts ≡ count ws
  count_is no_terms ts e = ap (λ l. length l) e
  count_is (one_more w ws) [] are = absurd are
  count_is (one_more w ws) (t ∷ ts) are = ap suc (count_is ws ts are.1)

  module _ (τ : Signature) (stays : StaysIn σ τ) (few : HasFewArguments σ) where
    abbrev Over : Term → Type 0
    Over u = LayerOver τ (length names) (out-Term u)

    -- the i-th argument's subterm at a path is over the signature
    abbrev ArgumentOver : ℕ → List ℕ → Option Term → Type 0
    ArgumentOver i path o = IfSome (option_and_then {T = Term} {U = Term} (λ u. subterm u path) o) Over

    root_over : (f : Text) (ws : WrittenTerms) (ts : Terms) → declared σ f ≡ Some (kind.Symbol, count ws) → AreTerms σ names ws (list_of ts)
        → LayerOver τ (length names) (layer.App (Named (place_in σ f)) ts)
    root_over f ws ts d are =
        let n : length (list_of ts) ≡ count ws = count_is ws (list_of ts) are in
        let at : declared_at σ (place_in σ f) ≡ Some (kind.Symbol, length (list_of ts)) =
        declared_there σ f (kind.Symbol, count ws) d ∙ ap (λ m. Some (kind.Symbol, m)) (sym n) in
        (stays (place_in σ f) (kind.Symbol, length (list_of ts)) at, few (place_in σ f) (length (list_of ts)) at)

    further_over : (i : Text) (ws : WrittenTerms) (ts : Terms) → count ws ≤ most_arguments → AreTerms σ names ws (list_of ts)
        → LayerOver τ (length names) (layer.App (Further (index_of i)) ts)
    further_over i ws ts small are = let n = count_is ws (list_of ts) are in (tt, omega (arith, n, small))

    head_over : (h : Head) (ws : WrittenTerms) (ts : Terms) → TakesArguments σ h (count ws) → IsSmallHead h (count ws) → AreTerms σ names ws (list_of ts)
        → LayerOver τ (length names) (layer.App (head_symbol σ h) ts)
    head_over (named f) ws ts d s are = root_over f ws ts d are
    head_over (further i) ws ts d s are = further_over i ws ts s.1 are

    mutual
      subterm_over : (w : WrittenTerm) (t : Term) → IsTerm σ names w t → UsesSymbols σ w → IsSmallTerm w → AreAmong names (variables_of w)
          → (path : List ℕ) → IfSome (subterm t path) Over
      subterm_over (variable x) t e u s a [] =
          subst (λ l. LayerOver τ (length names) l) (sym (layer_of_variable t (number_in names x) e)) (number_within x names a.0)
      subterm_over (variable x) t e u s a (i ∷ path) =
          subst (λ l. ArgumentOver i path (argument l i)) (sym (layer_of_variable t (number_in names x) e)) tt
      subterm_over (headed h ws) t (ts, e, are) u s a [] =
          subst (λ l. LayerOver τ (length names) l) (sym (layer_of_application t (head_symbol σ h) ts e)) (head_over h ws ts u.0 s.0 are)
      subterm_over (headed h ws) t (ts, e, are) u s a (i ∷ path) =
          subst (λ l. ArgumentOver i path (argument l i)) (sym (layer_of_application t (head_symbol σ h) ts e))
          (argument_over ws (list_of ts) are u.1 s.1 a i path)

      argument_over : (ws : WrittenTerms) (ts : List Term) → AreTerms σ names ws ts → AllUseSymbols σ ws → AreSmallTerms ws
          → AreAmong names (all_variables_of ws) → (i : ℕ) (path : List ℕ) → ArgumentOver i path (slice_get ts i)
      argument_over no_terms ts e u s a i path = subst (λ l. ArgumentOver i path (slice_get l i)) (sym e) tt
      argument_over (one_more w ws) [] are u s a i path = absurd are
      argument_over (one_more w ws) (t ∷ ts) are u s a zero path =
          subterm_over w t are.0 u.0 s.0 (among_left names (variables_of w) (all_variables_of ws) a) path
      argument_over (one_more w ws) (t ∷ ts) are u s a (suc i) path =
          argument_over ws ts are.1 u.1 s.1 (among_right names (variables_of w) (all_variables_of ws) a) i path

    pub term_over : (w : WrittenTerm) (t : Term) → IsTerm σ names w t → UsesSymbols σ w → IsSmallTerm w → AreAmong names (variables_of w)
        → TermOver τ (length names) t
    term_over w t is u s a path = subterm_over w t is u s a path

    pub terms_over : (ws : WrittenTerms) (ts : List Term) → AreTerms σ names ws ts → AllUseSymbols σ ws → AreSmallTerms ws
        → AreAmong names (all_variables_of ws) → All (TermOver τ (length names)) ts
    terms_over no_terms ts e u s a = subst (λ l. All (TermOver τ (length names)) l) (sym e) (All-nil (TermOver τ (length names)))
    terms_over (one_more w ws) [] are u s a = absurd are
    terms_over (one_more w ws) (t ∷ ts) are u s a =
        All-cons (TermOver τ (length names)) t ts (term_over w t are.0 u.0 s.0 (among_left names (variables_of w) (all_variables_of ws) a))
        (terms_over ws ts are.1 u.1 s.1 (among_right names (variables_of w) (all_variables_of ws) a))

  -- ---- the variables of a term are numbers of variables that are bound

  module _ (zs : List Text) (x : ℕ) where
    -- the variable stands at a path of an argument
    abbrev StandsBelow : List ℕ → Option Term → Type 0
    StandsBelow path o = option_and_then {T = Term} {U = Term} (λ u. subterm u path) o ≡ Some (term.Var x)

    mutual
      number_at : (w : WrittenTerm) (t : Term) → IsTerm σ names w t → has_bound zs w ≡ true → (path : List ℕ)
          → subterm t path ≡ Some (term.Var x) → IsNumberOf names zs x
      number_at (variable y) t e b [] got = (y, b, same_variable (number_in names y) x (sym e ∙ some_is t (term.Var x) got))
      number_at (variable y) t e b (i ∷ path) got =
          let none : StandsBelow path None = subst (λ l. StandsBelow path (argument l i)) (layer_of_variable t (number_in names y) e) got in
          absurd (cc none)
      number_at (headed h ws) t (ts, e, are) b [] got = absurd (no_application x (head_symbol σ h) ts (sym e ∙ some_is t (term.Var x) got))
      number_at (headed h ws) t (ts, e, are) b (i ∷ path) got =
          number_below ws (list_of ts) are b i path
          (subst (λ l. StandsBelow path (argument l i)) (layer_of_application t (head_symbol σ h) ts e) got)

      number_below : (ws : WrittenTerms) (ts : List Term) → AreTerms σ names ws ts → all_have_bound zs ws ≡ true → (i : ℕ) (path : List ℕ)
          → StandsBelow path (slice_get ts i) → IsNumberOf names zs x
      number_below no_terms ts e b i path got =
          let none : StandsBelow path None = subst (λ l. StandsBelow path (slice_get l i)) e got in
          absurd (cc none)
      number_below (one_more w ws) [] are b i path got = absurd are
      number_below (one_more w ws) (t ∷ ts) are b zero path got =
          number_at w t are.0 (both_true (has_bound zs w) (all_have_bound zs ws) b).0 path got
      number_below (one_more w ws) (t ∷ ts) are b (suc i) path got =
          number_below ws ts are.1 (both_true (has_bound zs w) (all_have_bound zs ws) b).1 i path got

    pub in_term : (w : WrittenTerm) (t : Term) → IsTerm σ names w t → has_bound zs w ≡ true → OccursIn x t → IsNumberOf names zs x
    in_term w t is b (path, got) = number_at w t is b path got

    pub in_terms : (ws : WrittenTerms) (ts : List Term) → AreTerms σ names ws ts → all_have_bound zs ws ≡ true
        → (i : ℕ) (t : Term) → slice_get ts i ≡ Some t → OccursIn x t → IsNumberOf names zs x
    in_terms ws ts are b i t at (path, got) =
        number_below ws ts are b i path (subst (λ o. StandsBelow path o) (sym at) got)
