-- What is written holds alike over two lists of names, with the same tree for each name.
use Rattle.std.proofs.Common.{◌≡◌, ℕ, zero, suc, Bool, true, false, cond, eqb, List, [], ◌∷◌, ◌++◌, length, map, inl, inr, Option, Some, refl, sym, ap, ◌∙◌, subst}
use Rattle.std.specs.Prelude.{◌↔◌, slice_get, option_and_then, IsSome}
use Rattle.std.proofs.lemmas.Bool.{eqb-true, eqb-false}
use Rattle.tree_model.specs.declared.tree.Symbol.{Symbol}
use Rattle.tree_model.specs.Signatures.{Signature, TreeOver, Alike}
use Rattle.tree_model.specs.Trees.{at}
use Rattle.tree_model.specs.Valuations.{Valuation, update}
use Rattle.formula_ast.specs.declared.term.Term.{Term}
use Rattle.formula_ast.specs.declared.term.Term.TheVariants as term
use Rattle.formula_ast.specs.Forms.{Form}
use Rattle.formula_ast.specs.Terms.{layer_reads}
use Rattle.formula_ast.specs.Satisfaction.{Relations, Holds, AreEqual, AllReadAs, term_reads}
use Rattle.formula_grammar.specs.Checks.{is_among}
use Rattle.formula_grammar.specs.Meaning.{variables_of, all_variables_of, variables_in, number_in, head_symbol, quantifier_form, behind}
use Rattle.formula_grammar.specs.Written.{Text, WrittenTerm, variable, headed, WrittenTerms, no_terms, one_more, Joint, and, or, imp, iff, Quantifier, exists, forall, Comparer, equals, differs, WrittenFormula, truth, finite, win, compared, call, no, group, joined, quantified}
use Rattle.formula_grammar.proofs.Meant.{term_meant, terms_meant, meant}
use Rattle.formula_grammar.proofs.Occurrences.{AreAmong, among_left, among_right}
use Rattle.formula_printer.specs.Writing.{text_at}
use Rattle.formula_printer.proofs.Places.{named}

-- ---- names and their numbers

-- variables with one number are one
one_variable : (names : List Text) (x y : Text) → is_among x names ≡ true → is_among y names ≡ true → number_in names x ≡ number_in names y → x ≡ y
one_variable names x y a b same = sym (named names x a) ∙ ap (λ i. text_at names i) same ∙ named names y b

module _ {σ : Signature} where
  variable_reads : (e : Valuation σ) (v : ℕ) (path : List ℕ) → term_reads σ e (term.Var v) path ≡ at (e v).graph path
  variable_reads e v path = ap (λ l. layer_reads (λ u. (e u).graph) l path) (term.outs-Var v)

  root_reads : (e : Valuation σ) (s : Symbol) (ts : List Term) → term_reads σ e (term.App s (record { items = ts })) [] ≡ Some (s, length ts)
  root_reads e s ts = ap (λ l. layer_reads (λ u. (e u).graph) l []) (term.outs-App s (record { items = ts }))

  child_reads : (e : Valuation σ) (s : Symbol) (ts : List Term) (i : ℕ) (path : List ℕ)
      → term_reads σ e (term.App s (record { items = ts })) (i ∷ path) ≡ option_and_then {T = Term} {U = Symbol × ℕ} (λ t. term_reads σ e t path) (slice_get ts i)
  child_reads e s ts i path = ap (λ l. layer_reads (λ u. (e u).graph) l (i ∷ path)) (term.outs-App s (record { items = ts }))

-- names among the names ns, and among the names ms
module _ (ns ms : List Text) where
  -- each is among both
  pub record AreBoth (xs : List Text) : Type 0 where
    pub first : AreAmong ns xs
    pub second : AreAmong ms xs

  left : (xs ys : List Text) → AreBoth (xs ++ ys) → AreBoth xs
  left xs ys b = record { first = among_left ns xs ys b.first; second = among_left ms xs ys b.second }

  right : (xs ys : List Text) → AreBoth (xs ++ ys) → AreBoth ys
  right xs ys b = record { first = among_right ns xs ys b.first; second = among_right ms xs ys b.second }

  tail : (x : Text) (xs : List Text) → AreBoth (x ∷ xs) → AreBoth xs
  tail x xs b = record { first = b.first.1; second = b.second.1 }

module _ (σ : Signature) (ns ms : List Text) where
  -- the variable that has a name among the first has the tree that the one with this name has among the second
  abbrev pub Agree : Valuation σ → Valuation σ → Type 0
  Agree d e = (x : Text) → is_among x ns ≡ true → is_among x ms ≡ true → Alike (d (number_in ns x)) (e (number_in ms x))

  -- with one more tree for a name
  agree_more : (d e : Valuation σ) (x : Text) (t : TreeOver σ) → is_among x ns ≡ true → is_among x ms ≡ true → Agree d e
      → Agree (update d (number_in ns x) t) (update e (number_in ms x) t)
  agree_more d e x t a b agree y p q = by (eqb (number_in ns x) (number_in ns y)) refl (eqb (number_in ms x) (number_in ms y)) refl
    where
      by : (b : Bool) → eqb (number_in ns x) (number_in ns y) ≡ b → (c : Bool) → eqb (number_in ms x) (number_in ms y) ≡ c
          → Alike {σ = σ} (cond b t (d (number_in ns y))) (cond c t (e (number_in ms y)))
      by true first true second = λ path. refl
      by false first false second = agree y p q
      by true first false second =
          let same = one_variable ns x y a p (eqb-true (number_in ns x) (number_in ns y) first) in
          absurd (eqb-false (number_in ms x) (number_in ms y) second (ap (number_in ms) same))
      by false first true second =
          let same = one_variable ms x y b q (eqb-true (number_in ms x) (number_in ms y) second) in
          absurd (eqb-false (number_in ns x) (number_in ns y) first (ap (number_in ns) same))

  -- ---- terms

  as_many : (ws : WrittenTerms) → length (terms_meant σ ns ws) ≡ length (terms_meant σ ms ws)
  as_many no_terms = refl
  as_many (one_more w ws) = ap suc (as_many ws)

  module _ (d e : Valuation σ) (agree : Agree d e) where
    mutual
      term_same : (w : WrittenTerm) (path : List ℕ) → AreBoth ns ms (variables_of w) → term_reads σ d (term_meant σ ns w) path ≡ term_reads σ e (term_meant σ ms w) path
      term_same (variable x) path b =
          variable_reads d (number_in ns x) path ∙ agree x b.first.0 b.second.0 path ∙ sym (variable_reads e (number_in ms x) path)
      term_same (headed h ws) [] b =
          root_reads d (head_symbol σ h) (terms_meant σ ns ws) ∙ ap (λ n. Some (head_symbol σ h, n)) (as_many ws)
          ∙ sym (root_reads e (head_symbol σ h) (terms_meant σ ms ws))
      term_same (headed h ws) (i ∷ path) b =
          child_reads d (head_symbol σ h) (terms_meant σ ns ws) i path ∙ terms_same ws i path b ∙ sym (child_reads e (head_symbol σ h) (terms_meant σ ms ws) i path)

      terms_same : (ws : WrittenTerms) (i : ℕ) (path : List ℕ) → AreBoth ns ms (all_variables_of ws)
          → option_and_then {T = Term} {U = Symbol × ℕ} (λ t. term_reads σ d t path) (slice_get (terms_meant σ ns ws) i)
          ≡ option_and_then {T = Term} {U = Symbol × ℕ} (λ t. term_reads σ e t path) (slice_get (terms_meant σ ms ws) i)
      terms_same no_terms i path b = refl
      terms_same (one_more w ws) zero path b = term_same w path (left ns ms (variables_of w) (all_variables_of ws) b)
      terms_same (one_more w ws) (suc i) path b = terms_same ws i path (right ns ms (variables_of w) (all_variables_of ws) b)

    all_read : (ws : WrittenTerms) → AreBoth ns ms (all_variables_of ws) → (trees : List (TreeOver σ))
        → AllReadAs σ d (terms_meant σ ns ws) trees ↔ AllReadAs σ e (terms_meant σ ms ws) trees
    all_read no_terms b [] = (λ h. h, λ h. h)
    all_read no_terms b (tree ∷ trees) = (λ h. h, λ h. h)
    all_read (one_more w ws) b [] = (λ h. h, λ h. h)
    all_read (one_more w ws) b (tree ∷ trees) =
        let more = all_read ws (right ns ms (variables_of w) (all_variables_of ws) b) trees in
        let one = λ (path : List ℕ). term_same w path (left ns ms (variables_of w) (all_variables_of ws) b) in
        (λ h. (λ path. h.0 path ∙ one path, more.0 h.1), λ h. (λ path. h.0 path ∙ sym (one path), more.1 h.1))

  -- ---- formulas

  module _ (ρ : Relations σ) where
    -- the one form holds wherever the other does
    abbrev Matches : Form → Form → Type 0
    Matches f g = (d e : Valuation σ) → Agree d e → Holds σ ρ f d ↔ Holds σ ρ g e

    compared_same : (r : Comparer) (v w : WrittenTerm) → AreBoth ns ms (variables_of v ++ variables_of w) → Matches (meant σ ns (compared r v w)) (meant σ ms (compared r v w))
    compared_same r v w b d e agree = by r
      where
        both : AreEqual σ d (term_meant σ ns v) (term_meant σ ns w) ↔ AreEqual σ e (term_meant σ ms v) (term_meant σ ms w)
        both = (
          λ h path. sym (term_same d e agree v path (left ns ms (variables_of v) (variables_of w) b)) ∙ h path ∙ term_same d e agree w path (right ns ms (variables_of v) (variables_of w) b),
          λ h path. term_same d e agree v path (left ns ms (variables_of v) (variables_of w) b) ∙ h path ∙ sym (term_same d e agree w path (right ns ms (variables_of v) (variables_of w) b)),
        )

        by : (r : Comparer) → Holds σ ρ (meant σ ns (compared r v w)) d ↔ Holds σ ρ (meant σ ms (compared r v w)) e
        by equals = both
        by differs = (λ h k. h (both.1 k), λ h k. h (both.0 k))

    joined_same : (j : Joint) (v w : WrittenFormula) → Matches (meant σ ns v) (meant σ ms v) → Matches (meant σ ns w) (meant σ ms w)
        → Matches (meant σ ns (joined j v w)) (meant σ ms (joined j v w))
    joined_same j v w p q d e agree = by j (p d e agree) (q d e agree)
      where
        by : (j : Joint) → Holds σ ρ (meant σ ns v) d ↔ Holds σ ρ (meant σ ms v) e → Holds σ ρ (meant σ ns w) d ↔ Holds σ ρ (meant σ ms w) e
            → Holds σ ρ (meant σ ns (joined j v w)) d ↔ Holds σ ρ (meant σ ms (joined j v w)) e
        by and a b = (λ h. (a.0 h.0, b.0 h.1), λ h. (a.1 h.0, b.1 h.1))
        by or a b = (
          λ h k. h (λ s. elim s [ inl x ↦ k (inl (a.0 x)) | inr y ↦ k (inr (b.0 y)) ]),
          λ h k. h (λ s. elim s [ inl x ↦ k (inl (a.1 x)) | inr y ↦ k (inr (b.1 y)) ]),
        )
        by imp a b = (λ h x. b.0 (h (a.1 x)), λ h x. b.1 (h (a.0 x)))
        by iff a b = ((λ h. (λ x. b.0 (h.0 (a.1 x)), λ y. a.0 (h.1 (b.1 y)))), (λ h. (λ x. b.1 (h.0 (a.0 x)), λ y. a.1 (h.1 (b.0 y)))))

    behind_same : (q : Quantifier) (xs : List Text) (f g : Form) → AreBoth ns ms xs → Matches f g
        → Matches (behind (quantifier_form q) (map (number_in ns) xs) f) (behind (quantifier_form q) (map (number_in ms) xs) g)
    behind_same q [] f g b same d e agree = same d e agree
    behind_same exists (x ∷ xs) f g b same d e agree =
        let one = λ (t : TreeOver σ). behind_same exists xs f g (tail ns ms x xs b) same (update d (number_in ns x) t) (update e (number_in ms x) t)
        (agree_more d e x t b.first.0 b.second.0 agree) in
        (λ h k. h (λ (t, holds). k (t, (one t).0 holds)), λ h k. h (λ (t, holds). k (t, (one t).1 holds)))
    behind_same forall (x ∷ xs) f g b same d e agree =
        let one = λ (t : TreeOver σ). behind_same forall xs f g (tail ns ms x xs b) same (update d (number_in ns x) t) (update e (number_in ms x) t)
        (agree_more d e x t b.first.0 b.second.0 agree) in
        (λ h t. (one t).0 (h t), λ h t. (one t).1 (h t))

    pub same : (w : WrittenFormula) → AreBoth ns ms (variables_in w) → Matches (meant σ ns w) (meant σ ms w)
    same (truth true) b d e agree = (λ h. h, λ h. h)
    same (truth false) b d e agree = (λ h. h, λ h. h)
    same (finite w) b d e agree = (
      λ h k. h (λ (bound, all). k (bound, λ path is. all path (subst (λ (o : Option (Symbol × ℕ)). IsSome o) (sym (term_same d e agree w path b)) is))),
      λ h k. h (λ (bound, all). k (bound, λ path is. all path (subst (λ (o : Option (Symbol × ℕ)). IsSome o) (term_same d e agree w path b) is))),
    )
    same (win p n w) b d e agree = (
      λ h k. h (λ (tree, (is, wins)). k (tree, (λ path. is path ∙ term_same d e agree w path b, wins))),
      λ h k. h (λ (tree, (is, wins)). k (tree, (λ path. is path ∙ sym (term_same d e agree w path b), wins))),
    )
    same (compared r v w) b d e agree = compared_same r v w b d e agree
    same (call p ws) b d e agree = (
      λ h k. h (λ (trees, (all, holds)). k (trees, ((all_read d e agree ws b trees).0 all, holds))),
      λ h k. h (λ (trees, (all, holds)). k (trees, ((all_read d e agree ws b trees).1 all, holds))),
    )
    same (no w) b d e agree = let a = same w b d e agree in (λ h k. h (a.1 k), λ h k. h (a.0 k))
    same (group w) b d e agree = same w b d e agree
    same (joined j v w) b d e agree =
        joined_same j v w (same v (left ns ms (variables_in v) (variables_in w) b)) (same w (right ns ms (variables_in v) (variables_in w) b)) d e agree
    same (quantified q x xs w) b d e agree =
        behind_same q (x ∷ xs) (meant σ ns w) (meant σ ms w) (left ns ms (x ∷ xs) (variables_in w) b) (same w (right ns ms (x ∷ xs) (variables_in w) b)) d e agree
