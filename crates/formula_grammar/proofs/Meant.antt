-- What is written means one formula, and a text one file.
use Rattle.std.proofs.Common.{◌≡◌, ℕ, List, [], ◌∷◌, ◌++◌, length, map, refl, sym, ◌∙◌, ap, subst}
use Rattle.tree_model.specs.Signatures.{Signature}
use Rattle.formula_ast.specs.declared.term.Term.{Term}
use Rattle.formula_ast.specs.declared.term.Term.TheVariants as term
use Rattle.formula_ast.specs.declared.formula.Formula.{Formula, True, False, Eq, Differ, Finite, Call, Win, Not', And', Or', Imp', Iff', Exists', Forall', Row_of-Formula, more_of-Formula, end_of-Formula}
use Rattle.formula_ast.specs.declared.formula.Formula.TheVariants as v
use Rattle.formula_ast.specs.declared.statement.Statement.{Statement}
use Rattle.formula_ast.specs.declared.pred.Pred.{Pred}
use Rattle.formula_ast.specs.declared.file.File.{File}
use Rattle.formula_ast.specs.Forms as form
use Rattle.formula_ast.specs.Forms.{Form, form_of, part_of}
use Rattle.formula_ast.specs.Terms.{list_of}
use Rattle.formula_grammar.specs.Written.{Text, WrittenTerm, variable, headed, WrittenTerms, no_terms, one_more, WrittenFormula, truth, finite, win, compared, call, no, group, joined, quantified, Said, symbols, predicate, question}
use Rattle.formula_grammar.specs.Words.{WrittenStatement}
use Rattle.formula_grammar.specs.Checks.{value_of}
use Rattle.formula_grammar.specs.Names.{declared_by}
use Rattle.formula_grammar.specs.Meaning.{variables_in, first_occurrences, number_in, place_in, head_symbol, truth_form, comparer_form, joint_form, quantifier_form, behind, IsTerm, AreTerms, Stands, IsStatement, IsPredicate, MakesBy, Makes}

-- ---- a formula is known by its form

abbrev formula_of : Form → Formula
formula_of form.always = v.True
formula_of form.never = v.False
formula_of (form.equal t u) = v.Eq t u
formula_of (form.differ t u) = v.Differ t u
formula_of (form.finite t) = v.Finite t
formula_of (form.call p ts) = v.Call p (record { items = ts })
formula_of (form.win p k t) = v.Win p k t
formula_of (form.no f) = v.Not (formula_of f)
formula_of (form.and f g) = v.And (formula_of f) (formula_of g)
formula_of (form.or f g) = v.Or (formula_of f) (formula_of g)
formula_of (form.imp f g) = v.Imp (formula_of f) (formula_of g)
formula_of (form.iff f g) = v.Iff (formula_of f) (formula_of g)
formula_of (form.exists x f) = v.Exists x (formula_of f)
formula_of (form.forall x f) = v.Forall x (formula_of f)

two : (c : Formula → Formula → Formula) {f g h k : Formula} → f ≡ h → g ≡ k → c f g ≡ c h k
two c {f} {g} {h} {k} a b = ap (λ x. c x g) a ∙ ap (λ x. c h x) b

of_its_form : (f : Formula) → formula_of (form_of f) ≡ f
unfolding form_of part_of Rattle.formula_ast.specs.declared.formula.Formula.TheBlock.hidden-the_row-Formula-0 denote.Hole.Carrier.hidden
of_its_form True = refl
of_its_form False = refl
of_its_form (Eq t u) = refl
of_its_form (Differ t u) = refl
of_its_form (Finite t) = refl
of_its_form (Call p ts) = refl
of_its_form (Win p k t) = refl
of_its_form (Not' p (more_of-Formula f end_of-Formula)) = ap (λ x. v.Not x) (of_its_form f)
of_its_form (And' p (more_of-Formula f end_of-Formula) q (more_of-Formula g end_of-Formula)) = two (λ x y. v.And x y) (of_its_form f) (of_its_form g)
of_its_form (Or' p (more_of-Formula f end_of-Formula) q (more_of-Formula g end_of-Formula)) = two (λ x y. v.Or x y) (of_its_form f) (of_its_form g)
of_its_form (Imp' p (more_of-Formula f end_of-Formula) q (more_of-Formula g end_of-Formula)) = two (λ x y. v.Imp x y) (of_its_form f) (of_its_form g)
of_its_form (Iff' p (more_of-Formula f end_of-Formula) q (more_of-Formula g end_of-Formula)) = two (λ x y. v.Iff x y) (of_its_form f) (of_its_form g)
of_its_form (Exists' x p (more_of-Formula f end_of-Formula)) = ap (λ y. v.Exists x y) (of_its_form f)
of_its_form (Forall' x p (more_of-Formula f end_of-Formula)) = ap (λ y. v.Forall x y) (of_its_form f)

its_form : (f : Form) → form_of (formula_of f) ≡ f
unfolding form_of part_of Rattle.formula_ast.specs.declared.formula.Formula.TheBlock.hidden-the_row-Formula-0 denote.Hole.Carrier.hidden
its_form form.always = refl
its_form form.never = refl
its_form (form.equal t u) = refl
its_form (form.differ t u) = refl
its_form (form.finite t) = refl
its_form (form.call p ts) = refl
its_form (form.win p k t) = refl
its_form (form.no f) = ap (λ x. form.no x) (its_form f)
its_form (form.and f g) = ap (λ x. form.and x (form_of (formula_of g))) (its_form f) ∙ ap (λ x. form.and f x) (its_form g)
its_form (form.or f g) = ap (λ x. form.or x (form_of (formula_of g))) (its_form f) ∙ ap (λ x. form.or f x) (its_form g)
its_form (form.imp f g) = ap (λ x. form.imp x (form_of (formula_of g))) (its_form f) ∙ ap (λ x. form.imp f x) (its_form g)
its_form (form.iff f g) = ap (λ x. form.iff x (form_of (formula_of g))) (its_form f) ∙ ap (λ x. form.iff f x) (its_form g)
its_form (form.exists x f) = ap (λ y. form.exists x y) (its_form f)
its_form (form.forall x f) = ap (λ y. form.forall x y) (its_form f)

pub same_form : (f g : Formula) → form_of f ≡ form_of g → f ≡ g
same_form f g e = sym (of_its_form f) ∙ ap (λ x. formula_of x) e ∙ of_its_form g

-- ---- what is written, as a form

module _ (σ : Signature) (names : List Text) where
  abbrev mutual
    pub term_meant : WrittenTerm → Term
    term_meant (variable x) = term.Var (number_in names x)
    term_meant (headed h ws) = term.App (head_symbol σ h) (record { items = terms_meant ws })

    pub terms_meant : WrittenTerms → List Term
    terms_meant no_terms = []
    terms_meant (one_more w ws) = term_meant w ∷ terms_meant ws

  abbrev pub meant : WrittenFormula → Form
  meant (truth b) = truth_form b
  meant (finite w) = form.finite (term_meant w)
  meant (win p n w) = form.win (place_in σ p) (value_of n) (term_meant w)
  meant (compared r u w) = comparer_form r (term_meant u) (term_meant w)
  meant (call p ws) = form.call (place_in σ p) (terms_meant ws)
  meant (no w) = form.no (meant w)
  meant (group w) = meant w
  meant (joined j u w) = joint_form j (meant u) (meant w)
  meant (quantified q x xs w) = behind (quantifier_form q) (map (number_in names) (x ∷ xs)) (meant w)

  mutual
    one_term : (w : WrittenTerm) (t : Term) → IsTerm σ names w t → t ≡ term_meant w
    one_term (variable x) t e = e
    one_term (headed h ws) t (ts, e, are) = e ∙ ap (λ l. term.App (head_symbol σ h) (record { items = l })) (all_terms ws (list_of ts) are)

    all_terms : (ws : WrittenTerms) (ts : List Term) → AreTerms σ names ws ts → ts ≡ terms_meant ws
    all_terms no_terms ts e = e
    all_terms (one_more w ws) [] e = absurd e
    all_terms (one_more w ws) (t ∷ ts) e = ap (λ x. x ∷ ts) (one_term w t e.0) ∙ ap (λ l. term_meant w ∷ l) (all_terms ws ts e.1)

  pub one_form : (w : WrittenFormula) (f : Form) → Stands σ names w f → f ≡ meant w
  one_form (truth b) f e = e
  one_form (finite w) f (t, e, is) = e ∙ ap (λ x. form.finite x) (one_term w t is)
  one_form (win p n w) f (t, e, is) = e ∙ ap (λ x. form.win (place_in σ p) (value_of n) x) (one_term w t is)
  one_form (compared r y w) f (t, u, e, is, are) =
      e ∙ ap (λ x. comparer_form r x u) (one_term y t is) ∙ ap (λ x. comparer_form r (term_meant y) x) (one_term w u are)
  one_form (call p ws) f (ts, e, are) = e ∙ ap (λ l. form.call (place_in σ p) l) (all_terms ws ts are)
  one_form (no w) f (g, e, is) = e ∙ ap (λ x. form.no x) (one_form w g is)
  one_form (group w) f is = one_form w f is
  one_form (joined j y w) f (g, h, e, is, are) =
      e ∙ ap (λ x. joint_form j x h) (one_form y g is) ∙ ap (λ x. joint_form j (meant y) x) (one_form w h are)
  one_form (quantified q x xs w) f (g, e, is) =
      e ∙ ap (λ y. behind (quantifier_form q) (map (number_in names) (x ∷ xs)) y) (one_form w g is)

-- ---- and this form stands for it

module _ (σ : Signature) (names : List Text) where
  mutual
    term_stands : (w : WrittenTerm) → IsTerm σ names w (term_meant σ names w)
    term_stands (variable x) = refl
    term_stands (headed h ws) = (record { items = terms_meant σ names ws }, refl, terms_stand ws)

    terms_stand : (ws : WrittenTerms) → AreTerms σ names ws (terms_meant σ names ws)
    terms_stand no_terms = refl
    terms_stand (one_more w ws) = (term_stands w, terms_stand ws)

  stands : (w : WrittenFormula) → Stands σ names w (meant σ names w)
  stands (truth b) = refl
  stands (finite w) = (term_meant σ names w, refl, term_stands w)
  stands (win p n w) = (term_meant σ names w, refl, term_stands w)
  stands (compared r v w) = (term_meant σ names v, term_meant σ names w, refl, term_stands v, term_stands w)
  stands (call p ws) = (terms_meant σ names ws, refl, terms_stand ws)
  stands (no w) = (meant σ names w, refl, stands w)
  stands (group w) = stands w
  stands (joined j v w) = (meant σ names v, meant σ names w, refl, stands v, stands w)
  stands (quantified q x xs w) = (meant σ names w, refl, stands w)

  formula_meant : WrittenFormula → Formula
  formula_meant w = formula_of (meant σ names w)

  formula_stands : (w : WrittenFormula) → Stands σ names w (form_of (formula_meant w))
  unfolding formula_meant
  formula_stands w = subst (λ f. Stands σ names w f) (sym (its_form (meant σ names w))) (stands w)

pub one_formula : (σ : Signature) (names : List Text) (w : WrittenFormula) (f g : Formula) → Stands σ names w (form_of f) → Stands σ names w (form_of g) → f ≡ g
one_formula σ names w f g a b = same_form f g (one_form σ names w (form_of f) a ∙ sym (one_form σ names w (form_of g) b))

-- ---- statements, predicates and files

module _ (σ : Signature) (w : WrittenFormula) (xs : List Text) where
  -- the names and the body of a statement, or of a predicate
  same_body : (names others : List Text) (f g : Formula) → names ≡ first_occurrences xs (variables_in w) → others ≡ first_occurrences xs (variables_in w)
      → Stands σ names w (form_of f) → Stands σ others w (form_of g) → f ≡ g
  same_body names others f g a b x y =
      one_formula σ names w f g x (subst (λ ns. Stands σ ns w (form_of g)) (b ∙ sym a) y)

statement_of : List Text → Formula → Statement
statement_of names body = record { names = names; body = body }

pub one_statement : (σ : Signature) (w : WrittenFormula) (s t : Statement) → IsStatement σ w s → IsStatement σ w t → s ≡ t
unfolding statement_of
one_statement σ w s t a b =
    let names : s.names ≡ t.names = a.names ∙ sym b.names in
    let body : s.body ≡ t.body = same_body σ w [] s.names t.names s.body t.body a.names b.names a.body b.body in
    ap (λ ns. statement_of ns s.body) names ∙ ap (λ f. statement_of t.names f) body

predicate_of : ℕ → ℕ → List Text → Formula → Pred
predicate_of place params names body = record { place = place; params = params; names = names; body = body }

one_predicate : (σ : Signature) (xs : List Text) (w : WrittenFormula) (p q : Pred) → IsPredicate σ xs w p → IsPredicate σ xs w q → p ≡ q
unfolding predicate_of
one_predicate σ xs w p q a b =
    let place : p.place ≡ q.place = a.place ∙ sym b.place in
    let params : p.params ≡ q.params = a.params ∙ sym b.params in
    let names : p.names ≡ q.names = a.names ∙ sym b.names in
    let body : p.body ≡ q.body = same_body σ w xs p.names q.names p.body q.body a.names b.names a.body b.body in
    ap (λ x. predicate_of x p.params p.names p.body) place ∙ ap (λ x. predicate_of q.place x p.names p.body) params
    ∙ ap (λ x. predicate_of q.place q.params x p.body) names ∙ ap (λ x. predicate_of q.place q.params q.names x) body

file_of : Signature → List Pred → List Statement → File
file_of σ preds solves = record { signature = σ; preds = preds; solves = solves }

module _ (f g : File) (ss : List WrittenStatement) (later : (σ : Signature) (preds : List Pred) (solves : List Statement)
    → Makes f σ preds solves ss → Makes g σ preds solves ss → f ≡ g) where
  one_by : (σ : Signature) (preds : List Pred) (solves : List Statement) (said : Said)
      → MakesBy σ preds solves (λ τ ps qs. Makes f τ ps qs ss) said → MakesBy σ preds solves (λ τ ps qs. Makes g τ ps qs ss) said → f ≡ g
  one_by σ preds solves (symbols d ds) a b = later _ _ _ a b
  one_by σ preds solves (predicate p xs w) (pred, is, a) (other, are, b) =
      let same : other ≡ pred = one_predicate σ xs w other pred are is in
      later _ _ _ a (subst (λ x. Makes g (declared_by σ (predicate p xs w)) (preds ++ x ∷ []) solves ss) same b)
  one_by σ preds solves (question w) (s, is, a) (other, are, b) =
      let same : other ≡ s = one_statement σ w other s are is in
      later _ _ _ a (subst (λ x. Makes g σ preds (solves ++ x ∷ []) ss) same b)

pub one_file : (f g : File) (ss : List WrittenStatement) (σ : Signature) (preds : List Pred) (solves : List Statement) → Makes f σ preds solves ss
    → Makes g σ preds solves ss → f ≡ g
unfolding file_of
one_file f g [] σ preds solves a b =
    ap (λ x. file_of x f.preds f.solves) (a.0 ∙ sym b.0) ∙ ap (λ x. file_of g.signature x f.solves) (a.1 ∙ sym b.1)
    ∙ ap (λ x. file_of g.signature g.preds x) (a.2 ∙ sym b.2)
one_file f g (s ∷ ss) σ preds solves a b = one_by f g ss (λ τ ps qs x y. one_file f g ss τ ps qs x y) σ preds solves s.said a b

-- ---- and there is one

pub a_statement : (σ : Signature) (w : WrittenFormula) → (s : Statement) × IsStatement σ w s
unfolding statement_of
a_statement σ w =
    let names : List Text = first_occurrences [] (variables_in w) in
    (statement_of names (formula_meant σ names w), record { names = refl; body = formula_stands σ names w })

a_predicate : (σ : Signature) (xs : List Text) (w : WrittenFormula) → (p : Pred) × IsPredicate σ xs w p
unfolding predicate_of
a_predicate σ xs w =
    let names : List Text = first_occurrences xs (variables_in w) in (
      predicate_of (length σ) (length xs) names (formula_meant σ names w),
      record { place = refl; params = refl; names = refl; body = formula_stands σ names w },
    )

module _ (ss : List WrittenStatement) (later : (σ : Signature) (preds : List Pred) (solves : List Statement)
    → (f : File) × Makes f σ preds solves ss) where
  file_by : (σ : Signature) (preds : List Pred) (solves : List Statement) (said : Said)
      → (f : File) × MakesBy σ preds solves (λ τ ps qs. Makes f τ ps qs ss) said
  file_by σ preds solves (symbols d ds) = later (declared_by σ (symbols d ds)) preds solves
  file_by σ preds solves (predicate p xs w) =
      let pred = a_predicate σ xs w in
      let f = later (declared_by σ (predicate p xs w)) (preds ++ pred.0 ∷ []) solves in (f.0, (pred.0, pred.1, f.1))
  file_by σ preds solves (question w) =
      let s = a_statement σ w in
      let f = later σ preds (solves ++ s.0 ∷ []) in (f.0, (s.0, s.1, f.1))

pub a_file : (ss : List WrittenStatement) (σ : Signature) (preds : List Pred) (solves : List Statement) → (f : File) × Makes f σ preds solves ss
unfolding file_of
a_file [] σ preds solves = (file_of σ preds solves, (refl, refl, refl))
a_file (s ∷ ss) σ preds solves = file_by ss (λ τ ps qs. a_file ss τ ps qs) σ preds solves s.said
