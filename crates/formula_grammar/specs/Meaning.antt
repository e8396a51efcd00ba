-- What written statements stand for.
use Rattle.std.specs.Prelude.{◌≡◌, ℕ, Bool, true, false, List, [], ◌∷◌, ◌++◌, length, map, position, unwrap_or, if◌then◌else◌}
use Rattle.std.specs.Str.{bytes_eq}
use Rattle.tree_model.specs.declared.tree.Symbol.{Symbol}
use Rattle.tree_model.specs.declared.tree.Symbol.TheVariants.{Named, Further}
use Rattle.tree_model.specs.Signatures.{Signature}
use Rattle.signature.specs.Names.{place_of}
use Rattle.formula_ast.specs.declared.term.Term.{Term}
use Rattle.formula_ast.specs.declared.term.Term.TheVariants as term
use Rattle.formula_ast.specs.declared.term.Terms.{Terms}
use Rattle.formula_ast.specs.declared.statement.Statement.{Statement}
use Rattle.formula_ast.specs.declared.pred.Pred.{Pred}
use Rattle.formula_ast.specs.declared.file.File.{File}
use Rattle.formula_ast.specs.Forms as form
use Rattle.formula_ast.specs.Forms.{Form, form_of}
use Rattle.formula_ast.specs.Terms.{list_of}
use Rattle.formula_grammar.specs.Written.{Text, Head, named, further, WrittenTerm, variable, headed, WrittenTerms, no_terms, one_more, Joint, and, or, imp, iff, Quantifier, exists, forall, Comparer, equals, differs, WrittenFormula, truth, finite, win, compared, call, no, group, joined, quantified, Said, symbols, predicate, question}
use Rattle.formula_grammar.specs.Words.{WrittenStatement}
use Rattle.formula_grammar.specs.Checks.{value_of, index_of, is_among}
use Rattle.formula_grammar.specs.Names.{declared_by}

-- the variables of a term, from left to right
abbrev mutual
  pub variables_of : WrittenTerm → List Text
  variables_of (variable x) = x ∷ []
  variables_of (headed h ts) = all_variables_of ts

  pub all_variables_of : WrittenTerms → List Text
  all_variables_of no_terms = []
  all_variables_of (one_more t ts) = variables_of t ++ all_variables_of ts

-- the variables of a formula, from left to right, those in quantifiers' lists included
abbrev pub variables_in : WrittenFormula → List Text
variables_in (truth b) = []
variables_in (finite t) = variables_of t
variables_in (win p n t) = variables_of t
variables_in (compared r t u) = variables_of t ++ variables_of u
variables_in (call p ts) = all_variables_of ts
variables_in (no f) = variables_in f
variables_in (group f) = variables_in f
variables_in (joined j f g) = variables_in f ++ variables_in g
variables_in (quantified q x xs f) = x ∷ xs ++ variables_in f

-- the texts, each once, by first occurrence, behind those that are there
abbrev pub first_occurrences : List Text → List Text → List Text
first_occurrences seen [] = seen
first_occurrences seen (x ∷ xs) = first_occurrences (if is_among x seen then seen else seen ++ x ∷ []) xs

-- the number of a variable: its place among the names
abbrev pub number_in : List Text → Text → ℕ
number_in names x = unwrap_or (position (λ n. bytes_eq n x) names) 0

-- the number of a declared name: its place in the signature
abbrev pub place_in : Signature → Text → ℕ
place_in σ f = unwrap_or (place_of σ f) 0

-- the symbol that heads a term
abbrev pub head_symbol : Signature → Head → Symbol
head_symbol σ (named f) = Named (place_in σ f)
head_symbol σ (further i) = Further (index_of i)

abbrev pub truth_form : Bool → Form
truth_form true = form.always
truth_form false = form.never

abbrev pub comparer_form : Comparer → Term → Term → Form
comparer_form equals t u = form.equal t u
comparer_form differs t u = form.differ t u

abbrev pub joint_form : Joint → Form → Form → Form
joint_form and f g = form.and f g
joint_form or f g = form.or f g
joint_form imp f g = form.imp f g
joint_form iff f g = form.iff f g

abbrev pub quantifier_form : Quantifier → ℕ → Form → Form
quantifier_form exists x f = form.exists x f
quantifier_form forall x f = form.forall x f

-- the formula behind quantifiers for these variables, from the outermost on
abbrev pub behind : (ℕ → Form → Form) → List ℕ → Form → Form
behind quantifier [] f = f
behind quantifier (x ∷ xs) f = quantifier x (behind quantifier xs f)

module _ (σ : Signature) (names : List Text) where
  -- the term is the one that is written
  abbrev mutual
    pub IsTerm : WrittenTerm → Term → Type 0
    IsTerm (variable x) t = t ≡ term.Var (number_in names x)
    IsTerm (headed h ws) t = (ts : Terms) × (t ≡ term.App (head_symbol σ h) ts) × AreTerms ws (list_of ts)

    pub AreTerms : WrittenTerms → List Term → Type 0
    AreTerms no_terms ts = ts ≡ []
    AreTerms (one_more w ws) [] = ⊥
    AreTerms (one_more w ws) (t ∷ ts) = IsTerm w t × AreTerms ws ts

  -- the formula is the one that is written
  abbrev pub Stands : WrittenFormula → Form → Type 0
  Stands (truth b) f = f ≡ truth_form b
  Stands (finite w) f = (t : Term) × (f ≡ form.finite t) × IsTerm w t
  Stands (win p n w) f = (t : Term) × (f ≡ form.win (place_in σ p) (value_of n) t) × IsTerm w t
  Stands (compared r v w) f = (t u : Term) × (f ≡ comparer_form r t u) × IsTerm v t × IsTerm w u
  Stands (call p ws) f = (ts : List Term) × (f ≡ form.call (place_in σ p) ts) × AreTerms ws ts
  Stands (no w) f = (g : Form) × (f ≡ form.no g) × Stands w g
  Stands (group w) f = Stands w f
  Stands (joined j v w) f = (g h : Form) × (f ≡ joint_form j g h) × Stands v g × Stands w h
  Stands (quantified q x xs w) f =
      (g : Form) × (f ≡ behind (quantifier_form q) (map (number_in names) (x ∷ xs)) g) × Stands w g

-- the statement is the formula that is written, with its variables named by first occurrence
pub record IsStatement (σ : Signature) (w : WrittenFormula) (s : Statement) : Type 0 where
  pub names : s.names ≡ first_occurrences [] (variables_in w)
  pub body : Stands σ s.names w (form_of s.body)

-- the predicate is the one that is written: its names are the parameters, and then the other variables of its body by first
-- occurrence
pub record IsPredicate (σ : Signature) (xs : List Text) (w : WrittenFormula) (pred : Pred) : Type 0 where
  pub place : pred.place ≡ length σ
  pub params : pred.params ≡ length xs
  pub names : pred.names ≡ first_occurrences xs (variables_in w)
  pub body : Stands σ pred.names w (form_of pred.body)

-- what a statement makes of a signature, predicates and questions, where this is made of what it leaves
abbrev pub MakesBy : Signature → List Pred → List Statement → (Signature → List Pred → List Statement → Type 0) → Said → Type 0
MakesBy σ preds solves later (symbols d ds) = later (declared_by σ (symbols d ds)) preds solves
MakesBy σ preds solves later (predicate p xs w) =
    (pred : Pred) × IsPredicate σ xs w pred × later (declared_by σ (predicate p xs w)) (preds ++ pred ∷ []) solves
MakesBy σ preds solves later (question w) = (s : Statement) × IsStatement σ w s × later σ preds (solves ++ s ∷ [])

-- the file is what the statements make of a signature, predicates and questions
abbrev pub Makes : File → Signature → List Pred → List Statement → List WrittenStatement → Type 0
Makes file σ preds solves [] = (file.signature ≡ σ) × (file.preds ≡ preds) × (file.solves ≡ solves)
Makes file σ preds solves (s ∷ more) = MakesBy σ preds solves (λ τ ps ss. Makes file τ ps ss more) s.said
