-- When a formula holds under a valuation, over all rational trees as values.
use Rattle.std.specs.Prelude.{◌≡◌, ℕ, zero, suc, List, [], ◌∷◌, get_or, Option, MatchBool, nat_eq}
use Rattle.classical.specs.Classical.{Either, Exists}
use Rattle.tree_model.specs.declared.tree.Symbol.{Symbol}
use Rattle.tree_model.specs.OneNode.{constant}
use Rattle.tree_model.specs.Trees.{at, ReadsFinite}
use Rattle.tree_model.specs.Signatures.{Signature, TreeOver}
use Rattle.tree_model.specs.Valuations.{Valuation, update}
use Rattle.formula_ast.specs.declared.term.Term.{Term}
use Rattle.formula_ast.specs.declared.pred.Pred.{Pred}
use Rattle.formula_ast.specs.Terms.{reads}
use Rattle.formula_ast.specs.Forms.{Form, form_of, always, never, equal, differ, finite, call, win, no, and, or, imp, iff, exists, forall}

-- what predicates mean: at which lists of trees the one at a place of the signature holds
abbrev pub Relations : Signature → Type 1
Relations σ = ℕ → List (TreeOver σ) → Type 0

module _ (σ : Signature) where
  -- what a term reads at a path
  abbrev pub term_reads : Valuation σ → Term → List ℕ → Option (Symbol × ℕ)
  term_reads e t path = reads (λ v. (e v).graph) t path

  -- both terms read alike at every path
  abbrev pub AreEqual : Valuation σ → Term → Term → Type 0
  AreEqual e t s = (path : List ℕ) → term_reads e t path ≡ term_reads e s path

  -- the tree reads as the term does at every path
  abbrev pub ReadsAs : Valuation σ → Term → TreeOver σ → Type 0
  ReadsAs e t tree = (path : List ℕ) → at tree.graph path ≡ term_reads e t path

  -- there is a tree for each term, which reads as the term does
  abbrev pub AllReadAs : Valuation σ → List Term → List (TreeOver σ) → Type 0
  AllReadAs e [] [] = Unit {0}
  AllReadAs e (t ∷ ts) (tree ∷ trees) = ReadsAs e t tree × AllReadAs e ts trees
  AllReadAs e [] (tree ∷ trees) = ⊥
  AllReadAs e (t ∷ ts) [] = ⊥

  -- The player to move at the tree t wins within k moves of its own: it has a move to some y, such that it wins
  -- within one move less at every z to which the opponent can move from y. Who can't move has lost.
  abbrev pub Wins : (List (TreeOver σ) → Type 0) → ℕ → TreeOver σ → Type 0
  Wins move zero t = ⊥
  Wins move (suc k) t =
      Exists (λ (y : TreeOver σ). move (t ∷ y ∷ []) × ((z : TreeOver σ) → move (y ∷ z ∷ []) → Wins move k z))

  -- the formula holds under the valuation e, where ρ says what the predicates mean
  abbrev pub Holds : Relations σ → Form → Valuation σ → Type 0
  Holds ρ always e = Unit {0}
  Holds ρ never e = ⊥
  Holds ρ (equal t s) e = AreEqual e t s
  Holds ρ (differ t s) e = ¬ AreEqual e t s
  Holds ρ (finite t) e = ReadsFinite (term_reads e t)
  Holds ρ (call p ts) e = Exists (λ (trees : List (TreeOver σ)). AllReadAs e ts trees × ρ p trees)
  Holds ρ (win p k t) e = Exists (λ (tree : TreeOver σ). ReadsAs e t tree × Wins (ρ p) k tree)
  Holds ρ (no f) e = ¬ Holds ρ f e
  Holds ρ (and f g) e = Holds ρ f e × Holds ρ g e
  Holds ρ (or f g) e = Either (Holds ρ f e) (Holds ρ g e)
  Holds ρ (imp f g) e = Holds ρ f e → Holds ρ g e
  Holds ρ (iff f g) e = (Holds ρ f e → Holds ρ g e) × (Holds ρ g e → Holds ρ f e)
  Holds ρ (exists x f) e = Exists (λ (t : TreeOver σ). Holds ρ f (update e x t))
  Holds ρ (forall x f) e = (t : TreeOver σ) → Holds ρ f (update e x t)

  -- the trees as values of the parameters, which are the first variables; the others are `$0`
  abbrev pub parameters : List (TreeOver σ) → Valuation σ
  parameters trees v = get_or trees v (constant σ 0)

  -- no predicate holds anywhere
  abbrev pub no_predicates : Relations σ
  no_predicates p trees = ⊥

  -- one more predicate: it holds where its body does, by what the predicates before it mean
  abbrev pub with_predicate : Relations σ → Pred → Relations σ
  with_predicate ρ pred p trees = MatchBool (nat_eq p pred.place) (Holds ρ (form_of pred.body) (parameters trees)) (ρ p trees)

  -- what predicates mean, taken in order of declaration, each by those before it
  abbrev pub with_predicates : Relations σ → List Pred → Relations σ
  with_predicates ρ [] = ρ
  with_predicates ρ (pred ∷ later) = with_predicates (with_predicate ρ pred) later

  abbrev pub meaning_of : List Pred → Relations σ
  meaning_of preds = with_predicates no_predicates preds
