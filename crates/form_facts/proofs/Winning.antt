-- Winning within one move more, as a formula over winning.
use Rattle.std.proofs.Common.{◌≡◌, ℕ, suc, List, [], ◌∷◌, refl, sym, ◌∙◌}
use Rattle.tree_model.specs.Trees.{at}
use Rattle.tree_model.specs.Signatures.{Signature, TreeOver, Alike}
use Rattle.tree_model.specs.Valuations.{Valuation, update}
use Rattle.formula_ast.specs.declared.pred.Pred.{Pred}
use Rattle.formula_ast.specs.declared.term.Term.TheVariants.{Var}
use Rattle.formula_ast.specs.declared.term.Term.TheViews.{out-Term}
use Rattle.formula_ast.specs.Satisfaction.{Holds, Wins, ReadsAs, AllReadAs, term_reads, meaning_of}
use Rattle.formula_ast.proofs.Stable.{Wins_stable}
use Rattle.form_facts.specs.Sameness.{AllAlike}
use Rattle.form_facts.specs.Winning.{winning_form, WinningForm}
use Rattle.form_facts.proofs.Sameness.{meaning_respects, wins_alike}

module _ {σ : Signature} where
  pub variable_reads : (e : Valuation σ) (v : ℕ) (path : List ℕ) → term_reads σ e (Var v) path ≡ at (e v).graph path
  unfolding out-Term denote.Hole.Carrier.out
  variable_reads e v path = refl

  -- the value of a variable reads as the variable, and what reads so is the value
  pub value_reads : (e : Valuation σ) (v : ℕ) → ReadsAs σ e (Var v) (e v)
  value_reads e v path = sym (variable_reads e v path)

  pub reads_value : (e : Valuation σ) (v : ℕ) (tree : TreeOver σ) → ReadsAs σ e (Var v) tree → Alike tree (e v)
  reads_value e v tree is path = is path ∙ variable_reads e v path

  two_read : (e : Valuation σ) (u v : ℕ) → AllReadAs σ e (Var u ∷ Var v ∷ []) (e u ∷ e v ∷ [])
  two_read e u v = (value_reads e u, (value_reads e v, tt))

  read_two : (e : Valuation σ) (u v : ℕ) (trees : List (TreeOver σ)) → AllReadAs σ e (Var u ∷ Var v ∷ []) trees → AllAlike trees (e u ∷ e v ∷ [])
  read_two e u v [] all = absurd all
  read_two e u v (t ∷ []) all = absurd all.1
  read_two e u v (t ∷ s ∷ []) all = (reads_value e u t all.0, (reads_value e v s all.1.0, tt))
  read_two e u v (t ∷ s ∷ r ∷ more) all = absurd all.1.1

  module _ (preds : List Pred) (p k : ℕ) (e : Valuation σ) where
    wins_by_form : Holds σ (meaning_of σ preds) (winning_form p k) e → Wins σ (meaning_of σ preds p) (suc k) (e 0)
    wins_by_form h n = h (λ (y, (moves, safe)). moves (λ (trees, (all, holds)).
        n (
          y,
          (
            meaning_respects preds p trees (e 0 ∷ y ∷ []) (read_two (update e 1 y) 0 1 trees all) holds,
            λ z back.
                (Wins_stable σ (meaning_of σ preds p) k z).holds (λ lost.
                let inner : Valuation σ = update (update e 1 y) 2 z in
                safe (λ m. m (
                  z,
                  (
                    λ m. m (y ∷ z ∷ [], (two_read inner 1 2, back)),
                    λ wins.
                        wins (λ (tree, (is, w)). lost (wins_alike preds p k tree z (reads_value inner 2 tree is) w)),
                  ),
                ))),
          ),
        )))

    form_by_wins : Wins σ (meaning_of σ preds p) (suc k) (e 0) → Holds σ (meaning_of σ preds) (winning_form p k) e
    form_by_wins h n = h (λ (y, (moves, wins)). n (
      y,
      (
        λ m. m (e 0 ∷ y ∷ [], (two_read (update e 1 y) 0 1, moves)),
        λ escape.
            escape (λ (z, (back, lost)). back (λ (trees, (all, holds)).
            let inner : Valuation σ = update (update e 1 y) 2 z in
            lost (λ m. m (z, (value_reads inner 2, wins z (meaning_respects preds p trees (y ∷ z ∷ []) (read_two inner 1 2 trees all) holds)))))),
      ),
    ))

pub winning_form_is : WinningForm
winning_form_is σ preds p k e = (wins_by_form preds p k e, form_by_wins preds p k e)
