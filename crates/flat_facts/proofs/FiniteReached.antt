-- A solution of the base and of what is added solves the finite atoms, and so all atoms.
use Rattle.std.proofs.Common.{ℕ, ◌≡◌, List, [], ◌∷◌, ◌++◌, ◌∙◌, inl, inr}
use Rattle.std.specs.Prelude.{slice_index, Contains}
use Rattle.std.proofs.lemmas.List.Elements.{Contains-append_left, Contains-append_right}
use Rattle.classical.specs.Classical.{Either}
use Rattle.classical.proofs.Stable.{◌>>=◌, either_way}
use Rattle.tree_model.specs.declared.tree.Symbol.{Symbol}
use Rattle.tree_model.specs.Graphs.{Graph}
use Rattle.tree_model.specs.Signatures.{Signature}
use Rattle.tree_model.specs.Trees.{at, IsFinite}
use Rattle.tree_model.specs.Valuations.{Valuation}
use Rattle.tree_model.proofs.Sameness.{finite_same}
use Rattle.tree_facts.specs.Walks.{Branches}
use Rattle.tree_facts.proofs.NoRound.{none_comes_round}
use Rattle.flat_form.specs.declared.atom.Flat.{Flat}
use Rattle.flat_form.specs.declared.atom.Flat.TheVariants.{VarVar, VarTerm, Finite}
use Rattle.flat_form.specs.Meanings.{AtomHolds}
use Rattle.flat_form.specs.Classes.{Class, itself, turned, joined, stated, Reached, marked, child, Walk, step, more, loop, HasNoTerm}
use Rattle.flat_form.specs.Solved.{IsDirect}
use Rattle.flat_form.specs.Added.{by_term, by_root, IsAdded}
use Rattle.flat_facts.specs.AddedLaws.{AddedSuffices}
use Rattle.flat_facts.proofs.Heads.{head_moves, head_exists, reached_class}
use Rattle.flat_facts.proofs.Lists.{holds_in, all_hold}
use Rattle.flat_facts.proofs.Scopes.{above, all_below, reached_below}
use Rattle.flat_facts.proofs.Suffices.{one_value, term_holds}

module _ {σ : Signature} (base atoms added : List Flat) (sub : (a : Flat) → Contains base a → Contains atoms a) (direct : IsDirect base)
    (adds : IsAdded base atoms added) (e : Valuation σ)
    (in_base : (a : Flat) → Contains base a → AtomHolds e a) (in_added : (a : Flat) → Contains added a → AtomHolds e a) where
  abbrev tree : ℕ → Graph
  tree v = (e v).graph

  like : (u v : ℕ) → Class atoms u v → (path : List ℕ) → at (tree u) path ≡ at (tree v) path
  like u v c path = one_value base atoms added sub direct adds e in_base in_added path u v c

  term : (u : ℕ) (s : Symbol) (xs : List ℕ) → Contains atoms (VarTerm u s xs) → AtomHolds e (VarTerm u s xs)
  term = term_holds base atoms added sub direct adds e in_base in_added

  branches : (v u : ℕ) (s : Symbol) (xs : List ℕ) → Reached atoms v → Class atoms v u → Contains atoms (VarTerm u s xs) → Branches tree (Reached atoms) (Walk atoms) v
  branches v u s xs r c i = record {
    symbol = s;
    children = xs;
    root = like v u c [] ∙ (term u s xs i).root;
    child = λ k w path. like v u c (k ∷ path) ∙ (term u s xs i).child k w path;
    good = λ k w. child s xs (reached_class base atoms v u r c) i k w (itself (slice_index xs k));
    leads = λ k w. step s xs c i k w (itself (slice_index xs k));
  }

  -- a reached class without a term is finite by the base, or by what is added
  leaf_finite : (v : ℕ) → Reached atoms v → HasNoTerm atoms v → IsFinite (tree v)
  leaf_finite v r bare c = do
    (h, head) ← head_exists base atoms sub direct v
    elim head [
      | by_term k (s, xs, i) l ↦ bare h s xs k (sub (VarTerm h s xs) i)
      | by_root none k o l ↦ do
        f ← either_way ((q : ℕ) × Class atoms v q × Contains base (Finite q))
        elim f [
          | inl (q, d, i) ↦ finite_same (tree q) (tree v) (like q v (turned d)) (in_base (Finite q) i) c
          | inr not_yet ↦ finite_same (tree h) (tree v) (like h v (turned k))
              (in_added (Finite h) (adds.all (Finite h) (record {
                bare = o;
                head = head_moves base atoms v h h k (by_root none k o l);
                no_term = λ u s xs d. bare u s xs (joined k d);
                reached = reached_class base atoms v h r k;
                new = λ q d i. not_yet (q, joined k d, i);
              }))) c
        ]
    ]

  each : (v : ℕ) → Reached atoms v → Either (IsFinite (tree v)) (Branches tree (Reached atoms) (Walk atoms) v)
  each v r n = do
    t ← either_way ((u : ℕ) × (s : Symbol) × (xs : List ℕ) × Class atoms v u × Contains atoms (VarTerm u s xs))
    elim t [
      | inl (u, s, xs, c, i) ↦ n (inr (branches v u s xs r c i))
      | inr none ↦ n (inl (leaf_finite v r (λ u s xs c i. none (u, s, xs, c, i))))
    ]

  finite_here : (v : ℕ) → Reached atoms v → IsFinite (tree v)
  finite_here = none_comes_round (Reached atoms) (Walk atoms) tree (above atoms) (λ u v w. more)
      (λ v r. reached_below (above atoms) atoms (all_below atoms) r) (λ v r w. adds.solvable (loop r w)) each

  pub all_solved : (a : Flat) → Contains atoms a → AtomHolds e a
  all_solved (VarVar u v) i = like u v (stated i)
  all_solved (VarTerm u s xs) i = term u s xs i
  all_solved (Finite u) i = finite_here u (marked i (itself u))

pub added_suffices : AddedSuffices
added_suffices σ base rest added e direct adds in_base in_added =
    all_hold e rest (λ a i. all_solved base (base ++ rest) added (Contains-append_left base rest) direct adds e
    (λ b. holds_in e base b in_base) (λ b. holds_in e added b in_added) a (Contains-append_right base rest a i))
