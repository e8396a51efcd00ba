-- Where atoms can be solved, some list is what they add; so they have a solution.
use Rattle.std.proofs.Common.{ℕ, zero, suc, ◌≡◌, ◌<◌, ◌≤◌, ◌+◌, List, [], ◌∷◌, length, sym, ap, ◌∙◌, subst, arith, inl, inr, ◌⊎◌}
use Rattle.std.specs.Prelude.{slice_index, Contains}
use Rattle.std.proofs.lemmas.Grind.{same_number_lists}
use Rattle.classical.specs.Classical.{Exists, IsStable}
use Rattle.classical.proofs.Codes.{coded_stable, nat_stable}
use Rattle.classical.proofs.Stable.{◌>>=◌, either_way, and_stable}
use Rattle.tree_model.specs.declared.tree.Symbol.{Symbol}
use Rattle.tree_model.proofs.Stability.{symbol_code}
use Rattle.tree_model.specs.OneNode.{constant}
use Rattle.tree_facts.proofs.Indexes.{constant_finite}
use Rattle.tree_facts.proofs.Members.{contains_first, contains_later, contains_cases}
use Rattle.flat_form.specs.declared.atom.Flat.{Flat}
use Rattle.flat_form.specs.declared.atom.Flat.TheVariants.{VarVar, VarTerm, Finite}
use Rattle.flat_form.specs.Classes.{Class, turned, joined, inward, Unsolvable, clash}
use Rattle.flat_form.specs.Solved.{variable_of, Ascends}
use Rattle.flat_form.specs.Added.{IsHead, Adds, AddsTerm, IsAdded}
use Rattle.flat_facts.specs.AddedLaws.{SomethingIsAdded}
use Rattle.flat_facts.specs.ClassLaws.{SolvableHasSolution}
use Rattle.flat_facts.proofs.Classes.{unsolvable_none}
use Rattle.flat_facts.proofs.Follows.{added_fits}
use Rattle.flat_facts.proofs.Heads.{head_class, head_unique, head_moves}
use Rattle.flat_facts.proofs.Scopes.{above, all_below, class_below, term_low, reached_below, class_apart}
use Rattle.flat_facts.proofs.Shapes.{solved_form_solved}
use Rattle.flat_facts.proofs.Solutions.{solved_solution, solved_form_means}

parts_stable : (s t : Symbol) (m n : ℕ) → IsStable ((s ≡ t) × (m ≡ n))
parts_stable s t m n = and_stable (coded_stable symbol_code s t) (nat_stable m n)

module _ (base atoms : List Flat) (solvable : ¬ Unsolvable atoms) where
  -- one variable is given one term
  one_term : (v : ℕ) (s t : Symbol) (xs ys : List ℕ) → AddsTerm base atoms v s xs → AddsTerm base atoms v t ys → VarTerm v s xs ≡ VarTerm v t ys
  one_term v s t xs ys a b =
      let across : Class atoms a.variable b.variable = joined (turned a.one_class) b.one_class in
      let (symbols, counts) = (parts_stable s t (length a.xs) (length b.xs)).holds (λ differ. solvable (clash (record {
        left = a.variable;
        right = b.variable;
        left_symbol = s;
        right_symbol = t;
        xs = a.xs;
        ys = b.xs;
        one_class = across;
        left_stands = a.stands;
        right_stands = b.stands;
        differ = differ;
      }))) in
      let P : Symbol → Type 0 = λ z. Contains atoms (VarTerm b.variable z b.xs) in
      let lists : xs ≡ ys = same_number_lists xs ys (a.as_many ∙ counts ∙ sym b.as_many) (λ k w.
      head_unique base atoms (slice_index b.xs k) (slice_index xs k) (slice_index ys k)
      (head_moves base atoms (slice_index a.xs k) (slice_index b.xs k) (slice_index xs k)
      (inward s a.xs b.xs a.stands (subst P (sym symbols) b.stands) counts across k (omega (arith, a.as_many, w)))
      (a.heads k (omega (arith, a.as_many, w))))
      (b.heads k (omega (arith, a.as_many, counts, w)))) in
      ap (λ z. VarTerm v z xs) symbols ∙ ap (VarTerm v t) lists

  -- what is added for a variable is one atom
  one_atom : (a b : Flat) → Adds base atoms a → Adds base atoms b → variable_of a ≡ variable_of b → a ≡ b
  one_atom (VarVar v h) (VarVar w k) a b e =
      let P : ℕ → Type 0 = λ z. IsHead base atoms z k in
      ap (λ z. VarVar z h) e ∙ ap (VarVar w) (head_unique base atoms w h k (subst (λ z. IsHead base atoms z h) e a.head) b.head)
  one_atom (VarVar v h) (VarTerm w t ys) a b e =
      absurd (a.differ (e ∙ head_unique base atoms w w h b.head (subst (λ z. IsHead base atoms z h) e a.head)))
  one_atom (VarVar v h) (Finite w) a b e =
      absurd (a.differ (e ∙ head_unique base atoms w w h b.head (subst (λ z. IsHead base atoms z h) e a.head)))
  one_atom (VarTerm v s xs) (VarVar w k) a b e =
      absurd (b.differ (sym e ∙ head_unique base atoms v v k a.head (subst (λ z. IsHead base atoms z k) (sym e) b.head)))
  one_atom (VarTerm v s xs) (VarTerm w t ys) a b e =
      ap (λ z. VarTerm z s xs) e ∙ one_term w s t xs ys (subst (λ z. AddsTerm base atoms z s xs) e a) b
  one_atom (VarTerm v s xs) (Finite w) a b e =
      absurd (b.no_term a.variable s a.xs (subst (λ z. Class atoms z a.variable) e a.one_class) a.stands)
  one_atom (Finite v) (VarVar w k) a b e =
      absurd (b.differ (sym e ∙ head_unique base atoms v v k a.head (subst (λ z. IsHead base atoms z k) (sym e) b.head)))
  one_atom (Finite v) (VarTerm w t ys) a b e =
      absurd (a.no_term b.variable t b.xs (subst (λ z. Class atoms z b.variable) (sym e) b.one_class) b.stands)
  one_atom (Finite v) (Finite w) a b e = ap Finite e

  adds_low : (a : Flat) → Adds base atoms a → variable_of a < above atoms
  adds_low (VarVar v h) new = elim (class_apart (above atoms) atoms (all_below atoms) (head_class base atoms v h new.head)) [
    | inl e ↦ absurd (new.differ e)
    | inr p ↦ p.0
  ]
  adds_low (VarTerm v s ys) new =
      (class_below (above atoms) atoms (all_below atoms) new.one_class).1 (term_low (above atoms) atoms (all_below atoms) new.variable s new.xs new.stands)
  adds_low (Finite v) new = reached_below (above atoms) atoms (all_below atoms) new.reached

  -- what is added for the variables from k on
  record AddedFrom (k : ℕ) (added : List Flat) : Type 0 where
    ascending : Ascends added
    each : (a : Flat) → Contains added a → Adds base atoms a × (k ≤ variable_of a)
    all : (a : Flat) → Adds base atoms a → k ≤ variable_of a → Contains added a

  here_or_later : (k v : ℕ) → k ≤ v → (v ≡ k) ⊎ (k + 1 ≤ v)
  here_or_later k v le = grind (arith, le)

  with_own : (k : ℕ) (rest : List Flat) (a : Flat) → AddedFrom (k + 1) rest → Adds base atoms a → variable_of a ≡ k → AddedFrom k (a ∷ rest)
  with_own k rest a from adds own = record {
    ascending = (λ b i. omega (arith, own, (from.each b i).1), from.ascending);
    each = λ b i. elim (contains_cases a b rest i) [
      | inl e ↦ subst (λ z. Adds base atoms z × (k ≤ variable_of z)) e (adds, omega (arith, own))
      | inr j ↦ ((from.each b j).0, omega (arith, (from.each b j).1))
    ];
    all = λ b new le. elim (here_or_later k (variable_of b) le) [
      | inl e ↦ subst (λ z. Contains (a ∷ rest) z) (one_atom a b adds new (own ∙ sym e)) (contains_first a rest)
      | inr l ↦ contains_later a b rest (from.all b new l)
    ];
  }

  without_own : (k : ℕ) (rest : List Flat) → AddedFrom (k + 1) rest → ¬ ((a : Flat) × Adds base atoms a × (variable_of a ≡ k)) → AddedFrom k rest
  without_own k rest from none = record {
    ascending = from.ascending;
    each = λ b j. ((from.each b j).0, omega (arith, (from.each b j).1));
    all = λ b new le. elim (here_or_later k (variable_of b) le) [
      | inl e ↦ absurd (none (b, new, e))
      | inr l ↦ from.all b new l
    ];
  }

  added_from : (left k : ℕ) → k + left ≡ above atoms → Exists (AddedFrom k)
  added_from zero k e c = c (
    [],
    record {
      ascending = tt;
      each = λ a i. absurd (omega (arith, i.1));
      all = λ a new le. absurd (omega (arith, adds_low a new, e));
    },
  )
  added_from (suc left) k e c = do
    (rest, from) ← added_from left (k + 1) (omega (arith, e))
    x ← either_way ((a : Flat) × Adds base atoms a × (variable_of a ≡ k))
    elim x [
      | inl (a, adds, own) ↦ c (a ∷ rest, with_own k rest a from adds own)
      | inr none ↦ c (rest, without_own k rest from none)
    ]

  pub added_exists : Exists (IsAdded base atoms)
  added_exists c = do
    (added, from) ← added_from (above atoms) 0 (omega arith)
    c (
      added,
      record {
        solvable = solvable;
        ascending = from.ascending;
        each = λ a i. (from.each a i).0;
        all = λ a new. from.all a new (omega arith);
      },
    )

pub something_added : SomethingIsAdded
something_added base atoms solvable = added_exists base atoms solvable

pub solvable_solution : SolvableHasSolution
solvable_solution σ atoms fits = (
  λ some unsolvable. do
    (e, holds) ← some
    unsolvable_none σ atoms e holds unsolvable,
  λ solvable c. do
    (form, adds) ← added_exists [] atoms solvable
    let (d, holds, keeps) = solved_solution σ form (λ v. constant σ 0) (solved_form_solved atoms form adds)
        (added_fits σ [] atoms form fits adds) (λ u i. constant_finite σ 0) in
        c (d, (solved_form_means σ atoms form d adds).0 holds),
)
