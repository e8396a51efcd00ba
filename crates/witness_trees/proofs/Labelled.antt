-- The term of a variable, by its atom.
use Rattle.std.proofs.Common.{◌≡◌, ℕ, zero, suc, ◌+◌, ◌<◌, Bool, true, false, not, List, [], ◌∷◌, ◌++◌, length, map, refl, sym, ap, subst, ◌∙◌, arith, Some}
use Rattle.std.specs.Prelude.{Contains, slice_get}
use Rattle.std.specs.List.{list_any}
use Rattle.std.proofs.lemmas.Bool.{eq-eqb}
use Rattle.std.proofs.lemmas.List.Elements.{All-nil, All-cons, All-contains}
use Rattle.tree_model.specs.Graphs.{ChildrenBelow}
use Rattle.tree_model.specs.declared.tree.Symbol.{Symbol}
use Rattle.flat_form.specs.declared.atom.Flat.{Flat}
use Rattle.flat_form.specs.declared.atom.Flat.TheVariants.{VarVar, VarTerm, Finite}
use Rattle.flat_form.specs.Numbering.{AtomOver, BasicOver}
use Rattle.flat_form.specs.Solved.{Ascends, variable_of}
use Rattle.flat_facts.proofs.Lists.{one_each}
use Rattle.witness_trees.specs.Fresh.{defines, marks, representative, represented, fresh_node, fresh_term, label_by}
use Rattle.witness_trees.proofs.Terms.{only_at, none_at, defines_tells, marks_tells, said_is, term_own, finite_own, none_own, term, term_found, term_none}

-- a list of what f has for each number, with one more
pub got_more : {A : Type 0} (xs : List A) (x : A) (f : ℕ → A) → ((u : ℕ) → u < length xs → slice_get xs u ≡ Some (f u)) → x ≡ f (length xs)
    → (u : ℕ) → u < length xs + 1 → slice_get (xs ++ x ∷ []) u ≡ Some (f u)
got_more [] x f each e zero w = ap Some e
got_more [] x f each e (suc u) w = absurd (omega (arith, w))
got_more (y ∷ xs) x f each e zero w = each 0 (omega arith)
got_more (y ∷ xs) x f each e (suc u) w = got_more xs x (λ n. f (suc n)) (λ n l. each (suc n) (omega arith)) e u (omega (arith, w))

module _ (basic : List Flat) (up : Ascends basic) (v : ℕ) where
  -- the atom is v's
  abbrev IsAtom : Flat → Type 0
  IsAtom a = Contains basic a × (variable_of a ≡ v)

  abbrev NoAtom : Type 0
  NoAtom = (a : Flat) → Contains basic a → ¬ (variable_of a ≡ v)

  -- ---- whether v is open

  pub open_finite : (a : Flat) (u : ℕ) → a ≡ Finite u → IsAtom a → true ≡ not (list_any (defines v) basic)
  open_finite a u is (there, at) = ap not (sym (only_at v (defines v) (defines_tells v) basic up a there at ∙ ap (defines v) is))

  pub open_none : NoAtom → true ≡ not (list_any (defines v) basic)
  open_none none = ap not (sym (none_at v (defines v) (defines_tells v) basic none))

  -- ---- what v equals

  pub rep_variable : (a : Flat) (u r : ℕ) → a ≡ VarVar u r → IsAtom a → r ≡ representative basic v
  rep_variable a u r is (there, at) =
      sym (ap (representative basic) (sym at ∙ ap variable_of is) ∙ said_is basic up u r (subst (Contains basic) is there))

  pub rep_term : (a : Flat) (u : ℕ) (s : Symbol) (xs : List ℕ) → a ≡ VarTerm u s xs → IsAtom a → v ≡ representative basic v
  rep_term a u s xs is (there, at) =
      let same : v ≡ u = sym at ∙ ap variable_of is in
      same ∙ sym (term_own basic up u s xs (subst (Contains basic) is there)) ∙ ap (representative basic) (sym same)

  pub rep_finite : (a : Flat) (u : ℕ) → a ≡ Finite u → IsAtom a → v ≡ representative basic v
  rep_finite a u is (there, at) =
      let same : v ≡ u = sym at ∙ ap variable_of is in
      same ∙ sym (finite_own basic up u (subst (Contains basic) is there)) ∙ ap (representative basic) (sym same)

  pub rep_none : NoAtom → v ≡ representative basic v
  rep_none none = sym (none_own basic v none)

  -- ---- its term

  module _ (k : ℕ) where
    fresh : ((s : Symbol) (xs : List ℕ) → ¬ Contains basic (VarTerm v s xs)) → (b : Bool) → list_any (marks v) basic ≡ b
        → label_by basic k v ≡ represented basic (fresh_node k v b)
    fresh none b e = ap (represented basic) (term_none basic v (fresh_term basic k v) none) ∙ ap (λ c. represented basic (fresh_node k v c)) e

    pub by_term : (a : Flat) (u : ℕ) (s : Symbol) (xs children : List ℕ) → a ≡ VarTerm u s xs → IsAtom a → children ≡ map (representative basic) xs
        → term s children ≡ label_by basic k v
    by_term a u s xs children is (there, at) are =
        let said : Contains basic (VarTerm v s xs) = subst (Contains basic) (is ∙ ap (λ w. VarTerm w s xs) (sym (ap variable_of is) ∙ at)) there in
        ap (term s) are ∙ sym (ap (represented basic) (term_found basic up v s xs (fresh_term basic k v) said))

    pub by_finite : (a : Flat) (u : ℕ) → a ≡ Finite u → IsAtom a → fresh_node k v true ≡ label_by basic k v
    by_finite a u is (there, at) =
        sym (fresh (λ s xs said. no_term (one_each basic up (VarTerm v s xs) a said there (sym at) ∙ is)) true
        (only_at v (marks v) (marks_tells v) basic up a there at ∙ ap (marks v) is ∙ eq-eqb u v (sym (ap variable_of is) ∙ at)))
      where
        no_term : {s : Symbol} {xs : List ℕ} → ¬ (VarTerm v s xs ≡ Finite u)
        no_term = λ e. cc e

    pub by_variable : (a : Flat) (u r : ℕ) → a ≡ VarVar u r → IsAtom a → fresh_node k r false ≡ label_by basic k v
    by_variable a u r is (there, at) =
        ap (λ w. fresh_node k w false) (rep_variable a u r is (there, at))
        ∙ sym (fresh (λ s xs said. no_term (one_each basic up (VarTerm v s xs) a said there (sym at) ∙ is)) false
        (only_at v (marks v) (marks_tells v) basic up a there at ∙ ap (marks v) is))
      where
        no_term : {s : Symbol} {xs : List ℕ} → ¬ (VarTerm v s xs ≡ VarVar u r)
        no_term = λ e. cc e

    pub by_none : NoAtom → fresh_node k v false ≡ label_by basic k v
    by_none none =
        ap (λ w. fresh_node k w false) (rep_none none)
        ∙ sym (fresh (λ s xs said. none (VarTerm v s xs) said refl) false (none_at v (marks v) (marks_tells v) basic none))

-- its children are below n
pub fresh_below : (n k v : ℕ) (b : Bool) → v < n → ChildrenBelow n (fresh_node k v b)
fresh_below n k v true w = All-nil (λ c. c < n)
fresh_below n k v false w = All-cons (λ c. c < n) v [] w (All-nil (λ c. c < n))

-- a variable of an equation is one of those that the equations are over
pub right_below : (n : ℕ) (basic : List Flat) (a : Flat) (u r : ℕ) → BasicOver n basic → a ≡ VarVar u r → Contains basic a → r < n
right_below n basic a u r over is there = (All-contains (AtomOver n) basic (VarVar u r) over (subst (Contains basic) is there)).1
