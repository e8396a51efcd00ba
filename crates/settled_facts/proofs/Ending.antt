-- Walks that end come round nowhere, and make a variable firm where their leaves have marks.
use Rattle.std.proofs.Common.{ℕ, ◌≡◌, ◌<◌, List, [], ◌∷◌, ◌++◌, length, refl, sym, ◌∙◌, subst, arith, inl, inr}
use Rattle.std.specs.Prelude.{slice_index, Contains}
use Rattle.std.proofs.lemmas.Bool.{cases_eq}
use Rattle.tree_model.specs.declared.tree.Symbol.{Symbol}
use Rattle.tree_facts.proofs.Members.{contains_cases}
use Rattle.flat_form.specs.declared.atom.Flat.{Flat}
use Rattle.flat_form.specs.declared.atom.Flat.TheVariants.{VarVar, VarTerm}
use Rattle.flat_form.specs.Solved.{IsOpen}
use Rattle.flat_facts.specs.Spread.{IsTarget, Leads, stays, goes}
use Rattle.term_graph.specs.Contents.{Contents}
use Rattle.settled_facts.specs.Settled.{name, IsFree, IsMarked, IsShaped, Firm, leaf, node}
use Rattle.settled_facts.specs.Forms.{AreEquations}
use Rattle.settled_facts.specs.Ends.{Ends, ends, EndsHasNoRound, MarkedLeavesMakeFirm}
use Rattle.settled_facts.proofs.Terms.{kind_of, Kind, free, applied, free_no_term, name_free, name_argument, name_twice}

module _ (basic : List Flat) where
  -- a walk with one step more at its end
  step_behind : {u w : ℕ} {path before : List ℕ} (s : Symbol) (xs : List ℕ) (i : ℕ) → Leads basic u path before w → Contains basic (VarTerm w s xs) → i < length xs
      → Leads basic u (path ++ i ∷ []) (before ++ w ∷ []) (slice_index xs i)
  step_behind s xs i (stays u) a l = goes u (slice_index xs i) s xs i [] [] a l (stays (slice_index xs i))
  step_behind s xs i (goes u w q ys k path before b m d) a l =
      goes u (slice_index xs i) q ys k (path ++ i ∷ []) (before ++ w ∷ []) b m (step_behind s xs i d a l)

  -- a step along the walk from u back to u
  turn : (u x : ℕ) (s : Symbol) (xs : List ℕ) (i : ℕ) → x ≡ slice_index xs i → Contains basic (VarTerm u s xs) → i < length xs
      → ((q : Symbol) (ys : List ℕ) (k : ℕ) (path before : List ℕ) → Contains basic (VarTerm x q ys) → k < length ys → ¬ Leads basic (slice_index ys k) path before x)
      → {path before : List ℕ} → Leads basic x path before u → ⊥
  turn u x s xs i e a l none (stays _) = none s xs i [] [] a l (subst (λ (z : ℕ). Leads basic (slice_index xs i) [] [] z) (sym e) (stays (slice_index xs i)))
  turn u x s xs i e a l none (goes _ _ q ys k path before b m d) =
      none q ys k (path ++ i ∷ []) (before ++ u ∷ []) b m
      (subst (λ (z : ℕ). Leads basic (slice_index ys k) (path ++ i ∷ []) (before ++ u ∷ []) z) (sym e) (step_behind s xs i d a l))

  -- no walk of one step or more leads back
  no_way_back : (u : ℕ) → Ends basic u → (s : Symbol) (xs : List ℕ) (i : ℕ) (path before : List ℕ) → Contains basic (VarTerm u s xs) → i < length xs
      → ¬ Leads basic (slice_index xs i) path before u
  no_way_back u (ends _ next) s xs i path before a l = λ d. turn u (slice_index xs i) s xs i refl a l (no_way_back (slice_index xs i) (next s xs a i l)) d

  pub no_round : (u w : ℕ) (path before : List ℕ) → Ends basic u → Leads basic u path before w → ¬ Contains before w
  no_round u w _ _ e (stays _) = λ i. omega (arith, i.1)
  no_round u w _ _ (ends _ next) (goes _ _ s xs i path before a l d) = λ inside. elim (contains_cases u w before inside) [
    | inl e ↦ no_way_back u (ends u next) s xs i path before a l (subst (λ (z : ℕ). Leads basic (slice_index xs i) path before z) (sym e) d)
    | inr k ↦ no_round (slice_index xs i) w path before (next s xs a i l) d k
  ]

pub ends_no_round : EndsHasNoRound
ends_no_round basic v path end = λ k. no_round basic k.start k.last path k.before (end k.start k.target) k.walk k.again

module _ (c : Contents) (basic : List Flat) (shaped : IsShaped c) (equations : AreEquations c basic) where
  pub free_open : (r : ℕ) → IsFree c r → IsOpen basic r
  free_open r f = record {
    no_variable = λ q i. (let e = equations.each (VarVar r q) i in e.1 (sym (name_free c r f) ∙ e.0));
    no_term = λ s ys i. free_no_term c r s ys f (equations.each (VarTerm r s ys) i);
  }

  firm_by : (r : ℕ) → Ends basic r → name c r ≡ r → ((u : ℕ) (path before : List ℕ) → Leads basic r path before u → IsOpen basic u → IsMarked c u) → Firm c r
  firm_by r (ends _ next) own marks = elim (subst (λ (z : ℕ). Kind c z) own (kind_of c shaped r)) [
    | free f ↦ leaf f (marks r [] [] (stays r) (free_open r f))
    | applied s ys h ↦ node s ys h (λ i w. firm_by (slice_index ys i) (next s ys (equations.all (VarTerm r s ys) h) i w) (name_argument c shaped r s ys h i w)
        (λ u path before d o. marks u (i ∷ path) (r ∷ before) (goes r u s ys i path before (equations.all (VarTerm r s ys) h) w d) o))
  ]

  target : (v : ℕ) → IsTarget basic v (name c v)
  target v = elim (cases_eq v (name c v)) [
    | inl e ↦ inr (e, λ q i. (let f = equations.each (VarVar v q) i in f.1 (e ∙ f.0)))
    | inr n ↦ inl (equations.all (VarVar v (name c v)) (refl, n))
  ]

pub marked_leaves_firm : MarkedLeavesMakeFirm
marked_leaves_firm c basic v shaped equations end marks = firm_by c basic shaped equations (name c v) end (name_twice c shaped v)
    (λ u path before d o. marks u (record { start = name c v; path = path; before = before; target = target c basic shaped equations v; walk = d; bare = o }))
