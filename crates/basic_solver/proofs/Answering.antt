-- The whole list of what is added, and when there is none.
use Rattle.std.proofs.Common.{ℕ, zero, suc, ◌≡◌, ◌<◌, ◌+◌, Bool, true, false, List, [], ◌∷◌, ◌++◌, length, get_or, refl, sym, ap, ◌∙◌, subst, arith, rules, inl, inr, ◌⊎◌, Option, Some, None}
use Rattle.std.specs.Prelude.{slice_index, All, Contains, IsSome, IsTrue, MatchBool, ◌↔◌}
use Rattle.std.proofs.lemmas.List.Elements.{All-contains, Contains-get_or, Contains-push_cases, Contains-push, Contains-append_left, All-from_get_or}
use Rattle.tree_model.specs.declared.tree.Symbol.{Symbol}
use Rattle.tree_model.specs.Signatures.{Signature, Alike}
use Rattle.tree_model.specs.Trees.{at}
use Rattle.tree_model.specs.Valuations.{Valuation}
use Rattle.tree_facts.proofs.Members.{contains_first, contains_later}
use Rattle.flat_form.specs.declared.atom.Flat.{Flat}
use Rattle.flat_form.specs.declared.atom.Flat.TheVariants.{VarVar, VarTerm, Finite}
use Rattle.flat_form.specs.Meanings.{AtomHolds, BasicHolds, HasNone}
use Rattle.flat_form.specs.Classes.{Class, itself, Reached, marked, child, Clashes, Unsolvable, clash, loop}
use Rattle.flat_form.specs.Numbering.{AtomOver, BasicOver}
use Rattle.flat_form.specs.Solved.{variable_of, Ascends}
use Rattle.flat_form.specs.Added.{Adds, IsAdded}
use Rattle.flat_facts.proofs.Heads.{head_class}
use Rattle.flat_facts.proofs.Classes.{class_alike}
use Rattle.flat_facts.proofs.Lists.{holds_in}
use Rattle.flat_facts.proofs.Names.{class_named}
use Rattle.flat_facts.proofs.Scopes.{class_apart, class_below, reached_below, term_low}
use Rattle.flat_facts.proofs.Follows.{over_below}
use Rattle.basic_solver.specs.Names.{name_in, IsSound}
use Rattle.basic_solver.specs.Flags.{AreClasses, Agrees, IsSet, IsStuck, IsFinished}
use Rattle.basic_solver.specs.Outcomes.{with_found, IsLine, IsListed, IsFiniteDone, IsEquation}
use Rattle.basic_solver.proofs.Following.{named_class}
use Rattle.basic_solver.proofs.Flagging.{set_moves}

pub ascends_push : (xs : List Flat) (x : Flat) → Ascends xs → ((a : Flat) → Contains xs a → variable_of a < variable_of x) → Ascends (xs ++ x ∷ [])
ascends_push [] x up low = (λ later i. absurd (omega (arith, i.1)), tt)
ascends_push (y ∷ xs) x up low = (
  λ later i. elim (Contains-push_cases xs x later i) [
    | inl j ↦ up.0 later j
    | inr e ↦ omega (arith, low y (contains_first y xs), ap variable_of e)
  ],
  ascends_push xs x up.1 (λ a i. low a (contains_later y a xs i)),
)

module _ (base atoms lines : List Flat) (v : ℕ) (listed : IsListed v base atoms lines) where
  pub listed_none : IsLine base atoms v None → IsListed (v + 1) base atoms lines
  listed_none none = record {
    ascending = listed.ascending;
    each = λ a i. ((listed.each a i).0, omega (arith, (listed.each a i).1));
    all = λ a new w. elim (cases (variable_of a) w) [ inl l ↦ listed.all a new l | inr e ↦ absurd (none a e new) ];
  }
    where
      cases : (x : ℕ) → x < v + 1 → (x < v) ⊎ (x ≡ v)
      cases x w = grind arith

  pub listed_some : (atom : Flat) → IsLine base atoms v (Some atom) → IsListed (v + 1) base atoms (lines ++ atom ∷ [])
  listed_some atom line = record {
    ascending = ascends_push lines atom listed.ascending (λ a i. omega (arith, (listed.each a i).1, line.0));
    each = λ a i. elim (Contains-push_cases lines atom a i) [
      | inl j ↦ ((listed.each a j).0, omega (arith, (listed.each a j).1))
      | inr e ↦ (subst (λ (z : Flat). Adds base atoms z) e line.1, omega (arith, line.0, ap variable_of e))
    ];
    all = λ a new w. elim (cases (variable_of a) w) [
      | inl l ↦ Contains-append_left lines (atom ∷ []) a (listed.all a new l)
      | inr e ↦ subst (λ (z : Flat). Contains (lines ++ atom ∷ []) z) (sym (line.2 a e new)) (Contains-push lines atom)
    ];
  }
    where
      cases : (x : ℕ) → x < v + 1 → (x < v) ⊎ (x ≡ v)
      cases x w = grind arith

pub listed_more : (base atoms lines : List Flat) (v : ℕ) → IsListed v base atoms lines → (found : Option Flat) → IsLine base atoms v found
    → IsListed (v + 1) base atoms (with_found lines found)
listed_more base atoms lines v listed None line = listed_none base atoms lines v listed line
listed_more base atoms lines v listed (Some atom) line = listed_some base atoms lines v listed atom line

pub listed_first : (base atoms : List Flat) → IsListed 0 base atoms []
listed_first base atoms = record { ascending = tt; each = λ a i. absurd (omega (arith, i.1)); all = λ a new w. absurd (omega (arith, w)) }

-- what is added stands below n
pub low_of : (n : ℕ) (base atoms : List Flat) → BasicOver n atoms → (a : Flat) → Adds base atoms a → variable_of a < n
low_of n base atoms over (VarVar v h) new =
    elim (class_apart n atoms (over_below n atoms over) (head_class base atoms v h new.head)) [ inl e ↦ absurd (new.differ e) | inr w ↦ w.0 ]
low_of n base atoms over (VarTerm v s ys) new =
    (class_below n atoms (over_below n atoms over) new.one_class).1 (term_low n atoms (over_below n atoms over) new.variable s new.xs new.stands)
low_of n base atoms over (Finite v) new = reached_below n atoms (over_below n atoms over) new.reached

some_pair : (s t : Symbol) (m n : ℕ) (p q : Symbol × ℕ) → p ≡ (s, m) → q ≡ (t, n) → Some p ≡ Some q → (s ≡ t) × (m ≡ n)
some_pair s t m n p q ep eq e =
    let same : p ≡ q = cc in
    (ap (λ (z : Symbol × ℕ). z.0) (sym ep ∙ same ∙ eq), ap (λ (z : Symbol × ℕ). z.1) (sym ep ∙ same ∙ eq))

module _ (names : List ℕ) (atoms : List Flat) where
  -- what is reached is done
  module _ (classes : AreClasses names atoms) (done : List Bool) (finished : IsFinished names atoms done) (finite : All (IsFiniteDone names done) atoms) where
    all_done : {v : ℕ} → Reached atoms v → IsSet names done v
    all_done (marked {u} {v} i c) = set_moves names atoms classes done u v c (All-contains (IsFiniteDone names done) atoms (Finite u) finite i)
    all_done (child {u} {w} s xs q i k l c) =
        set_moves names atoms classes done (slice_index xs k) w c (finished.0.down u s xs i (all_done q) k 0 l)

  -- names that terms agree with have no clash
  no_clash : AreClasses names atoms → ¬ Clashes atoms
  no_clash classes c =
      c.differ (All-contains (Agrees names (VarTerm c.left c.left_symbol c.xs)) atoms (VarTerm c.right c.right_symbol c.ys)
      (All-contains (λ (atom : Flat). All (Agrees names atom) atoms) atoms (VarTerm c.left c.left_symbol c.xs) classes.agree c.left_stands) c.right_stands
      (class_named atoms (name_in names) classes.closed c.one_class))

  -- no clash and no round: the atoms can be solved
  pub solvable : AreClasses names atoms → (done : List Bool) → IsFinished names atoms done → All (IsFiniteDone names done) atoms → ¬ Unsolvable atoms
  solvable classes done finished finite (clash c) = no_clash classes c
  solvable classes done finished finite (loop {v} r walk) = finished.0.no_round v (all_done classes done finished finite r) walk

  -- equations reach nothing, so no clash is enough
  none_reached : All IsEquation atoms → {v : ℕ} → ¬ Reached atoms v
  none_reached equations (marked {u} {v} i c) = All-contains IsEquation atoms (Finite u) equations i
  none_reached equations (child s xs q i k l c) = none_reached equations q

  pub equations_solvable : AreClasses names atoms → All IsEquation atoms → ¬ Unsolvable atoms
  equations_solvable classes equations (clash c) = no_clash classes c
  equations_solvable classes equations (loop r walk) = none_reached equations r

  -- a solution has no clash
  pub solution_agrees : (σ : Signature) (e : Valuation σ) → BasicHolds e atoms → IsSound atoms names → All (λ (atom : Flat). All (Agrees names atom) atoms) atoms
  solution_agrees σ e holds sound k d w m c x = agrees (get_or atoms k d) (get_or atoms m c) (Contains-get_or atoms k d w) (Contains-get_or atoms m c x)
    where
      agrees : (a b : Flat) → Contains atoms a → Contains atoms b → Agrees names a b
      agrees (VarVar u r) b i j = tt
      agrees (VarTerm u s xs) (VarVar v r) i j = tt
      agrees (VarTerm u s xs) (VarTerm v t ys) i j = λ same.
          let one : Class atoms u v = named_class atoms names sound u v same in
          let left = (holds_in e atoms (VarTerm u s xs) holds i).root in
          let right = (holds_in e atoms (VarTerm v t ys) holds j).root in
          some_pair s t (length xs) (length ys) (s, length xs) (t, length ys) refl refl (sym left ∙ class_alike σ atoms e u v holds one [] ∙ right)
      agrees (VarTerm u s xs) (Finite v) i j = tt
      agrees (Finite u) b i j = tt

  -- nor a class that is finite and not done
  module _ (σ : Signature) (e : Valuation σ) (holds : BasicHolds e atoms) (classes : AreClasses names atoms) (over : BasicOver (length names) atoms)
      (done : List Bool) (finished : IsFinished names atoms done) where
    some_here : (x : Symbol × ℕ) → IsSome (Some x)
    some_here x = search rules

    decide : (b : Bool) → (b ≡ true) ⊎ (¬ (b ≡ true))
    decide true = inl refl
    decide false = inr (λ q. cc q)

    -- a variable whose class is not done has no bound
    endless : (k v : ℕ) → v < length names → ¬ IsSet names done v → ¬ ((path : List ℕ) → IsSome (at (e v).graph path) → length path < k)
    endless zero v low unset = λ bound.
        let t = finished.0.term v low unset in
        let like : Alike (e v) (e t.0) = class_alike σ atoms e v t.0 holds (named_class atoms names classes.sound v t.0 (sym t.4)) in
        let own : AtomHolds e (VarTerm t.0 t.1 t.2) = holds_in e atoms (VarTerm t.0 t.1 t.2) holds t.3 in
        omega (arith, bound [] (subst IsSome (sym (like [] ∙ own.root)) (some_here (t.1, length t.2))))
    endless (suc k) v low unset = λ bound.
        let t = finished.0.term v low unset in
        let like : Alike (e v) (e t.0) = class_alike σ atoms e v t.0 holds (named_class atoms names classes.sound v t.0 (sym t.4)) in
        let own : AtomHolds e (VarTerm t.0 t.1 t.2) = holds_in e atoms (VarTerm t.0 t.1 t.2) holds t.3 in
        let stuck : All (IsSet names done) t.2 → IsSet names done t.0 = All-contains (IsStuck names done) atoms (VarTerm t.0 t.1 t.2) finished.1 t.3 in
        let each : (i : ℕ) → i < length t.2 → IsSet names done (slice_index t.2 i) = λ i w. elim (decide (get_or done (name_in names (slice_index t.2 i)) false)) [
          | inl q ↦ q
          | inr n ↦ absurd (endless k (slice_index t.2 i) ((All-contains (AtomOver (length names)) atoms (VarTerm t.0 t.1 t.2) over t.3).1 i 0 w) n
              (λ path some. omega (arith, bound (i ∷ path) (subst IsSome (sym (like (i ∷ path) ∙ own.child i w path)) some))))
        ] in
        let P : ℕ → Type 0 = λ z. get_or done z false ≡ true in
        unset (subst P t.4 (stuck (All-from_get_or (IsSet names done) t.2 0 each)))

    pub solution_done : All (IsFiniteDone names done) atoms
    solution_done k d w = finite_done (get_or atoms k d) (Contains-get_or atoms k d w)
      where
        finite_done : (a : Flat) → Contains atoms a → IsFiniteDone names done a
        finite_done (VarVar u r) i = tt
        finite_done (VarTerm u s xs) i = tt
        finite_done (Finite u) i = elim (decide (get_or done (name_in names u) false)) [
          | inl q ↦ q
          | inr n ↦ absurd (holds_in e atoms (Finite u) holds i (λ b. endless b.0 u (All-contains (AtomOver (length names)) atoms (Finite u) over i) n b.1))
        ]

-- whether all finite atoms' classes are done tells whether there is a solution
pub done_tells : (told : Bool) (names : List ℕ) (atoms : List Flat) (done : List Bool) → IsTrue told ↔ All (IsFiniteDone names done) atoms → BasicOver (length names) atoms
    → AreClasses names atoms → IsFinished names atoms done → MatchBool told (¬ Unsolvable atoms) (HasNone atoms)
done_tells true names atoms done tells over classes finished = solvable names atoms classes done finished (tells.0 (search rules))
done_tells false names atoms done tells over classes finished = λ σ e holds. absurd (cc (tells.1 (solution_done names atoms σ e holds classes over done finished)))

-- the list, which is all that is added
pub listed_added : (n : ℕ) (base atoms lines : List Flat) → BasicOver n atoms → ¬ Unsolvable atoms → IsListed n base atoms lines → IsAdded base atoms lines
listed_added n base atoms lines over solvable listed = record {
  solvable = solvable;
  ascending = listed.ascending;
  each = λ a i. (listed.each a i).0;
  all = λ a new. listed.all a new (low_of n base atoms over a new);
}

-- names that are the variables are in their classes
pub own_sound : (atoms : List Flat) (names : List ℕ) → ((v : ℕ) → name_in names v ≡ v) → IsSound atoms names
own_sound atoms names own v = let P : ℕ → Type 0 = λ z. Class atoms v z in subst P (sym (own v)) (itself v)
