-- Atoms that are read off the tables are those that are added.
use Rattle.std.proofs.Common.{ℕ, suc, ◌≡◌, ◌<◌, ◌≤◌, ◌+◌, Bool, true, false, List, [], ◌∷◌, map, length, get_or, refl, sym, ap, ◌∙◌, subst, arith, inl, inr, ◌⊎◌, Some, None, Option}
use Rattle.std.specs.Prelude.{slice_index, All, Contains}
use Rattle.std.proofs.lemmas.List.{get_or-map, length-map}
use Rattle.std.proofs.lemmas.List.Elements.{All-contains, Contains-get_or}
use Rattle.tree_model.specs.declared.tree.Symbol.{Symbol}
use Rattle.flat_form.specs.declared.atom.Flat.{Flat}
use Rattle.flat_form.specs.declared.atom.Flat.TheVariants.{VarVar, VarTerm, Finite}
use Rattle.flat_form.specs.Classes.{Class, stated, turned, Reached, marked, child}
use Rattle.flat_form.specs.Numbering.{AtomOver}
use Rattle.flat_form.specs.Solved.{variable_of, IsOpen, HasTerm}
use Rattle.flat_form.specs.Added.{IsHead, by_term, by_root, Adds, AddsEqual, AddsFinite}
use Rattle.flat_facts.proofs.Heads.{head_unique}
use Rattle.flat_facts.proofs.Names.{class_named}
use Rattle.basic_solver.specs.Names.{name_in, rank}
use Rattle.basic_solver.specs.Flags.{Agrees, IsSet, IsPassedOn}
use Rattle.basic_solver.specs.Outcomes.{LeavesOpen, GivesNoTerm, IsNoFinite, IsTermLine, IsFiniteLine, AreTables, IsLine}
use Rattle.basic_solver.proofs.Naming.{name_low}
use Rattle.basic_solver.proofs.Flagging.{set_moves}
use Rattle.basic_solver.proofs.Following.{named_class}

-- a root is left of no equation
pub open_from : (base : List Flat) (v : ℕ) → All (LeavesOpen v) base → IsOpen base v
open_from base v all = record {
  no_variable = λ r i. All-contains (LeavesOpen v) base (VarVar v r) all i refl;
  no_term = λ s xs i. All-contains (LeavesOpen v) base (VarTerm v s xs) all i refl;
}

open_each : (base : List Flat) (v : ℕ) → IsOpen base v → (a : Flat) → Contains base a → LeavesOpen v a
open_each base v root (VarVar u r) i = λ e. root.no_variable r (subst (λ (z : ℕ). Contains base (VarVar z r)) e i)
open_each base v root (VarTerm u s xs) i = λ e. root.no_term s xs (subst (λ (z : ℕ). Contains base (VarTerm z s xs)) e i)
open_each base v root (Finite u) i = tt

pub open_all : (base : List Flat) (v : ℕ) → IsOpen base v → All (LeavesOpen v) base
open_all base v root = λ k d w. open_each base v root (get_or base k d) (Contains-get_or base k d w)

-- what is added stands at a root
bare_of : (base atoms : List Flat) (a : Flat) → Adds base atoms a → IsOpen base (variable_of a)
bare_of base atoms (VarVar v h) new = new.bare
bare_of base atoms (VarTerm v s ys) new = new.bare
bare_of base atoms (Finite v) new = new.bare

pub line_of_bound : (base atoms : List Flat) (v : ℕ) → ¬ All (LeavesOpen v) base → IsLine base atoms v None
line_of_bound base atoms v bound other e = λ new.
    bound (open_all base v (subst (λ (z : ℕ). IsOpen base z) e (bare_of base atoms other new)))

pub same_list : (xs ys : List ℕ) → length xs ≡ length ys → ((i : ℕ) → i < length xs → slice_index xs i ≡ slice_index ys i) → xs ≡ ys
same_list [] [] len each = refl
same_list [] (y ∷ ys) len each = absurd (omega (arith, len))
same_list (x ∷ xs) [] len each = absurd (omega (arith, len))
same_list (x ∷ xs) (y ∷ ys) len each =
    ap (λ z. z ∷ xs) (each 0 (omega arith)) ∙ ap (λ zs. y ∷ zs) (same_list xs ys (omega (arith, len)) (λ i w. each (suc i) (omega arith)))

module _ (leads : List Bool) (names : List ℕ) (marks : List Bool) (base atoms : List Flat) (t : AreTables leads names marks base atoms) where
  named : {u v : ℕ} → Class atoms u v → name_in names u ≡ name_in names v
  named c = class_named atoms (name_in names) t.classes.closed c

  in_class : (v : ℕ) → Class atoms v (name_in names v)
  in_class v = t.classes.sound v

  term_low : (u : ℕ) → HasTerm base u → u < length names
  term_low u (s, xs, i) = (All-contains (AtomOver (length names)) base (VarTerm u s xs) t.base_over i).0

  -- where the name leads, it has a term, and is the least of its class that has one
  rank_led : (u : ℕ) → get_or leads u false ≡ true → rank leads u ≡ u
  rank_led u e = rw e refl

  rank_last : (u : ℕ) → get_or leads u false ≡ false → rank leads u ≡ length leads + u
  rank_last u e = rw e refl

  led_cases : (u : ℕ) → (get_or leads u false ≡ true) ⊎ (get_or leads u false ≡ false)
  led_cases u = bool_cases (get_or leads u false)
    where
      bool_cases : (b : Bool) → (b ≡ true) ⊎ (b ≡ false)
      bool_cases true = inl refl
      bool_cases false = inr refl

  not_led : (u : ℕ) → get_or leads u false ≡ false → ¬ HasTerm base u
  not_led u e = λ h. cc ((t.leads_are u).1 h, e)

  lowest : (v w : ℕ) → Class atoms v w → rank leads (name_in names v) ≤ rank leads w
  lowest v w c = omega (arith, ap (rank leads) (named c), t.naming.low w)

  pub head_named : (v : ℕ) → v < length names → IsHead base atoms v (name_in names v)
  head_named v within = elim (led_cases (name_in names v)) [
    | inl e ↦ by_term (in_class v) ((t.leads_are (name_in names v)).0 e)
        (λ w c h. omega (arith, lowest v w c, rank_led (name_in names v) e, rank_led w ((t.leads_are w).1 h)))
    | inr e ↦
        let low : name_in names v < length leads = name_low leads names t.naming v (omega (arith, t.naming.size, within)) in
        by_root
        (λ w c h. omega (arith, lowest v w c, rank_last (name_in names v) e, rank_led w ((t.leads_are w).1 h), term_low w h, t.naming.size))
        (in_class v)
        (record {
          no_variable = λ r i.
              let less : r < name_in names v = (t.direct (name_in names v) r i).0 in
              let one : Class atoms (name_in names v) r = stated (t.among (VarVar (name_in names v) r) i) in
              let most : rank leads (name_in names (name_in names v)) ≤ rank leads r = lowest (name_in names v) r one in
              elim (led_cases r) [
                | inl f ↦ omega (arith, most, ap (rank leads) (t.naming.itself v), rank_last (name_in names v) e, rank_led r f, less, low)
                | inr f ↦ omega (arith, most, ap (rank leads) (t.naming.itself v), rank_last (name_in names v) e, rank_last r f, less)
              ];
          no_term = λ s xs i. not_led (name_in names v) e (s, xs, i);
        })
        (λ w c o. elim (led_cases w) [
          | inl f ↦ let h : HasTerm base w = (t.leads_are w).0 f in absurd (o.no_term h.0 h.1 h.2)
          | inr f ↦ omega (arith, lowest v w c, rank_last (name_in names v) e, rank_last w f)
        ])
  ]

  -- reached classes have a flag
  pub marked_all : {v : ℕ} → Reached atoms v → IsSet names marks v
  marked_all (marked {u} {v} i c) = set_moves names atoms t.classes marks u v c (All-contains (IsPassedOn names marks) atoms (Finite u) t.passed_on i)
  marked_all (child {u} {w} s xs r i k l c) =
      set_moves names atoms t.classes marks (slice_index xs k) w c
      (All-contains (IsPassedOn names marks) atoms (VarTerm u s xs) t.passed_on i (marked_all r) k 0 l)

  argument_low : (u : ℕ) (s : Symbol) (xs : List ℕ) → Contains atoms (VarTerm u s xs) → (i : ℕ) → i < length xs → slice_index xs i < length names
  argument_low u s xs stands i w = (All-contains (AtomOver (length names)) atoms (VarTerm u s xs) t.over stands).1 i 0 w

  head_at : (x h : ℕ) → x < length names → IsHead base atoms x h → h ≡ name_in names x
  head_at x h w new = head_unique base atoms x h (name_in names x) new (head_named x w)

  module _ (v : ℕ) (within : v < length names) where
    head : (h : ℕ) → IsHead base atoms v h → h ≡ name_in names v
    head h new = head_unique base atoms v h (name_in names v) new (head_named v within)

    -- the name is another variable
    pub line_equal : All (LeavesOpen v) base → ¬ (name_in names v ≡ v) → IsLine base atoms v (Some (VarVar v (name_in names v)))
    line_equal root other = (
      refl,
      record { bare = open_from base v root; head = head_named v within; differ = λ e. other (sym e) },
      only,
    )
      where
        only : (a : Flat) → variable_of a ≡ v → Adds base atoms a → a ≡ VarVar v (name_in names v)
        only (VarVar u h) e new =
            ap (λ z. VarVar z h) e ∙ ap (VarVar v) (head h (subst (λ (z : ℕ). IsHead base atoms z h) e new.head))
        only (VarTerm u s ys) e new = absurd (other (sym (head v (subst (λ (z : ℕ). IsHead base atoms z z) e new.head))))
        only (Finite u) e new = absurd (other (sym (head v (subst (λ (z : ℕ). IsHead base atoms z z) e new.head))))

    module _ (own : name_in names v ≡ v) where
      own_head : IsHead base atoms v v
      own_head = let P : ℕ → Type 0 = λ z. IsHead base atoms v z in subst P own (head_named v within)

      no_equal : (u h : ℕ) → u ≡ v → ¬ AddsEqual base atoms u h
      no_equal u h e = λ new. new.differ (e ∙ sym (head h (subst (λ (z : ℕ). IsHead base atoms z h) e new.head) ∙ own))

      -- the class has a term
      module _ (u : ℕ) (s : Symbol) (xs : List ℕ) (stands : Contains atoms (VarTerm u s xs)) (name : name_in names u ≡ v) where
        one : Class atoms v u
        one = let P : ℕ → Type 0 = λ z. Class atoms u z in turned (subst P name (in_class u))

        agreed : (w : ℕ) (q : Symbol) (zs : List ℕ) → Contains atoms (VarTerm w q zs) → Agrees names (VarTerm w q zs) (VarTerm u s xs)
        agreed w q zs i = All-contains (Agrees names (VarTerm w q zs)) atoms (VarTerm u s xs)
            (All-contains (λ (atom : Flat). All (Agrees names atom) atoms) atoms (VarTerm w q zs) t.classes.agree i) stands

        read : (i : ℕ) → i < length xs → slice_index (map (name_in names) xs) i ≡ name_in names (slice_index xs i)
        read i w = get_or-map (name_in names) xs i 0 0 w

        own_name : (w x : ℕ) → w ≡ v → Class atoms w x → name_in names x ≡ name_in names u
        own_name w x e c = sym (named c) ∙ ap (name_in names) e ∙ own ∙ sym name

        only_term : (a : Flat) → variable_of a ≡ v → Adds base atoms a → a ≡ VarTerm v s (map (name_in names) xs)
        only_term (VarVar w h) e new = absurd (no_equal w h e new)
        only_term (Finite w) e new = absurd (new.no_term u s xs (subst (λ (z : ℕ). Class atoms z u) (sym e) one) stands)
        only_term (VarTerm w q ys) e new =
            let same_name : name_in names new.variable ≡ name_in names u = own_name w new.variable e new.one_class in
            let same : (q ≡ s) × (length new.xs ≡ length xs) = agreed new.variable q new.xs new.stands same_name in
            let there : Contains atoms (VarTerm new.variable s new.xs) = subst (λ z. Contains atoms (VarTerm new.variable z new.xs)) same.0 new.stands in
            let each : (i : ℕ) → i < length ys → slice_index ys i ≡ slice_index (map (name_in names) xs) i = λ i w.
            head_at (slice_index new.xs i) (slice_index ys i) (argument_low new.variable q new.xs new.stands i (omega (arith, new.as_many, w))) (new.heads i (omega (arith, new.as_many, w)))
            ∙ t.classes.closed.arguments new.variable u s new.xs xs there stands same.1 same_name i (omega (arith, new.as_many, w))
            ∙ sym (read i (omega (arith, new.as_many, same.1, w))) in
            let arguments : ys ≡ map (name_in names) xs = same_list ys (map (name_in names) xs) (new.as_many ∙ same.1 ∙ sym (length-map xs (name_in names))) each in
            ap (λ z. VarTerm z q ys) e ∙ ap (λ z. VarTerm v z ys) same.0 ∙ ap (λ z. VarTerm v s z) arguments

        line_term : All (LeavesOpen v) base → IsLine base atoms v (Some (VarTerm v s (map (name_in names) xs)))
        line_term root = (
          refl,
          record {
            bare = open_from base v root;
            head = own_head;
            variable = u;
            xs = xs;
            one_class = one;
            stands = stands;
            as_many = length-map xs (name_in names);
            heads = λ i w.
                let P : ℕ → Type 0 = λ z. IsHead base atoms (slice_index xs i) z in
                subst P (sym (read i w)) (head_named (slice_index xs i) (argument_low u s xs stands i w));
          },
          only_term,
        )

      pub line_found : (found : Flat) → All (LeavesOpen v) base → IsTermLine names atoms v (Some found) → IsLine base atoms v (Some found)
      line_found found root (u, s, xs, stands, name, e) =
          subst (λ (z : Flat). IsLine base atoms v (Some z)) (sym e) (line_term u s xs stands name root)

      -- the class has no term
      module _ (none : All (GivesNoTerm names v) atoms) where
        no_term_here : (w x : ℕ) (s : Symbol) (xs : List ℕ) → w ≡ v → Class atoms w x → ¬ Contains atoms (VarTerm x s xs)
        no_term_here w x s xs e c = λ i. All-contains (GivesNoTerm names v) atoms (VarTerm x s xs) none i (sym (named c) ∙ ap (name_in names) e ∙ own)

        flag_needed : (w : ℕ) → w ≡ v → AddsFinite base atoms w → (get_or marks v false ≡ true) × All (IsNoFinite names v) base
        flag_needed w e new = (
          (let P : ℕ → Type 0 = λ z. get_or marks z false ≡ true in subst P (ap (name_in names) e ∙ own) (marked_all new.reached)),
          λ k d l. unsaid (get_or base k d) (Contains-get_or base k d l),
        )
          where
            unsaid : (a : Flat) → Contains base a → IsNoFinite names v a
            unsaid (VarVar x r) i = tt
            unsaid (VarTerm x s xs) i = tt
            unsaid (Finite r) i = λ q. new.new r (named_class atoms names t.classes.sound w r (ap (name_in names) e ∙ own ∙ sym q)) i

        pub line_finite : All (LeavesOpen v) base → get_or marks v false ≡ true → All (IsNoFinite names v) base → IsLine base atoms v (Some (Finite v))
        line_finite root flag unsaid = (
          refl,
          record {
            bare = open_from base v root;
            head = own_head;
            no_term = λ x s xs c i. no_term_here v x s xs refl c i;
            reached = t.reached v (let P : ℕ → Type 0 = λ z. get_or marks z false ≡ true in subst P (sym own) flag);
            new = λ r c i. All-contains (IsNoFinite names v) base (Finite r) unsaid i (sym (named c) ∙ own);
          },
          only,
        )
          where
            only : (a : Flat) → variable_of a ≡ v → Adds base atoms a → a ≡ Finite v
            only (VarVar w h) e new = absurd (no_equal w h e new)
            only (VarTerm w s ys) e new = absurd (no_term_here w new.variable s new.xs e new.one_class new.stands)
            only (Finite w) e new = ap Finite e

        pub line_none : ¬ ((get_or marks v false ≡ true) × All (IsNoFinite names v) base) → IsLine base atoms v None
        line_none not_both (VarVar w h) e = no_equal w h e
        line_none not_both (VarTerm w s ys) e = λ new. no_term_here w new.variable s new.xs e new.one_class new.stands
        line_none not_both (Finite w) e = λ new. not_both (flag_needed w e new)

        pub line_last : All (LeavesOpen v) base → (found : Option Flat) → IsFiniteLine names marks base v found → IsLine base atoms v found
        line_last root None h = line_none h
        line_last root (Some atom) h = subst (λ (z : Flat). IsLine base atoms v (Some z)) (sym h.0) (line_finite root h.1 h.2)
