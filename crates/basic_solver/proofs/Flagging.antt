-- Tables of flags for names.
use Rattle.std.proofs.Common.{ℕ, zero, suc, ◌≡◌, ◌<◌, ◌≤◌, ◌+◌, Bool, true, false, cond, List, [], ◌∷◌, length, get_or, take, refl, sym, ap, ◌∙◌, subst, arith, inl, inr, ◌⊎◌}
use Rattle.std.specs.Prelude.{slice_index, slice_set, MatchBool, All, Contains}
use Rattle.std.proofs.lemmas.List.{length-set, take_all, get_or_default}
use Rattle.std.proofs.lemmas.List.Elements.{All-more, All-contains, All-from_get_or}
use Rattle.std.proofs.lemmas.List.Sums.{sum_by-set}
use Rattle.std.proofs.lemmas.Bool.Decides.{when_true, when_false}
use Rattle.tree_model.specs.declared.tree.Symbol.{Symbol}
use Rattle.flat_form.specs.declared.atom.Flat.{Flat}
use Rattle.flat_form.specs.declared.atom.Flat.TheVariants.{VarTerm}
use Rattle.flat_form.specs.Classes.{Class, itself, Reached, child, Walk, step, more}
use Rattle.flat_facts.proofs.Heads.{reached_class}
use Rattle.flat_facts.proofs.Names.{class_named}
use Rattle.basic_solver.specs.Names.{name_in}
use Rattle.basic_solver.specs.Flags.{AreNames, AreClasses, Agrees, IsSet, left_over, IsGrounded, AreReached}
use Rattle.basic_solver.proofs.Following.{named_class}

pub set_there : (flags : List Bool) (r : ℕ) → r < length flags → get_or (slice_set flags r true) r false ≡ true
set_there [] r w = absurd (omega arith)
set_there (x ∷ xs) zero w = refl
set_there (x ∷ xs) (suc r) w = set_there xs r (omega arith)

pub set_kept : (flags : List Bool) (r k : ℕ) → get_or flags k false ≡ true → get_or (slice_set flags r true) k false ≡ true
set_kept [] r k e = e
set_kept (x ∷ xs) zero zero e = refl
set_kept (x ∷ xs) zero (suc k) e = e
set_kept (x ∷ xs) (suc r) zero e = e
set_kept (x ∷ xs) (suc r) (suc k) e = set_kept xs r k e

pub set_back : (flags : List Bool) (r k : ℕ) → get_or (slice_set flags r true) k false ≡ true → (k ≡ r) ⊎ (get_or flags k false ≡ true)
set_back [] r k e = inr e
set_back (x ∷ xs) zero zero e = inl refl
set_back (x ∷ xs) zero (suc k) e = inr e
set_back (x ∷ xs) (suc r) zero e = inr e
set_back (x ∷ xs) (suc r) (suc k) e = elim (set_back xs r k e) [ inl q ↦ inl (ap suc q) | inr q ↦ inr q ]

pub cleared_back : (flags : List Bool) (r k : ℕ) → get_or (slice_set flags r false) k false ≡ true → get_or flags k false ≡ true
cleared_back [] r k e = e
cleared_back (x ∷ xs) zero zero e = cc
cleared_back (x ∷ xs) zero (suc k) e = e
cleared_back (x ∷ xs) (suc r) zero e = e
cleared_back (x ∷ xs) (suc r) (suc k) e = cleared_back xs r k e

pub cleared_there : (flags : List Bool) (r : ℕ) → ¬ (get_or (slice_set flags r false) r false ≡ true)
cleared_there [] r = λ e. cc
cleared_there (x ∷ xs) zero = λ e. cc
cleared_there (x ∷ xs) (suc r) = cleared_there xs r

pub cleared_kept : (flags : List Bool) (r k : ℕ) → get_or flags k false ≡ true → ¬ (k ≡ r) → get_or (slice_set flags r false) k false ≡ true
cleared_kept [] r k e n = e
cleared_kept (x ∷ xs) zero zero e n = absurd (n refl)
cleared_kept (x ∷ xs) zero (suc k) e n = e
cleared_kept (x ∷ xs) (suc r) zero e n = e
cleared_kept (x ∷ xs) (suc r) (suc k) e n = cleared_kept xs r k e (λ q. n (ap suc q))

pub fewer_left : (flags : List Bool) (r : ℕ) → r < length flags → get_or flags r false ≡ false → left_over (slice_set flags r true) < left_over flags
fewer_left flags r w e =
    omega (arith, sum_by-set (λ (flag : Bool). cond flag 0 1) flags r true false w, ap {B = ℕ} (λ (flag : Bool). cond flag 0 1) e)

-- what is read at a place of a table, whatever stands for its end
pub zero_name : (names : List ℕ) (v : ℕ) → v < length names → get_or names v 0 ≡ name_in names v
zero_name names v w = get_or_default names v 0 v w

pub zero_low : (names : List ℕ) (v : ℕ) → AreNames names → v < length names → get_or names v 0 < length names
zero_low names v low w = omega (arith, zero_name names v w, low v w)

pub flag_read : (flags : List Bool) (i : ℕ) (x b : Bool) → i < length flags → x ≡ get_or flags i x → x ≡ b → get_or flags i false ≡ b
flag_read flags i x b w e is = get_or_default flags i false x w ∙ sym e ∙ is

pub set_read : (names : List ℕ) (flags : List Bool) (v : ℕ) (d b : Bool) → v < length names → get_or names v 0 < length flags → get_or flags (get_or names v 0) d ≡ b
    → get_or flags (name_in names v) false ≡ b
set_read names flags v d b w l e =
    ap (λ z. get_or flags z false) (sym (zero_name names v w)) ∙ get_or_default flags (get_or names v 0) false d l ∙ e

pub number_at : (P : ℕ → Type 0) (xs : List ℕ) (i x : ℕ) → All P xs → i < length xs → x ≡ slice_index xs i → P x
number_at P xs i x h w e = subst P (sym e) (h i 0 w)

pub told_less : (c : Bool) (L E Q R : Type 0) → MatchBool c L (E × Q) → (Q → R) → MatchBool c L (E × R)
told_less true L E Q R h f = h
told_less false L E Q R h f = (h.0, f h.1)

module _ (old mid new : List Bool) where
  -- a run, then a call that tells whether it changed something
  pub told_run : (c d r : Bool) (Q P R : Type 0) → MatchBool c (left_over mid < left_over old) ((mid ≡ old) × Q)
      → MatchBool d (left_over new < left_over mid) ((new ≡ mid) × P)
      → (d ≡ true) × (r ≡ true) ⊎ (d ≡ false) × (r ≡ c)
      → (mid ≡ old → Q → P → R)
      → MatchBool r (left_over new < left_over old) ((new ≡ old) × R)
  told_run true d r Q P R h k (inl e) onward =
      let less : left_over new < left_over mid = when_true (left_over new < left_over mid) ((new ≡ mid) × P) e.0 k in
      subst (λ (z : Bool). MatchBool z (left_over new < left_over old) ((new ≡ old) × R)) (sym e.1) (omega (arith, h, less))
  told_run false d r Q P R h k (inl e) onward =
      let less : left_over new < left_over mid = when_true (left_over new < left_over mid) ((new ≡ mid) × P) e.0 k in
      subst (λ (z : Bool). MatchBool z (left_over new < left_over old) ((new ≡ old) × R)) (sym e.1) (omega (arith, ap left_over h.0, less))
  told_run true d r Q P R h k (inr e) onward =
      let same : (new ≡ mid) × P = when_false (left_over new < left_over mid) ((new ≡ mid) × P) e.0 k in
      subst (λ (z : Bool). MatchBool z (left_over new < left_over old) ((new ≡ old) × R)) (sym e.1) (omega (arith, ap left_over same.0, h))
  told_run false d r Q P R h k (inr e) onward =
      let same : (new ≡ mid) × P = when_false (left_over new < left_over mid) ((new ≡ mid) × P) e.0 k in
      subst (λ (z : Bool). MatchBool z (left_over new < left_over old) ((new ≡ old) × R)) (sym e.1) (same.0 ∙ h.0, onward h.0 h.1 same.1)

-- a further number has P
pub number_next : (P : ℕ → Type 0) (xs : List ℕ) (i x : ℕ) → i < length xs → x ≡ slice_index xs i → All P (take i xs) → P x → All P (take (i + 1) xs)
number_next P xs i x w e h p = All-more P xs i 0 w h (subst P e p)

pub numbers_taken : (P : ℕ → Type 0) (xs : List ℕ) (i : ℕ) → length xs ≤ i → All P (take i xs) → All P xs
numbers_taken P xs i w h = subst (λ (z : List ℕ). All P z) (take_all i xs w) h

module _ (names : List ℕ) (atoms : List Flat) (classes : AreClasses names atoms) where
  -- a flag is one for the whole class
  pub set_moves : (flags : List Bool) (u v : ℕ) → Class atoms u v → IsSet names flags u → IsSet names flags v
  set_moves flags u v c = let P : ℕ → Type 0 = λ z. get_or flags z false ≡ true in subst P (class_named atoms (name_in names) classes.closed c)

  -- where terms of P lead to Q, and Q is a part of P, a walk from P leads to Q
  module _ (P Q : ℕ → Type 0) (along : (u v : ℕ) → Class atoms u v → P u → P v) (across : (u v : ℕ) → Class atoms u v → Q u → Q v) (part : (v : ℕ) → Q v → P v)
      (down : (u : ℕ) (s : Symbol) (xs : List ℕ) → Contains atoms (VarTerm u s xs) → P u → (i : ℕ) → i < length xs → Q (slice_index xs i)) where
    walk_in : {u w : ℕ} → Walk atoms u w → P u → Q w
    walk_in (step {u} {v} {w} s xs c i k l d) p = across (slice_index xs k) w d (down v s xs i (along u v c p) k l)
    walk_in (more {u} {v} {w} a b) p = walk_in b (part v (walk_in a p))

  -- where no class with a flag has a term, no walk leaves one
  pub none_leaves : (done : List Bool) → ((u : ℕ) (s : Symbol) (xs : List ℕ) → Contains atoms (VarTerm u s xs) → ¬ IsSet names done u)
      → (v : ℕ) → IsSet names done v → ¬ Walk atoms v v
  none_leaves done bare v p = λ walk.
      walk_in (IsSet names done) (λ z. ⊥) (λ u w c. set_moves done u w c) (λ u w c x. x) (λ w x. absurd x) (λ u s xs i q k l. bare u s xs i q) walk p

  module _ (done : List Bool) (grounded : IsGrounded names atoms done) (u : ℕ) (s : Symbol) (xs : List ℕ) (stands : Contains atoms (VarTerm u s xs))
      (within : name_in names u < length done) (unset : get_or done (name_in names u) false ≡ false) (all : All (IsSet names done) xs) where
    abbrev after : List Bool
    after = slice_set done (name_in names u) true

    agreed : (w : ℕ) (t : Symbol) (ys : List ℕ) → Contains atoms (VarTerm w t ys) → Agrees names (VarTerm w t ys) (VarTerm u s xs)
    agreed w t ys i = All-contains (Agrees names (VarTerm w t ys)) atoms (VarTerm u s xs)
        (All-contains (λ (atom : Flat). All (Agrees names atom) atoms) atoms (VarTerm w t ys) classes.agree i) stands

    -- the terms of the classes with a flag now lead to those that had one before
    before : (w : ℕ) (t : Symbol) (ys : List ℕ) → Contains atoms (VarTerm w t ys) → IsSet names after w → (i : ℕ) → i < length ys → IsSet names done (slice_index ys i)
    before w t ys i p k l = elim (set_back done (name_in names u) (name_in names w) p) [
      | inr q ↦ grounded.down w t ys i q k 0 l
      | inl e ↦
          let same : (t ≡ s) × (length ys ≡ length xs) = agreed w t ys i e in
          let other : Contains atoms (VarTerm w s ys) = subst (λ z. Contains atoms (VarTerm w z ys)) same.0 i in
          let one : name_in names (slice_index ys k) ≡ name_in names (slice_index xs k) = classes.closed.arguments w u s ys xs other stands same.1 e k l in
          let P : ℕ → Type 0 = λ z. get_or done z false ≡ true in
          subst P (sym one) (all k 0 (omega (arith, same.1, l)))
    ]

    never : ¬ (get_or done (name_in names u) false ≡ true)
    never = λ e. cc (e, unset)

    pub grounded_more : IsGrounded names atoms after
    grounded_more = record {
      size = length-set done (name_in names u) true ∙ grounded.size;
      down = λ w t ys i p. All-from_get_or (IsSet names after) ys 0 (λ k l. set_kept done (name_in names u) (name_in names (slice_index ys k)) (before w t ys i p k l));
      no_round = λ v p. elim (set_back done (name_in names u) (name_in names v) p) [
        | inr q ↦ grounded.no_round v q
        | inl e ↦ λ walk.
            let q : IsSet names done v = walk_in (IsSet names after) (IsSet names done) (λ x y c. set_moves after x y c) (λ x y c. set_moves done x y c)
            (λ x. set_kept done (name_in names u) (name_in names x)) before walk p in
            let P : ℕ → Type 0 = λ z. get_or done z false ≡ true in
            never (subst P e q)
      ];
      term = λ v w n. grounded.term v w (λ q. n (set_kept done (name_in names u) (name_in names v) q));
    }

  module _ (marks : List Bool) (below : AreReached names atoms marks) where
    pub reached_more : (u : ℕ) → Reached atoms u → AreReached names atoms (slice_set marks (name_in names u) true)
    reached_more u r v p = elim (set_back marks (name_in names u) (name_in names v) p) [
      | inr q ↦ below v q
      | inl e ↦ reached_class [] atoms u v r (named_class atoms names classes.sound u v (sym e))
    ]

    pub arguments_reached : (u : ℕ) (s : Symbol) (xs : List ℕ) → Contains atoms (VarTerm u s xs) → IsSet names marks u → All (Reached atoms) xs
    arguments_reached u s xs i p = All-from_get_or (Reached atoms) xs 0 (λ k l. child s xs (below u p) i k l (itself (slice_index xs k)))
