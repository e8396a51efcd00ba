-- Tables with a flag for each variable.
use Rattle.std.proofs.Common.{ℕ, zero, suc, ◌≡◌, ◌<◌, Bool, true, false, cond, List, [], ◌∷◌, ◌++◌, length, get_or, take, drop, refl, sym, ap, ◌∙◌, subst, arith, inl, inr, ◌⊎◌}
use Rattle.std.specs.Prelude.{slice_set, MatchBool, All, Contains, ◌↔◌}
use Rattle.std.proofs.lemmas.List.{take_all, get_or_default, length-append, get_or_append_left, take-append-le}
use Rattle.std.proofs.lemmas.List.Elements.{All-push, All-from_get_or, All-contains}
use Rattle.std.proofs.lemmas.List.Sums.{sum_by-set}
use Rattle.std.proofs.lemmas.Bool.Decides.{when_true, when_false}
use Rattle.tree_model.specs.declared.tree.Symbol.{Symbol}
use Rattle.flat_form.specs.declared.atom.Flat.{Flat}
use Rattle.flat_form.specs.declared.atom.Flat.TheVariants.{VarTerm}
use Rattle.flat_form.specs.Parts.{Under, top, below}
use Rattle.reachability.specs.Flags.{IsSet, left_over, AreUnder, IsPassedOn, AreReached}

pub set_there : (flags : List Bool) (r : ℕ) → r < length flags → get_or (slice_set flags r true) r false ≡ true
set_there [] r w = absurd (omega arith)
set_there (x ∷ xs) zero w = refl
set_there (x ∷ xs) (suc r) w = set_there xs r (omega arith)

pub set_kept : (flags : List Bool) (r k : ℕ) → get_or flags k false ≡ true → get_or (slice_set flags r true) k false ≡ true
set_kept [] r k e = e
set_kept (x ∷ xs) zero zero e = refl
set_kept (x ∷ xs) zero (suc k) e = e
set_kept (x ∷ xs) (suc r) zero e = e
set_kept (x ∷ xs) (suc r) (suc k) e = set_kept xs r k e

pub set_back : (flags : List Bool) (r k : ℕ) → get_or (slice_set flags r true) k false ≡ true → (k ≡ r) ⊎ (get_or flags k false ≡ true)
set_back [] r k e = inr e
set_back (x ∷ xs) zero zero e = inl refl
set_back (x ∷ xs) zero (suc k) e = inr e
set_back (x ∷ xs) (suc r) zero e = inr e
set_back (x ∷ xs) (suc r) (suc k) e = elim (set_back xs r k e) [ inl q ↦ inl (ap suc q) | inr q ↦ inr q ]

pub fewer_left : (flags : List Bool) (r : ℕ) → r < length flags → get_or flags r false ≡ false → left_over (slice_set flags r true) < left_over flags
fewer_left flags r w e =
    omega (arith, sum_by-set (λ (flag : Bool). cond flag 0 1) flags r true false w, ap {B = ℕ} (λ (flag : Bool). cond flag 0 1) e)

pub flag_read : (flags : List Bool) (i : ℕ) (x b : Bool) → i < length flags → x ≡ get_or flags i x → x ≡ b → get_or flags i false ≡ b
flag_read flags i x b w e is = get_or_default flags i false x w ∙ sym e ∙ is

pub told_less : (c : Bool) (L E Q R : Type 0) → MatchBool c L (E × Q) → (Q → R) → MatchBool c L (E × R)
told_less true L E Q R h f = h
told_less false L E Q R h f = (h.0, f h.1)

module _ (old mid new : List Bool) where
  -- a run, then a call that tells whether it changed something
  pub told_run : (c d r : Bool) (Q P R : Type 0) → MatchBool c (left_over mid < left_over old) ((mid ≡ old) × Q)
      → MatchBool d (left_over new < left_over mid) ((new ≡ mid) × P)
      → (d ≡ true) × (r ≡ true) ⊎ (d ≡ false) × (r ≡ c)
      → (mid ≡ old → Q → P → R)
      → MatchBool r (left_over new < left_over old) ((new ≡ old) × R)
  told_run true d r Q P R h k (inl e) onward =
      let less : left_over new < left_over mid = when_true (left_over new < left_over mid) ((new ≡ mid) × P) e.0 k in
      subst (λ (z : Bool). MatchBool z (left_over new < left_over old) ((new ≡ old) × R)) (sym e.1) (omega (arith, h, less))
  told_run false d r Q P R h k (inl e) onward =
      let less : left_over new < left_over mid = when_true (left_over new < left_over mid) ((new ≡ mid) × P) e.0 k in
      subst (λ (z : Bool). MatchBool z (left_over new < left_over old) ((new ≡ old) × R)) (sym e.1) (omega (arith, ap left_over h.0, less))
  told_run true d r Q P R h k (inr e) onward =
      let same : (new ≡ mid) × P = when_false (left_over new < left_over mid) ((new ≡ mid) × P) e.0 k in
      subst (λ (z : Bool). MatchBool z (left_over new < left_over old) ((new ≡ old) × R)) (sym e.1) (omega (arith, ap left_over same.0, h))
  told_run false d r Q P R h k (inr e) onward =
      let same : (new ≡ mid) × P = when_false (left_over new < left_over mid) ((new ≡ mid) × P) e.0 k in
      subst (λ (z : Bool). MatchBool z (left_over new < left_over old) ((new ≡ old) × R)) (sym e.1) (same.0 ∙ h.0, onward h.0 h.1 same.1)

-- stacks
all_front : {T : Type 0} (P : T → Type 0) (xs : List T) (x : T) → All P (xs ++ x ∷ []) → All P xs
all_front P xs x h k d w = subst P (get_or_append_left xs (x ∷ []) d k w) (h k d (omega (arith, length-append xs (x ∷ []), w)))

pub all_pushed : {T : Type 0} (P : T → Type 0) (old new : List T) (x : T) → new ≡ old ++ x ∷ [] → P x → All P old → All P new
all_pushed {T} P old new x e p h = subst (λ (z : List T). All P z) (sym e) (All-push P old x h p)

pub all_popped : {T : Type 0} (P : T → Type 0) (old new : List T) (x : T) → old ≡ new ++ x ∷ [] → All P old → All P new
all_popped {T} P old new x e h = all_front P new x (subst (λ (z : List T). All P z) e h)

module _ (first : ℕ) (atoms : List Flat) (marks : List Bool) (are : AreUnder first atoms marks) where
  -- one more mark
  pub under_more : (u : ℕ) → Under first atoms u → AreUnder first atoms (slice_set marks u true)
  under_more u r = record {
    firsts = λ v w. set_kept marks u v (are.firsts v w);
    under = λ v p. elim (set_back marks u v p) [
      | inr q ↦ are.under v q
      | inl e ↦ subst (λ (z : ℕ). Under first atoms z) (sym e) r
    ];
  }

  -- the arguments of a marked variable's term
  pub arguments_under : (u : ℕ) (symbol : Symbol) (xs : List ℕ) → Contains atoms (VarTerm u symbol xs) → IsSet marks u → All (Under first atoms) xs
  arguments_under u symbol xs i p = All-from_get_or (Under first atoms) xs 0 (λ k l. below symbol xs (are.under u p) i k l)

  module _ (passed : All (IsPassedOn marks) atoms) where
    -- where each mark is passed on, no mark is missing
    none_missing : {v : ℕ} → Under first atoms v → IsSet marks v
    none_missing (top {v} w) = are.firsts v w
    none_missing (below {u} symbol xs r i k l) = All-contains (IsPassedOn marks) atoms (VarTerm u symbol xs) passed i (none_missing r) k 0 l

    pub all_reached : (count : ℕ) → length marks ≡ count → AreReached first count atoms marks
    all_reached count size = record { size = size; is = λ v. (are.under v, λ r. none_missing r) }

-- the first variables alone are marked
pub first_are : (first : ℕ) (atoms : List Flat) (marks : List Bool) → ((v : ℕ) → IsSet marks v ↔ (v < first)) → AreUnder first atoms marks
first_are first atoms marks is = record { firsts = λ v. (is v).1; under = λ v p. top ((is v).0 p) }

-- a slice that was lent for writing
pub written_back : {T : Type 0} (old new : List T) (len : ℕ) → length old ≡ len → length new ≡ length old → take len (new ++ drop (length new) old) ≡ new
written_back old new len e f = take-append-le len new (drop (length new) old) (omega arith) ∙ take_all len new (omega arith)

-- the flags of the first variables, lent for writing, when no mark is missing
pub reached_at_last : (first count : ℕ) (atoms : List Flat) (old lent new : List Bool) (len : ℕ) → length old ≡ len → length old ≡ count
    → ((v : ℕ) → IsSet old v ↔ (v < first)) → lent ≡ old → length new ≡ length lent → ((k : ℕ) → AreUnder k atoms lent → AreUnder k atoms new)
    → All (IsPassedOn new) atoms → AreReached first count atoms (take len (new ++ drop (length new) old))
reached_at_last first count atoms old lent new len a b is same size kept passed =
    let as_long : length new ≡ length old = omega (arith, size, ap length same) in
    let are : AreUnder first atoms new = kept first (subst (λ (z : List Bool). AreUnder first atoms z) (sym same) (first_are first atoms old is)) in
    subst (λ (z : List Bool). AreReached first count atoms z) (sym (written_back old new len a as_long)) (all_reached first atoms new are passed count (omega (arith, as_long, b)))
