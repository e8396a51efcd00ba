-- What a test answers.
use Rattle.std.proofs.Common.{◌≡◌, Bool, true, false, not, refl, sym, subst, ◌⊎◌, inl, inr}
use Rattle.std.specs.Prelude.{◌↔◌, IsTrue}

pub yes : {P : Type 0} → P → IsTrue true ↔ P
yes p = (λ t. p, λ h. refl)

pub nope : {P : Type 0} → ¬ P → IsTrue false ↔ P
nope n = (λ t. absurd (cc t), λ p. absurd (n p))

pub holds_by : {P : Type 0} (r : Bool) → P → r ≡ true → IsTrue r ↔ P
holds_by r p e = (λ t. p, λ x. e)

pub fails_by : {P : Type 0} (r : Bool) → ¬ P → r ≡ false → IsTrue r ↔ P
fails_by r n e = (λ t. absurd (cc (t, e)), λ p. absurd (n p))

-- a test of one fact is a test of what holds together with it
pub along : {P Q : Type 0} (r : Bool) → IsTrue r ↔ P → P ↔ Q → IsTrue r ↔ Q
along r test same = (λ t. same.0 (test.0 t), λ q. test.1 (same.1 q))

pub it_is : {P : Type 0} (r : Bool) → IsTrue r ↔ P → r ≡ true → P
it_is r test e = test.0 e

pub it_is_not : {P : Type 0} (r : Bool) → IsTrue r ↔ P → r ≡ false → ¬ P
it_is_not r test e p = absurd (cc (test.1 p, e))

pub turned : {P Q : Type 0} → P ↔ Q → Q ↔ P
turned both = (both.1, both.0)

-- a test of the second of two facts, where the first holds
pub with_first : {P Q R : Type 0} (r : Bool) → IsTrue r ↔ Q → P → (P × Q) ↔ R → IsTrue r ↔ R
with_first r test p same = (λ t. same.0 (p, test.0 t), λ x. test.1 (same.1 x).1)

pub without_first : {P Q R : Type 0} (r : Bool) → IsTrue r ↔ P → r ≡ false → (P × Q) ↔ R → IsTrue r ↔ R
without_first r test e same = fails_by r (λ x. it_is_not r test e (same.1 x).0) e

-- of one of two facts
pub with_either : {P Q R : Type 0} (r : Bool) → IsTrue r ↔ P → r ≡ true → (P ⊎ Q) ↔ R → IsTrue r ↔ R
with_either r test e same = holds_by r (same.0 (inl (test.0 e))) e

second : {P Q : Type 0} → ¬ P → P ⊎ Q → Q
second n (inl p) = absurd (n p)
second n (inr q) = q

pub with_other : {P Q R : Type 0} (r : Bool) → IsTrue r ↔ Q → ¬ P → (P ⊎ Q) ↔ R → IsTrue r ↔ R
with_other r test n same = (λ t. same.0 (inr (test.0 t)), λ x. test.1 (second n (same.1 x)))

-- what holds of equal things
pub of_equal : {A : Type 0} (T : A → Type 0) (a b : A) → a ≡ b → T b ↔ T a
of_equal T a b e = (subst T (sym e), subst T e)

pub not_test : {P : Type 0} (r : Bool) → IsTrue r ↔ P → IsTrue (not r) ↔ (¬ P)
not_test true test = (λ t. absurd (cc t), λ n. absurd (n (test.0 refl)))
not_test false test = (λ t p. absurd (cc (test.1 p)), λ n. refl)
