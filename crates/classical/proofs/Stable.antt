use Rattle.std.proofs.Common.{inl, inr, ⊎_elim}
use Rattle.classical.specs.Classical.{IsStable, Either, Exists}

-- what is stable
pub not_stable : {A : Type 0} → IsStable (¬ A)
not_stable = record { holds = λ k a. k (λ f. f a) }

pub unit_stable : IsStable (Unit {0})
unit_stable = record { holds = λ k. tt }

pub false_stable : IsStable ⊥
false_stable = record { holds = λ k. k (λ x. x) }

pub and_stable : {A B : Type 0} → IsStable A → IsStable B → IsStable (A × B)
and_stable a b = record { holds = λ k. (a.holds (λ n. k (λ p. n p.0)), b.holds (λ n. k (λ p. n p.1))) }

pub imp_stable : {A B : Type 0} → IsStable B → IsStable (A → B)
imp_stable b = record { holds = λ k x. b.holds (λ n. k (λ f. n (f x))) }

pub all_stable : {A : Type 0} {P : A → Type 0} → ((x : A) → IsStable (P x)) → IsStable ((x : A) → P x)
all_stable s = record { holds = λ k x. (s x).holds (λ n. k (λ f. n (f x))) }

pub dec_stable : {A : Type 0} → Dec A → IsStable A
dec_stable (yes a) = record { holds = λ k. a }
dec_stable (no f) = record { holds = λ k. absurd (k f) }

pub ruleset stable_rules = (not_stable, unit_stable, false_stable, and_stable, imp_stable, all_stable)

-- in
pub sure : {A : Type 0} → A → ¬ ¬ A
sure a n = n a

pub some : {A : Type 0} {P : A → Type 0} → (x : A) → P x → Exists P
some x p n = n (x, p)

pub left : {A B : Type 0} → A → Either A B
left a n = n (inl a)

pub right : {A B : Type 0} → B → Either A B
right b n = n (inr b)

-- out, into a stable fact
pub into : {A C : Type 0} → IsStable C → ¬ ¬ A → (A → C) → C
into s e f = s.holds (λ n. e (λ a. n (f a)))

-- out, where nothing may hold: `do` binds by it
abbrev pub ◌>>=◌ : {A : Type 0} → ¬ ¬ A → (A → ⊥) → ⊥
◌>>=◌ e f = e f

-- excluded middle, at any fact
pub either_way : (A : Type 0) → Either A (¬ A)
either_way A n = n (inr (λ a. n (inl a)))

-- a stable fact by cases on any fact
pub by_cases : (A : Type 0) {C : Type 0} → IsStable C → (A → C) → (¬ A → C) → C
by_cases A s f g = into s (either_way A) (⊎_elim f g)
