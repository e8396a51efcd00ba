-- What is wrong with a word that the grammar allows is never the fault of the grammar.
use Rattle.std.proofs.Common.{◌≡◌, Bool, true, false, List, [], ◌∷◌, Option, Some, None, subst, refl, if◌then◌else◌, nat_le}
use Rattle.formula_grammar.specs.declared.fault.FaultKind.{FaultKind}
use Rattle.formula_grammar.specs.declared.fault.FaultKind.TheVariants.{Byte, Ended, Syntax}
use Rattle.formula_grammar.specs.Written.{named, further}
use Rattle.formula_grammar.specs.Machine.{Role, begins, opens, declares, has_arity, declares_predicate, has_parameter, ends_predicate, joins, binds, stands, heads, begins_atom, opens_arguments, no_arguments, separates, closes, compares, stands_alone, plays, counts}
use Rattle.formula_grammar.specs.Checks.{Environment, tests, first_of, check, rank, sooner, check_all, update}

-- the kind counts behind those of the grammar
abbrev is_mild : FaultKind → Bool
is_mild kind = nat_le 3 (rank kind)

pub data IsMild : Option FaultKind → Type 0 where
  nothing_wrong : IsMild None
  only : {kind : FaultKind} → is_mild kind ≡ true → IsMild (Some kind)

-- a kind that the grammar alone does not give
pub record OfOthers (kind : FaultKind) : Type 0 where
  pub syntax : ¬ (kind ≡ Syntax)
  pub ended : ¬ (kind ≡ Ended)
  pub byte : ¬ (kind ≡ Byte)

harsh : (kind other : FaultKind) → is_mild kind ≡ true → is_mild other ≡ false → ¬ (kind ≡ other)
harsh kind other m n = λ e. let h : is_mild other ≡ true = subst (λ i. is_mild i ≡ true) e m in cc

pub of_others : (kind : FaultKind) → IsMild (Some kind) → OfOthers kind
of_others kind (only m) = record { syntax = harsh kind Syntax m refl; ended = harsh kind Ended m refl; byte = harsh kind Byte m refl }

abbrev AreMild : List (Bool × FaultKind) → Type 0
AreMild [] = Unit {0}
AreMild ((holds, kind) ∷ more) = (is_mild kind ≡ true) × AreMild more

mild_if : (b : Bool) (kind : FaultKind) {o : Option FaultKind} → is_mild kind ≡ true → IsMild o → IsMild (if b then Some kind else o)
mild_if true kind m n = only m
mild_if false kind m n = n

mild_first : (ts : List (Bool × FaultKind)) → AreMild ts → IsMild (first_of ts)
mild_first [] a = nothing_wrong
mild_first ((holds, kind) ∷ more) a = mild_if holds kind a.0 (mild_first more a.1)

mild_tests : (E : Environment) (r : Role) → AreMild (tests E r)
mild_tests E begins = tt
mild_tests E (opens n) = (refl, tt)
mild_tests E (declares f) = (refl, (refl, (refl, tt)))
mild_tests E (has_arity f digits) = (refl, tt)
mild_tests E (declares_predicate p) = (refl, (refl, (refl, tt)))
mild_tests E (has_parameter x xs) = (refl, (refl, (refl, tt)))
mild_tests E (ends_predicate p n) = tt
mild_tests E joins = (refl, tt)
mild_tests E (binds x) = (refl, (refl, tt))
mild_tests E (stands x c) = (refl, (refl, tt))
mild_tests E (heads (named f)) = (refl, (refl, (refl, tt)))
mild_tests E (heads (further i)) = (refl, tt)
mild_tests E (begins_atom f) = (refl, (refl, tt))
mild_tests E (opens_arguments (named f)) = (refl, tt)
mild_tests E (opens_arguments (further i)) = tt
mild_tests E (no_arguments (named f)) = (refl, tt)
mild_tests E (no_arguments (further i)) = tt
mild_tests E (separates (named f) n) = (refl, tt)
mild_tests E (separates (further i) n) = (refl, tt)
mild_tests E (closes (named f) n) = (refl, tt)
mild_tests E (closes (further i) n) = tt
mild_tests E (compares f) = (refl, tt)
mild_tests E (stands_alone f) = (refl, tt)
mild_tests E (plays p) = (refl, (refl, (refl, (refl, tt))))
mild_tests E (counts digits) = (refl, tt)

mild_sooner : {x y : Option FaultKind} → IsMild x → IsMild y → IsMild (sooner x y)
mild_sooner nothing_wrong n = n
mild_sooner (only m) nothing_wrong = only m
mild_sooner (only {kind = x} m) (only {kind = y} n) = mild_if (nat_le (rank x) (rank y)) x m (only n)

pub mild_all : (E : Environment) (wrong : Option FaultKind) (roles : List Role) → IsMild wrong → IsMild (check_all E wrong roles)
mild_all E wrong [] m = m
mild_all E wrong (r ∷ roles) m = mild_all (update E r) (sooner wrong (check E r)) roles (mild_sooner m (mild_first (tests E r) (mild_tests E r)))
