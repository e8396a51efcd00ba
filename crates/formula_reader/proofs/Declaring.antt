-- What a check that found nothing tells of a name or a number.
use Rattle.std.proofs.Common.{◌≡◌, ℕ, ◌≤◌, Bool, true, false, List, [], ◌∷◌, length, Option, Some, None, refl, sym, ◌∙◌, ap, nat_lt, nat_le, arith}
use Rattle.std.specs.Prelude.{if◌then◌else◌, slice_get, option_map, option_and_then}
use Rattle.std.proofs.lemmas.Bool.Decides.{nat_tests}
use Rattle.tree_model.specs.declared.kind.Kind.{Kind}
use Rattle.tree_model.specs.Signatures.{Signature, Entry, declared_at}
use Rattle.signature.specs.Names.{StandsAt, HasDistinctNames}
use Rattle.signature.proofs.Standing.{found_there}
use Rattle.formula_grammar.specs.declared.fault.FaultKind.{FaultKind}
use Rattle.formula_grammar.specs.declared.fault.FaultKind.TheVariants.{Twice, Limit}
use Rattle.formula_grammar.specs.Written.{Text}
use Rattle.formula_grammar.specs.Machine as m
use Rattle.formula_grammar.specs.Checks.{Environment, check, is_among, sooner, first_of, declared, is_declared, rank, is_long}

sooner_none : (x y : Option FaultKind) → sooner x y ≡ None → y ≡ None
sooner_none None y h = h
sooner_none (Some a) None h = refl
sooner_none (Some a) (Some b) h = absurd (some_one (nat_le (rank a) (rank b)) a b h)
  where
    some_one : (c : Bool) (a b : FaultKind) → (if c then Some a else Some b) ≡ None → ⊥
    some_one true a b h = cc
    some_one false a b h = cc

first_false : (b : Bool) (kind : FaultKind) (more : List (Bool × FaultKind)) → first_of ((b, kind) ∷ more) ≡ None → b ≡ false
first_false true kind more h = cc
first_false false kind more h = refl

pub nothing_first : (wrong : Option FaultKind) (b : Bool) (kind : FaultKind) (more : List (Bool × FaultKind)) → sooner wrong (first_of ((b, kind) ∷ more)) ≡ None → b ≡ false
nothing_first wrong b kind more h = first_false b kind more (sooner_none wrong (first_of ((b, kind) ∷ more)) h)

-- a parameter that was taken stands nowhere before in its list
pub new_parameter : (E : Environment) (wrong : Option FaultKind) (x : Text) (xs : List Text) → sooner wrong (check E (m.has_parameter x xs)) ≡ None → is_among x xs ≡ false
new_parameter E wrong x xs h = nothing_first wrong (is_among x xs) Twice ((is_long x, Limit) ∷ (nat_le 16 (length xs), Limit) ∷ []) h

pub not_declared : (d : Option (Kind × ℕ)) → is_declared d ≡ false → d ≡ None
not_declared None h = refl
not_declared (Some e) h = cc

pub at_most : (n v : ℕ) → nat_lt n v ≡ false → v ≤ n
at_most n v h = grind (arith, nat_tests)

-- a name that is not declared stands nowhere
no_entry : (o : Option Entry) (name : Text) → option_map {T = Entry} {U = Text} (λ entry. entry.name) o ≡ Some name
    → option_map {T = Entry} {U = Kind × ℕ} (λ entry. (entry.kind, entry.arity)) o ≡ None → ⊥
no_entry None name h e = cc
no_entry (Some entry) name h e = cc

pub stands_nowhere : (σ : Signature) (name : Text) (place : ℕ) → HasDistinctNames σ → declared σ name ≡ None → ¬ StandsAt σ name place
stands_nowhere σ name place distinct none stands =
    no_entry (slice_get σ place) name stands
    (sym (ap (λ o. option_and_then {T = ℕ} {U = Kind × ℕ} (λ place. declared_at σ place) o) (found_there σ distinct name place stands)) ∙ none)
