-- The places of names.
use Rattle.std.proofs.Common.{◌≡◌, ℕ, zero, suc, ◌+◌, ◌<◌, Bool, true, false, not, ◌||◌, cond, List, [], ◌∷◌, length, Option, Some, None, unwrap_or, refl, sym, ap, ◌∙◌, arith, one-add, lt-ltb}
use Rattle.std.specs.Prelude.{slice_get}
use Rattle.std.specs.List.{position_or_len}
use Rattle.std.specs.Option.{option_and_then}
use Rattle.std.specs.Str.{bytes_eq}
use Rattle.std.proofs.lemmas.Option.{slice_get-get_or}
use Rattle.std.proofs.lemmas.Slice.Eq.{bytes_eq-Decides}
use Rattle.tree_model.specs.declared.kind.Kind.{Kind}
use Rattle.tree_model.specs.Signatures.{Signature, declared_at}
use Rattle.signature.specs.Names.{StandsAt, HasDistinctNames, place_of}
use Rattle.signature.proofs.Standing.{found_there}
use Rattle.formula_ast.specs.WellFormed.{AreDistinct}
use Rattle.formula_grammar.specs.Checks.{declared, is_among}
use Rattle.formula_grammar.specs.Meaning.{number_in, place_in}
use Rattle.formula_grammar.specs.Written.{Text}
use Rattle.formula_grammar.proofs.Occurrences.{number_within}
use Rattle.formula_printer.specs.Writing.{text_at, names_of}

pub some_is : {A : Type 0} {x y : A} → ◌≡◌ {A = Option A} (Some x) (Some y) → x ≡ y
some_is e = cc e

pub equal_texts : (x y : Text) → bytes_eq x y ≡ true → x ≡ y
equal_texts x y e = (bytes_eq-Decides x y).0 e

pub same_text : (x y : Text) → x ≡ y → bytes_eq x y ≡ true
same_text x y e = (bytes_eq-Decides x y).1 e

-- ---- names in a list

-- the name that a list has at a place
pub named_at : (names : List Text) (i : ℕ) (x : Text) → slice_get names i ≡ Some x → text_at names i ≡ x
named_at [] i x got = absurd (cc got)
named_at (y ∷ names) zero x got = some_is got
named_at (y ∷ names) (suc i) x got = named_at names i x got

-- it is among them
pub known_at : (names : List Text) (i : ℕ) (x : Text) → slice_get names i ≡ Some x → is_among x names ≡ true
known_at [] i x got = absurd (cc got)
known_at (y ∷ names) zero x got = rw (same_text y x (some_is got)) refl
known_at (y ∷ names) (suc i) x got = rw (known_at names i x got) (or_true (bytes_eq y x))
  where
    or_true : (b : Bool) → (b || true) ≡ true
    or_true true = refl
    or_true false = refl

pub is_known : (names : List Text) (v : ℕ) → v < length names → is_among (text_at names v) names ≡ true
is_known names v h = known_at names v (text_at names v) (slice_get-get_or names v [] h)

first_named : (x : Text) (names : List Text) → is_among x names ≡ true
    → (position_or_len (λ n. bytes_eq n x) names < length names) × (text_at names (position_or_len (λ n. bytes_eq n x) names) ≡ x)
first_named x [] h = absurd (cc h)
first_named x (y ∷ names) h = step (λ later. first_named x names later) (bytes_eq y x) refl h
  where
    first : ℕ
    first = position_or_len (λ n. bytes_eq n x) names

    step : (is_among x names ≡ true → (first < length names) × (text_at names first ≡ x)) → (b : Bool) → bytes_eq y x ≡ b → (b || is_among x names) ≡ true
        → (cond (not b) (1 + first) 0 < suc (length names)) × (text_at (y ∷ names) (cond (not b) (1 + first) 0) ≡ x)
    step rest true same later = (omega arith, equal_texts y x same)
    step rest false same later = let more = rest later in (omega (arith, more.0), ap (λ i. text_at (y ∷ names) i) (one-add first) ∙ more.1)

-- the name that stands at a variable's number is the variable
pub named : (names : List Text) (x : Text) → is_among x names ≡ true → text_at names (number_in names x) ≡ x
named names x h =
    let first = position_or_len (λ n. bytes_eq n x) names in
    let found = first_named x names h in
    ap (λ b. text_at names (unwrap_or (cond b (Some first) None) 0)) (lt-ltb first (length names) found.0) ∙ found.1

-- and a variable's number is the place of its name
pub numbered : (names : List Text) (v : ℕ) → AreDistinct names → v < length names → number_in names (text_at names v) ≡ v
numbered names v distinct h =
    let x : Text = text_at names v in
    let known = is_known names v h in
    distinct x (number_in names x) v
    (slice_get-get_or names (number_in names x) [] (number_within x names known) ∙ ap Some (named names x known)) (slice_get-get_or names v [] h)

-- ---- declared names

pub declared_at_place : (σ : Signature) (i : ℕ) (name : Text) → StandsAt σ name i → slice_get (names_of σ) i ≡ Some name
declared_at_place [] i name got = absurd (cc got)
declared_at_place (entry ∷ σ) zero name got = got
declared_at_place (entry ∷ σ) (suc i) name got = declared_at_place σ i name got

-- the name that a signature has at a place
pub declared_name : (σ : Signature) (i : ℕ) (name : Text) → StandsAt σ name i → text_at (names_of σ) i ≡ name
declared_name σ i name got = named_at (names_of σ) i name (declared_at_place σ i name got)

stands_there : (σ : Signature) (i : ℕ) → i < length σ → StandsAt σ (text_at (names_of σ) i) i
stands_there [] i h = absurd (omega arith)
stands_there (entry ∷ σ) zero h = refl
stands_there (entry ∷ σ) (suc i) h = stands_there σ i (omega arith)

placed_at : (σ : Signature) (i : ℕ) → HasDistinctNames σ → i < length σ → place_of σ (text_at (names_of σ) i) ≡ Some i
placed_at σ i distinct h = found_there σ distinct (text_at (names_of σ) i) i (stands_there σ i h)

pub place_is : (σ : Signature) (i : ℕ) → HasDistinctNames σ → i < length σ → i ≡ place_in σ (text_at (names_of σ) i)
place_is σ i distinct h = sym (ap (λ o. unwrap_or o 0) (placed_at σ i distinct h))

pub declared_is : (σ : Signature) (i : ℕ) (d : Kind × ℕ) → HasDistinctNames σ → i < length σ → declared_at σ i ≡ Some d → declared σ (text_at (names_of σ) i) ≡ Some d
declared_is σ i d distinct h is = ap (λ o. option_and_then {T = ℕ} {U = Kind × ℕ} (λ place. declared_at σ place) o) (placed_at σ i distinct h) ∙ is
