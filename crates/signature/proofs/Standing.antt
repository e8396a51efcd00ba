-- Where a name stands, in a signature and in the map that keeps it.
use Rattle.std.proofs.Common.{◌≡◌, ℕ, zero, suc, ◌<◌, ◌≤◌, ◌+◌, Bool, true, false, cond, not, nat_lt, List, [], ◌∷◌, ◌++◌, map, length, String, string_bytes, Some, None, refl, sym, ap, ◌∙◌, slice_get, arith, lt-ltb}
use Rattle.std.specs.Prelude.{position}
use Rattle.std.specs.List.{IsDistinct, AllByRecursion, position_or_len}
use Rattle.std.specs.Map.{keys_of, values_of}
use Rattle.std.specs.Str.{bytes_eq}
use Rattle.std.specs.String.{string_eq}
use Rattle.std.specs.declared.alloc.Global.{Global}
use Rattle.std.proofs.lemmas.Bool.{false_from_ne_true}
use Rattle.std.proofs.lemmas.Bool.Decides.{not_from_Decides}
use Rattle.std.proofs.lemmas.List.Quantifiers.{position-Some}
use Rattle.std.proofs.lemmas.Option.{slice_get-map, slice_get-get_or, slice_get_within, none-some, same_Some}
use Rattle.std.proofs.lemmas.Slice.Eq.{bytes_eq-Decides}
use Rattle.indexmap.specs.IndexMap.{insert_entry}
use Rattle.tree_model.specs.declared.kind.Kind.{Kind}
use Rattle.tree_model.specs.Signatures.{Signature, Entry, declared_at}
use Rattle.signature.specs.Kept.{entry_of, signature_of}
use Rattle.signature.specs.Names.{StandsAt, HasDistinctNames, place_of}

abbrev names : Signature → List (List ℕ)
names σ = map (λ entry. entry.name) σ

-- a list that is mapped has its first place where the list has it
or_len-map : {A B : Type 0} (t : B → Bool) (g : A → B) (xs : List A) → position_or_len t (map g xs) ≡ position_or_len (λ x. t (g x)) xs
or_len-map t g [] = refl
or_len-map t g (x ∷ xs) = ap (λ n. cond (not (t (g x))) (1 + n) 0) (or_len-map t g xs)

length_mapped : {A B : Type 0} (g : A → B) (xs : List A) → length (map g xs) ≡ length xs
length_mapped g [] = refl
length_mapped g (x ∷ xs) = ap suc (length_mapped g xs)

pub position-map : {A B : Type 0} (t : B → Bool) (g : A → B) (xs : List A) → position t (map g xs) ≡ position (λ x. t (g x)) xs
position-map t g xs = λ i. cond (nat_lt (or_len-map t g xs i) (length_mapped g xs i)) (Some (or_len-map t g xs i)) None

-- the name stands at the place that is found
pub stands_there : (σ : Signature) (name : List ℕ) (place : ℕ) → place_of σ name ≡ Some place → StandsAt σ name place
stands_there σ name place found =
    let at = position-Some (bytes_eq name) (names σ) place [] (position-map (bytes_eq name) (λ entry. entry.name) σ ∙ found) in
    sym (slice_get-map (λ entry. entry.name) σ place) ∙ slice_get-get_or (names σ) place [] at.0 ∙ ap Some (sym ((bytes_eq-Decides name _).0 at.1))

not_later : (b : Bool) (m i : ℕ) → m ≤ i → cond (not b) (1 + m) 0 ≤ suc i
not_later true m i le = omega arith
not_later false m i le = omega arith

before_standing : (σ : Signature) (name : List ℕ) (place : ℕ) → StandsAt σ name place → position_or_len (λ entry. bytes_eq name entry.name) σ ≤ place
before_standing [] name place stands = absurd (none-some _ stands)
before_standing (entry ∷ σ) name zero stands =
    let same : bytes_eq name entry.name ≡ true = (bytes_eq-Decides name entry.name).1 (sym (same_Some _ _ stands)) in
    rw same (omega arith)
before_standing (entry ∷ σ) name (suc place) stands = not_later (bytes_eq name entry.name) _ place (before_standing σ name place stands)

some_place : (σ : Signature) (name : List ℕ) (place : ℕ) → StandsAt σ name place → (first : ℕ) × (place_of σ name ≡ Some first)
some_place σ name place stands =
    let first = position_or_len (λ entry. bytes_eq name entry.name) σ in
    let within : place < length (names σ) = slice_get_within (names σ) place name (slice_get-map (λ entry. entry.name) σ place ∙ stands) in
    let le = before_standing σ name place stands in
    (first, ap (λ b. cond b (Some first) None) (lt-ltb first (length σ) (omega (arith, length_mapped (λ (entry : Entry). entry.name) σ))))

-- where names are distinct, the place that is found is the one where the name stands
pub found_there : (σ : Signature) → HasDistinctNames σ → (name : List ℕ) (place : ℕ) → StandsAt σ name place → place_of σ name ≡ Some place
found_there σ distinct name place stands =
    let first = some_place σ name place stands in
    first.1 ∙ ap Some (distinct name first.0 place (stands_there σ name first.0 first.1) stands)

-- a key that differs from each key of the map is no name of it
apart : (pairs : List (String Global × (Kind × ℕ))) (key : String Global) → AllByRecursion (λ other. string_eq key other ≡ false) (keys_of pairs)
    → (name : List ℕ) (place : ℕ) → string_bytes key ≡ name → StandsAt (signature_of pairs) name place → ⊥
apart [] key all name place same stands = none-some _ stands
apart (pair ∷ pairs) key all name zero same stands =
    not_from_Decides _ (bytes_eq-Decides (string_bytes key) (string_bytes pair.0)) all.0 (same ∙ sym (same_Some _ _ stands))
apart (pair ∷ pairs) key all name (suc place) same stands = apart pairs key all.1 name place same stands

-- a map's keys are distinct, and so are the names
pub distinct_kept : (pairs : List (String Global × (Kind × ℕ))) → IsDistinct string_eq (keys_of pairs) → HasDistinctNames (signature_of pairs)
unfolding IsDistinct
distinct_kept [] distinct name i j p q = absurd (none-some _ p)
distinct_kept (pair ∷ pairs) distinct name zero zero p q = refl
distinct_kept (pair ∷ pairs) distinct name zero (suc j) p q = absurd (apart pairs pair.0 distinct.0 name j (same_Some _ _ p) q)
distinct_kept (pair ∷ pairs) distinct name (suc i) zero p q = absurd (apart pairs pair.0 distinct.0 name i (same_Some _ _ q) p)
distinct_kept (pair ∷ pairs) distinct name (suc i) (suc j) p q = ap suc (distinct_kept pairs distinct.1 name i j p q)

-- the place that the map finds is the one in the signature
pub found_kept : (pairs : List (String Global × (Kind × ℕ))) (name : List ℕ) → position (λ key. bytes_eq name (string_bytes key)) (keys_of pairs) ≡ place_of (signature_of pairs) name
found_kept pairs name =
    position-map (λ key. bytes_eq name (string_bytes key)) (λ pair. pair.0) pairs ∙ sym (position-map (λ entry. bytes_eq name entry.name) entry_of pairs)

-- a new name goes last
pub kept_last : (pairs : List (String Global × (Kind × ℕ))) (key : String Global) (declared : Kind × ℕ) → ((place : ℕ) → ¬ StandsAt (signature_of pairs) (string_bytes key) place)
    → signature_of (insert_entry string_eq pairs key declared) ≡ signature_of pairs ++ entry_of (key, declared) ∷ []
kept_last [] key declared absent = refl
kept_last (pair ∷ pairs) key declared absent =
    let differs : string_eq key pair.0 ≡ false = false_from_ne_true _ (λ same. absent 0 (ap Some (sym ((bytes_eq-Decides (string_bytes key) (string_bytes pair.0)).0 same)))) in
    rw differs (ap (λ rest. entry_of pair ∷ rest) (kept_last pairs key declared (λ place. absent (suc place))))

-- what is declared at a place is the map's value there
pub declared_kept : (pairs : List (String Global × (Kind × ℕ))) (place : ℕ) → declared_at (signature_of pairs) place ≡ slice_get (values_of pairs) place
declared_kept [] place = refl
declared_kept (pair ∷ pairs) zero = refl
declared_kept (pair ∷ pairs) (suc place) = declared_kept pairs place
