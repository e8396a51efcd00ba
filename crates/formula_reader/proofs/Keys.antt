-- How the names of variables are kept, as the keys of a set.
use Rattle.std.proofs.Common.{◌≡◌, Bool, true, false, ◌||◌, List, [], ◌∷◌, ◌++◌, String, string_bytes, refl, sym, ◌∙◌}
use Rattle.std.specs.Prelude.{position, if◌then◌else◌}
use Rattle.std.specs.List.{list_any}
use Rattle.std.specs.Str.{bytes_eq}
use Rattle.std.specs.String.{string_eq}
use Rattle.std.specs.declared.alloc.Global.{Global}
use Rattle.std.proofs.lemmas.Bool.{false_from_ne_true}
use Rattle.std.proofs.lemmas.Bool.Decides.{not_from_Decides}
use Rattle.std.proofs.lemmas.List.{map_push}
use Rattle.std.proofs.lemmas.Slice.Eq.{bytes_eq-Decides}
use Rattle.indexmap.specs.IndexSet.{insert_key}
use Rattle.signature.proofs.Standing.{position-map}
use Rattle.formula_grammar.specs.Written.{Text}
use Rattle.formula_grammar.specs.Checks.{is_among}
use Rattle.formula_grammar.specs.Meaning.{first_occurrences}
use Rattle.formula_reader.specs.Scopes.{texts_of}

either_order : (x y : Text) → bytes_eq x y ≡ bytes_eq y x
either_order x y = by_test (bytes_eq x y) refl
  where
    by_test : (b : Bool) → bytes_eq x y ≡ b → b ≡ bytes_eq y x
    by_test true is = sym ((bytes_eq-Decides y x).1 (sym ((bytes_eq-Decides x y).0 is)))
    by_test false is = sym (false_from_ne_true _ (λ same. not_from_Decides _ (bytes_eq-Decides x y) is (sym ((bytes_eq-Decides y x).0 same))))

-- the place of a key is the number of the name
pub found_in : (keys : List (String Global)) (x : Text)
    → position (λ key. bytes_eq x (string_bytes key)) keys ≡ position (λ other. bytes_eq other x) (texts_of keys)
found_in keys x =
    sym (position-map (λ other. bytes_eq x other) (λ (text : String Global). string_bytes text) keys) ∙ (λ i. position (λ other. either_order x other i) (texts_of keys))

among_keys : (keys : List (String Global)) (key : String Global) → list_any (string_eq key) keys ≡ is_among (string_bytes key) (texts_of keys)
among_keys [] key = refl
among_keys (other ∷ keys) key =
    λ i. either_order (string_bytes key) (string_bytes other) i || among_keys keys key i

-- a new key stands last, and its name behind the other names
pub added_to : (keys : List (String Global)) (key : String Global)
    → texts_of (insert_key string_eq keys key) ≡ first_occurrences (texts_of keys) (string_bytes key ∷ [])
added_to keys key = by_test (list_any (string_eq key) keys) (is_among (string_bytes key) (texts_of keys)) (among_keys keys key)
  where
    by_test : (b c : Bool) → b ≡ c → texts_of (if b then keys else keys ++ key ∷ []) ≡ (if c then texts_of keys else texts_of keys ++ string_bytes key ∷ [])
    by_test true true same = refl
    by_test true false same = cc
    by_test false true same = cc
    by_test false false same = map_push (λ (text : String Global). string_bytes text) keys key
