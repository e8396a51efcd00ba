-- What reading one part behind another does to the names.
use Rattle.std.proofs.Common.{◌≡◌, Bool, true, false, List, [], ◌∷◌, ◌++◌, refl, sym, ap, subst, ◌∙◌, append_assoc}
use Rattle.std.proofs.lemmas.List.{append-nil}
use Rattle.std.specs.Prelude.{if◌then◌else◌}
use Rattle.formula_grammar.specs.Written.{Text}
use Rattle.formula_grammar.specs.Checks.{is_among}
use Rattle.formula_grammar.specs.Meaning.{first_occurrences}

pub first_append : (seen xs ys : List Text) → first_occurrences seen (xs ++ ys) ≡ first_occurrences (first_occurrences seen xs) ys
first_append seen [] ys = refl
first_append seen (x ∷ xs) ys = first_append (if is_among x seen then seen else seen ++ x ∷ []) xs ys

-- names are only added, behind those that are there
pub record Grows (old new : List Text) : Type 0 where
  pub added : List Text
  pub is : new ≡ old ++ added

grows_one : (b : Bool) (seen : List Text) (x : Text) → Grows seen (if b then seen else seen ++ x ∷ [])
grows_one true seen x = record { added = []; is = sym (append-nil seen) }
grows_one false seen x = record { added = x ∷ []; is = refl }

grows_on : {a b c : List Text} → Grows a b → Grows b c → Grows a c
grows_on {a} {b} {c} g h = record {
  added = g.added ++ h.added;
  is = h.is ∙ ap (λ l. l ++ h.added) g.is ∙ append_assoc a g.added h.added;
}

pub grows : (seen xs : List Text) → Grows seen (first_occurrences seen xs)
grows seen [] = record { added = []; is = sym (append-nil seen) }
grows seen (x ∷ xs) = grows_on (grows_one (is_among x seen) seen x) (grows (if is_among x seen then seen else seen ++ x ∷ []) xs)

-- what holds whatever names are added holds when more were read
pub still : (P : List Text → Type 0) (old new xs : List Text) → new ≡ first_occurrences old xs → ((more : List Text) → P (old ++ more)) → (more : List Text) → P (new ++ more)
still P old new xs is holds more =
    let g = grows old xs in
    subst P (sym (ap (λ l. l ++ more) (is ∙ g.is) ∙ append_assoc old g.added more)) (holds (g.added ++ more))
