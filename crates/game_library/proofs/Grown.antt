-- Tables that grow.
use Rattle.std.proofs.Common.{◌≡◌, ℕ, ◌+◌, ◌<◌, ◌≤◌, ◌⊎◌, List, [], ◌∷◌, ◌++◌, sym, ap, subst, ◌∙◌, append_assoc, inl, inr, arith, Option, Some, None}
use Rattle.std.specs.Prelude.{◌↔◌, Contains}
use Rattle.std.proofs.lemmas.List.{append-nil}
use Rattle.std.proofs.lemmas.List.Elements.{Contains-append_left, Contains-append_right, Contains-append_cases}
use Rattle.tree_facts.proofs.Members.{contains_first, contains_cases}
use Rattle.formula_ast.specs.declared.file.File.{File}
use Rattle.flat_form.specs.declared.cube.Cube.{Cube}
use Rattle.flat_form.specs.Normals.{Norm}
use Rattle.flattening.specs.declared.solved.Key.{Key}
use Rattle.flattening.specs.Tables.{HasKey}
use Rattle.flattening.specs.declared.solved.Key.TheVariants.{Call, Win}
use Rattle.game_library.specs.declared.marks.Mark.{Mark}
use Rattle.game_library.specs.Entries.{IsRight, AreRight}
use Rattle.game_library.specs.Needs.{place_of, Covers}
use Rattle.game_library.proofs.Declared.{some_is}
use Rattle.game_library.specs.Solving.{IsGrown}

abbrev Table : Type 0
Table = List (Key × List Cube)

pub grown_none : (table : Table) → IsGrown table table
grown_none table = ([], sym (append-nil table))

pub grown_then : (a b c : Table) → IsGrown a b → IsGrown b c → IsGrown a c
grown_then a b c (more, e) (further, d) = (more ++ further, d ∙ ap (λ (t : Table). t ++ further) e ∙ append_assoc a more further)

pub grown_one : (old new : Table) (key : Key) (cubes : List Cube) → new ≡ old ++ (key, cubes) ∷ [] → IsGrown old new
grown_one old new key cubes e = ((key, cubes) ∷ [], e)

-- what stands in a table stands in it when it has grown
pub still_has : (old new : Table) (key : Key) → IsGrown old new → HasKey old key → HasKey new key
still_has old new key (more, e) (cubes, c) = (cubes, subst (λ (t : Table). Contains t (key, cubes)) (sym e) (Contains-append_left old more (key, cubes) c))

pub has_last : (old new : Table) (key : Key) (cubes : List Cube) → new ≡ old ++ (key, cubes) ∷ [] → HasKey new key
has_last old new key cubes e =
    (cubes, subst (λ (t : Table). Contains t (key, cubes)) (sym e) (Contains-append_right old ((key, cubes) ∷ []) (key, cubes) (contains_first (key, cubes) [])))

-- a right entry more
pub right_more : (gives : ℕ → Norm → List Cube → Type 0) (file : File) (old new : Table) (key : Key) (cubes : List Cube) → AreRight gives file old → IsRight gives file key cubes
    → new ≡ old ++ (key, cubes) ∷ [] → AreRight gives file new
right_more gives file old new key cubes right one e = subst (λ (t : Table). AreRight gives file t) (sym e) by
  where
    by : AreRight gives file (old ++ (key, cubes) ∷ [])
    by k cs c = elim (Contains-append_cases old ((key, cubes) ∷ []) (k, cs) c) [
      | inl before ↦ right k cs before
      | inr last ↦ elim (contains_cases (key, cubes) (k, cs) [] last) [
        | inl same ↦ subst (λ (entry : Key × List Cube). IsRight gives file entry.0 entry.1) same one
        | inr none ↦ absurd (omega (arith, none.1))
      ]
    ]

-- what is found stands in the table, and what is not found does not
pub found_has : (table : Table) (key : Key) (found : Option (List Cube)) (cubes : List Cube) → ((cs : List Cube) → (found ≡ Some cs) ↔ Contains table (key, cs))
    → found ≡ Some cubes → HasKey table key
found_has table key found cubes stands is = (cubes, (stands cubes).0 is)

pub none_has : (table : Table) (key : Key) (found : Option (List Cube)) → ((cs : List Cube) → (found ≡ Some cs) ↔ Contains table (key, cs)) → found ≡ None → ¬ HasKey table key
none_has table key found stands is = λ (cubes, c). none_some cubes (sym is ∙ (stands cubes).1 c)
  where
    none_some : (cubes : List Cube) → ¬ (◌≡◌ {A = Option (List Cube)} None (Some cubes))
    none_some cubes e = cc

-- a table that did not change
pub right_same : (gives : ℕ → Norm → List Cube → Type 0) (file : File) (old new : Table) → AreRight gives file old → new ≡ old → AreRight gives file new
right_same gives file old new right e = subst (λ (t : Table). AreRight gives file t) (sym e) right

pub grown_same : (old new : Table) → new ≡ old → IsGrown old new
grown_same old new e = ([], e ∙ sym (append-nil old))

pub none_right : (gives : ℕ → Norm → List Cube → Type 0) (file : File) → AreRight gives file []
none_right gives file key cubes c = absurd (omega (arith, c.1))

-- ---- the wins of a predicate

pub wins_more : (old new : Table) (p moves : ℕ) → IsGrown old new → ((k : ℕ) → k < moves → HasKey old (Win p k)) → HasKey new (Win p moves)
    → (k : ℕ) → k < moves + 1 → HasKey new (Win p k)
wins_more old new p moves grown fewer last k less = by (before_or_last k moves less)
  where
    before_or_last : (k n : ℕ) → k < n + 1 → (k < n) ⊎ (n ≡ k)
    before_or_last k n less = grind arith

    by : (k < moves) ⊎ (moves ≡ k) → HasKey new (Win p k)
    by (inl before) = still_has old new (Win p k) grown (fewer k before)
    by (inr same) = subst (λ (n : ℕ). HasKey new (Win p n)) same last

-- the keys that a mark names stand, where those of its two kinds do
pub marked_none : (table : Table) (mark : Mark) (p : ℕ) → mark.moves ≡ None → (Covers mark (Call p) → HasKey table (Call p))
    → (key : Key) → place_of key ≡ p → Covers mark key → HasKey table key
marked_none table mark p none own (Call q) at covers = subst (λ (r : ℕ). HasKey table (Call r)) (sym at) (own covers)
marked_none table mark p none own (Win q k) at (most, is, less) = absurd (none_some (sym none ∙ is))
  where
    none_some : ¬ (◌≡◌ {A = Option ℕ} None (Some most))
    none_some e = cc

pub marked_some : (old new : Table) (mark : Mark) (p most : ℕ) → mark.moves ≡ Some most → IsGrown old new → (Covers mark (Call p) → HasKey old (Call p))
    → ((k : ℕ) → k ≤ most → HasKey new (Win p k)) → (key : Key) → place_of key ≡ p → Covers mark key → HasKey new key
marked_some old new mark p most is grown own wins (Call q) at covers = subst (λ (r : ℕ). HasKey new (Call r)) (sym at) (still_has old new (Call p) grown (own covers))
marked_some old new mark p most is grown own wins (Win q k) at (greater, same, less) =
    let one : most ≡ greater = some_is most greater (sym is ∙ same) in
    subst (λ (r : ℕ). HasKey new (Win r k)) (sym at) (wins k (omega (arith, one, less)))
