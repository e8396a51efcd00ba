-- Keys and their entries.
use Rattle.std.proofs.Common.{ℕ, zero, suc, ◌≡◌, ◌<◌, ◌≤◌, ◌+◌, Bool, true, false, cond, List, [], ◌∷◌, ◌++◌, length, drop, drop-cons, add-one, get_or, Contains, refl, ap, sym, subst, ◌∙◌, arith, inl, inr}
use Rattle.std.specs.Prelude.{Option, Some, None, ◌↔◌}
use Rattle.std.proofs.Math.Seq.{drop-length}
use Rattle.std.proofs.lemmas.Bool.Decides.{eqb_tells}
use Rattle.std.proofs.lemmas.List.Elements.{Contains-push_cases}
use Rattle.flat_form.specs.declared.cube.Cube.{Cube}
use Rattle.flattening.specs.declared.solved.Key.{Key}
use Rattle.flattening.specs.declared.solved.Key.TheVariants.{Call, Win}
use Rattle.flattening.specs.Tables.{HasKey, HasDistinctKeys, same_key, entry_at}

pub same_is : (a b : Key) → same_key a b ≡ true → a ≡ b
same_is (Call p) (Call q) e = elim (eqb_tells p q) [ inl h ↦ ap Call h.1 | inr h ↦ absurd (cc (e, h.0)) ]
same_is (Win p k) (Win q j) e = elim (eqb_tells p q) [
  | inl h ↦ elim (eqb_tells k j) [ inl i ↦ rw (h.1, i.1) refl | inr i ↦ absurd (cc (rw (h.0, i.0) at e)) ]
  | inr h ↦ absurd (cc (rw h.0 at e))
]
same_is (Call p) (Win q j) e = absurd (cc e)
same_is (Win p k) (Call q) e = absurd (cc e)

pub same_itself : (a : Key) → same_key a a ≡ true
same_itself (Call p) = elim (eqb_tells p p) [ inl h ↦ h.0 | inr h ↦ absurd (h.1 refl) ]
same_itself (Win p k) = elim (eqb_tells p p) [
  | inl h ↦ elim (eqb_tells k k) [ inl i ↦ rw (h.0, i.0) refl | inr i ↦ absurd (i.1 refl) ]
  | inr h ↦ absurd (h.1 refl)
]

-- a key that is added stays distinct
pub distinct_more : (table : List (Key × List Cube)) (key : Key) (cubes : List Cube) → HasDistinctKeys table → ¬ HasKey table key → HasDistinctKeys (table ++ (key, cubes) ∷ [])
distinct_more [] key cubes distinct new = ((λ k. absurd (omega (arith, k.1.1))), tt)
distinct_more (entry ∷ rest) key cubes distinct new = (
  (λ k. elim (Contains-push_cases rest (key, cubes) (entry.0, k.0) k.1) [
    | inl h ↦ distinct.0 (k.0, h)
    | inr h ↦ new (entry.1, (0, omega arith, ap (λ p. (p, entry.1)) (sym (ap (λ (pair : Key × List Cube). pair.0) h))))
  ]),
  distinct_more rest key cubes distinct.1 (λ k. new (k.0, (suc k.1.0, omega (arith, k.1.1), k.1.2))),
)

some_is : {A : Type 0} (x y : A) → ◌≡◌ {A = Option A} (Some x) (Some y) → x ≡ y
some_is x y e = cc

-- what is found stands in the table, and what stands in it is found
first_there : (entry : Key × List Cube) (rest : List (Key × List Cube)) (key : Key) (cubes : List Cube) → (entry_at rest key ≡ Some cubes → Contains rest (key, cubes))
    → (b : Bool) → same_key key entry.0 ≡ b → cond b (Some entry.1) (entry_at rest key) ≡ Some cubes → Contains (entry ∷ rest) (key, cubes)
first_there entry rest key cubes later true is found = (0, omega arith, rw (same_is key entry.0 is) (ap (λ cs. (entry.0, cs)) (some_is entry.1 cubes found)))
first_there entry rest key cubes later false is found = let k = later found in (suc k.0, omega (arith, k.1), k.2)

there : (table : List (Key × List Cube)) (key : Key) (cubes : List Cube) → entry_at table key ≡ Some cubes → Contains table (key, cubes)
there [] key cubes e = absurd (cc e)
there (entry ∷ rest) key cubes e = first_there entry rest key cubes (there rest key cubes) (same_key key entry.0) refl e

later_found : (entry : Key × List Cube) (rest : List (Key × List Cube)) (key : Key) (cubes : List Cube) → ¬ HasKey rest entry.0 → Contains rest (key, cubes)
    → entry_at rest key ≡ Some cubes → (b : Bool) → same_key key entry.0 ≡ b → cond b (Some entry.1) (entry_at rest key) ≡ Some cubes
later_found entry rest key cubes new k e true is = absurd (new (cubes, subst (λ (name : Key). Contains rest (name, cubes)) (same_is key entry.0 is) k))
later_found entry rest key cubes new k e false is = e

found : (table : List (Key × List Cube)) → HasDistinctKeys table → (key : Key) (cubes : List Cube) → Contains table (key, cubes) → entry_at table key ≡ Some cubes
found [] distinct key cubes k = absurd (omega (arith, k.1))
found (entry ∷ rest) distinct key cubes (zero, w, e) =
    let same : entry.0 ≡ key = ap (λ (pair : Key × List Cube). pair.0) e in
    let is : same_key key entry.0 ≡ true = rw same (same_itself key) in
    rw is (ap Some (ap (λ (pair : Key × List Cube). pair.1) e))
found (entry ∷ rest) distinct key cubes (suc k, w, e) =
    let later : Contains rest (key, cubes) = (k, omega (arith, w), e) in
    later_found entry rest key cubes distinct.0 later (found rest distinct.1 key cubes later) (same_key key entry.0) refl

pub stands_exactly : (table kept : List (Key × List Cube)) (key : Key) (answer : Option (List Cube)) → HasDistinctKeys kept → kept ≡ table → answer ≡ entry_at table key
    → (cubes : List Cube) → (answer ≡ Some cubes) ↔ Contains table (key, cubes)
stands_exactly table kept key answer distinct same is cubes =
    (λ e. there table key cubes (sym is ∙ e), λ k. is ∙ found table (subst HasDistinctKeys same distinct) key cubes k)

pub found_first : (items table : List (Key × List Cube)) (i : ℕ) (key : Key) (entry : Key × List Cube) (b : Bool) → items ≡ table → i < length items → entry ≡ get_or items i entry
    → entry_at table key ≡ entry_at (drop i table) key → b ≡ same_key key entry.0 → b ≡ true → Some entry.1 ≡ entry_at table key
found_first items table i key entry b same within is left by hit =
    let rest : drop i table ≡ entry ∷ drop (i + 1) table = rw (← same, add-one, is) (drop-cons items i entry within) in
    sym (left ∙ ap (λ t. entry_at t key) rest ∙ ap (λ c. cond c (Some entry.1) (entry_at (drop (i + 1) table) key)) (sym by ∙ hit))

pub none_first : (items table : List (Key × List Cube)) (i : ℕ) (key : Key) → items ≡ table → length items ≤ i → i ≤ length items
    → entry_at table key ≡ entry_at (drop i table) key → None ≡ entry_at table key
none_first items table i key same a b left =
    let at_end : i ≡ length items = omega arith in sym (left ∙ rw (at_end, same, drop-length table) refl)
