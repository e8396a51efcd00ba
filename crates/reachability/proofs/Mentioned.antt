-- Loops over lists that look for an item.
use Rattle.std.proofs.Common.{ℕ, ◌≡◌, ◌≤◌, ◌<◌, ◌+◌, List, length, get_or, take, subst, sym, Bool, true, false, rules, inl, inr}
use Rattle.std.specs.Prelude.{All, Contains, IsTrue, ◌↔◌}
use Rattle.std.proofs.lemmas.List.{take_all}
use Rattle.std.proofs.lemmas.List.Elements.{All-contains, All-more}
use Rattle.tree_model.specs.declared.tree.Symbol.{Symbol}
use Rattle.tree_facts.proofs.Members.{contains_later, contains_cases}
use Rattle.flat_form.specs.declared.atom.Flat.{Flat}
use Rattle.flat_form.specs.declared.atom.Flat.TheVariants.{VarTerm}
use Rattle.flat_form.specs.Parts.{variables_of}

-- a further item has P
pub all_next : {T : Type 0} (P : T → Type 0) (xs : List T) (i : ℕ) (x : T) → i < length xs → x ≡ get_or xs i x → All P (take i xs) → P x → All P (take (i + 1) xs)
all_next P xs i x w e h p = All-more P xs i x w h (subst P e p)

pub all_taken : {T : Type 0} (P : T → Type 0) (xs : List T) (i : ℕ) → length xs ≤ i → All P (take i xs) → All P xs
all_taken {T} P xs i w h = subst (λ (z : List T). All P z) (take_all i xs w) h

-- the item read at a place stands in the list
pub item_stands : {T : Type 0} (xs : List T) (i : ℕ) (x : T) → i < length xs → x ≡ get_or xs i x → Contains xs x
item_stands xs i x w e = (i, w, sym e)

-- where none has it, no item does
pub none_has : {T : Type 0} (P : T → Type 0) (xs : List T) (i : ℕ) → length xs ≤ i → All (λ x. ¬ P x) (take i xs) → (x : T) → Contains xs x → ¬ P x
none_has {T} P xs i w h x inside = All-contains (λ (y : T). ¬ P y) xs x (all_taken (λ (y : T). ¬ P y) xs i w h) inside

-- the item read at a place has P where each does
pub item_has : {T : Type 0} (P : T → Type 0) (xs : List T) (i : ℕ) (x : T) → All P xs → i < length xs → x ≡ get_or xs i x → P x
item_has P xs i x h w e = subst P (sym e) (h i x w)

-- v stands in an equation where it is its left side or among its arguments
pub among_arguments : (a : Flat) (u : ℕ) (symbol : Symbol) (xs : List ℕ) (v : ℕ) (b : Bool) → a ≡ VarTerm u symbol xs → ¬ (u ≡ v) → IsTrue b ↔ Contains xs v
    → IsTrue b ↔ Contains (variables_of a) v
among_arguments a u symbol xs v b e differ is = subst (λ (z : Flat). IsTrue b ↔ Contains (variables_of z) v) (sym e) (
  λ t. contains_later u v xs (is.0 t),
  λ inside. elim (contains_cases u v xs inside) [ inl same ↦ absurd (differ same) | inr later ↦ is.1 later ],
)

pub never : (b : Bool) → b ≡ false → ¬ IsTrue b
never true e = absurd (cc e)
never false e = λ t. search rules
