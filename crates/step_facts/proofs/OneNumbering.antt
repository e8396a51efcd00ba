-- The numbers of inner and outer variables by first occurrence are one.
use Rattle.std.specs.Prelude.{Contains}
use Rattle.std.proofs.Common.{ℕ, ◌≡◌, ◌+◌, ◌<◌, List, [], ◌++◌, length, sym, ap, ◌∙◌, subst}
use Rattle.std.proofs.lemmas.List.{append-nil}
use Rattle.flat_form.specs.declared.atom.Flat.{Flat}
use Rattle.flat_form.specs.declared.cube.Part.{Part}
use Rattle.flat_form.specs.Solved.{variable_of}
use Rattle.flat_form.specs.FirstOccurrence.{IsNumbered}
use Rattle.flat_form.specs.Orders.{new_number, IsRenumbering}
use Rattle.flat_facts.proofs.Lists.{one_list}
use Rattle.cube_facts.proofs.Places.{new_number_puts, alone_puts}
use Rattle.step_facts.specs.OneOutcome.{InnerNumbersAreOne, OuterOrderIsOne}
use Rattle.step_facts.proofs.OneOrder.{one_order, in_scope}

-- the same of an order with nothing behind it
alone_in_scope : (P : Flat → Type 0) (old new : List Flat) (free scope : ℕ) (order : List ℕ) → IsRenumbering (new_number free scope order) P old new
    → IsNumbered free (free + length order) new → (v : ℕ) → Contains order v → v < scope
alone_in_scope P old new free scope order renumbering numbered =
    in_scope P old new free scope order [] (subst (λ (xs : List ℕ). IsRenumbering (new_number free scope xs) P old new) (sym (append-nil order)) renumbering) numbered

same_part : (one other : Part) → one.inner ≡ other.inner → one.basic ≡ other.basic → one ≡ other
same_part one other p q =
    ap (λ (n : ℕ). let it : Part = record { inner = n; basic = one.basic } in it) p
    ∙ ap (λ (b : List Flat). let it : Part = record { inner = other.inner; basic = b } in it) q

-- what is renumbered is one list
pub one_renumbering : (f : ℕ → ℕ) (P : Flat → Type 0) (old one other : List Flat) → IsRenumbering f P old one → IsRenumbering f P old other → one ≡ other
one_renumbering f P old one other a b =
    one_list one other a.ascending b.ascending (λ atom i. (b.is atom).1 ((a.is atom).0 i)) (λ atom i. (a.is atom).1 ((b.is atom).0 i))

pub inner_numbers_are_one : InnerNumbersAreOne
inner_numbers_are_one m part one other a b =
    let whole : Flat → Type 0 = λ atom. Unit {0} in
    let scope = m + part.inner in
    let f : ℕ → ℕ = new_number m scope a.order in
    let g : ℕ → ℕ = new_number m scope b.order in
    let a_numbered = subst (λ (n : ℕ). IsNumbered m (m + n) one.basic) a.inner_is a.numbered in
    let b_numbered = subst (λ (n : ℕ). IsNumbered m (m + n) other.basic) b.inner_is b.numbered in
    let orders : a.order ≡ b.order = one_order (λ atom. Unit {0}) part.basic one.basic other.basic m a.order b.order f g a.order_distinct b.order_distinct
    (λ v i. (b.order_is v).1 ((a.order_is v).0 i)) (λ v i. (a.order_is v).1 ((b.order_is v).0 i))
    (alone_puts m scope a.order a.order_distinct (λ v i. (((a.order_is v).0 i).0, alone_in_scope whole part.basic one.basic m scope a.order a.basic_is a_numbered v i)))
    (alone_puts m scope b.order b.order_distinct (λ v i. (((b.order_is v).0 i).0, alone_in_scope whole part.basic other.basic m scope b.order b.basic_is b_numbered v i)))
    a.basic_is b.basic_is a_numbered b_numbered in
    same_part one other (a.inner_is ∙ (ap (λ (xs : List ℕ). length xs) orders ∙ sym b.inner_is))
    (one_renumbering g (λ atom. Unit {0}) part.basic one.basic other.basic
    (subst (λ (order : List ℕ). IsRenumbering (new_number m scope order) (λ atom. Unit {0}) part.basic one.basic) orders a.basic_is) b.basic_is)

pub outer_order_is_one : OuterOrderIsOne
outer_order_is_one mid idle first second one other a b =
    let scope = mid.free + mid.outer in
    one_order (λ atom. ¬ Contains idle (variable_of atom)) mid.basic one.basic other.basic mid.free a.order b.order
    (new_number mid.free scope (a.order ++ idle)) (new_number mid.free scope (b.order ++ idle)) a.order_distinct b.order_distinct
    (λ v i. (b.order_is v).1 ((a.order_is v).0 i)) (λ v i. (a.order_is v).1 ((b.order_is v).0 i))
    (new_number_puts mid.free scope a.order idle a.order_distinct (λ v i. ((a.order_is v).0 i).0))
    (new_number_puts mid.free scope b.order idle b.order_distinct (λ v i. ((b.order_is v).0 i).0))
    a.basic_is b.basic_is
    (subst (λ (n : ℕ). IsNumbered mid.free (mid.free + n) one.basic) a.outer_is (subst (λ (n : ℕ). IsNumbered n (n + one.outer) one.basic) a.free_is a.numbered))
    (subst (λ (n : ℕ). IsNumbered mid.free (mid.free + n) other.basic) b.outer_is (subst (λ (n : ℕ). IsNumbered n (n + other.outer) other.basic) b.free_is b.numbered))
