-- Occurrences of variables as arguments, before and behind a renumbering.
use Rattle.std.specs.Prelude.{Contains, slice_index}
use Rattle.std.proofs.Common.{ℕ, ◌≡◌, ◌<◌, List, map, length, refl, sym, ap, ◌∙◌, arith}
use Rattle.std.proofs.lemmas.List.{length-map, get_or-map}
use Rattle.tree_model.specs.declared.tree.Symbol.{Symbol}
use Rattle.flat_form.specs.declared.atom.Flat.{Flat}
use Rattle.flat_form.specs.declared.atom.Flat.TheVariants.{VarVar, VarTerm, Finite}
use Rattle.flat_form.specs.Parts.{renumbered}
use Rattle.flat_form.specs.FirstOccurrence.{IsArgument}
use Rattle.flat_form.specs.Orders.{IsRenumbering}

-- v is the argument at place i of an equation of u that P takes
pub record Occurs (P : Flat → Type 0) (old : List Flat) (u i v : ℕ) : Type 0 where
  pub symbol : Symbol
  pub xs : List ℕ
  pub stands : Contains old (VarTerm u symbol xs)
  pub taken : P (VarTerm u symbol xs)
  pub within : i < length xs
  pub is : slice_index xs i ≡ v

-- an occurrence under new numbers, and the one that it comes from
pub record ComesFrom (f : ℕ → ℕ) (P : Flat → Type 0) (old : List Flat) (x i y : ℕ) : Type 0 where
  pub left : ℕ
  pub variable : ℕ
  pub occurs : Occurs P old left i variable
  pub left_is : f left ≡ x
  pub is : f variable ≡ y

module _ (f : ℕ → ℕ) (P : Flat → Type 0) (old new : List Flat) (renumbering : IsRenumbering f P old new) where
  comes : (x i y : ℕ) (symbol : Symbol) (ys : List ℕ) (other : Flat) → i < length ys → slice_index ys i ≡ y → Contains old other → P other
      → VarTerm x symbol ys ≡ renumbered f other → ComesFrom f P old x i y
  comes x i y symbol ys (VarVar u v) within is stands taken same = absurd (cc)
  comes x i y symbol ys (VarTerm u s xs) within is stands taken same =
      let all : ys ≡ map f xs = cc in
      let low : i < length xs = omega (arith, ap length all, length-map xs f, within) in
      record {
        left = u;
        variable = slice_index xs i;
        occurs = record { symbol = s; xs = xs; stands = stands; taken = taken; within = low; is = refl };
        left_is = cc;
        is = sym (get_or-map f xs i 0 0 low) ∙ (ap (λ zs. slice_index zs i) (sym all) ∙ is);
      }
  comes x i y symbol ys (Finite u) within is stands taken same = absurd (cc)

  pub from_new : (x i y : ℕ) → IsArgument new x i y → ComesFrom f P old x i y
  from_new x i y a =
      let (other, stands, taken, same) = (renumbering.is (VarTerm x a.symbol a.xs)).0 a.stands in
      comes x i y a.symbol a.xs other a.within a.is stands taken same

  pub to_new : (u i v : ℕ) → Occurs P old u i v → IsArgument new (f u) i (f v)
  to_new u i v o = record {
    symbol = o.symbol;
    xs = map f o.xs;
    stands = (renumbering.is (VarTerm (f u) o.symbol (map f o.xs))).1 (VarTerm u o.symbol o.xs, o.stands, o.taken, refl);
    within = omega (arith, length-map o.xs f, o.within);
    is = get_or-map f o.xs i 0 0 o.within ∙ ap f o.is;
  }
