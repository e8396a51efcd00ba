-- Where each symbol of atoms and parts has a property, so has each of what is made of them.
use Rattle.std.specs.Prelude.{Contains}
use Rattle.std.proofs.Common.{ℕ, ◌≡◌, List, [], ◌∷◌, ◌++◌, map, length, sym, ap, ◌∙◌, subst, arith, inl, inr}
use Rattle.std.proofs.lemmas.List.{length-map}
use Rattle.std.proofs.lemmas.List.Elements.{Contains-append_cases}
use Rattle.tree_model.specs.declared.tree.Symbol.{Symbol}
use Rattle.tree_facts.proofs.Members.{contains_later, contains_cases}
use Rattle.tree_facts.proofs.Renumbering.{contains_image}
use Rattle.flat_form.specs.declared.atom.Flat.{Flat}
use Rattle.flat_form.specs.declared.atom.Flat.TheVariants.{VarVar, VarTerm, Finite}
use Rattle.flat_form.specs.declared.cube.Part.{Part}
use Rattle.flat_form.specs.Parts.{renumbered}
use Rattle.flat_form.specs.Orders.{renumbered_part, IsRenumbering}
use Rattle.flat_form.proofs.Symbols.{Fit, PartsFit}

module _ (Q : Symbol → ℕ → Type 0) where
  pub both_fit : (xs ys : List Flat) → Fit Q xs → Fit Q ys → Fit Q (xs ++ ys)
  both_fit xs ys f g = record {
    each = λ u symbol zs i. elim (Contains-append_cases xs ys (VarTerm u symbol zs) i) [
      | inl p ↦ f.each u symbol zs p
      | inr p ↦ g.each u symbol zs p
    ];
  }

  from_renumbered : (f : ℕ → ℕ) (old : List Flat) (other : Flat) (u : ℕ) (symbol : Symbol) (ys : List ℕ) → Fit Q old → Contains old other
      → VarTerm u symbol ys ≡ renumbered f other → Q symbol (length ys)
  from_renumbered f old (VarVar v w) u symbol ys before stands same = absurd (cc)
  from_renumbered f old (VarTerm v s xs) u symbol ys before stands same =
      let many : length xs ≡ length ys = sym (length-map xs f) ∙ ap (λ (zs : List ℕ). length zs) (let e : map f xs ≡ ys = cc in e) in
      let one : s ≡ symbol = cc in
      subst (λ (z : Symbol). Q z (length ys)) one (subst (λ (n : ℕ). Q s n) many (before.each v s xs stands))
  from_renumbered f old (Finite v) u symbol ys before stands same = absurd (cc)

  pub renumbering_fits : (f : ℕ → ℕ) (P : Flat → Type 0) (old new : List Flat) → IsRenumbering f P old new → Fit Q old → Fit Q new
  renumbering_fits f P old new renumbering before = record {
    each = λ u symbol ys i.
        let (other, stands, taken, same) = (renumbering.is (VarTerm u symbol ys)).0 i in from_renumbered f old other u symbol ys before stands same;
  }

  pub map_fits : (f : ℕ → ℕ) (atoms : List Flat) → Fit Q atoms → Fit Q (map (renumbered f) atoms)
  map_fits f atoms before = record {
    each = λ u symbol ys i.
        let (other, stands, same) = contains_image (renumbered f) atoms (VarTerm u symbol ys) i in from_renumbered f atoms other u symbol ys before stands (sym same);
  }

  pub tail_fits : (part : Part) (parts : List Part) → PartsFit Q (part ∷ parts) → PartsFit Q parts
  tail_fits part parts f = record { each = λ other i. f.each other (contains_later part other parts i) }

  pub more_fit : (part : Part) (parts : List Part) → Fit Q part.basic → PartsFit Q parts → PartsFit Q (part ∷ parts)
  more_fit part parts f rest = record {
    each = λ other i. elim (contains_cases part other parts i) [
      | inl e ↦ subst (λ (z : Part). Fit Q z.basic) e f
      | inr p ↦ rest.each other p
    ];
  }

  pub none_fit : PartsFit Q []
  none_fit = record { each = λ part i. absurd (omega (arith, i.1)) }

  pub one_more_fits : (done : List Part) (part : Part) → PartsFit Q done → Fit Q part.basic → PartsFit Q (done ++ part ∷ [])
  one_more_fits done part f last = record {
    each = λ other i. elim (Contains-append_cases done (part ∷ []) other i) [
      | inl p ↦ f.each other p
      | inr p ↦ (more_fit part [] last none_fit).each other p
    ];
  }

  pub moved_parts_fit : (f : ℕ → ℕ) (more : ℕ) (parts : List Part) → PartsFit Q parts → PartsFit Q (map (renumbered_part f more) parts)
  moved_parts_fit f more parts before = record {
    each = λ part i.
        let (other, stands, same) = contains_image (renumbered_part f more) parts part i in
        subst (λ (z : Part). Fit Q z.basic) same (map_fits f other.basic (before.each other stands));
  }
