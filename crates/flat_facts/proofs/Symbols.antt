-- Each symbol of what is added stands in the atoms.
use Rattle.std.proofs.Common.{ℕ, List, sym, subst}
use Rattle.std.specs.Prelude.{Contains}
use Rattle.tree_model.specs.declared.tree.Symbol.{Symbol}
use Rattle.flat_form.specs.declared.atom.Flat.{Flat}
use Rattle.flat_form.specs.declared.atom.Flat.TheVariants.{VarTerm}
use Rattle.flat_form.specs.Added.{IsAdded}
use Rattle.flat_form.specs.Symbols.{basic_symbols}
use Rattle.flat_form.proofs.Symbols.{Fit, basic_of_all, all_of_basic}
use Rattle.flat_facts.specs.AddedLaws.{AddedSymbols}

-- where each symbol of the atoms has a property, so has each of what is added
pub added_fit : (Q : Symbol → ℕ → Type 0) (base atoms added : List Flat) → Fit Q atoms → IsAdded base atoms added → Fit Q added
added_fit Q base atoms added f adds = record {
  each = λ u symbol ys i.
      let new = adds.each (VarTerm u symbol ys) i in
      subst (λ (n : ℕ). Q symbol n) (sym new.as_many) (f.each new.variable symbol new.xs new.stands);
}

pub added_symbols : AddedSymbols
added_symbols base atoms added adds =
    let Q : Symbol → ℕ → Type 0 = λ symbol n. Contains (basic_symbols atoms) (symbol, n) in
    all_of_basic Q added (added_fit Q base atoms added (basic_of_all Q atoms (λ p i. i)) adds)
