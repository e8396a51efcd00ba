-- What is read, when two graphs are one tree, when a tree is finite and what fits a signature are stable.
use Rattle.std.proofs.Common.{◌≡◌, ℕ, ◌⊎◌, inl, inr, Bool, true, false, refl}
use Rattle.std.specs.Coded.{Coded, code_by, coded_option, coded×, coded⊎, coded_ℕ, coded_bool}
use Rattle.classical.proofs.Codes.{coded_stable}
use Rattle.classical.proofs.Stable.{all_stable, imp_stable, not_stable, unit_stable}
use Rattle.tree_model.specs.declared.kind.Kind.{Kind}
use Rattle.tree_model.specs.declared.kind.Kind.TheVariants as kind
use Rattle.tree_model.specs.declared.tree.Symbol.{Symbol}
use Rattle.tree_model.specs.declared.tree.Symbol.TheVariants.{Named, Further}
use Rattle.tree_model.specs.Laws.{ReadingIsStable, SameIsStable, FiniteIsStable, RootIsStable, FitsIsStable}

abbrev sides : Symbol → ℕ ⊎ ℕ
sides (Named i) = inl i
sides (Further k) = inr k

abbrev symbol : ℕ ⊎ ℕ → Symbol
symbol (inl i) = Named i
symbol (inr k) = Further k

pub symbol_back : (s : Symbol) → symbol (sides s) ≡ s
symbol_back (Named i) = refl
symbol_back (Further k) = refl

abbrev pub symbol_code : Coded Symbol
symbol_code = code_by (ℕ ⊎ ℕ) (coded⊎ coded_ℕ coded_ℕ) sides symbol symbol_back

abbrev is_pred : Kind → Bool
is_pred kind.Symbol = false
is_pred kind.Pred = true

abbrev kind_of : Bool → Kind
kind_of false = kind.Symbol
kind_of true = kind.Pred

pub kind_back : (k : Kind) → kind_of (is_pred k) ≡ k
kind_back kind.Symbol = refl
kind_back kind.Pred = refl

abbrev pub kind_code : Coded Kind
kind_code = code_by Bool coded_bool is_pred kind_of kind_back

pub read_stable : ReadingIsStable
read_stable = coded_stable (coded_option (coded× symbol_code coded_ℕ))

pub same_stable : SameIsStable
same_stable t u = all_stable (λ path. read_stable _ _)

pub finite_stable : FiniteIsStable
finite_stable t = not_stable

pub root_stable : RootIsStable
root_stable σ (Named place) n = coded_stable (coded_option (coded× kind_code coded_ℕ)) _ _
root_stable σ (Further index) n = unit_stable

pub fits_stable : FitsIsStable
fits_stable σ nodes = all_stable (λ i. all_stable (λ d. imp_stable (root_stable σ _ _)))
