-- One more term: what the loops over lists of terms have done and what is left for them.
use Rattle.std.proofs.Common.{ℕ, ◌≡◌, ◌+◌, List, [], ◌∷◌, ◌++◌, append_assoc, refl, ◌∙◌, arith}
use Rattle.tree_model.specs.declared.tree.Symbol.{Symbol}
use Rattle.flat_form.specs.declared.atom.Flat.{Flat}
use Rattle.flat_form.specs.declared.atom.Flat.TheVariants.{VarTerm}
use Rattle.flattening.specs.Plain.{PlainTerm, PlainTerms, one_more, apply}
use Rattle.flattening.specs.Flattening.{alone, inside, wide, wides, applied, number, arguments, equations, deeper, equation, equality, whole, wholes, numbers}

pub wides_more : (n n' all : ℕ) (ts rest : PlainTerms) (t : PlainTerm) → ts ≡ one_more t rest → n + wides ts ≡ all → n' ≡ n + wide t → n' + wides rest ≡ all
wides_more n n' all ts rest t e i b = let j : n + (alone t + inside t + wides rest) ≡ all = rw e at i in omega (arith, j, b)

pub applied_more : (n n' all : ℕ) (ts rest : PlainTerms) (t : PlainTerm) → ts ≡ one_more t rest → n + applied ts ≡ all → n' ≡ n + alone t → n' + applied rest ≡ all
applied_more n n' all ts rest t e i b = let j : n + (alone t + applied rest) ≡ all = rw e at i in omega (arith, j, b)

pub arguments_more : (m : ℕ → ℕ) (n n' : ℕ) (args new all : List ℕ) (ts rest : PlainTerms) (t : PlainTerm) → ts ≡ one_more t rest
    → args ++ arguments m n ts ≡ all → new ≡ args ++ number m n t ∷ [] → n' ≡ n + alone t → new ++ arguments m n' rest ≡ all
arguments_more m n n' args new all ts rest t e i a b = rw (a, b, append_assoc) (rw e at i)

pub numbers_more : (m : ℕ → ℕ) (n n' : ℕ) (made new all : List ℕ) (ts rest : PlainTerms) (t : PlainTerm) → ts ≡ one_more t rest
    → made ++ numbers m n ts ≡ all → new ≡ made ++ number m n t ∷ [] → n' ≡ n + wide t → new ++ numbers m n' rest ≡ all
numbers_more m n n' made new all ts rest t e i a b = rw (a, b, append_assoc) (rw e at i)

pub deeper_more : (m : ℕ → ℕ) (k n k' n' : ℕ) (basic new all : List Flat) (ts rest : PlainTerms) (t : PlainTerm) → ts ≡ one_more t rest
    → basic ++ deeper m k n ts ≡ all → new ≡ basic ++ equations m k n t → n' ≡ n + inside t → k' ≡ k + alone t → new ++ deeper m k' n' rest ≡ all
deeper_more m k n k' n' basic new all ts rest t e i a b c = rw (a, b, c, append_assoc) (rw e at i)

pub deeper_count : (n n' count all : ℕ) (ts rest : PlainTerms) (t : PlainTerm) → ts ≡ one_more t rest
    → n + count + wides ts ≡ all + applied ts → n' ≡ n + inside t → n' + count + wides rest ≡ all + applied rest
deeper_count n n' count all ts rest t e i b =
    let j : n + count + (alone t + inside t + wides rest) ≡ all + (alone t + applied rest) = rw e at i in omega (arith, j, b)

pub wholes_more : (m : ℕ → ℕ) (n n' : ℕ) (basic new all : List Flat) (ts rest : PlainTerms) (t : PlainTerm) → ts ≡ one_more t rest
    → basic ++ wholes m n ts ≡ all → new ≡ basic ++ whole m n t → n' ≡ n + wide t → new ++ wholes m n' rest ≡ all
wholes_more m n n' basic new all ts rest t e i a b = rw (a, b, append_assoc) (rw e at i)

-- the equations of an application: its own, then those of its arguments
pub application_added : (m : ℕ → ℕ) (u n after : ℕ) (symbol : Symbol) (ts : PlainTerms) (t : PlainTerm) (args : List ℕ) (basic pushed new : List Flat)
    → t ≡ apply symbol ts → args ≡ arguments m n ts → after ≡ n + applied ts → pushed ≡ basic ++ VarTerm u symbol args ∷ [] → new ≡ pushed ++ deeper m n after ts
    → new ≡ basic ++ equations m u n t
application_added m u n after symbol ts t args basic pushed new e a b p d = rw (e, d, p, a, b, append_assoc) refl

-- two applications are equal to one new variable
pub both_added : (m : ℕ → ℕ) (n next after : ℕ) (s r : Symbol) (ts us : PlainTerms) (t v : PlainTerm) (basic first new : List Flat)
    → t ≡ apply s ts → v ≡ apply r us → next ≡ n + 1 → after ≡ next + inside t → first ≡ basic ++ equation m n next t → new ≡ first ++ equation m n after v
    → new ≡ basic ++ equality m n t v
both_added m n next after s r ts us t v basic first new e d a b p q =
    let after_is : after ≡ n + 1 + wides ts = b ∙ rw (e, a) refl in rw (q, p, e, d, after_is, a, append_assoc) refl
