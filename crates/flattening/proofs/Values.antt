-- The values of the new variables of terms: the equations say what they are, and they exist.
use Rattle.std.proofs.Common.{ℕ, zero, suc, ◌≡◌, ◌+◌, ◌<◌, ◌≤◌, List, [], ◌∷◌, ◌++◌, length, refl, ap, sym, ◌∙◌, arith, inl, inr, ◌⊎◌}
use Rattle.std.specs.Prelude.{Option, Some, None, slice_index}
use Rattle.tree_model.specs.declared.tree.Symbol.{Symbol}
use Rattle.tree_model.specs.Signatures.{Signature, TreeOver, Alike}
use Rattle.tree_model.specs.Graphs.{Graph}
use Rattle.tree_model.specs.Trees.{at}
use Rattle.tree_model.specs.Valuations.{Valuation}
use Rattle.tree_facts.specs.Equations.{IsApplied}
use Rattle.tree_facts.proofs.Equations.{at_past, within_or_past}
use Rattle.flat_form.specs.declared.atom.Flat.{Flat}
use Rattle.flat_form.specs.Meanings.{BasicHolds}
use Rattle.flattening.specs.Plain.{PlainTerm, PlainTerms, variable, apply, no_terms, one_more}
use Rattle.flattening.specs.Conditions.{count}
use Rattle.flattening.specs.Flattening.{alone, inside, applied, number, arguments, equations, deeper}
use Rattle.flattening.proofs.Readings.{plain_reads, nth_reads}

abbrev mutual
  -- the variable x stands in the term
  pub In : ℕ → PlainTerm → Type 0
  In x (variable v) = x ≡ v
  In x (apply s ts) = InSome x ts

  pub InSome : ℕ → PlainTerms → Type 0
  InSome x no_terms = ⊥
  InSome x (one_more t ts) = In x t ⊎ InSome x ts

module _ {σ : Signature} where
  -- what a term reads, by the values of the variables
  abbrev pub value : Valuation σ → PlainTerm → List ℕ → Option (Symbol × ℕ)
  value e t path = plain_reads (λ v. (e v).graph) t path

  abbrev pub nth_value : Valuation σ → PlainTerms → ℕ → List ℕ → Option (Symbol × ℕ)
  nth_value e ts i path = nth_reads (λ v. (e v).graph) ts i path

  mutual
    -- a term reads its own variables alone
    pub value_coincides : (t : PlainTerm) (e d : Valuation σ) → ((x : ℕ) → In x t → Alike (e x) (d x)) → (path : List ℕ) → value e t path ≡ value d t path
    value_coincides (variable v) e d alike path = alike v refl path
    value_coincides (apply s ts) e d alike [] = refl
    value_coincides (apply s ts) e d alike (i ∷ path) = nth_coincides ts e d alike i path

    pub nth_coincides : (ts : PlainTerms) (e d : Valuation σ) → ((x : ℕ) → InSome x ts → Alike (e x) (d x)) → (i : ℕ) (path : List ℕ) → nth_value e ts i path ≡ nth_value d ts i path
    nth_coincides no_terms e d alike i path = refl
    nth_coincides (one_more t ts) e d alike zero path = value_coincides t e d (λ x k. alike x (inl k)) path
    nth_coincides (one_more t ts) e d alike (suc i) path = nth_coincides ts e d (λ x k. alike x (inr k)) i path

  -- the tree reads as the term does
  abbrev pub Reads : Valuation σ → PlainTerm → TreeOver σ → Type 0
  Reads e t tree = (path : List ℕ) → at tree.graph path ≡ value e t path

pub basic_both : {σ : Signature} (xs ys : List Flat) (d : Valuation σ) → BasicHolds d xs → BasicHolds d ys → BasicHolds d (xs ++ ys)
basic_both [] ys d p q = q
basic_both (a ∷ xs) ys d p q = (p.0, basic_both xs ys d p.1 q)

pub basic_parts : {σ : Signature} (xs ys : List Flat) (d : Valuation σ) → BasicHolds d (xs ++ ys) → BasicHolds d xs × BasicHolds d ys
basic_parts [] ys d p = (tt, p)
basic_parts (a ∷ xs) ys d p = let q = basic_parts xs ys d p.1 in ((p.0, q.0), q.1)

pub length_arguments : (m : ℕ → ℕ) (n : ℕ) (ts : PlainTerms) → length (arguments m n ts) ≡ count ts
length_arguments m n no_terms = refl
length_arguments m n (one_more t ts) = omega (arith, length_arguments m (n + alone t) ts)

pub nth_past : (e : ℕ → Graph) (ts : PlainTerms) (i : ℕ) (path : List ℕ) → count ts ≤ i → nth_reads e ts i path ≡ None
nth_past e no_terms i path le = refl
nth_past e (one_more t ts) zero path le = absurd (omega arith)
nth_past e (one_more t ts) (suc i) path le = nth_past e ts i path (omega arith)

module _ {σ : Signature} (m : ℕ → ℕ) (d : Valuation σ) where
  abbrev by_number : Valuation σ
  by_number v = d (m v)

  argument_sound : (s : Symbol) (ts : PlainTerms) (k n : ℕ) → IsApplied d k s (arguments m n ts) → (i : ℕ) (path : List ℕ)
      → (i < count ts → (path : List ℕ) → at (d (slice_index (arguments m n ts) i)).graph path ≡ nth_value by_number ts i path)
      → at (d k).graph (i ∷ path) ≡ nth_value by_number ts i path
  argument_sound s ts k n is i path below = elim (within_or_past i (count ts)) [
    | inl w ↦ is.child i (omega (arith, length_arguments m n ts)) path ∙ below w path
    | inr w ↦ at_past (d k).graph s (length (arguments m n ts)) i path is.root (omega (arith, length_arguments m n ts)) ∙ sym (nth_past _ ts i path w)
  ]

  mutual
    -- where its equations hold, the number of a term has the term's value
    pub number_sound : (t : PlainTerm) (k n : ℕ) → BasicHolds d (equations m k n t) → (path : List ℕ) → at (d (number m k t)).graph path ≡ value by_number t path
    number_sound (variable v) k n holds path = refl
    number_sound (apply s ts) k n holds [] = holds.0.root ∙ ap (λ c. Some (s, c)) (length_arguments m n ts)
    number_sound (apply s ts) k n holds (i ∷ path) = argument_sound s ts k n holds.0 i path (arguments_sound ts n (n + applied ts) holds.1 i)

    pub arguments_sound : (ts : PlainTerms) (k n : ℕ) → BasicHolds d (deeper m k n ts) → (i : ℕ) → i < count ts → (path : List ℕ)
        → at (d (slice_index (arguments m k ts) i)).graph path ≡ nth_value by_number ts i path
    arguments_sound no_terms k n holds i w path = absurd (omega arith)
    arguments_sound (one_more t ts) k n holds zero w path = number_sound t k n (basic_parts (equations m k n t) _ d holds).0 path
    arguments_sound (one_more t ts) k n holds (suc i) w path =
        arguments_sound ts (k + alone t) (n + inside t) (basic_parts (equations m k n t) _ d holds).1 i (omega arith) path
