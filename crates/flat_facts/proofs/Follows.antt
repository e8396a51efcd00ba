-- What is added follows from the atoms, and stays among their variables and symbols.
use Rattle.std.proofs.Common.{ℕ, ◌<◌, List, [], ◌∷◌, sym, ap, ◌∙◌, subst, arith, inl, inr, Some}
use Rattle.std.specs.Prelude.{slice_index, get_or, Contains, All}
use Rattle.std.proofs.lemmas.List.Elements.{All-contains, All-from_get_or, Contains-get_or}
use Rattle.tree_model.specs.Signatures.{Signature, IsRoot}
use Rattle.tree_model.specs.Valuations.{Valuation}
use Rattle.tree_facts.proofs.Members.{contains_cases, contains_later}
use Rattle.flat_form.specs.declared.atom.Flat.{Flat}
use Rattle.flat_form.specs.declared.atom.Flat.TheVariants.{VarVar, VarTerm, Finite}
use Rattle.flat_form.specs.Meanings.{AtomHolds, BasicHolds}
use Rattle.flat_form.specs.Numbering.{AtomOver, BasicOver}
use Rattle.flat_form.specs.Fitting.{AtomFits, BasicFits}
use Rattle.flat_form.specs.Added.{Adds}
use Rattle.flat_facts.specs.AddedLaws.{AddedFollows, AddedIsOver, AddedFits}
use Rattle.flat_facts.proofs.Classes.{class_alike, reached_finite}
use Rattle.flat_facts.proofs.Heads.{head_class}
use Rattle.flat_facts.proofs.Lists.{holds_in, all_hold}
use Rattle.flat_form.specs.Parts.{variables_of, AllBelow}
use Rattle.flat_facts.proofs.Scopes.{argument_low, class_below, reached_below, class_apart}

each_of : {A : Type 0} (P : A → Type 0) (xs : List A) → ((x : A) → Contains xs x → P x) → All P xs
each_of P xs each = λ i d w. each (get_or xs i d) (Contains-get_or xs i d w)

-- each added atom holds in each solution of the atoms
pub follows : (σ : Signature) (base atoms : List Flat) (e : Valuation σ) → BasicHolds e atoms → (a : Flat) → Adds base atoms a → AtomHolds e a
follows σ base atoms e holds (VarVar v h) new = class_alike σ atoms e v h holds (head_class base atoms v h new.head)
follows σ base atoms e holds (VarTerm v s ys) new =
    let own : AtomHolds e (VarTerm new.variable s new.xs) = holds_in e atoms (VarTerm new.variable s new.xs) holds new.stands in
    record {
      root = class_alike σ atoms e v new.variable holds new.one_class [] ∙ own.root ∙ ap (λ n. Some (s, n)) (sym new.as_many);
      child = λ i w path. class_alike σ atoms e v new.variable holds new.one_class (i ∷ path) ∙ own.child i (omega (arith, new.as_many)) path
          ∙ class_alike σ atoms e (slice_index new.xs i) (slice_index ys i) holds
          (head_class base atoms (slice_index new.xs i) (slice_index ys i) (new.heads i (omega (arith, new.as_many)))) path;
    }
follows σ base atoms e holds (Finite v) new = reached_finite σ atoms e v holds new.reached

pub added_follows : AddedFollows
added_follows σ base atoms added e adds holds = all_hold e added (λ a i. follows σ base atoms e holds a (adds.each a i))

-- the atoms' variables are below n
pub over_below : (n : ℕ) (atoms : List Flat) → BasicOver n atoms → AllBelow n atoms
over_below n atoms over a inside = occurs_low n a (All-contains (AtomOver n) atoms a over inside)
  where
    two_low : (n u r v : ℕ) → u < n → r < n → Contains (u ∷ r ∷ []) v → v < n
    two_low n u r v b c occurs = elim (contains_cases u v (r ∷ []) occurs) [
      | inl e ↦ subst (λ z. z < n) e b
      | inr more ↦ elim (contains_cases r v [] more) [
        | inl e ↦ subst (λ z. z < n) e c
        | inr none ↦ absurd (omega (arith, none.1))
      ]
    ]

    occurs_low : (n : ℕ) (a : Flat) → AtomOver n a → (v : ℕ) → Contains (variables_of a) v → v < n
    occurs_low n (VarVar u r) over v occurs = two_low n u r v over.0 over.1 occurs
    occurs_low n (VarTerm u s xs) over v occurs = elim (contains_cases u v xs occurs) [
      | inl e ↦ subst (λ z. z < n) e over.0
      | inr more ↦ All-contains (λ z. z < n) xs v over.1 more
    ]
    occurs_low n (Finite u) over v occurs = two_low n u u v over over (contains_later u v (u ∷ []) occurs)

-- each added atom is over the atoms' variables
adds_over : (n : ℕ) (base atoms : List Flat) → BasicOver n atoms → (a : Flat) → Adds base atoms a → AtomOver n a
adds_over n base atoms over (VarVar u h) new = elim (class_apart n atoms (over_below n atoms over) (head_class base atoms u h new.head)) [
  | inl e ↦ absurd (new.differ e)
  | inr p ↦ p
]
adds_over n base atoms over (VarTerm u s ys) new =
    let scope : AllBelow n atoms = over_below n atoms over in
    let of_atom : AtomOver n (VarTerm new.variable s new.xs) = All-contains (AtomOver n) atoms (VarTerm new.variable s new.xs) over new.stands in (
      (class_below n atoms scope new.one_class).1 of_atom.0,
      All-from_get_or (λ v. v < n) ys 0 (λ i w.
          (class_below n atoms scope (head_class base atoms (slice_index new.xs i) (slice_index ys i) (new.heads i (omega (arith, new.as_many))))).0
          (argument_low n atoms scope new.variable s new.xs new.stands i (omega (arith, new.as_many)))),
      omega (arith, of_atom.2, new.as_many),
    )
adds_over n base atoms over (Finite u) new = reached_below n atoms (over_below n atoms over) new.reached

pub added_over : AddedIsOver
added_over n base atoms added over adds = each_of (AtomOver n) added (λ a i. adds_over n base atoms over a (adds.each a i))

adds_fits : (σ : Signature) (base atoms : List Flat) → BasicFits σ atoms → (a : Flat) → Adds base atoms a → AtomFits σ a
adds_fits σ base atoms fits (VarVar u h) new = tt
adds_fits σ base atoms fits (VarTerm u s ys) new =
    subst (λ n. IsRoot σ s n) (sym new.as_many) (All-contains (AtomFits σ) atoms (VarTerm new.variable s new.xs) fits new.stands)
adds_fits σ base atoms fits (Finite u) new = tt

pub added_fits : AddedFits
added_fits σ base atoms added fits adds = each_of (AtomFits σ) added (λ a i. adds_fits σ base atoms fits a (adds.each a i))
