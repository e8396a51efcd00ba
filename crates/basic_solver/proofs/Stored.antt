-- What the calls of a store answer.
use Rattle.std.proofs.Common.{ℕ, zero, suc, ◌≡◌, ◌+◌, Bool, true, false, List, [], ◌∷◌, ◌++◌, length, take, get_or, refl, sym, ap, ◌∙◌, subst, arith, Result, Ok, Err}
use Rattle.std.specs.Prelude.{All, ◌↔◌, IfOk}
use Rattle.std.proofs.lemmas.List.{take_all, length-append, get_or_append_left, get_or-append-add}
use Rattle.tree_model.specs.Signatures.{Signature}
use Rattle.flat_form.specs.declared.atom.Flat.{Flat}
use Rattle.flat_form.specs.Meanings.{BasicHolds, HasNone}
use Rattle.flat_form.specs.Fitting.{AtomFits, BasicFits}
use Rattle.flat_form.specs.Numbering.{AtomOver, BasicOver}
use Rattle.flat_form.specs.Classes.{Unsolvable}
use Rattle.flat_form.specs.Added.{IsAdded, IsSolvedForm}
use Rattle.flat_facts.proofs.Existence.{solvable_solution}
use Rattle.flat_facts.proofs.Shapes.{added_determined}
use Rattle.flat_facts.proofs.Solutions.{solved_form_means}
use Rattle.flat_facts.proofs.Stores.{nothing_to_store, added_means_more}
use Rattle.basic_solver.specs.declared.scope.Scope.{Scope}
use Rattle.basic_solver.specs.declared.scope.Asserted.{Asserted}
use Rattle.basic_solver.specs.declared.scope.Asserted.TheVariants.{Clash, Kept}
use Rattle.basic_solver.specs.Stores.{atoms_of, open_in, below, top_of, with_atom, IsStore, IsAnswer, IsFormOf, MeansAll, IsExtraOf, MeansTop, IsEmptyWhereImplied, IsVerdict, SaysMore, IsFormFor, IsExtraFor}
use Rattle.basic_solver.proofs.Storing.{basic_wider, over_all, parts, open_with, length_with}
use Rattle.basic_solver.proofs.Telling.{one_over}

pub if_ok : {T E : Type 0} (r : Result T E) (P Q : T → Type 0) → ((x : T) → P x → Q x) → IfOk r P → IfOk r Q
if_ok (Ok x) P Q f h = f x h
if_ok (Err e) P Q f h = tt

-- the atoms of a store are over its variables
pub store_over : (count : ℕ) (scopes : List Scope) → IsStore count scopes → BasicOver count (atoms_of scopes)
store_over count scopes store =
    basic_wider (0 + open_in scopes) count (omega (arith, store.counted)) (atoms_of scopes) (over_all 0 scopes store.over)

-- all atoms were gathered
pub gathered : (scopes slice : List Scope) (n : ℕ) (atoms : List Flat) → slice ≡ scopes → n ≡ length scopes → atoms ≡ atoms_of (take n slice) → atoms ≡ atoms_of scopes
gathered scopes slice n atoms e len f =
    f ∙ ap (λ (z : List Scope). atoms_of (take n z)) e ∙ ap atoms_of (take_all n scopes (omega (arith, len)))

module _ (old : List Scope) (atom : Flat) (atoms all : List Flat) (gather : atoms ≡ atoms_of old) (whole : all ≡ atoms ++ atom ∷ []) where
  together : all ≡ atoms_of old ++ atom ∷ []
  together = whole ∙ ap (λ (z : List Flat). z ++ atom ∷ []) gather

  pub all_over : (count : ℕ) → IsStore count old → AtomOver (open_in old) atom → BasicOver count all
  all_over count store over = subst (λ (z : List Flat). BasicOver count z) (sym together)
      (one_over count (atoms_of old) atom (store_over count old store) (subst (λ (z : ℕ). AtomOver z atom) (sym store.counted) over))

  pub clash_answer : IsVerdict all false → IsAnswer old old atom Clash
  clash_answer none = (refl, subst (λ (z : List Flat). HasNone z) together none)

  pub solvable_with : IsVerdict all true → ¬ Unsolvable (atoms_of old ++ atom ∷ [])
  solvable_with verdict = subst (λ (z : List Flat). ¬ Unsolvable z) together verdict

  pub kept_answer : (new : List Scope) (added : Bool) → IsVerdict all true → SaysMore atoms atom added → new ≡ with_atom atom old → IsAnswer old new atom (Kept added)
  kept_answer new added verdict more kept = (
    kept,
    λ σ fits. (solvable_solution σ (atoms_of old ++ atom ∷ []) fits).1 (solvable_with verdict),
    λ σ fits. subst (λ (z : List Flat). SaysMore z atom added) gather more (solvable_with verdict) σ fits,
  )

module _ (count : ℕ) (scopes : List Scope) (store : IsStore count scopes) (atoms form : List Flat) (gather : atoms ≡ atoms_of scopes) (f : IsFormFor count atoms form) where
  pub form_of_store : IsFormOf scopes form
  form_of_store σ fits = subst (λ (z : List Flat). IsSolvedForm z form) gather
      (f.form (λ none. (solvable_solution σ (atoms_of scopes) fits).1 store.solvable (λ (e, holds). none σ e (subst (λ (z : List Flat). BasicHolds e z) (sym gather) holds))))

  pub means_store : MeansAll scopes form
  means_store σ e fits = solved_form_means σ (atoms_of scopes) form e (form_of_store σ fits)

pub split_last : (scopes : List Scope) (i : ℕ) (x : Scope) → i + 1 ≡ length scopes → x ≡ get_or scopes i x → (take i scopes ≡ below scopes) × (x.atoms ≡ top_of scopes)
split_last [] i x len is = absurd (omega (arith, len))
split_last (s ∷ []) zero x len is = (refl, ap (λ (z : Scope). z.atoms) is)
split_last (s ∷ []) (suc i) x len is = absurd (omega (arith, len))
split_last (s ∷ t ∷ rest) zero x len is = absurd (omega (arith, len))
split_last (s ∷ t ∷ rest) (suc i) x len is =
    let p = split_last (t ∷ rest) i x (omega (arith, len)) is in (ap (λ (z : List Scope). s ∷ z) p.0, p.1)

front_all : (P : Flat → Type 0) (xs ys : List Flat) → All P (xs ++ ys) → All P xs
front_all P xs ys all k d w = subst P (get_or_append_left xs ys d k w) (all k d (omega (arith, length-append xs ys)))

later_all : (P : Flat → Type 0) (xs ys : List Flat) → All P (xs ++ ys) → All P ys
later_all P xs ys all k d w = subst P (get_or-append-add xs ys k d) (all (length xs + k) d (omega (arith, length-append xs ys)))

module _ (count : ℕ) (scopes : List Scope) (store : IsStore count scopes) (lower top : List Flat) (under : lower ≡ atoms_of (below scopes)) (last : top ≡ top_of scopes) where
  whole : atoms_of scopes ≡ lower ++ top
  whole = parts scopes ∙ ap (λ (z : List Flat). z ++ top_of scopes) (sym under) ∙ ap (λ (z : List Flat). lower ++ z) (sym last)

  over : BasicOver count (lower ++ top)
  over = subst (λ (z : List Flat). BasicOver count z) whole (store_over count scopes store)

  pub lower_over : BasicOver count lower
  lower_over = front_all (AtomOver count) lower top over

  pub top_over : BasicOver count top
  top_over = later_all (AtomOver count) lower top over

  module _ (extra : List Flat) (f : IsExtraFor lower top extra) where
    found : (σ : Signature) → BasicFits σ (atoms_of scopes) → (form : List Flat) × IsSolvedForm lower form × IsAdded form (form ++ top) extra
    found σ fits = f σ (subst (λ (z : List Flat). BasicFits σ z) whole fits) (subst (λ (z : List Flat). ¬ Unsolvable z) whole store.solvable)

    pub extra_of_store : IsExtraOf scopes extra
    extra_of_store σ fits form solved =
        let p = found σ fits in
        let same : p.0 ≡ form = added_determined [] lower p.0 form p.1 (subst (λ (z : List Flat). IsSolvedForm z form) (sym under) solved) in
        subst (λ (z : List Flat). IsAdded form (form ++ z) extra) last (subst (λ (z : List Flat). IsAdded z (z ++ top) extra) same p.2)

    pub means_top : MeansTop scopes extra
    means_top σ e fits in_below =
        let p = found σ fits in
        subst (λ (z : List Flat). BasicHolds e extra ↔ BasicHolds e z) last
        (added_means_more σ lower p.0 top extra e p.1 p.2 (subst (λ (z : List Flat). BasicHolds e z) (sym under) in_below))

    pub empty_where_implied : IsEmptyWhereImplied scopes extra
    empty_where_implied σ fits =
        let p = found σ fits in
        let law = nothing_to_store σ lower p.0 top extra p.1 p.2 (front_all (AtomFits σ) lower top (subst (λ (z : List Flat). BasicFits σ z) whole fits)) in (
          λ none e in_below. subst (λ (z : List Flat). BasicHolds e z) last (law.0 none e (subst (λ (z : List Flat). BasicHolds e z) (sym under) in_below)),
          λ implied. law.1 (λ e in_lower. subst (λ (z : List Flat). BasicHolds e z) (sym last) (implied e (subst (λ (z : List Flat). BasicHolds e z) under in_lower))),
        )

-- an answer changes no number of variables or of scopes
pub answer_keeps : (old new : List Scope) (atom : Flat) (answer : Asserted) → IsAnswer old new atom answer → (open_in new ≡ open_in old) × (length new ≡ length old)
answer_keeps old new atom Clash a = (ap open_in a.0, ap length a.0)
answer_keeps old new atom (Kept added) a = (ap open_in a.0 ∙ open_with old atom, ap length a.0 ∙ length_with old atom)
