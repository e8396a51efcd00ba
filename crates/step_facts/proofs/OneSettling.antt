-- Settling, dropping what idle variables stand in, and numbering parts anew each come to one list.
use Rattle.std.specs.Prelude.{Contains}
use Rattle.std.proofs.Common.{ℕ, ◌≡◌, List, [], ◌∷◌, ◌++◌, refl, sym, ap, ◌∙◌, subst, arith, inl, inr}
use Rattle.tree_model.specs.Signatures.{Signature, IsRoot}
use Rattle.tree_facts.proofs.Members.{contains_first, contains_later, contains_cases}
use Rattle.flat_form.specs.declared.atom.Flat.{Flat}
use Rattle.flat_form.specs.declared.cube.Part.{Part}
use Rattle.flat_form.specs.Parts.{IsPruned}
use Rattle.flat_form.specs.Meanings.{HasNone}
use Rattle.flat_form.specs.Steps.{SettlesTo, Settles, Mentions, WithoutIdle, NumbersInner, Finishes, IsImplied}
use Rattle.flat_form.proofs.Symbols.{Fit, PartsFit}
use Rattle.flat_facts.proofs.Lists.{one_list}
use Rattle.flat_facts.proofs.Shapes.{added_determined}
use Rattle.cube_facts.proofs.Fits.{both_fit, tail_fits}
use Rattle.step_facts.proofs.OneNumbering.{inner_numbers_are_one}
use Rattle.step_facts.proofs.StepFits.{not_none}

-- what is kept is one list
pub one_pruned : (m : ℕ) (part one other : List Flat) → IsPruned m part one → IsPruned m part other → one ≡ other
one_pruned m part one other a b = one_list one other a.ascending b.ascending
    (λ atom i. let p = a.from atom i in b.all atom p.0 p.1) (λ atom i. let p = b.from atom i in a.all atom p.0 p.1)

-- a part is settled to one part
pub one_settled : (m : ℕ) (base : List Flat) (part one other : Part) → SettlesTo m base part one → SettlesTo m base part other → one ≡ other
one_settled m base part one other a b =
    let same : a.added ≡ b.added = added_determined base (base ++ part.basic) a.added b.added a.is_added b.is_added in
    let basic : one.basic ≡ other.basic = one_pruned m b.added one.basic other.basic (subst (λ (xs : List Flat). IsPruned m xs one.basic) same a.is_pruned) b.is_pruned in
    ap (λ (n : ℕ). let it : Part = record { inner = n; basic = one.basic } in it) (a.inner_is ∙ sym b.inner_is)
    ∙ ap (λ (b : List Flat). let it : Part = record { inner = other.inner; basic = b } in it) basic

-- how a list of parts begins to be settled
pub data Begins (m : ℕ) (base : List Flat) (part : Part) (old new : List Part) : Type 0 where
  goes : HasNone (base ++ part.basic) → Settles m base old new → Begins m base part old new
  becomes : (it : Part) (rest : List Part) → SettlesTo m base part it → Settles m base old rest → new ≡ it ∷ rest → Begins m base part old new

settles_nil : (m : ℕ) (base : List Flat) (new : List Part) → Settles m base [] new → new ≡ []
settles_nil m base new Settles.all_done = refl

pub begins : (m : ℕ) (base : List Flat) (part : Part) (old new : List Part) → Settles m base (part ∷ old) new → Begins m base part old new
begins m base part old new (Settles.dropped p o n none more) = goes none more
begins m base part old new (Settles.settled p it o rest is more) = becomes it rest is more refl

module _ (σ : Signature) (m : ℕ) (base : List Flat) (at_base : Fit (IsRoot σ) base) where
  never_both : (part it : Part) → Fit (IsRoot σ) part.basic → HasNone (base ++ part.basic) → ¬ SettlesTo m base part it
  never_both part it f none = λ a. not_none σ base (base ++ part.basic) a.added (both_fit (IsRoot σ) base part.basic at_base f) a.is_added none

  same_begin : (part : Part) (old one other : List Part) → Fit (IsRoot σ) part.basic
      → ((xs ys : List Part) → Settles m base old xs → Settles m base old ys → xs ≡ ys)
      → Begins m base part old one → Begins m base part old other → one ≡ other
  same_begin part old one other f rest (goes none a) (goes also b) = rest one other a b
  same_begin part old one other f rest (goes none a) (becomes it more is b e) = absurd (never_both part it f none is)
  same_begin part old one other f rest (becomes it more is b e) (goes none a) = absurd (never_both part it f none is)
  same_begin part old one other f rest (becomes it more is a p) (becomes thing others also b q) =
      p ∙ (ap (λ z. z ∷ more) (one_settled m base part it thing is also) ∙ (ap (λ z. thing ∷ z) (rest more others a b) ∙ sym q))

  pub settles_one : (old one other : List Part) → PartsFit (IsRoot σ) old → Settles m base old one → Settles m base old other → one ≡ other
  settles_one [] one other f a b = settles_nil m base one a ∙ sym (settles_nil m base other b)
  settles_one (part ∷ old) one other f a b =
      same_begin part old one other (f.each part (contains_first part old))
      (λ xs ys. settles_one old xs ys (tail_fits (IsRoot σ) part old f)) (begins m base part old one a) (begins m base part old other b)

  -- an implied part is settled to an empty one
  empty_in : (part : Part) (old new : List Part) → Fit (IsRoot σ) part.basic → IsImplied m base part → Begins m base part old new
      → (it : Part) × Contains new it × (it.basic ≡ [])
  empty_in part old new f (added, adds, cut) (goes none a) = absurd (not_none σ base (base ++ part.basic) added (both_fit (IsRoot σ) base part.basic at_base f) adds none)
  empty_in part old new f (added, adds, cut) (becomes it more is a e) = (
    it,
    subst (λ (xs : List Part). Contains xs it) (sym e) (contains_first it more),
    one_pruned m added it.basic [] (subst (λ (xs : List Flat). IsPruned m xs it.basic) (added_determined base (base ++ part.basic) is.added added is.is_added adds) is.is_pruned) cut,
  )

  behind : (part : Part) (old new : List Part) → Begins m base part old new
      → ((rest : List Part) → Settles m base old rest → (it : Part) × Contains rest it × (it.basic ≡ []))
      → (it : Part) × Contains new it × (it.basic ≡ [])
  behind part old new (goes none a) found = found new a
  behind part old new (becomes it more is a e) found =
      let (empty, stands, is_empty) = found more a in
      (empty, subst (λ (xs : List Part). Contains xs empty) (sym e) (contains_later it empty more stands), is_empty)

  pub implied_is_empty : (old new : List Part) (part : Part) → PartsFit (IsRoot σ) old → Contains old part → IsImplied m base part → Settles m base old new
      → (it : Part) × Contains new it × (it.basic ≡ [])
  implied_is_empty [] new part f inside implied a = absurd (omega (arith, inside.1))
  implied_is_empty (first ∷ old) new part f inside implied a = elim (contains_cases first part old inside) [
    | inl e ↦ empty_in first old new (f.each first (contains_first first old)) (subst (λ (z : Part). IsImplied m base z) (sym e) implied) (begins m base first old new a)
    | inr later ↦ behind first old new (begins m base first old new a)
        (λ rest b. implied_is_empty old rest part (tail_fits (IsRoot σ) first old f) later implied b)
  ]

-- dropping parts with idle variables

data Busy (idle : List ℕ) (part : Part) (old new : List Part) : Type 0 where
  goes_off : (v : ℕ) → Contains idle v → Mentions part v → WithoutIdle idle old new → Busy idle part old new
  is_kept : (rest : List Part) → ((v : ℕ) → Contains idle v → ¬ Mentions part v) → WithoutIdle idle old rest → new ≡ part ∷ rest → Busy idle part old new

busy_nil : (idle : List ℕ) (new : List Part) → WithoutIdle idle [] new → new ≡ []
busy_nil idle new WithoutIdle.all_done = refl

busy_cons : (idle : List ℕ) (part : Part) (old new : List Part) → WithoutIdle idle (part ∷ old) new → Busy idle part old new
busy_cons idle part old new (WithoutIdle.dropped p v o n here mentions more) = goes_off v here mentions more
busy_cons idle part old new (WithoutIdle.stays p o rest none more) = is_kept rest none more refl

same_busy : (idle : List ℕ) (part : Part) (old one other : List Part)
    → ((xs ys : List Part) → WithoutIdle idle old xs → WithoutIdle idle old ys → xs ≡ ys) → Busy idle part old one → Busy idle part old other → one ≡ other
same_busy idle part old one other rest (goes_off v here mentions a) (goes_off w there also b) = rest one other a b
same_busy idle part old one other rest (goes_off v here mentions a) (is_kept more none b e) = absurd (none v here mentions)
same_busy idle part old one other rest (is_kept more none b e) (goes_off v here mentions a) = absurd (none v here mentions)
same_busy idle part old one other rest (is_kept more none a p) (is_kept others also b q) = p ∙ (ap (λ z. part ∷ z) (rest more others a b) ∙ sym q)

pub busy_one : (idle : List ℕ) (old one other : List Part) → WithoutIdle idle old one → WithoutIdle idle old other → one ≡ other
busy_one idle [] one other a b = busy_nil idle one a ∙ sym (busy_nil idle other b)
busy_one idle (part ∷ old) one other a b =
    same_busy idle part old one other (λ xs ys. busy_one idle old xs ys) (busy_cons idle part old one a) (busy_cons idle part old other b)

-- numbering parts anew

data Goes (m : ℕ) (done : List Part) (part : Part) (rest out : List Part) : Type 0 where
  again : (it : Part) → NumbersInner m part it → Contains done it → Finishes m done rest out → Goes m done part rest out
  is_new : (it : Part) → NumbersInner m part it → ¬ Contains done it → Finishes m (done ++ it ∷ []) rest out → Goes m done part rest out

finish_nil : (m : ℕ) (done out : List Part) → Finishes m done [] out → out ≡ done
finish_nil m done out (Finishes.all_done d) = refl

finish_cons : (m : ℕ) (done : List Part) (part : Part) (rest out : List Part) → Finishes m done (part ∷ rest) out → Goes m done part rest out
finish_cons m done part rest out (Finishes.twice d p it r o numbers there more) = again it numbers there more
finish_cons m done part rest out (Finishes.new d p it r o numbers none more) = is_new it numbers none more

same_finish : (m : ℕ) (done : List Part) (part : Part) (rest one other : List Part)
    → ((so_far xs ys : List Part) → Finishes m so_far rest xs → Finishes m so_far rest ys → xs ≡ ys)
    → Goes m done part rest one → Goes m done part rest other → one ≡ other
same_finish m done part rest one other ih (again it a there more) (again thing b here others) = ih done one other more others
same_finish m done part rest one other ih (again it a there more) (is_new thing b none others) =
    absurd (none (subst (λ (z : Part). Contains done z) (inner_numbers_are_one m part it thing a b) there))
same_finish m done part rest one other ih (is_new thing b none others) (again it a there more) =
    absurd (none (subst (λ (z : Part). Contains done z) (inner_numbers_are_one m part it thing a b) there))
same_finish m done part rest one other ih (is_new it a none more) (is_new thing b also others) =
    ih (done ++ thing ∷ []) one other (subst (λ (z : Part). Finishes m (done ++ z ∷ []) rest one) (inner_numbers_are_one m part it thing a b) more) others

pub finish_one : (m : ℕ) (parts done one other : List Part) → Finishes m done parts one → Finishes m done parts other → one ≡ other
finish_one m [] done one other a b = finish_nil m done one a ∙ sym (finish_nil m done other b)
finish_one m (part ∷ rest) done one other a b =
    same_finish m done part rest one other (λ so_far xs ys. finish_one m rest so_far xs ys) (finish_cons m done part rest one a) (finish_cons m done part rest other b)
