-- Parts fail where they do with their inner variables numbered by first occurrence, and each of them once.
use Rattle.std.specs.Prelude.{Contains, ◌↔◌}
use Rattle.std.proofs.Common.{ℕ, ◌≡◌, ◌+◌, ◌<◌, ◌≤◌, List, [], ◌∷◌, ◌++◌, map, sym, subst, arith, inl, inr}
use Rattle.tree_model.specs.Signatures.{Signature, Alike}
use Rattle.tree_model.specs.Valuations.{Valuation}
use Rattle.tree_facts.proofs.Members.{contains_cases}
use Rattle.tree_facts.proofs.Renumbering.{contains_map, contains_image}
use Rattle.flat_form.specs.declared.atom.Flat.{Flat}
use Rattle.flat_form.specs.declared.cube.Part.{Part}
use Rattle.flat_form.specs.Meanings.{BasicHolds, AllFail, PartFails}
use Rattle.flat_form.specs.Parts.{variables_of, renumbered}
use Rattle.flat_form.specs.Orders.{new_number}
use Rattle.flat_form.specs.Steps.{NumbersInner, Finishes}
use Rattle.flat_facts.specs.PartLaws.{Fails}
use Rattle.flat_facts.proofs.Lists.{holds_in, all_hold}
use Rattle.flat_facts.proofs.Renumbered.{renumbered_part_fails}
use Rattle.cube_facts.specs.Numbers.{old_number}
use Rattle.cube_facts.proofs.OldNumbers.{old_number_is_back}
use Rattle.cube_facts.proofs.Places.{side, number_low, number_in, number_high}
use Rattle.cube_facts.proofs.PartsMove.{both_fail, each_fail, alike_at}
use Rattle.step_facts.specs.Cleared.{FinishedFails}

-- lists with the same atoms hold together
pub same_hold : {σ : Signature} (e : Valuation σ) (xs ys : List Flat) → ((a : Flat) → Contains ys a → Contains xs a) → BasicHolds e xs → BasicHolds e ys
same_hold e xs ys from h = all_hold e ys (λ a i. holds_in e xs a h (from a i))

pub one_fails : {σ : Signature} (m : ℕ) (d : Valuation σ) (parts : List Part) (part : Part) → AllFail m d parts → Contains parts part → PartFails m d part
one_fails m d [] part all i = absurd (omega (arith, i.1))
one_fails m d (p ∷ parts) part all i = elim (contains_cases p part parts i) [
  | inl e ↦ subst (λ (z : Part). PartFails m d z) e all.0
  | inr more ↦ one_fails m d parts part all.1 more
]

module _ {σ : Signature} (m : ℕ) (d : Valuation σ) where
  module _ (part new : Part) (n : NumbersInner m part new) where
    high_stays : (v : ℕ) → m ≤ v → m ≤ new_number m (m + part.inner) n.order v
    high_stays v le = elim (side v (m + part.inner)) [
      | inl w ↦ omega (arith, number_in m (m + part.inner) n.order v le w)
      | inr s ↦ omega (arith, number_high m (m + part.inner) n.order v le s)
    ]

    inner_back : (a : Flat) → Contains part.basic a → (v : ℕ) → Contains (variables_of a) v
        → old_number m (m + part.inner) n.order (new_number m (m + part.inner) n.order v) ≡ v
    inner_back a i v o = old_number_is_back m (m + part.inner) n.order v (omega arith) (elim (side v m) [
      | inl w ↦ inl w
      | inr le ↦ elim (side v (m + part.inner)) [
        | inl w ↦ inr (inr (le, w, (n.order_is v).1 (le, (a, i, o))))
        | inr s ↦ inr (inl s)
      ]
    ])

    low_stays : (v : ℕ) → v < m → (new_number m (m + part.inner) n.order v < m) × Alike (d v) (d (new_number m (m + part.inner) n.order v))
    low_stays v w =
        let e = number_low m (m + part.inner) n.order v w in
        (omega (arith, e, w), alike_at d v (new_number m (m + part.inner) n.order v) (sym e))

    renumbered_inner : Fails m d part.basic ↔ Fails m d (map (renumbered (new_number m (m + part.inner) n.order)) part.basic)
    renumbered_inner = renumbered_part_fails σ m m (new_number m (m + part.inner) n.order) (old_number m (m + part.inner) n.order) part.basic d d inner_back
        (λ a i v o w. low_stays v w) (λ a i v o le. high_stays v le)

    in_image : (a : Flat) → Contains new.basic a → Contains (map (renumbered (new_number m (m + part.inner) n.order)) part.basic) a
    in_image a i =
        let (b, j, u, e) = (n.basic_is.is a).0 i in
        subst (Contains (map (renumbered (new_number m (m + part.inner) n.order)) part.basic)) (sym e)
        (contains_map (renumbered (new_number m (m + part.inner) n.order)) part.basic b j)

    from_image : (a : Flat) → Contains (map (renumbered (new_number m (m + part.inner) n.order)) part.basic) a → Contains new.basic a
    from_image a i =
        let (b, j, e) = contains_image (renumbered (new_number m (m + part.inner) n.order)) part.basic a i in
        (n.basic_is.is a).1 (b, j, tt, sym e)

    pub numbered_fails : PartFails m d part → PartFails m d new
    numbered_fails fails z like = λ h. renumbered_inner.0 fails z like (same_hold z new.basic _ from_image h)

    pub fails_numbered : PartFails m d new → PartFails m d part
    fails_numbered fails = renumbered_inner.1 (λ z like h. fails z like (same_hold z _ new.basic in_image h))

  finish_there : (done parts out : List Part) → Finishes m done parts out → AllFail m d done → AllFail m d parts → AllFail m d out
  finish_there done parts out (Finishes.all_done all) a b = a
  finish_there done parts out (Finishes.twice all part it rest end numbers there more) a b = finish_there all rest end more a b.1
  finish_there done parts out (Finishes.new all part it rest end numbers none more) a b =
      finish_there (all ++ it ∷ []) rest end more (both_fail m d all (it ∷ []) a (numbered_fails part it numbers b.0, tt)) b.1

  finish_back : (done parts out : List Part) → Finishes m done parts out → AllFail m d out → AllFail m d done × AllFail m d parts
  finish_back done parts out (Finishes.all_done all) a = (a, tt)
  finish_back done parts out (Finishes.twice all part it rest end numbers there more) a =
      let both = finish_back all rest end more a in
      (both.0, (fails_numbered part it numbers (one_fails m d all it both.0 there), both.1))
  finish_back done parts out (Finishes.new all part it rest end numbers none more) a =
      let both = finish_back (all ++ it ∷ []) rest end more a in
      let front = each_fail m d all (it ∷ []) both.0 in
      (front.0, (fails_numbered part it numbers front.1.0, both.1))

pub finished_fails : FinishedFails
finished_fails σ m old new d finishes = (
  λ all. finish_there m d [] old new finishes tt all,
  λ all. (finish_back m d [] old new finishes all).1,
)
