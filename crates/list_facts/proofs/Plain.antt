-- What negated conjunctions come to.
use Rattle.std.specs.Prelude.{All, ◌↔◌}
use Rattle.std.proofs.Common.{ℕ, ◌+◌, List, [], ◌∷◌, refl, sym, subst, arith, inl, inr}
use Rattle.std.proofs.lemmas.List.Elements.{All-contains}
use Rattle.classical.proofs.Stable.{◌>>=◌}
use Rattle.tree_model.specs.Signatures.{Signature}
use Rattle.tree_model.specs.Valuations.{Valuation}
use Rattle.tree_facts.proofs.Members.{contains_cases}
use Rattle.flat_form.specs.declared.atom.Flat.{Flat}
use Rattle.flat_form.specs.declared.cube.Cube.{Cube}
use Rattle.flat_form.specs.Fitting.{BasicFits, CubeFits, NormFits, NormsFit}
use Rattle.flat_form.specs.Meanings.{BasicHolds, SomeHolds, NormHolds, NormsHold}
use Rattle.flat_form.specs.Normals.{Norm, Norms, norm, none, also}
use Rattle.flat_form.specs.Numbering.{BasicOver, NormOver, NormsOver}
use Rattle.flat_form.proofs.Symbols.{each_of}
use Rattle.flat_facts.proofs.Atoms.{atom_moves}
use Rattle.flat_facts.proofs.Follows.{over_below}
use Rattle.flat_facts.proofs.Lists.{holds_in, all_hold}
use Rattle.cube_facts.proofs.Raws.{basic_wider}
use Rattle.step_facts.specs.Lists.{IsPlain, PlainLists}
use Rattle.list_facts.specs.Lists.{AreRaw, AreReduced, AreRawLists, EachHolds, AndMeans, ExistsMeans, NotMeans, JoinedListsMean, ClosedMeans, PlainMeans, ClosedIsFixed}
use Rattle.list_facts.proofs.Takes.{Over, steps_mean, steps_reduced}
use Rattle.list_facts.proofs.Lists.{raw_of, and_means, and_reduced, exists_means, exists_reduced, not_means, not_reduced, joined_lists_mean, joined_lists_reduced, closed_means, closed_reduced}

module _ (σ : Signature) where
  -- the basic alone

  module _ (m : ℕ) (basic : List Flat) (over : BasicOver m basic) (fits : BasicFits σ basic) where
    abbrev alone : Cube
    alone = record { free = m; outer = 0; basic = basic; parts = [] }

    alone_all : (P : Cube → Type 0) → P alone → All P (alone ∷ [])
    alone_all P here = each_of P (alone ∷ []) (λ cube i. elim (contains_cases alone cube [] i) [
      | inl e ↦ subst P e here
      | inr empty ↦ absurd (omega (arith, empty.1))
    ])

    alone_raw : AreRaw σ m (alone ∷ [])
    alone_raw = record {
      over = alone_all (Over m) (refl, record { basic = basic_wider m (m + 0) (omega arith) basic over; parts = λ k d low. absurd (omega (arith, low)) });
      fit = alone_all (CubeFits σ) (record { basic = fits; parts = λ k d low. absurd (omega (arith, low)) });
    }

    alone_holds : (e : Valuation σ) → BasicHolds e basic → SomeHolds e (alone ∷ [])
    alone_holds e holds out = out (inl (λ not. not (e, ((λ v w path. refl), holds, tt))))

    alone_says : (e : Valuation σ) → SomeHolds e (alone ∷ []) → ¬ ¬ BasicHolds e basic
    alone_says e some refuted = do
      c ← some
      elim c [
        | inr nothing ↦ nothing
        | inl cube ↦ do
          (d, (like, holds, unit)) ← cube
          refuted (all_hold e basic (λ a i. atom_moves a d e (λ v o. like v (over_below m basic over a i v o)) (holds_in d basic a holds i)))
      ]

  mutual
    plain_means : (n : ℕ) (x : Norm) (out : List Cube) (e : Valuation σ) → NormOver n x → NormFits σ x → IsPlain n x out → SomeHolds e out ↔ NormHolds n e x
    plain_means n (norm bound basic parts) out e over fits (first, all, lists, is_first, are_plain, is_joined, is_closed) =
        let m = n + bound in
        let at_first = steps_reduced σ m _ first (alone_raw m basic over.0 fits.0) is_first in
        let at_lists = plains_raw m parts lists over.1 fits.1 are_plain in
        let at_all = joined_lists_reduced σ m lists first all at_first at_lists is_joined in
        let closed = closed_means σ n bound all out (raw_of σ m all at_all) is_closed e in (
          (λ some d like holds each. closed.0 some d like
              ((joined_lists_mean σ m lists first all d (raw_of σ m first at_first) at_lists is_joined).1 (
                (steps_mean d m _ first (alone_raw m basic over.0 fits.0) is_first).1 (alone_holds m basic over.0 fits.0 d holds),
                (plains_mean m parts lists d over.1 fits.1 are_plain).1 each,
              ))),
          (λ never. closed.1 (λ d like some.
              let both = (joined_lists_mean σ m lists first all d (raw_of σ m first at_first) at_lists is_joined).0 some in
              alone_says m basic over.0 fits.0 d ((steps_mean d m _ first (alone_raw m basic over.0 fits.0) is_first).0 both.0)
              (λ holds. never d like holds ((plains_mean m parts lists d over.1 fits.1 are_plain).0 both.1)))),
        )

    plains_mean : (n : ℕ) (xs : Norms) (lists : List (List Cube)) (e : Valuation σ) → NormsOver n xs → NormsFit σ xs → PlainLists n xs lists
        → EachHolds e lists ↔ NormsHold n e xs
    plains_mean n none lists e over fits is = (λ each. tt, λ each. subst (λ (z : List (List Cube)). EachHolds e z) (sym is) tt)
    plains_mean n (also part rest) lists e over fits (list, more, is_plain, are_plain, is) =
        let one = plain_means n part list e over.0 fits.0 is_plain in
        let others = plains_mean n rest more e over.1 fits.1 are_plain in (
          (λ each. let all = subst (λ (z : List (List Cube)). EachHolds e z) is each in (one.0 all.0, others.0 all.1)),
          (λ each. subst (λ (z : List (List Cube)). EachHolds e z) (sym is) (one.1 each.0, others.1 each.1)),
        )

    plain_reduced : (n : ℕ) (x : Norm) (out : List Cube) → NormOver n x → NormFits σ x → IsPlain n x out → AreReduced σ n out
    plain_reduced n (norm bound basic parts) out over fits (first, all, lists, is_first, are_plain, is_joined, is_closed) =
        let m = n + bound in
        let at_first = steps_reduced σ m _ first (alone_raw m basic over.0 fits.0) is_first in
        let at_lists = plains_raw m parts lists over.1 fits.1 are_plain in
        closed_reduced σ n bound all out (raw_of σ m all (joined_lists_reduced σ m lists first all at_first at_lists is_joined)) is_closed

    plains_raw : (n : ℕ) (xs : Norms) (lists : List (List Cube)) → NormsOver n xs → NormsFit σ xs → PlainLists n xs lists → AreRawLists σ n lists
    plains_raw n none lists over fits is = subst (λ (z : List (List Cube)). AreRawLists σ n z) (sym is) (λ k d low. absurd (omega (arith, low)))
    plains_raw n (also part rest) lists over fits (list, more, is_plain, are_plain, is) =
        let here : AreRaw σ n list = raw_of σ n list (plain_reduced n part list over.0 fits.0 is_plain) in
        let others = plains_raw n rest more over.1 fits.1 are_plain in
        subst (λ (z : List (List Cube)). AreRawLists σ n z) (sym is)
        (each_of (AreRaw σ n) (list ∷ more) (λ other i. elim (contains_cases list other more i) [
          | inl e ↦ subst (λ (z : List Cube). AreRaw σ n z) e here
          | inr j ↦ All-contains (AreRaw σ n) more other others j
        ]))

pub and_means_all : AndMeans
and_means_all = record {
  means = λ σ n one other out e a b is. and_means σ n one other out e a b is;
  reduced = λ σ n one other out a b is. and_reduced σ n one other out a b is;
}

pub exists_means_all : ExistsMeans
exists_means_all = record {
  means = λ σ n quantified cubes out e within are is. exists_means σ n quantified cubes out within are is e;
  reduced = λ σ n quantified cubes out within are is. exists_reduced σ n quantified cubes out within are is;
}

pub not_means_all : NotMeans
not_means_all = record {
  means = λ σ n cubes out e are reduced is. not_means σ n cubes out e are reduced is;
  reduced = λ σ n cubes out are is. not_reduced σ n cubes out are is;
}

pub joined_lists_mean_all : JoinedListsMean
joined_lists_mean_all = record {
  means = λ σ n first lists out e a b is. joined_lists_mean σ n lists first out e a b is;
  reduced = λ σ n first lists out a b is. joined_lists_reduced σ n lists first out a b is;
}

pub closed_means_all : ClosedMeans
closed_means_all = record {
  means = λ σ n bound cubes out e are is. closed_means σ n bound cubes out are is e;
  reduced = λ σ n bound cubes out are is. closed_reduced σ n bound cubes out are is;
}

pub plain_means_all : PlainMeans
plain_means_all = record {
  means = λ σ n x out e over fits is. plain_means σ n x out e over fits is;
  reduced = λ σ n x out over fits is. plain_reduced σ n x out over fits is;
}

pub closed_is_fixed : ClosedIsFixed
closed_is_fixed σ cube d e closed holds = λ out. do
  (z, (like, h, fail)) ← holds
  out (z, ((λ v w. absurd (omega (arith, w, closed))), h, fail))
