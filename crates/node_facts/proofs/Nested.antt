-- Nested lists: what they mean, their shape and symbols, and that there is one.
use Rattle.std.specs.Prelude.{Contains, All, flat_map, ◌↔◌}
use Rattle.std.proofs.Common.{ℕ, ◌≡◌, ◌+◌, List, [], ◌∷◌, ◌++◌, sym, ap, ◌∙◌, subst, arith}
use Rattle.std.proofs.lemmas.List.Elements.{All-append, All-cons, All-nil}
use Rattle.lists.specs.Distinct.{IsDistinct}
use Rattle.tree_model.specs.Signatures.{Signature}
use Rattle.tree_model.specs.Valuations.{Valuation}
use Rattle.flat_form.specs.declared.atom.Flat.{Flat}
use Rattle.flat_form.specs.declared.cube.Cube.{Cube}
use Rattle.flat_form.specs.Fitting.{AtomFits, BasicFits, NormFits, NormsFit}
use Rattle.flat_form.specs.Meanings.{Extends, BasicHolds, SomeHolds, NormHolds, NormsHold}
use Rattle.flat_form.specs.Normals.{Norm, Norms, norm, none, also}
use Rattle.flat_form.specs.Numbering.{AtomOver, BasicOver, NormOver, NormsOver}
use Rattle.flat_form.specs.Symbols.{basic_symbols, cubes_symbols, norm_symbols, norms_symbols, CubesFit}
use Rattle.flat_form.proofs.Symbols.{fits_by_symbols}
use Rattle.flat_facts.proofs.Lists.{both_hold}
use Rattle.cube_facts.proofs.Raws.{basic_wider}
use Rattle.list_facts.specs.Lists.{AreRaw, AreReduced, AreRawLists, EachHolds}
use Rattle.list_facts.proofs.Lists.{raw_of}
use Rattle.list_facts.proofs.Plain.{plain_means_all}
use Rattle.list_facts.proofs.OneList.{lists_are_one}
use Rattle.list_facts.proofs.Symbols.{lists_have_symbols}
use Rattle.node_facts.specs.Nested.{IsClosedUnder, IsNested, NestedLists}
use Rattle.node_facts.specs.NestedLaws.{NestedMeans, NestedShape, NestedIsOne}
use Rattle.node_facts.proofs.Beside.{holds_on}
use Rattle.node_facts.proofs.ClosedUnder.{under_reduced, under_means, under_distinct, under_symbols, under_one, closed_distinct}
use Rattle.node_facts.proofs.Fitting.{Within, within_trans, within_left, within_right, within_both, fit_within}

pub round_and_own : (n bound : ℕ) (round basic : List Flat) → BasicOver n round → BasicOver (n + bound) basic → BasicOver (n + bound) (round ++ basic)
round_and_own n bound round basic a b = All-append (AtomOver (n + bound)) round basic (basic_wider n (n + bound) (omega arith) round a) b

module _ (σ : Signature) where
  mutual
    pub nested_reduced : (n : ℕ) (round : List Flat) (x : Norm) (out : List Cube) → NormOver n x → NormFits σ x → IsNested n round x out → AreReduced σ n out
    nested_reduced n round (norm bound basic none) out over fits is = plain_means_all.reduced σ n (norm bound basic none) out over fits is
    nested_reduced n round (norm bound basic (also part parts)) out over fits (lists, are, is) =
        under_reduced σ n round bound basic lists out over.0 fits.0 (nesteds_raw (n + bound) (round ++ basic) (also part parts) lists over.1 fits.1 are) is

    pub nesteds_raw : (n : ℕ) (round : List Flat) (xs : Norms) (lists : List (List Cube)) → NormsOver n xs → NormsFit σ xs → NestedLists n round xs lists
        → AreRawLists σ n lists
    nesteds_raw n round none lists over fits is = subst (λ (z : List (List Cube)). AreRawLists σ n z) (sym is) (All-nil (AreRaw σ n))
    nesteds_raw n round (also part rest) lists over fits (list, more, is, are, same) =
        subst (λ (z : List (List Cube)). AreRawLists σ n z) (sym same)
        (All-cons (AreRaw σ n) list more (raw_of σ n list (nested_reduced n round part list over.0 fits.0 is)) (nesteds_raw n round rest more over.1 fits.1 are))

  mutual
    pub nested_means : (n : ℕ) (round : List Flat) (x : Norm) (out : List Cube) (e : Valuation σ) → NormOver n x → BasicOver n round → NormFits σ x
        → BasicFits σ round → IsNested n round x out → BasicHolds e round → SomeHolds e out ↔ NormHolds n e x
    nested_means n round (norm bound basic none) out e over at_round fits r is holds = plain_means_all.means σ n (norm bound basic none) out e over fits is
    nested_means n round (norm bound basic (also part parts)) out e over at_round fits r (lists, are, is) holds =
        let m = n + bound in
        let at_lists = nesteds_raw m (round ++ basic) (also part parts) lists over.1 fits.1 are in
        let under = under_means σ n round bound basic lists out over.0 fits.0 at_lists at_round r e holds is in
        let inside : (d : Valuation σ) → Extends n e d → BasicHolds d basic → EachHolds d lists ↔ NormsHold m d (also part parts) =
        λ d like h. nesteds_mean m (round ++ basic) (also part parts) lists d over.1 (round_and_own n bound round basic at_round over.0) fits.1
        (All-append (AtomFits σ) round basic r fits.0) are (both_hold d round basic (holds_on n round e d at_round like holds) h) in (
          (λ some d like h each. under.0 some d like h ((inside d like h).1 each)),
          (λ never. under.1 (λ d like h each. never d like h ((inside d like h).0 each))),
        )

    pub nesteds_mean : (n : ℕ) (round : List Flat) (xs : Norms) (lists : List (List Cube)) (e : Valuation σ) → NormsOver n xs → BasicOver n round
        → NormsFit σ xs → BasicFits σ round → NestedLists n round xs lists → BasicHolds e round → EachHolds e lists ↔ NormsHold n e xs
    nesteds_mean n round none lists e over at_round fits r is holds = (λ each. tt, λ each. subst (λ (z : List (List Cube)). EachHolds e z) (sym is) tt)
    nesteds_mean n round (also part rest) lists e over at_round fits r (list, more, is, are, same) holds =
        let one = nested_means n round part list e over.0 at_round fits.0 r is holds in
        let others = nesteds_mean n round rest more e over.1 at_round fits.1 r are holds in (
          (λ each. let all = subst (λ (z : List (List Cube)). EachHolds e z) same each in (one.0 all.0, others.0 all.1)),
          (λ each. subst (λ (z : List (List Cube)). EachHolds e z) (sym same) (one.1 each.0, others.1 each.1)),
        )

pub nested_distinct : (n : ℕ) (round : List Flat) (x : Norm) (out : List Cube) → IsNested n round x out → IsDistinct out
nested_distinct n round (norm bound basic none) out (first, all, lists, is_first, are, is_joined, is_closed) = closed_distinct n bound all out is_closed
nested_distinct n round (norm bound basic (also part parts)) out (lists, are, is) = under_distinct n round bound basic lists out is

mutual
  pub nested_symbols : (n : ℕ) (round : List Flat) (x : Norm) (out : List Cube) → IsNested n round x out → Within (norm_symbols x) (cubes_symbols out)
  nested_symbols n round (norm bound basic none) out is = lists_have_symbols.plain n (norm bound basic none) out is
  nested_symbols n round (norm bound basic (also part parts)) out (lists, are, is) =
      let here = basic_symbols basic in
      let inner = norms_symbols (also part parts) in
      let at_lists = nesteds_symbols (n + bound) (round ++ basic) (also part parts) lists are in
      within_trans (here ++ inner) (here ++ flat_map cubes_symbols lists) (cubes_symbols out)
      (within_both (here ++ inner) here (flat_map cubes_symbols lists) (within_left here inner)
      (within_trans (here ++ inner) inner (flat_map cubes_symbols lists) (within_right here inner) at_lists))
      (under_symbols n round bound basic lists out is)

  pub nesteds_symbols : (n : ℕ) (round : List Flat) (xs : Norms) (lists : List (List Cube)) → NestedLists n round xs lists
      → Within (norms_symbols xs) (flat_map cubes_symbols lists)
  nesteds_symbols n round none lists is =
      subst (λ (z : List (List Cube)). Within [] (flat_map cubes_symbols z)) (sym is) (All-nil (Contains (norms_symbols none)))
  nesteds_symbols n round (also part rest) lists (list, more, is, are, same) =
      let here = norm_symbols part in
      let later = norms_symbols rest in
      subst (λ (z : List (List Cube)). Within (here ++ later) (flat_map cubes_symbols z)) (sym same)
      (within_both (here ++ later) (cubes_symbols list) (flat_map cubes_symbols more)
      (within_trans (here ++ later) here (cubes_symbols list) (within_left here later) (nested_symbols n round part list is))
      (within_trans (here ++ later) later (flat_map cubes_symbols more) (within_right here later) (nesteds_symbols n round rest more are)))

module _ (σ : Signature) where
  pub nested_fits : (n : ℕ) (round : List Flat) (x : Norm) (out : List Cube) → NormFits σ x → IsNested n round x out → CubesFit σ out
  nested_fits n round x out fits is = fit_within σ (norm_symbols x) out (nested_symbols n round x out is) ((fits_by_symbols.norm σ x).0 fits)

  nesteds_fit : (n : ℕ) (round : List Flat) (xs : Norms) (lists : List (List Cube)) → NormsFit σ xs → NestedLists n round xs lists → All (CubesFit σ) lists
  nesteds_fit n round none lists fits is = subst (λ (z : List (List Cube)). All (CubesFit σ) z) (sym is) (All-nil (CubesFit σ))
  nesteds_fit n round (also part rest) lists fits (list, more, is, are, same) =
      subst (λ (z : List (List Cube)). All (CubesFit σ) z) (sym same)
      (All-cons (CubesFit σ) list more (nested_fits n round part list fits.0 is) (nesteds_fit n round rest more fits.1 are))

  mutual
    pub nested_one : (n : ℕ) (round : List Flat) (x : Norm) (one other : List Cube) → NormFits σ x → BasicFits σ round → IsNested n round x one
        → IsNested n round x other → one ≡ other
    nested_one n round (norm bound basic none) one other fits r a b = lists_are_one.plain σ n (norm bound basic none) one other fits a b
    nested_one n round (norm bound basic (also part parts)) one other fits r (lists, are, is) (also_lists, also_are, also_is) =
        let m = n + bound in
        let same : lists ≡ also_lists = nesteds_one m (round ++ basic) (also part parts) lists also_lists fits.1 (All-append (AtomFits σ) round basic r fits.0) are also_are in
        under_one σ n round bound basic also_lists one other fits.0 r (nesteds_fit m (round ++ basic) (also part parts) also_lists fits.1 also_are)
        (subst (λ (z : List (List Cube)). IsClosedUnder n round bound basic z one) same is) also_is

    pub nesteds_one : (n : ℕ) (round : List Flat) (xs : Norms) (one other : List (List Cube)) → NormsFit σ xs → BasicFits σ round → NestedLists n round xs one
        → NestedLists n round xs other → one ≡ other
    nesteds_one n round none one other fits r a b = a ∙ sym b
    nesteds_one n round (also part rest) one other fits r (list, more, is, are, same) (also_list, further, also_is, also_are, also_same) =
        same ∙ (ap (λ z. z ∷ more) (nested_one n round part list also_list fits.0 r is also_is)
        ∙ (ap (λ z. also_list ∷ z) (nesteds_one n round rest more further fits.1 r are also_are) ∙ sym also_same))

pub nested_mean : NestedMeans
nested_mean σ n round x out e over at_round fits r is holds = nested_means σ n round x out e over at_round fits r is holds

pub nested_shape : NestedShape
nested_shape = record { distinct = nested_distinct; reduced = nested_reduced; symbols = nested_symbols }

pub nested_is_one : NestedIsOne
nested_is_one σ n round x one other fits r a b = nested_one σ n round x one other fits r a b
