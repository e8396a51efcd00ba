-- What lists of parts come to, under the atoms round.
use Rattle.std.specs.Prelude.{All, flat_map, ◌↔◌}
use Rattle.std.proofs.Common.{ℕ, ◌≡◌, ◌+◌, List, [], ◌∷◌, ◌++◌, sym, ◌∙◌, subst, arith}
use Rattle.std.proofs.lemmas.List.{append-nil}
use Rattle.std.proofs.lemmas.List.Elements.{All-append, All-head, All-tail}
use Rattle.lists.specs.Distinct.{IsDistinct}
use Rattle.tree_model.specs.declared.tree.Symbol.{Symbol}
use Rattle.tree_model.specs.Signatures.{Signature, IsRoot}
use Rattle.tree_model.specs.Valuations.{Valuation}
use Rattle.flat_form.specs.declared.atom.Flat.{Flat}
use Rattle.flat_form.specs.declared.cube.Cube.{Cube}
use Rattle.flat_form.specs.Fitting.{BasicFits}
use Rattle.flat_form.specs.Meanings.{Extends, BasicHolds, SomeHolds}
use Rattle.flat_form.specs.Numbering.{BasicOver}
use Rattle.flat_form.specs.Symbols.{basic_symbols, cubes_symbols, CubesFit}
use Rattle.flat_form.proofs.Symbols.{fits_by_symbols}
use Rattle.cube_facts.proofs.Raws.{basic_wider}
use Rattle.step_facts.specs.Lists.{IsNot, DeniesEach, IsFirst, IsJoined, IsClosed}
use Rattle.list_facts.specs.Lists.{AreReduced, AreRawLists, EachHolds}
use Rattle.list_facts.proofs.Takes.{takes_distinct}
use Rattle.list_facts.proofs.Lists.{raw_of}
use Rattle.list_facts.proofs.Plain.{joined_lists_mean_all, closed_means_all}
use Rattle.list_facts.proofs.OneList.{lists_are_one}
use Rattle.list_facts.proofs.Symbols.{lists_have_symbols}
use Rattle.node_facts.specs.Nested.{HoldsWith, Keeps, IsClosedUnder}
use Rattle.node_facts.proofs.Beside.{holds_on}
use Rattle.node_facts.proofs.First.{alone, alone_fits, first_reduced, first_means}
use Rattle.node_facts.proofs.Fitting.{Within, within_trans, within_left, within_right, within_both, within_each, within_one, roots_of, fit_within, roots_of_lists}
use Rattle.node_facts.proofs.Kept.{kept_among, kept_distinct, kept_reduced, kept_means, kept_together, kept_one}

module _ (σ : Signature) (n : ℕ) (round : List Flat) (bound : ℕ) (basic : List Flat) (lists : List (List Cube)) (out : List Cube)
    (basic_over : BasicOver (n + bound) basic) (basic_fits : BasicFits σ basic) (at_lists : AreRawLists σ (n + bound) lists) where
  abbrev m : ℕ
  m = n + bound

  all_reduced : (first all : List Cube) → IsFirst n bound basic first → IsJoined first lists all → AreReduced σ m all
  all_reduced first all is_first is_joined =
      joined_lists_mean_all.reduced σ m first lists all (first_reduced σ m basic basic_over basic_fits first is_first) at_lists is_joined

  closed_from : (all kept closed : List Cube) → AreReduced σ m all → Keeps round all kept → IsClosed n bound kept closed → AreReduced σ n closed
  closed_from all kept closed at_all is_kept is_closed =
      closed_means_all.reduced σ n bound kept closed (raw_of σ m kept (kept_reduced σ m round all kept is_kept at_all)) is_closed

  pub under_reduced : IsClosedUnder n round bound basic lists out → AreReduced σ n out
  under_reduced (first, all, kept, closed, is_first, is_joined, is_kept, is_closed, is_open) =
      kept_reduced σ n round closed out is_open (closed_from all kept closed (all_reduced first all is_first is_joined) is_kept is_closed)

  module _ (round_over : BasicOver n round) (round_fits : BasicFits σ round) where
    round_inside : BasicOver m round
    round_inside = basic_wider n m (omega arith) round round_over

    -- where the atoms round hold, no values of the bound variables make the own atoms and a cube of each list hold
    pub under_means : (e : Valuation σ) → BasicHolds e round → IsClosedUnder n round bound basic lists out
        → SomeHolds e out ↔ ((d : Valuation σ) → Extends n e d → BasicHolds d basic → ¬ EachHolds d lists)
    under_means e holds (first, all, kept, closed, is_first, is_joined, is_kept, is_closed, is_open) =
        let at_first = raw_of σ m first (first_reduced σ m basic basic_over basic_fits first is_first) in
        let at_all = all_reduced first all is_first is_joined in
        let at_kept = raw_of σ m kept (kept_reduced σ m round all kept is_kept at_all) in
        let at_closed = raw_of σ n closed (closed_from all kept closed at_all is_kept is_closed) in
        let last = kept_means σ n round closed out at_closed round_over round_fits is_open e holds in
        let close = closed_means_all.means σ n bound kept closed e at_kept is_closed in
        let first_holds = λ (d : Valuation σ). first_means σ m basic basic_over basic_fits first d is_first in
        let join = λ (d : Valuation σ). joined_lists_mean_all.means σ m first lists all d at_first at_lists is_joined in
        let keep = λ (d : Valuation σ) (like : Extends n e d).
        kept_means σ m round all kept (raw_of σ m all at_all) round_inside round_fits is_kept d (holds_on n round e d round_over like holds) in (
          (λ some d like h each. close.0 (last.0 some) d like ((keep d like).1 ((join d).1 ((first_holds d).1 h, each)))),
          (λ never. last.1 (close.1 (λ d like some.
              let both = (join d).0 ((keep d like).0 some) in never d like ((first_holds d).0 both.0) both.1))),
        )

    -- each cube holds together with the atoms round
    pub under_together : IsClosedUnder n round bound basic lists out → All (HoldsWith σ round) out
    under_together (first, all, kept, closed, is_first, is_joined, is_kept, is_closed, is_open) =
        kept_together σ n round closed out (raw_of σ n closed (closed_from all kept closed (all_reduced first all is_first is_joined) is_kept is_closed))
        round_over round_fits is_open

-- distinct, whatever the lists

denies_distinct : (cubes so_far out : List Cube) → IsDistinct so_far → DeniesEach so_far cubes out → IsDistinct out
denies_distinct [] so_far out distinct is = subst (λ (z : List Cube). IsDistinct z) (sym is) distinct
denies_distinct (cube ∷ rest) so_far out distinct (negation, next, takes, both, more) =
    denies_distinct rest next out (takes_distinct [] _ next both tt) more

pub closed_distinct : (n bound : ℕ) (cubes out : List Cube) → IsClosed n bound cubes out → IsDistinct out
closed_distinct n bound cubes out (shut, is_shut, denies) = denies_distinct shut (alone n [] ∷ []) out ((λ i. omega (arith, i.1)), tt) denies

pub under_distinct : (n : ℕ) (round : List Flat) (bound : ℕ) (basic : List Flat) (lists : List (List Cube)) (out : List Cube)
    → IsClosedUnder n round bound basic lists out → IsDistinct out
under_distinct n round bound basic lists out (first, all, kept, closed, is_first, is_joined, is_kept, is_closed, is_open) =
    kept_distinct round closed out is_open (closed_distinct n bound kept closed is_closed)

-- symbols

pub kept_symbols : (atoms : List Flat) (cubes out : List Cube) → Keeps atoms cubes out → Within (cubes_symbols cubes) (cubes_symbols out)
kept_symbols atoms cubes out is = within_each (cubes_symbols cubes) out (λ cube i. within_one cubes cube (kept_among atoms cubes out cube is i))

pub first_symbols : (n bound : ℕ) (basic : List Flat) (first : List Cube) → IsFirst n bound basic first → Within (basic_symbols basic) (cubes_symbols first)
first_symbols n bound basic first is =
    subst (λ (z : List (Symbol × ℕ)). Within z (cubes_symbols first)) (append-nil (basic_symbols basic ++ []) ∙ append-nil (basic_symbols basic))
    (lists_have_symbols.steps (alone (n + bound) basic ∷ []) first is)

pub under_symbols : (n : ℕ) (round : List Flat) (bound : ℕ) (basic : List Flat) (lists : List (List Cube)) (out : List Cube)
    → IsClosedUnder n round bound basic lists out → Within (basic_symbols basic ++ flat_map cubes_symbols lists) (cubes_symbols out)
under_symbols n round bound basic lists out (first, all, kept, closed, is_first, is_joined, is_kept, is_closed, is_open) =
    let here = basic_symbols basic in
    let inner = flat_map cubes_symbols lists in
    let at_first : Within here (cubes_symbols first) = first_symbols n bound basic first is_first in
    let at_both = within_both (here ++ inner) (cubes_symbols first) inner (within_trans (here ++ inner) here (cubes_symbols first) (within_left here inner) at_first) (within_right here inner) in
    let at_all = within_trans (here ++ inner) (cubes_symbols first ++ inner) (cubes_symbols all) at_both (lists_have_symbols.joined first lists all is_joined) in
    let at_kept = within_trans (here ++ inner) (cubes_symbols all) (cubes_symbols kept) at_all (kept_symbols round all kept is_kept) in
    let at_closed = within_trans (here ++ inner) (cubes_symbols kept) (cubes_symbols closed) at_kept (lists_have_symbols.closed n bound kept closed is_closed) in
    within_trans (here ++ inner) (cubes_symbols closed) (cubes_symbols out) at_closed (kept_symbols round closed out is_open)

-- one list only

module _ (σ : Signature) where
  joined_one : (lists : List (List Cube)) (so_far one other : List Cube) → CubesFit σ so_far → All (CubesFit σ) lists → IsJoined so_far lists one
      → IsJoined so_far lists other → one ≡ other
  joined_one [] so_far one other f g a b = a ∙ sym b
  joined_one (list ∷ lists) so_far one other f g (next, both, more) (also_next, also_both, others) =
      let h = All-head (CubesFit σ) list lists g in
      let same : next ≡ also_next = lists_are_one.both σ so_far list next also_next f h both also_both in
      let fit = fit_within σ (cubes_symbols so_far ++ cubes_symbols list) also_next (lists_have_symbols.both so_far list also_next also_both)
      (All-append (λ (p : Symbol × ℕ). IsRoot σ p.0 p.1) (cubes_symbols so_far) (cubes_symbols list) (roots_of σ so_far f) (roots_of σ list h)) in
      joined_one lists also_next one other fit (All-tail (CubesFit σ) list lists g) (subst (λ (z : List Cube). IsJoined z lists one) same more) others

  closed_one : (n bound : ℕ) (cubes one other : List Cube) → CubesFit σ cubes → IsClosed n bound cubes one → IsClosed n bound cubes other → one ≡ other
  closed_one n bound cubes one other f (shut, is_shut, denies) (also_shut, also_is, also_denies) =
      let same : shut ≡ also_shut = lists_are_one.some σ bound cubes shut also_shut f is_shut also_is in
      lists_are_one.none σ n also_shut one other (fit_within σ (cubes_symbols cubes) also_shut (lists_have_symbols.some bound cubes also_shut also_is) (roots_of σ cubes f))
      (subst (λ (z : List Cube). IsNot n z one) same denies) also_denies

  pub under_one : (n : ℕ) (round : List Flat) (bound : ℕ) (basic : List Flat) (lists : List (List Cube)) (one other : List Cube) → BasicFits σ basic
      → BasicFits σ round → All (CubesFit σ) lists → IsClosedUnder n round bound basic lists one → IsClosedUnder n round bound basic lists other → one ≡ other
  under_one n round bound basic lists one other f r g
      (first, all, kept, closed, is_first, is_joined, is_kept, is_closed, is_open)
      (first2, all2, kept2, closed2, is_first2, is_joined2, is_kept2, is_closed2, is_open2) =
      let roots = (fits_by_symbols.basic σ basic).0 f in
      let same_first : first ≡ first2 = lists_are_one.steps σ (alone (n + bound) basic ∷ []) first first2 (alone_fits σ (n + bound) basic f) is_first is_first2 in
      let fit_first = fit_within σ (basic_symbols basic) first2 (first_symbols n bound basic first2 is_first2) roots in
      let same_all : all ≡ all2 = joined_one lists first2 all all2 fit_first g (subst (λ (z : List Cube). IsJoined z lists all) same_first is_joined) is_joined2 in
      let fit_all = fit_within σ (cubes_symbols first2 ++ flat_map cubes_symbols lists) all2 (lists_have_symbols.joined first2 lists all2 is_joined2)
      (All-append (λ (p : Symbol × ℕ). IsRoot σ p.0 p.1) (cubes_symbols first2) (flat_map cubes_symbols lists) (roots_of σ first2 fit_first) (roots_of_lists σ lists g)) in
      let same_kept : kept ≡ kept2 = kept_one σ round r all2 kept kept2 fit_all (subst (λ (z : List Cube). Keeps round z kept) same_all is_kept) is_kept2 in
      let fit_kept = fit_within σ (cubes_symbols all2) kept2 (kept_symbols round all2 kept2 is_kept2) (roots_of σ all2 fit_all) in
      let same_closed : closed ≡ closed2 = closed_one n bound kept2 closed closed2 fit_kept (subst (λ (z : List Cube). IsClosed n bound z closed) same_kept is_closed) is_closed2 in
      let fit_closed = fit_within σ (cubes_symbols kept2) closed2 (lists_have_symbols.closed n bound kept2 closed2 is_closed2) (roots_of σ kept2 fit_kept) in
      kept_one σ round r closed2 one other fit_closed (subst (λ (z : List Cube). Keeps round z one) same_closed is_open) is_open2
