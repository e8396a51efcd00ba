-- Lists of cubes come to lists with no other symbols.
use Rattle.std.specs.Prelude.{Contains, All, flat_map}
use Rattle.std.proofs.Common.{ℕ, ◌+◌, List, [], ◌∷◌, ◌++◌, map, sym, subst, arith, inl, inr}
use Rattle.std.proofs.lemmas.List.Elements.{All-contains, Contains-append_left, Contains-append_right}
use Rattle.tree_model.specs.declared.tree.Symbol.{Symbol}
use Rattle.tree_facts.proofs.Members.{contains_first, contains_later, contains_cases}
use Rattle.tree_facts.proofs.Renumbering.{contains_image}
use Rattle.flat_form.specs.declared.atom.Flat.{Flat}
use Rattle.flat_form.specs.declared.cube.Cube.{Cube}
use Rattle.flat_form.specs.Normals.{Norm, Norms, norm, none, also}
use Rattle.flat_form.specs.Symbols.{basic_symbols, cube_symbols, cubes_symbols, norm_symbols, norms_symbols}
use Rattle.flat_form.specs.Raws.{joined, opened, denied}
use Rattle.flat_form.proofs.Symbols.{Fit, IsFit, each_of, flat_in, flat_from, basic_of_all, all_of_cube, cube_of_all}
use Rattle.cube_facts.proofs.Raws.{joined_fit, opened_fit, lone_fit, denied_fit}
use Rattle.step_facts.specs.Lists.{TakesSteps, KeepsFirst, IsAnd, DeniesEach, IsNot, IsExists, IsJoined, IsClosed, IsPlain, PlainLists}
use Rattle.step_facts.proofs.StepFits.{outcome_fit}
use Rattle.list_facts.specs.Symbols.{ListsHaveSymbols}
use Rattle.list_facts.proofs.Takes.{comes_from}
use Rattle.list_facts.proofs.Lists.{or_from, pair_from}

module _ (Q : Symbol → ℕ → Type 0) where
  abbrev At : Symbol × ℕ → Type 0
  At p = Q p.0 p.1

  record AllFit (cubes : List Cube) : Type 0 where
    each : (cube : Cube) → Contains cubes cube → IsFit Q cube

  takes_fit : (raws out : List Cube) → AllFit raws → TakesSteps [] raws out → AllFit out
  takes_fit raws out f takes = record {
    each = λ cube i. elim (comes_from [] raws out takes cube i) [
      | inl j ↦ absurd (omega (arith, j.1))
      | inr from ↦ outcome_fit Q from.raw cube (f.each from.raw from.stands) from.outcome
    ];
  }

  and_fit : (left right out : List Cube) → AllFit left → AllFit right → IsAnd left right out → AllFit out
  and_fit left right out f g is = takes_fit (flat_map (λ one. map (joined one) right) left) out (record {
    each = λ raw i.
        let pair = pair_from left right raw i in
        subst (λ (z : Cube). IsFit Q z) pair.is (joined_fit Q pair.one pair.other (f.each pair.one pair.here) (g.each pair.other pair.there));
  }) is

  or_fit : (left right out : List Cube) → AllFit left → AllFit right → KeepsFirst [] (left ++ right) out → AllFit out
  or_fit left right out f g is = record {
    each = λ cube i. elim (or_from left right out is cube i) [
      | inl j ↦ f.each cube j
      | inr j ↦ g.each cube j
    ];
  }

  exists_fit : (quantified : ℕ) (cubes out : List Cube) → AllFit cubes → IsExists quantified cubes out → AllFit out
  exists_fit quantified cubes out f is = takes_fit (map (opened quantified) cubes) out (record {
    each = λ raw i.
        let (cube, stands, same) = contains_image (opened quantified) cubes raw i in
        subst (λ (z : Cube). IsFit Q z) same (opened_fit Q quantified cube (f.each cube stands));
  }) is

  tail_fit : (cube : Cube) (rest : List Cube) → AllFit (cube ∷ rest) → AllFit rest
  tail_fit cube rest f = record { each = λ other i. f.each other (contains_later cube other rest i) }

  denies_fit : (cubes so_far out : List Cube) → AllFit so_far → AllFit cubes → DeniesEach so_far cubes out → AllFit out
  denies_fit [] so_far out f g is = subst (λ (z : List Cube). AllFit z) (sym is) f
  denies_fit (cube ∷ rest) so_far out f g (negation, next, takes, both, more) =
      let negated = takes_fit (denied cube) negation
      (record { each = λ raw i. denied_fit Q cube raw (g.each cube (contains_first cube rest)) i }) takes in
      denies_fit rest next out (and_fit so_far negation next f negated both) (tail_fit cube rest g) more

  one_fit : (n : ℕ) (basic : List Flat) → Fit Q basic → AllFit (record { free = n; outer = 0; basic = basic; parts = [] } ∷ [])
  one_fit n basic f = record {
    each = λ cube i. elim (contains_cases (let it : Cube = record { free = n; outer = 0; basic = basic; parts = [] } in it) cube [] i) [
      | inl e ↦ subst (λ (z : Cube). IsFit Q z) e (lone_fit Q n 0 basic f)
      | inr empty ↦ absurd (omega (arith, empty.1))
    ];
  }

  not_fit : (n : ℕ) (cubes out : List Cube) → AllFit cubes → IsNot n cubes out → AllFit out
  not_fit n cubes out f is = denies_fit cubes (record { free = n; outer = 0; basic = []; parts = [] } ∷ []) out
      (one_fit n [] (record { each = λ u symbol xs i. absurd (omega (arith, i.1)) })) f is

  record ListsFit (lists : List (List Cube)) : Type 0 where
    each : (list : List Cube) → Contains lists list → AllFit list

  lists_fit : (lists : List (List Cube)) (first out : List Cube) → AllFit first → ListsFit lists → IsJoined first lists out → AllFit out
  lists_fit [] first out f g is = subst (λ (z : List Cube). AllFit z) (sym is) f
  lists_fit (list ∷ lists) first out f g (next, both, more) =
      lists_fit lists next out (and_fit first list next f (g.each list (contains_first list lists)) both)
      (record { each = λ other i. g.each other (contains_later list other lists i) }) more

  closed_fit : (n bound : ℕ) (cubes out : List Cube) → AllFit cubes → IsClosed n bound cubes out → AllFit out
  closed_fit n bound cubes out f (shut, exists, denies) = not_fit n shut out (exists_fit bound cubes shut f exists) denies

  mutual
    plain_fit : (n : ℕ) (x : Norm) (out : List Cube) → ((p : Symbol × ℕ) → Contains (norm_symbols x) p → At p) → IsPlain n x out → AllFit out
    plain_fit n (norm bound basic parts) out each (first, all, lists, is_first, are_plain, is_joined, is_closed) =
        let at_basic = basic_of_all Q basic (λ p i. each p (Contains-append_left (basic_symbols basic) (norms_symbols parts) p i)) in
        closed_fit n bound all out
        (lists_fit lists first all (takes_fit _ first (one_fit (n + bound) basic at_basic) is_first)
        (plains_fit (n + bound) parts lists (λ p i. each p (Contains-append_right (basic_symbols basic) (norms_symbols parts) p i)) are_plain) is_joined) is_closed

    plains_fit : (n : ℕ) (xs : Norms) (lists : List (List Cube)) → ((p : Symbol × ℕ) → Contains (norms_symbols xs) p → At p) → PlainLists n xs lists
        → ListsFit lists
    plains_fit n none lists each is = subst (λ (z : List (List Cube)). ListsFit z) (sym is) (record { each = λ list i. absurd (omega (arith, i.1)) })
    plains_fit n (also part rest) lists each (list, more, is_plain, are_plain, is) =
        let here = plain_fit n part list (λ p i. each p (Contains-append_left (norm_symbols part) (norms_symbols rest) p i)) is_plain in
        let others = plains_fit n rest more (λ p i. each p (Contains-append_right (norm_symbols part) (norms_symbols rest) p i)) are_plain in
        subst (λ (z : List (List Cube)). ListsFit z) (sym is) (record {
          each = λ other i. elim (contains_cases list other more i) [
            | inl e ↦ subst (λ (z : List Cube). AllFit z) e here
            | inr j ↦ others.each other j
          ];
        })

-- symbols of a list of symbols
module _ (symbols : List (Symbol × ℕ)) where
  Among : Symbol → ℕ → Type 0
  Among symbol n = Contains symbols (symbol, n)

  of_symbols : (cubes : List Cube) → ((p : Symbol × ℕ) → Contains (cubes_symbols cubes) p → Contains symbols p) → AllFit Among cubes
  unfolding Among
  of_symbols cubes each = record {
    each = λ cube stands. cube_of_all Among cube (λ p i. each p (flat_in cube_symbols cubes cube p stands i));
  }

  to_symbols : (out : List Cube) → AllFit Among out → All (Contains symbols) (cubes_symbols out)
  unfolding Among
  to_symbols out f = each_of (Contains symbols) (cubes_symbols out) (λ p i.
      let (cube, stands, j) = flat_from cube_symbols out p i in
      All-contains (Contains symbols) (cube_symbols cube) p (all_of_cube Among cube (f.each cube stands)) j)

  of_norm : (n : ℕ) (x : Norm) (out : List Cube) → ((p : Symbol × ℕ) → Contains (norm_symbols x) p → Contains symbols p) → IsPlain n x out → AllFit Among out
  unfolding Among
  of_norm n x out each is = plain_fit Among n x out each is

pub lists_have_symbols : ListsHaveSymbols
lists_have_symbols = record {
  steps = λ raws out is.
      let all = cubes_symbols raws in
      to_symbols all out (takes_fit (Among all) raws out (of_symbols all raws (λ p i. i)) is);
  both = λ left right out is.
      let all = cubes_symbols left ++ cubes_symbols right in
      to_symbols all out (and_fit (Among all) left right out
      (of_symbols all left (λ p i. Contains-append_left (cubes_symbols left) (cubes_symbols right) p i))
      (of_symbols all right (λ p i. Contains-append_right (cubes_symbols left) (cubes_symbols right) p i)) is);
  either = λ left right out is.
      let all = cubes_symbols left ++ cubes_symbols right in
      to_symbols all out (or_fit (Among all) left right out
      (of_symbols all left (λ p i. Contains-append_left (cubes_symbols left) (cubes_symbols right) p i))
      (of_symbols all right (λ p i. Contains-append_right (cubes_symbols left) (cubes_symbols right) p i)) is);
  some = λ quantified cubes out is.
      let all = cubes_symbols cubes in
      to_symbols all out (exists_fit (Among all) quantified cubes out (of_symbols all cubes (λ p i. i)) is);
  none = λ n cubes out is.
      let all = cubes_symbols cubes in
      to_symbols all out (not_fit (Among all) n cubes out (of_symbols all cubes (λ p i. i)) is);
  joined = λ first lists out is.
      let all = cubes_symbols first ++ flat_map cubes_symbols lists in
      to_symbols all out (lists_fit (Among all) lists first out
      (of_symbols all first (λ p i. Contains-append_left (cubes_symbols first) (flat_map cubes_symbols lists) p i))
      (record {
        each = λ list stands. of_symbols all list (λ p i.
            Contains-append_right (cubes_symbols first) (flat_map cubes_symbols lists) p (flat_in cubes_symbols lists list p stands i));
      }) is);
  closed = λ n bound cubes out is.
      let all = cubes_symbols cubes in
      to_symbols all out (closed_fit (Among all) n bound cubes out (of_symbols all cubes (λ p i. i)) is);
  plain = λ n x out is.
      let all = norm_symbols x in
      to_symbols all out (of_norm all n x out (λ p i. i) is);
}
