-- Lists of cubes come to one list.
use Rattle.std.specs.Prelude.{Contains, flat_map, Option, Some, None}
use Rattle.std.proofs.Common.{ℕ, ◌≡◌, ◌+◌, List, [], ◌∷◌, ◌++◌, map, refl, sym, ap, ◌∙◌, subst, arith, inl, inr}
use Rattle.std.proofs.lemmas.List.Elements.{All-contains, Contains-append_cases}
use Rattle.tree_model.specs.Signatures.{Signature, IsRoot}
use Rattle.tree_facts.proofs.Members.{contains_first, contains_later, contains_cases}
use Rattle.tree_facts.proofs.Renumbering.{contains_image}
use Rattle.flat_form.specs.declared.atom.Flat.{Flat}
use Rattle.flat_form.specs.declared.cube.Cube.{Cube}
use Rattle.flat_form.specs.Normals.{Norm, Norms, norm, none, also}
use Rattle.flat_form.specs.Fitting.{CubeFits, NormFits, NormsFit}
use Rattle.flat_form.specs.Symbols.{CubesFit}
use Rattle.flat_form.specs.Steps.{Outcome}
use Rattle.flat_form.specs.Raws.{joined, opened, denied}
use Rattle.flat_form.proofs.Symbols.{Fit, IsFit, fit, cube_fit, cube_fits, flat_from}
use Rattle.cube_facts.proofs.Raws.{joined_fit, opened_fit, lone_fit, denied_fit}
use Rattle.step_facts.specs.Lists.{TakesSteps, KeepsFirst, IsAnd, DeniesEach, IsNot, IsExists, IsFirst, IsJoined, IsClosed, IsPlain, PlainLists}
use Rattle.step_facts.proofs.StepFits.{outcome_fit}
use Rattle.step_facts.proofs.OneOutcome.{outcome_is_one}
use Rattle.list_facts.specs.OneList.{ListsAreOne}

none_is_some : (cube : Cube) → ¬ (None ≡ Some cube)
none_is_some cube e = cc

some_is_one : (one other : Cube) → Some one ≡ Some other → one ≡ other
some_is_one one other e = cc

-- disjunction

data Keeps (done : List Cube) (cube : Cube) (rest out : List Cube) : Type 0 where
  again : Contains done cube → KeepsFirst done rest out → Keeps done cube rest out
  is_new : ¬ Contains done cube → KeepsFirst (done ++ cube ∷ []) rest out → Keeps done cube rest out

keeps_nil : (done out : List Cube) → KeepsFirst done [] out → out ≡ done
keeps_nil done out (KeepsFirst.all_done d) = refl

keeps_cons : (done : List Cube) (cube : Cube) (rest out : List Cube) → KeepsFirst done (cube ∷ rest) out → Keeps done cube rest out
keeps_cons done cube rest out (KeepsFirst.twice d c r o there more) = again there more
keeps_cons done cube rest out (KeepsFirst.new d c r o not_there more) = is_new not_there more

same_keeps : (done : List Cube) (cube : Cube) (rest one other : List Cube)
    → ((so_far xs ys : List Cube) → KeepsFirst so_far rest xs → KeepsFirst so_far rest ys → xs ≡ ys)
    → Keeps done cube rest one → Keeps done cube rest other → one ≡ other
same_keeps done cube rest one other ih (again there a) (again here b) = ih done one other a b
same_keeps done cube rest one other ih (again there a) (is_new not_there b) = absurd (not_there there)
same_keeps done cube rest one other ih (is_new not_there a) (again there b) = absurd (not_there there)
same_keeps done cube rest one other ih (is_new not_there a) (is_new not_here b) = ih (done ++ cube ∷ []) one other a b

keeps_one : (cubes done one other : List Cube) → KeepsFirst done cubes one → KeepsFirst done cubes other → one ≡ other
keeps_one [] done one other a b = keeps_nil done one a ∙ sym (keeps_nil done other b)
keeps_one (cube ∷ rest) done one other a b =
    same_keeps done cube rest one other (keeps_one rest) (keeps_cons done cube rest one a) (keeps_cons done cube rest other b)

-- the steps

data Takes (done : List Cube) (raw : Cube) (rest out : List Cube) : Type 0 where
  goes : Outcome raw None → TakesSteps done rest out → Takes done raw rest out
  again : (cube : Cube) → Outcome raw (Some cube) → Contains done cube → TakesSteps done rest out → Takes done raw rest out
  is_new : (cube : Cube) → Outcome raw (Some cube) → ¬ Contains done cube → TakesSteps (done ++ cube ∷ []) rest out → Takes done raw rest out

takes_nil : (done out : List Cube) → TakesSteps done [] out → out ≡ done
takes_nil done out (TakesSteps.all_done d) = refl

takes_cons : (done : List Cube) (raw : Cube) (rest out : List Cube) → TakesSteps done (raw ∷ rest) out → Takes done raw rest out
takes_cons done raw rest out (TakesSteps.without d c r o outcome more) = Takes.goes outcome more
takes_cons done raw rest out (TakesSteps.twice d c cube r o outcome there more) = Takes.again cube outcome there more
takes_cons done raw rest out (TakesSteps.new d c cube r o outcome not_there more) = Takes.is_new cube outcome not_there more

module _ (σ : Signature) where
  abbrev Good : Cube → Type 0
  Good = IsFit (IsRoot σ)

  record AllGood (cubes : List Cube) : Type 0 where
    each : (cube : Cube) → Contains cubes cube → Good cube

  good : (cubes : List Cube) → CubesFit σ cubes → AllGood cubes
  good cubes f = record { each = λ cube i. cube_fit σ cube (All-contains (CubeFits σ) cubes cube f i) }

  none_good : AllGood []
  none_good = record { each = λ cube i. absurd (omega (arith, i.1)) }

  more_good : (cube : Cube) (cubes : List Cube) → Good cube → AllGood cubes → AllGood (cube ∷ cubes)
  more_good cube cubes f g = record {
    each = λ other i. elim (contains_cases cube other cubes i) [
      | inl e ↦ subst Good e f
      | inr j ↦ g.each other j
    ];
  }

  tail_good : (cube : Cube) (cubes : List Cube) → AllGood (cube ∷ cubes) → AllGood cubes
  tail_good cube cubes f = record { each = λ other i. f.each other (contains_later cube other cubes i) }

  both_good : (xs ys : List Cube) → AllGood xs → AllGood ys → AllGood (xs ++ ys)
  both_good xs ys f g = record { each = λ cube i. elim (Contains-append_cases xs ys cube i) [ inl j ↦ f.each cube j | inr j ↦ g.each cube j ] }

  one_outcome : (raw : Cube) (one other : Option Cube) → Good raw → Outcome raw one → Outcome raw other → one ≡ other
  one_outcome raw one other f a b = outcome_is_one σ raw one other (cube_fits σ raw f) a b

  same_takes : (done : List Cube) (raw : Cube) (rest one other : List Cube) → Good raw
      → ((so_far xs ys : List Cube) → TakesSteps so_far rest xs → TakesSteps so_far rest ys → xs ≡ ys)
      → Takes done raw rest one → Takes done raw rest other → one ≡ other
  same_takes done raw rest one other f ih (Takes.goes a more) (Takes.goes b others) = ih done one other more others
  same_takes done raw rest one other f ih (Takes.goes a more) (Takes.again c b there others) = absurd (none_is_some c (one_outcome raw None (Some c) f a b))
  same_takes done raw rest one other f ih (Takes.goes a more) (Takes.is_new c b there others) = absurd (none_is_some c (one_outcome raw None (Some c) f a b))
  same_takes done raw rest one other f ih (Takes.again c a there more) (Takes.goes b others) = absurd (none_is_some c (one_outcome raw None (Some c) f b a))
  same_takes done raw rest one other f ih (Takes.is_new c a there more) (Takes.goes b others) = absurd (none_is_some c (one_outcome raw None (Some c) f b a))
  same_takes done raw rest one other f ih (Takes.again c a there more) (Takes.again d b here others) = ih done one other more others
  same_takes done raw rest one other f ih (Takes.again c a there more) (Takes.is_new d b not_there others) =
      absurd (not_there (subst (λ (z : Cube). Contains done z) (some_is_one c d (one_outcome raw (Some c) (Some d) f a b)) there))
  same_takes done raw rest one other f ih (Takes.is_new d b not_there others) (Takes.again c a there more) =
      absurd (not_there (subst (λ (z : Cube). Contains done z) (some_is_one c d (one_outcome raw (Some c) (Some d) f a b)) there))
  same_takes done raw rest one other f ih (Takes.is_new c a not_there more) (Takes.is_new d b not_here others) =
      ih (done ++ d ∷ []) one other
      (subst (λ (z : Cube). TakesSteps (done ++ z ∷ []) rest one) (some_is_one c d (one_outcome raw (Some c) (Some d) f a b)) more) others

  takes_one : (raws done one other : List Cube) → AllGood raws → TakesSteps done raws one → TakesSteps done raws other → one ≡ other
  takes_one [] done one other f a b = takes_nil done one a ∙ sym (takes_nil done other b)
  takes_one (raw ∷ rest) done one other f a b =
      same_takes done raw rest one other (f.each raw (contains_first raw rest)) (λ so_far xs ys. takes_one rest so_far xs ys (tail_good raw rest f))
      (takes_cons done raw rest one a) (takes_cons done raw rest other b)

  takes_good : (done raws out : List Cube) → AllGood done → AllGood raws → TakesSteps done raws out → AllGood out
  takes_good done raws out g f (TakesSteps.all_done all) = g
  takes_good done raws out g f (TakesSteps.without all raw rest end outcome more) = takes_good all rest end g (tail_good raw rest f) more
  takes_good done raws out g f (TakesSteps.twice all raw cube rest end outcome there more) = takes_good all rest end g (tail_good raw rest f) more
  takes_good done raws out g f (TakesSteps.new all raw cube rest end outcome not_there more) =
      takes_good (all ++ cube ∷ []) rest end
      (both_good all (cube ∷ []) g (more_good cube [] (outcome_fit (IsRoot σ) raw cube (f.each raw (contains_first raw rest)) outcome) none_good))
      (tail_good raw rest f) more

  -- the raw cubes

  pairs_good : (left right : List Cube) → AllGood left → AllGood right → AllGood (flat_map (λ one. map (joined one) right) left)
  pairs_good left right f g = record {
    each = λ cube i.
        let (one, here, j) = flat_from (λ (one : Cube). map (joined one) right) left cube i in
        let (other, there, same) = contains_image (joined one) right cube j in
        subst Good same (joined_fit (IsRoot σ) one other (f.each one here) (g.each other there));
  }

  opened_good : (n : ℕ) (cubes : List Cube) → AllGood cubes → AllGood (map (opened n) cubes)
  opened_good n cubes f = record {
    each = λ cube i.
        let (one, here, same) = contains_image (opened n) cubes cube i in
        subst Good same (opened_fit (IsRoot σ) n one (f.each one here));
  }

  empty_fit : Fit (IsRoot σ) []
  empty_fit = record { each = λ u symbol xs i. absurd (omega (arith, i.1)) }

  denied_good : (cube : Cube) → Good cube → AllGood (denied cube)
  denied_good cube f = record { each = λ raw i. denied_fit (IsRoot σ) cube raw f i }

  -- the lists

  and_one : (left right one other : List Cube) → AllGood left → AllGood right → IsAnd left right one → IsAnd left right other → one ≡ other
  and_one left right one other f g a b = takes_one (flat_map (λ one. map (joined one) right) left) [] one other (pairs_good left right f g) a b

  and_good : (left right out : List Cube) → AllGood left → AllGood right → IsAnd left right out → AllGood out
  and_good left right out f g a = takes_good [] (flat_map (λ one. map (joined one) right) left) out none_good (pairs_good left right f g) a

  denies_one : (cubes so_far one other : List Cube) → AllGood so_far → AllGood cubes → DeniesEach so_far cubes one → DeniesEach so_far cubes other → one ≡ other
  denies_one [] so_far one other f g a b = a ∙ sym b
  denies_one (cube ∷ rest) so_far one other f g (negation, next, takes, both, more) (second, further, takes_also, both_also, others) =
      let raw = denied_good cube (g.each cube (contains_first cube rest)) in
      let same : negation ≡ second = takes_one (denied cube) [] negation second raw takes takes_also in
      let there = takes_good [] (denied cube) second none_good raw takes_also in
      let same_next : next ≡ further = and_one so_far second next further f there (subst (λ (z : List Cube). IsAnd so_far z next) same both) both_also in
      denies_one rest further one other (and_good so_far second further f there both_also) (tail_good cube rest g)
      (subst (λ (z : List Cube). DeniesEach z rest one) same_next more) others

  denies_good : (cubes so_far out : List Cube) → AllGood so_far → AllGood cubes → DeniesEach so_far cubes out → AllGood out
  denies_good [] so_far out f g a = subst AllGood (sym a) f
  denies_good (cube ∷ rest) so_far out f g (negation, next, takes, both, more) =
      denies_good rest next out
      (and_good so_far negation next f (takes_good [] (denied cube) negation none_good (denied_good cube (g.each cube (contains_first cube rest))) takes) both)
      (tail_good cube rest g) more

  start_good : (n : ℕ) → AllGood (record { free = n; outer = 0; basic = []; parts = [] } ∷ [])
  start_good n = more_good (record { free = n; outer = 0; basic = []; parts = [] }) [] (lone_fit (IsRoot σ) n 0 [] empty_fit) none_good

  not_one : (n : ℕ) (cubes one other : List Cube) → AllGood cubes → IsNot n cubes one → IsNot n cubes other → one ≡ other
  not_one n cubes one other f a b = denies_one cubes (record { free = n; outer = 0; basic = []; parts = [] } ∷ []) one other (start_good n) f a b

  exists_one : (n : ℕ) (cubes one other : List Cube) → AllGood cubes → IsExists n cubes one → IsExists n cubes other → one ≡ other
  exists_one n cubes one other f a b = takes_one (map (opened n) cubes) [] one other (opened_good n cubes f) a b

  record ListsGood (lists : List (List Cube)) : Type 0 where
    each : (list : List Cube) → Contains lists list → AllGood list

  tail_lists : (list : List Cube) (lists : List (List Cube)) → ListsGood (list ∷ lists) → ListsGood lists
  tail_lists list lists f = record { each = λ other i. f.each other (contains_later list other lists i) }

  more_lists : (list : List Cube) (lists : List (List Cube)) → AllGood list → ListsGood lists → ListsGood (list ∷ lists)
  more_lists list lists f g = record {
    each = λ other i. elim (contains_cases list other lists i) [
      | inl e ↦ subst AllGood e f
      | inr j ↦ g.each other j
    ];
  }

  joined_one : (lists : List (List Cube)) (so_far one other : List Cube) → AllGood so_far → ListsGood lists → IsJoined so_far lists one → IsJoined so_far lists other
      → one ≡ other
  joined_one [] so_far one other f g a b = a ∙ sym b
  joined_one (list ∷ lists) so_far one other f g (next, both, more) (further, second, others) =
      let h = g.each list (contains_first list lists) in
      let same : next ≡ further = and_one so_far list next further f h both second in
      joined_one lists further one other (and_good so_far list further f h second) (tail_lists list lists g)
      (subst (λ (z : List Cube). IsJoined z lists one) same more) others

  all_joined_good : (lists : List (List Cube)) (so_far out : List Cube) → AllGood so_far → ListsGood lists → IsJoined so_far lists out → AllGood out
  all_joined_good [] so_far out f g a = subst AllGood (sym a) f
  all_joined_good (list ∷ lists) so_far out f g (next, both, more) =
      all_joined_good lists next out (and_good so_far list next f (g.each list (contains_first list lists)) both) (tail_lists list lists g) more

  closed_one : (n bound : ℕ) (cubes one other : List Cube) → AllGood cubes → IsClosed n bound cubes one → IsClosed n bound cubes other → one ≡ other
  closed_one n bound cubes one other f (shut, exists, denies) (second, exists_also, denies_also) =
      let same : shut ≡ second = exists_one bound cubes shut second f exists exists_also in
      not_one n second one other (takes_good [] (map (opened bound) cubes) second none_good (opened_good bound cubes f) exists_also)
      (subst (λ (z : List Cube). IsNot n z one) same denies) denies_also

  closed_good : (n bound : ℕ) (cubes out : List Cube) → AllGood cubes → IsClosed n bound cubes out → AllGood out
  closed_good n bound cubes out f (shut, exists, denies) =
      denies_good shut (record { free = n; outer = 0; basic = []; parts = [] } ∷ []) out (start_good n)
      (takes_good [] (map (opened bound) cubes) shut none_good (opened_good bound cubes f) exists) denies

  first_raw : (n bound : ℕ) (basic : List Flat) → Fit (IsRoot σ) basic → AllGood (record { free = n + bound; outer = 0; basic = basic; parts = [] } ∷ [])
  first_raw n bound basic f = more_good (record { free = n + bound; outer = 0; basic = basic; parts = [] }) [] (lone_fit (IsRoot σ) (n + bound) 0 basic f) none_good

  first_one : (n bound : ℕ) (basic : List Flat) (one other : List Cube) → Fit (IsRoot σ) basic → IsFirst n bound basic one → IsFirst n bound basic other → one ≡ other
  first_one n bound basic one other f a b =
      takes_one (record { free = n + bound; outer = 0; basic = basic; parts = [] } ∷ []) [] one other (first_raw n bound basic f) a b

  first_good : (n bound : ℕ) (basic : List Flat) (out : List Cube) → Fit (IsRoot σ) basic → IsFirst n bound basic out → AllGood out
  first_good n bound basic out f a =
      takes_good [] (record { free = n + bound; outer = 0; basic = basic; parts = [] } ∷ []) out none_good (first_raw n bound basic f) a

  mutual
    plain_good : (n : ℕ) (x : Norm) (out : List Cube) → NormFits σ x → IsPlain n x out → AllGood out
    plain_good n (norm bound basic parts) out f (first, all, lists, a, b, c, d) =
        closed_good n bound all out
        (all_joined_good lists first all (first_good n bound basic first (fit σ basic f.0) a) (plains_good (n + bound) parts lists f.1 b) c) d

    plains_good : (n : ℕ) (xs : Norms) (lists : List (List Cube)) → NormsFit σ xs → PlainLists n xs lists → ListsGood lists
    plains_good n none lists f a = subst ListsGood (sym a) (record { each = λ list i. absurd (omega (arith, i.1)) })
    plains_good n (also part rest) lists f (list, more, a, b, e) =
        subst ListsGood (sym e) (more_lists list more (plain_good n part list f.0 a) (plains_good n rest more f.1 b))

  mutual
    plain_one : (n : ℕ) (x : Norm) (one other : List Cube) → NormFits σ x → IsPlain n x one → IsPlain n x other → one ≡ other
    plain_one n (norm bound basic parts) one other f (first, all, lists, a, b, c, d) (start, whole, others, p, q, r, s) =
        let same_first : first ≡ start = first_one n bound basic first start (fit σ basic f.0) a p in
        let same_lists : lists ≡ others = plains_one (n + bound) parts lists others f.1 b q in
        let g = first_good n bound basic start (fit σ basic f.0) p in
        let h = plains_good (n + bound) parts others f.1 q in
        let same : all ≡ whole = joined_one others start all whole g h
        (subst (λ (z : List Cube). IsJoined z others all) same_first (subst (λ (z : List (List Cube)). IsJoined first z all) same_lists c)) r in
        closed_one n bound whole one other (all_joined_good others start whole g h r) (subst (λ (z : List Cube). IsClosed n bound z one) same d) s

    plains_one : (n : ℕ) (xs : Norms) (one other : List (List Cube)) → NormsFit σ xs → PlainLists n xs one → PlainLists n xs other → one ≡ other
    plains_one n none one other f a b = a ∙ sym b
    plains_one n (also part rest) one other f (list, more, a, b, e) (also_list, further, p, q, r) =
        e ∙ (ap (λ z. z ∷ more) (plain_one n part list also_list f.0 a p) ∙ (ap (λ z. also_list ∷ z) (plains_one n rest more further f.1 b q) ∙ sym r))

pub lists_are_one : ListsAreOne
lists_are_one = record {
  steps = λ σ raws one other f. takes_one σ raws [] one other (good σ raws f);
  both = λ σ left right one other f g. and_one σ left right one other (good σ left f) (good σ right g);
  either = λ left right one other. keeps_one (left ++ right) [] one other;
  none = λ σ n cubes one other f. not_one σ n cubes one other (good σ cubes f);
  some = λ σ n cubes one other f. exists_one σ n cubes one other (good σ cubes f);
  plain = plain_one;
}
