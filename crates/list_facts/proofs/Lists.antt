-- What the lists mean that conjunction, disjunction, negation and quantifiers come to.
use Rattle.std.specs.Prelude.{Contains, All, flat_map, ◌↔◌}
use Rattle.std.proofs.Common.{ℕ, ◌≡◌, ◌+◌, ◌-◌, ◌≤◌, List, [], ◌∷◌, ◌++◌, map, refl, sym, ◌∙◌, subst, arith, inl, inr, ◌⊎◌}
use Rattle.std.proofs.lemmas.List.Elements.{All-contains, Contains-append_cases, Contains-append_left, Contains-append_right}
use Rattle.classical.specs.Classical.{Exists}
use Rattle.classical.proofs.Stable.{◌>>=◌}
use Rattle.lists.specs.Distinct.{IsDistinct}
use Rattle.tree_model.specs.Signatures.{Signature}
use Rattle.tree_model.specs.Valuations.{Valuation}
use Rattle.tree_facts.proofs.Members.{contains_first, contains_later, contains_cases}
use Rattle.tree_facts.proofs.Renumbering.{contains_map, contains_image}
use Rattle.flat_form.specs.declared.cube.Cube.{Cube}
use Rattle.flat_form.specs.Fitting.{CubeFits}
use Rattle.flat_form.specs.Meanings.{Extends, CubeHolds, SomeHolds}
use Rattle.flat_form.specs.Reduced.{IsReduced}
use Rattle.flat_form.specs.Raws.{joined, opened, denied}
use Rattle.flat_form.proofs.Symbols.{each_of, flat_in, flat_from}
use Rattle.cube_facts.proofs.Joined.{joined_means}
use Rattle.cube_facts.proofs.Opened.{opened_means}
use Rattle.cube_facts.proofs.Denied.{denied_means}
use Rattle.cube_facts.proofs.Raws.{raws_are_well_numbered, raws_fit}
use Rattle.step_facts.specs.Lists.{KeepsFirst, IsAnd, DeniesEach, IsNot, IsExists, IsJoined, IsClosed}
use Rattle.list_facts.specs.Lists.{AreRaw, AreReduced, AreRawLists, EachHolds, OrMeans}
use Rattle.list_facts.proofs.Some.{some_stable, some_of, in_some, from_some}
use Rattle.step_facts.proofs.Cleared.{distinct_more}
use Rattle.list_facts.proofs.Takes.{Over, steps_mean, steps_reduced}

pub raw_of : (σ : Signature) (n : ℕ) (cubes : List Cube) → AreReduced σ n cubes → AreRaw σ n cubes
raw_of σ n cubes are = record { over = are.over; fit = are.fit }

first_of : {A : Type 0} (P : A → Type 0) (x : A) (xs : List A) → All P (x ∷ xs) → P x
first_of P x xs all = All-contains P (x ∷ xs) x all (contains_first x xs)

rest_of : {A : Type 0} (P : A → Type 0) (x : A) (xs : List A) → All P (x ∷ xs) → All P xs
rest_of P x xs all = each_of P xs (λ y i. All-contains P (x ∷ xs) y all (contains_later x y xs i))

tail_raw : (σ : Signature) (n : ℕ) (cube : Cube) (rest : List Cube) → AreRaw σ n (cube ∷ rest) → AreRaw σ n rest
tail_raw σ n cube rest are = record { over = rest_of (Over n) cube rest are.over; fit = rest_of (CubeFits σ) cube rest are.fit }

-- conjunction

abbrev pub pairs : List Cube → List Cube → List Cube
pairs left right = flat_map (λ one. map (joined one) right) left

pub record IsPair (left right : List Cube) (raw : Cube) : Type 0 where
  pub one : Cube
  pub other : Cube
  pub here : Contains left one
  pub there : Contains right other
  pub is : joined one other ≡ raw

pub pair_from : (left right : List Cube) (raw : Cube) → Contains (pairs left right) raw → IsPair left right raw
pair_from left right raw i =
    let (one, here, j) = flat_from (λ (one : Cube). map (joined one) right) left raw i in
    let (other, there, same) = contains_image (joined one) right raw j in
    record { one = one; other = other; here = here; there = there; is = same }

pair_in : (left right : List Cube) (one other : Cube) → Contains left one → Contains right other → Contains (pairs left right) (joined one other)
pair_in left right one other here there = flat_in (λ (one : Cube). map (joined one) right) left one (joined one other) here (contains_map (joined one) right other there)

module _ (σ : Signature) (n : ℕ) (left right : List Cube) (at_left : AreRaw σ n left) (at_right : AreRaw σ n right) where
  left_over : (one : Cube) → Contains left one → Over n one
  left_over one i = All-contains (Over n) left one at_left.over i

  right_over : (other : Cube) → Contains right other → Over n other
  right_over other i = All-contains (Over n) right other at_right.over i

  pair_over : (raw : Cube) → IsPair left right raw → Over n raw
  pair_over raw pair =
      let at_one = left_over pair.one pair.here in
      let at_other = right_over pair.other pair.there in
      subst (λ (z : Cube). Over n z) pair.is
      (at_one.0, raws_are_well_numbered.joined pair.one pair.other (at_one.0 ∙ sym at_other.0) at_one.1 at_other.1)

  pairs_raw : AreRaw σ n (pairs left right)
  pairs_raw = record {
    over = each_of (Over n) (pairs left right) (λ raw i. pair_over raw (pair_from left right raw i));
    fit = each_of (CubeFits σ) (pairs left right) (λ raw i.
        let pair = pair_from left right raw i in
        subst (λ (z : Cube). CubeFits σ z) pair.is (raws_fit.joined σ pair.one pair.other
        (All-contains (CubeFits σ) left pair.one at_left.fit pair.here) (All-contains (CubeFits σ) right pair.other at_right.fit pair.there)));
  }

  module _ (e : Valuation σ) where
    pair_means : (one other : Cube) → Contains left one → Contains right other → CubeHolds e (joined one other) ↔ (CubeHolds e one × CubeHolds e other)
    pair_means one other here there =
        let at_one = left_over one here in
        joined_means σ one other e (at_one.0 ∙ sym (right_over other there).0) at_one.1

    pairs_mean : SomeHolds e (pairs left right) ↔ (SomeHolds e left × SomeHolds e right)
    pairs_mean = (
      (λ some. (
        from_some e e (pairs left right) left some (λ raw i holds.
            let pair = pair_from left right raw i in
            in_some e left pair.one pair.here
            ((pair_means pair.one pair.other pair.here pair.there).0 (subst (λ (z : Cube). CubeHolds e z) (sym pair.is) holds)).0),
        from_some e e (pairs left right) right some (λ raw i holds.
            let pair = pair_from left right raw i in
            in_some e right pair.other pair.there
            ((pair_means pair.one pair.other pair.here pair.there).0 (subst (λ (z : Cube). CubeHolds e z) (sym pair.is) holds)).1),
      )),
      (λ both. from_some e e left (pairs left right) both.0 (λ one here h.
          from_some e e right (pairs left right) both.1 (λ other there k.
          in_some e (pairs left right) (joined one other) (pair_in left right one other here there) ((pair_means one other here there).1 (h, k))))),
    )

module _ (σ : Signature) (n : ℕ) where
  pub and_means : (one other out : List Cube) (e : Valuation σ) → AreRaw σ n one → AreRaw σ n other → IsAnd one other out
      → SomeHolds e out ↔ (SomeHolds e one × SomeHolds e other)
  and_means one other out e a b is =
      let taken = steps_mean e n (pairs one other) out (pairs_raw σ n one other a b) is in
      let meant = pairs_mean σ n one other a b e in
      (λ some. meant.0 (taken.0 some), λ both. taken.1 (meant.1 both))

  pub and_reduced : (one other out : List Cube) → AreRaw σ n one → AreRaw σ n other → IsAnd one other out → AreReduced σ n out
  and_reduced one other out a b is = steps_reduced σ n (pairs one other) out (pairs_raw σ n one other a b) is

-- disjunction

kept_stays : (done cubes out : List Cube) → KeepsFirst done cubes out → (cube : Cube) → Contains done cube → Contains out cube
kept_stays done cubes out (KeepsFirst.all_done all) cube i = i
kept_stays done cubes out (KeepsFirst.twice all it rest end there more) cube i = kept_stays all rest end more cube i
kept_stays done cubes out (KeepsFirst.new all it rest end none more) cube i =
    kept_stays (all ++ it ∷ []) rest end more cube (Contains-append_left all (it ∷ []) cube i)

kept_there : (done cubes out : List Cube) → KeepsFirst done cubes out → (cube : Cube) → Contains cubes cube → Contains out cube
kept_there done cubes out (KeepsFirst.all_done all) cube i = absurd (omega (arith, i.1))
kept_there done cubes out (KeepsFirst.twice all it rest end there more) cube i = elim (contains_cases it cube rest i) [
  | inl same ↦ kept_stays all rest end more cube (subst (λ (z : Cube). Contains all z) same there)
  | inr later ↦ kept_there all rest end more cube later
]
kept_there done cubes out (KeepsFirst.new all it rest end none more) cube i = elim (contains_cases it cube rest i) [
  | inl same ↦
      kept_stays (all ++ it ∷ []) rest end more cube
      (subst (λ (z : Cube). Contains (all ++ it ∷ []) z) same (Contains-append_right all (it ∷ []) it (contains_first it [])))
  | inr later ↦ kept_there (all ++ it ∷ []) rest end more cube later
]

kept_from : (done cubes out : List Cube) → KeepsFirst done cubes out → (cube : Cube) → Contains out cube → Contains done cube ⊎ Contains cubes cube
kept_from done cubes out (KeepsFirst.all_done all) cube i = inl i
kept_from done cubes out (KeepsFirst.twice all it rest end there more) cube i = elim (kept_from all rest end more cube i) [
  | inl j ↦ inl j
  | inr j ↦ inr (contains_later it cube rest j)
]
kept_from done cubes out (KeepsFirst.new all it rest end none more) cube i = elim (kept_from (all ++ it ∷ []) rest end more cube i) [
  | inr j ↦ inr (contains_later it cube rest j)
  | inl j ↦ elim (Contains-append_cases all (it ∷ []) cube j) [
    | inl k ↦ inl k
    | inr k ↦ elim (contains_cases it cube [] k) [
      | inl e ↦ inr (subst (λ (z : Cube). Contains (it ∷ rest) z) e (contains_first it rest))
      | inr last ↦ absurd (omega (arith, last.1))
    ]
  ]
]

pub kept_distinct : (done cubes out : List Cube) → KeepsFirst done cubes out → IsDistinct done → IsDistinct out
kept_distinct done cubes out (KeepsFirst.all_done all) distinct = distinct
kept_distinct done cubes out (KeepsFirst.twice all it rest end there more) distinct = kept_distinct all rest end more distinct
kept_distinct done cubes out (KeepsFirst.new all it rest end none more) distinct = kept_distinct (all ++ it ∷ []) rest end more (distinct_more all it distinct none)

-- each item of the outcome is one of the left or of the right
pub or_from : (left right out : List Cube) → KeepsFirst [] (left ++ right) out → (cube : Cube) → Contains out cube → Contains left cube ⊎ Contains right cube
or_from left right out is cube i = elim (kept_from [] (left ++ right) out is cube i) [
  | inl j ↦ absurd (omega (arith, j.1))
  | inr j ↦ Contains-append_cases left right cube j
]

pub or_all : (P : Cube → Type 0) (left right out : List Cube) → KeepsFirst [] (left ++ right) out → All P left → All P right → All P out
or_all P left right out is a b = each_of P out (λ cube i. elim (or_from left right out is cube i) [
  | inl j ↦ All-contains P left cube a j
  | inr j ↦ All-contains P right cube b j
])

pub or_means : OrMeans
or_means = record {
  means = λ σ left right out e is. (
    (λ some none. do
      (cube, (i, holds)) ← some_of e out some
      elim (or_from left right out is cube i) [
        | inl j ↦ none (inl (in_some e left cube j holds))
        | inr j ↦ none (inr (in_some e right cube j holds))
      ]),
    (λ some. some_stable e out (λ none. do
      c ← some
      elim c [
        | inl h ↦ none (from_some e e left out h (λ cube i holds.
            in_some e out cube (kept_there [] (left ++ right) out is cube (Contains-append_left left right cube i)) holds))
        | inr h ↦ none (from_some e e right out h (λ cube i holds.
            in_some e out cube (kept_there [] (left ++ right) out is cube (Contains-append_right left right cube i)) holds))
      ])),
  );
  reduced = λ σ n left right out a b is. record {
    over = or_all (Over n) left right out is a.over b.over;
    fit = or_all (CubeFits σ) left right out is a.fit b.fit;
    reduced = or_all IsReduced left right out is a.reduced b.reduced;
    distinct = kept_distinct [] (left ++ right) out is tt;
  };
}

-- quantifiers

module _ (σ : Signature) (n quantified : ℕ) (cubes out : List Cube) (within : quantified ≤ n) (are : AreRaw σ n cubes) where
  opened_raw : AreRaw σ (n - quantified) (map (opened quantified) cubes)
  opened_raw = record {
    over = each_of (Over (n - quantified)) (map (opened quantified) cubes) (λ raw i.
        let (cube, stands, same) = contains_image (opened quantified) cubes raw i in
        let over : Over n cube = All-contains (Over n) cubes cube are.over stands in
        let free : cube.free ≡ n = over.0 in
        subst (λ (z : Cube). Over (n - quantified) z) same (
          subst (λ (k : ℕ). cube.free - quantified ≡ k - quantified) free refl,
          raws_are_well_numbered.opened quantified cube (omega (arith, free, within)) over.1,
        ));
    fit = each_of (CubeFits σ) (map (opened quantified) cubes) (λ raw i.
        let (cube, stands, same) = contains_image (opened quantified) cubes raw i in
        subst (λ (z : Cube). CubeFits σ z) same (raws_fit.opened σ quantified cube (All-contains (CubeFits σ) cubes cube are.fit stands)));
  }

  one_opened : (e : Valuation σ) (cube : Cube) → Contains cubes cube
      → CubeHolds e (opened quantified cube) ↔ Exists (λ (d : Valuation σ). Extends (n - quantified) e d × CubeHolds d cube)
  one_opened e cube i =
      let over : Over n cube = All-contains (Over n) cubes cube are.over i in
      let free : cube.free ≡ n = over.0 in
      subst (λ (k : ℕ). CubeHolds e (opened quantified cube) ↔ Exists (λ (d : Valuation σ). Extends (k - quantified) e d × CubeHolds d cube)) free
      (opened_means σ quantified cube e (omega (arith, free, within)))

  pub exists_means : IsExists quantified cubes out → (e : Valuation σ)
      → SomeHolds e out ↔ Exists (λ (d : Valuation σ). Extends (n - quantified) e d × SomeHolds d cubes)
  exists_means is e =
      let taken = steps_mean e (n - quantified) (map (opened quantified) cubes) out opened_raw is in (
        (λ some none. do
          (raw, (i, holds)) ← some_of e (map (opened quantified) cubes) (taken.0 some)
          let (cube, stands, same) = contains_image (opened quantified) cubes raw i in do
            (d, (like, h)) ← (one_opened e cube stands).0 (subst (λ (z : Cube). CubeHolds e z) (sym same) holds)
            none (d, (like, in_some d cubes cube stands h))),
        (λ some. some_stable e out (λ none. do
          (d, (like, h)) ← some
          (cube, (i, holds)) ← some_of d cubes h
          none (taken.1 (in_some e (map (opened quantified) cubes) (opened quantified cube) (contains_map (opened quantified) cubes cube i)
              ((one_opened e cube i).1 (λ no. no (d, (like, holds)))))))),
      )

  pub exists_reduced : IsExists quantified cubes out → AreReduced σ (n - quantified) out
  exists_reduced is = steps_reduced σ (n - quantified) (map (opened quantified) cubes) out opened_raw is

-- negation

module _ (σ : Signature) (n : ℕ) where
  negation_raw : (cube : Cube) → Over n cube → CubeFits σ cube → AreRaw σ n (denied cube)
  negation_raw cube over fits = record {
    over = subst (λ (k : ℕ). All (Over k) (denied cube)) over.0 (raws_are_well_numbered.denied cube over.1);
    fit = raws_fit.denied σ cube fits;
  }

  head_raw : (cube : Cube) (rest : List Cube) → AreRaw σ n (cube ∷ rest) → AreRaw σ n (denied cube)
  head_raw cube rest are = negation_raw cube (first_of (Over n) cube rest are.over) (first_of (CubeFits σ) cube rest are.fit)

  denies_mean : (cubes so_far out : List Cube) (e : Valuation σ) → AreRaw σ n so_far → AreRaw σ n cubes → All IsReduced cubes → DeniesEach so_far cubes out
      → SomeHolds e out ↔ (SomeHolds e so_far × (¬ SomeHolds e cubes))
  denies_mean [] so_far out e a b reduced is = (
    (λ some. (subst (λ (z : List Cube). SomeHolds e z) is some, λ none. none)),
    (λ both. subst (λ (z : List Cube). SomeHolds e z) (sym is) both.0),
  )
  denies_mean (cube ∷ rest) so_far out e a b reduced (negation, next, takes, both, more) =
      let raw = head_raw cube rest b in
      let negated = steps_mean e n (denied cube) negation raw takes in
      let at_negation = raw_of σ n negation (steps_reduced σ n (denied cube) negation raw takes) in
      let meant = and_means σ n so_far negation next e a at_negation both in
      let at_next = raw_of σ n next (and_reduced σ n so_far negation next a at_negation both) in
      let denial = denied_means σ cube e (first_of IsReduced cube rest reduced) in
      let ih = denies_mean rest next out e at_next (tail_raw σ n cube rest b) (rest_of IsReduced cube rest reduced) more in (
        (λ some.
            let later = ih.0 some in
            let here = meant.0 later.0 in
            let not_cube : ¬ CubeHolds e cube = denial.0 (negated.0 here.1) in
            (here.0, λ k. k (λ c. elim c [ inl h ↦ not_cube h | inr l ↦ later.1 l ]))),
        (λ known. ih.1 (
          meant.1 (known.0, negated.1 (denial.1 (λ h. known.1 (λ out. out (inl h))))),
          λ l. known.1 (λ out. out (inr l)),
        )),
      )

  denies_reduced : (cubes so_far out : List Cube) → AreReduced σ n so_far → AreRaw σ n cubes → DeniesEach so_far cubes out → AreReduced σ n out
  denies_reduced [] so_far out a b is = subst (λ (z : List Cube). AreReduced σ n z) (sym is) a
  denies_reduced (cube ∷ rest) so_far out a b (negation, next, takes, both, more) =
      let raw = head_raw cube rest b in
      let at_negation = raw_of σ n negation (steps_reduced σ n (denied cube) negation raw takes) in
      denies_reduced rest next out (and_reduced σ n so_far negation next (raw_of σ n so_far a) at_negation both) (tail_raw σ n cube rest b) more

  abbrev start : Cube
  start = record { free = n; outer = 0; basic = []; parts = [] }

  one_all : (P : Cube → Type 0) → P start → All P (start ∷ [])
  one_all P here = each_of P (start ∷ []) (λ cube i. elim (contains_cases start cube [] i) [
    | inl e ↦ subst P e here
    | inr none ↦ absurd (omega (arith, none.1))
  ])

  start_reduced_cube : IsReduced start
  start_reduced_cube = record {
    well_numbered = record { basic = λ k d low. absurd (omega (arith, low)); parts = λ k d low. absurd (omega (arith, low)) };
    solved = record {
      ascending = tt;
      direct = λ u r i. absurd (omega (arith, i.1));
      plain = λ u symbol xs i. absurd (omega (arith, i.1));
      apart = λ u v symbol xs i. absurd (omega (arith, i.1));
    };
    numbered = record {
      hangs = λ v le low. absurd (omega (arith, le, low));
      first = λ v w u j le less low. absurd (omega (arith, le, less, low));
    };
    parts = λ k d low. absurd (omega (arith, low));
    distinct = tt;
  }

  start_reduced : AreReduced σ n (start ∷ [])
  start_reduced = record {
    over = one_all (Over n) (refl, start_reduced_cube.well_numbered);
    fit = one_all (CubeFits σ) (record { basic = λ k d low. absurd (omega (arith, low)); parts = λ k d low. absurd (omega (arith, low)) });
    reduced = one_all IsReduced start_reduced_cube;
    distinct = (λ i. omega (arith, i.1), tt);
  }

  start_holds : (e : Valuation σ) → SomeHolds e (start ∷ [])
  start_holds e out = out (inl (λ no. no (e, ((λ v w path. refl), tt, tt))))

  pub not_means : (cubes out : List Cube) (e : Valuation σ) → AreRaw σ n cubes → All IsReduced cubes → IsNot n cubes out → SomeHolds e out ↔ (¬ SomeHolds e cubes)
  not_means cubes out e are reduced is =
      let meant = denies_mean cubes (start ∷ []) out e (raw_of σ n (start ∷ []) start_reduced) are reduced is in
      (λ some. (meant.0 some).1, λ none. meant.1 (start_holds e, none))

  pub not_reduced : (cubes out : List Cube) → AreRaw σ n cubes → IsNot n cubes out → AreReduced σ n out
  not_reduced cubes out are is = denies_reduced cubes (start ∷ []) out start_reduced are is

  -- several lists

  pub joined_lists_mean : (lists : List (List Cube)) (first out : List Cube) (e : Valuation σ) → AreRaw σ n first → AreRawLists σ n lists → IsJoined first lists out
      → SomeHolds e out ↔ (SomeHolds e first × EachHolds e lists)
  joined_lists_mean [] first out e a b is = (
    (λ some. (subst (λ (z : List Cube). SomeHolds e z) is some, tt)),
    (λ both. subst (λ (z : List Cube). SomeHolds e z) (sym is) both.0),
  )
  joined_lists_mean (list ∷ lists) first out e a b (next, both, more) =
      let here = first_of (AreRaw σ n) list lists b in
      let meant = and_means σ n first list next e a here both in
      let at_next = raw_of σ n next (and_reduced σ n first list next a here both) in
      let ih = joined_lists_mean lists next out e at_next (rest_of (AreRaw σ n) list lists b) more in (
        (λ some. let later = ih.0 some in let two = meant.0 later.0 in (two.0, (two.1, later.1))),
        (λ all. ih.1 (meant.1 (all.0, all.1.0), all.1.1)),
      )

  pub joined_lists_reduced : (lists : List (List Cube)) (first out : List Cube) → AreReduced σ n first → AreRawLists σ n lists → IsJoined first lists out
      → AreReduced σ n out
  joined_lists_reduced [] first out a b is = subst (λ (z : List Cube). AreReduced σ n z) (sym is) a
  joined_lists_reduced (list ∷ lists) first out a b (next, both, more) =
      joined_lists_reduced lists next out (and_reduced σ n first list next (raw_of σ n first a) (first_of (AreRaw σ n) list lists b) both)
      (rest_of (AreRaw σ n) list lists b) more

module _ (σ : Signature) (n bound : ℕ) (cubes out : List Cube) (are : AreRaw σ (n + bound) cubes) where
  back : n + bound - bound ≡ n
  back = omega arith

  shut_reduced : (shut : List Cube) → IsExists bound cubes shut → AreReduced σ n shut
  shut_reduced shut is = subst (λ (k : ℕ). AreReduced σ k shut) back (exists_reduced σ (n + bound) bound cubes shut (omega arith) are is)

  pub closed_means : IsClosed n bound cubes out → (e : Valuation σ) → SomeHolds e out ↔ ((d : Valuation σ) → Extends n e d → ¬ SomeHolds d cubes)
  closed_means (shut, exists, denies) e =
      let at_shut = shut_reduced shut exists in
      let some = subst (λ (k : ℕ). SomeHolds e shut ↔ Exists (λ (d : Valuation σ). Extends k e d × SomeHolds d cubes)) back
      (exists_means σ (n + bound) bound cubes shut (omega arith) are exists e) in
      let negated = not_means σ n shut out e (raw_of σ n shut at_shut) at_shut.reduced denies in (
        (λ h d like holds. negated.0 h (some.1 (λ none. none (d, (like, holds))))),
        (λ none. negated.1 (λ h. some.0 h (λ found. none found.0 found.1.0 found.1.1))),
      )

  pub closed_reduced : IsClosed n bound cubes out → AreReduced σ n out
  closed_reduced (shut, exists, denies) = not_reduced σ n shut out (raw_of σ n shut (shut_reduced shut exists)) denies
