-- What becomes of parts of a cube whose variables keep their numbers, one after the other.
use Rattle.std.specs.Prelude.{Contains}
use Rattle.std.proofs.Common.{ℕ, ◌≡◌, ◌+◌, ◌<◌, ◌≤◌, Bool, true, false, List, [], ◌∷◌, ◌++◌, length, get_or, refl, sym, subst, arith, append_assoc, append-nil, ap, ◌∙◌}
use Rattle.std.proofs.lemmas.List.{length-append}
use Rattle.std.proofs.lemmas.List.Elements.{All-contains, All-cons, All-nil}
use Rattle.tree_facts.proofs.Members.{contains_first}
use Rattle.flat_form.specs.declared.atom.Flat.{Flat}
use Rattle.flat_form.specs.declared.cube.Part.{Part}
use Rattle.flat_form.specs.Meanings.{HasNone}
use Rattle.flat_form.specs.Numbering.{BasicOver, PartOver}
use Rattle.flat_form.specs.Parts.{IsPruned}
use Rattle.flat_form.specs.Solved.{IsSolved}
use Rattle.flat_form.specs.Steps.{SettlesTo, Settles, all_done, dropped, settled, IsImplied, NumbersInner, Finishes, twice, new}
use Rattle.cube_facts.specs.Settling.{HasSettledShape}
use Rattle.cube_facts.proofs.Settle.{settled_parts_shape}
use Rattle.numbering.specs.Finishing.{Joins}
use Rattle.numbering.specs.Inner.{IsReached}
use Rattle.cube_reduction.specs.declared.fates.Fate.{Fate}
use Rattle.cube_reduction.specs.Fates.{Becomes, drops, drops_then, implied, stays, changes, IsTaken, Stay}
use Rattle.cube_reduction.proofs.SettledParts.{AreSettled, none_settled, one_dropped, one_settled, all_are_settled, none_empty_more}

pub nothing_in : {A : Type 0} (xs : List A) → length xs ≡ 0 → xs ≡ []
nothing_in [] e = refl
nothing_in (x ∷ rest) e = absurd (cc e)

-- the item that follows those so far stands at their number, and they grow by it
pub next_at : {A : Type 0} (all so_far left rest : List A) (x : A) → so_far ++ left ≡ all → left ≡ x ∷ rest
    → (length so_far < length all) × (x ≡ get_or all (length so_far) x) × ((so_far ++ x ∷ []) ++ rest ≡ all) × (length so_far + 1 ≡ length (so_far ++ x ∷ []))
next_at {A} all so_far left rest x whole is =
    let e : so_far ++ x ∷ rest ≡ all = ap (λ (z : List A). so_far ++ z) (sym is) ∙ whole in (
      subst (λ (z : List A). length so_far < length z) e (omega (arith, length-append so_far (x ∷ rest))),
      subst (λ (z : List A). x ≡ get_or z (length so_far) x) e (there so_far),
      append_assoc so_far (x ∷ []) rest ∙ e,
      omega (arith, length-append so_far (x ∷ [])),
    )
  where
    there : (xs : List A) → x ≡ get_or (xs ++ x ∷ rest) (length xs) x
    there [] = refl
    there (y ∷ xs) = there xs

-- where nothing follows, they are all
pub nothing_left : {A : Type 0} (all so_far left : List A) → left ≡ [] → so_far ++ left ≡ all → length all ≤ length so_far
nothing_left {A} all so_far left none whole =
    subst (λ (z : List A). length z ≤ length so_far) (sym (append-nil so_far) ∙ ap (λ (z : List A). so_far ++ z) (sym none) ∙ whole) (omega arith)

-- a part that was settled
module _ (m : ℕ) (base : List Flat) (part after : Part) (solved : IsSolved base) (base_over : BasicOver m base) (over : PartOver m part) (is : SettlesTo m base part after) where
  pub after_shape : HasSettledShape m base after
  after_shape =
      All-contains (HasSettledShape m base) (after ∷ []) after
      (settled_parts_shape m base (part ∷ []) (after ∷ []) solved base_over (All-cons (PartOver m) part [] over (All-nil (PartOver m))) (settled part after [] [] is all_done))
      (contains_first after [])

  pub after_reached : IsReached m after.basic
  after_reached = record { under = after_shape.shape.under; equal = λ u h j. (after_shape.shape.equal u h j).1 }

-- a part that was settled to nothing
pub implied_by : (m : ℕ) (base : List Flat) (part after : Part) → SettlesTo m base part after → length after.basic ≡ 0 → IsImplied m base part
implied_by m base part after is none = (is.added, is.is_added, subst (λ (z : List Flat). IsPruned m is.added z) (nothing_in after.basic none) is.is_pruned)

module _ (m : ℕ) (base : List Flat) where
  -- one part more, which goes
  pub settles_drop : (old kept : List Part) (part : Part) → HasNone (base ++ part.basic) → Settles m base old kept → Settles m base (old ++ part ∷ []) kept
  settles_drop old kept part none (Settles.all_done) = dropped part [] [] none all_done
  settles_drop old kept part none (Settles.dropped p o n gone more) = dropped p (o ++ part ∷ []) n gone (settles_drop o n part none more)
  settles_drop old kept part none (Settles.settled p q o n is more) = settled p q (o ++ part ∷ []) n is (settles_drop o n part none more)

  -- and one that stays
  pub settles_on : (old kept : List Part) (part after : Part) → SettlesTo m base part after → Settles m base old kept
      → Settles m base (old ++ part ∷ []) (kept ++ after ∷ [])
  settles_on old kept part after to (Settles.all_done) = settled part after [] [] to all_done
  settles_on old kept part after to (Settles.dropped p o n gone more) = dropped p (o ++ part ∷ []) (n ++ after ∷ []) gone (settles_on o n part after to more)
  settles_on old kept part after to (Settles.settled p q o n is more) = settled p q (o ++ part ∷ []) (n ++ after ∷ []) is (settles_on o n part after to more)

  -- what the first i parts came to
  pub record Lasts (parts : List Part) (i : ℕ) (done : List Part) : Type 0 where
    pub first : List Part
    pub second : List Part
    pub settled_so_far : AreSettled m base parts i first
    pub some_atom : (part : Part) → Contains first part → ¬ (part.basic ≡ [])
    pub again : Settles m base first second
    pub finishes : (rest out : List Part) → Finishes m done rest out → Finishes m [] (second ++ rest) out

  pub lasts_first : (parts done : List Part) → done ≡ [] → Lasts parts 0 done
  lasts_first parts done e = record {
    first = [];
    second = [];
    settled_so_far = none_settled m base parts;
    some_atom = λ part i. absurd (omega (arith, i.1));
    again = all_done;
    finishes = λ rest out f. subst (λ (z : List Part). Finishes m z rest out) e f;
  }

  -- a part more in the last list
  joined_finishes : (second done after : List Part) (numbered next : Part) → NumbersInner m next numbered → Joins numbered done after
      → ((rest out : List Part) → Finishes m done rest out → Finishes m [] (second ++ rest) out)
      → (rest out : List Part) → Finishes m after rest out → Finishes m [] ((second ++ next ∷ []) ++ rest) out
  joined_finishes second done after numbered next is (Joins.there inside) so_far rest out f =
      subst (λ (z : List Part). Finishes m [] z out) (sym (append_assoc second (next ∷ []) rest)) (so_far (next ∷ rest) out (twice done next numbered rest out is inside f))
  joined_finishes second done after numbered next is (Joins.last fresh) so_far rest out f =
      subst (λ (z : List Part). Finishes m [] z out) (sym (append_assoc second (next ∷ []) rest)) (so_far (next ∷ rest) out (new done next numbered rest out is fresh f))

  module _ (parts : List Part) (i : ℕ) (part : Part) (within : i < length parts) (at : part ≡ get_or parts i part) where
    -- a part that stays, as the numbered one
    lasts_on : (done after : List Part) (one two numbered : Part) → SettlesTo m base part one → ¬ (one.basic ≡ []) → SettlesTo m base one two → NumbersInner m two numbered
        → Joins numbered done after → Lasts parts i done → Lasts parts (i + 1) after
    lasts_on done after one two numbered to some again inner taken l = record {
      first = l.first ++ one ∷ [];
      second = l.second ++ two ∷ [];
      settled_so_far = one_settled m base parts i part within at l.first (l.first ++ one ∷ []) one refl to l.settled_so_far;
      some_atom = none_empty_more l.first (l.first ++ one ∷ []) one refl some l.some_atom;
      again = settles_on l.first l.second one two again l.again;
      finishes = joined_finishes l.second done after numbered two inner taken l.finishes;
    }

    pub lasts_more : (done after : List Part) (fate : Fate) (on : Bool) → Becomes m base part fate → IsTaken part fate done after on → on ≡ true → Lasts parts i done
        → Lasts parts (i + 1) after
    lasts_more done after fate on (drops none) taken up l = record {
      first = l.first;
      second = l.second;
      settled_so_far = one_dropped m base parts i part within at l.first none l.settled_so_far;
      some_atom = l.some_atom;
      again = l.again;
      finishes = subst (λ (z : List Part). (rest out : List Part) → Finishes m z rest out → Finishes m [] (l.second ++ rest) out) (sym taken.1) l.finishes;
    }
    lasts_more done after fate on (drops_then one to some none) taken up l = record {
      first = l.first ++ one ∷ [];
      second = l.second;
      settled_so_far = one_settled m base parts i part within at l.first (l.first ++ one ∷ []) one refl to l.settled_so_far;
      some_atom = none_empty_more l.first (l.first ++ one ∷ []) one refl some l.some_atom;
      again = settles_drop l.first l.second one none l.again;
      finishes = subst (λ (z : List Part). (rest out : List Part) → Finishes m z rest out → Finishes m [] (l.second ++ rest) out) (sym taken.1) l.finishes;
    }
    lasts_more done after fate on (implied is) taken up l = absurd (cc (taken, up))
    lasts_more done after fate on (stays one two to some again inner) taken up l = lasts_on done after one two part to some again inner taken.1 l
    lasts_more done after fate on (changes one two numbered to some again inner) taken up l = lasts_on done after one two numbered to some again inner taken.1 l

  pub lasts_all : (parts : List Part) (i : ℕ) (done : List Part) → length parts ≤ i → Lasts parts i done → Stay m base parts done
  lasts_all parts i done end l = record {
    first = l.first;
    second = l.second;
    settled = all_are_settled m base parts l.first i end l.settled_so_far;
    some_atom = l.some_atom;
    again = l.again;
    finished = subst (λ (z : List Part). Finishes m [] z done) (append-nil l.second) (l.finishes [] done (Finishes.all_done done));
  }

  -- the work ends at a part that is implied
  pub is_implied : (part : Part) (done after : List Part) (fate : Fate) (on : Bool) → Becomes m base part fate → IsTaken part fate done after on → on ≡ false → IsImplied m base part
  is_implied part done after fate on (drops none) taken off = absurd (cc (taken.0, off))
  is_implied part done after fate on (drops_then one to some none) taken off = absurd (cc (taken.0, off))
  is_implied part done after fate on (implied is) taken off = is
  is_implied part done after fate on (stays one two to some again inner) taken off = absurd (cc (taken.0, off))
  is_implied part done after fate on (changes one two numbered to some again inner) taken off = absurd (cc (taken.0, off))
