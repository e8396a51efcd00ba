-- What the lists of the parts of a ready branch come to.
use Rattle.std.specs.Prelude.{◌↔◌}
use Rattle.std.proofs.Common.{ℕ, ◌≡◌, ◌+◌, List, [], ◌++◌, Some, None, true, false, refl, sym, subst}
use Rattle.std.proofs.lemmas.Bool.{both_ways}
use Rattle.std.proofs.lemmas.List.Elements.{All-cons, All-nil}
use Rattle.tree_model.specs.Signatures.{Signature}
use Rattle.tree_model.specs.Valuations.{Valuation}
use Rattle.flat_form.specs.declared.atom.Flat.{Flat}
use Rattle.flat_form.specs.declared.cube.Cube.{Cube}
use Rattle.flat_form.specs.Fitting.{AtomFits, NormFits}
use Rattle.flat_form.specs.Meanings.{BasicHolds, SomeHolds}
use Rattle.flat_form.specs.Normals.{norm, none}
use Rattle.flat_form.specs.Numbering.{AtomOver}
use Rattle.list_facts.specs.Lists.{AreRaw, AreRawLists, EachHolds}
use Rattle.list_facts.proofs.Lists.{raw_of}
use Rattle.list_facts.proofs.Plain.{plain_means_all}
use Rattle.node_facts.specs.Agreement.{AgreesAt, HasList, HaveLists, IsHeld, AllHeld}
use Rattle.node_facts.specs.Branches.{Branch, Branches, branch, no_branch, one_more, norm_in, norms_in, with_list, is_waiting, BranchHolds, BranchesHold, BranchOver, BranchesOver, BranchFits, BranchesFit}
use Rattle.node_facts.specs.Nested.{IsClosedUnder, IsNested, NestedLists}
use Rattle.node_facts.specs.Places.{listed}
use Rattle.node_facts.specs.TurnLaws.{ListedAgrees, TurnIsMade, TurnKeepsWhole}
use Rattle.node_facts.proofs.ClosedUnder.{under_reduced, under_means, under_together}
use Rattle.node_facts.proofs.Places.{changed_keeps_whole, listed_is_same_norm, held_stays, held_fits}

module _ (σ : Signature) where
  -- the list of a branch that does not wait means what the branch does

  has_raw : (n : ℕ) (x : Branch) (out : List Cube) → BranchOver n x → BranchFits σ x → HasList n x out → AreRaw σ n out
  has_raw n (branch bound basic parts (Some list)) out over fits is =
      subst (λ (z : List Cube). AreRaw σ n z) (sym is) (record { over = over.2.0; fit = fits.2 })
  has_raw n (branch bound basic no_branch None) out over fits is =
      raw_of σ n out (plain_means_all.reduced σ n (norm bound basic none) out (over.0, tt) (fits.0, tt) is)
  has_raw n (branch bound basic (one_more part rest) None) out over fits is = absurd is

  have_raw : (n : ℕ) (xs : Branches) (lists : List (List Cube)) → BranchesOver n xs → BranchesFit σ xs → HaveLists n xs lists → AreRawLists σ n lists
  have_raw n no_branch lists over fits is = subst (λ (z : List (List Cube)). AreRawLists σ n z) (sym is) (All-nil (AreRaw σ n))
  have_raw n (one_more part rest) lists over fits (list, more, is, are, same) =
      subst (λ (z : List (List Cube)). AreRawLists σ n z) (sym same)
      (All-cons (AreRaw σ n) list more (has_raw n part list over.0 fits.0 is) (have_raw n rest more over.1 fits.1 are))

  has_means : (n : ℕ) (x : Branch) (out : List Cube) (e : Valuation σ) → BranchOver n x → BranchFits σ x → HasList n x out
      → SomeHolds e out ↔ BranchHolds n e x
  has_means n (branch bound basic parts (Some list)) out e over fits is =
      ((λ some. subst (λ (z : List Cube). SomeHolds e z) is some), (λ some. subst (λ (z : List Cube). SomeHolds e z) (sym is) some))
  has_means n (branch bound basic no_branch None) out e over fits is =
      let plain = plain_means_all.means σ n (norm bound basic none) out e (over.0, tt) (fits.0, tt) is in
      ((λ some d like h each. plain.0 some d like h each), (λ never. plain.1 (λ d like h each. never d like h each)))
  has_means n (branch bound basic (one_more part rest) None) out e over fits is = absurd is

  have_mean : (n : ℕ) (xs : Branches) (lists : List (List Cube)) (e : Valuation σ) → BranchesOver n xs → BranchesFit σ xs → HaveLists n xs lists
      → EachHolds e lists ↔ BranchesHold n e xs
  have_mean n no_branch lists e over fits is = ((λ each. tt), (λ each. subst (λ (z : List (List Cube)). EachHolds e z) (sym is) tt))
  have_mean n (one_more part rest) lists e over fits (list, more, is, are, same) =
      let one = has_means n part list e over.0 fits.0 is in
      let others = have_mean n rest more e over.1 fits.1 are in (
        (λ each. let all = subst (λ (z : List (List Cube)). EachHolds e z) same each in (one.0 all.0, others.0 all.1)),
        (λ each. subst (λ (z : List (List Cube)). EachHolds e z) (sym same) (one.1 each.0, others.1 each.1)),
      )

pub listed_agrees : ListedAgrees
listed_agrees σ n bound round basic parts lists out e over at_round fits r have is holds =
    let under = under_means σ n round bound basic lists out over.0 fits.0 (have_raw σ (n + bound) parts lists over.1 fits.1 have) at_round r e holds is in
    let inside = λ (d : Valuation σ). have_mean σ (n + bound) parts lists d over.1 fits.1 have in
    ((λ some d like h each. under.0 some d like h ((inside d).1 each)), (λ never. under.1 (λ d like h each. never d like h ((inside d).0 each))))

-- held lists are nested ones

has_nested : (n : ℕ) (round : List Flat) (x : Branch) (out : List Cube) → IsHeld n round x → HasList n x out → IsNested n round (norm_in x) out
has_nested n round (branch bound basic parts (Some list)) out held is =
    subst (λ (z : List Cube). IsNested n round (norm bound basic (norms_in parts)) z) (sym is) held.1
has_nested n round (branch bound basic no_branch None) out held is = is
has_nested n round (branch bound basic (one_more part rest) None) out held is = absurd is

have_nested : (n : ℕ) (round : List Flat) (xs : Branches) (lists : List (List Cube)) → AllHeld n round xs → HaveLists n xs lists
    → NestedLists n round (norms_in xs) lists
have_nested n round no_branch lists held is = is
have_nested n round (one_more part rest) lists held (list, more, is, are, same) =
    (list, more, has_nested n round part list held.0 is, have_nested n round rest more held.1 are, same)

turn_nested : (n bound : ℕ) (round basic : List Flat) (parts : Branches) (lists : List (List Cube)) (out : List Cube)
    → is_waiting (branch bound basic parts None) ≡ true → NestedLists (n + bound) (round ++ basic) (norms_in parts) lists
    → IsClosedUnder n round bound basic lists out → IsNested n round (norm bound basic (norms_in parts)) out
turn_nested n bound round basic no_branch lists out waits are is = absurd (both_ways false refl waits)
turn_nested n bound round basic (one_more part rest) lists out waits are is = (lists, are, is)

pub turn_is_made : TurnIsMade
turn_is_made σ n bound round basic parts lists out waits over at_round norm_fits r held have is =
    let fits = held_fits σ n round (branch bound basic parts None) norm_fits held in
    let raw = have_raw σ (n + bound) parts lists over.1 fits.1 have in record {
      nested = turn_nested n bound round basic parts lists out waits (have_nested (n + bound) (round ++ basic) parts lists held.0 have) is;
      reduced = under_reduced σ n round bound basic lists out over.0 fits.0 raw is;
      agrees = λ e holds. listed_agrees σ n bound round basic parts lists out e over at_round fits r have is holds;
      together = under_together σ n round bound basic lists out over.0 fits.0 raw at_round r is;
    }

-- the whole

list_means : (σ : Signature) (n : ℕ) (round : List Flat) (x : Branch) (list : List Cube)
    → ((e : Valuation σ) → BasicHolds e round → SomeHolds e list ↔ BranchHolds n e x) → AgreesAt σ n round x (with_list list x)
list_means σ n round (branch bound basic parts other) list agrees e f g r holds = ((agrees e holds).1, (agrees e holds).0)

pub turn_keeps_whole : TurnKeepsWhole
turn_keeps_whole σ n i m under root x list e at over fits held turn =
    changed_keeps_whole (with_list list) σ n i m [] under root x at over (All-nil (AtomOver n)) (list_means σ m under x list turn.agrees) e
    (held_fits σ n [] root fits held)
    (held_fits σ n [] (listed i list root) (subst (λ z. NormFits σ z) (sym (listed_is_same_norm n i m [] under root x list at)) fits)
    (held_stays n i m [] under root x list at held turn.nested)) (All-nil (AtomFits σ)) tt
