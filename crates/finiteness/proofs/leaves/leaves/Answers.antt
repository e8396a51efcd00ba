use Rattle.std.proofs.Common.{◌≡◌, ◌∙◌, List, ℕ, sym, subst, arith}
use Rattle.std.specs.List.Sorted.{IsNonDecreasing, IsPermutation}
use Rattle.std.proofs.lemmas.List.{take_at}
use Rattle.std.proofs.lemmas.List.Sorted.{IsNonDecreasingBy-from_sort}
use Rattle.std.proofs.lemmas.Result.{IfOk-weaker}
use Rattle.finiteness.proofs.Gathering.{leaves_once}
use Rattle.finiteness.proofs.leaves.leaves.Goals as goal

pub each_once-requires : goal.each_once-requires
each_once-requires c =
    let sorted = c.sort_unstable.new.self in
    let same : c.as_slice.result.now ≡ sorted = c.as_slice.ensures.value ∙ take_at sorted _ c.in_ok-found.found.len (omega arith) in
    subst (λ (z : List ℕ). IsNonDecreasing z) (sym same) (IsNonDecreasingBy-from_sort (λ (x : ℕ). x) sorted c.sort_unstable.ensures.sorted)

pub returns-clause-exact : goal.returns-clause-exact
returns-clause-exact c =
    let sorted = c.sort_unstable.new.self in
    let found = c.in_ok-found.found.items in
    let same : c.as_slice.result.now ≡ sorted = c.as_slice.ensures.value ∙ take_at sorted _ c.in_ok-found.found.len (omega arith) in
    let moved : IsPermutation found sorted = subst (λ (z : List ℕ). IsPermutation z sorted) c.as_mut_slice.ensures.value c.sort_unstable.ensures.permutation in
    IfOk-weaker c.each_once.result _ _ (leaves_once c.args.b.now c.args.marks.now found sorted c.as_slice.result.now moved same c.in_ok-found.ensures)
    c.each_once.ensures.same
