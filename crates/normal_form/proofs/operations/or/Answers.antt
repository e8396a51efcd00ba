use Rattle.std.proofs.Common.{[]}
use Rattle.flat_form.specs.Reduced.{IsReduced}
use Rattle.step_facts.specs.Lists.{IsOr}
use Rattle.list_facts.proofs.Lists.{or_means, or_all, kept_distinct}
use Rattle.list_facts.proofs.Symbols.{lists_have_symbols}
use Rattle.list_facts.proofs.Takes.{Over}
use Rattle.normal_form.proofs.Continuing.{kept_of_both}
use Rattle.normal_form.proofs.operations.or.Goals as goal

pub returns : goal.returns
returns c =
    let left = c.args.a.now in
    let right = c.args.b.now in
    let out = c.push_each-2.new.out in
    let is : IsOr left right out =
    kept_of_both left right c.as_slice.result.now c.as_slice-2.result.now c.new-out.result c.push_each.new.out out c.as_slice.ensures c.as_slice-2.ensures c.new-out.ensures
    c.in_ok-push_each.ensures c.in_ok-push_each-2.ensures in
    record {
      over = λ n a b. or_all (Over n) left right out is a b;
      exactly = is;
      reduced = λ a b. (or_all IsReduced left right out is a b, kept_distinct [] _ out is tt);
      symbols = lists_have_symbols.either left right out is;
      means = λ σ e. or_means.means σ left right out e is;
    }
