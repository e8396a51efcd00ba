use Rattle.std.proofs.Common.{ℕ, ◌≡◌, ◌+◌, ◌<◌, ◌≤◌, List, sym, ap, ◌∙◌, subst}
use Rattle.std.specs.Prelude.{All}
use Rattle.flat_form.specs.Orders.{new_number}
use Rattle.cube_reduction.specs.Numbers.{number_in}
use Rattle.cube_reduction.proofs.KeepingNumbers.{order_outer}
use Rattle.cube_reduction.proofs.Lasting.{nothing_in}
use Rattle.cube_reduction.proofs.clearing.keeps_numbers.Goals as goal

pub new-requires-clause-within : goal.new-requires-clause-within
new-requires-clause-within c =
    let mid = c.args.mid.now in
    subst (λ (z : List ℕ). All (λ v. (mid.free ≤ v) × (v < c.args.scope)) z) (sym c.as_slice.ensures)
    (order_outer mid c.args.idle.now c.args.ordered.now.order c.args.ordered.now.basic c.args.scope c.requires.scope c.requires.ordered)

pub returns : goal.returns
returns c = λ t.
    let mid = c.args.mid.now in
    let order = c.args.ordered.now.order in
    let numbers = c.in_ok-numbers.numbers in
    let new : number_in numbers.table.items numbers.behind ≡ new_number mid.free (mid.free + mid.outer) order =
    c.in_ok-numbers.ensures ∙ ap (λ (z : List ℕ). new_number mid.free c.args.scope z) c.as_slice.ensures ∙ ap (λ (z : ℕ). new_number mid.free z order) c.requires.scope in
    record {
      none_idle = nothing_in c.args.idle.now c.if-idle-ne0.false;
      basic_is = sym (c.is_same_basic.ensures.0 c.if-not-is_same_basic.false);
      number = λ v. ap (λ (f : ℕ → ℕ). f v) (sym new) ∙ c.keep_all.ensures t v;
    }
