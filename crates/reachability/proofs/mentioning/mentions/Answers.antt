use Rattle.std.proofs.Common.{List, ◌<◌, ◌≤◌, ◌≡◌, length, get_or, rules, arith, ap, subst}
use Rattle.std.specs.Prelude.{Contains}
use Rattle.flat_form.specs.declared.atom.Flat.{Flat}
use Rattle.flat_form.specs.Parts.{variables_of}
use Rattle.reachability.proofs.Mentioned.{all_next, none_has, never}
use Rattle.reachability.proofs.mentioning.mentions.Goals as goal

pub loop-atom-preserved : goal.loop-atom-preserved
loop-atom-preserved c =
    let atoms = c.args.p.now.basic in
    let i = c.loop-atom.atom-index in
    let within : i < length atoms = omega (arith, ap length c.as_slice-atom-items.ensures) in
    let is : c.atom-item.result ≡ get_or atoms i c.atom-item.result = subst (λ (z : List Flat). c.atom-item.result ≡ get_or z i c.atom-item.result) c.as_slice-atom-items.ensures c.atom-item.is in
    all_next (λ (atom : Flat). ¬ Contains (variables_of atom) c.args.v) atoms i c.atom-item.result within is c.loop-atom.invariant (λ inside. absurd (never c.stands_in.result c.if-stands_in.false (c.stands_in.ensures.1 inside)))

pub returns : goal.returns
returns c =
    let atoms = c.args.p.now.basic in
    let end : length atoms ≤ c.loop-atom.atom-index = omega (arith, ap length c.as_slice-atom-items.ensures) in (
      λ t. absurd (search rules),
      λ (atom, stands, inside).
          absurd (none_has (λ (other : Flat). Contains (variables_of other) c.args.v) atoms c.loop-atom.atom-index end c.loop-atom.invariant atom stands inside),
    )
