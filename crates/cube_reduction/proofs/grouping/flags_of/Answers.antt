use Rattle.std.proofs.Common.{true, get_or, ◌∙◌, arith}
use Rattle.std.proofs.lemmas.List.{length-set, get_or_default}
use Rattle.cube_reduction.proofs.FlagsOf.{flags_more, flags_all}
use Rattle.cube_reduction.proofs.grouping.flags_of.Goals as goal

pub loop-x-preserved : goal.loop-x-preserved
loop-x-preserved c =
    let xs = c.args.xs.now in
    let i = c.loop-x.x-index in
    let x = get_or xs i 0 in
    let low = c.requires i 0 c.loop-x-test.true in
    record {
      size = length-set c.loop-x.flags.items x true ∙ c.loop-x.invariant.size;
      is = flags_more xs i x c.loop-x.flags.items c.loop-x-test.true (get_or_default xs i 0 x c.loop-x-test.true) (omega (arith, low, c.loop-x.invariant.size)) c.loop-x.invariant.is;
    }

pub returns-clause-is : goal.returns-clause-is
returns-clause-is c = flags_all c.args.xs.now c.loop-x.x-index c.loop-x.flags.items c.loop-x-test.false c.loop-x.invariant.is
