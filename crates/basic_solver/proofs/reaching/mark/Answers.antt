use Rattle.std.proofs.Common.{◌≡◌, ◌<◌, false, true, length, get_or, sym, subst, arith, slice_set, ℕ}
use Rattle.basic_solver.specs.Names.{name_in}
use Rattle.basic_solver.specs.Flags.{AreReached}
use Rattle.basic_solver.proofs.Flagging.{zero_name, zero_low, flag_read, fewer_left, reached_more}
use Rattle.basic_solver.proofs.reaching.mark.Goals as goal

pub index-requires : goal.index-requires
index-requires c = omega (arith, zero_low c.args.names.now c.args.v c.requires.names c.requires.within, c.requires.size, c.args.marks.now.ok.0)

pub index_mut-requires : goal.index_mut-requires
index_mut-requires c = omega (arith, zero_low c.args.names.now c.args.v c.requires.names c.requires.within, c.requires.size, c.args.marks.now.ok.0)

pub returns-clause-kept : goal.returns-clause-kept
returns-clause-kept c = λ atoms classes reached below.
    let names = c.args.names.now in
    let marks = c.args.marks.now.items in
    let same : get_or names c.args.v 0 ≡ name_in names c.args.v = zero_name names c.args.v c.requires.within in
    subst (λ (z : ℕ). AreReached names atoms (slice_set marks z true)) (sym same) (reached_more names atoms classes marks below c.args.v reached)

pub returns-clause-told : goal.returns-clause-told
returns-clause-told c =
    let names = c.args.names.now in
    let marks = c.args.marks.now.items in
    let within : get_or names c.args.v 0 < length marks = omega (arith, zero_low names c.args.v c.requires.names c.requires.within, c.requires.size) in
    fewer_left marks (get_or names c.args.v 0) within (flag_read marks (get_or names c.args.v 0) c.index.result.now false within c.index.ensures c.if-index.false)
