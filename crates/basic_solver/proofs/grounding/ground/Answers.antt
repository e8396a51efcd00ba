use Rattle.std.proofs.Common.{◌≡◌, ◌<◌, Bool, true, false, List, length, get_or, sym, ap, ◌∙◌, subst, arith, slice_set, ℕ}
use Rattle.std.specs.Prelude.{All, Contains}
use Rattle.basic_solver.specs.Names.{name_in}
use Rattle.basic_solver.specs.Flags.{IsSet, IsGrounded}
use Rattle.basic_solver.proofs.Following.{term_low}
use Rattle.basic_solver.proofs.Flagging.{zero_name, zero_low, flag_read, fewer_left, grounded_more}
use Rattle.basic_solver.proofs.grounding.ground.Goals as goal

pub index-requires : goal.index-requires
index-requires c =
    let low = term_low (length c.args.names.now) c.args.atom.now c.in-VarTerm.u _ _ c.in-VarTerm.is c.requires.over in
    omega (arith, zero_low c.args.names.now c.in-VarTerm.u c.requires.names low, c.requires.size, c.args.done.now.ok.0)

pub index_mut-requires : goal.index_mut-requires
index_mut-requires c =
    let low = term_low (length c.args.names.now) c.args.atom.now c.in-VarTerm.u _ _ c.in-VarTerm.is c.requires.over in
    omega (arith, zero_low c.args.names.now c.in-VarTerm.u c.requires.names low, c.requires.size, c.args.done.now.ok.0)

pub returns-clause-kept : goal.returns-clause-kept
returns-clause-kept c = λ atoms classes i grounded.
    let names = c.args.names.now in
    let done = c.args.done.now.items in
    let u = c.in-VarTerm.u in
    let xs = c.in-VarTerm.xs in
    let low : u < length names = term_low (length names) c.args.atom.now u _ _ c.in-VarTerm.is c.requires.over in
    let same : get_or names u 0 ≡ name_in names u = zero_name names u low in
    let within : get_or names u 0 < length done = omega (arith, zero_low names u c.requires.names low, c.requires.size) in
    let unset : get_or done (name_in names u) false ≡ false =
    ap (λ (z : ℕ). get_or done z false) (sym same) ∙ flag_read done (get_or names u 0) c.index.result.now false within c.index.ensures c.if-index.false in
    let all : All (IsSet names done) xs = subst (λ (z : List Bool). All (IsSet names z) xs) c.as_slice.ensures.value (c.are_done.ensures.0 c.if-not-are_done.false) in
    subst (λ (z : ℕ). IsGrounded names atoms (slice_set done z true)) (sym same)
    (grounded_more names atoms classes done grounded u c.in-VarTerm.field-1 xs (subst (λ z. Contains atoms z) c.in-VarTerm.is i) (omega (arith, same, within)) unset all)

pub returns-clause-told : goal.returns-clause-told
returns-clause-told c =
    let names = c.args.names.now in
    let done = c.args.done.now.items in
    let u = c.in-VarTerm.u in
    let low : u < length names = term_low (length names) c.args.atom.now u _ _ c.in-VarTerm.is c.requires.over in
    let within : get_or names u 0 < length done = omega (arith, zero_low names u c.requires.names low, c.requires.size) in
    fewer_left done (get_or names u 0) within (flag_read done (get_or names u 0) c.index.result.now false within c.index.ensures c.if-index.false)
