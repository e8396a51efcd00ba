use Rattle.std.proofs.Common.{◌≡◌, ◌<◌, false, true, length, get_or, sym, ap, ◌∙◌, subst, arith, ℕ}
use Rattle.std.specs.Prelude.{Contains}
use Rattle.flat_form.specs.Classes.{itself, marked}
use Rattle.basic_solver.specs.Names.{name_in}
use Rattle.basic_solver.proofs.Following.{term_low}
use Rattle.basic_solver.proofs.Flagging.{zero_name, zero_low, flag_read, arguments_reached}
use Rattle.basic_solver.proofs.reaching.reach_on.Goals as goal

pub index-requires : goal.index-requires
index-requires c =
    let low = term_low (length c.args.names.now) c.args.atom.now c.in-VarTerm.u _ _ c.in-VarTerm.is c.requires.over in
    omega (arith, zero_low c.args.names.now c.in-VarTerm.u c.requires.names low, c.requires.size, c.args.marks.now.ok.0)

pub returns-else-not-index-clause-kept : goal.returns-else-not-index-clause-kept
returns-else-not-index-clause-kept c = λ atoms classes i below.
    let names = c.args.names.now in
    let marks = c.args.marks.now.items in
    let u = c.in-VarTerm.u in
    let low : u < length names = term_low (length names) c.args.atom.now u _ _ c.in-VarTerm.is c.requires.over in
    let within : get_or names u 0 < length marks = omega (arith, zero_low names u c.requires.names low, c.requires.size) in
    let set : get_or marks (name_in names u) false ≡ true =
    ap (λ (z : ℕ). get_or marks z false) (sym (zero_name names u low)) ∙ flag_read marks (get_or names u 0) c.index.result.now true within c.index.ensures c.if-not-index.false in
    c.reach_all.ensures.kept atoms classes
    (arguments_reached names atoms classes marks below u c.in-VarTerm.field-1 c.in-VarTerm.xs (subst (λ z. Contains atoms z) c.in-VarTerm.is i) set) below

pub returns-in-Finite-clause-kept : goal.returns-in-Finite-clause-kept
returns-in-Finite-clause-kept c = λ atoms classes i below.
    c.reach.ensures.kept atoms classes (marked (subst (λ z. Contains atoms z) c.in-Finite.is i) (itself c.in-Finite.u)) below
