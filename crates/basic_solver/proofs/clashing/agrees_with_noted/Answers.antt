use Rattle.std.proofs.Common.{◌≡◌, ◌<◌, ℕ, length, get_or, sym, ap, ◌∙◌, rules, arith, None}
use Rattle.basic_solver.specs.Names.{name_in}
use Rattle.basic_solver.proofs.Following.{term_low}
use Rattle.basic_solver.proofs.Flagging.{zero_name, zero_low}
use Rattle.basic_solver.proofs.Noticed.{noted_over, noted_named, agrees_alone, agrees_noted}
use Rattle.basic_solver.proofs.clashing.agrees_with_noted.Goals as goal

pub term_of-requires-clause-within : goal.term_of-requires-clause-within
term_of-requires-clause-within c =
    let low = term_low (length c.args.names.now) c.args.atom.now c.in-VarTerm.u _ _ c.in-VarTerm.is c.requires.one in
    omega (arith, zero_low c.args.names.now c.in-VarTerm.u c.requires.names low, c.requires.size)

pub agree-requires-clause-right : goal.agree-requires-clause-right
agree-requires-clause-right c =
    noted_over c.args.terms.now c.args.atoms.now (length c.args.names.now) (get_or c.args.names.now c.in-VarTerm.u 0) c.in-Some.term.now c.requires.over c.in-Some.ensures

pub returns-in-Some : goal.returns-in-Some
returns-in-Some c =
    let names = c.args.names.now in
    let u = c.in-VarTerm.u in
    let low : u < length names = term_low (length names) c.args.atom.now u _ _ c.in-VarTerm.is c.requires.one in
    agrees_noted c.args.terms.now c.args.atoms.now names c.args.atom.now u c.in-VarTerm.field-1 c.in-VarTerm.field-2 c.in-VarTerm.is c.in-Some.term.now c.agree.result
    (noted_named c.args.terms.now c.args.atoms.now (get_or names u 0) (name_in names u) c.in-Some.term.now (zero_name names u low) c.in-Some.ensures) c.agree.ensures

pub returns-in-None : goal.returns-in-None
returns-in-None c =
    let names = c.args.names.now in
    let u = c.in-VarTerm.u in
    let low : u < length names = term_low (length names) c.args.atom.now u _ _ c.in-VarTerm.is c.requires.one in
    let none : get_or c.args.terms.now (name_in names u) None ≡ None = ap (λ (z : ℕ). get_or c.args.terms.now z None) (sym (zero_name names u low)) ∙ c.in-None.ensures in (
      λ t. agrees_alone c.args.terms.now c.args.atoms.now names c.args.atom.now u c.in-VarTerm.field-1 c.in-VarTerm.field-2 c.in-VarTerm.is none,
      λ h. search rules,
    )
