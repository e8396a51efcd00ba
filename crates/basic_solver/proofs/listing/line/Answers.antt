use Rattle.std.proofs.Common.{◌≡◌, ◌<◌, ℕ, Bool, true, false, List, length, get_or, sym, ◌∙◌, subst, arith, Option, Some}
use Rattle.flat_form.specs.declared.atom.Flat.{Flat}
use Rattle.flat_form.specs.declared.atom.Flat.TheVariants.{VarVar}
use Rattle.basic_solver.specs.Names.{name_in}
use Rattle.basic_solver.specs.Outcomes.{IsTermLine, IsFiniteLine, IsLine}
use Rattle.basic_solver.specs.Bases.{AreSaid}
use Rattle.basic_solver.proofs.Flagging.{zero_name, flag_read}
use Rattle.basic_solver.proofs.Tables.{line_of_bound, line_equal, line_found, line_last}
use Rattle.basic_solver.proofs.listing.line.Goals as goal

pub returns-then-index : goal.returns-then-index
returns-then-index c = λ leads base t bound said.
    let flags = c.args.notes.now.bound.items in
    let v = c.args.v in
    let w : v < length flags = omega (arith, c.requires.size.bound, c.requires.within) in
    let flag : get_or flags v false ≡ true = flag_read flags v c.index.result.now true w c.index.ensures c.if-index.true in
    line_of_bound base c.args.atoms.now v (λ all. absurd (cc ((bound v).1 all, flag)))

pub returns-then-head-v : goal.returns-then-head-v
returns-then-head-v c = λ leads base t bound said.
    let names = c.args.names.now in
    let flags = c.args.notes.now.bound.items in
    let v = c.args.v in
    let w : v < length flags = omega (arith, c.requires.size.bound, c.requires.within) in
    let flag : get_or flags v false ≡ false = flag_read flags v c.index.result.now false w c.index.ensures c.if-index.false in
    subst (λ (z : ℕ). IsLine base c.args.atoms.now v (Some (VarVar v z))) (sym (zero_name names v c.requires.within))
    (line_equal leads names c.args.notes.now.marks.items base c.args.atoms.now t v c.requires.within ((bound v).0 flag)
    (λ e. c.if-head-v.true (zero_name names v c.requires.within ∙ e)))

pub returns-in-Some : goal.returns-in-Some
returns-in-Some c = λ leads base t bound said.
    let names = c.args.names.now in
    let flags = c.args.notes.now.bound.items in
    let v = c.args.v in
    let w : v < length flags = omega (arith, c.requires.size.bound, c.requires.within) in
    let flag : get_or flags v false ≡ false = flag_read flags v c.index.result.now false w c.index.ensures c.if-index.false in
    let own : name_in names v ≡ v = sym (zero_name names v c.requires.within) ∙ c.if-head-v.false in
    line_found leads names c.args.notes.now.marks.items base c.args.atoms.now t v c.requires.within own c.in-Some.found ((bound v).0 flag)
    (subst (λ (z : Option Flat). IsTermLine names c.args.atoms.now v z) c.in-Some.is c.in_ok-found.ensures)

pub returns-in-None : goal.returns-in-None
returns-in-None c = λ leads base t bound said.
    let names = c.args.names.now in
    let notes = c.args.notes.now in
    let flags = notes.bound.items in
    let v = c.args.v in
    let w : v < length flags = omega (arith, c.requires.size.bound, c.requires.within) in
    let flag : get_or flags v false ≡ false = flag_read flags v c.index.result.now false w c.index.ensures c.if-index.false in
    let own : name_in names v ≡ v = sym (zero_name names v c.requires.within) ∙ c.if-head-v.false in
    let there : AreSaid names base c.as_slice-in-None-2.result.now = subst (λ (z : List Bool). AreSaid names base z) (sym c.as_slice-in-None-2.ensures.value) said in
    let finite : IsFiniteLine names notes.marks.items base v c.finite_line.result =
    subst (λ (z : List Bool). IsFiniteLine names z base v c.finite_line.result) c.as_slice-in-None.ensures.value (c.finite_line.ensures names base there) in
    line_last leads names notes.marks.items base c.args.atoms.now t v c.requires.within own
    (subst (λ (z : Option Flat). IsTermLine names c.args.atoms.now v z) c.in-None.is c.in_ok-found.ensures) ((bound v).0 flag) c.finite_line.result finite
