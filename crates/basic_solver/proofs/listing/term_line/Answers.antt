use Rattle.std.proofs.Common.{Option}
use Rattle.flat_form.specs.declared.atom.Flat.{Flat}
use Rattle.basic_solver.specs.Outcomes.{IsTermFor, IsTermLine}
use Rattle.basic_solver.proofs.Stored.{if_ok}
use Rattle.basic_solver.proofs.Noticed.{noted_line, no_line}
use Rattle.basic_solver.proofs.listing.term_line.Goals as goal

pub returns-in-Some : goal.returns-in-Some
returns-in-Some c =
    let names = c.args.names.now in
    let atoms = c.args.atoms.now in
    let term = c.in-Some.term.now in
    if_ok c.term_at.result (λ (found : Option Flat). IsTermFor names term c.args.v found) (λ (found : Option Flat). IsTermLine names atoms c.args.v found)
    (noted_line names c.args.terms.now atoms c.args.v term c.in-Some.ensures (c.requires.terms.stands c.args.v term c.in-Some.ensures)) c.term_at.ensures

pub returns-in-None : goal.returns-in-None
returns-in-None c = no_line c.args.names.now c.args.terms.now c.args.atoms.now c.args.v c.in-None.ensures c.requires.terms.noted
