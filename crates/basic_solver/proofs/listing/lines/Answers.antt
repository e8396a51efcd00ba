use Rattle.std.proofs.Common.{◌≡◌, ◌+◌, ℕ, List, length, sym, subst, arith}
use Rattle.flat_form.specs.declared.atom.Flat.{Flat}
use Rattle.basic_solver.specs.Outcomes.{IsListed}
use Rattle.basic_solver.proofs.Answering.{listed_more}
use Rattle.basic_solver.proofs.listing.lines.Goals as goal

pub loop-v-preserved : goal.loop-v-preserved
loop-v-preserved c = λ leads base t bound said.
    let atoms = c.args.atoms.now in
    subst (λ (z : List Flat). IsListed (c.loop-v.v + 1) base atoms z) (sym c.in_ok-push_found.ensures)
    (listed_more base atoms c.loop-v.lines c.loop-v.v (c.loop-v.invariant leads base t bound said) c.in_ok-found.found (c.in_ok-found.ensures leads base t bound said))

pub returns : goal.returns
returns c = λ leads base t bound said.
    let end : c.loop-v.v ≡ length c.args.names.now = omega arith in
    subst (λ (z : ℕ). IsListed z base c.args.atoms.now c.loop-v.lines) end (c.loop-v.invariant leads base t bound said)
