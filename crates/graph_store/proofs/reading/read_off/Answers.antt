use Rattle.std.proofs.Common.{◌+◌, List, sym, subst, arith}
use Rattle.flat_form.specs.declared.atom.Flat.{Flat}
use Rattle.settled_facts.specs.Forms.{Says}
use Rattle.settled_facts.proofs.Terms.{shaped_of}
use Rattle.graph_store.specs.Lines.{AreThose}
use Rattle.graph_store.proofs.Listing.{those_more}
use Rattle.graph_store.proofs.Saying.{all_read}
use Rattle.graph_store.proofs.reading.read_off.Goals as goal

pub loop-v-preserved : goal.loop-v-preserved
loop-v-preserved c =
    let has : Flat → Type 0 = Says c.args.graph.now.contents in
    subst (λ (z : List Flat). AreThose has (c.loop-v.v + 1) z) (sym c.in_ok-push_found.ensures)
    (those_more has c.loop-v.form c.loop-v.v c.loop-v.invariant c.in_ok-found.found c.in_ok-found.ensures)

pub returns : goal.returns
returns c =
    let contents = c.args.graph.now.contents in
    all_read contents (shaped_of contents c.well_formed-2.ensures) c.loop-v.v (omega arith) c.loop-v.form c.loop-v.invariant
