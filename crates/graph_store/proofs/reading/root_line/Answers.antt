use Rattle.std.proofs.Common.{sym}
use Rattle.settled_facts.proofs.Terms.{shaped_of}
use Rattle.graph_store.proofs.Saying.{term_said}
use Rattle.graph_store.proofs.reading.root_line.Goals as goal

pub returns-in_ok-least-in-Term : goal.returns-in_ok-least-in-Term
returns-in_ok-least-in-Term c =
    let contents = c.args.graph.now.contents in
    term_said contents (shaped_of contents c.well_formed-2.ensures) c.args.v c.args.root c.in-Term.t c.requires.least c.requires.root (sym c.in-Term.ensures)
    c.symbol.result.now c.as_slice.result.now c.in_ok-least-in-Term.least c.symbol.ensures (cc) c.in_ok-least-in-Term.ensures
