use Rattle.std.proofs.Common.{◌≡◌, List, ℕ, take, subst, arith}
use Rattle.std.proofs.lemmas.List.{take_all}
use Rattle.settled_facts.specs.Forms.{AreLeast}
use Rattle.settled_facts.proofs.Terms.{shaped_of}
use Rattle.graph_store.proofs.Saying.{least_named}
use Rattle.graph_store.proofs.reading.least_of.Goals as goal

pub returns : goal.returns
returns c =
    let contents = c.args.graph.now.contents in
    let all : take c.loop-i.i c.args.xs.now ≡ c.args.xs.now = take_all c.loop-i.i c.args.xs.now (omega arith) in
    least_named contents (shaped_of contents c.well_formed-2.ensures) c.args.xs.now c.loop-i.least
    (subst (λ (z : List ℕ). AreLeast contents z c.loop-i.least) all c.loop-i.invariant)
