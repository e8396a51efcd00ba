use Rattle.term_graph.specs.Fields.{fields}
use Rattle.term_graph.proofs.Adding.{new-is}
use Rattle.term_graph.proofs.graph.Graph.new.Goals as goal

pub returns : goal.returns
returns c =
    new-is c.new-8.result.items (fields (record { slots = c.new.result; classes = c.new-2.result; terms = c.new-3.result; cells = c.new-4.result; rings = c.new-5.result; table = c.new-6.result; lowered = c.new-7.result }))
    c.new-8.ensures.items c.new.ensures.items c.new-3.ensures.items
