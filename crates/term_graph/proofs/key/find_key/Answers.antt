use Rattle.std.proofs.Common.{◌∙◌}
use Rattle.term_graph.proofs.Keying.{lookup_key_as}
use Rattle.term_graph.proofs.key.find_key.Goals as goal

pub returns : goal.returns
returns c = c.copied.ensures ∙ c.get.ensures.value ∙ lookup_key_as c.args.key.now c.args.table.now.entries
