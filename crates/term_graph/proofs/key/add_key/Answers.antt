use Rattle.std.proofs.Common.{◌∙◌}
use Rattle.indexmap.proofs.CallerLemmas.{insert_entry-new}
use Rattle.term_graph.specs.contracts.key.KeyPartialEq.TheImpl as impl
use Rattle.term_graph.proofs.Keying.{lookup_key_as}
use Rattle.term_graph.proofs.key.add_key.Goals as goal

pub returns-clause-ok : goal.returns-clause-ok
returns-clause-ok c = c.in-Ok.ensures.entries ∙ insert_entry-new impl.eq-value.it c.args.table.now c.args.key c.args.term (lookup_key_as c.args.key c.args.table.now.entries ∙ c.requires)
