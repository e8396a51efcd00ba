use Rattle.std.proofs.Common.{refl}
use Rattle.std.proofs.lemmas.List.{map-set, length-map}
use Rattle.index_lists.proofs.Exchanging.{map-set_kept}
use Rattle.index_lists.proofs.set_previous.Goals as goal

pub returns-clause-previous : goal.returns-clause-previous
returns-clause-previous c = map-set (λ l. l.previous) c.args.cells.now.items c.args.at _

pub returns-clause-next : goal.returns-clause-next
returns-clause-next c = map-set_kept (λ l. l.next) c.args.cells.now.items c.args.at c.index_mut.result.now _ (rw length-map at c.requires) c.index_mut.ensures.value refl
