use Rattle.std.proofs.Common.{sym, ◌∙◌}
use Rattle.signature.proofs.Standing.{stands_there, found_there, distinct_kept, found_kept}
use Rattle.signature.proofs.Signature.find.Goals as goal

pub returns-clause-stands : goal.returns-clause-stands
returns-clause-stands c =
    let first = c.get_index_of.ensures.index ∙ found_kept _ c.args.name.now in
    rw (← c.self.view_is) (λ place. (λ found. stands_there _ _ place (sym first ∙ found), λ stands. first ∙ found_there _ (distinct_kept _ c.get_index_of.ensures.unique) _ place stands))

pub returns-clause-first : goal.returns-clause-first
returns-clause-first c = rw (← c.self.view_is) (c.get_index_of.ensures.index ∙ found_kept _ c.args.name.now)

pub returns-clause-distinct : goal.returns-clause-distinct
returns-clause-distinct c = rw (← c.self.view_is) (distinct_kept _ c.get_index_of.ensures.unique)
