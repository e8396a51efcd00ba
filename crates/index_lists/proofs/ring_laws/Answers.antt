use Rattle.std.proofs.Common.{refl}
use Rattle.index_lists.proofs.Exchanging.{exchanged-twice}
use Rattle.index_lists.proofs.Rounds.{taken_away, way_once}
use Rattle.index_lists.proofs.ring_laws.Goals as goal

pub returns-clause-back : goal.returns-clause-back
returns-clause-back c = exchanged-twice

pub returns-clause-away : goal.returns-clause-away
returns-clause-away c = λ after next inside l. taken_away next inside after l

pub returns-clause-one : goal.returns-clause-one
returns-clause-one c = λ next s xs ys p q. way_once next s p.way q.way refl
