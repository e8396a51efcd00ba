use Rattle.index_lists.proofs.Rounds.{round_joined, round_other}
use Rattle.index_lists.proofs.Rings.splice.Goals as goal

pub returns-clause-joined : goal.returns-clause-joined
returns-clause-joined c = λ A B n k p q. rw (c.exchange.ensures.exchanged, c.self.view_is) (round_joined c.args.self.now c.args.a c.args.b c.requires.a_in c.requires.b_in n A B k p q)

pub returns-clause-others : goal.returns-clause-others
returns-clause-others c = λ s cells n m h k p. rw (c.exchange.ensures.exchanged, c.self.view_is) (round_other c.args.self.now c.args.a c.args.b s cells n m h k p)
