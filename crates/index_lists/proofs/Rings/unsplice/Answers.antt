use Rattle.index_lists.proofs.Rounds.{round_parted, round_other}
use Rattle.index_lists.proofs.Rings.unsplice.Goals as goal

pub returns-clause-parted : goal.returns-clause-parted
returns-clause-parted c = λ A B p. rw (c.exchange.ensures.exchanged, c.self.view_is) (round_parted c.args.self.now c.args.cut.a c.args.cut.b c.requires.a_in c.requires.b_in A B p)

pub returns-clause-others : goal.returns-clause-others
returns-clause-others c = λ s cells n m h k p. rw (c.exchange.ensures.exchanged, c.self.view_is) (round_other c.args.self.now c.args.cut.a c.args.cut.b s cells n m h k p)
