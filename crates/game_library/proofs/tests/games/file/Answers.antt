use Rattle.game_library.proofs.TwoGames.{file_formed, chain_declared, graph_declared}
use Rattle.game_library.proofs.tests.games.file.Goals as goal

pub returns-clause-formed : goal.returns-clause-formed
returns-clause-formed c =
    file_formed _ c.in_ok-signature.ensures.entries c.in_ok-signature.ensures.distinct c.in_ok-preds.ensures.declared c.in_ok-preds.ensures.over c.new.ensures

pub returns-clause-chain : goal.returns-clause-chain
returns-clause-chain c = chain_declared _ c.in_ok-signature.ensures.entries

pub returns-clause-graph : goal.returns-clause-graph
returns-clause-graph c = graph_declared _ c.in_ok-signature.ensures.entries
