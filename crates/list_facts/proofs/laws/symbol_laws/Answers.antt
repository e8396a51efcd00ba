use Rattle.list_facts.proofs.Symbols.{lists_have_symbols}
use Rattle.list_facts.proofs.laws.symbol_laws.Goals as goal

pub returns : goal.returns
returns c = lists_have_symbols
