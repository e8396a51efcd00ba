use Rattle.tree_facts.proofs.Tables.{read_from_table_solves, table_solves}
use Rattle.tree_facts.proofs.laws.table_laws.Goals as goal

pub returns-clause-table : goal.returns-clause-table
returns-clause-table c = table_solves

pub returns-clause-read_from_table : goal.returns-clause-read_from_table
returns-clause-read_from_table c = read_from_table_solves
