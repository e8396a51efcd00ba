use Rattle.std.proofs.Common.{◌≡◌, None, rules}
use Rattle.std.specs.Map.{lookup}
use Rattle.term_graph.specs.Keys.{is_key_of}
use Rattle.term_graph.proofs.Noting.{noted_lowered_by, noted_added_by, place_is}
use Rattle.term_graph.proofs.key.note.Goals as goal

pub returns-in-Some-clause-noted : goal.returns-in-Some-clause-noted
returns-in-Some-clause-noted c =
    noted_lowered_by c.lower.result c.args.table.now.entries c.lower.new.table.entries c.args.key c.in-Some.place c.args.t (place_is c.args.key c.args.table.now.entries c.in-Some.place c.in-Some.ensures.index) c.in-Some.ensures.within c.lower.ensures.lowered

pub returns-in-Some-clause-keys : goal.returns-in-Some-clause-keys
returns-in-Some-clause-keys c = λ n a h. c.lower.ensures.keys n h

pub returns-in-None-clause-noted : goal.returns-in-None-clause-noted
returns-in-None-clause-noted c =
    let z : lookup (is_key_of c.args.key.sign c.args.key.args.items) c.args.table.now.entries ≡ None = search rules in
    noted_added_by c.add_key.result c.args.table.now.entries c.add_key.new.table.entries c.args.key c.args.t z c.add_key.ensures.ok
