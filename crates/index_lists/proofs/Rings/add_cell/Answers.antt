use Rattle.std.proofs.Common.{◌≡◌, ◌∙◌, ap, length}
use Rattle.index_lists.specs.Rings.{with_cell}
use Rattle.index_lists.proofs.Rounds.{with_cell-round, with_cell-other, with_cell-is, length-with_cell}
use Rattle.index_lists.proofs.Rings.add_cell.Goals as goal

pub returns-clause-ok : goal.returns-clause-ok
returns-clause-ok c = with_cell-is c.args.after c.in_ok-cell.cell c.args.self.now c.new_ring.new.self c.splice.new.self c.in_ok-cell.ensures.cell c.in_ok-cell.ensures.ok c.splice.ensures.exchanged

pub returns-clause-joined : goal.returns-clause-joined
returns-clause-joined c = λ cells p.
    let e : c.splice.new.self ≡ with_cell c.args.after c.args.self.now = with_cell-is c.args.after c.in_ok-cell.cell c.args.self.now c.new_ring.new.self c.splice.new.self c.in_ok-cell.ensures.cell c.in_ok-cell.ensures.ok c.splice.ensures.exchanged in
    rw e (with_cell-round c.args.self.now c.rounds.ensures.inside c.args.after c.requires cells p)

pub returns-clause-others : goal.returns-clause-others
returns-clause-others c = λ s cells l n k p.
    let e : c.splice.new.self ≡ with_cell c.args.after c.args.self.now = with_cell-is c.args.after c.in_ok-cell.cell c.args.self.now c.new_ring.new.self c.splice.new.self c.in_ok-cell.ensures.cell c.in_ok-cell.ensures.ok c.splice.ensures.exchanged in
    rw e (with_cell-other c.args.self.now c.rounds.ensures.inside c.args.after c.requires s cells l n k p)

pub returns-clause-len : goal.returns-clause-len
returns-clause-len c =
    let e : c.splice.new.self ≡ with_cell c.args.after c.args.self.now = with_cell-is c.args.after c.in_ok-cell.cell c.args.self.now c.new_ring.new.self c.splice.new.self c.in_ok-cell.ensures.cell c.in_ok-cell.ensures.ok c.splice.ensures.exchanged in
    ap length e ∙ length-with_cell c.args.self.now c.rounds.ensures.inside c.args.after c.requires
