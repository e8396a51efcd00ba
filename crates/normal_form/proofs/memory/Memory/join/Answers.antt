use Rattle.normal_form.proofs.Remembered.{some_right, none_right}
use Rattle.normal_form.proofs.memory.Memory.join.Goals as goal
use Rattle.normal_form.proofs.memory.Memory.join.Goals.{in-Some-2+in_ok-keep-in-Some-2, in-None}

pub note-requires : goal.note-requires
note-requires c =
    let found = c.in_ok-cube.field-0 in
    let start = c.args.self.now in
    let mid = c.reduce.new.self in
    let left = c.args.left in
    let right = c.args.right in
    let one = c.args.one.now in
    let other = c.args.other.now in
    elim c.match-branch-3.branch [
      | in-Some-2+in_ok-keep-in-Some-2 w ↦
          some_right start mid left right one other c.in_ok-raw.raw found c.in_ok-cube.ensures.kept c.requires.left c.requires.right c.in_ok-raw.ensures c.in_ok-cube.ensures.outcome
          w.keep.new.self c.match-branch-3.self w.in-Some-2.cube w.in_ok-keep-in-Some-2.field-0 c.match-branch-3.outcome w.in-Some-2.is w.in_ok-keep-in-Some-2.ensures.kept
          w.in_ok-keep-in-Some-2.ensures.place w.self-is w.outcome-is
      | in-None w ↦
          none_right start mid left right one other c.in_ok-raw.raw found c.in_ok-cube.ensures.kept c.requires.left c.requires.right c.in_ok-raw.ensures c.in_ok-cube.ensures.outcome
          c.match-branch-3.self c.match-branch-3.outcome w.in-None.is w.self-is w.outcome-is
    ]
