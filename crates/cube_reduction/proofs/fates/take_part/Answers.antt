use Rattle.cube_reduction.proofs.fates.take_part.Goals as goal

pub returns : goal.returns
returns c = record {
  kept = c.in_ok-note.ensures;
  taken = (c.in_ok-fate.fate, c.in_ok-fate.ensures, c.in_ok-goes_on.ensures);
}
