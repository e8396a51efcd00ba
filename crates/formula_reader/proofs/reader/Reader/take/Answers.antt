use Rattle.formula_reader.proofs.Places.{next_kept}
use Rattle.formula_reader.proofs.reader.Reader.take.Goals as goal

pub invariant_of-self : goal.invariant_of-self
invariant_of-self c =
    let read = c.next_token-self-inside.ensures in
    (c.self.invariant.0, next_kept c.self.inside.bytes.now c.in-Ok-Some.token.to c.next_token-self-inside.result read.begins read.within read.ascii)
