use Rattle.std.proofs.Common.{sym, refl}
use Rattle.formula_grammar.specs.Machine as m
use Rattle.formula_reader.proofs.Steps.{refused_here, blocked, refused_as, expects}
use Rattle.formula_reader.proofs.reader.Reader.expect.Goals as goal

pub returns-then-sees : goal.returns-then-sees
returns-then-sees c = λ σ.
    expects σ c.args.self.now c.take.new.self c.args.kind c.take.result c.requires (sym c.if-sees.ensures) c.take.ensures.takes c.take.ensures.keeps c.take.ensures.joints
    c.take.ensures.stops

pub returns-else-sees : goal.returns-else-sees
returns-else-sees c = λ σ s.
    refused_as _ _ c.fault.ensures
    (refused_here σ c.args.self.now (m.plain c.args.kind) refl (blocked c.args.kind c.args.self.now (m.plain c.args.kind) (sym c.if-sees.ensures) (λ t no. rw no refl)) s)
