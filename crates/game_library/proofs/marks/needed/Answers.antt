use Rattle.std.proofs.Common.{ℕ, ◌+◌, ◌-◌, sym, subst, ◌∙◌, arith}
use Rattle.formula_ast.specs.Forms.{form_of}
use Rattle.game_library.proofs.Declared.{place_within}
use Rattle.game_library.proofs.Needed.{IsMarkedFrom, first_marks, body_marks, body_passed, all_marked}
use Rattle.game_library.proofs.marks.needed.Goals as goal

pub loop-i-init : goal.loop-i-init
loop-i-init c =
    let adds = rw (c.in_ok-marks.ensures, c.len.ensures.len) at c.add_all.ensures in
    rw c.len-i.ensures (first_marks c.args.file.now (form_of c.args.f.now) c.requires.formed c.requires.over c.add_all.new.self adds)

pub of-requires : goal.of-requires
of-requires c =
    omega (arith, place_within c.args.file.now c.requires.formed (c.loop-i.i - 1) c.get-pred.result.now c.get-pred.ensures, c.loop-i.invariant.size)

pub loop-i-preserved-then-is_called : goal.loop-i-preserved-then-is_called
loop-i-preserved-then-is_called c =
    let from : IsMarkedFrom c.args.file.now (form_of c.args.f.now) (c.loop-i.i - 1 + 1) c.loop-i.marks =
    subst (λ (k : ℕ). IsMarkedFrom c.args.file.now (form_of c.args.f.now) k c.loop-i.marks) (omega (arith, c.loop-i-test.true)) c.loop-i.invariant in
    body_marks c.args.file.now (form_of c.args.f.now) c.requires.formed c.requires.over (c.loop-i.i - 1) c.get-pred.result.now c.loop-i.marks
    c.add_all-then-is_called.new.self c.get-pred.ensures from c.add_all-then-is_called.ensures

pub loop-i-preserved : goal.loop-i-preserved
loop-i-preserved c =
    let from : IsMarkedFrom c.args.file.now (form_of c.args.f.now) (c.loop-i.i - 1 + 1) c.loop-i.marks =
    subst (λ (k : ℕ). IsMarkedFrom c.args.file.now (form_of c.args.f.now) k c.loop-i.marks) (omega (arith, c.loop-i-test.true)) c.loop-i.invariant in
    body_passed c.args.file.now (form_of c.args.f.now) c.requires.formed c.requires.over (c.loop-i.i - 1) c.get-pred.result.now c.loop-i.marks c.of.result
    c.get-pred.ensures c.of.ensures (sym c.is_called.ensures ∙ c.if-is_called.false) from

pub returns : goal.returns
returns c =
    all_marked c.args.file.now (form_of c.args.f.now) c.requires.formed c.requires.over c.loop-i.marks
    (subst (λ (k : ℕ). IsMarkedFrom c.args.file.now (form_of c.args.f.now) k c.loop-i.marks) (omega (arith, c.loop-i-test.false)) c.loop-i.invariant)
