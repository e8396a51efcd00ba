use Rattle.std.proofs.Common.{◌≡◌, ◌<◌, ◌+◌, take, arith, inl, inr, subst}
use Rattle.std.specs.Prelude.{All, List, ℕ}
use Rattle.flat_form.proofs.Shapes.{all_next, all_taken}
use Rattle.basic_solver.specs.Names.{weight}
use Rattle.basic_solver.specs.Terms.{IsServed}
use Rattle.basic_solver.proofs.Naming.{told_step, told_weaker}
use Rattle.basic_solver.proofs.closing.serve_all.Goals as goal
use Rattle.basic_solver.proofs.closing.serve_all.Goals.{then-serve, else-serve}

pub loop-i-preserved : goal.loop-i-preserved
loop-i-preserved c =
    let atoms = c.args.atoms.now in
    let terms = c.args.terms.now in
    let i = c.loop-i.i in
    let atom = c.get.result.now in
    let old = c.args.names.now.items in
    let mid = c.loop-i.names.items in
    let new = c.serve.new.names.items in
    record {
      naming = c.serve.ensures.naming;
      sound = λ sound. c.serve.ensures.sound (c.loop-i.invariant.sound sound);
      told = told_step c.args.leads.now old mid new c.loop-i.changed c.serve.result c.if-serve.changed
          (All (IsServed old terms atoms) (take i atoms)) (IsServed mid terms atoms atom) (All (IsServed old terms atoms) (take (i + 1) atoms))
          c.loop-i.invariant.told c.serve.ensures.told
          (elim c.if-serve.branch [ then-serve w ↦ inl (w.if-serve.true, w.changed-is) | else-serve w ↦ inr (w.if-serve.false, w.changed-is) ])
          (λ same before here. all_next (IsServed old terms atoms) atoms i atom c.get.ensures before (subst (λ (z : List ℕ). IsServed z terms atoms atom) same here));
    }

pub returns-clause-told : goal.returns-clause-told
returns-clause-told c =
    let atoms = c.args.atoms.now in
    let terms = c.args.terms.now in
    let i = c.loop-i.i in
    let old = c.args.names.now.items in
    let new = c.loop-i.names.items in
    told_weaker c.loop-i.changed (weight c.args.leads.now new < weight c.args.leads.now old) (new ≡ old)
    (All (IsServed old terms atoms) (take i atoms)) (All (IsServed old terms atoms) atoms) c.loop-i.invariant.told
    (λ all. all_taken (IsServed old terms atoms) atoms i (omega arith) all)
