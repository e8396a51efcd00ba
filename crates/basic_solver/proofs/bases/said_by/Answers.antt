use Rattle.std.proofs.Common.{◌+◌, Bool, List, length, take, sym, ap, ◌∙◌, subst, arith}
use Rattle.std.proofs.lemmas.List.Elements.{All-contains}
use Rattle.flat_form.proofs.Shapes.{all_taken}
use Rattle.flat_form.specs.Numbering.{AtomOver}
use Rattle.basic_solver.specs.Outcomes.{IsNoFinite}
use Rattle.basic_solver.proofs.Based.{IsClean, IsUsed, told_by_flags, said_size, said_clean, said_used}
use Rattle.basic_solver.proofs.Following.{stands_at}
use Rattle.basic_solver.proofs.bases.said_by.Goals as goal

pub loop-i-preserved : goal.loop-i-preserved
loop-i-preserved c =
    let names = c.args.names.now in
    let base = c.args.base.now in
    let i = c.loop-i.i in
    let atom = c.get.result.now in
    let old = c.loop-i.said.items in
    let over : AtomOver (length names) atom = All-contains (AtomOver (length names)) base atom c.requires.over (stands_at base i atom c.get.ensures) in
    record {
      size = ap length c.say.ensures ∙ said_size base old i names c.requires.names c.loop-i.invariant.size atom ∙ c.loop-i.invariant.size;
      clean = subst (λ (z : List Bool). IsClean (IsNoFinite names) (take (i + 1) base) z) (sym c.say.ensures)
          (said_clean base old i names c.requires.names c.loop-i.invariant.size atom c.get.ensures over c.loop-i.invariant.clean);
      used = subst (λ (z : List Bool). IsUsed (IsNoFinite names) base z) (sym c.say.ensures)
          (said_used base old i names c.requires.names c.loop-i.invariant.size atom c.get.ensures over c.loop-i.invariant.used);
    }

pub returns-clause-said : goal.returns-clause-said
returns-clause-said c =
    told_by_flags (IsNoFinite c.args.names.now) c.args.base.now c.loop-i.said.items
    (λ v e. all_taken (IsNoFinite c.args.names.now v) c.args.base.now c.loop-i.i (omega arith) (c.loop-i.invariant.clean v e)) c.loop-i.invariant.used
