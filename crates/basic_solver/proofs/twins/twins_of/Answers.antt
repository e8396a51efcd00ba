use Rattle.std.proofs.Common.{◌≡◌, ◌+◌, ℕ, List, length, sym, ap, subst, arith}
use Rattle.std.specs.HashMap.{get}
use Rattle.std.specs.Map.{lookup}
use Rattle.basic_solver.specs.Twins.{is_same_key}
use Rattle.basic_solver.proofs.Twinning.{IsTwinning, twinning_more, twinning_first, twins_from}
use Rattle.basic_solver.proofs.twins.twins_of.Goals as goal

pub loop-i-init : goal.loop-i-init
loop-i-init c =
    subst (λ (z : List ℕ). IsTwinning c.args.names.now c.args.atoms.now (get is_same_key c.in-Ok.table) z 0) (sym c.in-Ok-with_capacity.ensures.items)
    (twinning_first c.args.names.now c.args.atoms.now (get is_same_key c.in-Ok.table) (λ q. ap (lookup (is_same_key q)) c.in-Ok.ensures.empty))

pub loop-i-preserved : goal.loop-i-preserved
loop-i-preserved c =
    subst (λ (z : List ℕ). IsTwinning c.args.names.now c.args.atoms.now (get is_same_key c.twin.new.table) z (c.loop-i.i + 1)) (sym c.in-Ok-push.ensures.items)
    (twinning_more c.args.names.now c.args.atoms.now (get is_same_key c.loop-i.table) (get is_same_key c.twin.new.table) c.loop-i.twins.items c.loop-i.i c.in_ok-j.j
    c.get.result.now c.get.ensures c.loop-i.invariant c.in_ok-j.ensures)

pub returns : goal.returns
returns c =
    let end : c.loop-i.i ≡ length c.args.atoms.now = omega arith in
    twins_from c.args.names.now c.args.atoms.now (get is_same_key c.loop-i.table) c.loop-i.twins.items
    (subst (λ (z : ℕ). IsTwinning c.args.names.now c.args.atoms.now (get is_same_key c.loop-i.table) c.loop-i.twins.items z) end c.loop-i.invariant)
