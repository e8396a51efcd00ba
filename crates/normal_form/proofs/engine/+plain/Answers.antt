use Rattle.std.proofs.Common.{ℕ, ◌+◌, ◌<◌, ◌≤◌, refl, subst}
use Rattle.std.proofs.lemmas.Result.{IfOk-weaker}
use Rattle.flat_form.specs.declared.normal.Normal.TheViews.{out-Normal}
use Rattle.flat_form.specs.Normals.{norm_of, norms_of}
use Rattle.step_facts.specs.Lists.{IsNot}
use Rattle.normal_form.proofs.NormLists.{norm_size, norms_size, parts_smaller, item_smaller, item_over, joins_first, joins_more, joins_all, inside_over, shut_over, plain_made}
use Rattle.normal_form.proofs.engine.+plain.Goals as goal

pub plain-first-requires : goal.plain-first-requires
plain-first-requires t c = (inside_over c.args.free c.in-Some.count c.args.n.now c.in-Some.ensures.1 c.requires).0

pub plain-with_parts-requires : goal.plain-with_parts-requires
plain-with_parts-requires t c = (
  subst (λ (k : ℕ). norms_size (norms_of (out-Normal c.args.n.now).parts) + 1 < k) c.decreases (parts_smaller c.args.n.now (out-Normal c.args.n.now).parts refl),
  (c.in_ok-first.ensures.over, (inside_over c.args.free c.in-Some.count c.args.n.now c.in-Some.ensures.1 c.requires).1),
)

pub plain-not_by-requires : goal.plain-not_by-requires
plain-not_by-requires t c =
    shut_over c.args.free c.in-Some.count _ c.in_ok-shut.shut c.in-Some.ensures.1 (c.in_ok-shut.ensures.over c.in-Some.count c.in_ok-all.ensures.over)

pub plain-returns-clause-exactly : goal.plain-returns-clause-exactly
plain-returns-clause-exactly t c =
    IfOk-weaker c.not_by.result (IsNot c.args.free c.in_ok-shut.shut) _ (λ out none. plain_made c.args.free c.in-Some.count c.args.n.now c.in_ok-first.first
    c.in_ok-all.all c.in_ok-shut.shut out c.in-Some.ensures.1 c.in_ok-first.ensures.takes c.in_ok-all.ensures.joined c.in_ok-shut.ensures.exactly none) c.not_by.ensures.exactly

pub with_parts-loop-i-init : goal.with_parts-loop-i-init
with_parts-loop-i-init t c = record { over = c.requires.first; joins = joins_first c.args.free c.args.first c.args.parts.now }

pub with_parts-plain-requires : goal.with_parts-plain-requires
with_parts-plain-requires t c = (
  subst (λ (k : ℕ). norm_size (norm_of c.get.result.now) < k) c.decreases (item_smaller c.args.parts.now c.loop-i.i c.get.result.now c.get.ensures),
  item_over c.args.free c.args.parts.now c.loop-i.i c.get.result.now c.get.ensures c.requires.parts,
)

pub with_parts-loop-i-preserved : goal.with_parts-loop-i-preserved
with_parts-loop-i-preserved t c = record {
  over = c.in_ok-all.ensures.over c.args.free c.loop-i.invariant.over c.in_ok-list.ensures.over;
  joins = joins_more c.args.free c.args.first c.args.parts.now c.loop-i.i c.get.result.now c.loop-i.all c.in_ok-list.list c.in_ok-all.all c.get.ensures
      c.in_ok-list.ensures.exactly c.in_ok-all.ensures.exactly c.loop-i.invariant.joins;
}

pub with_parts-returns-clause-joined : goal.with_parts-returns-clause-joined
with_parts-returns-clause-joined t c =
    joins_all c.args.free c.args.first c.args.parts.now c.loop-i.i c.loop-i.all (subst (λ (k : ℕ). k ≤ c.loop-i.i) c.len-i-end.ensures c.loop-i-test.false) c.loop-i.invariant.joins
