use Rattle.std.proofs.Common.{◌≡◌, ◌+◌, true, false, ℕ, Bool, List, length, get_or, take, sym, ap, ◌∙◌, subst, arith}
use Rattle.std.specs.Prelude.{All}
use Rattle.flat_form.proofs.Shapes.{all_next, all_taken}
use Rattle.std.proofs.lemmas.List.Elements.{All-contains}
use Rattle.flat_form.specs.Numbering.{AtomOver}
use Rattle.flat_form.specs.Solved.{HasTerm}
use Rattle.basic_solver.specs.Outcomes.{with_lead}
use Rattle.basic_solver.proofs.Led.{IsLed, all_led_kept, led_here, led_size, led_sound, leads_from}
use Rattle.basic_solver.proofs.Following.{stands_at}
use Rattle.basic_solver.proofs.bases.leads_of.Goals as goal

pub loop-i-preserved : goal.loop-i-preserved
loop-i-preserved c =
    let base = c.args.base.now in
    let i = c.loop-i.i in
    let atom = c.get.result.now in
    let old = c.loop-i.leads.items in
    let over : AtomOver (length old) atom = subst (λ (z : ℕ). AtomOver z atom) (sym c.loop-i.invariant.size)
    (All-contains (AtomOver c.args.count) base atom c.requires.over (stands_at base i atom c.get.ensures)) in
    record {
      size = ap length c.lead.ensures ∙ led_size old atom ∙ c.loop-i.invariant.size;
      sound = subst (λ (z : List Bool). (v : ℕ) → get_or z v false ≡ true → HasTerm base v) (sym c.lead.ensures)
          (led_sound base old atom (stands_at base i atom c.get.ensures) c.loop-i.invariant.sound);
      all = subst (λ (z : List Bool). All (IsLed z) (take (i + 1) base)) (sym c.lead.ensures)
          (all_next (IsLed (with_lead atom old)) base i atom c.get.ensures (all_led_kept old atom (take i base) c.loop-i.invariant.all) (led_here old atom over));
    }

pub returns-clause-leads : goal.returns-clause-leads
returns-clause-leads c =
    leads_from c.args.base.now c.loop-i.leads.items c.loop-i.invariant.sound
    (all_taken (IsLed c.loop-i.leads.items) c.args.base.now c.loop-i.i (omega arith) c.loop-i.invariant.all)
