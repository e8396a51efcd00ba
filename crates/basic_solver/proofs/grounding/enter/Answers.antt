use Rattle.std.proofs.Common.{◌≡◌, ◌<◌, ◌≤◌, ◌+◌, ◌*◌, ℕ, true, false, length, get_or, subst, arith}
use Rattle.std.specs.Prelude.{slice_set, All}
use Rattle.std.proofs.lemmas.List.Elements.{All-contains}
use Rattle.flat_form.specs.declared.atom.Flat.{Flat}
use Rattle.flat_form.specs.declared.atom.Flat.TheVariants.{VarTerm}
use Rattle.flat_form.specs.Numbering.{AtomOver}
use Rattle.basic_solver.specs.declared.grounding.Visit.TheVariants.{Leave}
use Rattle.basic_solver.specs.Flags.{left_over}
use Rattle.basic_solver.specs.Visits.{IsVisit}
use Rattle.basic_solver.proofs.Flagging.{flag_read}
use Rattle.basic_solver.proofs.Following.{stands_at}
use Rattle.basic_solver.proofs.Telling.{on_ok}
use Rattle.basic_solver.proofs.Visiting.{all_pushed, pushed_size, seen_less}
use Rattle.basic_solver.proofs.grounding.enter.Goals as goal

pub returns-clause-visits : goal.returns-clause-visits
returns-clause-visits c =
    let n = length c.args.atoms.now in
    let count = length c.args.names.now in
    let P = IsVisit count n in
    let pushed = c.push.new.self.items in
    let new = c.enter_arguments.new.visits.items in
    on_ok c.enter_arguments.result ((m : ℕ) → All (IsVisit count m) pushed → All (IsVisit count m) new) (All P c.args.visits.now.items → All P new)
    (λ f given. f n (all_pushed P c.args.visits.now.items pushed (Leave c.in-Some.i) c.in-Ok.ensures.items (c.requires.places c.args.name c.in-Some.i c.in-Some.is) given))
    c.enter_arguments.ensures.visits

pub returns-clause-less : goal.returns-clause-less
returns-clause-less c =
    let names = c.args.names.now in
    let atoms = c.args.atoms.now in
    let seen = c.args.seen.now.items in
    let name = c.args.name in
    let xs = c.in-VarTerm.xs in
    let before = c.args.visits.now.items in
    let pushed = c.push.new.self.items in
    let new = c.enter_arguments.new.visits.items in
    let within : name < length seen = omega (arith, c.requires.within, c.requires.seen) in
    let unset : get_or seen name false ≡ false = flag_read seen name c.index.result.now false within c.index.ensures c.if-index.false in
    let over : AtomOver (length names) (VarTerm c.in-VarTerm.field-0 c.in-VarTerm.field-1 xs) = subst (λ (z : Flat). AtomOver (length names) z) c.in-VarTerm.is
    (All-contains (AtomOver (length names)) atoms c.get.result.now c.requires.over (stands_at atoms c.in-Some.i c.get.result.now c.get.ensures)) in
    let one : length pushed ≡ length before + 1 = pushed_size before pushed (Leave c.in-Some.i) c.in-Ok.ensures.items in
    let few : length xs ≤ 8 = over.2 in
    on_ok c.enter_arguments.result (length new ≡ length pushed + length xs)
    (10 * left_over (slice_set seen name true) + length new ≤ 10 * left_over seen + length before)
    (λ e. seen_less seen name (length before) (length new) within unset (omega (arith, e, one, few))) c.enter_arguments.ensures.more
