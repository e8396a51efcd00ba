use Rattle.std.proofs.Common.{ℕ, ◌≡◌, ◌<◌, List, length, sym, subst, arith, inl, inr}
use Rattle.flat_form.specs.Classes.{turned}
use Rattle.basic_solver.specs.Names.{name_in, rank, IsNaming, IsSound, weight}
use Rattle.basic_solver.proofs.Naming.{lt_or_le, read_name, rank_apart, name_low, naming_kept, sound_kept, weight_falls}
use Rattle.basic_solver.proofs.names.join.Goals as goal

-- the second of two different variables comes first, where the first does not
later : (rl rr : ℕ) → ¬ (rl < rr) → ¬ (rl ≡ rr) → rr < rl
later rl rr a b = elim (lt_or_le rr rl) [
  | inl l ↦ l
  | inr l ↦ elim (lt_or_le rl rr) [ inl m ↦ absurd (a m) | inr m ↦ absurd (b (omega arith)) ]
]

pub comes_before-requires-clause-left : goal.comes_before-requires-clause-left
comes_before-requires-clause-left c =
    omega (
      arith,
      read_name c.args.names.now.items c.args.u c.index-left.result.now (omega (arith, c.requires.naming.size, c.requires.left)) c.index-left.ensures,
      name_low c.args.leads.now c.args.names.now.items c.requires.naming c.args.u c.requires.left,
    )

pub comes_before-requires-clause-right : goal.comes_before-requires-clause-right
comes_before-requires-clause-right c =
    omega (
      arith,
      read_name c.args.names.now.items c.args.v c.index-right.result.now (omega (arith, c.requires.naming.size, c.requires.right)) c.index-right.ensures,
      name_low c.args.leads.now c.args.names.now.items c.requires.naming c.args.v c.requires.right,
    )

pub returns-then-comes_before-clause-naming : goal.returns-then-comes_before-clause-naming
returns-then-comes_before-clause-naming c =
    let names = c.args.names.now.items in
    let el = read_name names c.args.u c.index-left.result.now (omega (arith, c.requires.naming.size, c.requires.left)) c.index-left.ensures in
    let er = read_name names c.args.v c.index-right.result.now (omega (arith, c.requires.naming.size, c.requires.right)) c.index-right.ensures in
    subst (λ (z : List ℕ). IsNaming c.args.leads.now z) (sym c.rename.ensures)
    (naming_kept c.args.leads.now names c.requires.naming c.args.v c.args.u c.requires.right c.requires.left c.index-right.result.now c.index-left.result.now er el
    (c.comes_before.ensures.0 c.if-comes_before.true))

pub returns-then-comes_before-clause-sound : goal.returns-then-comes_before-clause-sound
returns-then-comes_before-clause-sound c = λ atoms one sound.
    let names = c.args.names.now.items in
    let el = read_name names c.args.u c.index-left.result.now (omega (arith, c.requires.naming.size, c.requires.left)) c.index-left.ensures in
    let er = read_name names c.args.v c.index-right.result.now (omega (arith, c.requires.naming.size, c.requires.right)) c.index-right.ensures in
    subst (λ (z : List ℕ). IsSound atoms z) (sym c.rename.ensures)
    (sound_kept c.args.leads.now names c.requires.naming c.args.v c.args.u c.requires.right c.requires.left c.index-right.result.now c.index-left.result.now er el
    (c.comes_before.ensures.0 c.if-comes_before.true) atoms (turned one) sound)

pub returns-then-comes_before-clause-told : goal.returns-then-comes_before-clause-told
returns-then-comes_before-clause-told c =
    let names = c.args.names.now.items in
    let el = read_name names c.args.u c.index-left.result.now (omega (arith, c.requires.naming.size, c.requires.left)) c.index-left.ensures in
    let er = read_name names c.args.v c.index-right.result.now (omega (arith, c.requires.naming.size, c.requires.right)) c.index-right.ensures in
    subst (λ (z : List ℕ). weight c.args.leads.now z < weight c.args.leads.now names) (sym c.rename.ensures)
    (weight_falls c.args.leads.now names c.requires.naming c.args.v c.args.u c.requires.right c.requires.left c.index-right.result.now c.index-left.result.now er el
    (c.comes_before.ensures.0 c.if-comes_before.true))

pub returns-clause-naming : goal.returns-clause-naming
returns-clause-naming c =
    let leads = c.args.leads.now in
    let names = c.args.names.now.items in
    let left = c.index-left.result.now in
    let right = c.index-right.result.now in
    let el : left ≡ name_in names c.args.u = read_name names c.args.u left (omega (arith, c.requires.naming.size, c.requires.left)) c.index-left.ensures in
    let er : right ≡ name_in names c.args.v = read_name names c.args.v right (omega (arith, c.requires.naming.size, c.requires.right)) c.index-right.ensures in
    let wl : left < length leads = omega (arith, el, name_low leads names c.requires.naming c.args.u c.requires.left) in
    let wr : right < length leads = omega (arith, er, name_low leads names c.requires.naming c.args.v c.requires.right) in
    let less : rank leads right < rank leads left = later (rank leads left) (rank leads right)
    (λ l. absurd (cc (c.comes_before.ensures.1 l, c.if-comes_before.false)))
    (λ e. c.if-left-right.false (rank_apart leads left right wl wr e)) in
    subst (λ (z : List ℕ). IsNaming leads z) (sym c.rename-2.ensures)
    (naming_kept leads names c.requires.naming c.args.u c.args.v c.requires.left c.requires.right left right el er less)

pub returns-clause-sound : goal.returns-clause-sound
returns-clause-sound c = λ atoms one sound.
    let leads = c.args.leads.now in
    let names = c.args.names.now.items in
    let left = c.index-left.result.now in
    let right = c.index-right.result.now in
    let el : left ≡ name_in names c.args.u = read_name names c.args.u left (omega (arith, c.requires.naming.size, c.requires.left)) c.index-left.ensures in
    let er : right ≡ name_in names c.args.v = read_name names c.args.v right (omega (arith, c.requires.naming.size, c.requires.right)) c.index-right.ensures in
    let wl : left < length leads = omega (arith, el, name_low leads names c.requires.naming c.args.u c.requires.left) in
    let wr : right < length leads = omega (arith, er, name_low leads names c.requires.naming c.args.v c.requires.right) in
    let less : rank leads right < rank leads left = later (rank leads left) (rank leads right)
    (λ l. absurd (cc (c.comes_before.ensures.1 l, c.if-comes_before.false)))
    (λ e. c.if-left-right.false (rank_apart leads left right wl wr e)) in
    subst (λ (z : List ℕ). IsSound atoms z) (sym c.rename-2.ensures)
    (sound_kept leads names c.requires.naming c.args.u c.args.v c.requires.left c.requires.right left right el er less atoms one sound)

pub returns-clause-told : goal.returns-clause-told
returns-clause-told c =
    let leads = c.args.leads.now in
    let names = c.args.names.now.items in
    let left = c.index-left.result.now in
    let right = c.index-right.result.now in
    let el : left ≡ name_in names c.args.u = read_name names c.args.u left (omega (arith, c.requires.naming.size, c.requires.left)) c.index-left.ensures in
    let er : right ≡ name_in names c.args.v = read_name names c.args.v right (omega (arith, c.requires.naming.size, c.requires.right)) c.index-right.ensures in
    let wl : left < length leads = omega (arith, el, name_low leads names c.requires.naming c.args.u c.requires.left) in
    let wr : right < length leads = omega (arith, er, name_low leads names c.requires.naming c.args.v c.requires.right) in
    let less : rank leads right < rank leads left = later (rank leads left) (rank leads right)
    (λ l. absurd (cc (c.comes_before.ensures.1 l, c.if-comes_before.false)))
    (λ e. c.if-left-right.false (rank_apart leads left right wl wr e)) in
    subst (λ (z : List ℕ). weight leads z < weight leads names) (sym c.rename-2.ensures)
    (weight_falls leads names c.requires.naming c.args.u c.args.v c.requires.left c.requires.right left right el er less)
