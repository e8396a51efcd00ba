use Rattle.std.proofs.Common.{length, refl, sym, arith, rules}
use Rattle.basic_solver.proofs.Following.{term_low, read_two, read_other, follow_inward, follow_outward, follow_none, alike_moved}
use Rattle.basic_solver.proofs.closing.follow.Goals as goal

pub returns-then-index-clause-sound : goal.returns-then-index-clause-sound
returns-then-index-clause-sound c = λ atoms i j sound.
    let names = c.args.names.now.items in
    let wu = term_low (length c.args.leads.now) c.args.a.now _ _ _ c.in-VarTerm.is c.requires.left in
    let wv = term_low (length c.args.leads.now) c.args.b.now _ _ _ c.in-VarTerm-b.is c.requires.right in
    let one = read_two names _ _ _ _ (omega (arith, c.requires.naming.size, wu)) (omega (arith, c.requires.naming.size, wv)) c.index.ensures c.index-2.ensures c.if-index.true in
    c.join_all.ensures.sound atoms
    (follow_inward atoms names sound c.args.a.now c.args.b.now _ _ _ _ _ _ c.in-VarTerm.is c.in-VarTerm-b.is (search rules) (omega arith) i j one) sound

pub returns-then-are_alike-clause-sound : goal.returns-then-are_alike-clause-sound
returns-then-are_alike-clause-sound c = λ atoms i j sound.
    let names = c.args.names.now.items in
    c.join.ensures.sound atoms
    (follow_outward atoms names sound c.args.a.now c.args.b.now _ _ _ _ _ _ c.in-VarTerm.is c.in-VarTerm-b.is (search rules) (omega arith) i j
    (alike_moved c.deref.result.now names c.in-VarTerm.xs c.in-VarTerm-b.ys c.deref.ensures.value (c.are_alike.ensures.0 c.if-are_alike.true))) sound

pub returns-clause-told : goal.returns-clause-told
returns-clause-told c =
    let names = c.args.names.now.items in
    let wu = term_low (length c.args.leads.now) c.args.a.now _ _ _ c.in-VarTerm.is c.requires.left in
    let wv = term_low (length c.args.leads.now) c.args.b.now _ _ _ c.in-VarTerm-b.is c.requires.right in (
      refl,
      follow_none names c.args.a.now c.args.b.now _ _ _ _ _ _ c.in-VarTerm.is c.in-VarTerm-b.is
          (read_other names _ _ _ _ (omega (arith, c.requires.naming.size, wu)) (omega (arith, c.requires.naming.size, wv)) c.index.ensures c.index-2.ensures c.if-index.false)
          (λ alike. absurd (cc (c.are_alike.ensures.1 (alike_moved names c.deref.result.now c.in-VarTerm.xs c.in-VarTerm-b.ys (sym c.deref.ensures.value) alike), c.if-are_alike.false))),
    )
