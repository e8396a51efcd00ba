use Rattle.std.proofs.Common.{◌++◌, ◌∷◌, [], take, subst, sym, ◌∙◌, arith, get_or, None}
use Rattle.std.proofs.lemmas.List.{take_more}
use Rattle.std.proofs.lemmas.List.Elements.{Contains-get_or}
use Rattle.congruence.specs.declared.noting.Note.{Note}
use Rattle.congruence.specs.Turns.{AreLinked}
use Rattle.congruence.proofs.Turning.{linked_more, found_of}
use Rattle.congruence.proofs.noting.link.Goals as goal

pub symbol-requires : goal.symbol-requires
symbol-requires c = c.requires.inside (get_or c.args.notes.now c.loop-note.note-index (record { term = 0; before = None }))
    (Contains-get_or c.args.notes.now c.loop-note.note-index (record { term = 0; before = None }) (omega (arith, c.loop-note-test.true)))

pub args-requires : goal.args-requires
args-requires c = c.requires.inside (get_or c.args.notes.now c.loop-note.note-index (record { term = 0; before = None }))
    (Contains-get_or c.args.notes.now c.loop-note.note-index (record { term = 0; before = None }) (omega (arith, c.loop-note-test.true)))

pub loop-note-preserved : goal.loop-note-preserved
loop-note-preserved c =
    let note : Note = get_or c.args.notes.now c.loop-note.note-index (record { term = 0; before = None }) in
    let seen = take_more c.args.notes.now c.loop-note.note-index (record { term = 0; before = None }) (omega (arith, c.loop-note-test.true)) in
    let linked = linked_more c.args.graph.now.contents c.args.waiting.now.alike c.loop-note.waiting.alike (take c.loop-note.note-index c.args.notes.now)
    (get_or c.args.notes.now c.loop-note.note-index (record { term = 0; before = None })) c.loop-note.invariant.1 c.in_ok-found.found
    (found_of c.args.graph.now.contents (get_or c.args.notes.now c.loop-note.note-index (record { term = 0; before = None })).term c.symbol.result.now c.as_slice.result.now c.in_ok-found.found
    c.symbol.ensures (c.as_slice.ensures ∙ c.args-in-loop-note.ensures) c.in_ok-found.ensures) in (
      c.in_ok-link_one.ensures.equal ∙ c.loop-note.invariant.0,
      subst (AreLinked c.args.graph.now.contents c.args.waiting.now.alike c.link_one.new.waiting.alike) (sym seen)
          (subst (λ z. AreLinked c.args.graph.now.contents c.args.waiting.now.alike z (take c.loop-note.note-index c.args.notes.now ++ get_or c.args.notes.now c.loop-note.note-index (record { term = 0; before = None }) ∷ []))
          (sym c.in_ok-link_one.ensures.alike) linked),
    )
