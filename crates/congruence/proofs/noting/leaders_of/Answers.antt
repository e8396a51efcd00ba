use Rattle.std.proofs.Common.{◌∙◌, ◌≡◌, ap, subst, sym, arith, List, take, get_or, ℕ, ◌++◌, ◌∷◌, []}
use Rattle.std.proofs.lemmas.List.{take_more}
use Rattle.std.proofs.lemmas.List.Elements.{Contains-get_or}
use Rattle.std.specs.Prelude.{Contains}
use Rattle.congruence.specs.declared.noting.Note.{Note}
use Rattle.congruence.specs.Turns.{AreNotesOf}
use Rattle.congruence.proofs.Turning.{noted_less, noted_more, noted_some, noted_no, all_noted, take_whole}
use Rattle.congruence.proofs.noting.leaders_of.Goals as goal
use Rattle.congruence.proofs.noting.leaders_of.Goals.{in-Some+in_ok-push-in-Some, in-None}

pub note_of-requires-clause-t_in : goal.note_of-requires-clause-t_in
note_of-requires-clause-t_in c =
    ((c.in_ok-users.ensures.each (get_or c.as_slice-t-items.result.now c.loop-t.t-index 0)).0
    (subst (λ (z : List ℕ). Contains z (get_or c.as_slice-t-items.result.now c.loop-t.t-index 0)) c.as_slice-t-items.ensures
    (Contains-get_or c.as_slice-t-items.result.now c.loop-t.t-index 0 (omega (arith, c.loop-t-test.true))))).0

pub loop-t-preserved : goal.loop-t-preserved
loop-t-preserved c =
    let more = take_more c.as_slice-t-items.result.now c.loop-t.t-index 0 (omega (arith, c.loop-t-test.true)) in
    subst (λ (z : List ℕ). AreNotesOf c.args.graph.now.contents c.args.v c.args.w z c.match-branch-3.notes.items) (sym more) (elim c.match-branch-3.branch [
      | in-Some+in_ok-push-in-Some w ↦ subst (λ (z : List Note). AreNotesOf c.args.graph.now.contents c.args.v c.args.w (take c.loop-t.t-index c.as_slice-t-items.result.now ++ get_or c.as_slice-t-items.result.now c.loop-t.t-index 0 ∷ []) z)
          (sym (ap (λ z. z.items) w.notes-is ∙ w.in_ok-push-in-Some.ensures.items))
          (noted_more c.args.graph.now.contents c.args.v c.args.w (take c.loop-t.t-index c.as_slice-t-items.result.now) c.loop-t.notes.items (get_or c.as_slice-t-items.result.now c.loop-t.t-index 0) c.loop-t.invariant w.in-Some.note
          (noted_some c.args.graph.now.contents c.args.v c.args.w (get_or c.as_slice-t-items.result.now c.loop-t.t-index 0) c.in_ok-note.field-0 w.in-Some.note w.in-Some.is c.in_ok-note.ensures))
      | in-None w ↦ subst (λ (z : List Note). AreNotesOf c.args.graph.now.contents c.args.v c.args.w (take c.loop-t.t-index c.as_slice-t-items.result.now ++ get_or c.as_slice-t-items.result.now c.loop-t.t-index 0 ∷ []) z)
          (sym (ap (λ z. z.items) w.notes-is))
          (noted_less c.args.graph.now.contents c.args.v c.args.w (take c.loop-t.t-index c.as_slice-t-items.result.now) c.loop-t.notes.items (get_or c.as_slice-t-items.result.now c.loop-t.t-index 0) c.loop-t.invariant
          (noted_no c.args.graph.now.contents c.args.v c.args.w (get_or c.as_slice-t-items.result.now c.loop-t.t-index 0) c.in_ok-note.field-0 w.in-None.is c.in_ok-note.ensures))
    ])

pub returns : goal.returns
returns c =
    let all : take c.loop-t.t-index c.as_slice-t-items.result.now ≡ c.in_ok-users.users = take_whole c.as_slice-t-items.result.now c.loop-t.t-index (omega arith) ∙ c.as_slice-t-items.ensures in
    all_noted c.args.graph.now.contents c.args.v c.args.w c.in_ok-users.users c.loop-t.notes.items c.requires.v_root c.in_ok-users.ensures
    (subst (λ (z : List ℕ). AreNotesOf c.args.graph.now.contents c.args.v c.args.w z c.loop-t.notes.items) all c.loop-t.invariant)
