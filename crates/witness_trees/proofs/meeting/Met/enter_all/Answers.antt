use Rattle.std.proofs.Common.{◌++◌, ◌∷◌, [], ℕ, List, take, subst, sym, ◌∙◌}
use Rattle.std.specs.Prelude.{slice_index}
use Rattle.std.proofs.lemmas.List.{take_more}
use Rattle.witness_trees.specs.Meeting.{AreEntered}
use Rattle.witness_trees.proofs.Entering.{entered_then}
use Rattle.witness_trees.proofs.meeting.Met.enter_all.Goals as goal

pub loop-v-preserved : goal.loop-v-preserved
loop-v-preserved c =
    let start = c.args.self.now.order in
    let old = c.loop-v.self.order in
    let new = c.enter.new.self.order in
    let vs = c.args.vs.now in
    let i = c.loop-v.v-index in
    let v = slice_index vs i in
    let place = c.in_ok-place.place in
    let all = entered_then start old new (take i vs) (v ∷ []) c.loop-v.places (place ∷ []) c.loop-v.invariant.entered c.in_ok-place.ensures.entered in
    record {
      count = c.enter.ensures.count ∙ c.loop-v.invariant.count;
      entered = subst (λ (l : List ℕ). AreEntered start new l c.push.new.self) (sym (take_more vs i 0 c.loop-v-test.true))
          (subst (λ (l : List ℕ). AreEntered start new (take i vs ++ v ∷ []) l) (sym c.in_ok-push.ensures.ok) all);
    }
