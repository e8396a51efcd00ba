use Rattle.std.proofs.Common.{◌≡◌, ◌<◌, ◌++◌, ◌∷◌, [], ℕ, List, length, subst, ap, sym, ◌∙◌, arith}
use Rattle.std.specs.Prelude.{Contains, slice_set}
use Rattle.witness_trees.specs.Meeting.{Meeting, AreMet, AreEntered}
use Rattle.witness_trees.proofs.Entering.{known_entered, new_entered, met_more}
use Rattle.witness_trees.proofs.meeting.Met.enter.Goals as goal

pub returns-in-Some-clause-entered : goal.returns-in-Some-clause-entered
returns-in-Some-clause-entered c = known_entered c.args.self.now.order c.args.v c.in-Some.place c.in-Some.ensures

pub invariant_of-self-2 : goal.invariant_of-self-2
invariant_of-self-2 c =
    let order = c.self.inside.order.items in
    let places = c.self.inside.places.items in
    let v = c.args.v in
    let within : v < length places = omega (arith, c.requires.within, ap (λ (m : Meeting). m.count) c.self.view_is) in
    let none : ¬ Contains order v = subst (λ (l : List ℕ). ¬ Contains l v) (sym (ap (λ (m : Meeting). m.order) c.self.view_is)) c.in_default.ensures in
    let size : length order ≡ c.len-place.result = omega (arith, c.len-place.ensures) in
    subst (λ (l : List ℕ). AreMet l (slice_set places v c.len-place.result)) (sym c.in_ok-push.ensures.items)
    (subst (λ (n : ℕ). AreMet (order ++ v ∷ []) (slice_set places v n)) size (met_more order places v c.self.invariant within none))

pub returns-clause-entered : goal.returns-clause-entered
returns-clause-entered c =
    let order = c.args.self.now.order in
    let v = c.args.v in
    let view : c.self.inside.order.items ≡ order = ap (λ (m : Meeting). m.order) c.self.view_is in
    let grown : c.push.new.self.items ≡ order ++ v ∷ [] = c.in_ok-push.ensures.items ∙ ap (λ l. l ++ v ∷ []) view in
    let size : length order ≡ c.len-place.result = omega (arith, ap length view, c.len-place.ensures) in
    subst (λ (n : ℕ). AreEntered order c.push.new.self.items (v ∷ []) (n ∷ [])) size (new_entered order c.push.new.self.items v c.in_default.ensures grown)
