use Rattle.std.proofs.Common.{◌≡◌, ◌<◌, ◌++◌, ◌∷◌, [], ℕ, List, length, replicate, arith, refl, sym, ap, ◌∙◌, subst}
use Rattle.std.specs.Prelude.{slice_set}
use Rattle.std.proofs.lemmas.List.{length-set, length-replicate}
use Rattle.flat_form.specs.declared.atom.Flat.{Flat}
use Rattle.flat_facts.specs.Spread.{IsLeastRound}
use Rattle.finiteness.specs.declared.search.Turn.{Turn}
use Rattle.finiteness.specs.declared.search.Mark.{Mark}
use Rattle.finiteness.specs.declared.search.Mark.TheVariants.{New, Open, Done}
use Rattle.finiteness.specs.Marks.{HasMark, AllAreSettled, IsOnward}
use Rattle.finiteness.proofs.Marking.{mark_read}
use Rattle.finiteness.proofs.Searching.{IsSearch, arguments_of, search_begins, next_within, turns_on, turns_round, turns_back, turns_end, done_more, read_new, less_on, less_back}
use Rattle.finiteness.proofs.search.search.Goals as goal

pub loop-next-init : goal.loop-next-init
loop-next-init c =
    let basic = c.args.b.now in
    let marks = c.in_ok-marks.marks.items in
    let new : marks ≡ replicate (length basic) New = c.in_ok-marks.ensures ∙ ap (λ n. replicate n New) c.len.ensures in
    record {
      some = c.requires.term;
      size = length-set marks c.args.start Open ∙ ap length new ∙ length-replicate (length basic) New;
      search = λ s here. subst (λ (z : List Turn). IsSearch basic s (slice_set marks c.args.start Open) z (record { place = c.args.start; argument = 0 }))
          (sym c.new-walk.ensures.items)
          (subst (λ (z : List Mark). IsSearch basic s (slice_set z c.args.start Open) [] (record { place = c.args.start; argument = 0 })) (sym new)
          (search_begins basic c.requires.solved.ascending c.args.start s here));
    }

pub onward-requires-clause-within : goal.onward-requires-clause-within
onward-requires-clause-within c =
    let (s, t) = c.loop-next.invariant.some in (c.loop-next.invariant.search s t).search.here.2.0

-- the next turn, over the marks as they stand
onward_is : (basic : List Flat) (now marks : List Mark) (top next : Turn) → now ≡ marks → IsOnward basic now top next → IsOnward basic marks top next
onward_is basic now marks top next e onward = subst (λ (z : List Mark). IsOnward basic z top next) e onward

pub index-requires : goal.index-requires
index-requires c =
    let (s, t) = c.loop-next.invariant.some in
    let onward : IsOnward c.args.b.now c.loop-next.marks.items c.loop-next.top c.in-Some.next =
    onward_is _ _ _ _ _ c.as_slice.ensures.value c.in-Some.ensures in
    let within : c.in-Some.next.place < length c.args.b.now =
    next_within c.args.b.now c.loop-next.marks.items c.loop-next.walk.items c.loop-next.top c.in-Some.next s (c.loop-next.invariant.search s t) onward in
    omega (arith, within, c.loop-next.invariant.size)

pub index_mut-requires-in-Some : goal.index_mut-requires-in-Some
index_mut-requires-in-Some c =
    let (s, t) = c.loop-next.invariant.some in
    let onward : IsOnward c.args.b.now c.loop-next.marks.items c.loop-next.top c.in-Some.next =
    onward_is _ _ _ _ _ c.as_slice.ensures.value c.in-Some.ensures in
    let within : c.in-Some.next.place < length c.args.b.now =
    next_within c.args.b.now c.loop-next.marks.items c.loop-next.walk.items c.loop-next.top c.in-Some.next s (c.loop-next.invariant.search s t) onward in
    omega (arith, within, c.loop-next.invariant.size)

pub returns-in-Open : goal.returns-in-Open
returns-in-Open c = λ v s target here.
    let basic = c.args.b.now in
    let marks = c.loop-next.marks.items in
    let walk = c.loop-next.walk.items in
    let top = c.loop-next.top in
    let next = c.in-Some.next in
    let onward : IsOnward basic marks top next = onward_is _ _ _ _ _ c.as_slice.ensures.value c.in-Some.ensures in
    let search : IsSearch basic s marks walk top = c.loop-next.invariant.search s here in
    let within : next.place < length marks = omega (arith, next_within basic marks walk top next s search onward, c.loop-next.invariant.size) in
    let open_there : HasMark marks next.place Open = mark_read marks next.place c.index.result.now Open within c.index.ensures c.in-Open.is in
    let pushed : c.push.new.self.items ≡ walk ++ record { place = top.place; argument = next.argument } ∷ [] = c.in_ok-push-in-Some.ensures.items in
    let same : c.in_ok-path-in-Some.field-0 ≡ arguments_of (walk ++ record { place = top.place; argument = next.argument } ∷ []) =
    c.in_ok-path-in-Some.ensures ∙ ap arguments_of (c.as_slice-in-Open.ensures.value ∙ pushed) in
    subst (λ (z : List ℕ). IsLeastRound basic v z) (sym same)
    (turns_round basic c.requires.solved.ascending marks c.loop-next.invariant.size s walk top search next onward open_there v target)

pub loop-next-smaller-in-Some : goal.loop-next-smaller-in-Some
loop-next-smaller-in-Some c =
    let (s, t) = c.loop-next.invariant.some in
    let basic = c.args.b.now in
    let marks = c.loop-next.marks.items in
    let walk = c.loop-next.walk.items in
    let top = c.loop-next.top in
    let next = c.in-Some.next in
    let onward : IsOnward basic marks top next = onward_is _ _ _ _ _ c.as_slice.ensures.value c.in-Some.ensures in
    let within : next.place < length marks =
    omega (arith, next_within basic marks walk top next s (c.loop-next.invariant.search s t) onward, c.loop-next.invariant.size) in
    less_on basic marks walk top next c.push.new.self.items (record { place = top.place; argument = next.argument })
    (read_new marks next.place c.index.result.now within c.index.ensures c.in_default.not-Open onward.waits) c.in_ok-push-in-Some.ensures.items

pub loop-next-preserved-in-Some : goal.loop-next-preserved-in-Some
loop-next-preserved-in-Some c =
    let basic = c.args.b.now in
    let marks = c.loop-next.marks.items in
    let walk = c.loop-next.walk.items in
    let top = c.loop-next.top in
    let next = c.in-Some.next in
    let onward : IsOnward basic marks top next = onward_is _ _ _ _ _ c.as_slice.ensures.value c.in-Some.ensures in
    record {
      some = c.loop-next.invariant.some;
      size = length-set marks next.place Open ∙ c.loop-next.invariant.size;
      search = λ s here.
          let search : IsSearch basic s marks walk top = c.loop-next.invariant.search s here in
          let within : next.place < length marks = omega (arith, next_within basic marks walk top next s search onward, c.loop-next.invariant.size) in
          let new : HasMark marks next.place New = read_new marks next.place c.index.result.now within c.index.ensures c.in_default.not-Open onward.waits in
          subst (λ (z : List Turn). IsSearch basic s (slice_set marks next.place Open) z (record { place = next.place; argument = 0 }))
          (sym c.in_ok-push-in-Some.ensures.items)
          (turns_on basic c.requires.solved.ascending marks c.loop-next.invariant.size s walk top search next onward new);
    }

-- all arguments are settled, over the marks as they stand
settled_is : (basic : List Flat) (now marks : List Mark) (top : Turn) → now ≡ marks → AllAreSettled basic now top → AllAreSettled basic marks top
settled_is basic now marks top e all = subst (λ (z : List Mark). AllAreSettled basic z top) e all

pub index_mut-requires-in-None : goal.index_mut-requires-in-None
index_mut-requires-in-None c =
    let (s, t) = c.loop-next.invariant.some in
    omega (arith, (c.loop-next.invariant.search s t).search.here.2.0, c.loop-next.invariant.size)

pub loop-next-smaller : goal.loop-next-smaller
loop-next-smaller c =
    let (s, t) = c.loop-next.invariant.some in
    let basic = c.args.b.now in
    let marks = c.loop-next.marks.items in
    let walk = c.loop-next.walk.items in
    let top = c.loop-next.top in
    let within : top.place < length marks = omega (arith, (c.loop-next.invariant.search s t).search.here.2.0, c.loop-next.invariant.size) in
    less_back basic marks walk top top c.pop.new.self.items c.in-Some-pop.turn within c.in-Some-pop.ensures.items

pub loop-next-preserved : goal.loop-next-preserved
loop-next-preserved c =
    let basic = c.args.b.now in
    let marks = c.loop-next.marks.items in
    let walk = c.loop-next.walk.items in
    let top = c.loop-next.top in
    let all : AllAreSettled basic marks top = settled_is _ _ _ _ c.as_slice.ensures.value c.in-None.ensures in
    record {
      some = c.loop-next.invariant.some;
      size = length-set marks top.place Done ∙ c.loop-next.invariant.size;
      search = λ s here.
          turns_back basic c.requires.solved.ascending marks c.loop-next.invariant.size s walk top (c.loop-next.invariant.search s here) all
          c.pop.new.self.items c.in-Some-pop.turn c.in-Some-pop.ensures.items;
    }

no_turns : (walk : List Turn) → length walk ≡ 0 → walk ≡ []
no_turns [] e = refl
no_turns (t ∷ walk) e = absurd (omega (arith, e))

pub returns-in-None-pop : goal.returns-in-None-pop
returns-in-None-pop c = λ v s target here.
    let basic = c.args.b.now in
    let marks = c.loop-next.marks.items in
    let walk = c.loop-next.walk.items in
    let top = c.loop-next.top in
    let all : AllAreSettled basic marks top = settled_is _ _ _ _ c.as_slice.ensures.value c.in-None.ensures in
    let search : IsSearch basic s marks walk top = c.loop-next.invariant.search s here in
    let up = c.requires.solved.ascending in
    let size = c.loop-next.invariant.size in
    let none : walk ≡ [] = no_turns walk (omega (arith, c.in-None-pop.ensures.cases.0)) in (
      length-set marks top.place Done ∙ size,
      done_more basic up marks size s walk top search all,
      turns_end basic up marks size s walk top search all none,
    )
