use Rattle.std.proofs.Common.{◌≡◌, ℕ, ◌+◌, ◌<◌, ◌++◌, ◌∷◌, [], length, map, ap, sym, subst, ◌∙◌, arith}
use Rattle.std.specs.Prelude.{All}
use Rattle.std.specs.List.{range_with_len}
use Rattle.std.proofs.lemmas.List.Elements.{All-nil, All-cons, All-append}
use Rattle.std.proofs.lemmas.List.FromFn.{map-range_with_len_more}
use Rattle.witness_trees.specs.Fresh.{representative}
use Rattle.witness_trees.proofs.labels.tops.Goals as goal

pub loop-v-preserved : goal.loop-v-preserved
loop-v-preserved c =
    let f = representative c.args.atoms.now in
    let v = c.loop-v.v in
    let r = c.representative.result in
    let here : 0 + v ≡ v = omega arith in
    let Low : ℕ → Type 0 = λ w. w < length c.args.places.now in
    record {
      are = c.in_ok-push.ensures.ok ∙ ap (λ l. l ++ r ∷ []) c.loop-v.invariant.are ∙ ap (λ w. map f (range_with_len 0 v) ++ w ∷ []) c.representative.ensures.is
          ∙ sym (map-range_with_len_more f 0 v v here);
      below = subst (All Low) (sym c.in_ok-push.ensures.ok)
          (All-append Low c.loop-v.out (r ∷ []) c.loop-v.invariant.below (All-cons Low r [] c.representative.ensures.below (All-nil Low)));
    }
