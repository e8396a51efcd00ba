use Rattle.std.proofs.Common.{◌≡◌, ℕ, ◌<◌, ◌∷◌, [], length, get_or, filter, not, ap, sym, subst, ◌∙◌, arith, Some, length-append}
use Rattle.std.specs.Prelude.{All, slice_get, slice_index}
use Rattle.std.specs.List.{range_with_len, list_any}
use Rattle.std.proofs.lemmas.List.Elements.{All-nil, All-cons, All-append}
use Rattle.tree_model.specs.declared.tree.Node.{Node}
use Rattle.tree_model.specs.Graphs.{ChildrenBelow}
use Rattle.lists.specs.Distinct.{IsDistinct}
use Rattle.flat_form.specs.Orders.{place_of}
use Rattle.witness_trees.specs.Fresh.{defines, unused, open_variables, index, label_by}
use Rattle.witness_trees.proofs.Taken.{unused_length}
use Rattle.witness_trees.proofs.Used.{filtered_low, filtered_distinct}
use Rattle.witness_trees.proofs.Labelled.{got_more}
use Rattle.witness_trees.proofs.labels.labels.Goals as goal

pub index_table-requires-clause-size : goal.index_table-requires-clause-size
index_table-requires-clause-size c =
    omega (arith, ap length c.as_slice-2.ensures.value, ap length c.in_ok-free.ensures, unused_length c.args.used.now c.len.result, c.len.ensures, ap length c.as_slice.ensures.value)

pub index_table-requires-clause-within : goal.index_table-requires-clause-within
index_table-requires-clause-within c =
    let n = length c.args.places.now in
    subst (All (λ v. v < n)) (sym (c.as_slice.ensures.value ∙ c.in_ok-opens.ensures)) (filtered_low (λ v. not (list_any (defines v) c.args.c.now.basic)) n)

pub index_table-requires-clause-distinct : goal.index_table-requires-clause-distinct
index_table-requires-clause-distinct c =
    subst IsDistinct (sym (c.as_slice.ensures.value ∙ c.in_ok-opens.ensures)) (filtered_distinct (λ v. not (list_any (defines v) c.args.c.now.basic)) (length c.args.places.now))

pub loop-v-preserved : goal.loop-v-preserved
loop-v-preserved c =
    let old = c.loop-v.labels.items in
    let one = c.in_ok-label.label in
    let indexes = c.in_ok-indexes.indexes.items in
    let basic = c.args.c.now.basic in
    let n = length c.args.places.now in
    let f : ℕ → Node = λ u. label_by basic (slice_index indexes u) u in
    let slice : c.as_slice-in-loop-v.result.now ≡ indexes = c.as_slice-in-loop-v.ensures.value in
    let at : one ≡ f (length old) =
    c.in_ok-label.ensures.is ∙ ap (λ l. label_by basic (slice_index l c.loop-v.v) c.loop-v.v) slice ∙ ap f (sym c.loop-v.invariant.size) in
    record {
      size = omega (arith, ap length c.in_ok-push.ensures.items, length-append old (one ∷ []), c.loop-v.invariant.size);
      are = λ u w. ap (λ l. slice_get l u) c.in_ok-push.ensures.items
          ∙ got_more old one f (λ k l. c.loop-v.invariant.are k (omega (arith, l, c.loop-v.invariant.size))) at u (omega (arith, w, c.loop-v.invariant.size));
      below = subst (All (ChildrenBelow n)) (sym c.in_ok-push.ensures.items)
          (All-append (ChildrenBelow n) old (one ∷ []) c.loop-v.invariant.below (All-cons (ChildrenBelow n) one [] c.in_ok-label.ensures.below (All-nil (ChildrenBelow n))));
    }

pub returns-clause-are : goal.returns-clause-are
returns-clause-are c = λ v w.
    let cube = c.args.c.now in
    let used = c.args.used.now in
    let made : c.in_ok-opens.opens.items ≡ open_variables cube =
    c.in_ok-opens.ensures ∙ ap (λ n. filter (λ v. not (list_any (defines v) cube.basic)) (range_with_len 0 n)) c.requires.size in
    let opens : c.as_slice.result.now ≡ open_variables cube = c.as_slice.ensures.value ∙ made in
    let count : c.len.result ≡ length (open_variables cube) = omega (arith, c.len.ensures, ap length made) in
    let free : c.as_slice-2.result.now ≡ unused used (length (open_variables cube)) = c.as_slice-2.ensures.value ∙ c.in_ok-free.ensures ∙ ap (unused used) count in
    let at : slice_index c.in_ok-indexes.indexes.items v ≡ index cube used v =
    c.in_ok-indexes.ensures.each v (omega (arith, w, c.loop-v.invariant.size)) ∙ ap (λ o. get_or c.as_slice-2.result.now (place_of o v) 0) opens
    ∙ ap (λ f. get_or f (place_of (open_variables cube) v) 0) free in
    c.loop-v.invariant.are v (omega (arith, w, c.loop-v.invariant.size)) ∙ ap (λ k. Some (label_by cube.basic k v)) at
