-- Free variables stay exactly where no change takes one.
use Rattle.std.proofs.Common.{ℕ, ◌≡◌, List, sym, ap, ◌∙◌, subst, arith, get_or-set_same}
use Rattle.std.specs.Prelude.{slice_index_or, false, true}
use Rattle.term_graph.specs.Contents.{Contents, binding_of, target}
use Rattle.term_graph.proofs.Forests.{root_of_root}
use Rattle.settled_facts.specs.Settled.{name, IsFree, IsMarked, IsShaped}
use Rattle.settled_facts.specs.Changes.{IsChange, joined, termed, marked, interned, IsLater, FreeStay, TakesFree, by_join, by_term, by_mark, FreeStayUnlessTaken}
use Rattle.settled_facts.proofs.Terms.{name_free}
use Rattle.settled_facts.proofs.Changing.{join_other, join_bound, term_bound, change_later}

-- what is free was free
pub was_free : (then now : Contents) → IsLater then now → (r : ℕ) → IsFree now r → IsFree then r
was_free then now later r f =
    let own : name now r ≡ r = name_free now r f in
    let old : name then r ≡ r = root_of_root then.bindings r (later.roots r (ap target f)) in
    subst (λ (z : ℕ). IsFree then z) old (later.free r (subst (λ (z : ℕ). IsFree now z) (sym own) f))

module _ (then before after : Contents) (shaped : IsShaped before) (later : IsLater then before) where
  taken : FreeStay then after → ¬ TakesFree before after
  taken stay (by_join v w j f) = let a = (stay v (was_free then before later v f)).0 in let b = join_bound before after v w shaped j in cc
  taken stay (by_term v t j) = let a = (stay v (was_free then before later v j.free)).0 in let b = term_bound before after v t j in cc
  taken stay (by_mark v j) =
      let set : IsMarked after v = ap (λ z. slice_index_or z v false) j.marks ∙ get_or-set_same before.marks v true false (omega (arith, shaped.marks, j.within)) in
      j.bare (later.marks v ((stay v (was_free then before later v j.free)).1 set))

  stay_before : (touched : List ℕ) → IsChange before after touched → FreeStay then after → FreeStay then before
  stay_before touched change stay r f =
      let next = change_later before after touched shaped change in
      (was_free before after next r (stay r f).0, λ m. (stay r f).1 (next.marks r m))

  stay_after : (touched : List ℕ) → IsChange before after touched → FreeStay then before → ¬ TakesFree before after → FreeStay then after
  stay_after touched (joined v w e j) stay none r f = (
    join_other before after v w shaped j r (λ i. none (by_join v w j (subst (λ (z : ℕ). IsFree before z) i (stay r f).0))) ∙ (stay r f).0,
    λ m. (stay r f).1 (ap (λ z. slice_index_or z r false) (sym j.marks) ∙ m),
  )
  stay_after touched (termed v t e j) stay none r f = absurd (none (by_term v t j))
  stay_after touched (marked v e j) stay none r f = absurd (none (by_mark v j))
  stay_after touched (interned e j) stay none r f = (
    ap (λ b. binding_of b r) j.bindings ∙ (stay r f).0,
    λ m. (stay r f).1 (ap (λ z. slice_index_or z r false) (sym j.marks) ∙ m),
  )

pub free_stay_unless_taken : FreeStayUnlessTaken
free_stay_unless_taken then before after touched shaped later change = (
  λ stay. (stay_before then before after shaped later touched change stay, taken then before after shaped later stay),
  λ both. stay_after then before after shaped later touched change both.0 both.1,
)
