-- Marks that are set, and what they say of variables.
use Rattle.std.proofs.Common.{ℕ, ◌≡◌, ◌<◌, ◌≤◌, ◌+◌, Some, List, length, get_or, sym, ap, ◌∙◌, subst, arith, inl, inr, ◌⊎◌}
use Rattle.std.specs.Prelude.{slice_set, slice_get, slice_index}
use Rattle.std.proofs.lemmas.List.{length-set, get_or-set_same, get_or-set_other, get_or_default}
use Rattle.tree_model.specs.declared.tree.Symbol.{Symbol}
use Rattle.flat_form.specs.declared.atom.Flat.{Flat}
use Rattle.flat_form.specs.declared.atom.Flat.TheVariants.{VarTerm}
use Rattle.flat_form.specs.Solved.{variable_of, Ascends}
use Rattle.finiteness.specs.declared.search.Mark.{Mark}
use Rattle.finiteness.specs.Places.{StandsAt, HasTermAt}
use Rattle.finiteness.specs.Marks.{HasMark, IsMarked, IsSettled, AreSettled}
use Rattle.finiteness.proofs.Standing.{one_atom, stands_as, one_term_place}

pub one_mark : (marks : List Mark) (p : ℕ) (a b : Mark) → HasMark marks p a → HasMark marks p b → a ≡ b
one_mark marks p a b h k = sym h.1 ∙ get_or_default marks p a b h.0 ∙ k.1

pub mark_read : (marks : List Mark) (p : ℕ) (x m : Mark) → p < length marks → x ≡ get_or marks p x → x ≡ m → HasMark marks p m
mark_read marks p x m w e is = (w, get_or_default marks p m x w ∙ sym e ∙ is)

module _ (marks : List Mark) (p : ℕ) (mark : Mark) where
  pub set_here : p < length marks → HasMark (slice_set marks p mark) p mark
  set_here w = (omega (arith, length-set marks p mark, w), get_or-set_same marks p mark mark w)

  pub set_aside : (q : ℕ) (m : Mark) → ¬ (q ≡ p) → HasMark marks q m → HasMark (slice_set marks p mark) q m
  set_aside q m n h = (omega (arith, length-set marks p mark, h.0), get_or-set_other marks p q mark m n ∙ h.1)

  pub set_before : (q : ℕ) (m : Mark) → ¬ (q ≡ p) → HasMark (slice_set marks p mark) q m → HasMark marks q m
  set_before q m n h = (omega (arith, length-set marks p mark, h.0), sym (get_or-set_other marks p q mark m n) ∙ h.1)

same_or_not : (m n : ℕ) → (m ≡ n) ⊎ (¬ (m ≡ n))
same_or_not m n = grind arith

pub one_variable : (basic : List Flat) (p v w : ℕ) → HasTermAt basic p v → HasTermAt basic p w → v ≡ w
one_variable basic p v w (s, xs, i) (t, ys, j) = ap variable_of (one_atom basic p (VarTerm v s xs) (VarTerm w t ys) i j)

module _ (basic : List Flat) (up : Ascends basic) (marks : List Mark) where
  pub one_marked : (a b : Mark) (v : ℕ) → IsMarked basic marks a v → IsMarked basic marks b v → a ≡ b
  one_marked a b v (p, t, h) (q, s, k) =
      one_mark marks p a b h (subst (λ z. HasMark marks z b) (sym (one_term_place basic up p q v t s)) k)

  module _ (p u : ℕ) (mark : Mark) (here : HasTermAt basic p u) (within : p < length marks) where
    pub marked_here : IsMarked basic (slice_set marks p mark) mark u
    marked_here = (p, here, set_here marks p mark within)

    pub marked_aside : (m : Mark) (w : ℕ) → ¬ (w ≡ u) → IsMarked basic marks m w → IsMarked basic (slice_set marks p mark) m w
    marked_aside m w n (q, t, h) = (
      q,
      t,
      set_aside marks p mark q m (λ e. n (one_variable basic p w u (subst (λ z. HasTermAt basic z w) e t) here)) h,
    )

    pub marked_before : (m : Mark) (w : ℕ) → IsMarked basic (slice_set marks p mark) m w → ((w ≡ u) × (m ≡ mark)) ⊎ IsMarked basic marks m w
    marked_before m w (q, t, h) = elim (same_or_not q p) [
      | inl e ↦ inl (
        one_variable basic p w u (subst (λ z. HasTermAt basic z w) e t) here,
        one_mark (slice_set marks p mark) p m mark (subst (λ z. HasMark (slice_set marks p mark) z m) e h) (set_here marks p mark within),
      )
      | inr n ↦ inr (q, t, set_before marks p mark q m n h)
    ]

module _ (basic : List Flat) (marks : List Mark) (place from upto : ℕ) (a : Flat) (v : ℕ) (t : Symbol) (ys : List ℕ) (at : slice_get basic place ≡ Some a)
    (is : a ≡ VarTerm v t ys) (settled : AreSettled basic marks place from upto) where
  arguments_here : (u : ℕ) (s : Symbol) (xs : List ℕ) → StandsAt basic place (VarTerm u s xs) → xs ≡ ys
  arguments_here u s xs p =
      let e : VarTerm u s xs ≡ VarTerm v t ys = one_atom basic place (VarTerm u s xs) (VarTerm v t ys) p (stands_as basic place a (VarTerm v t ys) at is) in
      cc

  pub settled_next : (x : ℕ) → x ≡ slice_index ys upto → IsSettled basic marks x → AreSettled basic marks place from (upto + 1)
  settled_next x e h u s xs p i k l w = elim (same_or_not i upto) [
    | inl same ↦
        let one : x ≡ slice_index xs i = cc (e, same, arguments_here u s xs p) in
        subst (λ z. IsSettled basic marks z) one h
    | inr other ↦ settled u s xs p i k (omega (arith, l, other)) w
  ]

  pub settled_whole : length ys ≤ upto → (n : ℕ) → AreSettled basic marks place from n
  settled_whole l n u s xs p i k m w = settled u s xs p i k (omega (arith, ap length (arguments_here u s xs p), l, w)) w
