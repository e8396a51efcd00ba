-- A ring followed from cell to cell, and the terms of the mentions that are left.
use Rattle.std.proofs.Common.{◌≡◌, ◌≢◌, ℕ, ◌<◌, List, [], ◌∷◌, length, get_or, refl, sym, ◌∙◌, ap, subst, Some, None, arith}
use Rattle.std.specs.Prelude.{Option}
use Rattle.index_lists.specs.Rings.{Way, there, on, IsRound, IsInside}
use Rattle.index_lists.proofs.Rounds.{length-round}
use Rattle.term_graph.specs.declared.parts.Mention.{Mention}
use Rattle.term_graph.specs.Fields.{behind, noted, used}
use Rattle.term_graph.specs.Walks.{IsOn, uses_left}
use Rattle.term_graph.proofs.Reading.{behind_is}

pub on_starts : (next : List ℕ) (head at : ℕ) (cells : List ℕ) → IsInside next → head < length next → IsRound next head cells → at ≡ get_or next head 0 → IsOn next head at
on_starts next head at cells inside l r e = record { inside = inside; within = rw e (inside head l); left = cells; way = subst (λ z. Way next head z cells) (sym e) r.way }

-- one cell on
pub on_goes : (next : List ℕ) (head at at' : ℕ) → at ≢ head → at' ≡ get_or next at 0 → IsOn next head at → IsOn next head at'
on_goes next head at at' n e h = by at h.left h.way refl
  where
    by : (d : ℕ) (left : List ℕ) → Way next head d left → d ≡ at → IsOn next head at'
    by d left there q = absurd (n (sym q))
    by d left (on {c = c} {cells = rest} k p) q = record {
      inside = h.inside;
      within = rw e (h.inside at h.within);
      left = rest;
      way = subst (λ z. Way next head z rest) (ap (λ z. get_or next z 0) q ∙ sym e) p;
    }

pub cells_on : (next : List ℕ) (head at at' : ℕ) → at ≢ head → at' ≡ get_or next at 0 → IsOn next head at → behind (length next) next head at ≡ at ∷ behind (length next) next head at'
cells_on next head at at' n e h = by at h.left h.way refl
  where
    steps : (c : ℕ) (left : List ℕ) → c < length next → Way next head c left → behind (length next) next head c ≡ left
    steps c left l w = behind_is next head w (length next) (length-round next head c left h.inside l w)

    by : (d : ℕ) (left : List ℕ) → Way next head d left → d ≡ at → behind (length next) next head at ≡ at ∷ behind (length next) next head at'
    by d left there q = absurd (n (sym q))
    by d left (on {c = c} {cells = rest} k p) q =
        let cl : c < length next = rw q h.within in
        let a : behind (length next) next head at ≡ c ∷ rest = ap (behind (length next) next head) (sym q) ∙ steps c (c ∷ rest) cl (on k p) in
        let b : behind (length next) next head at' ≡ rest = ap (behind (length next) next head) (e ∙ ap (λ z. get_or next z 0) (sym q)) ∙ steps (get_or next c 0) rest (h.inside c cl) p in
        a ∙ rw (q, b) refl

pub cells_fall : (next : List ℕ) (head at at' : ℕ) → at ≢ head → at' ≡ get_or next at 0 → IsOn next head at → length (behind (length next) next head at') < length (behind (length next) next head at)
cells_fall next head at at' n e h = let k = ap length (cells_on next head at at' n e h) in omega arith

module _ (ms : List (Option Mention)) (next : List ℕ) (head : ℕ) where
  pub uses_on : (at at' : ℕ) → at ≢ head → at' ≡ get_or next at 0 → IsOn next head at → uses_left ms next head at ≡ noted (get_or ms at None) (uses_left ms next head at')
  uses_on at at' n e h = ap (used ms) (cells_on next head at at' n e h)

  pub uses_pass : (at at' : ℕ) (o : Option Mention) → at ≢ head → at' ≡ get_or next at 0 → IsOn next head at → o ≡ get_or ms at None → o ≡ None → uses_left ms next head at ≡ uses_left ms next head at'
  uses_pass at at' o n e h oe k = uses_on at at' n e h ∙ ap (λ z. noted z (uses_left ms next head at')) (sym oe ∙ k)

  pub uses_yield : (at at' : ℕ) (o : Option Mention) (m : Mention) → at ≢ head → at' ≡ get_or next at 0 → IsOn next head at → o ≡ get_or ms at None → o ≡ Some m
      → uses_left ms next head at ≡ m.term ∷ uses_left ms next head at'
  uses_yield at at' o m n e h oe k = uses_on at at' n e h ∙ ap (λ z. noted z (uses_left ms next head at')) (sym oe ∙ k)

  pub uses_end : (at : ℕ) → at ≡ head → uses_left ms next head at ≡ []
  uses_end at e = ap (λ z. used ms (behind (length next) next head z)) e ∙ ap (used ms) (behind_is next head there (length next) (omega arith))
