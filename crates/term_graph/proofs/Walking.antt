-- A ring walked from cell to cell, and what is gathered on the way.
use Rattle.std.proofs.Common.{ℕ, ◌≡◌, ◌≢◌, ◌<◌, List, [], ◌∷◌, ◌++◌, length, get_or, refl, sym, ap, ◌∙◌, subst, None, arith, append_assoc}
use Rattle.std.proofs.lemmas.List.{append-nil, get_or-map}
use Rattle.index_lists.specs.Rings.{Way, there, on, IsRound, IsInside}
use Rattle.index_lists.proofs.Rounds.{length-round, way_once}
use Rattle.term_graph.specs.declared.parts.Cell.{Cell}
use Rattle.term_graph.specs.Fields.{behind, mentions_of}
use Rattle.term_graph.proofs.Reading.{behind_is}

-- what each cell gives
abbrev pub gathered : (ℕ → List ℕ) → List ℕ → List ℕ
gathered give [] = []
gathered give (c ∷ cs) = give c ++ gathered give cs

-- as far as the walk has come: these cells are left of those of the ring
pub record IsWalked (next : List ℕ) (give : ℕ → List ℕ) (head at : ℕ) (sofar : List ℕ) : Type 0 where
  pub cells : List ℕ
  pub round : IsRound next head cells
  pub within : at < length next
  pub left : List ℕ
  pub way : Way next head at left
  pub whole : sofar ++ gathered give left ≡ gathered give cells

pub walk_starts : (next : List ℕ) (give : ℕ → List ℕ) (head at : ℕ) (cells sofar : List ℕ) → IsInside next → head < length next → IsRound next head cells
    → at ≡ get_or next head 0 → sofar ≡ [] → IsWalked next give head at sofar
walk_starts next give head at cells sofar inside l r e f = record {
  cells = cells;
  round = r;
  within = rw e (inside head l);
  left = cells;
  way = subst (λ z. Way next head z cells) (sym e) r.way;
  whole = rw f refl;
}

module _ (next : List ℕ) (head : ℕ) (inside : IsInside next) where
  pub walk_goes : (give : ℕ → List ℕ) (at at' : ℕ) (sofar sofar' : List ℕ) → at ≢ head → at' ≡ get_or next at 0 → sofar' ≡ sofar ++ give at
      → IsWalked next give head at sofar → IsWalked next give head at' sofar'
  walk_goes give at at' sofar sofar' n e f h = by at h.left h.way refl h.whole
    where
      by : (d : ℕ) (left : List ℕ) → Way next head d left → d ≡ at → sofar ++ gathered give left ≡ gathered give h.cells → IsWalked next give head at' sofar'
      by d left there q w = absurd (n (sym q))
      by d left (on {c = c} {cells = rest} k p) q w = record {
        cells = h.cells;
        round = h.round;
        within = rw e (inside at h.within);
        left = rest;
        way = subst (λ z. Way next head z rest) (ap (λ z. get_or next z 0) q ∙ sym e) p;
        whole = rw f (append_assoc sofar (give at) (gathered give rest)) ∙ ap (λ z. sofar ++ (give z ++ gathered give rest)) (sym q) ∙ w;
      }

  -- the cells that are left
  steps : (at : ℕ) (left : List ℕ) → at < length next → Way next head at left → behind (length next) next head at ≡ left
  steps at left l w = behind_is next head w (length next) (length-round next head at left inside l w)

  pub walk_falls : (give : ℕ → List ℕ) (at at' : ℕ) (sofar : List ℕ) → at ≢ head → at' ≡ get_or next at 0 → IsWalked next give head at sofar
      → length (behind (length next) next head at') < length (behind (length next) next head at)
  walk_falls give at at' sofar n e h = by at h.left h.way refl
    where
      by : (d : ℕ) (left : List ℕ) → Way next head d left → d ≡ at → length (behind (length next) next head at') < length (behind (length next) next head at)
      by d left there q = absurd (n (sym q))
      by d left (on {c = c} {cells = rest} k p) q =
          let cl : c < length next = rw q h.within in
          let a = ap length (sym (ap (behind (length next) next head) q) ∙ steps c (c ∷ rest) cl (on k p)) in
          let b = ap length (ap (behind (length next) next head) (e ∙ ap (λ z. get_or next z 0) (sym q)) ∙ steps (get_or next c 0) rest (inside c cl) p) in
          omega arith

  pub walk_ends : (give : ℕ → List ℕ) (at : ℕ) (sofar rest : List ℕ) → at ≡ head → IsRound next head rest → IsWalked next give head at sofar → sofar ≡ gathered give rest
  walk_ends give at sofar rest e r h = by at h.left h.way e h.whole ∙ ap (gathered give) (way_once next head h.round.way r.way refl)
    where
      by : (d : ℕ) (left : List ℕ) → Way next head d left → d ≡ head → sofar ++ gathered give left ≡ gathered give h.cells → sofar ≡ gathered give h.cells
      by d left there q w = sym (append-nil sofar) ∙ w
      by d left (on k p) q w = absurd (k q)

pub mention_is : (cells : List Cell) (at : ℕ) (c : Cell) → at < length cells → c ≡ get_or cells at c → c.mention ≡ get_or (mentions_of cells) at None
mention_is cells at c l e = ap (λ x. x.mention) e ∙ sym (get_or-map (λ x. x.mention) cells at c None l)
