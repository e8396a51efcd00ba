-- What is left where the last cell leaves its ring.
use Rattle.std.proofs.Common.{◌≡◌, ◌≢◌, ℕ, ◌<◌, ◌+◌, ◌-◌, List, [], ◌∷◌, ◌++◌, length, take, get_or, refl, sym, ◌∙◌, ap, subst, arith, nat_eq}
use Rattle.std.specs.List.{AllByRecursion, position_or_len}
use Rattle.std.specs.Prelude.{Contains}
use Rattle.std.proofs.lemmas.Bool.{ne_eqb, eq-eqb}
use Rattle.std.proofs.lemmas.List.{get_or-take, length-map, take-map}
use Rattle.std.proofs.lemmas.List.Sums.{position_or_len_is}
use Rattle.index_lists.specs.Rings.{Way, there, on, IsRound, exchanged, without_last}
use Rattle.index_lists.specs.Links.{ArePaired, AreLinked, nexts, previouses}
use Rattle.index_lists.specs.declared.Links.{Links}
use Rattle.index_lists.proofs.Exchanging.{exchanged-at_a, exchanged-at_b, exchanged-other, length-exchanged, taken-paired}
use Rattle.index_lists.proofs.Rounds.{way_leaves, way_before, apart_from}

module _ (next previous : List ℕ) (last : ℕ) (h : ArePaired next previous) (e : length next ≡ last + 1) where
  abbrev pub before : ℕ
  before = get_or previous last 0

  last_in : last < length next
  last_in = omega arith

  before_in : before < length next
  before_in = (h.back last last_in).0

  leads : get_or next before 0 ≡ last
  leads = (h.back last last_in).1

  -- no other cell leads to the last
  only : (i : ℕ) → i < length next → get_or next i 0 ≡ last → i ≡ before
  only i l f = sym (h.forth i l).1 ∙ ap (λ k. get_or previous k 0) f

  place : position_or_len (nat_eq last) next ≡ before
  place = position_or_len_is (nat_eq last) next before 0 (omega (arith, before_in))
      (λ k l. ne_eqb last (get_or next k 0) (λ f. (let b = before_in in let i : k ≡ before = only k (omega arith) (sym f) in omega arith)))
      (λ l. eq-eqb last (get_or next before 0) (sym leads))

  pub without_last-is : without_last next ≡ take last (exchanged before last next)
  unfolding without_last
  without_last-is = let n : length next - 1 ≡ last = omega arith in rw (n, place) refl

  cut-at_before : get_or (exchanged before last next) before 0 ≡ get_or next last 0
  cut-at_before = exchanged-at_a before last next before_in

  cut-other : (i : ℕ) → i < last → i ≢ before → get_or (exchanged before last next) i 0 ≡ get_or next i 0
  cut-other i l n = exchanged-other before last next i n (λ f. omega arith)

  taken-at : (i : ℕ) → i < last → get_or (take last (exchanged before last next)) i 0 ≡ get_or (exchanged before last next) i 0
  taken-at i l = get_or-take last (exchanged before last next) i 0 l

  left : List ℕ
  left = take last (exchanged before last next)

  left-at_before : before < last → get_or left before 0 ≡ get_or next last 0
  unfolding left
  left-at_before l = taken-at before l ∙ cut-at_before

  left-other : (i : ℕ) → i < last → get_or next i 0 ≢ last → get_or left i 0 ≡ get_or next i 0
  unfolding left
  left-other i l n = taken-at i l ∙ cut-other i l (λ f. n (ap (λ k. get_or next k 0) f ∙ leads))

  below_last : (x : ℕ) → x < length next → x ≢ last → x < last
  below_last x l n = omega arith

  -- a way that does not meet the last cell, nor end there
  way_aside : {stop c : ℕ} {xs : List ℕ} → stop ≢ last → Way next stop c xs → c < length next → AllByRecursion (λ x. x ≢ last) xs → Way left stop c xs
  way_aside n there l m = there
  way_aside {stop} n (on {c = c} {cells = xs} k p) l m =
      on k (subst (λ z. Way left stop z xs) (sym (left-other c (below_last c l m.0) (λ f. aside_on n p f m.1))) (way_aside n p (h.forth c l).0 m.1))
    where
      aside_on : {stop d : ℕ} {ys : List ℕ} → stop ≢ last → Way next stop d ys → d ≡ last → AllByRecursion (λ x. x ≢ last) ys → ⊥
      aside_on n there f m = n f
      aside_on n (on k p) f m = m.0 f

  -- a way from behind x that meets the last cell
  way_past : {stop : ℕ} (xs ys : List ℕ) (x d : ℕ) → x < last → stop ≢ last → d ≡ get_or next x 0 → Way next stop d (xs ++ last ∷ ys)
      → Way left stop (get_or left x 0) (xs ++ ys)
  way_past {stop} [] ys x d l n f w =
      let g : get_or next x 0 ≡ last = sym f ∙ first_is w in
      let b : x ≡ before = only x (omega arith) g in
      let v : Way next stop (get_or next last 0) ys = behind_is w in
      let r : AllByRecursion (λ y. y ≢ last) ys = way_leaves next stop (on (λ i. n (sym i)) v) in
      let t : get_or left x 0 ≡ get_or next last 0 = ap (λ k. get_or left k 0) b ∙ left-at_before (subst (λ z. z < last) b l) in
      subst (λ z. Way left stop z ys) (sym t) (way_aside n v (h.forth last last_in).0 r)
    where
      first_is : {stop d : ℕ} {y : ℕ} {zs : List ℕ} → Way next stop d (y ∷ zs) → d ≡ y
      first_is (on k p) = refl

      behind_is : {stop d : ℕ} {y : ℕ} {zs : List ℕ} → Way next stop d (y ∷ zs) → Way next stop (get_or next y 0) zs
      behind_is (on k p) = p
  way_past {stop} (y ∷ xs) ys x d l n f (on k p) =
      let m : y ≢ last = (way_before next stop last (y ∷ xs) ys (on k p)).0 in
      let t : get_or left x 0 ≡ y = left-other x l (λ g. m (f ∙ g)) ∙ sym f in
      let b : y < last = below_last y (subst (λ z. z < length next) (sym f) (h.forth x (omega arith)).0) m in
      subst (λ z. Way left stop z (y ∷ (xs ++ ys))) (sym t) (on k (way_past xs ys y (get_or next y 0) b n refl p))

  pub round_left : (c : ℕ) (A B : List ℕ) → c < last → IsRound next c (A ++ last ∷ B) → IsRound (take last (exchanged before last next)) c (A ++ B)
  unfolding left
  round_left c A B l r = record { way = way_past A B c (get_or next c 0) l (λ i. omega arith) refl r.way }

  pub round_stays : (c : ℕ) (cells : List ℕ) → c < last → ¬ Contains cells last → IsRound next c cells → IsRound (take last (exchanged before last next)) c cells
  unfolding left
  round_stays c cells l k r =
      let m : AllByRecursion (λ x. x ≢ last) cells = apart_from last cells k in
      let w : Way left c (get_or next c 0) cells = way_aside (λ i. omega arith) r.way (h.forth c (omega arith)).0 m in
      let t : get_or left c 0 ≡ get_or next c 0 = left-other c l (λ g. meets (λ i. omega arith) r.way g m) in
      record { way = subst (λ z. Way left c z cells) (sym t) w }
    where
      meets : {stop d : ℕ} {ys : List ℕ} → stop ≢ last → Way next stop d ys → d ≡ last → AllByRecursion (λ x. x ≢ last) ys → ⊥
      meets n there f m = n f
      meets n (on k p) f m = m.0 f

-- the cells with the last one cut off
pub cut_off : (xs ys zs : List Links) (n : ℕ) → length xs ≡ n + 1 → nexts ys ≡ exchanged (get_or (previouses xs) n 0) n (nexts xs) → zs ≡ take n ys
    → nexts zs ≡ take n (exchanged (get_or (previouses xs) n 0) n (nexts xs))
cut_off xs ys zs n e f g = rw (g, ← take-map (λ l. l.next) n ys, f) refl

pub cut_off-linked : (xs ys zs : List Links) (n : ℕ) → length xs ≡ n + 1 → nexts ys ≡ exchanged (get_or (previouses xs) n 0) n (nexts xs) → zs ≡ take n ys
    → AreLinked xs → AreLinked ys → AreLinked zs
cut_off-linked xs ys zs n e f g h k =
    let p : length (nexts xs) ≡ n + 1 = length-map xs (λ l. l.next) ∙ e in
    let b : get_or (previouses xs) n 0 < length (nexts xs) = (h.back n (omega arith)).0 in
    let m : length (nexts ys) ≡ n + 1 = ap length f ∙ length-exchanged (get_or (previouses xs) n 0) n (nexts xs) ∙ p in
    let a : get_or (nexts ys) n 0 ≡ n = ap (λ z. get_or z n 0) f ∙ exchanged-at_b (get_or (previouses xs) n 0) n (nexts xs) (omega arith) ∙ (h.back n (omega arith)).1 in
    rw (g, ← take-map (λ l. l.next) n ys, ← take-map (λ l. l.previous) n ys) (taken-paired n (nexts ys) (previouses ys) m a k)
