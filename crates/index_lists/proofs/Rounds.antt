-- Rings, followed from cell to cell.
use Rattle.std.proofs.Common.{◌≡◌, ◌≢◌, ℕ, zero, suc, ◌<◌, ◌≤◌, ◌+◌, ◌-◌, true, false, List, [], ◌∷◌, ◌++◌, length, get_or, refl, sym, ◌∙◌, ap, subst, inl, inr, arith, nat_eq, set}
use Rattle.std.specs.List.{IsDistinct, AllByRecursion, list_any, position_or_len}
use Rattle.std.specs.Prelude.{Contains}
use Rattle.std.proofs.lemmas.Bool.{cases_eq, ne_eqb, eq-eqb}
use Rattle.std.proofs.lemmas.List.{get_or_append_left, get_or_push, length_push, set-get_or, length-map, map-append}
use Rattle.std.proofs.lemmas.List.Elements.{Contains-append_right}
use Rattle.std.proofs.lemmas.Map.Keys.{IsDistinct-cons}
use Rattle.std.proofs.lemmas.Map.Steps.{length-le_from_distinct_below}
use Rattle.index_lists.specs.Rings.{Way, there, on, IsRound, IsInside, exchanged, with_cell, without_last}
use Rattle.index_lists.specs.Links.{ArePaired, nexts}
use Rattle.index_lists.specs.declared.Links.{Links}
use Rattle.index_lists.proofs.Exchanging.{exchanged-at_a, exchanged-at_b, exchanged-other, length-exchanged, exchanged-twice}
use Rattle.std.proofs.lemmas.List.Sums.{position_or_len_is}
use Rattle.std.proofs.Math.Seq.{take-append_seam}
use lib.Dec.{eqb}

-- facts of each cell of a list
pub all_both : (P : ℕ → Type 0) (xs ys : List ℕ) → AllByRecursion P xs → AllByRecursion P ys → AllByRecursion P (xs ++ ys)
all_both P [] ys h k = k
all_both P (x ∷ xs) ys h k = (h.0, all_both P xs ys h.1 k)

pub all_weaker : (P Q : ℕ → Type 0) → ((x : ℕ) → P x → Q x) → (xs : List ℕ) → AllByRecursion P xs → AllByRecursion Q xs
all_weaker P Q f [] h = tt
all_weaker P Q f (x ∷ xs) h = (f x h.0, all_weaker P Q f xs h.1)

pub all_pair : (P Q : ℕ → Type 0) (xs : List ℕ) → AllByRecursion P xs → AllByRecursion Q xs → AllByRecursion (λ x. P x × Q x) xs
all_pair P Q [] h k = tt
all_pair P Q (x ∷ xs) h k = ((h.0, k.0), all_pair P Q xs h.1 k.1)

pub all_first : (P : ℕ → Type 0) (xs ys : List ℕ) → AllByRecursion P (xs ++ ys) → AllByRecursion P xs
all_first P [] ys h = tt
all_first P (x ∷ xs) ys h = (h.0, all_first P xs ys h.1)

pub all_last : (P : ℕ → Type 0) (xs ys : List ℕ) → AllByRecursion P (xs ++ ys) → AllByRecursion P ys
all_last P [] ys h = h
all_last P (x ∷ xs) ys h = all_last P xs ys h.1

contains_first : (x : ℕ) (xs : List ℕ) → Contains (x ∷ xs) x
contains_first x xs = (0, omega arith, refl)

contains_later : (x y : ℕ) (xs : List ℕ) → Contains xs y → Contains (x ∷ xs) y
contains_later x y xs h = (suc h.0, (let l = h.1 in omega arith), h.2)

-- a cell that a list lacks is none of its cells
pub apart_from : (b : ℕ) (xs : List ℕ) → ¬ Contains xs b → AllByRecursion (λ x. x ≢ b) xs
apart_from b [] h = tt
apart_from b (x ∷ xs) h = (λ e. h (subst (λ z. Contains (x ∷ xs) z) e (contains_first x xs)), apart_from b xs (λ k. h (contains_later x b xs k)))

pub absent_from : (b : ℕ) (xs : List ℕ) → AllByRecursion (λ x. x ≢ b) xs → ¬ Contains xs b
absent_from b [] h c = (let l = c.1 in omega arith)
absent_from b (x ∷ xs) h (zero, l, e) = h.0 e
absent_from b (x ∷ xs) h (suc k, l, e) = absent_from b xs h.1 (k, (omega arith), e)

module _ (next : List ℕ) (stop : ℕ) where
  pub way_once : {c d : ℕ} {xs ys : List ℕ} → Way next stop c xs → Way next stop d ys → c ≡ d → xs ≡ ys
  way_once there there e = refl
  way_once there (on k q) e = absurd (k (sym e))
  way_once (on k p) there e = absurd (k e)
  way_once {c} {d} (on {cells = xs} k p) (on {cells = ys} l q) e = let r : xs ≡ ys = way_once p q (ap (λ i. get_or next i 0) e) in cc

  off : (v n : ℕ) → ((d : ℕ) (ys : List ℕ) → Way next stop d ys → v ≡ d → length ys ≡ n) → {c : ℕ} {xs : List ℕ} → Way next stop c xs → length xs < n
      → AllByRecursion (λ y. eqb v y ≡ false) xs
  off v n h there l = tt
  off v n h (on {c = c} {cells = xs} k p) l =
      let a : v ≢ c = λ i. (let j = h c (c ∷ xs) (on k p) i in omega arith) in
      (ne_eqb v c a, off v n h p (omega arith))

  pub way_distinct : {c : ℕ} {xs : List ℕ} → Way next stop c xs → IsDistinct eqb xs
  unfolding IsDistinct
  way_distinct there = tt
  way_distinct (on {c = c} {cells = xs} k p) = IsDistinct-cons eqb c xs (off c (suc (length xs)) (λ d ys q i. ap length (way_once q (on k p) (sym i))) p (omega arith)) (way_distinct p)

  -- no cell stands twice
  pub way_leaves : {c d : ℕ} {xs : List ℕ} → Way next stop c (d ∷ xs) → AllByRecursion (λ y. y ≢ c) xs
  way_leaves {c} {d} {xs} (on k p) = leaves_by xs (off c (suc (length xs)) (λ d ys q i. ap length (way_once q (on k p) (sym i))) p (omega arith))
    where
      leaves_by : (ys : List ℕ) → AllByRecursion (λ y. eqb c y ≡ false) ys → AllByRecursion (λ y. y ≢ c) ys
      leaves_by [] h = tt
      leaves_by (y ∷ ys) h = ((λ e. (let t : eqb c y ≡ true = eq-eqb c y (sym e) in let f = h.0 in absurd (cc))), leaves_by ys h.1)

  pub way_below : ((i : ℕ) → i < length next → get_or next i 0 < length next) → {c : ℕ} {xs : List ℕ} → Way next stop c xs → c < length next → (q : ℕ)
      → list_any (eqb q) xs ≡ true → q < length next
  way_below inside there l q h = absurd (cc)
  way_below inside (on {c = c} k p) l q h = elim (cases_eq q c) [
    | inl i ↦ rw i l
    | inr n ↦ way_below inside p (inside c l) q (let e : eqb q c ≡ false = ne_eqb q c n in rw e at h)
  ]

  -- the cells of a way are not its end
  pub way_apart : {c : ℕ} {xs : List ℕ} → Way next stop c xs → AllByRecursion (λ x. x ≢ stop) xs
  way_apart there = tt
  way_apart (on k p) = (k, way_apart p)

  -- a way through b has a part up to b, and one behind it
  pub way_through : (b : ℕ) (xs ys : List ℕ) {c : ℕ} → Way next stop c (xs ++ b ∷ ys) → AllByRecursion (λ x. x ≢ b) xs → Way next b c xs
  way_through b [] ys (on k p) h = there
  way_through b (x ∷ xs) ys (on k p) h = on h.0 (way_through b xs ys p h.1)

  pub way_behind : (b : ℕ) (xs ys : List ℕ) {c : ℕ} → Way next stop c (xs ++ b ∷ ys) → Way next stop (get_or next b 0) ys
  way_behind b [] ys (on k p) = p
  way_behind b (x ∷ xs) ys (on k p) = way_behind b xs ys p

  -- what stands before b on a way is not b
  pub way_before : (b : ℕ) (xs ys : List ℕ) {c : ℕ} → Way next stop c (xs ++ b ∷ ys) → AllByRecursion (λ x. x ≢ b) xs
  way_before b [] ys w = tt
  way_before b (x ∷ xs) ys (on k p) = ((λ e. absurd (absent_from x (xs ++ b ∷ ys) (way_leaves (on k p)) (subst (λ z. Contains (xs ++ b ∷ ys) z) (sym e) (Contains-append_right xs (b ∷ ys) b (contains_first b ys))))), way_before b xs ys p)

pub length-round : (next : List ℕ) (stop c : ℕ) (xs : List ℕ) → IsInside next → c < length next → Way next stop c xs → length xs ≤ length next
length-round next stop c xs inside l p = length-le_from_distinct_below xs (length next) (way_distinct next stop p) (way_below next stop inside p l)

-- from one cell the ways to two others: the one that comes first lies on the way to the other
pub way_meets : (next : List ℕ) (a b c : ℕ) (xs ys : List ℕ) → Way next a c xs → Way next b c ys → AllByRecursion (λ x. x ≢ b) xs → a ≢ b → Contains ys a
way_meets next a b c [] [] there there h n = absurd (n refl)
way_meets next a b c [] (y ∷ ys) there (on k q) h n = contains_first a ys
way_meets next a b c (x ∷ xs) [] (on k p) there h n = absurd (h.0 refl)
way_meets next a b c (x ∷ xs) (y ∷ ys) (on k p) (on m q) h n = contains_later c a ys (way_meets next a b (get_or next c 0) xs ys p q h.1 n)

split_at : (a : ℕ) (ys : List ℕ) → Contains ys a → (xs : List ℕ) × (zs : List ℕ) × (ys ≡ xs ++ a ∷ zs)
split_at a [] h = absurd (let l = h.1 in omega arith)
split_at a (y ∷ ys) (zero, l, e) = ([], ys, ap (λ z. z ∷ ys) e)
split_at a (y ∷ ys) (suc k, l, e) = let s = split_at a ys (k, (omega arith), e) in (y ∷ s.0, s.1, ap (λ z. y ∷ z) s.2)

-- where b is not in the ring of a, a is not in that of b
pub apart_back : (next : List ℕ) (a b : ℕ) (A B : List ℕ) → Way next a (get_or next a 0) A → Way next b (get_or next b 0) B → a ≢ b → ¬ Contains A b → ¬ Contains B a
apart_back next a b A B p q n h k =
    let s = split_at a B k in
    let w : Way next b (get_or next b 0) (s.0 ++ a ∷ s.1) = subst (Way next b (get_or next b 0)) s.2 q in
    let v : Way next b (get_or next a 0) s.1 = way_behind next b a s.0 s.1 w in
    let m : Contains s.1 a = way_meets next a b (get_or next a 0) A s.1 p v (apart_from b A h) n in
    absent_from a s.1 (way_leaves next b (on n v)) m

-- rings that have neither of two cells whose next cells are exchanged
module _ (next : List ℕ) (a b : ℕ) where
  pub way_kept : {stop c : ℕ} {xs : List ℕ} → Way next stop c xs → AllByRecursion (λ x. (x ≢ a) × (x ≢ b)) xs → Way (exchanged a b next) stop c xs
  way_kept there h = there
  way_kept {stop} (on {c = c} {cells = xs} k p) h = on k (subst (λ z. Way (exchanged a b next) stop z xs) (sym (exchanged-other a b next c h.0.0 h.0.1)) (way_kept p h.1))

  pub round_other : (c : ℕ) (cells : List ℕ) → c ≢ a → c ≢ b → ¬ Contains cells a → ¬ Contains cells b → IsRound next c cells → IsRound (exchanged a b next) c cells
  round_other c cells n m h k p = record {
    way = subst (λ z. Way (exchanged a b next) c z cells) (sym (exchanged-other a b next c n m)) (way_kept p.way (all_pair (λ x. x ≢ a) (λ x. x ≢ b) cells (apart_from a cells h) (apart_from b cells k)));
  }

-- two rings joined by an exchange, and a ring cut into two
module _ (next : List ℕ) (a b : ℕ) (al : a < length next) (bl : b < length next) (apart : a ≢ b) where
  pub exchanged-inside : IsInside next → IsInside (exchanged a b next)
  exchanged-inside inside i l =
      rw (length-exchanged a b next) (elim (cases_eq i b) [
        | inl e ↦ rw (e, exchanged-at_b a b next bl) (inside a al)
        | inr n ↦ elim (cases_eq i a) [
          | inl e ↦ rw (e, exchanged-at_a a b next al) (inside b bl)
          | inr m ↦ rw (exchanged-other a b next i m n) (inside i (rw (← length-exchanged a b next) l))
        ]
      ])

  way_on : {c : ℕ} {xs ys : List ℕ} → Way next b c xs → AllByRecursion (λ x. x ≢ a) xs → Way (exchanged a b next) a b ys → Way (exchanged a b next) a c (xs ++ ys)
  way_on there h q = q
  way_on {ys = ys} (on {c = c} {cells = xs} k p) h q = on h.0 (subst (λ z. Way (exchanged a b next) a z (xs ++ ys)) (sym (exchanged-other a b next c h.0 k)) (way_on p h.1 q))

  way_joined : (A B : List ℕ) → Way next a (get_or next a 0) A → Way next b (get_or next b 0) B → AllByRecursion (λ x. (x ≢ a) × (x ≢ b)) A
      → AllByRecursion (λ x. x ≢ a) B → Way (exchanged a b next) a (get_or (exchanged a b next) a 0) (B ++ b ∷ A)
  way_joined A B p q m n =
      let r : Way (exchanged a b next) a (get_or next a 0) A = way_kept next a b p m in
      let s : Way (exchanged a b next) a b (b ∷ A) = on (λ e. apart (sym e)) (subst (λ z. Way (exchanged a b next) a z A) (sym (exchanged-at_b a b next bl)) r) in
      subst (λ z. Way (exchanged a b next) a z (B ++ b ∷ A)) (sym (exchanged-at_a a b next al)) (way_on q n s)

  pub round_joined : (A B : List ℕ) → ¬ Contains A b → IsRound next a A → IsRound next b B → IsRound (exchanged a b next) a (B ++ b ∷ A)
  round_joined A B h p q = record {
    way = way_joined A B p.way q.way (all_pair (λ x. x ≢ a) (λ x. x ≢ b) A (way_apart next a p.way) (apart_from b A h)) (apart_from a B (apart_back next a b A B p.way q.way apart h));
  }

  way_front : (A B : List ℕ) → Way next a (get_or next a 0) (B ++ b ∷ A) → IsRound (exchanged a b next) b B
  way_front A B w = record {
    way = subst (λ z. Way (exchanged a b next) b z B) (sym (exchanged-at_b a b next bl))
        (way_kept next a b (way_through next a b B A w (way_before next a b B A w)) (all_pair (λ x. x ≢ a) (λ x. x ≢ b) B (all_first (λ x. x ≢ a) B (b ∷ A) (way_apart next a w)) (way_before next a b B A w)));
  }

  way_rest : (A B : List ℕ) → Way next a (get_or next a 0) (B ++ b ∷ A) → IsRound (exchanged a b next) a A
  way_rest A B w =
      let v : Way next a (get_or next b 0) A = way_behind next a b B A w in
      record {
        way = subst (λ z. Way (exchanged a b next) a z A) (sym (exchanged-at_a a b next al))
            (way_kept next a b v (all_pair (λ x. x ≢ a) (λ x. x ≢ b) A (way_apart next a v) (way_leaves next a (on (λ e. apart (sym e)) v))));
      }

  pub round_cut : (A B : List ℕ) → IsRound next a (B ++ b ∷ A) → IsRound (exchanged a b next) a A × IsRound (exchanged a b next) b B
  round_cut A B h = (way_rest A B h.way, way_front A B h.way)

pub round_parted : (next : List ℕ) (a b : ℕ) → a < length next → b < length next → (A B : List ℕ) → IsRound next a (B ++ b ∷ A)
    → IsRound (exchanged a b next) a A × IsRound (exchanged a b next) b B
round_parted next a b al bl A B h = round_cut next a b al bl (λ e. (all_last (λ x. x ≢ a) B (b ∷ A) (way_apart next a h.way)).0 (sym e)) A B h

-- every cell has a ring: go back from it until it comes again
module _ (next previous : List ℕ) (h : ArePaired next previous) where
  paired_inside : IsInside next
  paired_inside i l = (h.forth i l).0

  back_from : (n c d : ℕ) (xs : List ℕ) → c < length next → d < length next → Way next c d xs → length next < length xs + n → (cells : List ℕ) × IsRound next c cells
  back_from zero c d xs l m w s = absurd (let k = length-round next c d xs paired_inside m w in omega arith)
  back_from (suc n) c d xs l m w s =
      let p = h.back d m in
      elim (cases_eq (get_or previous d 0) c) [
        | inl e ↦ (xs, record { way = subst (λ z. Way next c z xs) (sym (ap (λ z. get_or next z 0) (sym e) ∙ p.1)) w })
        | inr k ↦ back_from n c (get_or previous d 0) (get_or previous d 0 ∷ xs) l p.0 (on k (subst (λ z. Way next c z xs) (sym p.1) w)) (omega arith)
      ]

  pub round_of_each : (c : ℕ) → c < length next → (cells : List ℕ) × IsRound next c cells
  round_of_each c l = back_from (suc (length next)) c c [] l l there (omega arith)

exchanged-itself : (a : ℕ) (next : List ℕ) → exchanged a a next ≡ next
unfolding exchanged
exchanged-itself a next = ap (λ z. set z a (get_or next a 0)) (set-get_or next a 0) ∙ set-get_or next a 0

-- a cell more, alone in its ring
pub round_alone : (next : List ℕ) → IsRound (next ++ length next ∷ []) (length next) []
round_alone next = record { way = subst (λ z. Way (next ++ length next ∷ []) (length next) z []) (sym (get_or_push next (length next) 0 (length next) refl)) there }

module _ (next : List ℕ) (inside : IsInside next) where
  pub added-next : (c : ℕ) → c < length next → get_or (next ++ length next ∷ []) c 0 ≡ get_or next c 0
  added-next c l = get_or_append_left next (length next ∷ []) 0 c l

  pub added-inside : IsInside (next ++ length next ∷ [])
  added-inside i l = rw length_push (elim (cases_eq i (length next)) [
    | inl e ↦ rw (get_or_push next (length next) 0 i (sym e)) (omega arith)
    | inr n ↦ (let k : i < length next = omega (arith, length_push next (length next), n) in let t = inside i k in rw (added-next i k) (omega arith))
  ])

  pub added_away : without_last (next ++ length next ∷ []) ≡ next
  unfolding without_last
  added_away =
      let n : length (next ++ length next ∷ []) - 1 ≡ length next = omega (arith, length_push next (length next)) in
      let b : position_or_len (nat_eq (length next)) (next ++ length next ∷ []) ≡ length next = position_or_len_is (nat_eq (length next)) (next ++ length next ∷ []) (length next) 0 (omega (arith, length_push next (length next)))
      (λ k l. ne_eqb (length next) (get_or (next ++ length next ∷ []) k 0) (λ e. (let f : get_or (next ++ length next ∷ []) k 0 ≡ get_or next k 0 = added-next k l in let m = inside k l in omega arith)))
      (λ l. eq-eqb (length next) (get_or (next ++ length next ∷ []) (length next) 0) (sym (get_or_push next (length next) 0 (length next) refl))) in
      rw (n, b, exchanged-itself (length next) (next ++ length next ∷ [])) (take-append_seam next (length next ∷ []))

  way_added : {stop c : ℕ} {xs : List ℕ} → Way next stop c xs → c < length next → Way (next ++ length next ∷ []) stop c xs
  way_added there l = there
  way_added {stop} (on {c = c} {cells = xs} k p) l = on k (subst (λ z. Way (next ++ length next ∷ []) stop z xs) (sym (added-next c l)) (way_added p (inside c l)))

  pub round_added : (c : ℕ) (cells : List ℕ) → c < length next → IsRound next c cells → IsRound (next ++ length next ∷ []) c cells
  round_added c cells l p = record { way = subst (λ z. Way (next ++ length next ∷ []) c z cells) (sym (added-next c l)) (way_added p.way (inside c l)) }

  -- the cells of a ring are cells
  pub way_within : {stop c : ℕ} {xs : List ℕ} → Way next stop c xs → c < length next → AllByRecursion (λ x. x < length next) xs
  way_within there l = tt
  way_within (on {c = c} k p) l = (l, way_within p (inside c l))

  new_absent : (c : ℕ) (cells : List ℕ) → c < length next → IsRound next c cells → ¬ Contains cells (length next)
  new_absent c cells l p = absent_from (length next) cells (all_weaker (λ x. x < length next) (λ x. x ≢ length next) (λ x m e. omega arith) cells (way_within p.way (inside c l)))

  module _ (after : ℕ) (al : after < length next) where
    in_more : after < length (next ++ length next ∷ [])
    in_more = omega (arith, length_push next (length next))

    last_in : length next < length (next ++ length next ∷ [])
    last_in = omega (arith, length_push next (length next))

    not_last : after ≢ length next
    not_last e = omega arith

    pub with_cell-round : (cells : List ℕ) → IsRound next after cells → IsRound (with_cell after next) after (length next ∷ cells)
    unfolding with_cell
    with_cell-round cells p =
        round_joined (next ++ length next ∷ []) after (length next) in_more last_in not_last cells [] (new_absent after cells al p) (round_added after cells al p) (round_alone next)

    pub with_cell-other : (c : ℕ) (cells : List ℕ) → c < length next → c ≢ after → ¬ Contains cells after → IsRound next c cells
        → IsRound (with_cell after next) c cells
    unfolding with_cell
    with_cell-other c cells l n k p =
        round_other (next ++ length next ∷ []) after (length next) c cells n (λ e. omega arith) k (new_absent c cells l p) (round_added c cells l p)

    pub with_cell-inside : IsInside (with_cell after next)
    unfolding with_cell
    with_cell-inside = exchanged-inside (next ++ length next ∷ []) after (length next) in_more last_in not_last added-inside

    pub length-with_cell : length (with_cell after next) ≡ length next + 1
    unfolding with_cell
    length-with_cell = length-exchanged after (length next) (next ++ length next ∷ []) ∙ length_push next (length next)

    before_last : position_or_len (nat_eq (length next)) (with_cell after next) ≡ after
    unfolding with_cell
    before_last = position_or_len_is (nat_eq (length next)) (exchanged after (length next) (next ++ length next ∷ [])) after 0 (omega (arith, length-exchanged after (length next) (next ++ length next ∷ []), length_push next (length next)))
        (λ k l. ne_eqb (length next) (get_or (exchanged after (length next) (next ++ length next ∷ [])) k 0) (λ e. (let f : get_or (exchanged after (length next) (next ++ length next ∷ [])) k 0 ≡ get_or next k 0
        = exchanged-other after (length next) (next ++ length next ∷ []) k (λ i. omega arith) (λ i. omega arith) ∙ added-next k (omega arith) in let m = inside k (omega arith) in omega arith)))
        (λ l. eq-eqb (length next) (get_or (exchanged after (length next) (next ++ length next ∷ [])) after 0) (sym (exchanged-at_a after (length next) (next ++ length next ∷ []) in_more ∙ get_or_push next (length next) 0 (length next) refl)))

    pub taken_away : without_last (with_cell after next) ≡ next
    unfolding with_cell without_last
    taken_away =
        let n : length (exchanged after (length next) (next ++ length next ∷ [])) - 1 ≡ length next = omega (arith, length-exchanged after (length next) (next ++ length next ∷ []), length_push next (length next)) in
        let b : position_or_len (nat_eq (length next)) (exchanged after (length next) (next ++ length next ∷ [])) ≡ after = unfold with_cell in before_last in
        rw (n, b, exchanged-twice after (length next) (next ++ length next ∷ []) in_more last_in) (take-append_seam next (length next ∷ []))

pub with_cell-is : (after cell : ℕ) (next more joined : List ℕ) → cell ≡ length next → more ≡ next ++ length next ∷ [] → joined ≡ exchanged after cell more
    → joined ≡ with_cell after next
unfolding with_cell
with_cell-is after cell next more joined e f g = g ∙ rw (e, f) refl

pub one_more : (xs ys : List Links) (n : ℕ) → ys ≡ xs ++ record { next = n; previous = n } ∷ [] → n ≡ length xs → nexts ys ≡ nexts xs ++ length (nexts xs) ∷ []
one_more xs ys n e f =
    let k : n ≡ length (nexts xs) = f ∙ sym (length-map xs (λ l. l.next)) in
    ap nexts e ∙ map-append (λ l. l.next) xs (record { next = n; previous = n } ∷ []) ∙ ap (λ z. nexts xs ++ z ∷ []) k
