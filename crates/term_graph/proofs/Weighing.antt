-- Cells more and cells less in classes.
use Rattle.std.proofs.Common.{◌≡◌, ◌≢◌, ℕ, suc, ◌+◌, ◌-◌, ◌^◌, ◌<◌, ◌≤◌, min, List, [], ◌∷◌, ◌++◌, length, take, drop, set, get_or, refl, sym, ◌∙◌, ap, inl, inr, arith, length-set, get_or-set_same, get_or-set_other, drop-cons}
use Rattle.std.specs.List.{AllByRecursion}
use Rattle.std.proofs.lemmas.Bool.{cases_eq}
use Rattle.std.proofs.lemmas.List.{set-set, set-get_or, get_or_default, take_more, length-take-le, drop_all}
use Rattle.term_graph.specs.declared.class.Class.{Class}
use Rattle.term_graph.specs.Classes.{alone, class_at, heavier, lighter, weighed, lightened, together, merged}
use Rattle.term_graph.proofs.Keying.{all_each, all_at, all_take}

pub class_is : (cs : List Class) (r : ℕ) (x : Class) → r < length cs → x ≡ get_or cs r x → x ≡ class_at cs r
class_is cs r x l e = e ∙ get_or_default cs r x (alone 0) l

abbrev pub AreIn : List ℕ → List Class → Type 0
AreIn rs cs = AllByRecursion (λ r. r < length cs) rs

pub length-heavier : (r : ℕ) (cs : List Class) → length (heavier r cs) ≡ length cs
length-heavier r cs = length-set cs r (record { least = (class_at cs r).least; weight = (class_at cs r).weight + 1 })

pub length-weighed : (rs : List ℕ) (cs : List Class) → length (weighed rs cs) ≡ length cs
unfolding weighed
length-weighed [] cs = refl
length-weighed (r ∷ rs) cs = length-weighed rs (heavier r cs) ∙ length-heavier r cs

pub length-lightened : (rs : List ℕ) (cs : List Class) → length (lightened rs cs) ≡ length cs
unfolding lightened
length-lightened [] cs = refl
length-lightened (r ∷ rs) cs =
    length-set (lightened rs cs) r (record { least = (class_at (lightened rs cs) r).least; weight = (class_at (lightened rs cs) r).weight - 1 }) ∙ length-lightened rs cs

pub are_in-heavier : (rs : List ℕ) (r : ℕ) (cs : List Class) → AreIn rs cs → AreIn rs (heavier r cs)
are_in-heavier rs r cs h = all_each (λ x. x < length cs) (λ x. x < length (heavier r cs)) (λ x l. rw (length-heavier r cs) l) rs h

-- one class with a cell more
pub heavier-same : (r : ℕ) (cs : List Class) → r < length cs → class_at (heavier r cs) r ≡ record { least = (class_at cs r).least; weight = (class_at cs r).weight + 1 }
heavier-same r cs l = get_or-set_same cs r (record { least = (class_at cs r).least; weight = (class_at cs r).weight + 1 }) (alone 0) l

pub heavier-other : (r s : ℕ) (cs : List Class) → s ≢ r → class_at (heavier r cs) s ≡ class_at cs s
heavier-other r s cs n = get_or-set_other cs r s (record { least = (class_at cs r).least; weight = (class_at cs r).weight + 1 }) (alone 0) n

heavier-most : (r s : ℕ) (cs : List Class) → r < length cs → (class_at (heavier r cs) s).weight ≤ (class_at cs s).weight + 1
heavier-most r s cs l = elim (cases_eq s r) [
  | inl e ↦ (let k : (class_at (heavier r cs) s).weight ≡ (class_at cs s).weight + 1 = ap (λ z. (class_at (heavier r cs) z).weight) e ∙ ap (λ x. x.weight) (heavier-same r cs l) ∙ ap (λ z. (class_at cs z).weight + 1) (sym e) in omega arith)
  | inr n ↦ (let k : (class_at (heavier r cs) s).weight ≡ (class_at cs s).weight = ap (λ x. x.weight) (heavier-other r s cs n) in omega arith)
]

weighed-most : (rs : List ℕ) (cs : List Class) (s : ℕ) → AreIn rs cs → (class_at (weighed rs cs) s).weight ≤ (class_at cs s).weight + length rs
unfolding weighed
weighed-most [] cs s h = omega arith
weighed-most (r ∷ rs) cs s h = let k = weighed-most rs (heavier r cs) s (are_in-heavier rs r cs h.1) in let m = heavier-most r s cs h.0 in omega arith

weighed-push : (rs : List ℕ) (r : ℕ) (cs : List Class) → weighed (rs ++ r ∷ []) cs ≡ heavier r (weighed rs cs)
unfolding weighed
weighed-push [] r cs = refl
weighed-push (x ∷ rs) r cs = weighed-push rs r (heavier x cs)

-- what was added is taken away
lighter-heavier : (r : ℕ) (cs : List Class) → r < length cs → lighter r (heavier r cs) ≡ cs
lighter-heavier r cs l =
    let e = heavier-same r cs l in
    let n : (class_at cs r).weight + 1 - 1 ≡ (class_at cs r).weight = omega arith in
    ap (λ z. set (heavier r cs) r (record { least = z.least; weight = z.weight - 1 })) e
    ∙ set-set cs r (record { least = (class_at cs r).least; weight = (class_at cs r).weight + 1 }) (record { least = (class_at cs r).least; weight = (class_at cs r).weight + 1 - 1 })
    ∙ ap (λ z. set cs r (record { least = (class_at cs r).least; weight = z })) n
    ∙ set-get_or cs r (alone 0)

pub lightened-weighed : (rs : List ℕ) (cs : List Class) → AreIn rs cs → lightened rs (weighed rs cs) ≡ cs
unfolding weighed lightened
lightened-weighed [] cs h = refl
lightened-weighed (r ∷ rs) cs h = ap (lighter r) (lightened-weighed rs (heavier r cs) (are_in-heavier rs r cs h.1)) ∙ lighter-heavier r cs h.0

-- the loops
pub weighed-none : (cs : List Class) → cs ≡ weighed [] cs
unfolding weighed
weighed-none cs = refl

module _ (rs : List ℕ) (first cs : List Class) (i r : ℕ) (x : Class)
    (h : AllByRecursion (λ r. (r < length first) × ((class_at first r).weight + length rs < 2 ^ 64)) rs)
    (l : i < length rs) (re : r ≡ get_or rs i 0) (ce : cs ≡ weighed (take i rs) first) (xe : x ≡ get_or cs r x) where
  all_in : AreIn rs first
  all_in = all_each (λ r. (r < length first) × ((class_at first r).weight + length rs < 2 ^ 64)) (λ r. r < length first) (λ r p. p.0) rs h

  this : (get_or rs i 0 < length first) × ((class_at first (get_or rs i 0)).weight + length rs < 2 ^ 64)
  this = all_at (λ r. (r < length first) × ((class_at first r).weight + length rs < 2 ^ 64)) i rs l h

  class_now : x ≡ class_at (weighed (take i rs) first) (get_or rs i 0)
  class_now =
      let k : length cs ≡ length first = ap length ce ∙ length-weighed (take i rs) first in
      let t = this.0 in
      let rl : r < length cs = rw (k, re) t in
      class_is cs r x rl xe ∙ ap (λ z. class_at z r) ce ∙ ap (class_at (weighed (take i rs) first)) re

  pub weigh_fits : x.weight + 1 < 2 ^ 64
  weigh_fits =
      let m = weighed-most (take i rs) first (get_or rs i 0) (all_take (λ r. r < length first) i rs all_in) in
      let n = length-take-le i rs (omega arith) in
      let t = this.1 in
      let e = ap (λ z. z.weight) class_now in
      omega arith

  pub weigh_step : set cs r (record { least = x.least; weight = x.weight + 1 }) ≡ weighed (take (i + 1) rs) first
  weigh_step =
      ap (λ z. set cs r (record { least = z.least; weight = z.weight + 1 })) class_now
      ∙ ap (λ z. set z r (record { least = (class_at (weighed (take i rs) first) (get_or rs i 0)).least; weight = (class_at (weighed (take i rs) first) (get_or rs i 0)).weight + 1 })) ce
      ∙ ap (λ z. set (weighed (take i rs) first) z (record { least = (class_at (weighed (take i rs) first) (get_or rs i 0)).least; weight = (class_at (weighed (take i rs) first) (get_or rs i 0)).weight + 1 })) re
      ∙ sym (weighed-push (take i rs) (get_or rs i 0) first)
      ∙ ap (λ z. weighed z first) (sym (take_more rs i 0 l))

pub lightened-start : (rs : List ℕ) (n : ℕ) (cs : List Class) → n ≡ length rs → cs ≡ lightened (drop n rs) cs
unfolding lightened
lightened-start rs n cs e = rw (drop_all n rs (omega arith)) refl

module _ (rs : List ℕ) (first cs : List Class) (left i r : ℕ) (h : AreIn rs first) (le : left ≡ i + 1) (l : left ≤ length rs) (re : r ≡ get_or rs i 0)
    (ce : cs ≡ lightened (drop left rs) first) where
  pub lighten_in : r < length cs
  lighten_in =
      let k : length cs ≡ length first = ap length ce ∙ length-lightened (drop left rs) first in
      let t = all_at (λ r. r < length first) i rs (omega arith) h in
      rw (k, re) t

  pub lighten_step : (x y : Class) (w : ℕ) → x ≡ get_or cs r x → y ≡ get_or cs r y → w ≡ y.weight - 1 → set cs r (record { least = x.least; weight = w }) ≡ lightened (drop i rs) first
  unfolding lightened
  lighten_step x y w xe ye we =
      let e : x ≡ class_at cs r = class_is cs r x lighten_in xe in
      let s : left ≡ suc i = omega arith in
      let d : drop i rs ≡ get_or rs i 0 ∷ drop (suc i) rs = drop-cons rs i 0 (omega arith) in
      ap (λ z. set cs r (record { least = x.least; weight = z })) (we ∙ ap (λ z. z.weight - 1) (class_is cs r y lighten_in ye ∙ sym e))
      ∙ ap (λ z. set cs r (record { least = z.least; weight = z.weight - 1 })) e
      ∙ ap (lighter r) (ce ∙ ap (λ z. lightened (drop z rs) first) s)
      ∙ ap (λ z. lighter z (lightened (drop (suc i) rs) first)) re
      ∙ ap (λ z. lightened z first) (sym d)

-- one class joins another
pub merged-is : (cs : List Class) (v w : ℕ) (x y : Class) (m n : ℕ) → v < length cs → w < length cs → x ≡ get_or cs v x → y ≡ get_or cs w y → m ≡ min x.least y.least → n ≡ x.weight + y.weight
    → set cs w (record { least = m; weight = n }) ≡ merged v w cs
unfolding merged
merged-is cs v w x y m n vl wl xe ye me ne =
    let a : x ≡ class_at cs v = class_is cs v x vl xe in
    let b : y ≡ class_at cs w = class_is cs w y wl ye in
    ap (λ z. set cs w (record { least = z; weight = n })) me
    ∙ ap (λ z. set cs w (record { least = min x.least y.least; weight = z })) ne
    ∙ ap (λ z. set cs w (together z y)) a
    ∙ ap (λ z. set cs w (together (class_at cs v) z)) b

pub room_for : (cs : List Class) (v w : ℕ) (x y : Class) → v < length cs → w < length cs → x ≡ get_or cs v x → y ≡ get_or cs w y
    → (class_at cs v).weight + (class_at cs w).weight < 2 ^ 64 → x.weight + y.weight < 2 ^ 64
room_for cs v w x y vl wl xe ye h =
    let a : x.weight ≡ (class_at cs v).weight = ap (λ z. z.weight) (class_is cs v x vl xe) in
    let b : y.weight ≡ (class_at cs w).weight = ap (λ z. z.weight) (class_is cs w y wl ye) in
    omega arith
