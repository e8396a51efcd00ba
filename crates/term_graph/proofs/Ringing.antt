-- The rings of the classes: a variable, a mention or a binding more.
use Rattle.std.proofs.Common.{◌≡◌, ◌≢◌, ℕ, zero, suc, ◌+◌, ◌<◌, List, [], ◌∷◌, ◌++◌, length, set, get_or, refl, sym, ◌∙◌, ap, subst, inl, inr, arith, length-set}
use Rattle.std.specs.Prelude.{None, Contains}
use Rattle.std.specs.List.{AllByRecursion}
use Rattle.std.proofs.lemmas.Bool.{cases_eq}
use Rattle.std.proofs.lemmas.List.{get_or_append_left, get_or_push, get_or_past, length_push}
use Rattle.std.proofs.lemmas.List.Elements.{Contains-append_left, Contains-append_right, Contains-append_cases}
use Rattle.index_lists.specs.Rings.{IsRound, exchanged, with_cell}
use Rattle.index_lists.proofs.Exchanging.{length-exchanged}
use Rattle.index_lists.proofs.Rounds.{all_both, all_weaker, all_pair, absent_from, round_joined, round_other, exchanged-inside, round_alone, round_added, added-inside, with_cell-round, with_cell-other, with_cell-inside, length-with_cell}
use Rattle.term_graph.specs.declared.bound.Bound.{Bound}
use Rattle.term_graph.specs.declared.bound.Bound.TheVariants.{Free, Variable}
use Rattle.term_graph.specs.Contents.{target, target_of, root, follow, onward, IsForest, Leads}
use Rattle.term_graph.specs.Good.{IsClass, AreRinged}
use Rattle.term_graph.proofs.Forests.{forest_added, added-target, root_of_root, root-added, root-within, leads_to_root, forest_bound, bound-same, bound-other, root-joined, root-kept}
use Rattle.term_graph.proofs.Reading.{round_within}

pub contains_first : (x : ℕ) (xs : List ℕ) → Contains (x ∷ xs) x
contains_first x xs = (0, omega arith, refl)

pub contains_later : (x y : ℕ) (xs : List ℕ) → Contains xs y → Contains (x ∷ xs) y
contains_later x y xs h = (suc h.0, (let l = h.1 in omega arith), h.2)

module _ (b : List Bound) (heads owners next : List ℕ) (g : AreRinged b heads owners next) where
  pub root_in : (u : ℕ) → u < length b → root b u < length b
  root_in u l = root-within b g.forest (leads_to_root b g.forest u) l

  pub class_of : (u : ℕ) → u < length b → IsClass b heads owners next (root b u)
  class_of u l = g.classes (root b u) (root_in u l) (g.forest.ends u)

  pub rest_within : (r : ℕ) → r < length b → (c : IsClass b heads owners next r) → AllByRecursion (λ x. x < length next) c.rest
  rest_within r l c = round_within next (get_or heads r 0) c.rest g.inside (g.head r l).0 c.round

  -- the own cell of a root is not in the ring of another
  pub apart_heads : (r s : ℕ) → r < length b → s < length b → r ≢ s → get_or heads r 0 ≢ get_or heads s 0
  apart_heads r s l m n e = n (sym (g.head r l).1 ∙ ap (λ z. get_or owners z 0) e ∙ (g.head s m).1)

  pub apart_rest : (r s : ℕ) → s < length b → target_of b s ≡ None → r ≢ s → (c : IsClass b heads owners next r) → ¬ Contains c.rest (get_or heads s 0)
  apart_rest r s m o n c = absent_from (get_or heads s 0) c.rest
      (all_weaker (λ x. root b (get_or owners x 0) ≡ r) (λ x. x ≢ get_or heads s 0) (λ x h e. n (sym h ∙ ap (root b) (ap (λ z. get_or owners z 0) e ∙ (g.head s m).1) ∙ root_of_root b s o)) c.rest c.owned)

  -- a variable more
  module _ (h o : ℕ) (he : h ≡ length next) (oe : o ≡ length b) where
    abbrev more_b : List Bound
    more_b = b ++ Free ∷ []

    abbrev more_next : List ℕ
    more_next = next ++ length next ∷ []

    head_old : (v : ℕ) → v < length b → get_or (heads ++ h ∷ []) v 0 ≡ get_or heads v 0
    head_old v l = get_or_append_left heads (h ∷ []) 0 v (rw g.variables l)

    head_new : get_or (heads ++ h ∷ []) (length b) 0 ≡ length next
    head_new = get_or_push heads h 0 (length b) g.variables ∙ he

    owner_old : (c : ℕ) → c < length next → get_or (owners ++ o ∷ []) c 0 ≡ get_or owners c 0
    owner_old c l = get_or_append_left owners (o ∷ []) 0 c (rw g.cells l)

    owner_new : get_or (owners ++ o ∷ []) (length next) 0 ≡ length b
    owner_new = get_or_push owners o 0 (length next) g.cells ∙ oe

    root_old : (c : ℕ) → c < length next → root more_b (get_or (owners ++ o ∷ []) c 0) ≡ root b (get_or owners c 0)
    root_old c l = ap (root more_b) (owner_old c l) ∙ root-added b g.forest (get_or owners c 0)

    open_new : target_of b (length b) ≡ None
    open_new = let p : get_or b (length b) Free ≡ Free = get_or_past b (length b) Free (omega arith) in ap target p

    root_new : root more_b (get_or (owners ++ o ∷ []) (length next) 0) ≡ length b
    root_new = ap (root more_b) owner_new ∙ root-added b g.forest (length b) ∙ root_of_root b (length b) open_new

    whole_old : (r : ℕ) → r < length b → (k : IsClass b heads owners next r) → (c : ℕ) → c < length next + 1 → root more_b (get_or (owners ++ o ∷ []) c 0) ≡ r
        → Contains (get_or heads r 0 ∷ k.rest) c
    whole_old r l k c m e = elim (cases_eq c (length next)) [
      | inl i ↦ absurd (let f : length b ≡ r = sym root_new ∙ ap (λ z. root more_b (get_or (owners ++ o ∷ []) z 0)) (sym i) ∙ e in omega arith)
      | inr n ↦ (let s : c < length next = omega (arith, n) in k.whole c s (sym (root_old c s) ∙ e))
    ]

    class_old : (r : ℕ) → r < length b → target_of b r ≡ None → IsClass more_b (heads ++ h ∷ []) (owners ++ o ∷ []) more_next r
    class_old r l e =
        let k = g.classes r l e in
        record {
          rest = k.rest;
          round = subst (λ z. IsRound more_next z k.rest) (sym (head_old r l)) (round_added next g.inside (get_or heads r 0) k.rest (g.head r l).0 k.round);
          owned = all_weaker (λ x. (x < length next) × (root b (get_or owners x 0) ≡ r)) (λ x. root more_b (get_or (owners ++ o ∷ []) x 0) ≡ r) (λ x p. root_old x p.0 ∙ p.1) k.rest
              (all_pair (λ x. x < length next) (λ x. root b (get_or owners x 0) ≡ r) k.rest (rest_within r l k) k.owned);
          whole = λ c m i. subst (λ z. Contains (z ∷ k.rest) c) (sym (head_old r l)) (whole_old r l k c (rw length_push at m) i);
        }

    whole_new : (c : ℕ) → c < length next + 1 → root more_b (get_or (owners ++ o ∷ []) c 0) ≡ length b → Contains (length next ∷ []) c
    whole_new c m e = elim (cases_eq c (length next)) [
      | inl i ↦ subst (λ z. Contains (length next ∷ []) z) (sym i) (contains_first (length next) [])
      | inr n ↦ absurd (
          let s : c < length next = omega (arith, n) in
          let f : root b (get_or owners c 0) ≡ length b = sym (root_old c s) ∙ e in
          let w = root_in (get_or owners c 0) (g.owner c s) in omega arith)
    ]

    class_new : IsClass more_b (heads ++ h ∷ []) (owners ++ o ∷ []) more_next (length b)
    class_new = record {
      rest = [];
      round = subst (λ z. IsRound more_next z []) (sym head_new) (round_alone next);
      owned = tt;
      whole = λ c m i. subst (λ z. Contains (z ∷ []) c) (sym head_new) (whole_new c (rw length_push at m) i);
    }

    classes_more : (r : ℕ) → r < length b + 1 → target_of more_b r ≡ None → IsClass more_b (heads ++ h ∷ []) (owners ++ o ∷ []) more_next r
    classes_more r l e = elim (cases_eq r (length b)) [
      | inl i ↦ subst (λ z. IsClass more_b (heads ++ h ∷ []) (owners ++ o ∷ []) more_next z) (sym i) class_new
      | inr n ↦ class_old r (omega (arith, n)) (sym (added-target b r) ∙ e)
    ]

    heads_more : (v : ℕ) → v < length b + 1 → (get_or (heads ++ h ∷ []) v 0 < length next + 1) × (get_or (owners ++ o ∷ []) (get_or (heads ++ h ∷ []) v 0) 0 ≡ v)
    heads_more v l = elim (cases_eq v (length b)) [
      | inl i ↦ rw (i, head_new) (omega arith, owner_new)
      | inr n ↦ (let s : v < length b = omega (arith, n) in let k = g.head v s in let k0 = k.0 in rw (head_old v s) (omega arith, owner_old (get_or heads v 0) k.0 ∙ k.1))
    ]

    owners_more : (c : ℕ) → c < length next + 1 → get_or (owners ++ o ∷ []) c 0 < length b + 1
    owners_more c l = elim (cases_eq c (length next)) [
      | inl i ↦ rw (i, owner_new) (omega arith)
      | inr n ↦ (let s : c < length next = omega (arith, n) in let k = g.owner c s in rw (owner_old c s) (omega arith))
    ]

    pub ringed_added : AreRinged (b ++ Free ∷ []) (heads ++ h ∷ []) (owners ++ o ∷ []) (next ++ length next ∷ [])
    ringed_added = record {
      forest = forest_added b g.forest;
      variables = omega (arith, length_push heads h, length_push b Free, g.variables);
      cells = omega (arith, length_push owners o, length_push next (length next), g.cells);
      inside = added-inside next g.inside;
      head = λ v l. rw length_push (heads_more v (rw length_push at l));
      owner = λ c l. rw length_push (owners_more c (rw length_push at l));
      classes = λ r l. classes_more r (rw length_push at l);
    }

    pub rest_added : (u : ℕ) (l : u < length b) → IsRound more_next (get_or (heads ++ h ∷ []) (root more_b u) 0) (class_of u l).rest
    rest_added u l =
        let k = class_of u l in
        let e : get_or (heads ++ h ∷ []) (root more_b u) 0 ≡ get_or heads (root b u) 0 = ap (λ z. get_or (heads ++ h ∷ []) z 0) (root-added b g.forest u) ∙ head_old (root b u) (root_in u l) in
        subst (λ z. IsRound more_next z k.rest) (sym e) (round_added next g.inside (get_or heads (root b u) 0) k.rest (g.head (root b u) (root_in u l)).0 k.round)

    pub rest_new : IsRound more_next (get_or (heads ++ h ∷ []) (root more_b (length b)) 0) []
    rest_new =
        let e : get_or (heads ++ h ∷ []) (root more_b (length b)) 0 ≡ length next = ap (λ z. get_or (heads ++ h ∷ []) z 0) (root-added b g.forest (length b) ∙ root_of_root b (length b) open_new) ∙ head_new in
        subst (λ z. IsRound more_next z []) (sym e) (round_alone next)

  -- a mention of the root a more
  module _ (a : ℕ) (al : a < length b) (ao : target_of b a ≡ None) where
    abbrev mention_next : List ℕ
    mention_next = with_cell (get_or heads a 0) next

    ha : get_or heads a 0 < length next
    ha = (g.head a al).0

    root_a : root b a ≡ a
    root_a = root_of_root b a ao

    owner_kept : (c : ℕ) → c < length next → get_or (owners ++ a ∷ []) c 0 ≡ get_or owners c 0
    owner_kept c l = get_or_append_left owners (a ∷ []) 0 c (rw g.cells l)

    owner_last : get_or (owners ++ a ∷ []) (length next) 0 ≡ a
    owner_last = get_or_push owners a 0 (length next) g.cells

    pub round_a : (k : IsClass b heads owners next a) → IsRound mention_next (get_or heads a 0) (length next ∷ k.rest)
    round_a k = with_cell-round next g.inside (get_or heads a 0) ha k.rest k.round

    pub round_not_a : (r : ℕ) → r < length b → r ≢ a → (k : IsClass b heads owners next r) → IsRound mention_next (get_or heads r 0) k.rest
    round_not_a r l n k = with_cell-other next g.inside (get_or heads a 0) ha (get_or heads r 0) k.rest (g.head r l).0 (apart_heads r a l al n) (apart_rest r a al ao n k) k.round

    owned_kept : (r : ℕ) → r < length b → (k : IsClass b heads owners next r) → AllByRecursion (λ x. root b (get_or (owners ++ a ∷ []) x 0) ≡ r) k.rest
    owned_kept r l k = all_weaker (λ x. (x < length next) × (root b (get_or owners x 0) ≡ r)) (λ x. root b (get_or (owners ++ a ∷ []) x 0) ≡ r) (λ x p. ap (root b) (owner_kept x p.0) ∙ p.1) k.rest
        (all_pair (λ x. x < length next) (λ x. root b (get_or owners x 0) ≡ r) k.rest (rest_within r l k) k.owned)

    mention_length : length mention_next ≡ length next + 1
    mention_length = length-with_cell next g.inside (get_or heads a 0) ha

    whole_a : (k : IsClass b heads owners next a) → (c : ℕ) → c < length next + 1 → root b (get_or (owners ++ a ∷ []) c 0) ≡ a
        → Contains (get_or heads a 0 ∷ (length next ∷ k.rest)) c
    whole_a k c m e = elim (cases_eq c (length next)) [
      | inl i ↦ subst (λ z. Contains (get_or heads a 0 ∷ (length next ∷ k.rest)) z) (sym i) (contains_later (get_or heads a 0) (length next) (length next ∷ k.rest) (contains_first (length next) k.rest))
      | inr n ↦ (let s : c < length next = omega (arith, n) in past (get_or heads a 0) (length next) c k.rest (k.whole c s (sym (ap (root b) (owner_kept c s)) ∙ e)))
    ]
      where
        past : (h n x : ℕ) (xs : List ℕ) → Contains (h ∷ xs) x → Contains (h ∷ (n ∷ xs)) x
        past h n x xs w = elim (Contains-append_cases (h ∷ []) xs x w) [
          | inl p ↦ Contains-append_left (h ∷ []) (n ∷ xs) x p
          | inr p ↦ contains_later h x (n ∷ xs) (contains_later n x xs p)
        ]

    class_a : IsClass b heads (owners ++ a ∷ []) mention_next a
    class_a =
        let k = g.classes a al ao in
        record {
          rest = length next ∷ k.rest;
          round = round_a k;
          owned = (ap (root b) owner_last ∙ root_a, owned_kept a al k);
          whole = λ c m e. whole_a k c (rw mention_length at m) e;
        }

    class_not_a : (r : ℕ) → r < length b → target_of b r ≡ None → r ≢ a → IsClass b heads (owners ++ a ∷ []) mention_next r
    class_not_a r l o n =
        let k = g.classes r l o in
        record {
          rest = k.rest;
          round = round_not_a r l n k;
          owned = owned_kept r l k;
          whole = λ c m e. elim (cases_eq c (length next)) [
            | inl i ↦ absurd (n (sym e ∙ ap (λ z. root b (get_or (owners ++ a ∷ []) z 0)) i ∙ ap (root b) owner_last ∙ root_a))
            | inr j ↦ (let m' = rw mention_length at m in let s : c < length next = omega (arith, j, m') in k.whole c s (sym (ap (root b) (owner_kept c s)) ∙ e))
          ];
        }

    head_mention : (v : ℕ) → v < length b → (get_or heads v 0 < length next + 1) × (get_or (owners ++ a ∷ []) (get_or heads v 0) 0 ≡ v)
    head_mention v l = let k = g.head v l in let k0 = k.0 in (omega arith, owner_kept (get_or heads v 0) k.0 ∙ k.1)

    owner_mention : (c : ℕ) → c < length next + 1 → get_or (owners ++ a ∷ []) c 0 < length b
    owner_mention c l = elim (cases_eq c (length next)) [
      | inl i ↦ rw (i, owner_last) al
      | inr n ↦ (let s : c < length next = omega (arith, n) in rw (owner_kept c s) (g.owner c s))
    ]

    pub ringed_mention : AreRinged b heads (owners ++ a ∷ []) (with_cell (get_or heads a 0) next)
    ringed_mention = record {
      forest = g.forest;
      variables = g.variables;
      cells = omega (arith, length_push owners a, mention_length, g.cells);
      inside = with_cell-inside next g.inside (get_or heads a 0) ha;
      head = λ v l. rw mention_length (head_mention v l);
      owner = λ c l. owner_mention c (rw mention_length at l);
      classes = λ r l o. elim (cases_eq r a) [
        | inl i ↦ subst (λ z. IsClass b heads (owners ++ a ∷ []) mention_next z) (sym i) class_a
        | inr n ↦ class_not_a r l o n
      ];
    }

-- where no target changes, no ring does
module _ (b b' : List Bound) (heads owners next : List ℕ) (n : length b' ≡ length b) (same : (v : ℕ) → target_of b' v ≡ target_of b v) where
  same-follow : (k v : ℕ) → follow k b' v ≡ follow k b v
  same-follow zero v = refl
  same-follow (suc k) v = rw same (same-follow k (onward (target_of b v) v))

  pub same-root : (v : ℕ) → root b' v ≡ root b v
  same-root v = ap (λ k. follow k b' v) n ∙ same-follow (length b) v

  pub same-forest : IsForest b → IsForest b'
  same-forest f = record {
    within = λ v w e. rw n (f.within v w (sym (same v) ∙ e));
    ends = λ v. ap (target_of b') (same-root v) ∙ same (root b v) ∙ f.ends v;
  }

  same-class : (r : ℕ) → IsClass b heads owners next r → IsClass b' heads owners next r
  same-class r k = record {
    rest = k.rest;
    round = k.round;
    owned = all_weaker (λ c. root b (get_or owners c 0) ≡ r) (λ c. root b' (get_or owners c 0) ≡ r) (λ c e. same-root (get_or owners c 0) ∙ e) k.rest k.owned;
    whole = λ c l e. k.whole c l (sym (same-root (get_or owners c 0)) ∙ e);
  }

  pub same-ringed : AreRinged b heads owners next → AreRinged b' heads owners next
  same-ringed g = record {
    forest = same-forest g.forest;
    variables = g.variables ∙ sym n;
    cells = g.cells;
    inside = g.inside;
    head = λ v l. g.head v (rw n at l);
    owner = λ c l. rw n (g.owner c l);
    classes = λ r l o. same-class r (g.classes r (rw n at l) (sym (same r) ∙ o));
  }

-- a root bound to another variable, and their rings joined
module _ (b : List Bound) (heads owners next : List ℕ) (g : AreRinged b heads owners next) (v to w : ℕ) (l : v < length b) (m : to < length b) (wl : w < length b)
    (o : target_of b v ≡ None) (wo : target_of b w ≡ None) (apart : w ≢ v) (x : Leads b to w) where
  abbrev join_b : List Bound
  join_b = set b v (Variable to)

  abbrev hv : ℕ
  hv = get_or heads v 0

  abbrev hw : ℕ
  hw = get_or heads w 0

  abbrev join_next : List ℕ
  join_next = exchanged hw hv next

  hvl : hv < length next
  hvl = (g.head v l).0

  hwl : hw < length next
  hwl = (g.head w wl).0

  hapart : hw ≢ hv
  hapart = apart_heads b heads owners next g w v wl l apart

  pub joined : (u : ℕ) → root b u ≡ v → root join_b u ≡ w
  joined = root-joined b v to w l m o g.forest x apart

  pub kept : (u : ℕ) → root b u ≢ v → root join_b u ≡ root b u
  kept = root-kept b v to w l m o g.forest x apart

  root_v : root b v ≡ v
  root_v = root_of_root b v o

  root_w : root b w ≡ w
  root_w = root_of_root b w wo

  abbrev A : IsClass b heads owners next w
  A = g.classes w wl wo

  abbrev B : IsClass b heads owners next v
  B = g.classes v l o

  pub round_join : IsRound join_next hw (B.rest ++ hv ∷ A.rest)
  round_join = round_joined next hw hv hwl hvl hapart A.rest B.rest (apart_rest b heads owners next g w v l o apart A) A.round B.round

  pub round_beside : (r : ℕ) → r < length b → r ≢ v → r ≢ w → (k : IsClass b heads owners next r) → IsRound join_next (get_or heads r 0) k.rest
  round_beside r rl n j k = round_other next hw hv (get_or heads r 0) k.rest (apart_heads b heads owners next g r w rl wl j) (apart_heads b heads owners next g r v rl l n)
      (apart_rest b heads owners next g r w wl wo j k) (apart_rest b heads owners next g r v l o n k) k.round

  owned_join : AllByRecursion (λ c. root join_b (get_or owners c 0) ≡ w) (B.rest ++ hv ∷ A.rest)
  owned_join = all_both (λ c. root join_b (get_or owners c 0) ≡ w) B.rest (hv ∷ A.rest)
      (all_weaker (λ c. root b (get_or owners c 0) ≡ v) (λ c. root join_b (get_or owners c 0) ≡ w) (λ c e. joined (get_or owners c 0) e) B.rest B.owned) (
        joined (get_or owners hv 0) (ap (root b) (g.head v l).1 ∙ root_v),
        all_weaker (λ c. root b (get_or owners c 0) ≡ w) (λ c. root join_b (get_or owners c 0) ≡ w) (λ c e. kept (get_or owners c 0) (λ i. apart (sym e ∙ i)) ∙ e) A.rest A.owned,
      )

  whole_join : (c : ℕ) → c < length next → root join_b (get_or owners c 0) ≡ w → Contains (hw ∷ (B.rest ++ hv ∷ A.rest)) c
  whole_join c cl e = elim (cases_eq (root b (get_or owners c 0)) v) [
    | inl i ↦ contains_later hw c (B.rest ++ hv ∷ A.rest) (elim (Contains-append_cases (hv ∷ []) B.rest c (B.whole c cl i)) [
      | inl p ↦ Contains-append_right B.rest (hv ∷ A.rest) c (Contains-append_left (hv ∷ []) A.rest c p)
      | inr p ↦ Contains-append_left B.rest (hv ∷ A.rest) c p
    ])
    | inr n ↦ elim (Contains-append_cases (hw ∷ []) A.rest c (A.whole c cl (sym (kept (get_or owners c 0) n) ∙ e))) [
      | inl p ↦ Contains-append_left (hw ∷ []) (B.rest ++ hv ∷ A.rest) c p
      | inr p ↦ contains_later hw c (B.rest ++ hv ∷ A.rest) (Contains-append_right B.rest (hv ∷ A.rest) c (contains_later hv c A.rest p))
    ]
  ]

  join_length : length join_next ≡ length next
  join_length = length-exchanged hw hv next

  class_join : IsClass join_b heads owners join_next w
  class_join = record { rest = B.rest ++ hv ∷ A.rest; round = round_join; owned = owned_join; whole = λ c cl e. whole_join c (rw join_length at cl) e }

  class_beside : (r : ℕ) → r < length b → target_of b r ≡ None → r ≢ v → r ≢ w → IsClass join_b heads owners join_next r
  class_beside r rl ro n j =
      let k = g.classes r rl ro in
      record {
        rest = k.rest;
        round = round_beside r rl n j k;
        owned = all_weaker (λ c. root b (get_or owners c 0) ≡ r) (λ c. root join_b (get_or owners c 0) ≡ r) (λ c e. kept (get_or owners c 0) (λ i. n (sym e ∙ i)) ∙ e) k.rest k.owned;
        whole = λ c cl e. k.whole c (rw join_length at cl) (elim (cases_eq (root b (get_or owners c 0)) v) [
          | inl i ↦ absurd (j (sym e ∙ joined (get_or owners c 0) i))
          | inr h ↦ sym (kept (get_or owners c 0) h) ∙ e
        ]);
      }

  classes_join : (r : ℕ) → r < length b → target_of join_b r ≡ None → IsClass join_b heads owners join_next r
  classes_join r rl e =
      let at_v = bound-same b v to w l m o in
      let n : r ≢ v = λ i. (let e' : target_of join_b v ≡ None = rw i at e in absurd (cc)) in
      elim (cases_eq r w) [
        | inl i ↦ subst (λ z. IsClass join_b heads owners join_next z) (sym i) class_join
        | inr k ↦ class_beside r rl (sym (bound-other b v to w l m o r n) ∙ e) n k
      ]

  pub ringed_joined : AreRinged (set b v (Variable to)) heads owners (exchanged (get_or heads w 0) (get_or heads v 0) next)
  ringed_joined = record {
    forest = forest_bound b v to w l m o g.forest x apart;
    variables = g.variables ∙ sym (length-set b v (Variable to));
    cells = g.cells ∙ sym join_length;
    inside = exchanged-inside next hw hv hwl hvl hapart g.inside;
    head = λ u ul. rw join_length (g.head u (rw length-set at ul));
    owner = λ c cl. rw length-set (g.owner c (rw join_length at cl));
    classes = λ r rl e. classes_join r (rw length-set at rl) e;
  }
