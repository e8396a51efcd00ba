-- Terms with one key after a merge have one class, once what waits is joined.
use Rattle.std.proofs.Common.{ℕ, ◌<◌, ◌≤◌, ◌≡◌, false, List, [], ◌∷◌, length, map, refl, sym, ◌∙◌, ap, subst, inl, inr, ◌⊎◌, Some, arith}
use Rattle.std.specs.Prelude.{Contains, nat_eq}
use Rattle.std.proofs.lemmas.Bool.{cases_eq, ne_eqb}
use lib.Dec.{eqb}
use Rattle.tree_model.specs.declared.tree.Symbol.{Symbol}
use Rattle.tree_facts.proofs.Members.{contains_first, contains_later, contains_cases}
use Rattle.flat_form.specs.declared.atom.Flat.{Flat}
use Rattle.term_graph.specs.Contents.{Contents, term_at, IsLeader}
use Rattle.settled_facts.specs.Settled.{name}
use Rattle.congruence.specs.Agenda.{owner, Agenda, Joins, named, back, through, AreAlike, IsComplete}
use Rattle.congruence.specs.Merges.{redirected, Leads, IsMerged, IsNoted}
use Rattle.congruence.proofs.Leaders.{leader_exists}

contained_or_not : (v : ℕ) (xs : List ℕ) → Contains xs v ⊎ (¬ Contains xs v)
contained_or_not v [] = inr (λ inside. absurd (omega (arith, inside.1)))
contained_or_not v (x ∷ xs) = elim (cases_eq x v) [
  | inl e ↦ inl (subst (Contains (x ∷ xs)) e (contains_first x xs))
  | inr other ↦ elim (contained_or_not v xs) [
    | inl inside ↦ inl (contains_later x v xs inside)
    | inr outside ↦ inr (λ inside. elim (contains_cases x v xs inside) [
      | inl e ↦ other e
      | inr more ↦ outside more
    ])
  ]
]

kept_without : (v w : ℕ) (xs : List ℕ) → (¬ Contains xs v) → map (redirected v w) xs ≡ xs
kept_without v w [] outside = refl
kept_without v w (x ∷ xs) outside =
    let different : nat_eq x v ≡ false = ne_eqb x v (λ e. outside (subst (Contains (x ∷ xs)) e (contains_first x xs))) in
    let first : redirected v w x ≡ x = rw different refl in
    ap (λ z. z ∷ map (redirected v w) xs) first ∙ ap (λ zs. x ∷ zs) (kept_without v w xs (λ inside. outside (contains_later x v xs inside)))

-- two leaders of one key are one
one_leader : (c : Contents) (s : Symbol) (ks : List ℕ) (l m : ℕ) → IsLeader c.bindings c.terms s ks (Some l) → IsLeader c.bindings c.terms s ks (Some m) → l ≡ m
one_leader c s ks l m is are = let one : l ≤ m = is.1 m are.0 in let other : m ≤ l = are.1 l is.0 in omega arith

module _ (v w : ℕ) (old new : Contents) (merged : IsMerged v w old new) where
  abbrev key : Contents → ℕ → List ℕ
  key c t = map (name c) (term_at old.terms t).args

  abbrev sign : ℕ → Symbol
  sign t = (term_at old.terms t).symbol

  pub new_names : (xs : List ℕ) → map (name new) xs ≡ map (redirected v w) (map (name old) xs)
  new_names [] = refl
  new_names (x ∷ xs) = ap (λ z. z ∷ map (name new) xs) (merged.names x) ∙ ap (λ zs. redirected v w (name old x) ∷ zs) (new_names xs)

  -- the least term with this key after the merge
  abbrev Foremost : Symbol → List ℕ → ℕ → Type 0
  Foremost s ks m = IsLeader new.bindings old.terms s ks (Some m)

  -- a term that does not mention v has its key still
  key_kept : (t : ℕ) → (¬ Contains (key old t) v) → key new t ≡ key old t
  key_kept t outside = new_names (term_at old.terms t).args ∙ kept_without v w (map (name old) (term_at old.terms t).args) outside

  foremost_now : (t m : ℕ) → Leads new t m → Foremost (sign t) (key new t) m
  foremost_now t m leads = subst (λ z. IsLeader new.bindings z (term_at z t).symbol (map (name new) (term_at z t).args) (Some m)) merged.terms leads

  leads_now : (t m : ℕ) → Foremost (sign t) (key new t) m → Leads new t m
  leads_now t m is = subst (λ z. IsLeader new.bindings z (term_at z t).symbol (map (name new) (term_at z t).args) (Some m)) (sym merged.terms) is

  module _ (owners : List ℕ) (before after : Agenda) (atoms : List Flat) (lifted : (x y : ℕ) → Joins old owners before x y → Joins new owners after x y)
      (noted : IsNoted new owners after v w old) (is : IsComplete old owners before atoms) where
    -- from the leader of a key before to the leader of what the key is now
    led_on : (l m : ℕ) → Leads old l l → l < length old.terms → Foremost (sign l) (key new l) m → Joins new owners after (owner owners l) (owner owners m)
    led_on l m leads within foremost = elim (contained_or_not v (key old l)) [
      | inl mentions ↦ noted.led l m (within, mentions, leads) (leads_now l m foremost)
      | inr none ↦
          let same : key new l ≡ key old l = key_kept l none in
          let same_sign : sign m ≡ sign l = foremost.0.sign in
          let same_key : key new m ≡ key new l = foremost.0.args in
          elim (contained_or_not v (key old m)) [
            | inl mentions ↦
                let own : Leads old m m = (
                  record { within = foremost.0.within; sign = refl; args = refl },
                  λ u has. foremost.1 u (record {
                    within = has.within;
                    sign = has.sign ∙ same_sign;
                    args = new_names (term_at old.terms u).args ∙ ap (map (redirected v w)) has.args ∙ sym (new_names (term_at old.terms m).args) ∙ same_key;
                  }),
                ) in
                let first : Foremost (sign m) (key new m) m = subst (λ s. Foremost s (key new m) m) (sym same_sign) (subst (λ ks. Foremost (sign l) ks m) (sym same_key) foremost) in
                let asked : map (redirected v w) (key old m) ≡ key old l = sym (new_names (term_at old.terms m).args) ∙ same_key ∙ same in
                let was : IsLeader old.bindings old.terms (sign m) (map (redirected v w) (key old m)) (Some l) =
                subst (λ s. IsLeader old.bindings old.terms s (map (redirected v w) (key old m)) (Some l)) (sym same_sign) (subst (λ ks. IsLeader old.bindings old.terms (sign l) ks (Some l)) (sym asked) leads) in
                noted.taken m l (foremost.0.within, mentions, own) (leads_now m m first) was
            | inr free ↦
                let stays : key old m ≡ key old l = sym (key_kept m free) ∙ same_key ∙ same in
                let low : l ≤ m = leads.1 m (record { within = foremost.0.within; sign = same_sign; args = stays }) in
                let high : m ≤ l = foremost.1 l (record { within = within; sign = refl; args = refl }) in
                let one : l ≡ m = omega arith in
                named (ap (λ z. name new (owner owners z)) one)
          ]
    ]

    joins_foremost : (t m : ℕ) → t < length old.terms → Foremost (sign t) (key new t) m → Joins new owners after (owner owners t) (owner owners m)
    joins_foremost t m within foremost =
        let (l, leads) = leader_exists old.bindings old.terms (sign t) (key old t) t (record { within = within; sign = refl; args = refl }) in
        let same_key : key new l ≡ key new t = new_names (term_at old.terms l).args ∙ ap (map (redirected v w)) leads.0.args ∙ sym (new_names (term_at old.terms t).args) in
        let own : Leads old l l = subst (λ s. IsLeader old.bindings old.terms s (key old l) (Some l)) (sym leads.0.sign)
        (subst (λ ks. IsLeader old.bindings old.terms (sign t) ks (Some l)) (sym leads.0.args) leads) in
        let first : Foremost (sign l) (key new l) m = subst (λ s. Foremost s (key new l) m) (sym leads.0.sign) (subst (λ ks. Foremost (sign t) ks m) (sym same_key) foremost) in
        through (lifted (owner owners t) (owner owners l) (is.shared t l (record { left = within; right = leads.0.within; sign = sym leads.0.sign; args = sym leads.0.args }))) (led_on l m own leads.0.within first)

    pub shared_merged : (t m : ℕ) → AreAlike new t m → Joins new owners after (owner owners t) (owner owners m)
    shared_merged t m alike =
        let t_old : t < length old.terms = subst (λ z. t < length z) merged.terms alike.left in
        let m_old : m < length old.terms = subst (λ z. m < length z) merged.terms alike.right in
        let signs : sign t ≡ sign m = subst (λ z. (term_at z t).symbol ≡ (term_at z m).symbol) merged.terms alike.sign in
        let keys : key new t ≡ key new m = subst (λ z. map (name new) (term_at z t).args ≡ map (name new) (term_at z m).args) merged.terms alike.args in
        let (l, leads) = leader_exists new.bindings old.terms (sign t) (key new t) t (record { within = t_old; sign = refl; args = refl }) in
        let other : Foremost (sign m) (key new m) l = subst (λ s. Foremost s (key new m) l) signs (subst (λ ks. Foremost (sign t) ks l) keys leads) in
        through (joins_foremost t l t_old leads) (back (joins_foremost m l m_old other))
