-- Each key that a term has, has a least term.
use Rattle.std.proofs.Common.{ℕ, zero, suc, ◌<◌, ◌≤◌, ◌≡◌, Bool, true, false, List, length, map, refl, sym, ap, subst, inl, inr, ◌⊎◌, Some, arith}
use Rattle.std.specs.Prelude.{◌&&◌, nat_eq}
use Rattle.std.specs.Cmp.Lexicographic.{pointwise, bytes_decides}
use Rattle.std.proofs.lemmas.Bool.{cases_lt, eqb-true, eq-eqb}
use Rattle.tree_model.specs.declared.tree.Symbol.{Symbol}
use Rattle.tree_model.specs.declared.tree.Symbol.TheVariants as symbols
use Rattle.term_graph.specs.declared.bound.Bound.{Bound}
use Rattle.term_graph.specs.declared.term.Term.{Term as Made}
use Rattle.term_graph.specs.Keys.{sign_of, is_same_sign}
use Rattle.term_graph.specs.Contents.{root, term_at, HasKey, IsLeader}
use Rattle.term_graph.proofs.Keying.{true_or_false}

module _ (p : ℕ → Bool) where
  after_none : (n : ℕ) → ((t : ℕ) → t < n → p t ≡ false) → (t : ℕ) → p t ≡ true → n ≤ t
  after_none n none t is = elim (cases_lt t n) [
    | inl w ↦ let no : p t ≡ false = none t w in absurd (cc)
    | inr behind ↦ behind
  ]

  none_more : (n : ℕ) → ((t : ℕ) → t < n → p t ≡ false) → p n ≡ false → (t : ℕ) → t < suc n → p t ≡ false
  none_more n none fails t w = elim (cases_lt t n) [
    | inl below ↦ none t below
    | inr behind ↦ let same : n ≡ t = omega arith in subst (λ z. p z ≡ false) same fails
  ]

  -- none has the property below n, or some number there is the least that has it
  least_below : (n : ℕ) → ((t : ℕ) → t < n → p t ≡ false) ⊎ ((m : ℕ) × (m < n) × (p m ≡ true) × ((t : ℕ) → p t ≡ true → m ≤ t))
  least_below zero = inl (λ t w. absurd (omega arith))
  least_below (suc n) = elim (least_below n) [
    | inl none ↦ elim (true_or_false (p n)) [
      | inl is ↦ inr (n, omega arith, is, after_none n none)
      | inr fails ↦ inl (none_more n none fails)
    ]
    | inr found ↦ inr (found.0, omega (arith, found.1), found.2, found.3)
  ]

same_symbol : (s t : Symbol) → is_same_sign (sign_of s) (sign_of t) ≡ true → s ≡ t
same_symbol (symbols.Named m) (symbols.Named n) h = ap symbols.Named (eqb-true m n h)
same_symbol (symbols.Named m) (symbols.Further n) h = cc
same_symbol (symbols.Further m) (symbols.Named n) h = cc
same_symbol (symbols.Further m) (symbols.Further n) h = ap symbols.Further (eqb-true m n h)

own_symbol : (s : Symbol) → is_same_sign (sign_of s) (sign_of s) ≡ true
own_symbol (symbols.Named m) = eq-eqb m m refl
own_symbol (symbols.Further m) = eq-eqb m m refl

both : (x y : Bool) → x ≡ true → y ≡ true → (x && y) ≡ true
both x y e f = rw (e, f) refl

left_of : (x y : Bool) → (x && y) ≡ true → x ≡ true
left_of true y h = refl
left_of false y h = h

right_of : (x y : Bool) → (x && y) ≡ true → y ≡ true
right_of true y h = h
right_of false y h = cc

module _ (b : List Bound) (terms : List Made) (symbol : Symbol) (keys : List ℕ) where
  has : ℕ → Bool
  has t = is_same_sign (sign_of (term_at terms t).symbol) (sign_of symbol) && pointwise nat_eq (map (root b) (term_at terms t).args) keys

  has_key : (t : ℕ) → HasKey b terms symbol keys t → has t ≡ true
  unfolding has
  has_key t is = both (is_same_sign (sign_of (term_at terms t).symbol) (sign_of symbol)) (pointwise nat_eq (map (root b) (term_at terms t).args) keys)
      (subst (λ s. is_same_sign (sign_of s) (sign_of symbol) ≡ true) (sym is.sign) (own_symbol symbol)) ((bytes_decides (map (root b) (term_at terms t).args) keys).1 is.args)

  key_of : (t : ℕ) → t < length terms → has t ≡ true → HasKey b terms symbol keys t
  unfolding has
  key_of t within h = record {
    within = within;
    sign = same_symbol (term_at terms t).symbol symbol (left_of (is_same_sign (sign_of (term_at terms t).symbol) (sign_of symbol)) (pointwise nat_eq (map (root b) (term_at terms t).args) keys) h);
    args = (bytes_decides (map (root b) (term_at terms t).args) keys).0 (right_of (is_same_sign (sign_of (term_at terms t).symbol) (sign_of symbol)) (pointwise nat_eq (map (root b) (term_at terms t).args) keys) h);
  }

  pub leader_exists : (t : ℕ) → HasKey b terms symbol keys t → (m : ℕ) × IsLeader b terms symbol keys (Some m)
  leader_exists t is = elim (least_below has (length terms)) [
    | inl none ↦ let fails : has t ≡ false = none t is.within in let holds : has t ≡ true = has_key t is in absurd (cc)
    | inr found ↦ (found.0, (key_of found.0 found.1 found.2, λ u key. found.3 u (has_key u key)))
  ]
