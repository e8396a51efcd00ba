-- What a loop over texts, digits or declared names has gone through.
use Rattle.std.proofs.Common.{◌≡◌, ℕ, suc, ◌+◌, ◌-◌, ◌*◌, ◌<◌, ◌≤◌, true, false, List, [], ◌∷◌, length, drop, get_or, Option, Some, None, refl, ap, ◌∙◌, arith}
use Rattle.std.specs.Prelude.{slice_get, option_map, if◌then◌else◌}
use Rattle.std.proofs.lemmas.List.{drop_more, drop_all, at_drop_more}
use Rattle.std.proofs.lemmas.Option.{slice_get_within, get_or_from_slice_get, none-some, same_Some}
use denote.Enum.Bare.{sameb}
use Rattle.tree_model.specs.contracts.kind.Kind.{the_type}
use Rattle.tree_model.specs.declared.kind.Kind.TheVariants as kind
use Rattle.tree_model.specs.declared.kind.Kind.{Kind}
use Rattle.tree_model.specs.Signatures.{Signature, Entry, declared_at}
use Rattle.formula_grammar.specs.Checks.{value_from, count_of, is_kind}

-- ---- the value of digits

-- more digits make no smaller number
pub value_rises : (n : ℕ) (digits : List ℕ) → n ≤ value_from n digits
value_rises n [] = omega arith
value_rises n (digit ∷ digits) = let rises = value_rises (n * 10 + (digit - 48)) digits in omega arith

-- one more digit
pub value_step : (n : ℕ) (digits : List ℕ) (i d : ℕ) → i < length digits
    → value_from n (drop i digits) ≡ value_from (n * 10 + (get_or digits i d - 48)) (drop (i + 1) digits)
value_step n digits i d within = at_drop_more (value_from n) digits i d within

-- ---- how many names of a kind are declared

count_entry : (kind : Kind) (σ : Signature) (i : ℕ) (r : Kind × ℕ) (o : Option Entry) → slice_get σ i ≡ o
    → option_map {T = Entry} {U = Kind × ℕ} (λ entry. (entry.kind, entry.arity)) o ≡ Some r
    → count_of kind (drop i σ) ≡ (if is_kind kind r.0 then suc (count_of kind (drop (i + 1) σ)) else count_of kind (drop (i + 1) σ))
count_entry kind σ i r None is h = absurd (none-some r h)
count_entry kind σ i r (Some entry) is h =
    ap (count_of kind) (drop_more σ i entry (slice_get_within σ i entry is) ∙ ap (λ e. e ∷ drop (i + 1) σ) (get_or_from_slice_get σ i entry entry is))
    ∙ ap (λ other. if is_kind kind other then suc (count_of kind (drop (i + 1) σ)) else count_of kind (drop (i + 1) σ)) (ap (λ (p : Kind × ℕ). p.0) (same_Some _ _ h))

same_kind : (a b : Kind) → sameb the_type a b ≡ is_kind b a
same_kind kind.Symbol kind.Symbol = refl
same_kind kind.Symbol kind.Pred = refl
same_kind kind.Pred kind.Symbol = refl
same_kind kind.Pred kind.Pred = refl

-- the names before the i-th are counted
abbrev pub Counted : Kind → Signature → ℕ → ℕ → Type 0
Counted kind σ i n = count_of kind σ ≡ n + count_of kind (drop i σ)

module _ (kind : Kind) (σ : Signature) (i n : ℕ) (r : Kind × ℕ) (counted : Counted kind σ i n) (stands : declared_at σ i ≡ Some r) where
  pub count_one : true ≡ sameb the_type r.0 kind → Counted kind σ (i + 1) (n + 1)
  count_one is =
      let step = count_entry kind σ i r (slice_get σ i) refl stands in
      let one : count_of kind (drop i σ) ≡ suc (count_of kind (drop (i + 1) σ)) = rw (← same_kind r.0 kind, ← is) at step in
      omega arith

  pub count_none : false ≡ sameb the_type r.0 kind → Counted kind σ (i + 1) n
  count_none is =
      let step = count_entry kind σ i r (slice_get σ i) refl stands in
      let none : count_of kind (drop i σ) ≡ count_of kind (drop (i + 1) σ) = rw (← same_kind r.0 kind, ← is) at step in
      omega arith

pub count_all : (kind : Kind) (σ : Signature) (i n : ℕ) → length σ ≤ i → Counted kind σ i n → n ≡ count_of kind σ
count_all kind σ i n past counted =
    let none : count_of kind (drop i σ) ≡ 0 = ap (count_of kind) (drop_all i σ past) in
    omega arith
