-- Keys of terms: when two are equal, and what a table of keys answers.
use Rattle.std.proofs.Common.{ℕ, ◌≡◌, Bool, true, false, cond, List, [], ◌∷◌, refl, sym, ap, ◌∙◌, subst, inl, inr, ◌⊎◌, Some, None}
use Rattle.std.specs.Prelude.{◌&&◌, nat_eq}
use Rattle.std.specs.Cmp.Lexicographic.{pointwise, bytes_decides}
use Rattle.std.specs.Map.{lookup}
use Rattle.std.specs.HashMap.{HashMap, get}
use Rattle.std.proofs.lemmas.Bool.{eqb-true, eq-eqb}
use Rattle.tree_model.specs.declared.tree.Symbol.{Symbol}
use Rattle.tree_model.specs.declared.tree.Symbol.TheVariants as symbols
use Rattle.basic_solver.specs.declared.twins.Sign.{Sign}
use Rattle.basic_solver.specs.declared.twins.Sign.TheVariants.{Named, Further}
use Rattle.basic_solver.specs.declared.twins.Application.{Application}
use Rattle.basic_solver.specs.contracts.twins.ApplicationPartialEq.TheImpl as impl
use Rattle.basic_solver.specs.Twins.{sign_of, is_same_sign, is_same_key, IsPlaced}

pub true_or_false : (b : Bool) → (b ≡ true) ⊎ (b ≡ false)
true_or_false true = inl refl
true_or_false false = inr refl

-- `==` of keys
equal_parts : (s t : Sign) (a b : Application) → impl.eq-value.it (record a { sign = s }) (record b { sign = t }) ≡ (is_same_sign s t && pointwise nat_eq a.names.items b.names.items)
equal_parts (Named m) (Named n) a b = refl
equal_parts (Named m) (Further n) a b = refl
equal_parts (Further m) (Named n) a b = refl
equal_parts (Further m) (Further n) a b = refl

equal_keys : (a b : Application) → impl.eq-value.it a b ≡ is_same_key a b
equal_keys a b = equal_parts a.sign b.sign a b

first_true : (a b : Bool) → (a && b) ≡ true → a ≡ true
first_true true b h = refl
first_true false b h = h

second_true : (a b : Bool) → (a && b) ≡ true → b ≡ true
second_true true b h = h
second_true false b h = cc

sign_tells : (s t : Sign) → is_same_sign s t ≡ true → s ≡ t
sign_tells (Named m) (Named n) h = ap Named (eqb-true m n h)
sign_tells (Named m) (Further n) h = cc
sign_tells (Further m) (Named n) h = cc
sign_tells (Further m) (Further n) h = ap Further (eqb-true m n h)

sign_itself : (s : Sign) → is_same_sign s s ≡ true
sign_itself (Named m) = eq-eqb m m refl
sign_itself (Further m) = eq-eqb m m refl

pub sign_once : (s t : Symbol) → sign_of s ≡ sign_of t → s ≡ t
sign_once (symbols.Named m) (symbols.Named n) e = cc
sign_once (symbols.Named m) (symbols.Further n) e = cc
sign_once (symbols.Further m) (symbols.Named n) e = cc
sign_once (symbols.Further m) (symbols.Further n) e = cc

pub key_tells : (a b : Application) → is_same_key a b ≡ true → (a.sign ≡ b.sign) × (a.names.items ≡ b.names.items)
key_tells a b h = (
  sign_tells a.sign b.sign (first_true (is_same_sign a.sign b.sign) (pointwise nat_eq a.names.items b.names.items) h),
  (bytes_decides a.names.items b.names.items).0 (second_true (is_same_sign a.sign b.sign) (pointwise nat_eq a.names.items b.names.items) h),
)

pub key_same : (a b : Application) → a.sign ≡ b.sign → a.names.items ≡ b.names.items → is_same_key a b ≡ true
key_same a b es en =
    let one : is_same_sign a.sign b.sign ≡ true = subst (λ (z : Sign). is_same_sign a.sign z ≡ true) es (sign_itself a.sign) in
    let two : pointwise nat_eq a.names.items b.names.items ≡ true = (bytes_decides a.names.items b.names.items).1 en in
    ap (λ z. z && pointwise nat_eq a.names.items b.names.items) one ∙ two

lookup_as : {K X : Type 0} (f g : K → Bool) (es : List (K × X)) → ((k : K) → f k ≡ g k) → lookup f es ≡ lookup g es
lookup_as f g [] h = refl
lookup_as f g (e ∷ es) h = ap (λ z. cond z (Some e.1) (lookup f es)) (h e.0) ∙ ap (λ z. cond (g e.0) (Some e.1) z) (lookup_as f g es h)

module _ {S : Type 0} where
  pub get_as : (m : HashMap Application ℕ S) (q : Application) → get is_same_key m q ≡ get impl.eq-value.it m q
  get_as m q = lookup_as (is_same_key q) (impl.eq-value.it q) m.entries (λ k. sym (equal_keys q k))

  -- equal keys have one place
  get_same : (m : HashMap Application ℕ S) (p q : Application) → is_same_key p q ≡ true → get is_same_key m p ≡ get is_same_key m q
  get_same m p q h =
      let e = key_tells p q h in
      lookup_as (is_same_key p) (is_same_key q) m.entries (λ k.
      ap (λ z. is_same_sign z k.sign && pointwise nat_eq p.names.items k.names.items) e.0
      ∙ ap (λ z. is_same_sign q.sign k.sign && pointwise nat_eq z k.names.items) e.1)

  pub placed_found : (m : HashMap Application ℕ S) (key : Application) (i j : ℕ) → get impl.eq-value.it m key ≡ Some j → IsPlaced (get is_same_key m) (get is_same_key m) key i j
  placed_found m key i j own = (each, λ none. absurd (cc (there, none)), λ k e. cc (there, e))
    where
      there : get is_same_key m key ≡ Some j
      there = get_as m key ∙ own

      each : (q : Application) → get is_same_key m q ≡ cond (is_same_key key q) (Some j) (get is_same_key m q)
      each q = elim (true_or_false (is_same_key key q)) [
        | inl h ↦ sym (get_same m key q h) ∙ there ∙ ap (λ z. cond z (Some j) (get is_same_key m q)) (sym h)
        | inr h ↦ ap (λ z. cond z (Some j) (get is_same_key m q)) (sym h)
      ]

  pub placed_new : (m n : HashMap Application ℕ S) (key : Application) (i : ℕ) → get impl.eq-value.it m key ≡ None
      → ((q : Application) → get impl.eq-value.it n q ≡ cond (impl.eq-value.it key q) (Some i) (get impl.eq-value.it m q))
      → IsPlaced (get is_same_key m) (get is_same_key n) key i i
  placed_new m n key i own updates = (each, λ none. refl, λ k e. absurd (cc (get_as m key, own, e)))
    where
      each : (q : Application) → get is_same_key n q ≡ cond (is_same_key key q) (Some i) (get is_same_key m q)
      each q = get_as n q ∙ updates q ∙ ap (λ z. cond z (Some i) (get impl.eq-value.it m q)) (equal_keys key q)
          ∙ ap (λ z. cond (is_same_key key q) (Some i) z) (sym (get_as m q))
