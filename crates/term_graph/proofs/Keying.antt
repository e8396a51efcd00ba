-- Keys: when two are equal, and what is looked up.
use Rattle.std.proofs.Common.{ℕ, zero, suc, ◌≡◌, ◌<◌, arith, length, take, get_or, Bool, true, false, cond, List, [], ◌∷◌, ◌++◌, refl, ap, ◌∙◌, subst, inl, inr, ◌⊎◌, Some, None}
use Rattle.std.specs.Prelude.{◌&&◌, nat_eq}
use Rattle.std.specs.List.{AllByRecursion}
use Rattle.std.specs.Cmp.Lexicographic.{pointwise, bytes_decides}
use Rattle.std.specs.Map.{lookup}
use Rattle.std.proofs.lemmas.Bool.{eqb-true, eq-eqb}
use Rattle.tree_model.specs.declared.tree.Symbol.{Symbol}
use Rattle.tree_model.specs.declared.tree.Symbol.TheVariants as symbols
use Rattle.term_graph.specs.declared.key.Sign.{Sign}
use Rattle.term_graph.specs.declared.key.Sign.TheVariants.{Named, Further}
use Rattle.term_graph.specs.declared.key.Key.{Key}
use Rattle.term_graph.specs.contracts.key.KeyPartialEq.TheImpl as impl
use Rattle.term_graph.specs.Keys.{sign_of, is_same_sign, is_key_of}

first_true : (a b : Bool) → (a && b) ≡ true → a ≡ true
first_true true b h = refl
first_true false b h = h

second_true : (a b : Bool) → (a && b) ≡ true → b ≡ true
second_true true b h = h
second_true false b h = cc

sign_tells : (s t : Sign) → is_same_sign s t ≡ true → s ≡ t
sign_tells (Named m) (Named n) h = ap Named (eqb-true m n h)
sign_tells (Named m) (Further n) h = cc
sign_tells (Further m) (Named n) h = cc
sign_tells (Further m) (Further n) h = ap Further (eqb-true m n h)

sign_itself : (s : Sign) → is_same_sign s s ≡ true
sign_itself (Named m) = eq-eqb m m refl
sign_itself (Further m) = eq-eqb m m refl

pub sign_once : (s t : Symbol) → sign_of s ≡ sign_of t → s ≡ t
sign_once (symbols.Named m) (symbols.Named n) e = cc
sign_once (symbols.Named m) (symbols.Further n) e = cc
sign_once (symbols.Further m) (symbols.Named n) e = cc
sign_once (symbols.Further m) (symbols.Further n) e = cc

pub key_tells : (s : Sign) (ks : List ℕ) (k : Key) → is_key_of s ks k ≡ true → (s ≡ k.sign) × (ks ≡ k.args.items)
key_tells s ks k h = (
  sign_tells s k.sign (first_true (is_same_sign s k.sign) (pointwise nat_eq ks k.args.items) h),
  (bytes_decides ks k.args.items).0 (second_true (is_same_sign s k.sign) (pointwise nat_eq ks k.args.items) h),
)

pub key_same : (s : Sign) (ks : List ℕ) (k : Key) → s ≡ k.sign → ks ≡ k.args.items → is_key_of s ks k ≡ true
key_same s ks k es en =
    let one : is_same_sign s k.sign ≡ true = subst (λ (z : Sign). is_same_sign s z ≡ true) es (sign_itself s) in
    let two : pointwise nat_eq ks k.args.items ≡ true = (bytes_decides ks k.args.items).1 en in
    ap (λ z. z && pointwise nat_eq ks k.args.items) one ∙ two

pub true_or_false : (b : Bool) → (b ≡ true) ⊎ (b ≡ false)
true_or_false true = inl refl
true_or_false false = inr refl

module _ {K X : Type 0} (test : K → Bool) where
  -- what is found stands in the list
  pub lookup_found : (P : K × X → Type 0) (es : List (K × X)) (v : X) → AllByRecursion P es → lookup test es ≡ Some v
      → (e : K × X) × P e × (test e.0 ≡ true) × (e.1 ≡ v)
  lookup_found P [] v h f = let g : None ≡ Some v = f in absurd (cc)
  lookup_found P (e ∷ es) v h f = elim (true_or_false (test e.0)) [
    | inl t ↦ (e, h.0, t, (let g : Some e.1 ≡ Some v = rw t at f in cc))
    | inr t ↦ lookup_found P es v h.1 (rw t at f)
  ]

  -- one entry more
  pub lookup_old : (es fs : List (K × X)) (v : X) → lookup test es ≡ Some v → lookup test (es ++ fs) ≡ Some v
  lookup_old [] fs v f = let g : None ≡ Some v = f in absurd (cc)
  lookup_old (e ∷ es) fs v f = elim (true_or_false (test e.0)) [
    | inl t ↦ rw t (rw t at f)
    | inr t ↦ rw t (lookup_old es fs v (rw t at f))
  ]

  pub lookup_new : (es fs : List (K × X)) → lookup test es ≡ None → lookup test (es ++ fs) ≡ lookup test fs
  lookup_new [] fs f = refl
  lookup_new (e ∷ es) fs f = elim (true_or_false (test e.0)) [
    | inl t ↦ (let g : Some e.1 ≡ None = rw t at f in absurd (cc))
    | inr t ↦ rw t (lookup_new es fs (rw t at f))
  ]

pub all_pushed : {X : Type 0} (P : X → Type 0) (xs : List X) (x : X) → AllByRecursion P xs → P x → AllByRecursion P (xs ++ x ∷ [])
all_pushed P [] x h p = (p, tt)
all_pushed P (y ∷ ys) x h p = (h.0, all_pushed P ys x h.1 p)

pub all_each : {X : Type 0} (P Q : X → Type 0) → ((x : X) → P x → Q x) → (xs : List X) → AllByRecursion P xs → AllByRecursion Q xs
all_each P Q f [] h = tt
all_each P Q f (x ∷ xs) h = (f x h.0, all_each P Q f xs h.1)

pub all_take : {X : Type 0} (P : X → Type 0) (n : ℕ) (xs : List X) → AllByRecursion P xs → AllByRecursion P (take n xs)
all_take P zero xs h = tt
all_take P (suc n) [] h = tt
all_take P (suc n) (x ∷ xs) h = (h.0, all_take P n xs h.1)

pub all_at : (P : ℕ → Type 0) (i : ℕ) (xs : List ℕ) → i < length xs → AllByRecursion P xs → P (get_or xs i 0)
all_at P i [] l h = absurd (omega arith)
all_at P zero (x ∷ xs) l h = h.0
all_at P (suc i) (x ∷ xs) l h = all_at P i xs (omega arith) h.1

-- `==` of keys
equal_parts : (s t : Sign) (a b : Key)
    → impl.eq-value.it (record a { sign = s }) (record b { sign = t }) ≡ (is_same_sign s t && pointwise nat_eq a.args.items b.args.items)
equal_parts (Named m) (Named n) a b = refl
equal_parts (Named m) (Further n) a b = refl
equal_parts (Further m) (Named n) a b = refl
equal_parts (Further m) (Further n) a b = refl

pub equal_keys : (a b : Key) → impl.eq-value.it a b ≡ is_key_of a.sign a.args.items b
equal_keys a b = equal_parts a.sign b.sign a b

pub lookup_as : {K X : Type 0} (f g : K → Bool) (es : List (K × X)) → ((k : K) → f k ≡ g k) → lookup f es ≡ lookup g es
lookup_as f g [] h = refl
lookup_as f g (e ∷ es) h = ap (λ z. cond z (Some e.1) (lookup f es)) (h e.0) ∙ ap (λ z. cond (g e.0) (Some e.1) z) (lookup_as f g es h)

pub lookup_key_as : (k : Key) (es : List (Key × ℕ)) → lookup (impl.eq-value.it k) es ≡ lookup (is_key_of k.sign k.args.items) es
lookup_key_as k es = lookup_as (impl.eq-value.it k) (is_key_of k.sign k.args.items) es (λ x. equal_keys k x)
