-- A term noted under its key: what is looked up then.
use Rattle.std.proofs.Common.{ℕ, zero, suc, ◌≡◌, ◌<◌, ◌+◌, Bool, true, false, cond, min, List, [], ◌∷◌, ◌++◌, length, refl, sym, ap, ◌∙◌, inl, inr, Some, None, arith}
use Rattle.std.specs.Prelude.{Option, Result, Ok, Err, OnOk, nat_lt, position}
use Rattle.term_graph.specs.contracts.key.KeyPartialEq.TheImpl as impl
use Rattle.std.specs.List.{position_or_len}
use Rattle.std.specs.Map.{lookup, keys_of}
use Rattle.indexmap.specs.IndexMap.{set_value_at}
use Rattle.tree_model.specs.declared.tree.Symbol.{Symbol}
use Rattle.term_graph.specs.declared.key.Key.{Key}
use Rattle.term_graph.specs.Keys.{sign_of, is_key_of, shared_at}
use Rattle.term_graph.proofs.Keying.{equal_keys, key_tells, key_same, lookup_as, lookup_old, lookup_new, true_or_false}
use Rattle.term_graph.specs.Noting.{IsNoted, IsLowered, lowered_to, value_at, AreKeysBelow}

module _ (q p : Key → Bool) where
  lowered_same : (es : List (Key × ℕ)) (i t : ℕ) → ((k : Key) → p k ≡ q k) → i ≡ position_or_len q (keys_of es) → i < length es → (lookup p (set_value_at es i t) ≡ Some t) × (lookup p es ≡ value_at es i)
  lowered_same [] i t h e l = absurd (omega arith)
  lowered_same (x ∷ es) zero t h e l = elim (true_or_false (q x.0)) [
    | inl y ↦ (let z : p x.0 ≡ true = h x.0 ∙ y in (rw z refl, rw z refl))
    | inr y ↦ (let z : zero ≡ 1 + position_or_len q (keys_of es) = rw y at e in absurd (omega arith))
  ]
  lowered_same (x ∷ es) (suc i) t h e l = elim (true_or_false (q x.0)) [
    | inl y ↦ (let z : suc i ≡ 0 = rw y at e in absurd (omega arith))
    | inr y ↦ (
        let z : suc i ≡ 1 + position_or_len q (keys_of es) = rw y at e in
        let r = lowered_same es i t h (omega arith) (omega arith) in
        let f : p x.0 ≡ false = h x.0 ∙ y in
        (rw f r.0, rw f r.1))
  ]

  lowered_apart : (es : List (Key × ℕ)) (i t : ℕ) → ((k : Key) → q k ≡ true → p k ≡ false) → i ≡ position_or_len q (keys_of es) → i < length es → lookup p (set_value_at es i t) ≡ lookup p es
  lowered_apart [] i t h e l = absurd (omega arith)
  lowered_apart (x ∷ es) zero t h e l = elim (true_or_false (q x.0)) [
    | inl y ↦ (let z : p x.0 ≡ false = h x.0 y in rw z refl)
    | inr y ↦ (let z : zero ≡ 1 + position_or_len q (keys_of es) = rw y at e in absurd (omega arith))
  ]
  lowered_apart (x ∷ es) (suc i) t h e l = elim (true_or_false (q x.0)) [
    | inl y ↦ (let z : suc i ≡ 0 = rw y at e in absurd (omega arith))
    | inr y ↦ (
        let z : suc i ≡ 1 + position_or_len q (keys_of es) = rw y at e in
        ap (λ r. cond (p x.0) (Some x.1) r) (lowered_apart es i t h (omega arith) (omega arith)))
  ]

same_tests : (s : Symbol) (ks : List ℕ) (key : Key) → is_key_of (sign_of s) ks key ≡ true → (k : Key) → is_key_of (sign_of s) ks k ≡ is_key_of key.sign key.args.items k
same_tests s ks key e k = let w = key_tells (sign_of s) ks key e in ap (λ z. is_key_of z ks k) w.0 ∙ ap (λ z. is_key_of key.sign z k) w.1

apart_tests : (s : Symbol) (ks : List ℕ) (key : Key) → is_key_of (sign_of s) ks key ≡ false → (k : Key) → is_key_of key.sign key.args.items k ≡ true → is_key_of (sign_of s) ks k ≡ false
apart_tests s ks key e k h = elim (true_or_false (is_key_of (sign_of s) ks k)) [
  | inr f ↦ f
  | inl t ↦ absurd (
      let w = key_tells key.sign key.args.items k h in
      let y = key_tells (sign_of s) ks k t in
      let z : is_key_of (sign_of s) ks key ≡ true = key_same (sign_of s) ks key (y.0 ∙ sym w.0) (y.1 ∙ sym w.1) in
      cc)
]

pub noted_lowered : (old new : List (Key × ℕ)) (key : Key) (place t : ℕ) → place ≡ position_or_len (is_key_of key.sign key.args.items) (keys_of old) → place < length old → IsLowered old new place t → IsNoted old new key t
noted_lowered old new key place t e l h s ks = elim (true_or_false (is_key_of (sign_of s) ks key)) [
  | inl y ↦ rw y (
      let r = lowered_same (is_key_of key.sign key.args.items) (is_key_of (sign_of s) ks) old place t (same_tests s ks key y) e l in
      let v : shared_at old s ks ≡ Some h.0 = r.1 ∙ h.1 in
      elim h.2 [
        | inl a ↦ (let a0 = a.0 in let n : h.0 ≡ min t h.0 = omega arith in ap (λ z. shared_at z s ks) a.1 ∙ v ∙ ap Some n ∙ sym (ap (lowered_to t) v))
        | inr a ↦ (let a0 = a.0 in let n : t ≡ min t h.0 = omega arith in ap (λ z. shared_at z s ks) a.1 ∙ r.0 ∙ ap Some n ∙ sym (ap (lowered_to t) v))
      ])
  | inr y ↦ rw y (elim h.2 [
    | inl a ↦ ap (λ z. shared_at z s ks) a.1
    | inr a ↦ ap (λ z. shared_at z s ks) a.1 ∙ lowered_apart (is_key_of key.sign key.args.items) (is_key_of (sign_of s) ks) old place t (apart_tests s ks key y) e l
  ])
]

pub noted_added : (old new : List (Key × ℕ)) (key : Key) (t : ℕ) → lookup (is_key_of key.sign key.args.items) old ≡ None → new ≡ old ++ (key, t) ∷ [] → IsNoted old new key t
noted_added old new key t n e s ks = elim (true_or_false (is_key_of (sign_of s) ks key)) [
  | inl y ↦ rw y (
      let v : shared_at old s ks ≡ None = lookup_as (is_key_of (sign_of s) ks) (is_key_of key.sign key.args.items) old (same_tests s ks key y) ∙ n in
      ap (λ z. shared_at z s ks) e ∙ lookup_new (is_key_of (sign_of s) ks) old ((key, t) ∷ []) v ∙ rw y refl ∙ sym (ap (lowered_to t) v))
  | inr y ↦ rw y (ap (λ z. shared_at z s ks) e ∙ by (shared_at old s ks) refl y)
]
  where
    by : (o : Option ℕ) → shared_at old s ks ≡ o → is_key_of (sign_of s) ks key ≡ false → shared_at (old ++ (key, t) ∷ []) s ks ≡ shared_at old s ks
    by (Some m) v y = lookup_old (is_key_of (sign_of s) ks) old ((key, t) ∷ []) m v ∙ sym v
    by None v y = lookup_new (is_key_of (sign_of s) ks) old ((key, t) ∷ []) v ∙ rw y (sym v)

pub keys_written : (n : ℕ) (es : List (Key × ℕ)) (i t : ℕ) → AreKeysBelow n es → AreKeysBelow n (set_value_at es i t)
keys_written n [] i t h = tt
keys_written n (e ∷ es) zero t h = h
keys_written n (e ∷ es) (suc i) t h = (h.0, keys_written n es i t h.1)

pub noted_lowered_by : {A E : Type 0} (r : Result A E) (old new : List (Key × ℕ)) (key : Key) (place t : ℕ) → place ≡ position_or_len (is_key_of key.sign key.args.items) (keys_of old) → place < length old
    → OnOk r (IsLowered old new place t) → OnOk r (IsNoted old new key t)
noted_lowered_by (Ok _) old new key place t e l h = noted_lowered old new key place t e l h
noted_lowered_by (Err _) old new key place t e l h = tt

pub noted_added_by : {A E : Type 0} (r : Result A E) (old new : List (Key × ℕ)) (key : Key) (t : ℕ) → lookup (is_key_of key.sign key.args.items) old ≡ None → OnOk r (new ≡ old ++ (key, t) ∷ []) → OnOk r (IsNoted old new key t)
noted_added_by (Ok _) old new key t n h = noted_added old new key t n h
noted_added_by (Err _) old new key t n h = tt

place_as : (f g : Key → Bool) (ks : List Key) → ((k : Key) → f k ≡ g k) → position_or_len f ks ≡ position_or_len g ks
place_as f g [] h = refl
place_as f g (k ∷ ks) h = let a = h k in let b : position_or_len f ks ≡ position_or_len g ks = place_as f g ks h in rw (a, b) refl

-- the place that is found
pub place_is : (key : Key) (es : List (Key × ℕ)) (i : ℕ) → Some i ≡ position (impl.eq-value.it key) (keys_of es) → i ≡ position_or_len (is_key_of key.sign key.args.items) (keys_of es)
place_is key es i e = elim (true_or_false (nat_lt (position_or_len (impl.eq-value.it key) (keys_of es)) (length (keys_of es)))) [
  | inl t ↦ (let f : Some i ≡ Some (position_or_len (impl.eq-value.it key) (keys_of es)) = rw t at e in let g : i ≡ position_or_len (impl.eq-value.it key) (keys_of es) = cc in g ∙ place_as (impl.eq-value.it key) (is_key_of key.sign key.args.items) (keys_of es) (equal_keys key))
  | inr t ↦ (let f : Some i ≡ None = rw t at e in absurd (cc))
]
