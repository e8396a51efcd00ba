-- What was lowered is put back.
use Rattle.std.proofs.Common.{◌≡◌, ℕ, zero, suc, ◌<◌, ◌≤◌, List, [], ◌∷◌, ◌++◌, length, take, drop, refl, sym, ◌∙◌, ap, arith, Some, slice_get}
use Rattle.std.proofs.lemmas.List.{take-append-le, drop-append-le, length_push}
use Rattle.indexmap.specs.IndexMap.{set_value_at}
use Rattle.std.specs.Prelude.{map}
use Rattle.std.proofs.lemmas.List.{drop_all, take_all}
use Rattle.term_graph.specs.declared.key.Key.{Key}
use Rattle.term_graph.specs.declared.key.Lowered.{Lowered}
use Rattle.std.specs.Prelude.{Result, Ok, Err, OnOk, OnErr}
use Rattle.term_graph.specs.Lowering.{restored, IsKept}
use Rattle.term_graph.specs.Noting.{value_at}

take-written : (k : ℕ) (es : List (Key × ℕ)) (i w : ℕ) → take k (set_value_at es i w) ≡ set_value_at (take k es) i w
take-written zero es i w = refl
take-written (suc k) [] i w = refl
take-written (suc k) (e ∷ es) zero w = refl
take-written (suc k) (e ∷ es) (suc i) w = ap (λ xs. e ∷ xs) (take-written k es i w)

written-twice : (es : List (Key × ℕ)) (i a b : ℕ) → set_value_at (set_value_at es i a) i b ≡ set_value_at es i b
written-twice [] i a b = refl
written-twice (e ∷ es) zero a b = refl
written-twice (e ∷ es) (suc i) a b = ap (λ xs. e ∷ xs) (written-twice es i a b)

length-written : (es : List (Key × ℕ)) (i w : ℕ) → length (set_value_at es i w) ≡ length es
length-written [] i w = refl
length-written (e ∷ es) zero w = refl
length-written (e ∷ es) (suc i) w = ap suc (length-written es i w)

pub written-past : (es : List (Key × ℕ)) (i w : ℕ) → length es ≤ i → set_value_at es i w ≡ es
written-past [] i w h = refl
written-past (e ∷ es) zero w h = absurd (omega arith)
written-past (e ∷ es) (suc i) w h = ap (λ xs. e ∷ xs) (written-past es i w (omega arith))

written-own : (es : List (Key × ℕ)) (i v : ℕ) → value_at es i ≡ Some v → set_value_at es i v ≡ es
written-own [] i v h = refl
written-own (e ∷ es) zero v h = let k : e.1 ≡ v = cc in ap (λ x. (e.0, x) ∷ es) (sym k)
written-own (e ∷ es) (suc i) v h = ap (λ xs. e ∷ xs) (written-own es i v h)

pub restored-push : (xs : List Lowered) (x : Lowered) (es : List (Key × ℕ)) → restored (xs ++ x ∷ []) es ≡ restored xs (set_value_at es x.place x.leader)
restored-push [] x es = refl
restored-push (y ∷ ys) x es = ap (λ zs. set_value_at zs y.place y.leader) (restored-push ys x es)

pub kept-same : (es : List (Key × ℕ)) (xs : List Lowered) → IsKept es xs es xs
kept-same es xs = record { keys = omega arith; count = omega arith; first = λ n l. refl; back = λ k n l m. refl }

pub kept-more : (es : List (Key × ℕ)) (xs : List Lowered) (e : Key × ℕ) → IsKept es xs (es ++ e ∷ []) xs
kept-more es xs e = record {
  keys = omega (arith, length_push es e);
  count = omega arith;
  first = λ n l. refl;
  back = λ k n l m. ap (restored (drop n xs)) (take-append-le k es (e ∷ []) l);
}

pub kept-lowered : (es : List (Key × ℕ)) (xs : List Lowered) (i v t : ℕ) → value_at es i ≡ Some v
    → IsKept es xs (set_value_at es i t) (xs ++ record { place = i; leader = v } ∷ [])
kept-lowered es xs i v t h = record {
  keys = omega (arith, length-written es i t);
  count = omega (arith, length_push xs (record { place = i; leader = v }));
  first = λ n l. take-append-le n xs (record { place = i; leader = v } ∷ []) l;
  back = λ k n l m.
      (let d : drop n (xs ++ record { place = i; leader = v } ∷ []) ≡ drop n xs ++ record { place = i; leader = v } ∷ [] = drop-append-le n xs (record { place = i; leader = v } ∷ []) m in
      let own : set_value_at (take k (set_value_at es i t)) i v ≡ take k es =
      ap (λ z. set_value_at z i v) (take-written k es i t) ∙ written-twice (take k es) i t v ∙ sym (take-written k es i v) ∙ ap (take k) (written-own es i v h) in
      ap (λ z. restored z (take k (set_value_at es i t))) d ∙ restored-push (drop n xs) (record { place = i; leader = v }) (take k (set_value_at es i t)) ∙ ap (restored (drop n xs)) own);
}

pub kept-on : (es fs gs : List (Key × ℕ)) (xs ys zs : List Lowered) → IsKept es xs fs ys → IsKept fs ys gs zs → IsKept es xs gs zs
kept-on es fs gs xs ys zs p q = record {
  keys = omega (arith, p.keys, q.keys);
  count = omega (arith, p.count, q.count);
  first = λ n l. q.first n (omega (arith, p.count)) ∙ p.first n l;
  back = λ k n l m. q.back k n (omega (arith, p.keys)) (omega (arith, p.count)) ∙ p.back k n l m;
}

pub value-read : (es : List (Key × ℕ)) (i : ℕ) → slice_get (map (λ e. e.1) es) i ≡ value_at es i
value-read [] i = refl
value-read (e ∷ es) zero = refl
value-read (e ∷ es) (suc i) = value-read es i

pub kept-back : (es fs : List (Key × ℕ)) (xs ys : List Lowered) → IsKept es xs fs ys → restored (drop (length xs) ys) (take (length es) fs) ≡ es
kept-back es fs xs ys h =
    let a : drop (length xs) xs ≡ [] = drop_all (length xs) xs (omega arith) in
    let b : take (length es) es ≡ es = take_all (length es) es (omega arith) in
    h.back (length es) (length xs) (omega arith) (omega arith) ∙ ap (λ z. restored z (take (length es) es)) a ∙ b

module _ (count : ℕ) (xs ys : List Lowered) (x : Lowered) (e : xs ≡ ys ++ x ∷ []) (l : count < length xs) where
  pub popped-within : count ≤ length ys
  popped-within = omega (arith, ap length e, length_push ys x)

  pub popped-first : take count ys ≡ take count xs
  popped-first = sym (ap (take count) e ∙ take-append-le count ys (x ∷ []) popped-within)

  pub popped-back : (es fs R : List (Key × ℕ)) → fs ≡ set_value_at es x.place x.leader → restored (drop count xs) es ≡ R → restored (drop count ys) fs ≡ R
  popped-back es fs R p h =
      let d : drop count xs ≡ drop count ys ++ x ∷ [] = ap (drop count) e ∙ drop-append-le count ys (x ∷ []) popped-within in
      ap (restored (drop count ys)) p ∙ sym (restored-push (drop count ys) x es) ∙ sym (ap (λ z. restored z es) d) ∙ h

pub kept-last : {A E : Type 0} (r : Result A E) (es fs : List (Key × ℕ)) (xs : List Lowered) (e : Key × ℕ) → OnOk r (fs ≡ es ++ e ∷ []) → OnErr r (fs ≡ es) → IsKept es xs fs xs
kept-last (Ok _) es fs xs e h k = rw h (kept-more es xs e)
kept-last (Err _) es fs xs e h k = rw k (kept-same es xs)
