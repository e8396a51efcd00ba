-- Finding the first twin of each atom by a table of keys.
use Rattle.std.proofs.Common.{ℕ, zero, suc, ◌≡◌, ◌<◌, ◌+◌, Bool, true, false, cond, List, [], ◌∷◌, ◌++◌, map, length, refl, sym, ap, ◌∙◌, subst, arith, inl, inr, ◌⊎◌, Option, Some, None}
use Rattle.std.specs.Prelude.{slice_index, slice_get}
use Rattle.std.proofs.lemmas.List.{get_or-map, length-map, length-append, get_or_append_left}
use Rattle.std.proofs.lemmas.Option.{slice_get_within}
use Rattle.tree_model.specs.declared.tree.Symbol.{Symbol}
use Rattle.flat_form.specs.declared.atom.Flat.{Flat}
use Rattle.flat_form.specs.declared.atom.Flat.TheVariants.{VarVar, VarTerm, Finite}
use Rattle.basic_solver.specs.declared.twins.Application.{Application}
use Rattle.basic_solver.specs.Names.{name_in, AreAlike}
use Rattle.basic_solver.specs.Twins.{sign_of, is_same_key, IsKeyOf, IsPlaced, IsTwinned, IsTwin, AreTwins}
use Rattle.basic_solver.proofs.Noted.{some_or_none}
use Rattle.basic_solver.proofs.Keys.{true_or_false, sign_once, key_tells, key_same}
use Rattle.basic_solver.proofs.Tables.{same_list}

-- the first i atoms have their twins, and the table has their keys
pub record IsTwinning (names : List ℕ) (atoms : List Flat) (table : Application → Option ℕ) (twins : List ℕ) (i : ℕ) : Type 0 where
  pub size : length twins ≡ i
  pub low : (k : ℕ) → k < i → slice_index twins k < length atoms
  pub found : (k u : ℕ) (s : Symbol) (xs : List ℕ) (q : Application) → k < i → slice_get atoms k ≡ Some (VarTerm u s xs) → IsKeyOf names s xs q
      → table q ≡ Some (slice_index twins k)
  pub real : (q : Application) (j : ℕ) → table q ≡ Some j
      → (j < i) × (u : ℕ) × (s : Symbol) × (xs : List ℕ) × (slice_get atoms j ≡ Some (VarTerm u s xs)) × IsKeyOf names s xs q
  pub keyed : (k u : ℕ) (s : Symbol) (xs : List ℕ) → k < i → slice_get atoms k ≡ Some (VarTerm u s xs) → (q : Application) × IsKeyOf names s xs q

read_last : (xs : List ℕ) (x k : ℕ) → k ≡ length xs → slice_index (xs ++ x ∷ []) k ≡ x
read_last [] x zero e = refl
read_last [] x (suc k) e = absurd (omega (arith, e))
read_last (y ∷ xs) x zero e = absurd (omega (arith, e))
read_last (y ∷ xs) x (suc k) e = read_last xs x k (omega (arith, e))

at_or_before : (k i : ℕ) → k < i + 1 → (k < i) ⊎ (k ≡ i)
at_or_before k i w = grind arith

-- a key of these arguments is one of all that equal it
key_moves : (names : List ℕ) (s : Symbol) (xs : List ℕ) (p q : Application) → is_same_key p q ≡ true → IsKeyOf names s xs p → IsKeyOf names s xs q
key_moves names s xs p q h k = (sym (key_tells p q h).0 ∙ k.0, sym (key_tells p q h).1 ∙ k.1)

key_moves_back : (names : List ℕ) (s : Symbol) (xs : List ℕ) (p q : Application) → is_same_key p q ≡ true → IsKeyOf names s xs q → IsKeyOf names s xs p
key_moves_back names s xs p q h k = ((key_tells p q h).0 ∙ k.0, (key_tells p q h).1 ∙ k.1)

module _ (names : List ℕ) (atoms : List Flat) (old new : Application → Option ℕ) (twins : List ℕ) (i j : ℕ) (given : IsTwinning names atoms old twins i) where
  abbrev after : List ℕ
  after = twins ++ j ∷ []

  read_before : (k : ℕ) → k < i → slice_index after k ≡ slice_index twins k
  read_before k w = get_or_append_left twins (j ∷ []) 0 k (omega (arith, given.size, w))

  read_here : (k : ℕ) → k ≡ i → slice_index after k ≡ j
  read_here k e = read_last twins j k (e ∙ sym given.size)

  grown : length after ≡ i + 1
  grown = omega (arith, length-append twins (j ∷ []), given.size)

  -- an atom with no term
  module _ (a : Flat) (at : slice_get atoms i ≡ Some a) (bare : (u : ℕ) (s : Symbol) (xs : List ℕ) → ¬ (a ≡ VarTerm u s xs))
      (same : (q : Application) → new q ≡ old q) (own : j ≡ i) where
    here : (k : ℕ) → k < i + 1 → (u : ℕ) (s : Symbol) (xs : List ℕ) → slice_get atoms k ≡ Some (VarTerm u s xs) → k < i
    here k w u s xs g = elim (at_or_before k i w) [
      | inl l ↦ l
      | inr e ↦
          let there : slice_get atoms i ≡ Some (VarTerm u s xs) = subst (λ (z : ℕ). slice_get atoms z ≡ Some (VarTerm u s xs)) e g in
          let is : a ≡ VarTerm u s xs = cc (at, there) in
          absurd (bare u s xs is)
    ]

    bare_more : IsTwinning names atoms new after (i + 1)
    bare_more = record {
      size = grown;
      low = λ k w. elim (at_or_before k i w) [
        | inl l ↦ omega (arith, read_before k l, given.low k l)
        | inr e ↦ omega (arith, read_here k e, own, slice_get_within atoms i a at)
      ];
      found = λ k u s xs q w g key. let l = here k w u s xs g in same q ∙ given.found k u s xs q l g key ∙ ap Some (sym (read_before k l));
      real = λ q m e. let r = given.real q m (sym (same q) ∙ e) in (omega (arith, r.0), r.1, r.2, r.3, r.4, r.5);
      keyed = λ k u s xs w g. given.keyed k u s xs (here k w u s xs g) g;
    }

  -- an atom with a term
  module _ (u : ℕ) (s : Symbol) (xs : List ℕ) (at : slice_get atoms i ≡ Some (VarTerm u s xs)) (key : Application) (own : IsKeyOf names s xs key)
      (placed : IsPlaced old new key i j) where
    abbrev IsReal : ℕ → Application → Type 0
    IsReal m q = (m < i + 1) × (v : ℕ) × (t : Symbol) × (ys : List ℕ) × (slice_get atoms m ≡ Some (VarTerm v t ys)) × IsKeyOf names t ys q

    there : IsReal j key
    there = elim (some_or_none (old key)) [
      | inl (m, e) ↦
          let r = given.real key m e in
          let same : m ≡ j = sym (placed.2 m e) in
          subst (λ (z : ℕ). IsReal z key) same (omega (arith, r.0), r.1, r.2, r.3, r.4, r.5)
      | inr e ↦ subst (λ (z : ℕ). IsReal z key) (sym (placed.1 e)) (omega arith, u, s, xs, at, own)
    ]

    answer_same : (q : Application) → is_same_key key q ≡ true → new q ≡ Some j
    answer_same q h = let P : Bool → Type 0 = λ z. new q ≡ cond z (Some j) (old q) in subst P h (placed.0 q)

    answer_other : (q : Application) → is_same_key key q ≡ false → new q ≡ old q
    answer_other q h = let P : Bool → Type 0 = λ z. new q ≡ cond z (Some j) (old q) in subst P h (placed.0 q)

    found_before : (k v : ℕ) (t : Symbol) (ys : List ℕ) (q : Application) → k < i → slice_get atoms k ≡ Some (VarTerm v t ys) → IsKeyOf names t ys q
        → new q ≡ Some (slice_index after k)
    found_before k v t ys q l g kq = elim (true_or_false (is_same_key key q)) [
      | inl h ↦
          let e : j ≡ slice_index twins k = placed.2 (slice_index twins k) (given.found k v t ys key l g (key_moves_back names t ys key q h kq)) in
          answer_same q h ∙ ap Some (e ∙ sym (read_before k l))
      | inr h ↦ answer_other q h ∙ given.found k v t ys q l g kq ∙ ap Some (sym (read_before k l))
    ]

    found_here : (k v : ℕ) (t : Symbol) (ys : List ℕ) (q : Application) → k ≡ i → slice_get atoms k ≡ Some (VarTerm v t ys) → IsKeyOf names t ys q
        → new q ≡ Some (slice_index after k)
    found_here k v t ys q e g kq =
        let here : slice_get atoms i ≡ Some (VarTerm v t ys) = subst (λ (z : ℕ). slice_get atoms z ≡ Some (VarTerm v t ys)) e g in
        let es : s ≡ t = cc (at, here) in
        let ex : xs ≡ ys = cc (at, here) in
        let same : is_same_key key q ≡ true = key_same key q (own.0 ∙ ap sign_of es ∙ sym kq.0) (own.1 ∙ ap (map (name_in names)) ex ∙ sym kq.1) in
        answer_same q same ∙ ap Some (sym (read_here k e))

    term_more : IsTwinning names atoms new after (i + 1)
    term_more = record {
      size = grown;
      low = λ k w. elim (at_or_before k i w) [
        | inl l ↦ omega (arith, read_before k l, given.low k l)
        | inr e ↦ omega (arith, read_here k e, slice_get_within atoms j (VarTerm there.1 there.2 there.3) there.4)
      ];
      found = λ k v t ys q w g kq. elim (at_or_before k i w) [ inl l ↦ found_before k v t ys q l g kq | inr e ↦ found_here k v t ys q e g kq ];
      real = λ q m e. elim (true_or_false (is_same_key key q)) [
        | inl h ↦
            let same : j ≡ m = cc (answer_same q h, e) in
            subst (λ (z : ℕ). IsReal z q) same (there.0, there.1, there.2, there.3, there.4, key_moves names there.2 there.3 key q h there.5)
        | inr h ↦ let r = given.real q m (sym (answer_other q h) ∙ e) in (omega (arith, r.0), r.1, r.2, r.3, r.4, r.5)
      ];
      keyed = λ k v t ys w g. elim (at_or_before k i w) [
        | inl l ↦ given.keyed k v t ys l g
        | inr e ↦
            let here : slice_get atoms i ≡ Some (VarTerm v t ys) = subst (λ (z : ℕ). slice_get atoms z ≡ Some (VarTerm v t ys)) e g in
            let es : s ≡ t = cc (at, here) in
            let ex : xs ≡ ys = cc (at, here) in
            (key, (own.0 ∙ ap sign_of es, own.1 ∙ ap (map (name_in names)) ex))
      ];
    }

pub twinning_more : (names : List ℕ) (atoms : List Flat) (old new : Application → Option ℕ) (twins : List ℕ) (i j : ℕ) (a : Flat) → slice_get atoms i ≡ Some a
    → IsTwinning names atoms old twins i → IsTwinned names old new a i j → IsTwinning names atoms new (twins ++ j ∷ []) (i + 1)
twinning_more names atoms old new twins i j (VarVar u r) at given t = bare_more names atoms old new twins i j given (VarVar u r) at (λ v s xs e. cc) t.0 t.1
twinning_more names atoms old new twins i j (VarTerm u s xs) at given t = term_more names atoms old new twins i j given u s xs at t.0 t.1 t.2
twinning_more names atoms old new twins i j (Finite u) at given t = bare_more names atoms old new twins i j given (Finite u) at (λ v s xs e. cc) t.0 t.1

pub twinning_first : (names : List ℕ) (atoms : List Flat) (table : Application → Option ℕ) → ((q : Application) → table q ≡ None) → IsTwinning names atoms table [] 0
twinning_first names atoms table none = record {
  size = refl;
  low = λ k w. absurd (omega (arith, w));
  found = λ k u s xs q w. absurd (omega (arith, w));
  real = λ q j e. absurd (cc (none q, e));
  keyed = λ k u s xs w. absurd (omega (arith, w));
}

module _ (names : List ℕ) (atoms : List Flat) (table : Application → Option ℕ) (twins : List ℕ) (all : IsTwinning names atoms table twins (length atoms)) where
  keys_alike : (s t : Symbol) (xs ys : List ℕ) (q : Application) → IsKeyOf names s xs q → IsKeyOf names t ys q → (s ≡ t) × (length xs ≡ length ys) × AreAlike names xs ys
  keys_alike s t xs ys q ks kt =
      let e : map (name_in names) xs ≡ map (name_in names) ys = sym ks.1 ∙ kt.1 in
      let len : length xs ≡ length ys = sym (length-map xs (name_in names)) ∙ ap length e ∙ length-map ys (name_in names) in (
        sign_once s t (sym ks.0 ∙ kt.0),
        len,
        λ k w. sym (get_or-map (name_in names) xs k 0 0 w) ∙ ap (λ (z : List ℕ). slice_index z k) e ∙ get_or-map (name_in names) ys k 0 0 (omega (arith, len, w)),
      )

  is_twin : (s : Symbol) (xs : List ℕ) (b : Flat) (v : ℕ) (t : Symbol) (ys : List ℕ) → b ≡ VarTerm v t ys → (s ≡ t) × (length xs ≡ length ys) × AreAlike names xs ys
      → IsTwin names s xs b
  is_twin s xs b v t ys e h = subst (λ (z : Flat). IsTwin names s xs z) (sym e) h

  alike_names : (xs ys : List ℕ) → length xs ≡ length ys → AreAlike names xs ys → map (name_in names) xs ≡ map (name_in names) ys
  alike_names xs ys len alike =
      let long : length (map (name_in names) xs) ≡ length xs = length-map xs (name_in names) in
      same_list (map (name_in names) xs) (map (name_in names) ys) (long ∙ len ∙ sym (length-map ys (name_in names)))
      (λ k w. get_or-map (name_in names) xs k 0 0 (omega (arith, long, w)) ∙ alike k (omega (arith, long, w)) ∙ sym (get_or-map (name_in names) ys k 0 0 (omega (arith, long, len, w))))

  pub twins_from : AreTwins names atoms twins
  twins_from = record {
    size = all.size;
    within = all.low;
    twin = λ k u s xs b at there.
        let w : k < length atoms = slice_get_within atoms k (VarTerm u s xs) at in
        let q = all.keyed k u s xs w at in
        let r = all.real q.0 (slice_index twins k) (all.found k u s xs q.0 w at q.1) in
        let is : b ≡ VarTerm r.1 r.2 r.3 = cc (there, r.4) in
        is_twin s xs b r.1 r.2 r.3 is (keys_alike s r.2 xs r.3 q.0 q.1 r.5);
    one = λ k j u v s xs ys at too len alike.
        let w : k < length atoms = slice_get_within atoms k (VarTerm u s xs) at in
        let x : j < length atoms = slice_get_within atoms j (VarTerm v s ys) too in
        let q = all.keyed k u s xs w at in
        let left : table q.0 ≡ Some (slice_index twins k) = all.found k u s xs q.0 w at q.1 in
        let right : table q.0 ≡ Some (slice_index twins j) = all.found j v s ys q.0 x too (q.1.0, q.1.1 ∙ alike_names xs ys len alike) in
        cc (left, right);
  }
