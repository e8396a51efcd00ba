-- Some atoms of a list, taken one after another.
use Rattle.std.specs.Prelude.{Contains, IsTrue, ◌↔◌}
use Rattle.std.proofs.Common.{ℕ, Bool, true, false, rules, zero, suc, ◌≡◌, ◌+◌, ◌<◌, ◌≤◌, List, [], ◌∷◌, ◌++◌, length, take, get_or, sym, ap, ◌∙◌, subst, arith, inl, inr, ◌⊎◌}
use Rattle.std.proofs.lemmas.List.{take_more, take_all}
use Rattle.std.proofs.lemmas.List.Elements.{Contains-push, Contains-push_cases, Contains-append_left}
use Rattle.tree_facts.proofs.Members.{contains_first, contains_later, contains_cases}
use Rattle.flat_form.specs.declared.atom.Flat.{Flat}
use Rattle.flat_form.specs.Solved.{variable_of, Ascends}

-- an atom behind all others, in the order of variables
pub ascends_push : (xs : List Flat) (x : Flat) → Ascends xs → ((a : Flat) → Contains xs a → variable_of a < variable_of x) → Ascends (xs ++ x ∷ [])
ascends_push [] x up low = (λ later i. absurd (omega (arith, i.1)), tt)
ascends_push (y ∷ xs) x up low = (
  λ later i. elim (Contains-push_cases xs x later i) [
    | inl j ↦ up.0 later j
    | inr e ↦ omega (arith, low y (contains_first y xs), ap variable_of e)
  ],
  ascends_push xs x up.1 (λ a i. low a (contains_later y a xs i)),
)

-- what stands before an atom has a lower variable
pub lower_before : (xs : List Flat) (i : ℕ) (x : Flat) → Ascends xs → i < length xs → x ≡ get_or xs i x → (a : Flat) → Contains (take i xs) a → variable_of a < variable_of x
lower_before [] i x up w e a j = absurd (omega (arith, w))
lower_before (y ∷ xs) zero x up w e a j = absurd (omega (arith, j.1))
lower_before (y ∷ xs) (suc i) x up w e a j = elim (contains_cases y a (take i xs) j) [
  | inl same ↦
      let there : Contains xs x = (i, omega (arith, w), sym e) in
      subst (λ (z : Flat). variable_of z < variable_of x) same (up.0 x there)
  | inr later ↦ lower_before xs i x up.1 (omega (arith, w)) e a later
]

-- one more item
pub taken_more : {T : Type 0} (xs : List T) (i : ℕ) (x a : T) → i < length xs → x ≡ get_or xs i x
    → Contains (take (i + 1) xs) a → Contains (take i xs) a ⊎ (a ≡ x)
taken_more {T} xs i x a w e j = elim (Contains-push_cases (take i xs) (get_or xs i x) a (subst (λ (z : List T). Contains z a) (take_more xs i x w) j)) [
  | inl before ↦ inl before
  | inr same ↦ inr (sym same ∙ sym e)
]

pub taken_still : {T : Type 0} (xs : List T) (i : ℕ) (x a : T) → i < length xs → Contains (take i xs) a → Contains (take (i + 1) xs) a
taken_still {T} xs i x a w j = subst (λ (z : List T). Contains z a) (sym (take_more xs i x w)) (Contains-append_left (take i xs) (get_or xs i x ∷ []) a j)

pub taken_last : {T : Type 0} (xs : List T) (i : ℕ) (x : T) → i < length xs → x ≡ get_or xs i x → Contains (take (i + 1) xs) x
taken_last {T} xs i x w e = subst (λ (z : List T). Contains z x) (sym (take_more xs i x w))
    (subst (λ (y : T). Contains (take i xs ++ get_or xs i x ∷ []) y) (sym e) (Contains-push (take i xs) (get_or xs i x)))

-- of the first n atoms those that have P were found
pub record IsFound (P : Flat → Type 0) (atoms found : List Flat) : Type 0 where
  pub ascending : Ascends found
  pub is : (atom : Flat) → Contains found atom ↔ (Contains atoms atom × P atom)

pub found_none : (P : Flat → Type 0) (found : List Flat) → found ≡ [] → IsFound P [] found
found_none P found e = subst (λ (z : List Flat). IsFound P [] z) (sym e) (record {
  ascending = tt;
  is = λ a. (λ i. absurd (omega (arith, i.1)), λ p. absurd (omega (arith, p.0.1)));
})

module _ (P : Flat → Type 0) (atoms found : List Flat) (i : ℕ) (x : Flat) (up : Ascends atoms) (w : i < length atoms) (e : x ≡ get_or atoms i x)
    (so_far : IsFound P (take i atoms) found) where
  -- an atom that has P is found
  pub found_more : (y : Flat) (new : List Flat) → P x → y ≡ x → new ≡ found ++ y ∷ [] → IsFound P (take (i + 1) atoms) new
  found_more y new has same is = subst (λ (z : List Flat). IsFound P (take (i + 1) atoms) z) (sym is) (subst (λ (z : Flat). IsFound P (take (i + 1) atoms) (found ++ z ∷ [])) (sym same) (record {
    ascending = ascends_push found x so_far.ascending (λ a j. lower_before atoms i x up w e a ((so_far.is a).0 j).0);
    is = λ a. (
      λ j. elim (Contains-push_cases found x a j) [
        | inl before ↦ let p = (so_far.is a).0 before in (taken_still atoms i x a w p.0, p.1)
        | inr last ↦ (
          subst (λ (z : Flat). Contains (take (i + 1) atoms) z) last (taken_last atoms i x w e),
          subst P last has,
        )
      ],
      λ p. elim (taken_more atoms i x a w e p.0) [
        | inl before ↦ Contains-append_left found (x ∷ []) a ((so_far.is a).1 (before, p.1))
        | inr last ↦ subst (λ (z : Flat). Contains (found ++ x ∷ []) z) (sym last) (Contains-push found x)
      ],
    );
  }))

  -- and one that has not is passed over
  pub found_still : ¬ P x → IsFound P (take (i + 1) atoms) found
  found_still out = record {
    ascending = so_far.ascending;
    is = λ a. (
      λ j. let p = (so_far.is a).0 j in (taken_still atoms i x a w p.0, p.1),
      λ p. elim (taken_more atoms i x a w e p.0) [
        | inl before ↦ (so_far.is a).1 (before, p.1)
        | inr last ↦ absurd (out (subst P last p.1))
      ],
    );
  }

-- a test that is true
pub always : (b : Bool) → b ≡ true → IsTrue b
always true e = search rules
always false e = absurd (cc e)

-- all atoms were gone through
pub found_all : (P : Flat → Type 0) (atoms found : List Flat) (i : ℕ) → length atoms ≤ i → IsFound P (take i atoms) found → IsFound P atoms found
found_all P atoms found i w h = subst (λ (z : List Flat). IsFound P z found) (take_all i atoms w) h
