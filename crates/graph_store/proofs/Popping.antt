-- The top scope is given up.
use Rattle.std.proofs.Common.{ℕ, suc, ◌≡◌, ◌+◌, ◌-◌, ◌≤◌, List, [], ◌∷◌, ◌++◌, length, take, refl, sym, ◌∙◌, ap, subst, arith}
use Rattle.std.proofs.lemmas.List.{length_push}
use Rattle.term_graph.specs.Contents.{History, back_to}
use Rattle.basic_solver.specs.declared.scope.Scope.{Scope}
use Rattle.basic_solver.specs.Stores.{below}
use Rattle.basic_solver.proofs.Storing.{below_push}
use Rattle.graph_store.specs.declared.floor.Floor.{Floor}
use Rattle.graph_store.specs.Levels.{AreLevels, lowest, above}

-- all but the last
front : {X : Type 0} (xs : List X) (x : X) → take (length (xs ++ x ∷ []) - 1) (xs ++ x ∷ []) ≡ xs
front {X} xs x = ap (λ n. take n (xs ++ x ∷ [])) (let n : length (xs ++ x ∷ []) - 1 ≡ length xs = omega (arith, length_push xs x) in n) ∙ first xs
  where
    first : (ys : List X) → take (length ys) (ys ++ x ∷ []) ≡ ys
    first [] = refl
    first (y ∷ ys) = ap (λ zs. y ∷ zs) (first ys)

same_front : {X : Type 0} (xs ys : List X) (x y : X) → xs ++ x ∷ [] ≡ ys ++ y ∷ [] → (xs ≡ ys) × (x ≡ y)
same_front [] [] x y e = (refl, cc)
same_front [] (b ∷ []) x y e = absurd (let no : 1 ≡ 2 = ap length e in cc)
same_front [] (b ∷ c ∷ ys) x y e = absurd (let no : 1 ≡ suc (suc (length (ys ++ y ∷ []))) = ap length e in cc)
same_front (a ∷ []) [] x y e = absurd (let no : 2 ≡ 1 = ap length e in cc)
same_front (a ∷ b ∷ xs) [] x y e = absurd (let no : suc (suc (length (xs ++ x ∷ []))) ≡ 1 = ap length e in cc)
same_front (a ∷ xs) (b ∷ ys) x y e =
    let here : a ≡ b = cc in
    let later : xs ++ x ∷ [] ≡ ys ++ y ∷ [] = cc in
    let it = same_front xs ys x y later in (ap (λ z. z ∷ xs) here ∙ ap (λ zs. b ∷ zs) it.0, it.1)

-- the graph at the floor is that of the scopes below
pub popped : (h : History) (owners : List ℕ) (scopes : List Scope) (all floors : List Floor) (floor : Floor) → AreLevels h owners scopes all → all ≡ floors ++ floor ∷ []
    → (floor.mark.length ≤ length h.trail)
    × AreLevels (back_to floor.mark.length h) (take floor.owners owners) (take (length scopes - 1) scopes) floors
popped h owners scopes all floors floor (lowest g mine scope level) e = absurd (let no : 0 ≡ length floors + 1 = ap length e ∙ length_push floors floor in omega (arith, no))
popped h owners scopes all floors floor (above g mine under scope below last level low few levels) e =
    let same = same_front below floors last floor e in (
      subst (λ z. z.mark.length ≤ length h.trail) same.1 low,
      subst (λ zs. AreLevels (back_to floor.mark.length h) (take floor.owners owners) zs floors) (sym (front under scope))
          (subst (λ fs. AreLevels (back_to floor.mark.length h) (take floor.owners owners) under fs) same.0
          (subst (λ z. AreLevels (back_to z.mark.length h) (take z.owners owners) under below) same.1 levels)),
    )

-- where no floor is left there is one scope
pub alone : (h : History) (owners : List ℕ) (scopes : List Scope) (all : List Floor) → AreLevels h owners scopes all → all ≡ [] → length scopes ≡ 1
alone h owners scopes all (lowest g mine scope level) e = refl
alone h owners scopes all (above g mine under scope below last level low few levels) e =
    absurd (let no : length below + 1 ≡ 0 = sym (length_push below last) ∙ ap length e in omega (arith, no))

-- and the scopes are those below
pub popped_scopes : (h : History) (owners : List ℕ) (scopes : List Scope) (all floors : List Floor) (floor : Floor) → AreLevels h owners scopes all → all ≡ floors ++ floor ∷ []
    → take (length scopes - 1) scopes ≡ below scopes
popped_scopes h owners scopes all floors floor (lowest g mine scope level) e = refl
popped_scopes h owners scopes all floors floor (above g mine under scope under_floors last level low few levels) e = front under scope ∙ sym (below_push under scope)

-- all that is left
pub popped_to : (h new : History) (owners kept : List ℕ) (scopes after : List Scope) (all floors : List Floor) (floor : Floor) → AreLevels h owners scopes all → all ≡ floors ++ floor ∷ []
    → new ≡ back_to floor.mark.length h → kept ≡ take floor.owners owners → after ≡ take (length scopes - 1) scopes → AreLevels new kept after floors
popped_to h new owners kept scopes after all floors floor levels e at_graph at_owners at_scopes =
    subst (λ (z : History). AreLevels z kept after floors) (sym at_graph)
    (subst (λ (z : List ℕ). AreLevels (back_to floor.mark.length h) z after floors) (sym at_owners)
    (subst (λ (z : List Scope). AreLevels (back_to floor.mark.length h) (take floor.owners owners) z floors) (sym at_scopes)
    (popped h owners scopes all floors floor levels e).1))
