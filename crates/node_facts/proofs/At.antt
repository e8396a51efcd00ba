-- Inductions along the way to a place.
use Rattle.std.specs.Prelude.{ltb}
use Rattle.std.proofs.Common.{ℕ, zero, suc, ◌≡◌, ◌+◌, ◌-◌, ◌<◌, List, ◌++◌, Option, sym, ap, ◌∙◌, subst, arith, inl, inr, false}
use Rattle.std.proofs.lemmas.Bool.{cond-true, cond-false, lt-ltb}
use Rattle.std.proofs.lemmas.Bool.Decides.{nat_tests}
use Rattle.flat_form.specs.declared.atom.Flat.{Flat}
use Rattle.flat_form.specs.declared.cube.Cube.{Cube}
use Rattle.node_facts.specs.Branches.{Branch, Branches, branch, no_branch, one_more, size}
use Rattle.node_facts.specs.Places.{At, AtOne, changed, changed_one}

pub changed_here : (f : Branch → Branch) (i : ℕ) (part : Branch) (rest : Branches) → i < size part
    → changed_one f i (one_more part rest) ≡ one_more (changed f i part) rest
changed_here f i part rest low =
    cond-true (ltb i (size part)) (one_more (changed f i part) rest) (one_more part (changed_one f (i - size part) rest)) (lt-ltb i (size part) low)

pub changed_later : (f : Branch → Branch) (i : ℕ) (part : Branch) (rest : Branches) (k : ℕ) → i ≡ size part + k
    → changed_one f i (one_more part rest) ≡ one_more part (changed_one f k rest)
changed_later f i part rest k same =
    let past : ltb i (size part) ≡ false = grind (arith, nat_tests) in
    let left : i - size part ≡ k = omega (arith, same) in
    cond-false (ltb i (size part)) (one_more (changed f i part) rest) (one_more part (changed_one f (i - size part) rest)) past
    ∙ ap (λ (j : ℕ). one_more part (changed_one f j rest)) left

-- what goes down from a branch to its parts, and from these to each, is had at each place
module _ (P : ℕ → List Flat → Branch → Type 0) (Ps : ℕ → List Flat → Branches → Type 0)
    (down : (n : ℕ) (round : List Flat) (bound : ℕ) (basic : List Flat) (parts : Branches) (list : Option (List Cube))
    → P n round (branch bound basic parts list) → Ps (n + bound) (round ++ basic) parts)
    (head : (n : ℕ) (round : List Flat) (part : Branch) (rest : Branches) → Ps n round (one_more part rest) → P n round part)
    (tail : (n : ℕ) (round : List Flat) (part : Branch) (rest : Branches) → Ps n round (one_more part rest) → Ps n round rest) where
  mutual
    pub at_has : (n i m : ℕ) (round under : List Flat) (root x : Branch) → At n round root i m under x → P n round root → P m under x
    at_has n zero m round under (branch bound basic parts list) x (same_n, same_round, same_x) has =
        subst (λ (k : ℕ). P k under x) (sym same_n)
        (subst (λ (z : List Flat). P n z x) (sym same_round) (subst (λ (z : Branch). P n round z) (sym same_x) has))
    at_has n (suc i) m round under (branch bound basic parts list) x at has =
        at_one_has (n + bound) i m (round ++ basic) under parts x at (down n round bound basic parts list has)

    at_one_has : (n i m : ℕ) (round under : List Flat) (parts : Branches) (x : Branch) → AtOne n round parts i m under x → Ps n round parts → P m under x
    at_one_has n i m round under no_branch x at has = absurd at
    at_one_has n i m round under (one_more part rest) x (inl (low, at)) has = at_has n i m round under part x at (head n round part rest has)
    at_one_has n i m round under (one_more part rest) x (inr (k, same, at)) has = at_one_has n k m round under rest x at (tail n round part rest has)

-- what goes up from the parts to a branch, where one of them changed, holds of the whole where it does at the place
module _ (f : Branch → Branch) (R : ℕ → List Flat → Branch → Branch → Type 0) (Rs : ℕ → List Flat → Branches → Branches → Type 0)
    (up : (n : ℕ) (round : List Flat) (bound : ℕ) (basic : List Flat) (old new : Branches) (list : Option (List Cube))
    → Rs (n + bound) (round ++ basic) old new → R n round (branch bound basic old list) (branch bound basic new list))
    (head : (n : ℕ) (round : List Flat) (old new : Branch) (rest : Branches) → R n round old new → Rs n round (one_more old rest) (one_more new rest))
    (tail : (n : ℕ) (round : List Flat) (part : Branch) (old new : Branches) → Rs n round old new → Rs n round (one_more part old) (one_more part new)) where
  mutual
    pub changed_has : (n i m : ℕ) (round under : List Flat) (root x : Branch) → At n round root i m under x → R m under x (f x) → R n round root (changed f i root)
    changed_has n zero m round under (branch bound basic parts list) x (same_n, same_round, same_x) has =
        subst (λ (z : Branch). R n round z (f z)) same_x
        (subst (λ (z : List Flat). R n z x (f x)) same_round (subst (λ (k : ℕ). R k under x (f x)) same_n has))
    changed_has n (suc i) m round under (branch bound basic parts list) x at has =
        up n round bound basic parts (changed_one f i parts) list (changed_one_has (n + bound) i m (round ++ basic) under parts x at has)

    changed_one_has : (n i m : ℕ) (round under : List Flat) (parts : Branches) (x : Branch) → AtOne n round parts i m under x → R m under x (f x)
        → Rs n round parts (changed_one f i parts)
    changed_one_has n i m round under no_branch x at has = absurd at
    changed_one_has n i m round under (one_more part rest) x (inl (low, at)) has =
        subst (λ (z : Branches). Rs n round (one_more part rest) z) (sym (changed_here f i part rest low))
        (head n round part (changed f i part) rest (changed_has n i m round under part x at has))
    changed_one_has n i m round under (one_more part rest) x (inr (k, same, at)) has =
        subst (λ (z : Branches). Rs n round (one_more part rest) z) (sym (changed_later f i part rest k same))
        (tail n round part rest (changed_one f k rest) (changed_one_has n k m round under rest x at has))
