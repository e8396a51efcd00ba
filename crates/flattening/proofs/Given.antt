-- Numbers given to variables, one after another.
use Rattle.std.proofs.Common.{ℕ, ◌≡◌, ◌<◌, ◌+◌, List, [], ◌∷◌, ◌++◌, length, take, drop, drop-cons, add-one, get_or, append_assoc, refl, ap, sym, ◌∙◌, inl, inr}
use Rattle.std.proofs.lemmas.Bool.Decides.{eqb_tells}
use Rattle.std.proofs.lemmas.List.{take_more}
use Rattle.tree_model.specs.Valuations.{update}
use Rattle.flattening.specs.Numbers.{with_numbers, number_by, given_ranks}

with_more : (m : ℕ → ℕ) (given : List (ℕ × ℕ)) (x n : ℕ) → with_numbers m (given ++ (x, n) ∷ []) ≡ update (with_numbers m given) x n
with_more m [] x n = refl
with_more m (pair ∷ given) x n = with_more (update m pair.0 pair.1) given x n

-- one more number
pub number_more : (given : List (ℕ × ℕ)) (x n : ℕ) → number_by (given ++ (x, n) ∷ []) ≡ update (number_by given) x n
number_more given x n = with_more (λ v. 0) given x n

number_next : (given : List (ℕ × ℕ)) (i v : ℕ) (d : ℕ × ℕ) → i < length given
    → number_by (take (i + 1) given) v ≡ update (number_by (take i given)) (get_or given i d).0 (get_or given i d).1 v
number_next given i v d within =
    ap (λ xs. number_by xs v) (take_more given i d within)
    ∙ ap (λ m. m v) (number_more (take i given) (get_or given i d).0 (get_or given i d).1)

-- an updated value, read
pub update_same : {A : Type 0} (e : ℕ → A) (x : ℕ) (t : A) (y : ℕ) → x ≡ y → update e x t y ≡ t
update_same e x t y p = elim (eqb_tells x y) [ inl h ↦ rw h.0 refl | inr h ↦ absurd (h.1 p) ]

pub update_other : {A : Type 0} (e : ℕ → A) (x : ℕ) (t : A) (y : ℕ) → ¬ (x ≡ y) → update e x t y ≡ e y
update_other e x t y n = elim (eqb_tells x y) [ inl h ↦ absurd (n h.1) | inr h ↦ rw h.0 refl ]

-- the next pair gives the variable its number, or another one
pub number_hit : (items given : List (ℕ × ℕ)) (i v new : ℕ) → items ≡ given → i < length items → (get_or items i (0, 0)).0 ≡ v → new ≡ (get_or items i (0, 0)).1
    → new ≡ number_by (take (i + 1) given) v
number_hit items given i v new same within hit is =
    is ∙ sym (update_same (number_by (take i items)) (get_or items i (0, 0)).0 (get_or items i (0, 0)).1 v hit)
    ∙ sym (number_next items i v (0, 0) within) ∙ ap (λ xs. number_by (take (i + 1) xs) v) same

pub number_miss : (items given : List (ℕ × ℕ)) (i v old new : ℕ) → items ≡ given → i < length items → ¬ ((get_or items i (0, 0)).0 ≡ v) → old ≡ number_by (take i given) v
    → new ≡ old → new ≡ number_by (take (i + 1) given) v
number_miss items given i v old new same within miss was is =
    is ∙ was ∙ ap (λ xs. number_by (take i xs) v) (sym same)
    ∙ sym (update_other (number_by (take i items)) (get_or items i (0, 0)).0 (get_or items i (0, 0)).1 v miss)
    ∙ sym (number_next items i v (0, 0) within) ∙ ap (λ xs. number_by (take (i + 1) xs) v) same

-- one more rank
pub rank_more : (ranks : List ℕ) (i : ℕ) (v : ℕ) (given new all : List (ℕ × ℕ)) → i < length ranks → v ≡ get_or ranks i 0
    → given ++ given_ranks i (drop i ranks) ≡ all → new ≡ given ++ (v, i) ∷ [] → new ++ given_ranks (i + 1) (drop (i + 1) ranks) ≡ all
rank_more ranks i v given new all within is was more =
    let rest : drop i ranks ≡ v ∷ drop (i + 1) ranks = rw (add-one, is) (drop-cons ranks i 0 within) in
    rw (more, append_assoc) (rw rest at was)
