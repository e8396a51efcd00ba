-- Runs of elements that pass a test.
use Rattle.std.proofs.Common.{◌≡◌, ℕ, zero, suc, ◌+◌, ◌≤◌, ◌<◌, Bool, true, false, ◌&&◌, cond, List, [], ◌∷◌, take, length, refl, arith, one-add}
use Rattle.std.specs.List.{prefix_len, list_all}
use Rattle.std.proofs.lemmas.List.Sums.{prefix_len-le-length}

pub ruleset within = (prefix_len-le-length)

-- all of the run pass
pub run_passes : (p : ℕ → Bool) (bs : List ℕ) → list_all p (take (prefix_len p bs) bs) ≡ true
run_passes p [] = refl
run_passes p (b ∷ bs) = step (run_passes p bs) (p b) refl
  where
    step : list_all p (take (prefix_len p bs) bs) ≡ true → (x : Bool) → p b ≡ x → list_all p (take (cond x (1 + prefix_len p bs) 0) (b ∷ bs)) ≡ true
    step rest true e = rw (one-add, e) rest
    step rest false e = refl

-- more bytes than the run do not all pass
pub run_ends : (p : ℕ → Bool) (bs : List ℕ) (m : ℕ) → prefix_len p bs < m → m ≤ length bs → list_all p (take m bs) ≡ false
run_ends p bs zero h l = absurd (omega arith)
run_ends p [] (suc m) h l = absurd (omega arith)
run_ends p (b ∷ bs) (suc m) h l =
    let shorter : m ≤ length bs = omega arith in
    step (λ less. run_ends p bs m less shorter) (p b) refl h
  where
    step : (prefix_len p bs < m → list_all p (take m bs) ≡ false) → (x : Bool) → p b ≡ x
        → cond x (1 + prefix_len p bs) 0 < suc m → (p b && list_all p (take m bs)) ≡ false
    step rest true e less = rw e (rest (omega arith))
    step rest false e less = rw e refl
