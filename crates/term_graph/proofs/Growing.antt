-- Graphs that have grown by calls.
use Rattle.std.proofs.Common.{ℕ, zero, suc, ◌≤◌, ◌≡◌, List, [], ◌∷◌, length, take, refl, sym, ◌∙◌, ap, subst, inl, inr, ◌⊎◌, arith}
use Rattle.std.proofs.lemmas.List.{length_push}
use Rattle.term_graph.specs.Contents.{Contents, History, Moment, back_to, contents_at, IsGrown, Grows}
use Rattle.term_graph.proofs.Trailing.{back_to-grown, back_to-now}

pub grows_none : (h : History) → Grows h h
grows_none h = (omega arith, back_to-now (length h.trail) h refl)

-- a graph that has grown by one call more has grown
pub grows_on : (first old new : History) → Grows first old → ((new ≡ old) ⊎ IsGrown old new) → Grows first new
grows_on first old new grows either = elim either [
  | inl e ↦ subst (Grows first) (sym e) grows
  | inr (step, c, e) ↦ subst (Grows first) (sym e) (
    omega (arith, grows.0, length_push old.trail (record { step = step; before = old.contents })),
    back_to-grown (length first.trail) step c old grows.0 ∙ grows.1,
  )
]

contents_back : (xs : List Moment) (c : Contents) (m n : ℕ) → m ≤ n → contents_at (take n xs) (contents_at xs c n) m ≡ contents_at xs c m
contents_back [] c zero zero l = refl
contents_back [] c zero (suc n) l = refl
contents_back [] c (suc m) zero l = absurd (omega (arith, l))
contents_back [] c (suc m) (suc n) l = refl
contents_back (x ∷ xs) c zero zero l = refl
contents_back (x ∷ xs) c zero (suc n) l = refl
contents_back (x ∷ xs) c (suc m) zero l = absurd (omega (arith, l))
contents_back (x ∷ xs) c (suc m) (suc n) l = contents_back xs c m n (omega (arith, l))

take_back : (xs : List Moment) (m n : ℕ) → m ≤ n → take m (take n xs) ≡ take m xs
take_back [] zero zero l = refl
take_back [] zero (suc n) l = refl
take_back [] (suc m) zero l = absurd (omega (arith, l))
take_back [] (suc m) (suc n) l = refl
take_back (x ∷ xs) zero zero l = refl
take_back (x ∷ xs) zero (suc n) l = refl
take_back (x ∷ xs) (suc m) zero l = absurd (omega (arith, l))
take_back (x ∷ xs) (suc m) (suc n) l = ap (λ z. x ∷ z) (take_back xs m n (omega (arith, l)))

-- a graph that has grown twice has grown
pub grows_through : (one two three : History) → Grows one two → Grows two three → Grows one three
grows_through one two three a b = (
  omega (arith, a.0, b.0),
  rw (sym (contents_back three.trail three.contents (length one.trail) (length two.trail) a.0), sym (take_back three.trail (length one.trail) (length two.trail) a.0))
      (ap (back_to (length one.trail)) b.1 ∙ a.1),
)
