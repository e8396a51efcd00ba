-- Lists that are related place by place.
use Rattle.std.proofs.Common.{ℕ, ◌≡◌, List, length, map, sym, ◌∙◌, ap, arith, refl}
use Rattle.std.specs.Prelude.{slice_index}
use Rattle.std.proofs.lemmas.List.{length-map}
use Rattle.term_graph.specs.Contents.{Contents}
use Rattle.settled_facts.specs.Settled.{name}
use Rattle.settled_facts.proofs.Terms.{named_at, named_same}
use Rattle.congruence.specs.Agenda.{Pairwise}

pub pairwise_as : (R S : ℕ → ℕ → Type 0) (xs ys : List ℕ) → ((u v : ℕ) → R u v → S u v) → Pairwise R xs ys → Pairwise S xs ys
pairwise_as R S xs ys f p = (p.0, λ i w. f (slice_index xs i) (slice_index ys i) (p.1 i w))

pub pairwise_itself : (R : ℕ → ℕ → Type 0) (xs : List ℕ) → ((u : ℕ) → R u u) → Pairwise R xs xs
pairwise_itself R xs f = (refl, λ i w. f (slice_index xs i))

pub pairwise_back : (R : ℕ → ℕ → Type 0) (xs ys : List ℕ) → ((u v : ℕ) → R u v → R v u) → Pairwise R xs ys → Pairwise R ys xs
pairwise_back R xs ys f p = (sym p.0, λ i w. f (slice_index xs i) (slice_index ys i) (p.1 i (omega (arith, w, p.0))))

pub pairwise_through : (R : ℕ → ℕ → Type 0) (xs ys zs : List ℕ) → ((u v w : ℕ) → R u v → R v w → R u w) → Pairwise R xs ys → Pairwise R ys zs
    → Pairwise R xs zs
pairwise_through R xs ys zs f p q =
    (p.0 ∙ q.0, λ i w. f (slice_index xs i) (slice_index ys i) (slice_index zs i) (p.1 i w) (q.1 i (omega (arith, w, p.0))))

module _ (c : Contents) (xs ys : List ℕ) where
  -- the names are the same at each place
  pub names_pairwise : map (name c) xs ≡ map (name c) ys → Pairwise (λ u v. name c u ≡ name c v) xs ys
  names_pairwise e =
      let len : length xs ≡ length ys = sym (length-map xs (name c)) ∙ ap length e ∙ length-map ys (name c) in
      (len, λ i w. sym (named_at c xs i w) ∙ ap (λ (z : List ℕ). slice_index z i) e ∙ named_at c ys i (omega (arith, w, len)))

  pub pairwise_names : Pairwise (λ u v. name c u ≡ name c v) xs ys → map (name c) xs ≡ map (name c) ys
  pairwise_names p = named_same c xs (map (name c) ys) (p.0 ∙ sym (length-map ys (name c)))
      (λ i w. p.1 i w ∙ sym (named_at c ys i (omega (arith, w, p.0))))
