-- Parts fail under new numbers exactly where they did.
use Rattle.std.specs.Prelude.{Contains, ◌↔◌}
use Rattle.std.proofs.Common.{ℕ, ◌≡◌, ◌<◌, List, [], ◌∷◌, ◌++◌, map, refl, ap, subst}
use Rattle.tree_model.specs.Signatures.{Signature, Alike}
use Rattle.tree_model.specs.Valuations.{Valuation}
use Rattle.tree_facts.proofs.Members.{contains_first, contains_later}
use Rattle.flat_form.specs.declared.atom.Flat.{Flat}
use Rattle.flat_form.specs.declared.cube.Part.{Part}
use Rattle.flat_form.specs.Meanings.{AllFail}
use Rattle.flat_form.specs.Parts.{renumbered}
use Rattle.flat_form.specs.Orders.{renumbered_part}
use Rattle.flat_facts.specs.PartLaws.{Fails}
use Rattle.flat_facts.proofs.Renumbered.{renumbered_part_fails}
use Rattle.cube_facts.specs.Renumbered.{StandsIn, MovesNumber}

pub alike_at : {σ : Signature} (d : Valuation σ) (u v : ℕ) → u ≡ v → Alike (d u) (d v)
alike_at {σ} d u v same = subst (λ (z : ℕ). Alike (d u) (d z)) same (λ path. refl)

pub bases_of_renumbered : (f : ℕ → ℕ) (more : ℕ) (parts : List Part)
    → map (λ (part : Part). part.basic) (map (renumbered_part f more) parts) ≡ map (λ (part : Part). map (renumbered f) part.basic) parts
bases_of_renumbered f more [] = refl
bases_of_renumbered f more (part ∷ parts) = ap (λ (rest : List (List Flat)). map (renumbered f) part.basic ∷ rest) (bases_of_renumbered f more parts)

module _ {σ : Signature} (m k : ℕ) (f g : ℕ → ℕ) (d e : Valuation σ) where
  pub parts_move : (old new : List Part)
      → ((part : Part) → Contains old part → (v : ℕ) → StandsIn part.basic v → MovesNumber m k f g v)
      → ((part : Part) → Contains old part → (v : ℕ) → StandsIn part.basic v → v < m → Alike (d v) (e (f v)))
      → map (λ (part : Part). part.basic) new ≡ map (λ (part : Part). map (renumbered f) part.basic) old
      → AllFail m d old ↔ AllFail k e new
  parts_move [] [] moves alike same = (λ none. tt, λ none. tt)
  parts_move [] (part ∷ new) moves alike same = absurd (cc)
  parts_move (part ∷ old) [] moves alike same = absurd (cc)
  parts_move (part ∷ old) (other ∷ new) moves alike same =
      let head : map (renumbered f) part.basic ≡ other.basic = cc in
      let tail : map (λ (part : Part). part.basic) new ≡ map (λ (part : Part). map (renumbered f) part.basic) old = cc in
      let mine : (v : ℕ) → StandsIn part.basic v → MovesNumber m k f g v = moves part (contains_first part old) in
      let one = renumbered_part_fails σ m k f g part.basic d e
      (λ a i v o. (mine v (a, i, o)).back)
      (λ a i v o w. ((mine v (a, i, o)).low w, alike part (contains_first part old) v (a, i, o) w))
      (λ a i v o w. (mine v (a, i, o)).high w) in
      let first : Fails m d part.basic ↔ Fails k e other.basic = subst (λ (atoms : List Flat). Fails m d part.basic ↔ Fails k e atoms) head one in
      let rest = parts_move old new (λ p i. moves p (contains_later part p old i)) (λ p i. alike p (contains_later part p old i)) tail in
      (λ fail. (first.0 fail.0, rest.0 fail.1), λ fail. (first.1 fail.0, rest.1 fail.1))

module _ {σ : Signature} (n : ℕ) (d : Valuation σ) where
  pub both_fail : (ps qs : List Part) → AllFail n d ps → AllFail n d qs → AllFail n d (ps ++ qs)
  both_fail [] qs a b = b
  both_fail (p ∷ ps) qs a b = (a.0, both_fail ps qs a.1 b)

  pub each_fail : (ps qs : List Part) → AllFail n d (ps ++ qs) → AllFail n d ps × AllFail n d qs
  each_fail [] qs a = (tt, a)
  each_fail (p ∷ ps) qs a = let b = each_fail ps qs a.1 in ((a.0, b.0), b.1)
