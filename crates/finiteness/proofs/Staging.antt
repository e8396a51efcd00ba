-- Classes that a search begins or finishes, and how far it then is with each.
use Rattle.std.proofs.Common.{ℕ, ◌≡◌, ◌<◌, ◌≤◌, List, [], ◌∷◌, ◌++◌, Bool, true, false, cond, nat_eq, length, Some, None, refl, sym, ap, ◌∙◌, subst, inl, inr, ◌⊎◌}
use Rattle.std.specs.Prelude.{Contains, Option}
use Rattle.std.specs.Option.{IsSome, is_some}
use Rattle.std.specs.List.{IsDistinct}
use Rattle.std.specs.Map.{keys_of, set_value}
use Rattle.std.proofs.lemmas.Bool.{cases_eq, eqb-true, eq-eqb}
use Rattle.std.proofs.lemmas.Cmp.{nat_eq_equiv}
use Rattle.std.proofs.lemmas.List.{length-map}
use Rattle.std.proofs.lemmas.Map.{lookup-set_value}
use Rattle.std.proofs.lemmas.Map.Steps.{length-le_from_distinct_below}
use Rattle.std.proofs.lemmas.Map.Views.{Contains-keys_from_lookup, IsSome-lookup_from_Contains, Contains-from_any}
use Rattle.term_graph.proofs.Keying.{lookup_old, lookup_new}
use Rattle.finiteness.specs.declared.visits.Stage.{Stage}
use Rattle.finiteness.specs.declared.visits.Stage.TheVariants.{Open, Done}
use Rattle.finiteness.specs.Stages.{stage_of, IsDone}

-- the class stands on the walk
abbrev pub IsBegun : List (ℕ × Stage) → ℕ → Type 0
IsBegun visits class = stage_of visits class ≡ Some Open

unequal : (a b : ℕ) → ¬ (a ≡ b) → nat_eq a b ≡ false
unequal a b n = by_value (nat_eq a b) refl
  where
    by_value : (x : Bool) → nat_eq a b ≡ x → nat_eq a b ≡ false
    by_value true e = absurd (n (eqb-true a b e))
    by_value false e = e

pub begun_apart : (visits : List (ℕ × Stage)) (w : ℕ) → IsBegun visits w → ¬ IsDone visits w
begun_apart visits w b d = let e : Some Open ≡ Some Done = sym b ∙ d in cc

-- a class that was met has a stage, and one with a stage was met
pub met_key : (visits : List (ℕ × Stage)) (w : ℕ) (m : Stage) → stage_of visits w ≡ Some m → Contains (keys_of visits) w
met_key visits w m e = Contains-keys_from_lookup eqb-true w visits (ap is_some e)

pub key_met : (visits : List (ℕ × Stage)) (w : ℕ) → Contains (keys_of visits) w → IsBegun visits w ⊎ IsDone visits w
key_met visits w i = by_stage (stage_of visits w) refl
  where
    by_stage : (o : Option Stage) → stage_of visits w ≡ o → IsBegun visits w ⊎ IsDone visits w
    by_stage None e = absurd (let there : IsSome (stage_of visits w) = IsSome-lookup_from_Contains nat_eq_equiv w visits i in let f : false ≡ true = rw e at there in cc)
    by_stage (Some Open) e = inl e
    by_stage (Some Done) e = inr e

pub unmet : (o : Option Stage) → is_some o ≡ false → o ≡ None
unmet None e = refl
unmet (Some m) e = cc

-- classes below n that are met once each are at most n
pub few_met : (visits : List (ℕ × Stage)) (n : ℕ) → IsDistinct nat_eq (keys_of visits) → ((w : ℕ) → Contains (keys_of visits) w → w < n) → length visits ≤ n
few_met visits n once below =
    subst (λ z. z ≤ n) (length-map visits (λ (e : ℕ × Stage). e.0))
    (length-le_from_distinct_below (keys_of visits) n once (λ q any. below q (Contains-from_any eqb-true q (keys_of visits) any)))

module _ (visits : List (ℕ × Stage)) (k : ℕ) where
  abbrev pub begun : List (ℕ × Stage)
  begun = visits ++ (k, Open) ∷ []

  pub begun_here : stage_of visits k ≡ None → IsBegun begun k
  begun_here e = lookup_new (nat_eq k) visits ((k, Open) ∷ []) e ∙ ap (λ z. cond z (Some Open) None) (eq-eqb k k refl)

  pub begun_still : (w : ℕ) (m : Stage) → stage_of visits w ≡ Some m → stage_of begun w ≡ Some m
  begun_still w m e = lookup_old (nat_eq w) visits ((k, Open) ∷ []) m e

  pub begun_before : (w : ℕ) (m : Stage) → stage_of begun w ≡ Some m → ((w ≡ k) × (m ≡ Open)) ⊎ (stage_of visits w ≡ Some m)
  begun_before w m e = by_stage (stage_of visits w) refl
    where
      by_stage : (o : Option Stage) → stage_of visits w ≡ o → ((w ≡ k) × (m ≡ Open)) ⊎ (stage_of visits w ≡ Some m)
      by_stage (Some n) f = let g : Some n ≡ Some m = sym (begun_still w n f) ∙ e in inr (f ∙ g)
      by_stage None f = elim (cases_eq w k) [
        | inl same ↦ let g : Some Open ≡ Some m = sym (lookup_new (nat_eq w) visits ((k, Open) ∷ []) f ∙ ap (λ z. cond z (Some Open) None) (eq-eqb w k same)) ∙ e in inl (same, cc)
        | inr other ↦ let g : None ≡ Some m = sym (lookup_new (nat_eq w) visits ((k, Open) ∷ []) f ∙ ap (λ z. cond z (Some Open) None) (unequal w k other)) ∙ e in absurd (cc)
      ]

  pub begun_keys : (w : ℕ) → Contains (keys_of begun) w → (w ≡ k) ⊎ Contains (keys_of visits) w
  begun_keys w i = elim (key_met begun w i) [
    | inl b ↦ elim (begun_before w Open b) [ inl e ↦ inl e.0 | inr old ↦ inr (met_key visits w Open old) ]
    | inr d ↦ elim (begun_before w Done d) [ inl e ↦ inl e.0 | inr old ↦ inr (met_key visits w Done old) ]
  ]

  abbrev pub finished : List (ℕ × Stage)
  finished = set_value (nat_eq k) visits Done

  module _ (standing : IsBegun visits k) where
    finished_at : (w : ℕ) → stage_of finished w ≡ cond (nat_eq k w) (Some Done) (stage_of visits w)
    finished_at w = lookup-set_value nat_eq_equiv (nat_eq k) (λ x y e. ap (λ z. nat_eq z y) (eqb-true k x e)) w Done visits (ap is_some standing)

    pub finished_here : IsDone finished k
    finished_here = finished_at k ∙ ap (λ z. cond z (Some Done) (stage_of visits k)) (eq-eqb k k refl)

    pub finished_aside : (w : ℕ) → ¬ (w ≡ k) → stage_of finished w ≡ stage_of visits w
    finished_aside w n = finished_at w ∙ ap (λ z. cond z (Some Done) (stage_of visits w)) (unequal k w (λ e. n (sym e)))
