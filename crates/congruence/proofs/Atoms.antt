-- More atoms keep the classes, and nothing waits where nothing is on the agenda.
use Rattle.std.proofs.Common.{ℕ, ◌≡◌, List, [], ◌∷◌, ◌++◌, sym, ◌∙◌, inl, inr, ◌⊎◌, arith}
use Rattle.std.specs.Prelude.{Contains}
use Rattle.std.proofs.lemmas.List.Elements.{Contains-append_right, Contains-append_cases}
use Rattle.tree_facts.proofs.Members.{contains_first, contains_cases}
use Rattle.flat_form.specs.declared.atom.Flat.{Flat}
use Rattle.flat_form.specs.Classes.{Class, itself, turned, joined, stated, inward, outward, Reached, marked, child}
use Rattle.term_graph.specs.Contents.{Contents}
use Rattle.settled_facts.specs.Settled.{name}
use Rattle.congruence.specs.Agenda.{idle, Joins, named, back, through, equated, congruent}

pub contains_none : {X : Type 0} (x : X) → ¬ Contains [] x
contains_none x inside = omega (arith, inside.1)

pub contains_last : {X : Type 0} (xs : List X) (x : X) → Contains (xs ++ x ∷ []) x
contains_last xs x = Contains-append_right xs (x ∷ []) x (contains_first x [])

pub before_or_last : {X : Type 0} (xs : List X) (x y : X) → Contains (xs ++ x ∷ []) y → Contains xs y ⊎ (x ≡ y)
before_or_last xs x y inside = elim (Contains-append_cases xs (x ∷ []) y inside) [
  | inl before ↦ inl before
  | inr behind ↦ elim (contains_cases x y [] behind) [
    | inl e ↦ inr e
    | inr more ↦ absurd (contains_none y more)
  ]
]

module _ (few more : List Flat) (all : (atom : Flat) → Contains few atom → Contains more atom) where
  pub class_as : {u v : ℕ} → Class few u v → Class more u v
  class_as (itself u) = itself u
  class_as (turned c) = turned (class_as c)
  class_as (joined c d) = joined (class_as c) (class_as d)
  class_as (stated {u} {v} is) = stated (all _ is)
  class_as (inward s xs ys a b len c i w) = inward s xs ys (all _ a) (all _ b) len (class_as c) i w
  class_as (outward s xs ys a b len each) = outward s xs ys (all _ a) (all _ b) len (λ i w. class_as (each i w))

  pub reached_as : {v : ℕ} → Reached few v → Reached more v
  reached_as (marked is c) = marked (all _ is) (class_as c)
  reached_as (child s xs r is i w c) = child s xs (reached_as r) (all _ is) i w (class_as c)

pub idle_named : (c : Contents) (owners : List ℕ) {u v : ℕ} → Joins c owners idle u v → name c u ≡ name c v
idle_named c owners (named e) = e
idle_named c owners (back j) = sym (idle_named c owners j)
idle_named c owners (through j k) = idle_named c owners j ∙ idle_named c owners k
idle_named c owners (equated is) = absurd (contains_none _ is)
idle_named c owners (congruent is e f) = absurd (contains_none _ is)
