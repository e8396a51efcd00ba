-- Names that are closed under the rules are names of the classes.
use Rattle.std.proofs.Common.{ℕ, ◌≡◌, List, refl, sym, ◌∙◌, subst, arith}
use Rattle.flat_form.specs.declared.atom.Flat.{Flat}
use Rattle.flat_form.specs.Classes.{Class, itself, turned, joined, stated, inward, outward}
use Rattle.flat_facts.specs.Names.{IsClosed, NamesAreClasses, NamesAreLeast}

module _ (atoms : List Flat) (name : ℕ → ℕ) (closed : IsClosed atoms name) where
  pub class_named : {u v : ℕ} → Class atoms u v → name u ≡ name v
  class_named (itself u) = refl
  class_named (turned c) = sym (class_named c)
  class_named (joined c d) = class_named c ∙ class_named d
  class_named (stated {u} {v} i) = closed.equal u v i
  class_named (inward {u} {v} s xs ys a b len c i w) = closed.arguments u v s xs ys a b len (class_named c) i w
  class_named (outward {u} {v} s xs ys a b len c) = closed.terms u v s xs ys a b len (λ i w. class_named (c i w))

pub names_classes : NamesAreClasses
names_classes atoms name closed sound u v = (
  λ c. class_named atoms name closed c,
  λ e. let P : ℕ → Type 0 = λ z. Class atoms u z in joined (subst P e (sound u)) (turned (sound v)),
)

pub names_least : NamesAreLeast
names_least atoms name closed low v w c = omega (arith, class_named atoms name closed c, low w)
