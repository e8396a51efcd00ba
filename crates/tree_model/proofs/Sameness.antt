-- Being one tree.
use Rattle.std.proofs.Common.{refl, sym, ◌∙◌, subst}
use Rattle.std.specs.Prelude.{IsSome}
use Rattle.tree_model.specs.Laws.{SameIsReflexive, SameIsSymmetric, SameIsTransitive, FiniteRespectsSame}

pub same_refl : SameIsReflexive
same_refl t path = refl

pub same_sym : SameIsSymmetric
same_sym t u same path = sym (same path)

pub same_trans : SameIsTransitive
same_trans t u v same more path = same path ∙ more path

pub finite_same : FiniteRespectsSame
finite_same t u same finite none = finite (λ b. none (b.0, λ path reads. b.1 path (subst IsSome (sym (same path)) reads)))
