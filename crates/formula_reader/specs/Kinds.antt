-- What the reader's plain types stand for in the grammar.
use Rattle.std.specs.Prelude.{Bool, true, false}
use Rattle.formula_grammar.specs.Written as g
use Rattle.formula_reader.specs.declared.checks.Head.{Head}
use Rattle.formula_reader.specs.declared.checks.Head.TheVariants as head
use Rattle.formula_reader.specs.declared.parsed.Joint.{Joint}
use Rattle.formula_reader.specs.declared.parsed.Joint.TheVariants as joint
use Rattle.formula_reader.specs.declared.parsed.Quantifier.{Quantifier}
use Rattle.formula_reader.specs.declared.parsed.Quantifier.TheVariants as quantifier
use Rattle.formula_reader.specs.declared.parsed.Comparer.{Comparer}
use Rattle.formula_reader.specs.declared.parsed.Comparer.TheVariants as comparer

abbrev pub head_of : Head → g.Head
head_of (head.Named name) = g.named name.now
head_of (head.Further text) = g.further text.now

abbrev pub joint_of : Joint → g.Joint
joint_of joint.And = g.and
joint_of joint.Or = g.or
joint_of joint.Imp = g.imp
joint_of joint.Iff = g.iff

abbrev pub quantifier_of : Quantifier → g.Quantifier
quantifier_of quantifier.«Exists» = g.exists
quantifier_of quantifier.Forall = g.forall

abbrev pub comparer_of : Comparer → g.Comparer
comparer_of comparer.Equals = g.equals
comparer_of comparer.Differs = g.differs

-- whether more may be joined to what a joint joined
abbrev pub chains : g.Joint → Bool
chains g.and = true
chains g.or = true
chains g.imp = false
chains g.iff = false

-- whether its right side stands in one more nesting
abbrev pub nests : g.Joint → Bool
nests g.imp = true
nests j = false
