-- Formulas as plain data, to define their meaning by recursion on.
use Rattle.std.specs.Prelude.{ℕ, List}
use Rattle.formula_ast.specs.Terms.{list_of}
use Rattle.formula_ast.specs.declared.term.Term.{Term}
use Rattle.formula_ast.specs.declared.formula.Formula.{Formula, True, False, Eq, Differ, Finite, Call, Win, Not', And', Or', Imp', Iff', Exists', Forall', Row_of-Formula, more_of-Formula, end_of-Formula}

pub data Form : Type 0 where
  always : Form
  never : Form
  equal : Term → Term → Form
  differ : Term → Term → Form
  finite : Term → Form
  call : ℕ → List Term → Form
  win : ℕ → ℕ → Term → Form
  no : Form → Form
  and : Form → Form → Form
  or : Form → Form → Form
  imp : Form → Form → Form
  iff : Form → Form → Form
  exists : ℕ → Form → Form
  forall : ℕ → Form → Form

unfoldable mutual
  pub form_of : Formula → Form
  form_of True = always
  form_of False = never
  form_of (Eq t s) = equal t s
  form_of (Differ t s) = differ t s
  form_of (Finite t) = finite t
  form_of (Call p ts) = call p (list_of ts)
  form_of (Win p k t) = win p k t
  form_of (Not' a f) = no (part_of f)
  form_of (And' a f b g) = and (part_of f) (part_of g)
  form_of (Or' a f b g) = or (part_of f) (part_of g)
  form_of (Imp' a f b g) = imp (part_of f) (part_of g)
  form_of (Iff' a f b g) = iff (part_of f) (part_of g)
  form_of (Exists' x a f) = exists x (part_of f)
  form_of (Forall' x a f) = forall x (part_of f)

  -- the formula in a box, as Rattle keeps it
  pub part_of : {m : _} → Row_of-Formula m → Form
  part_of end_of-Formula = always
  part_of (more_of-Formula f rest) = form_of f
