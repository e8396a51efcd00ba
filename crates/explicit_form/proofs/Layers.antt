-- Formulas that are of none of some kinds.
use Rattle.std.proofs.Common.{◌≡◌, ℕ, [], ◌∷◌, ◌⊎◌, refl}
use Rattle.std.specs.Prelude.{◌↔◌}
use Rattle.formula_ast.specs.declared.formula.Formula.{Formula, True, False, Eq, Differ, Finite, Call, Win, Not', And', Or', Imp', Iff', Exists', Forall', Row_of-Formula, more_of-Formula, end_of-Formula}
use Rattle.formula_ast.specs.declared.formula.Formula.TheVariants as v
use Rattle.formula_ast.specs.declared.term.Term.{Term}
use Rattle.formula_ast.specs.Forms.{Form, form_of, part_of, equal, differ, finite, no, and, or, exists}
use Rattle.explicit_form.specs.Pieces.{bound_of, basic_of, parts_of, disjuncts_of}
use Rattle.explicit_form.specs.Shaped.{IsAtom, AreAtoms, AreBound, IsDenied, IsPart, AreItems, IsShaped, IsSimple}

-- ---- the form of a formula that is not of a kind is not of it

pub not_and : (f : Formula) → ((g h : Formula) → ¬ (f ≡ v.And g h)) → (a b : Form) → form_of f ≡ and a b → ⊥
unfolding form_of part_of Rattle.formula_ast.specs.declared.formula.Formula.TheBlock.hidden-the_row-Formula-0 denote.Hole.Carrier.hidden
not_and True n0 a b e = cc
not_and False n0 a b e = cc
not_and (Eq t s) n0 a b e = cc
not_and (Differ t s) n0 a b e = cc
not_and (Finite t) n0 a b e = cc
not_and (Call p ts) n0 a b e = cc
not_and (Win p k t) n0 a b e = cc
not_and (Not' p (more_of-Formula g end_of-Formula)) n0 a b e = cc
not_and (And' p (more_of-Formula g end_of-Formula) q (more_of-Formula h end_of-Formula)) n0 a b e = absurd (n0 g h refl)
not_and (Or' p (more_of-Formula g end_of-Formula) q (more_of-Formula h end_of-Formula)) n0 a b e = cc
not_and (Imp' p (more_of-Formula g end_of-Formula) q (more_of-Formula h end_of-Formula)) n0 a b e = cc
not_and (Iff' p (more_of-Formula g end_of-Formula) q (more_of-Formula h end_of-Formula)) n0 a b e = cc
not_and (Exists' x p (more_of-Formula g end_of-Formula)) n0 a b e = cc
not_and (Forall' x p (more_of-Formula g end_of-Formula)) n0 a b e = cc

pub not_or : (f : Formula) → ((g h : Formula) → ¬ (f ≡ v.Or g h)) → (a b : Form) → form_of f ≡ or a b → ⊥
unfolding form_of part_of Rattle.formula_ast.specs.declared.formula.Formula.TheBlock.hidden-the_row-Formula-0 denote.Hole.Carrier.hidden
not_or True n0 a b e = cc
not_or False n0 a b e = cc
not_or (Eq t s) n0 a b e = cc
not_or (Differ t s) n0 a b e = cc
not_or (Finite t) n0 a b e = cc
not_or (Call p ts) n0 a b e = cc
not_or (Win p k t) n0 a b e = cc
not_or (Not' p (more_of-Formula g end_of-Formula)) n0 a b e = cc
not_or (And' p (more_of-Formula g end_of-Formula) q (more_of-Formula h end_of-Formula)) n0 a b e = cc
not_or (Or' p (more_of-Formula g end_of-Formula) q (more_of-Formula h end_of-Formula)) n0 a b e = absurd (n0 g h refl)
not_or (Imp' p (more_of-Formula g end_of-Formula) q (more_of-Formula h end_of-Formula)) n0 a b e = cc
not_or (Iff' p (more_of-Formula g end_of-Formula) q (more_of-Formula h end_of-Formula)) n0 a b e = cc
not_or (Exists' x p (more_of-Formula g end_of-Formula)) n0 a b e = cc
not_or (Forall' x p (more_of-Formula g end_of-Formula)) n0 a b e = cc

pub not_exists : (f : Formula) → ((x : ℕ) (g : Formula) → ¬ (f ≡ v.Exists x g)) → (y : ℕ) (b : Form) → form_of f ≡ exists y b → ⊥
unfolding form_of part_of Rattle.formula_ast.specs.declared.formula.Formula.TheBlock.hidden-the_row-Formula-0 denote.Hole.Carrier.hidden
not_exists True n0 y b e = cc
not_exists False n0 y b e = cc
not_exists (Eq t s) n0 y b e = cc
not_exists (Differ t s) n0 y b e = cc
not_exists (Finite t) n0 y b e = cc
not_exists (Call p ts) n0 y b e = cc
not_exists (Win p k t) n0 y b e = cc
not_exists (Not' p (more_of-Formula g end_of-Formula)) n0 y b e = cc
not_exists (And' p (more_of-Formula g end_of-Formula) q (more_of-Formula h end_of-Formula)) n0 y b e = cc
not_exists (Or' p (more_of-Formula g end_of-Formula) q (more_of-Formula h end_of-Formula)) n0 y b e = cc
not_exists (Imp' p (more_of-Formula g end_of-Formula) q (more_of-Formula h end_of-Formula)) n0 y b e = cc
not_exists (Iff' p (more_of-Formula g end_of-Formula) q (more_of-Formula h end_of-Formula)) n0 y b e = cc
not_exists (Exists' x p (more_of-Formula g end_of-Formula)) n0 y b e = absurd (n0 x g refl)
not_exists (Forall' x p (more_of-Formula g end_of-Formula)) n0 y b e = cc

pub not_no : (f : Formula) → ((g : Formula) → ¬ (f ≡ v.Not g)) → (b : Form) → form_of f ≡ no b → ⊥
unfolding form_of part_of Rattle.formula_ast.specs.declared.formula.Formula.TheBlock.hidden-the_row-Formula-0 denote.Hole.Carrier.hidden
not_no True n0 b e = cc
not_no False n0 b e = cc
not_no (Eq t s) n0 b e = cc
not_no (Differ t s) n0 b e = cc
not_no (Finite t) n0 b e = cc
not_no (Call p ts) n0 b e = cc
not_no (Win p k t) n0 b e = cc
not_no (Not' p (more_of-Formula g end_of-Formula)) n0 b e = absurd (n0 g refl)
not_no (And' p (more_of-Formula g end_of-Formula) q (more_of-Formula h end_of-Formula)) n0 b e = cc
not_no (Or' p (more_of-Formula g end_of-Formula) q (more_of-Formula h end_of-Formula)) n0 b e = cc
not_no (Imp' p (more_of-Formula g end_of-Formula) q (more_of-Formula h end_of-Formula)) n0 b e = cc
not_no (Iff' p (more_of-Formula g end_of-Formula) q (more_of-Formula h end_of-Formula)) n0 b e = cc
not_no (Exists' x p (more_of-Formula g end_of-Formula)) n0 b e = cc
not_no (Forall' x p (more_of-Formula g end_of-Formula)) n0 b e = cc

pub not_equal : (f : Formula) → ((t s : Term) → ¬ (f ≡ v.Eq t s)) → (u r : Term) → form_of f ≡ equal u r → ⊥
unfolding form_of part_of Rattle.formula_ast.specs.declared.formula.Formula.TheBlock.hidden-the_row-Formula-0 denote.Hole.Carrier.hidden
not_equal True n0 u r e = cc
not_equal False n0 u r e = cc
not_equal (Eq t s) n0 u r e = absurd (n0 t s refl)
not_equal (Differ t s) n0 u r e = cc
not_equal (Finite t) n0 u r e = cc
not_equal (Call p ts) n0 u r e = cc
not_equal (Win p k t) n0 u r e = cc
not_equal (Not' p (more_of-Formula g end_of-Formula)) n0 u r e = cc
not_equal (And' p (more_of-Formula g end_of-Formula) q (more_of-Formula h end_of-Formula)) n0 u r e = cc
not_equal (Or' p (more_of-Formula g end_of-Formula) q (more_of-Formula h end_of-Formula)) n0 u r e = cc
not_equal (Imp' p (more_of-Formula g end_of-Formula) q (more_of-Formula h end_of-Formula)) n0 u r e = cc
not_equal (Iff' p (more_of-Formula g end_of-Formula) q (more_of-Formula h end_of-Formula)) n0 u r e = cc
not_equal (Exists' x p (more_of-Formula g end_of-Formula)) n0 u r e = cc
not_equal (Forall' x p (more_of-Formula g end_of-Formula)) n0 u r e = cc

pub not_differ : (f : Formula) → ((t s : Term) → ¬ (f ≡ v.Differ t s)) → (u r : Term) → form_of f ≡ differ u r → ⊥
unfolding form_of part_of Rattle.formula_ast.specs.declared.formula.Formula.TheBlock.hidden-the_row-Formula-0 denote.Hole.Carrier.hidden
not_differ True n0 u r e = cc
not_differ False n0 u r e = cc
not_differ (Eq t s) n0 u r e = cc
not_differ (Differ t s) n0 u r e = absurd (n0 t s refl)
not_differ (Finite t) n0 u r e = cc
not_differ (Call p ts) n0 u r e = cc
not_differ (Win p k t) n0 u r e = cc
not_differ (Not' p (more_of-Formula g end_of-Formula)) n0 u r e = cc
not_differ (And' p (more_of-Formula g end_of-Formula) q (more_of-Formula h end_of-Formula)) n0 u r e = cc
not_differ (Or' p (more_of-Formula g end_of-Formula) q (more_of-Formula h end_of-Formula)) n0 u r e = cc
not_differ (Imp' p (more_of-Formula g end_of-Formula) q (more_of-Formula h end_of-Formula)) n0 u r e = cc
not_differ (Iff' p (more_of-Formula g end_of-Formula) q (more_of-Formula h end_of-Formula)) n0 u r e = cc
not_differ (Exists' x p (more_of-Formula g end_of-Formula)) n0 u r e = cc
not_differ (Forall' x p (more_of-Formula g end_of-Formula)) n0 u r e = cc

pub not_finite : (f : Formula) → ((t : Term) → ¬ (f ≡ v.Finite t)) → (u : Term) → form_of f ≡ finite u → ⊥
unfolding form_of part_of Rattle.formula_ast.specs.declared.formula.Formula.TheBlock.hidden-the_row-Formula-0 denote.Hole.Carrier.hidden
not_finite True n0 u e = cc
not_finite False n0 u e = cc
not_finite (Eq t s) n0 u e = cc
not_finite (Differ t s) n0 u e = cc
not_finite (Finite t) n0 u e = absurd (n0 t refl)
not_finite (Call p ts) n0 u e = cc
not_finite (Win p k t) n0 u e = cc
not_finite (Not' p (more_of-Formula g end_of-Formula)) n0 u e = cc
not_finite (And' p (more_of-Formula g end_of-Formula) q (more_of-Formula h end_of-Formula)) n0 u e = cc
not_finite (Or' p (more_of-Formula g end_of-Formula) q (more_of-Formula h end_of-Formula)) n0 u e = cc
not_finite (Imp' p (more_of-Formula g end_of-Formula) q (more_of-Formula h end_of-Formula)) n0 u e = cc
not_finite (Iff' p (more_of-Formula g end_of-Formula) q (more_of-Formula h end_of-Formula)) n0 u e = cc
not_finite (Exists' x p (more_of-Formula g end_of-Formula)) n0 u e = cc
not_finite (Forall' x p (more_of-Formula g end_of-Formula)) n0 u e = cc

-- ---- what such formulas are made of

pub no_binding : (f : Formula) → ((x : ℕ) (g : Formula) → ¬ (f ≡ v.Exists x g)) → bound_of (form_of f) ≡ []
no_binding f n0 = by (form_of f) refl
  where
    by : (w : Form) → form_of f ≡ w → bound_of w ≡ []
    by (exists x g) is = absurd (not_exists f n0 x g is)
    by w is = refl

pub no_atoms : (f : Formula) → ((g h : Formula) → ¬ (f ≡ v.And g h)) → ((x : ℕ) (g : Formula) → ¬ (f ≡ v.Exists x g)) → ((t s : Term) → ¬ (f ≡ v.Eq t s)) → ((t : Term) → ¬ (f ≡ v.Finite t)) → basic_of (form_of f) ≡ []
no_atoms f n0 n1 n2 n3 = by (form_of f) refl
  where
    by : (w : Form) → form_of f ≡ w → basic_of w ≡ []
    by (and g h) is = absurd (not_and f n0 g h is)
    by (exists x g) is = absurd (not_exists f n1 x g is)
    by (equal t s) is = absurd (not_equal f n2 t s is)
    by (finite t) is = absurd (not_finite f n3 t is)
    by w is = refl

pub no_parts : (f : Formula) → ((g h : Formula) → ¬ (f ≡ v.And g h)) → ((x : ℕ) (g : Formula) → ¬ (f ≡ v.Exists x g)) → ((t s : Term) → ¬ (f ≡ v.Differ t s)) → ((g : Formula) → ¬ (f ≡ v.Not g)) → parts_of (form_of f) ≡ []
no_parts f n0 n1 n2 n3 = by (form_of f) refl
  where
    by : (w : Form) → form_of f ≡ w → parts_of w ≡ []
    by (and g h) is = absurd (not_and f n0 g h is)
    by (exists x g) is = absurd (not_exists f n1 x g is)
    by (differ t s) is = absurd (not_differ f n2 t s is)
    by (no g) is = absurd (not_no f n3 g is)
    by w is = refl

pub one_disjunct : (f : Formula) → ((g h : Formula) → ¬ (f ≡ v.Or g h)) → disjuncts_of (form_of f) ≡ (form_of f) ∷ []
one_disjunct f n0 = by (form_of f) refl
  where
    by : (w : Form) → form_of f ≡ w → disjuncts_of w ≡ w ∷ []
    by (or g h) is = absurd (not_or f n0 g h is)
    by w is = refl

pub not_atom : (f : Formula) → ((t s : Term) → ¬ (f ≡ v.Eq t s)) → ((t : Term) → ¬ (f ≡ v.Finite t)) → ¬ IsAtom (form_of f)
not_atom f n0 n1 = by (form_of f) refl
  where
    by : (w : Form) → form_of f ≡ w → ¬ IsAtom w
    by (equal t s) is = absurd (not_equal f n0 t s is)
    by (finite t) is = absurd (not_finite f n1 t is)
    by w is = λ a. a

pub not_part : (f : Formula) → ((t s : Term) → ¬ (f ≡ v.Differ t s)) → ((g : Formula) → ¬ (f ≡ v.Not g)) → ¬ IsPart (form_of f)
not_part f n0 n1 = by (form_of f) refl
  where
    by : (w : Form) → form_of f ≡ w → ¬ IsPart w
    by (differ t s) is = absurd (not_differ f n0 t s is)
    by (no g) is = absurd (not_no f n1 g is)
    by w is = λ a. a

pub not_simple : (f : Formula) → ((g h : Formula) → ¬ (f ≡ v.And g h)) → ((x : ℕ) (g : Formula) → ¬ (f ≡ v.Exists x g)) → ((g : Formula) → ¬ (f ≡ v.Not g)) → ((t s : Term) → ¬ (f ≡ v.Eq t s)) → ((t s : Term) → ¬ (f ≡ v.Differ t s)) → ((t : Term) → ¬ (f ≡ v.Finite t)) → ¬ IsSimple (form_of f)
not_simple f n0 n1 n2 n3 n4 n5 = by (form_of f) refl
  where
    by : (w : Form) → form_of f ≡ w → ¬ IsSimple w
    by (and g h) is = absurd (not_and f n0 g h is)
    by (exists x g) is = absurd (not_exists f n1 x g is)
    by (no g) is = absurd (not_no f n2 g is)
    by (equal t s) is = absurd (not_equal f n3 t s is)
    by (differ t s) is = absurd (not_differ f n4 t s is)
    by (finite t) is = absurd (not_finite f n5 t is)
    by w is = λ a. a

pub one_atom : (f : Formula) → ((g h : Formula) → ¬ (f ≡ v.And g h)) → AreAtoms (form_of f) ↔ IsAtom (form_of f)
one_atom f n0 = by (form_of f) refl
  where
    by : (w : Form) → form_of f ≡ w → AreAtoms w ↔ IsAtom w
    by (and g h) is = absurd (not_and f n0 g h is)
    by w is = (λ a. a, λ a. a)

pub bound_atoms : (f : Formula) → ((x : ℕ) (g : Formula) → ¬ (f ≡ v.Exists x g)) → AreBound (form_of f) ↔ AreAtoms (form_of f)
bound_atoms f n0 = by (form_of f) refl
  where
    by : (w : Form) → form_of f ≡ w → AreBound w ↔ AreAtoms w
    by (exists x g) is = absurd (not_exists f n0 x g is)
    by w is = (λ a. a, λ a. a)

pub denied_atoms : (f : Formula) → ((x : ℕ) (g : Formula) → ¬ (f ≡ v.Exists x g)) → ((t s : Term) → ¬ (f ≡ v.Eq t s)) → IsDenied (form_of f) ↔ AreAtoms (form_of f)
denied_atoms f n0 n1 = by (form_of f) refl
  where
    by : (w : Form) → form_of f ≡ w → IsDenied w ↔ AreAtoms w
    by (exists x g) is = absurd (not_exists f n0 x g is)
    by (equal t s) is = absurd (not_equal f n1 t s is)
    by w is = (λ a. a, λ a. a)

pub one_item : (f : Formula) → ((g h : Formula) → ¬ (f ≡ v.And g h)) → AreItems (form_of f) ↔ (IsAtom (form_of f) ⊎ IsPart (form_of f))
one_item f n0 = by (form_of f) refl
  where
    by : (w : Form) → form_of f ≡ w → AreItems w ↔ (IsAtom w ⊎ IsPart w)
    by (and g h) is = absurd (not_and f n0 g h is)
    by w is = (λ a. a, λ a. a)

pub shaped_items : (f : Formula) → ((x : ℕ) (g : Formula) → ¬ (f ≡ v.Exists x g)) → IsShaped (form_of f) ↔ AreItems (form_of f)
shaped_items f n0 = by (form_of f) refl
  where
    by : (w : Form) → form_of f ≡ w → IsShaped w ↔ AreItems w
    by (exists x g) is = absurd (not_exists f n0 x g is)
    by w is = (λ a. a, λ a. a)
