-- The conjunction that is read off the contents, and laws of it.
use Rattle.std.specs.Prelude.{◌≡◌, ℕ, zero, suc, ◌<◌, ◌≤◌, List, [], ◌∷◌, ◌++◌, length, map, slice_index, Contains, ◌↔◌}
use Rattle.tree_model.specs.declared.tree.Symbol.{Symbol}
use Rattle.flat_form.specs.declared.atom.Flat.{Flat}
use Rattle.flat_form.specs.declared.atom.Flat.TheVariants.{VarVar, VarTerm, Finite}
use Rattle.flat_form.specs.Classes.{Class, Reached, Unsolvable}
use Rattle.flat_form.specs.Solved.{variable_of, Ascends}
use Rattle.flat_form.specs.Added.{IsSolvedForm}
use Rattle.flat_facts.specs.Names.{IsClosed}
use Rattle.flat_facts.specs.Spread.{ComesRound}
use Rattle.term_graph.specs.declared.bound.Bound.{Bound}
use Rattle.term_graph.specs.declared.bound.Bound.TheVariants.{Free, Variable, Term}
use Rattle.term_graph.specs.Contents.{Contents, binding_of, term_at}
pub use Rattle.term_graph.specs.Contents.{IsLeast}
use Rattle.settled_facts.specs.Settled.{name, IsFree, IsMarked, IsShaped, HasTermIn, Follows, IsSettled}

-- ys are the least variables with the names of xs, place by place
pub record AreLeast (c : Contents) (xs ys : List ℕ) : Type 0 where
  pub as_many : length ys ≡ length xs
  pub each : (i : ℕ) → i < length xs → IsLeast c (slice_index xs i) (slice_index ys i)

-- The atom that the contents say of a variable: that it equals the least one with its name; or, where it is that, its term,
-- or that it is finite.
abbrev pub Says : Contents → Flat → Type 0
Says c (VarVar v l) = IsLeast c v l × (¬ (v ≡ l))
Says c (VarTerm v symbol ys) = IsLeast c v v × (keys : List ℕ) × HasTermIn c (name c v) symbol keys × AreLeast c keys ys
Says c (Finite v) = IsLeast c v v × IsFree c (name c v) × IsMarked c (name c v)

-- all that the contents say, in ascending order of variables
pub record IsReadOff (c : Contents) (form : List Flat) : Type 0 where
  pub ascending : Ascends form
  pub each : (atom : Flat) → Contains form atom → Says c atom
  pub all : (atom : Flat) → Says c atom → Contains form atom

-- the equations of the contents: what each variable but a root equals, and the term of each root with one
abbrev pub Equates : Contents → Flat → Type 0
Equates c (VarVar v r) = (name c v ≡ r) × (¬ (v ≡ r))
Equates c (VarTerm r symbol ys) = HasTermIn c r symbol ys
Equates c (Finite v) = ⊥

pub record AreEquations (c : Contents) (basic : List Flat) : Type 0 where
  pub each : (atom : Flat) → Contains basic atom → Equates c atom
  pub all : (atom : Flat) → Equates c atom → Contains basic atom

-- the equation of v, which is bound so
abbrev pub equation_by : Contents → ℕ → Bound → List Flat
equation_by c v Free = []
equation_by c v (Variable w) = VarVar v (name c v) ∷ []
equation_by c v (Term t) = VarTerm v (term_at c.terms t).symbol (map (name c) (term_at c.terms t).args) ∷ []

-- the equations of the variables below n
abbrev pub equations_below : Contents → ℕ → List Flat
equations_below c zero = []
equations_below c (suc n) = equations_below c n ++ equation_by c n (binding_of c.bindings n)

-- the equations of the contents, in order of their variables
unfoldable pub equations_of : Contents → List Flat
equations_of c = equations_below c (length c.bindings)

-- they are all that the contents have
abbrev pub EquationsAreThere : Type 0
EquationsAreThere = (c : Contents) → IsShaped c → AreEquations c (equations_of c)

-- the names of settled contents are closed under the rules of classes
abbrev pub SettledIsClosed : Type 0
SettledIsClosed = (c : Contents) (owners : List ℕ) (atoms : List Flat) → IsShaped c → IsSettled c owners atoms → IsClosed atoms (name c)

-- so two variables have one name exactly where they are in one class
abbrev pub SettledNamesAreClasses : Type 0
SettledNamesAreClasses =
    (c : Contents) (owners : List ℕ) (atoms : List Flat) → IsShaped c → IsSettled c owners atoms
    → (u v : ℕ) → Class atoms u v ↔ name c u ≡ name c v

-- what is read off settled contents is the solved form
abbrev pub SettledHasForm : Type 0
SettledHasForm =
    (c : Contents) (owners : List ℕ) (atoms form : List Flat) → IsShaped c → IsSettled c owners atoms
    → IsReadOff c form ↔ IsSolvedForm atoms form

-- it speaks of variables that there are
abbrev pub SaysInRange : Type 0
SaysInRange = (c : Contents) (atom : Flat) → IsShaped c → Says c atom → variable_of atom < length c.bindings

-- atoms that contents settle can be solved
abbrev pub SettledIsSolvable : Type 0
SettledIsSolvable = (c : Contents) (owners : List ℕ) (atoms : List Flat) → IsShaped c → IsSettled c owners atoms → ¬ Unsolvable atoms

-- what two variables of one class are bound to has one symbol and as many arguments, else the atoms can't be solved
abbrev pub ClashIsUnsolvable : Type 0
ClashIsUnsolvable =
    (c : Contents) (atoms : List Flat) (q r : ℕ) (one other : Symbol) (xs ys : List ℕ) → Follows c atoms → Class atoms q r
    → HasTermIn c q one xs → HasTermIn c r other ys → ¬ ((one ≡ other) × (length xs ≡ length ys)) → Unsolvable atoms

-- nor can they where a walk from what must be finite comes round
abbrev pub LoopIsUnsolvable : Type 0
LoopIsUnsolvable =
    (c : Contents) (atoms basic : List Flat) (v : ℕ) (path : List ℕ) → IsShaped c → Follows c atoms → AreEquations c basic → Reached atoms v
    → ComesRound basic v path → Unsolvable atoms

-- contents settle what is read off them
abbrev pub FormSettles : Type 0
FormSettles =
    (c : Contents) (owners : List ℕ) (atoms form : List Flat) → IsShaped c → IsSettled c owners atoms → IsReadOff c form
    → IsSettled c owners form
