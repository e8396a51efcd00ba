-- What is kept of the classes, each at its root.
use Rattle.std.specs.Prelude.{ℕ, ◌+◌, ◌-◌, min, List, [], ◌∷◌, slice_index_or, slice_set}
use Rattle.term_graph.specs.declared.class.Class.{Class}

-- the class of one variable, with its own cell alone
abbrev pub alone : ℕ → Class
alone v = record { least = v; weight = 1 }

abbrev pub class_at : List Class → ℕ → Class
class_at classes r = slice_index_or classes r (alone 0)

-- a cell more in the class of r, or one less
abbrev pub heavier : ℕ → List Class → List Class
heavier r classes = slice_set classes r (record { least = (class_at classes r).least; weight = (class_at classes r).weight + 1 })

abbrev pub lighter : ℕ → List Class → List Class
lighter r classes = slice_set classes r (record { least = (class_at classes r).least; weight = (class_at classes r).weight - 1 })

-- a cell more for each of these, and, the last first, a cell less
unfoldable pub weighed : List ℕ → List Class → List Class
weighed [] classes = classes
weighed (r ∷ rs) classes = weighed rs (heavier r classes)

unfoldable pub lightened : List ℕ → List Class → List Class
lightened [] classes = classes
lightened (r ∷ rs) classes = lighter r (lightened rs classes)

-- the class of v in that of w
abbrev pub together : Class → Class → Class
together one other = record { least = min one.least other.least; weight = one.weight + other.weight }

unfoldable pub merged : ℕ → ℕ → List Class → List Class
merged v w classes = slice_set classes w (together (class_at classes v) (class_at classes w))
