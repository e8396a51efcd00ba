-- When a formula is explicit, by the pieces that are taken from it.
use Rattle.std.proofs.Common.{◌≡◌, ℕ, List, [], ◌∷◌, ◌++◌, refl, sym, ap, subst, ◌∙◌, append_assoc}
use Rattle.std.specs.Prelude.{All, ◌↔◌}
use Rattle.std.proofs.lemmas.List.Elements.{All-nil, All-cons, All-head, All-tail, All-weaker}
use Rattle.lists.specs.Distinct.{IsDistinct}
use Rattle.formula_ast.specs.Forms.{Form, or}
use Rattle.flat_form.specs.declared.atom.Flat.{Flat}
use Rattle.formula_printer.specs.Bound.{chained, disjunction}
use Rattle.formula_grammar.specs.Written as joint
use Rattle.explicit_form.specs.Explicit.{Denied, explicit_cube}
use Rattle.explicit_form.specs.Pieces.{bound_of, basic_of, parts_of, disjuncts_of}
use Rattle.explicit_form.specs.Shape.{IsBlock, IsExplicitPart, IsExplicitCube, IsExplicit}
use Rattle.explicit_form.specs.Shaped.{IsShaped, IsSimple}
use Rattle.explicit_form.proofs.Joined.{chained_more}
use Rattle.explicit_form.proofs.Pieces.{cube_binds, cube_basic, cube_parts}
use Rattle.explicit_form.proofs.Shaping.{AreFull, shaped_from, shaped_is, simple_shaped, one_shaped}

-- ---- cubes

abbrev BlockOf : ℕ → List ℕ → List Flat → Denied → Type 0
BlockOf free outer basic part = IsBlock free basic outer part.bound part.basic

-- the blocks of the formula
abbrev AreBlocks : ℕ → List ℕ → List Flat → List Denied → Type 0
AreBlocks free outer basic parts = IsBlock free [] [] outer basic × All (BlockOf free outer basic) parts

blocks_are : (free : ℕ) (f : Form) (outer : List ℕ) (basic : List Flat) (parts : List Denied) → f ≡ explicit_cube outer basic parts
    → AreBlocks free (bound_of f) (basic_of f) (parts_of f) ↔ AreBlocks free outer basic parts
blocks_are free f outer basic parts is =
    let binds : bound_of f ≡ outer = ap bound_of is ∙ cube_binds outer basic parts in
    let atoms : basic_of f ≡ basic = ap basic_of is ∙ cube_basic outer basic parts in
    let denied : parts_of f ≡ parts = ap parts_of is ∙ cube_parts outer basic parts in (
      λ h. subst (AreBlocks free outer basic) denied (subst (λ l. AreBlocks free outer l (parts_of f)) atoms (subst (λ l. AreBlocks free l (basic_of f) (parts_of f)) binds h)),
      λ h. subst (λ l. AreBlocks free l (basic_of f) (parts_of f)) (sym binds) (subst (λ l. AreBlocks free outer l (parts_of f)) (sym atoms) (subst (AreBlocks free outer basic) (sym denied) h)),
    )

parts_from : (free : ℕ) (outer : List ℕ) (basic : List Flat) (parts : List Denied) → AreFull parts → All (BlockOf free outer basic) parts → All (IsExplicitPart free outer basic) parts
parts_from free outer basic [] full blocks = All-nil (IsExplicitPart free outer basic)
parts_from free outer basic (part ∷ rest) full blocks =
    All-cons (IsExplicitPart free outer basic) part rest
    (record { some_atom = All-head (λ part. ¬ (part.basic ≡ [])) part rest full; block = All-head (BlockOf free outer basic) part rest blocks })
    (parts_from free outer basic rest (All-tail (λ part. ¬ (part.basic ≡ [])) part rest full) (All-tail (BlockOf free outer basic) part rest blocks))

pub cube_from : (free : ℕ) (f : Form) → IsShaped f → AreBlocks free (bound_of f) (basic_of f) (parts_of f) → IsExplicitCube free f
cube_from free f shaped blocks =
    let (outer, basic, parts, of) = shaped_from f shaped in
    let here = (blocks_are free f outer basic parts of.is).0 blocks in
    record { outer = outer; basic = basic; parts = parts; is = of.is; some_item = of.some_item; block = here.0; each_part = parts_from free outer basic parts of.full here.1 }

full_parts : (free : ℕ) (f : Form) (cube : IsExplicitCube free f) → AreFull cube.parts
full_parts free f cube = All-weaker (IsExplicitPart free cube.outer cube.basic) (λ part. ¬ (part.basic ≡ [])) (λ part is. is.some_atom) cube.parts cube.each_part

pub cube_shaped : (free : ℕ) (f : Form) → IsExplicitCube free f → IsShaped f
cube_shaped free f cube = subst IsShaped (sym cube.is) (shaped_is cube.outer cube.basic cube.parts cube.some_item (full_parts free f cube))

pub cube_blocks : (free : ℕ) (f : Form) → IsExplicitCube free f → AreBlocks free (bound_of f) (basic_of f) (parts_of f)
cube_blocks free f cube =
    (blocks_are free f cube.outer cube.basic cube.parts cube.is).1
    (cube.block, All-weaker (IsExplicitPart free cube.outer cube.basic) (BlockOf free cube.outer cube.basic) (λ part is. is.block) cube.parts cube.each_part)

-- ---- disjunctions

chained_disjuncts : (f : Form) (gs : List Form) → disjuncts_of (chained joint.or f gs) ≡ disjuncts_of f ++ gs
chained_disjuncts f [] = sym (append_none (disjuncts_of f))
  where
    append_none : (l : List Form) → l ++ [] ≡ l
    append_none [] = refl
    append_none (x ∷ l) = ap (λ m. x ∷ m) (append_none l)
chained_disjuncts f (g ∷ gs) = chained_disjuncts (or f g) gs ∙ append_assoc (disjuncts_of f) (g ∷ []) gs

some_disjunct : (f : Form) → ¬ (disjuncts_of f ≡ [])
some_disjunct (or f g) e = by (disjuncts_of f) e
  where
    by : (l : List Form) → l ++ g ∷ [] ≡ [] → ⊥
    by [] e = absurd (cc e)
    by (x ∷ l) e = absurd (cc e)
some_disjunct f e = absurd (cc e)

disjunction_more : (fs : List Form) (g : Form) → ¬ (fs ≡ []) → disjunction (fs ++ g ∷ []) ≡ or (disjunction fs) g
disjunction_more [] g some = absurd (some refl)
disjunction_more (f ∷ fs) g some = chained_more joint.or f fs g

disjuncts_back : (f : Form) → f ≡ disjunction (disjuncts_of f)
disjuncts_back (or f g) = ap (λ h. or h g) (disjuncts_back f) ∙ sym (disjunction_more (disjuncts_of f) g (some_disjunct f))
disjuncts_back f = refl

disjuncts_are : (free : ℕ) (gs : List Form) → ¬ (gs ≡ []) → All (IsExplicitCube free) gs → disjuncts_of (disjunction gs) ≡ gs
disjuncts_are free [] some each = absurd (some refl)
disjuncts_are free (g ∷ gs) some each =
    chained_disjuncts g gs ∙ ap (λ l. l ++ gs) (one_shaped g (cube_shaped free g (All-head (IsExplicitCube free) g gs each)))

pub explicit_is : (free : ℕ) (f : Form) → (All (IsExplicitCube free) (disjuncts_of f) × IsDistinct (disjuncts_of f)) ↔ IsExplicit free f
explicit_is free f = (
  λ both. record { disjuncts = disjuncts_of f; is = disjuncts_back f; some_cube = some_disjunct f; distinct = both.1; each = both.0 },
  λ it.
      let are : disjuncts_of f ≡ it.disjuncts = ap disjuncts_of it.is ∙ disjuncts_are free it.disjuncts it.some_cube it.each in
      (subst (All (IsExplicitCube free)) (sym are) it.each, subst (λ l. IsDistinct l) (sym are) it.distinct),
)

-- explicit cubes are simple
pub cubes_simple : (free : ℕ) (fs : List Form) → All (IsExplicitCube free) fs → All IsSimple fs
cubes_simple free fs each = All-weaker (IsExplicitCube free) IsSimple (λ f cube. simple_shaped f (cube_shaped free f cube)) fs each
