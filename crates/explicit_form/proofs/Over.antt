-- The formula of cubes is over each signature that their symbols fit.
use Rattle.std.proofs.Common.{◌≡◌, ℕ, zero, suc, ◌+◌, ◌<◌, ◌≤◌, List, [], ◌∷◌, ◌++◌, length, map, max, sym, ap, subst, arith}
use Rattle.std.specs.Prelude.{All, slice_get, option_and_then, IfSome}
use Rattle.std.specs.List.{range_with_len}
use Rattle.std.proofs.lemmas.List.{length-map}
use Rattle.std.proofs.lemmas.List.Elements.{All-nil, All-cons, All-head, All-tail, All-append, All-weaker}
use Rattle.tree_model.specs.declared.tree.Symbol.{Symbol}
use Rattle.tree_model.specs.Signatures.{Signature, IsRoot}
use Rattle.formula_ast.specs.declared.term.Term.{Term}
use Rattle.formula_ast.specs.declared.term.Term.TheVariants.{Var}
use Rattle.formula_ast.specs.declared.term.Term.TheViews.{out-Term}
use Rattle.formula_ast.specs.declared.term.Term.TheViews as views
use Rattle.formula_ast.specs.Forms.{Form, no, and, or, exists}
use Rattle.formula_ast.specs.Terms.{subterm, argument}
use Rattle.formula_ast.specs.WellFormed.{LayerOver, TermOver, FormOver}
use Rattle.flat_form.specs.declared.atom.Flat.{Flat}
use Rattle.flat_form.specs.declared.atom.Flat.TheVariants.{VarVar, VarTerm, Finite}
use Rattle.flat_form.specs.declared.cube.Part.{Part}
use Rattle.flat_form.specs.declared.cube.Cube.{Cube}
use Rattle.flat_form.specs.Fitting.{AtomFits, BasicFits, CubeFits}
use Rattle.flat_form.specs.Numbering.{AtomOver, BasicOver, PartOver, CubesOver, IsWellNumbered}
use Rattle.flat_form.specs.Symbols.{CubesFit}
use Rattle.formula_printer.specs.Bound.{chained, conjunction, disjunction}
use Rattle.formula_grammar.specs.Meaning.{behind}
use Rattle.formula_grammar.specs.Written as joint
use Rattle.explicit_form.specs.Explicit.{applied, atom_form, denied, denied_form, denied_part, cube_form, explicit_of, widest, width}
use Rattle.explicit_form.proofs.Ranges.{all_range}

module _ (σ : Signature) (n : ℕ) where
  -- ---- terms and atoms

  var_over : (v : ℕ) → v < n → TermOver σ n (Var v)
  var_over v h [] = subst (LayerOver σ n) (sym (views.outs-Var v)) h
  var_over v h (i ∷ path) =
      subst (λ o. IfSome o (λ u. LayerOver σ n (out-Term u))) (sym (ap (λ z. option_and_then {T = Term} {U = Term} (λ u. subterm u path) (argument z i)) (views.outs-Var v))) tt

  child_over : (xs : List ℕ) → All (λ x. x < n) xs → (i : ℕ) (path : List ℕ)
      → IfSome (option_and_then {T = Term} {U = Term} (λ u. subterm u path) (slice_get (map (λ x. Var x) xs) i)) (λ u. LayerOver σ n (out-Term u))
  child_over [] h i path = tt
  child_over (x ∷ xs) h zero path = var_over x (All-head (λ x. x < n) x xs h) path
  child_over (x ∷ xs) h (suc i) path = child_over xs (All-tail (λ x. x < n) x xs h) i path

  app_over : (s : Symbol) (xs : List ℕ) → IsRoot σ s (length xs) → length xs ≤ 8 → All (λ x. x < n) xs → TermOver σ n (applied s xs)
  app_over s xs root few h [] = subst (LayerOver σ n) (sym (views.outs-App s (record { items = map (λ x. Var x) xs }))) (rw length-map (root, few))
  app_over s xs root few h (i ∷ path) =
      subst (λ o. IfSome o (λ u. LayerOver σ n (out-Term u)))
      (sym (ap (λ z. option_and_then {T = Term} {U = Term} (λ u. subterm u path) (argument z i)) (views.outs-App s (record { items = map (λ x. Var x) xs }))))
      (child_over xs h i path)

  atom_over : (m : ℕ) (atom : Flat) → m ≤ n → AtomOver m atom → AtomFits σ atom → FormOver σ σ n (atom_form atom)
  atom_over m (VarVar u v) le over fits = (var_over u (omega (arith, over.0)), var_over v (omega (arith, over.1)))
  atom_over m (VarTerm u s xs) le over fits =
      (var_over u (omega (arith, over.0)), app_over s xs fits over.2 (All-weaker (λ x. x < m) (λ x. x < n) (λ x less. omega arith) xs over.1))
  atom_over m (Finite u) le over fits = var_over u (omega (arith, over))

  atoms_over : (m : ℕ) (basic : List Flat) → m ≤ n → BasicOver m basic → BasicFits σ basic → All (FormOver σ σ n) (map atom_form basic)
  atoms_over m [] le over fits = All-nil (FormOver σ σ n)
  atoms_over m (atom ∷ rest) le over fits =
      All-cons (FormOver σ σ n) (atom_form atom) (map atom_form rest)
      (atom_over m atom le (All-head (AtomOver m) atom rest over) (All-head (AtomFits σ) atom rest fits))
      (atoms_over m rest le (All-tail (AtomOver m) atom rest over) (All-tail (AtomFits σ) atom rest fits))

  -- ---- formulas that are put together

  and_over : (f : Form) (fs : List Form) → FormOver σ σ n f → All (FormOver σ σ n) fs → FormOver σ σ n (chained joint.and f fs)
  and_over f [] h all = h
  and_over f (g ∷ gs) h all = and_over (and f g) gs (h, All-head (FormOver σ σ n) g gs all) (All-tail (FormOver σ σ n) g gs all)

  conjunction_over : (fs : List Form) → All (FormOver σ σ n) fs → FormOver σ σ n (conjunction fs)
  conjunction_over [] all = tt
  conjunction_over (f ∷ fs) all = and_over f fs (All-head (FormOver σ σ n) f fs all) (All-tail (FormOver σ σ n) f fs all)

  or_over : (f : Form) (fs : List Form) → FormOver σ σ n f → All (FormOver σ σ n) fs → FormOver σ σ n (chained joint.or f fs)
  or_over f [] h all = h
  or_over f (g ∷ gs) h all = or_over (or f g) gs (h, All-head (FormOver σ σ n) g gs all) (All-tail (FormOver σ σ n) g gs all)

  disjunction_over : (fs : List Form) → All (FormOver σ σ n) fs → FormOver σ σ n (disjunction fs)
  disjunction_over [] all = tt
  disjunction_over (f ∷ fs) all = or_over f fs (All-head (FormOver σ σ n) f fs all) (All-tail (FormOver σ σ n) f fs all)

  behind_over : (xs : List ℕ) (f : Form) → All (λ x. x < n) xs → FormOver σ σ n f → FormOver σ σ n (behind exists xs f)
  behind_over [] f all h = h
  behind_over (x ∷ xs) f all h = (All-head (λ x. x < n) x xs all, behind_over xs f (All-tail (λ x. x < n) x xs all) h)

  -- ---- parts and cubes

  denied_over : (bound : List ℕ) (basic : List Flat) → FormOver σ σ n (no (behind exists bound (conjunction (map atom_form basic)))) → FormOver σ σ n (denied_form bound basic)
  denied_over [] [] h = h
  denied_over [] (VarVar u v ∷ []) h = h
  denied_over [] (VarTerm u s xs ∷ []) h = h
  denied_over [] (Finite u ∷ []) h = h
  denied_over [] (VarVar u v ∷ atom ∷ rest) h = h
  denied_over [] (VarTerm u s xs ∷ atom ∷ rest) h = h
  denied_over [] (Finite u ∷ atom ∷ rest) h = h
  denied_over (x ∷ bound) basic h = h

  below : (a k : ℕ) → a + k ≤ n → All (λ x. x < n) (range_with_len a k)
  below a k le = all_range (λ x. x < n) a k (λ v low high. omega arith)

  part_over : (m : ℕ) (part : Part) → m + part.inner ≤ n → PartOver m part → BasicFits σ part.basic → FormOver σ σ n (denied (denied_part m part))
  part_over m part le over fits =
      denied_over (range_with_len m part.inner) part.basic
      (behind_over (range_with_len m part.inner) (conjunction (map atom_form part.basic)) (below m part.inner le)
      (conjunction_over (map atom_form part.basic) (atoms_over (m + part.inner) part.basic le over fits)))

  parts_over : (m : ℕ) (parts : List Part) → m + widest parts ≤ n → All (PartOver m) parts → All (λ (part : Part). BasicFits σ part.basic) parts
      → All (FormOver σ σ n) (map denied (map (denied_part m) parts))
  parts_over m [] le over fits = All-nil (FormOver σ σ n)
  parts_over m (part ∷ rest) le over fits =
      All-cons (FormOver σ σ n) (denied (denied_part m part)) (map denied (map (denied_part m) rest))
      (part_over m part (within part.inner (widest rest) le).0 (All-head (PartOver m) part rest over) (All-head (λ (part : Part). BasicFits σ part.basic) part rest fits))
      (parts_over m rest (within part.inner (widest rest) le).1 (All-tail (PartOver m) part rest over) (All-tail (λ (part : Part). BasicFits σ part.basic) part rest fits))
    where
      within : (a b : ℕ) → m + max a b ≤ n → (m + a ≤ n) × (m + b ≤ n)
      within a b le = (omega arith, omega arith)

  cube_over : (cube : Cube) → cube.free + (cube.outer + widest cube.parts) ≤ n → IsWellNumbered cube → CubeFits σ cube → FormOver σ σ n (cube_form cube)
  cube_over cube le over fits =
      let m = cube.free + cube.outer in
      behind_over (range_with_len cube.free cube.outer) (conjunction (map atom_form cube.basic ++ map denied (map (denied_part m) cube.parts)))
      (below cube.free cube.outer (omega arith))
      (conjunction_over (map atom_form cube.basic ++ map denied (map (denied_part m) cube.parts))
      (All-append (FormOver σ σ n) (map atom_form cube.basic) (map denied (map (denied_part m) cube.parts))
      (atoms_over m cube.basic (omega arith) over.basic fits.basic)
      (parts_over m cube.parts (omega arith) over.parts fits.parts)))

  cubes_over : (free : ℕ) (cubes : List Cube) → free + width cubes ≤ n → CubesOver free cubes → CubesFit σ cubes → All (FormOver σ σ n) (map cube_form cubes)
  cubes_over free [] le over fits = All-nil (FormOver σ σ n)
  cubes_over free (cube ∷ rest) le over fits =
      let here = All-head (λ (cube : Cube). (cube.free ≡ free) × IsWellNumbered cube) cube rest over in
      let both = within (cube.outer + widest cube.parts) (width rest) le in
      All-cons (FormOver σ σ n) (cube_form cube) (map cube_form rest)
      (cube_over cube (omega (arith, here.0, both.0)) here.1 (All-head (CubeFits σ) cube rest fits))
      (cubes_over free rest both.1 (All-tail (λ (cube : Cube). (cube.free ≡ free) × IsWellNumbered cube) cube rest over) (All-tail (CubeFits σ) cube rest fits))
    where
      within : (a b : ℕ) → free + max a b ≤ n → (free + a ≤ n) × (free + b ≤ n)
      within a b le = (omega arith, omega arith)

  pub explicit_over : (free : ℕ) (cubes : List Cube) → free + width cubes ≤ n → CubesOver free cubes → CubesFit σ cubes → FormOver σ σ n (explicit_of cubes)
  explicit_over free cubes le over fits = disjunction_over (map cube_form cubes) (cubes_over free cubes le over fits)
