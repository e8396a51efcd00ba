-- The symbols of what is shown: a formula has those of its cubes, and an assignment has further symbols besides.
use Rattle.std.proofs.Common.{◌≡◌, ◌==◌, ℕ, ◌+◌, Bool, true, false, cond, List, [], ◌∷◌, ◌++◌, length, map, All, sym, subst, ◌∙◌}
use Rattle.std.specs.List.{range_with_len}
use Rattle.std.specs.Prelude.{flat_map}
use Rattle.std.proofs.lemmas.List.{length-map}
use Rattle.std.proofs.lemmas.List.Elements.{All-nil, All-cons, All-head, All-tail, All-append, All-map, All-weaker}
use Rattle.tree_model.specs.declared.tree.Node.{Node}
use Rattle.tree_model.specs.declared.tree.Symbol.{Symbol}
use Rattle.tree_model.specs.declared.tree.Symbol.TheVariants.{Named}
use Rattle.tree_model.specs.Graphs.{Forest}
use Rattle.formula_ast.specs.declared.term.Term.TheVariants.{Var}
use Rattle.formula_ast.specs.Forms.{Form, exists}
use Rattle.formula_grammar.specs.Written.{Joint, and, or, imp, iff}
use Rattle.formula_grammar.specs.Meaning.{joint_form, behind}
use Rattle.formula_printer.specs.Bound.{chained, conjunction, disjunction}
use Rattle.flat_form.specs.declared.atom.Flat.{Flat}
use Rattle.flat_form.specs.declared.atom.Flat.TheVariants.{VarVar, VarTerm, Finite}
use Rattle.flat_form.specs.declared.cube.Part.{Part}
use Rattle.flat_form.specs.declared.cube.Cube.{Cube}
use Rattle.flat_form.specs.Symbols.{atom_symbols, basic_symbols, cube_symbols, cubes_symbols}
use Rattle.flattening.specs.Conditions.{count}
use Rattle.flattening.specs.Plain.{term_of, terms_of, plain_of}
use Rattle.flattening.specs.Symbols.{form_symbols}
use Rattle.flattening.proofs.EachItem.{all_left, all_right, flat_all}
use Rattle.flattening.proofs.Readings.{count_length}
use Rattle.flattening.proofs.FormSymbols.{TermEach, TermsEach, FormEach, each_form}
use Rattle.flattening.proofs.Ties.{variable_term, applied_term}
use Rattle.explicit_form.specs.Explicit.{applied, atom_form, denied, denied_form, denied_part, cube_form, explicit_of}
use Rattle.witness_trees.specs.Breadth.{node_of}
use Rattle.witness_trees.specs.Fresh.{term_or, fresh_term, index, label, IsFreshAssignment}
use Rattle.decision.specs.Shown.{IsDeclared}

module _ (P : Symbol × ℕ → Type 0) where
  -- ---- formulas

  -- P holds of each symbol of the formula
  abbrev Each : Form → Type 0
  Each f = FormEach P (plain_of f)

  variable_each : (v : ℕ) → TermEach P (term_of (Var v))
  variable_each v = subst (TermEach P) (sym (variable_term v)) tt

  variables_count : (xs : List ℕ) → count (terms_of (map (λ x. Var x) xs)) ≡ length xs
  variables_count xs = sym (count_length (map (λ x. Var x) xs)) ∙ length-map xs (λ x. Var x)

  variables_each : (xs : List ℕ) → TermsEach P (terms_of (map (λ x. Var x) xs))
  variables_each [] = tt
  variables_each (x ∷ xs) = (variable_each x, variables_each xs)

  applied_each : (symbol : Symbol) (xs : List ℕ) → P (symbol, length xs) → TermEach P (term_of (applied symbol xs))
  applied_each symbol xs holds =
      subst (TermEach P) (sym (applied_term symbol (record { items = map (λ x. Var x) xs })))
      (subst (λ n. P (symbol, n)) (sym (variables_count xs)) holds, variables_each xs)

  atom_each : (atom : Flat) → All P (atom_symbols atom) → Each (atom_form atom)
  atom_each (VarVar u v) all = (variable_each u, variable_each v)
  atom_each (VarTerm u symbol xs) all = (variable_each u, applied_each symbol xs (All-head P (symbol, length xs) [] all))
  atom_each (Finite u) all = variable_each u

  joint_each : (j : Joint) (f g : Form) → Each f → Each g → Each (joint_form j f g)
  joint_each and f g left right = (left, right)
  joint_each or f g left right = (left, right)
  joint_each imp f g left right = (left, right)
  joint_each iff f g left right = ((left, right), (right, left))

  chained_each : (j : Joint) (f : Form) (gs : List Form) → Each f → All Each gs → Each (chained j f gs)
  chained_each j f [] here all = here
  chained_each j f (g ∷ gs) here all =
      chained_each j (joint_form j f g) gs (joint_each j f g here (All-head Each g gs all)) (All-tail Each g gs all)

  conjunction_each : (fs : List Form) → All Each fs → Each (conjunction fs)
  conjunction_each [] all = tt
  conjunction_each (f ∷ fs) all = chained_each and f fs (All-head Each f fs all) (All-tail Each f fs all)

  disjunction_each : (fs : List Form) → All Each fs → Each (disjunction fs)
  disjunction_each [] all = tt
  disjunction_each (f ∷ fs) all = chained_each or f fs (All-head Each f fs all) (All-tail Each f fs all)

  behind_each : (xs : List ℕ) (f : Form) → Each f → Each (behind exists xs f)
  behind_each [] f each = each
  behind_each (x ∷ xs) f each = behind_each xs f each

  atoms_each : (basic : List Flat) → All P (basic_symbols basic) → All Each (map atom_form basic)
  atoms_each basic all =
      All-map Each atom_form basic
      (All-weaker (λ atom. All P (atom_symbols atom)) (λ atom. Each (atom_form atom)) atom_each basic (flat_all P atom_symbols basic all))

  -- a denied block, or the one equation of it with `!=`
  denied_each : (bound : List ℕ) (basic : List Flat) → All P (basic_symbols basic) → Each (denied_form bound basic)
  denied_each bound basic all = by bound basic (all_of bound basic all) all
    where
      all_of : (bound : List ℕ) (basic : List Flat) → All P (basic_symbols basic) → Each (behind exists bound (conjunction (map atom_form basic)))
      all_of bound basic all = behind_each bound (conjunction (map atom_form basic)) (conjunction_each (map atom_form basic) (atoms_each basic all))

      by : (bound : List ℕ) (basic : List Flat) → Each (behind exists bound (conjunction (map atom_form basic))) → All P (basic_symbols basic)
          → Each (denied_form bound basic)
      by [] [] each all = each
      by [] (VarVar u v ∷ []) each all = each
      by [] (VarVar u v ∷ (atom ∷ atoms)) each all = each
      by [] (VarTerm u symbol xs ∷ []) each all = each
      by [] (VarTerm u symbol xs ∷ (atom ∷ atoms)) each all = each
      by [] (Finite u ∷ atoms) each all = each
      by (x ∷ xs) basic each all = each

  parts_each : (m : ℕ) (parts : List Part) → All P (flat_map (λ (part : Part). basic_symbols part.basic) parts)
      → All Each (map denied (map (denied_part m) parts))
  parts_each m [] all = All-nil Each
  parts_each m (part ∷ parts) all =
      All-cons Each (denied (denied_part m part)) (map denied (map (denied_part m) parts))
      (denied_each (range_with_len m part.inner) part.basic
      (all_left P (basic_symbols part.basic) (flat_map (λ (part : Part). basic_symbols part.basic) parts) all))
      (parts_each m parts (all_right P (basic_symbols part.basic) (flat_map (λ (part : Part). basic_symbols part.basic) parts) all))

  cube_each : (cube : Cube) → All P (cube_symbols cube) → Each (cube_form cube)
  cube_each cube all =
      let m : ℕ = cube.free + cube.outer in
      let others : List (Symbol × ℕ) = flat_map (λ (part : Part). basic_symbols part.basic) cube.parts in
      let atoms : List Form = map atom_form cube.basic in
      let parts : List Form = map denied (map (denied_part m) cube.parts) in
      behind_each (range_with_len cube.free cube.outer) (conjunction (atoms ++ parts))
      (conjunction_each (atoms ++ parts)
      (All-append Each atoms parts
      (atoms_each cube.basic (all_left P (basic_symbols cube.basic) others all))
      (parts_each m cube.parts (all_right P (basic_symbols cube.basic) others all))))

  -- what holds of the symbols of the cubes holds of those of their formula
  pub explicit_symbols : (cubes : List Cube) → All P (cubes_symbols cubes) → All P (form_symbols (explicit_of cubes))
  explicit_symbols cubes all =
      each_form P (explicit_of cubes)
      (disjunction_each (map cube_form cubes)
      (All-map Each cube_form cubes
      (All-weaker (λ cube. All P (cube_symbols cube)) (λ cube. Each (cube_form cube)) cube_each cubes (flat_all P cube_symbols cubes all))))

  -- ---- assignments

  term_declared : (basic : List Flat) (v : ℕ) (fresh : Node) → All P (basic_symbols basic) → IsDeclared P fresh → IsDeclared P (term_or basic v fresh)
  term_declared [] v fresh all other = other
  term_declared (VarVar u r ∷ rest) v fresh all other = term_declared rest v fresh all other
  term_declared (Finite u ∷ rest) v fresh all other = term_declared rest v fresh all other
  term_declared (VarTerm u symbol xs ∷ rest) v fresh all other =
      by (u == v) (All-head P (symbol, length xs) (basic_symbols rest) all) (term_declared rest v fresh (All-tail P (symbol, length xs) (basic_symbols rest) all) other)
    where
      by : (b : Bool) → P (symbol, length xs) → IsDeclared P (term_or rest v fresh)
          → IsDeclared P (cond b (record { symbol = symbol; children = xs }) (term_or rest v fresh))
      by true holds more = λ i is. subst (λ (s : Symbol). P (s, length xs)) is holds
      by false holds more = more

  -- the node of a variable, whatever its children are called
  renamed_declared : (node : Node) (f : ℕ → ℕ) → IsDeclared P node → IsDeclared P (record { symbol = node.symbol; children = map f node.children })
  renamed_declared node f holds i is = subst (λ n. P (Named i, n)) (sym (length-map node.children f)) (holds i is)

  label_declared : (cube : Cube) (used : List ℕ) (v : ℕ) → All P (cube_symbols cube) → IsDeclared P (label cube used v)
  label_declared cube used v all =
      let fresh : Node = fresh_term cube.basic (index cube used v) v in
      renamed_declared (term_or cube.basic v fresh) _
      (term_declared cube.basic v fresh (all_left P (basic_symbols cube.basic) (flat_map (λ (part : Part). basic_symbols part.basic) cube.parts) all) (λ i is. absurd (cc is)))

  -- what holds of the symbols of a cube holds of the declared ones in its fresh assignment
  pub fresh_declared : (cube : Cube) (used : List ℕ) (a : Forest) → All P (cube_symbols cube) → IsFreshAssignment cube used a → All (IsDeclared P) a.nodes
  fresh_declared cube used a all fresh =
      subst (λ (nodes : List Node). All (IsDeclared P) nodes) (sym fresh.nodes) (of_all fresh.order)
    where
      of_all : (order : List ℕ) → All (IsDeclared P) (map (node_of (label cube used) fresh.order) order)
      of_all [] = All-nil (IsDeclared P)
      of_all (v ∷ vs) =
          All-cons (IsDeclared P) (node_of (label cube used) fresh.order v) (map (node_of (label cube used) fresh.order) vs)
          (renamed_declared (label cube used v) _ (label_declared cube used v all)) (of_all vs)
