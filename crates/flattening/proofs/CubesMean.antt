-- A cube that is denied at arguments.
use Rattle.std.proofs.Common.{ℕ, zero, suc, ◌≡◌, ◌+◌, ◌-◌, ◌<◌, ◌≤◌, cond, List, [], ◌∷◌, length, map, nat_lt, lt-ltb, le-ltb, refl, ap, sym, subst, ◌∙◌, arith, inl, inr}
use Rattle.std.specs.Prelude.{Some, slice_index}
use Rattle.classical.proofs.Stable.{◌>>=◌}
use Rattle.tree_model.specs.Signatures.{Signature, Alike}
use Rattle.tree_model.specs.Trees.{at}
use Rattle.tree_model.specs.Valuations.{Valuation}
use Rattle.tree_model.proofs.Sameness.{finite_same}
use Rattle.tree_facts.proofs.Equations.{within_or_past}
use Rattle.flat_form.specs.declared.atom.Flat.{Flat}
use Rattle.flat_form.specs.declared.atom.Flat.TheVariants.{VarVar, VarTerm, Finite}
use Rattle.flat_form.specs.declared.cube.Part.{Part}
use Rattle.flat_form.specs.declared.cube.Cube.{Cube}
use Rattle.flat_form.specs.Meanings.{AtomHolds, BasicHolds, AllFail, NormHolds, NormsHold, Extends, SomeHolds, CubeHolds}
use Rattle.flat_form.specs.Parts.{renumbered}
use Rattle.flattening.specs.Flattening.{placed, denied_parts, denied, all_denied}

pub length_map : (f : ℕ → ℕ) (xs : List ℕ) → length (map f xs) ≡ length xs
length_map f [] = refl
length_map f (x ∷ xs) = ap suc (length_map f xs)

map_at : (f : ℕ → ℕ) (xs : List ℕ) (i : ℕ) → i < length xs → slice_index (map f xs) i ≡ f (slice_index xs i)
map_at f [] i w = absurd (omega arith)
map_at f (x ∷ xs) zero w = refl
map_at f (x ∷ xs) (suc i) w = map_at f xs i (omega arith)

module _ {σ : Signature} where
  atom_moves : (atom : Flat) (d e : Valuation σ) → ((v : ℕ) → Alike (d v) (e v)) → AtomHolds d atom → AtomHolds e atom
  atom_moves (VarVar u v) d e alike holds = λ path. sym (alike u path) ∙ holds path ∙ alike v path
  atom_moves (VarTerm u s xs) d e alike holds = record {
    root = sym (alike u []) ∙ holds.root;
    child = λ i w path. sym (alike u (i ∷ path)) ∙ holds.child i w path ∙ alike (slice_index xs i) path;
  }
  atom_moves (Finite u) d e alike holds = finite_same (d u).graph (e u).graph (alike u) holds

  pub basic_moves : (basic : List Flat) (d e : Valuation σ) → ((v : ℕ) → Alike (d v) (e v)) → BasicHolds d basic → BasicHolds e basic
  basic_moves [] d e alike holds = tt
  basic_moves (atom ∷ rest) d e alike holds = (atom_moves atom d e alike holds.0, basic_moves rest d e alike holds.1)

  to_renumbered : (f : ℕ → ℕ) (atom : Flat) (e : Valuation σ) → AtomHolds (λ v. e (f v)) atom → AtomHolds e (renumbered f atom)
  to_renumbered f (VarVar u v) e holds = holds
  to_renumbered f (VarTerm u s xs) e holds = record {
    root = holds.root ∙ ap (λ n. Some (s, n)) (sym (length_map f xs));
    child = λ i w path.
        let k : i < length xs = omega (arith, length_map f xs) in holds.child i k path ∙ ap (λ v. at (e v).graph path) (sym (map_at f xs i k));
  }
  to_renumbered f (Finite u) e holds = holds

  from_renumbered : (f : ℕ → ℕ) (atom : Flat) (e : Valuation σ) → AtomHolds e (renumbered f atom) → AtomHolds (λ v. e (f v)) atom
  from_renumbered f (VarVar u v) e holds = holds
  from_renumbered f (VarTerm u s xs) e holds = record {
    root = holds.root ∙ ap (λ n. Some (s, n)) (length_map f xs);
    child = λ i w path. holds.child i (omega (arith, length_map f xs)) path ∙ ap (λ v. at (e v).graph path) (map_at f xs i w);
  }
  from_renumbered f (Finite u) e holds = holds

  pub basic_to_renumbered : (f : ℕ → ℕ) (basic : List Flat) (e : Valuation σ) → BasicHolds (λ v. e (f v)) basic → BasicHolds e (map (renumbered f) basic)
  basic_to_renumbered f [] e holds = tt
  basic_to_renumbered f (atom ∷ rest) e holds = (to_renumbered f atom e holds.0, basic_to_renumbered f rest e holds.1)

  pub basic_from_renumbered : (f : ℕ → ℕ) (basic : List Flat) (e : Valuation σ) → BasicHolds e (map (renumbered f) basic) → BasicHolds (λ v. e (f v)) basic
  basic_from_renumbered f [] e holds = tt
  basic_from_renumbered f (atom ∷ rest) e holds = (from_renumbered f atom e holds.0, basic_from_renumbered f rest e holds.1)

pub placed_below : (args : List ℕ) (scope v : ℕ) → v < length args → placed args scope v ≡ slice_index args v
placed_below args scope v w = rw (lt-ltb v (length args) w) refl

placed_above : (args : List ℕ) (scope v : ℕ) → length args ≤ v → placed args scope v ≡ scope + (v - length args)
placed_above args scope v le = rw (le-ltb v (length args) le) refl

-- each cube has n free variables
abbrev pub AllFree : ℕ → List Cube → Type 0
AllFree n [] = Unit {0}
AllFree n (cube ∷ rest) = (cube.free ≡ n) × AllFree n rest

module _ (args : List ℕ) (scope : ℕ) (args_below : (v : ℕ) → v < length args → slice_index args v < scope) where
  pub placed_within : (outer v : ℕ) → v < length args + outer → placed args scope v < scope + outer
  placed_within outer v w = elim (within_or_past v (length args)) [
    | inl k ↦ omega (arith, placed_below args scope v k, args_below v k)
    | inr k ↦ omega (arith, placed_above args scope v k)
  ]

module _ {σ : Signature} (args : List ℕ) (scope : ℕ) (args_below : (v : ℕ) → v < length args → slice_index args v < scope) where
  -- d below the limit, and from there on the values of x behind those in scope
  abbrev after : ℕ → Valuation σ → Valuation σ → Valuation σ
  after limit d x v = cond (nat_lt v limit) (d v) (x (length args + (v - scope)))

  after_below : (limit : ℕ) (d x : Valuation σ) (v : ℕ) → v < limit → Alike (after limit d x v) (d v)
  after_below limit d x v w = rw (lt-ltb v limit w) (λ path. refl)

  after_above : (limit : ℕ) (d x : Valuation σ) (v : ℕ) → limit ≤ v → Alike (after limit d x v) (x (length args + (v - scope)))
  after_above limit d x v le = rw (le-ltb v limit le) (λ path. refl)

  moved : (e : Valuation σ) (u v : ℕ) → u ≡ v → Alike (e u) (e v)
  moved e u v same path = ap (λ w. at (e w).graph path) same

  -- through the places of a cube's variables one reads x
  spread : (limit : ℕ) (d x : Valuation σ) → scope ≤ limit → ((v : ℕ) → placed args scope v < limit → Alike (d (placed args scope v)) (x v))
      → (v : ℕ) → Alike (after limit d x (placed args scope v)) (x v)
  spread limit d x le alike v = elim (within_or_past (placed args scope v) limit) [
    | inl w ↦ λ path. after_below limit d x (placed args scope v) w path ∙ alike v w path
    | inr w ↦ elim (within_or_past v (length args)) [
      | inl k ↦ absurd (omega (arith, placed_below args scope v k, args_below v k))
      | inr k ↦ λ path. after_above limit d x (placed args scope v) w path ∙ moved x _ v (omega (arith, placed_above args scope v k)) path
    ]
  ]

  parts_denied : (outer : ℕ) (d x : Valuation σ) → ((v : ℕ) → v < length args + outer → Alike (d (placed args scope v)) (x v)) → (parts : List Part)
      → AllFail (length args + outer) x parts → NormsHold (scope + outer) d (denied_parts (placed args scope) parts)
  parts_denied outer d x alike [] fail = tt
  parts_denied outer d x alike (part ∷ rest) fail = (
    (λ y ext holds u. fail.0 (λ v. y (placed args scope v)) (λ v w path. ext (placed args scope v) (placed_within args scope args_below outer v w) path ∙ alike v w path)
        (basic_from_renumbered (placed args scope) part.basic y holds)),
    parts_denied outer d x alike rest fail.1,
  )

  parts_fail : (outer : ℕ) (d : Valuation σ) (parts : List Part) → NormsHold (scope + outer) d (denied_parts (placed args scope) parts)
      → AllFail (length args + outer) (λ v. d (placed args scope v)) parts
  parts_fail outer d [] holds = tt
  parts_fail outer d (part ∷ rest) holds = (
    (λ z ext basic.
        let y = after (scope + outer) d z in
        let alike : (v : ℕ) → Alike (y (placed args scope v)) (z v) = spread (scope + outer) d z (omega arith) (λ v w path. sym (ext v (back outer v w) path)) in
        holds.0 y (λ v w. after_below (scope + outer) d z v w) (basic_to_renumbered (placed args scope) part.basic y (basic_moves part.basic z (λ v. y (placed args scope v)) (λ v path. sym (alike v path)) basic)) tt),
    parts_fail outer d rest holds.1,
  )
    where
      back : (outer v : ℕ) → placed args scope v < scope + outer → v < length args + outer
      back outer v w = elim (within_or_past v (length args)) [ inl k ↦ omega arith | inr k ↦ omega (arith, placed_above args scope v k) ]

  cube_refuted : (cube : Cube) (d p : Valuation σ) → cube.free ≡ length args → ((v : ℕ) → v < length args → Alike (d (slice_index args v)) (p v))
      → NormHolds scope d (denied args scope cube) → ¬ CubeHolds p cube
  cube_refuted cube d p free alike normal holds = holds (λ (x, (ext, basic, parts)).
      let y = after scope d x in
      let same : (v : ℕ) → Alike (y (placed args scope v)) (x v) = spread scope d x (omega arith) (λ v w path. first x ext v w path) in
      normal y (λ v w. after_below scope d x v w)
      (basic_to_renumbered (placed args scope) cube.basic y (basic_moves cube.basic x (λ v. y (placed args scope v)) (λ v path. sym (same v path)) basic))
      (parts_denied cube.outer y x (λ v w. same v) cube.parts (subst (λ n. AllFail (n + cube.outer) x cube.parts) free parts)))
    where
      first : (x : Valuation σ) → Extends cube.free p x → (v : ℕ) → placed args scope v < scope → Alike (d (placed args scope v)) (x v)
      first x ext v w = elim (within_or_past v (length args)) [
        | inl k ↦ λ path. moved d _ _ (placed_below args scope v k) path ∙ alike v k path ∙ sym (ext v (omega (arith, free)) path)
        | inr k ↦ absurd (omega (arith, placed_above args scope v k))
      ]

  cube_denied : (cube : Cube) (d p : Valuation σ) → cube.free ≡ length args → ((v : ℕ) → v < length args → Alike (d (slice_index args v)) (p v))
      → ¬ CubeHolds p cube → NormHolds scope d (denied args scope cube)
  cube_denied cube d p free alike fails y ext basic parts = fails (λ n. n (
    (λ v. y (placed args scope v)),
    (
      (λ v w path.
          let k : v < length args = omega (arith, free) in
          moved y _ _ (placed_below args scope v k) path ∙ ext (slice_index args v) (args_below v k) path ∙ alike v k path),
      basic_from_renumbered (placed args scope) cube.basic y basic,
      subst (λ n. AllFail (n + cube.outer) (λ v. y (placed args scope v)) cube.parts) (sym free) (parts_fail cube.outer y cube.parts parts),
    ),
  ))

  pub some_refuted : (cubes : List Cube) (d p : Valuation σ) → AllFree (length args) cubes → ((v : ℕ) → v < length args → Alike (d (slice_index args v)) (p v))
      → NormsHold scope d (all_denied args scope cubes) → ¬ SomeHolds p cubes
  some_refuted [] d p free alike normals holds = holds
  some_refuted (cube ∷ rest) d p free alike normals holds = do
    one ← holds
    elim one [ inl h ↦ cube_refuted cube d p free.0 alike normals.0 h | inr h ↦ some_refuted rest d p free.1 alike normals.1 h ]

  pub none_holds : (cubes : List Cube) (d p : Valuation σ) → AllFree (length args) cubes → ((v : ℕ) → v < length args → Alike (d (slice_index args v)) (p v))
      → ¬ SomeHolds p cubes → NormsHold scope d (all_denied args scope cubes)
  none_holds [] d p free alike fails = tt
  none_holds (cube ∷ rest) d p free alike fails = (
    cube_denied cube d p free.0 alike (λ h. fails (λ n. n (inl h))),
    none_holds rest d p free.1 alike (λ h. fails (λ n. n (inr h))),
  )
