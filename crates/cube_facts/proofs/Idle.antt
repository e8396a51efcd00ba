-- Parts that mention an idle variable may go, and then the idle variables.
use Rattle.std.specs.Prelude.{Contains, max, ◌↔◌}
use Rattle.std.proofs.Common.{ℕ, zero, suc, ◌≡◌, ◌<◌, ◌≤◌, ◌+◌, List, [], ◌∷◌, refl, sym, ◌∙◌, subst, arith, inl, inr, ◌⊎◌, cond}
use Rattle.std.proofs.lemmas.List.Elements.{All-contains}
use Rattle.classical.proofs.Stable.{◌>>=◌}
use Rattle.tree_model.specs.Signatures.{Signature, TreeOver, Alike}
use Rattle.tree_model.specs.Valuations.{Valuation}
use Rattle.tree_facts.specs.Indexes.{above_indexes}
use Rattle.tree_facts.proofs.Members.{contains_first, contains_later}
use Rattle.flat_form.specs.declared.atom.Flat.{Flat}
use Rattle.flat_form.specs.declared.atom.Flat.TheVariants.{VarVar, VarTerm, Finite}
use Rattle.flat_form.specs.declared.cube.Part.{Part}
use Rattle.flat_form.specs.declared.cube.Cube.{Cube}
use Rattle.flat_form.specs.Meanings.{AtomHolds, BasicHolds, Extends, AllFail, PartFails, CubeHolds}
use Rattle.flat_form.specs.Parts.{variables_of, IsPartOver}
use Rattle.flat_form.specs.Solved.{variable_of, IsOpen, IsDirect}
use Rattle.flat_form.specs.Steps.{IsOuter, Mentions, WithoutIdle}
use Rattle.flat_facts.proofs.Atoms.{atom_moves}
use Rattle.flat_facts.proofs.Lists.{holds_in, all_hold}
use Rattle.cube_facts.specs.Settling.{IdleMayGo}
use Rattle.cube_facts.proofs.FreshPart.{fresh_part_fails}
use Rattle.cube_facts.proofs.Variables.{stands_in, stands_tells}
use Rattle.cube_facts.proofs.FreshValues.{atoms_above, parts_above, renewed, renewed_other, renewed_holds, renewed_fresh}

-- above all indexes of the first m values
abbrev values_above : {σ : Signature} → Valuation σ → ℕ → ℕ
values_above x zero = 0
values_above x (suc m) = max (above_indexes (x m).graph.nodes) (values_above x m)

last_or_not : (v m : ℕ) → v < suc m → (v ≡ m) ⊎ (v < m)
last_or_not v m w = grind (arith, w)

value_below : {σ : Signature} (x : Valuation σ) (m v : ℕ) → v < m → above_indexes (x v).graph.nodes ≤ values_above x m
value_below x zero v w = absurd (omega (arith, w))
value_below x (suc m) v w = elim (last_or_not v m w) [
  | inl e ↦ subst (λ (z : ℕ). above_indexes (x z).graph.nodes ≤ max (above_indexes (x m).graph.nodes) (values_above x m)) (sym e) (omega arith)
  | inr l ↦ omega (arith, value_below x m v l)
]

module _ (σ : Signature) (m k : ℕ) (base : List Flat) (x : Valuation σ) (idle : List ℕ)
    (low : (v : ℕ) → Contains idle v → v < m) (bare : (v : ℕ) → Contains idle v → IsOpen base v)
    (apart : (a : Flat) → Contains base a → ¬ Contains idle (variable_of a) → (v : ℕ) → Contains (variables_of a) v → ¬ Contains idle v)
    (holds : (a : Flat) → Contains base a → ¬ Contains idle (variable_of a) → AtomHolds x a)
    (trees_low : (v : ℕ) → v < m → above_indexes (x v).graph.nodes ≤ k) (base_low : atoms_above base ≤ k) where
  abbrev pub new_values : Valuation σ
  new_values = renewed σ m k base x idle low bare apart holds trees_low base_low

  pub new_meets : BasicHolds new_values base
  new_meets = renewed_holds σ m k base x idle low bare apart holds trees_low base_low

  pub new_like : (v : ℕ) → ¬ Contains idle v → Alike (new_values v) (x v)
  new_like v none = subst (λ (t : TreeOver σ). Alike t (x v)) (sym (renewed_other σ m k base x idle low bare apart holds trees_low base_low v none)) (λ path. refl)

  abbrev back : Valuation σ → Valuation σ
  back z v = cond (stands_in idle v) (x v) (z v)

  back_other : (z : Valuation σ) (v : ℕ) → ¬ Contains idle v → Alike (z v) (back z v)
  back_other z v none = elim (stands_tells idle v) [
    | inl h ↦ absurd (none h.1)
    | inr h ↦ let same : back z v ≡ z v = rw h.0 refl in subst (λ (t : TreeOver σ). Alike (z v) t) (sym same) (λ path. refl)
  ]

  back_like : (z : Valuation σ) → Extends m new_values z → Extends m x (back z)
  back_like z like v w = elim (stands_tells idle v) [
    | inl h ↦ let same : back z v ≡ x v = rw h.0 refl in subst (λ (t : TreeOver σ). Alike t (x v)) (sym same) (λ path. refl)
    | inr h ↦ λ path. sym (back_other z v h.1 path) ∙ like v w path ∙ new_like v h.1 path
  ]

  -- a part that mentions none of them fails as before
  pub still_fails : (part : Part) → ((v : ℕ) → Contains idle v → ¬ Mentions part v) → PartFails m x part → PartFails m new_values part
  still_fails part none fails z like = λ h. fails (back z) (back_like z like)
      (all_hold (back z) part.basic (λ a i. atom_moves a z (back z) (λ v o. back_other z v (λ c. none v c (a, i, o))) (holds_in z part.basic a h i)))

  -- and one that mentions one fails
  pub now_fails : (part : Part) (v : ℕ) → IsDirect base → IsPartOver m base part.basic → atoms_above part.basic ≤ k → Contains idle v → Mentions part v
      → PartFails m new_values part
  now_fails part v direct shape part_low stands (a, i, o) z like =
      fresh_part_fails m base part.basic new_values (Contains idle) (λ w. k + w) direct shape
      (renewed_fresh σ m k base x idle low bare apart holds trees_low base_low part.basic part_low) v a stands i o z like

  pub every_part : IsDirect base → (old new : List Part) → WithoutIdle idle old new → ((part : Part) → Contains old part → IsPartOver m base part.basic)
      → parts_above old ≤ k → AllFail m x new → AllFail m new_values old
  every_part direct old new (WithoutIdle.all_done) shapes bound all = tt
  every_part direct old new (WithoutIdle.dropped part v rest kept stands mentions more) shapes bound all = (
    now_fails part v direct (shapes part (contains_first part rest)) (omega (arith, bound)) stands mentions,
    every_part direct rest kept more (λ p i. shapes p (contains_later part p rest i)) (omega (arith, bound)) all,
  )
  every_part direct old new (WithoutIdle.stays part rest kept none more) shapes bound all = (
    still_fails part none all.0,
    every_part direct rest kept more (λ p i. shapes p (contains_later part p rest i)) (omega (arith, bound)) all.1,
  )

-- fewer parts fail where all do
fewer_fail : {σ : Signature} (m : ℕ) (d : Valuation σ) (idle : List ℕ) (old new : List Part) → WithoutIdle idle old new → AllFail m d old → AllFail m d new
fewer_fail m d idle old new (WithoutIdle.all_done) all = tt
fewer_fail m d idle old new (WithoutIdle.dropped part v rest kept stands mentions more) all = fewer_fail m d idle rest kept more all.1
fewer_fail m d idle old new (WithoutIdle.stays part rest kept none more) all = (all.0, fewer_fail m d idle rest kept more all.1)

module _ (σ : Signature) (mid : Cube) (idle : List ℕ) (rest : List Flat) (busy : List Part) (e : Valuation σ) (direct : IsDirect mid.basic)
    (shapes : (part : Part) → Contains mid.parts part → IsPartOver (mid.free + mid.outer) mid.basic part.basic)
    (alone : (v : ℕ) → Contains idle v
    → IsOuter mid.free mid.outer v × ((atom : Flat) → Contains mid.basic atom → Contains (variables_of atom) v → atom ≡ Finite v))
    (without : WithoutIdle idle mid.parts busy)
    (is : (atom : Flat) → Contains rest atom ↔ (Contains mid.basic atom × (¬ Contains idle (variable_of atom)))) where
  low : (v : ℕ) → Contains idle v → v < mid.free + mid.outer
  low v i = (alone v i).0.1

  bare : (v : ℕ) → Contains idle v → IsOpen mid.basic v
  bare v i = record {
    no_variable = λ r j. let e : VarVar v r ≡ Finite v = (alone v i).1 (VarVar v r) j (contains_first v (r ∷ [])) in cc e;
    no_term = λ s xs j. let e : VarTerm v s xs ≡ Finite v = (alone v i).1 (VarTerm v s xs) j (contains_first v xs) in cc e;
  }

  apart : (a : Flat) → Contains mid.basic a → ¬ Contains idle (variable_of a) → (v : ℕ) → Contains (variables_of a) v → ¬ Contains idle v
  apart a i none v o = λ c. none (subst (λ (z : Flat). Contains idle (variable_of z)) (sym ((alone v c).1 a i o)) c)

  there : CubeHolds e mid → CubeHolds e (record { free = mid.free; outer = mid.outer; basic = rest; parts = busy })
  there cube out = do
    (d, (like, h, all)) ← cube
    out (
      d,
      (like, all_hold d rest (λ a i. holds_in d mid.basic a h ((is a).0 i).0), fewer_fail (mid.free + mid.outer) d idle mid.parts busy without all),
    )

  back_again : CubeHolds e (record { free = mid.free; outer = mid.outer; basic = rest; parts = busy }) → CubeHolds e mid
  back_again cube out = do
    (d, (like, h, all)) ← cube
    let m : ℕ = mid.free + mid.outer in
        let k : ℕ = max (values_above d m) (max (atoms_above mid.basic) (parts_above mid.parts)) in
        let holds : (a : Flat) → Contains mid.basic a → ¬ Contains idle (variable_of a) → AtomHolds d a = λ a i none. holds_in d rest a h ((is a).1 (i, none)) in
        let trees : (v : ℕ) → v < m → above_indexes (d v).graph.nodes ≤ k = λ v w. omega (arith, value_below d m v w) in
        let base : atoms_above mid.basic ≤ k = omega arith in
        let parts : parts_above mid.parts ≤ k = omega arith in
        out (
          new_values σ m k mid.basic d idle low bare apart holds trees base,
          (
            (λ v w path. new_like σ m k mid.basic d idle low bare apart holds trees base v (λ c. omega (arith, (alone v c).0.0, w)) path ∙ like v w path),
            new_meets σ m k mid.basic d idle low bare apart holds trees base,
            every_part σ m k mid.basic d idle low bare apart holds trees base direct mid.parts busy without shapes parts all,
          ),
        )

pub idle_may_go : IdleMayGo
idle_may_go σ mid idle rest busy e solved shapes alone without is =
    let each : (part : Part) → Contains mid.parts part → IsPartOver (mid.free + mid.outer) mid.basic part.basic =
    λ part i. All-contains (λ (p : Part). IsPartOver (mid.free + mid.outer) mid.basic p.basic) mid.parts part shapes i in (
      there σ mid idle rest busy e solved.direct each alone without is,
      back_again σ mid idle rest busy e solved.direct each alone without is,
    )
