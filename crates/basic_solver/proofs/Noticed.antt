-- What is read of the term that is noted for a class.
use Rattle.std.proofs.Common.{ℕ, ◌≡◌, ◌+◌, Bool, List, sym, ap, ◌∙◌, subst, Option, Some, None, arith, inl, inr}
use Rattle.std.specs.Prelude.{slice_get, slice_index, slice_index_or, IsTrue, ◌↔◌, All, Contains}
use Rattle.std.proofs.lemmas.List.Elements.{All-contains, All-weaker}
use Rattle.tree_model.specs.declared.tree.Symbol.{Symbol}
use Rattle.flat_form.specs.declared.atom.Flat.{Flat}
use Rattle.flat_form.specs.declared.atom.Flat.TheVariants.{VarVar, VarTerm, Finite}
use Rattle.flat_form.specs.Numbering.{AtomOver, BasicOver}
use Rattle.basic_solver.specs.Names.{name_in, IsFollowed}
use Rattle.basic_solver.specs.Flags.{Agrees}
use Rattle.basic_solver.specs.Terms.{IsTermAt, GivesTerm, IsNoted, AgreesWithNoted, FollowsNoted}
use Rattle.basic_solver.specs.Outcomes.{IsTermFor, IsTermLine, GivesNoTerm}
use Rattle.basic_solver.specs.Twins.{FollowTwins}
use Rattle.basic_solver.proofs.Following.{stands_at}
use Rattle.basic_solver.proofs.Naming.{lt_or_le}

module _ (terms : List (Option ℕ)) (atoms : List Flat) where
  pub noted_stands : (name : ℕ) (b : Flat) → IsTermAt terms atoms name b → Contains atoms b
  noted_stands name b at = stands_at atoms at.0 b at.2

  pub noted_over : (n name : ℕ) (b : Flat) → BasicOver n atoms → IsTermAt terms atoms name b → AtomOver n b
  noted_over n name b over at = All-contains (AtomOver n) atoms b over (noted_stands name b at)

  pub noted_once : (name : ℕ) (b c : Flat) → IsTermAt terms atoms name b → IsTermAt terms atoms name c → b ≡ c
  noted_once name b c at too =
      let e : at.0 ≡ too.0 = cc (at.1, too.1) in
      let there : slice_get atoms too.0 ≡ Some b = subst (λ (z : ℕ). slice_get atoms z ≡ Some b) e at.2 in
      cc (there, too.2)

  pub noted_named : (name other : ℕ) (b : Flat) → name ≡ other → IsTermAt terms atoms name b → IsTermAt terms atoms other b
  noted_named name other b e at = subst (λ (z : ℕ). IsTermAt terms atoms z b) e at

  module _ (names : List ℕ) (a : Flat) (u : ℕ) (s : Symbol) (xs : List ℕ) (is : a ≡ VarTerm u s xs) where
    pub agrees_alone : slice_index_or terms (name_in names u) None ≡ None → AgreesWithNoted names terms atoms a
    agrees_alone none = subst (λ (z : Flat). AgreesWithNoted names terms atoms z) (sym is) (λ b at. absurd (cc (at.1, none)))

    pub follows_alone : slice_index_or terms (name_in names u) None ≡ None → FollowsNoted names terms atoms a
    follows_alone none = subst (λ (z : Flat). FollowsNoted names terms atoms z) (sym is) (λ b at. absurd (cc (at.1, none)))

    pub agrees_noted : (b : Flat) (r : Bool) → IsTermAt terms atoms (name_in names u) b → IsTrue r ↔ Agrees names a b → IsTrue r ↔ AgreesWithNoted names terms atoms a
    agrees_noted b r at tells = (
      λ t. subst (λ (z : Flat). AgreesWithNoted names terms atoms z) (sym is)
          (λ c too. subst (λ (z : Flat). Agrees names (VarTerm u s xs) z) (noted_once (name_in names u) b c at too) (subst (λ (z : Flat). Agrees names z b) is (tells.0 t))),
      λ h.
          let own : AgreesWithNoted names terms atoms (VarTerm u s xs) = subst (λ (z : Flat). AgreesWithNoted names terms atoms z) is h in
          tells.1 (subst (λ (z : Flat). Agrees names z b) (sym is) (own b at)),
    )

    pub follows_noted : (b : Flat) → IsTermAt terms atoms (name_in names u) b → IsFollowed names a b → FollowsNoted names terms atoms a
    follows_noted b at follows = subst (λ (z : Flat). FollowsNoted names terms atoms z) (sym is)
        (λ c too. subst (λ (z : Flat). IsFollowed names (VarTerm u s xs) z) (noted_once (name_in names u) b c at too) (subst (λ (z : Flat). IsFollowed names z b) is follows))

-- one more atom follows its twin
pub followed_more : (names twins : List ℕ) (atoms : List Flat) (i : ℕ) (a b : Flat) → slice_get atoms i ≡ Some a → slice_get atoms (slice_index twins i) ≡ Some b
    → FollowTwins names twins atoms i → IsFollowed names a b → FollowTwins names twins atoms (i + 1)
followed_more names twins atoms i a b at there before here k x y w gx gy = elim (lt_or_le k i) [
  | inl l ↦ before k x y l gx gy
  | inr l ↦
      let e : k ≡ i = omega (arith, l, w) in
      let atx : slice_get atoms i ≡ Some x = ap (slice_get atoms) (sym e) ∙ gx in
      let aty : slice_get atoms (slice_index twins i) ≡ Some y = ap (λ (z : ℕ). slice_get atoms (slice_index twins z)) (sym e) ∙ gy in
      let ex : a ≡ x = cc (at, atx) in
      let ey : b ≡ y = cc (there, aty) in
      subst (λ (z : Flat). IsFollowed names z y) ex (subst (λ (z : Flat). IsFollowed names a z) ey here)
]

-- the equation of the class with this name, by the term that is noted for it
pub noted_line : (names : List ℕ) (terms : List (Option ℕ)) (atoms : List Flat) (v : ℕ) (b : Flat) → IsTermAt terms atoms v b → GivesTerm names v b
    → (found : Option Flat) → IsTermFor names b v found → IsTermLine names atoms v found
noted_line names terms atoms v (VarVar u r) at gives found h = absurd gives
noted_line names terms atoms v (VarTerm u s xs) at gives None h = absurd (h gives)
noted_line names terms atoms v (VarTerm u s xs) at gives (Some found) h =
    (h.0, h.1, h.2, subst (λ (z : Flat). Contains atoms z) h.3 (noted_stands terms atoms v (VarTerm u s xs) at), h.4, h.5)
noted_line names terms atoms v (Finite u) at gives found h = absurd gives

pub no_line : (names : List ℕ) (terms : List (Option ℕ)) (atoms : List Flat) (v : ℕ) → slice_index_or terms v None ≡ None → All (IsNoted names terms) atoms
    → All (GivesNoTerm names v) atoms
no_line names terms atoms v none noted = All-weaker (IsNoted names terms) (GivesNoTerm names v) each atoms noted
  where
    each : (a : Flat) → IsNoted names terms a → GivesNoTerm names v a
    each (VarVar u r) h = tt
    each (VarTerm u s xs) h = λ e. h (ap (λ (z : ℕ). slice_index_or terms z None) e ∙ none)
    each (Finite u) h = tt
