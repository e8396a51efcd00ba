-- The flattened formula means the formula.
use Rattle.std.proofs.Common.{ℕ, suc, ◌≡◌, ◌+◌, ◌<◌, List, [], ◌∷◌, length, refl, ap, sym, subst, ◌∙◌, arith, inl, inr, ◌⊎◌}
use Rattle.std.specs.Prelude.{slice_index, Contains}
use Rattle.std.proofs.lemmas.Bool.Decides.{eqb_tells}
use Rattle.std.proofs.lemmas.List.Elements.{All-head, All-tail}
use Rattle.tree_model.specs.Signatures.{Signature, Alike}
use Rattle.tree_model.specs.Trees.{at}
use Rattle.tree_model.specs.Valuations.{update}
use Rattle.tree_facts.proofs.Members.{contains_cases}
use Rattle.formula_ast.specs.declared.pred.Pred.{Pred}
use Rattle.formula_ast.specs.Forms.{Form}
use Rattle.flat_form.specs.declared.cube.Cube.{Cube}
use Rattle.flat_form.specs.Meanings.{NormHolds}
use Rattle.flat_form.specs.Normals.{Norm}
use Rattle.flat_form.specs.Numbering.{CubesOver, IsWellNumbered}
use Rattle.flattening.specs.declared.solved.Key.{Key}
use Rattle.flattening.specs.Plain.{Plain, always, equal, finite, ask, no, and, exists, plain_of}
use Rattle.flattening.specs.Tables.{cubes_at}
use Rattle.flattening.specs.Numbers.{with_numbers, given_ranks, rank_in}
use Rattle.flattening.specs.Conditions.{count, HasFreeVariables, HasEntries, EntriesMean, MeansFormula}
use Rattle.flattening.specs.Flattening.{flattened}
use Rattle.flattening.proofs.Given.{update_same, update_other}
use Rattle.flattening.proofs.CubesMean.{AllFree}
use Rattle.flattening.proofs.Meaning.{IsFree, Below, Meant, coincide, flattened_sound, flattened_complete}
use Rattle.flattening.proofs.Bridge.{to_plain, from_plain, free_in}

-- x has the number i + k, where it stands at place k of the list
record Ranked (given : ℕ → ℕ) (i : ℕ) (ranks : List ℕ) (x : ℕ) : Type 0 where
  place : ℕ
  within : place < length ranks
  number : given x ≡ i + place
  stands : slice_index ranks place ≡ x

later : (given : ℕ → ℕ) (i v : ℕ) (vs : List ℕ) (x : ℕ) → Ranked given (i + 1) vs x → Ranked given i (v ∷ vs) x
later given i v vs x r = record { place = suc r.place; within = omega (arith, r.within); number = r.number ∙ omega arith; stands = r.stands }

first : (given : ℕ → ℕ) (m : ℕ → ℕ) (i v : ℕ) (vs : List ℕ) (x : ℕ) → given x ≡ update m v i x → v ≡ x → Ranked given i (v ∷ vs) x
first given m i v vs x e same = record { place = 0; within = omega arith; number = e ∙ update_same m v i x same ∙ omega arith; stands = same }

ranked_or_not : (m : ℕ → ℕ) (i : ℕ) (ranks : List ℕ) (x : ℕ)
    → (with_numbers m (given_ranks i ranks) x ≡ m x) ⊎ Ranked (with_numbers m (given_ranks i ranks)) i ranks x
ranked_or_not m i [] x = inl refl
ranked_or_not m i (v ∷ vs) x = elim (ranked_or_not (update m v i) (i + 1) vs x) [
  | inr r ↦ inr (later _ i v vs x r)
  | inl e ↦ elim (eqb_tells v x) [ inl h ↦ inr (first _ m i v vs x e h.1) | inr h ↦ inl (e ∙ update_other m v i x h.1) ]
]

ranked : (m : ℕ → ℕ) (i : ℕ) (ranks : List ℕ) (x : ℕ) → Contains ranks x → Ranked (with_numbers m (given_ranks i ranks)) i ranks x
ranked m i [] x k = absurd (omega (arith, k.1))
ranked m i (v ∷ vs) x k = elim (contains_cases v x vs k) [
  | inr there ↦ later _ i v vs x (ranked (update m v i) (i + 1) vs x there)
  | inl same ↦ elim (ranked_or_not (update m v i) (i + 1) vs x) [ inr r ↦ later _ i v vs x r | inl e ↦ first _ m i v vs x e same ]
]

all_free : (n : ℕ) (cubes : List Cube) → CubesOver n cubes → AllFree n cubes
all_free n [] over = tt
all_free n (cube ∷ rest) over = (
  (All-head (λ (cube : Cube). (cube.free ≡ n) × IsWellNumbered cube) cube rest over).0,
  all_free n rest (All-tail (λ (cube : Cube). (cube.free ≡ n) × IsWellNumbered cube) cube rest over),
)

meant : (σ : Signature) (preds : List Pred) (table : List (Key × List Cube)) (f : Plain) → HasEntries table f → EntriesMean σ preds table f → Meant σ preds (cubes_at table) f
meant σ preds table always has mean = tt
meant σ preds table (equal t s) has mean = tt
meant σ preds table (finite t) has mean = tt
meant σ preds table (ask key ts) has mean = (mean, all_free (count ts) (cubes_at table key) has.1)
meant σ preds table (no f) has mean = meant σ preds table f has mean
meant σ preds table (and f g) has mean = (meant σ preds table f has.0 mean.0, meant σ preds table g has.1 mean.1)
meant σ preds table (exists x f) has mean = meant σ preds table f has mean

-- each free variable has its place in the list as number
at_rank : (ranks : List ℕ) (f : Form) → HasFreeVariables ranks f → (x : ℕ) → IsFree x (plain_of f) → Ranked (rank_in ranks) 0 ranks x
at_rank ranks f free x k = ranked (λ v. 0) 0 ranks x (free x (free_in x f k))

pub ranks_below : (ranks : List ℕ) (f : Form) → HasFreeVariables ranks f → Below (rank_in ranks) (length ranks) (plain_of f)
ranks_below ranks f free x k = let r = at_rank ranks f free x k in omega (arith, r.within, r.number)

pub means_formula : (ranks : List ℕ) (table : List (Key × List Cube)) (f : Form) (normal : Norm) → normal ≡ flattened (cubes_at table) (rank_in ranks) (length ranks) (plain_of f)
    → HasFreeVariables ranks f → HasEntries table (plain_of f) → MeansFormula ranks table f normal
means_formula ranks table f normal is free has = record {
  exactly = λ σ preds d e fits mean gives.
      let below : Below (rank_in ranks) (length ranks) (plain_of f) = ranks_below ranks f free in
      let alike : (x : ℕ) → IsFree x (plain_of f) → Alike (d x) (e (rank_in ranks x)) = λ x k path.
      let r = at_rank ranks f free x k in
      ap (λ v. at (d v).graph path) (sym r.stands) ∙ gives r.place r.within path ∙ ap (λ v. at (e v).graph path) (sym (r.number ∙ omega arith)) in
      let all_meant = meant σ preds table (plain_of f) has mean in (
        (λ holds. from_plain σ preds f d (coincide σ preds (plain_of f) (λ x. e (rank_in ranks x)) d (λ x k path. sym (alike x k path))
            (flattened_sound σ preds (cubes_at table) (rank_in ranks) (length ranks) (plain_of f) e below all_meant fits (subst (λ (x : Norm). NormHolds (length ranks) e x) is holds)))),
        (λ holds. subst (λ (x : Norm). NormHolds (length ranks) e x) (sym is) (flattened_complete σ preds (cubes_at table) (rank_in ranks) (length ranks) (plain_of f) e below all_meant fits
            (coincide σ preds (plain_of f) d (λ x. e (rank_in ranks x)) alike (to_plain σ preds f d holds)))),
      );
}
