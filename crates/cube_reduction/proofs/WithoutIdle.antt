-- Parts in which no idle variable stands, one after another.
use Rattle.std.specs.Prelude.{Contains}
use Rattle.std.proofs.Common.{ℕ, ◌≡◌, ◌+◌, ◌<◌, List, [], ◌∷◌, ◌++◌, length, take, get_or, sym, ap, ◌∙◌, subst}
use Rattle.std.proofs.lemmas.List.{take_more}
use Rattle.flat_form.specs.declared.cube.Part.{Part}
use Rattle.flat_form.specs.Steps.{Mentions, WithoutIdle}

-- one more part that mentions an idle variable
pub without_more : (idle : List ℕ) (old new : List Part) (part : Part) (v : ℕ) → Contains idle v → Mentions part v → WithoutIdle idle old new
    → WithoutIdle idle (old ++ part ∷ []) new
without_more idle old new part v there mentions (WithoutIdle.all_done) = WithoutIdle.dropped part v [] [] there mentions WithoutIdle.all_done
without_more idle old new part v there mentions (WithoutIdle.dropped p w o n i m more) =
    WithoutIdle.dropped p w (o ++ part ∷ []) n i m (without_more idle o n part v there mentions more)
without_more idle old new part v there mentions (WithoutIdle.stays p o n none more) =
    WithoutIdle.stays p (o ++ part ∷ []) n none (without_more idle o n part v there mentions more)

-- and one that mentions none
pub with_more : (idle : List ℕ) (old new : List Part) (part : Part) → ((v : ℕ) → Contains idle v → ¬ Mentions part v) → WithoutIdle idle old new
    → WithoutIdle idle (old ++ part ∷ []) (new ++ part ∷ [])
with_more idle old new part busy (WithoutIdle.all_done) = WithoutIdle.stays part [] [] busy WithoutIdle.all_done
with_more idle old new part busy (WithoutIdle.dropped p w o n i m more) =
    WithoutIdle.dropped p w (o ++ part ∷ []) (n ++ part ∷ []) i m (with_more idle o n part busy more)
with_more idle old new part busy (WithoutIdle.stays p o n none more) =
    WithoutIdle.stays p (o ++ part ∷ []) (n ++ part ∷ []) none (with_more idle o n part busy more)

module _ (idle : List ℕ) (parts : List Part) (i : ℕ) (part : Part) (w : i < length parts) (is : part ≡ get_or parts i part) (busy new : List Part)
    (so_far : WithoutIdle idle (take i parts) busy) where
  next : take (i + 1) parts ≡ take i parts ++ part ∷ []
  next = take_more parts i part w ∙ ap (λ (z : Part). take i parts ++ z ∷ []) (sym is)

  pub part_goes : ((v : ℕ) × Contains idle v × Mentions part v) → new ≡ busy → WithoutIdle idle (take (i + 1) parts) new
  part_goes (v, there, mentions) e = subst (λ (z : List Part). WithoutIdle idle z new) (sym next)
      (subst (λ (z : List Part). WithoutIdle idle (take i parts ++ part ∷ []) z) (sym e) (without_more idle (take i parts) busy part v there mentions so_far))

  pub part_stays : (copy : Part) → ¬ ((v : ℕ) × Contains idle v × Mentions part v) → copy ≡ part → new ≡ busy ++ copy ∷ [] → WithoutIdle idle (take (i + 1) parts) new
  part_stays copy none same e = subst (λ (z : List Part). WithoutIdle idle z new) (sym next)
      (subst (λ (z : List Part). WithoutIdle idle (take i parts ++ part ∷ []) z) (sym (e ∙ ap (λ (z : Part). busy ++ z ∷ []) same))
      (with_more idle (take i parts) busy part (λ v there mentions. none (v, there, mentions)) so_far))
