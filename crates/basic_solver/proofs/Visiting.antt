-- Stacks of what is left to look at.
use Rattle.std.proofs.Common.{ℕ, ◌≡◌, ◌<◌, ◌≤◌, ◌+◌, ◌*◌, Bool, true, false, List, [], ◌∷◌, ◌++◌, length, get_or, sym, ap, subst, arith}
use Rattle.std.specs.Prelude.{slice_set, All}
use Rattle.std.proofs.lemmas.List.{length-append, get_or_append_left}
use Rattle.std.proofs.lemmas.List.Elements.{All-push}
use Rattle.basic_solver.specs.Flags.{left_over}
use Rattle.basic_solver.proofs.Flagging.{fewer_left}

all_front : {T : Type 0} (P : T → Type 0) (xs : List T) (x : T) → All P (xs ++ x ∷ []) → All P xs
all_front P xs x h k d w = subst P (get_or_append_left xs (x ∷ []) d k w) (h k d (omega (arith, length-append xs (x ∷ []), w)))

pub all_pushed : {T : Type 0} (P : T → Type 0) (old new : List T) (x : T) → new ≡ old ++ x ∷ [] → P x → All P old → All P new
all_pushed {T} P old new x e p h = subst (λ (z : List T). All P z) (sym e) (All-push P old x h p)

pub all_popped : {T : Type 0} (P : T → Type 0) (old new : List T) (x : T) → old ≡ new ++ x ∷ [] → All P old → All P new
all_popped {T} P old new x e h = all_front P new x (subst (λ (z : List T). All P z) e h)

pub pushed_size : {T : Type 0} (old new : List T) (x : T) → new ≡ old ++ x ∷ [] → length new ≡ length old + 1
pushed_size old new x e = omega (arith, ap length e, length-append old (x ∷ []))

-- a class that is seen now outweighs a visit more and eight arguments
pub seen_less : (seen : List Bool) (name before after : ℕ) → name < length seen → get_or seen name false ≡ false → after ≤ before + 9
    → 10 * left_over (slice_set seen name true) + after ≤ 10 * left_over seen + before
seen_less seen name before after w unset le = omega (arith, fewer_left seen name w unset)
