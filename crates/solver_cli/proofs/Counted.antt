-- Verdicts that are counted one after the other.
use Rattle.std.proofs.Common.{◌≡◌, ◌↔◌, ℕ, zero, suc, ◌+◌, ◌≤◌, ◌<◌, List, [], ◌∷◌, ◌++◌, length, take, get_or, slice_get, Some, refl, sym, ◌∙◌, ap, subst, arith}
use Rattle.std.specs.List.{AllZip, count_by}
use Rattle.std.proofs.lemmas.List.{take_more, take_all}
use Rattle.std.proofs.lemmas.List.Sums.{count_by-le-length}
use Rattle.std.proofs.lemmas.Option.{slice_get_within, get_or_from_slice_get}
use Rattle.formula_ast.specs.declared.statement.Statement.{Statement}
use Rattle.formula_ast.specs.Valid.{IsValid, IsUnsatisfiable}
use Rattle.decision.specs.declared.answer.Answer.{Answer}
use Rattle.decision.specs.declared.answer.Answer.TheVariants.{«True», «False»}
use Rattle.solver_cli.specs.Language.{File}
use Rattle.solver_cli.specs.declared.counting.Counts.{Counts}
use Rattle.solver_cli.specs.declared.counting.Verdict.{Verdict}
use Rattle.solver_cli.specs.declared.counting.Verdict.TheVariants.{Valid, Unsatisfiable, Neither}
use Rattle.solver_cli.specs.Counts.{IsRightVerdict, is_valid, is_unsatisfiable, is_neither, AreCounts, Count}

zip_more : {A B : Type 0} (R : A → B → Type 0) (xs : List A) (ys : List B) (x : A) (y : B) → AllZip R xs ys → R x y → AllZip R (xs ++ x ∷ []) (ys ++ y ∷ [])
zip_more R [] [] x y h r = (r, tt)
zip_more R [] (z ∷ ys) x y h r = absurd h
zip_more R (z ∷ xs) [] x y h r = absurd h
zip_more R (w ∷ xs) (z ∷ ys) x y h r = (h.0, zip_more R xs ys x y h.1 r)

zip_length : {A B : Type 0} (R : A → B → Type 0) (xs : List A) (ys : List B) → AllZip R xs ys → length xs ≡ length ys
zip_length R [] [] h = refl
zip_length R [] (z ∷ ys) h = absurd h
zip_length R (z ∷ xs) [] h = absurd h
zip_length R (w ∷ xs) (z ∷ ys) h = ap suc (zip_length R xs ys h.1)

take_length : {A : Type 0} (n : ℕ) (xs : List A) → length (take n xs) ≤ n
take_length zero xs = omega arith
take_length (suc n) [] = omega arith
take_length (suc n) (x ∷ xs) = let h = take_length n xs in omega (arith, h)

pub begun : (file : File) (counts : Counts) → counts.valid ≡ 0 → counts.unsatisfiable ≡ 0 → counts.neither ≡ 0 → Count file (take 0 file.solves) counts
begun file counts a b c = ([], tt, record { valid = a; unsatisfiable = b; neither = c })

-- no number is above that of the statements
pub few : (file : File) (place : ℕ) (counts : Counts) → Count file (take place file.solves) counts → (counts.valid ≤ place) × (counts.unsatisfiable ≤ place) × (counts.neither ≤ place)
few file place counts (vs, right, are) =
    let all : length vs ≤ place = omega (arith, take_length place file.solves, zip_length (IsRightVerdict file) (take place file.solves) vs right) in (
      omega (arith, all, are.valid, count_by-le-length is_valid vs),
      omega (arith, all, are.unsatisfiable, count_by-le-length is_unsatisfiable vs),
      omega (arith, all, are.neither, count_by-le-length is_neither vs),
    )

pub stepped : (file : File) (place : ℕ) (old new : Counts) (s : Statement) (v : Verdict) → slice_get file.solves place ≡ Some s → IsRightVerdict file s v → Count file (take place file.solves) old
    → ((vs : List Verdict) → AreCounts old vs → AreCounts new (vs ++ v ∷ [])) → Count file (take (place + 1) file.solves) new
stepped file place old new s v at is (vs, right, are) more =
    let front : take place file.solves ++ s ∷ [] ≡ take (place + 1) file.solves =
    ap (λ (x : Statement). take place file.solves ++ x ∷ []) (sym (get_or_from_slice_get file.solves place s s at)) ∙ sym (take_more file.solves place s (slice_get_within file.solves place s at)) in (
      vs ++ v ∷ [],
      subst (λ (l : List Statement). AllZip (IsRightVerdict file) l (vs ++ v ∷ [])) front (zip_more (IsRightVerdict file) (take place file.solves) vs s v right is),
      more vs are,
    )

pub ended : (file : File) (place : ℕ) (counts : Counts) → length file.solves ≤ place → Count file (take place file.solves) counts → Count file file.solves counts
ended file place counts last count = subst (λ (l : List Statement). Count file l counts) (take_all place file.solves last) count

-- the verdict of an answer that is right
pub right_verdict : (file : File) (s : Statement) (answer : Answer) (v : Verdict) → (v ≡ Valid) ↔ (answer ≡ «True») → (v ≡ Unsatisfiable) ↔ (answer ≡ «False»)
    → (answer ≡ «True») ↔ IsValid file s → (answer ≡ «False») ↔ IsUnsatisfiable file s → IsRightVerdict file s v
right_verdict file s answer Valid valid unsat always never = always.0 (valid.0 refl)
right_verdict file s answer Unsatisfiable valid unsat always never = never.0 (unsat.0 refl)
right_verdict file s answer Neither valid unsat always never =
    (λ is. let e : Neither ≡ Valid = valid.1 (always.1 is) in cc, λ is. let e : Neither ≡ Unsatisfiable = unsat.1 (never.1 is) in cc)
