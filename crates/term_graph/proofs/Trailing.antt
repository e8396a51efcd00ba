-- What a change more does to the trail, and what going back does.
use Rattle.std.proofs.Common.{◌≡◌, ℕ, zero, suc, ◌<◌, ◌≤◌, ◌+◌, List, [], ◌∷◌, ◌++◌, length, take, get_or, refl, sym, ◌∙◌, ap, subst, inl, inr, arith}
use Rattle.std.specs.Prelude.{reverse}
use Rattle.std.proofs.lemmas.Bool.{cases_eq}
use Rattle.std.proofs.lemmas.List.{reverse-append, reverse-reverse, length-reverse, get_or_push, get_or_append_left, take_all, take-append-le, length_push}
use Rattle.term_graph.specs.Contents.{Contents, Step, Moment, History, grown, contents_at, back_to, IsGrown}
use Rattle.term_graph.specs.Fields.{Fields, seen, undone, step_of, moments, history}
use Rattle.term_graph.specs.Good.{Fits, IsGood, AreGood}
use Rattle.term_graph.specs.Told.{Tells, past_of}
use Rattle.term_graph.specs.declared.past.Past.{Past}
use Rattle.term_graph.specs.declared.change.Change.{Change}

pub length-moments : (cs : List Change) (f : Fields) → length (moments cs f) ≡ length cs
length-moments [] f = refl
length-moments (c ∷ cs) f =
    let a = length_push (moments cs (undone c f)) (record { step = step_of c; before = seen (undone c f) }) in
    let b = length-moments cs (undone c f) in
    omega arith

contents_at-push : (xs : List Moment) (step : Step) (c d : Contents) (m : ℕ) → m ≤ length xs
    → contents_at (xs ++ record { step = step; before = c } ∷ []) d m ≡ contents_at xs c m
contents_at-push [] step c d zero h = refl
contents_at-push [] step c d (suc m) h = absurd (omega arith)
contents_at-push (x ∷ xs) step c d zero h = refl
contents_at-push (x ∷ xs) step c d (suc m) h = contents_at-push xs step c d m (omega arith)

pub back_to-grown : (m : ℕ) (step : Step) (c : Contents) (h : History) → m ≤ length h.trail → back_to m (grown step c h) ≡ back_to m h
back_to-grown m step c h l =
    let e : contents_at (h.trail ++ record { step = step; before = h.contents } ∷ []) c m ≡ contents_at h.trail h.contents m = contents_at-push h.trail step h.contents c m l in
    let t : take m (h.trail ++ record { step = step; before = h.contents } ∷ []) ≡ take m h.trail = take-append-le m h.trail (record { step = step; before = h.contents } ∷ []) l in
    cc

contents_at-end : (xs : List Moment) (c : Contents) → contents_at xs c (length xs) ≡ c
contents_at-end [] c = refl
contents_at-end (x ∷ xs) c = contents_at-end xs c

pub back_to-now : (m : ℕ) (h : History) → m ≡ length h.trail → back_to m h ≡ h
back_to-now m h e =
    let a : contents_at h.trail h.contents m ≡ h.contents = rw e (contents_at-end h.trail h.contents) in
    let t : take m h.trail ≡ h.trail = take_all m h.trail (omega arith) in
    rw (a, t) refl

-- one call taken back
pub within_before : (m : ℕ) (earlier later : History) → IsGrown earlier later → m < length later.trail → m ≤ length earlier.trail
within_before m earlier later g l =
    let e = ap (λ (h : History). length h.trail) g.2 in
    let p = length_push earlier.trail (record { step = g.0; before = earlier.contents }) in
    omega arith

pub back_before : (m : ℕ) (earlier later first : History) → IsGrown earlier later → m < length later.trail → back_to m later ≡ first → back_to m earlier ≡ first
back_before m earlier later first g l b =
    sym (back_to-grown m g.0 g.1 earlier (within_before m earlier later g l)) ∙ sym (ap (back_to m) g.2) ∙ b

pub history-grown : (cs : List Change) (c : Change) (f g : Fields) → undone c g ≡ f → history (c ∷ cs) g ≡ grown (step_of c) (seen g) (history cs f)
history-grown cs c f g e = rw e refl

pub AreGood-now : (cs : List Change) (f : Fields) → AreGood cs f → IsGood f
AreGood-now [] f h = h
AreGood-now (c ∷ cs) f h = h.0

pub AreGood-grown : (cs : List Change) (c : Change) (f g : Fields) → undone c g ≡ f → IsGood g → Fits c g → Tells (past_of c) (seen f) (seen g) → AreGood cs f → AreGood (c ∷ cs) g
AreGood-grown cs c f g e a b t h = (a, b, subst (λ z. Tells (past_of c) (seen z) (seen g)) (sym e) t, rw e h)

-- a change pushed to a trail whose last change stands last
pub AreGood-pushed : (cs ds : List Change) (c : Change) (f g : Fields) → ds ≡ cs ++ c ∷ [] → undone c g ≡ f → IsGood g → Fits c g → Tells (past_of c) (seen f) (seen g)
    → AreGood (reverse cs) f → AreGood (reverse ds) g
AreGood-pushed cs ds c f g p e a b t h =
    let r : reverse ds ≡ c ∷ reverse cs = rw p (reverse-append cs (c ∷ [])) in
    rw r (AreGood-grown (reverse cs) c f g e a b t h)

pub history-pushed : (cs ds : List Change) (c : Change) (f g : Fields) → ds ≡ cs ++ c ∷ [] → undone c g ≡ f
    → history (reverse ds) g ≡ grown (step_of c) (seen g) (history (reverse cs) f)
history-pushed cs ds c f g p e =
    let r : reverse ds ≡ c ∷ reverse cs = rw p (reverse-append cs (c ∷ [])) in
    rw r (history-grown (reverse cs) c f g e)

-- what a moment tells
reverse_push : (c : Change) (cs : List Change) → reverse (c ∷ cs) ≡ reverse cs ++ c ∷ []
reverse_push c cs = reverse-append (c ∷ []) cs

told_back : (cs : List Change) (f : Fields) (i : ℕ) (x : Change) → AreGood cs f → i < length cs → x ≡ get_or (reverse cs) i x
    → Tells (past_of x) (contents_at (moments cs f) (seen f) i) (contents_at (moments cs f) (seen f) (suc i))
told_back [] f i x h l e = absurd (omega arith)
told_back (c ∷ cs) f i x h l e =
    let g = undone c f in
    let n = length-moments cs (undone c f) in
    let r = length-reverse cs in
    let xe : x ≡ get_or (reverse cs ++ c ∷ []) i x = e ∙ ap (λ z. get_or z i x) (reverse_push c cs) in
    elim (cases_eq i (length cs)) [
      | inl k ↦ (
          let xc : x ≡ c = xe ∙ get_or_push (reverse cs) c x i (omega arith) in
          let a : contents_at (moments (c ∷ cs) f) (seen f) i ≡ seen (undone c f) =
          contents_at-push (moments cs (undone c f)) (step_of c) (seen (undone c f)) (seen f) i (omega arith) ∙ ap (contents_at (moments cs (undone c f)) (seen (undone c f))) (k ∙ sym n) ∙ contents_at-end (moments cs (undone c f)) (seen (undone c f)) in
          let m : suc i ≡ length (moments (c ∷ cs) f) = omega (arith, length-moments (c ∷ cs) f) in
          let b : contents_at (moments (c ∷ cs) f) (seen f) (suc i) ≡ seen f = ap (contents_at (moments (c ∷ cs) f) (seen f)) m ∙ contents_at-end (moments (c ∷ cs) f) (seen f) in
          rw (xc, a, b) h.2)
      | inr k ↦ (
          let s : i < length cs = omega (arith, k) in
          let xc : x ≡ get_or (reverse cs) i x = xe ∙ get_or_append_left (reverse cs) (c ∷ []) x i (omega arith) in
          let a : contents_at (moments (c ∷ cs) f) (seen f) i ≡ contents_at (moments cs (undone c f)) (seen (undone c f)) i =
          contents_at-push (moments cs (undone c f)) (step_of c) (seen (undone c f)) (seen f) i (omega arith) in
          let b : contents_at (moments (c ∷ cs) f) (seen f) (suc i) ≡ contents_at (moments cs (undone c f)) (seen (undone c f)) (suc i) =
          contents_at-push (moments cs (undone c f)) (step_of c) (seen (undone c f)) (seen f) (suc i) (omega arith) in
          rw (a, b) (told_back cs (undone c f) i x h.3 s xc))
    ]

pub told_at : (xs : List Change) (f : Fields) (h : History) (i : ℕ) (x : Change) (p : Past) → AreGood (reverse xs) f → history (reverse xs) f ≡ h → i < length xs → x ≡ get_or xs i x → p ≡ past_of x
    → Tells p (contents_at h.trail h.contents i) (contents_at h.trail h.contents (i + 1))
told_at xs f h i x p a e l xe pe =
    let n = length-reverse xs in
    let q : i + 1 ≡ suc i = omega arith in
    let y : x ≡ get_or (reverse (reverse xs)) i x = xe ∙ ap (λ z. get_or z i x) (sym (reverse-reverse xs)) in
    let t = told_back (reverse xs) f i x a (omega arith) y in
    rw (pe, q) (subst (λ (z : History). Tells (past_of x) (contents_at z.trail z.contents i) (contents_at z.trail z.contents (suc i))) e t)

pub moment_in : (xs : List Change) (f : Fields) (h : History) (i : ℕ) → history (reverse xs) f ≡ h → i < length h.trail → i < length xs
moment_in xs f h i e l =
    let a = length-moments (reverse xs) f in
    let b = length-reverse xs in
    let k = ap (λ (z : History). length z.trail) e in
    omega arith
