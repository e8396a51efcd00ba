-- The cells of mentions.
use Rattle.std.proofs.Common.{ℕ, ◌≡◌, ◌<◌, ◌+◌, List, [], ◌∷◌, ◌++◌, length, get_or, refl, sym, ◌∙◌, ap, inl, inr, Some, None, arith}
use Rattle.std.specs.Prelude.{Option}
use Rattle.std.proofs.lemmas.Bool.{cases_eq, cases_lt}
use Rattle.std.proofs.lemmas.List.{get_or_append_left, get_or_push, get_or_past, length_push}
use Rattle.term_graph.specs.declared.term.Term.{Term as Made}
use Rattle.term_graph.specs.declared.parts.Mention.{Mention}
use Rattle.term_graph.specs.Good.{AreMentioned}

-- a place where something is mentioned is one of the list
pub mention_in : (ms : List (Option Mention)) (c : ℕ) (m : Mention) → get_or ms c None ≡ Some m → c < length ms
mention_in ms c m e = elim (cases_lt c (length ms)) [ inl l ↦ l | inr g ↦ (let p : get_or ms c None ≡ None = get_or_past ms c None (omega arith) in absurd (cc)) ]

-- a variable more
module _ (heads owners : List ℕ) (terms : List Made) (ms : List (Option Mention)) (g : AreMentioned heads owners terms ms) (h o : ℕ) (he : h ≡ length ms)
    (oe : o ≡ length heads) (inside : (v : ℕ) → v < length heads → get_or heads v 0 < length ms) (owned : (c : ℕ) → c < length owners → get_or owners c 0 < length heads) where
  old_mention : (c : ℕ) → c < length ms → get_or (ms ++ None ∷ []) c None ≡ get_or ms c None
  old_mention c l = get_or_append_left ms (None ∷ []) None c l

  own_more : (v : ℕ) → v < length heads + 1 → get_or (ms ++ None ∷ []) (get_or (heads ++ h ∷ []) v 0) None ≡ None
  own_more v l = elim (cases_eq v (length heads)) [
    | inl i ↦ (let e : get_or (heads ++ h ∷ []) v 0 ≡ h = get_or_push heads h 0 v (sym i) in rw e (get_or_push ms None None h (sym he)))
    | inr n ↦ (let s : v < length heads = omega (arith, n) in let e : get_or (heads ++ h ∷ []) v 0 ≡ get_or heads v 0 = get_or_append_left heads (h ∷ []) 0 v s in rw e (old_mention (get_or heads v 0) (inside v s) ∙ g.own v s))
  ]

  back_more : (c : ℕ) (m : Mention) → get_or (ms ++ None ∷ []) c None ≡ Some m → (c < length ms) × (get_or ms c None ≡ Some m)
  back_more c m e =
      let l = mention_in (ms ++ None ∷ []) c m e in
      elim (cases_eq c (length ms)) [
        | inl i ↦ (let f : get_or (ms ++ None ∷ []) c None ≡ None = get_or_push ms None None c (sym i) in absurd (cc))
        | inr n ↦ (let k : length (ms ++ None ∷ []) ≡ length ms + 1 = length_push ms None in let s : c < length ms = omega (arith, n, l) in (s, sym (old_mention c s) ∙ e))
      ]

  owner_more : (c : ℕ) → c < length owners → get_or (owners ++ o ∷ []) c 0 ≡ get_or owners c 0
  owner_more c l = get_or_append_left owners (o ∷ []) 0 c l

  bare_more : (c : ℕ) → c < length owners + 1 → get_or (ms ++ None ∷ []) c None ≡ None → get_or (heads ++ h ∷ []) (get_or (owners ++ o ∷ []) c 0) 0 ≡ c
  bare_more c l e = elim (cases_eq c (length owners)) [
    | inl i ↦ ap (λ z. get_or (heads ++ h ∷ []) z 0) (get_or_push owners o 0 c (sym i) ∙ oe) ∙ get_or_push heads h 0 (length heads) refl ∙ he ∙ g.cells ∙ sym i
    | inr n ↦ (
        let s : c < length owners = omega (arith, n) in
        ap (λ z. get_or (heads ++ h ∷ []) z 0) (owner_more c s) ∙ get_or_append_left heads (h ∷ []) 0 (get_or owners c 0) (owned c s)
        ∙ g.bare c s (sym (old_mention c (rw g.cells s)) ∙ e))
  ]

  pub mentioned_added : AreMentioned (heads ++ h ∷ []) (owners ++ o ∷ []) terms (ms ++ None ∷ [])
  mentioned_added = record {
    cells = (let k : length (ms ++ None ∷ []) ≡ length ms + 1 = length_push ms None in omega (arith, length_push owners o, g.cells));
    own = λ v l. own_more v (rw length_push at l);
    bare = λ c l e. bare_more c (rw length_push at l) e;
    right = λ c m e. (let k = back_more c m e in let r = g.right c m k.1 in (r.0, r.1, r.2 ∙ sym (owner_more c (rw (← g.cells) k.0))));
    all = λ t i l k. (let w = g.all t i l k in let wl = w.1 in (w.0, omega (arith, length_push owners o), old_mention w.0 (rw g.cells wl) ∙ w.2));
    once = λ c d m e f. g.once c d m (back_more c m e).1 (back_more d m f).1;
  }
