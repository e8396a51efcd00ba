-- A root bound to another variable, and their rings joined.
use Rattle.std.proofs.Common.{◌≡◌, ◌≢◌, ℕ, ◌<◌, List, ◌∷◌, ◌++◌, length, set, get_or, sym, ◌∙◌, ap, subst, inl, inr, ◌⊎◌, None, length-set}
use Rattle.std.specs.Prelude.{Option}
use Rattle.index_lists.specs.Rings.{exchanged, IsRound}
use Rattle.term_graph.specs.declared.bound.Bound.{Bound}
use Rattle.term_graph.specs.declared.bound.Bound.TheVariants.{Variable}
use Rattle.term_graph.specs.declared.parts.Mention.{Mention}
use Rattle.term_graph.specs.Contents.{root, target_of, Leads}
use Rattle.term_graph.specs.Fields.{noted, used, uses_in}
use Rattle.term_graph.specs.Good.{AreRinged, IsClass}
use Rattle.term_graph.proofs.Adding.{uses_is}
use Rattle.term_graph.proofs.Forests.{root_of_root}
use Rattle.term_graph.proofs.Reading.{used_both}
use Rattle.term_graph.proofs.Ringing.{ringed_joined, round_join, round_beside, joined, kept, class_of, root_in}

module _ (b : List Bound) (heads owners next : List ℕ) (ms : List (Option Mention)) (g : AreRinged b heads owners next) (v to w : ℕ) (l : v < length b) (m : to < length b) (wl : w < length b)
    (o : target_of b v ≡ None) (wo : target_of b w ≡ None) (apart : w ≢ v) (x : Leads b to w) (own : get_or ms (get_or heads v 0) None ≡ None) where
  abbrev b' : List Bound
  b' = set b v (Variable to)

  abbrev next' : List ℕ
  next' = exchanged (get_or heads w 0) (get_or heads v 0) next

  ringed' : AreRinged b' heads owners next'
  ringed' = ringed_joined b heads owners next g v to w l m wl o wo apart x

  in' : (u : ℕ) → u < length b → u < length b'
  in' u ul = rw length-set ul

  abbrev A : IsClass b heads owners next w
  A = g.classes w wl wo

  abbrev B : IsClass b heads owners next v
  B = g.classes v l o

  uses-v : uses_in b heads ms next v ≡ used ms B.rest
  uses-v =
      let e : get_or heads v 0 ≡ get_or heads (root b v) 0 = ap (λ z. get_or heads z 0) (sym (root_of_root b v o)) in
      uses_is b heads owners next ms g v l B.rest (subst (λ z. IsRound next z B.rest) e B.round)

  uses-w : uses_in b heads ms next w ≡ used ms A.rest
  uses-w =
      let e : get_or heads w 0 ≡ get_or heads (root b w) 0 = ap (λ z. get_or heads z 0) (sym (root_of_root b w wo)) in
      uses_is b heads owners next ms g w wl A.rest (subst (λ z. IsRound next z A.rest) e A.round)

  used-joined : used ms (B.rest ++ get_or heads v 0 ∷ A.rest) ≡ used ms B.rest ++ used ms A.rest
  used-joined = used_both ms B.rest (get_or heads v 0 ∷ A.rest) ∙ ap (λ z. used ms B.rest ++ noted z (used ms A.rest)) own

  -- the uses of what had v or w as its root are those of v and then those of w
  uses-at : (u : ℕ) → u < length b → root b' u ≡ w → uses_in b' heads ms next' u ≡ uses_in b heads ms next v ++ uses_in b heads ms next w
  uses-at u ul e =
      let r = round_join b heads owners next g v to w l m wl o wo apart x in
      uses_is b' heads owners next' ms ringed' u (in' u ul) (B.rest ++ get_or heads v 0 ∷ A.rest) (subst (λ z. IsRound next' (get_or heads z 0) (B.rest ++ get_or heads v 0 ∷ A.rest)) (sym e) r)
      ∙ used-joined ∙ ap (λ z. z ++ used ms A.rest) (sym uses-v) ∙ ap (λ z. uses_in b heads ms next v ++ z) (sym uses-w)

  pub uses-joined : (u : ℕ) → u < length b → root b u ≡ v ⊎ root b u ≡ w → uses_in b' heads ms next' u ≡ uses_in b heads ms next v ++ uses_in b heads ms next w
  uses-joined u ul (inl e) = uses-at u ul (joined b heads owners next g v to w l m wl o wo apart x u e)
  uses-joined u ul (inr e) = uses-at u ul (kept b heads owners next g v to w l m wl o wo apart x u (λ i. apart (sym e ∙ i)) ∙ e)

  pub uses-others : (u : ℕ) → u < length b → root b u ≢ v → root b u ≢ w → uses_in b' heads ms next' u ≡ uses_in b heads ms next u
  uses-others u ul n k =
      let c = class_of b heads owners next g u ul in
      let r = round_beside b heads owners next g v to w l m wl o wo apart x (root b u) (root_in b heads owners next g u ul) n k c in
      let e : root b' u ≡ root b u = kept b heads owners next g v to w l m wl o wo apart x u n in
      uses_is b' heads owners next' ms ringed' u (in' u ul) c.rest (subst (λ z. IsRound next' (get_or heads z 0) c.rest) (sym e) r)
      ∙ sym (uses_is b heads owners next ms g u ul c.rest c.round)
