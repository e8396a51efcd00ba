-- New numbers keep the shape of a part.
use Rattle.std.specs.Prelude.{Contains, ◌↔◌}
use Rattle.std.proofs.Common.{ℕ, ◌≡◌, ◌<◌, List, [], ◌∷◌, map, refl, sym, ap, ◌∙◌, subst, arith, inl, inr}
use Rattle.std.proofs.lemmas.List.{length-map}
use Rattle.tree_model.specs.declared.tree.Symbol.{Symbol}
use Rattle.tree_facts.proofs.Members.{contains_first, contains_later}
use Rattle.tree_facts.proofs.Renumbering.{index-map}
use Rattle.flat_form.specs.declared.atom.Flat.{Flat}
use Rattle.flat_form.specs.declared.atom.Flat.TheVariants.{VarVar, VarTerm, Finite}
use Rattle.flat_form.specs.Solved.{variable_of, IsOpen}
use Rattle.flat_form.specs.Parts.{renumbered, Under, top, below, IsPartOver}
use Rattle.flat_facts.proofs.Renumbered.{split}
use Rattle.cube_facts.proofs.Variables.{own_variable, variable_renumbered}
use Rattle.cube_facts.specs.Renumbered.{StandsIn, MovesNumber, ShapeRenumbered}

abbrev right : Flat → ℕ
right (VarVar u h) = h
right (VarTerm u s xs) = u
right (Finite u) = u

module _ (m k : ℕ) (f g : ℕ → ℕ) (base part new_base new_part : List Flat)
    (base_back : (v : ℕ) → StandsIn base v → g (f v) ≡ v) (moves : (v : ℕ) → StandsIn part v → MovesNumber m k f g v)
    (base_from : (a : Flat) → Contains new_base a → (b : Flat) × Contains base b × (a ≡ renumbered f b))
    (part_is : (a : Flat) → Contains new_part a ↔ ((b : Flat) × Contains part b × (a ≡ renumbered f b)))
    (shape : IsPartOver m base part) where
  one : (v w : ℕ) → g (f v) ≡ v → g (f w) ≡ w → f v ≡ f w → v ≡ w
  one v w a b e = sym a ∙ (ap g e ∙ b)

  mine : (a : Flat) → Contains part a → MovesNumber m k f g (variable_of a)
  mine a i = moves (variable_of a) (a, i, own_variable a)

  base_own : (a : Flat) → Contains base a → g (f (variable_of a)) ≡ variable_of a
  base_own a i = base_back (variable_of a) (a, i, own_variable a)

  was_low : (a : Flat) → Contains part a → f (variable_of a) < k → variable_of a < m
  was_low a i w = elim (split (variable_of a) m) [ inl x ↦ x | inr le ↦ absurd (omega (arith, (mine a i).high le, w)) ]

  equal_open : (v r : ℕ) → g (f v) ≡ v → IsOpen base v → (b : Flat) → Contains base b → VarVar (f v) r ≡ renumbered f b → ⊥
  equal_open v r known bare (VarVar u h) j e =
      bare.no_variable h (subst (λ (z : ℕ). Contains base (VarVar z h)) (sym (one v u known (base_own (VarVar u h) j) (ap variable_of e))) j)
  equal_open v r known bare (VarTerm u s xs) j e = cc
  equal_open v r known bare (Finite u) j e = cc

  term_open : (v : ℕ) (s : Symbol) (xs : List ℕ) → g (f v) ≡ v → IsOpen base v → (b : Flat) → Contains base b → VarTerm (f v) s xs ≡ renumbered f b → ⊥
  term_open v s xs known bare (VarVar u h) j e = cc
  term_open v s xs known bare (VarTerm u t ys) j e =
      bare.no_term t ys (subst (λ (z : ℕ). Contains base (VarTerm z t ys)) (sym (one v u known (base_own (VarTerm u t ys) j) (ap variable_of e))) j)
  term_open v s xs known bare (Finite u) j e = cc

  stays_open : (v : ℕ) → g (f v) ≡ v → IsOpen base v → IsOpen new_base (f v)
  stays_open v known bare = record {
    no_variable = λ r i. let (b, j, e) = base_from (VarVar (f v) r) i in equal_open v r known bare b j e;
    no_term = λ s xs i. let (b, j, e) = base_from (VarTerm (f v) s xs) i in term_open v s xs known bare b j e;
  }

  under_new : {v : ℕ} → Under m part v → (v < m → f v < k) → Under k new_part (f v)
  under_new (top w) there = top (there w)
  under_new (below {u} s xs up i j w) there =
      subst (λ (z : ℕ). Under k new_part z) (index-map f xs j w)
      (below s (map f xs) (under_new up (mine (VarTerm u s xs) i).low) ((part_is (VarTerm (f u) s (map f xs))).1 (VarTerm u s xs, i, refl)) j (rw (length-map xs f) w))

  beside : (u h r : ℕ) → g (f u) ≡ u → g (f h) ≡ h → (b : Flat) → Contains base b → VarVar (f h) r ≡ renumbered f b
      → ((q : ℕ) → Contains base (VarVar h q) → ¬ (u ≡ q)) → ¬ (f u ≡ r)
  beside u h r ku kh (VarVar w q) j e aside = λ same.
      let first : h ≡ w = one h w kh (base_own (VarVar w q) j) (ap variable_of e) in
      let known : g (f q) ≡ q = base_back q (VarVar w q, j, contains_later w q (q ∷ []) (contains_first q [])) in
      aside q (subst (λ (z : ℕ). Contains base (VarVar z q)) (sym first) j) (one u q ku known (same ∙ ap right e))
  beside u h r ku kh (VarTerm w s xs) j e aside = λ same. cc
  beside u h r ku kh (Finite w) j e aside = λ same. cc

  equal_new : (u h : ℕ) (b : Flat) → Contains part b → VarVar u h ≡ renumbered f b
      → (u < k) × (h < k) × (¬ (u ≡ h)) × ((r : ℕ) → Contains new_base (VarVar h r) → ¬ (u ≡ r))
  equal_new u h (VarVar x y) j e =
      let (low_x, low_y, differ, aside) = shape.equal x y j in
      let eu : u ≡ f x = ap variable_of e in
      let eh : h ≡ f y = ap right e in
      let at_x = moves x (VarVar x y, j, contains_first x (y ∷ [])) in
      let at_y = moves y (VarVar x y, j, contains_later x y (y ∷ []) (contains_first y [])) in (
        omega (arith, eu, at_x.low low_x),
        omega (arith, eh, at_y.low low_y),
        (λ q. differ (one x y at_x.back at_y.back (sym eu ∙ (q ∙ eh)))),
        λ r i q. let (c, l, d) = base_from (VarVar h r) i in
            beside x y r at_x.back at_y.back c l (subst (λ (z : ℕ). VarVar z r ≡ renumbered f c) eh d) aside (sym eu ∙ q),
      )
  equal_new u h (VarTerm x s xs) j e = absurd (cc)
  equal_new u h (Finite x) j e = absurd (cc)

  marks : (u : ℕ) (b c : Flat) → Contains part b → Contains base c → Finite u ≡ renumbered f b → Finite u ≡ renumbered f c → ⊥
  marks u (Finite x) (Finite y) j l e q =
      shape.unmarked x j (subst (λ (z : ℕ). Contains base (Finite z))
      (one y x (base_own (Finite y) l) (mine (Finite x) j).back (sym (ap variable_of q) ∙ ap variable_of e)) l)
  marks u (Finite x) (VarVar y h) j l e q = cc
  marks u (Finite x) (VarTerm y s xs) j l e q = cc
  marks u (VarVar x h) c j l e q = cc
  marks u (VarTerm x s xs) c j l e q = cc

  shape_new : IsPartOver k new_base new_part
  shape_new = record {
    left_open = λ a i w.
        let (b, j, e) = (part_is a).0 i in
        let q : variable_of a ≡ f (variable_of b) = ap variable_of e ∙ variable_renumbered f b in
        subst (λ (z : ℕ). IsOpen new_base z) (sym q)
        (stays_open (variable_of b) (mine b j).back (shape.left_open b j (was_low b j (omega (arith, q, w)))));
    equal = λ u h i. let (b, j, e) = (part_is (VarVar u h)).0 i in equal_new u h b j e;
    unmarked = λ u i k2. let (b, j, e) = (part_is (Finite u)).0 i in let (c, l, q) = base_from (Finite u) k2 in marks u b c j l e q;
    under = λ a i.
        let (b, j, e) = (part_is a).0 i in
        subst (λ (z : ℕ). Under k new_part z) (sym (ap variable_of e ∙ variable_renumbered f b)) (under_new (shape.under b j) (mine b j).low);
  }

pub shape_renumbered : ShapeRenumbered
shape_renumbered m k f g base part new_base new_part base_back moves base_from part_is shape =
    shape_new m k f g base part new_base new_part base_back moves base_from part_is shape
