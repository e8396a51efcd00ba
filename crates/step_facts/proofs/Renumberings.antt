-- What new numbers keep of a conjunction: bounds on its variables, and that it is solved.
use Rattle.std.specs.Prelude.{Contains, slice_index}
use Rattle.std.proofs.Common.{ℕ, ◌≡◌, ◌<◌, List, [], ◌∷◌, map, length, refl, sym, ap, ◌∙◌, subst, arith}
use Rattle.std.proofs.lemmas.List.{length-map}
use Rattle.std.proofs.lemmas.List.Elements.{All-contains}
use Rattle.tree_model.specs.declared.tree.Symbol.{Symbol}
use Rattle.tree_facts.proofs.Members.{contains_first, contains_later}
use Rattle.tree_facts.proofs.Renumbering.{index-map, contains_image}
use Rattle.flat_form.specs.declared.atom.Flat.{Flat}
use Rattle.flat_form.specs.declared.atom.Flat.TheVariants.{VarVar, VarTerm, Finite}
use Rattle.flat_form.specs.Numbering.{AtomOver, BasicOver}
use Rattle.flat_form.specs.Orders.{IsRenumbering}
use Rattle.flat_form.specs.Parts.{variables_of, renumbered}
use Rattle.flat_form.specs.Solved.{IsSolved}
use Rattle.flat_form.proofs.Symbols.{each_of}
use Rattle.flat_facts.specs.PartLaws.{IsLoose}

-- an atom under new numbers is over as many variables as they are below
pub atom_over : (f : ℕ → ℕ) (n k : ℕ) (a : Flat) → AtomOver n a → ((v : ℕ) → Contains (variables_of a) v → f v < k) → AtomOver k (renumbered f a)
atom_over f n k (VarVar u h) over low = (low u (contains_first u (h ∷ [])), low h (contains_later u h (h ∷ []) (contains_first h [])))
atom_over f n k (VarTerm u s xs) over low = (
  low u (contains_first u xs),
  each_of (λ v. v < k) (map f xs) (λ v i.
      let (w, stands, same) = contains_image f xs v i in subst (λ (z : ℕ). z < k) same (low w (contains_later u w xs stands))),
  rw (length-map xs f) over.2,
)
atom_over f n k (Finite u) over low = low u (contains_first u [])

pub map_over : (f : ℕ → ℕ) (n k : ℕ) (atoms : List Flat) → BasicOver n atoms
    → ((a : Flat) → Contains atoms a → (v : ℕ) → Contains (variables_of a) v → f v < k) → BasicOver k (map (renumbered f) atoms)
map_over f n k atoms over low = each_of (AtomOver k) (map (renumbered f) atoms) (λ b i.
    let (a, stands, same) = contains_image (renumbered f) atoms b i in
    subst (λ (z : Flat). AtomOver k z) same (atom_over f n k a (All-contains (AtomOver n) atoms a over stands) (low a stands)))

-- numbers that are taken back one by one are so as a list
pub list_back : (f g : ℕ → ℕ) (xs : List ℕ) → ((v : ℕ) → Contains xs v → g (f v) ≡ v) → map g (map f xs) ≡ xs
list_back f g [] back = refl
list_back f g (x ∷ xs) back =
    let rest = list_back f g xs (λ v i. back v (contains_later x v xs i)) in
    ap (λ (z : ℕ). z ∷ map g (map f xs)) (back x (contains_first x xs)) ∙ ap (λ (zs : List ℕ). x ∷ zs) rest

-- what an equation under new numbers was
pub record WasEqual (f : ℕ → ℕ) (P : Flat → Type 0) (old : List Flat) (u h : ℕ) : Type 0 where
  pub left : ℕ
  pub right : ℕ
  pub stands : Contains old (VarVar left right)
  pub taken : P (VarVar left right)
  pub left_is : u ≡ f left
  pub right_is : h ≡ f right

pub record WasTerm (f : ℕ → ℕ) (P : Flat → Type 0) (old : List Flat) (u : ℕ) (symbol : Symbol) (xs : List ℕ) : Type 0 where
  pub left : ℕ
  pub arguments : List ℕ
  pub stands : Contains old (VarTerm left symbol arguments)
  pub taken : P (VarTerm left symbol arguments)
  pub left_is : u ≡ f left
  pub all_are : xs ≡ map f arguments

pub record WasFinite (f : ℕ → ℕ) (P : Flat → Type 0) (old : List Flat) (u : ℕ) : Type 0 where
  pub left : ℕ
  pub stands : Contains old (Finite left)
  pub taken : P (Finite left)
  pub left_is : u ≡ f left

module _ (f : ℕ → ℕ) (P : Flat → Type 0) (old new : List Flat) (renumbering : IsRenumbering f P old new) where
  equal_of : (u h : ℕ) (b : Flat) → Contains old b → P b → VarVar u h ≡ renumbered f b → WasEqual f P old u h
  equal_of u h (VarVar x y) stands taken e = record { left = x; right = y; stands = stands; taken = taken; left_is = cc; right_is = cc }
  equal_of u h (VarTerm x s xs) stands taken e = absurd (cc)
  equal_of u h (Finite x) stands taken e = absurd (cc)

  pub was_equal : (u h : ℕ) → Contains new (VarVar u h) → WasEqual f P old u h
  was_equal u h i = let (b, stands, taken, e) = (renumbering.is (VarVar u h)).0 i in equal_of u h b stands taken e

  term_of : (u : ℕ) (s : Symbol) (xs : List ℕ) (b : Flat) → Contains old b → P b → VarTerm u s xs ≡ renumbered f b → WasTerm f P old u s xs
  term_of u s xs (VarVar x y) stands taken e = absurd (cc)
  term_of u s xs (VarTerm x t ys) stands taken e =
      let same : t ≡ s = cc in
      record {
        left = x;
        arguments = ys;
        stands = subst (λ (z : Symbol). Contains old (VarTerm x z ys)) same stands;
        taken = subst (λ (z : Symbol). P (VarTerm x z ys)) same taken;
        left_is = cc;
        all_are = cc;
      }
  term_of u s xs (Finite x) stands taken e = absurd (cc)

  pub was_term : (u : ℕ) (s : Symbol) (xs : List ℕ) → Contains new (VarTerm u s xs) → WasTerm f P old u s xs
  was_term u s xs i = let (b, stands, taken, e) = (renumbering.is (VarTerm u s xs)).0 i in term_of u s xs b stands taken e

  finite_of : (u : ℕ) (b : Flat) → Contains old b → P b → Finite u ≡ renumbered f b → WasFinite f P old u
  finite_of u (VarVar x y) stands taken e = absurd (cc)
  finite_of u (VarTerm x t ys) stands taken e = absurd (cc)
  finite_of u (Finite x) stands taken e = record { left = x; stands = stands; taken = taken; left_is = cc }

  pub was_finite : (u : ℕ) → Contains new (Finite u) → WasFinite f P old u
  was_finite u i = let (b, stands, taken, e) = (renumbering.is (Finite u)).0 i in finite_of u b stands taken e

  pub renumbering_over : (n k : ℕ) → BasicOver n old → ((a : Flat) → Contains old a → P a → (v : ℕ) → Contains (variables_of a) v → f v < k) → BasicOver k new
  renumbering_over n k over low = each_of (AtomOver k) new (λ a i.
      let (b, stands, taken, e) = (renumbering.is a).0 i in
      subst (λ (z : Flat). AtomOver k z) (sym e) (atom_over f n k b (All-contains (AtomOver n) old b over stands) (low b stands taken)))

  -- numbers that can be taken back are one to one, so the shape stays
  module _ (g : ℕ → ℕ) (back : (v : ℕ) → g (f v) ≡ v) (solved : IsSolved old) where
    pub one_old : (v w : ℕ) → f v ≡ f w → v ≡ w
    one_old v w e = sym (back v) ∙ (ap g e ∙ back w)

    old_list : (xs ys : List ℕ) → map f xs ≡ map f ys → xs ≡ ys
    old_list xs ys e = sym (list_back f g xs (λ v i. back v)) ∙ (ap (λ (zs : List ℕ). map g zs) e ∙ list_back f g ys (λ v i. back v))

    direct_new : (u r w : ℕ) → Contains new (VarVar u r) → ¬ Contains new (VarVar r w)
    direct_new u r w i = λ j.
        let q = was_equal u r i in
        let s = was_equal r w j in
        let same : s.left ≡ q.right = one_old s.left q.right (sym s.left_is ∙ q.right_is) in
        (solved.direct q.left q.right q.stands).1 s.right (subst (λ (z : ℕ). Contains old (VarVar z s.right)) same s.stands)

    plain_new : (u : ℕ) (s : Symbol) (xs : List ℕ) → Contains new (VarTerm u s xs) → (i : ℕ) → i < length xs → (r : ℕ) → ¬ Contains new (VarVar (slice_index xs i) r)
    plain_new u s xs stands i within r = λ j.
        let t = was_term u s xs stands in
        let q = was_equal (slice_index xs i) r j in
        let low : i < length t.arguments = omega (arith, ap (λ (zs : List ℕ). length zs) t.all_are, length-map t.arguments f, within) in
        let at : slice_index xs i ≡ f (slice_index t.arguments i) = ap (λ (zs : List ℕ). slice_index zs i) t.all_are ∙ index-map f t.arguments i low in
        let same : q.left ≡ slice_index t.arguments i = one_old q.left (slice_index t.arguments i) (sym q.left_is ∙ at) in
        solved.plain t.left s t.arguments t.stands i low q.right (subst (λ (z : ℕ). Contains old (VarVar z q.right)) same q.stands)

    apart_new : (u v : ℕ) (s : Symbol) (xs : List ℕ) → WasTerm f P old u s xs → WasTerm f P old v s xs → u ≡ v
    apart_new u v s xs t r =
        let same : r.arguments ≡ t.arguments = old_list r.arguments t.arguments (sym r.all_are ∙ t.all_are) in
        let left : t.left ≡ r.left =
        solved.apart t.left r.left s t.arguments t.stands (subst (λ (zs : List ℕ). Contains old (VarTerm r.left s zs)) same r.stands) in
        t.left_is ∙ (ap f left ∙ sym r.left_is)

    pub loose_new : IsLoose new
    loose_new = record { ascending = renumbering.ascending; direct = direct_new; plain = plain_new }

    -- where equal variables keep their numbers, the new conjunction is solved
    pub solved_new : ((u h : ℕ) → Contains old (VarVar u h) → P (VarVar u h) → (f u ≡ u) × (f h ≡ h)) → IsSolved new
    solved_new fixed = record {
      ascending = renumbering.ascending;
      direct = λ u r i. (
        (let q = was_equal u r i in
            let keeps = fixed q.left q.right q.stands q.taken in
            omega (arith, q.left_is, q.right_is, keeps.0, keeps.1, (solved.direct q.left q.right q.stands).0)),
        λ w. direct_new u r w i,
      );
      plain = plain_new;
      apart = λ u v s xs i j. apart_new u v s xs (was_term u s xs i) (was_term v s xs j);
    }
