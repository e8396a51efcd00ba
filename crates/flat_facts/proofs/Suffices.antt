-- A solution of the base and of what is added has one value for each class, and solves the equations.
use Rattle.std.proofs.Common.{ℕ, ◌≡◌, ◌<◌, List, [], ◌∷◌, length, refl, sym, ap, ◌∙◌, subst, arith, inl, inr, ◌⊎◌, Some}
use Rattle.std.specs.Prelude.{slice_index, Contains}
use Rattle.classical.specs.Classical.{Exists}
use Rattle.classical.proofs.Stable.{◌>>=◌, either_way}
use Rattle.tree_model.specs.declared.tree.Symbol.{Symbol}
use Rattle.tree_model.specs.Signatures.{Signature, Alike}
use Rattle.tree_model.specs.Trees.{at}
use Rattle.tree_model.specs.Valuations.{Valuation}
use Rattle.tree_model.proofs.Stability.{read_stable}
use Rattle.tree_facts.specs.Equations.{equals_term}
use Rattle.tree_facts.proofs.Equations.{at_past, within_or_past, equation_stable}
use Rattle.flat_form.specs.declared.atom.Flat.{Flat}
use Rattle.flat_form.specs.declared.atom.Flat.TheVariants.{VarVar, VarTerm}
use Rattle.flat_form.specs.Meanings.{AtomHolds}
use Rattle.flat_form.specs.Classes.{Class, itself, turned, joined, stated, inward, clash}
use Rattle.flat_form.specs.Solved.{IsOpen, HasTerm, IsDirect}
use Rattle.flat_form.specs.Added.{IsHead, by_term, by_root, IsAdded}
use Rattle.flat_facts.proofs.Heads.{choose, kinds, head_class, head_unique, head_moves, head_exists}

same_or_not : (m n : ℕ) → (m ≡ n) ⊎ (¬ (m ≡ n))
same_or_not m n = grind arith

module _ {σ : Signature} (base atoms added : List Flat) (sub : (a : Flat) → Contains base a → Contains atoms a) (direct : IsDirect base)
    (adds : IsAdded base atoms added) (e : Valuation σ)
    (in_base : (a : Flat) → Contains base a → AtomHolds e a) (in_added : (a : Flat) → Contains added a → AtomHolds e a) where
  -- u has the value of a variable of its class that has a term in the base, or is the head
  record Anchor (u : ℕ) : Type 0 where
    at_variable : ℕ
    one_class : Class atoms u at_variable
    alike : Alike (e u) (e at_variable)
    kind : HasTerm base at_variable ⊎ IsHead base atoms u at_variable

  open_anchor : (u : ℕ) → IsOpen base u → Exists (λ (h : ℕ). IsHead base atoms u h × Alike (e u) (e h))
  open_anchor u o n = do
    (h, head) ← head_exists base atoms sub direct u
    elim (same_or_not u h) [
      | inl s ↦ let P : ℕ → Type 0 = λ z. Alike (e u) (e z) in n (h, (head, subst P s (λ path. refl)))
      | inr differ ↦ n (h, (head, in_added (VarVar u h) (adds.all (VarVar u h) (record { bare = o; head = head; differ = differ }))))
    ]

  anchor : (u : ℕ) → Exists (λ (_ : Anchor u). Unit {0})
  anchor u n = do
    k ← kinds base u
    elim k [
      | inl t ↦ n ((record { at_variable = u; one_class = itself u; alike = λ path. refl; kind = inl t }), tt)
      | inr (inr o) ↦ do
        (h, (head, like)) ← open_anchor u o
        n ((record { at_variable = h; one_class = head_class base atoms u h head; alike = like; kind = inr head }), tt)
      | inr (inl (r, i)) ↦ do
        t ← either_way (HasTerm base r)
        let c : Class atoms u r = stated (sub (VarVar u r) i) in
            elim t [
              | inl y ↦ n ((record { at_variable = r; one_class = c; alike = in_base (VarVar u r) i; kind = inl y }), tt)
              | inr none ↦ do
                (h, (head, like)) ← open_anchor r (record { no_variable = (direct u r i).1; no_term = λ s xs j. none (s, xs, j) })
                n (
                  (record {
                    at_variable = h;
                    one_class = joined c (head_class base atoms r h head);
                    alike = λ path. in_base (VarVar u r) i path ∙ like path;
                    kind = inr (head_moves base atoms r u h (turned c) head);
                  }),
                  tt,
                )
            ]
    ]

  one_symbol : (x y : ℕ) (s t : Symbol) (xs ys : List ℕ) → Class atoms x y → Contains atoms (VarTerm x s xs) → Contains atoms (VarTerm y t ys)
      → ¬ ¬ ((s ≡ t) × (length xs ≡ length ys))
  one_symbol x y s t xs ys c i j n = adds.solvable (clash (record {
    left = x;
    right = y;
    left_symbol = s;
    right_symbol = t;
    xs = xs;
    ys = ys;
    one_class = c;
    left_stands = i;
    right_stands = j;
    differ = n;
  }))

  abbrev AlikeAt : List ℕ → Type 0
  AlikeAt path = (u v : ℕ) → Class atoms u v → at (e u).graph path ≡ at (e v).graph path

  -- the variables of each class are alike one child down
  abbrev AlikeBelow : List ℕ → Type 0
  AlikeBelow [] = Unit {0}
  AlikeBelow (i ∷ path) = AlikeAt path

  terms_below : (path : List ℕ) → AlikeBelow path → (x y : ℕ) (s : Symbol) (xs ys : List ℕ) → Class atoms x y
      → Contains base (VarTerm x s xs) → Contains base (VarTerm y s ys) → length xs ≡ length ys → at (e x).graph path ≡ at (e y).graph path
  terms_below [] below x y s xs ys c i j len =
      (in_base (VarTerm x s xs) i).root ∙ ap (λ n. Some (s, n)) len ∙ sym (in_base (VarTerm y s ys) j).root
  terms_below (k ∷ path) below x y s xs ys c i j len = elim (within_or_past k (length xs)) [
    | inl w ↦ (in_base (VarTerm x s xs) i).child k w path
        ∙ below (slice_index xs k) (slice_index ys k) (inward s xs ys (sub (VarTerm x s xs) i) (sub (VarTerm y s ys) j) len c k w)
        ∙ sym ((in_base (VarTerm y s ys) j).child k (omega arith) path)
    | inr past ↦ at_past (e x).graph s (length xs) k path (in_base (VarTerm x s xs) i).root past
        ∙ sym (at_past (e y).graph s (length ys) k path (in_base (VarTerm y s ys) j).root (omega arith))
  ]

  terms_alike : (path : List ℕ) → AlikeBelow path → (x y : ℕ) → Class atoms x y → HasTerm base x → HasTerm base y
      → ¬ ¬ (at (e x).graph path ≡ at (e y).graph path)
  terms_alike path below x y c (s, xs, i) (t, ys, j) n = do
    (same, len) ← one_symbol x y s t xs ys c (sub (VarTerm x s xs) i) (sub (VarTerm y t ys) j)
    let P : Symbol → Type 0 = λ z. Contains base (VarTerm y z ys) in n (terms_below path below x y s xs ys c i (subst P (sym same) j) len)

  class_step : (path : List ℕ) → AlikeBelow path → AlikeAt path
  class_step path below u v c = (read_stable _ _).holds (λ n. do
    (a, _) ← anchor u
    (b, _) ← anchor v
    let across : Class atoms a.at_variable b.at_variable = joined (turned a.one_class) (joined c b.one_class) in
        elim a.kind [
          | inl s ↦ elim b.kind [
            | inl t ↦ terms_alike path below a.at_variable b.at_variable across s t (λ q. n (a.alike path ∙ q ∙ sym (b.alike path)))
            | inr (by_term d t l) ↦ terms_alike path below a.at_variable b.at_variable across s t (λ q. n (a.alike path ∙ q ∙ sym (b.alike path)))
            | inr (by_root none d o l) ↦ none a.at_variable (joined b.one_class (turned across)) s
          ]
          | inr head ↦ elim b.kind [
            | inr other ↦ let same : a.at_variable ≡ b.at_variable = head_unique base atoms v a.at_variable b.at_variable (head_moves base atoms u v a.at_variable c head) other in
                let P : ℕ → Type 0 = λ z. at (e a.at_variable).graph path ≡ at (e z).graph path in
                n (a.alike path ∙ subst P same refl ∙ sym (b.alike path))
            | inl t ↦ elim head [
              | by_term d s l ↦ terms_alike path below a.at_variable b.at_variable across s t (λ q. n (a.alike path ∙ q ∙ sym (b.alike path)))
              | by_root none d o l ↦ none b.at_variable (joined c b.one_class) t
            ]
          ]
        ])

  -- one value for each class
  pub one_value : (path : List ℕ) → AlikeAt path
  one_value [] = class_step [] tt
  one_value (k ∷ path) = class_step (k ∷ path) (one_value path)

  -- the term of u's class, where its head has it in the base
  by_base : (u h : ℕ) (s : Symbol) (xs ys : List ℕ) → Class atoms u h → Contains atoms (VarTerm u s xs) → Contains base (VarTerm h s ys)
      → length xs ≡ length ys → AtomHolds e (VarTerm u s xs)
  by_base u h s xs ys c i j len = record {
    root = one_value [] u h c ∙ (in_base (VarTerm h s ys) j).root ∙ ap (λ n. Some (s, n)) (sym len);
    child = λ k w path. one_value (k ∷ path) u h c ∙ (in_base (VarTerm h s ys) j).child k (omega arith) path
        ∙ sym (one_value path (slice_index xs k) (slice_index ys k) (inward s xs ys i (sub (VarTerm h s ys) j) len c k w));
  }

  -- and where the head has it in what is added
  by_added : (u h : ℕ) (s : Symbol) (xs ys : List ℕ) → Class atoms u h → Contains added (VarTerm h s ys) → length ys ≡ length xs
      → ((i : ℕ) → i < length xs → IsHead base atoms (slice_index xs i) (slice_index ys i)) → AtomHolds e (VarTerm u s xs)
  by_added u h s xs ys c j len heads = record {
    root = one_value [] u h c ∙ (in_added (VarTerm h s ys) j).root ∙ ap (λ n. Some (s, n)) len;
    child = λ k w path. one_value (k ∷ path) u h c ∙ (in_added (VarTerm h s ys) j).child k (omega arith) path
        ∙ sym (one_value path (slice_index xs k) (slice_index ys k) (head_class base atoms (slice_index xs k) (slice_index ys k) (heads k w)));
  }

  pub term_holds : (u : ℕ) (s : Symbol) (xs : List ℕ) → Contains atoms (VarTerm u s xs) → AtomHolds e (VarTerm u s xs)
  term_holds u s xs i = (equation_stable σ e (equals_term u s xs)).holds (λ n. do
    (h, head) ← head_exists base atoms sub direct u
    elim head [
      | by_term c (t, ys, j) l ↦ do
        (same, len) ← one_symbol u h s t xs ys c i (sub (VarTerm h t ys) j)
        let P : Symbol → Type 0 = λ z. Contains base (VarTerm h z ys) in n (by_base u h s xs ys c i (subst P (sym same) j) len)
      | by_root none c o l ↦ do
        (ys, (len, heads)) ← choose (IsHead base atoms) xs (head_exists base atoms sub direct)
        n (by_added u h s xs ys c (adds.all (VarTerm h s ys) (record {
          bare = o;
          head = head_moves base atoms u h h c (by_root none c o l);
          variable = u;
          xs = xs;
          one_class = turned c;
          stands = i;
          as_many = len;
          heads = heads;
        })) len heads)
    ])
