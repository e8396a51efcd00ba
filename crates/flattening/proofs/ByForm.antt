-- The conjunction of a formula, form by form.
use Rattle.std.proofs.Common.{ℕ, ◌≡◌, ◌+◌, ◌-◌, List, [], ◌∷◌, ◌++◌, length, append_assoc, append-nil, add-zero, refl, ap, sym, subst, ◌∙◌, arith}
use Rattle.std.specs.Prelude.{Result, Ok, Err, IfOk, OnOk}
use Rattle.tree_model.specs.Valuations.{update}
use Rattle.formula_ast.specs.declared.formula.Formula.{Formula}
use Rattle.formula_ast.specs.declared.formula.Formula.TheVariants as rust
use Rattle.formula_ast.specs.declared.term.Term.{Term}
use Rattle.formula_ast.specs.declared.term.Terms.{Terms}
use Rattle.formula_ast.specs.Forms.{form_of}
use Rattle.formula_ast.specs.Terms.{list_of}
use Rattle.formula_ast.proofs.Ties as form
use Rattle.flat_form.specs.declared.atom.Flat.{Flat}
use Rattle.flat_form.specs.declared.atom.Flat.TheVariants as flat
use Rattle.flat_form.specs.declared.cube.Cube.{Cube}
use Rattle.flat_form.specs.declared.normal.Normal.{Normal}
use Rattle.flat_form.specs.declared.normal.Normal.TheViews.{out-Normal}
use Rattle.flat_form.specs.Normals.{Norm, Norms, norm, none, also, join, norm_of, norms_of}
use Rattle.flattening.proofs.Norms.{norm_by_fields, join_join, join_none}
use Rattle.flattening.specs.declared.solved.Key.{Key}
use Rattle.flattening.specs.declared.solved.Key.TheVariants.{Call, Win}
use Rattle.flattening.specs.Plain.{PlainTerm, Plain, term_of, terms_of, no_terms, one_more, plain_of, always, equal, finite, ask, no, and, exists, imply}
use Rattle.flattening.specs.Numbers.{number_by, given_ranks, rank_in}
use Rattle.flattening.specs.Flattening.{number, whole, all_denied, bound_of, atoms_of, parts_of, negation, implication, with_more, flattened}
use Rattle.flattening.proofs.Given.{number_more}

abbrev pub plain : Formula → Plain
plain f = plain_of (form_of f)

pub plain_true : plain rust.True ≡ always
plain_true = ap plain_of form.always_form

pub plain_false : plain rust.False ≡ no always
plain_false = ap plain_of form.never_form

pub plain_equal : (t s : Term) → plain (rust.Eq t s) ≡ equal (term_of t) (term_of s)
plain_equal t s = ap plain_of (form.equal_form t s)

pub plain_differ : (t s : Term) → plain (rust.Differ t s) ≡ no (equal (term_of t) (term_of s))
plain_differ t s = ap plain_of (form.differ_form t s)

pub plain_finite : (t : Term) → plain (rust.Finite t) ≡ finite (term_of t)
plain_finite t = ap plain_of (form.finite_form t)

pub plain_call : (p : ℕ) (ts : Terms) → plain (rust.Call p ts) ≡ ask (Call p) (terms_of (list_of ts))
plain_call p ts = ap plain_of (form.call_form p ts)

pub plain_win : (p k : ℕ) (t : Term) → plain (rust.Win p k t) ≡ ask (Win p k) (one_more (term_of t) no_terms)
plain_win p k t = ap plain_of (form.win_form p k t)

pub plain_no : (f : Formula) → plain (rust.Not f) ≡ no (plain f)
plain_no f = ap plain_of (form.no_form f)

pub plain_and : (f g : Formula) → plain (rust.And f g) ≡ and (plain f) (plain g)
plain_and f g = ap plain_of (form.and_form f g)

pub plain_or : (f g : Formula) → plain (rust.Or f g) ≡ no (and (no (plain f)) (no (plain g)))
plain_or f g = ap plain_of (form.or_form f g)

pub plain_imp : (f g : Formula) → plain (rust.Imp f g) ≡ imply (plain f) (plain g)
plain_imp f g = ap plain_of (form.imp_form f g)

pub plain_iff : (f g : Formula) → plain (rust.Iff f g) ≡ and (imply (plain f) (plain g)) (imply (plain g) (plain f))
plain_iff f g = ap plain_of (form.iff_form f g)

pub plain_exists : (x : ℕ) (f : Formula) → plain (rust.Exists x f) ≡ exists x (plain f)
plain_exists x f = ap plain_of (form.exists_form x f)

pub plain_forall : (x : ℕ) (f : Formula) → plain (rust.Forall x f) ≡ no (exists x (no (plain f)))
plain_forall x f = ap plain_of (form.forall_form x f)

pub no_more_atoms : (xs : List Flat) → xs ++ [] ≡ xs
no_more_atoms xs = append-nil xs

pub ruleset form_rules = (plain_true, plain_false, plain_equal, plain_differ, plain_finite, plain_call, plain_win, plain_no, plain_and, plain_or, plain_imp, plain_iff, plain_exists, plain_forall, no_more_atoms)

-- the number behind the bound variables
pub none_bound : (n : ℕ) (f : Plain) → bound_of f ≡ 0 → n ≡ n + bound_of f
none_bound n f e = omega (arith, e)

pub bound_same : {E : Type 0} (r : Result ℕ E) (n bound : ℕ) (f : Plain) → bound_of f ≡ bound → IfOk r (λ after. after ≡ n + bound) → IfOk r (λ after. after ≡ n + bound_of f)
bound_same (Ok after) n bound f e a = omega (arith, e, a)
bound_same (Err error) n bound f e a = tt

pub and_bound : (n middle after : ℕ) (f g h : Plain) → h ≡ and f g → middle ≡ n + bound_of f → after ≡ middle + bound_of g → after ≡ n + bound_of h
and_bound n middle after f g h e a b = omega (arith, ap bound_of e, a, b)

pub exists_bound : (n next after x : ℕ) (f h : Plain) → h ≡ exists x f → next ≡ n + 1 → after ≡ next + bound_of f → after ≡ n + bound_of h
exists_bound n next after x f h e a b = omega (arith, ap bound_of e, a, b)

-- the only number
pub one_number : (before args : List ℕ) (k n : ℕ) → before ≡ [] → args ≡ before ++ k ∷ [] → k ≡ n → args ≡ n ∷ []
one_number before args k n e p a = rw (p, e, a) refl

-- no atoms are added
pub no_atoms : (m : ℕ → ℕ) (n : ℕ) (basic : List Flat) (f g : Plain) → f ≡ g → atoms_of m n g ≡ [] → basic ≡ basic ++ atoms_of m n f
no_atoms m n basic f g e none_there = sym (append-nil basic) ∙ ap (λ xs. basic ++ xs) (sym (ap (atoms_of m n) e ∙ none_there))

pub same_atoms : {T E : Type 0} (r : Result T E) (m : ℕ → ℕ) (n : ℕ) (basic new xs : List Flat) (f : Plain) → atoms_of m n f ≡ xs → OnOk r (new ≡ basic ++ xs)
    → OnOk r (new ≡ basic ++ atoms_of m n f)
same_atoms (Ok value) m n basic new xs f e p = p ∙ ap (λ ys. basic ++ ys) (sym e)
same_atoms (Err error) m n basic new xs f e p = tt

pub and_atoms : (m : ℕ → ℕ) (n after : ℕ) (f g h : Plain) (basic first new : List Flat) → h ≡ and f g → after ≡ n + bound_of f → first ≡ basic ++ atoms_of m n f
    → new ≡ first ++ atoms_of m after g → new ≡ basic ++ atoms_of m n h
and_atoms m n after f g h basic first new e a p q = rw (e, q, p, a, append_assoc) refl

pub finite_atoms : (m : ℕ → ℕ) (n k : ℕ) (t : PlainTerm) (h : Plain) (basic first new : List Flat) → h ≡ finite t → first ≡ basic ++ whole m n t → k ≡ number m n t
    → new ≡ first ++ flat.Finite k ∷ [] → new ≡ basic ++ atoms_of m n h
finite_atoms m n k t h basic first new e p a q = rw (e, q, p, a, append_assoc) refl

pub win_atoms : (m : ℕ → ℕ) (n : ℕ) (key : Key) (t : PlainTerm) (h : Plain) (basic new : List Flat) → h ≡ ask key (one_more t no_terms) → new ≡ basic ++ whole m n t
    → new ≡ basic ++ atoms_of m n h
win_atoms m n key t h basic new e p = rw (e, p, append-nil) refl

pub exists_atoms : (given more : List (ℕ × ℕ)) (n next x : ℕ) (f h : Plain) (basic new : List Flat) → h ≡ exists x f → more ≡ given ++ (x, n) ∷ [] → next ≡ n + 1
    → new ≡ basic ++ atoms_of (number_by more) next f → new ≡ basic ++ atoms_of (number_by given) n h
exists_atoms given more n next x f h basic new e g a p =
    rw e (p ∙ ap (λ m. basic ++ atoms_of m next f) (ap number_by g ∙ number_more given x n) ∙ ap (λ k. basic ++ atoms_of (update (number_by given) x n) k f) a)

-- what a negated conjunction is made of
pub normal_made : (after scope bound : ℕ) (basic atoms : List Flat) (parts ps : Norms) → after ≡ scope + bound → basic ≡ atoms → parts ≡ ps
    → norm (after - scope) basic parts ≡ norm bound atoms ps
normal_made after scope bound basic atoms parts ps a p q = let k : after - scope ≡ bound = omega (arith, a) in rw (k, p, q) refl

-- the same where the atoms were added to none
pub normal_built : (after scope bound : ℕ) (first basic atoms : List Flat) (parts ps : Norms) → after ≡ scope + bound → first ≡ [] → basic ≡ first ++ atoms
    → parts ≡ ps → norm (after - scope) basic parts ≡ norm bound atoms ps
normal_built after scope bound first basic atoms parts ps a e p q = normal_made after scope bound basic atoms parts ps a (rw e at p) q

-- a part that is added to the parts of a negated conjunction
pub more_by_fields : (x : Normal) (more new : Norms) → new ≡ join (norms_of (out-Normal x).parts) more
    → norm (out-Normal x).bound (out-Normal x).basic new ≡ with_more more (norm_of x)
more_by_fields x more new e = rw (norm_by_fields x, e) refl

abbrev bound_in : Norm → ℕ
bound_in (norm bound basic parts) = bound

pub bound_read : (x : Normal) (bound : ℕ) (basic : List Flat) (parts : Norms) → norm_of x ≡ norm bound basic parts → (out-Normal x).bound ≡ bound
bound_read x bound basic parts e = ap bound_in (sym (norm_by_fields x) ∙ e)

module _ (entries : Key → List Cube) where
  -- no parts are added
  pub no_parts : (m : ℕ → ℕ) (n scope : ℕ) (parts : Norms) (f g : Plain) → f ≡ g → parts_of entries m n scope g ≡ none → parts ≡ join parts (parts_of entries m n scope f)
  no_parts m n scope parts f g e none_there = sym (join_none parts) ∙ ap (join parts) (sym (ap (parts_of entries m n scope) e ∙ none_there))

  -- the same where a last call says whether it went well
  pub still_no_parts : {T E : Type 0} (r : Result T E) (m : ℕ → ℕ) (n scope : ℕ) (parts : Norms) (f g : Plain) → f ≡ g → parts_of entries m n scope g ≡ none
      → OnOk r (parts ≡ join parts (parts_of entries m n scope f))
  still_no_parts (Ok value) m n scope parts f g e none_there = no_parts m n scope parts f g e none_there
  still_no_parts (Err error) m n scope parts f g e none_there = tt

  -- one part is added
  pub one_part : (m : ℕ → ℕ) (n scope : ℕ) (f g : Plain) (item part : Norm) (parts new : Norms) → f ≡ g → parts_of entries m n scope g ≡ also part none → item ≡ part
      → new ≡ join parts (also item none) → new ≡ join parts (parts_of entries m n scope f)
  one_part m n scope f g item part parts new e is a p = p ∙ ap (join parts) (ap (λ x. also x none) a ∙ sym (ap (parts_of entries m n scope) e ∙ is))

  pub still_one_part : {T E : Type 0} (r : Result T E) (m : ℕ → ℕ) (n scope : ℕ) (f g : Plain) (item part : Norm) (parts new : Norms) → f ≡ g
      → parts_of entries m n scope g ≡ also part none → item ≡ part → new ≡ join parts (also item none) → OnOk r (new ≡ join parts (parts_of entries m n scope f))
  still_one_part (Ok value) m n scope f g item part parts new e is a p = one_part m n scope f g item part parts new e is a p
  still_one_part (Err error) m n scope f g item part parts new e is a p = tt

  -- all parts of a formula's conjunction
  pub parts_built : (given more : List (ℕ × ℕ)) (n scope after : ℕ) (f : Plain) (parts new : Norms) → after ≡ scope + bound_of f → parts ≡ none → more ≡ given
      → new ≡ join parts (parts_of entries (number_by more) n after f) → new ≡ parts_of entries (number_by given) n (scope + bound_of f) f
  parts_built given more n scope after f parts new a e k p =
      p ∙ ap (λ ps. join ps (parts_of entries (number_by more) n after f)) e ∙ ap (λ (x : List (ℕ × ℕ)). parts_of entries (number_by x) n after f) k
      ∙ ap (λ x. parts_of entries (number_by given) n x f) a

  -- the part that asks an entry
  pub asked_at : (args others : List ℕ) (scope : ℕ) (key : Key) (item : Norm) → args ≡ others → item ≡ norm 0 [] (all_denied args scope (entries key))
      → item ≡ norm 0 [] (all_denied others scope (entries key))
  asked_at args others scope key item e a = a ∙ ap (λ xs. norm 0 [] (all_denied xs scope (entries key))) e

  pub and_added : (given more : List (ℕ × ℕ)) (n after scope : ℕ) (f g h : Plain) (parts middle new : Norms) → h ≡ and f g → after ≡ n + bound_of f → more ≡ given
      → middle ≡ join parts (parts_of entries (number_by given) n scope f) → new ≡ join middle (parts_of entries (number_by more) after scope g)
      → new ≡ join parts (parts_of entries (number_by given) n scope h)
  and_added given more n after scope f g h parts middle new e a k p q =
      let last : new ≡ join middle (parts_of entries (number_by given) (n + bound_of f) scope g) =
      q ∙ ap (λ (x : List (ℕ × ℕ)). join middle (parts_of entries (number_by x) after scope g)) k
      ∙ ap (λ x. join middle (parts_of entries (number_by given) x scope g)) a in
      rw (e, last, p, join_join) refl

  or_parts : (m : ℕ → ℕ) (n scope : ℕ) (f g : Plain)
      → parts_of entries m n scope (no (and (no f) (no g))) ≡ also (norm 0 [] (also (negation entries m scope f) (also (negation entries m scope g) none))) none
  or_parts m n scope f g = ap (λ k. also (norm 0 [] (also (negation entries m k f) (also (negation entries m k g) none))) none) (add-zero scope)

  pub or_added : (given more : List (ℕ × ℕ)) (n scope : ℕ) (f g h : Plain) (first other : Norm) (parts new : Norms) → h ≡ no (and (no f) (no g))
      → first ≡ negation entries (number_by given) scope f → more ≡ given → other ≡ negation entries (number_by more) scope g
      → new ≡ join parts (also (norm 0 [] (also first (also other none))) none) → new ≡ join parts (parts_of entries (number_by given) n scope h)
  or_added given more n scope f g h first other parts new e a k b p =
      let other_is : other ≡ negation entries (number_by given) scope g = b ∙ ap (λ (x : List (ℕ × ℕ)). negation entries (number_by x) scope g) k in
      rw (e, or_parts (number_by given) n scope f g, p, a, other_is) refl

  imply_parts : (m : ℕ → ℕ) (n scope : ℕ) (f g : Plain) → parts_of entries m n scope (imply f g) ≡ also (implication entries m scope f g) none
  imply_parts m n scope f g = rw (add-zero, append-nil) refl

  pub imply_added : (m : ℕ → ℕ) (n scope : ℕ) (f g h : Plain) (item : Norm) (parts new : Norms) → h ≡ imply f g → item ≡ implication entries m scope f g
      → new ≡ join parts (also item none) → new ≡ join parts (parts_of entries m n scope h)
  imply_added m n scope f g h item parts new e a p = rw (e, imply_parts m n scope f g, p, a) refl

  pub iff_added : (m : ℕ → ℕ) (n scope : ℕ) (f g h : Plain) (first second : Norm) (parts middle new : Norms) → h ≡ and (imply f g) (imply g f)
      → first ≡ implication entries m scope f g → middle ≡ join parts (also first none) → second ≡ implication entries m scope g f → new ≡ join middle (also second none)
      → new ≡ join parts (parts_of entries m n scope h)
  iff_added m n scope f g h first second parts middle new e a p b q =
      let both : parts_of entries m n scope (and (imply f g) (imply g f)) ≡ also (implication entries m scope f g) (also (implication entries m scope g f) none) =
      ap (λ ps. join ps (parts_of entries m (n + 0) scope (imply g f))) (imply_parts m n scope f g)
      ∙ ap (also (implication entries m scope f g)) (imply_parts m (n + 0) scope g f) in
      let made : new ≡ join parts (also (implication entries m scope f g) (also (implication entries m scope g f) none)) = rw (q, p, a, b, join_join) refl in
      made ∙ ap (join parts) (sym both) ∙ ap (λ x. join parts (parts_of entries m n scope x)) (sym e)

  -- the implication that is made where the numbers are as before
  pub imply_step : (given more : List (ℕ × ℕ)) (scope : ℕ) (f g : Plain) (premise made : Norm) → more ≡ given → premise ≡ negation entries (number_by given) scope f
      → ((left : Plain) → premise ≡ negation entries (number_by more) scope left → made ≡ implication entries (number_by more) scope left g)
      → made ≡ implication entries (number_by given) scope f g
  imply_step given more scope f g premise made e a step =
      let before = subst (λ (x : List (ℕ × ℕ)). premise ≡ negation entries (number_by x) scope f) (sym e) a in
      subst (λ (x : List (ℕ × ℕ)). made ≡ implication entries (number_by x) scope f g) e (step f before)

  pub same_numbers : (given more : List (ℕ × ℕ)) (scope : ℕ) (f g : Plain) (made : Norm) → more ≡ given → made ≡ implication entries (number_by more) scope f g
      → made ≡ implication entries (number_by given) scope f g
  same_numbers given more scope f g made e a = subst (λ (x : List (ℕ × ℕ)). made ≡ implication entries (number_by x) scope f g) e a

  pub turned : (m : ℕ → ℕ) (scope : ℕ) (f g h i : Plain) (made : Norm) → f ≡ h → g ≡ i → made ≡ implication entries m scope f g → made ≡ implication entries m scope h i
  turned m scope f g h i made e a p = p ∙ ap (λ x. implication entries m scope x g) e ∙ ap (implication entries m scope h) a

  pub exists_added : (given more : List (ℕ × ℕ)) (n scope next x : ℕ) (f h : Plain) (parts new : Norms) → h ≡ exists x f → more ≡ given ++ (x, n) ∷ [] → next ≡ n + 1
      → new ≡ join parts (parts_of entries (number_by more) next scope f) → new ≡ join parts (parts_of entries (number_by given) n scope h)
  exists_added given more n scope next x f h parts new e g a p =
      rw e (p ∙ ap (λ m. join parts (parts_of entries m next scope f)) (ap number_by g ∙ number_more given x n)
      ∙ ap (λ k. join parts (parts_of entries (update (number_by given) x n) k scope f)) a)

  pub forall_added : (given more : List (ℕ × ℕ)) (n scope next x : ℕ) (f h : Plain) (part item : Norm) (basic : List Flat) (inner parts new : Norms) → h ≡ no (exists x (no f))
      → more ≡ given ++ (x, scope) ∷ [] → next ≡ scope + 1 → part ≡ negation entries (number_by more) next f → inner ≡ also part none → basic ≡ []
      → item ≡ norm 1 basic inner → new ≡ join parts (also item none) → new ≡ join parts (parts_of entries (number_by given) n scope h)
  forall_added given more n scope next x f h part item basic inner parts new e g a p q b i j =
      let part_is : part ≡ negation entries (update (number_by given) x scope) (scope + 1) f =
      p ∙ ap (λ m. negation entries m next f) (ap number_by g ∙ number_more given x scope) ∙ ap (λ k. negation entries (update (number_by given) x scope) k f) a in
      rw (e, j, i, b, q, part_is) refl

  pub implied_made : (m : ℕ → ℕ) (scope after : ℕ) (f g : Plain) (premise : Normal) (part made : Norm) → norm_of premise ≡ negation entries m scope f
      → after ≡ scope + (out-Normal premise).bound → part ≡ negation entries m after g → made ≡ with_more (also part none) (norm_of premise)
      → made ≡ implication entries m scope f g
  implied_made m scope after f g premise part made e a p q =
      let after_is : after ≡ scope + bound_of f = a ∙ ap (λ k. scope + k) (bound_read premise _ _ _ e) in rw (q, p, after_is, e) refl

  pub flattening_made : (given : List (ℕ × ℕ)) (ranks : List ℕ) (n : ℕ) (f : Plain) (part made : Norm) (parts : Norms) → made ≡ norm 0 [] parts → parts ≡ also part none
      → part ≡ negation entries (number_by given) n f → given ≡ given_ranks 0 ranks → n ≡ length ranks → made ≡ flattened entries (rank_in ranks) (length ranks) f
  flattening_made given ranks n f part made parts a b p g l =
      a ∙ ap (norm 0 []) (b ∙ ap (λ x. also x none) (p ∙ ap (λ (x : List (ℕ × ℕ)). negation entries (number_by x) n f) g ∙ ap (λ k. negation entries (rank_in ranks) k f) l))
