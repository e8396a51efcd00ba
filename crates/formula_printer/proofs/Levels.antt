-- How strongly what is written holds together, and where quantifiers are written as one.
use Rattle.std.proofs.Common.{◌≡◌, ℕ, ◌≤◌, ◌<◌, true, false, nat_lt, List, ◌∷◌, ◌++◌, refl, sym, ap, ◌∙◌, subst, arith, append_assoc}
use Rattle.std.specs.Prelude.{codes}
use Rattle.std.proofs.lemmas.Bool.Decides.{nat_tests}
use Rattle.std.proofs.lemmas.List.{append-nil}
use Rattle.tree_model.specs.Signatures.{Signature}
use Rattle.formula_ast.specs.declared.formula.Formula.{Formula, True, False, Eq, Differ, Finite, Call, Win, Not', And', Or', Imp', Iff', Exists', Forall', Row_of-Formula, more_of-Formula, end_of-Formula}
use Rattle.formula_ast.specs.declared.formula.Formula.TheVariants as v
use Rattle.formula_ast.specs.Forms.{form_of, part_of}
use Rattle.formula_ast.proofs.Ties.{and_form, or_form, imp_form, iff_form, exists_form, forall_form}
use Rattle.formula_grammar.specs.Written.{Text, Quantifier, exists, forall, WrittenFormula, group, quantified}
use Rattle.formula_grammar.specs.Grammar.{level}
use Rattle.formula_printer.specs.Steps.{behind_quantifier}
use Rattle.formula_printer.specs.Texts.{names_text, quantifier_text, text_of}
use Rattle.formula_printer.specs.Writing.{placed, quantify, written, text_at}

pub level_quantify : (q : Quantifier) (x : Text) (w : WrittenFormula) → level (quantify q x w) ≡ 5
level_quantify exists x (quantified exists y ys f) = refl
level_quantify exists x (quantified forall y ys f) = refl
level_quantify exists x w = refl
level_quantify forall x (quantified exists y ys f) = refl
level_quantify forall x (quantified forall y ys f) = refl
level_quantify forall x w = refl

-- a formula that is strong enough stands without parentheses
pub kept : (asked : ℕ) (w : WrittenFormula) → asked ≤ level w → placed asked w ≡ w
kept asked w h = let e : nat_lt (level w) asked ≡ false = grind (arith, nat_tests) in rw e refl

-- and one that is not stands in them
pub grouped : (asked : ℕ) (w : WrittenFormula) → level w < asked → placed asked w ≡ group w
grouped asked w h = let e : nat_lt (level w) asked ≡ true = grind (arith, nat_tests) in rw e refl

module _ (σ : Signature) (names : List Text) where
  abbrev level_in : Formula → ℕ
  level_in f = level (written σ names (form_of f))

  pub level_iff : (f g h : Formula) → f ≡ v.Iff g h → 1 ≡ level_in f
  level_iff f g h is = rw (is, iff_form) refl

  pub level_imp : (f g h : Formula) → f ≡ v.Imp g h → 2 ≡ level_in f
  level_imp f g h is = rw (is, imp_form) refl

  pub level_or : (f g h : Formula) → f ≡ v.Or g h → 3 ≡ level_in f
  level_or f g h is = rw (is, or_form) refl

  pub level_and : (f g h : Formula) → f ≡ v.And g h → 4 ≡ level_in f
  level_and f g h is = rw (is, and_form) refl

  pub level_others : (f : Formula) → ((g h : Formula) → ¬ (f ≡ v.And g h)) → ((g h : Formula) → ¬ (f ≡ v.Or g h)) → ((g h : Formula) → ¬ (f ≡ v.Imp g h))
      → ((g h : Formula) → ¬ (f ≡ v.Iff g h)) → 5 ≡ level_in f
  unfolding form_of part_of Rattle.formula_ast.specs.declared.formula.Formula.TheBlock.hidden-the_row-Formula-0 denote.Hole.Carrier.hidden
  level_others True a o i e = refl
  level_others False a o i e = refl
  level_others (Eq t s) a o i e = refl
  level_others (Differ t s) a o i e = refl
  level_others (Finite t) a o i e = refl
  level_others (Call p ts) a o i e = refl
  level_others (Win p k t) a o i e = refl
  level_others (Not' p f) a o i e = refl
  level_others (And' p (more_of-Formula f end_of-Formula) q (more_of-Formula g end_of-Formula)) a o i e = absurd (a f g refl)
  level_others (Or' p (more_of-Formula f end_of-Formula) q (more_of-Formula g end_of-Formula)) a o i e = absurd (o f g refl)
  level_others (Imp' p (more_of-Formula f end_of-Formula) q (more_of-Formula g end_of-Formula)) a o i e = absurd (i f g refl)
  level_others (Iff' p (more_of-Formula f end_of-Formula) q (more_of-Formula g end_of-Formula)) a o i e = absurd (e f g refl)
  level_others (Exists' x p (more_of-Formula f end_of-Formula)) a o i e = sym (level_quantify exists (text_at names x) (placed 5 (written σ names (form_of f))))
  level_others (Forall' x p (more_of-Formula f end_of-Formula)) a o i e = sym (level_quantify forall (text_at names x) (placed 5 (written σ names (form_of f))))

-- ---- what stands behind a quantifier

pub text_quantify : (q : Quantifier) (x : Text) (w : WrittenFormula) → text_of (quantify q x w) ≡ quantifier_text q ++ behind_quantifier (quantify q x w)
text_quantify exists x (quantified exists y ys f) = refl
text_quantify exists x (quantified forall y ys f) = refl
text_quantify exists x w = refl
text_quantify forall x (quantified exists y ys f) = refl
text_quantify forall x (quantified forall y ys f) = refl
text_quantify forall x w = refl

-- it begins with this quantifier
abbrev pub BeginsWith : WrittenFormula → Quantifier → Type 0
BeginsWith (quantified exists x xs f) exists = Unit {0}
BeginsWith (quantified forall x xs f) forall = Unit {0}
BeginsWith w q = ⊥

begins : (q : Quantifier) (x : Text) (w : WrittenFormula) → BeginsWith (quantify q x w) q
begins exists x (quantified exists y ys f) = tt
begins exists x (quantified forall y ys f) = tt
begins exists x w = tt
begins forall x (quantified exists y ys f) = tt
begins forall x (quantified forall y ys f) = tt
begins forall x w = tt

regroup : (a b c d : Text) → ((a ++ b) ++ c) ++ d ≡ a ++ ((b ++ c) ++ d)
regroup a b c d = simp append_assoc

-- one more variable before the same quantifier
one_more : (q : Quantifier) (x : Text) (w : WrittenFormula) → BeginsWith w q → behind_quantifier (quantify q x w) ≡ codes " " ++ x ++ behind_quantifier w
one_more exists x (quantified exists y ys f) b = regroup (codes " " ++ x) (names_text (y ∷ ys)) (codes ": ") (text_of f)
one_more forall x (quantified forall y ys f) b = regroup (codes " " ++ x) (names_text (y ∷ ys)) (codes ": ") (text_of f)
one_more exists x (quantified forall y ys f) b = absurd b
one_more forall x (quantified exists y ys f) b = absurd b
one_more q x w b = absurd b

-- and the body behind the last
last : (q : Quantifier) (x : Text) (w : WrittenFormula) → ¬ BeginsWith w q → behind_quantifier (quantify q x w) ≡ codes " " ++ x ++ codes ": " ++ text_of w
last exists x (quantified exists y ys f) b = absurd (b tt)
last forall x (quantified forall y ys f) b = absurd (b tt)
last exists x w b = ap (λ l. l ++ codes ": " ++ text_of w) (append-nil (codes " " ++ x))
last forall x w b = ap (λ l. l ++ codes ": " ++ text_of w) (append-nil (codes " " ++ x))

other_quantifier : (x : Text) (w : WrittenFormula) → ¬ BeginsWith (quantify exists x w) forall
other_quantifier x (quantified exists y ys f) b = b
other_quantifier x (quantified forall y ys f) b = b
other_quantifier x w b = b

neither_quantifier : (x : Text) (w : WrittenFormula) → ¬ BeginsWith (quantify forall x w) exists
neither_quantifier x (quantified exists y ys f) b = b
neither_quantifier x (quantified forall y ys f) b = b
neither_quantifier x w b = b

module _ (σ : Signature) (names : List Text) where
  -- a formula where a body must stand
  abbrev body : Formula → WrittenFormula
  body f = placed 5 (written σ names (form_of f))

  -- one variable before such a body, and what is written behind the word of the quantifier
  abbrev behind : Quantifier → Text → Formula → Text
  behind q x f = behind_quantifier (quantify q x (body f))

  next : (q : Quantifier) (x : Text) (y : ℕ) (g : Formula)
      → behind_quantifier (quantify q x (placed 5 (quantify q (text_at names y) (body g)))) ≡ codes " " ++ x ++ behind q (text_at names y) g
  next q x y g =
      let w = quantify q (text_at names y) (body g) in
      ap (λ v. behind_quantifier (quantify q x v)) (kept 5 w (omega (arith, level_quantify q (text_at names y) (body g))))
      ∙ one_more q x w (begins q (text_at names y) (body g))

  pub next_exists : (q : Quantifier) (x : Text) (f : Formula) (y : ℕ) (g : Formula) → q ≡ exists → f ≡ v.Exists y g
      → behind q x f ≡ codes " " ++ x ++ behind q (text_at names y) g
  next_exists q x f y g this is = rw (this, is, exists_form) (next exists x y g)

  pub next_forall : (q : Quantifier) (x : Text) (f : Formula) (y : ℕ) (g : Formula) → q ≡ forall → f ≡ v.Forall y g
      → behind q x f ≡ codes " " ++ x ++ behind q (text_at names y) g
  next_forall q x f y g this is = rw (this, is, forall_form) (next forall x y g)

  -- a formula that begins with no quantifier of this kind
  no_more : (q : Quantifier) (f : Formula) → ((x : ℕ) (g : Formula) → q ≡ exists → ¬ (f ≡ v.Exists x g)) → ((x : ℕ) (g : Formula) → q ≡ forall → ¬ (f ≡ v.Forall x g))
      → ¬ BeginsWith (body f) q
  unfolding form_of part_of Rattle.formula_ast.specs.declared.formula.Formula.TheBlock.hidden-the_row-Formula-0 denote.Hole.Carrier.hidden
  no_more q True e a b = b
  no_more q False e a b = b
  no_more q (Eq t s) e a b = b
  no_more q (Differ t s) e a b = b
  no_more q (Finite t) e a b = b
  no_more q (Call p ts) e a b = b
  no_more q (Win p k t) e a b = b
  no_more q (Not' p f) e a b = b
  no_more q (And' p f r g) e a b = b
  no_more q (Or' p f r g) e a b = b
  no_more q (Imp' p f r g) e a b = b
  no_more q (Iff' p f r g) e a b = b
  no_more exists (Exists' x p (more_of-Formula f end_of-Formula)) e a b = e x f refl refl
  no_more forall (Exists' x p (more_of-Formula f end_of-Formula)) e a b =
      let w = placed 5 (written σ names (form_of f)) in
      let same = kept 5 (quantify exists (text_at names x) w) (omega (arith, level_quantify exists (text_at names x) w)) in
      other_quantifier (text_at names x) w (subst (λ v. BeginsWith v forall) same b)
  no_more exists (Forall' x p (more_of-Formula f end_of-Formula)) e a b =
      let w = placed 5 (written σ names (form_of f)) in
      let same = kept 5 (quantify forall (text_at names x) w) (omega (arith, level_quantify forall (text_at names x) w)) in
      neither_quantifier (text_at names x) w (subst (λ v. BeginsWith v exists) same b)
  no_more forall (Forall' x p (more_of-Formula f end_of-Formula)) e a b = a x f refl refl

  pub last_exists : (q : Quantifier) (x : Text) (f : Formula) → q ≡ exists → ((y : ℕ) (g : Formula) → ¬ (f ≡ v.Exists y g))
      → behind q x f ≡ codes " " ++ x ++ codes ": " ++ text_of (body f)
  last_exists q x f this none = last q x (body f) (no_more q f (λ y g e. none y g) (λ y g e. absurd (cc (this, e))))

  pub last_forall : (q : Quantifier) (x : Text) (f : Formula) → q ≡ forall → ((y : ℕ) (g : Formula) → ¬ (f ≡ v.Forall y g))
      → behind q x f ≡ codes " " ++ x ++ codes ": " ++ text_of (body f)
  last_forall q x f this none = last q x (body f) (no_more q f (λ y g e. absurd (cc (this, e))) (λ y g e. none y g))
