-- Formulas that are joined one after another.
use Rattle.std.proofs.Common.{◌≡◌, ℕ, suc, ◌+◌, ◌-◌, ◌<◌, List, [], ◌∷◌, ◌++◌, length, map, take, refl, sym, ap, subst, ◌∙◌, arith, Option, Some, None}
use Rattle.std.specs.Prelude.{slice_get, max}
use Rattle.std.specs.List.{range_with_len}
use Rattle.std.proofs.lemmas.List.{map-append}
use Rattle.formula_ast.specs.declared.formula.Formula.{Formula}
use Rattle.formula_ast.specs.Forms.{Form, form_of, no, exists}
use Rattle.formula_ast.proofs.Lists.{take_more_got}
use Rattle.flat_form.specs.declared.atom.Flat.{Flat}
use Rattle.flat_form.specs.declared.atom.Flat.TheVariants.{VarVar, VarTerm, Finite}
use Rattle.formula_grammar.specs.Written.{Joint}
use Rattle.formula_grammar.specs.Meaning.{joint_form, behind}
use Rattle.formula_printer.specs.Bound.{chained, conjunction, disjunction}
use Rattle.formula_grammar.specs.Written as joint
use Rattle.flat_form.specs.declared.cube.Part.{Part}
use Rattle.flat_form.specs.declared.cube.Cube.{Cube}
use Rattle.explicit_form.specs.Explicit.{atom_form, denied, denied_form, denied_part, widest, width}
use Rattle.explicit_form.specs.Joining.{Joins}

pub map_more : {A B : Type 0} (f : A → B) (xs : List A) (i : ℕ) (x : A) → slice_get xs i ≡ Some x → map f (take (i + 1) xs) ≡ map f (take i xs) ++ f x ∷ []
map_more f xs i x got = ap (map f) (take_more_got xs i x got) ∙ map-append f (take i xs) (x ∷ [])

pub chained_more : (j : Joint) (f : Form) (gs : List Form) (h : Form) → chained j f (gs ++ h ∷ []) ≡ joint_form j (chained j f gs) h
chained_more j f [] h = refl
chained_more j f (g ∷ gs) h = chained_more j (joint_form j f g) gs h

-- one more formula
pub joins_more : (j : Joint) (before : Option Formula) (g f h : Formula) → before ≡ Some g → form_of h ≡ joint_form j (form_of g) (form_of f)
    → (fs : List Form) → Joins j before fs → Joins j (Some h) (fs ++ form_of f ∷ [])
joins_more j before g f h some is fs joins = by (subst (λ (o : Option Formula). Joins j o fs) some joins)
  where
    by : Joins j (Some g) fs → Joins j (Some h) (fs ++ form_of f ∷ [])
    by (first, others, are, form) = (
      first,
      others ++ form_of f ∷ [],
      ap (λ l. l ++ form_of f ∷ []) are,
      is ∙ ap (λ k. joint_form j k (form_of f)) form ∙ sym (chained_more j first others (form_of f)),
    )

pub joins_first : (j : Joint) (before : Option Formula) (f : Formula) → before ≡ None → (fs : List Form) → Joins j before fs → Joins j (Some f) (fs ++ form_of f ∷ [])
joins_first j before f none fs joins =
    let empty : fs ≡ [] = subst (λ (o : Option Formula). Joins j o fs) none joins in
    (form_of f, [], ap (λ l. l ++ form_of f ∷ []) empty, refl)

-- one more item of a list whose formulas are joined
pub joins_next : {A : Type 0} (j : Joint) (F : A → Form) (xs : List A) (i : ℕ) (x : A) (all : Option Formula) (f : Form) (fs : List Form) → slice_get xs i ≡ Some x → f ≡ F x
    → Joins j all ((fs ++ map F (take i xs)) ++ f ∷ []) → Joins j all (fs ++ map F (take (i + 1) xs))
joins_next j F xs i x all f fs got is joins =
    subst (Joins j all) (ap (λ g. (fs ++ map F (take i xs)) ++ g ∷ []) is ∙ regroup fs (map F (take i xs)) (F x) ∙ ap (λ l. fs ++ l) (sym (map_more F xs i x got))) joins
  where
    regroup : (a b : List Form) (c : Form) → (a ++ b) ++ c ∷ [] ≡ a ++ (b ++ c ∷ [])
    regroup [] b c = refl
    regroup (x ∷ a) b c = ap (λ l. x ∷ l) (regroup a b c)

-- what is joined as a conjunction or a disjunction
pub conjoined : (all : Option Formula) (f : Formula) (fs : List Form) → all ≡ Some f → Joins joint.and all fs → form_of f ≡ conjunction fs
conjoined all f fs some joins = by (subst (λ (o : Option Formula). Joins joint.and o fs) some joins)
  where
    by : Joins joint.and (Some f) fs → form_of f ≡ conjunction fs
    by (first, others, are, form) = form ∙ ap conjunction (sym are)

pub disjoined : (all : Option Formula) (f : Formula) (fs : List Form) → all ≡ Some f → Joins joint.or all fs → form_of f ≡ disjunction fs
disjoined all f fs some joins = by (subst (λ (o : Option Formula). Joins joint.or o fs) some joins)
  where
    by : Joins joint.or (Some f) fs → form_of f ≡ disjunction fs
    by (first, others, are, form) = form ∙ ap disjunction (sym are)

pub none_joined : (j : Joint) (all : Option Formula) (fs : List Form) → all ≡ None → Joins j all fs → fs ≡ []
none_joined j all fs none joins = subst (λ (o : Option Formula). Joins j o fs) none joins

-- ---- quantifiers

pub one_more_bound : (x end : ℕ) (f : Form) → x < end → exists x (behind exists (range_with_len (x + 1) (end - (x + 1))) f) ≡ behind exists (range_with_len x (end - x)) f
one_more_bound x end f less = by (end - (x + 1)) (end - x) (omega arith)
  where
    by : (m n : ℕ) → n ≡ suc m → exists x (behind exists (range_with_len (x + 1) m) f) ≡ behind exists (range_with_len x n) f
    by m n is = ap (λ k. behind exists (range_with_len x k) f) (sym is)

-- ---- parts

pub one_denied : (bound : List ℕ) (basic : List Flat) (atom : Flat) → length bound ≡ 0 → length basic ≡ 1 → slice_get basic 0 ≡ Some atom
    → denied_form [] (atom ∷ []) ≡ denied_form bound basic
one_denied (x ∷ bound) basic atom none one got = absurd (cc)
one_denied [] [] atom none one got = absurd (cc)
one_denied [] (a ∷ []) atom none one got = let same : a ≡ atom = cc in ap (λ b. denied_form [] (b ∷ [])) (sym same)
one_denied [] (a ∷ b ∷ more) atom none one got = absurd (cc)

pub many_denied : (bound : List ℕ) (basic : List Flat) → ¬ ((length bound ≡ 0) × (length basic ≡ 1)) → no (behind exists bound (conjunction (map atom_form basic))) ≡ denied_form bound basic
many_denied [] [] many = refl
many_denied [] (atom ∷ []) many = absurd (many (refl, refl))
many_denied [] (VarVar u v ∷ b ∷ more) many = refl
many_denied [] (VarTerm u s xs ∷ b ∷ more) many = refl
many_denied [] (Finite u ∷ b ∷ more) many = refl
many_denied (x ∷ bound) basic many = refl

pub denied_all : (m : ℕ) (parts : List Part) → map (λ part. denied (denied_part m part)) parts ≡ map denied (map (denied_part m) parts)
denied_all m [] = refl
denied_all m (part ∷ rest) = ap (λ l. denied (denied_part m part) ∷ l) (denied_all m rest)

-- ---- how many variables are bound

open_max : (a b c : ℕ) → max a (max b c) ≡ max (max a b) c
open_max a b c = omega arith

pub widest_more : (xs : List Part) (x : Part) → widest (xs ++ x ∷ []) ≡ max (widest xs) x.inner
widest_more [] x = omega arith
widest_more (y ∷ xs) x = ap (max y.inner) (widest_more xs x) ∙ open_max y.inner (widest xs) x.inner

pub width_more : (xs : List Cube) (x : Cube) → width (xs ++ x ∷ []) ≡ max (width xs) (x.outer + widest x.parts)
width_more [] x = omega arith
width_more (y ∷ xs) x = ap (max (y.outer + widest y.parts)) (width_more xs x) ∙ open_max (y.outer + widest y.parts) (width xs) (x.outer + widest x.parts)

pub widest_next : (xs : List Part) (i : ℕ) (x : Part) → slice_get xs i ≡ Some x → max (widest (take i xs)) x.inner ≡ widest (take (i + 1) xs)
widest_next xs i x got = sym (ap widest (take_more_got xs i x got) ∙ widest_more (take i xs) x)

pub width_next : (xs : List Cube) (i : ℕ) (x : Cube) → slice_get xs i ≡ Some x → max (width (take i xs)) (x.outer + widest x.parts) ≡ width (take (i + 1) xs)
width_next xs i x got = sym (ap width (take_more_got xs i x got) ∙ width_more (take i xs) x)
