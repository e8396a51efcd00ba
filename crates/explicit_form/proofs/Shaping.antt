-- A formula is shaped exactly where it is put together of some quantifiers, atoms and parts.
use Rattle.std.proofs.Common.{◌≡◌, ℕ, List, [], ◌∷◌, ◌++◌, map, refl, sym, ap, subst, ◌∙◌, ◌⊎◌, inl, inr, arith, append_assoc}
use Rattle.std.specs.Prelude.{All}
use Rattle.std.proofs.lemmas.List.{map-append, append-nil, length-append}
use Rattle.std.proofs.lemmas.List.Elements.{All-nil, All-cons, All-head, All-tail, All-append}
use Rattle.tree_model.specs.declared.tree.Symbol.{Symbol}
use Rattle.formula_ast.specs.declared.term.Term.{Term}
use Rattle.formula_ast.specs.declared.term.Terms.{Terms}
use Rattle.formula_ast.specs.declared.term.Term.TheVariants as term
use Rattle.formula_ast.specs.declared.term.Term.TheVariants.{Var, App}
use Rattle.formula_ast.specs.declared.term.Term.TheOpen.{Term-F}
use Rattle.formula_ast.specs.declared.term.Term.TheOpen as layer
use Rattle.formula_ast.specs.declared.term.Term.TheViews.{out-Term, roll-Term, roll-out-Term}
use Rattle.formula_ast.specs.declared.term.Term.TheViews as views
use Rattle.formula_ast.specs.Terms.{list_of}
use Rattle.formula_ast.specs.Forms.{Form, equal, differ, finite, no, and, or, exists}
use Rattle.flat_form.specs.declared.atom.Flat.{Flat}
use Rattle.flat_form.specs.declared.atom.Flat.TheVariants.{VarVar, VarTerm, Finite}
use Rattle.formula_printer.specs.Bound.{chained, conjunction}
use Rattle.formula_grammar.specs.Meaning.{behind}
use Rattle.formula_grammar.specs.Written as joint
use Rattle.explicit_form.specs.Explicit.{Denied, applied, atom_form, denied, denied_form, explicit_cube}
use Rattle.explicit_form.specs.Pieces.{layer_variable, variable_in, disjuncts_of}
use Rattle.explicit_form.specs.Shaped.{LayerIsVariable, IsVariable, LayerIsFlat, IsFlat, IsAtom, AreAtoms, AreBound, IsDenied, IsPart, AreItems, IsShaped, IsSimple}
use Rattle.explicit_form.proofs.Joined.{many_denied, chained_more}

-- ---- terms

as_variable : (t : Term) (v : ℕ) → out-Term t ≡ layer.Var v → t ≡ Var v
as_variable t v is = sym (roll-out-Term t) ∙ ap roll-Term is ∙ term.rolls-Var v

as_application : (t : Term) (s : Symbol) (ts : Terms) → out-Term t ≡ layer.App s ts → t ≡ App s ts
as_application t s ts is = sym (roll-out-Term t) ∙ ap roll-Term is ∙ term.rolls-App s ts

-- a term that is a variable is that one
pub variable_term : (t : Term) → IsVariable t → t ≡ Var (variable_in t)
variable_term t is = by (out-Term t) refl is
  where
    by : (l : Term-F Term Terms) → out-Term t ≡ l → LayerIsVariable l → t ≡ Var (variable_in t)
    by (layer.Var v) e is = as_variable t v e ∙ ap (λ n. Var n) (sym (ap layer_variable e))
    by (layer.App s ts) e is = absurd is

variable_terms : (ts : List Term) → All IsVariable ts → ts ≡ map (λ x. Var x) (map variable_in ts)
variable_terms [] all = refl
variable_terms (t ∷ ts) all =
    ap (λ u. u ∷ ts) (variable_term t (All-head IsVariable t ts all)) ∙ ap (λ l. Var (variable_in t) ∷ l) (variable_terms ts (All-tail IsVariable t ts all))

-- what a flat term is
flat_cases : (s : Term) → IsFlat s → ((v : ℕ) × (s ≡ Var v)) ⊎ ((a : Symbol) × (xs : List ℕ) × (s ≡ applied a xs))
flat_cases s is = by (out-Term s) refl is
  where
    terms_of : List Term → Terms
    terms_of items = record { items = items }

    by : (l : Term-F Term Terms) → out-Term s ≡ l → LayerIsFlat l → ((v : ℕ) × (s ≡ Var v)) ⊎ ((a : Symbol) × (xs : List ℕ) × (s ≡ applied a xs))
    by (layer.Var v) e is = inl (v, as_variable s v e)
    by (layer.App a ts) e is = inr (a, map variable_in (list_of ts), as_application s a ts e ∙ ap (λ items. App a (terms_of items)) (variable_terms (list_of ts) is))

var_is : (v : ℕ) → IsVariable (Var v)
var_is v = subst LayerIsVariable (sym (views.outs-Var v)) tt

vars_are : (xs : List ℕ) → All IsVariable (map (λ x. Var x) xs)
vars_are [] = All-nil IsVariable
vars_are (x ∷ xs) = All-cons IsVariable (Var x) (map (λ x. Var x) xs) (var_is x) (vars_are xs)

var_flat : (v : ℕ) → IsFlat (Var v)
var_flat v = subst LayerIsFlat (sym (views.outs-Var v)) tt

app_flat : (s : Symbol) (xs : List ℕ) → IsFlat (applied s xs)
app_flat s xs = subst LayerIsFlat (sym (views.outs-App s (record { items = map (λ x. Var x) xs }))) (vars_are xs)

atom_is : (atom : Flat) → IsAtom (atom_form atom)
atom_is (VarVar u v) = (var_is u, var_flat v)
atom_is (VarTerm u s xs) = (var_is u, app_flat s xs)
atom_is (Finite u) = var_is u

-- ---- what shaped formulas are put together of

atom_from : (f : Form) → IsAtom f → (atom : Flat) × (f ≡ atom_form atom)
atom_from (equal t s) is = by (flat_cases s is.1)
  where
    by : ((v : ℕ) × (s ≡ Var v)) ⊎ ((a : Symbol) × (xs : List ℕ) × (s ≡ applied a xs)) → (atom : Flat) × (equal t s ≡ atom_form atom)
    by (inl (v, e)) = (VarVar (variable_in t) v, ap (λ u. equal u s) (variable_term t is.0) ∙ ap (equal (Var (variable_in t))) e)
    by (inr (a, xs, e)) = (VarTerm (variable_in t) a xs, ap (λ u. equal u s) (variable_term t is.0) ∙ ap (equal (Var (variable_in t))) e)
atom_from (finite t) is = (Finite (variable_in t), ap finite (variable_term t is))
atom_from f is = absurd is

joined_atoms : (f g : Form) → ((first : Flat) × (rest : List Flat) × (f ≡ conjunction (map atom_form (first ∷ rest)))) → ((atom : Flat) × (g ≡ atom_form atom))
    → (first : Flat) × (rest : List Flat) × (atom : Flat) × (and f g ≡ conjunction (map atom_form (first ∷ (rest ++ atom ∷ []))))
joined_atoms f g (first, rest, is) (atom, that) = (
  first,
  rest,
  atom,
  ap (λ h. and h g) is ∙ ap (and (conjunction (map atom_form (first ∷ rest)))) that
      ∙ sym (chained_more joint.and (atom_form first) (map atom_form rest) (atom_form atom))
      ∙ ap (chained joint.and (atom_form first)) (sym (map-append atom_form rest (atom ∷ []))),
)

atoms_from : (f : Form) → AreAtoms f → (first : Flat) × (rest : List Flat) × (f ≡ conjunction (map atom_form (first ∷ rest)))
atoms_from (and f g) are = let (first, rest, atom, is) = joined_atoms f g (atoms_from f are.0) (atom_from g are.1) in (first, rest ++ atom ∷ [], is)
atoms_from f are = let (atom, is) = atom_from f are in (atom, [], is)

both_from : (f g : Form) → AreAtoms f → IsAtom g → (first : Flat) × (rest : List Flat) × (atom : Flat) × (and f g ≡ conjunction (map atom_form (first ∷ (rest ++ atom ∷ []))))
both_from f g are one = joined_atoms f g (atoms_from f are) (atom_from g one)

bound_from : (f : Form) → AreBound f → (xs : List ℕ) × (first : Flat) × (rest : List Flat) × (f ≡ behind exists xs (conjunction (map atom_form (first ∷ rest))))
bound_from (exists x f) are = let (xs, first, rest, is) = bound_from f are in (x ∷ xs, first, rest, ap (exists x) is)
bound_from f are = let (first, rest, is) = atoms_from f are in ([], first, rest, is)

denied_from : (f : Form) → IsDenied f → (bound : List ℕ) × (first : Flat) × (rest : List Flat) × (no f ≡ denied_form bound (first ∷ rest))
denied_from (exists x f) are = let (xs, first, rest, is) = bound_from f are in (x ∷ xs, first, rest, ap (λ g. no (exists x g)) is)
denied_from (equal t s) are = absurd are
denied_from (finite t) are = ([], Finite (variable_in t), [], ap (λ u. no (finite u)) (variable_term t are))
denied_from (and f g) are =
    let (first, rest, atom, is) = both_from f g are.0 are.1 in
    ([], first, rest ++ atom ∷ [], ap no is ∙ many_denied [] (first ∷ (rest ++ atom ∷ [])) (λ both. absurd (omega (arith, length-append rest (atom ∷ []), both.1))))
denied_from f are = absurd are

part_from : (f : Form) → IsPart f → (bound : List ℕ) × (first : Flat) × (rest : List Flat) × (f ≡ denied_form bound (first ∷ rest))
part_from (differ t s) is = by (flat_cases s is.1)
  where
    by : ((v : ℕ) × (s ≡ Var v)) ⊎ ((a : Symbol) × (xs : List ℕ) × (s ≡ applied a xs)) → (bound : List ℕ) × (first : Flat) × (rest : List Flat) × (differ t s ≡ denied_form bound (first ∷ rest))
    by (inl (v, e)) = ([], VarVar (variable_in t) v, [], ap (λ u. differ u s) (variable_term t is.0) ∙ ap (differ (Var (variable_in t))) e)
    by (inr (a, xs, e)) = ([], VarTerm (variable_in t) a xs, [], ap (λ u. differ u s) (variable_term t is.0) ∙ ap (differ (Var (variable_in t))) e)
part_from (no f) is = denied_from f is
part_from f is = absurd is

-- something stands in each of the parts
abbrev pub AreFull : List Denied → Type 0
AreFull parts = All (λ part. ¬ (part.basic ≡ [])) parts

-- the formula is put together of these atoms and parts
record IsConjunctionOf (f : Form) (basic : List Flat) (parts : List Denied) : Type 0 where
  some_item : ¬ ((basic ≡ []) × (parts ≡ []))
  full : AreFull parts
  is : f ≡ conjunction (map atom_form basic ++ map denied parts)

conjunction_more : (fs : List Form) (g : Form) → ¬ (fs ≡ []) → conjunction (fs ++ g ∷ []) ≡ and (conjunction fs) g
conjunction_more [] g some = absurd (some refl)
conjunction_more (f ∷ fs) g some = chained_more joint.and f fs g

some_form : (basic : List Flat) (parts : List Denied) → ¬ ((basic ≡ []) × (parts ≡ [])) → ¬ (map atom_form basic ++ map denied parts ≡ [])
some_form [] [] some e = some (refl, refl)
some_form [] (part ∷ rest) some e = absurd (cc e)
some_form (atom ∷ rest) parts some e = absurd (cc e)

-- behind one part more
with_part : (f : Form) (basic : List Flat) (parts : List Denied) (part : Denied) → IsConjunctionOf f basic parts → ¬ (part.basic ≡ []) → IsConjunctionOf (and f (denied part)) basic (parts ++ part ∷ [])
with_part f basic parts part of some = record {
  some_item = λ none. absurd (by parts none.1);
  full = All-append (λ part. ¬ (part.basic ≡ [])) parts (part ∷ []) of.full (All-cons (λ part. ¬ (part.basic ≡ [])) part [] some (All-nil (λ part. ¬ (part.basic ≡ []))));
  is = ap (λ g. and g (denied part)) of.is ∙ sym (conjunction_more (map atom_form basic ++ map denied parts) (denied part) (some_form basic parts of.some_item))
      ∙ ap conjunction (append_assoc (map atom_form basic) (map denied parts) (denied part ∷ []) ∙ ap (λ l. map atom_form basic ++ l) (sym (map-append denied parts (part ∷ []))));
}
  where
    by : (parts : List Denied) → parts ++ part ∷ [] ≡ [] → ⊥
    by [] e = absurd (cc e)
    by (p ∷ ps) e = absurd (cc e)

one_part : (bound : List ℕ) (first : Flat) (rest : List Flat) → AreFull (record { bound = bound; basic = first ∷ rest } ∷ [])
one_part bound first rest = All-cons (λ part. ¬ (part.basic ≡ [])) (record { bound = bound; basic = first ∷ rest }) [] (λ e. absurd (cc e)) (All-nil (λ part. ¬ (part.basic ≡ [])))

one_from : (f : Form) → IsAtom f ⊎ IsPart f → (basic : List Flat) × (parts : List Denied) × IsConjunctionOf f basic parts
one_from f (inl one) =
    let (atom, is) = atom_from f one in
    (atom ∷ [], [], record { some_item = λ none. absurd (cc (none.0)); full = All-nil (λ part. ¬ (part.basic ≡ [])); is = is })
one_from f (inr one) =
    let (bound, first, rest, is) = part_from f one in
    let part : Denied = record { bound = bound; basic = first ∷ rest } in
    ([], part ∷ [], record { some_item = λ none. absurd (cc (none.1)); full = one_part bound first rest; is = is })

items_from : (f : Form) → AreItems f → (basic : List Flat) × (parts : List Denied) × IsConjunctionOf f basic parts
items_from (and f g) (inl both) =
    let (first, rest, atom, is) = both_from f g both.0 both.1 in (
      first ∷ (rest ++ atom ∷ []),
      [],
      record {
        some_item = λ none. absurd (cc (none.0));
        full = All-nil (λ part. ¬ (part.basic ≡ []));
        is = is ∙ ap conjunction (sym (append-nil (map atom_form (first ∷ (rest ++ atom ∷ [])))));
      },
    )
items_from (and f g) (inr both) =
    let (basic, parts, of) = items_from f both.0 in
    let (bound, first, rest, is) = part_from g both.1 in
    let part : Denied = record { bound = bound; basic = first ∷ rest } in (
      basic,
      parts ++ part ∷ [],
      subst (λ (h : Form). IsConjunctionOf (and f h) basic (parts ++ part ∷ [])) (sym is) (with_part f basic parts part of (λ e. absurd (cc e))),
    )
items_from f are = one_from f are

-- the formula is put together as an explicit cube
pub record IsCubeOf (f : Form) (outer : List ℕ) (basic : List Flat) (parts : List Denied) : Type 0 where
  pub some_item : ¬ ((basic ≡ []) × (parts ≡ []))
  pub full : AreFull parts
  pub is : f ≡ explicit_cube outer basic parts

pub shaped_from : (f : Form) → IsShaped f → (outer : List ℕ) × (basic : List Flat) × (parts : List Denied) × IsCubeOf f outer basic parts
shaped_from (exists x f) are =
    let (outer, basic, parts, of) = shaped_from f are in
    (x ∷ outer, basic, parts, record { some_item = of.some_item; full = of.full; is = ap (exists x) of.is })
shaped_from f are = let (basic, parts, of) = items_from f are in ([], basic, parts, record { some_item = of.some_item; full = of.full; is = of.is })

-- ---- what is put together so is shaped

one_atoms : (atom : Flat) → AreAtoms (atom_form atom)
one_atoms (VarVar u v) = atom_is (VarVar u v)
one_atoms (VarTerm u s xs) = atom_is (VarTerm u s xs)
one_atoms (Finite u) = atom_is (Finite u)

atoms_and : (f : Form) (gs : List Flat) → AreAtoms f → AreAtoms (chained joint.and f (map atom_form gs))
atoms_and f [] are = are
atoms_and f (g ∷ gs) are = atoms_and (and f (atom_form g)) gs (are, atom_is g)

atoms_are : (first : Flat) (rest : List Flat) → AreAtoms (conjunction (map atom_form (first ∷ rest)))
atoms_are first rest = atoms_and (atom_form first) rest (one_atoms first)

bound_of_atoms : (f : Form) → AreAtoms f → AreBound f
bound_of_atoms (exists x f) are = absurd are
bound_of_atoms f are = are

bound_are : (xs : List ℕ) (first : Flat) (rest : List Flat) → AreBound (behind exists xs (conjunction (map atom_form (first ∷ rest))))
bound_are [] first rest = bound_of_atoms (conjunction (map atom_form (first ∷ rest))) (atoms_are first rest)
bound_are (x ∷ xs) first rest = bound_are xs first rest

denied_and : (f g : Form) (hs : List Flat) → AreAtoms (chained joint.and (and f g) (map atom_form hs)) → IsDenied (chained joint.and (and f g) (map atom_form hs))
denied_and f g [] are = are
denied_and f g (h ∷ hs) are = denied_and (and f g) (atom_form h) hs are

many_part : (first next : Flat) (rest : List Flat) → IsDenied (conjunction (map atom_form (first ∷ next ∷ rest)))
many_part first next rest = denied_and (atom_form first) (atom_form next) rest (atoms_are first (next ∷ rest))

part_is : (bound : List ℕ) (basic : List Flat) → ¬ (basic ≡ []) → IsPart (denied_form bound basic)
part_is [] [] some = absurd (some refl)
part_is [] (VarVar u v ∷ []) some = (var_is u, var_flat v)
part_is [] (VarTerm u s xs ∷ []) some = (var_is u, app_flat s xs)
part_is [] (Finite u ∷ []) some = var_is u
part_is [] (VarVar u v ∷ next ∷ rest) some = many_part (VarVar u v) next rest
part_is [] (VarTerm u s xs ∷ next ∷ rest) some = many_part (VarTerm u s xs) next rest
part_is [] (Finite u ∷ next ∷ rest) some = many_part (Finite u) next rest
part_is (x ∷ bound) [] some = absurd (some refl)
part_is (x ∷ bound) (first ∷ rest) some = bound_are bound first rest

items_and : (f : Form) (parts : List Denied) → AreFull parts → AreItems f → AreItems (chained joint.and f (map denied parts))
items_and f [] full are = are
items_and f (part ∷ rest) full are =
    items_and (and f (denied part)) rest (All-tail (λ part. ¬ (part.basic ≡ [])) part rest full)
    (inr (are, part_is part.bound part.basic (All-head (λ part. ¬ (part.basic ≡ [])) part rest full)))

items_of_atoms : (f : Form) → AreAtoms f → AreItems f
items_of_atoms (and f g) are = inl are
items_of_atoms f are = inl are

items_of_part : (f : Form) → IsPart f → AreItems f
items_of_part (and f g) is = absurd is
items_of_part f is = inr is

chained_append : (f : Form) (gs hs : List Form) → chained joint.and f (gs ++ hs) ≡ chained joint.and (chained joint.and f gs) hs
chained_append f [] hs = refl
chained_append f (g ∷ gs) hs = chained_append (and f g) gs hs

items_are : (basic : List Flat) (parts : List Denied) → ¬ ((basic ≡ []) × (parts ≡ [])) → AreFull parts → AreItems (conjunction (map atom_form basic ++ map denied parts))
items_are [] [] some full = absurd (some (refl, refl))
items_are [] (part ∷ rest) some full =
    items_and (denied part) rest (All-tail (λ part. ¬ (part.basic ≡ [])) part rest full)
    (items_of_part (denied part) (part_is part.bound part.basic (All-head (λ part. ¬ (part.basic ≡ [])) part rest full)))
items_are (atom ∷ more) parts some full =
    subst AreItems (sym (chained_append (atom_form atom) (map atom_form more) (map denied parts)))
    (items_and (conjunction (map atom_form (atom ∷ more))) parts full (items_of_atoms (conjunction (map atom_form (atom ∷ more))) (atoms_are atom more)))

shaped_of_items : (f : Form) → AreItems f → IsShaped f
shaped_of_items (exists x f) (inl one) = absurd one
shaped_of_items (exists x f) (inr one) = absurd one
shaped_of_items f are = are

pub shaped_is : (outer : List ℕ) (basic : List Flat) (parts : List Denied) → ¬ ((basic ≡ []) × (parts ≡ [])) → AreFull parts → IsShaped (explicit_cube outer basic parts)
shaped_is [] basic parts some full = shaped_of_items (conjunction (map atom_form basic ++ map denied parts)) (items_are basic parts some full)
shaped_is (x ∷ outer) basic parts some full = shaped_is outer basic parts some full

-- ---- shaped formulas are simple, and no disjunctions

simple_atom : (f : Form) → IsAtom f → IsSimple f
simple_atom (equal t s) is = is
simple_atom (finite t) is = is
simple_atom f is = absurd is

simple_atoms : (f : Form) → AreAtoms f → IsSimple f
simple_atoms (and f g) are = (simple_atoms f are.0, simple_atom g are.1)
simple_atoms f are = simple_atom f are

simple_bound : (f : Form) → AreBound f → IsSimple f
simple_bound (exists x f) are = simple_bound f are
simple_bound f are = simple_atoms f are

simple_denied : (f : Form) → IsDenied f → IsSimple f
simple_denied (exists x f) are = simple_bound f are
simple_denied (equal t s) are = absurd are
simple_denied f are = simple_atoms f are

simple_part : (f : Form) → IsPart f → IsSimple f
simple_part (differ t s) is = is
simple_part (no f) is = simple_denied f is
simple_part f is = absurd is

simple_one : (f : Form) → IsAtom f ⊎ IsPart f → IsSimple f
simple_one f (inl one) = simple_atom f one
simple_one f (inr one) = simple_part f one

simple_items : (f : Form) → AreItems f → IsSimple f
simple_items (and f g) (inl both) = (simple_atoms f both.0, simple_atom g both.1)
simple_items (and f g) (inr both) = (simple_items f both.0, simple_part g both.1)
simple_items f are = simple_one f are

pub simple_shaped : (f : Form) → IsShaped f → IsSimple f
simple_shaped (exists x f) are = simple_shaped f are
simple_shaped f are = simple_items f are

pub one_shaped : (f : Form) → IsShaped f → disjuncts_of f ≡ f ∷ []
one_shaped (or f g) (inl one) = absurd one
one_shaped (or f g) (inr one) = absurd one
one_shaped f are = refl

-- ---- flat terms are equal where their equations are

terms_of : List Term → Terms
terms_of items = record { items = items }

pub flat_terms : (ts us : Terms) → All IsVariable (list_of ts) → All IsVariable (list_of us) → map variable_in (list_of ts) ≡ map variable_in (list_of us) → ts ≡ us
unfolding terms_of
flat_terms ts us left right same = ap terms_of (variable_terms (list_of ts) left ∙ ap (map (λ x. Var x)) same ∙ sym (variable_terms (list_of us) right))
