-- Negated conjunctions as plain data, by their items and fields.
use Rattle.std.proofs.Common.{ℕ, ◌≡◌, List, [], ◌∷◌, ◌++◌, refl, ap, ◌∙◌, sym}
use Rattle.flat_form.specs.declared.atom.Flat.{Flat}
use Rattle.flat_form.specs.declared.normal.Normal.TheViews as views
use Rattle.flat_form.specs.declared.normal.Normal.{Normal, Normal'}
use Rattle.flat_form.specs.declared.normal.Normal.TheViews.{out-Normals, out-Normal, roll-Normals, roll-Normal, the_lemmas}
use Rattle.flat_form.specs.declared.normal.Normals.{Normals}
use Rattle.flat_form.specs.Normals.{Norms, norm, none, also, norm_of, norms_of, row_norms, list_of, join}

abbrev pub norms_list : List Normal → Norms
norms_list [] = none
norms_list (x ∷ xs) = also (norm_of x) (norms_list xs)

hidden_norms : (xs : List Normal) → row_norms (Rattle.flat_form.specs.declared.normal.Normal.TheBlock.hidden-the_row-Normal-0 xs) ≡ norms_list xs
unfolding norm_of norms_of row_norms Rattle.flat_form.specs.declared.normal.Normal.TheBlock.hidden-the_row-Normal-0 denote.Hole.Carrier.hidden
hidden_norms [] = refl
hidden_norms (x ∷ xs) = ap (also (norm_of x)) (hidden_norms xs)

rolled_norms : (items : List Normal) → norms_of (roll-Normals (record { items = items })) ≡ norms_list items
unfolding norm_of norms_of row_norms
rolled_norms items = ap norms_of (views.rolls-struct-Normals (record { items = items })) ∙ hidden_norms items

-- `norms_of`, by the list
pub norms_by_list : (ns : Normals) → norms_of ns ≡ norms_list (list_of ns)
norms_by_list ns = ap norms_of (sym (views.roll-out-Normals ns)) ∙ rolled_norms (list_of ns)

norms_list-push : (xs : List Normal) (n : Normal) → norms_list (xs ++ n ∷ []) ≡ join (norms_list xs) (also (norm_of n) none)
norms_list-push [] n = refl
norms_list-push (x ∷ xs) n = ap (also (norm_of x)) (norms_list-push xs n)

pub pushed : (ns new : Normals) (n : Normal) → list_of new ≡ list_of ns ++ n ∷ [] → norms_of new ≡ join (norms_of ns) (also (norm_of n) none)
pushed ns new n e = rw (norms_by_list new, norms_by_list ns, e) (norms_list-push (list_of ns) n)

pub none_made : (ns : Normals) → list_of ns ≡ [] → norms_of ns ≡ none
none_made ns e = rw (norms_by_list ns, e) refl

pub join_none : (ps : Norms) → join ps none ≡ ps
join_none none = refl
join_none (also p ps) = ap (also p) (join_none ps)

pub join_join : (ps qs rs : Norms) → join (join ps qs) rs ≡ join ps (join qs rs)
join_join none qs rs = refl
join_join (also p ps) qs rs = ap (also p) (join_join ps qs rs)

pub norm_rolled : (bound : ℕ) (basic : List Flat) (parts : Normals) → norm_of (roll-Normal (record { bound = bound; basic = basic; parts = parts })) ≡ norm bound basic (norms_of parts)
unfolding norm_of
norm_rolled bound basic parts = search the_lemmas

-- `norm_of`, by the fields
pub norm_by_fields : (x : Normal) → norm_of x ≡ norm (out-Normal x).bound (out-Normal x).basic (norms_of (out-Normal x).parts)
norm_by_fields x = ap norm_of (sym (views.roll-out-Normal x)) ∙ norm_rolled (out-Normal x).bound (out-Normal x).basic (out-Normal x).parts

pub ruleset norm_rules = (pushed, none_made, join_none, join_join, norm_rolled)
