-- Negated conjunctions that tests make.
use Rattle.std.proofs.Common.{ℕ, ◌≡◌, ◌+◌, ◌<◌, List, [], ◌∷◌, ◌++◌, refl, sym, ap, ◌∙◌, subst, arith}
use Rattle.flat_form.specs.declared.atom.Flat.{Flat}
use Rattle.flat_form.specs.declared.normal.Normal.{Normal}
use Rattle.flat_form.specs.declared.normal.Normal.TheViews.{roll-Normal, the_lemmas}
use Rattle.flat_form.specs.declared.normal.Normals.{Normals}
use Rattle.flat_form.specs.Normals.{Norm, Norms, norm, none, also, norm_of, norms_of, list_of}
use Rattle.flat_form.specs.Numbering.{BasicOver, NormOver, NormsOver}
use Rattle.node_facts.specs.Branches.{with_parts}
use Rattle.normal_form.proofs.NormLists.{norms_list, norms_by_list, none_over, pushed_over, made_over}

rolled : (bound : ℕ) (basic : List Flat) (parts : Normals) → norm_of (roll-Normal (record { bound = bound; basic = basic; parts = parts })) ≡ norm bound basic (norms_of parts)
unfolding norm_of
rolled bound basic parts = search the_lemmas

-- without parts
pub leaf_over : (n m bound : ℕ) (basic : List Flat) (parts : Normals) → m ≡ n + bound → list_of parts ≡ [] → BasicOver m basic
    → NormOver n (norm_of (roll-Normal (record { bound = bound; basic = basic; parts = parts })))
leaf_over n m bound basic parts same is over = made_over n m bound basic parts same over (none_over m parts is)

-- with one part
pub one_over : (n : ℕ) (basic : List Flat) (empty parts : Normals) (x : Normal) → list_of empty ≡ [] → list_of parts ≡ list_of empty ++ x ∷ [] → BasicOver n basic
    → NormOver n (norm_of x) → NormOver n (norm_of (roll-Normal (record { bound = 0; basic = basic; parts = parts })))
one_over n basic empty parts x is pushed over here =
    made_over n n 0 basic parts (omega arith) over (pushed_over n empty parts x pushed (none_over n empty is) here)

-- with two
pub two_over : (n : ℕ) (basic : List Flat) (empty one parts : Normals) (x y : Normal) → basic ≡ [] → list_of empty ≡ [] → list_of one ≡ list_of empty ++ x ∷ []
    → list_of parts ≡ list_of one ++ y ∷ [] → NormOver n (norm_of x) → NormOver n (norm_of y)
    → NormOver n (norm_of (roll-Normal (record { bound = 0; basic = basic; parts = parts })))
two_over n basic empty one parts x y none_yet is first second here there =
    made_over n n 0 basic parts (omega arith) (subst (λ (z : List Flat). BasicOver n z) (sym none_yet) (λ k d low. absurd (omega (arith, low))))
    (pushed_over n one parts y second (pushed_over n empty one x first (none_over n empty is) here) there)

some_listed : (bound : ℕ) (basic : List Flat) (items : List Normal) (x : Normal) → 0 < with_parts (norm bound basic (norms_list (items ++ x ∷ [])))
some_listed bound basic [] x = omega arith
some_listed bound basic (y ∷ ys) x = omega arith

pub one_has_parts : (bound : ℕ) (basic : List Flat) (before parts : Normals) (x : Normal) → list_of parts ≡ list_of before ++ x ∷ []
    → 0 < with_parts (norm_of (roll-Normal (record { bound = bound; basic = basic; parts = parts })))
one_has_parts bound basic before parts x pushed =
    subst (λ (z : Norm). 0 < with_parts z) (sym (rolled bound basic parts))
    (subst (λ (z : Norms). 0 < with_parts (norm bound basic z)) (sym (norms_by_list parts ∙ ap norms_list pushed)) (some_listed bound basic (list_of before) x))
