-- Contents that say the same settle the same.
use Rattle.std.proofs.Common.{ℕ, zero, suc, ◌<◌, ◌≡◌, true, false, List, [], ◌∷◌, ◌++◌, length, map, refl, sym, ◌∙◌, ap, subst, arith}
use Rattle.std.specs.Prelude.{Contains, slice_index, slice_index_or}
use Rattle.tree_model.specs.declared.tree.Symbol.{Symbol}
use Rattle.flat_form.specs.declared.atom.Flat.{Flat}
use Rattle.flat_form.specs.declared.atom.Flat.TheVariants.{VarVar, VarTerm, Finite}
use Rattle.flat_form.specs.Classes.{Class, itself, Reached, marked, child}
use Rattle.term_graph.specs.declared.bound.Bound.TheVariants.{Free, Term}
use Rattle.term_graph.specs.Contents.{Contents, binding_of, target, term_at, HasKey, with_variable}
use Rattle.term_graph.proofs.Forests.{root-added, root_of_root}
use Rattle.settled_facts.specs.Settled.{name, HasTermIn, Firm, leaf, node, IsSettled}
use Rattle.settled_facts.specs.Variables.{VariableKeepsSettled, NothingIsSettled}

-- d says what c does, variable by variable
pub record IsAlike (c d : Contents) : Type 0 where
  pub names : (v : ℕ) → name d v ≡ name c v
  pub bindings : (r : ℕ) → binding_of d.bindings r ≡ binding_of c.bindings r
  pub marks : (r : ℕ) → slice_index_or d.marks r false ≡ slice_index_or c.marks r false
  pub terms : d.terms ≡ c.terms

turned : (c d : Contents) → IsAlike c d → IsAlike d c
turned c d alike = record {
  names = λ v. sym (alike.names v);
  bindings = λ r. sym (alike.bindings r);
  marks = λ r. sym (alike.marks r);
  terms = sym alike.terms;
}

module _ (c d : Contents) (alike : IsAlike c d) where
  named_alike : (xs : List ℕ) → map (name d) xs ≡ map (name c) xs
  named_alike [] = refl
  named_alike (x ∷ xs) = ap (λ z. z ∷ map (name d) xs) (alike.names x) ∙ ap (λ zs. name c x ∷ zs) (named_alike xs)

  key_alike : (s : Symbol) (ys : List ℕ) (t : ℕ) → HasKey c.bindings c.terms s ys t → HasKey d.bindings d.terms s ys t
  key_alike s ys t key = record {
    within = subst (λ z. t < length z) (sym alike.terms) key.within;
    sign = ap (λ z. (term_at z t).symbol) alike.terms ∙ key.sign;
    args = named_alike (term_at d.terms t).args ∙ ap (λ z. map (name c) (term_at z t).args) alike.terms ∙ key.args;
  }

  term_alike : (r : ℕ) (s : Symbol) (ys : List ℕ) → HasTermIn c r s ys → HasTermIn d r s ys
  term_alike r s ys has = record { term = has.term; bound = alike.bindings r ∙ has.bound; key = key_alike s ys has.term has.key }

  firm_alike : {r : ℕ} → Firm c r → Firm d r
  firm_alike {r} (leaf free mark) = leaf (alike.bindings r ∙ free) (alike.marks r ∙ mark)
  firm_alike {r} (node s ys has each) = node s ys (term_alike r s ys has) (λ i w. firm_alike (each i w))

pub settled_alike : (c d : Contents) (owners : List ℕ) (atoms : List Flat) → IsAlike c d → IsSettled c owners atoms → IsSettled d owners atoms
settled_alike c d owners atoms alike is =
    let back = turned c d alike in
    record {
      follows = record {
        sound = λ v. subst (Class atoms v) (sym (alike.names v)) (is.follows.sound v);
        given = λ r s ys has.
            let given = is.follows.given r s ys (term_alike d c back r s ys has) in
            (given.0, given.1, given.2, alike.names given.0 ∙ given.3, named_alike c d alike given.1 ∙ given.4);
        marked = λ r free mark. is.follows.marked r (sym (alike.bindings r) ∙ free) (sym (alike.marks r) ∙ mark);
      };
      equal = λ u v stands. alike.names u ∙ is.equal u v stands ∙ sym (alike.names v);
      held = λ u s xs stands.
          subst (λ z. HasTermIn d z s (map (name d) xs)) (sym (alike.names u))
          (subst (λ ks. HasTermIn d (name c u) s ks) (sym (named_alike c d alike xs)) (term_alike c d alike (name c u) s (map (name c) xs) (is.held u s xs stands)));
      apart = λ q r s ys one other. is.apart q r s ys (term_alike d c back q s ys one) (term_alike d c back r s ys other);
      owned = λ t s keys key.
          subst (λ z. HasTermIn d z s keys) (sym (alike.names (slice_index owners t)))
          (term_alike c d alike (name c (slice_index owners t)) s keys (is.owned t s keys (key_alike d c back s keys t key)));
      firm = λ v reached. subst (Firm d) (sym (alike.names v)) (firm_alike c d alike (is.firm v reached));
    }

-- the default stands last
default_last : {X : Type 0} (xs : List X) (x : X) (i : ℕ) → slice_index_or (xs ++ x ∷ []) i x ≡ slice_index_or xs i x
default_last [] x zero = refl
default_last [] x (suc i) = refl
default_last (y ∷ ys) x zero = refl
default_last (y ∷ ys) x (suc i) = default_last ys x i

pub variable_keeps : VariableKeepsSettled
variable_keeps c owners atoms shaped is = settled_alike c (with_variable c) owners atoms (record {
  names = root-added c.bindings shaped.forest;
  bindings = default_last c.bindings Free;
  marks = default_last c.marks false;
  terms = refl;
}) is

none_in : {X : Type 0} (x : X) → ¬ Contains [] x
none_in x inside = omega (arith, inside.1)

pub nothing_settled : NothingIsSettled
nothing_settled c owners no_bindings no_marks no_terms =
    let own : (v : ℕ) → name c v ≡ v = λ v. root_of_root c.bindings v (ap (λ b. target (binding_of b v)) no_bindings) in
    let bare : (r : ℕ) (s : Symbol) (ys : List ℕ) → ¬ HasTermIn c r s ys = λ r s ys has.
    let bound : Free ≡ Term has.term = ap (λ b. binding_of b r) (sym no_bindings) ∙ has.bound in cc in
    record {
      follows = record {
        sound = λ v. subst (Class [] v) (sym (own v)) (itself v);
        given = λ r s ys has. absurd (bare r s ys has);
        marked = λ r free mark. absurd (let no : false ≡ true = ap (λ m. slice_index_or m r false) (sym no_marks) ∙ mark in cc);
      };
      equal = λ u v stands. absurd (none_in (VarVar u v) stands);
      held = λ u s xs stands. absurd (none_in (VarTerm u s xs) stands);
      apart = λ q r s ys one other. absurd (bare q s ys one);
      owned = λ t s keys key. absurd (omega (arith, key.within, ap length no_terms));
      firm = λ v reached. absurd (unreached reached);
    }
  where
    unreached : {v : ℕ} → ¬ Reached [] v
    unreached (marked {u} {v} stands one) = none_in (Finite u) stands
    unreached (child {u} {w} s xs reached stands i w2 one) = none_in (VarTerm u s xs) stands
