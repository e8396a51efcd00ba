-- The names of settled contents are the classes.
use Rattle.std.proofs.Common.{ℕ, ◌≡◌, List, map, sym, ap, ◌∙◌, subst, arith}
use Rattle.std.specs.Prelude.{slice_index, Contains}
use Rattle.std.proofs.lemmas.List.{length-map}
use Rattle.tree_model.specs.declared.tree.Symbol.{Symbol}
use Rattle.flat_form.specs.declared.atom.Flat.{Flat}
use Rattle.flat_form.specs.declared.atom.Flat.TheVariants.{VarVar, VarTerm}
use Rattle.flat_facts.specs.Names.{IsClosed}
use Rattle.flat_facts.proofs.Names.{names_classes}
use Rattle.term_graph.specs.Contents.{Contents}
use Rattle.settled_facts.specs.Settled.{name, HasTermIn}
use Rattle.settled_facts.specs.Forms.{SettledIsClosed, SettledNamesAreClasses}
use Rattle.settled_facts.proofs.Terms.{one_term, named_at, named_same}

-- names that follow the atoms, with a term for each class that has one, and one class for each term
pub closed_by : (c : Contents) (atoms : List Flat) → ((u v : ℕ) → Contains atoms (VarVar u v) → name c u ≡ name c v)
    → ((u : ℕ) (s : Symbol) (xs : List ℕ) → Contains atoms (VarTerm u s xs) → HasTermIn c (name c u) s (map (name c) xs))
    → ((q r : ℕ) (s : Symbol) (ys : List ℕ) → HasTermIn c q s ys → HasTermIn c r s ys → q ≡ r) → IsClosed atoms (name c)
closed_by c atoms equal held apart = record {
  equal = equal;
  arguments = λ u v s xs ys a b len e i w.
      let same : map (name c) xs ≡ map (name c) ys = (one_term c (name c u) s s (map (name c) xs) (map (name c) ys) (held u s xs a)
      (subst (λ (z : ℕ). HasTermIn c z s (map (name c) ys)) (sym e) (held v s ys b))).1 in
      sym (named_at c xs i w) ∙ ap (λ (z : List ℕ). slice_index z i) same ∙ named_at c ys i (omega (arith, len));
  terms = λ u v s xs ys a b len each.
      let same : map (name c) xs ≡ map (name c) ys = named_same c xs (map (name c) ys) (len ∙ sym (length-map ys (name c)))
      (λ i w. each i w ∙ sym (named_at c ys i (omega (arith, len)))) in
      apart (name c u) (name c v) s (map (name c) ys) (subst (λ (z : List ℕ). HasTermIn c (name c u) s z) same (held u s xs a)) (held v s ys b);
}

pub settled_closed : SettledIsClosed
settled_closed c owners atoms shaped settled = closed_by c atoms settled.equal settled.held settled.apart

pub settled_classes : SettledNamesAreClasses
settled_classes c owners atoms shaped settled = names_classes atoms (name c) (settled_closed c owners atoms shaped settled) settled.follows.sound
