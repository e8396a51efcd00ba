-- Contents settle what is read off them.
use Rattle.std.proofs.Common.{ℕ, ◌≡◌, ◌<◌, List, map, length, sym, ◌∙◌, subst, arith, inl, inr}
use Rattle.std.specs.Prelude.{Contains}
use Rattle.std.proofs.lemmas.Bool.{cases_eq}
use Rattle.tree_model.specs.declared.tree.Symbol.{Symbol}
use Rattle.flat_form.specs.declared.atom.Flat.{Flat}
use Rattle.flat_form.specs.declared.atom.Flat.TheVariants.{VarVar, VarTerm, Finite}
use Rattle.flat_form.specs.Classes.{Class, itself, stated, turned, joined, Reached, marked, child}
use Rattle.term_graph.specs.Contents.{Contents}
use Rattle.settled_facts.specs.Settled.{name, IsFree, IsMarked, IsShaped, HasTermIn, leaf, Follows, IsSettled}
use Rattle.settled_facts.specs.Forms.{IsLeast, AreLeast, IsReadOff, FormSettles}
use Rattle.flat_facts.specs.Names.{IsClosed}
use Rattle.flat_facts.proofs.Names.{class_named}
use Rattle.settled_facts.proofs.Closing.{closed_by}
use Rattle.settled_facts.proofs.Terms.{named_same, name_free, name_term, name_twice, name_argument, free_no_term}
use Rattle.settled_facts.proofs.Forms.{least_of, least_all, least_moves}

module _ (c : Contents) (form : List Flat) (shaped : IsShaped c) (read : IsReadOff c form) where
  -- a variable is in the class of the least one with its name
  to_least : (v l : ℕ) → IsLeast c v l → Class form v l
  to_least v l m = elim (cases_eq v l) [
    | inl e ↦ subst (λ (z : ℕ). Class form v z) e (itself v)
    | inr d ↦ stated (read.all (VarVar v l) (m, d))
  ]

  one_class : (u v : ℕ) → name c u ≡ name c v → Class form u v
  one_class u v e = let (l, m) = least_of c v in joined (to_least u l (least_moves c v u l (sym e) m)) (turned (to_least v l m))

  own_least : (v l : ℕ) → IsLeast c v l → IsLeast c l l
  own_least v l m = least_moves c v l l (sym m.same) m

  -- the arguments have the names of the least ones
  least_names : (r : ℕ) (s : Symbol) (keys ys : List ℕ) → HasTermIn c r s keys → AreLeast c keys ys → map (name c) ys ≡ keys
  least_names r s keys ys h are = named_same c ys keys are.as_many (λ i w. (let l : i < length keys = omega (arith, are.as_many) in
      (are.each i l).same ∙ name_argument c shaped r s keys h i l))

  pub held_form : (u : ℕ) (s : Symbol) (ys : List ℕ) → Contains form (VarTerm u s ys) → HasTermIn c (name c u) s (map (name c) ys)
  held_form u s ys i =
      let (m, keys, h, are) = read.each (VarTerm u s ys) i in
      subst (λ (z : List ℕ). HasTermIn c (name c u) s z) (sym (least_names (name c u) s keys ys h are)) h

  given_form : (r : ℕ) (s : Symbol) (keys : List ℕ) → HasTermIn c r s keys
      → (u : ℕ) × (xs : List ℕ) × Contains form (VarTerm u s xs) × (name c u ≡ r) × (map (name c) xs ≡ keys)
  given_form r s keys h =
      let (l, m) = least_of c r in
      let (ys, are) = least_all c keys in
      let own : name c l ≡ r = m.same ∙ name_term c r s keys h in (
        l,
        ys,
        read.all (VarTerm l s ys) (own_least r l m, keys, subst (λ (z : ℕ). HasTermIn c z s keys) (sym own) h, are),
        own,
        least_names r s keys ys h are,
      )

  marked_form : (r : ℕ) → IsFree c r → IsMarked c r → Reached form r
  marked_form r f k =
      let (l, m) = least_of c r in
      let own : name c l ≡ r = m.same ∙ name_free c r f in
      marked (read.all (Finite l) (own_least r l m, subst (λ (z : ℕ). IsFree c z) (sym own) f, subst (λ (z : ℕ). IsMarked c z) (sym own) k))
      (one_class l r m.same)

  pub form_follows : Follows c form
  form_follows = record {
    sound = λ v. one_class v (name c v) (sym (name_twice c shaped v));
    given = given_form;
    marked = marked_form;
  }

module _ (c : Contents) (owners : List ℕ) (atoms form : List Flat) (shaped : IsShaped c) (settled : IsSettled c owners atoms) (read : IsReadOff c form) where
  form_equal : (u v : ℕ) → Contains form (VarVar u v) → name c u ≡ name c v
  form_equal u v i = sym (read.each (VarVar u v) i).0.same

  form_closed : IsClosed form (name c)
  form_closed = closed_by c form form_equal (held_form c form shaped read) settled.apart

  -- what the form reaches is the class of a finite variable, which has no term
  reached_marked : {v : ℕ} → Reached form v → IsFree c (name c v) × IsMarked c (name c v)
  reached_marked (marked {u} {v} i k) =
      let (m, f, n) = read.each (Finite u) i in
      let same : name c u ≡ name c v = class_named form (name c) form_closed k in
      (subst (λ (z : ℕ). IsFree c z) same f, subst (λ (z : ℕ). IsMarked c z) same n)
  reached_marked (child {u} {w} s xs r i k l d) =
      absurd (free_no_term c (name c u) s (map (name c) xs) (reached_marked r).0 (held_form c form shaped read u s xs i))

  form_settled : IsSettled c owners form
  form_settled = record {
    follows = form_follows c form shaped read;
    equal = form_equal;
    held = held_form c form shaped read;
    apart = settled.apart;
    owned = settled.owned;
    firm = λ v r. (let m = reached_marked r in leaf m.0 m.1);
  }

pub form_settles : FormSettles
form_settles c owners atoms form shaped settled read = form_settled c owners atoms form shaped settled read
