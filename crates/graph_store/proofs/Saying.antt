-- What the contents say of one variable, and of all.
use Rattle.std.proofs.Common.{ℕ, ◌≡◌, ◌<◌, List, map, length, refl, sym, ap, ◌∙◌, subst, arith, Some, None}
use Rattle.std.specs.Prelude.{slice_index}
use Rattle.std.proofs.lemmas.List.{length-map}
use Rattle.std.proofs.lemmas.Grind.{same_number_lists}
use Rattle.tree_model.specs.declared.tree.Symbol.{Symbol}
use Rattle.flat_form.specs.declared.atom.Flat.{Flat}
use Rattle.flat_form.specs.declared.atom.Flat.TheVariants.{VarVar, VarTerm, Finite}
use Rattle.flat_form.specs.Solved.{variable_of}
use Rattle.term_graph.specs.declared.bound.Bound.TheVariants.{Term}
use Rattle.term_graph.specs.Contents.{Contents, binding_of, term_at}
use Rattle.settled_facts.specs.Settled.{name, IsFree, IsMarked, IsShaped, HasTermIn}
use Rattle.settled_facts.specs.Forms.{IsLeast, AreLeast, Says, IsReadOff}
use Rattle.settled_facts.proofs.Terms.{name_twice, named_at, one_term, free_no_term}
use Rattle.settled_facts.proofs.Forms.{one_least, least_moves}
use Rattle.settled_facts.proofs.ReadOff.{says_range}
use Rattle.graph_store.specs.Lines.{IsTheOne, AreThose}

-- the least ones of variables are those of their names
pub least_named : (c : Contents) → IsShaped c → (xs ys : List ℕ) → AreLeast c xs ys → AreLeast c (map (name c) xs) ys
least_named c shaped xs ys are = record {
  as_many = are.as_many ∙ sym (length-map xs (name c));
  each = λ i w.
      let l : i < length xs = omega (arith, w, length-map xs (name c)) in
      least_moves c (slice_index xs i) (slice_index (map (name c) xs) i) (slice_index ys i)
      (sym (ap (name c) (named_at c xs i l) ∙ name_twice c shaped (slice_index xs i))) (are.each i l);
}

-- the least ones are determined
pub one_list : (c : Contents) (xs ys zs : List ℕ) → AreLeast c xs ys → AreLeast c xs zs → ys ≡ zs
one_list c xs ys zs a b = same_number_lists ys zs (a.as_many ∙ sym b.as_many)
    (λ i w. (let l : i < length xs = omega (arith, w, a.as_many) in one_least c (slice_index xs i) (slice_index ys i) (slice_index zs i) (a.each i l) (b.each i l)))

module _ (c : Contents) (v : ℕ) where
  module _ (own : IsLeast c v v) where
    not_equal : (u k : ℕ) → u ≡ v → ¬ Says c (VarVar u k)
    not_equal u k e (n, f) = (let same : k ≡ v = one_least c v k v (subst (λ (z : ℕ). IsLeast c z k) e n) own in f (e ∙ sym same))

    module _ (s : Symbol) (keys ys : List ℕ) (has : HasTermIn c (name c v) s keys) (are : AreLeast c keys ys) where
      only_term : (other : Flat) → variable_of other ≡ v → Says c other → other ≡ VarTerm v s ys
      only_term (VarVar u k) e says = absurd (not_equal u k e says)
      only_term (VarTerm u q zs) e (n, more, h, also) =
          let there : HasTermIn c (name c v) q more = subst (λ (z : ℕ). HasTermIn c (name c z) q more) e h in
          let same = one_term c (name c v) q s more keys there has in
          let ends : zs ≡ ys = one_list c keys zs ys (subst (λ (z : List ℕ). AreLeast c z zs) same.1 also) are in
          let sign : q ≡ s = same.0 in
          cc
      only_term (Finite u) e (n, f, k) = absurd (free_no_term c (name c v) s keys (subst (λ (z : ℕ). IsFree c (name c z)) e f) has)

      pub says_term : IsTheOne (Says c) v (Some (VarTerm v s ys))
      says_term = (refl, (own, keys, has, are), only_term)

-- those of all variables are what is read off
pub all_read : (c : Contents) → IsShaped c → (n : ℕ) → n ≡ length c.bindings → (form : List Flat) → AreThose (Says c) n form → IsReadOff c form
all_read c shaped n e form are = record {
  ascending = are.ascending;
  each = λ a i. (are.each a i).0;
  all = λ a says. are.all a says (omega (arith, says_range c a shaped says, e));
}

-- what is said by way of a term that the root is bound to
pub term_said : (c : Contents) → IsShaped c → (v r t : ℕ) → IsLeast c v v → r ≡ name c v → binding_of c.bindings r ≡ Term t → (symbol : Symbol) (args least : List ℕ)
    → symbol ≡ (term_at c.terms t).symbol → args ≡ (term_at c.terms t).args → AreLeast c (map (name c) args) least → IsTheOne (Says c) v (Some (VarTerm v symbol least))
term_said c shaped v r t own e bound symbol args least sign list are =
    let at : binding_of c.bindings (name c v) ≡ Term t = ap (binding_of c.bindings) (sym e) ∙ bound in
    says_term c v own symbol (map (name c) args) least
    (record { term = t; bound = at; key = record { within = shaped.bound (name c v) t at; sign = sym sign; args = ap (map (name c)) (sym list) } }) are
