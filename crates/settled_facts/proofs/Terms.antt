-- Terms that roots are bound to, and names.
use Rattle.std.proofs.Common.{ℕ, ◌≡◌, ◌<◌, List, map, length, refl, sym, ap, ◌∙◌, subst, arith}
use Rattle.std.specs.Prelude.{slice_index, Some, None}
use Rattle.std.proofs.lemmas.List.{get_or-map, length-map}
use Rattle.std.proofs.lemmas.Grind.{same_number_lists}
use Rattle.tree_model.specs.declared.tree.Symbol.{Symbol}
use Rattle.flat_form.specs.declared.atom.Flat.{Flat}
use Rattle.flat_form.specs.Classes.{Class, joined, turned}
use Rattle.term_graph.specs.declared.bound.Bound.{Bound}
use Rattle.term_graph.specs.declared.bound.Bound.TheVariants.{Free, Variable, Term}
use Rattle.term_graph.specs.declared.term.Term.{Term as Made}
use Rattle.term_graph.specs.Contents.{Contents, binding_of, target, target_of, root, HasKey, term_at, IsWellFormed}
use Rattle.term_graph.proofs.Forests.{root_of_root}
use Rattle.settled_facts.specs.Settled.{name, IsFree, IsMarked, IsShaped, HasTermIn, Firm, leaf, node, Follows}

pub shaped_of : (c : Contents) → IsWellFormed c → IsShaped c
shaped_of c is = record {
  forest = is.forest;
  marks = is.sizes;
  bound = is.bound_terms;
  arguments = λ t i within inside. is.arguments t within i 0 inside;
}

-- a root has one term
pub one_term : (c : Contents) (r : ℕ) (s q : Symbol) (xs ys : List ℕ) → HasTermIn c r s xs → HasTermIn c r q ys → (s ≡ q) × (xs ≡ ys)
one_term c r s q xs ys h k =
    let same : h.term ≡ k.term = (let e = h.bound in let f = k.bound in cc) in (
      sym h.key.sign ∙ ap (λ t. (term_at c.terms t).symbol) same ∙ k.key.sign,
      sym h.key.args ∙ ap (λ t. map (root c.bindings) (term_at c.terms t).args) same ∙ k.key.args,
    )

-- what a root is bound to, where the bindings and terms are the same
pub term_same : (old new : Contents) → new.bindings ≡ old.bindings → new.terms ≡ old.terms → (r : ℕ) (s : Symbol) (ys : List ℕ) → HasTermIn old r s ys → HasTermIn new r s ys
term_same old new bindings terms r s ys has = record {
  term = has.term;
  bound = ap (λ b. binding_of b r) bindings ∙ has.bound;
  key = subst (λ (ts : List Made). HasKey new.bindings ts s ys has.term) (sym terms) (subst (λ (b : List Bound). HasKey b old.terms s ys has.term) (sym bindings) has.key);
}

pub name_free : (c : Contents) (r : ℕ) → IsFree c r → name c r ≡ r
name_free c r e = root_of_root c.bindings r (ap target e)

pub name_bound : (c : Contents) (r t : ℕ) → binding_of c.bindings r ≡ Term t → name c r ≡ r
name_bound c r t e = root_of_root c.bindings r (ap target e)

pub name_term : (c : Contents) (r : ℕ) (s : Symbol) (ys : List ℕ) → HasTermIn c r s ys → name c r ≡ r
name_term c r s ys h = name_bound c r h.term h.bound

pub name_twice : (c : Contents) → IsShaped c → (v : ℕ) → name c (name c v) ≡ name c v
name_twice c shaped v = root_of_root c.bindings (root c.bindings v) (shaped.forest.ends v)

pub named_at : (c : Contents) (xs : List ℕ) (i : ℕ) → i < length xs → slice_index (map (name c) xs) i ≡ name c (slice_index xs i)
named_at c xs i w = get_or-map (name c) xs i 0 0 w

pub named_same : (c : Contents) (xs ys : List ℕ) → length xs ≡ length ys
    → ((i : ℕ) → i < length xs → name c (slice_index xs i) ≡ slice_index ys i) → map (name c) xs ≡ ys
named_same c xs ys len each = same_number_lists (map (name c) xs) ys (length-map xs (name c) ∙ len)
    (λ i w. (let l : i < length xs = omega (arith, length-map xs (name c)) in named_at c xs i l ∙ each i l))

-- the names of a term's arguments are names
pub name_argument : (c : Contents) → IsShaped c → (r : ℕ) (s : Symbol) (ys : List ℕ) → HasTermIn c r s ys → (i : ℕ) → i < length ys
    → name c (slice_index ys i) ≡ slice_index ys i
name_argument c shaped r s ys h i w =
    let args : List ℕ = (term_at c.terms h.term).args in
    let l : i < length args = omega (arith, ap length h.key.args, length-map args (name c)) in
    let e : slice_index ys i ≡ name c (slice_index args i) = ap (λ (z : List ℕ). slice_index z i) (sym h.key.args) ∙ named_at c args i l in
    ap (name c) e ∙ name_twice c shaped (slice_index args i) ∙ sym e

-- a root is free or has a term
pub data Kind (c : Contents) (r : ℕ) : Type 0 where
  free : IsFree c r → Kind c r
  applied : (s : Symbol) (ys : List ℕ) → HasTermIn c r s ys → Kind c r

kind_by : (c : Contents) → IsShaped c → (r : ℕ) → target_of c.bindings r ≡ None → (b : Bound) → binding_of c.bindings r ≡ b → Kind c r
kind_by c shaped r stop Free e = free e
kind_by c shaped r stop (Variable w) e = absurd (let f : target_of c.bindings r ≡ Some w = ap target e in cc)
kind_by c shaped r stop (Term t) e = applied (term_at c.terms t).symbol (map (name c) (term_at c.terms t).args)
    (record { term = t; bound = e; key = record { within = shaped.bound r t e; sign = refl; args = refl } })

pub kind_of : (c : Contents) → IsShaped c → (v : ℕ) → Kind c (name c v)
kind_of c shaped v = kind_by c shaped (name c v) (shaped.forest.ends v) (binding_of c.bindings (name c v)) refl

pub free_no_term : (c : Contents) (r : ℕ) (s : Symbol) (ys : List ℕ) → IsFree c r → ¬ HasTermIn c r s ys
free_no_term c r s ys e = λ h. (let f = h.bound in cc)

pub firm_marked : (c : Contents) (r : ℕ) → Firm c r → IsFree c r → IsMarked c r
firm_marked c r (leaf e m) f = m
firm_marked c r (node s ys h each) f = absurd (free_no_term c r s ys f h)

-- variables with one name are in one class
pub named_class : (c : Contents) (atoms : List Flat) → Follows c atoms → (u v : ℕ) → name c u ≡ name c v → Class atoms u v
named_class c atoms follows u v e =
    joined (follows.sound u) (turned (subst (λ (z : ℕ). Class atoms v z) (sym e) (follows.sound v)))
