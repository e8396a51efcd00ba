-- What is read off settled contents is the solved form.
use Rattle.std.proofs.Common.{ℕ, suc, zero, ◌≡◌, ◌<◌, ◌≤◌, List, [], map, length, refl, sym, ap, ◌∙◌, subst, arith, inl, inr, ◌⊎◌}
use Rattle.std.specs.Prelude.{slice_index, Contains, ◌↔◌}
use Rattle.std.proofs.lemmas.List.{get_or-map, length-map}
use Rattle.std.proofs.lemmas.Bool.{cases_eq}
use Rattle.tree_model.specs.declared.tree.Symbol.{Symbol}
use Rattle.flat_form.specs.declared.atom.Flat.{Flat}
use Rattle.flat_form.specs.declared.atom.Flat.TheVariants.{VarVar, VarTerm, Finite}
use Rattle.flat_form.specs.Classes.{Class, Reached}
use Rattle.flat_form.specs.Added.{IsHead, by_term, by_root, Adds}
use Rattle.flat_facts.proofs.Shapes.{all_open}
use Rattle.flat_facts.proofs.Heads.{reached_class}
use Rattle.term_graph.specs.Contents.{Contents}
use Rattle.settled_facts.specs.Settled.{name, IsShaped, HasTermIn, IsSettled}
use Rattle.settled_facts.specs.Forms.{IsLeast, AreLeast, Says}
use Rattle.settled_facts.proofs.Terms.{named_at, kind_of, Kind, free, applied, free_no_term, firm_marked, name_twice}
use Rattle.settled_facts.proofs.Closing.{settled_classes}

nothing : (a : Flat) → ¬ Contains [] a
nothing a = λ i. omega (arith, i.1)

pub one_least : (c : Contents) (v l m : ℕ) → IsLeast c v l → IsLeast c v m → l ≡ m
one_least c v l m a b = omega (arith, a.least m b.same, b.least l a.same)

-- the least variable with a name
record Lowest (c : Contents) (v n : ℕ) : Type 0 where
  lowest : ℕ
  same : name c lowest ≡ name c v
  least : (u : ℕ) → u < n → name c u ≡ name c v → lowest ≤ u

le_or_lt : (m n : ℕ) → (m ≤ n) ⊎ (n < m)
le_or_lt m n = grind arith

lowest_of : (c : Contents) (v n : ℕ) → Lowest c v n
lowest_of c v zero = record { lowest = v; same = refl; least = λ u w. absurd (omega (arith, w)) }
lowest_of c v (suc n) = let l = lowest_of c v n in elim (cases_eq (name c n) (name c v)) [
  | inl e ↦ elim (le_or_lt l.lowest n) [
    | inl le ↦ record { lowest = l.lowest; same = l.same; least = λ u w f. elim (le_or_lt n u) [ inl h ↦ omega (arith, le, h, w) | inr h ↦ l.least u h f ] }
    | inr lt ↦ record { lowest = n; same = e; least = λ u w f. elim (le_or_lt n u) [ inl h ↦ h | inr h ↦ omega (arith, l.least u h f, lt) ] }
  ]
  | inr d ↦ record {
    lowest = l.lowest;
    same = l.same;
    least = λ u w f. elim (le_or_lt n u) [
      | inl h ↦ absurd (let g : u ≡ n = omega (arith, h, w) in d (ap (name c) (sym g) ∙ f))
      | inr h ↦ l.least u h f
    ];
  }
]

pub least_of : (c : Contents) (v : ℕ) → (l : ℕ) × IsLeast c v l
least_of c v = let l = lowest_of c v (suc v) in (
  l.lowest,
  record {
    same = l.same;
    least = λ u e. elim (le_or_lt u v) [
      | inl le ↦ l.least u (omega (arith, le)) e
      | inr lt ↦ omega (arith, l.least v (omega arith) refl, lt)
    ];
  },
)

-- those of the arguments
pub least_all : (c : Contents) (xs : List ℕ) → (ys : List ℕ) × AreLeast c xs ys
least_all c xs = (
  map (λ x. (least_of c x).0) xs,
  record { as_many = length-map xs (λ x. (least_of c x).0); each = λ i w. read i w },
)
  where
    read : (i : ℕ) → i < length xs → IsLeast c (slice_index xs i) (slice_index (map (λ x. (least_of c x).0) xs) i)
    read i w = subst (λ (z : ℕ). IsLeast c (slice_index xs i) z) (sym (get_or-map (λ x. (least_of c x).0) xs i 0 0 w)) (least_of c (slice_index xs i)).1

pub least_moves : (c : Contents) (u v l : ℕ) → name c u ≡ name c v → IsLeast c u l → IsLeast c v l
least_moves c u v l e m = record { same = m.same ∙ e; least = λ w f. m.least w (f ∙ sym e) }

module _ (c : Contents) (owners : List ℕ) (atoms : List Flat) (shaped : IsShaped c) (settled : IsSettled c owners atoms) where
  pub classes : (u v : ℕ) → Class atoms u v ↔ (name c u ≡ name c v)
  classes = settled_classes c owners atoms shaped settled

  least_head : (v l : ℕ) → IsLeast c v l → IsHead [] atoms v l
  least_head v l m = by_root (λ w k t. nothing (VarTerm w t.0 t.1) t.2) ((classes v l).1 (sym m.same)) (all_open l) (λ w k o. m.least w (sym ((classes v w).0 k)))

  head_least : (v l : ℕ) → IsHead [] atoms v l → IsLeast c v l
  head_least v l (by_term k (s, xs, i) m) = absurd (nothing (VarTerm l s xs) i)
  head_least v l (by_root n k o m) = record { same = sym ((classes v l).0 k); least = λ u e. m u ((classes v u).1 (sym e)) (all_open u) }

  held_at : (v u : ℕ) (s : Symbol) (xs : List ℕ) → Class atoms v u → Contains atoms (VarTerm u s xs) → HasTermIn c (name c v) s (map (name c) xs)
  held_at v u s xs k i = subst (λ (z : ℕ). HasTermIn c z s (map (name c) xs)) (sym ((classes v u).0 k)) (settled.held u s xs i)

  pub says_adds : (a : Flat) → Says c a → Adds [] atoms a
  says_adds (VarVar v l) (m, d) = record { bare = all_open v; head = least_head v l m; differ = d }
  says_adds (VarTerm v s ys) (m, keys, h, are) =
      let (u, xs, stands, e, args) = settled.follows.given (name c v) s keys h in
      let len : length keys ≡ length xs = ap length (sym args) ∙ length-map xs (name c) in
      record {
        bare = all_open v;
        head = least_head v v m;
        variable = u;
        xs = xs;
        one_class = (classes v u).1 (sym e);
        stands = stands;
        as_many = are.as_many ∙ len;
        heads = λ i w.
            let key : slice_index keys i ≡ name c (slice_index xs i) = ap (λ (z : List ℕ). slice_index z i) (sym args) ∙ named_at c xs i w in
            least_head (slice_index xs i) (slice_index ys i) (least_moves c (slice_index keys i) (slice_index xs i) (slice_index ys i)
            (ap (name c) key ∙ name_twice c shaped (slice_index xs i)) (are.each i (omega (arith, len, w))));
      }
  says_adds (Finite v) (m, f, k) = record {
    bare = all_open v;
    head = least_head v v m;
    no_term = λ u s xs d i. free_no_term c (name c v) s (map (name c) xs) f (held_at v u s xs d i);
    reached = reached_class [] atoms (name c v) v (settled.follows.marked (name c v) f k) ((classes (name c v) v).1 (name_twice c shaped v));
    new = λ r d. nothing (Finite r);
  }

  finite_says : (v : ℕ) → IsLeast c v v → ((u : ℕ) (s : Symbol) (xs : List ℕ) → Class atoms v u → ¬ Contains atoms (VarTerm u s xs)) → Reached atoms v
      → Kind c (name c v) → Says c (Finite v)
  finite_says v m none r (free f) = (m, f, firm_marked c (name c v) (settled.firm v r) f)
  finite_says v m none r (applied s ys h) =
      let (u, xs, stands, e, args) = settled.follows.given (name c v) s ys h in absurd (none u s xs ((classes v u).1 (sym e)) stands)

  pub adds_says : (a : Flat) → Adds [] atoms a → Says c a
  adds_says (VarVar v l) new = (head_least v l new.head, new.differ)
  adds_says (VarTerm v s ys) new = (
    head_least v v new.head,
    map (name c) new.xs,
    held_at v new.variable s new.xs new.one_class new.stands,
    record {
      as_many = new.as_many ∙ sym (length-map new.xs (name c));
      each = λ i w.
          let l : i < length new.xs = omega (arith, length-map new.xs (name c)) in
          let key : slice_index (map (name c) new.xs) i ≡ name c (slice_index new.xs i) = named_at c new.xs i l in
          least_moves c (slice_index new.xs i) (slice_index (map (name c) new.xs) i) (slice_index ys i)
          (sym (ap (name c) key ∙ name_twice c shaped (slice_index new.xs i))) (head_least (slice_index new.xs i) (slice_index ys i) (new.heads i l));
    },
  )
  adds_says (Finite v) new = finite_says v (head_least v v new.head) new.no_term new.reached (kind_of c shaped v)
