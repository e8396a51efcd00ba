-- Of the variables of an unchanged root nothing is said more; nothing at all where the free ones stay.
use Rattle.std.proofs.Common.{ℕ, ◌≡◌, Bool, true, false, List, [], ◌∷◌, map, refl, sym, ap, ◌∙◌, subst, arith, inl, inr}
use Rattle.std.specs.Prelude.{slice_index_or, Contains, Some, None}
use Rattle.std.proofs.lemmas.Bool.{cases_eq}
use Rattle.classical.specs.Classical.{Exists}
use Rattle.classical.proofs.Stable.{◌>>=◌, either_way}
use Rattle.tree_model.specs.declared.tree.Symbol.{Symbol}
use Rattle.tree_facts.proofs.Members.{contains_first}
use Rattle.flat_form.specs.declared.atom.Flat.{Flat}
use Rattle.flat_form.specs.declared.atom.Flat.TheVariants.{VarVar, VarTerm, Finite}
use Rattle.flat_form.specs.Solved.{variable_of}
use Rattle.flat_facts.proofs.Heads.{least, choose}
use Rattle.term_graph.specs.declared.bound.Bound.{Bound}
use Rattle.term_graph.specs.declared.bound.Bound.TheVariants.{Free, Variable, Term}
use Rattle.term_graph.specs.Contents.{Contents, binding_of, target, target_of, term_at}
use Rattle.term_graph.proofs.Forests.{root_of_root}
use Rattle.settled_facts.specs.Settled.{name, IsFree, IsMarked, IsShaped, HasTermIn}
use Rattle.settled_facts.specs.Forms.{IsLeast}
use Rattle.settled_facts.specs.Changes.{IsLater, IsUnchanged, FreeStay}
use Rattle.settled_facts.specs.Additions.{WasFree, HadTerm, IsHeadNow, by_term, by_free, SaysMore, UnchangedSaysNoMore, UnchangedHeadIsLeast, NothingMoreWhereFreeStay}
use Rattle.settled_facts.proofs.Terms.{kind_of, Kind, free, applied, free_no_term, name_free, name_bound, name_twice}
use Rattle.settled_facts.proofs.Forms.{least_of, least_moves, one_least}
use Rattle.settled_facts.proofs.More.{head_moves}

-- two least variables with one name are one
both_least : (c : Contents) (v h : ℕ) → IsLeast c v v → IsLeast c h h → name c h ≡ name c v → h ≡ v
both_least c v h a b e = one_least c v h v (least_moves c h v h e b) a

module _ (then now : Contents) (r : ℕ) (root : target_of then.bindings r ≡ None) (same : IsUnchanged then now r) where
  head_least : (v h : ℕ) → IsHeadNow then now v h → IsLeast then h h
  head_least v h (by_term e t m) = t.least
  head_least v h (by_free n e f m) = f.least

  head_name : (v h : ℕ) → IsHeadNow then now v h → name now h ≡ name now v
  head_name v h (by_term e t m) = e
  head_name v h (by_free n e f m) = e

  own_name : (v h : ℕ) → name now v ≡ r → name now h ≡ name now v → name then h ≡ r
  own_name v h e f = (same.class h).0 (f ∙ e)

  still_free : (v : ℕ) → WasFree then v → name then v ≡ r → IsFree now (name now v)
  still_free v w e = subst (λ (z : ℕ). IsFree now z) (sym ((same.class v).1 e)) (same.binding ∙ subst (λ (z : ℕ). IsFree then z) e w.free)

  says_no_more : (a : Flat) → SaysMore then now a → ¬ (name then (variable_of a) ≡ r)
  says_no_more (VarVar v h) (w, m, d) = λ e.
      d (sym (both_least then v h w.least (head_least v h m) (own_name v h ((same.class v).1 e) (head_name v h m) ∙ sym e)))
  says_no_more (VarTerm v s ys) (w, m, keys, h, are) = λ e. free_no_term now (name now v) s keys (still_free v w e) h
  says_no_more (Finite v) (w, m, f, k, new) = λ e.
      new v refl w (subst (λ (z : ℕ). IsMarked then z) (sym e) (sym same.mark ∙ subst (λ (z : ℕ). IsMarked now z) ((same.class v).1 e) k))

  least_then : (v h : ℕ) → name now v ≡ r → IsLeast now v h → IsLeast then h h
  least_then v h e m = record {
    same = refl;
    least = λ u f. m.least u ((same.class u).1 (f ∙ own_name v h e m.same) ∙ sym e);
  }

  -- the least one is the head
  least_head : (v h : ℕ) → name now v ≡ r → IsLeast now v h → Kind then (name then r) → IsHeadNow then now v h
  least_head v h e m (free f) =
      let own : name then r ≡ r = root_of_root then.bindings r root in
      let g : (w : ℕ) → name now w ≡ name now v → IsFree then (name then w) = λ w k.
      subst (λ (z : ℕ). IsFree then z) (own ∙ sym (own_name v w e k)) f in
      by_free (λ w k t. free_no_term then (name then w) t.symbol t.arguments (g w k) t.term) m.same
      (record { least = least_then v h e m; free = g h m.same }) (λ w k f. m.least w k)
  least_head v h e m (applied s ys t) =
      let own : name then r ≡ r = root_of_root then.bindings r root in
      by_term m.same (record {
        least = least_then v h e m;
        symbol = s;
        arguments = ys;
        term = subst (λ (z : ℕ). HasTermIn then z s ys) (own ∙ sym (own_name v h e m.same)) t;
      }) (λ w k u. m.least w k)

  from_head : (v h : ℕ) → name now v ≡ r → IsHeadNow then now v h → IsLeast now v h
  from_head v h e m = record {
    same = head_name v h m;
    least = λ u f. (head_least v h m).least u (own_name v u e f ∙ sym (own_name v h e (head_name v h m)));
  }

pub unchanged_says_no_more : UnchangedSaysNoMore
unchanged_says_no_more then now r a root same says = says_no_more then now r root same a says

pub unchanged_head_least : UnchangedHeadIsLeast
unchanged_head_least then now r v h old root same e = (
  from_head then now r root same v h e,
  λ m. least_head then now r root same v h e m (kind_of then old r),
)

module _ (then now : Contents) (old : IsShaped then) (shaped : IsShaped now) (later : IsLater then now) where
  one_name : (u v : ℕ) → name then u ≡ name then v → name now u ≡ name now v
  one_name u v e = later.names u ∙ ap (name now) e ∙ sym (later.names v)

  free_head : (v w : ℕ) → ((x : ℕ) → name now x ≡ name now v → ¬ HadTerm then x) → name now w ≡ name now v → WasFree then w → Exists (IsHeadNow then now v)
  free_head v w none e f n = do
    (h, ((g, k), l)) ← least (λ x. (name now x ≡ name now v) × WasFree then x) w (e, f)
    n (h, by_free none g k (λ x i y. l x (i, y)))

  head_by : (v l : ℕ) → IsLeast then v l → ((x : ℕ) → name now x ≡ name now v → ¬ HadTerm then x) → Kind then (name then v) → Exists (IsHeadNow then now v)
  head_by v l m none (free f) = free_head v l none (one_name l v m.same)
      (record { least = least_moves then v l l (sym m.same) m; free = subst (λ (z : ℕ). IsFree then z) (sym m.same) f })
  head_by v l m none (applied s ys h) = absurd (none l (one_name l v m.same)
      (record { least = least_moves then v l l (sym m.same) m; symbol = s; arguments = ys; term = subst (λ (z : ℕ). HasTermIn then z s ys) (sym m.same) h }))

  pub head_somewhere : (v : ℕ) → Exists (IsHeadNow then now v)
  head_somewhere v n = do
    t ← either_way ((w : ℕ) × (name now w ≡ name now v) × HadTerm then w)
    elim t [
      | inl (w, e, h) ↦ do
        (k, ((g, u), l)) ← least (λ x. (name now x ≡ name now v) × HadTerm then x) w (e, h)
        n (k, by_term g u (λ x i y. l x (i, y)))
      | inr none ↦ (let (l, m) = least_of then v in head_by v l m (λ x e h. none (x, e, h)) (kind_of then old v) n)
    ]

  -- where nothing is said more
  module _ (none : (a : Flat) → ¬ SaysMore then now a) where
    -- the least variable of a root that was free
    least_free : (r : ℕ) → IsFree then r → (v : ℕ) × (name then v ≡ r) × WasFree then v
    least_free r f =
        let (l, m) = least_of then r in
        let own : name then l ≡ r = m.same ∙ name_free then r f in
        (l, own, record { least = least_moves then r l l (sym m.same) m; free = subst (λ (z : ℕ). IsFree then z) (sym own) f })

    -- it is the head of its class
    own_head : (v : ℕ) → WasFree then v → ¬ ¬ IsHeadNow then now v v
    own_head v w n = do
      (h, m) ← head_somewhere v
      elim (cases_eq v h) [
        | inl e ↦ n (subst (λ (z : ℕ). IsHeadNow then now v z) (sym e) m)
        | inr d ↦ none (VarVar v h) (w, m, d)
      ]

    no_term_now : (r : ℕ) (s : Symbol) (keys : List ℕ) → IsFree then r → ¬ HasTermIn now r s keys
    no_term_now r s keys f = λ h.
        let (v, own, w) = least_free r f in
        let here : name now v ≡ r = later.names v ∙ ap (name now) own ∙ name_bound now r h.term h.bound in
        own_head v w (λ m. choose (IsHeadNow then now) keys head_somewhere (λ (ys, (len, each)).
        none (VarTerm v s ys) (w, m, keys, subst (λ (z : ℕ). HasTermIn now z s keys) (sym here) h, record { as_many = len; each = each })))

    -- one that is bound to a variable is no head
    below_head : (r x v : ℕ) → name then v ≡ r → WasFree then v → binding_of now.bindings r ≡ Variable x → Kind then (name then (name now v))
        → ((w : ℕ) → name now w ≡ name now v → ¬ HadTerm then w) → IsHeadNow then now v v → ⊥
    below_head r x v own w b (free g) n m =
        let q : ℕ = name now v in
        let stop : target_of now.bindings q ≡ None = shaped.forest.ends v in
        let own_q : name then q ≡ q = root_of_root then.bindings q (later.roots q stop) in
        let (k, l) = least_of then q in
        let then_k : name then k ≡ q = l.same ∙ own_q in
        let now_k : name now k ≡ name now v = later.names k ∙ ap (name now) then_k ∙ name_twice now shaped v in
        let differ : ¬ (k ≡ v) = λ i.
        (let e : q ≡ r = sym then_k ∙ ap (name then) i ∙ own in
        let f : target_of now.bindings r ≡ None = subst (λ (z : ℕ). target_of now.bindings z ≡ None) e stop in
        let g : target_of now.bindings r ≡ Some x = ap target b in
        cc) in
        let wk : WasFree then k = record { least = least_moves then q k k (sym l.same) l; free = subst (λ (z : ℕ). IsFree then z) (own_q ∙ sym then_k) g } in
        none (VarVar k v) (wk, head_moves then now v k v (sym now_k) m, differ)
    below_head r x v own w b (applied s ys h) n m =
        let q : ℕ = name now v in
        let own_q : name then q ≡ q = root_of_root then.bindings q (later.roots q (shaped.forest.ends v)) in
        let (k, l) = least_of then q in
        let then_k : name then k ≡ q = l.same ∙ own_q in
        let now_k : name now k ≡ name now v = later.names k ∙ ap (name now) then_k ∙ name_twice now shaped v in
        n k now_k (record { least = least_moves then q k k (sym l.same) l; symbol = s; arguments = ys; term = subst (λ (z : ℕ). HasTermIn then z s ys) (own_q ∙ sym then_k) h })

    no_head : (r x v : ℕ) → name then v ≡ r → WasFree then v → binding_of now.bindings r ≡ Variable x → IsHeadNow then now v v → ⊥
    no_head r x v own w b (by_term e t l) = free_no_term then (name then v) t.symbol t.arguments w.free t.term
    no_head r x v own w b (by_free n e f l) = below_head r x v own w b (kind_of then old (name now v)) n (by_free n e f l)

    free_by : (r : ℕ) → IsFree then r → (b : Bound) → binding_of now.bindings r ≡ b → IsFree now r
    free_by r f Free e = e
    free_by r f (Term t) e = absurd (no_term_now r (term_at now.terms t).symbol (map (name now) (term_at now.terms t).args) f
        (record { term = t; bound = e; key = record { within = shaped.bound r t e; sign = refl; args = refl } }))
    free_by r f (Variable x) e = let (v, own, w) = least_free r f in absurd (own_head v w (λ m. no_head r x v own w e m))

    stays_free : (r : ℕ) → IsFree then r → IsFree now r
    stays_free r f = free_by r f (binding_of now.bindings r) refl

    -- the name of a variable that was free
    name_stays : (r v : ℕ) → IsFree then r → name then v ≡ r → name now v ≡ r
    name_stays r v f own = later.names v ∙ ap (name now) own ∙ name_free now r (stays_free r f)

    mark_by : (r : ℕ) → IsFree then r → IsMarked now r → (b : Bool) → slice_index_or then.marks r false ≡ b → IsMarked then r
    mark_by r f k true e = e
    mark_by r f k false e =
        let (v, own, w) = least_free r f in
        let here : name now v ≡ r = name_stays r v f own in
        absurd (own_head v w (λ m. none (Finite v) (
          w,
          m,
          subst (λ (z : ℕ). IsFree now z) (sym here) (stays_free r f),
          subst (λ (z : ℕ). IsMarked now z) (sym here) k,
          λ u g wu mark.
              (let same : name then u ≡ r = sym (name_stays (name then u) u wu.free refl) ∙ g ∙ here in
              let old : IsMarked then r = subst (λ (z : ℕ). IsMarked then z) same mark in
              cc),
        )))

    all_stay : FreeStay then now
    all_stay r f = (stays_free r f, λ k. mark_by r f k (slice_index_or then.marks r false) refl)

  -- where the free ones stay
  module _ (stay : FreeStay then now) where
    stays : (v : ℕ) → WasFree then v → (name now v ≡ name then v) × IsFree now (name now v)
    stays v w =
        let f : IsFree now (name then v) = (stay (name then v) w.free).0 in
        let e : name now v ≡ name then v = later.names v ∙ name_free now (name then v) f in
        (e, subst (λ (z : ℕ). IsFree now z) (sym e) f)

    same_head : (v h : ℕ) → WasFree then v → IsHeadNow then now v h → h ≡ v
    same_head v h w (by_term e t l) =
        let f : IsFree now (name now h) = subst (λ (z : ℕ). IsFree now z) (sym e) (stays v w).1 in
        absurd (free_no_term then (name then h) t.symbol t.arguments (later.free h f) t.term)
    same_head v h w (by_free n e f l) = both_least then v h w.least f.least (sym (stays h f).0 ∙ e ∙ (stays v w).0)

    says_nothing : (a : Flat) → ¬ SaysMore then now a
    says_nothing (VarVar v h) (w, m, d) = d (sym (same_head v h w m))
    says_nothing (VarTerm v s ys) (w, m, keys, h, are) = free_no_term now (name now v) s keys (stays v w).1 h
    says_nothing (Finite v) (w, m, f, k, new) =
        new v refl w ((stay (name then v) w.free).1 (subst (λ (z : ℕ). IsMarked now z) (stays v w).0 k))

nothing_in : (xs : List Flat) → ((a : Flat) → ¬ Contains xs a) → xs ≡ []
nothing_in [] none = refl
nothing_in (x ∷ xs) none = absurd (none x (contains_first x xs))

pub nothing_more : NothingMoreWhereFreeStay
nothing_more then now added old shaped later more = (
  λ e. all_stay then now old shaped later (λ a says. (let i : Contains [] a = subst (λ (z : List Flat). Contains z a) e (more.all a says) in omega (arith, i.1))),
  λ stay. nothing_in added (λ a i. says_nothing then now old shaped later stay a (more.each a i)),
)
