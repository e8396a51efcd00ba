-- What is said more is what is added.
use Rattle.std.proofs.Common.{ℕ, ◌≡◌, ◌<◌, List, [], ◌++◌, map, length, sym, ap, ◌∙◌, subst, arith, inl, inr}
use Rattle.std.specs.Prelude.{slice_index, Contains, ◌↔◌}
use Rattle.std.proofs.lemmas.List.{length-map}
use Rattle.std.proofs.lemmas.Bool.{cases_eq}
use Rattle.tree_model.specs.declared.tree.Symbol.{Symbol}
use Rattle.flat_form.specs.declared.atom.Flat.{Flat}
use Rattle.flat_form.specs.declared.atom.Flat.TheVariants.{VarVar, VarTerm, Finite}
use Rattle.flat_form.specs.Classes.{Class}
use Rattle.flat_form.specs.Solved.{IsOpen, HasTerm}
use Rattle.flat_form.specs.Added.{IsHead, by_term as head_term, by_root, Adds}
use Rattle.flat_facts.proofs.Heads.{reached_class}
use Rattle.term_graph.specs.Contents.{Contents}
use Rattle.settled_facts.specs.Settled.{name, IsFree, IsShaped, HasTermIn, IsSettled}
use Rattle.settled_facts.specs.Forms.{IsLeast, IsReadOff}
use Rattle.settled_facts.specs.Additions.{WasFree, HadTerm, IsHeadNow, by_term, by_free, SaysMore, MoreIsAdded}
use Rattle.settled_facts.proofs.Terms.{named_at, kind_of, Kind, free, applied, free_no_term, firm_marked, name_twice}
use Rattle.settled_facts.proofs.Forms.{least_of, least_all, one_least, classes}
use Rattle.settled_facts.proofs.Solvable.{settled_solvable}

-- the lines of the form that was read off
module _ (then : Contents) (form : List Flat) (shaped : IsShaped then) (read : IsReadOff then form) where
  had_term : (v : ℕ) → HasTerm form v → HadTerm then v
  had_term v (s, ys, i) = let (m, keys, h, are) = read.each (VarTerm v s ys) i in record { least = m; symbol = s; arguments = keys; term = h }

  has_term : (v : ℕ) → HadTerm then v → HasTerm form v
  has_term v h = let (ys, are) = least_all then h.arguments in (h.symbol, ys, read.all (VarTerm v h.symbol ys) (h.least, h.arguments, h.term, are))

  own_least : (v : ℕ) → IsOpen form v → IsLeast then v v
  own_least v o = let (l, m) = least_of then v in elim (cases_eq v l) [
    | inl e ↦ subst (λ (z : ℕ). IsLeast then v z) (sym e) m
    | inr d ↦ absurd (o.no_variable l (read.all (VarVar v l) (m, d)))
  ]

  free_by : (v : ℕ) → IsOpen form v → Kind then (name then v) → IsFree then (name then v)
  free_by v o (free f) = f
  free_by v o (applied s ys h) =
      let t = has_term v (record { least = own_least v o; symbol = s; arguments = ys; term = h }) in absurd (o.no_term t.0 t.1 t.2)

  was_free : (v : ℕ) → IsOpen form v → WasFree then v
  was_free v o = record { least = own_least v o; free = free_by v o (kind_of then shaped v) }

  is_open : (v : ℕ) → WasFree then v → IsOpen form v
  is_open v w = record {
    no_variable = λ r i. (let (m, d) = read.each (VarVar v r) i in d (one_least then v v r w.least m));
    no_term = λ s ys i. (let t = had_term v (s, ys, i) in free_no_term then (name then v) t.symbol t.arguments w.free t.term);
  }

pub head_moves : (then now : Contents) (u v h : ℕ) → name now u ≡ name now v → IsHeadNow then now u h → IsHeadNow then now v h
head_moves then now u v h e (by_term k t m) = by_term (k ∙ e) t (λ w f. m w (f ∙ sym e))
head_moves then now u v h e (by_free n k t m) = by_free (λ w f. n w (f ∙ sym e)) (k ∙ e) t (λ w f. m w (f ∙ sym e))

module _ (then now : Contents) (owners : List ℕ) (form more : List Flat) (old : IsShaped then) (shaped : IsShaped now)
    (read : IsReadOff then form) (settled : IsSettled now owners (form ++ more)) where
  abbrev atoms : List Flat
  atoms = form ++ more

  classes_now : (u v : ℕ) → Class (form ++ more) u v ↔ (name now u ≡ name now v)
  classes_now = classes now owners (form ++ more) shaped settled

  one_class : (v w : ℕ) → name now w ≡ name now v → Class (form ++ more) v w
  one_class v w e = (classes_now v w).1 (sym e)

  one_name : (v w : ℕ) → Class (form ++ more) v w → name now w ≡ name now v
  one_name v w k = sym ((classes_now v w).0 k)

  to_head : (v h : ℕ) → IsHeadNow then now v h → IsHead form (form ++ more) v h
  to_head v h (by_term e t m) = head_term (one_class v h e) (has_term then form old read h t) (λ w k u. m w (one_name v w k) (had_term then form old read w u))
  to_head v h (by_free n e f m) = by_root (λ w k t. n w (one_name v w k) (had_term then form old read w t)) (one_class v h e) (is_open then form old read h f)
      (λ w k o. m w (one_name v w k) (was_free then form old read w o))

  from_head : (v h : ℕ) → IsHead form (form ++ more) v h → IsHeadNow then now v h
  from_head v h (head_term k t m) = by_term (one_name v h k) (had_term then form old read h t) (λ w e u. m w (one_class v w e) (has_term then form old read w u))
  from_head v h (by_root n k o m) = by_free (λ w e t. n w (one_class v w e) (has_term then form old read w t)) (one_name v h k) (was_free then form old read h o)
      (λ w e f. m w (one_class v w e) (is_open then form old read w f))

  held_at : (v u : ℕ) (s : Symbol) (xs : List ℕ) → Class (form ++ more) v u → Contains (form ++ more) (VarTerm u s xs) → HasTermIn now (name now v) s (map (name now) xs)
  held_at v u s xs k i = subst (λ (z : ℕ). HasTermIn now z s (map (name now) xs)) (one_name v u k) (settled.held u s xs i)

  says_adds : (a : Flat) → SaysMore then now a → Adds form (form ++ more) a
  says_adds (VarVar v h) (w, m, d) = record { bare = is_open then form old read v w; head = to_head v h m; differ = d }
  says_adds (VarTerm v s ys) (w, m, keys, h, are) =
      let (u, xs, stands, e, args) = settled.follows.given (name now v) s keys h in
      let len : length keys ≡ length xs = ap length (sym args) ∙ length-map xs (name now) in
      record {
        bare = is_open then form old read v w;
        head = to_head v v m;
        variable = u;
        xs = xs;
        one_class = one_class v u e;
        stands = stands;
        as_many = are.as_many ∙ len;
        heads = λ i l.
            let key : slice_index keys i ≡ name now (slice_index xs i) = ap (λ (z : List ℕ). slice_index z i) (sym args) ∙ named_at now xs i l in
            to_head (slice_index xs i) (slice_index ys i) (head_moves then now (slice_index keys i) (slice_index xs i) (slice_index ys i)
            (ap (name now) key ∙ name_twice now shaped (slice_index xs i)) (are.each i (omega (arith, len, l))));
      }
  says_adds (Finite v) (w, m, f, k, new) = record {
    bare = is_open then form old read v w;
    head = to_head v v m;
    no_term = λ u s xs d i. free_no_term now (name now v) s (map (name now) xs) f (held_at v u s xs d i);
    reached = reached_class [] (form ++ more) (name now v) v (settled.follows.marked (name now v) f k) ((classes_now (name now v) v).1 (name_twice now shaped v));
    new = λ r d i. (let (l, g, mark) = read.each (Finite r) i in new r (one_name v r d) (record { least = l; free = g }) mark);
  }

  free_now : (v : ℕ) → ((u : ℕ) (s : Symbol) (xs : List ℕ) → Class (form ++ more) v u → ¬ Contains (form ++ more) (VarTerm u s xs)) → Kind now (name now v) → IsFree now (name now v)
  free_now v none (free f) = f
  free_now v none (applied s ys h) =
      let (u, xs, stands, e, args) = settled.follows.given (name now v) s ys h in absurd (none u s xs (one_class v u e) stands)

  adds_says : (a : Flat) → Adds form (form ++ more) a → SaysMore then now a
  adds_says (VarVar v h) new = (was_free then form old read v new.bare, from_head v h new.head, new.differ)
  adds_says (VarTerm v s ys) new = (
    was_free then form old read v new.bare,
    from_head v v new.head,
    map (name now) new.xs,
    held_at v new.variable s new.xs new.one_class new.stands,
    record {
      as_many = new.as_many ∙ sym (length-map new.xs (name now));
      each = λ i w.
          let l : i < length new.xs = omega (arith, length-map new.xs (name now)) in
          let key : slice_index (map (name now) new.xs) i ≡ name now (slice_index new.xs i) = named_at now new.xs i l in
          head_moves then now (slice_index new.xs i) (slice_index (map (name now) new.xs) i) (slice_index ys i)
          (sym (ap (name now) key ∙ name_twice now shaped (slice_index new.xs i))) (from_head (slice_index new.xs i) (slice_index ys i) (new.heads i l));
    },
  )
  adds_says (Finite v) new =
      let f : IsFree now (name now v) = free_now v new.no_term (kind_of now shaped v) in (
        was_free then form old read v new.bare,
        from_head v v new.head,
        f,
        firm_marked now (name now v) (settled.firm v new.reached) f,
        λ r e w mark. new.new r (one_class v r e) (read.all (Finite r) (w.least, w.free, mark)),
      )

pub more_is_added : MoreIsAdded
more_is_added then now owners form more added old shaped read settled = (
  λ m. record {
    solvable = settled_solvable now owners (form ++ more) shaped settled;
    ascending = m.ascending;
    each = λ a i. says_adds then now owners form more old shaped read settled a (m.each a i);
    all = λ a new. m.all a (adds_says then now owners form more old shaped read settled a new);
  },
  λ m. record {
    ascending = m.ascending;
    each = λ a i. adds_says then now owners form more old shaped read settled a (m.each a i);
    all = λ a new. m.all a (says_adds then now owners form more old shaped read settled a new);
  },
)
