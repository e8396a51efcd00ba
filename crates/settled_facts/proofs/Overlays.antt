-- What an overlay shows, and heads among touched roots.
use Rattle.std.proofs.Common.{ℕ, ◌≡◌, ◌≤◌, Bool, true, false, List, [], ◌∷◌, map, refl, sym, ap, ◌∙◌, subst, arith, inl, inr, ◌⊎◌}
use Rattle.std.specs.Prelude.{slice_index_or, Contains, None}
use Rattle.std.proofs.lemmas.Bool.{cases_eq}
use Rattle.tree_facts.proofs.Members.{contains_first, contains_later, contains_cases}
use Rattle.term_graph.specs.declared.bound.Bound.TheVariants.{Term}
use Rattle.term_graph.specs.Contents.{Contents, binding_of, target, target_of, root, term_at}
use Rattle.term_graph.proofs.Forests.{root_of_root}
use Rattle.settled_facts.specs.Settled.{name, IsFree, IsShaped}
use Rattle.settled_facts.specs.Forms.{IsLeast}
use Rattle.settled_facts.specs.Changes.{IsUnchanged}
use Rattle.settled_facts.specs.Additions.{WasFree, HadTerm, IsHeadNow, by_term, by_free}
use Rattle.settled_facts.specs.Overlays.{Earlier, IsAt, Shows, HadOne, IsTouched, IsHeadAmong, by_term as among_terms, by_free as among_free, OverlayReads, TermTakenBack, MarkTakenBack, JoinTakenBack, HeadIsAmongTouched}
use Rattle.settled_facts.proofs.Terms.{kind_of, Kind, free, applied}
use Rattle.settled_facts.proofs.Forms.{least_moves}
use Rattle.settled_facts.proofs.Changing.{untouched_unchanged, term_targets, term_names, join_other}

pub listed_or_not : (xs : List ℕ) (x : ℕ) → Contains xs x ⊎ (¬ Contains xs x)
listed_or_not [] x = inr (λ i. omega (arith, i.1))
listed_or_not (y ∷ xs) x = elim (cases_eq y x) [
  | inl e ↦ inl (subst (λ (z : ℕ). Contains (y ∷ xs) z) e (contains_first y xs))
  | inr n ↦ elim (listed_or_not xs x) [
    | inl i ↦ inl (contains_later y x xs i)
    | inr m ↦ inr (λ i. elim (contains_cases y x xs i) [ inl e ↦ n e | inr k ↦ m k ])
  ]
]

-- an unchanged root had the least variable that it has
least_back : (before after : Contents) (r l : ℕ) → IsUnchanged before after r → target_of before.bindings r ≡ None → IsLeast after r l → IsLeast before r l
least_back before after r l same stop m =
    let own : name before r ≡ r = root_of_root before.bindings r stop in
    let here : name after r ≡ r = (same.class r).1 own in
    record {
      same = (same.class l).0 (m.same ∙ here) ∙ sym own;
      least = λ u e. m.least u ((same.class u).1 (e ∙ own) ∙ sym here);
    }

at_back : (before after : Contents) (r : ℕ) (e : Earlier) → IsUnchanged before after r → IsAt after r e → IsAt before r e
at_back before after r e same at = record {
  binding = at.binding ∙ same.binding;
  finite = at.finite ∙ same.mark;
  least = λ stop. least_back before after r e.least same stop (at.least (ap target same.binding ∙ stop));
}

pub overlay_reads : OverlayReads
overlay_reads before after touched old new shaped change shows kept told r = elim (listed_or_not touched r) [
  | inl i ↦ told r i
  | inr n ↦ subst (λ (z : Earlier). IsAt before r z) (sym (kept r n)) (at_back before after r (new r) (untouched_unchanged before after touched r shaped change n) (shows r))
]

-- names that stay have the least variables that they had
least_stays : (before after : Contents) (r l : ℕ) → ((u : ℕ) → name after u ≡ name before u) → IsLeast after r l → IsLeast before r l
least_stays before after r l same m = record {
  same = sym (same l) ∙ m.same ∙ same r;
  least = λ u e. m.least u (same u ∙ e ∙ sym (same r));
}

pub term_taken_back : TermTakenBack
term_taken_back before after v t new shaped j at = record {
  binding = sym j.free;
  finite = at.finite ∙ ap (λ z. slice_index_or z v false) j.marks;
  least = λ stop. least_stays before after v new.least (term_names before after v t j shaped) (at.least (term_targets before after v t j v ∙ stop));
}

bare_is : (b : Bool) → ¬ (b ≡ true) → false ≡ b
bare_is true n = absurd (n refl)
bare_is false n = refl

pub mark_taken_back : MarkTakenBack
mark_taken_back before after v new j at = record {
  binding = at.binding ∙ ap (λ b. binding_of b v) j.bindings;
  finite = bare_is (slice_index_or before.marks v false) j.bare;
  least = λ stop. least_stays before after v new.least (λ u. ap (λ b. root b u) j.bindings) (at.least (ap (λ b. target_of b v) j.bindings ∙ stop));
}

pub join_taken_back : JoinTakenBack
join_taken_back before after v w l m one other shaped j at_v at_w least_v least_w = (
  record {
    binding = refl;
    finite = at_v.finite ∙ ap (λ z. slice_index_or z v false) j.marks;
    least = λ stop. least_v;
  },
  record {
    binding = at_w.binding ∙ join_other before after v w shaped j w j.apart;
    finite = at_w.finite ∙ ap (λ z. slice_index_or z w false) j.marks;
    least = λ stop. least_w;
  },
)

module _ (then now : Contents) (touched : List ℕ) (shown : ℕ → Earlier) (v some : ℕ) (shaped : IsShaped then) (shows : Shows then shown)
    (roots : (r : ℕ) → Contains touched r → target_of then.bindings r ≡ None)
    (others : (r : ℕ) → target_of then.bindings r ≡ None → ¬ Contains touched r → IsUnchanged then now r)
    (names : (u : ℕ) → name now u ≡ name now (name then u)) (one : IsTouched now touched shown v some) where
  own : (r : ℕ) → IsTouched now touched shown v r → name then r ≡ r
  own r t = root_of_root then.bindings r (roots r t.listed)

  least : (r : ℕ) → IsTouched now touched shown v r → IsLeast then r (shown r).least
  least r t = (shows r).least (roots r t.listed)

  least_own : (r : ℕ) → IsTouched now touched shown v r → IsLeast then (shown r).least (shown r).least
  least_own r t = let m = least r t in least_moves then r (shown r).least (shown r).least (sym m.same) m

  least_named : (r : ℕ) → IsTouched now touched shown v r → name then (shown r).least ≡ r
  least_named r t = (least r t).same ∙ own r t

  in_class : (r : ℕ) → IsTouched now touched shown v r → name now (shown r).least ≡ name now v
  in_class r t = names (shown r).least ∙ ap (name now) (least_named r t) ∙ t.same

  had : (r : ℕ) → IsTouched now touched shown v r → HadOne (shown r) → HadTerm then (shown r).least
  had r t (s, e) =
      let bound : binding_of then.bindings r ≡ Term s = sym (shows r).binding ∙ e in
      record {
        least = least_own r t;
        symbol = (term_at then.terms s).symbol;
        arguments = map (root then.bindings) (term_at then.terms s).args;
        term = record {
          term = s;
          bound = ap (binding_of then.bindings) (least_named r t) ∙ bound;
          key = record { within = shaped.bound r s bound; sign = refl; args = refl };
        };
      }

  free_kind : (r : ℕ) → IsTouched now touched shown v r → ¬ HadOne (shown r) → Kind then (name then r) → IsFree then r
  free_kind r t none (free f) = subst (λ (z : ℕ). IsFree then z) (own r t) f
  free_kind r t none (applied s ys h) =
      absurd (none (h.term, (shows r).binding ∙ subst (λ (z : ℕ). binding_of then.bindings z ≡ Term h.term) (own r t) h.bound))

  was : (r : ℕ) → IsTouched now touched shown v r → ¬ HadOne (shown r) → WasFree then (shown r).least
  was r t none = record {
    least = least_own r t;
    free = subst (λ (z : ℕ). IsFree then z) (sym (least_named r t)) (free_kind r t none (kind_of then shaped r));
  }

  -- the root of a variable of the class is touched
  touches : (w : ℕ) → name now w ≡ name now v → IsTouched now touched shown v (name then w)
  touches w e = elim (listed_or_not touched (name then w)) [
    | inl i ↦ record { listed = i; same = sym (names w) ∙ e }
    | inr n ↦
        let same : IsUnchanged then now (name then w) = others (name then w) (shaped.forest.ends w) n in
        let there : name now w ≡ name then w = (same.class w).1 refl in
        let here : name then some ≡ name then w = (same.class some).0 (one.same ∙ sym e ∙ there) in
        absurd (n (subst (λ (z : ℕ). Contains touched z) (sym (own some one) ∙ here) one.listed))
  ]

  at_most : (w h : ℕ) → (t : IsTouched now touched shown v (name then w)) → h ≤ (shown (name then w)).least → h ≤ w
  at_most w h t l = omega (arith, l, (least (name then w) t).least w (sym (own (name then w) t)))

  pub head_among : (h : ℕ) → IsHeadAmong now touched shown v h → IsHeadNow then now v h
  head_among h (among_terms r t o e m) =
      subst (λ (z : ℕ). IsHeadNow then now v z) (sym e) (by_term (in_class r t) (had r t o)
      (λ w k u. at_most w (shown r).least (touches w k)
      (omega (arith, e, m (name then w) (touches w k) (u.term.term, (shows (name then w)).binding ∙ u.term.bound)))))
  head_among h (among_free none r t e m) =
      subst (λ (z : ℕ). IsHeadNow then now v z) (sym e) (by_free
      (λ w k u. none (name then w) (touches w k) (u.term.term, (shows (name then w)).binding ∙ u.term.bound))
      (in_class r t) (was r t (none r t))
      (λ w k u. at_most w (shown r).least (touches w k) (omega (arith, e, m (name then w) (touches w k)))))

pub head_touched : HeadIsAmongTouched
head_touched then now touched shown v h shaped shows roots others names some one among =
    head_among then now touched shown v some shaped shows roots others names one h among
