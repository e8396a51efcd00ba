-- The list that is read off, and that it speaks of variables that there are.
use Rattle.std.proofs.Common.{ℕ, ◌≡◌, ◌<◌, ◌≤◌, false, length, sym, ◌∙◌, subst, arith, inl, inr}
use Rattle.std.specs.Prelude.{slice_index_or}
use Rattle.std.proofs.lemmas.List.{get_or_past}
use Rattle.std.proofs.lemmas.Bool.{cases_lt}
use Rattle.flat_form.specs.declared.atom.Flat.{Flat}
use Rattle.flat_form.specs.declared.atom.Flat.TheVariants.{VarVar, VarTerm, Finite}
use Rattle.flat_form.specs.Solved.{variable_of}
use Rattle.term_graph.specs.declared.bound.Bound.TheVariants.{Free}
use Rattle.term_graph.specs.Contents.{Contents}
use Rattle.term_graph.proofs.Forests.{root-within, leads_to_root}
use Rattle.settled_facts.specs.Settled.{name, IsFree, IsShaped}
use Rattle.settled_facts.specs.Forms.{Says, SaysInRange, SettledHasForm}
use Rattle.settled_facts.proofs.Terms.{name_free}
use Rattle.settled_facts.proofs.Forms.{says_adds, adds_says}
use Rattle.settled_facts.proofs.Solvable.{settled_solvable}

pub settled_form : SettledHasForm
settled_form c owners atoms form shaped settled = (
  λ r. record {
    solvable = settled_solvable c owners atoms shaped settled;
    ascending = r.ascending;
    each = λ a i. says_adds c owners atoms shaped settled a (r.each a i);
    all = λ a new. r.all a (adds_says c owners atoms shaped settled a new);
  },
  λ f. record {
    ascending = f.ascending;
    each = λ a i. adds_says c owners atoms shaped settled a (f.each a i);
    all = λ a says. f.all a (says_adds c owners atoms shaped settled a says);
  },
)

pub past_free : (c : Contents) (v : ℕ) → length c.bindings ≤ v → IsFree c v
past_free c v w = get_or_past c.bindings v Free w

pub name_within : (c : Contents) → IsShaped c → (v : ℕ) → v < length c.bindings → name c v < length c.bindings
name_within c shaped v w = root-within c.bindings shaped.forest (leads_to_root c.bindings shaped.forest v) w

-- a variable past the end is alone
pub past_alone : (c : Contents) → IsShaped c → (v u : ℕ) → length c.bindings ≤ v → name c u ≡ name c v → u ≡ v
past_alone c shaped v u w e = elim (cases_lt u (length c.bindings)) [
  | inl l ↦ absurd (let n : name c v ≡ v = name_free c v (past_free c v w) in omega (arith, name_within c shaped u l, e, n, w))
  | inr g ↦ sym (name_free c u (past_free c u g)) ∙ e ∙ name_free c v (past_free c v w)
]

past_bare : (c : Contents) (v : ℕ) → length c.bindings ≤ v → IsFree c (name c v)
past_bare c v w = subst (λ (z : ℕ). IsFree c z) (sym (name_free c v (past_free c v w))) (past_free c v w)

past_unmarked : (c : Contents) → IsShaped c → (v : ℕ) → length c.bindings ≤ v → slice_index_or c.marks (name c v) false ≡ false
past_unmarked c shaped v w = get_or_past c.marks (name c v) false (omega (arith, shaped.marks, w, name_free c v (past_free c v w)))

not_past : (c : Contents) → IsShaped c → (a : Flat) → Says c a → ¬ (length c.bindings ≤ variable_of a)
not_past c shaped (VarVar v l) (m, d) = λ w. d (sym (past_alone c shaped v l w m.same))
not_past c shaped (VarTerm v s ys) (m, keys, h, are) = λ w. (let e = past_bare c v w in let f = h.bound in cc)
not_past c shaped (Finite v) (m, f, k) = λ w. (let e = past_unmarked c shaped v w in cc)

pub says_range : SaysInRange
says_range c a shaped says = elim (cases_lt (variable_of a) (length c.bindings)) [ inl l ↦ l | inr g ↦ absurd (not_past c shaped a says g) ]
