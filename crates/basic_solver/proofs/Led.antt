-- Flags of the variables that have a term.
use Rattle.std.proofs.Common.{ℕ, ◌≡◌, Bool, true, false, List, length, get_or, refl, sym, subst, inl, inr}
use Rattle.std.specs.Prelude.{All, Contains}
use Rattle.std.proofs.lemmas.List.Elements.{All-contains, All-weaker}
use Rattle.flat_form.specs.declared.atom.Flat.{Flat}
use Rattle.flat_form.specs.declared.atom.Flat.TheVariants.{VarVar, VarTerm, Finite}
use Rattle.flat_form.specs.Solved.{HasTerm}
use Rattle.flat_form.specs.Numbering.{AtomOver}
use Rattle.basic_solver.specs.Outcomes.{AreLeads, with_lead}
use Rattle.std.proofs.lemmas.List.{length-set}
use Rattle.basic_solver.proofs.Flagging.{set_there, set_kept, set_back}

abbrev pub IsLed : List Bool → Flat → Type 0
IsLed leads (VarVar u r) = Unit {0}
IsLed leads (VarTerm u s xs) = get_or leads u false ≡ true
IsLed leads (Finite u) = Unit {0}

pub led_kept : (leads : List Bool) (a b : Flat) → IsLed leads b → IsLed (with_lead a leads) b
led_kept leads (VarVar u r) b h = h
led_kept leads (Finite u) b h = h
led_kept leads (VarTerm u s xs) (VarVar v r) h = tt
led_kept leads (VarTerm u s xs) (VarTerm v t ys) h = set_kept leads u v h
led_kept leads (VarTerm u s xs) (Finite v) h = tt

pub all_led_kept : (leads : List Bool) (a : Flat) (atoms : List Flat) → All (IsLed leads) atoms → All (IsLed (with_lead a leads)) atoms
all_led_kept leads a atoms h = All-weaker (IsLed leads) (IsLed (with_lead a leads)) (led_kept leads a) atoms h

pub led_here : (leads : List Bool) (a : Flat) → AtomOver (length leads) a → IsLed (with_lead a leads) a
led_here leads (VarVar u r) w = tt
led_here leads (VarTerm u s xs) w = set_there leads u w.0
led_here leads (Finite u) w = tt

pub led_size : (leads : List Bool) (a : Flat) → length (with_lead a leads) ≡ length leads
led_size leads (VarVar u r) = refl
led_size leads (VarTerm u s xs) = length-set leads u true
led_size leads (Finite u) = refl

pub led_sound : (base : List Flat) (leads : List Bool) (a : Flat) → Contains base a
    → ((v : ℕ) → get_or leads v false ≡ true → HasTerm base v) → (v : ℕ) → get_or (with_lead a leads) v false ≡ true → HasTerm base v
led_sound base leads (VarVar u r) i sound v p = sound v p
led_sound base leads (Finite u) i sound v p = sound v p
led_sound base leads (VarTerm u s xs) i sound v p = elim (set_back leads u v p) [
  | inl q ↦ (s, xs, subst (λ (z : ℕ). Contains base (VarTerm z s xs)) (sym q) i)
  | inr q ↦ sound v q
]

pub leads_from : (base : List Flat) (leads : List Bool) → ((v : ℕ) → get_or leads v false ≡ true → HasTerm base v) → All (IsLed leads) base → AreLeads base leads
leads_from base leads sound all v = (sound v, λ (s, xs, i). All-contains (IsLed leads) base (VarTerm v s xs) all i)
