-- What the machine finds in words: their roles, where it takes them all.
use Rattle.std.proofs.Common.{◌≡◌, ◌↔◌, ℕ, Bool, true, false, ◌&&◌, List, [], ◌∷◌, ◌++◌, Option, Some, None, is_none, nat_le, refl, sym, ◌∙◌, ap, if◌then◌else◌}
use Rattle.std.proofs.Math.Bool.{and-false}
use Rattle.formula_ast.specs.Tokens.{Stream, end, bad, token, Word}
use Rattle.formula_grammar.specs.declared.fault.Fault.{Fault}
use Rattle.formula_grammar.specs.declared.fault.FaultKind.{FaultKind}
use Rattle.formula_grammar.specs.Words.{word_of}
use Rattle.formula_grammar.specs.Machine.{Symbol, Stack, Role, Turn, Move, refused, goes, row, empty, turned, passed, step, at_end, passed_end}
use Rattle.formula_grammar.specs.Checks.{Environment, check, check_all, update, update_all, sooner, rank}
use Rattle.formula_grammar.specs.FirstFault.{fault_from, judged, at_move, ended}
use Rattle.formula_grammar.specs.Begins.{BeginsWith}

-- the roles of words and of the end behind them, where the machine takes them
abbrev pub Course : Type 0
Course = Option (List Role)

-- a role before those
abbrev pub in_role : Role → Course → Course
in_role r None = None
in_role r (Some rs) = Some (r ∷ rs)

abbrev pub in_roles : List Role → Course → Course
in_roles [] o = o
in_roles (r ∷ rs) o = in_role r (in_roles rs o)

abbrev pub run_move : (Stack → Course) → Move → Course
run_move later refused = None
run_move later (goes rs s) = in_roles rs (later s)

abbrev pub run : Stack → List Word → Course
run s [] = at_end s
run s (w ∷ ws) = run_move (λ t. run t ws) (step s w)

-- ---- a symbol that takes a word, and one that is passed over

pub in_none : (rs : List Role) → in_roles rs None ≡ None
in_none [] = refl
in_none (r ∷ rs) = ap (λ o. in_role r o) (in_none rs)

in_some : (rs more : List Role) → in_roles rs (Some more) ≡ Some (rs ++ more)
in_some [] more = refl
in_some (r ∷ rs) more = ap (λ o. in_role r o) (in_some rs more)

in_both : (rs more : List Role) (o : Course) → in_roles (rs ++ more) o ≡ in_roles rs (in_roles more o)
in_both [] more o = refl
in_both (r ∷ rs) more o = ap (λ o. in_role r o) (in_both rs more o)

run_passed : (later : Stack → Course) (rs : List Role) (m : Move) → run_move later (passed (Some rs) m) ≡ in_roles rs (run_move later m)
run_passed later rs refused = sym (in_none rs)
run_passed later rs (goes more s) = in_both rs more (later s)

end_passed : (rs : List Role) (o : Course) → passed_end (Some rs) o ≡ in_roles rs o
end_passed rs None = sym (in_none rs)
end_passed rs (Some more) = sym (in_some rs more)

pub takes : (x : Symbol) (s : Stack) (w : Word) (ws : List Word) (turn : Turn) → row x w ≡ Some turn
    → run (x ∷ s) (w ∷ ws) ≡ in_roles turn.0 (run (turn.1 ++ s) ws)
takes x s w ws turn e = ap (λ o. run_move (λ t. run t ws) (turned o s (passed (empty x) (step s w)))) e

-- the symbol does not take the first of the words
abbrev pub Refuses : Symbol → List Word → Type 0
Refuses x [] = Unit {0}
Refuses x (w ∷ ws) = row x w ≡ None

pub skips : (x : Symbol) (s : Stack) (ws : List Word) (rs : List Role) → empty x ≡ Some rs → Refuses x ws
    → run (x ∷ s) ws ≡ in_roles rs (run s ws)
skips x s [] rs e r = ap (λ o. passed_end o (at_end s)) e ∙ end_passed rs (at_end s)
skips x s (w ∷ ws) rs e r =
    ap (λ o. run_move (λ t. run t ws) (turned o s (passed (empty x) (step s w)))) r
    ∙ ap (λ o. run_move (λ t. run t ws) (passed o (step s w))) e ∙ run_passed (λ t. run t ws) rs (step s w)

-- ---- nothing is wrong

-- nothing is wrong with a word in this role
unfoldable pub is_fine : Environment → Role → Bool
is_fine E r = is_none (check E r)

-- nothing is wrong in these roles, one after another
abbrev pub are_fine : Environment → List Role → Bool
are_fine E [] = true
are_fine E (r ∷ rs) = is_fine E r && are_fine (update E r) rs

-- the machine takes the words, and nothing is wrong with them
abbrev pub passes : Environment → Course → Bool
passes E None = false
passes E (Some rs) = are_fine E rs

pub passes_role : (E : Environment) (r : Role) (o : Course) → passes E (in_role r o) ≡ (is_fine E r && passes (update E r) o)
passes_role E r None = sym (and-false (is_fine E r))
passes_role E r (Some rs) = refl

and_assoc : (a b c : Bool) → ((a && b) && c) ≡ (a && (b && c))
and_assoc true b c = refl
and_assoc false b c = refl

passes_roles : (E : Environment) (rs : List Role) (o : Course) → passes E (in_roles rs o) ≡ (are_fine E rs && passes (update_all E rs) o)
passes_roles E [] o = refl
passes_roles E (r ∷ rs) o =
    passes_role E r (in_roles rs o) ∙ ap (λ b. is_fine E r && b) (passes_roles (update E r) rs o)
    ∙ sym (and_assoc (is_fine E r) (are_fine (update E r) rs) (passes (update_all (update E r) rs) o))

-- ---- the first fault is none exactly where they pass

none_of_two : (x y : FaultKind) (b : Bool) → is_none (if b then Some x else Some y) ≡ false
none_of_two x y true = refl
none_of_two x y false = refl

sooner_none : (x y : Option FaultKind) → is_none (sooner x y) ≡ (is_none x && is_none y)
sooner_none None y = refl
sooner_none (Some x) None = refl
sooner_none (Some x) (Some y) = none_of_two x y (nat_le (rank x) (rank y))

check_none : (E : Environment) (wrong : Option FaultKind) (roles : List Role)
    → is_none (check_all E wrong roles) ≡ (is_none wrong && are_fine E roles)
unfolding is_fine
check_none E None [] = refl
check_none E (Some x) [] = refl
check_none E wrong (r ∷ rs) =
    check_none (update E r) (sooner wrong (check E r)) rs ∙ ap (λ b. b && are_fine (update E r) rs) (sooner_none wrong (check E r))
    ∙ and_assoc (is_none wrong) (is_none (check E r)) (are_fine (update E r) rs)

judged_none : (offset : ℕ) (x : Option FaultKind) (later : Option Fault) → is_none (judged offset x later) ≡ (is_none x && is_none later)
judged_none offset None later = refl
judged_none offset (Some x) later = refl

roles_none : (E : Environment) (offset : ℕ) (roles : List Role) (later : Option Fault) (o : Course)
    → is_none later ≡ passes (update_all E roles) o → is_none (judged offset (check_all E None roles) later) ≡ passes E (in_roles roles o)
roles_none E offset roles later o e =
    judged_none offset (check_all E None roles) later ∙ ap (λ b. b && is_none later) (check_none E None roles)
    ∙ ap (λ b. are_fine E roles && b) e ∙ sym (passes_roles E roles o)

move_none : (E : Environment) (offset : ℕ) (later : Environment → Stack → Option Fault) (course : Stack → Course)
    → ((F : Environment) (s : Stack) → is_none (later F s) ≡ passes F (course s)) → (m : Move)
    → is_none (at_move E offset later m) ≡ passes E (run_move course m)
move_none E offset later course h refused = refl
move_none E offset later course h (goes roles s) = roles_none E offset roles (later (update_all E roles) s) (course s) (h (update_all E roles) s)

end_none : (E : Environment) (offset : ℕ) (o : Course) → is_none (ended E offset o) ≡ passes E o
end_none E offset None = refl
end_none E offset (Some roles) =
    roles_none E offset roles None (Some []) refl ∙ ap (λ o. passes E o) (in_some roles [] ∙ ap (λ rs. Some rs) (append_nil roles))
  where
    append_nil : (rs : List Role) → rs ++ [] ≡ rs
    append_nil [] = refl
    append_nil (r ∷ more) = ap (λ x. r ∷ x) (append_nil more)

fault_none : (bytes : List ℕ) (tokens : Stream) (ws : List Word) (stop : ℕ) → BeginsWith bytes tokens ws (end stop)
    → (E : Environment) (s : Stack) → is_none (fault_from bytes tokens E s) ≡ passes E (run s ws)
fault_none bytes tokens [] stop b E s = ap (λ t. is_none (fault_from bytes t E s)) b ∙ end_none E stop (at_end s)
fault_none bytes (token t more) (w ∷ ws) stop b E s =
    move_none E t.from (λ F u. fault_from bytes more F u) (λ u. run u ws) (fault_none bytes more ws stop b.1) (step s (word_of bytes t))
    ∙ ap (λ x. passes E (run_move (λ u. run u ws) (step s x))) b.0
fault_none bytes (end at) (w ∷ ws) stop b E s = absurd b
fault_none bytes (bad at) (w ∷ ws) stop b E s = absurd b

is_none_of : {A : Type 0} (x : Option A) → is_none x ≡ true → x ≡ None
is_none_of None e = refl
is_none_of (Some a) e = absurd (cc e)

-- the text has no fault exactly where its words pass
pub faultless : (bytes : List ℕ) (tokens : Stream) (ws : List Word) (stop : ℕ) → BeginsWith bytes tokens ws (end stop)
    → (E : Environment) (s : Stack) → (fault_from bytes tokens E s ≡ None) ↔ (passes E (run s ws) ≡ true)
faultless bytes tokens ws stop b E s =
    let h = fault_none bytes tokens ws stop b E s in
    (λ e. sym h ∙ ap (λ x. is_none x) e, λ e. is_none_of (fault_from bytes tokens E s) (h ∙ e))
