-- Chains of turns along settled arguments, and why the first that comes round is the least.
use Rattle.std.proofs.Common.{ℕ, ◌≡◌, ◌<◌, List, [], ◌∷◌, ◌++◌, length, map, refl, sym, ap, ◌∙◌, subst, arith, inl, inr, ◌⊎◌, append_assoc}
use Rattle.std.specs.Prelude.{slice_index, Contains}
use Rattle.std.proofs.lemmas.List.{append-nil, length-append, map-append}
use Rattle.std.proofs.lemmas.List.Elements.{Contains-append_left, Contains-push, Contains-append_cases}
use Rattle.lists.specs.Distinct.{IsDistinct}
use Rattle.tree_model.specs.declared.tree.Symbol.{Symbol}
use Rattle.tree_facts.proofs.Members.{contains_first, contains_later, contains_cases}
use Rattle.flat_form.specs.declared.atom.Flat.{Flat}
use Rattle.flat_form.specs.declared.atom.Flat.TheVariants.{VarTerm}
use Rattle.flat_facts.specs.Spread.{IsTarget, Leads, stays, goes, IsAtMost, IsLeastRound}
use Rattle.settled_facts.specs.Ends.{Ends}
use Rattle.settled_facts.proofs.Ending.{no_round}

pub lead_on : (basic : List Flat) (u v w : ℕ) (p b q c : List ℕ) → Leads basic u p b v → Leads basic v q c w → Leads basic u (p ++ q) (b ++ c) w
lead_on basic u v w p b q c (stays x) more = more
lead_on basic u v w p b q c (goes x y s xs i path before stands within on) more =
    goes u w s xs i (path ++ q) (before ++ c) stands within (lead_on basic (slice_index xs i) v w path before q c on more)

-- one turn
pub lead_one : (basic : List Flat) (u : ℕ) (s : Symbol) (xs : List ℕ) (i : ℕ) → Contains basic (VarTerm u s xs) → i < length xs
    → Leads basic u (i ∷ []) (u ∷ []) (slice_index xs i)
lead_one basic u s xs i stands within = goes u (slice_index xs i) s xs i [] [] stands within (stays (slice_index xs i))

pub distinct_push : (b : List ℕ) (x : ℕ) → IsDistinct b → ¬ Contains b x → IsDistinct (b ++ x ∷ [])
distinct_push [] x d new = (λ i. omega (arith, i.1), tt)
distinct_push (y ∷ b) x d new = (
  λ i. elim (Contains-append_cases b (x ∷ []) y i) [
    | inl j ↦ d.0 j
    | inr j ↦ elim (contains_cases x y [] j) [
      | inl e ↦ new (subst (λ z. Contains (y ∷ b) z) (sym e) (contains_first y b))
      | inr k ↦ omega (arith, k.1)
    ]
  ],
  distinct_push b x d.1 (λ j. new (contains_later y x b j)),
)

pub distinct_front : (b : List ℕ) (x : ℕ) → IsDistinct (b ++ x ∷ []) → IsDistinct b × (¬ Contains b x)
distinct_front [] x d = (tt, λ i. omega (arith, i.1))
distinct_front (y ∷ b) x d =
    let more : IsDistinct b × (¬ Contains b x) = distinct_front b x d.1 in (
      (λ i. d.0 (Contains-append_left b (x ∷ []) y i), more.0),
      λ i. elim (contains_cases y x b i) [
        | inl e ↦ d.0 (subst (λ z. Contains (b ++ x ∷ []) z) (sym e) (Contains-push b x))
        | inr j ↦ more.1 j
      ],
    )

at_most_front : (p q : List ℕ) → IsAtMost p (p ++ q)
at_most_front [] q = tt
at_most_front (i ∷ p) q = inr (refl, at_most_front p q)

at_most_behind : (p a b : List ℕ) → IsAtMost a b → IsAtMost (p ++ a) (p ++ b)
at_most_behind [] a b h = h
at_most_behind (i ∷ p) a b h = inr (refl, at_most_behind p a b h)

snoc_same : {A : Type 0} (xs ys : List A) (x y : A) → xs ++ x ∷ [] ≡ ys ++ y ∷ [] → (xs ≡ ys) × (x ≡ y)
snoc_same [] [] x y e = (refl, cc)
snoc_same [] (z ∷ ys) x y e = absurd (omega (arith, ap length e, length-append ys (y ∷ [])))
snoc_same (z ∷ xs) [] x y e = absurd (omega (arith, ap length e, length-append xs (x ∷ [])))
snoc_same (z ∷ xs) (w ∷ ys) x y e =
    let rest : xs ++ x ∷ [] ≡ ys ++ y ∷ [] = cc in
    let first : z ≡ w = cc in
    let more : (xs ≡ ys) × (x ≡ y) = snoc_same xs ys x y rest in
    (ap (λ l. z ∷ l) more.0 ∙ ap (λ k. k ∷ ys) first, more.1)

less_cases : (m n : ℕ) → (m < n) ⊎ ((m ≡ n) ⊎ (n < m))
less_cases m n = grind arith

-- what stands below settled variables is settled, and all walks from them end
pub record IsShown (basic : List Flat) (Settled : ℕ → Type 0) : Type 0 where
  pub closed : (u : ℕ) (symbol : Symbol) (xs : List ℕ) → Contains basic (VarTerm u symbol xs) → Settled u → (i : ℕ) → i < length xs → Settled (slice_index xs i)
  pub ends : (u : ℕ) → Settled u → Ends basic u

-- each variable has one term
abbrev pub HaveOneTerm : List Flat → Type 0
HaveOneTerm basic = (u : ℕ) (s t : Symbol) (xs ys : List ℕ) → Contains basic (VarTerm u s xs) → Contains basic (VarTerm u t ys) → xs ≡ ys

module _ (basic : List Flat) (Settled : ℕ → Type 0) (shown : IsShown basic Settled) where
  pub settled_lead : (x last : ℕ) (path before : List ℕ) → Leads basic x path before last → Settled x → Settled last
  settled_lead x last path before (stays y) h = h
  settled_lead x last path before (goes y z s xs i p b stands within on) h =
      settled_lead (slice_index xs i) last p b on (shown.closed x s xs stands h i within)

  -- no walk from a settled variable meets its end before
  pub settled_clean : (x last : ℕ) (path before : List ℕ) → Leads basic x path before last → Settled x → ¬ Contains before last
  settled_clean x last path before on h = no_round basic x last path before (shown.ends x h) on

-- Turns, each at a variable and along an argument of its term, lead from the first variable to the last, past settled
-- arguments; besides, the variables where they begin.
pub data Chain (basic : List Flat) (Turn : Type 0) (argument : Turn → ℕ) (IsAt : Turn → ℕ → Type 0) (Settled : ℕ → Type 0) (start : ℕ) : List Turn → List ℕ → ℕ → Type 0 where
  alone : Chain basic Turn argument IsAt Settled start [] [] start
  turns : (walk : List Turn) (before : List ℕ) (u : ℕ) (symbol : Symbol) (xs : List ℕ) (at : Turn)
      → Chain basic Turn argument IsAt Settled start walk before u → IsAt at u → Contains basic (VarTerm u symbol xs) → argument at < length xs
      → ((i : ℕ) → i < argument at → Settled (slice_index xs i))
      → Chain basic Turn argument IsAt Settled start (walk ++ at ∷ []) (before ++ u ∷ []) (slice_index xs (argument at))

module _ (basic : List Flat) (Turn : Type 0) (argument : Turn → ℕ) (IsAt : Turn → ℕ → Type 0) where
  pub chain_leads : (Settled : ℕ → Type 0) (start : ℕ) (walk : List Turn) (before : List ℕ) (u : ℕ)
      → Chain basic Turn argument IsAt Settled start walk before u → Leads basic start (map argument walk) before u
  chain_leads Settled start walk before u alone = stays start
  chain_leads Settled start walk before u (turns w b x s xs at chain here stands within passed) =
      subst (λ path. Leads basic start path (b ++ x ∷ []) (slice_index xs (argument at))) (sym (map-append argument w (at ∷ [])))
      (lead_on basic start x (slice_index xs (argument at)) (map argument w) b (argument at ∷ []) (x ∷ []) (chain_leads Settled start w b x chain)
      (lead_one basic x s xs (argument at) stands within))

  pub chain_kept : (Old New : ℕ → Type 0) (start : ℕ) → ((w : ℕ) → Old w → New w) → (walk : List Turn) (before : List ℕ) (u : ℕ)
      → Chain basic Turn argument IsAt Old start walk before u → Chain basic Turn argument IsAt New start walk before u
  chain_kept Old New start kept walk before u alone = alone
  chain_kept Old New start kept walk before u (turns w b x s xs at chain here stands within passed) =
      turns w b x s xs at (chain_kept Old New start kept w b x chain) here stands within (λ i l. kept (slice_index xs i) (passed i l))

  -- the last turn of a chain, and the chain before it
  pub record LastTurn (Settled : ℕ → Type 0) (start : ℕ) (walk : List Turn) (at : Turn) (before : List ℕ) : Type 0 where
    pub front : List ℕ
    pub u : ℕ
    pub symbol : Symbol
    pub xs : List ℕ
    pub chain : Chain basic Turn argument IsAt Settled start walk front u
    pub here : IsAt at u
    pub stands : Contains basic (VarTerm u symbol xs)
    pub passed : (i : ℕ) → i < argument at → Settled (slice_index xs i)
    pub before_is : before ≡ front ++ u ∷ []

  pub chain_back : (Settled : ℕ → Type 0) (start : ℕ) (all : List Turn) (before : List ℕ) (w : ℕ)
      → Chain basic Turn argument IsAt Settled start all before w → (walk : List Turn) (at : Turn) → all ≡ walk ++ at ∷ [] → LastTurn Settled start walk at before
  chain_back Settled start all before w alone walk at e = absurd (omega (arith, ap length e, length-append walk (at ∷ [])))
  chain_back Settled start all before w (turns old b x s xs turn chain here stands within passed) walk at e =
      let same : (old ≡ walk) × (turn ≡ at) = snoc_same old walk turn at e in
      record {
        front = b;
        u = x;
        symbol = s;
        xs = xs;
        chain = subst (λ z. Chain basic Turn argument IsAt Settled start z b x) same.0 chain;
        here = subst (λ z. IsAt z x) same.1 here;
        stands = stands;
        passed = subst (λ z. (i : ℕ) → i < argument z → Settled (slice_index xs i)) same.1 passed;
        before_is = refl;
      }

  -- with no turn, the chain ends where it starts
  pub chain_alone : (Settled : ℕ → Type 0) (start : ℕ) (all : List Turn) (before : List ℕ) (w : ℕ)
      → Chain basic Turn argument IsAt Settled start all before w → all ≡ [] → start ≡ w
  chain_alone Settled start all before w alone e = refl
  chain_alone Settled start all before w (turns old b x s xs turn chain here stands within passed) e =
      absurd (omega (arith, ap length e, length-append old (turn ∷ [])))

  -- a walk that goes on along the chain
  record GoesOn (walk : List Turn) (front : List ℕ) (u : ℕ) (path before : List ℕ) (last : ℕ) : Type 0 where
    rest : List ℕ
    behind : List ℕ
    path_is : path ≡ map argument walk ++ rest
    before_is : before ≡ front ++ behind
    on : Leads basic u rest behind last

  -- a path that is greater than each that begins along the chain
  abbrev IsGreater : List Turn → List ℕ → Type 0
  IsGreater walk path = (q : List ℕ) → IsAtMost (map argument walk ++ q) path

  pushed_is : (walk : List Turn) (at : Turn) (q : List ℕ) → map argument (walk ++ at ∷ []) ++ q ≡ map argument walk ++ (argument at ∷ q)
  pushed_is walk at q = ap (λ z. z ++ q) (map-append argument walk (at ∷ [])) ∙ append_assoc (map argument walk) (argument at ∷ []) q

  module _ (one : HaveOneTerm basic) (Settled : ℕ → Type 0) (shown : IsShown basic Settled) where
    -- through a settled argument no walk comes round
    never : (b : List ℕ) (x y last : ℕ) (p behind : List ℕ) → ((z : ℕ) → Contains (b ++ x ∷ []) z → ¬ Settled z) → Settled y
        → Leads basic y p behind last → ¬ Contains (b ++ (x ∷ behind)) last
    never b x y last p behind new settled on = λ inside.
        let end : Settled last = settled_lead basic Settled shown y last p behind on settled in
        elim (Contains-append_cases b (x ∷ behind) last inside) [
          | inl i ↦ new last (Contains-append_left b (x ∷ []) last i) end
          | inr i ↦ elim (contains_cases x last behind i) [
            | inl e ↦ new x (Contains-push b x) (subst Settled (sym e) end)
            | inr j ↦ settled_clean basic Settled shown y last p behind on settled j
          ]
        ]

    module _ (w : List Turn) (b : List ℕ) (at : Turn) (xs : List ℕ) (passed : (i : ℕ) → i < argument at → Settled (slice_index xs i)) where
      -- a walk that comes to the last turn
      along : (x : ℕ) (rest behind : List ℕ) (last : ℕ) → Leads basic x rest behind last → (s : Symbol) → Contains basic (VarTerm x s xs)
          → ¬ Contains b x → ((z : ℕ) → Contains (b ++ x ∷ []) z → ¬ Settled z)
          → (path before : List ℕ) → Contains before last → path ≡ map argument w ++ rest → before ≡ b ++ behind
          → IsGreater (w ++ at ∷ []) path ⊎ GoesOn (w ++ at ∷ []) (b ++ x ∷ []) (slice_index xs (argument at)) path before last
      along x rest behind last (stays y) s stands apart new path before again path_is before_is =
          absurd (apart (subst (λ z. Contains z x) (before_is ∙ append-nil b) again))
      along x rest behind last (goes y z t ys i p bb stands' within' on') s stands apart new path before again path_is before_is =
          let same : ys ≡ xs = one x t s ys xs stands' stands in
          let on : Leads basic (slice_index xs i) p bb last = subst (λ zs. Leads basic (slice_index zs i) p bb last) same on' in
          elim (less_cases i (argument at)) [
            | inl l ↦ absurd (never b x (slice_index xs i) last p bb new (passed i l) on (subst (λ z. Contains z last) before_is again))
            | inr (inl e) ↦ inr (record {
              rest = p;
              behind = bb;
              path_is = path_is ∙ (ap (λ j. map argument w ++ (j ∷ p)) e ∙ sym (pushed_is w at p));
              before_is = before_is ∙ sym (append_assoc b (x ∷ []) bb);
              on = subst (λ j. Leads basic (slice_index xs j) p bb last) e on;
            })
            | inr (inr l) ↦ inl (λ q. subst (λ z. IsAtMost z path) (sym (pushed_is w at q))
                (subst (λ z. IsAtMost (map argument w ++ (argument at ∷ q)) z) (sym path_is)
                (at_most_behind (map argument w) (argument at ∷ q) (i ∷ p) (inl l))))
          ]

    -- a walk that comes round goes on along the chain, or is greater
    compare : (start : ℕ) (walk : List Turn) (front : List ℕ) (u : ℕ) → Chain basic Turn argument IsAt Settled start walk front u → IsDistinct front
        → ((w : ℕ) → Contains front w → ¬ Settled w)
        → (path before : List ℕ) (last : ℕ) → Leads basic start path before last → Contains before last
        → IsGreater walk path ⊎ GoesOn walk front u path before last
    compare start walk front u alone apart new path before last lead again = inr (record { rest = path; behind = before; path_is = refl; before_is = refl; on = lead })
    compare start walk front u (turns w b x s xs at chain here stands within passed) apart new path before last lead again =
        let parts : IsDistinct b × (¬ Contains b x) = distinct_front b x apart in
        elim (compare start w b x chain parts.0 (λ y i. new y (Contains-append_left b (x ∷ []) y i)) path before last lead again) [
          | inl greater ↦ inl (λ q. subst (λ z. IsAtMost z path) (sym (pushed_is w at q)) (greater (argument at ∷ q)))
          | inr more ↦ along w b at xs passed x more.rest more.behind last more.on s stands parts.1 new path before again more.path_is more.before_is
        ]

    -- a chain that ends at one of its variables comes round, and no walk that does is less
    pub least_round : (v start : ℕ) → IsTarget basic v start → ((other : ℕ) → IsTarget basic v other → other ≡ start)
        → (walk : List Turn) (front : List ℕ) (u : ℕ) → Chain basic Turn argument IsAt Settled start walk front u → IsDistinct front
        → ((w : ℕ) → Contains front w → ¬ Settled w) → Contains front u → IsLeastRound basic v (map argument walk)
    least_round v start target only walk front u chain apart new again = record {
      comes_round = record {
        start = start;
        before = front;
        last = u;
        target = target;
        walk = chain_leads Settled start walk front u chain;
        again = again;
        distinct = apart;
      };
      least = λ other r.
          let from : Leads basic start other r.before r.last = subst (λ z. Leads basic z other r.before r.last) (only r.start r.target) r.walk in
          elim (compare start walk front u chain apart new other r.before r.last from r.again) [
            | inl greater ↦ subst (λ z. IsAtMost z other) (append-nil (map argument walk)) (greater [])
            | inr more ↦ subst (λ z. IsAtMost (map argument walk) z) (sym more.path_is) (at_most_front (map argument walk) more.rest)
          ];
    }
