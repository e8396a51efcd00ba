-- Nothing is wrong with the words of statements exactly where they use names as they are declared and are within the limits.
use Rattle.std.proofs.Common.{◌≡◌, ◌+◌, true, List, [], ◌∷◌, ◌++◌, length, map, Some, refl, sym, subst, arith, append_assoc, append-nil}
use Rattle.tree_model.specs.Signatures.{Signature}
use Rattle.formula_grammar.specs.Written.{Text, WrittenFormula, Declaration, Said, symbols, predicate, question}
use Rattle.formula_grammar.specs.Words.{WrittenStatement}
use Rattle.formula_grammar.specs.Machine.{open_place, closed_place, begins, declares, has_arity, declares_predicate, ends_predicate}
use Rattle.formula_grammar.specs.Checks.{Environment}
use Rattle.formula_grammar.specs.Names.{symbol_entry, UsesNames, AreNew, IsNamed, AreNamed, declared_by}
use Rattle.formula_grammar.specs.Within.{IsSized, AreSmallDeclarations, IsWithin, AreWithin, joints}
use Rattle.formula_grammar.proofs.Run.{Course, in_role, passes}
use Rattle.formula_grammar.proofs.WrittenRoles.{formula_roles, declarations_roles, parameters_roles, said_roles, statements_roles}
use Rattle.formula_grammar.proofs.Roles.{allowed, granted}
use Rattle.formula_grammar.proofs.FormulaChecks.{at_joints, formula_allowed, formula_granted}
use Rattle.formula_grammar.proofs.ParameterChecks.{parameters_allowed, parameters_granted}

-- ---- declarations

abbrev over : Environment → Signature → Environment
over E σ = record E { signature = σ }

moved : (o : Course) (E : Environment) (σ τ : Signature) → σ ≡ τ → passes (over E σ) o ≡ true → passes (over E τ) o ≡ true
moved o E σ τ e h = subst (λ σ. passes (over E σ) o ≡ true) e h

declarations_allowed : (ds : List Declaration) (o : Course) (E : Environment) → passes E (declarations_roles ds o) ≡ true
    → AreNew E.signature ds × AreSmallDeclarations E.signature ds × (passes (over E (E.signature ++ map symbol_entry ds)) o ≡ true)
declarations_allowed [] o E e = (tt, tt, moved o E E.signature (E.signature ++ []) (sym (append-nil E.signature)) e)
declarations_allowed (d ∷ ds) o E e =
    let a = allowed (declares d.name) (in_role (has_arity d.name d.digits) (declarations_roles ds o)) E e in
    let b = allowed (has_arity d.name d.digits) (declarations_roles ds o) E a.1 in
    let h = declarations_allowed ds o (over E (E.signature ++ symbol_entry d ∷ [])) b.1 in (
      (a.0.0, h.0),
      (record { short = a.0.1; few_arguments = b.0; few_symbols = a.0.2 }, h.1),
      moved o E ((E.signature ++ symbol_entry d ∷ []) ++ map symbol_entry ds) (E.signature ++ symbol_entry d ∷ map symbol_entry ds)
          (append_assoc E.signature (symbol_entry d ∷ []) (map symbol_entry ds)) h.2,
    )

declarations_granted : (ds : List Declaration) (o : Course) (E : Environment) → AreNew E.signature ds → AreSmallDeclarations E.signature ds
    → passes (over E (E.signature ++ map symbol_entry ds)) o ≡ true → passes E (declarations_roles ds o) ≡ true
declarations_granted [] o E a b e = moved o E (E.signature ++ []) E.signature (append-nil E.signature) e
declarations_granted (d ∷ ds) o E a b e =
    granted (declares d.name) (in_role (has_arity d.name d.digits) (declarations_roles ds o)) E (a.0, b.0.short, b.0.few_symbols)
    (granted (has_arity d.name d.digits) (declarations_roles ds o) E b.0.few_arguments
    (declarations_granted ds o (over E (E.signature ++ symbol_entry d ∷ [])) a.1 b.1
    (moved o E (E.signature ++ symbol_entry d ∷ map symbol_entry ds) ((E.signature ++ symbol_entry d ∷ []) ++ map symbol_entry ds)
    (sym (append_assoc E.signature (symbol_entry d ∷ []) (map symbol_entry ds))) e)))

-- ---- formulas at the outermost place

pub asked_allowed : (σ : Signature) (f : WrittenFormula) (o : Course) → passes (at_joints σ 0) (formula_roles open_place f o) ≡ true
    → UsesNames σ f × IsSized f × (passes (at_joints σ (0 + joints f)) o ≡ true)
asked_allowed σ f o e =
    let a = formula_allowed σ f open_place o 0 (omega arith) (omega arith) e in
    (a.0.0, record { small = a.0.2; nested = omega (arith, a.0.3); joined = omega (arith, a.0.4) }, a.1)

pub asked_granted : (σ : Signature) (f : WrittenFormula) (o : Course) → UsesNames σ f → IsSized f → passes (at_joints σ (0 + joints f)) o ≡ true
    → passes (at_joints σ 0) (formula_roles open_place f o) ≡ true
asked_granted σ f o u w e =
    formula_granted σ f open_place o 0 (u, (λ x. absurd (cc x)), w.small, omega (arith, w.nested), omega (arith, w.joined)) e

-- ---- statements

module _ (E : Environment) (o : Course) where
  predicate_allowed : (p : Text) (xs : List Text) (f : WrittenFormula) → passes E (said_roles (predicate p xs f) o) ≡ true
      → IsNamed E.signature (predicate p xs f) × IsWithin E.signature (predicate p xs f)
      × (passes (at_joints (declared_by E.signature (predicate p xs f)) (0 + joints f)) o ≡ true)
  predicate_allowed p xs f e =
      let end : Course = in_role (ends_predicate p (length xs)) o in
      let body : Course = formula_roles (closed_place xs) f end in
      let start : Environment = at_joints E.signature 0 in
      let a = allowed begins (in_role (declares_predicate p) (parameters_roles [] xs body)) E e in
      let b = allowed (declares_predicate p) (parameters_roles [] xs body) start a.1 in
      let c = parameters_allowed start body xs b.1 in
      let h = formula_allowed E.signature f (closed_place xs) end 0 (omega arith) (omega arith) c.3 in
      let x = allowed (ends_predicate p (length xs)) o (at_joints E.signature (0 + joints f)) h.1 in (
        record { new = b.0.0; distinct = c.0; uses = h.0.0; bound = h.0.1 refl },
        record {
          short = b.0.1;
          few_predicates = b.0.2;
          short_parameters = c.1;
          few_parameters = c.2;
          sized = record { small = h.0.2; nested = omega (arith, h.0.3); joined = omega (arith, h.0.4) };
        },
        x.1,
      )

  predicate_granted : (p : Text) (xs : List Text) (f : WrittenFormula) → IsNamed E.signature (predicate p xs f)
      → IsWithin E.signature (predicate p xs f) → passes (at_joints (declared_by E.signature (predicate p xs f)) (0 + joints f)) o ≡ true
      → passes E (said_roles (predicate p xs f) o) ≡ true
  predicate_granted p xs f n w e =
      let end : Course = in_role (ends_predicate p (length xs)) o in
      let body : Course = formula_roles (closed_place xs) f end in
      let start : Environment = at_joints E.signature 0 in
      granted begins (in_role (declares_predicate p) (parameters_roles [] xs body)) E tt
      (granted (declares_predicate p) (parameters_roles [] xs body) start (n.new, w.short, w.few_predicates)
      (parameters_granted start body xs n.distinct w.short_parameters w.few_parameters
      (formula_granted E.signature f (closed_place xs) end 0
      (n.uses, (λ x. n.bound), w.sized.small, omega (arith, w.sized.nested), omega (arith, w.sized.joined))
      (granted (ends_predicate p (length xs)) o (at_joints E.signature (0 + joints f)) tt e))))

-- where the course goes on behind a statement
abbrev left_by : Environment → Said → Environment
left_by E (symbols d ds) = over E (E.signature ++ map symbol_entry (d ∷ ds))
left_by E (predicate p xs f) = at_joints (declared_by E.signature (predicate p xs f)) (0 + joints f)
left_by E (question f) = at_joints E.signature (0 + joints f)

left_signature : (E : Environment) (said : Said) → (left_by E said).signature ≡ declared_by E.signature said
left_signature E (symbols d ds) = refl
left_signature E (predicate p xs f) = refl
left_signature E (question f) = refl

said_allowed : (said : Said) (o : Course) (E : Environment) → passes E (said_roles said o) ≡ true
    → IsNamed E.signature said × IsWithin E.signature said × (passes (left_by E said) o ≡ true)
said_allowed (symbols d ds) o E e = declarations_allowed (d ∷ ds) o E e
said_allowed (predicate p xs f) o E e = predicate_allowed E o p xs f e
said_allowed (question f) o E e =
    let a = allowed begins (formula_roles open_place f o) E e in asked_allowed E.signature f o a.1

said_granted : (said : Said) (o : Course) (E : Environment) → IsNamed E.signature said → IsWithin E.signature said → passes (left_by E said) o ≡ true
    → passes E (said_roles said o) ≡ true
said_granted (symbols d ds) o E n w e = declarations_granted (d ∷ ds) o E n w e
said_granted (predicate p xs f) o E n w e = predicate_granted E o p xs f n w e
said_granted (question f) o E n w e = granted begins (formula_roles open_place f o) E tt (asked_granted E.signature f o n w e)

pub statements_allowed : (ss : List WrittenStatement) (E : Environment) → passes E (statements_roles ss (Some [])) ≡ true
    → AreNamed E.signature ss × AreWithin E.signature ss
statements_allowed [] E e = (tt, tt)
statements_allowed (s ∷ ss) E e =
    let a = said_allowed s.said (statements_roles ss (Some [])) E e in
    let b = statements_allowed ss (left_by E s.said) a.2 in
    let h = left_signature E s.said in
    ((a.0, subst (λ σ. AreNamed σ ss) h b.0), (a.1, subst (λ σ. AreWithin σ ss) h b.1))

pub statements_granted : (ss : List WrittenStatement) (E : Environment) → AreNamed E.signature ss → AreWithin E.signature ss
    → passes E (statements_roles ss (Some [])) ≡ true
statements_granted [] E n w = refl
statements_granted (s ∷ ss) E n w =
    let h = sym (left_signature E s.said) in
    said_granted s.said (statements_roles ss (Some [])) E n.0 w.0
    (statements_granted ss (left_by E s.said) (subst (λ σ. AreNamed σ ss) h n.1) (subst (λ σ. AreWithin σ ss) h w.1))
