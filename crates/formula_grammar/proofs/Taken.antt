-- What is written is taken by the machine wherever what stands behind it is.
use Rattle.std.proofs.Common.{◌≡◌, ℕ, suc, List, [], ◌∷◌, ◌++◌, Some, ap}
use Rattle.formula_grammar.specs.Written.{Text, Head, named, further, WrittenTerm, variable, headed, WrittenTerms, no_terms, one_more, WrittenFormula, truth, finite, win, compared, call, no, group, joined, quantified, Declaration, Said, symbols, predicate, question}
use Rattle.formula_grammar.specs.Words.{WrittenStatement}
use Rattle.formula_grammar.specs.Machine.{Place, deeper, binding, open_place, closed_place, Role, sign_roles, right_place, ends_predicate, compares, stands_alone}
use Rattle.formula_grammar.proofs.Run.{Course, in_role, in_roles}
use Rattle.formula_grammar.proofs.WrittenRoles.{term_roles, arguments_roles, more_roles, left_roles, variables_roles, bind_all, formula_roles, declarations_roles, parameters_roles, said_roles, statements_roles}

-- a course that does not stop
pub record Is (o : Course) : Type 0 where
  pub roles : List Role
  pub are : o ≡ Some roles

with_role : (r : Role) (o : Course) → Is o → Is (in_role r o)
with_role r o h = record { roles = r ∷ h.roles; are = ap (λ o. in_role r o) h.are }

with_roles : (rs : List Role) (o : Course) → Is o → Is (in_roles rs o)
with_roles [] o h = h
with_roles (r ∷ rs) o h = with_role r (in_roles rs o) (with_roles rs o h)

mutual
  term_taken : (c : Place) (t : WrittenTerm) (o : Course) → Is o → Is (term_roles c t o)
  term_taken c (variable x) o h = with_role _ o h
  term_taken c (headed f ts) o h = with_role _ (arguments_roles f c ts o) (arguments_taken f c ts o h)

  arguments_taken : (f : Head) (c : Place) (ts : WrittenTerms) (o : Course) → Is o → Is (arguments_roles f c ts o)
  arguments_taken f c no_terms o h = with_role _ o h
  arguments_taken f c (one_more t ts) o h =
      with_role _ (in_role _ (term_roles (deeper c) t (more_roles f 1 (deeper c) ts o)))
      (with_role _ (term_roles (deeper c) t (more_roles f 1 (deeper c) ts o))
      (term_taken (deeper c) t (more_roles f 1 (deeper c) ts o) (more_taken f 1 (deeper c) ts o h)))

  more_taken : (f : Head) (n : ℕ) (c : Place) (ts : WrittenTerms) (o : Course) → Is o → Is (more_roles f n c ts o)
  more_taken f n c no_terms o h = with_role _ o h
  more_taken f n c (one_more t ts) o h =
      with_role _ (term_roles c t (more_roles f (suc n) c ts o)) (term_taken c t (more_roles f (suc n) c ts o) (more_taken f (suc n) c ts o h))

left_taken : (c : Place) (t : WrittenTerm) (o : Course) → Is o → Is (left_roles c t o)
left_taken c (variable x) o h = with_role _ o h
left_taken c (headed (named f) ts) o h =
    with_role _ (arguments_roles (named f) c ts (in_role (compares f) o)) (arguments_taken (named f) c ts (in_role (compares f) o) (with_role (compares f) o h))
left_taken c (headed (further i) ts) o h = with_role _ (arguments_roles (further i) c ts o) (arguments_taken (further i) c ts o h)

variables_taken : (xs : List Text) (o : Course) → Is o → Is (variables_roles xs o)
variables_taken [] o h = h
variables_taken (x ∷ xs) o h = with_role _ (variables_roles xs o) (variables_taken xs o h)

pub formula_taken : (c : Place) (f : WrittenFormula) (o : Course) → Is o → Is (formula_roles c f o)
formula_taken c (truth b) o h = h
formula_taken c (finite t) o h = with_role _ (term_roles (deeper c) t o) (term_taken (deeper c) t o h)
formula_taken c (win p n t) o h =
    with_role _ (in_role _ (in_role _ (term_roles (deeper c) t o))) (with_role _ (in_role _ (term_roles (deeper c) t o))
    (with_role _ (term_roles (deeper c) t o) (term_taken (deeper c) t o h)))
formula_taken c (compared r t u) o h = left_taken c t (term_roles c u o) (term_taken c u o h)
formula_taken c (call p ts) o h =
    with_role _ (arguments_roles (named p) c ts (in_role (stands_alone p) o)) (arguments_taken (named p) c ts (in_role (stands_alone p) o) (with_role (stands_alone p) o h))
formula_taken c (no f) o h = with_role _ (formula_roles (deeper c) f o) (formula_taken (deeper c) f o h)
formula_taken c (group f) o h = with_role _ (formula_roles (deeper c) f o) (formula_taken (deeper c) f o h)
formula_taken c (joined j f g) o h =
    formula_taken c f (in_roles (sign_roles j c) (formula_roles (right_place j c) g o))
    (with_roles (sign_roles j c) (formula_roles (right_place j c) g o) (formula_taken (right_place j c) g o h))
formula_taken c (quantified q x xs f) o h =
    with_role _ (in_role _ (variables_roles xs (formula_roles (bind_all xs (binding x (deeper c))) f o)))
    (with_role _ (variables_roles xs (formula_roles (bind_all xs (binding x (deeper c))) f o))
    (variables_taken xs (formula_roles (bind_all xs (binding x (deeper c))) f o) (formula_taken (bind_all xs (binding x (deeper c))) f o h)))

declarations_taken : (ds : List Declaration) (o : Course) → Is o → Is (declarations_roles ds o)
declarations_taken [] o h = h
declarations_taken (d ∷ ds) o h =
    with_role _ (in_role _ (declarations_roles ds o)) (with_role _ (declarations_roles ds o) (declarations_taken ds o h))

parameters_taken : (before xs : List Text) (o : Course) → Is o → Is (parameters_roles before xs o)
parameters_taken before [] o h = h
parameters_taken before (x ∷ xs) o h = with_role _ (parameters_roles (before ++ x ∷ []) xs o) (parameters_taken (before ++ x ∷ []) xs o h)

said_taken : (said : Said) (o : Course) → Is o → Is (said_roles said o)
said_taken (symbols d ds) o h = declarations_taken (d ∷ ds) o h
said_taken (predicate p xs f) o h =
    let body = formula_taken (closed_place xs) f (in_role (ends_predicate p _) o) (with_role _ o h) in
    with_role _ (in_role _ _) (with_role _ _ (parameters_taken [] xs _ body))
said_taken (question f) o h = with_role _ (formula_roles open_place f o) (formula_taken open_place f o h)

pub statements_taken : (ss : List WrittenStatement) (o : Course) → Is o → Is (statements_roles ss o)
statements_taken [] o h = h
statements_taken (s ∷ ss) o h = said_taken s.said (statements_roles ss o) (statements_taken ss o h)
