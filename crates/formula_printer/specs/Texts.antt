-- The text of what is written.
use Rattle.std.specs.Prelude.{Bool, true, false, List, [], ◌∷◌, ◌++◌, codes}
use Rattle.std.specs.List.{flat_map}
use Rattle.formula_grammar.specs.Written.{Text, Head, named, further, WrittenTerm, variable, headed, WrittenTerms, no_terms, one_more, Joint, and, or, imp, iff, Quantifier, exists, forall, Comparer, equals, differs, WrittenFormula, truth, finite, win, compared, call, no, group, joined, quantified}

abbrev pub head_text : Head → Text
head_text (named f) = f
head_text (further i) = i

abbrev mutual
  pub term_text : WrittenTerm → Text
  term_text (variable x) = x
  term_text (headed h ts) = head_text h ++ arguments_text ts

  -- nothing, or the terms in parentheses
  pub arguments_text : WrittenTerms → Text
  arguments_text no_terms = []
  arguments_text (one_more t ts) = codes "(" ++ term_text t ++ more_text ts ++ codes ")"

  -- each behind a comma
  pub more_text : WrittenTerms → Text
  more_text no_terms = []
  more_text (one_more t ts) = codes ", " ++ term_text t ++ more_text ts

abbrev pub truth_text : Bool → Text
truth_text true = codes "true"
truth_text false = codes "false"

abbrev pub comparer_text : Comparer → Text
comparer_text equals = codes "="
comparer_text differs = codes "!="

abbrev pub joint_text : Joint → Text
joint_text and = codes "&"
joint_text or = codes "|"
joint_text imp = codes "->"
joint_text iff = codes "<->"

abbrev pub quantifier_text : Quantifier → Text
quantifier_text exists = codes "exists"
quantifier_text forall = codes "forall"

-- a sign with a blank on each side
abbrev pub spaced : Text → Text
spaced sign = codes " " ++ sign ++ codes " "

-- each behind a blank
abbrev pub names_text : List Text → Text
names_text xs = flat_map (λ x. codes " " ++ x) xs

abbrev pub text_of : WrittenFormula → Text
text_of (truth b) = truth_text b
text_of (finite t) = codes "finite(" ++ term_text t ++ codes ")"
text_of (win p n t) = codes "win(" ++ p ++ codes ", " ++ n ++ codes ", " ++ term_text t ++ codes ")"
text_of (compared r t u) = term_text t ++ spaced (comparer_text r) ++ term_text u
text_of (call p ts) = p ++ arguments_text ts
text_of (no f) = codes "~" ++ text_of f
text_of (group f) = codes "(" ++ text_of f ++ codes ")"
text_of (joined j f g) = text_of f ++ spaced (joint_text j) ++ text_of g
text_of (quantified q x xs f) = quantifier_text q ++ names_text (x ∷ xs) ++ codes ": " ++ text_of f
