-- Which written statements use names as they are declared.
use Rattle.std.specs.Prelude.{◌≡◌, ℕ, suc, Bool, true, ◌&&◌, List, [], ◌∷◌, ◌++◌, length, map, None, Some}
use Rattle.tree_model.specs.declared.kind.Kind.TheVariants as kind
use Rattle.tree_model.specs.Signatures.{Signature, Entry}
use Rattle.formula_ast.specs.WellFormed.{AreDistinct}
use Rattle.formula_grammar.specs.Written.{Text, Head, named, further, WrittenTerm, variable, headed, WrittenTerms, no_terms, one_more, WrittenFormula, truth, finite, win, compared, call, no, group, joined, quantified, Declaration, Said, symbols, predicate, question}
use Rattle.formula_grammar.specs.Words.{WrittenStatement}
use Rattle.formula_grammar.specs.Checks.{declared, entry_of, value_of, is_among}

-- how many terms these are
abbrev pub count : WrittenTerms → ℕ
count no_terms = 0
count (one_more t ts) = suc (count ts)

-- a name is declared as a symbol with so many arguments; a further symbol may have any number
abbrev pub TakesArguments : Signature → Head → ℕ → Type 0
TakesArguments σ (named f) n = declared σ f ≡ Some (kind.Symbol, n)
TakesArguments σ (further i) n = Unit {0}

-- each name heads a term with the number of arguments with which it is declared as a symbol
abbrev mutual
  pub UsesSymbols : Signature → WrittenTerm → Type 0
  UsesSymbols σ (variable x) = Unit {0}
  UsesSymbols σ (headed h ts) = TakesArguments σ h (count ts) × AllUseSymbols σ ts

  pub AllUseSymbols : Signature → WrittenTerms → Type 0
  AllUseSymbols σ no_terms = Unit {0}
  AllUseSymbols σ (one_more t ts) = UsesSymbols σ t × AllUseSymbols σ ts

-- and each name heads a call with the number of arguments with which it is declared as a predicate, of which `win` takes
-- one of two
abbrev pub UsesNames : Signature → WrittenFormula → Type 0
UsesNames σ (truth b) = Unit {0}
UsesNames σ (finite t) = UsesSymbols σ t
UsesNames σ (win p n t) = (declared σ p ≡ Some (kind.Pred, 2)) × UsesSymbols σ t
UsesNames σ (compared r t u) = UsesSymbols σ t × UsesSymbols σ u
UsesNames σ (call p ts) = (declared σ p ≡ Some (kind.Pred, count ts)) × AllUseSymbols σ ts
UsesNames σ (no f) = UsesNames σ f
UsesNames σ (group f) = UsesNames σ f
UsesNames σ (joined j f g) = UsesNames σ f × UsesNames σ g
UsesNames σ (quantified q x xs f) = UsesNames σ f

-- each variable of a term is one of these
abbrev mutual
  pub has_bound : List Text → WrittenTerm → Bool
  has_bound xs (variable x) = is_among x xs
  has_bound xs (headed h ts) = all_have_bound xs ts

  pub all_have_bound : List Text → WrittenTerms → Bool
  all_have_bound xs no_terms = true
  all_have_bound xs (one_more t ts) = has_bound xs t && all_have_bound xs ts

-- each variable that stands as a term is one of these, or bound by a quantifier round it
abbrev pub is_bound : List Text → WrittenFormula → Bool
is_bound xs (truth b) = true
is_bound xs (finite t) = has_bound xs t
is_bound xs (win p n t) = has_bound xs t
is_bound xs (compared r t u) = has_bound xs t && has_bound xs u
is_bound xs (call p ts) = all_have_bound xs ts
is_bound xs (no f) = is_bound xs f
is_bound xs (group f) = is_bound xs f
is_bound xs (joined j f g) = is_bound xs f && is_bound xs g
is_bound xs (quantified q y ys f) = is_bound (xs ++ y ∷ ys) f

-- ---- statements

abbrev pub symbol_entry : Declaration → Entry
symbol_entry d = entry_of d.name kind.Symbol (value_of d.digits)

-- what is declared behind a statement
abbrev pub declared_by : Signature → Said → Signature
declared_by σ (symbols d ds) = σ ++ map symbol_entry (d ∷ ds)
declared_by σ (predicate p xs f) = σ ++ entry_of p kind.Pred (length xs) ∷ []
declared_by σ (question f) = σ

-- each name is new that is declared
abbrev pub AreNew : Signature → List Declaration → Type 0
AreNew σ [] = Unit {0}
AreNew σ (d ∷ ds) = (declared σ d.name ≡ None) × AreNew (σ ++ symbol_entry d ∷ []) ds

-- A predicate's name is new, its parameters are distinct, and its body uses names that are declared before and no other
-- free variables.
pub record IsDefinition (σ : Signature) (p : Text) (xs : List Text) (f : WrittenFormula) : Type 0 where
  pub new : declared σ p ≡ None
  pub distinct : AreDistinct xs
  pub uses : UsesNames σ f
  pub bound : is_bound xs f ≡ true

abbrev pub IsNamed : Signature → Said → Type 0
IsNamed σ (symbols d ds) = AreNew σ (d ∷ ds)
IsNamed σ (predicate p xs f) = IsDefinition σ p xs f
IsNamed σ (question f) = UsesNames σ f

-- each statement uses names as those before it declare them
abbrev pub AreNamed : Signature → List WrittenStatement → Type 0
AreNamed σ [] = Unit {0}
AreNamed σ (s ∷ ss) = IsNamed σ s.said × AreNamed (declared_by σ s.said) ss
