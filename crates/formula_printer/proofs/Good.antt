-- What is written for a formula: it stands for the formula, uses names as they are declared, and can be read.
use Rattle.std.proofs.Common.{◌≡◌, ℕ, suc, ◌<◌, ◌≤◌, Bool, true, false, cond, nat_lt, List, [], ◌∷◌, ◌++◌, length, Some, refl, sym, ap, ◌∙◌, subst, arith}
use Rattle.std.specs.Prelude.{All}
use Rattle.std.proofs.lemmas.List.{length-map}
use Rattle.std.proofs.lemmas.List.Elements.{All-append, All-cons, All-nil}
use Rattle.std.proofs.lemmas.Bool.Decides.{nat_tests}
use Rattle.tree_model.specs.declared.kind.Kind.TheVariants as kind
use Rattle.tree_model.specs.declared.tree.Symbol.{Symbol}
use Rattle.tree_model.specs.declared.tree.Symbol.TheVariants.{Named, Further}
use Rattle.tree_model.specs.Signatures.{Signature, IsRoot}
use Rattle.signature.specs.Names.{HasDistinctNames}
use Rattle.formula_ast.specs.declared.term.Term.{Term}
use Rattle.formula_ast.specs.declared.term.Term.TheVariants as term
use Rattle.formula_ast.specs.declared.term.Term.TheOpen.{Term-F}
use Rattle.formula_ast.specs.declared.term.Term.TheOpen as layer
use Rattle.formula_ast.specs.declared.term.Term.TheViews.{out-Term, roll-Term, roll-out-Term}
use Rattle.formula_ast.specs.declared.term.Terms.{Terms}
use Rattle.formula_ast.specs.declared.token.TokenKind.TheVariants as k
use Rattle.formula_ast.specs.Forms as form
use Rattle.formula_ast.specs.Forms.{Form}
use Rattle.formula_ast.specs.Terms.{list_of}
use Rattle.formula_ast.specs.Tokens.{kind_of}
use Rattle.formula_grammar.specs.Checks.{is_among}
use Rattle.formula_grammar.specs.Grammar.{level, left, right, IsLevelled}
use Rattle.formula_grammar.specs.Names.{TakesArguments, count, UsesSymbols, AllUseSymbols, UsesNames}
use Rattle.formula_grammar.specs.Meaning.{variables_of, all_variables_of, variables_in, number_in, place_in, head_symbol, joint_form, comparer_form, quantifier_form, IsTerm, AreTerms, Stands}
use Rattle.formula_grammar.specs.Written.{Text, Head, WrittenTerm, variable, headed, WrittenTerms, no_terms, one_more, Joint, and, or, imp, iff, Quantifier, exists, forall, Comparer, equals, differs, WrittenFormula, compared, group, quantified}
use Rattle.formula_printer.specs.Numerals.{numeral}
use Rattle.formula_printer.specs.Printable.{LayerFits, TermFits, FormFits, AreNames}
use Rattle.formula_printer.specs.Writing.{text_at, names_of, symbol_head, written_term, written_terms, written, placed, between, quantify}
use Rattle.formula_printer.proofs.Decimals.{numeral_value, numeral_number}
use Rattle.formula_printer.proofs.Layers.{written-var, written-app, variable_fits, arguments_fit, declared_within}
use Rattle.formula_printer.proofs.Places.{numbered, place_is, declared_is, is_known}
use Rattle.formula_printer.proofs.Printed.{HeadHasWord, TermHasWords, TermsHaveWords, HasWords}

as_variable : (t : Term) (v : ℕ) → out-Term t ≡ layer.Var v → t ≡ term.Var v
as_variable t v is = sym (roll-out-Term t) ∙ ap roll-Term is ∙ term.rolls-Var v

as_application : (t : Term) (s : Symbol) (ts : Terms) → out-Term t ≡ layer.App s ts → t ≡ term.App s ts
as_application t s ts is = sym (roll-out-Term t) ∙ ap roll-Term is ∙ term.rolls-App s ts

abbrev Known : List Text → Text → Type 0
Known names x = is_among x names ≡ true

pub record IsGoodTerm (σ : Signature) (names : List Text) (w : WrittenTerm) (t : Term) : Type 0 where
  pub is : IsTerm σ names w t
  pub uses : UsesSymbols σ w
  pub words : TermHasWords w
  pub known : All (Known names) (variables_of w)

pub record AreGoodTerms (σ : Signature) (names : List Text) (ws : WrittenTerms) (ts : List Term) : Type 0 where
  pub are : AreTerms σ names ws ts
  pub use_names : AllUseSymbols σ ws
  pub words : TermsHaveWords ws
  pub known : All (Known names) (all_variables_of ws)
  pub counted : count ws ≡ length ts

module _ (σ : Signature) (names : List Text) (good : AreNames σ names) (distinct : HasDistinctNames σ) where
  name_word : (i : ℕ) → i < length σ → kind_of (text_at (names_of σ) i) ≡ Some k.Name
  name_word i h = good.declared i [] (rw length-map h)

  variable_word : (v : ℕ) → v < length names → kind_of (text_at names v) ≡ Some k.Variable
  variable_word v h = good.variables v [] h

  one_known : (v : ℕ) → v < length names → All (Known names) (text_at names v ∷ [])
  one_known v h = All-cons (Known names) (text_at names v) [] (is_known names v h) (All-nil (Known names))

  -- ---- terms

  good_variable : (x : Text) (t : Term) (l : Term-F Term Terms) → out-Term t ≡ l → written_term σ names t ≡ variable x → TermFits σ (length names) t
      → IsGoodTerm σ names (variable x) t
  good_variable x t (layer.Var v) is e h =
      let t_is : t ≡ term.Var v = as_variable t v is in
      let fits : v < length names = variable_fits σ (length names) v (subst (TermFits σ (length names)) t_is h) in
      let same : variable (text_at names v) ≡ variable x = sym (ap (written_term σ names) t_is ∙ written-var σ names v) ∙ e in
      let x_is : text_at names v ≡ x = cc same in
      subst (λ y. IsGoodTerm σ names (variable y) t) x_is (record {
        is = t_is ∙ ap (λ n. term.Var n) (sym (numbered names v good.distinct fits));
        uses = tt;
        words = variable_word v fits;
        known = one_known v fits;
      })
  good_variable x t (layer.App s ts) is e h =
      let same : headed (symbol_head σ s) (written_terms σ names (list_of ts)) ≡ variable x =
      sym (ap (written_term σ names) (as_application t s ts is) ∙ written-app σ names s ts) ∙ e in
      absurd (cc same)

  -- a symbol with so many arguments
  head_good : (s : Symbol) (n : ℕ) → IsRoot σ s n → (s ≡ head_symbol σ (symbol_head σ s)) × TakesArguments σ (symbol_head σ s) n × HeadHasWord (symbol_head σ s)
  head_good (Named place) n root =
      let below : place < length σ = declared_within σ place (kind.Symbol, n) root in
      (ap (λ i. Named i) (place_is σ place distinct below), declared_is σ place (kind.Symbol, n) distinct below root, name_word place below)
  head_good (Further index) n root = (ap (λ i. Further i) (sym (numeral_value index)), tt, (numeral index, refl, numeral_number index))

  good_headed : (head : Head) (ws : WrittenTerms) (t : Term)
      → ((ts : List Term) → written_terms σ names ts ≡ ws → All (TermFits σ (length names)) ts → AreGoodTerms σ names ws ts)
      → (l : Term-F Term Terms) → out-Term t ≡ l → written_term σ names t ≡ headed head ws → TermFits σ (length names) t → IsGoodTerm σ names (headed head ws) t
  good_headed head ws t all (layer.Var v) is e h =
      let same : variable (text_at names v) ≡ headed head ws = sym (ap (written_term σ names) (as_variable t v is) ∙ written-var σ names v) ∙ e in
      absurd (cc same)
  good_headed head ws t all (layer.App s ts) is e h =
      let t_is : t ≡ term.App s ts = as_application t s ts is in
      let fits : TermFits σ (length names) (term.App s ts) = subst (TermFits σ (length names)) t_is h in
      let root : IsRoot σ s (length (list_of ts)) = subst (LayerFits σ (length names)) (term.outs-App s ts) (fits []) in
      let same : headed (symbol_head σ s) (written_terms σ names (list_of ts)) ≡ headed head ws = sym (ap (written_term σ names) t_is ∙ written-app σ names s ts) ∙ e in
      let head_is : symbol_head σ s ≡ head = cc same in
      let ws_is : written_terms σ names (list_of ts) ≡ ws = cc same in
      let args = all (list_of ts) ws_is (arguments_fit σ (length names) s ts fits) in
      let good = head_good s (length (list_of ts)) root in
      subst (λ x. IsGoodTerm σ names (headed x ws) t) head_is (record {
        is = (ts, t_is ∙ ap (λ i. term.App i ts) good.0, args.are);
        uses = (rw args.counted good.1, args.use_names);
        words = (good.2, args.words);
        known = args.known;
      })

  mutual
    term_good : (w : WrittenTerm) (t : Term) → written_term σ names t ≡ w → TermFits σ (length names) t → IsGoodTerm σ names w t
    term_good (variable x) t e h = good_variable x t (out-Term t) refl e h
    term_good (headed head ws) t e h = good_headed head ws t (λ ts same fits. terms_good ws ts same fits) (out-Term t) refl e h

    terms_good : (ws : WrittenTerms) (ts : List Term) → written_terms σ names ts ≡ ws → All (TermFits σ (length names)) ts → AreGoodTerms σ names ws ts
    terms_good no_terms [] e h = record { are = refl; use_names = tt; words = tt; known = All-nil (Known names); counted = refl }
    terms_good no_terms (t ∷ ts) e h = absurd (cc e)
    terms_good (one_more w ws) [] e h = absurd (cc e)
    terms_good (one_more w ws) (t ∷ ts) e h =
        let first : written_term σ names t ≡ w = cc e in
        let others : written_terms σ names ts ≡ ws = cc e in
        let a = term_good w t first (h 0 t (omega arith)) in
        let b = terms_good ws ts others (λ i d below. h (suc i) d (omega arith)) in
        record {
          are = (a.is, b.are);
          use_names = (a.uses, b.use_names);
          words = (a.words, b.words);
          known = All-append (Known names) (variables_of w) (all_variables_of ws) a.known b.known;
          counted = ap suc b.counted;
        }

  good_term : (t : Term) → TermFits σ (length names) t → IsGoodTerm σ names (written_term σ names t) t
  good_term t h = term_good (written_term σ names t) t refl h

  good_terms : (ts : List Term) → All (TermFits σ (length names)) ts → AreGoodTerms σ names (written_terms σ names ts) ts
  good_terms ts h = terms_good (written_terms σ names ts) ts refl h

-- ---- formulas

pub record IsGood (σ : Signature) (names : List Text) (w : WrittenFormula) (f : Form) : Type 0 where
  pub stands : Stands σ names w f
  pub uses : UsesNames σ w
  pub words : HasWords w
  pub known : All (Known names) (variables_in w)
  pub levelled : IsLevelled w

-- and at a place that asks for a level
pub record IsGoodAt (asked : ℕ) (σ : Signature) (names : List Text) (w : WrittenFormula) (f : Form) : Type 0 where
  pub good : IsGood σ names w f
  pub enough : asked ≤ level w

operand : (asked : ℕ) → asked ≤ 5 → {σ : Signature} {names : List Text} {f : Form} (w : WrittenFormula) → IsGood σ names w f → IsGoodAt asked σ names (placed asked w) f
operand asked low {σ} {names} {f} w h = step (nat_lt (level w) asked) refl
  where
    step : (b : Bool) → nat_lt (level w) asked ≡ b → IsGoodAt asked σ names (cond b (group w) w) f
    step true e = record {
      good = record { stands = h.stands; uses = h.uses; words = h.words; known = h.known; levelled = h.levelled };
      enough = low;
    }
    step false e = record { good = h; enough = grind (arith, nat_tests) }

left_low : (j : Joint) → left j ≤ 5
left_low and = omega arith
left_low or = omega arith
left_low imp = omega arith
left_low iff = omega arith

right_low : (j : Joint) → right j ≤ 5
right_low and = omega arith
right_low or = omega arith
right_low imp = omega arith
right_low iff = omega arith

module _ (σ : Signature) (names : List Text) where
  joined_good : (j : Joint) (v w : WrittenFormula) (f g : Form) → IsGood σ names v f → IsGood σ names w g → IsGood σ names (between j v w) (joint_form j f g)
  joined_good j v w f g h k =
      let a = operand (left j) (left_low j) v h in
      let b = operand (right j) (right_low j) w k in
      record {
        stands = (f, g, refl, a.good.stands, b.good.stands);
        uses = (a.good.uses, b.good.uses);
        words = (a.good.words, b.good.words);
        known = All-append (Known names) _ _ a.good.known b.good.known;
        levelled = (a.enough, b.enough, a.good.levelled, b.good.levelled);
      }

module _ (σ : Signature) (names : List Text) (good : AreNames σ names) (distinct : HasDistinctNames σ) where
  compared_good : (r : Comparer) (t u : Term) → TermFits σ (length names) t → TermFits σ (length names) u
      → IsGood σ names (compared r (written_term σ names t) (written_term σ names u)) (comparer_form r t u)
  compared_good r t u h k =
      let a = good_term σ names good distinct t h in
      let b = good_term σ names good distinct u k in
      record {
        stands = (t, u, refl, a.is, b.is);
        uses = (a.uses, b.uses);
        words = (a.words, b.words);
        known = All-append (Known names) _ _ a.known b.known;
        levelled = tt;
      }

  module _ (x : ℕ) (below : x < length names) (f : Form) where
    one : (q : Quantifier) (w : WrittenFormula) → IsGoodAt 5 σ names w f → IsGood σ names (quantified q (text_at names x) [] w) (quantifier_form q x f)
    one q w h = record {
      stands = (f, ap (λ i. quantifier_form q i f) (sym (numbered names x good.distinct below)), h.good.stands);
      uses = h.good.uses;
      words = ((variable_word σ names good distinct x below, tt), h.good.words);
      known = All-cons (Known names) (text_at names x) (variables_in w) (is_known names x below) h.good.known;
      levelled = (h.enough, h.good.levelled);
    }

    more : (q : Quantifier) (y : Text) (ys : List Text) (w : WrittenFormula) → IsGoodAt 5 σ names (quantified q y ys w) f
        → IsGood σ names (quantified q (text_at names x) (y ∷ ys) w) (quantifier_form q x f)
    more q y ys w h = record {
      stands = (
        h.good.stands.0,
        ap (λ i. quantifier_form q i f) (sym (numbered names x good.distinct below)) ∙ ap (λ b. quantifier_form q (number_in names (text_at names x)) b) h.good.stands.1,
        h.good.stands.2,
      );
      uses = h.good.uses;
      words = ((variable_word σ names good distinct x below, h.good.words.0), h.good.words.1);
      known = All-cons (Known names) (text_at names x) (y ∷ ys ++ variables_in w) (is_known names x below) h.good.known;
      levelled = h.good.levelled;
    }

    quantify_good : (q : Quantifier) (w : WrittenFormula) → IsGoodAt 5 σ names w f → IsGood σ names (quantify q (text_at names x) w) (quantifier_form q x f)
    quantify_good exists (quantified exists y ys w) h = more exists y ys w h
    quantify_good forall (quantified forall y ys w) h = more forall y ys w h
    quantify_good exists w h = one exists w h
    quantify_good forall w h = one forall w h

  pub written_good : (f : Form) → FormFits σ (length names) f → IsGood σ names (written σ names f) f
  written_good form.always h = record { stands = refl; uses = tt; words = tt; known = All-nil (Known names); levelled = tt }
  written_good form.never h = record { stands = refl; uses = tt; words = tt; known = All-nil (Known names); levelled = tt }
  written_good (form.equal t u) h = compared_good equals t u h.0 h.1
  written_good (form.differ t u) h = compared_good differs t u h.0 h.1
  written_good (form.finite t) h =
      let a = good_term σ names good distinct t h in
      record { stands = (t, refl, a.is); uses = a.uses; words = a.words; known = a.known; levelled = tt }
  written_good (form.call p ts) h =
      let below : p < length σ = declared_within σ p (kind.Pred, length ts) h.0 in
      let a = good_terms σ names good distinct ts h.1 in
      record {
        stands = (ts, ap (λ i. form.call i ts) (place_is σ p distinct below), a.are);
        uses = (rw a.counted (declared_is σ p (kind.Pred, length ts) distinct below h.0), a.use_names);
        words = (name_word σ names good distinct p below, a.words);
        known = a.known;
        levelled = tt;
      }
  written_good (form.win p n t) h =
      let below : p < length σ = declared_within σ p (kind.Pred, 2) h.0 in
      let a = good_term σ names good distinct t h.1 in
      record {
        stands = (t, ap (λ i. form.win i n t) (place_is σ p distinct below) ∙ ap (λ m. form.win (place_in σ (text_at (names_of σ) p)) m t) (sym (numeral_value n)), a.is);
        uses = (declared_is σ p (kind.Pred, 2) distinct below h.0, a.uses);
        words = (name_word σ names good distinct p below, numeral_number n, a.words);
        known = a.known;
        levelled = tt;
      }
  written_good (form.no f) h =
      let a = operand 5 (omega arith) _ (written_good f h) in
      record { stands = (f, refl, a.good.stands); uses = a.good.uses; words = a.good.words; known = a.good.known; levelled = (a.enough, a.good.levelled) }
  written_good (form.and f g) h = joined_good σ names and _ _ f g (written_good f h.0) (written_good g h.1)
  written_good (form.or f g) h = joined_good σ names or _ _ f g (written_good f h.0) (written_good g h.1)
  written_good (form.imp f g) h = joined_good σ names imp _ _ f g (written_good f h.0) (written_good g h.1)
  written_good (form.iff f g) h = joined_good σ names iff _ _ f g (written_good f h.0) (written_good g h.1)
  written_good (form.exists x f) h = quantify_good x h.0 f exists _ (operand 5 (omega arith) _ (written_good f h.1))
  written_good (form.forall x f) h = quantify_good x h.0 f forall _ (operand 5 (omega arith) _ (written_good f h.1))
