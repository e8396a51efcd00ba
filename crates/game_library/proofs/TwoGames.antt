-- The file of two games is well formed.
use Rattle.std.proofs.Common.{◌≡◌, ℕ, zero, suc, List, [], ◌∷◌, ◌++◌, length, map, take, codes, refl, sym, ◌∙◌, ap, ap₂, subst, arith}
use Rattle.std.specs.Prelude.{All, Option, Some, None}
use Rattle.std.proofs.lemmas.List.Elements.{All-nil, All-cons}
use Rattle.signature.specs.Names.{HasDistinctNames}
use Rattle.tree_model.specs.declared.kind.Kind.TheVariants as kind
use Rattle.tree_model.specs.Signatures.{Signature, Entry, declared_at}
use Rattle.formula_ast.specs.declared.file.File.{File}
use Rattle.formula_ast.specs.declared.formula.Formula.{Formula}
use Rattle.formula_ast.specs.declared.pred.Pred.{Pred}
use Rattle.formula_ast.specs.declared.token.TokenKind.TheVariants as word
use Rattle.formula_ast.specs.Forms.{form_of}
use Rattle.formula_ast.specs.Tokens.{kind_of}
use Rattle.formula_ast.specs.WellFormed.{AreWords, AreDistinct, FormOver, IsNamedOver, IsPredOver, IsStatementOver, predicates_from, IsWellFormed}
use Rattle.form_facts.proofs.Free.{free_below}

-- ---- names

abbrev pub x_and_y : List (List ℕ)
x_and_y = codes "X" ∷ codes "Y" ∷ []

are_words : AreWords word.Variable x_and_y
unfolding kind_of
are_words = All-cons IsVariable (codes "X") (codes "Y" ∷ []) refl (All-cons IsVariable (codes "Y") [] refl (All-nil IsVariable)) where
  IsVariable : List ℕ → Type 0
  IsVariable text = kind_of text ≡ Some word.Variable

first_code : Option (List ℕ) → ℕ
first_code None = 0
first_code (Some []) = 0
first_code (Some (c ∷ cs)) = c

not_one : (text : List ℕ) → Some (codes "X") ≡ Some text → Some (codes "Y") ≡ Some text → ⊥
unfolding first_code
not_one text first second = let same : 88 ≡ 89 = ap first_code (first ∙ sym second) in absurd (omega (arith, same))

are_distinct : AreDistinct x_and_y
are_distinct text zero zero first second = refl
are_distinct text zero (suc zero) first second = absurd (not_one text first second)
are_distinct text zero (suc (suc j)) first second = absurd (cc second)
are_distinct text (suc zero) zero first second = absurd (not_one text second first)
are_distinct text (suc zero) (suc zero) first second = refl
are_distinct text (suc zero) (suc (suc j)) first second = absurd (cc second)
are_distinct text (suc (suc i)) j first second = absurd (cc first)

pub named_over : (σ callable : Signature) (names : List (List ℕ)) (f : Formula) → names ≡ x_and_y → FormOver σ callable 2 (form_of f) → IsNamedOver σ callable names f
named_over σ callable names f e over = subst (λ (ns : List (List ℕ)). IsNamedOver σ callable ns f) (sym e)
    (record { words = are_words; distinct = are_distinct; formula = over })

pub pred_over : (σ : Signature) (pred : Pred) → pred.names ≡ x_and_y → pred.params ≡ 2
    → ((σ callable : Signature) → FormOver σ callable 2 (form_of pred.body)) → IsPredOver σ pred
pred_over σ pred e two over =
    let size : length pred.names ≡ 2 = ap (λ (l : List (List ℕ)). length l) e in
    record {
      body = named_over σ (take pred.place σ) pred.names pred.body e (over σ (take pred.place σ));
      params = omega (arith, two, size);
      closed = λ x free. let less = free_below σ σ 2 x (form_of pred.body) (over σ σ) free in omega (arith, two, less);
    }

abbrev places_of : List Pred → List (ℕ × ℕ)
places_of preds = map {A = Pred} {B = ℕ × ℕ} (λ pred. (pred.place, pred.params)) preds

-- two predicates that are pushed onto an empty list
pub two_preds : (p q : Pred) (none one two : List Pred) → two ≡ one ++ q ∷ [] → one ≡ none ++ p ∷ [] → none ≡ []
    → ((σ : Signature) → IsPredOver σ p) → ((σ : Signature) → IsPredOver σ q)
    → ((p.place ≡ 0) × (p.params ≡ 2) → (q.place ≡ 1) × (q.params ≡ 2) → places_of two ≡ (0, 2) ∷ (1, 2) ∷ [])
    × ((σ : Signature) → All (λ pred. IsPredOver σ pred) two)
two_preds p q none one two last first empty over_p over_q =
    let all : two ≡ p ∷ q ∷ [] = last ∙ ap (λ (l : List Pred). l ++ q ∷ []) (first ∙ ap (λ (l : List Pred). l ++ p ∷ []) empty) in (
      λ at_p at_q. ap places_of all ∙ ap₂ (λ (x y : ℕ × ℕ). x ∷ y ∷ []) (ap₂ (λ (i n : ℕ). (i, n)) at_p.0 at_p.1) (ap₂ (λ (i n : ℕ). (i, n)) at_q.0 at_q.1),
      λ σ. subst (All (λ pred. IsPredOver σ pred)) (sym all)
          (All-cons (λ pred. IsPredOver σ pred) p (q ∷ []) (over_p σ) (All-cons (λ pred. IsPredOver σ pred) q [] (over_q σ) (All-nil (λ pred. IsPredOver σ pred)))),
    )

-- ---- the file

abbrev pub entry : List ℕ → Entry
entry name = record { name = name; kind = kind.Pred; arity = 2 }

abbrev pub games : Signature
games = entry (codes "chain") ∷ entry (codes "graph") ∷ []

names_are_words : AreWords word.Name (codes "chain" ∷ codes "graph" ∷ [])
unfolding kind_of
names_are_words = All-cons IsName (codes "chain") (codes "graph" ∷ []) refl (All-cons IsName (codes "graph") [] refl (All-nil IsName)) where
  IsName : List ℕ → Type 0
  IsName text = kind_of text ≡ Some word.Name

pub file_formed : (file : File) → file.signature ≡ games → HasDistinctNames file.signature
    → map {A = Pred} {B = ℕ × ℕ} (λ pred. (pred.place, pred.params)) file.preds ≡ (0, 2) ∷ (1, 2) ∷ []
    → ((σ : Signature) → All (λ pred. IsPredOver σ pred) file.preds) → file.solves ≡ [] → IsWellFormed file
file_formed file e distinct declared preds none = record {
  words = subst (λ (σ : Signature). AreWords word.Name (map {A = Entry} {B = List ℕ} (λ entry. entry.name) σ)) (sym e) names_are_words;
  distinct = distinct;
  declared = declared ∙ ap (λ (σ : Signature). predicates_from 0 σ) (sym e);
  preds = preds file.signature;
  solves = subst (All (λ s. IsStatementOver file.signature s)) (sym none) (All-nil (λ s. IsStatementOver file.signature s));
}

pub chain_declared : (σ : Signature) → σ ≡ games → declared_at σ 0 ≡ Some (kind.Pred, 2)
chain_declared σ e = ap (λ (τ : Signature). declared_at τ 0) e

pub graph_declared : (σ : Signature) → σ ≡ games → declared_at σ 1 ≡ Some (kind.Pred, 2)
graph_declared σ e = ap (λ (τ : Signature). declared_at τ 1) e
