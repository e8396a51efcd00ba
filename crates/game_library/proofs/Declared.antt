-- The predicates of a file stand in the order of their places, and each is declared there.
use Rattle.std.proofs.Common.{◌≡◌, ℕ, zero, suc, ◌+◌, ◌<◌, ◌≤◌, List, [], ◌∷◌, ◌++◌, length, take, refl, sym, ap, subst, ◌∙◌, ◌⊎◌, inl, inr, arith, Option, Some}
use Rattle.std.specs.Prelude.{Contains, slice_get}
use Rattle.std.proofs.lemmas.List.Elements.{All-contains}
use Rattle.std.proofs.lemmas.Option.{slice_get_within, slice_get_read, get_or_from_slice_get}
use Rattle.tree_model.specs.declared.kind.Kind.{Kind}
use Rattle.tree_model.specs.declared.kind.Kind.TheVariants as kind
use Rattle.tree_model.specs.Signatures.{Signature, Entry, declared_at}
use Rattle.formula_ast.specs.declared.file.File.{File}
use Rattle.formula_ast.specs.declared.pred.Pred.{Pred}
use Rattle.formula_ast.specs.WellFormed.{IsPredOver, IsWellFormed, predicate_at, predicates_from}
use Rattle.form_facts.proofs.Bodies.{places, head_is, tail_is}
use Rattle.flattening.specs.declared.solved.Key.{Key}
use Rattle.flattening.specs.declared.solved.Key.TheVariants.{Call, Win}
use Rattle.game_library.specs.Needs.{place_of, IsDeclared}

pub some_is : {A : Type 0} (x y : A) → ◌≡◌ {A = Option A} (Some x) (Some y) → x ≡ y
some_is x y e = cc

-- a predicate at this place with so many parameters is one of the list
pub record StandsAs (preds : List Pred) (place params : ℕ) : Type 0 where
  pub index : ℕ
  pub pred : Pred
  pub stands : slice_get preds index ≡ Some pred
  pub place_is : pred.place ≡ place
  pub params_are : pred.params ≡ params

pub got_stands : (preds : List Pred) (i : ℕ) (pred : Pred) → slice_get preds i ≡ Some pred → Contains preds pred
got_stands preds i pred got = (i, slice_get_within preds i pred got, get_or_from_slice_get preds i pred pred got)

-- the predicate is declared where it stands
declared_there : (entries : List Entry) (n : ℕ) (preds : List Pred) → places preds ≡ predicates_from n entries → (i : ℕ) (pred : Pred) → slice_get preds i ≡ Some pred
    → (p : ℕ) × (pred.place ≡ n + p) × (declared_at entries p ≡ Some (kind.Pred, pred.params))
declared_there [] n [] e zero pred got = absurd (cc)
declared_there [] n [] e (suc i) pred got = absurd (cc)
declared_there [] n (it ∷ preds) e i pred got = absurd (cc)
declared_there (entry ∷ entries) n preds e i pred got = by (λ preds e i got. declared_there entries (n + 1) preds e i pred got) entry.kind refl preds e i got
  where
    moved : (p : ℕ) × (pred.place ≡ n + 1 + p) × (declared_at entries p ≡ Some (kind.Pred, pred.params))
        → (p : ℕ) × (pred.place ≡ n + p) × (declared_at (entry ∷ entries) p ≡ Some (kind.Pred, pred.params))
    moved (p, place, is) = (suc p, omega (arith, place), is)

    by : ((preds : List Pred) → places preds ≡ predicates_from (n + 1) entries → (i : ℕ) → slice_get preds i ≡ Some pred
        → (p : ℕ) × (pred.place ≡ n + 1 + p) × (declared_at entries p ≡ Some (kind.Pred, pred.params)))
        → (k : Kind) → entry.kind ≡ k → (preds : List Pred) → places preds ≡ predicate_at n k entry.arity ++ predicates_from (n + 1) entries
        → (i : ℕ) → slice_get preds i ≡ Some pred
        → (p : ℕ) × (pred.place ≡ n + p) × (declared_at (entry ∷ entries) p ≡ Some (kind.Pred, pred.params))
    by rest kind.Symbol is preds e i got = moved (rest preds e i got)
    by rest kind.Pred is [] e i got = absurd (cc)
    by rest kind.Pred is (it ∷ preds) e zero got =
        let here : (it.place, it.params) ≡ (n, entry.arity) = head_is e in
        let same : it ≡ pred = cc in (
          0,
          ap (λ (p : Pred). p.place) (sym same) ∙ ap (λ d. d.0) here ∙ omega arith,
          ap (λ k. Some (k, entry.arity)) is ∙ ap (λ m. Some (kind.Pred, m)) (sym (ap (λ d. d.1) here) ∙ ap (λ (p : Pred). p.params) same),
        )
    by rest kind.Pred is (it ∷ preds) e (suc i) got = moved (rest preds (tail_is e) i got)

-- what is declared as a predicate stands in the list
stands_there : (entries : List Entry) (n : ℕ) (preds : List Pred) → places preds ≡ predicates_from n entries → (p params : ℕ)
    → declared_at entries p ≡ Some (kind.Pred, params) → StandsAs preds (n + p) params
stands_there [] n preds e zero params is = absurd (cc)
stands_there [] n preds e (suc p) params is = absurd (cc)
stands_there (entry ∷ entries) n preds e p params is = by (λ preds e p is. stands_there entries (n + 1) preds e p params is) entry.kind refl preds e p is
  where
    later : (it : Pred) (preds : List Pred) (p : ℕ) → StandsAs preds (n + 1 + p) params → StandsAs (it ∷ preds) (n + suc p) params
    later it preds p s = record { index = suc s.index; pred = s.pred; stands = s.stands; place_is = omega (arith, s.place_is); params_are = s.params_are }

    by : ((preds : List Pred) → places preds ≡ predicates_from (n + 1) entries → (p : ℕ) → declared_at entries p ≡ Some (kind.Pred, params) → StandsAs preds (n + 1 + p) params)
        → (k : Kind) → entry.kind ≡ k → (preds : List Pred) → places preds ≡ predicate_at n k entry.arity ++ predicates_from (n + 1) entries
        → (p : ℕ) → declared_at (entry ∷ entries) p ≡ Some (kind.Pred, params) → StandsAs preds (n + p) params
    by rest kind.Symbol k preds e zero is =
        let same : entry.kind ≡ kind.Pred = ap (λ d. d.0) (some_is (entry.kind, entry.arity) (kind.Pred, params) is) in absurd (cc (sym k ∙ same))
    by rest kind.Symbol k preds e (suc p) is =
        let s = rest preds e p is in
        record { index = s.index; pred = s.pred; stands = s.stands; place_is = omega (arith, s.place_is); params_are = s.params_are }
    by rest kind.Pred k [] e p is = absurd (cc)
    by rest kind.Pred k (it ∷ preds) e zero is =
        let here : (it.place, it.params) ≡ (n, entry.arity) = head_is e in
        let same : entry.arity ≡ params = ap (λ d. d.1) (some_is (entry.kind, entry.arity) (kind.Pred, params) is) in
        record { index = 0; pred = it; stands = refl; place_is = ap (λ d. d.0) here ∙ omega arith; params_are = ap (λ d. d.1) here ∙ same }
    by rest kind.Pred k (it ∷ preds) e (suc p) is = later it preds p (rest preds (tail_is e) p is)

-- each predicate is at or behind the first place
above : (entries : List Entry) (n : ℕ) (preds : List Pred) → places preds ≡ predicates_from n entries → (i : ℕ) (pred : Pred) → slice_get preds i ≡ Some pred → n ≤ pred.place
above entries n preds e i pred got = let d = declared_there entries n preds e i pred got in omega (arith, d.1)

-- the places ascend
ascending : (entries : List Entry) (n : ℕ) (preds : List Pred) → places preds ≡ predicates_from n entries → (i j : ℕ) (a b : Pred)
    → slice_get preds i ≡ Some a → slice_get preds j ≡ Some b → i < j → a.place < b.place
ascending [] n [] e zero j a b at_i at_j less = absurd (cc)
ascending [] n [] e (suc i) j a b at_i at_j less = absurd (cc)
ascending [] n (it ∷ preds) e i j a b at_i at_j less = absurd (cc)
ascending (entry ∷ entries) n preds e i j a b at_i at_j less =
    by (λ preds e i j at_i at_j less. ascending entries (n + 1) preds e i j a b at_i at_j less) entry.kind preds e i j at_i at_j less
  where
    by : ((preds : List Pred) → places preds ≡ predicates_from (n + 1) entries → (i j : ℕ) → slice_get preds i ≡ Some a → slice_get preds j ≡ Some b → i < j → a.place < b.place)
        → (k : Kind) (preds : List Pred) → places preds ≡ predicate_at n k entry.arity ++ predicates_from (n + 1) entries
        → (i j : ℕ) → slice_get preds i ≡ Some a → slice_get preds j ≡ Some b → i < j → a.place < b.place
    by rest kind.Symbol preds e i j at_i at_j less = rest preds e i j at_i at_j less
    by rest kind.Pred [] e i j at_i at_j less = absurd (cc)
    by rest kind.Pred (it ∷ preds) e i zero at_i at_j less = absurd (omega (arith, less))
    by rest kind.Pred (it ∷ preds) e zero (suc j) at_i at_j less =
        let here : it.place ≡ n = ap (λ d. d.0) (head_is e) in
        let same : it ≡ a = cc in
        let behind = above entries (n + 1) preds (tail_is e) j b at_j in
        let there : a.place ≡ n = ap (λ (p : Pred). p.place) (sym same) ∙ here in omega (arith, behind, there)
    by rest kind.Pred (it ∷ preds) e (suc i) (suc j) at_i at_j less = rest preds (tail_is e) i j at_i at_j (omega (arith, less))

module _ (file : File) (formed : IsWellFormed file) where
  pub pred_over : (i : ℕ) (pred : Pred) → slice_get file.preds i ≡ Some pred → IsPredOver file.signature pred
  pred_over i pred got = All-contains (λ pred. IsPredOver file.signature pred) file.preds pred formed.preds (got_stands file.preds i pred got)

  pub is_declared : (i : ℕ) (pred : Pred) → slice_get file.preds i ≡ Some pred → declared_at file.signature pred.place ≡ Some (kind.Pred, pred.params)
  is_declared i pred got =
      let d = declared_there file.signature 0 file.preds formed.declared i pred got in
      let same : pred.place ≡ d.0 = omega (arith, d.1) in
      ap (λ p. declared_at file.signature p) same ∙ d.2

  pub stands_as : (p params : ℕ) → declared_at file.signature p ≡ Some (kind.Pred, params) → StandsAs file.preds p params
  stands_as p params is = subst (λ (q : ℕ). StandsAs file.preds q params) (omega arith) (stands_there file.signature 0 file.preds formed.declared p params is)

  -- who stands at a lesser place stands before
  pub stands_before : (i j : ℕ) (a b : Pred) → slice_get file.preds i ≡ Some a → slice_get file.preds j ≡ Some b → a.place < b.place → i < j
  stands_before i j a b at_i at_j less = by (order i j)
    where
      order : (i j : ℕ) → (i < j) ⊎ ((i ≡ j) ⊎ (j < i))
      order i j = grind arith

      by : (i < j) ⊎ ((i ≡ j) ⊎ (j < i)) → i < j
      by (inl before) = before
      by (inr (inl same)) =
          let one : a ≡ b = some_is a b (sym at_i ∙ ap (slice_get file.preds) same ∙ at_j) in
          let level : a.place ≡ b.place = ap (λ (p : Pred). p.place) one in absurd (omega (arith, less, level))
      by (inr (inr behind)) =
          let less' = ascending file.signature 0 file.preds formed.declared j i b a at_j at_i behind in absurd (omega (arith, less, less'))

  pub places_ascend : (i j : ℕ) (a b : Pred) → slice_get file.preds i ≡ Some a → slice_get file.preds j ≡ Some b → i < j → a.place < b.place
  places_ascend i j a b at_i at_j less = ascending file.signature 0 file.preds formed.declared i j a b at_i at_j less

-- what is declared has a place in the signature
pub declared_within : (σ : Signature) (p : ℕ) (d : Kind × ℕ) → declared_at σ p ≡ Some d → p < length σ
declared_within [] zero d is = absurd (cc)
declared_within [] (suc p) d is = absurd (cc)
declared_within (entry ∷ σ) zero d is = omega arith
declared_within (entry ∷ σ) (suc p) d is = omega (arith, declared_within σ p d is)

-- the first places alone declare something there
pub declared_before : (σ : Signature) (place p : ℕ) (d : Kind × ℕ) → declared_at (take place σ) p ≡ Some d → p < place
declared_before [] zero zero d is = absurd (cc)
declared_before [] zero (suc p) d is = absurd (cc)
declared_before [] (suc place) zero d is = absurd (cc)
declared_before [] (suc place) (suc p) d is = absurd (cc)
declared_before (entry ∷ σ) zero zero d is = absurd (cc)
declared_before (entry ∷ σ) zero (suc p) d is = absurd (cc)
declared_before (entry ∷ σ) (suc place) zero d is = omega arith
declared_before (entry ∷ σ) (suc place) (suc p) d is = omega (arith, declared_before σ place p d is)

pub key_within : (σ : Signature) (key : Key) → IsDeclared σ key → place_of key < length σ
key_within σ (Call p) (n, is) = declared_within σ p (kind.Pred, n) is
key_within σ (Win p k) is = declared_within σ p (kind.Pred, 2) is

pub key_before : (σ : Signature) (place : ℕ) (key : Key) → IsDeclared (take place σ) key → place_of key < place
key_before σ place (Call p) (n, is) = declared_before σ place p (kind.Pred, n) is
key_before σ place (Win p k) is = declared_before σ place p (kind.Pred, 2) is

-- a predicate of a well formed file has a place in the signature
pub place_within : (file : File) → IsWellFormed file → (i : ℕ) (pred : Pred) → slice_get file.preds i ≡ Some pred → pred.place < length file.signature
place_within file formed i pred got = declared_within file.signature pred.place (kind.Pred, pred.params) (is_declared file formed i pred got)

pub stands_declared : (file : File) → IsWellFormed file → (pred : Pred) → Contains file.preds pred → declared_at file.signature pred.place ≡ Some (kind.Pred, pred.params)
stands_declared file formed pred (i, less, is) = is_declared file formed i pred (slice_get_read file.preds (length file.preds) i pred refl less (sym is))
