-- Names that follow pairs of atoms.
use Rattle.std.proofs.Common.{ℕ, ◌≡◌, ◌<◌, List, length, get_or, sym, ◌∙◌, subst, Some}
use Rattle.std.specs.Prelude.{slice_index, slice_get, Contains}
use Rattle.std.proofs.lemmas.Option.{slice_get_within, get_or_from_slice_get}
use Rattle.tree_model.specs.declared.tree.Symbol.{Symbol}
use Rattle.flat_form.specs.declared.atom.Flat.{Flat}
use Rattle.flat_form.specs.declared.atom.Flat.TheVariants.{VarTerm}
use Rattle.flat_form.specs.Classes.{Class, turned, joined, inward, outward}
use Rattle.flat_form.specs.Numbering.{AtomOver}
use Rattle.basic_solver.specs.Names.{name_in, IsSound, AreAlike, IsFollowed}
use Rattle.basic_solver.proofs.Naming.{read_name}

pub stands_at : (xs : List Flat) (i : ℕ) (x : Flat) → slice_get xs i ≡ Some x → Contains xs x
stands_at xs i x e = (i, slice_get_within xs i x e, get_or_from_slice_get xs i x x e)

pub term_low : (n : ℕ) (a : Flat) (u : ℕ) (s : Symbol) (xs : List ℕ) → a ≡ VarTerm u s xs → AtomOver n a → u < n
term_low n a u s xs e over = (subst (λ z. AtomOver n z) e over).0

pub read_two : (names : List ℕ) (u v x y : ℕ) → u < length names → v < length names → x ≡ get_or names u x → y ≡ get_or names v y → x ≡ y → name_in names u ≡ name_in names v
read_two names u v x y wu wv ex ey e = sym (read_name names u x wu ex) ∙ e ∙ read_name names v y wv ey

pub read_other : (names : List ℕ) (u v x y : ℕ) → u < length names → v < length names → x ≡ get_or names u x → y ≡ get_or names v y → ¬ (x ≡ y) → ¬ (name_in names u ≡ name_in names v)
read_other names u v x y wu wv ex ey n = λ e. n (read_name names u x wu ex ∙ e ∙ sym (read_name names v y wv ey))

module _ (atoms : List Flat) (names : List ℕ) (sound : IsSound atoms names) where
  pub named_class : (u v : ℕ) → name_in names u ≡ name_in names v → Class atoms u v
  named_class u v e = let P : ℕ → Type 0 = λ z. Class atoms u z in joined (subst P e (sound u)) (turned (sound v))

  module _ (a b : Flat) (u v : ℕ) (s t : Symbol) (xs ys : List ℕ) (ea : a ≡ VarTerm u s xs) (eb : b ≡ VarTerm v t ys) (es : s ≡ t) (len : length xs ≡ length ys)
      (i : Contains atoms a) (j : Contains atoms b) where
    right : Contains atoms (VarTerm v s ys)
    right = subst (λ z. Contains atoms (VarTerm v z ys)) (sym es) (subst (λ z. Contains atoms z) eb j)

    left : Contains atoms (VarTerm u s xs)
    left = subst (λ z. Contains atoms z) ea i

    pub follow_inward : name_in names u ≡ name_in names v → (k : ℕ) → k < length xs → Class atoms (slice_index xs k) (slice_index ys k)
    follow_inward e k w = inward s xs ys left right len (named_class u v e) k w

    pub follow_outward : AreAlike names xs ys → Class atoms u v
    follow_outward alike = outward s xs ys left right len (λ k w. named_class (slice_index xs k) (slice_index ys k) (alike k w))

-- neither the variables nor the arguments have the same names
pub follow_none : (names : List ℕ) (a b : Flat) (u v : ℕ) (s t : Symbol) (xs ys : List ℕ) → a ≡ VarTerm u s xs → b ≡ VarTerm v t ys
    → ¬ (name_in names u ≡ name_in names v) → ¬ AreAlike names xs ys → IsFollowed names a b
follow_none names a b u v s t xs ys ea eb apart unlike =
    subst (λ z. IsFollowed names z b) (sym ea) (subst (λ z. IsFollowed names (VarTerm u s xs) z) (sym eb)
    (λ es len. (λ e. absurd (apart e), λ alike. absurd (unlike alike))))

pub followed_same : (mid old : List ℕ) (a b : Flat) → mid ≡ old → IsFollowed mid a b → IsFollowed old a b
followed_same mid old a b same f = subst (λ (z : List ℕ). IsFollowed z a b) same f

pub alike_moved : (a b xs ys : List ℕ) → a ≡ b → AreAlike a xs ys → AreAlike b xs ys
alike_moved a b xs ys e alike = subst (λ (z : List ℕ). AreAlike z xs ys) e alike
