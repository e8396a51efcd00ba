-- Terms that are noted for their classes, and twins: what holds of each atom and these holds of each two atoms.
use Rattle.std.proofs.Common.{ℕ, ◌≡◌, ◌<◌, List, length, get_or, refl, sym, ap, ◌∙◌, subst, arith, inl, inr, ◌⊎◌, Option, Some, None}
use Rattle.std.specs.Prelude.{slice_index, slice_get, All, Contains}
use Rattle.std.proofs.lemmas.List.Elements.{All-contains, Contains-get_or}
use Rattle.std.proofs.lemmas.Option.{slice_get-get_or}
use Rattle.tree_model.specs.declared.tree.Symbol.{Symbol}
use Rattle.flat_form.specs.declared.atom.Flat.{Flat}
use Rattle.flat_form.specs.declared.atom.Flat.TheVariants.{VarVar, VarTerm, Finite}
use Rattle.flat_form.specs.Solved.{variable_of}
use Rattle.flat_facts.specs.Names.{IsClosed}
use Rattle.basic_solver.specs.Names.{name_in, AreAlike, IsFollowed}
use Rattle.basic_solver.specs.Flags.{Agrees, AllAgree}
use Rattle.basic_solver.specs.Terms.{IsTermAt, GivesTerm, IsNoted, AreTerms, AgreesWithNoted, IsServed}
use Rattle.basic_solver.specs.Twins.{IsTwin, AreTwins, FollowTwins}
use Rattle.basic_solver.proofs.Following.{stands_at}

-- the place of an atom
pub place_of : (xs : List Flat) (x : Flat) → Contains xs x → (k : ℕ) × (k < length xs) × (slice_get xs k ≡ Some x)
place_of xs x (k, w, e) = (k, w, slice_get-get_or xs k x w ∙ ap Some e)

pub some_or_none : (o : Option ℕ) → ((j : ℕ) × (o ≡ Some j)) ⊎ (o ≡ None)
some_or_none (Some j) = inl (j, refl)
some_or_none None = inr refl

module _ (names : List ℕ) where
  -- two terms that agree with a third of their class agree
  both_agree : (u v : ℕ) (s t : Symbol) (xs ys : List ℕ) (b : Flat) → GivesTerm names (name_in names u) b → name_in names u ≡ name_in names v
      → Agrees names (VarTerm u s xs) b → Agrees names (VarTerm v t ys) b → (s ≡ t) × (length xs ≡ length ys)
  both_agree u v s t xs ys (VarVar w r) gives same one two = absurd gives
  both_agree u v s t xs ys (VarTerm w q zs) gives same one two =
      let first : (s ≡ q) × (length xs ≡ length zs) = one (sym gives) in
      let second : (t ≡ q) × (length ys ≡ length zs) = two (sym same ∙ sym gives) in
      (first.0 ∙ sym second.0, first.1 ∙ sym second.1)
  both_agree u v s t xs ys (Finite w) gives same one two = absurd gives

  -- two terms that follow a third of their class have the same arguments
  both_follow : (u v : ℕ) (s : Symbol) (xs ys : List ℕ) (b : Flat) → GivesTerm names (name_in names u) b → name_in names u ≡ name_in names v
      → Agrees names (VarTerm u s xs) b → length xs ≡ length ys → IsFollowed names (VarTerm u s xs) b → IsFollowed names (VarTerm v s ys) b → AreAlike names xs ys
  both_follow u v s xs ys (VarVar w r) gives same agree len one two k l = absurd gives
  both_follow u v s xs ys (VarTerm w q zs) gives same agree len one two k l =
      let agreed : (s ≡ q) × (length xs ≡ length zs) = agree (sym gives) in
      let first : AreAlike names xs zs = (one agreed.0 agreed.1).0 (sym gives) in
      let second : AreAlike names ys zs = (two agreed.0 (sym len ∙ agreed.1)).0 (sym same ∙ sym gives) in
      first k l ∙ sym (second k (omega (arith, len, l)))
  both_follow u v s xs ys (Finite w) gives same agree len one two k l = absurd gives

  -- a term that follows its twin has its name
  named_as_twin : (u : ℕ) (s : Symbol) (xs : List ℕ) (b : Flat) → IsTwin names s xs b → IsFollowed names (VarTerm u s xs) b → name_in names u ≡ name_in names (variable_of b)
  named_as_twin u s xs (VarVar w r) twin follows = absurd twin
  named_as_twin u s xs (VarTerm w q zs) twin follows = (follows twin.0 twin.1).1 twin.2
  named_as_twin u s xs (Finite w) twin follows = absurd twin

  module _ (atoms : List Flat) (terms : List (Option ℕ)) (t : AreTerms names atoms terms) where
    noted_term : (u : ℕ) (s : Symbol) (xs : List ℕ) → Contains atoms (VarTerm u s xs)
        → (b : Flat) × IsTermAt terms atoms (name_in names u) b × GivesTerm names (name_in names u) b
    noted_term u s xs i = elim (some_or_none (get_or terms (name_in names u) None)) [
      | inl (j, e) ↦
          let b : Flat = get_or atoms j (VarTerm u s xs) in
          let at : IsTermAt terms atoms (name_in names u) b = (j, e, slice_get-get_or atoms j (VarTerm u s xs) (t.places (name_in names u) j e)) in
          (b, at, t.stands (name_in names u) b at)
      | inr e ↦ absurd (All-contains (IsNoted names terms) atoms (VarTerm u s xs) t.noted i e)
    ]

    -- each two atoms agree, where each agrees with the term that is noted for its class
    pub agree_from : All (AgreesWithNoted names terms atoms) atoms → AllAgree names atoms
    agree_from all k d w m c x = two (get_or atoms k d) (get_or atoms m c) (Contains-get_or atoms k d w) (Contains-get_or atoms m c x)
      where
        two : (a b : Flat) → Contains atoms a → Contains atoms b → Agrees names a b
        two (VarVar u r) b i j = tt
        two (VarTerm u s xs) (VarVar v r) i j = tt
        two (VarTerm u s xs) (VarTerm v q ys) i j = λ same.
            let n = noted_term u s xs i in
            let there : IsTermAt terms atoms (name_in names v) n.0 = subst (λ (z : ℕ). IsTermAt terms atoms z n.0) same n.1 in
            both_agree u v s q xs ys n.0 n.2 same (All-contains (AgreesWithNoted names terms atoms) atoms (VarTerm u s xs) all i n.0 n.1)
            (All-contains (AgreesWithNoted names terms atoms) atoms (VarTerm v q ys) all j n.0 there)
        two (VarTerm u s xs) (Finite v) i j = tt
        two (Finite u) b i j = tt

    pub agree_with_noted : AllAgree names atoms → All (AgreesWithNoted names terms atoms) atoms
    agree_with_noted all k d w = one (get_or atoms k d) (Contains-get_or atoms k d w)
      where
        one : (a : Flat) → Contains atoms a → AgreesWithNoted names terms atoms a
        one (VarVar u r) i = tt
        one (VarTerm u s xs) i = λ b at.
            All-contains (Agrees names (VarTerm u s xs)) atoms b (All-contains (λ (a : Flat). All (Agrees names a) atoms) atoms (VarTerm u s xs) all i)
            (stands_at atoms at.0 b at.2)
        one (Finite u) i = tt

    -- names that follow each atom, the term that is noted for its class and its twin are closed
    module _ (agree : AllAgree names atoms) (served : All (IsServed names terms atoms) atoms) (twins : List ℕ) (are : AreTwins names atoms twins)
        (followed : FollowTwins names twins atoms (length atoms)) where
      serves : (a : Flat) → Contains atoms a → IsServed names terms atoms a
      serves a i = All-contains (IsServed names terms atoms) atoms a served i

      same_arguments : (u v : ℕ) (s : Symbol) (xs ys : List ℕ) → Contains atoms (VarTerm u s xs) → Contains atoms (VarTerm v s ys)
          → length xs ≡ length ys → name_in names u ≡ name_in names v → AreAlike names xs ys
      same_arguments u v s xs ys i j len same =
          let n = noted_term u s xs i in
          let there : IsTermAt terms atoms (name_in names v) n.0 = subst (λ (z : ℕ). IsTermAt terms atoms z n.0) same n.1 in
          let agreed : Agrees names (VarTerm u s xs) n.0 = All-contains (Agrees names (VarTerm u s xs)) atoms n.0
          (All-contains (λ (a : Flat). All (Agrees names a) atoms) atoms (VarTerm u s xs) agree i) (stands_at atoms n.1.0 n.0 n.1.2) in
          both_follow u v s xs ys n.0 n.2 same agreed len ((serves (VarTerm u s xs) i).1 n.0 n.1) ((serves (VarTerm v s ys) j).1 n.0 there)

      same_name : (u v : ℕ) (s : Symbol) (xs ys : List ℕ) → Contains atoms (VarTerm u s xs) → Contains atoms (VarTerm v s ys)
          → length xs ≡ length ys → AreAlike names xs ys → name_in names u ≡ name_in names v
      same_name u v s xs ys i j len alike =
          let p = place_of atoms (VarTerm u s xs) i in
          let q = place_of atoms (VarTerm v s ys) j in
          let b : Flat = get_or atoms (slice_index twins p.0) (VarTerm u s xs) in
          let there : slice_get atoms (slice_index twins p.0) ≡ Some b = slice_get-get_or atoms (slice_index twins p.0) (VarTerm u s xs) (are.within p.0 p.1) in
          let one : slice_index twins p.0 ≡ slice_index twins q.0 = are.one p.0 q.0 u v s xs ys p.2 q.2 len alike in
          let too : slice_get atoms (slice_index twins q.0) ≡ Some b = subst (λ (z : ℕ). slice_get atoms z ≡ Some b) one there in
          named_as_twin u s xs b (are.twin p.0 u s xs b p.2 there) (followed p.0 (VarTerm u s xs) b p.1 p.2 there)
          ∙ sym (named_as_twin v s ys b (are.twin q.0 v s ys b q.2 too) (followed q.0 (VarTerm v s ys) b q.1 q.2 too))

      pub closed_from : IsClosed atoms (name_in names)
      closed_from = record { equal = λ u v i. (serves (VarVar u v) i).0; arguments = same_arguments; terms = same_name }
