use Rattle.std.proofs.Common.{ℕ, subst, sym, ◌≡◌, ◌++◌, ◌∷◌, []}
use Rattle.std.specs.Prelude.{Contains}
use Rattle.congruence.proofs.Atoms.{contains_last}
use Rattle.congruence.proofs.agenda.Waiting.next.Goals as goal

pub owners_of-requires : goal.owners_of-requires
owners_of-requires c =
    let last : c.args.self.now.alike ≡ c.pop.new.self.items ++ (c.in-Some.t, c.in-Some.m) ∷ [] = cc in
    c.requires c.in-Some.t c.in-Some.m (subst (λ z. Contains {X = ℕ × ℕ} z (c.in-Some.t, c.in-Some.m)) (sym last) (contains_last c.pop.new.self.items (c.in-Some.t, c.in-Some.m)))
