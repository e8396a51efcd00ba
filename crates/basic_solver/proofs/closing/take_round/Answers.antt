use Rattle.std.proofs.Common.{◌≡◌, ℕ, List, Option, length, sym, ◌∙◌, subst}
use Rattle.std.specs.Prelude.{All}
use Rattle.flat_facts.specs.Names.{IsClosed}
use Rattle.basic_solver.specs.Names.{name_in}
use Rattle.basic_solver.specs.Flags.{AllAgree}
use Rattle.basic_solver.specs.Terms.{AreTerms, IsServed}
use Rattle.basic_solver.specs.Twins.{AreTwins, FollowTwins}
use Rattle.basic_solver.proofs.Noted.{closed_from}
use Rattle.basic_solver.proofs.closing.take_round.Goals as goal

pub returns-clause-round : goal.returns-clause-round
returns-clause-round c =
    let atoms = c.args.atoms.now in
    let names = c.args.names.now.items in
    let terms = c.in_ok-terms.terms.items in
    let twins = c.in_ok-twins.twins.items in
    let are_terms : AreTerms names atoms terms = subst (λ (z : List ℕ). AreTerms z atoms terms) c.deref.ensures.value c.in_ok-terms.ensures in
    let agree : AllAgree names atoms = subst (λ (z : List ℕ). AllAgree z atoms) c.deref-2.ensures.value (c.all_agree.ensures.0 c.if-not-all_agree.false) in
    let served : All (IsServed names terms atoms) atoms =
    subst (λ (z : List (Option ℕ)). All (IsServed names z atoms) atoms) c.as_slice-2.ensures.value c.if-serve_all.ensures.told.1 in
    let first : c.serve_all.new.names.items ≡ names = c.if-serve_all.ensures.told.0 in
    let are_twins : AreTwins names atoms twins = subst (λ (z : List ℕ). AreTwins z atoms twins) (c.deref-3.ensures.value ∙ first) c.in_ok-twins.ensures in
    let followed : FollowTwins names twins atoms (length atoms) =
    subst (λ (z : List ℕ). FollowTwins names z atoms (length atoms)) c.as_slice-3.ensures.value
    (subst (λ (z : List ℕ). FollowTwins z c.as_slice-3.result.now atoms (length atoms)) first c.if-follow_twins.ensures.told.1) in
    subst (λ (z : List ℕ). IsClosed atoms (name_in z) × AllAgree z atoms) (sym (c.if-follow_twins.ensures.told.0 ∙ first))
    (closed_from names atoms terms are_terms agree served twins are_twins followed, agree)
