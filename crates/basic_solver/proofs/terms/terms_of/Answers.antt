use Rattle.std.proofs.Common.{◌+◌, ℕ, List, Option, length, take, sym, ap, ◌∙◌, subst, arith}
use Rattle.std.specs.Prelude.{All}
use Rattle.std.proofs.lemmas.List.Elements.{All-contains}
use Rattle.flat_form.proofs.Shapes.{all_next, all_taken}
use Rattle.flat_form.specs.Numbering.{AtomOver}
use Rattle.basic_solver.specs.Terms.{with_term, IsNoted}
use Rattle.basic_solver.proofs.Noting.{HaveTerms, noted_size, noted_more, noted_here, have_more, are_terms}
use Rattle.basic_solver.proofs.Following.{stands_at}
use Rattle.basic_solver.proofs.terms.terms_of.Goals as goal

pub loop-i-preserved : goal.loop-i-preserved
loop-i-preserved c =
    let names = c.args.names.now in
    let atoms = c.args.atoms.now in
    let i = c.loop-i.i in
    let atom = c.get.result.now in
    let old = c.loop-i.terms.items in
    let over : AtomOver (length names) atom = All-contains (AtomOver (length names)) atoms atom c.requires.over (stands_at atoms i atom c.get.ensures) in
    record {
      size = ap length c.note.ensures ∙ noted_size names atom i old ∙ c.loop-i.invariant.size;
      have = subst (λ (z : List (Option ℕ)). HaveTerms names atoms z) (sym c.note.ensures) (have_more names atoms atom i old c.get.ensures c.loop-i.invariant.have);
      noted = subst (λ (z : List (Option ℕ)). All (IsNoted names z) (take (i + 1) atoms)) (sym c.note.ensures)
          (all_next (IsNoted names (with_term names atom i old)) atoms i atom c.get.ensures (noted_more names atom i old (take i atoms) c.loop-i.invariant.noted)
          (noted_here names atom i old c.requires.names c.loop-i.invariant.size over));
    }

pub returns : goal.returns
returns c =
    are_terms c.args.names.now c.args.atoms.now c.loop-i.terms.items c.loop-i.invariant.size c.loop-i.invariant.have
    (all_taken (IsNoted c.args.names.now c.loop-i.terms.items) c.args.atoms.now c.loop-i.i (omega arith) c.loop-i.invariant.noted)
