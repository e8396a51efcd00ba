use Rattle.std.proofs.Common.{ℕ, List, [], ◌∷◌, ◌++◌, length, ap, subst, sym, ◌∙◌}
use Rattle.flat_form.specs.Numbering.{AtomOver}
use Rattle.flat_form.specs.declared.atom.Flat.TheVariants.{VarVar, VarTerm, Finite}
use Rattle.term_graph.specs.Contents.{binding_of, term_at}
use Rattle.congruence.specs.Agenda.{Agenda, idle}
use Rattle.congruence.specs.Turns.{ArePaired}
use Rattle.congruence.specs.Begun.{RefutesAtom}
use Rattle.congruence.proofs.Turning.{paired_as}
use Rattle.term_graph.proofs.Growing.{grows_none}
use Rattle.congruence.proofs.Begins.{begun_equation, begun_finite, begun_arguments, begun_as, refutes_shape}
use Rattle.congruence.proofs.beginning.begin.Goals as goal

pub returns-in_err-equate-in-VarVar-clause-grows : goal.returns-in_err-equate-in-VarVar-clause-grows
returns-in_err-equate-in-VarVar-clause-grows c = grows_none c.args.graph.now

pub returns-in_err-push-in-Finite-clause-grows : goal.returns-in_err-push-in-Finite-clause-grows
returns-in_err-push-in-Finite-clause-grows c = grows_none c.args.graph.now

pub returns-then-not-has_shape-clause-grows : goal.returns-then-not-has_shape-clause-grows
returns-then-not-has_shape-clause-grows c = grows_none c.args.graph.now

pub returns-in_err-equate_all-in-VarTerm-clause-grows : goal.returns-in_err-equate_all-in-VarTerm-clause-grows
returns-in_err-equate_all-in-VarTerm-clause-grows c = grows_none c.args.graph.now

pub returns-in-Term-clause-grows : goal.returns-in-Term-clause-grows
returns-in-Term-clause-grows c = grows_none c.args.graph.now

pub returns-in_ok-equate-in-VarVar-clause-grows : goal.returns-in_ok-equate-in-VarVar-clause-grows
returns-in_ok-equate-in-VarVar-clause-grows c = grows_none c.args.graph.now

pub returns-in_ok-push-in-Finite-clause-grows : goal.returns-in_ok-push-in-Finite-clause-grows
returns-in_ok-push-in-Finite-clause-grows c = grows_none c.args.graph.now

pub returns-then-not-has_shape-clause-begun : goal.returns-then-not-has_shape-clause-begun
returns-then-not-has_shape-clause-begun c =
    subst (RefutesAtom c.args.graph.now.contents c.args.owners.now.items) (sym c.in-VarTerm.is)
    (refutes_shape c.args.graph.now.contents c.args.owners.now.items c.well_formed-2.ensures c.requires.owners c.in-VarTerm.u c.in-Term.t c.in-VarTerm.symbol c.in-VarTerm.args (ap (binding_of c.args.graph.now.contents.bindings) (sym c.deref-root.ensures.root) ∙ sym c.binding.ensures ∙ c.in-Term.is) c.if-not-has_shape.ensures)

pub returns-in-Term-clause-begun : goal.returns-in-Term-clause-begun
returns-in-Term-clause-begun c =
    let over = subst (AtomOver (length c.args.graph.now.contents.bindings)) c.in-VarTerm.is c.requires.over in
    begun_as c.args.graph.now.contents c.args.graph.now.contents c.args.owners.now.items c.args.owners.now.items c.equate_all.new.self (record { equal = c.equate_all.new.self.equal; alike = [] }) c.args.starts.now [] c.args.atom.now (VarTerm c.in-VarTerm.u c.in-VarTerm.symbol c.in-VarTerm.args)
    (ap (λ z. record { equal = c.equate_all.new.self.equal; alike = z }) (c.in_ok-equate_all-in-VarTerm.ensures.alike ∙ ap (λ (z : Agenda). z.alike) c.requires.idle.0)) c.requires.idle.1 c.in-VarTerm.is
    (begun_arguments c.args.graph.now.contents c.args.owners.now.items c.well_formed-2.ensures c.requires.owners c.in-VarTerm.u c.in-Term.t c.in-VarTerm.symbol c.in-VarTerm.args c.equate_all.new.self.equal over.1 (ap (binding_of c.args.graph.now.contents.bindings) (sym c.deref-root.ensures.root) ∙ sym c.binding.ensures ∙ c.in-Term.is) c.if-not-has_shape.ensures
    (subst (λ z. ArePaired (term_at c.args.graph.now.contents.terms c.in-Term.t).args c.in-VarTerm.args z c.equate_all.new.self.equal) (ap (λ (z : Agenda). z.equal) c.requires.idle.0)
    (paired_as c.as_slice.result.now c.as_slice-in-Term.result.now (term_at c.args.graph.now.contents.terms c.in-Term.t).args c.in-VarTerm.args c.args.waiting.now.equal c.equate_all.new.self.equal
    (c.as_slice.ensures ∙ c.args-in-Term.ensures) c.as_slice-in-Term.ensures c.in_ok-equate_all-in-VarTerm.ensures.paired)))

pub returns-in_ok-equate-in-VarVar-clause-begun : goal.returns-in_ok-equate-in-VarVar-clause-begun
returns-in_ok-equate-in-VarVar-clause-begun c =
    let over = subst (AtomOver (length c.args.graph.now.contents.bindings)) c.in-VarVar.is c.requires.over in
    begun_as c.args.graph.now.contents c.args.graph.now.contents c.args.owners.now.items c.args.owners.now.items c.equate.new.self (record { equal = (c.in-VarVar.u, c.in-VarVar.v) ∷ []; alike = [] }) c.args.starts.now [] c.args.atom.now (VarVar c.in-VarVar.u c.in-VarVar.v)
    (c.in_ok-equate-in-VarVar.ensures.ok ∙ ap (λ (z : Agenda). record { equal = z.equal ++ (c.in-VarVar.u, c.in-VarVar.v) ∷ []; alike = z.alike }) c.requires.idle.0) c.requires.idle.1 c.in-VarVar.is
    (begun_equation c.args.graph.now.contents c.args.owners.now.items c.well_formed-2.ensures c.requires.owners c.in-VarVar.u c.in-VarVar.v over.0 over.1)

pub returns-in_ok-push-in-Finite-clause-begun : goal.returns-in_ok-push-in-Finite-clause-begun
returns-in_ok-push-in-Finite-clause-begun c =
    let over = subst (AtomOver (length c.args.graph.now.contents.bindings)) c.in-Finite.is c.requires.over in
    begun_as c.args.graph.now.contents c.args.graph.now.contents c.args.owners.now.items c.args.owners.now.items c.args.waiting.now idle c.push.new.self (c.in-Finite.u ∷ []) c.args.atom.now (Finite c.in-Finite.u)
    c.requires.idle.0 (c.in_ok-push-in-Finite.ensures.ok ∙ ap (λ (z : List ℕ). z ++ c.in-Finite.u ∷ []) c.requires.idle.1) c.in-Finite.is
    (begun_finite c.args.graph.now.contents c.args.owners.now.items c.well_formed-2.ensures c.requires.owners c.in-Finite.u over)
