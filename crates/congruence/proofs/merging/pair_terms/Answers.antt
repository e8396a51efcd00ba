use Rattle.std.proofs.Common.{inr, sym, ◌∙◌}
use Rattle.term_graph.specs.Contents.{term_at}
use Rattle.congruence.proofs.Turning.{paired_as}
use Rattle.congruence.proofs.merging.pair_terms.Goals as goal

pub returns-clause-paired : goal.returns-clause-paired
returns-clause-paired c = inr (
  c.in-Term-Term.t,
  c.in-Term-Term.s,
  sym c.binding.ensures ∙ c.in-Term-Term.is-0,
  sym c.binding-2.ensures ∙ c.in-Term-Term.is-1,
  c.if-not-have_one_shape.ensures,
  paired_as c.as_slice.result.now c.as_slice-2.result.now (term_at c.args.graph.now.contents.terms c.in-Term-Term.s).args (term_at c.args.graph.now.contents.terms c.in-Term-Term.t).args
      c.args.waiting.now.equal c.equate_all.new.self.equal (c.as_slice.ensures ∙ c.args-2.ensures) (c.as_slice-2.ensures ∙ c.args-3.ensures) c.in_ok-equate_all.ensures.paired,
)
