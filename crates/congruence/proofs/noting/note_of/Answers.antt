use Rattle.std.proofs.Common.{◌≡◌, refl, ◌∙◌, ap, subst, arith, map, Some}
use Rattle.term_graph.specs.Contents.{IsLeader}
use Rattle.settled_facts.specs.Settled.{name}
use Rattle.congruence.proofs.Turning.{replaced_within, found_of, met_of}
use Rattle.congruence.proofs.noting.note_of.Goals as goal

pub find-requires-2 : goal.find-requires-2
find-requires-2 c = record {
  within = replaced_within c.args.graph.now.contents c.well_formed-2.ensures c.args.v c.args.w c.requires.w_in c.requires.w_root c.args.t c.requires.t_in c.as_slice-2.result.now (c.as_slice-2.ensures ∙ c.in_ok-args.ensures);
}

pub returns : goal.returns
returns c = record {
  is = refl;
  leads = found_of c.args.graph.now.contents c.args.t c.symbol-symbol.result.now c.as_slice.result.now (Some c.args.t) c.symbol-symbol.ensures (c.as_slice.ensures ∙ c.args-2.ensures)
      (let here : c.in-Some.least ≡ c.args.t = omega (arith, c.if-least-t.false) in
      subst (λ z. IsLeader c.args.graph.now.contents.bindings c.args.graph.now.contents.terms c.symbol-symbol.result.now (map (name c.args.graph.now.contents) c.as_slice.result.now) z)
      (c.in-Some.is ∙ ap Some here) c.in_ok-least.ensures);
  met = met_of c.args.graph.now.contents c.well_formed-2.ensures c.args.v c.args.w c.requires.w_in c.requires.w_root c.args.t c.symbol-symbol.result.now c.as_slice-2.result.now c.in_ok-before.before
      c.symbol-symbol.ensures (c.as_slice-2.ensures ∙ c.in_ok-args.ensures) c.in_ok-before.ensures;
}
