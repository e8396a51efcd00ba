use Rattle.std.proofs.Common.{arith, List, length, ◌<◌, sym, ap, subst}
use Rattle.term_graph.specs.Contents.{History}
use Rattle.std.specs.Prelude.{Contains}
use Rattle.congruence.specs.declared.noting.Note.{Note}
use Rattle.congruence.specs.Turns.{AreLinked, TermsWait}
use Rattle.congruence.proofs.Turning.{may_bind, choice_root, watched_by, terms_wait}
use Rattle.congruence.proofs.merging.merge.Goals as goal

pub bind-requires-clause-to : goal.bind-requires-clause-to
bind-requires-clause-to c = may_bind c.args.graph.now.contents c.args.a c.args.b c.choose-v.result.0 c.choose-v.result.1 c.choose-v.ensures c.requires.a_in c.requires.b_in c.requires.a_root c.requires.b_root c.requires.apart

pub link-requires : goal.link-requires
link-requires c = record { inside = λ note inside. subst (λ (z : History). note.term < length z.contents.terms) (sym c.in_ok-bind.ensures.ok) (c.in_ok-notes.ensures.each note (subst (λ (z : List Note). Contains z note) c.as_slice.ensures.value inside)).0.0 }

pub returns-clause-merged : goal.returns-clause-merged
returns-clause-merged c = record {
  goes = c.choose-v.result.0;
  stays = c.choose-v.result.1;
  choice = c.choose-v.ensures;
  bound = ap (λ (z : History). z.contents) c.in_ok-bind.ensures.ok;
  terms = subst (λ z. TermsWait c.args.graph.now.contents c.choose-v.result.0 c.choose-v.result.1 c.args.waiting.now.equal z) (sym c.in_ok-link.ensures.equal)
      (terms_wait c.args.graph.now.contents c.choose-v.result.0 c.choose-v.result.1 c.args.waiting.now.equal c.pair_terms.new.waiting.equal c.in_ok-pair_terms.field-0 c.if-not-branch.false c.in_ok-pair_terms.ensures.paired);
  few = omega (arith, c.in_ok-pair_terms.ensures.few, ap length c.in_ok-link.ensures.equal);
  notes = c.in_ok-notes.notes.items;
  noted = c.in_ok-notes.ensures;
  linked = subst (λ (z : List Note). AreLinked c.bind.new.self.contents c.args.waiting.now.alike c.link.new.waiting.alike z) c.as_slice.ensures.value
      (subst (λ z. AreLinked c.bind.new.self.contents z c.link.new.waiting.alike c.as_slice.result.now) c.in_ok-pair_terms.ensures.alike c.in_ok-link.ensures.linked);
}

pub returns-clause-watched : goal.returns-clause-watched
returns-clause-watched c = watched_by c.args.graph.now.contents c.bind.new.self.contents c.choose-v.result.0 c.choose-v.result.1 c.args.starts.now c.watch.new.starts
    (choice_root c.args.graph.now.contents c.args.a c.args.b c.choose-v.result.0 c.choose-v.result.1 c.choose-v.ensures c.requires.a_root c.requires.b_root).0
    (ap (λ (z : History). z.contents.bindings) c.in_ok-bind.ensures.ok) c.in_ok-watch.ensures
