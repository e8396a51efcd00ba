use Rattle.std.proofs.Common.{◌≡◌, ◌∷◌, [], ◌++◌, length, arith, ap, ◌∙◌, sym}
use Rattle.std.proofs.lemmas.List.{length-map, length_push}
use Rattle.index_lists.specs.Links.{nexts}
use Rattle.index_lists.proofs.Rounds.{round_alone, round_added, one_more}
use Rattle.index_lists.proofs.Rings.new_ring.Goals as goal

count : (c : goal.In_ok-push) → c.len-cell.result ≡ length c.self.inside.cells.items
count c = omega arith

now : (c : goal.In_ok-push) → nexts c.push.new.self.items ≡ nexts c.self.inside.cells.items ++ length (nexts c.self.inside.cells.items) ∷ []
now c = one_more c.self.inside.cells.items c.push.new.self.items c.len-cell.result c.in_ok-push.ensures.items (count c)

pub returns-clause-alone : goal.returns-clause-alone
returns-clause-alone c = rw (now c, count c ∙ sym (length-map c.self.inside.cells.items (λ l. l.next))) (round_alone (nexts c.self.inside.cells.items))

pub returns-clause-others : goal.returns-clause-others
returns-clause-others c = λ s cells l p. rw (now c) (round_added (nexts c.self.inside.cells.items) (λ i k. (c.self.invariant.forth i k).0) s cells (rw c.self.view_is l) (rw c.self.view_is p))

pub returns-clause-len : goal.returns-clause-len
returns-clause-len c = rw (← c.self.view_is) (ap length (now c) ∙ length_push (nexts c.self.inside.cells.items) (length (nexts c.self.inside.cells.items)))
