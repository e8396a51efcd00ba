use Rattle.std.proofs.Common.{◌≡◌, ℕ, length, ap, ◌∙◌, List, get_or, set}
use Rattle.index_lists.specs.Rings.{exchanged}
use Rattle.index_lists.specs.Links.{ArePaired, nexts, previouses}
use Rattle.index_lists.proofs.Exchanging.{exchanged-paired, length-exchanged}
use Rattle.index_lists.proofs.exchange.Goals as goal

along : (n n' p p' : List ℕ) → n' ≡ n → p' ≡ p → ArePaired n p → ArePaired n' p'
along n n' p p' e f h = rw (e, f) h

pub returns-clause-linked : goal.returns-clause-linked
unfolding exchanged
returns-clause-linked c =
    let n = nexts c.args.cells.now.items in
    let p = previouses c.args.cells.now.items in
    let a = c.args.a in
    let b = c.args.b in
    along (exchanged a b n) _ (set (set p (get_or n b 0) a) (get_or n a 0) b) _ (cc) (cc) (exchanged-paired a b n p c.requires.a_in c.requires.b_in c.requires.linked)

pub returns-clause-exchanged : goal.returns-clause-exchanged
unfolding exchanged
returns-clause-exchanged c = cc

pub returns-clause-len : goal.returns-clause-len
unfolding exchanged
returns-clause-len c =
    let n = nexts c.args.cells.now.items in
    let e : nexts c.set_previous-2.new.cells.items ≡ exchanged c.args.a c.args.b n = cc in
    ap length e ∙ length-exchanged c.args.a c.args.b n
