use Rattle.explicit_form.proofs.Truth.{it_is, it_is_not, fails_by, with_first}
use Rattle.explicit_form.proofs.blocks.is_pair_placed.Goals as goal

pub returns-then-are_both_in_scope : goal.returns-then-are_both_in_scope
returns-then-are_both_in_scope c =
    with_first c.are_ordered.result c.are_ordered.ensures (it_is c.are_both_in_scope.result c.are_both_in_scope.ensures c.if-are_both_in_scope.true)
    (λ h. (h.0.0, h.0.1, h.1.0, h.1.1), λ h. ((h.0, h.1), (h.2, h.3)))

pub returns-else-are_both_in_scope : goal.returns-else-are_both_in_scope
returns-else-are_both_in_scope c =
    fails_by c.are_both_in_scope.result (λ h. it_is_not c.are_both_in_scope.result c.are_both_in_scope.ensures c.if-are_both_in_scope.false (h.0, h.1)) c.if-are_both_in_scope.false
