use Rattle.std.proofs.Common.{◌≡◌, ◌≤◌, ◌∷◌, ◌++◌, [], true, length, map, drop, take, refl, sym, ap, subst, ◌∙◌, arith}
use Rattle.formula_ast.specs.declared.token.TokenKind.TheVariants as k
use Rattle.formula_ast.specs.declared.token.TokenKind.{TokenKind}
use Rattle.formula_grammar.specs.Written.{Joint, exists, forall}
use Rattle.formula_grammar.specs.Words.{sign}
use Rattle.formula_grammar.specs.Meaning.{number_in}
use Rattle.formula_grammar.specs.Machine as m
use Rattle.formula_reader.specs.Input.{Input, Scope, left_of, starts, place_of}
use Rattle.formula_reader.specs.Kinds.{joint_of, quantifier_of, chains}
use Rattle.formula_reader.specs.Faults.{fault_of}
use Rattle.formula_grammar.specs.Checks.{start}
use Rattle.formula_reader.specs.Reads.{ParsesOperand}
use Rattle.formula_reader.proofs.Steps.{words_taken, refused_here, refused_as, blocked, failed, refusal, answers_as, refuses_before, stopped_plain, no_memory}
use Rattle.formula_reader.proofs.Rooms.{less, less_seen, kept}
use Rattle.formula_reader.proofs.Reading.{same_place}
use Rattle.formula_reader.proofs.AtomReading.{ReadOperand}
use Rattle.formula_reader.proofs.FormulaReading.{operand_level, tail_passes, level_bounds, chain_left, again_more, again_none, weaker, joined_read, made, nested, not_nested, no_read, group_read, quantified_read, first_bound, next_bound, not_bound, variables_blocked, colon_taken, body_read, outer_within}
use Rattle.formula_reader.proofs.reader.Reader.+formulas.Goals as goal

-- ---- operands

pub operand-returns-in_default : goal.operand-returns-in_default
operand-returns-in_default t c =
    subst (λ n. ParsesOperand n c.args.place c.unary.result c.args.signature.now c.args.self.now c.unary.new.self) (sym c.in_default.ensures) c.unary.ensures

pub operand-unary-requires : goal.operand-unary-requires
operand-unary-requires t c = (omega (arith, c.requires.level), c.requires.depth)

pub operand-operand-requires : goal.operand-operand-requires
operand-operand-requires t c =
    let bounds = level_bounds (joint_of c.in-Some.joint) in
    (omega (arith, bounds.1, c.in-Some.ensures), (c.requires.depth, (omega arith, omega (arith, bounds.1, c.in-Some.ensures))))

pub operand-returns-in_err-left : goal.operand-returns-in_err-left
operand-returns-in_err-left t c =
    let old = c.args.self.now in
    let j = joint_of c.in-Some.joint in
    refusal _ _ _ c.args.self.now _ _ _ c.from_residual.ensures.1 (operand_level c.args.signature.now old j c.args.level (place_of old c.args.place) c.in-Some.ensures)
    (λ s. c.in_err-left.ensures (m.tail j (place_of old c.args.place) ∷ s))

pub operand-more-init : goal.operand-more-init
operand-more-init t c =
    let old = c.args.self.now in
    let j = joint_of c.in-Some.joint in
    let bounds = level_bounds j in
    record {
      read = weaker (omega (arith, bounds, c.in-Some.ensures)) c.in_ok-left.ensures.read;
      faults = λ s. operand_level c.args.signature.now old j c.args.level (place_of old c.args.place) c.in-Some.ensures s
          ∙ c.in_ok-left.ensures.faults (m.tail j (place_of old c.args.place) ∷ s);
    }

pub operand-returns-in_err-inner : goal.operand-returns-in_err-inner
operand-returns-in_err-inner t c =
    let old = c.args.self.now in
    let j = joint_of c.in-Some.joint in
    let same = same_place old c.more.self c.args.place (ap (λ scope. scope.bound) c.more.invariant.read.scope) in
    refusal _ _ _ c.args.self.now _ _ _ c.from_residual-in_err-inner.ensures.1
    (λ s. c.more.invariant.faults s ∙ ap (λ p. fault_of c.args.signature.now c.more.self (m.tail j p ∷ s)) (sym same))
    (c.in_err-inner.ensures c.args.signature.now)

-- the sign of the joint stands next
abbrev Signed : Joint → TokenKind → Input → Type 0
Signed j kind i = (true ≡ starts kind (left_of i)) → kind ≡ sign j → starts (sign j) (left_of i) ≡ true

signed : (j : Joint) (kind : TokenKind) (i : Input) → Signed j kind i
signed j kind i seen is = ap (λ of. starts of (left_of i)) (sym is) ∙ sym seen

pub operand-join-requires : goal.operand-join-requires
operand-join-requires t c = record { depth = c.requires.depth; starts = signed (joint_of c.in-Some.joint) c.sign.result c.more.self c.more-test.ensures c.sign.ensures }

pub operand-operand-requires-in-more : goal.operand-operand-requires-in-more
operand-operand-requires-in-more t c =
    let old = c.args.self.now in
    let σ = c.args.signature.now in
    let j = joint_of c.in-Some.joint in
    let place = place_of c.more.self c.args.place in
    let same = same_place old c.more.self c.args.place (ap (λ scope. scope.bound) c.more.invariant.read.scope) in
    let sign_read = c.in_ok-inner.ensures σ in
    let seen = signed j c.sign.result c.more.self c.more-test.ensures c.sign.ensures in
    let bounds = level_bounds j in
    let further = less_seen (sign j) c.more.self c.join.new.self seen sign_read.bytes sign_read.on in
    let before = kept old c.more.self c.more.invariant.read.bytes c.more.invariant.read.on in (
      omega (arith, further, before),
      (sign_read.depth, (omega (arith, bounds, c.right.ensures), omega (arith, bounds, c.right.ensures))),
    )

pub operand-returns-in_err-right : goal.operand-returns-in_err-right
operand-returns-in_err-right t c =
    let old = c.args.self.now in
    let σ = c.args.signature.now in
    let j = joint_of c.in-Some.joint in
    let place = place_of c.more.self c.args.place in
    let same = same_place old c.more.self c.args.place (ap (λ scope. scope.bound) c.more.invariant.read.scope) in
    let sign_read = c.in_ok-inner.ensures σ in
    refusal _ _ _ old _ _ _ c.from_residual-in_err-right.ensures.1
    (λ s. c.more.invariant.faults s ∙ ap (λ p. fault_of σ c.more.self (m.tail j p ∷ s)) (sym same) ∙ sign_read.faults s
    ∙ ap (λ n. fault_of σ c.join.new.self (m.operand n (place_of c.join.new.self c.in_ok-inner.inner) ∷ m.again j place ++ s)) (sym c.right.ensures))
    (λ s. c.in_err-right.ensures (m.again j place ++ s))

pub operand-returns-in_err-left-2 : goal.operand-returns-in_err-left-2
operand-returns-in_err-left-2 t c =
    failed _ _ _ c.args.self.now _ _ c.from_residual-in_err-left-2.ensures.1 (λ s. no_memory _ _ c.in_err-left-2.ensures.no_memory)

pub operand-returns-then-not-chains : goal.operand-returns-then-not-chains
operand-returns-then-not-chains t c =
    let old = c.args.self.now in
    let σ = c.args.signature.now in
    let j = joint_of c.in-Some.joint in
    let place = place_of c.more.self c.args.place in
    let same = same_place old c.more.self c.args.place (ap (λ scope. scope.bound) c.more.invariant.read.scope) in
    let sign_read = c.in_ok-inner.ensures σ in
    let right_read = c.in_ok-right.ensures in
    record {
      faults = λ s. c.more.invariant.faults s ∙ ap (λ p. fault_of σ c.more.self (m.tail j p ∷ s)) (sym same) ∙ sign_read.faults s
          ∙ ap (λ n. fault_of σ c.join.new.self (m.operand n (place_of c.join.new.self c.in_ok-inner.inner) ∷ m.again j place ++ s)) (sym c.right.ensures)
          ∙ right_read.faults (m.again j place ++ s)
          ∙ ap (λ u. fault_of σ c.operand-in-more.new.self (u ++ s)) (again_none j place (sym c.if-not-chains.ensures));
      read = subst (λ n. ReadOperand n σ old c.operand-in-more.new.self c.in_ok-left-2.left) c.in-Some.ensures
          (joined_read j c.more.invariant.read sign_read.text sign_read.keeps sign_read.bytes (omega (arith, sign_read.on))
          (subst (λ n. ReadOperand n σ c.join.new.self c.operand-in-more.new.self c.in_ok-right.right) c.right.ensures right_read.read) c.in_ok-left-2.ensures.formula);
    }

pub operand-more-smaller : goal.operand-more-smaller
operand-more-smaller t c =
    let sign_read = c.in_ok-inner.ensures c.args.signature.now in
    let seen = signed (joint_of c.in-Some.joint) c.sign.result c.more.self c.more-test.ensures c.sign.ensures in
    let further = less_seen (sign (joint_of c.in-Some.joint)) c.more.self c.join.new.self seen sign_read.bytes sign_read.on in
    let behind = kept c.join.new.self c.operand-in-more.new.self c.in_ok-right.ensures.read.bytes c.in_ok-right.ensures.read.on in
    omega (arith, further, behind)

pub operand-more-preserved : goal.operand-more-preserved
operand-more-preserved t c =
    let old = c.args.self.now in
    let σ = c.args.signature.now in
    let j = joint_of c.in-Some.joint in
    let place = place_of c.more.self c.args.place in
    let same = same_place old c.more.self c.args.place (ap (λ scope. scope.bound) c.more.invariant.read.scope) in
    let sign_read = c.in_ok-inner.ensures σ in
    let right_read = c.in_ok-right.ensures in
    let chain : chains j ≡ true = sym c.if-not-chains.ensures in
    record {
      read = subst (λ n. ReadOperand n σ old c.operand-in-more.new.self c.in_ok-left-2.left) (sym (chain_left j chain))
          (joined_read j c.more.invariant.read sign_read.text sign_read.keeps sign_read.bytes (omega (arith, sign_read.on))
          (subst (λ n. ReadOperand n σ c.join.new.self c.operand-in-more.new.self c.in_ok-right.right) c.right.ensures right_read.read) c.in_ok-left-2.ensures.formula);
      faults = λ s. c.more.invariant.faults s ∙ ap (λ p. fault_of σ c.more.self (m.tail j p ∷ s)) (sym same) ∙ sign_read.faults s
          ∙ ap (λ n. fault_of σ c.join.new.self (m.operand n (place_of c.join.new.self c.in_ok-inner.inner) ∷ m.again j place ++ s)) (sym c.right.ensures)
          ∙ right_read.faults (m.again j place ++ s)
          ∙ ap (λ u. fault_of σ c.operand-in-more.new.self (u ++ s)) (again_more j place chain)
          ∙ ap (λ p. fault_of σ c.operand-in-more.new.self (m.tail j p ∷ s)) same;
    }

pub operand-returns : goal.operand-returns
operand-returns t c =
    let σ = c.args.signature.now in
    let j = joint_of c.in-Some.joint in
    let bounds = level_bounds j in
    record {
      faults = λ s. c.more.invariant.faults s
          ∙ tail_passes σ c.more.self j (place_of c.args.self.now c.args.place) (ap (λ kind. starts kind (left_of c.more.self)) (sym c.sign.ensures) ∙ sym c.more-test.ensures) s;
      read = weaker (omega (arith, bounds, c.in-Some.ensures)) c.more.invariant.read;
    }

-- ---- what nothing joins

pub unary-returns-in_err-inner : goal.unary-returns-in_err-inner
unary-returns-in_err-inner t c =
    failed _ _ _ c.args.self.now _ _ c.from_residual.ensures.1
    (not_nested k.Tilde c.args.signature.now c.args.self.now c.args.place (sym c.if-sees.ensures) (m.operand 5) [] refl _ c.in_err-inner.ensures.stops)

pub unary-operand-requires : goal.unary-operand-requires
unary-operand-requires t c =
    let further = less (c.in_ok-inner.ensures.takes (start [])) in
    (omega (arith, further), (c.in_ok-inner.ensures.depth, (omega arith, omega arith)))

pub unary-returns-in_err-operand : goal.unary-returns-in_err-operand
unary-returns-in_err-operand t c =
    let opens = c.in_ok-inner.ensures in
    refusal _ _ _ c.args.self.now _ _ _ c.from_residual-in_err-operand.ensures.1
    (nested k.Tilde c.args.signature.now c.args.self.now c.args.place (sym c.if-sees.ensures) (m.operand 5) [] refl opens.takes opens.joints opens.keeps.scope opens.inner)
    c.in_err-operand.ensures

pub unary-returns-in_ok-operand : goal.unary-returns-in_ok-operand
unary-returns-in_ok-operand t c =
    let old = c.args.self.now in
    let σ = c.args.signature.now in
    let opens = c.in_ok-inner.ensures in
    let takes = opens.takes (start []) in
    let next : starts k.Tilde (left_of old) ≡ true = sym c.if-sees.ensures in
    made (m.operand 5 (place_of old c.args.place)) σ old c.negated.result c.negated.ensures.no_memory c.negated.ensures.formula
    (λ f is. record {
      faults = λ s. nested k.Tilde σ old c.args.place next (m.operand 5) [] refl opens.takes opens.joints opens.keeps.scope opens.inner s ∙ c.in_ok-operand.ensures.faults s;
      read = no_read (words_taken k.Tilde next takes) opens.keeps takes.bytes (omega (arith, takes.on)) c.in_ok-operand.ensures.read is;
    })

pub unary-returns-in_err-inner-2 : goal.unary-returns-in_err-inner-2
unary-returns-in_err-inner-2 t c =
    failed _ _ _ c.args.self.now _ _ c.from_residual-in_err-inner-2.ensures.1
    (not_nested k.«Exists» c.args.signature.now c.args.self.now c.args.place (sym c.if-sees-2.ensures) m.bound_variable [] refl _ c.in_err-inner-2.ensures.stops)

pub unary-quantified-requires : goal.unary-quantified-requires
unary-quantified-requires t c =
    let further = less (c.in_ok-inner-2.ensures.takes (start [])) in (omega (arith, further), c.in_ok-inner-2.ensures.depth)

pub unary-returns-in_ok-inner-2 : goal.unary-returns-in_ok-inner-2
unary-returns-in_ok-inner-2 t c =
    let old = c.args.self.now in
    let σ = c.args.signature.now in
    let opens = c.in_ok-inner-2.ensures in
    let takes = opens.takes (start []) in
    let next : starts k.«Exists» (left_of old) ≡ true = sym c.if-sees-2.ensures in
    let front = nested k.«Exists» σ old c.args.place next m.bound_variable [] refl opens.takes opens.joints opens.keeps.scope opens.inner in
    answers_as _ _ _ _ c.quantified.result
    (λ f read. record {
      faults = λ s. front s ∙ read.faults s;
      read = quantified_read exists (words_taken k.«Exists» next takes) opens.keeps takes.bytes (omega (arith, takes.on)) read.read;
    })
    (λ e refuses s. refuses_before e (front s) (refuses s)) c.quantified.ensures

pub unary-returns-in_err-inner-3 : goal.unary-returns-in_err-inner-3
unary-returns-in_err-inner-3 t c =
    failed _ _ _ c.args.self.now _ _ c.from_residual-in_err-inner-3.ensures.1
    (not_nested k.Forall c.args.signature.now c.args.self.now c.args.place (sym c.if-sees-3.ensures) m.bound_variable [] refl _ c.in_err-inner-3.ensures.stops)

pub unary-quantified-requires-then-sees-3 : goal.unary-quantified-requires-then-sees-3
unary-quantified-requires-then-sees-3 t c =
    let further = less (c.in_ok-inner-3.ensures.takes (start [])) in (omega (arith, further), c.in_ok-inner-3.ensures.depth)

pub unary-returns-in_ok-inner-3 : goal.unary-returns-in_ok-inner-3
unary-returns-in_ok-inner-3 t c =
    let old = c.args.self.now in
    let σ = c.args.signature.now in
    let opens = c.in_ok-inner-3.ensures in
    let takes = opens.takes (start []) in
    let next : starts k.Forall (left_of old) ≡ true = sym c.if-sees-3.ensures in
    let front = nested k.Forall σ old c.args.place next m.bound_variable [] refl opens.takes opens.joints opens.keeps.scope opens.inner in
    answers_as _ _ _ _ c.quantified-then-sees-3.result
    (λ f read. record {
      faults = λ s. front s ∙ read.faults s;
      read = quantified_read forall (words_taken k.Forall next takes) opens.keeps takes.bytes (omega (arith, takes.on)) read.read;
    })
    (λ e refuses s. refuses_before e (front s) (refuses s)) c.quantified-then-sees-3.ensures

pub unary-returns-in_err-inner-4 : goal.unary-returns-in_err-inner-4
unary-returns-in_err-inner-4 t c =
    let place = c.args.place in
    failed _ _ _ c.args.self.now _ _ c.from_residual-in_err-inner-4.ensures.1
    (not_nested k.LeftParen c.args.signature.now c.args.self.now place (sym c.if-sees-4.ensures) (m.operand 1) (m.plain k.RightParen ∷ []) refl _ c.in_err-inner-4.ensures.stops)

pub unary-operand-requires-then-sees-4 : goal.unary-operand-requires-then-sees-4
unary-operand-requires-then-sees-4 t c =
    let further = less (c.in_ok-inner-4.ensures.takes (start [])) in
    (omega (arith, further), (c.in_ok-inner-4.ensures.depth, (omega arith, omega arith)))

pub unary-returns-in_err-formula : goal.unary-returns-in_err-formula
unary-returns-in_err-formula t c =
    let opens = c.in_ok-inner-4.ensures in
    refusal _ _ _ c.args.self.now _ _ _ c.from_residual-in_err-formula.ensures.1
    (nested k.LeftParen c.args.signature.now c.args.self.now c.args.place (sym c.if-sees-4.ensures) (m.operand 1) (m.plain k.RightParen ∷ []) refl opens.takes opens.joints opens.keeps.scope
    opens.inner)
    (λ s. c.in_err-formula.ensures (m.plain k.RightParen ∷ s))

pub unary-returns-in_err-expect : goal.unary-returns-in_err-expect
unary-returns-in_err-expect t c =
    let σ = c.args.signature.now in
    let opens = c.in_ok-inner-4.ensures in
    refusal _ _ _ c.args.self.now _ _ _ c.from_residual-in_err-expect.ensures.1
    (λ s. nested k.LeftParen σ c.args.self.now c.args.place (sym c.if-sees-4.ensures) (m.operand 1) (m.plain k.RightParen ∷ []) refl opens.takes opens.joints opens.keeps.scope opens.inner s
    ∙ c.in_ok-formula.ensures.faults (m.plain k.RightParen ∷ s))
    (c.in_err-expect.ensures σ)

pub unary-returns-in_ok-expect : goal.unary-returns-in_ok-expect
unary-returns-in_ok-expect t c =
    let old = c.args.self.now in
    let σ = c.args.signature.now in
    let opens = c.in_ok-inner-4.ensures in
    let takes = opens.takes (start []) in
    let last = c.in_ok-expect.ensures σ in
    let next : starts k.LeftParen (left_of old) ≡ true = sym c.if-sees-4.ensures in
    record {
      faults = λ s. nested k.LeftParen σ old c.args.place next (m.operand 1) (m.plain k.RightParen ∷ []) refl opens.takes opens.joints opens.keeps.scope opens.inner s
          ∙ c.in_ok-formula.ensures.faults (m.plain k.RightParen ∷ s) ∙ last.faults s;
      read = group_read (words_taken k.LeftParen next takes) opens.keeps takes.bytes (omega (arith, takes.on)) c.in_ok-formula.ensures.read last;
    }

-- ---- the variables of a quantifier and its body

pub quantified-returns-then-not-sees : goal.quantified-returns-then-not-sees
quantified-returns-then-not-sees t c = λ s.
    let old = c.args.self.now in
    let x = m.bound_variable (place_of old c.args.place) in
    refused_as _ _ c.fault.ensures (refused_here c.args.signature.now old x refl (blocked k.Variable old x (sym c.if-not-sees.ensures) (λ u no. rw no refl)) s)

pub quantified-returns-in_err-bind : goal.quantified-returns-in_err-bind
quantified-returns-in_err-bind t c =
    let old = c.args.self.now in
    failed _ _ _ old _ _ c.from_residual.ensures.1
    (not_bound c.args.signature.now c.args.place old (sym c.if-not-sees.ensures) (m.bound_variable (place_of old c.args.place)) _ c.in_err-bind.ensures.stops refl)

pub quantified-more-init : goal.quantified-more-init
quantified-more-init t c =
    let bound = c.in_ok-bind.ensures in
    record { binds = first_bound c.args.signature.now c.args.place c.args.self.now c.bind.new.self (sym c.if-not-sees.ensures) bound.takes bound.joints bound.scope }

pub quantified-returns-in_err-bind-2 : goal.quantified-returns-in_err-bind-2
quantified-returns-in_err-bind-2 t c =
    refusal _ _ _ c.args.self.now _ _ _ c.from_residual-in_err-bind-2.ensures.1 c.more.invariant.binds.faults
    (not_bound c.args.signature.now c.args.place c.more.self (sym c.more-test.ensures) (m.more_variables (place_of c.more.self c.args.place)) _ c.in_err-bind-2.ensures.stops refl)

pub quantified-more-smaller : goal.quantified-more-smaller
quantified-more-smaller t c = less (c.in_ok-bind-2.ensures.takes [])

pub quantified-more-preserved : goal.quantified-more-preserved
quantified-more-preserved t c =
    let bound = c.in_ok-bind-2.ensures in
    record {
      binds = next_bound c.args.signature.now c.args.place c.more.self c.bind-in-more.new.self (sym c.more-test.ensures) bound.takes bound.joints bound.scope c.more.invariant.binds;
    }

pub quantified-returns-then-not-sees-2 : goal.quantified-returns-then-not-sees-2
quantified-returns-then-not-sees-2 t c = λ s.
    let x = m.more_variables (place_of c.more.self c.args.place) in
    refused_as _ _ c.fault-then-not-sees-2.ensures
    (c.more.invariant.binds.faults s
    ∙ refused_here c.args.signature.now c.more.self x refl (variables_blocked c.more.self (place_of c.more.self c.args.place) (sym c.more-test.ensures) (sym c.if-not-sees-2.ensures)) s)

pub quantified-returns-in_err-take : goal.quantified-returns-in_err-take
quantified-returns-in_err-take t c =
    let place = place_of c.more.self c.args.place in
    refusal _ _ _ c.args.self.now _ _ _ c.from_residual-in_err-take.ensures.1 c.more.invariant.binds.faults
    (stopped_plain k.Colon c.more.self (sym c.if-not-sees-2.ensures) c.args.signature.now _ c.in_err-take.ensures.stops (m.more_variables place) (m.operand 5 place ∷ []) refl)

pub quantified-operand-requires : goal.quantified-operand-requires
quantified-operand-requires t c =
    let further = less c.in_ok-take.ensures.takes in
    (omega (arith, further, c.more.invariant.binds.less), (c.requires, (omega arith, omega arith)))

pub quantified-returns-in_err-body : goal.quantified-returns-in_err-body
quantified-returns-in_err-body t c =
    let took = c.in_ok-take.ensures in
    refusal _ _ _ c.args.self.now _ _ _ c.from_residual-in_err-body.ensures.1
    (λ s. c.more.invariant.binds.faults s
    ∙ colon_taken c.args.signature.now c.args.place c.more.self c.take.new.self (sym c.if-not-sees-2.ensures) took.takes took.keeps took.joints s)
    c.in_err-body.ensures

pub quantified-bound_behind-requires : goal.quantified-bound_behind-requires
quantified-bound_behind-requires t c =
    let outer = c.depth-outer.ensures ∙ ap (λ (i : Input). length i.scope.bound) c.self.view_is in
    subst (λ (i : Input). c.depth-outer.result ≤ length i.scope.bound) (sym c.self-2.view_is)
    (outer_within outer c.more.invariant.binds c.in_ok-take.ensures.keeps c.in_ok-body.ensures.read)

pub quantified-returns-in_err-formula : goal.quantified-returns-in_err-formula
quantified-returns-in_err-formula t c =
    failed _ _ _ c.args.self.now _ _ c.from_residual-in_err-formula.ensures.1 (λ s. no_memory _ _ c.in_err-formula.ensures.no_memory)

pub quantified-returns : goal.quantified-returns
quantified-returns t c =
    let σ = c.args.signature.now in
    let took = c.in_ok-take.ensures in
    let last = c.self-2.inside in
    let outer = c.depth-outer.result in
    record {
      faults = λ s. c.more.invariant.binds.faults s
          ∙ colon_taken σ c.args.place c.more.self c.take.new.self (sym c.if-not-sees-2.ensures) took.takes took.keeps took.joints s
          ∙ c.in_ok-body.ensures.faults s ∙ ap (λ (i : Input). fault_of σ i s) (sym c.self-2.view_is);
      read = body_read (quantifier_of c.args.quantifier) outer c.bound_behind.result.now c.more.invariant.binds
          (words_taken k.Colon (sym c.if-not-sees-2.ensures) took.takes) took.keeps took.takes.bytes (omega (arith, took.takes.on)) c.in_ok-body.ensures.read
          (c.depth-outer.ensures ∙ ap (λ (i : Input). length i.scope.bound) c.self.view_is)
          (λ more. c.bound_behind.ensures more ∙ ap (λ (i : Input). map (number_in (i.scope.names ++ more)) (drop outer i.scope.bound)) c.self-2.view_is)
          c.in_ok-formula.ensures.formula _
          (ap (λ (scope : Scope). record { bytes = last.bytes.now; at = last.at; pending = last.pending; joints = last.joints; scope = scope }) c.release.ensures
          ∙ ap (λ (i : Input). record i { scope = record { names = i.scope.names; bound = take outer i.scope.bound } }) c.self-2.view_is);
    }
