use Rattle.std.proofs.Common.{◌≡◌, ◌<◌, ◌≤◌, ◌++◌, ◌∷◌, [], suc, true, length, refl, sym, ap, ◌∙◌, arith, length-append}
use Rattle.formula_ast.specs.declared.token.TokenKind.TheVariants as k
use Rattle.formula_ast.specs.declared.term.Term.TheVariants as rust
use Rattle.formula_ast.specs.Terms.{list_of}
use Rattle.formula_grammar.specs.Written.{named, further}
use Rattle.formula_grammar.specs.Words.{word}
use Rattle.formula_grammar.specs.Machine as m
use Rattle.formula_grammar.specs.Checks.{check}
use Rattle.formula_reader.specs.Input.{left_of, starts, text_ahead, environment, place_of}
use Rattle.formula_reader.specs.Kinds.{head_of}
use Rattle.formula_reader.specs.Faults.{fault_of}
use Rattle.formula_reader.proofs.Steps.{words_taken, took_in, stopped_in, refused_here, refused_as, blocked, skipped_in, failed, refusal}
use Rattle.formula_reader.proofs.Rooms.{room, less, kept}
use Rattle.formula_reader.proofs.Reading.{complains, keeps_both}
use Rattle.formula_reader.proofs.TermReading.{variable_read, made_headed, opened_first, opened_next, opened_last, no_arguments_read, arguments_open, arguments_stopped, headed_answers, at_inner, term_blocked, index_fits}
use Rattle.formula_reader.proofs.reader.Reader.+terms.Goals as goal

-- ---- a term

pub term-returns-in_err-variable : goal.term-returns-in_err-variable
term-returns-in_err-variable t c =
    let old = c.args.self.now in
    let E = environment c.args.signature.now old.joints in
    let role = m.stands (text_ahead old) (place_of old c.args.place) in
    failed _ _ _ c.args.self.now _ _ c.from_residual.ensures.1
    (stopped_in k.Variable old (sym c.if-sees.ensures) _ _ (c.in_err-variable.ensures.stops E) (m.term (place_of old c.args.place)) role [] refl refl)

pub term-returns-in_ok-variable : goal.term-returns-in_ok-variable
term-returns-in_ok-variable t c =
    let old = c.args.self.now in
    let σ = c.args.signature.now in
    let next : starts k.Variable (left_of old) ≡ true = sym c.if-sees.ensures in
    let read = c.in_ok-variable.ensures in
    let takes = read.takes (environment σ old.joints) in
    record {
      faults = took_in k.Variable next takes σ σ (m.term (place_of old c.args.place)) (m.stands (text_ahead old) (place_of old c.args.place)) [] refl refl
          (ap (environment σ) (sym read.joints));
      read = variable_read next takes read.scope read.number;
    }

pub term-returns-in_err-take : goal.term-returns-in_err-take
term-returns-in_err-take t c =
    let old = c.args.self.now in
    failed _ _ _ c.args.self.now _ _ c.from_residual-in_err-take.ensures.1
    (stopped_in k.Name old (sym c.if-sees-2.ensures) _ _ c.in_err-take.ensures.stops (m.term (place_of old c.args.place)) (m.heads (named (text_ahead old)))
    (m.arguments (named (text_ahead old)) (place_of old c.args.place) ∷ []) refl
    (c.heads.ensures old.joints ∙ ap (λ f. check (environment c.args.signature.now old.joints) (m.heads (named f))) c.text.ensures))

pub term-headed-requires : goal.term-headed-requires
term-headed-requires t c = let further = less c.in_ok-take.ensures.takes in (omega (arith, further), (c.requires, λ text is. absurd (cc is)))

pub term-returns-in_ok-take : goal.term-returns-in_ok-take
term-returns-in_ok-take t c =
    let old = c.args.self.now in
    headed_answers k.Name (named c.text.result.now) c.args.signature.now old c.take.new.self c.headed.new.self c.args.place c.headed.result (sym c.if-sees-2.ensures) c.in_ok-take.ensures.takes
    (ap (λ f. word k.Name f) (sym c.text.ensures)) c.in_ok-take.ensures.keeps (λ p. refl) (c.heads.ensures old.joints) c.in_ok-take.ensures.joints c.headed.ensures

pub term-returns-in_err-take-2 : goal.term-returns-in_err-take-2
term-returns-in_err-take-2 t c =
    let old = c.args.self.now in
    failed _ _ _ c.args.self.now _ _ c.from_residual-in_err-take-2.ensures.1
    (stopped_in k.Further old (sym c.if-sees-3.ensures) _ _ c.in_err-take-2.ensures.stops (m.term (place_of old c.args.place)) (m.heads (further (text_ahead old)))
    (m.arguments (further (text_ahead old)) (place_of old c.args.place) ∷ []) refl
    (c.heads-then-sees-3.ensures old.joints
    ∙ ap (λ f. check (environment c.args.signature.now old.joints) (m.heads (further f))) c.text-then-sees-3.ensures))

pub term-headed-requires-then-sees-3 : goal.term-headed-requires-then-sees-3
term-headed-requires-then-sees-3 t c =
    let further = less c.in_ok-take-2.ensures.takes in
    (omega (arith, further), (c.requires, index_fits c.args.signature.now c.args.self.now.joints _ _ (c.heads-then-sees-3.ensures c.args.self.now.joints) c.in_ok-take-2.ensures.takes.right))

pub term-returns-in_ok-take-2 : goal.term-returns-in_ok-take-2
term-returns-in_ok-take-2 t c =
    let old = c.args.self.now in
    headed_answers k.Further (further c.text-then-sees-3.result.now) c.args.signature.now old c.take-then-sees-3.new.self c.headed-then-sees-3.new.self c.args.place c.headed-then-sees-3.result (sym c.if-sees-3.ensures) c.in_ok-take-2.ensures.takes
    (ap (λ f. word k.Further f) (sym c.text-then-sees-3.ensures)) c.in_ok-take-2.ensures.keeps (λ p. refl) (c.heads-then-sees-3.ensures old.joints) c.in_ok-take-2.ensures.joints
    c.headed-then-sees-3.ensures

pub term-returns-else-sees-3 : goal.term-returns-else-sees-3
term-returns-else-sees-3 t c = λ s.
    refused_as _ _ c.fault.ensures
    (refused_here c.args.signature.now c.args.self.now (m.term (place_of c.args.self.now c.args.place)) refl
    (term_blocked c.args.self.now (place_of c.args.self.now c.args.place) (sym c.if-sees.ensures) (sym c.if-sees-2.ensures) (sym c.if-sees-3.ensures)) s)

-- ---- a head with its arguments

pub headed-returns-in_err-arguments : goal.headed-returns-in_err-arguments
headed-returns-in_err-arguments t c = failed _ _ _ c.args.self.now _ _ c.from_residual.ensures.1 c.in_err-arguments.ensures

pub headed-returns : goal.headed-returns
headed-returns t c = record {
  faults = c.in_ok-arguments.ensures.faults;
  read = made_headed _ c.in_ok-arguments.ensures.read (ap (λ f. rust.App f c.in_ok-arguments.arguments) c.symbol_of.ensures);
}

-- ---- arguments

pub arguments-returns-then-not-sees : goal.arguments-returns-then-not-sees
arguments-returns-then-not-sees t c =
    let said = complains c.args.self.now c.complain.new.self c.no_arguments.result c.complain.ensures in
    let old = c.args.self.now in
    let h = head_of c.args.head in
    record {
      faults = skipped_in c.args.signature.now old c.complain.new.self (m.arguments h (place_of old c.args.place)) (m.no_arguments h) refl
          (blocked k.LeftParen old (m.arguments h (place_of old c.args.place)) (sym c.if-not-sees.ensures) (λ u no. rw no refl)) refl c.complain.ensures (c.no_arguments.ensures old.joints);
      read = no_arguments_read c.new-found.ensures said.keeps said.text said.bytes
          said.on;
    }

pub arguments-returns-in_err-inner : goal.arguments-returns-in_err-inner
arguments-returns-in_err-inner t c =
    let old = c.args.self.now in
    let stops = c.in_err-inner.ensures.stops (environment c.args.signature.now old.joints) in
    failed _ _ _ c.args.self.now _ _ c.from_residual.ensures.1
    (arguments_stopped c.args.signature.now old (head_of c.args.head) c.args.place (sym c.if-not-sees.ensures) (c.opens_arguments.ensures old.joints) _ (rw c.complain-2.ensures at stops))

pub arguments-term-requires : goal.arguments-term-requires
arguments-term-requires t c =
    let said = complains c.args.self.now c.complain-2.new.self c.opens_arguments.result c.complain-2.ensures in
    let further : room c.open.new.self < room c.complain-2.new.self = less (c.in_ok-inner.ensures.takes (environment c.args.signature.now c.args.self.now.joints)) in
    let same : room c.complain-2.new.self ≤ room c.args.self.now = kept c.args.self.now c.complain-2.new.self said.bytes said.on in
    (omega (arith, further, same), c.in_ok-inner.ensures.depth)

pub arguments-returns-in_err-term : goal.arguments-returns-in_err-term
arguments-returns-in_err-term t c =
    let said = complains c.args.self.now c.complain-2.new.self c.opens_arguments.result c.complain-2.ensures in
    let old = c.args.self.now in
    let h = head_of c.args.head in
    let opens = c.in_ok-inner.ensures in
    let takes = opens.takes (environment c.args.signature.now old.joints) in
    refusal _ _ _ c.args.self.now _ _ _ c.from_residual-in_err-term.ensures.1
    (arguments_open _ _ h c.args.place (sym c.if-not-sees.ensures) (c.opens_arguments.ensures old.joints) (rw c.complain-2.ensures at takes)
    (opens.joints ∙ said.joints) (opens.keeps.scope ∙ said.keeps.scope) opens.inner)
    (λ s. c.in_err-term.ensures (m.more_arguments h 1 (m.deeper (place_of old c.args.place)) ∷ m.plain k.RightParen ∷ s))

pub arguments-more-init : goal.arguments-more-init
arguments-more-init t c =
    let said = complains c.args.self.now c.complain-2.new.self c.opens_arguments.result c.complain-2.ensures in
    let old = c.args.self.now in
    let h = head_of c.args.head in
    let σ = c.args.signature.now in
    let opens = c.in_ok-inner.ensures in
    let takes = opens.takes (environment σ old.joints) in
    let next : starts k.LeftParen (left_of old) ≡ true = sym c.if-not-sees.ensures in
    let one = c.in_ok-push.ensures.ok ∙ ap (λ l. l ++ c.in_ok-term.field-0 ∷ []) c.new-found.ensures in
    let read = c.in_ok-term.ensures.read in
    let front = said.keeps in
    let further : room c.open.new.self < room c.complain-2.new.self = less takes in
    let same : room c.complain-2.new.self ≤ room old = kept old c.complain-2.new.self said.bytes said.on in
    let behind : room c.term.new.self ≤ room c.open.new.self = kept c.open.new.self c.term.new.self read.bytes read.on in
    record {
      read = opened_first (keeps_both front opens.keeps)
          (said.text ∙ words_taken k.LeftParen (ap (λ i. starts k.LeftParen (left_of i)) c.complain-2.ensures ∙ next) takes)
          (takes.bytes ∙ said.bytes) (omega (arith, takes.on, said.on)) read one;
      faults = λ s. arguments_open _ _ h c.args.place next (c.opens_arguments.ensures old.joints) (rw c.complain-2.ensures at takes)
          (opens.joints ∙ said.joints) (opens.keeps.scope ∙ front.scope) opens.inner s
          ∙ c.in_ok-term.ensures.faults (m.more_arguments h 1 (m.deeper (place_of old c.args.place)) ∷ m.plain k.RightParen ∷ s)
          ∙ ap (λ n. fault_of σ c.term.new.self (m.more_arguments h n (m.deeper (place_of old c.args.place)) ∷ m.plain k.RightParen ∷ s)) (sym (ap length one));
      less = omega (arith, further, same, behind);
    }

pub arguments-returns-in_err-take : goal.arguments-returns-in_err-take
arguments-returns-in_err-take t c =
    let h = head_of c.args.head in
    let inner = m.deeper (place_of c.args.self.now c.args.place) in
    let n = length (list_of c.more.found) in
    refusal _ _ _ c.args.self.now _ _ _ c.from_residual-in_err-take.ensures.1 c.more.invariant.faults
    (λ s. stopped_in k.Comma c.more.self (sym c.more-test.ensures) _ _ c.in_err-take.ensures.stops (m.more_arguments h n inner) (m.separates h n)
    (m.term inner ∷ m.more_arguments h (suc n) inner ∷ []) refl
    (c.separates-wrong.ensures c.more.self.joints ∙ ap (λ i. check (environment c.args.signature.now c.more.self.joints) (m.separates h i)) c.len.ensures)
    (m.plain k.RightParen ∷ s))

pub arguments-term-requires-in-more : goal.arguments-term-requires-in-more
arguments-term-requires-in-more t c =
    let further = less c.in_ok-take.ensures.takes in (omega (arith, further, c.more.invariant.less), c.in_ok-inner.ensures.depth)

pub arguments-returns-in_err-term-2 : goal.arguments-returns-in_err-term-2
arguments-returns-in_err-term-2 t c =
    let h = head_of c.args.head in
    let σ = c.args.signature.now in
    let inner = m.deeper (place_of c.args.self.now c.args.place) in
    let n = length (list_of c.more.found) in
    let same = at_inner c.args.self.now c.take.new.self (ap (λ scope. scope.bound) (c.in_ok-take.ensures.keeps.scope ∙ c.more.invariant.read.scope)) c.in_ok-inner.ensures.inner in
    refusal _ _ _ c.args.self.now _ _ _ c.from_residual-in_err-term-2.ensures.1
    (λ s. c.more.invariant.faults s
    ∙ took_in k.Comma (sym c.more-test.ensures) c.in_ok-take.ensures.takes σ σ (m.more_arguments h n inner) (m.separates h n) (m.term inner ∷ m.more_arguments h (suc n) inner ∷ []) refl
    (c.separates-wrong.ensures c.more.self.joints ∙ ap (λ i. check (environment σ c.more.self.joints) (m.separates h i)) c.len.ensures)
    (ap (environment σ) (sym c.in_ok-take.ensures.joints)) (m.plain k.RightParen ∷ s)
    ∙ ap (λ q. fault_of σ c.take.new.self (m.term q ∷ m.more_arguments h (suc n) inner ∷ m.plain k.RightParen ∷ s)) (sym same))
    (λ s. c.in_err-term-2.ensures (m.more_arguments h (suc n) inner ∷ m.plain k.RightParen ∷ s))

pub arguments-more-smaller : goal.arguments-more-smaller
arguments-more-smaller t c =
    let further = less c.in_ok-take.ensures.takes in
    let behind = kept c.take.new.self c.term-in-more.new.self c.in_ok-term-2.ensures.read.bytes c.in_ok-term-2.ensures.read.on in
    omega (arith, further, behind)

pub arguments-more-preserved : goal.arguments-more-preserved
arguments-more-preserved t c =
    let h = head_of c.args.head in
    let σ = c.args.signature.now in
    let inner = m.deeper (place_of c.args.self.now c.args.place) in
    let n = length (list_of c.more.found) in
    let far = c.more.invariant in
    let takes = c.in_ok-take.ensures.takes in
    let keeps = c.in_ok-take.ensures.keeps in
    let read = c.in_ok-term-2.ensures.read in
    let next : starts k.Comma (left_of c.more.self) ≡ true = sym c.more-test.ensures in
    let same = at_inner c.args.self.now c.take.new.self (ap (λ scope. scope.bound) (keeps.scope ∙ far.read.scope)) c.in_ok-inner.ensures.inner in
    let more : length (list_of c.push-in-more.new.self) ≡ suc n =
    ap length c.in_ok-push-2.ensures.ok ∙ length-append (list_of c.more.found) (c.in_ok-term-2.field-0 ∷ []) ∙ omega arith in
    let further = less takes in
    let behind = kept c.take.new.self c.term-in-more.new.self read.bytes read.on in
    record {
      read = opened_next far.read keeps (words_taken k.Comma next takes) takes.bytes (omega (arith, takes.on)) read c.in_ok-push-2.ensures.ok;
      faults = λ s. far.faults s
          ∙ took_in k.Comma next takes σ σ (m.more_arguments h n inner) (m.separates h n) (m.term inner ∷ m.more_arguments h (suc n) inner ∷ []) refl
          (c.separates-wrong.ensures c.more.self.joints ∙ ap (λ i. check (environment σ c.more.self.joints) (m.separates h i)) c.len.ensures)
          (ap (environment σ) (sym c.in_ok-take.ensures.joints)) (m.plain k.RightParen ∷ s)
          ∙ ap (λ q. fault_of σ c.take.new.self (m.term q ∷ m.more_arguments h (suc n) inner ∷ m.plain k.RightParen ∷ s)) (sym same)
          ∙ c.in_ok-term-2.ensures.faults (m.more_arguments h (suc n) inner ∷ m.plain k.RightParen ∷ s)
          ∙ ap (λ i. fault_of σ c.term-in-more.new.self (m.more_arguments h i inner ∷ m.plain k.RightParen ∷ s)) (sym more);
      less = omega (arith, further, behind, far.less);
    }

pub arguments-returns-in_err-expect : goal.arguments-returns-in_err-expect
arguments-returns-in_err-expect t c =
    let h = head_of c.args.head in
    let σ = c.args.signature.now in
    let n = length (list_of c.more.found) in
    refusal _ _ _ c.args.self.now _ _ _ c.from_residual-in_err-expect.ensures.1
    (λ s. c.more.invariant.faults s
    ∙ skipped_in σ c.more.self c.complain-3.new.self (m.more_arguments h n (m.deeper (place_of c.args.self.now c.args.place))) (m.closes h n) refl
    (blocked k.Comma c.more.self (m.more_arguments h n (m.deeper (place_of c.args.self.now c.args.place))) (sym c.more-test.ensures) (λ u no. rw no refl)) refl c.complain-3.ensures
    (c.closes.ensures c.more.self.joints ∙ ap (λ i. check (environment σ c.more.self.joints) (m.closes h i)) c.len-2.ensures) (m.plain k.RightParen ∷ s))
    (c.in_err-expect.ensures σ)

pub arguments-returns : goal.arguments-returns
arguments-returns t c =
    let said = complains c.more.self c.complain-3.new.self c.closes.result c.complain-3.ensures in
    let h = head_of c.args.head in
    let σ = c.args.signature.now in
    let n = length (list_of c.more.found) in
    let last = c.in_ok-expect.ensures σ in
    record {
      faults = λ s. c.more.invariant.faults s
          ∙ skipped_in σ c.more.self c.complain-3.new.self (m.more_arguments h n (m.deeper (place_of c.args.self.now c.args.place))) (m.closes h n) refl
          (blocked k.Comma c.more.self (m.more_arguments h n (m.deeper (place_of c.args.self.now c.args.place))) (sym c.more-test.ensures) (λ u no. rw no refl)) refl c.complain-3.ensures
          (c.closes.ensures c.more.self.joints ∙ ap (λ i. check (environment σ c.more.self.joints) (m.closes h i)) c.len-2.ensures) (m.plain k.RightParen ∷ s)
          ∙ last.faults s;
      read = opened_last c.more.invariant.read (keeps_both said.keeps last.keeps) (said.text ∙ last.words)
          (last.bytes ∙ said.bytes) (omega (arith, said.on, last.on));
    }
