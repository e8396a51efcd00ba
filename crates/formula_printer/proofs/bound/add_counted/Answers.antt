use Rattle.std.proofs.Common.{◌≡◌, ◌≤◌, ◌<◌, ◌∷◌, [], ◌++◌, true, false, take, length, ap, sym, ◌∙◌, arith}
use Rattle.std.proofs.lemmas.Result.{on_ok_weaker}
use Rattle.formula_grammar.specs.Checks as checks
use Rattle.formula_printer.specs.Bound.{counted, fresh_names}
use Rattle.formula_printer.proofs.Rising.{still_enough, left_out, taken_in}
use Rattle.formula_printer.proofs.bound.add_counted.Goals as goal

pub returns-then-len-n : goal.returns-then-len-n
returns-then-len-n c =
    let size : length c.args.found.now ≡ length (take c.args.n (fresh_names c.args.names.now c.args.k)) = ap (λ l. length l) c.requires in
    let enough : c.args.n ≤ length (take c.args.n (fresh_names c.args.names.now c.args.k)) = omega (arith, size) in
    c.requires ∙ still_enough c.args.names.now c.args.n c.args.k enough

pub returns-then-is_among : goal.returns-then-is_among
returns-then-is_among c =
    let known : checks.is_among (counted c.args.k) c.args.names.now ≡ true = rw (c.as_str.ensures.value, c.in_ok-name.ensures) at (sym c.is_among.ensures ∙ c.if-is_among.true) in
    c.requires ∙ left_out c.args.names.now c.args.n c.args.k known

pub returns : goal.returns
returns c =
    let new : checks.is_among (counted c.args.k) c.args.names.now ≡ false = rw (c.as_str.ensures.value, c.in_ok-name.ensures) at (sym c.is_among.ensures ∙ c.if-is_among.false) in
    let size : length c.args.found.now ≡ length (take c.args.n (fresh_names c.args.names.now c.args.k)) = ap (λ l. length l) c.requires in
    let room : length (take c.args.n (fresh_names c.args.names.now c.args.k)) < c.args.n = omega (arith, size) in
    on_ok_weaker c.push.result
    (λ is. is ∙ ap (λ name. c.args.found.now ++ name ∷ []) (c.new.ensures ∙ c.in_ok-name.ensures) ∙ ap (λ l. l ++ counted c.args.k ∷ []) c.requires
    ∙ taken_in c.args.names.now c.args.n c.args.k room new)
    c.push.ensures.ok
