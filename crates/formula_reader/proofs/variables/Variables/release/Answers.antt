use Rattle.std.proofs.Common.{◌-◌, ◌≤◌, refl, sym, ap, ◌∙◌, arith, length, List}
use Rattle.std.proofs.lemmas.List.{take_all, length-take-le}
use Rattle.formula_grammar.specs.Written.{Text}
use Rattle.formula_reader.specs.Input.{Scope}
use Rattle.formula_reader.proofs.Scoping.{scope_with, shorter, released_on, released_to}
use Rattle.formula_reader.proofs.variables.Variables.release.Goals as goal

pub loop-self-init : goal.loop-self-init
loop-self-init c = record {
  names = refl;
  bound = sym (take_all (length c.args.self.now.bound) c.args.self.now.bound (omega arith));
  enough = c.requires;
  within = omega arith;
}

pub loop-self-smaller : goal.loop-self-smaller
loop-self-smaller c =
    omega (
      arith,
      ap (λ (S : Scope). length S.bound) c.release_one.ensures,
      shorter c.loop-self.self.bound (omega (arith, c.depth.ensures, c.loop-self-test.true)),
    )

pub loop-self-preserved : goal.loop-self-preserved
loop-self-preserved c =
    let some : 1 ≤ length c.loop-self.self.bound = omega (arith, c.depth.ensures, c.loop-self-test.true) in
    let long = length-take-le (length c.loop-self.self.bound - 1) c.loop-self.self.bound (omega arith) in
    record {
      names = ap (λ (S : Scope). S.names) c.release_one.ensures ∙ c.loop-self.invariant.names;
      bound = released_on c.args.self.now.bound c.loop-self.self.bound c.release_one.new.self.bound c.loop-self.invariant.bound (ap (λ (S : Scope). S.bound) c.release_one.ensures) some c.loop-self.invariant.within;
      enough = omega (arith, ap (λ (S : Scope). length S.bound) c.release_one.ensures, long, c.depth.ensures, c.loop-self-test.true);
      within = omega (arith, ap (λ (S : Scope). length S.bound) c.release_one.ensures, long, c.loop-self.invariant.within);
    }

pub returns : goal.returns
returns c =
    ap (λ (names : List Text). scope_with names c.loop-self.self.bound) c.loop-self.invariant.names
    ∙ ap (λ (bound : List Text). scope_with c.args.self.now.names bound)
    (released_to c.args.outer c.args.self.now.bound c.loop-self.self.bound c.loop-self.invariant.bound (omega (arith, c.loop-self.invariant.enough, c.depth.ensures, c.loop-self-test.false)))
