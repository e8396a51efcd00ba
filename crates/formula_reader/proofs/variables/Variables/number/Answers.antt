use Rattle.std.proofs.Common.{◌≡◌, ℕ, List, [], ◌∷◌, length, Some, sym, ap, ◌∙◌, subst}
use Rattle.std.proofs.lemmas.List.{length-map}
use Rattle.formula_grammar.specs.Written.{Text}
use Rattle.formula_grammar.specs.Meaning.{first_occurrences}
use Rattle.formula_reader.specs.Scopes.{texts_of, IsCounted}
use Rattle.formula_reader.proofs.Keys.{added_to}
use Rattle.formula_reader.proofs.Numbers.{number_kept, kept_as_they_are}
use Rattle.formula_reader.proofs.Scoping.{scope_with, count_more, shows_named, found_last, counted_last}
use Rattle.formula_reader.proofs.variables.Variables.number.Goals as goal

pub returns-in-Some-clause-named : goal.returns-in-Some-clause-named
returns-in-Some-clause-named c =
    ap (λ (names : List Text). scope_with names c.args.self.now.bound)
    (sym (kept_as_they_are c.args.self.now.names c.args.name.now c.in-Some.number (sym c.in-Some.ensures)))

pub returns-in-Some-clause-found : goal.returns-in-Some-clause-found
returns-in-Some-clause-found c = sym c.in-Some.ensures

pub returns-in-Some-clause-number : goal.returns-in-Some-clause-number
returns-in-Some-clause-number c = number_kept c.args.self.now.names c.args.name.now c.in-Some.number (sym c.in-Some.ensures)

pub invariant_of-self-in_err-from_str : goal.invariant_of-self-in_err-from_str
invariant_of-self-in_err-from_str c =
    subst (λ (items : List ℕ). IsCounted (texts_of c.self.inside.names.keys) items c.self.inside.bound.items) (sym c.in_ok-push.ensures.items)
    (count_more (texts_of c.self.inside.names.keys) c.self.inside.counts.items c.self.inside.bound.items c.self.invariant)

pub invariant_of-self-in_err-insert : goal.invariant_of-self-in_err-insert
invariant_of-self-in_err-insert c =
    subst (λ (names : List Text). IsCounted names c.push.new.self.items c.self.inside.bound.items) (sym (ap texts_of c.in_err-insert.ensures.err))
    (subst (λ (items : List ℕ). IsCounted (texts_of c.self.inside.names.keys) items c.self.inside.bound.items) (sym c.in_ok-push.ensures.items)
    (count_more (texts_of c.self.inside.names.keys) c.self.inside.counts.items c.self.inside.bound.items c.self.invariant))

-- the names behind the new one
abbrev added : (c : goal.In_ok-insert) → texts_of c.insert.new.self.keys ≡ first_occurrences (texts_of c.self.inside.names.keys) (c.args.name.now ∷ [])
added c =
    ap texts_of c.in_ok-insert.ensures.keys ∙ added_to c.self.inside.names.keys c.in_ok-from_str.field-0
    ∙ ap (λ text. first_occurrences (texts_of c.self.inside.names.keys) (text ∷ [])) c.in_ok-from_str.ensures.ok

pub invariant_of-self-2 : goal.invariant_of-self-2
invariant_of-self-2 c =
    counted_last (texts_of c.self.inside.names.keys) c.self.inside.counts.items c.self.inside.bound.items c.self.invariant c.args.self.now c.self.view_is
    c.args.name.now c.in_default.ensures (texts_of c.insert.new.self.keys) (added c) c.push.new.self.items c.in_ok-push.ensures.items

pub returns-clause-named : goal.returns-clause-named
returns-clause-named c =
    shows_named (texts_of c.self.inside.names.keys) c.self.inside.counts.items c.self.inside.bound.items c.self.invariant c.args.self.now c.self.view_is
    c.args.name.now c.in_default.ensures (texts_of c.insert.new.self.keys) (added c)

len_is : (c : goal.In_ok-insert) → length (texts_of c.self.inside.names.keys) ≡ c.len-number.result
len_is c = rw (length-map) (sym c.len-number.ensures.len)

pub returns-clause-found : goal.returns-clause-found
returns-clause-found c =
    found_last (texts_of c.self.inside.names.keys) c.self.inside.counts.items c.self.inside.bound.items c.self.invariant c.args.self.now c.self.view_is
    c.args.name.now c.in_default.ensures (texts_of c.insert.new.self.keys) (added c)
    ∙ ap (λ n. Some n) (len_is c)

pub returns-clause-number : goal.returns-clause-number
returns-clause-number c =
    number_kept (texts_of c.insert.new.self.keys) c.args.name.now c.len-number.result (returns-clause-found c)
