-- What is read one part behind another, or between words.
use Rattle.std.proofs.Common.{◌≡◌, ◌≤◌, List, [], ◌++◌, Option, sym, ◌∙◌, ap, subst, arith}
use Rattle.tree_model.specs.Signatures.{Signature}
use Rattle.formula_ast.specs.Tokens.{Word}
use Rattle.formula_grammar.specs.Written.{Text}
use Rattle.formula_reader.specs.declared.place.Place.{Place as PlaceRead}
use Rattle.formula_reader.specs.Input.{Input, Scope, added, words_left, place_of}
use Rattle.formula_reader.specs.Faults.{KeepsNames}
use Rattle.formula_reader.specs.Reads.{IsRead}
use Rattle.formula_grammar.specs.declared.fault.FaultKind.{FaultKind}
use Rattle.formula_reader.proofs.Steps.{complained}
use Rattle.formula_reader.proofs.NamesRead.{first_append, still}

-- the same variables are bound
pub same_place : (old new : Input) (p : PlaceRead) → new.scope.bound ≡ old.scope.bound → place_of new p ≡ place_of old p
same_place old new p same = ap (λ xs. record { depth = p.depth; bound = xs; closed = p.closed }) same

pub kept_place : {old new : Input} (p : PlaceRead) → KeepsNames old new → place_of new p ≡ place_of old p
kept_place {old} {new} p keeps = same_place old new p (ap (λ (scope : Scope). scope.bound) keeps.scope)

pub added_both : (scope : Scope) (xs ys : List Text) → added (added scope xs) ys ≡ added scope (xs ++ ys)
added_both scope xs ys = ap (λ names. record { names = names; bound = scope.bound }) (sym (first_append scope.names xs ys))

pub keeps_both : {old mid new : Input} → KeepsNames old mid → KeepsNames mid new → KeepsNames old new
keeps_both a b = record { scope = b.scope ∙ a.scope }

-- what holds whatever names are added holds when more were read
pub still_holds : (P : List Text → Type 0) (old new : Input) (xs : List Text) → new.scope ≡ added old.scope xs → ((more : List Text) → P (old.scope.names ++ more))
    → (more : List Text) → P (new.scope.names ++ more)
still_holds P old new xs is holds = still P old.scope.names new.scope.names xs (ap (λ (scope : Scope). scope.names) is) holds

-- a complaint changes nothing else
pub record Complains (old new : Input) : Type 0 where
  pub keeps : KeepsNames old new
  pub text : words_left old ≡ words_left new
  pub bytes : new.bytes ≡ old.bytes
  pub on : old.at ≤ new.at
  pub joints : new.joints ≡ old.joints

pub complains : (old new : Input) (wrong : Option FaultKind) → new ≡ complained wrong old → Complains old new
complains old new wrong is =
    let same : new.at ≡ old.at = ap (λ (i : Input). i.at) is in
    record {
      keeps = record { scope = ap (λ (i : Input). i.scope) is };
      text = sym (ap (λ (i : Input). words_left i) is);
      bytes = ap (λ (i : Input). i.bytes) is;
      on = omega arith;
      joints = ap (λ (i : Input). i.joints) is;
    }

-- a part between words that are no variables, which makes another part
module _ {W V A B : Type 0} {words : W → List Word → List Word} {variables : W → List Text} {Is : Signature → List Text → W → A → Type 0}
    (words_made : V → List Word → List Word) (variables_made : V → List Text) (IsMade : Signature → List Text → V → B → Type 0) where
  abbrev pub enclosed : {σ : Signature} {old mid behind new : Input} {a : A} {b : B} (make : W → V)
      → ((w : W) → variables_made (make w) ≡ variables w)
      → KeepsNames old mid → (r : IsRead words variables Is σ mid behind a) → KeepsNames behind new
      → ((names : List Text) → Is σ names r.written a → IsMade σ names (make r.written) b)
      → words_left old ≡ words_made (make r.written) (words_left new)
      → mid.bytes ≡ old.bytes → new.bytes ≡ behind.bytes → old.at ≤ mid.at → behind.at ≤ new.at
      → IsRead words_made variables_made IsMade σ old new b
  enclosed {σ} {old} {mid} {behind} {new} {a} {b} make variables_are front r back is text same same_behind on on_behind = record {
    written = make r.written;
    text = text;
    scope = back.scope ∙ r.scope ∙ ap (λ scope. added scope (variables r.written)) front.scope ∙ ap (λ xs. added old.scope xs) (sym (variables_are r.written));
    is = λ more. is (new.scope.names ++ more) (subst (λ (scope : Scope). Is σ (scope.names ++ more) r.written a) (sym back.scope) (r.is more));
    bytes = same_behind ∙ r.bytes ∙ same;
    on = omega (arith, on, r.on, on_behind);
  }

-- two parts, one behind the other, which make a third
module _ {W V X A B C : Type 0} {words : W → List Word → List Word} {variables : W → List Text} {Is : Signature → List Text → W → A → Type 0}
    {words_2 : V → List Word → List Word} {variables_2 : V → List Text} {Is_2 : Signature → List Text → V → B → Type 0}
    (words_made : X → List Word → List Word) (variables_made : X → List Text) (IsMade : Signature → List Text → X → C → Type 0) where
  pub both : {σ : Signature} {old mid new : Input} {a : A} {b : B} {c : C} (make : W → V → X)
      → ((w : W) (v : V) → variables_made (make w v) ≡ variables w ++ variables_2 v)
      → (r : IsRead words variables Is σ old mid a) → (q : IsRead words_2 variables_2 Is_2 σ mid new b)
      → ((names : List Text) → Is σ names r.written a → Is_2 σ names q.written b → IsMade σ names (make r.written q.written) c)
      → words_left old ≡ words_made (make r.written q.written) (words_left new)
      → IsRead words_made variables_made IsMade σ old new c
  both {σ} {old} {mid} {new} {a} {b} {c} make variables_are r q is text = record {
    written = make r.written q.written;
    text = text;
    scope = q.scope ∙ ap (λ scope. added scope (variables_2 q.written)) r.scope ∙ added_both old.scope (variables r.written) (variables_2 q.written)
        ∙ ap (λ xs. added old.scope xs) (sym (variables_are r.written q.written));
    is = λ more. is (new.scope.names ++ more)
        (still_holds (λ names. Is σ names r.written a) mid new (variables_2 q.written) q.scope r.is more) (q.is more);
    bytes = q.bytes ∙ r.bytes;
    on = omega (arith, r.on, q.on);
  }

-- no part at all
pub nothing_read : {W A : Type 0} (words : W → List Word → List Word) (variables : W → List Text) (Is : Signature → List Text → W → A → Type 0)
    {σ : Signature} {old new : Input} {a : A} (w : W) → variables w ≡ [] → KeepsNames old new
    → ((names : List Text) → Is σ names w a) → words_left old ≡ words w (words_left new) → new.bytes ≡ old.bytes → old.at ≤ new.at
    → IsRead words variables Is σ old new a
nothing_read words variables Is {σ} {old} {new} {a} w none keeps is text bytes on = record {
  written = w;
  text = text;
  scope = keeps.scope ∙ ap (λ xs. added old.scope xs) (sym none);
  is = λ more. is (new.scope.names ++ more);
  bytes = bytes;
  on = on;
}
