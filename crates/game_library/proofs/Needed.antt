-- What the marks say in the end, and the entries that are made by them.
use Rattle.std.proofs.Common.{◌≡◌, ℕ, ◌+◌, ◌<◌, ◌≤◌, false, List, [], length, take, refl, sym, ap, subst, ◌∙◌, ◌⊎◌, inl, inr, arith, Some, None}
use Rattle.std.specs.Prelude.{Contains, slice_get}
use Rattle.std.proofs.lemmas.Bool.{false≢true}
use Rattle.std.proofs.lemmas.List.{length-replicate}
use Rattle.std.proofs.lemmas.List.Elements.{Contains-append_cases}
use Rattle.std.proofs.lemmas.Option.{slice_get_within, slice_get_read}
use Rattle.tree_facts.proofs.Members.{contains_cases}
use Rattle.tree_model.specs.declared.kind.Kind.TheVariants as kind
use Rattle.tree_model.specs.Signatures.{Signature, declared_at}
use Rattle.formula_ast.specs.declared.file.File.{File}
use Rattle.formula_ast.specs.declared.pred.Pred.{Pred}
use Rattle.formula_ast.specs.Forms.{Form, form_of, always, never, equal, differ, finite, call, win, no, and, or, imp, iff, exists, forall}
use Rattle.formula_ast.specs.WellFormed.{FormOver, IsWellFormed}
use Rattle.flat_form.specs.declared.cube.Cube.{Cube}
use Rattle.flat_form.specs.Normals.{Norm}
use Rattle.flattening.specs.declared.solved.Key.{Key}
use Rattle.flattening.specs.declared.solved.Key.TheVariants.{Call, Win}
use Rattle.flattening.specs.Conditions.{HasEntries}
use Rattle.flattening.specs.Plain.{plain_of}
use Rattle.flattening.specs.Tables.{HasKey}
use Rattle.game_library.specs.declared.marks.Mark.{Mark}
use Rattle.game_library.specs.Entries.{AreRight}
use Rattle.game_library.specs.Needs.{asked_keys, place_of, NeedsKey, IsDeclared, is_called, Covers, no_marks, IsMarked, Adds, AreNeeded}
use Rattle.game_library.specs.Solving.{IsOverFile, IsGrown}
use Rattle.game_library.proofs.Declared.{some_is, got_stands, pred_over, is_declared, stands_as, stands_before, places_ascend, key_within, key_before}
use Rattle.game_library.proofs.Grown.{still_has}
use Rattle.game_library.proofs.Marked.{nothing_marked}
use Rattle.game_library.proofs.Solved.{body_over, has_entries}

-- ---- what is asked for is declared

none_asked : (σ : Signature) (key : Key) → Contains [] key → IsDeclared σ key
none_asked σ key c = absurd (omega (arith, c.1))

pub asked_declared : (σ callable : Signature) (n : ℕ) (f : Form) → FormOver σ callable n f → (key : Key) → Contains (asked_keys f) key → IsDeclared callable key
asked_declared σ callable n always over key c = none_asked callable key c
asked_declared σ callable n never over key c = none_asked callable key c
asked_declared σ callable n (equal t s) over key c = none_asked callable key c
asked_declared σ callable n (differ t s) over key c = none_asked callable key c
asked_declared σ callable n (finite t) over key c = none_asked callable key c
asked_declared σ callable n (call p ts) over key c = elim (contains_cases (Call p) key [] c) [
  | inl e ↦ subst (IsDeclared callable) e (length ts, over.0)
  | inr none ↦ none_asked callable key none
]
asked_declared σ callable n (win p k t) over key c = elim (contains_cases (Win p k) key [] c) [
  | inl e ↦ subst (IsDeclared callable) e over.0
  | inr none ↦ none_asked callable key none
]
asked_declared σ callable n (no f) over key c = asked_declared σ callable n f over key c
asked_declared σ callable n (and f g) over key c = elim (Contains-append_cases (asked_keys f) (asked_keys g) key c) [
  | inl d ↦ asked_declared σ callable n f over.0 key d
  | inr d ↦ asked_declared σ callable n g over.1 key d
]
asked_declared σ callable n (or f g) over key c = elim (Contains-append_cases (asked_keys f) (asked_keys g) key c) [
  | inl d ↦ asked_declared σ callable n f over.0 key d
  | inr d ↦ asked_declared σ callable n g over.1 key d
]
asked_declared σ callable n (imp f g) over key c = elim (Contains-append_cases (asked_keys f) (asked_keys g) key c) [
  | inl d ↦ asked_declared σ callable n f over.0 key d
  | inr d ↦ asked_declared σ callable n g over.1 key d
]
asked_declared σ callable n (iff f g) over key c = elim (Contains-append_cases (asked_keys f) (asked_keys g) key c) [
  | inl d ↦ asked_declared σ callable n f over.0 key d
  | inr d ↦ asked_declared σ callable n g over.1 key d
]
asked_declared σ callable n (exists x f) over key c = asked_declared σ callable n f over.1 key c
asked_declared σ callable n (forall x f) over key c = asked_declared σ callable n f over.1 key c

-- what a declared key needs is declared
needs_declared : (σ : Signature) (asked key : Key) → NeedsKey asked key → IsDeclared σ asked → IsDeclared σ key
needs_declared σ (Call p) (Call q) needs (n, is) = (n, ap (declared_at σ) (sym needs) ∙ is)
needs_declared σ (Call p) (Win q j) needs d = absurd needs
needs_declared σ (Win p k) (Call q) needs is = (2, ap (declared_at σ) (sym needs.0) ∙ is)
needs_declared σ (Win p k) (Win q j) needs is = ap (declared_at σ) (sym needs.0) ∙ is

needs_place : (asked key : Key) → NeedsKey asked key → place_of asked ≡ place_of key
needs_place (Call p) (Call q) needs = needs
needs_place (Call p) (Win q j) needs = absurd needs
needs_place (Win p k) (Call q) needs = needs.0
needs_place (Win p k) (Win q j) needs = needs.0

-- ---- the marks, from the last predicate to the first

-- the bodies of the predicates from place i on have been gone through
pub record IsMarkedFrom (file : File) (f : Form) (i : ℕ) (marks : List Mark) : Type 0 where
  pub size : length marks ≡ length file.signature
  pub asked : (key : Key) → Contains (asked_keys f) key → IsMarked marks key
  pub bodies : (j : ℕ) (pred : Pred) → i ≤ j → slice_get file.preds j ≡ Some pred → IsMarked marks (Call pred.place)
      → (key : Key) → Contains (asked_keys (form_of pred.body)) key → IsMarked marks key
  pub declared : (key : Key) → IsMarked marks key → IsDeclared file.signature key

-- the table is right, and the marked entries of the predicates before place i stand in it
pub record IsFilledTo (gives : ℕ → Norm → List Cube → Type 0) (file : File) (marks : List Mark) (i : ℕ) (table : List (Key × List Cube)) : Type 0 where
  pub right : AreRight gives file table
  pub has : (j : ℕ) (pred : Pred) → j < i → slice_get file.preds j ≡ Some pred → (key : Key) → place_of key ≡ pred.place → IsMarked marks key → HasKey table key

module _ (file : File) (f : Form) (formed : IsWellFormed file) (over : IsOverFile file f) where
  pub first_marks : (marks : List Mark) → Adds (no_marks (length file.signature)) marks (asked_keys f) → IsMarkedFrom file f (length file.preds) marks
  first_marks marks adds = record {
    size = adds.size ∙ start;
    asked = λ key c. adds.marked key c (omega (arith, key_within file.signature key (own key c), start));
    bodies = λ j pred past got. absurd (omega (arith, past, slice_get_within file.preds j pred got));
    declared = λ key m. elim (adds.only key m) [
      | inl h ↦ absurd (nothing_marked (length file.signature) key h)
      | inr (asked, c, needs) ↦ needs_declared file.signature asked key needs (own asked c)
    ];
  }
    where
      own : (key : Key) → Contains (asked_keys f) key → IsDeclared file.signature key
      own key c = asked_declared file.signature file.signature over.0 f over.1 key c

      start : length (no_marks (length file.signature)) ≡ length file.signature
      start = length-replicate (length file.signature) (record { called = false; moves = None })

  pub body_marks : (i : ℕ) (pred : Pred) (old new : List Mark) → slice_get file.preds i ≡ Some pred → IsMarkedFrom file f (i + 1) old
      → Adds old new (asked_keys (form_of pred.body)) → IsMarkedFrom file f i new
  body_marks i pred old new got from adds = record {
    size = adds.size ∙ from.size;
    asked = λ key c. adds.kept key (from.asked key c);
    bodies = bodies;
    declared = λ key m. elim (adds.only key m) [
      | inl h ↦ from.declared key h
      | inr (asked, c, needs) ↦ needs_declared file.signature asked key needs (own asked c)
    ];
  }
    where
      own : (key : Key) → Contains (asked_keys (form_of pred.body)) key → IsDeclared file.signature key
      own key c = asked_declared file.signature file.signature (length pred.names) (form_of pred.body) (body_over (λ n x cs. Unit {0}) file formed pred (got_stands file.preds i pred got)) key c

      before : (key : Key) → Contains (asked_keys (form_of pred.body)) key → place_of key < pred.place
      before key c =
          key_before file.signature pred.place key
          (asked_declared file.signature (take pred.place file.signature) (length pred.names) (form_of pred.body) (pred_over file formed i pred got).body.formula key c)

      -- the marks of later predicates stay
      later_stays : (j : ℕ) (it : Pred) → i < j → slice_get file.preds j ≡ Some it → IsMarked new (Call it.place) → IsMarked old (Call it.place)
      later_stays j it less at_j m = elim (adds.only (Call it.place) m) [
        | inl h ↦ h
        | inr (asked, c, needs) ↦
            let place = needs_place asked (Call it.place) needs in
            let low = before asked c in
            let up = places_ascend file formed i j pred it got at_j less in
            absurd (omega (arith, place, low, up))
      ]

      first_or_later : (j : ℕ) → i ≤ j → (i ≡ j) ⊎ (i < j)
      first_or_later j le = grind arith

      bodies : (j : ℕ) (it : Pred) → i ≤ j → slice_get file.preds j ≡ Some it → IsMarked new (Call it.place)
          → (key : Key) → Contains (asked_keys (form_of it.body)) key → IsMarked new key
      bodies j it le at_j m key c = by (first_or_later j le)
        where
          by : (i ≡ j) ⊎ (i < j) → IsMarked new key
          by (inl same) =
              let one : pred ≡ it = some_is pred it (sym got ∙ ap (slice_get file.preds) same ∙ at_j) in
              let here : Contains (asked_keys (form_of pred.body)) key = subst (λ (p : Pred). Contains (asked_keys (form_of p.body)) key) (sym one) c in
              adds.marked key here (omega (arith, key_within file.signature key (own key here), from.size))
          by (inr less) = adds.kept key (from.bodies j it (omega (arith, less)) at_j (later_stays j it less at_j m) key c)

  pub body_passed : (i : ℕ) (pred : Pred) (marks : List Mark) (mark : Mark) → slice_get file.preds i ≡ Some pred → slice_get marks pred.place ≡ Some mark → is_called mark ≡ false
      → IsMarkedFrom file f (i + 1) marks → IsMarkedFrom file f i marks
  body_passed i pred marks mark got at_place free from = record {
    size = from.size;
    asked = from.asked;
    bodies = bodies;
    declared = from.declared;
  }
    where
      first_or_later : (j : ℕ) → i ≤ j → (i ≡ j) ⊎ (i < j)
      first_or_later j le = grind arith

      bodies : (j : ℕ) (it : Pred) → i ≤ j → slice_get file.preds j ≡ Some it → IsMarked marks (Call it.place)
          → (key : Key) → Contains (asked_keys (form_of it.body)) key → IsMarked marks key
      bodies j it le at_j (m, is, covers) key c = by (first_or_later j le)
        where
          by : (i ≡ j) ⊎ (i < j) → IsMarked marks key
          by (inl same) =
              let one : pred ≡ it = some_is pred it (sym got ∙ ap (slice_get file.preds) same ∙ at_j) in
              let two : mark ≡ m = some_is mark m (sym at_place ∙ ap (λ (p : Pred). slice_get marks p.place) one ∙ is) in
              absurd (false≢true (sym free ∙ ap is_called two ∙ covers))
          by (inr less) = from.bodies j it (omega (arith, less)) at_j (m, is, covers) key c

  pub all_marked : (marks : List Mark) → IsMarkedFrom file f 0 marks → AreNeeded file f marks
  all_marked marks from = record {
    size = from.size;
    asked = from.asked;
    bodies = λ pred stands m key c. from.bodies stands.0 pred (omega arith) (at stands) m key c;
    declared = from.declared;
  }
    where
      at : {pred : Pred} (stands : Contains file.preds pred) → slice_get file.preds stands.0 ≡ Some pred
      at {pred} (i, less, is) = slice_get_read file.preds (length file.preds) i pred refl less (sym is)

  -- ---- the entries, from the first predicate to the last

  module _ (gives : ℕ → Norm → List Cube → Type 0) (marks : List Mark) (needed : AreNeeded file f marks) where
    -- each marked key is one of a predicate
    marked_pred : (key : Key) → IsMarked marks key → (j : ℕ) × (pred : Pred) × (slice_get file.preds j ≡ Some pred) × (place_of key ≡ pred.place)
    marked_pred (Call p) m = let d = needed.declared (Call p) m in let s = stands_as file formed p d.0 d.1 in (s.index, s.pred, s.stands, sym s.place_is)
    marked_pred (Win p k) m = let d = needed.declared (Win p k) m in let s = stands_as file formed p 2 d in (s.index, s.pred, s.stands, sym s.place_is)

    pub two_params : (i : ℕ) (pred : Pred) (mark : Mark) → slice_get file.preds i ≡ Some pred → slice_get marks pred.place ≡ Some mark
        → (k : ℕ) → Covers mark (Win pred.place k) → pred.params ≡ 2
    two_params i pred mark got at_place k covers = by (is_declared file formed i pred got) (needed.declared (Win pred.place k) (mark, at_place, covers))
      where
        by : declared_at file.signature pred.place ≡ Some (kind.Pred, pred.params) → declared_at file.signature pred.place ≡ Some (kind.Pred, 2) → pred.params ≡ 2
        by one two = ap (λ d. d.1) (some_is (kind.Pred, pred.params) (kind.Pred, 2) (sym one ∙ two))

    pub body_has : (i : ℕ) (pred : Pred) (mark : Mark) (table : List (Key × List Cube)) → slice_get file.preds i ≡ Some pred → slice_get marks pred.place ≡ Some mark
        → IsFilledTo gives file marks i table → Covers mark (Call pred.place) → HasEntries table (plain_of (form_of pred.body))
    body_has i pred mark table got at_place filled covers =
        let stands = got_stands file.preds i pred got in
        has_entries gives file formed table filled.right (length pred.names) (form_of pred.body) (body_over gives file formed pred stands) each
      where
        each : (key : Key) → Contains (asked_keys (form_of pred.body)) key → HasKey table key
        each key c =
            let stands = got_stands file.preds i pred got in
            let m = needed.bodies pred stands (mark, at_place, covers) key c in
            let (j, it, at_j, place) = marked_pred key m in
            let low = key_before file.signature pred.place key
            (asked_declared file.signature (take pred.place file.signature) (length pred.names) (form_of pred.body) (pred_over file formed i pred got).body.formula key c) in
            let less : j < i = stands_before file formed j i it pred at_j got (omega (arith, low, place)) in
            filled.has j it less at_j key place m

    pub filled_more : (i : ℕ) (pred : Pred) (mark : Mark) (old new : List (Key × List Cube)) → slice_get file.preds i ≡ Some pred → slice_get marks pred.place ≡ Some mark
        → IsFilledTo gives file marks i old → AreRight gives file new → IsGrown old new → ((key : Key) → place_of key ≡ pred.place → Covers mark key → HasKey new key) → IsFilledTo gives file marks (i + 1) new
    filled_more i pred mark old new got at_place filled right grown own = record { right = right; has = has }
      where
        before_or_here : (j : ℕ) → j < i + 1 → (j < i) ⊎ (i ≡ j)
        before_or_here j less = grind arith

        has : (j : ℕ) (it : Pred) → j < i + 1 → slice_get file.preds j ≡ Some it → (key : Key) → place_of key ≡ it.place → IsMarked marks key → HasKey new key
        has j it less at_j key place (m, is, covers) = by (before_or_here j less)
          where
            by : (j < i) ⊎ (i ≡ j) → HasKey new key
            by (inl before) = still_has old new key grown (filled.has j it before at_j key place (m, is, covers))
            by (inr same) =
                let one : pred ≡ it = some_is pred it (sym got ∙ ap (slice_get file.preds) same ∙ at_j) in
                let here : place_of key ≡ pred.place = place ∙ ap (λ (p : Pred). p.place) (sym one) in
                let two : mark ≡ m = some_is mark m (sym at_place ∙ ap (slice_get marks) (sym here) ∙ is) in
                own key here (subst (λ (m : Mark). Covers m key) (sym two) covers)

    pub form_has : (table : List (Key × List Cube)) → IsFilledTo gives file marks (length file.preds) table → HasEntries table (plain_of f)
    form_has table filled = has_entries gives file formed table filled.right over.0 f over.1 each
      where
        each : (key : Key) → Contains (asked_keys f) key → HasKey table key
        each key c =
            let m = needed.asked key c in
            let (j, it, at_j, place) = marked_pred key m in
            filled.has j it (slice_get_within file.preds j it at_j) at_j key place m
