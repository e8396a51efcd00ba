-- The contents read off the fields, and how a change is taken back.
use Rattle.std.specs.Prelude.{Option, Some, None, cond, nat_eq, ℕ, zero, suc, ◌+◌, ◌-◌, drop, true, false, List, [], ◌∷◌, ◌++◌, length, map, take, slice_index, slice_index_or, slice_set}
use Rattle.std.specs.List.{position_or_len}
use Rattle.term_graph.specs.declared.bound.Bound.{Bound}
use Rattle.term_graph.specs.declared.bound.Bound.TheVariants.{Free}
use Rattle.term_graph.specs.declared.term.Term.{Term as Made}
use Rattle.term_graph.specs.declared.parts.Slot.{Slot}
use Rattle.term_graph.specs.declared.parts.Cell.{Cell}
use Rattle.term_graph.specs.declared.parts.Mention.{Mention}
use Rattle.term_graph.specs.declared.parts.Parts.{Parts}
use Rattle.term_graph.specs.declared.change.Change.{Change}
use Rattle.term_graph.specs.declared.change.Change.TheVariants.{Added, Interned, Termed, Joined, Marked}
use Rattle.term_graph.specs.declared.key.Key.{Key}
use Rattle.term_graph.specs.declared.key.Lowered.{Lowered}
use Rattle.term_graph.specs.declared.class.Class.{Class}
use Rattle.term_graph.specs.Classes.{alone, weighed, lightened}
use Rattle.term_graph.specs.Contents.{Contents, Step, Moment, History, root, each, term_at}
use Rattle.term_graph.specs.Contents.Step.{Grew, Interns, MarkedAt, BoundAt}
use Rattle.term_graph.specs.Lowering.{restored}
use Rattle.index_lists.specs.Rings.{exchanged, without_last, with_cell}

pub record Fields : Type 0 where
  pub slots : List Slot
  pub classes : List Class
  pub terms : List Made
  pub cells : List Cell
  pub next : List ℕ
  pub entries : List (Key × ℕ)
  pub lowered : List Lowered

abbrev pub fields : Parts → Fields
fields p = record { slots = p.slots.items; classes = p.classes.items; terms = p.terms.items; cells = p.cells.items; next = p.rings; entries = p.table.entries; lowered = p.lowered.items }

abbrev pub free : ℕ → Slot
free cell = record { binding = Free; finite = false; cell = cell }

-- the own cell of a variable
abbrev pub own : ℕ → Cell
own v = record { variable = v; mention = None }

abbrev pub slot_at : List Slot → ℕ → Slot
slot_at slots v = slice_index_or slots v (free 0)

abbrev pub bindings_of : List Slot → List Bound
bindings_of slots = map (λ s. s.binding) slots

abbrev pub heads_of : List Slot → List ℕ
heads_of slots = map (λ s. s.cell) slots

abbrev pub owners_of : List Cell → List ℕ
owners_of cells = map (λ c. c.variable) cells

abbrev pub mentions_of : List Cell → List (Option Mention)
mentions_of cells = map (λ c. c.mention) cells

-- the cells from c up to the stop, n at most
abbrev pub behind : ℕ → List ℕ → ℕ → ℕ → List ℕ
behind zero next stop c = []
behind (suc n) next stop c = cond (nat_eq c stop) [] (c ∷ behind n next stop (slice_index next c))

-- the cells behind c in its ring
abbrev pub round_of : List ℕ → ℕ → List ℕ
round_of next c = behind (length next) next c (slice_index next c)

abbrev pub noted : Option Mention → List ℕ → List ℕ
noted None ts = ts
noted (Some m) ts = m.term ∷ ts

-- the terms of the mentions among these cells
abbrev pub used : List (Option Mention) → List ℕ → List ℕ
used mentions [] = []
used mentions (c ∷ cs) = noted (slice_index_or mentions c None) (used mentions cs)

-- the first place of an argument with this root
abbrev pub first_of : List Bound → List Made → ℕ → ℕ → ℕ
first_of bindings terms r t = position_or_len (λ x. nat_eq (root bindings x) r) (term_at terms t).args

-- the term of a mention, where it is the first of an argument with this root
abbrev pub chosen : List Bound → List Made → ℕ → Option Mention → List ℕ
chosen bindings terms r None = []
chosen bindings terms r (Some m) = cond (nat_eq m.place (first_of bindings terms r m.term)) (m.term ∷ []) []

abbrev pub uses_in : List Bound → List ℕ → List (Option Mention) → List ℕ → ℕ → List ℕ
uses_in bindings heads mentions next u = used mentions (round_of next (slice_index heads (root bindings u)))

-- the uses of each variable, read off the rings
unfoldable pub uses_seen : List Slot → List Cell → List ℕ → List (List ℕ)
uses_seen slots cells next = each (length slots) (uses_in (bindings_of slots) (heads_of slots) (mentions_of cells) next)

abbrev pub seen : Fields → Contents
seen f = record { bindings = map (λ s. s.binding) f.slots; marks = map (λ s. s.finite) f.slots; terms = f.terms; uses = uses_seen f.slots f.cells f.next }

-- the slot with another binding, or with a mark or none
abbrev pub bound_to : Bound → Slot → Slot
bound_to b s = record { binding = b; finite = s.finite; cell = s.cell }

abbrev pub with_finite : Slot → Slot
with_finite s = record { binding = s.binding; finite = true; cell = s.cell }

abbrev pub without_finite : Slot → Slot
without_finite s = record { binding = s.binding; finite = false; cell = s.cell }

abbrev pub rebound : ℕ → Bound → List Slot → List Slot
rebound v b slots = slice_set slots v (bound_to b (slot_at slots v))

-- without the last cells, n of them
abbrev pub cut_off : ℕ → List ℕ → List ℕ
cut_off zero next = next
cut_off (suc n) next = cut_off n (without_last next)

-- the table as it was with so many keys, when so many were lowered
abbrev pub put_back : ℕ → ℕ → List (Key × ℕ) → List Lowered → List (Key × ℕ)
put_back keys count entries lowered = restored (drop count lowered) (take keys entries)

-- the arguments of the last term, and how many it has
abbrev pub last_args : List Made → List ℕ
last_args terms = (term_at terms (length terms - 1)).args

abbrev pub last_count : List Made → ℕ
last_count terms = length (last_args terms)

-- a change taken back
abbrev pub undone : Change → Fields → Fields
undone Added f = record { slots = take (length f.slots - 1) f.slots; classes = take (length f.classes - 1) f.classes; terms = f.terms; cells = take (length f.cells - 1) f.cells; next = without_last f.next; entries = f.entries; lowered = f.lowered }
undone Interned f = record {
  slots = f.slots;
  classes = lightened (last_args f.terms) f.classes;
  terms = take (length f.terms - 1) f.terms;
  cells = take (length f.cells - last_count f.terms) f.cells;
  next = cut_off (last_count f.terms) f.next;
  entries = take (length f.entries - 1) f.entries;
  lowered = f.lowered;
}
undone (Termed v) f = record { slots = rebound v Free f.slots; classes = f.classes; terms = f.terms; cells = f.cells; next = f.next; entries = f.entries; lowered = f.lowered }
undone (Joined j) f = record {
  slots = rebound j.variable j.before f.slots;
  classes = slice_set f.classes j.root j.root_class;
  terms = f.terms;
  cells = f.cells;
  next = exchanged j.cut.a j.cut.b f.next;
  entries = put_back j.keys j.lowered f.entries f.lowered;
  lowered = take j.lowered f.lowered;
}
undone (Marked v) f = record { slots = slice_set f.slots v (without_finite (slot_at f.slots v)); classes = f.classes; terms = f.terms; cells = f.cells; next = f.next; entries = f.entries; lowered = f.lowered }

abbrev pub step_of : Change → Step
step_of Added = Grew
step_of Interned = Interns
step_of (Termed v) = BoundAt v
step_of (Joined j) = BoundAt j.variable
step_of (Marked v) = MarkedAt v

-- the moments of changes, of which the last stands first
abbrev pub moments : List Change → Fields → List Moment
moments [] f = []
moments (c ∷ cs) f = moments cs (undone c f) ++ record { step = step_of c; before = seen (undone c f) } ∷ []

abbrev pub history : List Change → Fields → History
history changes f = record { contents = seen f; trail = moments changes f }

-- one variable more, free, alone in its ring
abbrev pub added : Fields → Fields
added f = record {
  slots = f.slots ++ free (length f.cells) ∷ [];
  classes = f.classes ++ alone (length f.slots) ∷ [];
  terms = f.terms;
  cells = f.cells ++ own (length f.slots) ∷ [];
  next = f.next ++ length f.next ∷ [];
  entries = f.entries;
  lowered = f.lowered;
}

abbrev pub with_slots : List Slot → Fields → Fields
with_slots slots f = record { slots = slots; classes = f.classes; terms = f.terms; cells = f.cells; next = f.next; entries = f.entries; lowered = f.lowered }

-- the cells of the mentions of these arguments, from place i on
abbrev pub mentions : ℕ → ℕ → List ℕ → List Cell
mentions t i [] = []
mentions t i (a ∷ as') = record { variable = a; mention = Some (record { term = t; place = i }) } ∷ mentions t (i + 1) as'

-- a cell more for each argument, behind the own cell of its variable
abbrev pub mention_next : List ℕ → List ℕ → List ℕ → List ℕ
mention_next heads [] next = next
mention_next heads (a ∷ as') next = mention_next heads as' (with_cell (slice_index heads a) next)

-- one term more, with its mentions and its key
abbrev pub made : Made → Key → Fields → Fields
made term key f = record {
  slots = f.slots;
  classes = weighed term.args f.classes;
  terms = f.terms ++ term ∷ [];
  cells = f.cells ++ mentions (length f.terms) 0 term.args;
  next = mention_next (heads_of f.slots) term.args f.next;
  entries = f.entries ++ (key, length f.terms) ∷ [];
  lowered = f.lowered;
}
