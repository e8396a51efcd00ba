-- How a signature is kept: as a map from each name to its kind and arity.
use Rattle.std.specs.Prelude.{ℕ, List, String, map, string_bytes}
use Rattle.std.specs.declared.alloc.Global.{Global}
use Rattle.tree_model.specs.declared.kind.Kind.{Kind}
use Rattle.tree_model.specs.Signatures.{Signature, Entry}

-- the entry that a pair of the map stands for
abbrev pub entry_of : String Global × (Kind × ℕ) → Entry
entry_of pair = record { name = string_bytes pair.0; kind = pair.1.0; arity = pair.1.1 }

-- the signature that the map's pairs stand for, in their order
abbrev pub signature_of : List (String Global × (Kind × ℕ)) → Signature
signature_of pairs = map entry_of pairs
