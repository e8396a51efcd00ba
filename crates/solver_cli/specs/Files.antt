-- What was read of a file.
use Rattle.std.specs.Prelude.{ℕ, List, take, Option, Result}
use Rattle.io_edge.specs.declared.failed.Failed.{Failed}
use Rattle.io_edge.specs.Edge.{IsFile}
use Rattle.solver_cli.specs.Reading.{Opens, ReadsAll}

-- these are the bytes of the file with this name, where the source tells its files of the first with it; it was
-- opened and read to its end, or until one byte more was taken than a file may have
pub record IsReadFile {S : Type 0} (opens : S → List ℕ → Result (Unit {0}) Failed → S → Type 0) (reads : S → ℕ → Result ℕ Failed → List ℕ → S → Type 0) (left : S → Option (List ℕ)) (files : S → Option (List (List ℕ × List ℕ))) (name : List ℕ) (old : S) (bytes : List ℕ) (new : S) : Type 0 where
  pub is_file : IsFile (files old) name bytes
  pub calls : Opens opens name old (λ opened. ReadsAll reads left 1048577 opened (take 1048577 bytes) new)

-- the same, and P holds of the bytes
abbrev pub OfNamed : {S : Type 0} → (S → List ℕ → Result (Unit {0}) Failed → S → Type 0) → (S → ℕ → Result ℕ Failed → List ℕ → S → Type 0) → (S → Option (List ℕ)) → (S → Option (List (List ℕ × List ℕ))) → List ℕ → S → S → (List ℕ → Type 0) → Type 0
OfNamed opens reads left files name old new P = (bytes : List ℕ) × IsReadFile opens reads left files name old bytes new × P bytes
