-- Files that were added by their names.
use Rattle.std.specs.Prelude.{ℕ, List, Some, if◌then◌else◌}
use Rattle.std.specs.BTreeMap.{get_by_text}
use Rattle.std.specs.Option.{option_map}
use Rattle.std.specs.Str.{bytes_eq}
use Rattle.pi_outside.specs.Held.{Holding}
use Rattle.pi_outside.specs.declared.named.Named.{Named}

-- the files that were added
abbrev pub added_files : Named → Holding
added_files named = λ name. option_map (λ v. v.items) (get_by_text named.files name)

-- the files after one was added, in the place of any that had its name
abbrev pub with_file : Holding → List ℕ → List ℕ → Holding
with_file files name bytes = λ other. if bytes_eq name other then Some bytes else files other
