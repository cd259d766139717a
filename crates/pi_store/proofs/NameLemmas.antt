-- Names of a store: what a call changes of them, and what it keeps.
use Rattle.std.proofs.Common.{◌≡◌, ℕ, ◌≤◌, true, List, length, Some, None, cond, slice_get, refl, ap, ◌∙◌}
use Rattle.std.proofs.Math.Path.{fun_ext}
use Rattle.pi_region.specs.Image.{Image}
use Rattle.pi_store_blocks.specs.Heap.{Heap, Names}
use Rattle.pi_store_blocks.specs.Past as past
use Rattle.pi_store_blocks.specs.NameTable.{NameTable, is_given, names_of}
use Rattle.pi_store_blocks.proofs.NameTables.{names_stay, given_by}
use Rattle.pi_store.specs.Holding.{heap_of}
use Rattle.pi_store.specs.Changed.{KeepsNames}

pub stay : (t : NameTable) → past.NamesStay (names_of t)
stay t m n k name le e = names_stay t m n k name le e

-- a name that terms have is the text of its number
pub text_of : (t : NameTable) (n k : ℕ) (name : List ℕ) → names_of t n k ≡ Some name → slice_get t.texts k ≡ Some name
text_of t n k name e = (given_by (is_given t n k) (slice_get t.texts k) name e).1

pub given_text : (t : NameTable) (n k : ℕ) (name : List ℕ) → is_given t n k ≡ true → slice_get t.texts k ≡ Some name → names_of t n k ≡ Some name
given_text t n k name given text = ap (λ b. cond b (slice_get t.texts k) None) given ∙ text

pub keeps_itself : (t : NameTable) (len : ℕ) → KeepsNames t t len
keeps_itself t len = record { texts = λ k name e. e; same = λ n k le. refl }

-- What terms are read from stays

pub heap_kept : (t u : NameTable) (i : Image) (len : ℕ) → KeepsNames t u len → length i.region ≤ len → heap_of u i ≡ heap_of t i
heap_kept t u i len keeps le =
    let F : Names → Heap = λ ns. record { names = ns; next = length i.variables; words = i.region } in
    ap F (fun_ext (λ k. keeps.same (length i.region) k le))

-- A name that gets a number

pub given_of : (t : NameTable) (n k : ℕ) (name : List ℕ) → names_of t n k ≡ Some name → is_given t n k ≡ true
given_of t n k name e = (given_by (is_given t n k) (slice_get t.texts k) name e).0
