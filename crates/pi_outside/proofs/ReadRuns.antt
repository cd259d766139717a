-- A run of reads, and what holds of it.
use Rattle.std.proofs.Common.{List, [], ◌∷◌, ◌++◌, refl}
use Rattle.pi_outside.specs.Reads.{FileRead, ByReads}
use Rattle.pi_outside.proofs.Went.{Went-then}

-- where no read was made
pub ByReads-none : {S : Type 0} (has_read : S → FileRead → S → Type 0) (files : S) (P : List FileRead → Type 0) → P [] → ByReads has_read files files P
ByReads-none has_read files P holds = record { reads = []; went = refl; holds = holds }

-- the same run of reads, of which something else holds
pub ByReads-so : {S : Type 0} {has_read : S → FileRead → S → Type 0} {before after : S} {P Q : List FileRead → Type 0} →
    ByReads has_read before after P → ((reads : List FileRead) → P reads → Q reads) → ByReads has_read before after Q
ByReads-so by so = record { reads = by.reads; went = by.went; holds = so by.reads by.holds }

-- one read more
pub ByReads-more : {S : Type 0} {has_read : S → FileRead → S → Type 0} {before between after : S} {P Q : List FileRead → Type 0} (read : FileRead) →
    ByReads has_read before between P → has_read between read after → ((reads : List FileRead) → P reads → Q (reads ++ read ∷ [])) → ByReads has_read before after Q
ByReads-more {has_read = has_read} {before = before} {between = between} {after = after} read by did so = record {
  reads = by.reads ++ read ∷ [];
  went = Went-then has_read before between after by.reads (read ∷ []) by.went (after, did, refl);
  holds = so by.reads by.holds;
}
