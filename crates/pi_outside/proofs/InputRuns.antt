-- A run of reads of a source, and what holds of it.
use Rattle.std.proofs.Common.{◌≡◌, ℕ, List, [], ◌∷◌, ◌++◌, Option, refl, sym, ◌∙◌, ap, append_assoc}
use Rattle.std.specs.Prelude.{unwrap_or}
use Rattle.std.proofs.lemmas.List.{append-nil}
use Rattle.pi_outside.specs.Given.{Gives}
use Rattle.pi_outside.specs.Inputs.{SourceRead, given_in, ByInput}
use Rattle.pi_outside.proofs.Given.{Gives-none, Gives-then}
use Rattle.pi_outside.proofs.Went.{Went-then}

pub given_in-append : (first second : List SourceRead) → given_in (first ++ second) ≡ given_in first ++ given_in second
given_in-append [] second = refl
given_in-append (read ∷ reads) second =
    let bytes : List ℕ = unwrap_or read.gave [] in
    ap (λ l. bytes ++ l) (given_in-append reads second) ∙ sym (append_assoc bytes (given_in reads) (given_in second))

-- where no read was made
pub ByInput-none : {S : Type 0} (has_read : S → SourceRead → S → Type 0) (rest : S → Option (List ℕ)) (source : S) (P : List SourceRead → Type 0) → P [] → ByInput has_read rest source source P
ByInput-none has_read rest source P holds = record { reads = []; went = refl; gives = Gives-none (rest source); holds = holds }

-- one read
pub ByInput-one : {S : Type 0} (has_read : S → SourceRead → S → Type 0) (rest : S → Option (List ℕ)) (before after : S) (P : List SourceRead → Type 0) (read : SourceRead) →
    has_read before read after → Gives (rest before) (unwrap_or read.gave []) (rest after) → P (read ∷ []) → ByInput has_read rest before after P
ByInput-one has_read rest before after P read did gives holds = record {
  reads = read ∷ [];
  went = (after, did, refl);
  gives = rw append-nil gives;
  holds = holds;
}

-- the same run of reads, of which something else holds
pub ByInput-so : {S : Type 0} {has_read : S → SourceRead → S → Type 0} {rest : S → Option (List ℕ)} {before after : S} {P Q : List SourceRead → Type 0} →
    ByInput has_read rest before after P → ((reads : List SourceRead) → P reads → Q reads) → ByInput has_read rest before after Q
ByInput-so by so = record { reads = by.reads; went = by.went; gives = by.gives; holds = so by.reads by.holds }

-- one run of reads, and then another
pub ByInput-then : {S : Type 0} {has_read : S → SourceRead → S → Type 0} {rest : S → Option (List ℕ)} {before between after : S} {P Q R : List SourceRead → Type 0} →
    ByInput has_read rest before between P → ByInput has_read rest between after Q → ((first second : List SourceRead) → P first → Q second → R (first ++ second)) →
    ByInput has_read rest before after R
ByInput-then {has_read = has_read} {before = before} {between = between} {after = after} first second so = record {
  reads = first.reads ++ second.reads;
  went = Went-then has_read before between after first.reads second.reads first.went second.went;
  gives = rw (given_in-append first.reads second.reads) (Gives-then first.gives second.gives);
  holds = so first.reads second.reads first.holds second.holds;
}
