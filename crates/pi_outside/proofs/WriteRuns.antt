-- A run of writes, and what holds of it.
use Rattle.std.proofs.Common.{◌≡◌, ℕ, List, [], ◌∷◌, ◌++◌, take, Option, refl, sym, ◌∙◌, ap, append_assoc}
use Rattle.std.specs.Prelude.{unwrap_or}
use Rattle.std.proofs.lemmas.List.{append-nil}
use Rattle.pi_outside.specs.Taken.{Takes}
use Rattle.pi_outside.specs.Writes.{SinkWrite, taken_by, ByWrites}
use Rattle.pi_outside.proofs.Taken.{Takes-none, Takes-then}
use Rattle.pi_outside.proofs.Went.{Went-then}

pub taken_by-append : (first second : List SinkWrite) → taken_by (first ++ second) ≡ taken_by first ++ taken_by second
taken_by-append [] second = refl
taken_by-append (write ∷ writes) second =
    let bytes : List ℕ = take (unwrap_or write.took 0) write.piece in
    ap (λ l. bytes ++ l) (taken_by-append writes second) ∙ sym (append_assoc bytes (taken_by writes) (taken_by second))

-- where no write was made
pub ByWrites-none : {S : Type 0} (wrote : S → SinkWrite → S → Type 0) (taken : S → Option (List ℕ)) (sink : S) (P : List SinkWrite → Type 0) → P [] → ByWrites wrote taken sink sink P
ByWrites-none wrote taken sink P holds = record { writes = []; went = refl; takes = Takes-none (taken sink); holds = holds }

-- one write
pub ByWrites-one : {S : Type 0} (wrote : S → SinkWrite → S → Type 0) (taken : S → Option (List ℕ)) (before after : S) (P : List SinkWrite → Type 0) (write : SinkWrite) →
    wrote before write after → Takes (taken before) (take (unwrap_or write.took 0) write.piece) (taken after) → P (write ∷ []) → ByWrites wrote taken before after P
ByWrites-one wrote taken before after P write did takes holds = record {
  writes = write ∷ [];
  went = (after, did, refl);
  takes = rw append-nil takes;
  holds = holds;
}

-- the same run of writes, of which something else holds
pub ByWrites-so : {S : Type 0} {wrote : S → SinkWrite → S → Type 0} {taken : S → Option (List ℕ)} {before after : S} {P Q : List SinkWrite → Type 0} →
    ByWrites wrote taken before after P → ((writes : List SinkWrite) → P writes → Q writes) → ByWrites wrote taken before after Q
ByWrites-so by so = record { writes = by.writes; went = by.went; takes = by.takes; holds = so by.writes by.holds }

-- one run of writes, and then another
pub ByWrites-then : {S : Type 0} {wrote : S → SinkWrite → S → Type 0} {taken : S → Option (List ℕ)} {before between after : S} {P Q R : List SinkWrite → Type 0} →
    ByWrites wrote taken before between P → ByWrites wrote taken between after Q → ((first second : List SinkWrite) → P first → Q second → R (first ++ second)) →
    ByWrites wrote taken before after R
ByWrites-then {wrote = wrote} {before = before} {between = between} {after = after} first second so = record {
  writes = first.writes ++ second.writes;
  went = Went-then wrote before between after first.writes second.writes first.went second.went;
  takes = rw (taken_by-append first.writes second.writes) (Takes-then first.takes second.takes);
  holds = so first.writes second.writes first.holds second.holds;
}
