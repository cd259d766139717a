-- What a reader has found so far, while it looks for a line.
use Rattle.std.proofs.Common.{◌≡◌, ◌<◌, ◌≤◌, ℕ, zero, suc, true, false, List, [], ◌∷◌, ◌++◌, ◌+◌, ◌-◌, Bool, length, take, None, Some, refl, sym, ◌∙◌, ap, subst, arith}
use Rattle.std.specs.Prelude.{nat_lt, if◌then◌else◌}
use Rattle.std.specs.Option.{option_map}
use Rattle.std.proofs.lemmas.Bool.Decides.{nat_tests}
use Rattle.std.proofs.lemmas.List.{append-nil}
use Rattle.pi_outside.specs.Inputs.{SourceRead}
use Rattle.pi_outside.proofs.Memory.{take-keeps}
use Rattle.pi_outside.specs.Lines.{first_line}
use Rattle.pi_outside.specs.Ahead.{Ahead, with_piece, reads_left, WantsMore}
use Rattle.pi_outside.specs.Finding.{read_of, ReadsOn, nothing, piece, FindsLine, MeetsEnd, PassesLimit, FailsReading, StopsReading, OfLine}
use Rattle.pi_outside.specs.Steps.{MovesLine, MovesAll, ReadsPiece, ReadsEnd, ReadsNothing, ReadFails}
use Rattle.pi_outside.proofs.LineLemmas.{behind, first_line-behind}

-- the front of a line went to what is kept of it, and the reader stands behind that
pub record SoFar (longest : ℕ) (start now : Ahead) (kept : List ℕ) (reads : List SourceRead) : Type 0 where
  pub front : List ℕ
  pub no_line : first_line front ≡ None
  pub kept_is : kept ≡ take longest front
  pub on : ReadsOn start (record now { bytes = front ++ now.bytes }) reads

take-none : (n : ℕ) → take n (let l : List ℕ = [] in l) ≡ []
take-none zero = refl
take-none (suc n) = refl

kept-more : (longest : ℕ) (front more kept now : List ℕ) → kept ≡ take longest front → now ≡ take longest (kept ++ more) → now ≡ take longest (front ++ more)
kept-more longest front more kept now is goes = goes ∙ ap (λ l. take longest (l ++ more)) is ∙ take-keeps front more longest

-- before the first step
pub so-far-start : (longest : ℕ) (start : Ahead) (kept : List ℕ) → kept ≡ [] → SoFar longest start start kept []
so-far-start longest start kept empty = record { front = []; no_line = refl; kept_is = empty ∙ sym (take-none longest); on = nothing }

-- a whole line is at hand
pub found-line : (longest : ℕ) (start now after : Ahead) (kept all : List ℕ) (reads : List SourceRead) → MovesLine longest now kept after all → SoFar longest start now kept reads →
    OfLine longest all (λ line. FindsLine start reads line after)
found-line longest start now after kept all reads moves so_far = record {
  line = so_far.front ++ moves.line;
  is_kept = kept-more longest so_far.front moves.line kept all so_far.kept_is moves.kept_now;
  holds = record {
    at = record now { bytes = so_far.front ++ now.bytes };
    on = so_far.on;
    rest = moves.rest;
    is_first = first_line-behind so_far.front now.bytes so_far.no_line ∙ ap (option_map (behind so_far.front)) moves.is_first;
    after_is = moves.after_is;
  };
}

on-all : (start now after : Ahead) (front : List ℕ) (reads : List SourceRead) → after ≡ record now { bytes = [] } → ReadsOn start (record now { bytes = front ++ now.bytes }) reads →
    ReadsOn start (record after { bytes = (front ++ now.bytes) ++ after.bytes }) reads
on-all start now after front reads is on =
    let whole : List ℕ = front ++ now.bytes in
    rw is (subst (λ (l : List ℕ). ReadsOn start (record now { bytes = l }) reads) (sym (append-nil whole)) on)

-- all that is at hand went to the line
pub moved-all : (longest : ℕ) (start now after : Ahead) (kept all : List ℕ) (reads : List SourceRead) → MovesAll longest now kept after all → SoFar longest start now kept reads → SoFar longest start after all reads
moved-all longest start now after kept all reads moves so_far = record {
  front = so_far.front ++ now.bytes;
  no_line = first_line-behind so_far.front now.bytes so_far.no_line ∙ ap (option_map (behind so_far.front)) moves.no_line;
  kept_is = kept-more longest so_far.front now.bytes kept all so_far.kept_is moves.kept_now;
  on = on-all start now after so_far.front reads moves.after_is so_far.on;
}

-- ---- nothing is at hand

-- where the reader stands then, with the front of the line
on-front : (start now : Ahead) (front : List ℕ) (reads : List SourceRead) → now.bytes ≡ [] → ReadsOn start (record now { bytes = front ++ now.bytes }) reads → ReadsOn start (record now { bytes = front }) reads
on-front start now front reads empty on = subst (λ (l : List ℕ). ReadsOn start (record now { bytes = l }) reads) (ap (λ l. front ++ l) empty ∙ append-nil front) on

piece-behind : (now after : Ahead) (front bytes : List ℕ) → now.bytes ≡ [] → after ≡ with_piece bytes now → (let a : Ahead = record after { bytes = front ++ after.bytes } in a) ≡ with_piece bytes (record now { bytes = front })
piece-behind now after front bytes empty is = rw (is, empty) refl

-- a piece was read
pub read-piece : (longest : ℕ) (start now after : Ahead) (kept : List ℕ) (reads its : List SourceRead) → now.bytes ≡ [] → ReadsPiece now its after → SoFar longest start now kept reads →
    SoFar longest start after kept (reads ++ its)
read-piece longest start now after kept reads its empty more so_far =
    let front : List ℕ = so_far.front in
    let wants : WantsMore (record now { bytes = front }) = record { no_line = so_far.no_line; may_read = more.may_read } in
    let on : ReadsOn start (with_piece more.bytes (record now { bytes = front })) (reads ++ read_of more.room (Some more.bytes) ∷ []) =
    piece (record now { bytes = front }) more.bytes more.room reads wants more.some (on-front start now front reads empty so_far.on) in
    record {
      front = front;
      no_line = so_far.no_line;
      kept_is = so_far.kept_is;
      on = rw (more.is, piece-behind now after front more.bytes empty more.after_is) on;
    }

-- the input is at its end
pub read-end : (longest : ℕ) (start now : Ahead) (kept : List ℕ) (reads its : List SourceRead) → now.bytes ≡ [] → ReadsEnd now its → SoFar longest start now kept reads →
    OfLine longest kept (λ line. MeetsEnd start (reads ++ its) line)
read-end longest start now kept reads its empty end so_far = record {
  line = so_far.front;
  is_kept = so_far.kept_is;
  holds = record {
    at = record now { bytes = so_far.front };
    earlier = reads;
    on = on-front start now so_far.front reads empty so_far.on;
    wants = record { no_line = so_far.no_line; may_read = end.may_read };
    room = end.room;
    some = end.some;
    all = ap (λ l. reads ++ l) end.is;
    line_is = refl;
  };
}

-- no more may be read
pub read-over : (longest : ℕ) (start now : Ahead) (kept : List ℕ) (reads its : List SourceRead) → now.bytes ≡ [] → ReadsNothing now its → SoFar longest start now kept reads → PassesLimit start (reads ++ its)
read-over longest start now kept reads its empty over so_far = record {
  at = record now { bytes = so_far.front };
  on = rw (over.is, append-nil) (on-front start now so_far.front reads empty so_far.on);
  no_line = so_far.no_line;
  over = over.over;
}

-- the read failed
pub read-fails : (longest : ℕ) (start now : Ahead) (kept : List ℕ) (reads its : List SourceRead) → now.bytes ≡ [] → ReadFails now its → SoFar longest start now kept reads → FailsReading start (reads ++ its)
read-fails longest start now kept reads its empty fails so_far = record {
  at = record now { bytes = so_far.front };
  earlier = reads;
  on = on-front start now so_far.front reads empty so_far.on;
  wants = record { no_line = so_far.no_line; may_read = fails.may_read };
  room = fails.room;
  all = ap (λ l. reads ++ l) fails.is;
}

-- memory is wanted
pub read-stops : (longest : ℕ) (start now : Ahead) (kept : List ℕ) (reads : List SourceRead) → SoFar longest start now kept reads → StopsReading start reads
read-stops longest start now kept reads so_far = record { at = record now { bytes = so_far.front ++ now.bytes }; on = so_far.on }

-- ---- how often it may read

fewer : (left size : ℕ) (over : Bool) → over ≡ nat_lt left size → 0 < size → (if over then 0 else (left - size) + 1) < left + 1
fewer left size true is some = omega arith
fewer left size false is some = let within : size ≤ left = grind (arith, nat_tests) in omega (arith, within, some)

left-of : (over : Bool) (left : ℕ) → over ≡ false → (if over then 0 else left + 1) ≡ left + 1
left-of true left is = absurd (cc)
left-of false left is = refl

-- a read that gave some bytes leaves fewer
pub reads-fewer : (before now after : Ahead) (its : List SourceRead) → now ≡ record before { bytes = [] } → ReadsPiece now its after → reads_left after < reads_left before
reads-fewer before now after its is more =
    let after_is : after ≡ with_piece more.bytes (record before { bytes = [] }) = more.after_is ∙ ap (with_piece more.bytes) is in
    let open_still : before.is_over ≡ false = sym (ap (λ (a : Ahead). a.is_over) is) ∙ more.may_read in
    rw (after_is, left-of before.is_over before.left open_still) (fewer before.left (length more.bytes) (nat_lt before.left (length more.bytes)) refl more.some)
