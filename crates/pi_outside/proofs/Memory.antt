-- How the objects in memory move their bytes.
use Rattle.std.proofs.Common.{◌≡◌, inl, inr, ℕ, ◌+◌, ◌-◌, ◌≤◌, min, Bool, List, ◌++◌, length, take, drop, refl, sym, ◌∙◌, ap, arith, length-append, length-take, length-take-le}
use Rattle.std.specs.Prelude.{◌||◌, nat_lt, None, Some, if◌then◌else◌}
use Rattle.std.proofs.lemmas.Bool.{cases_lt}
use Rattle.std.proofs.lemmas.Bool.Decides.{nat_tests}
use Rattle.std.proofs.lemmas.List.{take_all, take-append-le}
use Rattle.std.proofs.Math.Seq.{drop-drop, take-add, take-append-add}
use Rattle.pi_outside.specs.Memory.{Supply, after_giving, SinkOfFirst, after_piece, HasTaken}

-- a supply of bytes, the first `at` of which were given
abbrev pub supply_at : List ℕ → ℕ → ℕ → Supply
supply_at bytes at most = record { given = take at bytes; rest = drop at bytes; most = most }

pub supply_at-add : (bytes : List ℕ) (at most count : ℕ) → supply_at bytes (at + count) most ≡ after_giving (supply_at bytes at most) count
supply_at-add bytes at most count = rw (take-add at count bytes, drop-drop count at bytes) refl

take-min : (bytes : List ℕ) (room : ℕ) → take (min (length bytes) room) bytes ≡ take room bytes
take-min bytes room = elim (cases_lt (length bytes) room) [
  | inl short ↦ take_all _ _ (omega arith) ∙ sym (take_all _ _ (omega arith))
  | inr long ↦ ap (λ n. take n bytes) (let e : min (length bytes) room ≡ room = omega arith in e)
]

-- what has room of a piece, behind what was kept
pub kept-take : (kept piece : List ℕ) (room : ℕ) → length kept ≤ room → kept ++ take (min (length piece) (room - length kept)) piece ≡ take room (kept ++ piece)
kept-take kept piece room within =
    let whole : length kept + (room - length kept) ≡ room = omega arith in
    ap (λ l. kept ++ l) (take-min piece (room - length kept))
    ∙ sym (take-append-add kept piece (room - length kept))
    ∙ ap (λ n. take n (kept ++ piece)) whole

-- whether a piece has more than has room
nat_lt-room : (kept piece room : ℕ) → kept ≤ room → nat_lt (min piece (room - kept)) piece ≡ nat_lt room (kept + piece)
nat_lt-room kept piece room within = grind (arith, nat_tests)

-- a sink that keeps what has room of a piece
pub after_piece-kept : (kept piece : List ℕ) (room fitting : ℕ) (over : Bool) (new : List ℕ) → length kept ≤ room → fitting ≡ min (length piece) (room - length kept) → new ≡ kept ++ take fitting piece → (let sink : SinkOfFirst = record { kept = new; room = room; is_over = over || nat_lt fitting (length piece) } in sink) ≡ after_piece (record { kept = kept; room = room; is_over = over }) piece
after_piece-kept kept piece room fitting over new within fits is =
    let kept_is : new ≡ take room (kept ++ piece) = is ∙ ap (λ n. kept ++ take n piece) fits ∙ kept-take kept piece room within in
    let over_is : nat_lt fitting (length piece) ≡ nat_lt room (length kept + length piece) = ap (λ n. nat_lt n (length piece)) fits ∙ nat_lt-room (length kept) (length piece) room within in
    rw (kept_is, over_is) refl

-- of what was taken and one more piece, the first `room` bytes stand in what was kept and that piece
pub take-keeps : (all piece : List ℕ) (room : ℕ) → take room (take room all ++ piece) ≡ take room (all ++ piece)
take-keeps all piece room = elim (cases_lt (length all) room) [
  | inl short ↦ ap (λ l. take room (l ++ piece)) (take_all room all (omega arith))
  | inr full ↦
      let whole : length (take room all) ≡ room = length-take-le room all (omega arith) in
      take-append-le room (take room all) piece (omega arith) ∙ take_all room (take room all) (omega arith) ∙ sym (take-append-le room all piece (omega arith))
]

over-more : (all kept piece room : ℕ) → kept ≡ min room all → (nat_lt room all || nat_lt room (kept + piece)) ≡ nat_lt room (all + piece)
over-more all kept piece room is = grind (arith, nat_tests)

-- who keeps the first bytes can tell them all while they have room
told-all : (all kept : List ℕ) (room : ℕ) (over : Bool) → kept ≡ take room all → over ≡ nat_lt room (length all) → (if over then None else Some kept) ≡ (if nat_lt room (length all) then None else Some all)
told-all all kept room over first more = elim (cases_lt room (length all)) [
  | inl long ↦ grind (arith, nat_tests)
  | inr short ↦ let whole : kept ≡ all = first ∙ take_all room all short in grind (arith, nat_tests)
]

has_taken : (all : List ℕ) (sink : SinkOfFirst) → sink.kept ≡ take sink.room all → sink.is_over ≡ nat_lt sink.room (length all) → HasTaken all sink
has_taken all sink first more = record {
  kept = first;
  over = more;
  told = told-all all sink.kept sink.room sink.is_over first more;
}

-- one more piece
pub HasTaken-after_piece : (all piece : List ℕ) (sink : SinkOfFirst) → HasTaken all sink → HasTaken (all ++ piece) (after_piece sink piece)
HasTaken-after_piece all piece sink has =
    let size : length sink.kept ≡ min sink.room (length all) = ap length has.kept ∙ length-take sink.room all in
    has_taken (all ++ piece) (after_piece sink piece) (ap (λ l. take sink.room (l ++ piece)) has.kept ∙ take-keeps all piece sink.room)
    (
    ap (λ b. b || nat_lt sink.room (length sink.kept + length piece)) has.over
    ∙ over-more (length all) (length sink.kept) (length piece) sink.room size
    ∙ ap (λ n. nat_lt sink.room n) (sym (length-append all piece))
    )
