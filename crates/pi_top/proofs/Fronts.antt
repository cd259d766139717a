-- Fronts of lists.
use Rattle.std.proofs.Common.{ℕ, List, [], take, drop, sym}
use Rattle.std.proofs.lemmas.List.{append-nil, take-append-drop}
use Rattle.pi_top.specs.Prefix.{IsPrefix}

pub prefix-all : {T : Type 0} (xs : List T) → IsPrefix xs xs
prefix-all xs = record { rest = []; whole_is = sym (append-nil xs) }

pub prefix-take : {T : Type 0} (n : ℕ) (xs : List T) → IsPrefix (take n xs) xs
prefix-take n xs = record { rest = drop n xs; whole_is = sym (take-append-drop n xs) }
