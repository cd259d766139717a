-- Numbers read back from what a block holds of them.
use Rattle.std.proofs.Common.{◌≡◌, ◌+◌, ◌%◌, ◌^◌, ◌<◌, pos, negsuc, ap, ◌∙◌, arith}
use Rattle.std.proofs.lemmas.Int.{ints}
use Rattle.pi_store_blocks.specs.Numbers.{moved_down, MovedComeBack, HalvesAreWhole}

pub moved_back : MovedComeBack
moved_back (pos n) h =
    let same : (2 ^ 57 + n) % 2 ^ 58 ≡ 2 ^ 57 + n = omega arith in
    ap moved_down same ∙ omega (arith, ints)
moved_back (negsuc n) h = omega (arith, ints)

pub halves_whole : HalvesAreWhole
halves_whole n lt = omega arith
