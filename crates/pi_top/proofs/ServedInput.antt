-- The lines that were served are those that were found.
use Rattle.pi_outside.specs.Order.{FoundSoFar}
use Rattle.pi_top.specs.Session.{ServedSoFar, ServesItsLines}

pub serves-its-lines : ServesItsLines
serves-its-lines manner program log most lines present runs ahead reads writes ServedSoFar.at_first = FoundSoFar.at_first
serves-its-lines manner program log most lines present runs ahead reads writes (ServedSoFar.one_more earlier before next old more at after earlier_reads its earlier_writes its_writes line so_far finds serves) =
    FoundSoFar.one_more earlier line earlier_reads its at after (serves-its-lines manner program log most earlier before old at earlier_reads earlier_writes so_far) finds
