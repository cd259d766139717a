-- What a call asks for, as it is answered, against what it asks for by definition: Refs stand for terms. (A User's Guide to Picat, 'Constraints'; exceptions are own.)
use Rattle.std.specs.Prelude.{◌≡◌, List, Result, Ok, Err, ⊤}
use Rattle.pi_terms.specs.Tree.{Tree}
use Rattle.pi_constraints.specs.declared.constraint.Item.{Item}
use Rattle.pi_constraints.specs.Store.{StoreView}
use Rattle.pi_effects.specs.Balls.{IsBall}
use Rattle.pi_effects.specs.declared.fault.Fault.{Fault}
use Rattle.pi_effects.specs.declared.fault.Stop.{Stop}
use Rattle.pi_label.specs.Reads.{AreOptions}
use Rattle.pi_label.specs.declared.fault.OptFault.{OptFault}
use Rattle.pi_lib_constraints.specs.Kept.{AreRefsOf}
use Rattle.pi_settling.specs.Asked.{Asked as Asks, labels, raises}
use Rattle.pi_settling.specs.Options.{Options}
use Rattle.pi_lib_solve.specs.declared.asking.Asked.{Asked}

-- the options and the items by their Refs; or the fault whose term is raised
abbrev pub ShowsAsked : {M : Type 0} → StoreView M → Result Asked Stop → Asks → Type 0
ShowsAsked v (Ok found) a = (o : Options) × (xs : List Item) × (a ≡ labels o xs) × AreOptions v found.options o × AreRefsOf v found.items.items xs
ShowsAsked v (Err (Stop.Raised fault)) a = (ball : Tree) × (a ≡ raises ball) × IsBall v fault ball
ShowsAsked v (Err Stop.Memory) a = ⊤

-- why options aren't read, as a fault of a call
abbrev pub stop_of : OptFault → Stop
stop_of OptFault.TooLarge = Stop.Raised Fault.TermTooLarge
stop_of (OptFault.BadOption r) = Stop.Raised (Fault.BadOption r)
stop_of OptFault.Memory = Stop.Memory
