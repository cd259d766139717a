-- The value that an event gives to what it wakes. (A User's Guide to Picat, 'Action Rules'.)
use Rattle.std.specs.Prelude.{Option, Some, None}
use Rattle.pi_terms.specs.Tree.{Tree, int}
use Rattle.pi_constraints.specs.declared.event.Event.{Event}

abbrev pub event_value : Event → Option Tree
event_value (Event.Ins n) = None
event_value (Event.Bound n) = None
event_value (Event.Excluded n i inner) = Some (int i)
event_value (Event.Posted n u) = Some u
