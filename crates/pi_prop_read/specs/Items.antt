-- What the reading of items answers. (Own.)
use Rattle.std.specs.Prelude.{◌≡◌, List, map, Option, Result, Ok, Err, Vec}
use Rattle.std.specs.declared.alloc.Global.{Global}
use Rattle.pi_terms.specs.Tree.{Tree}
use Rattle.pi_constraints.specs.declared.constraint.Item.{Item}
use Rattle.pi_constraints.specs.Store.{Moment}
use Rattle.pi_constraints.specs.declared.store.Ref.{Ref}
use Rattle.pi_prop_spec.specs.Steps.{Refusal, Made, Known, Reading, then}
use Rattle.pi_prop_spec.specs.Lists.{read_collection, read_each}
use Rattle.pi_prop_made.specs.declared.items.JudgedItems.{JudgedItems}
use Rattle.pi_prop_made.specs.Items.{IsJudged, AreJudged}
use Rattle.pi_prop_read.specs.declared.operands.stop.OperandStop.{OperandStop}
use Rattle.pi_prop_read.specs.Refs.{value_at}
use Rattle.pi_prop_read.specs.OperandFrames.{AreThere, Refuses}

-- the values of Refs, from the left
abbrev pub values_at : Moment → List Ref → List Tree
values_at w rs = map (value_at w) rs

-- nothing is made where items are read
abbrev pub gives_all : {A : Type 0} → A → Made → Result (Known A) Refusal
gives_all x m = Ok (record { what = x; made = m })

abbrev pub ShowsItem : Moment → Result (Option Item) OperandStop → Result (Known Item) Refusal → Made → Type 0
ShowsItem w (Ok item) o m = (x : Item) × (o ≡ gives_all x m) × IsJudged item x
ShowsItem w (Err stop) o m = Refuses w stop o

abbrev pub ShowsEach : Moment → Result JudgedItems OperandStop → Result (Known (List Item)) Refusal → Made → Type 0
ShowsEach w (Ok items) o m = (xs : List Item) × (o ≡ gives_all xs m) × AreJudged items xs
ShowsEach w (Err stop) o m = Refuses w stop o

-- the terms in a list or an array
abbrev pub ShowsCollection : Moment → Result (Vec Ref Global) OperandStop → Result (Known (List Tree)) Refusal → Made → Type 0
ShowsCollection w (Ok found) o m = (o ≡ gives_all (values_at w found.items) m) × AreThere w found.items
ShowsCollection w (Err stop) o m = Refuses w stop o

-- the items in a list or an array
abbrev pub read_listed : Tree → Reading (List Item)
read_listed t = then (read_collection t) read_each
