-- How the code says that arguments are read.
use Rattle.std.specs.Prelude.{List, [], ◌∷◌}
use Rattle.pi_meaning.specs.OverNames.Forms as spec
use Rattle.pi_rewrite_slots.specs.declared.readings.Reading.{Reading}
use Rattle.pi_rewrite_slots.specs.declared.readings.Reading.TheVariants.{Plain, Operand, Boolean, Ranged}
use Rattle.pi_rewrite_slots.specs.declared.readings.Readings.{Readings}
use Rattle.pi_rewrite_slots.specs.declared.readings.Readings.TheVariants as several

abbrev pub reading_of : Reading → spec.Reading
reading_of Plain = spec.plain
reading_of Operand = spec.operand
reading_of Boolean = spec.boolean
reading_of Ranged = spec.ranged

abbrev pub readings_of : Readings → List spec.Reading
readings_of several.Plain = []
readings_of several.Operands = spec.operand ∷ spec.operand ∷ []
readings_of several.Booleans = spec.boolean ∷ spec.boolean ∷ []
readings_of several.Within = spec.plain ∷ spec.ranged ∷ []
