-- The value of each arithmetic operation, or its one fault, over whole numbers without bounds. The operations are Picat's (A User's Guide to Picat); the 128 bits, the distances of shifts and the faults are own.
use Rattle.std.specs.Prelude.{◌^◌, ℤ, pos, ◌+ℤ◌, ◌-ℤ◌, ◌*ℤ◌, neg_ℤ, unsigned_abs, Ok}
use Rattle.std.specs.Int.{int_signum}
use Rattle.pi_effects.specs.declared.operation.Op.{Op}
use Rattle.pi_effects.specs.declared.operation.Op.TheVariants.{Add, Sub, Mul, Quot, Floor, Ceil, Mod, Rem, Pow, ShiftLeft, ShiftRight, And, Or, Xor, Neg, Not, Abs, Sign}
use Rattle.pi_effects.specs.Bits.{bits_and, bits_or, bits_xor, complement}
use Rattle.pi_effects.specs.Power.{power}
use Rattle.pi_effects.specs.Quotients.{quotient, floor_quotient, ceiling_quotient}
use Rattle.pi_effects.specs.Range.{Outcome, bounded, divided_by, raised_to, shifted_by}

-- the one-place operations, from Neg on, take a alone
unfoldable pub value_of : Op → ℤ → ℤ → Outcome
value_of Add a b = bounded (a +ℤ b)
value_of Sub a b = bounded (a -ℤ b)
value_of Mul a b = bounded (a *ℤ b)
value_of Quot a b = divided_by b (bounded (quotient a b))
value_of Floor a b = divided_by b (bounded (floor_quotient a b))
value_of Ceil a b = divided_by b (bounded (ceiling_quotient a b))
value_of Mod a b = divided_by b (Ok (a -ℤ floor_quotient a b *ℤ b))
value_of Rem a b = divided_by b (Ok (a -ℤ quotient a b *ℤ b))
value_of Pow a b = raised_to b (λ n. bounded (power a n))
value_of ShiftLeft a b = shifted_by b (λ n. bounded (a *ℤ pos (2 ^ n)))
value_of ShiftRight a b = shifted_by b (λ n. Ok (floor_quotient a (pos (2 ^ n))))
value_of And a b = Ok (bits_and a b)
value_of Or a b = Ok (bits_or a b)
value_of Xor a b = Ok (bits_xor a b)
value_of Neg a b = bounded (neg_ℤ a)
value_of Not a b = Ok (complement a)
value_of Abs a b = bounded (pos (unsigned_abs a))
value_of Sign a b = Ok (int_signum a)
