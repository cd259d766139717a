-- A phrase of a line is one of each looser line.
use Rattle.std.proofs.Common.{◌≡◌, ℕ, zero, suc, ◌+◌, ◌-◌, ◌<◌, ◌≤◌, ◌==◌, List, refl, sym, ap, subst, ◌∙◌, arith, if◌then◌else◌}
use Rattle.pi_syntax.specs.ExpTree.{ExpTree}
use Rattle.pi_syntax.specs.Terminals.{Terminal, equivalence, implication, constraint_or, constraint_xor, constraint_and, bit_or, bit_xor, bit_and, shift, sum, product}
use Rattle.pi_syntax.specs.Ranks.{rank}
use Rattle.pi_syntax.specs.Grammar.{Phrase, exp, branch, conj, unit, line, negation, relating, range, unary, pow, post, prim, Reads, conjuncts, plain_unit, joined, positive, unrelated, no_range, unsigned, no_power, postfixes, last_unit, no_more, no_postfix}

-- the next looser line
abbrev looser : Phrase → Phrase
looser exp = exp
looser branch = exp
looser conj = branch
looser unit = conj
looser (line equivalence) = unit
looser (line implication) = line equivalence
looser (line constraint_or) = line implication
looser (line constraint_xor) = line constraint_or
looser (line constraint_and) = line constraint_xor
looser negation = line constraint_and
looser relating = negation
looser range = relating
looser (line bit_or) = range
looser (line bit_xor) = line bit_or
looser (line bit_and) = line bit_xor
looser (line shift) = line bit_and
looser (line sum) = line shift
looser (line product) = line sum
looser unary = line product
looser pow = unary
looser post = pow
looser prim = post

rank-looser : (j : Phrase) → 1 < rank j → rank j ≡ suc (rank (looser j))
rank-looser exp h = absurd (omega arith)
rank-looser (line equivalence) h = refl
rank-looser (line implication) h = refl
rank-looser (line constraint_or) h = refl
rank-looser (line constraint_xor) h = refl
rank-looser (line constraint_and) h = refl
rank-looser (line bit_or) h = refl
rank-looser (line bit_xor) h = refl
rank-looser (line bit_and) h = refl
rank-looser (line shift) h = refl
rank-looser (line sum) h = refl
rank-looser (line product) h = refl
rank-looser _ h = refl

loosen : (j : Phrase) {ts rest : List Terminal} {e : ExpTree} → 3 < rank j → Reads j ts e rest → Reads (looser j) ts e rest
loosen exp h d = absurd (omega arith)
loosen branch h d = absurd (omega arith)
loosen conj h d = absurd (omega arith)
loosen unit h d = conjuncts (last_unit d)
loosen (line equivalence) h d = plain_unit d
loosen (line implication) h d = joined d no_more
loosen (line constraint_or) h d = joined d no_more
loosen (line constraint_xor) h d = joined d no_more
loosen (line constraint_and) h d = joined d no_more
loosen negation h d = joined d no_more
loosen relating h d = positive d
loosen range h d = unrelated d
loosen (line bit_or) h d = no_range d
loosen (line bit_xor) h d = joined d no_more
loosen (line bit_and) h d = joined d no_more
loosen (line shift) h d = joined d no_more
loosen (line sum) h d = joined d no_more
loosen (line product) h d = joined d no_more
loosen unary h d = joined d no_more
loosen pow h d = unsigned d
loosen post h d = no_power d
loosen prim h d = postfixes d no_postfix

-- the phrase of a rank
abbrev of_rank : ℕ → Phrase
of_rank n =
    if n == 1 then exp else if n == 2 then branch else if n == 3 then conj else if n == 4 then unit
    else if n == 5 then line equivalence else if n == 6 then line implication else if n == 7 then line constraint_or
    else if n == 8 then line constraint_xor else if n == 9 then line constraint_and else if n == 10 then negation
    else if n == 11 then relating else if n == 12 then range else if n == 13 then line bit_or else if n == 14 then line bit_xor
    else if n == 15 then line bit_and else if n == 16 then line shift else if n == 17 then line sum else if n == 18 then line product
    else if n == 19 then unary else if n == 20 then pow else if n == 21 then post else prim

of_rank-rank : (j : Phrase) → of_rank (rank j) ≡ j
of_rank-rank exp = refl
of_rank-rank (line equivalence) = refl
of_rank-rank (line implication) = refl
of_rank-rank (line constraint_or) = refl
of_rank-rank (line constraint_xor) = refl
of_rank-rank (line constraint_and) = refl
of_rank-rank (line bit_or) = refl
of_rank-rank (line bit_xor) = refl
of_rank-rank (line bit_and) = refl
of_rank-rank (line shift) = refl
of_rank-rank (line sum) = refl
of_rank-rank (line product) = refl
of_rank-rank _ = refl

same_rank : (j k : Phrase) → rank j ≡ rank k → j ≡ k
same_rank j k h = sym (of_rank-rank j) ∙ (ap of_rank h ∙ of_rank-rank k)

lift_by : (n : ℕ) (k j : Phrase) {ts rest : List Terminal} {e : ExpTree} → 3 ≤ rank k → rank j ≡ n + rank k → Reads j ts e rest
    → Reads k ts e rest
lift_by zero k j {ts} {rest} {e} h p d = subst (λ (x : Phrase). Reads x ts e rest) (same_rank j k (omega arith)) d
lift_by (suc n) k j h p d =
    lift_by n k (looser j) h (omega (arith, rank-looser j)) (loosen j (omega arith) d)

pub lift : (k j : Phrase) {ts rest : List Terminal} {e : ExpTree} → 3 ≤ rank k → rank k ≤ rank j → Reads j ts e rest → Reads k ts e rest
lift k j h p d = lift_by (rank j - rank k) k j h (omega arith) d
