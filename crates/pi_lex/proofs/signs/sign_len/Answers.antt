use Rattle.std.proofs.Common.{refl}
use Rattle.pi_syntax.specs.Tokens.{signs_of_three, signs_of_two, signs_of_one}
use Rattle.pi_lex.proofs.ItemLemmas.{sign_len-four, sign_len-three, sign_len-two, sign_len-one, sign_len-none, begins_with_one_of-within}
use Rattle.pi_lex.proofs.signs.sign_len.Goals as goal

pub returns-then-begins_with-clause-value : goal.returns-then-begins_with-clause-value
returns-then-begins_with-clause-value c = sign_len-four c.args.text.now c.if-begins_with.ensures.value

pub returns-then-begins_with-clause-within : goal.returns-then-begins_with-clause-within
returns-then-begins_with-clause-within c = c.if-begins_with.ensures.within refl

pub returns-then-is_sign_of_three-clause-value : goal.returns-then-is_sign_of_three-clause-value
returns-then-is_sign_of_three-clause-value c = sign_len-three c.args.text.now c.if-begins_with.ensures.value c.if-is_sign_of_three.ensures

pub returns-then-is_sign_of_three-clause-within : goal.returns-then-is_sign_of_three-clause-within
returns-then-is_sign_of_three-clause-within c = begins_with_one_of-within 3 signs_of_three c.args.text.now refl c.if-is_sign_of_three.ensures

pub returns-then-is_sign_of_two-clause-value : goal.returns-then-is_sign_of_two-clause-value
returns-then-is_sign_of_two-clause-value c =
    sign_len-two c.args.text.now c.if-begins_with.ensures.value c.if-is_sign_of_three.ensures c.if-is_sign_of_two.ensures

pub returns-then-is_sign_of_two-clause-within : goal.returns-then-is_sign_of_two-clause-within
returns-then-is_sign_of_two-clause-within c = begins_with_one_of-within 2 signs_of_two c.args.text.now refl c.if-is_sign_of_two.ensures

pub returns-then-is_sign_of_one-clause-value : goal.returns-then-is_sign_of_one-clause-value
returns-then-is_sign_of_one-clause-value c =
    sign_len-one c.args.text.now c.if-begins_with.ensures.value c.if-is_sign_of_three.ensures c.if-is_sign_of_two.ensures c.if-is_sign_of_one.ensures

pub returns-then-is_sign_of_one-clause-within : goal.returns-then-is_sign_of_one-clause-within
returns-then-is_sign_of_one-clause-within c = begins_with_one_of-within 1 signs_of_one c.args.text.now refl c.if-is_sign_of_one.ensures

pub returns-else-is_sign_of_one-clause-value : goal.returns-else-is_sign_of_one-clause-value
returns-else-is_sign_of_one-clause-value c =
    sign_len-none c.args.text.now c.if-begins_with.ensures.value c.if-is_sign_of_three.ensures c.if-is_sign_of_two.ensures c.if-is_sign_of_one.ensures
