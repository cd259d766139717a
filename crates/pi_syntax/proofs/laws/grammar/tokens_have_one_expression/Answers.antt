use Rattle.pi_syntax.proofs.GrammarLemmas.{has_one_exp, read_is_one, too_deep_is_no_none}
use Rattle.pi_syntax.proofs.laws.grammar.tokens_have_one_expression.Goals as goal

pub returns : goal.returns
returns c = record { one = has_one_exp; read = read_is_one; too_deep = too_deep_is_no_none }
