use Rattle.pi_lex.proofs.ReaderLemmas.{only_these_tokens, only_this_fault}
use Rattle.pi_lex.proofs.reader.tokens.Goals as goal

pub returns-clause-only_tokens : goal.returns-clause-only_tokens
returns-clause-only_tokens c = only_these_tokens c.args.text.now c.lex.result c.lex.ensures.tokens c.lex.ensures.fault

pub returns-clause-only_fault : goal.returns-clause-only_fault
returns-clause-only_fault c = only_this_fault c.args.text.now c.lex.result c.lex.ensures.tokens c.lex.ensures.fault
