use Rattle.std.proofs.Common.{◌∙◌}
use Rattle.pi_prog.proofs.PreludeLemmas.{prelude-reads, has-tokens}
use Rattle.pi_prog.proofs.prelude.prelude_tokens.Goals as goal

pub want_of_memory-requires : goal.want_of_memory-requires
want_of_memory-requires c = c.in-Err.ensures.only_tokens prelude-reads.tokens (has-tokens _ (c.as_bytes.ensures.value ∙ c.prelude.ensures))
