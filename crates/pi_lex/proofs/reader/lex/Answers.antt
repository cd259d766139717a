use Rattle.pi_lex.proofs.NaturalLemmas.{read_natural}
use Rattle.std.proofs.Common.{[], ◌∙◌, ap, arith}
use Rattle.std.proofs.lemmas.Result.{err_from_is_err_and}
use Rattle.std.specs.Str.{chars}
use Rattle.pi_syntax.specs.Tokens.{too_long, not_utf8}
use Rattle.pi_lex.proofs.ReaderLemmas.{HasFault-characters, HasTokens-characters, length-chars-le}
use Rattle.pi_lex.proofs.reader.lex.Goals as goal

pub returns-then-text-gt-MAX_LEN-clause-fault : goal.returns-then-text-gt-MAX_LEN-clause-fault
returns-then-text-gt-MAX_LEN-clause-fault c = ([], too_long c.if-text-gt-MAX_LEN.true)

pub returns-in-Err-clause-fault : goal.returns-in-Err-clause-fault
returns-in-Err-clause-fault c =
    rw (c.valid_up_to.ensures, c.in-Err.ensures.valid_len) ([], not_utf8 c.if-text-gt-MAX_LEN.false c.in-Err.ensures.cases.0)

pub read-requires : goal.read-requires
read-requires c =
    let same = c.deref.ensures.value ∙ c.in_ok-chars.ensures ∙ ap chars c.in-Ok.ensures.cases.0 in
    let shorter = length-chars-le c.args.text.now c.deref.result.now c.in-Ok.ensures.cases.1 same in
    omega (arith, shorter)

pub returns-in_err-store-clause-fault : goal.returns-in_err-store-clause-fault
returns-in_err-store-clause-fault c =
    let same = c.deref.ensures.value ∙ c.in_ok-chars.ensures ∙ ap chars c.in-Ok.ensures.cases.0 in
    let p = err_from_is_err_and c.from_residual-in_err-store.result c.from_residual-in_err-store.ensures.1 in
    rw (p.1, p.2) (HasFault-characters _ _ _ c.if-text-gt-MAX_LEN.false c.in-Ok.ensures.cases.1 same c.in_err-store.ensures.fault)

pub returns-clause-tokens : goal.returns-clause-tokens
returns-clause-tokens c =
    let same = c.deref.ensures.value ∙ c.in_ok-chars.ensures ∙ ap chars c.in-Ok.ensures.cases.0 in
    rw c.of.ensures (HasTokens-characters _ _ _ c.if-text-gt-MAX_LEN.false c.in-Ok.ensures.cases.1 same c.in_ok-store.ensures.tokens)

pub of-requires-clause-natural : goal.of-requires-clause-natural
of-requires-clause-natural c = read_natural c.in_ok-store.ensures.tokens
