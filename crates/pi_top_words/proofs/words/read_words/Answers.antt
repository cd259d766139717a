use Rattle.std.proofs.Common.{◌∙◌, sym, map}
use Rattle.std.proofs.lemmas.Result.{IfErr-weaker, IfOk-weaker}
use Rattle.std.specs.String.{string_bytes}
use Rattle.pi_top_words.proofs.Parsing.{parsed, refused}
use Rattle.pi_top_words.proofs.words.read_words.Goals as goal

pub returns-in-Ok-clause-ok : goal.returns-in-Ok-clause-ok
returns-in-Ok-clause-ok c =
    let are = parsed _ (map string_bytes c.args.words.now) c.in-Ok.matches c.in_ok-command.ensures c.in-Ok.ensures.matches c.in-Ok.ensures.kinds in
    IfOk-weaker c.of.result _ _ (λ asked is. are ∙ is) c.of.ensures.ok

pub returns-in-Ok-clause-no_record : goal.returns-in-Ok-clause-no_record
returns-in-Ok-clause-no_record c =
    let are = parsed _ (map string_bytes c.args.words.now) c.in-Ok.matches c.in_ok-command.ensures c.in-Ok.ensures.matches c.in-Ok.ensures.kinds in
    IfErr-weaker c.of.result _ _ (λ e is no_record. are ∙ is no_record) c.of.ensures.no_record

pub returns-in-Err-clause-no_record : goal.returns-in-Err-clause-no_record
returns-in-Err-clause-no_record c = λ no_record.
    refused _ (map string_bytes c.args.words.now) c.in-Err.error c.in_ok-command.ensures c.in-Err.ensures.kinds
    (λ memory. let bad = sym no_record ∙ c.fault_of.ensures memory in cc)
