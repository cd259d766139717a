use Rattle.std.proofs.Common.{◌≡◌, ◌<◌, ◌%◌, ◌^◌, ◌∙◌, ap, arith}
use Rattle.pi_store_blocks.specs.Form.{number_of}
use Rattle.pi_store_blocks.specs.declared.form.Form.{Form}
use Rattle.pi_store_blocks.proofs.PutLemmas.{put_var}
use Rattle.pi_store_blocks.proofs.put.var_ref.Goals as goal

pub returns : goal.returns
returns c = λ h below few.
    let fits : c.args.n < 2 ^ 61 = omega arith in
    let whole : c.args.n % 2 ^ 61 ≡ c.args.n = omega arith in
    put_var h c.to_ref.result.number c.args.n below fits (c.to_ref.ensures ∙ ap (λ k. number_of (Form.Var k)) whole)
