use Rattle.std.proofs.Common.{◌<◌, ◌^◌, ◌∙◌, ap, arith}
use Rattle.pi_store_blocks.specs.Form.{number_of}
use Rattle.pi_store_blocks.specs.declared.form.Form.{Form}
use Rattle.pi_store_blocks.proofs.PutLemmas.{put_name}
use Rattle.pi_store_blocks.proofs.put.put_atom.Goals as goal

pub returns : goal.returns
returns c = λ h text named.
    let fits : c.args.name < 2 ^ 61 = omega arith in
    put_name h c.to_ref.result.number c.args.name text named fits (c.to_ref.ensures ∙ ap (λ k. number_of (Form.Atom k)) c.from.ensures)
