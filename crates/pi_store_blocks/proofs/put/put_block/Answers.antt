use Rattle.std.proofs.Common.{◌+◌, ◌<◌, ◌^◌, ◌∙◌, length, ap, arith, refl}
use Rattle.pi_region.specs.Image.{Image}
use Rattle.pi_store_blocks.specs.Form.{number_of}
use Rattle.pi_store_blocks.specs.declared.form.Form.{Form}
use Rattle.pi_store_blocks.proofs.PutLemmas.{makes_block}
use Rattle.pi_store_blocks.proofs.WriteLemmas.{block_right}
use Rattle.pi_store_blocks.proofs.put.put_block.Goals as goal

pub returns-clause-ok : goal.returns-clause-ok
returns-clause-ok c =
    let few : length c.args.args.now < 2 ^ 32 = c.in_ok-header.ensures.1 in
    let fits : length c.args.words.now.region + length c.args.args.now < 2 ^ 61 = omega arith in
    makes_block c.args.words.now.region c.append_refs.new.self.region c.to_ref.result.number c.args.name (length c.args.args.now) c.in_ok-header.header c.args.args.now c.are_ground-is_ground.result
    (ap (λ (i : Image). i.region) c.in_ok-append_refs.ensures.ok) c.in_ok-header.ensures.0 refl few fits c.are_ground-is_ground.ensures
    (c.to_ref.ensures ∙ ap (λ k. number_of (Form.Comp (k + length c.args.args.now) c.are_ground-is_ground.result)) c.len.ensures.len)

pub returns-clause-right : goal.returns-clause-right
returns-clause-right c = λ h e named are.
    block_right h c.args.words.now.region c.append_refs.new.self.region c.args.name (length c.args.args.now) c.in_ok-header.header c.args.args.now c.are_ground-is_ground.result
    (ap (λ (i : Image). i.region) c.in_ok-append_refs.ensures.ok) c.in_ok-header.ensures.0 refl c.in_ok-header.ensures.1 c.are_ground-is_ground.ensures e named are
