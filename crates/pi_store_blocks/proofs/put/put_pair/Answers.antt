use Rattle.std.proofs.Common.{◌<◌, ◌^◌, ◌∙◌, length, ap, arith}
use Rattle.pi_region.specs.Image.{Image}
use Rattle.pi_store_blocks.specs.Form.{number_of}
use Rattle.pi_store_blocks.specs.declared.form.Form.{Form}
use Rattle.pi_store_blocks.proofs.PutLemmas.{makes_pair}
use Rattle.pi_store_blocks.proofs.WriteLemmas.{pair_right}
use Rattle.pi_store_blocks.proofs.put.put_pair.Goals as goal

pub returns-clause-ok : goal.returns-clause-ok
returns-clause-ok c =
    let fits : length c.args.words.now.region < 2 ^ 61 = omega arith in
    makes_pair c.args.words.now.region c.append_two.new.self.region c.to_ref.result.number c.args.first.number c.args.second.number c.are_both_ground-is_ground.result
    (ap (λ (i : Image). i.region) c.in_ok-append_two.ensures.ok) fits c.are_both_ground-is_ground.ensures
    (c.to_ref.ensures ∙ ap (λ k. number_of (Form.Pair k c.are_both_ground-is_ground.result)) c.len-place.ensures.len)

pub returns-clause-right : goal.returns-clause-right
returns-clause-right c = λ h e named are.
    pair_right h c.args.words.now.region c.append_two.new.self.region c.args.first.number c.args.second.number (ap (λ (i : Image). i.region) c.in_ok-append_two.ensures.ok) e are
