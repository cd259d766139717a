use Rattle.std.proofs.Common.{◌≡◌, ◌*◌, ◌∙◌, length, ap, arith}
use Rattle.pi_region.specs.Image.{Image, replaced}
use Rattle.pi_region.specs.declared.entry.Table.{Table}
use Rattle.pi_region.proofs.BackLemmas.{through}
use Rattle.pi_store.proofs.domains.confine.Goals as goal

pub returns-in-Ok-clause-ok : goal.returns-in-Ok-clause-ok
returns-in-Ok-clause-ok c =
    let mid : Image = c.write_domain.new.words in
    let end : c.in_ok-_end._end ≡ length mid.region = c.in_ok-_end.ensures.ok.end in
    let long : c.len.result ≡ length mid.region = c.len.ensures.len in
    let word : c.len.result * 8 ≡ 8 * c.in_ok-_end._end = omega arith in
    record {
      mid = mid;
      end = c.in_ok-_end._end;
      written = c.in_ok-_end.ensures.ok;
      set = c.in-Ok.ensures.ok ∙ ap (replaced mid Table.Variables c.args.n) word;
      domain = c.spans-spans.ensures.domain;
      advances = through c.args.words.now mid c.replace.new.self c.in_ok-_end.ensures.ok.advances c.in-Ok.ensures.advances;
    }
