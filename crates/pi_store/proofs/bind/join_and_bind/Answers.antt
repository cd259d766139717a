use Rattle.std.proofs.Common.{◌≡◌, ◌+◌, suc, sym, subst, ◌∙◌, ap, arith}
use Rattle.pi_region.specs.Image.{Image, replaced}
use Rattle.pi_region.specs.Back.{Advances}
use Rattle.pi_region.specs.declared.entry.Table.{Table}
use Rattle.pi_region.proofs.BackLemmas.{from_itself, through}
use Rattle.pi_store.proofs.bind.join_and_bind.Goals as goal

pub returns-then-n-ge-MOST_BOUND-clause-advances : goal.returns-then-n-ge-MOST_BOUND-clause-advances
returns-then-n-ge-MOST_BOUND-clause-advances c = from_itself c.args.words.now c.len-len.ensures.sound

pub returns-in_err-join_lists-clause-advances : goal.returns-in_err-join_lists-clause-advances
returns-in_err-join_lists-clause-advances c = c.join_lists.ensures.adds.advances

pub returns-in_err-replace-clause-advances : goal.returns-in_err-replace-clause-advances
returns-in_err-replace-clause-advances c = subst (λ (j : Image). Advances c.args.words.now j) (sym c.in_err-replace.ensures.err) c.join_lists.ensures.adds.advances

pub returns-clause-advances : goal.returns-clause-advances
returns-clause-advances c = through c.args.words.now c.join_lists.new.words c.replace.new.self c.join_lists.ensures.adds.advances c.in_ok-replace.ensures.advances

pub returns-clause-ok : goal.returns-clause-ok
returns-clause-ok c =
    let more : c.args.to.number + 1 ≡ suc c.args.to.number = omega arith in
    record {
      mid = c.join_lists.new.words;
      adds = c.join_lists.ensures.adds;
      joined = c.in_ok-join_lists.ensures.ok;
      set = c.in_ok-replace.ensures.ok ∙ ap (replaced c.join_lists.new.words Table.Variables c.args.n) more;
      advances = through c.args.words.now c.join_lists.new.words c.replace.new.self c.join_lists.ensures.adds.advances c.in_ok-replace.ensures.advances;
    }
