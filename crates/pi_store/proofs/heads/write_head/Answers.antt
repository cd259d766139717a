use Rattle.std.proofs.Common.{sym, subst}
use Rattle.pi_region.specs.Image.{Image}
use Rattle.pi_region.specs.Back.{Advances}
use Rattle.pi_region.proofs.BackLemmas.{through}
use Rattle.pi_store.proofs.PartLemmas.{on_err}
use Rattle.pi_store.proofs.AddLemmas.{pads_refused}
use Rattle.pi_store.proofs.heads.write_head.Goals as goal

pub returns-in_err-replace-clause-pads : goal.returns-in_err-replace-clause-pads
returns-in_err-replace-clause-pads c = on_err c.from_residual-in_err-replace.result _ (pads_refused c.args.words.now c.pad.new.words c.replace.new.self c.pad.ensures.pads c.in_err-replace.ensures.err)

pub returns-in_err-replace-clause-advances : goal.returns-in_err-replace-clause-advances
returns-in_err-replace-clause-advances c = subst (λ (j : Image). Advances c.args.words.now j) (sym c.in_err-replace.ensures.err) c.pad.ensures.advances

pub returns-clause-ok : goal.returns-clause-ok
returns-clause-ok c = record { mid = c.pad.new.words; padded = c.pad.ensures.pads; there = c.in_ok-pad.ensures.ok; set = c.in_ok-replace.ensures.ok }

pub returns-clause-advances : goal.returns-clause-advances
returns-clause-advances c = through c.args.words.now c.pad.new.words c.replace.new.self c.pad.ensures.advances c.in_ok-replace.ensures.advances
