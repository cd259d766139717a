use Rattle.std.proofs.Common.{◌∙◌, sym, ap}
use Rattle.std.specs.Prelude.{option_map}
use Rattle.pi_prog_clauses.specs.Called.{named_by}
use Rattle.pi_prog_clauses.specs.Judge.{faulty_shown, unknown_shown}
use Rattle.pi_prog_clauses.specs.Seen.{all_seen}
use Rattle.pi_prog_clauses.proofs.judging.VerdictLemmas.{verdict_faulty, verdict_apart, verdict_unknown, verdict_sound, told}
use Rattle.pi_prog_clauses.proofs.judging.judge_parts.Goals as goal

pub returns-in-Some-clause-fault : goal.returns-in-Some-clause-fault
returns-in-Some-clause-fault c =
    told _ _ _ (verdict_faulty (all_seen c.args.parts.now) (faulty_shown c.in-Some.faulty)
    (ap (option_map faulty_shown) (sym c.in-Some.is) ∙ c.in_ok-faulty.ensures _ c.in_ok-all.ensures)) c.faulty_part.ensures

pub returns-in-Some-apart-clause-fault : goal.returns-in-Some-apart-clause-fault
returns-in-Some-apart-clause-fault c =
    told _ _ _ (verdict_apart (all_seen c.args.parts.now) (named_by c.in-Some-apart.name)
    (ap (option_map faulty_shown) (sym c.in_default.is) ∙ c.in_ok-faulty.ensures _ c.in_ok-all.ensures)
    (ap (option_map named_by) (sym c.in-Some-apart.is) ∙ c.in_ok-apart.ensures)) c.scattered.ensures

pub returns-in-Some-unknown-clause-fault : goal.returns-in-Some-unknown-clause-fault
returns-in-Some-unknown-clause-fault c =
    told _ _ _ (verdict_unknown (all_seen c.args.parts.now) (unknown_shown c.in-Some-unknown.call)
    (ap (option_map faulty_shown) (sym c.in_default.is) ∙ c.in_ok-faulty.ensures _ c.in_ok-all.ensures)
    (ap (option_map named_by) (sym c.in_default-apart.is) ∙ c.in_ok-apart.ensures)
    (ap (option_map unknown_shown) (sym c.in-Some-unknown.is) ∙ c.in_ok-unknown.ensures _ c.in_ok-all.ensures)) c.unknown_name.ensures

pub returns-clause-ok : goal.returns-clause-ok
returns-clause-ok c =
    verdict_sound (all_seen c.args.parts.now)
    (ap (option_map faulty_shown) (sym c.in_default.is) ∙ c.in_ok-faulty.ensures _ c.in_ok-all.ensures)
    (ap (option_map named_by) (sym c.in_default-apart.is) ∙ c.in_ok-apart.ensures)
    (ap (option_map unknown_shown) (sym c.in_default-unknown.is) ∙ c.in_ok-unknown.ensures _ c.in_ok-all.ensures)
