-- The verdict by what is judged of parts.
use Rattle.std.proofs.Common.{◌≡◌, List, [], Some, None, ap, ◌∙◌, sym, subst}
use Rattle.pi_prog_clauses.specs.Calls.{Named}
use Rattle.pi_prog_clauses.specs.Faults.{IsTold}
use Rattle.pi_prog_clauses.specs.Verdict.{JudgedPart, all_defined, first_faulty, first_unknown_in, verdict_by, verdict, parts_of, Faulty, first_apart, Unknown, Verdict, a_program, part_is_faulty, is_scattered, is_unknown}
use Rattle.pi_prog_clauses.specs.declared.prog_fault.ProgFault.{ProgFault}

pub verdict_faulty : (ss : List JudgedPart) (f : Faulty) → Some f ≡ first_faulty (all_defined ss) [] ss → part_is_faulty f ≡ verdict ss
unfolding verdict
verdict_faulty ss f is = ap (λ o. verdict_by ss o (first_apart [] (all_defined ss)) (first_unknown_in (all_defined ss) 0 ss)) is

pub verdict_apart : (ss : List JudgedPart) (d : Named) → None ≡ first_faulty (all_defined ss) [] ss → Some d ≡ first_apart [] (all_defined ss) → is_scattered d ≡ verdict ss
unfolding verdict
verdict_apart ss d no_fault is =
    ap (λ o. verdict_by ss None o (first_unknown_in (all_defined ss) 0 ss)) is
    ∙ ap (λ o. verdict_by ss o (first_apart [] (all_defined ss)) (first_unknown_in (all_defined ss) 0 ss)) no_fault

pub verdict_unknown : (ss : List JudgedPart) (u : Unknown) → None ≡ first_faulty (all_defined ss) [] ss → None ≡ first_apart [] (all_defined ss) → Some u ≡ first_unknown_in (all_defined ss) 0 ss → is_unknown u ≡ verdict ss
unfolding verdict
verdict_unknown ss u no_fault together is =
    ap (λ o. verdict_by ss None None o) is
    ∙ ap (λ o. verdict_by ss None o (first_unknown_in (all_defined ss) 0 ss)) together
    ∙ ap (λ o. verdict_by ss o (first_apart [] (all_defined ss)) (first_unknown_in (all_defined ss) 0 ss)) no_fault

pub verdict_sound : (ss : List JudgedPart) → None ≡ first_faulty (all_defined ss) [] ss → None ≡ first_apart [] (all_defined ss) → None ≡ first_unknown_in (all_defined ss) 0 ss → verdict ss ≡ a_program (parts_of ss)
unfolding verdict
verdict_sound ss no_fault together known = sym (
    ap (λ o. verdict_by ss None None o) known
    ∙ ap (λ o. verdict_by ss None o (first_unknown_in (all_defined ss) 0 ss)) together
    ∙ ap (λ o. verdict_by ss o (first_apart [] (all_defined ss)) (first_unknown_in (all_defined ss) 0 ss)) no_fault)

pub told : (v w : Verdict) (f : ProgFault) → v ≡ w → IsTold v f → IsTold w f
told v w f same is = subst (λ x. IsTold x f) same is
