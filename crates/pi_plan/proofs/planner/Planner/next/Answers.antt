use Rattle.std.proofs.Common.{List, sym, subst}
use Rattle.pi_plan.specs.declared.given.GivenState.{GivenState}
use Rattle.pi_plan.specs.Plan.{Wanted}
use Rattle.pi_plan.specs.Planner.{wanted_of, IsSoundAt, Says}
use Rattle.pi_plan.proofs.StageLemmas.{NextAt, next_at, memory_repeats}
use Rattle.pi_plan.proofs.planner.Planner.next.Goals as goal

pub returns-in-Ok-clause-sound : goal.returns-in-Ok-clause-sound
returns-in-Ok-clause-sound c =
    let facts : NextAt c.args.self.now.stage c.go_on.new.self.stage (wanted_of c.args.self.now) c.args.self.now.given c.go_on.new.self.search c.in-Ok.step =
    next_at _ _ _ _ c.args.self.now.search _ _ c.requires.sound c.requires.answered (c.in-Ok.ensures.goes c.requires.sound) c.in-Ok.ensures.tells in
    subst (λ (w : Wanted). IsSoundAt c.go_on.new.self.stage w c.go_on.new.self.given c.go_on.new.self.search) (sym c.go_on.ensures.same.wanted)
    (subst (λ (g : List GivenState). IsSoundAt c.go_on.new.self.stage (wanted_of c.args.self.now) g c.go_on.new.self.search) (sym c.go_on.ensures.given) facts.sound)

pub returns-in-Ok-clause-says : goal.returns-in-Ok-clause-says
returns-in-Ok-clause-says c = λ open_yet.
    let facts : NextAt c.args.self.now.stage c.go_on.new.self.stage (wanted_of c.args.self.now) c.args.self.now.given c.go_on.new.self.search c.in-Ok.step =
    next_at _ _ _ _ c.args.self.now.search _ _ c.requires.sound c.requires.answered (c.in-Ok.ensures.goes c.requires.sound) c.in-Ok.ensures.tells in
    subst (λ (w : Wanted). Says c.go_on.new.self.given c.go_on.new.self.search.by_rest w c.in-Ok.step) (sym c.go_on.ensures.same.wanted)
    (subst (λ (g : List GivenState). Says g c.go_on.new.self.search.by_rest (wanted_of c.args.self.now) c.in-Ok.step) (sym c.go_on.ensures.given) (facts.says open_yet))

pub returns-in-Ok-clause-leaves : goal.returns-in-Ok-clause-leaves
returns-in-Ok-clause-leaves c =
    let facts : NextAt c.args.self.now.stage c.go_on.new.self.stage (wanted_of c.args.self.now) c.args.self.now.given c.go_on.new.self.search c.in-Ok.step =
    next_at _ _ _ _ c.args.self.now.search _ _ c.requires.sound c.requires.answered (c.in-Ok.ensures.goes c.requires.sound) c.in-Ok.ensures.tells in
    facts.leaves

pub returns-in-Ok-clause-repeats : goal.returns-in-Ok-clause-repeats
returns-in-Ok-clause-repeats c =
    let facts : NextAt c.args.self.now.stage c.go_on.new.self.stage (wanted_of c.args.self.now) c.args.self.now.given c.go_on.new.self.search c.in-Ok.step =
    next_at _ _ _ _ c.args.self.now.search _ _ c.requires.sound c.requires.answered (c.in-Ok.ensures.goes c.requires.sound) c.in-Ok.ensures.tells in
    facts.repeats

pub returns-in-Err-clause-repeats : goal.returns-in-Err-clause-repeats
returns-in-Err-clause-repeats c = λ e ended. memory_repeats c.args.self.now.stage e (c.in-Err.ensures.lacks c.requires.sound) ended
