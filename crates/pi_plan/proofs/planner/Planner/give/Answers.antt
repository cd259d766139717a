use Rattle.std.proofs.Common.{◌≡◌, ◌<◌, ◌^◌, ◌∙◌, ◌∷◌, [], ◌++◌, ap, sym, subst, refl, List, Some, None, pos, arith}
use Rattle.std.specs.Prelude.{slice_get}
use Rattle.pi_plan.specs.declared.given.Successor.{Successor}
use Rattle.pi_plan.specs.declared.given.GivenState.{GivenState}
use Rattle.pi_plan.specs.declared.search.Way.{Way}
use Rattle.pi_plan.specs.declared.planner.Stage.{Stage}
use Rattle.pi_plan.specs.Faults.{first_fault}
use Rattle.pi_plan.specs.Searching.{asked_by}
use Rattle.pi_plan.specs.Planner.{wanted_of, IsSoundAt, IsAsking, IsAnswered, asked_at}
use Rattle.pi_plan.proofs.PlannerLemmas.{answered_of}
use Rattle.pi_plan.proofs.StageLemmas.{waiting}
use Rattle.pi_plan.proofs.planner.Planner.give.Goals as goal

pub returns-clause-sound : goal.returns-clause-sound
returns-clause-sound c =
    let asks : IsAsking (wanted_of c.args.self.now) c.args.self.now.given c.args.self.now.search c.in-Asked.way =
    subst (λ (st : Stage). IsSoundAt st (wanted_of c.args.self.now) c.args.self.now.given c.args.self.now.search) c.in-Asked.is c.requires.sound in
    let at : slice_get c.deref.result.now c.in-Asked.way ≡ Some asks.way = ap (λ (ws : List Way). slice_get ws c.in-Asked.way) c.deref.ensures.value ∙ asks.at in
    let bound : asks.way.rest < 2 ^ 127 = omega (arith, asks.within, asks.under.within, asks.under.bounded) in
    let entry : c.in-Ok-entry_of.entry ≡ record { state = asks.way.place.state; rest = pos asks.way.rest; is_final = c.args.is_final; successors = c.args.successors.now } = c.in-Ok-entry_of.ensures asks.way at bound in
    let fit : first_fault c.in-Ok-entry_of.entry.successors ≡ None =
    ap (λ (e : GivenState). first_fault e.successors) entry ∙ (ap (λ (ns : List Successor). first_fault ns) (sym c.as_slice.ensures) ∙ c.in-Ok.ensures.ok) in
    subst (λ (g : List GivenState). IsAnswered (wanted_of c.args.self.now) g c.args.self.now.search c.in-Asked.way) (sym c.in-Ok-push.ensures.ok)
    (answered_of (wanted_of c.args.self.now) c.args.self.now.given c.args.self.now.search c.in-Asked.way c.in-Ok-entry_of.entry asks
    (ap (λ (e : GivenState). e.state) entry) (ap (λ (e : GivenState). e.rest) entry) fit)

pub returns-clause-ok : goal.returns-clause-ok
returns-clause-ok c =
    let asks : IsAsking (wanted_of c.args.self.now) c.args.self.now.given c.args.self.now.search c.in-Asked.way =
    subst (λ (st : Stage). IsSoundAt st (wanted_of c.args.self.now) c.args.self.now.given c.args.self.now.search) c.in-Asked.is c.requires.sound in
    let at : slice_get c.deref.result.now c.in-Asked.way ≡ Some asks.way = ap (λ (ws : List Way). slice_get ws c.in-Asked.way) c.deref.ensures.value ∙ asks.at in
    let bound : asks.way.rest < 2 ^ 127 = omega (arith, asks.within, asks.under.within, asks.under.bounded) in
    let entry : c.in-Ok-entry_of.entry ≡ record { state = asks.way.place.state; rest = pos asks.way.rest; is_final = c.args.is_final; successors = c.args.successors.now } = c.in-Ok-entry_of.ensures asks.way at bound in
    record {
      same = record { wanted = refl; by_rest = refl };
      asked = asked_by asks.way;
      was = subst (λ (st : Stage). asked_at st c.args.self.now.search.ways.items ≡ Some (asked_by asks.way)) (sym c.in-Asked.is)
          (waiting c.args.self.now.search.ways.items c.in-Asked.way asks.way asks.at);
      given = c.in-Ok-push.ensures.ok ∙ ap (λ (e : GivenState). c.args.self.now.given ++ e ∷ []) entry;
      waits = refl;
      ended = refl;
    }
