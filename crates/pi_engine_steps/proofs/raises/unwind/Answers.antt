use Rattle.std.proofs.Common.{refl, sym, subst}
use Rattle.std.proofs.lemmas.Result.{IfOk-weaker}
use Rattle.pi_engine_arenas.specs.Arenas.{view_of}
use Rattle.pi_engine_stands.specs.Stands.{world}
use Rattle.pi_engine_stands.specs.Raises.{IsDropped}
use Rattle.pi_engine_stands.proofs.BackStand.{nothing-there}
use Rattle.pi_engine_stands.proofs.RaisesStand.{raise-none}
use Rattle.pi_engine_steps.proofs.raises.unwind.Goals as goal

pub returns-in_default : goal.returns-in_default
returns-in_default g c = λ l is_code ball es raising stands balanced.
    let w = world l (g.S.StateStore.seen c.args.run.now.store) g.S.StateStore.order (view_of c.args.run.now.arenas) in
    raise-none (world l (g.S.StateStore.seen c.end_raised.new.run.store) g.S.StateStore.order (view_of c.end_raised.new.run.arenas)) c.end_raised.new.run.now ball es (nothing-there w es stands c.in_default.ensures.none) (c.end_raised.ensures ball raising)

pub returns-in-Catch : goal.returns-in-Catch
returns-in-Catch g c = IfOk-weaker c.try_catch.result _ _ (λ _ so l is_code. so l is_code c.in-Some.entry.now c.in-Some.ensures.some c.in-Catch.is) c.try_catch.ensures

pub returns-in-Exit : goal.returns-in-Exit
returns-in-Exit g c = λ l is_code ball es raising stands balanced. c.pass_left.ensures l c.in-Exit.is c.in-Some.entry.now c.in-Some.ensures.some refl ball es raising stands balanced

pub returns-in-Rules : goal.returns-in-Rules
returns-in-Rules g c = λ l is_code ball es raising stands balanced. c.drop_entry.ensures l (subst IsDropped (sym c.in-Rules.is) tt) c.in-Some.entry.now c.in-Some.ensures.some refl ball es raising stands balanced

pub returns-in-Facts : goal.returns-in-Facts
returns-in-Facts g c = λ l is_code ball es raising stands balanced. c.drop_entry-in-Facts.ensures l (subst IsDropped (sym c.in-Facts.is) tt) c.in-Some.entry.now c.in-Some.ensures.some refl ball es raising stands balanced

pub returns-in-Branches : goal.returns-in-Branches
returns-in-Branches g c = λ l is_code ball es raising stands balanced. c.drop_entry-in-Branches.ensures l (subst IsDropped (sym c.in-Branches.is) tt) c.in-Some.entry.now c.in-Some.ensures.some refl ball es raising stands balanced

pub returns-in-Alternatives : goal.returns-in-Alternatives
returns-in-Alternatives g c = λ l is_code ball es raising stands balanced. c.drop_entry-in-Alternatives.ensures l (subst IsDropped (sym c.in-Alternatives.is) tt) c.in-Some.entry.now c.in-Some.ensures.some refl ball es raising stands balanced

pub returns-in-Strict : goal.returns-in-Strict
returns-in-Strict g c = λ l is_code ball es raising stands balanced. c.drop_entry-in-Strict.ensures l (subst IsDropped (sym c.in-Strict.is) tt) c.in-Some.entry.now c.in-Some.ensures.some refl ball es raising stands balanced
