use Rattle.std.proofs.Common.{◌≡◌, ◌-◌, ◌∙◌, refl, sym, ap, subst}
use Rattle.pi_engine_arenas.specs.declared.run.Now.{Now}
use Rattle.pi_engine_arenas.specs.declared.frames.Point.{Point}
use Rattle.pi_engine_arenas.specs.declared.arenas.Back.{Back}
use Rattle.pi_engine_arenas.specs.declared.arenas.Kind.{Kind}
use Rattle.pi_engine_arenas.specs.declared.arenas.Strict.{Strict}
use Rattle.pi_engine_steps.specs.declared.calls.CallSite.{CallSite}
use Rattle.pi_engine_arenas.specs.Arenas.{view_of, LeavesLevel}
use Rattle.pi_meaning.specs.Machine.Configuration.{Config}
use Rattle.pi_engine_arenas.specs.Frames.{slot_number}
use Rattle.pi_engine_stands.specs.Evaluates.{with_blocks}
use Rattle.pi_engine_stands.specs.Makes.{SilentlyTo}
use Rattle.pi_engine_stands.specs.Stands.{world, Stands}
use Rattle.pi_terms.proofs.OptionLemmas.{none-some, one-some}
use Rattle.pi_engine_stands.proofs.ValueRuns.{ValueRuns, value-runs}
use Rattle.pi_engine_stands.proofs.ValueGiven.{call-there, kind-there, no-other-node, value-given}
use Rattle.pi_engine_steps.proofs.calls.give_value.Goals as goal

pub returns-in_default : goal.returns-in_default
returns-in_default g c = λ node l is_code view names x at.
    let seen = g.S.StateStore.seen in
    let b = view_of c.value.new.run.arenas in
    let w = world l (seen c.args.run.now.store) g.S.StateStore.order (view_of c.args.run.now.arenas) in
    let w1 = world l (seen c.value.new.run.store) g.S.StateStore.order b in
    let it : ValueRuns w w1 c.in_ok-term.term x =
    value-runs w (seen c.value.new.run.store) b c.args.point c.args.step c.args.operand c.args.code.now c.first_slot.result c.in_ok-term.term x at node is_code c.first_slot.ensures c.in_ok-term.ensures.ok in
    absurd (none-some c.in_default.ensures.none (call-there w1 w1.arenas.level it.call refl))

pub returns-in_default-call_site : goal.returns-in_default-call_site
returns-in_default-call_site g c = λ node l is_code view names x at.
    let seen = g.S.StateStore.seen in
    let b = view_of c.value.new.run.arenas in
    let w = world l (seen c.args.run.now.store) g.S.StateStore.order (view_of c.args.run.now.arenas) in
    let w1 = world l (seen c.value.new.run.store) g.S.StateStore.order b in
    let it : ValueRuns w w1 c.in_ok-term.term x =
    value-runs w (seen c.value.new.run.store) b c.args.point c.args.step c.args.operand c.args.code.now c.first_slot.result c.in_ok-term.term x at node is_code c.first_slot.ensures c.in_ok-term.ensures.ok in
    let z = c.in-Some.entry.now in
    let kind = kind-there w1 w1.arenas.level z it.call refl c.in-Some.ensures.some in
    absurd (none-some c.in_default-call_site.is (c.call_site.ensures it.call.place it.call.caller kind))

pub returns-in_default-node : goal.returns-in_default-node
returns-in_default-node g c = λ node l is_code view names x at.
    let seen = g.S.StateStore.seen in
    let b = view_of c.value.new.run.arenas in
    let w = world l (seen c.args.run.now.store) g.S.StateStore.order (view_of c.args.run.now.arenas) in
    let w1 = world l (seen c.value.new.run.store) g.S.StateStore.order b in
    let it : ValueRuns w w1 c.in_ok-term.term x =
    value-runs w (seen c.value.new.run.store) b c.args.point c.args.step c.args.operand c.args.code.now c.first_slot.result c.in_ok-term.term x at node is_code c.first_slot.ensures c.in_ok-term.ensures.ok in
    let z = c.in-Some.entry.now in
    let kind = kind-there w1 w1.arenas.level z it.call refl c.in-Some.ensures.some in
    let site = c.in-Some-call_site.site in
    let same = one-some c.call_site.result site _ c.in-Some-call_site.is (c.call_site.ensures it.call.place it.call.caller kind) in
    let named : z.back.kind ≡ Kind.Strict (Strict.Apply site.place site.base) = kind ∙ ap (λ (q : CallSite). Kind.Strict (Strict.Apply q.place q.base)) (sym same) in
    let found = no-other-node w1 w c.in_ok-term.term x w1.arenas.level site.place site.base z c.args.code.now c.step-called.result it refl c.in-Some.ensures.some named is_code c.step-called.ensures.is in
    absurd (c.in_default-node.not-Apply found.0 found.1 found.2 found.3)

pub returns : goal.returns
returns g c = λ node l is_code view names x at.
    let seen = g.S.StateStore.seen in
    let b = view_of c.value.new.run.arenas in
    let w = world l (seen c.args.run.now.store) g.S.StateStore.order (view_of c.args.run.now.arenas) in
    let w1 = world l (seen c.value.new.run.store) g.S.StateStore.order b in
    let it : ValueRuns w w1 c.in_ok-term.term x =
    value-runs w (seen c.value.new.run.store) b c.args.point c.args.step c.args.operand c.args.code.now c.first_slot.result c.in_ok-term.term x at node is_code c.first_slot.ensures c.in_ok-term.ensures.ok in
    let z = c.in-Some.entry.now in
    let kind = kind-there w1 w1.arenas.level z it.call refl c.in-Some.ensures.some in
    let site = c.in-Some-call_site.site in
    let same = one-some c.call_site.result site _ c.in-Some-call_site.is (c.call_site.ensures it.call.place it.call.caller kind) in
    let named : z.back.kind ≡ Kind.Strict (Strict.Apply site.place site.base) = kind ∙ ap (λ (q : CallSite). Kind.Strict (Strict.Apply q.place q.base)) (sym same) in
    let called = c.step-called.result in
    let d = view_of c.leave-next.new.self in
    let new = c.set.new.self in
    let point : Point = record { place = 0; count = 0; base = site.base; frame = z.back.frame } in
    let next : c.leave-next.result ≡ point = c.leave-next.ensures.result ∙ ap (λ (q : Back). record { place = 0; count = 0; base = q.base; frame = q.frame }) c.to_caller.ensures in
    subst (λ q. (e : Config) × SilentlyTo view l.preds names x e × Stands (world l w1.store g.S.StateStore.order (with_blocks d new)) (Now.Going q) e) (sym next)
    (value-given w1 w d new w1.arenas.level site.place site.base c.in-Apply.field-0 c.in-Apply.field-1 c.in-Apply.into c.first_slot-2.result c.slot_at-slot.result z c.args.code.now called c.in_ok-term.term x view names refl it refl
    c.in-Some.ensures.some named is_code c.step-called.ensures.is c.in-Apply.is (subst (LeavesLevel w1.arenas d (w1.arenas.level - 1)) c.to_caller.ensures c.leave-next.ensures.leaves)
    (c.first_slot-2.ensures ∙ ap (λ (q : Point). slot_number q.base called.first_slot) next) c.slot_at-slot.ensures c.in_ok-set.ensures.ok c.in_ok-set.ensures.kept c.in_ok-set.ensures.keeps c.in_ok-set.ensures.most)
