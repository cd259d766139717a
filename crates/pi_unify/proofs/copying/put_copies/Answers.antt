use Rattle.std.proofs.Common.{◌≡◌, ◌-◌, ◌<◌, ℕ, suc, List, [], ◌∷◌, length, get_or, ap, sym, ◌∙◌, refl, subst, arith, length-append}
use Rattle.std.proofs.lemmas.List.{get_or_default}
use Rattle.pi_terms.specs.Copy.{renamed}
use Rattle.pi_constraints.specs.Store.{IsTerm}
use Rattle.pi_constraints.specs.declared.store.Ref.{Ref}
use Rattle.pi_unify.specs.Copying.{renumbered, AreListed, MayCopy}
use Rattle.pi_unify.proofs.KeepsLemmas.{keeps_none, stays_then}
use Rattle.pi_unify.proofs.CopyingLemmas.{Copying, PutsNext, none_copied, may_copy, one_copied, all_copied}
use Rattle.pi_unify.proofs.BindLemmas.{if_err}
use Rattle.pi_unify.proofs.copying.put_copies.Goals as goal

pub loop-i-init : goal.loop-i-init
loop-i-init g c =
    let v = g.S.StateStore.seen c.args.s.now in
    record {
      stays = record { keeps = keeps_none v; state = refl };
      within = omega arith;
      some = λ h. absurd (omega arith);
      known = λ listed. refl;
      copying = λ listed. none_copied v c.args.numbers.now c.args.refs.now (length c.args.refs.now) c.new-built.result.items refl c.new-built.ensures.items;
    }

pub loop-i-preserved : goal.loop-i-preserved
loop-i-preserved g c =
    let v = g.S.StateStore.seen c.args.s.now in
    let w = g.S.StateStore.seen c.loop-i.s in
    let x = g.S.StateStore.seen c.put_copy.new.s in
    let ns = c.args.numbers.now in
    let refs = c.args.refs.now in
    let i = c.loop-i.i - 1 in
    let built = c.loop-i.built.items in
    let none : Ref = record { number = 0 } in
    let r : Ref = get_or refs i none in
    let within : i < length refs = omega (arith, c.loop-i.invariant.within) in
    let is : r ≡ get_or refs i r = get_or_default refs i none r within in
    let next : c.loop-i.i ≡ suc i = omega arith in
    let may : AreListed v ns refs → MayCopy w c.loop-i.numbers built r = λ listed.
    subst (λ (ms : List ℕ). MayCopy w ms built r) (sym (c.loop-i.invariant.known listed))
    (may_copy v w ns refs i r built listed (subst (λ (k : ℕ). Copying v w ns refs k built) next (c.loop-i.invariant.copying listed)) is) in
    record {
      stays = stays_then v w x v.now.state c.loop-i.invariant.stays c.put_copy.ensures.stays;
      within = omega (arith, within);
      some = λ h. omega (arith, ap length c.in_ok-push.ensures.items, length-append c.put_copy.new.built.items (c.in_ok-made.made ∷ []));
      known = λ listed. c.in_ok-made.ensures.known (may listed) ∙ c.loop-i.invariant.known listed;
      copying = λ listed.
          let put : Copying v w ns refs (suc i) built = subst (λ (k : ℕ). Copying v w ns refs k built) next (c.loop-i.invariant.copying listed) in
          let puts = subst (λ (ms : List ℕ). PutsNext w x ms r built c.put_copy.new.built.items c.in_ok-made.made) (c.loop-i.invariant.known listed) (λ ts. c.in_ok-made.ensures.ok ts (may listed)) in
          one_copied v w x ns refs i r built c.put_copy.new.built.items c.push.new.self.items c.in_ok-made.made listed.nested listed.given put is c.put_copy.ensures.stays puts c.in_ok-push.ensures.items;
    }

pub returns-clause-ok : goal.returns-clause-ok
returns-clause-ok g c = λ u listed is.
    let v = g.S.StateStore.seen c.args.s.now in
    let w = g.S.StateStore.seen c.loop-i.s in
    let none : c.loop-i.i ≡ 0 = omega arith in
    let one = all_copied v w c.args.numbers.now c.args.refs.now c.loop-i.i c.loop-i.built.items u none (c.loop-i.invariant.copying listed) is in
    let same : c.index.result.now ≡ one.0 = c.index.ensures ∙ ap (λ rs. get_or rs 0 c.index.result.now) one.1 in
    subst (λ (q : Ref). IsTerm w q (renamed (renumbered v.now.state c.args.numbers.now) u)) (sym same) one.2

pub returns-in_err-made-clause-stays : goal.returns-in_err-made-clause-stays
returns-in_err-made-clause-stays g c =
    let v = g.S.StateStore.seen c.args.s.now in
    stays_then v (g.S.StateStore.seen c.loop-i.s) (g.S.StateStore.seen c.put_copy.new.s) v.now.state c.loop-i.invariant.stays c.put_copy.ensures.stays

pub returns-in_err-made-clause-ok : goal.returns-in_err-made-clause-ok
returns-in_err-made-clause-ok g c = if_err c.from_residual.result _ c.from_residual.ensures.0

pub returns-in_err-push-clause-stays : goal.returns-in_err-push-clause-stays
returns-in_err-push-clause-stays g c =
    let v = g.S.StateStore.seen c.args.s.now in
    stays_then v (g.S.StateStore.seen c.loop-i.s) (g.S.StateStore.seen c.put_copy.new.s) v.now.state c.loop-i.invariant.stays c.put_copy.ensures.stays

pub returns-in_err-push-clause-ok : goal.returns-in_err-push-clause-ok
returns-in_err-push-clause-ok g c = if_err c.from_residual-in_err-push.result _ c.from_residual-in_err-push.ensures.0

pub returns-clause-stays : goal.returns-clause-stays
returns-clause-stays g c = c.loop-i.invariant.stays
