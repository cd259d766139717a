use Rattle.std.proofs.Common.{◌≡◌, ◌<◌, ◌≤◌, ◌+◌, ◌++◌, ◌∷◌, [], length, ◌∙◌, ap, sym, arith, subst}
use Rattle.pi_unify.specs.declared.matching.Pending.{Pending}
use Rattle.pi_unify.specs.declared.matching.Arguments.{Arguments}
use Rattle.pi_unify.specs.Matching.{IsWithin, AreWithin, IsLeft, AreLeft}
use Rattle.pi_unify.proofs.MatchingLemmas.{within_but_last, left_but_last, IsPattern, pattern_is, IsNext, next_is, after, leaves_more, leaves_last, takes_more, takes_last, none_following}
use Rattle.pi_unify.proofs.BindLemmas.{if_err}
use Rattle.pi_unify.proofs.matching.next_argument.Goals as goal
use Rattle.pi_unify.proofs.matching.next_argument.Goals.{in-Some-following+in_ok-push, in_default-following}

pub following-requires : goal.following-requires
following-requires g c = (within_but_last c.pop.new.self.items c.in-Some.first (subst AreWithin c.in-Some.ensures.items c.requires.within)).1.within

pub pattern_at-requires : goal.pattern_at-requires
pattern_at-requires g c =
    let f = c.in-Some.first in
    let here : IsWithin f = (within_but_last c.pop.new.self.items f (subst AreWithin c.in-Some.ensures.items c.requires.within)).1 in
    let within : f.next < f.count = here.within in
    let count : f.count ≡ length f.patterns.now = here.count in
    omega arith

pub returns-clause-nodes : goal.returns-clause-nodes
returns-clause-nodes g c =
    let f = c.in-Some.first in
    let fs = c.pop.new.self.items in
    let was : c.args.left.now.items ≡ fs ++ f ∷ [] = c.in-Some.ensures.items in
    let here : IsWithin f = (within_but_last fs f (subst AreWithin was c.requires.within)).1 in
    let p : Pending = record { pattern = c.pattern_at.result; term = c.arg.result } in
    let at : IsPattern f p = pattern_is f p here c.pattern_at.ensures in
    elim c.match-following.branch [
      | in-Some-following+in_ok-push w ↦
          let k = w.in-Some-following.next in
          let told : (k ≡ f.next + 1) × (k < f.count) = w.in-Some-following.ensures in
          let pushed : c.match-following.left.items ≡ fs ++ after f ∷ [] =
          ap (λ r. r.items) w.left-is ∙ (w.in_ok-push.ensures.items
          ∙ ap (λ n. fs ++ (let x : Arguments = record { patterns = f.patterns; of = f.of; next = n; count = f.count } in x) ∷ []) told.0) in
          leaves_more c.args.left.now.items fs c.match-following.left.items f p was pushed c.requires.within (let e : k ≡ f.next + 1 = told.0 in let l : k < f.count = told.1 in omega arith) at
      | in_default-following w ↦
          let is : c.match-following.left.items ≡ fs = ap (λ r. r.items) w.left-is in
          let last : f.count ≤ f.next + 1 = none_following c.following.result f.next f.count c.following.ensures w.in_default-following.not-Some in
          leaves_last c.args.left.now.items c.match-following.left.items f p (was ∙ ap (λ rs. rs ++ f ∷ []) (sym is)) c.requires.within last at
    ]

pub returns-clause-takes : goal.returns-clause-takes
returns-clause-takes g c = λ a all.
    let v = g.S.StateStore.seen c.args.s.now in
    let f = c.in-Some.first in
    let fs = c.pop.new.self.items in
    let was : c.args.left.now.items ≡ fs ++ f ∷ [] = c.in-Some.ensures.items in
    let own : IsWithin f = (within_but_last fs f (subst AreWithin was c.requires.within)).1 in
    let here : IsLeft v f = (left_but_last v fs f (subst (AreLeft v) was all)).1 in
    let p : Pending = record { pattern = c.pattern_at.result; term = c.arg.result } in
    let next : IsNext v f p = next_is v f p a own here c.pattern_at.ensures c.arg.ensures in
    elim c.match-following.branch [
      | in-Some-following+in_ok-push w ↦
          let k = w.in-Some-following.next in
          let told : (k ≡ f.next + 1) × (k < f.count) = w.in-Some-following.ensures in
          let pushed : c.match-following.left.items ≡ fs ++ after f ∷ [] =
          ap (λ r. r.items) w.left-is ∙ (w.in_ok-push.ensures.items
          ∙ ap (λ n. fs ++ (let x : Arguments = record { patterns = f.patterns; of = f.of; next = n; count = f.count } in x) ∷ []) told.0) in
          takes_more v c.args.left.now.items fs c.match-following.left.items f p was pushed all next
      | in_default-following w ↦
          let is : c.match-following.left.items ≡ fs = ap (λ r. r.items) w.left-is in
          let last : f.count ≤ f.next + 1 = none_following c.following.result f.next f.count c.following.ensures w.in_default-following.not-Some in
          takes_last v c.args.left.now.items c.match-following.left.items f p (was ∙ ap (λ rs. rs ++ f ∷ []) (sym is)) own all last next
    ]

pub returns-in_err-push-clause-nodes : goal.returns-in_err-push-clause-nodes
returns-in_err-push-clause-nodes g c = if_err c.from_residual.result _ c.from_residual.ensures.0

pub returns-in_err-push-clause-takes : goal.returns-in_err-push-clause-takes
returns-in_err-push-clause-takes g c = if_err c.from_residual.result _ c.from_residual.ensures.0
