-- What `::` and `notin` come to, by their right side and the items of their left side.
use Rattle.std.specs.Prelude.{◌≡◌, Bool, true, false, List, Option, Result, Ok, Err, Vec, codes}
use Rattle.std.specs.Result.{IsErrAnd}
use Rattle.std.specs.declared.alloc.Global.{Global}
use Rattle.std.proofs.Common.{sym, ◌∙◌, ap, subst}
use Rattle.pi_terms.specs.Tree.{Tree}
use Rattle.pi_constraints.specs.declared.constraint.Item.{Item}
use Rattle.pi_constraints.specs.declared.domain.Span.{Span}
use Rattle.pi_constraints.specs.declared.store.Ref.{Ref}
use Rattle.pi_constraints.specs.State.{State, bindings}
use Rattle.pi_constraints.specs.Store.{StoreView}
use Rattle.pi_effects.specs.Answer.{Answer}
use Rattle.pi_effects.specs.Effect.{succeeds_in}
use Rattle.pi_effects.specs.Exception.{type_error}
use Rattle.pi_effects.specs.Results.{ShowsSame}
use Rattle.pi_effects.specs.declared.fault.Stop.{Stop}
use Rattle.pi_lib.specs.Outcomes.{ShowsOutcome, outcome_of}
use Rattle.pi_lib.specs.declared.predicates.Outcome.{Outcome}
use Rattle.pi_settling.specs.Asked.{Flat, flat_items}
use Rattle.pi_settling.specs.Within.{each_item, left_side, by_domain}
use Rattle.pi_lib_constraints.specs.Kept.{AreRefsOf, IsLeft}
use Rattle.pi_lib_constraints.specs.Flattened.{ShowsFlat}
use Rattle.pi_lib_constraints.proofs.KeepLemmas.{Step}
use Rattle.pi_lib_constraints.proofs.PostLemmas.{stays_none}

-- what is raised in place of the right side
pub side-raised : {M : Type 0} (v : StoreView M) (t : Tree) (a : Answer (List Span)) (f : List Span → Step) (stop : Stop) (result : Result Outcome Stop) → IsErrAnd result (λ e. e ≡ stop) → ShowsSame v (Err stop) a → ShowsOutcome v v result (by_domain v.now.state t a f)
side-raised v t a f stop (Ok x) is shows = absurd is
side-raised v t a f (Stop.Raised fault) (Err other) is (ball, e, told) = subst (λ (s : Stop). ShowsOutcome v v (Err s) (by_domain v.now.state t a f)) (sym is) (ball, ap (λ (b : Answer (List Span)). by_domain v.now.state t b f) e, told, stays_none v)
side-raised v t a f Stop.Memory (Err other) is shows = subst (λ (s : Stop). ShowsOutcome v v (Err s) (by_domain v.now.state t a f)) (sym is) tt

-- a term of the left side that is none
pub left-raised : {M : Type 0} (v : StoreView M) (t : Tree) (a : Answer (List Span)) (d : List Span) (f : List Span → Step) (stop : Stop) (result : Result Outcome Stop) → IsErrAnd result (λ e. e ≡ stop) → a ≡ Ok d → ShowsFlat v (Err stop) (flat_items (bindings v.now.state) t) →
    ShowsOutcome v v result (by_domain v.now.state t a f)
left-raised v t a d f stop (Ok x) is e shows = absurd is
left-raised v t a d f (Stop.Raised fault) (Err other) is e (u, none, told) =
    let s : State = v.now.state in
    subst (λ (p : Stop). ShowsOutcome v v (Err p) (by_domain s t a f)) (sym is) (
      type_error (codes "integer") u s,
      ap (λ (b : Answer (List Span)). by_domain s t b f) e ∙ ap (λ (x : Flat). left_side s x (f d)) none,
      told,
      stays_none v,
    )
left-raised v t a d f Stop.Memory (Err other) is e shows = subst (λ (p : Stop). ShowsOutcome v v (Err p) (by_domain v.now.state t a f)) (sym is) tt

left-shown : {M : Type 0} (v w : StoreView M) (some : Bool) (o : Option State) → IsLeft some w.now.state o → ShowsOutcome v w (Ok (outcome_of some)) (succeeds_in o)
left-shown v w true o h = ap succeeds_in h
left-shown v w false o h = ap succeeds_in h

pub goal-shown : {M : Type 0} (v w : StoreView M) (t : Tree) (a : Answer (List Span)) (d : List Span) (f : List Span → Step) (g : Step) (found : Vec Ref Global) (lent : List Ref) (some : Bool) (told : Outcome) → a ≡ Ok d → ShowsFlat v (Ok found) (flat_items (bindings v.now.state) t) →
    lent ≡ found.items → ((xs : List Item) → AreRefsOf v lent xs → IsLeft some w.now.state (each_item g xs v.now.state)) → ((xs : List Item) → each_item g xs v.now.state ≡ each_item (f d) xs v.now.state) → told ≡ outcome_of some →
    ShowsOutcome v w (Ok told) (by_domain v.now.state t a f)
goal-shown v w t a d f g found lent some told e (xs, is, are) same left agree so =
    let s : State = v.now.state in
    let whole : by_domain s t a f ≡ succeeds_in (each_item (f d) xs s) = ap (λ (b : Answer (List Span)). by_domain s t b f) e ∙ ap (λ (x : Flat). left_side s x (f d)) is in
    let kept : IsLeft some w.now.state (each_item (f d) xs s) = subst (IsLeft some w.now.state) (agree xs) (left xs (subst (λ (rs : List Ref). AreRefsOf v rs xs) (sym same) are)) in
    subst (λ (x : Outcome). ShowsOutcome v w (Ok x) (by_domain s t a f)) (sym so) (subst (ShowsOutcome v w (Ok (outcome_of some))) (sym whole) (left-shown v w some (each_item (f d) xs s) kept))
