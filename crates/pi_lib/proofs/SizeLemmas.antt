-- From sizes and what is made of them to the effect of the whole.
use Rattle.std.proofs.Common.{◌≡◌, ℕ, ◌<◌, ◌≤◌, cond, List, Some, None, Ok, Err, refl, ap, sym, ◌∙◌, subst, arith, lt-ltb}
use Rattle.std.specs.Prelude.{Option, Result, ℤ, pos, negsuc, ◌<ℤ◌, ◌≤ℤ◌, unsigned_abs}
use Rattle.std.proofs.lemmas.Int.{ints}
use Rattle.pi_terms.specs.Tree.{Tree, int}
use Rattle.pi_terms.proofs.OptionLemmas.{not-less}
use Rattle.pi_constraints.specs.State.{State, bindings, next, followed}
use Rattle.pi_constraints.specs.Store.{StoreView, IsTerm, ShowsCell, Gives as GivesTerm}
use Rattle.pi_constraints.specs.declared.store.Cell.{Cell}
use Rattle.pi_constraints.specs.Evaluation.{with_new_variables}
use Rattle.pi_constraints.specs.declared.store.Ref.{Ref}
use Rattle.pi_unify.specs.Copying.{with_variables}
use Rattle.pi_effects.specs.Effect.{FunctionEffect, Gives, Refuses}
use Rattle.pi_effects.specs.Exception.{bad_index, range_too_long}
use Rattle.pi_effects.specs.Answer.{Answer, or_raised}
use Rattle.pi_effects.specs.Ranges.{most_items}
use Rattle.pi_effects.specs.Making.{size_at, size_or_raised, size_then, so_many, new_from, new_items}
use Rattle.pi_effects.specs.declared.fault.Fault.{Fault}
use Rattle.pi_effects.specs.declared.fault.Stop.{Stop}
use Rattle.pi_effects.specs.Results.{Stops, ShowsEffect}
use Rattle.pi_lib.proofs.StoreLemmas.{news-are, stays_none}

-- ---- a size, or what is raised in its place

size_refused : (o : Option ℕ) (none ball : Tree) (f : ℕ → FunctionEffect) → or_raised o none ≡ Err ball → size_or_raised o none f ≡ Refuses ball
size_refused None none ball f e = cc
size_refused (Some n) none ball f e = cc

size_found : (o : Option ℕ) (none : Tree) (f : ℕ → FunctionEffect) (n : ℕ) → or_raised o none ≡ Ok n → size_or_raised o none f ≡ f n
size_found None none f n e = cc
size_found (Some m) none f n e = cc

-- what an argument of a store comes to as a size
abbrev pub size_in : {M : Type 0} → StoreView M → Tree → Answer ℕ
size_in v t = or_raised (size_at (followed (bindings v.now.state) t)) (bad_index t v.now.state)

pub size_is : {M : Type 0} (v : StoreView M) (t : Tree) (f : ℕ → FunctionEffect) (n : ℕ) → size_in v t ≡ Ok n → size_then v.now.state t f ≡ f n
size_is v t f n e = size_found (size_at (followed (bindings v.now.state) t)) (bad_index t v.now.state) f n e

pub size_stops : {M : Type 0} (v : StoreView M) (stop : Stop) (t : Tree) (f : ℕ → FunctionEffect) → Stops v stop (size_in v t) → ShowsEffect v v (Err stop) (size_then v.now.state t f)
size_stops v (Stop.Raised fault) t f h = (h.0, size_refused (size_at (followed (bindings v.now.state) t)) (bad_index t v.now.state) h.0 f h.1, h.2, stays_none v)
size_stops v Stop.Memory t f h = h

-- ---- so many items, or too many

pub few_are : (n : ℕ) (e : FunctionEffect) → n ≤ most_items → so_many n e ≡ e
few_are n e few = ap (λ q. cond q (Refuses range_too_long) e) (not-less most_items n few)

pub many_stop : {M : Type 0} (v : StoreView M) (stop : Stop) (n : ℕ) (e : FunctionEffect) → stop ≡ Stop.Raised Fault.RangeTooLong → most_items < n → ShowsEffect v v (Err stop) (so_many n e)
many_stop v stop n e is many =
    subst (λ (x : Stop). ShowsEffect v v (Err x) (so_many n e)) (sym is)
    (range_too_long, ap (λ q. cond q (Refuses range_too_long) e) (lt-ltb most_items n many), refl, stays_none v)

-- ---- the effect of the whole

pub effect_is : {M : Type 0} (v w : StoreView M) (result : Result Ref Stop) (e other : FunctionEffect) → e ≡ other → ShowsEffect v w result other → ShowsEffect v w result e
effect_is v w result e other is h = subst (ShowsEffect v w result) (sym is) h

pub gives_so : {M : Type 0} (v w : StoreView M) (k : ℕ) (made : Ref) (t : Tree) (e : FunctionEffect) → e ≡ Gives t (with_new_variables k v.now.state) → GivesTerm v w (with_variables k v.now.state) made t → ShowsEffect v w (Ok made) e
gives_so v w k made t e is gives = (t, with_new_variables k v.now.state, is, subst (λ (s : State). GivesTerm v w s made t) (news-are k v.now.state) gives)

-- ---- sizes as a store shows them

pub size_none : {M : Type 0} (v : StoreView M) (r : Ref) (t : Tree) → IsTerm v r t → size_at (followed (bindings v.now.state) t) ≡ None → Stops v (Stop.Raised (Fault.BadIndex r)) (size_in v t)
size_none v r t is none = (bad_index t v.now.state, ap (λ o. or_raised o (bad_index t v.now.state)) none, (t, is, refl))

no_integer : {M : Type 0} (v : StoreView M) (u : Tree) (c : Cell) → ((n : ℤ) → c ≡ Cell.Int n → ⊥) → ShowsCell v u c → size_at u ≡ None
no_integer v u (Cell.Var n) other shows = ap size_at shows
no_integer v u (Cell.Int n) other shows = absurd (other n refl)
no_integer v u (Cell.Atom k) other shows = ap size_at shows.2
no_integer v u (Cell.Comp k count) other shows = ap size_at shows.2

pub not_integer : {M : Type 0} (v : StoreView M) (r : Ref) (t : Tree) (c : Cell) → IsTerm v r t → ((n : ℤ) → c ≡ Cell.Int n → ⊥) → ShowsCell v (followed (bindings v.now.state) t) c → Stops v (Stop.Raised (Fault.BadIndex r)) (size_in v t)
not_integer v r t c is other shows = size_none v r t is (no_integer v (followed (bindings v.now.state) t) c other shows)

below_zero : (n : ℤ) → n <ℤ pos 0 → size_at (int n) ≡ None
below_zero (pos m) h = absurd (omega (arith, ints))
below_zero (negsuc m) h = refl

pub negative : {M : Type 0} (v : StoreView M) (r : Ref) (t : Tree) (n : ℤ) → IsTerm v r t → n <ℤ pos 0 → followed (bindings v.now.state) t ≡ int n → Stops v (Stop.Raised (Fault.BadIndex r)) (size_in v t)
negative v r t n is less e = size_none v r t is (ap size_at e ∙ below_zero n less)

from_zero : (n : ℤ) (m : ℕ) → pos 0 ≤ℤ n → m ≡ unsigned_abs n → size_at (int n) ≡ Some m
from_zero (pos k) m h e = ap Some (sym e)
from_zero (negsuc k) m h e = absurd (omega (arith, ints))

pub natural : {M : Type 0} (v : StoreView M) (t : Tree) (n : ℤ) (m : ℕ) → pos 0 ≤ℤ n → m ≡ unsigned_abs n → followed (bindings v.now.state) t ≡ int n → size_in v t ≡ Ok m
natural v t n m least e is = ap (λ o. or_raised o (bad_index t v.now.state)) (ap size_at is ∙ from_zero n m least e)

-- ---- lists and arrays of new variables

pub items_given : {M : Type 0} (v w : StoreView M) (make : List Tree → Tree) (t : Tree) (n count : ℕ) (made : Ref) → size_in v t ≡ Ok n → count ≡ n → count ≤ most_items → GivesTerm v w (with_variables count v.now.state) made (make (new_from (next v.now.state) count)) → ShowsEffect v w (Ok made) (new_items make v.now.state t)
items_given v w make t n count made size e few gives =
    let s : State = v.now.state in
    let given : ℕ → FunctionEffect = λ k. Gives (make (new_from (next s) k)) (with_new_variables k s) in
    let is : new_items make s t ≡ given count =
    size_is v t (λ k. so_many k (given k)) n size ∙ (ap (λ k. so_many k (given k)) (sym e) ∙ few_are count (given count) few) in
    gives_so v w count made (make (new_from (next s) count)) (new_items make s t) is gives

pub items_stop : {M : Type 0} (v : StoreView M) (make : List Tree → Tree) (t : Tree) (n : ℕ) (stop : Stop) → size_in v t ≡ Ok n → stop ≡ Stop.Raised Fault.RangeTooLong → most_items < n → ShowsEffect v v (Err stop) (new_items make v.now.state t)
items_stop v make t n stop size is many =
    let s : State = v.now.state in
    let given : ℕ → FunctionEffect = λ k. Gives (make (new_from (next s) k)) (with_new_variables k s) in
    effect_is v v (Err stop) (new_items make s t) (so_many n (given n)) (size_is v t (λ k. so_many k (given k)) n size) (many_stop v stop n (given n) is many)
