-- Where the loop begins, what a step is as what comes next, and items that wait.
use Rattle.std.specs.Prelude.{◌≡◌, ◌≢◌, ℕ, zero, suc, ◌==◌, Bool, true, false, ◌<◌, ◌≤◌, List, [], ◌∷◌, ◌++◌, length, drop, Option, Some, None, Result, Ok, Err, Vec, codes, refl}
use Rattle.std.specs.declared.alloc.Global.{Global}
use Rattle.std.proofs.Common.{arith, tests, eqb-true, ◌∙◌, ap, sym, subst, append_assoc, get_or}
use Rattle.std.proofs.Math.Seq.{drop-cons}
use Rattle.std.proofs.lemmas.List.{append-nil}
use Rattle.pi_terms.specs.Tree.{Tree}
use Rattle.pi_constraints.specs.Value.{IsAcyclic}
use Rattle.pi_constraints.specs.State.{next, bindings}
use Rattle.pi_constraints.specs.Store.{Moment, StoreView}
use Rattle.pi_constraints.specs.declared.store.Ref.{Ref}
use Rattle.pi_effects.specs.Answer.{found_or}
use Rattle.pi_effects.specs.Exception.{type_error}
use Rattle.pi_effects.specs.Items.{collection_items}
use Rattle.pi_effects.specs.Collections.{collection_then}
use Rattle.pi_effects.specs.declared.fault.Fault.{Fault}
use Rattle.pi_effects.specs.declared.fault.Stop.{Stop}
use Rattle.pi_effects.specs.Results.{Shows as ShowsAnswer, Stops}
use Rattle.pi_lib_builtin.specs.Items.{HoldsItems}
use Rattle.pi_prop_spec.specs.Operands.{total, no_operand}
use Rattle.pi_prop_spec.specs.PostingSums.{Sum}
use Rattle.pi_prop_spec.specs.Steps.{Refusal, Made, Known, read_operand}
use Rattle.pi_prop_made.specs.declared.stop.SumStop.{SumStop}
use Rattle.pi_prop_made.specs.declared.making.Making.{Making}
use Rattle.pi_prop_made.specs.Making.{Shows}
use Rattle.pi_prop_read.specs.declared.operands.node.Binary.{Binary}
use Rattle.pi_prop_read.specs.declared.operands.frames.Frame.{Frame}
use Rattle.pi_prop_read.specs.declared.operands.frames.Turn.{Turn}
use Rattle.pi_prop_read.specs.declared.operands.stop.OperandStop.{OperandStop}
use Rattle.pi_prop_read.specs.Refs.{tree_of, IsThere, value_at, operand_at, operands_at}
use Rattle.pi_prop_read.specs.OperandNodes.{sum_at}
use Rattle.pi_prop_read.specs.OperandFrames.{back, stacked, FramesAre, AreThere, IsTurn, ShowsTurn, ShowsNext, turn_of}
use Rattle.pi_prop_read.proofs.AfterLemmas.{after_gives}
use Rattle.pi_prop_read.proofs.CollectionLemmas.{are-there, no-sum, sum-of-items}
use Rattle.pi_prop_read.specs.Turns.{next_turn, next_of, ShowsWait}

pub first-turn : (w : Moment) (a : Making) (r : Ref) (m : Made) (fs : List Frame) → fs ≡ [] → IsThere w r → Shows a m → next w.state ≤ m.unused → IsTurn w a (Turn.Read r) fs (read_operand (operand_at w r) m)
unfolding back FramesAre
first-turn w a r m fs none here s l = subst (λ gs. IsTurn w a (Turn.Read r) gs (read_operand (operand_at w r) m)) (sym none) (record {
  made = m;
  shown = s;
  enough = l;
  frames = tt;
  is_here = here;
  goes = after_gives (read_operand (operand_at w r) m);
})

pub next-shown : (w : Moment) (a : Making) (x : Result Sum SumStop) (fs : List Frame) (whole : Result (Known Sum) Refusal) → ShowsTurn w a (turn_of x) fs whole → ShowsNext w a (next_of x) fs whole
next-shown w a (Ok u) fs whole s = s
next-shown w a (Err SumStop.Wide) fs whole s = s
next-shown w a (Err SumStop.Memory) fs whole s = s

pub turn-shown : (w : Moment) (a : Making) (x : Result Turn OperandStop) (fs : List Frame) (whole : Result (Known Sum) Refusal) → ShowsTurn w a x fs whole → ShowsNext w a (next_turn x) fs whole
turn-shown w a (Ok turn) fs whole s = s
turn-shown w a (Err stop) fs whole s = s

-- ---- frames

pub waited : (w : Moment) (a : Making) (x : Result Turn OperandStop) (old new : List Frame) (f : Frame) (q : Ref) (whole : Result (Known Sum) Refusal) → ShowsWait x old new f q → (new ≡ old ++ f ∷ [] → IsTurn w a (Turn.Read q) new whole) → ShowsTurn w a x new whole
waited w a (Ok turn) old new f q whole (is, more) h = subst (λ t. IsTurn w a t new whole) (sym is) (h more)
waited w a (Err (OperandStop.NotLinear r)) old new f q whole s h = absurd s
waited w a (Err OperandStop.Wide) old new f q whole s h = absurd s
waited w a (Err OperandStop.Memory) old new f q whole s h = tt

pub popped : (w : Moment) (a : Making) (u : Sum) (old new : List Frame) (x f : Frame) (whole : Result (Known Sum) Refusal) → old ≡ new ++ x ∷ [] → x ≡ f → IsTurn w a (Turn.Have u) old whole → IsTurn w a (Turn.Have u) (new ++ f ∷ []) whole
popped w a u old new x f whole e is t = subst (λ gs. IsTurn w a (Turn.Have u) gs whole) (e ∙ ap (λ (g : Frame). new ++ g ∷ []) is) t

pub none-left : (fs : List Frame) → length fs ≡ 0 → fs ≡ []
none-left [] e = refl
none-left (f ∷ fs) e = absurd (omega (arith, e))

-- ---- items that wait

pub found-items : (o : Option (List Tree)) (ball : Tree) (ts : List Tree) → found_or o ball (λ us. Ok us) ≡ Ok ts → o ≡ Some ts
found-items None ball ts e = absurd cc
found-items (Some us) ball ts e = cc

pub no-items : (o : Option (List Tree)) (ball raised : Tree) → found_or o ball (λ us. Ok us) ≡ Err raised → o ≡ None
no-items None ball raised e = refl
no-items (Some us) ball raised e = absurd cc

pub sum-shown : {M : Type 0} (v : StoreView M) (q : Ref) (found : Vec Ref Global) → IsAcyclic (bindings v.now.state) → IsThere v.now q → ShowsAnswer (HoldsItems v) v (Ok found) (collection_then v.now.state (tree_of v.now q) (λ ts. Ok ts))
    → (sum_at v.now q ≡ total (operands_at v.now found.items)) × AreThere v.now found.items
sum-shown v q found a here (ts, e, are) =
    (sum-of-items v q (tree_of v.now q) found.items ts a here (found-items (collection_items (bindings v.now.state) (tree_of v.now q)) (type_error (codes "collection") (tree_of v.now q) v.now.state) ts e) are, are-there v found.items ts are)

pub sum-refused : {M : Type 0} (v : StoreView M) (q : Ref) (fault : Fault) → IsAcyclic (bindings v.now.state) → IsThere v.now q → Stops {A = List Tree} v (Stop.Raised fault) (collection_then v.now.state (tree_of v.now q) (λ ts. Ok ts)) → sum_at v.now q ≡ no_operand (value_at v.now q)
sum-refused v q fault a here (ball, e, is) =
    no-sum v q (tree_of v.now q) a here (no-items (collection_items (bindings v.now.state) (tree_of v.now q)) (type_error (codes "collection") (tree_of v.now q) v.now.state) ball e)

-- no item waits yet
pub none-wait : (old : List Frame) (rs : List Ref) (n : ℕ) → length rs ≤ n → old ≡ old ++ stacked (drop n rs)
unfolding stacked
none-wait old rs n l = sym (append-nil old) ∙ ap (λ (qs : List Ref). old ++ stacked qs) (sym (past rs n l))
  where
    past : (rs : List Ref) (n : ℕ) → length rs ≤ n → drop n rs ≡ []
    past [] zero l = refl
    past [] (suc n) l = refl
    past (r ∷ rs) zero l = absurd (omega (arith, l))
    past (r ∷ rs) (suc n) l = past rs n (omega (arith, l))

pub one-waits : (old now new : List Frame) (rs : List Ref) (i n : ℕ) (r : Ref) → n ≡ suc i → i < length rs → r ≡ get_or rs i r → now ≡ old ++ stacked (drop n rs) → new ≡ now ++ Frame.Left Binary.Plus r ∷ [] → new ≡ old ++ stacked (drop i rs)
unfolding stacked
one-waits old now new rs i n r up low is before pushed =
    let f : List Frame = Frame.Left Binary.Plus r ∷ [] in
    let here : drop i rs ≡ r ∷ drop n rs = drop-cons rs i r low ∙ (λ j. sym is j ∷ drop (sym up j) rs) in
    pushed ∙ (ap (λ gs. gs ++ f) before ∙ (append_assoc old (stacked (drop n rs)) f ∙ ap (λ (qs : List Ref). old ++ stacked qs) (sym here)))

-- ---- numbers of arguments

pub so-many : (n k : ℕ) → n ≡ k → (n == k) ≡ true
so-many n k e = grind (arith, tests, e)

pub not-so-many : (n k : ℕ) → n ≢ k → (n == k) ≡ false
not-so-many n k h = by (n == k) refl
  where
    by : (b : Bool) → (n == k) ≡ b → (n == k) ≡ false
    by true e = absurd (h (eqb-true n k e))
    by false e = e
