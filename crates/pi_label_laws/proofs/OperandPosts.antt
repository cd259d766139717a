-- What the reading of an operand by itself posts in a state.
use Rattle.std.specs.Prelude.{◌≡◌, ℕ, ◌+◌, ◌-◌, ◌<◌, ◌≤◌, List, None, Contains, Ok}
use Rattle.std.proofs.Common.{arith, sym, subst}
use Rattle.pi_terms.specs.Tree.{Tree}
use Rattle.pi_terms.specs.Variables.{Occurs}
use Rattle.pi_constraints.specs.declared.constraint.Constraint.{Constraint}
use Rattle.pi_constraints.specs.declared.constraint.Item.{Item}
use Rattle.pi_constraints.specs.Constraint.{SpeaksOf, IsWithinLimits}
use Rattle.pi_constraints.specs.Value.{value}
use Rattle.pi_constraints.specs.State.{State, bindings, next, SpeaksBelow, IsState}
use Rattle.pi_prop_spec.specs.Terms.{operand_of}
use Rattle.pi_prop_spec.specs.PostingSums.{Sum}
use Rattle.pi_prop_spec.specs.Steps.{Known, read_operand}
use Rattle.pi_prop_spec.specs.Limits.{first_refusal}
use Rattle.pi_prop_spec.specs.Says.{operand_value}
use Rattle.pi_prop_spec.specs.Postings.{Posting, nothing_made}
use Rattle.pi_prop_spec.proofs.GrowLemmas.{AreFormed}
use Rattle.pi_prop_spec.proofs.LimitLemmas.{all_kept}
use Rattle.pi_prop_spec.proofs.OperandLemmas.{SumRead, operand-read}
use Rattle.pi_prop_spec.proofs.TermLemmas.{operand-below}
use Rattle.pi_settling.specs.SettlingLaws.{MaySettle}
use Rattle.pi_settling.specs.Posted.{posted_in}
use Rattle.pi_settling.specs.CalmLaws.{MaySettleAfter}
use Rattle.pi_settling.proofs.CalmReads.{AllOnly}
use Rattle.pi_label_laws.specs.LabelledLaws.{AreAmong}
use Rattle.pi_label_laws.specs.ReadingLaws.{IsMadeBy}
use Rattle.pi_label_laws.proofs.NewGoals.{new_variables_of_operands_are_made}
use Rattle.pi_label_laws.proofs.OperandReads.{operand-reads}
use Rattle.pi_label_laws.proofs.PostsAfter.{IsFree, posted-after}
use Rattle.pi_label_laws.proofs.LabelledLemmas.{PostsNew}
use Rattle.pi_label_laws.proofs.PostedLemmas.{value-below, posted-roots, posted-constraints, posted-made, only-at, IsOf, past-of, value-of}

-- what an operand was read to
pub record OperandWasRead (s : State) (t : Tree) (p : Posting) : Type 0 where
  pub known : Known Sum
  pub read : read_operand (operand_of (value (bindings s) t)) (nothing_made (next s)) ≡ Ok known
  pub kept : first_refusal known.made.constraints ≡ None
  pub fresh : known.made.unused - next s ≡ p.fresh
  pub list : known.made.constraints ≡ p.list

formed-nothing : (n : ℕ) → AreFormed n (nothing_made n).constraints
unfolding AreFormed
formed-nothing n = tt

pub operand-sum : (s : State) (t : Tree) (p : Posting) → IsState s → SpeaksBelow (next s) t → (w : OperandWasRead s t p) → SumRead (nothing_made (next s)) w.known (λ a. operand_value a (operand_of (value (bindings s) t)))
operand-sum s t p is below w = operand-read (next s) (operand_of (value (bindings s) t)) (nothing_made (next s)) w.known (operand-below (next s) (value (bindings s) t) (value-below s t is below)) (omega arith) w.read

operand-may : (s : State) (t : Tree) (p : Posting) → IsState s → SpeaksBelow (next s) t → OperandWasRead s t p → (c : Constraint) → Contains p.list c → IsWithinLimits c × ((m : ℕ) → SpeaksOf c m → m < next s + p.fresh)
operand-may s t p is below w c at =
    let r = operand-sum s t p is below w in
    let kept = all_kept w.known.made.unused w.known.made.constraints c (r.grows.formed (formed-nothing (next s))) w.kept (subst (λ (cs : List Constraint). Contains cs c) (sym w.list) at) in
    (kept.0, λ m o. let l : m < w.known.made.unused = kept.1 m o in let more : next s ≤ w.known.made.unused = r.grows.more in let many = w.fresh in omega (arith, l, more, many))

operand-only : (Q : ℕ → Type 0) (s : State) (t : Tree) (p : Posting) → OperandWasRead s t p → ((m : ℕ) → Occurs m (value (bindings s) t) → Q m) → ((m : ℕ) → next s ≤ m → Q m) → AllOnly Q p.list
unfolding AllOnly
operand-only Q s t p w old new = subst (AllOnly Q) w.list ((operand-reads Q (value (bindings s) t) old).each (nothing_made (next s)) w.known (tt, new) w.read).0.0

pub operand-posts : (s : State) (items : List Item) (t : Tree) (p : Posting) → IsState s → MaySettle s → SpeaksBelow (next s) t → AreAmong s items t → OperandWasRead s t p → PostsNew s (posted_in s p) items p.list
operand-posts s items t p is may below among w =
    let u : Tree = value (bindings s) t in
    let all : AllOnly (IsOf s u) p.list = operand-only (IsOf s u) s t p w (value-of s t is) (past-of s u) in
    let none : AllOnly (IsFree s) p.list = operand-only (IsFree s) s t p w (λ m o. (value-of s t is m o).0) (λ m past. (past-of s u m past).0) in
    let after : MaySettleAfter s (posted_in s p) = posted-after s p (record { state = is; settles = may; may = operand-may s t p is below w; none = none }) in
    let more : next s ≤ w.known.made.unused = (operand-sum s t p is below w).grows.more in
    record {
      after = after;
      roots = posted-roots s p is;
      constraints = posted-constraints s p is;
      free = λ c v at place. (only-at (IsOf s u) p.list c v all at place).0;
      old = λ c v at place l. among v ((only-at (IsOf s u) p.list c v all at place).1 l);
      made = λ c v at place new.
          subst (λ (cs : List Constraint). IsMadeBy cs v) w.list
          (new_variables_of_operands_are_made (next s) u w.known (value-below s t is below) w.read v new
          (let high = posted-made s p c v is after ((only-at (IsOf s u) p.list c v all at place).0) at place in let many = w.fresh in omega (arith, more, many, high)));
    }
