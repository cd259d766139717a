-- What remains of a run: the trace of what runs, and around it what the entries of the stack make of it, from the newest
-- outwards. All goals that the machine still has to run do so at one level.
use Rattle.std.specs.Prelude.{ℕ, zero, suc, ◌+◌, ℤ, pos, Bool, true, false, List, [], ◌∷◌, ◌++◌, Option, Some, None, codes, slice_set}
use Rattle.pi_terms.specs.Tree.{Tree, Trees, int}
use Rattle.pi_terms.specs.Places.{Places, held}
use Rattle.pi_constraints.specs.State.{State}
use Rattle.pi_core.specs.GoalTree.{GoalTree, GoalTrees}
use Rattle.pi_core.specs.CoreTree.{ClauseTree, PredTree, leaves_others}
use Rattle.pi_traces.specs.Trace.{Trace, end, note, Raise, Out, done, one, alt, then, first}
use Rattle.pi_traces.specs.Control.{negated, chosen, collected, counted, caught}
use Rattle.pi_meaning.specs.Shared.View.{View}
use Rattle.pi_meaning.specs.CoreMeaning.Builtins.{Builtins}
use Rattle.pi_meaning.specs.CoreMeaning.Instances.{built_later, whole}
use Rattle.pi_meaning.specs.Shared.Raise.{raised_with}
use Rattle.pi_meaning.specs.Shared.Level.{Level, Applied, Point, lower, ticked}
use Rattle.pi_meaning.specs.CoreMeaning.Meaning.{Action, draining, with_slot, slot_value, copyable, with_list, meaning, meaning_of_all, meaning_of_any}
use Rattle.pi_meaning.specs.Shared.Handling.{handling}
use Rattle.pi_meaning.specs.CoreMeaning.Facts.{facts}
use Rattle.pi_meaning.specs.CoreMeaning.Rules.{chosen_rule, rules, value_at, level_at, rules_by}
use Rattle.pi_meaning.specs.CoreMeaning.Run.{Solution, answered_with}
use Rattle.pi_core.specs.declared.core_program.NameSlot.{NameSlot}
use Rattle.pi_meaning.specs.Machine.Configuration.{Frame, more, return, give, Back, Called, Choice, rules_left, facts_left, branches_left, alternatives_left, Search, Found, Strict, once_level, not_level, if_level, guard_level, value_level, list_level, number_level, search_level, Entry, choice, strict, catch_level, left, Now, going, settling, telling, failed, raising, Config, after_body}
use Rattle.pi_meaning.specs.Shared.Settle.{settled}
use Rattle.pi_meaning.specs.Machine.Step.{search_slots, round_goal, rounds_after, worth_in}
use Rattle.pi_settling.specs.Read.{relation_in}
use Rattle.pi_settling.specs.Rounds.{better_sign, weighed}
use Rattle.pi_settling.specs.Choices.{Pending, Alternative, left_by, narrowed_to}

abbrev pub point : Level → Places → State → Point
point l e s = record { level = l; slots = e; state = s }

-- a function's value as an answer, in the one slot of a block
abbrev pub valued : Level → Applied → Point
valued l a = point l (Some a.value ∷ []) a.state

-- What the frames do behind an answer. With none left it is an answer of the level, which counts when nothing waits; so is
-- a function's value, behind which no frame counts.
unfoldable pub continued : Builtins → Level → List Frame → Action
continued given l [] p = draining (λ q. one q) p
continued given l (more gs ∷ k) p = then (meaning_of_all given gs p) (continued given l k)
continued given l (return e ∷ k) p = continued given l k (point l e p.state)
continued given l (give t ∷ k) p = then (draining (λ q. one q) p) (λ q. then (value_at t q) (λ a. one (valued l a)))

-- the goals of a block and the frames behind them
abbrev pub run_from : Builtins → Level → GoalTrees → Places → State → List Frame → Trace Point
run_from given l gs e s k = then (meaning_of_all given gs (point l e s)) (continued given l k)

-- what an entry comes back to
abbrev pub start_of : Level → Back → Point
start_of l b = point l b.slots b.state

-- the body of a rule that applies, and what follows
abbrev pub body_of : Builtins → Level → Called → Back → ClauseTree → Action
body_of given l call b c p = then (meaning given c.body p) (continued given l (after_body call.function c b.frames))

-- the rules that are left of a call
unfoldable pub rules_trace : Builtins → Level → Called → List ClauseTree → Back → Trace Point
rules_trace given l call cs b = rules (rules_by given l (λ c. leaves_others call.function c) (λ i c p. body_of given l call b c p)) 0 cs call.args b.state

-- the facts that are left of a call
unfoldable pub facts_trace : Builtins → Level → Trees → List ClauseTree → Back → Trace Point
facts_trace given l ts cs b = then (facts cs ts b.state) (λ r. continued given l b.frames (point l b.slots r))

-- an alternative, settled: from what that leaves the call labels on, at the level below, and then comes what is after the call
abbrev pub alternative_tried : Builtins → Level → GoalTree → Back → Option State → Level → Trace Point
alternative_tried given l g b None k = done
alternative_tried given l g b (Some r) k =
    then (settled b.state r) (λ s. then (meaning given g (point k b.slots s)) (λ q. continued given l b.frames (point l q.slots q.state)))

-- the alternatives that are left of a labelling
unfoldable pub alternatives_trace : Builtins → Level → GoalTree → Pending → List Alternative → Back → Trace Point
alternatives_trace given l g p [] b = done
alternatives_trace given l g p (a ∷ alts) b =
    alt (ticked (lower l) (alternative_tried given l g b (narrowed_to b.state p.variable (left_by a p.domain)))) (alternatives_trace given l g p alts b)

-- what a choice keeps
unfoldable pub choice_trace : Builtins → Level → Choice → Back → Trace Point
choice_trace given l (rules_left call cs) b = rules_trace given l call cs b
choice_trace given l (facts_left ts cs) b = facts_trace given l ts cs b
choice_trace given l (branches_left gs) b = then (meaning_of_any given gs (start_of l b)) (continued given l b.frames)
choice_trace given l (alternatives_left name args p alts) b = alternatives_trace given l (GoalTree.call name args) p alts b

-- ---- searches

-- the answer that was found last
abbrev pub last_found : Option Found → Trace State
last_found None = done
last_found (Some f) = one f.state

-- what a round of a search labels, from a state that its posting left: its call does
abbrev pub labels_of_round : Builtins → Level → Search → State → Trace Point
labels_of_round given l x s = meaning given round_goal (point l (search_slots x) s)

-- what a later round posts, settled: that the expression has a better value than this one
abbrev pub better_posted : Search → State → ℤ → Trace State
better_posted x s v = then (relation_in (better_sign x.objective.greatest) x.objective.expression (int v) s) (settled s)

-- so many later rounds of a search whose call began in the first state; the second one was found last, with this value
unfoldable pub later_rounds : Builtins → Level → Search → State → ℕ → State → ℤ → Trace State
later_rounds given l x s zero r v = one r
later_rounds given l x s (suc n) r v =
    chosen (then (better_posted x s v) (labels_of_round given l x)) (λ q. weighed x.objective q.state (worth_in x q.state) (later_rounds given l x s n q.state)) (one r)

-- what a search makes of the answers of a round: the first one is weighed, and rounds that follow are to be better; without one, that which was found last is the search's
abbrev pub sought_from : Builtins → Level → Search → Option Found → Back → Trace Point → Trace State
sought_from given l x f b t =
    chosen t
    (λ q. weighed x.objective q.state (worth_in x q.state) (λ v. later_rounds given l x b.state (rounds_after x.objective f v) q.state v))
    (last_found f)

-- a round that labels, or one whose posting is settled first, which leaves one state at most
abbrev pub round_trace : Builtins → Level → Search → Bool → Trace Point → Trace Point
round_trace given l x true t = t
round_trace given l x false t = then (first t) (λ q. labels_of_round given l x q.state)

-- what a level makes of the trace inside of it
unfoldable pub level_trace : Builtins → Level → Strict → Back → Trace Point → Trace Point
level_trace given l once_level b t = then (first t) (continued given l b.frames)
level_trace given l not_level b t = then (negated t (start_of l b)) (continued given l b.frames)
level_trace given l (if_level g other) b t = then (chosen t (meaning given g) (meaning given other (start_of l b))) (continued given l b.frames)
level_trace given l (guard_level call c cs) b t =
    chosen t (λ p. chosen_rule (leaves_others call.function c) (body_of given l call b c p) (rules_trace given l call cs b)) (rules_trace given l call cs b)
level_trace given l (value_level call into) b t =
    then (chosen t (λ q. one (point l (slice_set b.slots into (held q.slots 0)) q.state)) (raised_with (codes "unresolved_function_call") call b.state))
    (continued given l b.frames)
level_trace given l (list_level k into got) b t =
    then (collected (then t (λ q. copyable (slot_value k q.slots q.state))) (λ x. x) (λ ts. one (with_list (start_of l b) into (got ++ ts))))
    (continued given l b.frames)
level_trace given l (number_level into n) b t =
    then (counted t (λ k. one (with_slot (start_of l b) into (int (pos (n + k)))))) (continued given l b.frames)
level_trace given l (search_level x labelled f) b t =
    then (sought_from given l x f b (round_trace given l x labelled t)) (λ r. continued given l b.frames (point l b.slots r))

-- what a `catch` makes of the trace inside of it
unfoldable pub catch_trace : Builtins → Level → Tree → GoalTree → Back → Trace Point → Trace Point
catch_trace given l ball handler b t = then (caught t (handling b.state ball (λ s. meaning given handler (point l b.slots s)))) (continued given l b.frames)

-- the trace that waits outside of the newest `catch` that was left, and those further outside
abbrev pub outside : List (Trace Point) → Trace Point
outside [] = done
outside (t ∷ ts) = t

abbrev pub further : List (Trace Point) → List (Trace Point)
further [] = []
further (t ∷ ts) = ts

-- What the entries make of a trace. The mark of a `catch` that was left lets the trace wait, since it runs outside; in
-- the `catch` only its choices are left, and what they come to follows the trace.
unfoldable pub around : Builtins → Level → List Entry → Trace Point → List (Trace Point) → Trace Point
around given l [] t outs = t
around given l (choice c b ∷ es) t outs = around given l es (alt t (choice_trace given l c b)) outs
around given l (strict s b ∷ es) t outs = around given l es (level_trace given l s b t) outs
around given l (catch_level ball handler b ∷ es) t outs = around given l es (alt (outside outs) (catch_trace given l ball handler b t)) (further outs)
around given l (left ∷ es) t outs = around given l es done (t ∷ outs)

-- what runs
unfoldable pub now_trace : Builtins → Level → Now → Trace Point
now_trace given l (going gs e s k) = run_from given l gs e s k
now_trace given l (settling before s gs e k) = then (settled before s) (λ r. run_from given l gs e r k)
now_trace given l (telling text gs e s k) = note (Out text) (run_from given l gs e s k)
now_trace given l failed = done
now_trace given l (raising ball) = end (Raise ball)

-- what remains where all goals run at a level
unfoldable pub remaining_at : Builtins → Level → List NameSlot → Config → Trace Solution
remaining_at given l names c = then (around given l c.stack (now_trace given l c.now) []) (answered_with names)

-- what remains of a run of a program at a depth, under a view; answers tell these names
abbrev pub remaining : View → List PredTree → List NameSlot → ℕ → Config → Trace Solution
remaining v preds names d c = remaining_at (whole v built_later preds) (level_at (whole v built_later preds) preds d) names c
