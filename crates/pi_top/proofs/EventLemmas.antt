-- What events print, how many Ticks and answers they have, and the sum of their loads, where more stand behind them.
use Rattle.std.proofs.Common.{◌≡◌, ℕ, suc, ◌+◌, List, [], ◌∷◌, ◌++◌, refl, sym, ap, ◌∙◌, arith, append_assoc}
use Rattle.std.proofs.lemmas.List.{append-nil}
use Rattle.pi_traces.specs.Trace.{Tick, Load, Out, Emitted, noted, answered, count_ticks}
use Rattle.pi_meaning.specs.CoreMeaning.Run.{Solution}
use Rattle.pi_print_terms.specs.PrintAnswer.{answer_lines}
use Rattle.pi_meaning.specs.Shared.Told.{answer_of}
use Rattle.pi_core.specs.declared.answer.Answer.{Answer}
use Rattle.pi_core.specs.declared.core_program.NameSlot.{NameSlot}
use Rattle.pi_engine.specs.Happens.{AreTicksAndLoads, sum_of_loads}
use Rattle.pi_top.specs.declared.manner.Lines.{Lines}
use Rattle.pi_top.specs.Running.{print_solutions}
use Rattle.pi_top.specs.ToldLines.{where_told}
use Rattle.pi_top.specs.QueryEnd.{count_answers, EndsWithLast}

pub ticks-append : {A : Type 0} (events more : List (Emitted A)) → count_ticks (events ++ more) ≡ count_ticks events + count_ticks more
unfolding count_ticks
ticks-append [] more = omega arith
ticks-append (noted Tick ∷ events) more = let rest = ticks-append events more in omega (arith, rest)
ticks-append (noted (Load k) ∷ events) more = ticks-append events more
ticks-append (noted (Out text) ∷ events) more = ticks-append events more
ticks-append (answered x ∷ events) more = ticks-append events more

pub loads-append : {A : Type 0} (events more : List (Emitted A)) → sum_of_loads (events ++ more) ≡ sum_of_loads events + sum_of_loads more
unfolding sum_of_loads
loads-append [] more = omega arith
loads-append (noted Tick ∷ events) more = loads-append events more
loads-append (noted (Load k) ∷ events) more = let rest = loads-append events more in omega (arith, rest)
loads-append (noted (Out text) ∷ events) more = loads-append events more
loads-append (answered x ∷ events) more = loads-append events more

pub answers-append : {A : Type 0} (events more : List (Emitted A)) → count_answers (events ++ more) ≡ count_answers events + count_answers more
unfolding count_answers
answers-append [] more = omega arith
answers-append (noted n ∷ events) more = answers-append events more
answers-append (answered x ∷ events) more = let rest = answers-append events more in omega (arith, rest)

pub print-append : (lines : Lines) (names : List NameSlot) (events more : List (Emitted Solution)) → print_solutions lines names (events ++ more) ≡ print_solutions lines names events ++ print_solutions lines names more
unfolding print_solutions
print-append lines names [] more = refl
print-append lines names (noted Tick ∷ events) more = print-append lines names events more
print-append lines names (noted (Load k) ∷ events) more = print-append lines names events more
print-append lines names (noted (Out text) ∷ events) more = ap (λ l. text ∷ l) (print-append lines names events more)
print-append lines names (answered x ∷ events) more =
    let told : List (List ℕ) = where_told lines (answer_lines (answer_of names x)) in
    ap (λ l. told ++ l) (print-append lines names events more) ∙ sym (append_assoc told (print_solutions lines names events) (print_solutions lines names more))

-- ---- Ticks and loads

answers-of_notes : (notes : List (Emitted Solution)) → AreTicksAndLoads notes → count_answers notes ≡ 0
unfolding AreTicksAndLoads count_answers
answers-of_notes [] are = refl
answers-of_notes (noted Tick ∷ notes) are = answers-of_notes notes are
answers-of_notes (noted (Load k) ∷ notes) are = answers-of_notes notes are
answers-of_notes (noted (Out text) ∷ notes) are = absurd are
answers-of_notes (answered x ∷ notes) are = absurd are

print-of_notes : (lines : Lines) (names : List NameSlot) (notes : List (Emitted Solution)) → AreTicksAndLoads notes → print_solutions lines names notes ≡ []
unfolding AreTicksAndLoads print_solutions
print-of_notes lines names [] are = refl
print-of_notes lines names (noted Tick ∷ notes) are = print-of_notes lines names notes are
print-of_notes lines names (noted (Load k) ∷ notes) are = print-of_notes lines names notes are
print-of_notes lines names (noted (Out text) ∷ notes) are = absurd are
print-of_notes lines names (answered x ∷ notes) are = absurd are

pub answers-behind : (events notes : List (Emitted Solution)) → AreTicksAndLoads notes → count_answers (events ++ notes) ≡ count_answers events
answers-behind events notes are = let all = answers-append events notes in let none = answers-of_notes notes are in omega (arith, all, none)

pub print-behind : (lines : Lines) (names : List NameSlot) (events notes : List (Emitted Solution)) → AreTicksAndLoads notes →
    print_solutions lines names (events ++ notes) ≡ print_solutions lines names events
print-behind lines names events notes are =
    print-append lines names events notes ∙ ap (λ l. print_solutions lines names events ++ l) (print-of_notes lines names notes are) ∙ append-nil (print_solutions lines names events)

-- ---- an answer

pub print-answer : (lines : Lines) (names : List NameSlot) (events : List (Emitted Solution)) (x : Solution) (a : Answer) → a ≡ answer_of names x →
    print_solutions lines names (events ++ answered x ∷ []) ≡ print_solutions lines names events ++ where_told lines (answer_lines a)
unfolding print_solutions
print-answer lines names events x a is =
    print-append lines names events (answered x ∷ [])
    ∙ ap (λ l. print_solutions lines names events ++ l) (append-nil (where_told lines (answer_lines (answer_of names x))))
    ∙ ap (λ b. print_solutions lines names events ++ where_told lines (answer_lines b)) (sym is)

pub ticks-answer : (events : List (Emitted Solution)) (x : Solution) → count_ticks (events ++ answered x ∷ []) ≡ count_ticks events
unfolding count_ticks
ticks-answer events x = let all = ticks-append events (answered x ∷ []) in omega (arith, all)

pub loads-answer : (events : List (Emitted Solution)) (x : Solution) → sum_of_loads (events ++ answered x ∷ []) ≡ sum_of_loads events
unfolding sum_of_loads
loads-answer events x = let all = loads-append events (answered x ∷ []) in omega (arith, all)

pub one-answer : (events : List (Emitted Solution)) (x : Solution) → count_answers (events ++ answered x ∷ []) ≡ suc (count_answers events)
unfolding count_answers
one-answer events x = let all = answers-append events (answered x ∷ []) in omega (arith, all)

pub last-answer : (events : List (Emitted Solution)) (x : Solution) (given : ℕ) → count_answers (events ++ answered x ∷ []) ≡ given → EndsWithLast given (events ++ answered x ∷ [])
last-answer events x given all = record { front = events; last = x; is = refl; all = all }

-- ---- a text

pub print-text : (lines : Lines) (names : List NameSlot) (events : List (Emitted Solution)) (text : List ℕ) → print_solutions lines names (events ++ noted (Out text) ∷ []) ≡ print_solutions lines names events ++ text ∷ []
unfolding print_solutions
print-text lines names events text = print-append lines names events (noted (Out text) ∷ [])

pub ticks-text : (events : List (Emitted Solution)) (text : List ℕ) → count_ticks (events ++ noted (Out text) ∷ []) ≡ count_ticks events
unfolding count_ticks
ticks-text events text = let all = ticks-append events (noted (Out text) ∷ []) in omega (arith, all)

pub loads-text : (events : List (Emitted Solution)) (text : List ℕ) → sum_of_loads (events ++ noted (Out text) ∷ []) ≡ sum_of_loads events
unfolding sum_of_loads
loads-text events text = let all = loads-append events (noted (Out text) ∷ []) in omega (arith, all)

pub answers-text : (events : List (Emitted Solution)) (text : List ℕ) → count_answers (events ++ noted (Out text) ∷ []) ≡ count_answers events
unfolding count_answers
answers-text events text = let all = answers-append events (noted (Out text) ∷ []) in omega (arith, all)
