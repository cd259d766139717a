-- An answer of a search's level, as steps of the machine, and what a run has where a round labels.
use Rattle.std.proofs.Common.{◌≡◌, ℕ, zero, suc, ◌+◌, ◌-◌, Bool, true, false, List, [], ◌∷◌, Option, Some, None, refl, sym, ◌∙◌, ap, subst}
use Rattle.std.specs.Prelude.{ℤ, slice_get, slice_set, slice_index_or, option_map, unwrap_or, not as is_not, codes}
use Rattle.std.proofs.lemmas.Option.{slice_get_within}
use Rattle.pi_terms.specs.Tree.{tree_count}
use Rattle.pi_terms.specs.Places.{Places}
use Rattle.pi_terms.proofs.GetLemmas.{get_some}
use Rattle.pi_effects.specs.Rows.{has_line}
use Rattle.pi_constraints.specs.declared.store.Ref.{Ref}
use Rattle.pi_constraints.specs.Store.{StoreView, IsGood, IsTerm, KeepsBeside, Returns}
use Rattle.pi_settling.specs.Rounds.{count_better}
use Rattle.pi_core.specs.GoalTree.{no_goals, goal}
use Rattle.pi_core.specs.declared.core_program.NameSlot.{NameSlot}
use Rattle.pi_settling.specs.SolveCalls.{solve_calls, is_solve}
use Rattle.pi_meaning.specs.Shared.View.{View}
use Rattle.pi_meaning.specs.Machine.Configuration.{Frame, Config, Search, Found, search_level, strict, Back as BackData, Entry as EntryData, config, going}
use Rattle.pi_meaning.specs.Machine.Shape.{IsBalanced}
use Rattle.pi_meaning.specs.Machine.Step.{round_goal, search_args, search_slots, rounds_after, strict_step}
use Rattle.pi_engine_code.specs.declared.code.Step.{Step}
use Rattle.pi_engine_code.proofs.CodeLemmas.{stands-within}
use Rattle.pi_engine_arenas.specs.declared.arenas.Back.{Back}
use Rattle.pi_engine_arenas.specs.declared.arenas.Entry.{Entry}
use Rattle.pi_engine_arenas.specs.declared.arenas.Kind.{Kind}
use Rattle.pi_engine_arenas.specs.declared.arenas.Strict.{Strict as StrictKind}
use Rattle.pi_engine_arenas.specs.declared.arenas.Search.{Search as Site}
use Rattle.pi_engine_arenas.specs.declared.frames.Point.{Point}
use Rattle.pi_engine_arenas.specs.declared.run.Now.{Now}
use Rattle.pi_engine_arenas.specs.Arenas.{ArenasView, entry_at, IsLevel, with_kind}
use Rattle.pi_engine_stands.specs.Changes.{change}
use Rattle.pi_engine_stands.specs.Here.{HoldsArguments}
use Rattle.pi_engine_stands.specs.Makes.{SilentlyTo, search_at}
use Rattle.pi_engine_stands.specs.Rounds.{Reopens, IsReopened, in_phase, LabelsRound, WeighsAnswer}
use Rattle.pi_engine_stands.specs.Stands.{World, tables_in, steps_of, entries_of, back_here, now_here, agrees_from, round_block, StackStands, Stands, StandsGoing, GoingIs}
use Rattle.pi_engine_stands.specs.Searches.{round_end}
use Rattle.pi_terms.proofs.OptionLemmas.{one-some}
use Rattle.pi_engine_stands.proofs.StandsLemmas.{moved}
use Rattle.pi_engine_stands.proofs.CallEntries.{get-set}
use Rattle.pi_engine_stands.proofs.OnceStand.{level-answers}
use Rattle.pi_engine_stands.proofs.CatchAnswers.{LevelAt, level-at}
use Rattle.pi_engine_stands.proofs.SearchBegins.{labels-held}
use Rattle.pi_engine_stands.proofs.SearchAnswersOpen.{reopened, reopened-stands, reopened-at, with_entry_at, entry_anew, arenas-anew, set-again}
use Rattle.pi_engine_stands.proofs.SearchAnswers.{SearchIs, search-of, SearchThere, search-there, expression-there, round-goes, round-labels, round-returns, round-begins, search-state, rounds-left}

-- ---- an answer

-- what the search makes of it, where its level is gone back to
search-answers : {M : Type 0} (w : World M) (v : StoreView M) (b c : ArenasView M) (level : ℕ) (back : Back) (site : Site) (labels : Bool) (now : Now) (p : Point) (es : List EntryData) (view : View) (names : List NameSlot) (e : Places) (k : List Frame) →
    IsLevel w.arenas level back → back.kind ≡ search_at site → is_not site.is_settling ≡ labels → ((x : Entry M) → entry_at (entries_of w) level ≡ Some x → x.back ≡ back → Reopens w.arenas b level back) →
    StandsGoing w p no_goals e k es → p.count ≡ 0 → p.frame ≡ 0 → IsBalanced zero es →
    ((x : Search) (f : Option Found) (d : BackData) (above below : List EntryData) (g : Places) → IsReopened (moved w w.store b) level back (strict (search_level x labels f) d) below →
    Stands (moved w v c) now (strict_step (search_level x labels f) g w.store.now.state above d below)) →
    (d : Config) × SilentlyTo view w.loaded.preds names (config (going no_goals e w.store.now.state k) es) d × Stands (moved w v c) now d
search-answers w v b c level back site labels now p es view names e k is named phase opens stands none last balanced makes =
    let at : LevelAt w level back = level-at w level back is in
    let z : Entry _ = at.x in
    let own : z.back.kind ≡ search_at site = ap (λ q. q.kind) at.back_is ∙ named in
    let out : Reopens w.arenas b (suc at.i) z.back =
    subst (λ q. Reopens w.arenas b (suc at.i) q) (sym at.back_is) (subst (λ n. Reopens w.arenas b n back) at.is (opens z (ap (entry_at (entries_of w)) at.is ∙ at.at) at.back_is)) in
    level-answers w v c at.i (round_block z.back.base) z (StrictKind.Search site) now p es view names e k stands none last balanced at.level at.at own refl
    (λ it g agrees holds.
    let here : agrees_from w (Some z) (now_here w) = subst (λ r. agrees_from w r (now_here w)) at.at (subst (λ n. agrees_from w (entry_at (entries_of w) n) (now_here w)) at.level agrees) in
    let so : SearchIs w.loaded (back_here w z) (w.store.at_mark z.mark).state z.back.base z.back.frame it.from _ site it.level it.back =
    search-of w.loaded w.arenas.collected (back_here w z) (w.store.at_mark z.mark).state z.back.base z.back.frame z.back.blocks.slots it.from _ site z.back.kind it.level it.back own it.is.kind in
    let level_is : it.level ≡ search_level so.x labels so.found = so.level ∙ ap (λ q. search_level so.x q so.found) phase in
    let there : IsReopened (moved w w.store b) (suc at.i) z.back (strict it.level it.back) it.below =
    reopened w b at.i it.from z (strict it.level it.back) es it.below stands.entries (slice_get_within (entries_of w) at.i z at.at) at.at it.is it.stack here out in
    subst (λ s. Stands (moved w v c) now (strict_step s g w.store.now.state it.above it.back it.below)) (sym level_is)
    (makes so.x so.found it.back it.above it.below g
    (subst (λ s. IsReopened (moved w w.store b) level back (strict s it.back) it.below) level_is
    (subst (λ q. IsReopened (moved w w.store b) level q (strict it.level it.back) it.below) at.back_is (subst (λ n. IsReopened (moved w w.store b) n z.back (strict it.level it.back) it.below) (sym at.is) there)))))

not-true : (b : Bool) → b ≡ true → is_not b ≡ false
not-true b is = ap is_not is

not-false : (b : Bool) → b ≡ false → is_not b ≡ true
not-false b is = ap is_not is

-- what a round posted is settled
pub settled-answers : {M : Type 0} (w : World M) (v : StoreView M) (b c : ArenasView M) (level : ℕ) (back : Back) (site : Site) (now : Now) (p : Point) (es : List EntryData) (view : View) (names : List NameSlot) (e : Places) (k : List Frame) →
    IsLevel w.arenas level back → back.kind ≡ search_at site → site.is_settling ≡ true → ((x : Entry M) → entry_at (entries_of w) level ≡ Some x → x.back ≡ back → Reopens w.arenas b level back) →
    StandsGoing w p no_goals e k es → p.count ≡ 0 → p.frame ≡ 0 → IsBalanced zero es → LabelsRound level back site (change (moved w w.store b) (moved w v c) now) →
    (d : Config) × SilentlyTo view w.loaded.preds names (config (going no_goals e w.store.now.state k) es) d × Stands (moved w v c) now d
unfolding strict_step
settled-answers w v b c level back site now p es view names e k is named settles opens stands none last balanced labels =
    search-answers w v b c level back site false now p es view names e k is named (not-true site.is_settling settles) opens stands none last balanced (λ x f d above below g there. labels x f d below there named)

-- a labelling has an answer
pub labelled-answers : {M : Type 0} (w : World M) (v : StoreView M) (b c : ArenasView M) (level : ℕ) (back : Back) (site : Site) (now : Now) (p : Point) (es : List EntryData) (view : View) (names : List NameSlot) (e : Places) (k : List Frame) →
    IsLevel w.arenas level back → back.kind ≡ search_at site → site.is_settling ≡ false → ((x : Entry M) → entry_at (entries_of w) level ≡ Some x → x.back ≡ back → Reopens w.arenas b level back) →
    StandsGoing w p no_goals e k es → p.count ≡ 0 → p.frame ≡ 0 → IsBalanced zero es → WeighsAnswer level back site (change (moved w w.store b) (moved w v c) now) →
    (d : Config) × SilentlyTo view w.loaded.preds names (config (going no_goals e w.store.now.state k) es) d × Stands (moved w v c) now d
unfolding strict_step
labelled-answers w v b c level back site now p es view names e k is named labelled opens stands none last balanced weighs =
    search-answers w v b c level back site true now p es view names e k is named (not-false site.is_settling labelled) opens stands none last balanced (λ x f d above below g there. weighs x f d below there named)

-- ---- a round labels

-- what a run has before the call that labels
pub record RoundStands {M : Type 0} (w : World M) (base place : ℕ) (x : Search) (f : Option Found) (d : BackData) (es : List EntryData) : Type 0 where
  pub going : StandsGoing w (record { place = place; count = 1; base = base; frame = 0 }) (goal round_goal no_goals) (search_slots x) [] (strict (search_level x true f) d ∷ es)
  pub held : HoldsArguments w.store.now.terms w.arenas.blocks.slots base 2 (search_args x)
  pub step : Step
  pub at : slice_get (steps_of w.loaded) place ≡ Some step

round-stands-in : {M : Type 0} (w : World M) (level : ℕ) (back : Back) (site : Site) (x : Search) (f : Option Found) (d : BackData) (es : List EntryData) → (it : IsReopened w level back (strict (search_level x false f) d) es) → back.kind ≡ search_at site →
    RoundStands (moved w w.store (with_entry_at w.arenas it.below (with_kind it.entry (search_at (in_phase site false))))) it.entry.back.base site.goal x f d es
round-stands-in w level back site x f d es it named =
    let z : Entry _ = it.entry in
    let kind : Kind = search_at (in_phase site false) in
    let after : World _ = moved w w.store (with_entry_at w.arenas it.below (with_kind z kind)) in
    let there : IsReopened after level (with_kind z kind).back (strict (search_level x true f) d) es = round-labels w level back site x f d es it named in
    let own : SearchThere after z.back.base (in_phase site false) x true = search-there after level (with_kind z kind).back (in_phase site false) x true f d es there refl in
    let step : (s : Step) × (slice_get (steps_of w.loaded) site.goal ≡ Some s) = get_some (steps_of w.loaded) site.goal (stands-within (tables_in w.loaded) (steps_of w.loaded) site.goal round_goal own.here.stands) in
    record {
      going = round-goes after level (with_kind z kind).back (in_phase site false) x true f d es there refl;
      held = labels-held w.store.now.terms w.arenas.blocks.slots z.back.base x own.held;
      step = step.0;
      at = step.1;
    }

pub round-stands : {M : Type 0} (w : World M) (b : ArenasView M) (level : ℕ) (back : Back) (site : Site) (kind : Kind) (x : Search) (f : Option Found) (d : BackData) (es : List EntryData) → IsReopened w level back (strict (search_level x false f) d) es → back.kind ≡ search_at site →
    kind ≡ search_at (in_phase site false) → ((z : Entry M) → entry_at (entries_of w) level ≡ Some z → b.entries ≡ slice_set (entries_of w) (level - 1) (with_kind z kind)) → b.blocks ≡ w.arenas.blocks → b.frames ≡ w.arenas.frames → b.level ≡ w.arenas.level →
    b.collected ≡ w.arenas.collected → RoundStands (moved w w.store b) back.base site.goal x f d es
round-stands w b level back site kind x f d es it named is entries blocks frames outer collected =
    let same : b ≡ with_entry_at w.arenas it.below (with_kind it.entry (search_at (in_phase site false))) =
    arenas-anew w.arenas b it.below level (with_kind it.entry kind) it.number (entries it.entry (reopened-at w level back (strict (search_level x false f) d) es it)) blocks frames outer collected
    ∙ ap (λ q. with_entry_at w.arenas it.below (with_kind it.entry q)) is in
    subst (λ n. RoundStands (moved w w.store b) n site.goal x f d es) (ap (λ q. q.base) it.back_is)
    (subst (λ r. RoundStands (moved w w.store r) it.entry.back.base site.goal x f d es) (sym same) (round-stands-in w level back site x f d es it named))

-- the call is one of `solve`
pub round-solves : (x : Search) → is_solve (codes "solve") (tree_count (search_args x)) ≡ true
unfolding has_line solve_calls tree_count
round-solves x = refl

-- ---- the next round

-- what a run has where it begins
pub record RoundReturned {M : Type 0} (w : World M) (base : ℕ) (wanted : Ref) (site : Site) (x : Search) (f : Found) (d : BackData) (es : List EntryData) : Type 0 where
  pub stands : StackStands w (strict (search_level x false (Some f)) d ∷ es)
  pub going : GoingIs w (round_end base) no_goals (search_slots x) []
  pub greatest : site.greatest ≡ x.objective.greatest
  pub term : IsTerm w.store wanted x.objective.expression
  pub state : w.store.now.state ≡ d.state

same-ref : (o : Option Ref) (r q : Ref) → o ≡ Some r → o ≡ Some q → r ≡ q
same-ref o r q h k = cc

round-returned-in : {M : Type 0} (w : World M) (v : StoreView M) (kept : M) (n level : ℕ) (back : Back) (site : Site) (wanted : Ref) (x : Search) (f : Option Found) (d : BackData) (es : List EntryData) → (it : IsReopened w level back (strict (search_level x true f) d) es) →
    back.kind ≡ search_at site → slice_index_or w.arenas.blocks.slots (it.entry.back.base + 2) None ≡ Some wanted → KeepsBeside w.order w.store it.entry.mark kept n → Returns w.order w.store v kept →
    RoundReturned (moved w v (with_entry_at w.arenas it.below (entry_anew it.entry kept (search_at (in_phase site true))))) it.entry.back.base wanted site x (record { state = w.store.now.state; left = n }) d es
round-returned-in w v kept n level back site wanted x f d es it named slot keeps returns =
    let z : Entry _ = it.entry in
    let kind : Kind = search_at (in_phase site true) in
    let g : Found = record { state = w.store.now.state; left = n } in
    let after : World _ = moved w v (with_entry_at w.arenas it.below (entry_anew z kept kind)) in
    let there : IsReopened after level (with_kind z kind).back (strict (search_level x false (Some g)) d) es = round-returns w v kept n level back site x f d es it named keeps returns in
    let own : SearchThere after z.back.base (in_phase site true) x false = search-there after level (with_kind z kind).back (in_phase site true) x false (Some g) d es there refl in
    let expression : (r : Ref) × (slice_index_or w.arenas.blocks.slots (z.back.base + 2) None ≡ Some r) × IsTerm v r x.objective.expression = expression-there after z.back.base x own.held in
    record {
      stands = reopened-stands after level (with_kind z kind).back (search_level x false (Some g)) d es there;
      going = round-begins after level (with_kind z kind).back (in_phase site true) x false (Some g) d es there refl;
      greatest = own.greatest;
      term = subst (λ r. IsTerm v r x.objective.expression) (same-ref (slice_index_or w.arenas.blocks.slots (z.back.base + 2) None) expression.0 wanted expression.1 slot) expression.2;
      state = ap (λ m. m.state) (returns.now ∙ keeps.same) ∙ sym (search-state w level back site x true f d es it named);
    }

-- the store came back to a mark that keeps the answer beside, and the entry got that mark
pub round-returned : {M : Type 0} (w : World M) (v : StoreView M) (a b : ArenasView M) (kept : M) (n level : ℕ) (back : Back) (site : Site) (wanted : Ref) (kind : Kind) (x : Search) (f : Option Found) (d : BackData) (es : List EntryData) (z : Entry M) →
    IsReopened w level back (strict (search_level x true f) d) es → back.kind ≡ search_at site → slice_index_or w.arenas.blocks.slots (back.base + 2) None ≡ Some wanted → entry_at (entries_of w) level ≡ Some z →
    (IsGood w.store z.mark → KeepsBeside w.order w.store z.mark kept n) → (IsGood w.store kept → Returns w.order w.store v kept) → kind ≡ search_at (in_phase site true) →
    ((q : Entry M) → entry_at (entries_of w) level ≡ Some q → a.entries ≡ slice_set (entries_of w) (level - 1) (record { mark = kept; back = q.back })) → a.blocks ≡ w.arenas.blocks → a.frames ≡ w.arenas.frames → a.level ≡ w.arenas.level → a.collected ≡ w.arenas.collected →
    ((q : Entry M) → entry_at a.entries level ≡ Some q → b.entries ≡ slice_set a.entries (level - 1) (with_kind q kind)) → b.blocks ≡ a.blocks → b.frames ≡ a.frames → b.level ≡ a.level → b.collected ≡ a.collected →
    RoundReturned (moved w v b) back.base wanted site x (record { state = w.store.now.state; left = n }) d es
round-returned w v a b kept n level back site wanted kind x f d es z it named slot found keeps returns is marked blocks1 frames1 level1 collected1 waits blocks2 frames2 level2 collected2 =
    let there : entry_at (entries_of w) level ≡ Some it.entry = reopened-at w level back (strict (search_level x true f) d) es it in
    let same : z ≡ it.entry = one-some (entry_at (entries_of w) level) z it.entry found there in
    let beside : KeepsBeside w.order w.store it.entry.mark kept n = subst (λ q. IsGood w.store q.mark → KeepsBeside w.order w.store q.mark kept n) same keeps it.is.good in
    let u : Entry _ = record { mark = kept; back = it.entry.back } in
    let one : a ≡ with_entry_at w.arenas it.below u = arenas-anew w.arenas a it.below level u it.number (marked it.entry there) blocks1 frames1 level1 collected1 in
    let at : entry_at a.entries level ≡ Some u = ap (entry_at a.entries) it.number ∙ ap (λ r. slice_get r.entries it.below) one ∙ get-set (entries_of w) it.below it.entry u it.at in
    let two : b ≡ with_entry_at a it.below (with_kind u kind) = arenas-anew a b it.below level (with_kind u kind) it.number (waits u at) blocks2 frames2 level2 collected2 in
    let all : b ≡ with_entry_at w.arenas it.below (entry_anew it.entry kept (search_at (in_phase site true))) =
    two ∙ ap (λ r. with_entry_at r it.below (with_kind u kind)) one
    ∙ ap (λ r. record { frames = w.arenas.frames; blocks = w.arenas.blocks; entries = r; level = w.arenas.level; collected = w.arenas.collected }) (set-again (entries_of w) it.below u (with_kind u kind))
    ∙ ap (λ q. with_entry_at w.arenas it.below (entry_anew it.entry kept q)) is in
    subst (λ m. RoundReturned (moved w v b) m wanted site x (record { state = w.store.now.state; left = n }) d es) (ap (λ q. q.base) it.back_is)
    (subst (λ r. RoundReturned (moved w v r) it.entry.back.base wanted site x (record { state = w.store.now.state; left = n }) d es) (sym all)
    (round-returned-in w v kept n level back site wanted x f d es it named (ap (λ q. slice_index_or w.arenas.blocks.slots (q.base + 2) None) it.back_is ∙ slot) beside (returns beside.good)))

-- how many rounds may follow
pub rounds-counted : {M : Type 0} (w : World M) (level : ℕ) (back : Back) (site : Site) (x : Search) (f : Option Found) (d : BackData) (es : List EntryData) (z : Entry M) (value : ℤ) → IsReopened w level back (strict (search_level x true f) d) es → back.kind ≡ search_at site →
    entry_at (entries_of w) level ≡ Some z → unwrap_or (option_map (λ q. q.number) (w.store.beside z.mark)) (count_better site.greatest value) ≡ rounds_after x.objective f value
rounds-counted w level back site x f d es z value it named found =
    let there : entry_at (entries_of w) level ≡ Some it.entry = reopened-at w level back (strict (search_level x true f) d) es it in
    let same : z ≡ it.entry = one-some (entry_at (entries_of w) level) z it.entry found there in
    let own : SearchThere w back.base site x true = search-there w level back site x true f d es it named in
    ap (λ q. unwrap_or (option_map (λ r. r.number) (w.store.beside q.mark)) (count_better site.greatest value)) same
    ∙ ap (λ q. unwrap_or (option_map (λ r. r.number) (w.store.beside it.entry.mark)) (count_better q value)) own.greatest
    ∙ rounds-left (w.store.beside it.entry.mark) f x.objective value it.is.found.0
