-- Points at which nothing is left to settle: one silent step leads to their goals.
use Rattle.std.proofs.Common.{◌≡◌, List, [], sym, ap, subst}
use Rattle.std.specs.Prelude.{Some}
use Rattle.pi_terms.specs.Places.{Places}
use Rattle.pi_constraints.specs.State.{State}
use Rattle.pi_core.specs.GoalTree.{GoalTrees}
use Rattle.pi_core.specs.CoreTree.{PredTree}
use Rattle.pi_core.specs.declared.core_program.NameSlot.{NameSlot}
use Rattle.pi_meaning.specs.Shared.View.{View}
use Rattle.pi_meaning.specs.Shared.Settle.{settlement}
use Rattle.pi_meaning.proofs.Shared.SettleLemmas.{settlement-same}
use Rattle.pi_meaning.specs.Machine.Configuration.{Frame, Config, config, going, settling, Entry as EntryData}
use Rattle.pi_meaning.specs.Machine.Step.{silently, settle_step, step}
use Rattle.pi_meaning.specs.Machine.Shape.{IsGood}
use Rattle.pi_meaning.specs.Machine.Built.{AreOfRules}
use Rattle.pi_meaning.specs.Machine.Leads.{Leads}
use Rattle.pi_meaning.specs.Machine.Next.{some_ticks}
use Rattle.pi_meaning.specs.declared.happening.Budget.{Budget}
use Rattle.pi_meaning.specs.declared.happening.Mode.{Mode}
use Rattle.pi_meaning.proofs.Machine.LeadLemmas.{leads-none, leads-on, leads-silent, step-silent, good-silent}
use Rattle.pi_engine_arenas.specs.declared.frames.Point.{Point}
use Rattle.pi_engine_arenas.specs.declared.run.Now.{Now}
use Rattle.pi_engine_stands.specs.Rests.{Rests}
use Rattle.pi_engine_settle.specs.Settles.{LeftBy}
use Rattle.pi_engine_stands.specs.Stands.{World, GoingIs, NowIs, settling_now, due_now}
use Rattle.pi_engine_stands.specs.Settling.{GoesOnTo, at_once, settled_first}
use Rattle.pi_engine_stands.specs.Makes.{SilentlyTo, already, one_more}
use Rattle.pi_engine_stands.specs.Goes.{counted, TicksOn}

-- ---- nothing is left to settle

-- so it is where the goal left the state in which it began
pub settling-same : {M : Type 0} (w : World M) (p : Point) (before : State) (gs : GoalTrees) (e : Places) (k : List Frame) → before ≡ w.store.now.state → Rests w.store.now.state → GoingIs w p gs e k → NowIs w (Now.Going p) (settling before w.store.now.state gs e k)
settling-same w p before gs e k same rests is = settling_now is rests (subst (λ s. settlement s w.store.now.state ≡ record { load = 0; left = Some w.store.now.state }) (sym same) (settlement-same w.store.now.state))

-- a point is next after what a goal left, at once or after that is settled
pub goes-on-to : {M : Type 0} (w : World M) (p : Point) (before : State) (gs : GoalTrees) (e : Places) (k : List Frame) (now : Now) → LeftBy before w.store.now.state → GoingIs w p gs e k → GoesOnTo before w.store.now.state p now →
    NowIs w now (settling before w.store.now.state gs e k)
goes-on-to w p before gs e k _ left is (at_once calm same) = settling_now is (record { calm = calm; none_made = left.none_made }) same
goes-on-to w p before gs e k _ left is (settled_first it point due) = due_now (subst (λ q. GoingIs w q gs e k) (sym point) is) left due

settles-silently : (v : View) (preds : List PredTree) (names : List NameSlot) (before s : State) (gs : GoalTrees) (e : Places) (k : List Frame) (es : List EntryData) → settlement before s ≡ record { load = 0; left = Some s } →
    step v preds names (config (settling before s gs e k) es) ≡ silently (config (going gs e s k) es)
unfolding step
settles-silently v preds names before s gs e k es is = ap (λ m. settle_step m gs e k es) is

-- the step that leads to the goals
pub settles-first : (v : View) (preds : List PredTree) (names : List NameSlot) (before s : State) (gs : GoalTrees) (e : Places) (k : List Frame) (es : List EntryData) → settlement before s ≡ record { load = 0; left = Some s } →
    SilentlyTo v preds names (config (settling before s gs e k) es) (config (going gs e s k) es)
settles-first v preds names before s gs e k es is = one_more (settles-silently v preds names before s gs e k es is) already

-- ---- silent steps in a row

pub silently-then : (v : View) (preds : List PredTree) (names : List NameSlot) (c d x : Config) → SilentlyTo v preds names c d → SilentlyTo v preds names d x → SilentlyTo v preds names c x
silently-then v preds names c _ x already rest = rest
silently-then v preds names c d x (one_more {d = y} is more) rest = one_more is (silently-then v preds names y d x more rest)

pub silently-leads : (v : View) (preds : List PredTree) (names : List NameSlot) (c d : Config) → AreOfRules preds → IsGood c → SilentlyTo v preds names c d → Leads v preds names [] c d × IsGood d
silently-leads v preds names c _ rules good already = (leads-none v preds names c, good)
silently-leads v preds names c d rules good (one_more {d = x} is rest) =
    let more : Leads v preds names [] x d × IsGood d = silently-leads v preds names x d rules (good-silent v preds names c x good is) rest in
    (leads-on v preds names [] [] c x d (leads-silent v preds names [] c c x (leads-none v preds names c) (step-silent v preds names c x rules good is)) more.0, more.1)

-- what goes on from where silent steps lead goes on from where they begin
pub ticks-behind : {M : Type 0} (v : View) (names : List NameSlot) (mode : Mode) (old new : Budget) (after : World M) (now : Now) (c d : Config) → AreOfRules after.loaded.preds → IsGood c → SilentlyTo v after.loaded.preds names c d →
    (IsGood d → TicksOn v names mode old new after now d) → TicksOn v names mode old new after now c
ticks-behind v names mode old new after now c d rules good steps behind =
    let leads : Leads v after.loaded.preds names [] c d × IsGood d = silently-leads v after.loaded.preds names c d rules good steps in
    let it : TicksOn v names mode old new after now d = behind leads.1 in
    record {
      goes = record {
        comes = it.goes.comes;
        leads = leads-on v after.loaded.preds names [] (some_ticks (counted mode old new)) c d it.goes.comes leads.0 it.goes.leads;
        good = it.goes.good;
        is = it.goes.is;
      };
      spent = it.spent;
    }
