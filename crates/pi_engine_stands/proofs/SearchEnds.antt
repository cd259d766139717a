-- A search has no further round: the answer that was found last is brought back, and is the search's; or it has none.
use Rattle.std.proofs.Common.{◌≡◌, ℕ, suc, ◌-◌, ◌≤◌, List, [], ◌∷◌, Option, Some, None, Bool, true, false, is_some, length, take, refl, sym, ◌∙◌, ap, subst, arith}
use Rattle.pi_constraints.specs.State.{State}
use Rattle.pi_constraints.specs.Store.{StoreView, Beside, StandsBeside, BringsBack, Changes, Extend}
use Rattle.pi_core.specs.GoalTree.{no_goals}
use Rattle.pi_engine_arenas.specs.declared.arenas.Back.{Back}
use Rattle.pi_engine_arenas.specs.declared.arenas.Entry.{Entry}
use Rattle.pi_engine_arenas.specs.declared.arenas.Search.{Search as Site}
use Rattle.pi_engine_arenas.specs.declared.frames.Point.{Point}
use Rattle.pi_engine_arenas.specs.declared.run.Now.{Now}
use Rattle.pi_engine_arenas.specs.Arenas.{ArenasView, entry_at, newest, opened, LeavesLevel, DropsNewest}
use Rattle.pi_meaning.specs.Machine.Configuration.{Search, Found, Strict, strict, search_level, Back as BackData, Entry as EntryData, config, going, failed}
use Rattle.pi_meaning.specs.Machine.Step.{end_step, searched}
use Rattle.pi_engine_stands.specs.Rests.{Rests}
use Rattle.pi_engine_stands.specs.Stands.{World, entries_of, now_here, back_here, IsFoundBeside, KeepsFound, StackIs, entry_above, Stands, failing_now}
use Rattle.pi_engine_stands.specs.Fails.{IsBack}
use Rattle.pi_engine_stands.specs.Gives.{without_call}
use Rattle.pi_engine_stands.specs.Makes.{search_at}
use Rattle.pi_engine_stands.specs.Rounds.{IsReopened}
use Rattle.pi_terms.proofs.OptionLemmas.{one-some}
use Rattle.pi_engine_stands.proofs.BackStand.{Popped, popped, popped-stands, back-rests, back-kind}
use Rattle.pi_engine_stands.proofs.OpenStand.{strict-base}
use Rattle.pi_engine_stands.proofs.SearchAnswers.{SearchIs, search-of, search-left}
use Rattle.pi_engine_stands.proofs.SolveLabels.{kept-stands}
use Rattle.pi_engine_stands.proofs.StacksLie.{stack-lies}
use Rattle.pi_engine_stands.proofs.StandsLemmas.{moved, Leaves, entry-moves, stack-moves, kind-order}

-- ---- its level, as if it were open

opened-leaves : {M : Type 0} (w : World M) (n top : ℕ) → top ≤ length w.arenas.collected → Leaves w w.store (opened w.arenas) n top
opened-leaves w n top some =
    record {
      entries = refl;
      marks = λ i x h at good. (good, refl);
      blocks = λ i x h at kept. (kept, refl);
      frames = λ i x h at few. (few, refl);
      collected = refl;
      enough = some;
      beside = λ m. refl;
      names = λ k name has. has;
    }

opened-back : {M : Type 0} (w : World M) (back : Back) (s : Strict) (d : BackData) (es : List EntryData) → IsBack w back (strict s d) es →
    IsReopened (moved w w.store (opened w.arenas)) (length (entries_of w)) back (strict s d) es
opened-back w back s d es it =
    let i : ℕ = it.below in
    let x : Entry _ = it.entry in
    let y : EntryData = strict s d in
    let top : ℕ = length w.arenas.collected in
    let leave : Leaves w w.store (opened w.arenas) (suc i) top = opened-leaves w (suc i) top (omega arith) in
    let order : it.from ≤ top = kind-order w.loaded w.arenas.collected (back_here w x) (w.store.at_mark x.mark).state x.back.base x.back.frame x.back.blocks.slots it.from top x.back.kind y it.is.kind in
    let begins : x.back.base ≤ length (back_here w x).slots = strict-base w.loaded w.arenas.collected (back_here w x) (w.store.at_mark x.mark).state x.back.base x.back.frame x.back.blocks.slots it.from top x.back.kind s d it.is.kind in
    let terms : w.store.now.terms ≡ (back_here w x).terms = ap (λ h. h.terms) it.here in
    let slots : w.arenas.blocks.slots ≡ (back_here w x).slots = ap (λ h. h.slots) it.here in
    record {
      below = i;
      from = it.from;
      entry = x;
      number = it.count;
      count = it.count;
      at = it.at;
      back_is = it.back_is;
      is = entry-moves w w.store (opened w.arenas) (suc i) top i it.from top es x y leave (omega arith) (omega arith) it.at it.is it.stack;
      stack = stack-moves w w.store (opened w.arenas) (suc i) top i it.from es leave (omega arith) order it.stack;
      slots = slots;
      frames = ap (λ h. h.frames) it.here;
      agrees = (
        subst (λ t. Extend t w.store.now.terms) terms (λ n t has. has),
        ap (take x.back.base) (sym slots),
        omega (arith, begins, ap length slots),
        refl,
      );
      opens = refl;
      kept = it.kept;
      code = it.code;
      state = back-rests w back y es it;
      tables = it.tables;
    }

leaves-opened : {M : Type 0} (a b : ArenasView M) (i : ℕ) (back : Back) → LeavesLevel a b i back → LeavesLevel (opened a) b i back
leaves-opened a b i back left =
    record {
      drops = record { entries = left.drops.entries; frames_are = left.drops.frames_are; collected = left.drops.collected; kept = left.drops.kept; keeps = left.drops.keeps };
      slots = left.slots;
      level = left.level;
    }

-- ---- what was found

none-found : (o : Option Beside) (f : Option Found) → o ≡ None → IsFoundBeside o f → f ≡ None
none-found None None none is = refl
none-found None (Some f) none is = absurd is
none-found (Some b) f none is = absurd cc

some-found : (o : Option Beside) (f : Option Found) (b : Beside) → o ≡ Some b → IsFoundBeside o f → (g : Found) × (f ≡ Some g) × (b.state ≡ g.state) × Rests g.state
some-found None f b some is = absurd cc
some-found (Some c) None b some is = absurd is
some-found (Some c) (Some g) b some is =
    let same : c ≡ b = cc in
    (g, refl, subst (λ q. q.state ≡ g.state) same is.0, is.2)

-- what the entry keeps
entry-found : {M : Type 0} (v : StoreView M) (m : M) (s : Strict) (d : BackData) (x : Search) (labels : Bool) (f : Option Found) → s ≡ search_level x labels f → KeepsFound v m (strict s d) → IsFoundBeside (v.beside m) f × StandsBeside v m
entry-found v m s d x labels f is found = subst (λ r. KeepsFound v m (strict r d)) is found

ends-as : (s : Strict) (x : Search) (labels : Bool) (f g : Option Found) (d : BackData) (es : List EntryData) → s ≡ search_level x labels f → f ≡ g → end_step s d es ≡ searched g d es
unfolding end_step
ends-as s x labels f g d es is same = ap (λ r. end_step r d es) is ∙ ap (λ r. searched r d es) same

-- ---- how it ends

-- no answer was found
search-has-none : {M : Type 0} (w : World M) (c : ArenasView M) (back : Back) (site : Site) (s : Strict) (d : BackData) (es : List EntryData) → (it : IsBack w back (strict s d) es) → back.kind ≡ search_at site →
    w.store.beside it.entry.mark ≡ None → DropsNewest w.arenas c → Stands (moved w w.store c) Now.Failing (end_step s d es)
search-has-none w c back site s d es it named none drops =
    let w1 : World _ = moved w w.store c in
    let out : Popped w1 back w.arenas.collected it.from (strict s d) es = popped w c back (strict s d) es it drops in
    let is : SearchIs w.loaded (now_here w1) w.store.now.state back.base back.frame it.from (length w.arenas.collected) site s d =
    search-of w.loaded w.arenas.collected (now_here w1) w.store.now.state back.base back.frame back.blocks.slots it.from (length w.arenas.collected) site back.kind s d named out.kind in
    let found : _ = entry-found w.store it.entry.mark s d is.x _ is.found is.level it.is.found in
    subst (Stands w1 Now.Failing) (sym (ends-as s is.x _ is.found None d es is.level (none-found (w.store.beside it.entry.mark) is.found none found.0)))
    (record { entries = stack-lies w1 es (popped-stands w1 back w.arenas.collected it.from (strict s d) es out is.one); runs = failing_now })

-- the one that was found last is brought back
search-has : {M : Type 0} (w : World M) (u : StoreView M) (c : ArenasView M) (back : Back) (site : Site) (s : Strict) (d : BackData) (es : List EntryData) → (it : IsBack w back (strict s d) es) → back.kind ≡ search_at site →
    (b : Beside) → w.store.beside it.entry.mark ≡ Some b → BringsBack w.store u it.entry.mark → LeavesLevel w.arenas c (length (entries_of w) - 1) (without_call back site.caller) →
    Stands (moved w u c) (Now.Going (record { place = 0; count = 0; base = site.caller; frame = back.frame })) (end_step s d es)
search-has w u c back site s d es it named b has brings left =
    let x : Entry _ = it.entry in
    let p : Point = record { place = 0; count = 0; base = site.caller; frame = back.frame } in
    let open_w : World _ = moved w w.store (opened w.arenas) in
    let is : SearchIs w.loaded (now_here w) w.store.now.state back.base back.frame it.from (length w.arenas.collected) site s d =
    search-of w.loaded w.arenas.collected (now_here w) w.store.now.state back.base back.frame back.blocks.slots it.from (length w.arenas.collected) site back.kind s d named (back-kind w back (strict s d) es it) in
    let found : _ = entry-found w.store x.mark s d is.x _ is.found is.level it.is.found in
    let answer : (g : Found) × (is.found ≡ Some g) × (b.state ≡ g.state) × Rests g.state = some-found (w.store.beside x.mark) is.found b has found.0 in
    let stands_beside : (b.from ≡ (w.store.at_mark x.mark).words) × _ = found.1 b has in
    let changes : Changes w.store u b.state = brings b has (stands_beside.0 ∙ sym it.words) stands_beside.1 in
    let state : u.now.state ≡ answer.0.state = changes.state ∙ answer.2 in
    let there : Stands (moved w w.store c) (Now.Going p) (config (going no_goals d.slots w.store.now.state d.frames) es) =
    search-left open_w c (length (entries_of w)) back site is.x _ is.found d es (subst (λ r. IsReopened open_w (length (entries_of w)) back (strict r d) es) is.level (opened-back w back s d es it)) named
    (leaves-opened w.arenas c (length (entries_of w) - 1) (without_call back site.caller) left) in
    subst (Stands (moved w u c) (Now.Going p)) (sym (ends-as s is.x _ is.found (Some answer.0) d es is.level answer.1))
    (subst (λ t. Stands (moved w u c) (Now.Going p) (config (going no_goals d.slots t d.frames) es)) state
    (kept-stands (moved w w.store c) u p no_goals d.slots d.frames es changes.keeps (subst Rests (sym state) answer.3) there))

-- ---- what the code knows

none-beside : (o : Option Beside) → is_some o ≡ false → o ≡ None
none-beside None none = refl
none-beside (Some b) none = absurd cc

some-beside : (o : Option Beside) → is_some o ≡ true → (b : Beside) × (o ≡ Some b)
some-beside None some = absurd cc
some-beside (Some b) some = (b, refl)

pub back-newest : {M : Type 0} (w : World M) (back : Back) (y : EntryData) (es : List EntryData) → (it : IsBack w back y es) → newest (entries_of w) ≡ Some it.entry
back-newest w back y es it = ap (entry_at (entries_of w)) it.count ∙ it.at

pub ends-without : {M : Type 0} (w : World M) (c : ArenasView M) (back : Back) (site : Site) (has : Bool) (s : Strict) (d : BackData) (es : List EntryData) → back.kind ≡ search_at site →
    ((x : Entry M) → newest (entries_of w) ≡ Some x → is_some (w.store.beside x.mark) ≡ has) → has ≡ false → IsBack w back (strict s d) es → DropsNewest w.arenas c → Stands (moved w w.store c) Now.Failing (end_step s d es)
ends-without w c back site has s d es named tells none it drops =
    search-has-none w c back site s d es it named (none-beside (w.store.beside it.entry.mark) (tells it.entry (back-newest w back (strict s d) es it) ∙ none)) drops

pub ends-with : {M : Type 0} (w : World M) (u : StoreView M) (c : ArenasView M) (back left : Back) (site : Site) (level : ℕ) (next : Point) (x z : Entry M) (s : Strict) (d : BackData) (es : List EntryData) → back.kind ≡ search_at site →
    newest (entries_of w) ≡ Some x → is_some (w.store.beside x.mark) ≡ true → newest (entries_of w) ≡ Some z → BringsBack w.store u z.mark → level ≡ length (entries_of w) → left ≡ without_call back site.caller →
    LeavesLevel w.arenas c (level - 1) left → next ≡ record { place = 0; count = 0; base = left.base; frame = left.frame } → IsBack w back (strict s d) es → Stands (moved w u c) (Now.Going next) (end_step s d es)
ends-with w u c back left site level next x z s d es named newest_is some first brings number outer leaves point it =
    let at : newest (entries_of w) ≡ Some it.entry = back-newest w back (strict s d) es it in
    let there : (b : Beside) × (w.store.beside it.entry.mark ≡ Some b) =
    some-beside (w.store.beside it.entry.mark) (subst (λ q. is_some (w.store.beside q.mark) ≡ true) (one-some (newest (entries_of w)) x it.entry newest_is at) some) in
    subst (λ p. Stands (moved w u c) (Now.Going p) (end_step s d es)) (sym (point ∙ ap (λ q. record { place = 0; count = 0; base = q.base; frame = q.frame }) outer))
    (search-has w u c back site s d es it named there.0 there.1 (subst (λ q. BringsBack w.store u q.mark) (one-some (newest (entries_of w)) z it.entry first at) brings)
    (subst (λ q. LeavesLevel w.arenas c (length (entries_of w) - 1) q) outer (subst (λ n. LeavesLevel w.arenas c (n - 1) left) number leaves)))
