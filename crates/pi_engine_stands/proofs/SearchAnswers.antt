-- What a search makes of an answer of its level, once the arenas have again what its entry brings back.
use Rattle.std.proofs.Common.{◌≡◌, ℕ, ◌+◌, ◌-◌, ◌≤◌, ℤ, Bool, true, false, List, [], ◌∷◌, Option, Some, None, length, take, drop, refl, sym, ◌∙◌, ap, subst, arith}
use Rattle.std.specs.Prelude.{slice_get, slice_index_or, option_map, unwrap_or, not as is_not}
use Rattle.std.proofs.lemmas.Option.{get_or_from_slice_get}
use Rattle.pi_terms.specs.Tree.{Tree, no_trees, tree, trees_of}
use Rattle.pi_terms.specs.Places.{Places}
use Rattle.pi_constraints.specs.declared.store.Ref.{Ref}
use Rattle.pi_constraints.specs.State.{State}
use Rattle.pi_constraints.specs.Store.{StoreView, Terms, Beside, IsTerm, Extend, KeepsBeside, Returns}
use Rattle.pi_effects.specs.Rows.{has_line}
use Rattle.pi_settling.specs.Options.{Objective}
use Rattle.pi_settling.specs.Rounds.{count_better}
use Rattle.pi_settling.specs.SolveCalls.{solve_calls}
use Rattle.pi_settling.specs.Words.{plain_words}
use Rattle.pi_core.specs.GoalTree.{no_goals, goal, call}
use Rattle.pi_meaning.specs.Machine.Configuration.{Frame, Search, Found, search_level, Strict, strict, Back as BackData, Entry as EntryData, config, going, raising, in_places}
use Rattle.pi_meaning.specs.Machine.Filled.{are_filled}
use Rattle.pi_meaning.specs.Machine.NamedGoals.{slots_from}
use Rattle.pi_meaning.specs.Machine.Step.{round_goal, search_args, search_slots, rounds_after}
use Rattle.pi_engine_code.specs.Code.{Tables}
use Rattle.pi_engine_code.specs.declared.code.Step.{Step}
use Rattle.pi_engine_arenas.specs.declared.arenas.Back.{Back}
use Rattle.pi_engine_arenas.specs.declared.arenas.Entry.{Entry}
use Rattle.pi_engine_arenas.specs.declared.arenas.Kind.{Kind}
use Rattle.pi_engine_arenas.specs.declared.arenas.Search.{Search as Site}
use Rattle.pi_engine_arenas.specs.declared.run.Now.{Now}
use Rattle.pi_engine_arenas.specs.Arenas.{ArenasView, LeavesLevel, with_kind}
use Rattle.pi_engine_stands.specs.Rests.{Rests}
use Rattle.pi_engine_stands.specs.Here.{Block, block_end, Here, SayLast, IsHere, AreHeld, HoldsArguments, in_block, last_here, answers}
use Rattle.pi_engine_stands.specs.Stands.{World, Loaded, tables_in, steps_of, ends_of, level_ends, back_here, block_at, round_block, search_held, GoalStands, IsFoundBeside, KindIs, once_kind, not_kind, if_kind, guard_kind, apply_kind, collect_kind, count_kind, search_kind, Stands, StandsGoing, GoingIs, going_now, raising_now}
use Rattle.pi_engine_stands.specs.Gives.{without_call}
use Rattle.pi_engine_stands.specs.Makes.{search_at}
use Rattle.pi_engine_stands.specs.Rounds.{IsReopened, in_phase}
use Rattle.pi_engine_stands.specs.Searches.{round_end}
use Rattle.pi_engine_stands.proofs.HereLemmas.{held-extends}
use Rattle.pi_engine_stands.proofs.StandsLemmas.{moved}
use Rattle.pi_engine_stands.proofs.StacksLie.{stack-lies}
use Rattle.pi_engine_stands.proofs.EndsStand.{behind-level}
use Rattle.pi_engine_stands.proofs.ArgumentsStand.{behind-first}
use Rattle.pi_engine_stands.proofs.OnceStand.{GoalLeft}
use Rattle.pi_engine_stands.proofs.ValueGiven.{call-left}
use Rattle.pi_engine_stands.proofs.TermRuns.{arguments-hold}
use Rattle.pi_engine_stands.proofs.SearchBegins.{labels-held, round-going}
use Rattle.pi_engine_stands.proofs.SearchAnswersOpen.{reopened-stands, reopened-agrees, reopened-ends, with_entry_at, entry_anew, anew}

-- ---- the entry of a search

-- what it says, by what it stands for
pub record SearchIs (l : Loaded) (h : Here) (t : State) (base frame from to : ℕ) (site : Site) (s : Strict) (b : BackData) : Type 0 where
  pub name : List ℕ
  pub args : List Tree
  pub x : Search
  pub found : Option Found
  pub places : Places
  pub frames : List Frame
  pub own : GoalStands l h site.caller site.place frame (call name args) places frames
  pub here : IsHere (tables_in l) (steps_of l) (round_block base) site.goal round_goal true
  pub held : HoldsArguments h.terms h.slots base 3 (search_held x)
  pub fit : block_end (block_at l site.place site.caller) ≤ base
  pub greatest : site.greatest ≡ x.objective.greatest
  pub one : from ≡ to
  pub level : s ≡ search_level x (is_not site.is_settling) found
  pub back_is : b ≡ record { slots = places; state = t; frames = frames }

pub search-of : (l : Loaded) (c : List Tree) (h : Here) (t : State) (base frame slots from to : ℕ) (site : Site) (kind : Kind) (s : Strict) (b : BackData) → kind ≡ search_at site → KindIs l c h t base frame slots from to kind (strict s b) →
    SearchIs l h t base frame from to site s b
search-of l c h t base frame slots from to site kind s b named (once_kind own one) = absurd cc
search-of l c h t base frame slots from to site kind s b named (not_kind own one) = absurd cc
search-of l c h t base frame slots from to site kind s b named (if_kind own one) = absurd cc
search-of l c h t base frame slots from to site kind s b named (guard_kind stands over one) = absurd cc
search-of l c h t base frame slots from to site kind s b named (apply_kind own free args fit one) = absurd cc
search-of l c h t base frame slots from to site kind s b named (collect_kind own order some) = absurd cc
search-of l c h t base frame slots from to site kind s b named (count_kind own one) = absurd cc
search-of l c h t base frame slots from to site kind s b named (search_kind {it = it} {name = name} {args = args} {x = x} {f = f} {e = e} {k = k} own here held fit greatest one) =
    let same : it ≡ site = cc in
    subst (λ q. SearchIs l h t base frame from to q s b) same
    (record {
      name = name;
      args = args;
      x = x;
      found = f;
      places = e;
      frames = k;
      own = own;
      here = here;
      held = held;
      fit = fit;
      greatest = greatest;
      one = one;
      level = refl;
      back_is = refl;
    })

same-search : (x y : Search) (p q : Bool) (f g : Option Found) → search_level x p f ≡ search_level y q g → (y ≡ x) × (q ≡ p) × (g ≡ f)
same-search x y p q f g h = (cc, cc, cc)

-- the entry stands for another phase
pub search-phase : (l : Loaded) (c : List Tree) (h : Here) (t : State) (base frame slots from to : ℕ) (site : Site) (kind : Kind) (x : Search) (labels : Bool) (f : Option Found) (b : BackData) (settles : Bool) (g : Option Found) → kind ≡ search_at site →
    KindIs l c h t base frame slots from to kind (strict (search_level x labels f) b) → KindIs l c h t base frame slots from to (search_at (in_phase site settles)) (strict (search_level x (is_not settles) g) b)
search-phase l c h t base frame slots from to site kind x labels f b settles g named is =
    let it : SearchIs l h t base frame from to site (search_level x labels f) b = search-of l c h t base frame slots from to site kind (search_level x labels f) b named is in
    let same : it.x ≡ x = (same-search x it.x labels (is_not site.is_settling) f it.found it.level).0 in
    subst (λ r. KindIs l c h t base frame slots from to (search_at (in_phase site settles)) (strict (search_level x (is_not settles) g) r)) (sym it.back_is)
    (subst (λ r. KindIs l c h t base frame slots from to (search_at (in_phase site settles)) (strict (search_level r (is_not settles) g) (record { slots = it.places; state = t; frames = it.frames }))) same
    (search_kind {it = in_phase site settles} it.own it.here it.held it.fit it.greatest it.one))

-- ---- what stands there

-- what its entry says, where it was gone back to
pub record SearchThere {M : Type 0} (w : World M) (base : ℕ) (site : Site) (x : Search) (labels : Bool) : Type 0 where
  pub phase : labels ≡ is_not site.is_settling
  pub held : HoldsArguments w.store.now.terms w.arenas.blocks.slots base 3 (search_held x)
  pub here : IsHere (tables_in w.loaded) (steps_of w.loaded) (round_block base) site.goal round_goal true
  pub greatest : site.greatest ≡ x.objective.greatest
  pub ends : level_ends w w.arenas.level ≡ in_block (round_block base)

named-entry : {M : Type 0} (w : World M) (level : ℕ) (back : Back) (site : Site) (y : EntryData) (es : List EntryData) → (it : IsReopened w level back y es) → back.kind ≡ search_at site → it.entry.back.kind ≡ search_at site
named-entry w level back site y es it named = ap (λ r. r.kind) it.back_is ∙ named

-- what the entry says of the search
search-in : {M : Type 0} (w : World M) (level : ℕ) (back : Back) (site : Site) (s : Strict) (d : BackData) (es : List EntryData) → (it : IsReopened w level back (strict s d) es) → back.kind ≡ search_at site →
    SearchIs w.loaded (back_here w it.entry) (w.store.at_mark it.entry.mark).state it.entry.back.base it.entry.back.frame it.from (length w.arenas.collected) site s d
search-in w level back site s d es it named =
    let z : Entry _ = it.entry in
    search-of w.loaded w.arenas.collected (back_here w z) (w.store.at_mark z.mark).state z.back.base z.back.frame z.back.blocks.slots it.from (length w.arenas.collected) site z.back.kind s d (named-entry w level back site (strict s d) es it named) it.is.kind

pub search-there : {M : Type 0} (w : World M) (level : ℕ) (back : Back) (site : Site) (x : Search) (labels : Bool) (f : Option Found) (d : BackData) (es : List EntryData) → IsReopened w level back (strict (search_level x labels f) d) es → back.kind ≡ search_at site →
    SearchThere w back.base site x labels
search-there w level back site x labels f d es it named =
    let z : Entry _ = it.entry in
    let is : SearchIs w.loaded (back_here w z) (w.store.at_mark z.mark).state z.back.base z.back.frame it.from (length w.arenas.collected) site (search_level x labels f) d = search-in w level back site (search_level x labels f) d es it named in
    let same : (is.x ≡ x) × (is_not site.is_settling ≡ labels) × (is.found ≡ f) = same-search x is.x labels (is_not site.is_settling) f is.found is.level in
    let base : z.back.base ≡ back.base = ap (λ r. r.base) it.back_is in
    let held : HoldsArguments w.store.now.terms (back_here w z).slots z.back.base 3 (search_held x) = record {
      within = is.held.within;
      held = held-extends (back_here w z).terms w.store.now.terms (take 3 (drop z.back.base (back_here w z).slots)) (in_places (search_held x)) it.agrees.0
          (subst (λ q. AreHeld (back_here w z).terms (take 3 (drop z.back.base (back_here w z).slots)) (in_places (search_held q))) same.0 is.held.held);
    } in
    record {
      phase = sym same.1;
      held = subst (λ n. HoldsArguments w.store.now.terms w.arenas.blocks.slots n 3 (search_held x)) base (subst (λ r. HoldsArguments w.store.now.terms r z.back.base 3 (search_held x)) (sym it.slots) held);
      here = subst (λ n. IsHere (tables_in w.loaded) (steps_of w.loaded) (round_block n) site.goal round_goal true) base is.here;
      greatest = is.greatest ∙ ap (λ q. q.objective.greatest) same.0;
      ends = reopened-ends w level back (strict (search_level x labels f) d) es it ∙ ap (λ q. ends_of w.loaded q back.base) named;
    }

-- a slot of its block
slot-in : (t : Terms) (rs : List (Option Ref)) (a b c : Tree) → AreHeld t (take 3 rs) (in_places (tree a (tree b (tree c no_trees)))) → (r : Ref) × (slice_get rs 2 ≡ Some (Some r)) × (t r.number ≡ Some c)
unfolding AreHeld in_places
slot-in t [] a b c held = absurd held
slot-in t (None ∷ rs) a b c held = absurd held
slot-in t (Some p ∷ []) a b c held = absurd held.1
slot-in t (Some p ∷ None ∷ rs) a b c held = absurd held.1
slot-in t (Some p ∷ Some q ∷ []) a b c held = absurd held.1.1
slot-in t (Some p ∷ Some q ∷ None ∷ rs) a b c held = absurd held.1.1
slot-in t (Some p ∷ Some q ∷ Some r ∷ rs) a b c held = (r, refl, held.1.1.0)

-- its third slot holds the expression
pub expression-there : {M : Type 0} (w : World M) (base : ℕ) (x : Search) → HoldsArguments w.store.now.terms w.arenas.blocks.slots base 3 (search_held x) →
    (r : Ref) × (slice_index_or w.arenas.blocks.slots (base + 2) None ≡ Some r) × IsTerm w.store r x.objective.expression
expression-there w base x holds =
    let it : (r : Ref) × (slice_get (drop base w.arenas.blocks.slots) 2 ≡ Some (Some r)) × (w.store.now.terms r.number ≡ Some x.objective.expression) =
    slot-in w.store.now.terms (drop base w.arenas.blocks.slots) (plain_words x.options) x.vars x.objective.expression holds.held in
    (it.0, get_or_from_slice_get w.arenas.blocks.slots (base + 2) (Some it.0) None (sym (behind-first w.arenas.blocks.slots base 2) ∙ it.1), it.2)

-- ---- a round labels

-- the goal says nothing of being last
not-last : (t : Tables) (steps : List Step) (b : Block) (place : ℕ) → IsHere t steps b place round_goal true → IsHere t steps b place round_goal false
unfolding SayLast slots_from has_line solve_calls
not-last t steps b place here = record { stands = here.stands; of_block = here.of_block; says = λ other. absurd cc }

-- the goal that labels stands in the block of the search
pub round-goes : {M : Type 0} (w : World M) (level : ℕ) (back : Back) (site : Site) (x : Search) (labels : Bool) (f : Option Found) (d : BackData) (es : List EntryData) → IsReopened w level back (strict (search_level x labels f) d) es → back.kind ≡ search_at site →
    StandsGoing w (record { place = site.goal; count = 1; base = back.base; frame = 0 }) (goal round_goal no_goals) (search_slots x) [] (strict (search_level x labels f) d ∷ es)
round-goes w level back site x labels f d es it named =
    let there : SearchThere w back.base site x labels = search-there w level back site x labels f d es it named in
    record {
      entries = reopened-stands w level back (search_level x labels f) d es it;
      runs = going_now (record {
        block = round_block back.base;
        base = refl;
        value = None;
        last = false;
        rest = [];
        goals = last_here (not-last (tables_in w.loaded) (steps_of w.loaded) (round_block back.base) site.goal there.here);
        behind = record {
          slots = arguments-hold w.store.now.terms w.arenas.blocks.slots back.base 2 (search_args x) (labels-held w.store.now.terms w.arenas.blocks.slots back.base x there.held);
          leaves = false;
          frames = answers there.ends;
        };
        leaves = record { is_last = λ h. h; is_given = λ none out. absurd cc; is_value = λ t h. absurd cc };
        frames = refl;
        agrees = reopened-agrees w level back (strict (search_level x labels f) d) es it;
      });
    }

-- its slots hold its variables
pub round-filled : (x : Search) → are_filled (search_slots x) (trees_of (slots_from 0 2)) ≡ true
unfolding are_filled slots_from in_places
round-filled x = refl

-- the entry waits for answers of the labelling
pub round-labels : {M : Type 0} (w : World M) (level : ℕ) (back : Back) (site : Site) (x : Search) (f : Option Found) (d : BackData) (es : List EntryData) → (it : IsReopened w level back (strict (search_level x false f) d) es) → back.kind ≡ search_at site →
    IsReopened (moved w w.store (with_entry_at w.arenas it.below (with_kind it.entry (search_at (in_phase site false))))) level (with_kind it.entry (search_at (in_phase site false))).back (strict (search_level x true f) d) es
round-labels w level back site x f d es it named =
    let z : Entry _ = it.entry in
    let kind : Kind = search_at (in_phase site false) in
    let own : z.back.kind ≡ search_at site = named-entry w level back site (strict (search_level x false f) d) es it named in
    anew w w.store level back z.mark kind (strict (search_level x false f) d) (strict (search_level x true f) d) es it
    (record {
      marks = λ m good older. (good, refl);
      good = it.is.good;
      same = refl;
      order = refl;
      beside = λ m. refl;
      names = λ k name has. has;
      state = it.state;
      terms = it.agrees.0;
      tables = it.tables;
      ends = λ base. sym (ap (λ q. ends_of w.loaded q base) own);
      found = it.is.found;
      waits = λ from is. search-phase w.loaded w.arenas.collected (back_here w z) (w.store.at_mark z.mark).state z.back.base z.back.frame z.back.blocks.slots from (length w.arenas.collected) site z.back.kind x false f d false f own is;
    })

-- ---- the search has its answer, or its expression is no integer

-- its level is left, and there is the caller's block
pub search-left : {M : Type 0} (w : World M) (b : ArenasView M) (level : ℕ) (back : Back) (site : Site) (x : Search) (labels : Bool) (f : Option Found) (d : BackData) (es : List EntryData) → IsReopened w level back (strict (search_level x labels f) d) es →
    back.kind ≡ search_at site → LeavesLevel w.arenas b (level - 1) (without_call back site.caller) →
    Stands (moved w w.store b) (Now.Going (record { place = 0; count = 0; base = site.caller; frame = back.frame })) (config (going no_goals d.slots w.store.now.state d.frames) es)
search-left w b level back site x labels f d es it named left =
    let z : Entry _ = it.entry in
    let y : EntryData = strict (search_level x labels f) d in
    let is : SearchIs w.loaded (back_here w z) (w.store.at_mark z.mark).state z.back.base z.back.frame it.from (length w.arenas.collected) site (search_level x labels f) d = search-in w level back site (search_level x labels f) d es it named in
    let out : LeavesLevel w.arenas b it.below (without_call z.back site.caller) =
    subst (λ r. LeavesLevel w.arenas b it.below (without_call r site.caller)) (sym it.back_is) (subst (λ n. LeavesLevel w.arenas b n (without_call back site.caller)) (omega (arith, it.number)) left) in
    let own : GoalLeft w b site.caller site.place z.back.frame (call is.name is.args) is.places is.frames es =
    call-left w b (y ∷ es) it.below it.from site.place site.caller z y (call is.name is.args) es is.places is.frames (reopened-stands w level back (search_level x labels f) d es it) it.agrees it.at it.is it.stack is.one out is.own is.fit in
    subst (λ r. Stands (moved w w.store b) (Now.Going (record { place = 0; count = 0; base = site.caller; frame = r.frame })) (config (going no_goals d.slots w.store.now.state d.frames) es)) it.back_is
    (subst (λ r. Stands (moved w w.store b) (Now.Going (record { place = 0; count = 0; base = site.caller; frame = z.back.frame })) (config (going no_goals r.slots w.store.now.state r.frames) es)) (sym is.back_is)
    (record { entries = own.entries; runs = going_now (behind-level (moved w w.store b) site.caller site.place z.back.frame (call is.name is.args) is.places is.frames own.goal own.agrees) }))

pub search-raises : {M : Type 0} (w : World M) (b : ArenasView M) (level : ℕ) (back : Back) (site : Site) (x : Search) (labels : Bool) (f : Option Found) (d : BackData) (ball : Tree) (es : List EntryData) → IsReopened w level back (strict (search_level x labels f) d) es →
    back.kind ≡ search_at site → LeavesLevel w.arenas b (level - 1) (without_call back site.caller) → Stands (moved w w.store b) (Now.Raising ball) (config (raising ball) es)
search-raises w b level back site x labels f d ball es it named left =
    record { entries = stack-lies (moved w w.store b) es (search-left w b level back site x labels f d es it named left).entries; runs = raising_now }

-- ---- the next round

-- how many rounds may follow
pub rounds-left : (o : Option Beside) (f : Option Found) (b : Objective) (v : ℤ) → IsFoundBeside o f → unwrap_or (option_map (λ q. q.number) o) (count_better b.greatest v) ≡ rounds_after b f v
rounds-left None None b v is = refl
rounds-left None (Some g) b v is = absurd is
rounds-left (Some q) None b v is = absurd is
rounds-left (Some q) (Some g) b v is = is.1

-- the store has come back to a mark that keeps the answer beside, and the entry has it and waits for what the next round posts
pub round-returns : {M : Type 0} (w : World M) (v : StoreView M) (kept : M) (n level : ℕ) (back : Back) (site : Site) (x : Search) (f : Option Found) (d : BackData) (es : List EntryData) → (it : IsReopened w level back (strict (search_level x true f) d) es) →
    back.kind ≡ search_at site → KeepsBeside w.order w.store it.entry.mark kept n → Returns w.order w.store v kept →
    IsReopened (moved w v (with_entry_at w.arenas it.below (entry_anew it.entry kept (search_at (in_phase site true))))) level (with_kind it.entry (search_at (in_phase site true))).back
    (strict (search_level x false (Some (record { state = w.store.now.state; left = n }))) d) es
round-returns w v kept n level back site x f d es it named keeps returns =
    let z : Entry _ = it.entry in
    let g : Found = record { state = w.store.now.state; left = n } in
    let own : z.back.kind ≡ search_at site = named-entry w level back site (strict (search_level x true f) d) es it named in
    let now : v.now ≡ w.store.at_mark z.mark = returns.now ∙ keeps.same in
    let there : v.at_mark kept ≡ w.store.at_mark kept = returns.same kept keeps.good (omega arith) in
    let beside : v.beside kept ≡ Some keeps.beside = returns.beside kept ∙ keeps.is_beside in
    anew w v level back kept (search_at (in_phase site true)) (strict (search_level x true f) d) (strict (search_level x false (Some g)) d) es it
    (record {
      marks = λ m good older. (returns.good m good (omega (arith, older, keeps.order_is)), returns.same m good (omega (arith, older, keeps.order_is)));
      good = returns.good kept keeps.good (omega arith);
      same = there ∙ keeps.same;
      order = keeps.order_is;
      beside = returns.beside;
      names = returns.names;
      state = subst (λ m. Rests m.state) (sym now) it.is.state;
      terms = subst (λ m. Extend (w.store.at_mark z.mark).terms m.terms) (sym now) (λ k t has. has);
      tables = subst (λ m. Extend w.loaded.terms m.terms) (sym now) it.is.tables;
      ends = λ base. sym (ap (λ q. ends_of w.loaded q base) own);
      found = (
        subst (λ o. IsFoundBeside o (Some g)) (sym beside) (keeps.state, keeps.number_is, it.state),
        λ b has.
            (let old : (b.from ≡ (w.store.at_mark kept).words) × _ = keeps.stands b (sym (returns.beside kept) ∙ has) in
            (old.0 ∙ ap (λ m. m.words) (sym there), λ k name at. returns.names k name (old.1 k name at))),
      );
      waits = λ from is. search-phase w.loaded w.arenas.collected (back_here w z) (w.store.at_mark z.mark).state z.back.base z.back.frame z.back.blocks.slots from (length w.arenas.collected) site z.back.kind x true f d true (Some g) own is;
    })

-- the state is the one that the search began in
pub search-state : {M : Type 0} (w : World M) (level : ℕ) (back : Back) (site : Site) (x : Search) (labels : Bool) (f : Option Found) (d : BackData) (es : List EntryData) → (it : IsReopened w level back (strict (search_level x labels f) d) es) → back.kind ≡ search_at site →
    d.state ≡ (w.store.at_mark it.entry.mark).state
search-state w level back site x labels f d es it named = ap (λ r. r.state) (search-in w level back site (search_level x labels f) d es it named).back_is

-- a round has nothing left to do but to settle what it posts
pub round-begins : {M : Type 0} (w : World M) (level : ℕ) (back : Back) (site : Site) (x : Search) (labels : Bool) (f : Option Found) (d : BackData) (es : List EntryData) → IsReopened w level back (strict (search_level x labels f) d) es → back.kind ≡ search_at site →
    GoingIs w (round_end back.base) no_goals (search_slots x) []
round-begins w level back site x labels f d es it named =
    let there : SearchThere w back.base site x labels = search-there w level back site x labels f d es it named in
    round-going w back.base x there.held there.ends (reopened-agrees w level back (strict (search_level x labels f) d) es it)
