-- A query is sound over any sound core program that defines what its program does: what stands there stays sound among more, and the helpers of its loops stand behind.
use Rattle.std.proofs.Common.{◌≡◌, ◌⊎◌, inl, inr, ℕ, ◌≤◌, ◌<◌, Bool, true, false, List, [], ◌∷◌, ◌++◌, length, refl, sym, ◌∙◌, ap, subst, arith}
use Rattle.std.proofs.lemmas.Bool.{false≢true}
use Rattle.std.specs.Prelude.{Option, Some, None, is_some, IsSome, IsTrue, All, Contains}
use Rattle.std.proofs.lemmas.List.Elements.{All-append, Contains-append_cases}
use Rattle.pi_syntax.specs.ExpTree.{ExpTree}
use Rattle.pi_syntax.specs.ProgramTree.{ProgramTree}
use Rattle.pi_syntax.specs.declared.program.Mode.{Mode}
use Rattle.pi_core.specs.GoalTree.{GoalTree}
use Rattle.pi_core.specs.CoreTree.{ClauseTree, PredTree, find_pred}
use Rattle.pi_core.specs.declared.core_program.NameSlot.{NameSlot}
use Rattle.pi_meaning.specs.Shared.Effects.{is_value_name}
use Rattle.pi_meaning.specs.Shared.Names.{is_given}
use Rattle.pi_meaning.specs.CoreMeaning.Quiet.{Callee, Reaches, ReachesFrom, IsQuiet}
use Rattle.pi_meaning.specs.CoreMeaning.Sound.{CallsKnown, IsSoundClause, IsSoundIndex, IsSound}
use Rattle.pi_meaning.specs.CoreMeaning.Defined.{CallsDefined, ClauseCallsDefined, ProgramCallsDefined, NamesAreFree, is_machine_predicate}
use Rattle.pi_meaning.specs.CoreMeaning.Instances.{is_called_by_name}
use Rattle.pi_meaning.proofs.CoreMeaning.DefinedLemmas.{found-pred}
use Rattle.pi_meaning.specs.OverNames.Texts.{Names}
use Rattle.pi_meaning.specs.OverNames.Run.{answer_names}
use Rattle.pi_rewrite_spec.specs.Slots.{SlotNames, slot_for, slots_for, named_slots, slots_behind}
use Rattle.pi_rewrite_spec.specs.Goals.{in_turn}
use Rattle.pi_rewrite_spec.specs.Written.{goal_of}
use Rattle.pi_rewrite_spec.specs.Helpers.{goal_helpers}
use Rattle.pi_rewrite_spec.specs.Programs.{Naming, query_site, core_query}
use Rattle.pi_rewrite_laws.specs.Within.{IsAsked, AreQuiet}
use Rattle.pi_rewrite_laws.specs.Laws.{known_of, DefinesTheSame, AreNew}
use Rattle.pi_rewrite_spec.proofs.AgreeLemmas.{grows-length}
use Rattle.pi_rewrite_spec.proofs.TermLemmas.{name-room}
use Rattle.pi_rewrite_laws.proofs.TellingLemmas.{behind-grows}
use Rattle.pi_rewrite_laws.proofs.SoundLemmas.{nothing-in, cons-cases}
use Rattle.pi_rewrite_laws.proofs.TextLevels.{nothing-named}
use Rattle.pi_rewrite_laws.proofs.NumberedLemmas.{NamedFrom, goal-numbered}
use Rattle.pi_rewrite_laws.proofs.OwnLemmas.{named-quiet}
use Rattle.pi_rewrite_sound.specs.Built.{is_built_goal}
use Rattle.pi_rewrite_sound.specs.Laws.{AreNames, IsPlain, QueryFits, LoweredQueriesAreSound}
use Rattle.pi_rewrite_sound.proofs.NameLemmas.{machine-given, table-given}
use Rattle.pi_rewrite_sound.proofs.FineGoals.{Fine, fine-turn, slots-below}
use Rattle.pi_rewrite_sound.proofs.GoodHelpers.{Allows, Has, FineHelpers}
use Rattle.pi_rewrite_sound.proofs.GoodGoals.{GoodGoals}
use Rattle.pi_rewrite_sound.proofs.GoodTexts.{goal-good as text-good}
use Rattle.pi_rewrite_sound.proofs.FoundLemmas.{found_in, found-has, found-first, found-more}
use Rattle.pi_rewrite_sound.proofs.RankLemmas.{ticks-behind}
use Rattle.pi_rewrite_sound.proofs.SoundGoals.{found-free, goal-good, reached-called}
use Rattle.pi_rewrite_sound.proofs.ApartLemmas.{Lacks, apart-behind}
use Rattle.pi_rewrite_sound.proofs.HelperSound.{helper-of, helper-sound, helper-closed, helper-index, no-guards, named-of, helper-free, loud}
use Rattle.pi_rewrite_sound.proofs.PlainLemmas.{texts-plain}
use Rattle.pi_rewrite_sound.proofs.ProgramLemmas.{some-called, program-allows}

-- ---- what is sound stays so among more

found-or : {A : Type 0} (kind : Bool) (name : List ℕ) (k : ℕ) (preds more : List PredTree) → IsSome (find_pred kind name k preds) ⊎ A → IsSome (find_pred kind name k (preds ++ more)) ⊎ A
found-or kind name k preds more (inl there) = inl (found-more kind name k preds more there)
found-or kind name k preds more (inr given) = inr given

defined-more : (preds more : List PredTree) (g : GoalTree) → CallsDefined preds g → CallsDefined (preds ++ more) g
defined-more preds more g are = record {
  calls = λ name args at. found-or false name (length args) preds more (are.calls name args at);
  functions = λ name args slot at. found-or true name (length args) preds more (are.functions name args slot at);
}

known-more : (preds more : List PredTree) (g : GoalTree) → CallsKnown preds g → CallsKnown (preds ++ more) g
known-more preds more g are = record {
  calls = λ name args at. found-or false name (length args) preds more (are.calls name args at);
  functions = λ name args slot at. found-or true name (length args) preds more (are.functions name args slot at);
  plans = λ name args at is. (found-more false _ 1 preds more (are.plans name args at is).0, found-more false _ 4 preds more (are.plans name args at is).1);
}

clause-more : (preds more : List PredTree) (p : PredTree) (c : ClauseTree) → IsSoundClause preds p c → IsSoundClause (preds ++ more) p c
clause-more preds more p c is = record { slots = is.slots; arity = is.arity; value = is.value; guard = known-more preds more c.guard is.guard; body = known-more preds more c.body is.body; quiet = is.quiet }

-- ---- what names tell

named-below : (names : Names) (ns : SlotNames) (n : ℕ) → length (slots_behind names ns) ≤ n → (x : NameSlot) → Contains (named_slots names ns) x → x.slot < n
unfolding named_slots slots_behind
named-below [] ns n room x there = absurd (nothing-in x there)
named-below (name ∷ names) ns n room x there = go (cons-cases _ (named_slots names ms) x there) (λ later. named-below names ms n room x later)
  where
    ms : SlotNames
    ms = slots_for name ns

    go : (record { name = name; slot = slot_for name ns } ≡ x) ⊎ Contains (named_slots names ms) x → (Contains (named_slots names ms) x → x.slot < n) → x.slot < n
    go (inl same) rest = subst (λ (y : NameSlot). y.slot < n) same (name-room name ns n (omega (arith, room, grows-length ms _ (behind-grows names ms))))
    go (inr later) rest = rest later

-- ---- a query

abbrev loops_of : Naming → ExpTree → List PredTree
loops_of other goal = goal_helpers (query_site other) goal

module _ (program : ProgramTree) (goal : ExpTree) (preds : List PredTree) (defines : DefinesTheSame program preds) (sound : IsSound preds) (closed : ProgramCallsDefined preds) (free : NamesAreFree preds) (asked : IsAsked program goal)
    (built : is_built_goal goal ≡ true) (other : Naming) (names : AreNames program other) (new : AreNew preds other) where
  abbrev whole : List PredTree
  whole = preds ++ goal_helpers (query_site other) goal

  text : GoodGoals (known_of program) (loops_of other goal) (λ ns. goal_of (query_site other) goal ns)
  text = text-good (known_of program) (query_site other) goal nothing-named asked built

  numbered : NamedFrom other 0 (loops_of other goal)
  numbered = (goal-numbered (known_of program) (query_site other) goal asked).each

  quiet : AreQuiet (loops_of other goal)
  quiet = named-quiet other 0 (loops_of other goal) numbered

  allows : Allows (known_of program) (found_in whole)
  allows = program-allows program whole (λ name k is. found-more false name k preds (loops_of other goal) (some-called (find_pred false name k preds) (defines.predicates name k ∙ is)))
      (λ name k is. found-more true name k preds (loops_of other goal) (defines.functions name k ∙ is))

  has : Has (found_in whole) (loops_of other goal)
  has = found-has preds (loops_of other goal) quiet

  helpers : FineHelpers (found_in whole) (loops_of other goal)
  helpers = text.helpers.each (found_in whole) allows has

  whole-free : NamesAreFree whole
  whole-free p there = go (Contains-append_cases preds (loops_of other goal) p there)
    where
      go : Contains preds p ⊎ Contains (loops_of other goal) p → is_given p.function p.name p.arity ≡ false
      go (inl first) = free p first
      go (inr last) = helper-free (known_of program) other names.own p (named-of other 0 (loops_of other goal) numbered p last)

  lacks : Lacks preds other
  lacks true n k is = false≢true (sym (names.functions n k) ∙ sym (defines.functions (other n) k) ∙ is)
  lacks false n k is = false≢true (sym (ap is_some (new n k)) ∙ is)

  -- ---- ranks

  has-called : (name : List ℕ) (k : ℕ) → IsTrue ((known_of program).predicate name k) → is_called_by_name (find_pred false name k whole) ≡ true
  has-called name k is = go (find_pred false name k preds) refl (defines.predicates name k ∙ is)
    where
      go : (o : Option PredTree) → find_pred false name k preds ≡ o → is_called_by_name (find_pred false name k preds) ≡ true → is_called_by_name (find_pred false name k (preds ++ goal_helpers (query_site other) goal)) ≡ true
      go None at h = absurd (false≢true (sym (ap is_called_by_name at) ∙ h))
      go (Some p) at h = ap is_called_by_name (found-first false name k preds (loops_of other goal) p at) ∙ sym (ap is_called_by_name at) ∙ h

  -- what is called in front stands there, or is given
  abbrev Stands : Bool → List ℕ → ℕ → Type 0
  Stands kind name k = IsSome (find_pred kind name k preds) ⊎ IsTrue (is_given kind name k)

  given-machine : (name : List ℕ) (k : ℕ) → IsSome (find_pred false name k preds) ⊎ IsTrue (is_machine_predicate name k) → Stands false name k
  given-machine name k (inl there) = inl there
  given-machine name k (inr machine) = inr (machine-given name k machine)

  given-table : (name : List ℕ) (k : ℕ) → IsSome (find_pred true name k preds) ⊎ IsTrue (is_value_name name k) → Stands true name k
  given-table name k (inl there) = inl there
  given-table name k (inr table) = inr (table-given name k table)

  goal-stands : (d : Callee) (g : GoalTree) → CallsDefined preds g → Reaches d g → Stands d.function d.name d.arity
  goal-stands d g are at =
      reached-called Stands d g (record { predicates = λ name args there. given-machine name (length args) (are.calls name args there); functions = λ name args slot there. given-table name (length args) (are.functions name args slot there) }) at

  clause-stands : (d : Callee) (c : ClauseTree) → ClauseCallsDefined preds c → ReachesFrom d c → Stands d.function d.name d.arity
  clause-stands d c are (inl guard) = goal-stands d c.guard are.guard guard
  clause-stands d c are (inr body) = goal-stands d c.body are.body body.1

  in-front : (c d : Callee) (pred found : PredTree) (clause : ClauseTree) → IsQuiet preds c pred → Contains pred.clauses clause → ReachesFrom d clause → IsQuiet whole d found → IsSome (find_pred d.function d.name d.arity preds)
  in-front c d pred found clause is inside reaches quiet =
      go (clause-stands d clause (closed pred (found-pred preds c.function c.name c.arity pred is.0).among clause inside) reaches)
    where
      go : IsSome (find_pred d.function d.name d.arity preds) ⊎ IsTrue (is_given d.function d.name d.arity) → IsSome (find_pred d.function d.name d.arity preds)
      go (inl there) = there
      go (inr given) = absurd (false≢true (sym (found-free whole whole-free d.function d.name d.arity found quiet.0) ∙ given))

  -- ---- clauses

  sound-clause : (p : PredTree) → Contains whole p → (c : ClauseTree) → Contains p.clauses c → IsSoundClause whole p c
  sound-clause p there c inside = go (Contains-append_cases preds (loops_of other goal) p there)
    where
      go : Contains preds p ⊎ Contains (loops_of other goal) p → IsSoundClause (preds ++ goal_helpers (query_site other) goal) p c
      go (inl first) = clause-more preds (loops_of other goal) p c (sound.clauses p first c inside)
      go (inr last) = helper-sound whole whole-free p (helper-of (found_in whole) (loops_of other goal) helpers p last) c inside

  closed-clause : (p : PredTree) → Contains whole p → (c : ClauseTree) → Contains p.clauses c → ClauseCallsDefined whole c
  closed-clause p there c inside = go (Contains-append_cases preds (loops_of other goal) p there)
    where
      go : Contains preds p ⊎ Contains (loops_of other goal) p → ClauseCallsDefined (preds ++ goal_helpers (query_site other) goal) c
      go (inl first) =
          record { guard = defined-more preds (loops_of other goal) c.guard (closed p first c inside).guard; body = defined-more preds (loops_of other goal) c.body (closed p first c inside).body }
      go (inr last) = helper-closed whole whole-free p (helper-of (found_in whole) (loops_of other goal) helpers p last) c inside

  sound-index : (p : PredTree) → Contains whole p → (lists : List (List Mode)) → p.index ≡ Some lists → IsSoundIndex p lists
  sound-index p there lists at = go (Contains-append_cases preds (loops_of other goal) p there)
    where
      go : Contains preds p ⊎ Contains (loops_of other goal) p → IsSoundIndex p lists
      go (inl first) = sound.index p first lists at
      go (inr last) = helper-index (found_in whole) p (helper-of (found_in whole) (loops_of other goal) helpers p last) lists at

  whole-sound : IsSound whole
  whole-sound = record {
    apart = apart-behind other names.own.apart preds (loops_of other goal) sound.apart lacks numbered;
    clauses = sound-clause;
    index = sound-index;
    ticks = ticks-behind (known_of program) preds (loops_of other goal) sound.ticks (record {
      quiet = quiet;
      falls = text.helpers.falls;
      guards = no-guards (found_in whole) (loops_of other goal) helpers;
      loud = loud (known_of program) whole has-called whole-free;
      apart = in-front;
    });
  }

  -- ---- the goal

  abbrev ns : SlotNames
  ns = (goal_of (query_site other) goal []).names

  abbrev slots : ℕ
  slots = length (slots_behind (answer_names goal) (goal_of (query_site other) goal []).names)

  goal-fine : Fine slots (found_in whole) (in_turn (goal_of (query_site other) goal []).goals)
  goal-fine = fine-turn slots (found_in whole) (goal_of (query_site other) goal []).goals (text.fine (found_in whole) allows has slots [] (grows-length ns _ (behind-grows (answer_names goal) ns)))

  query-fits : All IsPlain preds → QueryFits preds goal other
  unfolding core_query
  query-fits plain = record {
    sound = record {
      preds = whole-sound;
      slots = slots-below slots (found_in whole) (in_turn (goal_of (query_site other) goal []).goals) goal-fine;
      names = λ x there. named-below (answer_names goal) ns slots (omega arith) x there;
      calls = (goal-good whole whole-free slots (in_turn (goal_of (query_site other) goal []).goals) goal-fine).known;
    };
    closed = record { preds = closed-clause; goal = (goal-good whole whole-free slots (in_turn (goal_of (query_site other) goal []).goals) goal-fine).defined };
    free = whole-free;
    plain = All-append IsPlain preds (loops_of other goal) plain (texts-plain (query_site other) goal);
  }

pub queries-sound : LoweredQueriesAreSound
queries-sound program goal preds defines sound closed free plain asked built other names new = query-fits program goal preds defines sound closed free asked built other names new plain
