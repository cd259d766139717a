-- Soundness of programs, put together.
use Rattle.std.proofs.Common.{◌≡◌, ◌⊎◌, inl, inr, ℕ, ◌+◌, Bool, true, false, if◌then◌else◌, List, [], ◌∷◌, ◌++◌, length, refl, sym, ◌∙◌, ap, subst, arith}
use Rattle.std.proofs.lemmas.Bool.{false≢true, or_parts, or_left, or_right}
use Rattle.std.specs.Prelude.{not, Option, Some, None, is_some, IsSome, IsTrue, All, AllPairs, Contains, slice_index_or}
use Rattle.std.specs.Option.{option_or}
use Rattle.std.specs.List.{cons_option}
use Rattle.std.proofs.lemmas.List.Elements.{All-nil, All-cons, All-contains, Contains-append_cases, recursion_from_All}
use Rattle.pi_core.specs.CoreTree.{ClauseTree, PredTree, index_of, find_pred}
use Rattle.pi_syntax.specs.ExpTree.{ExpTree}
use Rattle.pi_syntax.specs.ProgramTree.{WrittenClause, rule, function, fact, ProgramTree}
use Rattle.pi_syntax.specs.Signature.{Signature, signature, exp_count}
use Rattle.pi_syntax.specs.declared.program.Decl.{Decl}
use Rattle.pi_syntax.specs.declared.program.Mode.{Mode}
use Rattle.pi_meaning.specs.Shared.Effects.{is_value_name}
use Rattle.pi_meaning.specs.Shared.Names.{is_given_predicate, is_given_function, is_given}
use Rattle.pi_meaning.specs.CoreMeaning.Quiet.{Callee, IsQuiet, TicksBetween}
use Rattle.pi_meaning.specs.OverNames.WrittenRules.{head_arguments}
use Rattle.pi_meaning.specs.CoreMeaning.Sound.{IsSoundClause, IsAnother, IsSoundIndex, IsSound}
use Rattle.pi_meaning.specs.CoreMeaning.Defined.{ClauseCallsDefined, NamesAreFree, is_machine_predicate}
use Rattle.pi_meaning.specs.CoreMeaning.Instances.{is_called_by_name}
use Rattle.pi_meaning.proofs.CoreMeaning.DefinedLemmas.{found-pred}
use Rattle.pi_meaning.specs.OverNames.Prelude.{prelude}
use Rattle.pi_rewrite_spec.specs.Forms.{Knows}
use Rattle.pi_rewrite_spec.specs.Clauses.{named_by, Lowering, grouped_all}
use Rattle.pi_rewrite_spec.specs.Programs.{Naming, written_rule, rule_count, rule_helpers, written_function, function_count, function_helpers, clause_count, written_clause, clause_helpers, clauses_of, helpers_of, core_program}
use Rattle.pi_rewrite_laws.specs.Within.{IsFree, AreModes, Key, StandTogether, IsClause, IsPart, AreQuiet}
use Rattle.pi_rewrite_laws.specs.Laws.{known_of, DefinesTheSame}
use Rattle.pi_rewrite_laws.proofs.FindLemmas.{Modes, sign, of, keys_of, pred_from, find-all}
use Rattle.pi_rewrite_laws.proofs.NumberedLemmas.{NamedFrom}
use Rattle.pi_rewrite_laws.proofs.OwnLemmas.{find-append, named-quiet}
use Rattle.pi_rewrite_laws.proofs.TextPrograms.{Parts, program-numbered, keys-written}
use Rattle.pi_rewrite_laws.proofs.LawLemmas.{programs-are-kept}
use Rattle.pi_rewrite_sound.specs.Built.{is_built_clause, is_built, is_built_part, unbuilt_from, unbuilt_part}
use Rattle.pi_rewrite_sound.specs.Within.{IsWithin}
use Rattle.pi_rewrite_sound.specs.Laws.{AreNames, LoweredProgramsAreSound, LoweredProgramsAreClosed, clauses_named, pred_made, LoweredProgramsHaveClauses}
use Rattle.pi_rewrite_sound.proofs.GoodHelpers.{Allows, Has, has-first, has-last, FineHelpers, GoodHelpers, no-helpers, both-helpers}
use Rattle.pi_rewrite_sound.proofs.ClauseLemmas.{GoodClause, GoodWith, head-count, rule-good, fact-good, function-good}
use Rattle.pi_rewrite_sound.proofs.PreludeBuilt.{AreBuilt, prelude-built}
use Rattle.pi_rewrite_sound.proofs.GroupLemmas.{Holds, HoldsOf, groups-hold, pred_key, Differ, groups-differ, groups-among}
use Rattle.pi_rewrite_sound.proofs.FoundLemmas.{found_in, found-has, found-first, found-more}
use Rattle.pi_rewrite_sound.proofs.RankLemmas.{ticks-behind}
use Rattle.pi_rewrite_sound.proofs.SoundGoals.{goal-good}
use Rattle.pi_rewrite_sound.proofs.ApartLemmas.{apart-behind}
use Rattle.pi_rewrite_sound.proofs.HelperSound.{helper-of, helper-sound, helper-closed, helper-index, no-guards, named-of, helper-free, loud}

-- ---- parts

all-built : (n : ℕ) (parts : ProgramTree) → unbuilt_from n parts ≡ None → AreBuilt parts
unfolding unbuilt_from
all-built n [] none = tt
all-built n (p ∷ ps) none = go (is_built_part p) refl none (λ rest. all-built (n + 1) ps rest)
  where
    go : (test : Bool) → is_built_part p ≡ test → (if test then unbuilt_from (n + 1) ps else Some n) ≡ None → (unbuilt_from (n + 1) ps ≡ None → AreBuilt ps) → (is_built_part p ≡ true) × AreBuilt ps
    go true is none behind = (is, behind none)
    go false is none behind = absurd cc

clause-built : (d : Decl) (c : WrittenClause) → is_built d (Some c) ≡ true → is_built_clause c ≡ true
clause-built Decl.Plain c is = is
clause-built (Decl.Import names) c is = absurd (false≢true is)
clause-built (Decl.Index lists) c is = is

-- ---- what the clauses are

free-name : (kind : Bool) (head : ExpTree) → IsFree head → is_given kind (named_by (signature head)).name (named_by (signature head)).arity ≡ false
free-name kind head free = subst (λ (o : Option Signature). is_given kind (named_by o).name (named_by o).arity ≡ false) (sym free.is_named) (go kind)
  where
    both : (is_given_predicate free.named.name free.named.arity ≡ false) × (is_given_function free.named.name free.named.arity ≡ false)
    both = or_parts (is_given_predicate free.named.name free.named.arity) (is_given_function free.named.name free.named.arity) free.free

    go : (b : Bool) → is_given b free.named.name free.named.arity ≡ false
    go true = both.1
    go false = both.0

-- mode lists are as long as the arguments, and stand before no function
record FitModes (kind : Bool) (s : Signature) (m : Modes) : Type 0 where
  long : (lists : List (List Mode)) → m ≡ Some lists → (modes : List Mode) → Contains lists modes → length modes ≡ s.arity
  no_function : (lists : List (List Mode)) → m ≡ Some lists → kind ≡ false

-- the name of a predicate or function is free, and its mode lists fit
record IsFreeName (kind : Bool) (s : Signature) (m : Modes) : Type 0 where
  free : is_given kind s.name s.arity ≡ false
  fit : FitModes kind s m

none-some : {A : Type 0} (x : A) → None ≡ Some x → ⊥
none-some x e = cc

without-modes : (kind : Bool) (head : ExpTree) → IsFree head → IsFreeName kind (named_by (signature head)) None
without-modes kind head free = record { free = free-name kind head free; fit = record { long = λ lists is. absurd (none-some lists is); no_function = λ lists is. absurd (none-some lists is) } }

same-lists : (some : List (List Mode)) (lists : List (List Mode)) → Some some ≡ Some lists → some ≡ lists
same-lists some lists is = cc

with-modes : (head : ExpTree) → IsFree head → (m : Modes) → AreModes m (Some (fact head)) → IsFreeName false (named_by (signature head)) m
with-modes head free None are = without-modes false head free
with-modes head free (Some some) are = record {
  free = free-name false head free;
  fit = record {
    long = λ lists is modes there.
        All-contains (λ modes. length modes ≡ exp_count (head_arguments head)) lists modes (subst (All (λ modes. length modes ≡ exp_count (head_arguments head))) (same-lists some lists is) are) there
        ∙ head-count head free.named free.is_named ∙ sym (ap (λ (o : Option Signature). (named_by o).arity) free.is_named);
    no_function = λ lists is. refl;
  };
}

-- clauses, where the helpers of their loops may be called
record PartsGood (known : Knows) (helpers : List PredTree) (cs : List Lowering) : Type 0 where
  good : GoodHelpers known helpers
  clauses : (may : Knows) → Allows known may → Has may helpers → All (Holds IsFreeName (GoodClause may)) cs

parts-good : (known : Knows) (called : Naming) (n : ℕ) (parts : ProgramTree) → Parts known parts → AreBuilt parts → PartsGood known (helpers_of called n parts) (clauses_of called n parts)
unfolding helpers_of clauses_of
parts-good known called n [] are built = record { good = no-helpers known; clauses = λ may allows has. All-nil (Holds IsFreeName (GoodClause may)) }
parts-good known called n (p ∷ ps) are built = go p.decl p.clause are.0.modes are.0.clause built.0 (λ m. parts-good known called m ps are.1 built.1)
  where
    go : (d : Decl) (o : Option WrittenClause) → AreModes (index_of d) o → IsClause known o → is_built d o ≡ true → ((m : ℕ) → PartsGood known (helpers_of called m ps) (clauses_of called m ps)) →
        PartsGood known (clause_helpers called n o ++ helpers_of called (n + clause_count o) ps) (cons_option (written_clause called n (index_of d) o) (clauses_of called (n + clause_count o) ps))
    go d None modes is built rest = rest (n + 0)
    go d (Some (rule r)) modes is built rest =
        let this : GoodWith known false (named_by (signature r.head)) (rule_helpers called n r) (written_rule called n r) = rule-good known called n r is.0 is.1 (clause-built d (rule r) built) in
        let behind : PartsGood known (helpers_of called (n + rule_count r) ps) (clauses_of called (n + rule_count r) ps) = rest (n + rule_count r) in
        record {
          good = both-helpers known (rule_helpers called n r) (helpers_of called (n + rule_count r) ps) this.helpers behind.good;
          clauses = λ may allows has.
              All-cons (Holds IsFreeName (GoodClause may)) _ (clauses_of called (n + rule_count r) ps) (record { named = without-modes false r.head is.1; clause = this.clause may allows (has-first may (rule_helpers called n r) (helpers_of called (n + rule_count r) ps) has) })
              (behind.clauses may allows (has-last may (rule_helpers called n r) (helpers_of called (n + rule_count r) ps) has));
        }
    go d (Some (function f)) modes is built rest =
        let this : GoodWith known true (named_by (signature f.head)) (function_helpers called n f) (written_function called n f) = function-good known called n f is.0 is.1 (clause-built d (function f) built) in
        let behind : PartsGood known (helpers_of called (n + function_count f) ps) (clauses_of called (n + function_count f) ps) = rest (n + function_count f) in
        record {
          good = both-helpers known (function_helpers called n f) (helpers_of called (n + function_count f) ps) this.helpers behind.good;
          clauses = λ may allows has.
              All-cons (Holds IsFreeName (GoodClause may)) _ (clauses_of called (n + function_count f) ps) (record { named = without-modes true f.head is.1; clause = this.clause may allows (has-first may (function_helpers called n f) (helpers_of called (n + function_count f) ps) has) })
              (behind.clauses may allows (has-last may (function_helpers called n f) (helpers_of called (n + function_count f) ps) has));
        }
    go d (Some (fact head)) modes is built rest =
        let behind : PartsGood known (helpers_of called (n + 0) ps) (clauses_of called (n + 0) ps) = rest (n + 0) in
        record {
          good = behind.good;
          clauses = λ may allows has. All-cons (Holds IsFreeName (GoodClause may)) _ (clauses_of called (n + 0) ps) (record { named = with-modes head is.1 (index_of d) modes; clause = fact-good known head is.0 is.1 may }) (behind.clauses may allows has);
        }

-- ---- a core program

abbrev groups_of : ProgramTree → Naming → List PredTree
groups_of program called = grouped_all (clauses_of called 0 (prelude ++ program))

abbrev loops_of : ProgramTree → Naming → List PredTree
loops_of program called = helpers_of called 0 (prelude ++ program)

abbrev whole_of : ProgramTree → Naming → List PredTree
whole_of program called = grouped_all (clauses_of called 0 (prelude ++ program)) ++ helpers_of called 0 (prelude ++ program)

-- what calls find in it
pub some-called : (o : Option PredTree) → is_called_by_name o ≡ true → IsSome o
some-called None is = absurd (false≢true is)
some-called (Some p) is = refl

pub program-allows : (program : ProgramTree) (preds : List PredTree) → ((name : List ℕ) (k : ℕ) → IsTrue ((known_of program).predicate name k) → IsSome (find_pred false name k preds)) →
    ((name : List ℕ) (k : ℕ) → IsTrue ((known_of program).function name k) → IsSome (find_pred true name k preds)) → Allows (known_of program) (found_in preds)
program-allows program preds predicates functions = record {
  predicates = λ name k is. or_left (is_some (find_pred false name k preds)) (is_machine_predicate name k) (predicates name k is);
  machine = λ name k is. or_right (is_some (find_pred false name k preds)) (is_machine_predicate name k) is;
  functions = λ name k is. or_left (is_some (find_pred true name k preds)) (is_value_name name k) (functions name k is);
  tables = λ name k is. or_right (is_some (find_pred true name k preds)) (is_value_name name k) is;
}

module _ (program : ProgramTree) (within : IsWithin program) (built : unbuilt_part program ≡ None) (called : Naming) (names : AreNames program called) where
  parts : Parts (known_of program) (prelude ++ program)
  parts = recursion_from_All (IsPart (known_of program)) (prelude ++ program) within.forms.parts

  good : PartsGood (known_of program) (helpers_of called 0 (prelude ++ program)) (clauses_of called 0 (prelude ++ program))
  good = parts-good (known_of program) called 0 (prelude ++ program) parts (prelude-built program (all-built 1 program built))

  numbered : NamedFrom called 0 (loops_of program called)
  numbered = (program-numbered (known_of program) called 0 (prelude ++ program) parts).each

  quiet : AreQuiet (loops_of program called)
  quiet = named-quiet called 0 (loops_of program called) numbered

  defines : DefinesTheSame program (whole_of program called)
  unfolding core_program
  defines = (programs-are-kept program within.forms called names.own).defines

  allows : Allows (known_of program) (found_in (whole_of program called))
  allows = program-allows program (whole_of program called) (λ name k is. some-called (find_pred false name k (whole_of program called)) (defines.predicates name k ∙ is)) (λ name k is. defines.functions name k ∙ is)

  has : Has (found_in (whole_of program called)) (loops_of program called)
  has = found-has (groups_of program called) (loops_of program called) quiet

  helpers : FineHelpers (found_in (whole_of program called)) (loops_of program called)
  helpers = good.good.each (found_in (whole_of program called)) allows has

  groups : All (HoldsOf IsFreeName (GoodClause (found_in (whole_of program called)))) (groups_of program called)
  groups = groups-hold IsFreeName (GoodClause (found_in (whole_of program called))) (clauses_of called 0 (prelude ++ program)) (good.clauses (found_in (whole_of program called)) allows has)

  group : (p : PredTree) → Contains (groups_of program called) p → HoldsOf IsFreeName (GoodClause (found_in (whole_of program called))) p
  group p there = All-contains (HoldsOf IsFreeName (GoodClause (found_in (whole_of program called)))) (groups_of program called) p groups there

  free : NamesAreFree (whole_of program called)
  free p there = go (Contains-append_cases (groups_of program called) (loops_of program called) p there)
    where
      go : Contains (groups_of program called) p ⊎ Contains (loops_of program called) p → is_given p.function p.name p.arity ≡ false
      go (inl first) = (group p first).named.free
      go (inr last) = helper-free (known_of program) called names.own p (named-of called 0 (loops_of program called) numbered p last)

  -- ---- names

  no-group : (kind : Bool) (n k : ℕ) → IsSome (find_pred kind (called n) k (groups_of program called)) → ⊥
  no-group true n k is = false≢true (sym (names.functions n k) ∙ sym (defines.functions (called n) k) ∙ found-more true (called n) k (groups_of program called) (loops_of program called) is)
  no-group false n k is = go (find_pred false (called n) k (groups_of program called)) refl is
    where
      go : (o : Option PredTree) → find_pred false (called n) k (groups_of program called) ≡ o → IsSome o → ⊥
      go None at h = false≢true h
      go (Some p) at h =
          let loud : p.quiet ≡ false = (group p (found-pred (groups_of program called) false (called n) k p at).among).quiet in
          false≢true (sym (names.own.unknown n k) ∙ sym (defines.predicates (called n) k) ∙ ap is_called_by_name (found-first false (called n) k (groups_of program called) (loops_of program called) p at) ∙ ap not loud)

  another : (p q : PredTree) (ks : List Key) → ((a b : Key) → Contains ks a → Contains ks b → a.named ≡ b.named → a.kind ≡ b.kind) → Contains ks (pred_key p) → Contains ks (pred_key q) → Differ p q → IsAnother p q
  another p q ks apart first second differ = λ same_name same_arity.
      let named : sign p.name p.arity ≡ sign q.name q.arity = ap (λ n. sign n p.arity) same_name ∙ ap (sign q.name) same_arity in
      differ (ap (λ k. of k (sign p.name p.arity)) (apart (pred_key p) (pred_key q) first second (ap Some named)) ∙ ap (of q.function) named)

  groups-apart : AllPairs IsAnother (groups_of program called)
  groups-apart = λ i j d below inside.
      another (slice_index_or (grouped_all cs) i d) (slice_index_or (grouped_all cs) j d) ks within-apart (groups-among cs i d (omega arith)).named (groups-among cs j d inside).named
      (groups-differ cs (subst (λ (xs : List Key). StandTogether [] xs) (sym (keys-written (known_of program) called 0 (prelude ++ program) parts)) within.forms.together) i j d below inside)
    where
      cs : List Lowering
      cs = clauses_of called 0 (prelude ++ program)

      ks : List Key
      ks = keys_of (clauses_of called 0 (prelude ++ program))

      within-apart : (a b : Key) → Contains (keys_of (clauses_of called 0 (prelude ++ program))) a → Contains (keys_of (clauses_of called 0 (prelude ++ program))) b → a.named ≡ b.named → a.kind ≡ b.kind
      within-apart =
          subst (λ (xs : List Key). (a b : Key) → Contains xs a → Contains xs b → a.named ≡ b.named → a.kind ≡ b.kind) (sym (keys-written (known_of program) called 0 (prelude ++ program) parts)) within.apart

  -- ---- ranks

  never-quiet : (c : Callee) (p : PredTree) → IsQuiet (groups_of program called) c p → ⊥
  never-quiet c p is = false≢true (sym (group p (found-pred (groups_of program called) c.function c.name c.arity p is.0).among).quiet ∙ is.1)

  groups-tick : TicksBetween (groups_of program called)
  groups-tick = record { rank = λ c. 0; below = λ c p is. absurd (never-quiet c p is); falls = λ c d p other clause is inside reaches quiet. absurd (never-quiet c p is) }

  ticks : TicksBetween (whole_of program called)
  ticks = ticks-behind (known_of program) (groups_of program called) (loops_of program called) groups-tick (record {
    quiet = quiet;
    falls = good.good.falls;
    guards = no-guards (found_in (whole_of program called)) (loops_of program called) helpers;
    loud = loud (known_of program) (whole_of program called) (λ name k is. defines.predicates name k ∙ is) free;
    apart = λ c d p other clause is inside reaches quiet. absurd (never-quiet c p is);
  })

  -- ---- clauses

  group-sound : (p : PredTree) → Contains (groups_of program called) p → (c : ClauseTree) → Contains p.clauses c → IsSoundClause (whole_of program called) p c
  group-sound p there c inside =
      let is : HoldsOf IsFreeName (GoodClause (found_in (whole_of program called))) p = group p there in
      let fine : GoodClause (found_in (whole_of program called)) p.function (sign p.name p.arity) c = All-contains (GoodClause (found_in (whole_of program called)) p.function (sign p.name p.arity)) p.clauses c is.clauses inside in
      record {
        slots = fine.slots;
        arity = fine.arity;
        value = fine.value;
        guard = (goal-good (whole_of program called) free c.slots c.guard fine.guard).known;
        body = (goal-good (whole_of program called) free c.slots c.body fine.body).known;
        quiet = λ quiet. absurd (false≢true (sym is.quiet ∙ quiet));
      }

  group-closed : (p : PredTree) → Contains (groups_of program called) p → (c : ClauseTree) → Contains p.clauses c → ClauseCallsDefined (whole_of program called) c
  group-closed p there c inside =
      let fine : GoodClause (found_in (whole_of program called)) p.function (sign p.name p.arity) c = All-contains (GoodClause (found_in (whole_of program called)) p.function (sign p.name p.arity)) p.clauses c (group p there).clauses inside in
      record { guard = (goal-good (whole_of program called) free c.slots c.guard fine.guard).defined; body = (goal-good (whole_of program called) free c.slots c.body fine.body).defined }

  sound-clause : (p : PredTree) → Contains (whole_of program called) p → (c : ClauseTree) → Contains p.clauses c → IsSoundClause (whole_of program called) p c
  sound-clause p there c inside = go (Contains-append_cases (groups_of program called) (loops_of program called) p there)
    where
      go : Contains (groups_of program called) p ⊎ Contains (loops_of program called) p → IsSoundClause (whole_of program called) p c
      go (inl first) = group-sound p first c inside
      go (inr last) = helper-sound (whole_of program called) free p (helper-of (found_in (whole_of program called)) (loops_of program called) helpers p last) c inside

  closed-clause : (p : PredTree) → Contains (whole_of program called) p → (c : ClauseTree) → Contains p.clauses c → ClauseCallsDefined (whole_of program called) c
  closed-clause p there c inside = go (Contains-append_cases (groups_of program called) (loops_of program called) p there)
    where
      go : Contains (groups_of program called) p ⊎ Contains (loops_of program called) p → ClauseCallsDefined (whole_of program called) c
      go (inl first) = group-closed p first c inside
      go (inr last) = helper-closed (whole_of program called) free p (helper-of (found_in (whole_of program called)) (loops_of program called) helpers p last) c inside

  sound-index : (p : PredTree) → Contains (whole_of program called) p → (lists : List (List Mode)) → p.index ≡ Some lists → IsSoundIndex p lists
  sound-index p there lists at = go (Contains-append_cases (groups_of program called) (loops_of program called) p there)
    where
      go : Contains (groups_of program called) p ⊎ Contains (loops_of program called) p → IsSoundIndex p lists
      go (inl first) = record { long = (group p first).named.fit.long lists at; no_function = (group p first).named.fit.no_function lists at; not_quiet = (group p first).quiet }
      go (inr last) = helper-index (found_in (whole_of program called)) p (helper-of (found_in (whole_of program called)) (loops_of program called) helpers p last) lists at

  whole-sound : IsSound (whole_of program called)
  whole-sound = record {
    apart = apart-behind called names.own.apart (groups_of program called) (loops_of program called) groups-apart no-group numbered;
    clauses = sound-clause;
    index = sound-index;
    ticks = ticks;
  }

pub programs-sound : LoweredProgramsAreSound
unfolding core_program
programs-sound program within built called names = whole-sound program within built called names

pub programs-closed : LoweredProgramsAreClosed
unfolding core_program
programs-closed program within built called names = (closed-clause program within built called names, free program within built called names)

made-same : (kind : Bool) (name : List ℕ) (k : ℕ) (cs : List Lowering) → pred_from kind (sign name k) cs ≡ pred_made kind name k cs
made-same kind name k [] = refl
made-same kind name k (c ∷ cs) = refl

pub programs-have-clauses : LoweredProgramsHaveClauses
unfolding core_program
programs-have-clauses program within called kind name k =
    find-append kind name k (groups_of program called) (loops_of program called)
    ∙ ap (λ (o : Option PredTree). option_or o (find_pred kind name k (loops_of program called))) (find-all kind (sign name k) cs together ∙ made-same kind name k (clauses_named kind name k cs))
  where
    cs : List Lowering
    cs = clauses_of called 0 (prelude ++ program)

    together : StandTogether [] (keys_of (clauses_of called 0 (prelude ++ program)))
    together = subst (λ (xs : List Key). StandTogether [] xs)
        (sym (keys-written (known_of program) called 0 (prelude ++ program) (recursion_from_All (IsPart (known_of program)) (prelude ++ program) within.forms.parts))) within.forms.together
