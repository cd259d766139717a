-- What programs and goals are lowered to keeps their meaning.
use Rattle.std.proofs.Common.{◌≡◌, ◌⊎◌, inl, inr, ℕ, suc, ◌≤◌, Bool, true, false, List, [], ◌∷◌, ◌++◌, length, map, refl, sym, ◌∙◌, ap, subst, arith, length-append, append_assoc}
use Rattle.std.specs.Prelude.{Option, Some, None, is_some, replicate, IsTrue}
use Rattle.std.specs.Option.{option_or}
use Rattle.std.proofs.lemmas.Bool.{false≢true}
use Rattle.std.proofs.lemmas.List.{append-nil}
use Rattle.std.proofs.lemmas.List.Elements.{recursion_from_All}
use Rattle.pi_syntax.specs.ExpTree.{ExpTree}
use Rattle.pi_syntax.specs.ProgramTree.{RuleTree, FunctionTree, ProgramTree}
use Rattle.pi_core.specs.CoreTree.{ClauseTree, PredTree, find_pred}
use Rattle.pi_traces.specs.Trace.{one}
use Rattle.pi_traces.proofs.RelatedLemmas.{Same}
use Rattle.pi_meaning.specs.Shared.View.{View}
use Rattle.pi_meaning.specs.Shared.Level.{Level}
use Rattle.pi_meaning.specs.CoreMeaning.Builtins.{Builtins}
use Rattle.pi_meaning.specs.CoreMeaning.Instances.{is_called_by_name, whole}
use Rattle.pi_meaning.specs.CoreMeaning.Rules.{level_at}
use Rattle.pi_meaning.specs.CoreMeaning.Run.{answered_with}
use Rattle.pi_meaning.specs.OverNames.Telling.{telling, place_told}
use Rattle.pi_meaning.specs.Shared.Told.{solution_told}
use Rattle.pi_meaning.specs.OverNames.Texts.{Names}
use Rattle.pi_meaning.specs.OverNames.Prelude.{prelude}
use Rattle.pi_meaning.specs.OverNames.Stages.{LaterStages, RulesSetting}
use Rattle.pi_meaning.specs.OverNames.Goals.{goal_of}
use Rattle.pi_meaning.specs.OverNames.Rules.{heads_named, functions_named, facts_named, rules_named, modes_named, level_for}
use Rattle.pi_meaning.specs.OverNames.Run.{is_some_head, setting, program_level, answer_names, names_from}
use Rattle.pi_rewrite_spec.specs.Slots.{SlotNames, named_slots, slots_behind}
use Rattle.pi_rewrite_spec.specs.Clauses.{lowered_fact, Lowering, grouped_all}
use Rattle.pi_rewrite_spec.specs.Forms.{Knows}
use Rattle.pi_rewrite_spec.specs.Sites.{Site, helpers_in}
use Rattle.pi_rewrite_spec.specs.Written as written
use Rattle.pi_rewrite_spec.specs.Helpers.{goal_helpers}
use Rattle.pi_rewrite_spec.specs.Programs.{Naming, clauses_of, helpers_of, core_program, query_site, core_query}
use Rattle.pi_rewrite_laws.specs.Levels.{SameLevels, GoesByCalls}
use Rattle.pi_rewrite_laws.specs.Roots.{LaterKeepsRoots}
use Rattle.pi_rewrite_laws.specs.Within.{is_some_function, StandTogether, IsIndexed, IsPart, HasForms, IsAsked, AreOwn, AreQuiet}
use Rattle.pi_rewrite_laws.proofs.FindLemmas.{pred_with, Modes, sign, chosen, clauses, modes_in, pred_from, find-all}
use Rattle.pi_rewrite_laws.specs.Laws.{known_of, DefinesTheSame, query_from, MeansTheSame, AreNew, ProgramsAreKept, GoalsAreKept}
use Rattle.pi_rewrite_spec.proofs.SameLemmas.{same-then, same-equal}
use Rattle.pi_rewrite_spec.proofs.AgreeLemmas.{Room, free_room, grows-length}
use Rattle.pi_rewrite_spec.proofs.NewNameLemmas.{agrees-nothing}
use Rattle.pi_rewrite_spec.proofs.RunLemmas.{Alike, AtPlace, SameGoals, same-strictly}
use Rattle.pi_rewrite_laws.proofs.AlikeLemmas.{alike-levels}
use Rattle.pi_rewrite_laws.proofs.RootNames.{whole-keeps-roots}
use Rattle.pi_rewrite_laws.proofs.RootUnify.{unifying-keeps-roots}
use Rattle.pi_rewrite_laws.proofs.LevelLemmas.{SameDepths}
use Rattle.pi_rewrite_laws.proofs.FactLemmas.{EachFact}
use Rattle.pi_rewrite_laws.proofs.FactParts.{LowersAll, modes-none, rules-modes, functions-modes, facts-chosen, facts-modes, facts-none, is_some_clause, heads-clauses}
use Rattle.pi_rewrite_laws.proofs.TurnLevels.{core_level, quiet_calls, level-is, enough-calls}
use Rattle.pi_rewrite_laws.proofs.StandsLemmas.{Fixture, Here, AlikeUpTo, HaveHelpers, Stands}
use Rattle.pi_rewrite_laws.proofs.NumberedLemmas.{Numbered, goal-numbered}
use Rattle.pi_rewrite_laws.proofs.OwnLemmas.{AllHelp, find-append, LacksFrom, helpers-found, quiet-found, named-quiet, both-quiet, no-function}
use Rattle.pi_rewrite_laws.proofs.TextLemmas.{goal-same}
use Rattle.pi_rewrite_laws.proofs.TextLevels.{nothing-named, PredicateAt, of_rules, of_facts, FunctionAt, HasText, alike-up, texts-same}
use Rattle.pi_rewrite_laws.proofs.TextPrograms.{Parts, program-numbered, RulesFrom, FunctionsFrom, rules-from, functions-from, keys-written, parts-lower, facts-each}
use Rattle.pi_rewrite_laws.proofs.TellingLemmas.{TellSame, answered-same, told-one, behind-grows}
use Rattle.pi_rewrite_laws.proofs.SameRuns.{runs-the-same}

-- ---- what a core program has

-- no clause, and some
no-clauses : (cs : List ClauseTree) → is_some_clause cs ≡ false → cs ≡ []
no-clauses [] is = refl
no-clauses (c ∷ cs) is = absurd (false≢true (sym is))

-- what is found first is found among more
first-found : (kind : Bool) (name : List ℕ) (k : ℕ) (m : Modes) (cs : List ClauseTree) → is_some_clause cs ≡ true → (o : Option PredTree) → option_or (pred_with kind name k m cs) o ≡ pred_with kind name k m cs
first-found kind name k m [] is o = absurd (false≢true is)
first-found kind name k m (c ∷ cs) is o = refl

some-counted : (cs : List ClauseTree) (n : ℕ) → length cs ≡ suc n → is_some_clause cs ≡ true
some-counted [] n is = absurd (omega (arith, is))
some-counted (c ∷ cs) n is = refl

none-counted : (cs : List ClauseTree) → length cs ≡ 0 → is_some_clause cs ≡ false
none-counted [] is = refl
none-counted (c ∷ cs) is = absurd (omega (arith, is))

-- the groups of a program's clauses, and quiet predicates behind them
pub record Core (program : ProgramTree) (called : Naming) (rest preds : List PredTree) : Type 0 where
  pub parts : Parts (known_of program) (prelude ++ program)
  pub own : AreOwn (known_of program) called
  pub indexed : (name : List ℕ) (k : ℕ) → IsIndexed name k (prelude ++ program)
  pub groups : List PredTree
  pub found : (kind : Bool) (name : List ℕ) (k : ℕ) → find_pred kind name k groups ≡ pred_from kind (sign name k) (chosen kind (sign name k) (clauses_of called 0 (prelude ++ program)))
  pub is : preds ≡ groups ++ rest
  pub quiet : AreQuiet rest

looked-up : (program : ProgramTree) (called : Naming) (rest preds : List PredTree) → (c : Core program called rest preds) → (kind : Bool) (name : List ℕ) (k : ℕ) →
    find_pred kind name k preds ≡ option_or (pred_from kind (sign name k) (chosen kind (sign name k) (clauses_of called 0 (prelude ++ program)))) (find_pred kind name k rest)
looked-up program called rest preds c kind name k =
    ap (find_pred kind name k) c.is ∙ find-append kind name k c.groups rest ∙ ap (λ (o : Option PredTree). option_or o (find_pred kind name k rest)) (c.found kind name k)

rules-of : (program : ProgramTree) (called : Naming) → Parts (known_of program) (prelude ++ program) → (name : List ℕ) (k : ℕ) → facts_named name k (prelude ++ program) ≡ [] →
    RulesFrom (known_of program) called (helpers_of called 0 (prelude ++ program)) (rules_named name k (prelude ++ program)) (clauses (chosen false (sign name k) (clauses_of called 0 (prelude ++ program))))
rules-of program called parts name k none = rules-from (known_of program) called (sign name k) 0 (prelude ++ program) parts none

functions-of : (program : ProgramTree) (called : Naming) → Parts (known_of program) (prelude ++ program) → (name : List ℕ) (k : ℕ) →
    FunctionsFrom (known_of program) called (helpers_of called 0 (prelude ++ program)) (functions_named name k (prelude ++ program)) (clauses (chosen true (sign name k) (clauses_of called 0 (prelude ++ program))))
functions-of program called parts name k = functions-from (known_of program) called (sign name k) 0 (prelude ++ program) parts

-- a predicate has clauses where the program has heads of it
some-heads : (program : ProgramTree) (called : Naming) → Parts (known_of program) (prelude ++ program) → (name : List ℕ) (k : ℕ) →
    is_some_clause (clauses (chosen false (sign name k) (clauses_of called 0 (prelude ++ program)))) ≡ is_some_head (heads_named name k (prelude ++ program))
some-heads program called parts name k = sym (heads-clauses (sign name k) (prelude ++ program) (clauses_of called 0 (prelude ++ program)) (parts-lower (known_of program) called 0 (prelude ++ program) parts))

pub defines : (program : ProgramTree) (called : Naming) (rest preds : List PredTree) → Core program called rest preds → DefinesTheSame program preds
defines program called rest preds c = record {
  predicates = λ name k.
      ap is_called_by_name (looked-up program called rest preds c false name k)
      ∙ predicate name k _ (clauses (chosen false (sign name k) (clauses_of called 0 (prelude ++ program))))
      ∙ some-heads program called c.parts name k;
  functions = λ name k.
      ap is_some (looked-up program called rest preds c true name k)
      ∙ a-function name k _ (functions_named name k (prelude ++ program)) (clauses (chosen true (sign name k) (clauses_of called 0 (prelude ++ program)))) (functions-of program called c.parts name k).long;
}
  where
    predicate : (name : List ℕ) (k : ℕ) (m : Modes) (cs : List ClauseTree) → is_called_by_name (option_or (pred_with false name k m cs) (find_pred false name k rest)) ≡ is_some_clause cs
    predicate name k m [] = quiet-found name k rest c.quiet
    predicate name k m (x ∷ cs) = refl

    a-function : (name : List ℕ) (k : ℕ) (m : Modes) (fs : List FunctionTree) (cs : List ClauseTree) → length cs ≡ length fs → is_some (option_or (pred_with true name k m cs) (find_pred true name k rest)) ≡ is_some_function fs
    a-function name k m [] [] is = ap is_some (no-function name k rest c.quiet)
    a-function name k m [] (x ∷ cs) is = absurd (omega (arith, is))
    a-function name k m (f ∷ fs) [] is = absurd (omega (arith, is))
    a-function name k m (f ∷ fs) (x ∷ cs) is = refl

-- ---- its calls

all-have : (c : Fixture) (ps : List PredTree) → AllHelp c.builtins c.preds ps → HaveHelpers c ps
all-have c [] has = tt
all-have c (p ∷ ps) has = (has.0, all-have c ps has.1)

-- no group has the name of a helper
groups-lack : (program : ProgramTree) (called : Naming) (rest preds : List PredTree) → (c : Core program called rest preds) → LacksFrom called 0 c.groups
groups-lack program called rest preds c m k more =
    c.found false (called m) k
    ∙ ap (pred_with false (called m) k _) (no-clauses (clauses (chosen false (sign (called m) k) (clauses_of called 0 (prelude ++ program)))) (some-heads program called c.parts (called m) k ∙ c.own.unknown m k))

-- what a core program has with its helpers behind its groups, and more behind these
pub has-text : (program : ProgramTree) (called : Naming) (more preds : List PredTree) → Core program called (helpers_of called 0 (prelude ++ program) ++ more) preds → (v : View) (later : LaterStages) → GoesByCalls (known_of program) later.calls →
    LaterKeepsRoots later.calls → HasText (known_of program) (setting v later program) (whole v later.calls preds) (prelude ++ program) preds called
has-text program called more preds c v later goes roots = record {
  predicates = λ most name k there. a-predicate most name k (some-heads program called c.parts name k ∙ there) (modes_named name k (prelude ++ program)) refl;
  functions = λ most name k there. a-function most name k there (functions_named name k (prelude ++ program)) refl;
  alike = λ l m same core names. alike-levels known v later.calls preds (λ name k. is_some_head (heads_named name k (prelude ++ program))) goes (λ name k. refl) (defines program called rest preds c).predicates l m same core names;
  roots = whole-keeps-roots unifying-keeps-roots v later.calls roots preds;
}
  where
    known : Knows
    known = known_of program

    helpers : List PredTree
    helpers = helpers_of called 0 (prelude ++ program)

    rest : List PredTree
    rest = helpers_of called 0 (prelude ++ program) ++ more

    b : Builtins
    b = whole v later.calls preds

    fix : ℕ → Fixture
    fix most = record { known = known_of program; set = setting v later program; builtins = whole v later.calls preds; program = prelude ++ program; preds = preds; most = most }

    there-all : AllHelp (whole v later.calls preds) preds (helpers_of called 0 (prelude ++ program))
    there-all = helpers-found v later.calls preds called c.own.apart c.own.plain 0 c.groups helpers more (groups-lack program called rest preds c) (program-numbered known called 0 (prelude ++ program) c.parts).each c.is

    few : length (helpers_of called 0 (prelude ++ program)) ≤ length preds
    few = omega (arith, ap length c.is, length-append c.groups rest, length-append helpers more)

    here : List ℕ → ℕ → List Lowering
    here name k = chosen false (sign name k) (clauses_of called 0 (prelude ++ program))

    lower : LowersAll (prelude ++ program) (clauses_of called 0 (prelude ++ program))
    lower = parts-lower (known_of program) called 0 (prelude ++ program) c.parts

    found-as : (name : List ℕ) (k : ℕ) (m : Modes) (cs : List ClauseTree) → modes_in (chosen false (sign name k) (clauses_of called 0 (prelude ++ program))) ≡ m → clauses (chosen false (sign name k) (clauses_of called 0 (prelude ++ program))) ≡ cs →
        is_some_clause cs ≡ true → find_pred false name k preds ≡ pred_with false name k m cs
    found-as name k m cs modes same some =
        looked-up program called rest preds c false name k
        ∙ ap (λ n. option_or (pred_with false name k n (clauses (chosen false (sign name k) (clauses_of called 0 (prelude ++ program))))) (find_pred false name k rest)) modes
        ∙ ap (λ xs. option_or (pred_with false name k m xs) (find_pred false name k rest)) same ∙ first-found false name k m cs some (find_pred false name k rest)

    a-predicate : (most : ℕ) (name : List ℕ) (k : ℕ) → is_some_clause (clauses (chosen false (sign name k) (clauses_of called 0 (prelude ++ program)))) ≡ true → (m : Modes) → modes_named name k (prelude ++ program) ≡ m →
        PredicateAt (record { known = known_of program; set = setting v later program; builtins = whole v later.calls preds; program = prelude ++ program; preds = preds; most = most }) called name k
    a-predicate most name k some None none = by-rules (rules_named name k (prelude ++ program)) refl
      where
        no_facts : facts_named name k (prelude ++ program) ≡ []
        no_facts = facts-none name k (prelude ++ program) (c.indexed name k).first none

        by-rules : (rs : List RuleTree) → rules_named name k (prelude ++ program) ≡ rs →
            PredicateAt (record { known = known_of program; set = setting v later program; builtins = whole v later.calls preds; program = prelude ++ program; preds = preds; most = most }) called name k
        by-rules [] is =
            absurd (false≢true (sym (none-counted (clauses (chosen false (sign name k) (clauses_of called 0 (prelude ++ program)))) ((rules-of program called c.parts name k no_facts).long ∙ ap length is)) ∙ some))
        by-rules (r ∷ rs) is =
            let from : RulesFrom known called helpers (r ∷ rs) (clauses (chosen false (sign name k) (clauses_of called 0 (prelude ++ program)))) =
            subst (λ (xs : List RuleTree). RulesFrom known called helpers xs (clauses (chosen false (sign name k) (clauses_of called 0 (prelude ++ program))))) is (rules-of program called c.parts name k no_facts) in
            of_rules r rs (clauses (chosen false (sign name k) (clauses_of called 0 (prelude ++ program)))) is (found-as name k None _ (rules-modes (sign name k) (prelude ++ program) (clauses_of called 0 (prelude ++ program)) lower no_facts) refl some)
            (from.at (fix most) refl (all-have (fix most) helpers there-all) few) none
    a-predicate most name k some (Some lists) modes = alone (c.indexed name k).alone
      where
        by-facts : rules_named name k (prelude ++ program) ≡ [] → (heads : List ExpTree) → facts_named name k (prelude ++ program) ≡ heads →
            PredicateAt (record { known = known_of program; set = setting v later program; builtins = whole v later.calls preds; program = prelude ++ program; preds = preds; most = most }) called name k
        by-facts no_rules [] is =
            absurd (false≢true (sym (ap is_some_clause (facts-chosen (sign name k) (prelude ++ program) (clauses_of called 0 (prelude ++ program)) lower no_rules ∙ ap (λ hs. map lowered_fact hs) is)) ∙ some))
        by-facts no_rules (head ∷ heads) is =
            of_facts lists head heads is
            (found-as name k (Some lists) (map lowered_fact (head ∷ heads)) (facts-modes (sign name k) (prelude ++ program) (clauses_of called 0 (prelude ++ program)) lower no_rules (c.indexed name k).first ∙ modes)
            (facts-chosen (sign name k) (prelude ++ program) (clauses_of called 0 (prelude ++ program)) lower no_rules ∙ ap (λ hs. map lowered_fact hs) is) refl)
            (subst EachFact is (facts-each (known_of program) name k (prelude ++ program) c.parts)) modes

        alone : (rules_named name k (prelude ++ program) ≡ []) ⊎ (facts_named name k (prelude ++ program) ≡ []) →
            PredicateAt (record { known = known_of program; set = setting v later program; builtins = whole v later.calls preds; program = prelude ++ program; preds = preds; most = most }) called name k
        alone (inl no_rules) = by-facts no_rules (facts_named name k (prelude ++ program)) refl
        alone (inr no_facts) = absurd (cc (sym modes ∙ modes-none name k (prelude ++ program) no_facts))

    a-function : (most : ℕ) (name : List ℕ) (k : ℕ) → IsTrue ((known_of program).function name k) → (fs : List FunctionTree) → functions_named name k (prelude ++ program) ≡ fs →
        FunctionAt (record { known = known_of program; set = setting v later program; builtins = whole v later.calls preds; program = prelude ++ program; preds = preds; most = most }) called name k
    a-function most name k there [] is = absurd (false≢true (sym (ap is_some_function is) ∙ there))
    a-function most name k there (f ∷ fs) is =
        let from : FunctionsFrom known called helpers (f ∷ fs) (clauses (chosen true (sign name k) (clauses_of called 0 (prelude ++ program)))) =
        subst (λ (xs : List FunctionTree). FunctionsFrom known called helpers xs (clauses (chosen true (sign name k) (clauses_of called 0 (prelude ++ program))))) is (functions-of program called c.parts name k) in
        record {
          first = f;
          others = fs;
          clauses = clauses (chosen true (sign name k) (clauses_of called 0 (prelude ++ program)));
          named = is;
          found = looked-up program called rest preds c true name k
              ∙ ap (λ n. option_or (pred_with true name k n (clauses (chosen true (sign name k) (clauses_of called 0 (prelude ++ program))))) (find_pred true name k rest)) (functions-modes (sign name k) (prelude ++ program) (clauses_of called 0 (prelude ++ program)) lower)
              ∙ first-found true name k None (clauses (chosen true (sign name k) (clauses_of called 0 (prelude ++ program)))) (some-counted _ (length fs) from.long) (find_pred true name k rest);
          at = from.at (fix most) refl (all-have (fix most) helpers there-all) few;
        }

-- ---- programs

-- a core program with more behind it
core-has : (program : ProgramTree) → HasForms program → (called : Naming) → AreOwn (known_of program) called → (more : List PredTree) → AreQuiet more → Core program called (helpers_of called 0 (prelude ++ program) ++ more) (core_program called program ++ more)
unfolding core_program
core-has program within called own more quiet =
    let parts : Parts (known_of program) (prelude ++ program) = recursion_from_All (IsPart (known_of program)) (prelude ++ program) within.parts in
    record {
      parts = parts;
      own = own;
      indexed = within.indexed;
      groups = grouped_all (clauses_of called 0 (prelude ++ program));
      found = λ kind name k. find-all kind (sign name k) (clauses_of called 0 (prelude ++ program)) (subst (λ (xs : _). StandTogether [] xs) (sym (keys-written (known_of program) called 0 (prelude ++ program) parts)) within.together);
      is = append_assoc (grouped_all (clauses_of called 0 (prelude ++ program))) (helpers_of called 0 (prelude ++ program)) more;
      quiet = both-quiet (helpers_of called 0 (prelude ++ program)) more (named-quiet called 0 (helpers_of called 0 (prelude ++ program)) (program-numbered (known_of program) called 0 (prelude ++ program) parts).each) quiet;
    }

-- the same levels, with so many quiet calls
levels-kept : (program : ProgramTree) → HasForms program → (called : Naming) → AreOwn (known_of program) called → (more : List PredTree) → AreQuiet more → (v : View) (later : LaterStages) → GoesByCalls (known_of program) later.calls → LaterKeepsRoots later.calls →
    (most d k : ℕ) → d ≤ most → SameDepths (known_of program) (core_level (whole v later.calls (core_program called program ++ more)) (core_program called program ++ more) d k) (level_for (setting v later program) (prelude ++ program) d)
levels-kept program within called own more quiet v later goes roots most d k up =
    let preds : List PredTree = core_program called program ++ more in
    texts-same (known_of program) (setting v later program) (whole v later.calls preds) (prelude ++ program) preds called (has-text program called more preds (core-has program within called own more quiet) v later goes roots) most d k up

pub programs-are-kept : ProgramsAreKept
programs-are-kept program within called own = record {
  defines = subst (λ (ps : List PredTree). DefinesTheSame program ps) (append-nil (core_program called program)) (defines program called (helpers_of called 0 (prelude ++ program) ++ []) (core_program called program ++ []) (core-has program within called own [] tt));
  calls = λ more quiet v later goes roots d.
      let preds : List PredTree = core_program called program ++ more in
      subst (λ (l : Level). SameLevels (known_of program) l (program_level v later program d)) (sym (level-is (whole v later.calls preds) preds d))
      (levels-kept program within called own more quiet v later goes roots d d (quiet_calls preds d) (omega arith)).levels;
}

-- ---- goals

abbrev fixture-of : ProgramTree → View → LaterStages → List PredTree → ℕ → Fixture
fixture-of program v later preds most = record { known = known_of program; set = setting v later program; builtins = whole v later.calls preds; program = prelude ++ program; preds = preds; most = most }

-- a query whose helpers stand behind the core program
query-kept : (program : ProgramTree) (goal : ExpTree) → HasForms program → IsAsked program goal → (called : Naming) → AreOwn (known_of program) called → (other : Naming) → AreOwn (known_of program) other → AreNew (core_program called program) other →
    MeansTheSame program goal (core_program called program) (core_query other goal)
unfolding query_from core_query names_from
query-kept program goal within asked called own other apart new v later goes roots d s =
    same-equal _ _ (same-then (TellSame told ns) Same _ _ (λ x. one (solution_told (named_slots told ns) x)) (λ p. one (place_told told p))
    (same-then (AtPlace l n 0 ns) (TellSame told ns) _ _ (answered_with (named_slots told ns)) (telling told)
    (same-strictly (known_of program) set.calls b l m 0 (goal_of set.calls [] goal) (written.goal_of site goal) alike same n [] [] (replicate n.slots None) s (agrees-nothing n.slots) fits)
    (answered-same told l n 0 ns (omega arith))) (told-one told ns))
  where
    site : Site
    site = query_site other

    helpers : List PredTree
    helpers = goal_helpers (query_site other) goal

    preds : List PredTree
    preds = core_program called program ++ goal_helpers (query_site other) goal

    set : RulesSetting
    set = setting v later program

    b : Builtins
    b = whole v later.calls (core_program called program ++ goal_helpers (query_site other) goal)

    l : Level
    l = level_at (whole v later.calls (core_program called program ++ goal_helpers (query_site other) goal)) (core_program called program ++ goal_helpers (query_site other) goal) d

    m : Level
    m = program_level v later program d

    w : Here (fixture-of program v later preds d)
    w = record { depth = d; calls = quiet_calls preds d; up = omega arith }

    numbered : Numbered other 0 (helpers_in goal) (goal_helpers (query_site other) goal)
    numbered = goal-numbered (known_of program) (query_site other) goal asked

    quiet : AreQuiet (goal_helpers (query_site other) goal)
    quiet = named-quiet other 0 helpers numbered.each

    each : AlikeUpTo (fixture-of program v later preds d)
    each = alike-up (known_of program) set b (prelude ++ program) preds called (has-text program called helpers preds (core-has program within called own helpers quiet) v later goes roots) d
        (λ e j few. levels-kept program within called own helpers quiet v later goes roots d e j few)

    all : AllHelp b preds helpers
    all = helpers-found v later.calls preds other apart.apart apart.plain 0 (core_program called program) helpers [] (λ i k more. new i k) numbered.each (ap (λ (qs : List PredTree). core_program called program ++ qs) (sym (append-nil helpers)))

    stands : Stands (fixture-of program v later preds d) w site (helpers_in goal) helpers
    stands = record {
      named = nothing-named;
      few = omega (arith, enough-calls preds d (length preds) (omega arith), length-append (core_program called program) helpers, numbered.long);
      fits = omega (arith, length-append (core_program called program) helpers, numbered.long);
      has = all-have (fixture-of program v later preds d) helpers all;
    }

    at-quiet : SameGoals b (core_level b preds d (quiet_calls preds d)) m 0 (goal_of set.calls [] goal) (written.goal_of site goal)
    at-quiet = goal-same (fixture-of program v later preds d) each w site goal asked stands

    same : SameGoals b l m 0 (goal_of set.calls [] goal) (written.goal_of site goal)
    same = subst (λ (i : Level). SameGoals b i m 0 (goal_of set.calls [] goal) (written.goal_of site goal)) (sym (level-is b preds d)) at-quiet

    alike : Alike (known_of program) set.calls b l m
    alike = subst (λ (i : Level). Alike (known_of program) set.calls b i m) (sym (level-is b preds d)) (each.alike d (quiet_calls preds d) (omega arith) (omega arith))

    told : Names
    told = answer_names goal

    ns : SlotNames
    ns = (written.goal_of (query_site other) goal []).names

    n : Room
    n = free_room (length (slots_behind told ns))

    fits : length ns ≤ n.slots
    fits = grows-length ns _ (behind-grows told ns)

pub goals-are-kept : GoalsAreKept
goals-are-kept program goal within asked called own other apart new =
    let means : MeansTheSame program goal (core_program called program) (core_query other goal) = query-kept program goal within asked called own other apart new in
    (means, runs-the-same program goal (core_program called program) (core_query other goal) means)
