-- The clause of a shape, over expressions that were taken apart.
use Rattle.std.proofs.Common.{◌≡◌, ℕ, ◌<◌, Bool, true, false, ◌&&◌, ◌==◌, List, [], ◌∷◌, ◌++◌, length, get_or, append-nil, codes, Option, Some, None, refl, ap, sym, subst, ◌∙◌, arith}
use Rattle.std.specs.Prelude.{Vec, option_map, is_some, if◌then◌else◌, map}
use Rattle.std.specs.List.{remove}
use Rattle.std.specs.Str.{bytes_eq}
use Rattle.std.specs.declared.alloc.Global.{Global}
use Rattle.std.specs.declared.boxed.Box.{Box}
use Rattle.std.proofs.lemmas.Bool.Decides.{Decides-eqb}
use Rattle.pi_syntax.specs.ExpLists.{exps_of}
use Rattle.pi_syntax.specs.ExpTree.{ExpTree, array, call, and, ExpTrees, no_exps, exp, one_exp, exp_tree, exp_trees, held_tree}
use Rattle.pi_syntax.specs.ProgramTree.{WrittenClause, rule, function, cond_between, events_between, rule_tree, function_tree, written_clause}
use Rattle.pi_syntax.specs.Apart.{IsApart}
use Rattle.pi_syntax.specs.declared.exp.Apart.{Apart}
use Rattle.pi_syntax.specs.declared.exp.Apart.TheVariants as apart
use Rattle.pi_syntax.specs.declared.exp.Exp as e
use Rattle.pi_syntax.specs.declared.exp.Exp.{Exp}
use Rattle.pi_syntax.specs.declared.exp.Exp.TheOpen as layer
use Rattle.pi_syntax.specs.declared.exp.Exp.TheViews.{out-Exp, roll-Exp, roll-out-Exp, rolls-Var, rolls-Int, rolls-Atom, rolls-Str, rolls-List, rolls-Array, rolls-Call, rolls-Quote, rolls-Index, rolls-Range, rolls-At, rolls-Collect, rolls-And, rolls-Or, rolls-Arrow, rolls-If, rolls-Foreach, rolls-While, rolls-DoWhile}
use Rattle.pi_syntax.specs.declared.program.Clause.{Clause}
use Rattle.pi_syntax.specs.declared.program.FunctionClause.{FunctionClause}
use Rattle.pi_syntax.specs.declared.program.FunctionBody.{FunctionBody}
use Rattle.pi_syntax.specs.declared.program.Between.{Between}
use Rattle.pi_syntax.specs.declared.program.RuleClause.{RuleClause}
use Rattle.pi_syntax.proofs.ExpListLemmas.{call-tree, and-tree}
use Rattle.pi_prog_clauses.specs.Formed.{ShowsApart, ShowsHeaded, ShowsEvents, IsFormed, IsUnits, IsSplit, is_braces, is_other, exps_of_before}
use Rattle.pi_prog_clauses.specs.Shape.{ruled, units, first_unit, other_units, events_in, conditions, condition, listed, listed_or_none, Equation, equation, ruled_clause}
use Rattle.pi_prog_clauses.specs.declared.clause.FormedClause.{FormedClause}
use Rattle.pi_prog_clauses.specs.declared.clause.Headed.TheVariants as headed
use Rattle.pi_prog_clauses.specs.declared.clause.SplitUnits.{SplitUnits}
use Rattle.pi_prog_clauses.specs.declared.clause.Units.{Units}

row-trees : (n : _) (row : e.Row_of-Exp n) → exp_trees row ≡ exps_of (e.items-the_row-Exp n row)
unfolding exp_tree exp_trees
row-trees n e.end_of-Exp = refl
row-trees n (e.more_of-Exp x xs) = ap (exp (exp_tree x)) (row-trees _ xs)

abbrev row_in : Exp → (n : _) × e.Row_of-Exp n
row_in (e.Array' _ row) = (_, row)
row_in _ = (_, e.end_of-Exp)

row_of : (es : Vec Exp Global) → exp_trees (row_in (e.Array es)).1 ≡ exps_of es.items
row_of es = let row = row_in (e.Array es) in row-trees row.0 row.1 ∙ ap exps_of (e.items_hidden-the_row-Exp-0 es)

pub array-tree : (es : Vec Exp Global) → exp_tree (e.Array es) ≡ array (exps_of es.items)
unfolding exp_tree
array-tree es = ap array (row_of es)

-- ---- taken apart

-- neither a conjunction nor an array nor a call
abbrev IsOtherForm : Exp → Type 0
IsOtherForm x = ((es : Vec Exp Global) → x ≡ e.And es → ⊥) → ((es : Vec Exp Global) → x ≡ e.Array es → ⊥) → ((name : List ℕ) (es : Vec Exp Global) → x ≡ e.Call name es → ⊥) → is_other (exp_tree x) ≡ true

other-layer : (l : layer.Exp-F Exp) → IsOtherForm (roll-Exp l)
unfolding exp_tree held_tree
other-layer (layer.Var n) no_and no_array no_call = ap (λ x. is_other (exp_tree x)) (rolls-Var n)
other-layer (layer.Int n) no_and no_array no_call = ap (λ x. is_other (exp_tree x)) (rolls-Int n)
other-layer (layer.Atom n) no_and no_array no_call = ap (λ x. is_other (exp_tree x)) (rolls-Atom n)
other-layer (layer.Str text) no_and no_array no_call = ap (λ x. is_other (exp_tree x)) (rolls-Str text)
other-layer (layer.List es None) no_and no_array no_call = ap (λ x. is_other (exp_tree x)) (rolls-List es None)
other-layer (layer.List es (Some b)) no_and no_array no_call = ap (λ x. is_other (exp_tree x)) (rolls-List es (Some b))
other-layer (layer.Array es) no_and no_array no_call = absurd (no_array es (rolls-Array es))
other-layer (layer.Call n es) no_and no_array no_call = absurd (no_call n es (rolls-Call n es))
other-layer (layer.Quote b) no_and no_array no_call = ap (λ x. is_other (exp_tree x)) (rolls-Quote b)
other-layer (layer.Index b es) no_and no_array no_call = ap (λ x. is_other (exp_tree x)) (rolls-Index b es)
other-layer (layer.Range b None d) no_and no_array no_call = ap (λ x. is_other (exp_tree x)) (rolls-Range b None d)
other-layer (layer.Range b (Some c) d) no_and no_array no_call = ap (λ x. is_other (exp_tree x)) (rolls-Range b (Some c) d)
other-layer (layer.At n b) no_and no_array no_call = ap (λ x. is_other (exp_tree x)) (rolls-At n b)
other-layer (layer.Collect is_array b es) no_and no_array no_call = ap (λ x. is_other (exp_tree x)) (rolls-Collect is_array b es)
other-layer (layer.And es) no_and no_array no_call = absurd (no_and es (rolls-And es))
other-layer (layer.Or es) no_and no_array no_call = ap (λ x. is_other (exp_tree x)) (rolls-Or es)
other-layer (layer.Arrow b d) no_and no_array no_call = ap (λ x. is_other (exp_tree x)) (rolls-Arrow b d)
other-layer (layer.If bs None) no_and no_array no_call = ap (λ x. is_other (exp_tree x)) (rolls-If bs None)
other-layer (layer.If bs (Some b)) no_and no_array no_call = ap (λ x. is_other (exp_tree x)) (rolls-If bs (Some b))
other-layer (layer.Foreach es b) no_and no_array no_call = ap (λ x. is_other (exp_tree x)) (rolls-Foreach es b)
other-layer (layer.While b d) no_and no_array no_call = ap (λ x. is_other (exp_tree x)) (rolls-While b d)
other-layer (layer.DoWhile b d) no_and no_array no_call = ap (λ x. is_other (exp_tree x)) (rolls-DoWhile b d)

other_form : (x : Exp) → IsOtherForm x
other_form x = subst IsOtherForm (roll-out-Exp x) (other-layer (out-Exp x))

is_conjunction : (x : Exp) (es : Vec Exp Global) → x ≡ e.And es → exp_tree x ≡ and (exps_of es.items)
is_conjunction x es h = ap exp_tree h ∙ and-tree es

is_array : (x : Exp) (es : Vec Exp Global) → x ≡ e.Array es → exp_tree x ≡ array (exps_of es.items)
is_array x es h = ap exp_tree h ∙ array-tree es

is_call : (x : Exp) (name : List ℕ) (es : Vec Exp Global) → x ≡ e.Call name es → exp_tree x ≡ call name (exps_of es.items)
is_call x name es h = ap exp_tree h ∙ call-tree name es

pub shows_apart : (a : Apart) (x : Exp) → IsApart a x → ShowsApart a (exp_tree x)
shows_apart (apart.Conjunction es) x h = is_conjunction x es h
shows_apart (apart.Array es) x h = is_array x es h
shows_apart (apart.Call name es) x h = is_call x name es h
shows_apart (apart.Other y) x h = (ap exp_tree h.0, other_form x h.1.no_conjunction h.1.no_array h.1.no_call)

-- ---- equations

other_no_equation : (t : ExpTree) → is_other t ≡ true → equation t ≡ None
other_no_equation (and es) h = absurd (cc)
other_no_equation (array es) h = absurd (cc)
other_no_equation (call name es) h = absurd (cc)
other_no_equation t h = refl

pub headed_other : (x : Exp) (t : ExpTree) → exp_tree x ≡ t → is_other t ≡ true → ShowsHeaded (headed.Alone x) t
headed_other x t is other = (is, other_no_equation t other)

pub headed_conjunction : (es : Vec Exp Global) (t : ExpTree) → t ≡ and (exps_of es.items) → ShowsHeaded (headed.Alone (e.And es)) t
headed_conjunction es t is = (and-tree es ∙ sym is, ap equation is)

pub headed_array : (es : Vec Exp Global) (t : ExpTree) → t ≡ array (exps_of es.items) → ShowsHeaded (headed.Alone (e.Array es)) t
headed_array es t is = (array-tree es ∙ sym is, ap equation is)

both_false : (a b : Bool) → (a && b) ≡ false → a ≡ true → b ≡ false
both_false true b h k = h
both_false false b h k = absurd (cc)

no_equation_by : (name : List ℕ) (es : List Exp) (named : Bool) → bytes_eq name (codes "=") ≡ named → (named && (length es == 2)) ≡ false → equation (call name (exps_of es)) ≡ None
no_equation_by name [] named is h = refl
no_equation_by name (x ∷ []) named is h = refl
no_equation_by name (x ∷ y ∷ []) true is h = absurd (cc)
no_equation_by name (x ∷ y ∷ []) false is h = rw is refl
no_equation_by name (x ∷ y ∷ z ∷ es) named is h = refl

pub headed_call : (name : List ℕ) (es : Vec Exp Global) (b : Bool) → b ≡ (bytes_eq name (codes "=") && length es.items == 2) → b ≡ false → ShowsHeaded (headed.Alone (e.Call name es)) (call name (exps_of es.items))
headed_call name es b is lacks = (call-tree name es, no_equation_by name es.items (bytes_eq name (codes "=")) refl (sym is ∙ lacks))

both_true : (a b : Bool) → (a && b) ≡ true → (a ≡ true) × (b ≡ true)
both_true true true h = (refl, refl)
both_true true false h = absurd (cc)
both_true false b h = absurd (cc)

abbrev first_of_two : List Exp → Exp → Exp
first_of_two xs d = get_or xs 0 d

equation_of_two : (name : List ℕ) (x y : Exp) → bytes_eq name (codes "=") ≡ true → equation (call name (exps_of (x ∷ y ∷ []))) ≡ Some (record { head = exp_tree x; value = exp_tree y })
equation_of_two name x y h = rw h refl

two_long : (name : List ℕ) (old : List Exp) (b : Bool) → b ≡ (bytes_eq name (codes "=") && length old == 2) → b ≡ true → length old ≡ 2
two_long name old b is holds = (Decides-eqb (length old) 2).0 (both_true (bytes_eq name (codes "=")) (length old == 2) (sym is ∙ holds)).1

-- the first is taken out behind the second
pub headed_equation : (name : List ℕ) (old one : List Exp) (head value : Exp) (b : Bool) → b ≡ (bytes_eq name (codes "=") && length old == 2) → b ≡ true → value ≡ get_or old 1 value → one ≡ remove old 1 → head ≡ get_or one 0 head
    → ShowsHeaded (headed.Equation head value) (call name (exps_of old))
headed_equation name [] one head value b is holds v o h = absurd (omega (arith, two_long name [] b is holds))
headed_equation name (x ∷ []) one head value b is holds v o h = absurd (omega (arith, two_long name (x ∷ []) b is holds))
headed_equation name (x ∷ y ∷ []) one head value b is holds v o h =
    let value_is : value ≡ y = v in
    let head_is : head ≡ x = h ∙ ap (λ xs. get_or xs 0 head) o in
    equation_of_two name x y (both_true (bytes_eq name (codes "=")) (length (x ∷ y ∷ []) == 2) (sym is ∙ holds)).0
    ∙ ap (λ a. let q : Equation = record { head = exp_tree a; value = exp_tree y } in Some q) (sym head_is)
    ∙ ap (λ a. let q : Equation = record { head = exp_tree head; value = exp_tree a } in Some q) (sym value_is)
headed_equation name (x ∷ y ∷ z ∷ es) one head value b is holds v o h = absurd (omega (arith, two_long name (x ∷ y ∷ z ∷ es) b is holds))

-- ---- units

other_units_alone : (t : ExpTree) → is_other t ≡ true → units t ≡ one_exp t
other_units_alone (and es) h = absurd (cc)
other_units_alone t h = refl

pub units_other : (u : Units) (x : Exp) (t : ExpTree) → exp_tree x ≡ t → is_other t ≡ true → IsUnits u (one_exp (exp_tree x)) → IsUnits u (units t)
units_other u x t is other made = subst (IsUnits u) (ap one_exp is ∙ sym (other_units_alone t other)) made

pub units_conjunction : (u : Units) (es : Vec Exp Global) (t : ExpTree) → t ≡ and (exps_of es.items) → IsUnits u (exps_of es.items) → IsUnits u (units t)
units_conjunction u es t is made = subst (λ x. IsUnits u (units x)) (sym is) made

pub units_array : (u : Units) (es : Vec Exp Global) (t : ExpTree) → t ≡ array (exps_of es.items) → IsUnits u (one_exp (exp_tree (e.Array es))) → IsUnits u (units t)
units_array u es t is made = subst (λ x. IsUnits u (units x)) (sym is) (subst (λ x. IsUnits u (one_exp x)) (array-tree es) made)

pub units_call : (u : Units) (name : List ℕ) (es : Vec Exp Global) (t : ExpTree) → t ≡ call name (exps_of es.items) → IsUnits u (one_exp (exp_tree (e.Call name es))) → IsUnits u (units t)
units_call u name es t is made = subst (λ x. IsUnits u (units x)) (sym is) (subst (λ x. IsUnits u (one_exp x)) (call-tree name es) made)

empty_list : (xs : List Exp) → length xs ≡ 0 → xs ≡ []
empty_list [] h = refl
empty_list (x ∷ xs) h = absurd (omega arith)

pub units_none : (es none : Vec Exp Global) (u : Units) → length es.items ≡ 0 → none.items ≡ [] → u ≡ record { first = e.And es; others = none } → IsUnits u (exps_of es.items)
units_none es none u empty nothing is =
    let nil : es.items ≡ [] = empty_list es.items empty in
    subst (λ v. IsUnits v (exps_of es.items)) (sym is) (record {
      first = and-tree es ∙ ap (λ xs. and (exps_of xs)) nil ∙ ap (λ xs. first_unit (exps_of xs)) (sym nil);
      others = ap exps_of nothing ∙ ap (λ xs. other_units (exps_of xs)) (sym nil);
    })

pub units_first : (xs rest : List Exp) (x : Exp) → 0 < length xs → x ≡ get_or xs 0 x → rest ≡ remove xs 0 → (exp_tree x ≡ first_unit (exps_of xs)) × (exps_of rest ≡ other_units (exps_of xs))
units_first [] rest x some first left = absurd (omega arith)
units_first (y ∷ ys) rest x some first left = (ap exp_tree first, ap exps_of left)

-- ---- events and conditions

pub exps_of-push : (xs all : List Exp) (x : Exp) (t : ExpTree) → all ≡ xs ++ x ∷ [] → exp_tree x ≡ t → exps_of all ≡ exps_of_before xs t
exps_of-push xs all x t is tree = ap exps_of is ∙ pushed xs ∙ ap (exps_of_before xs) tree where
  pushed : (ys : List Exp) → exps_of (ys ++ x ∷ []) ≡ exps_of_before ys (exp_tree x)
  pushed [] = refl
  pushed (y ∷ ys) = ap (exp (exp_tree y)) (pushed ys)

events_skip : (t s : ExpTree) (ts : ExpTrees) → events_in (exp t (exp s ts)) ≡ events_in (exp s ts)
unfolding events_in
events_skip (array es) s ts = refl
events_skip t s ts = refl

events_none : (t : ExpTree) → is_braces t ≡ false → events_in (exp t no_exps) ≡ None
unfolding events_in
events_none (array es) h = absurd (cc)
events_none t h = refl

events_here : (es : ExpTrees) → events_in (exp (array es) no_exps) ≡ Some es
unfolding events_in
events_here es = refl

conditions_skip : (t s : ExpTree) (ts : ExpTrees) → conditions (exp t (exp s ts)) ≡ exp t (conditions (exp s ts))
unfolding conditions
conditions_skip (array es) s ts = refl
conditions_skip t s ts = refl

conditions_none : (t : ExpTree) → is_braces t ≡ false → conditions (exp t no_exps) ≡ exp t no_exps
unfolding conditions
conditions_none (array es) h = absurd (cc)
conditions_none t h = refl

conditions_here : (es : ExpTrees) → conditions (exp (array es) no_exps) ≡ no_exps
unfolding conditions
conditions_here es = refl

empty_events : events_in no_exps ≡ None
unfolding events_in
empty_events = refl

empty_conditions : conditions no_exps ≡ no_exps
unfolding conditions
empty_conditions = refl

events_last : (xs : List Exp) (es : ExpTrees) → events_in (exps_of_before xs (array es)) ≡ Some es
events_last [] es = events_here es
events_last (x ∷ []) es = events_skip (exp_tree x) (array es) no_exps ∙ events_here es
events_last (x ∷ y ∷ xs) es = events_skip (exp_tree x) (exp_tree y) (exps_of_before xs (array es)) ∙ events_last (y ∷ xs) es

events_not_last : (xs : List Exp) (t : ExpTree) → is_braces t ≡ false → events_in (exps_of_before xs t) ≡ None
events_not_last [] t h = events_none t h
events_not_last (x ∷ []) t h = events_skip (exp_tree x) t no_exps ∙ events_none t h
events_not_last (x ∷ y ∷ xs) t h = events_skip (exp_tree x) (exp_tree y) (exps_of_before xs t) ∙ events_not_last (y ∷ xs) t h

conditions_last : (xs : List Exp) (es : ExpTrees) → conditions (exps_of_before xs (array es)) ≡ exps_of xs
conditions_last [] es = conditions_here es
conditions_last (x ∷ []) es = conditions_skip (exp_tree x) (array es) no_exps ∙ ap (exp (exp_tree x)) (conditions_here es)
conditions_last (x ∷ y ∷ xs) es = conditions_skip (exp_tree x) (exp_tree y) (exps_of_before xs (array es)) ∙ ap (exp (exp_tree x)) (conditions_last (y ∷ xs) es)

conditions_not_last : (xs : List Exp) (t : ExpTree) → is_braces t ≡ false → conditions (exps_of_before xs t) ≡ exps_of_before xs t
conditions_not_last [] t h = conditions_none t h
conditions_not_last (x ∷ []) t h = conditions_skip (exp_tree x) t no_exps ∙ ap (exp (exp_tree x)) (conditions_none t h)
conditions_not_last (x ∷ y ∷ xs) t h = conditions_skip (exp_tree x) (exp_tree y) (exps_of_before xs t) ∙ ap (exp (exp_tree x)) (conditions_not_last (y ∷ xs) t h)

pub split_events : (xs events : Vec Exp Global) (t : ExpTree) (s : SplitUnits) → s ≡ record { conditions = xs; events = events; has_events = true } → t ≡ array (exps_of events.items) → IsSplit s (exps_of_before xs.items t)
split_events xs events t s made is = subst (λ v. IsSplit v (exps_of_before xs.items t)) (sym made) (record {
  conditions = sym (ap (λ u. conditions (exps_of_before xs.items u)) is ∙ conditions_last xs.items (exps_of events.items));
  events = ap (λ u. events_in (exps_of_before xs.items u)) is ∙ events_last xs.items (exps_of events.items);
  no_events = λ h. absurd (cc);
})

pub split_none : (xs all : List Exp) (x : Exp) (s : SplitUnits) → all ≡ xs ++ x ∷ [] → s.conditions.items ≡ all → s.events.items ≡ [] → s.has_events ≡ false
    → is_braces (exp_tree x) ≡ false → (es : ExpTrees) → es ≡ exps_of_before xs (exp_tree x) → IsSplit s es
split_none xs all x s pushed conds none lacks plain es is = record {
  conditions = ap exps_of conds ∙ exps_of-push xs all x (exp_tree x) pushed refl ∙ sym (ap conditions is ∙ conditions_not_last xs (exp_tree x) plain);
  events = ap events_in is ∙ events_not_last xs (exp_tree x) plain ∙ ap (λ b. if b then Some (exps_of s.events.items) else None) (sym lacks);
  no_events = λ h. none;
}

pub split_empty : (es none : Vec Exp Global) (s : SplitUnits) → es.items ≡ [] → none.items ≡ [] → (u : ExpTrees) → u ≡ no_exps → s ≡ record { conditions = es; events = none; has_events = false } → IsSplit s u
split_empty es none s empty nothing u is made = subst (λ v. IsSplit v u) (sym made) (record {
  conditions = ap exps_of empty ∙ sym (ap conditions is ∙ empty_conditions);
  events = ap events_in is ∙ empty_events;
  no_events = λ h. nothing;
})

other_no_braces : (t : ExpTree) → is_other t ≡ true → is_braces t ≡ false
other_no_braces (array es) h = absurd (cc)
other_no_braces t h = refl

pub split_as : (s : SplitUnits) (xs : List Exp) (x : Exp) (t : ExpTree) → exp_tree x ≡ t → is_braces t ≡ false → (is_braces (exp_tree x) ≡ false → (es : ExpTrees) → es ≡ exps_of_before xs (exp_tree x) → IsSplit s es) → IsSplit s (exps_of_before xs t)
split_as s xs x t is plain made = made (ap is_braces is ∙ plain) (exps_of_before xs t) (ap (exps_of_before xs) (sym is))

pub split_as_other : (s : SplitUnits) (xs : List Exp) (x : Exp) (t : ExpTree) → exp_tree x ≡ t → is_other t ≡ true → (is_braces (exp_tree x) ≡ false → (es : ExpTrees) → es ≡ exps_of_before xs (exp_tree x) → IsSplit s es) → IsSplit s (exps_of_before xs t)
split_as_other s xs x t is other made = split_as s xs x t is (other_no_braces t other) made

pub split_as_conjunction : (s : SplitUnits) (xs : List Exp) (es : Vec Exp Global) (t : ExpTree) → t ≡ and (exps_of es.items)
    → (is_braces (exp_tree (e.And es)) ≡ false → (us : ExpTrees) → us ≡ exps_of_before xs (exp_tree (e.And es)) → IsSplit s us) → IsSplit s (exps_of_before xs t)
split_as_conjunction s xs es t is made = split_as s xs (e.And es) t (and-tree es ∙ sym is) (ap is_braces is) made

pub split_as_call : (s : SplitUnits) (xs : List Exp) (name : List ℕ) (es : Vec Exp Global) (t : ExpTree) → t ≡ call name (exps_of es.items)
    → (is_braces (exp_tree (e.Call name es)) ≡ false → (us : ExpTrees) → us ≡ exps_of_before xs (exp_tree (e.Call name es)) → IsSplit s us) → IsSplit s (exps_of_before xs t)
split_as_call s xs name es t is made = split_as s xs (e.Call name es) t (call-tree name es ∙ sym is) (ap is_braces is) made

pub split_whole : (s : SplitUnits) (xs all : List Exp) (x : Exp) → all ≡ xs ++ x ∷ [] → IsSplit s (exps_of_before xs (exp_tree x)) → IsSplit s (exps_of all)
split_whole s xs all x is split = subst (IsSplit s) (sym (exps_of-push xs all x (exp_tree x) is refl)) split

pub split_nothing : (old : List Exp) (new none : Vec Exp Global) (s : SplitUnits) → length old ≡ 0 → old ≡ new.items ++ [] → none.items ≡ [] → s ≡ record { conditions = new; events = none; has_events = false } → IsSplit s (exps_of old)
split_nothing old new none s empty is nothing made =
    split_empty new none s (sym (append-nil new.items) ∙ sym is ∙ empty_list old empty) nothing (exps_of old) (ap exps_of (empty_list old empty)) made

-- ---- conditions as one expression

pub condition_none : (xs : List Exp) → length xs ≡ 0 → None ≡ condition (exps_of xs)
condition_none [] h = refl
condition_none (x ∷ xs) h = absurd (omega arith)

pub condition_one : (xs : List Exp) (x : Exp) → length xs ≡ 1 → x ≡ get_or xs 0 x → Some (exp_tree x) ≡ condition (exps_of xs)
condition_one [] x h is = absurd (omega arith)
condition_one (y ∷ []) x h is = ap (λ z. Some (exp_tree z)) is
condition_one (y ∷ z ∷ xs) x h is = absurd (omega arith)

pub condition_many : (es : Vec Exp Global) → 1 < length es.items → Some (exp_tree (e.And es)) ≡ condition (exps_of es.items)
condition_many es h = ap (λ t. Some t) (and-tree es) ∙ many es.items h where
  many : (xs : List Exp) → 1 < length xs → Some (and (exps_of xs)) ≡ condition (exps_of xs)
  many [] h = absurd (omega arith)
  many (x ∷ []) h = absurd (omega arith)
  many (x ∷ y ∷ xs) h = refl

-- ---- the clause

listed_exps : (xs : List Exp) → listed (exps_of xs) ≡ map exp_tree xs
unfolding listed
listed_exps [] = refl
listed_exps (x ∷ xs) = ap (λ ts. exp_tree x ∷ ts) (listed_exps xs)

events_listed : (s : SplitUnits) (es : ExpTrees) (b : Bool) → s.has_events ≡ b → IsSplit s es → map exp_tree s.events.items ≡ listed_or_none (events_in es)
events_listed s es true has split = sym (ap listed_or_none (split.events ∙ ap (λ b. if b then Some (exps_of s.events.items) else None) has) ∙ listed_exps s.events.items)
events_listed s es false has split = ap (map exp_tree) (split.no_events has) ∙ sym (ap listed_or_none (split.events ∙ ap (λ b. if b then Some (exps_of s.events.items) else None) has))

has_shown : (b : Bool) (es : ExpTrees) → is_some (if b then Some es else None) ≡ b
has_shown true es = refl
has_shown false es = refl

events_shown : (c : Clause) (boxed : Box RuleClause Global) (es : Option ExpTrees) (b : Bool) → c ≡ Clause.Rule boxed → es ≡ (if b then Some (exps_of (events_between boxed.value.between)) else None) → ShowsEvents c es
events_shown c boxed es true is shown = subst (λ o. ShowsEvents c o) (sym shown) (subst (λ k. ShowsEvents k (Some (exps_of (events_between boxed.value.between)))) (sym is) refl)
events_shown c boxed es false is shown = subst (λ o. ShowsEvents c o) (sym shown) (no_events c)
  where
    no_events : (c : Clause) → ShowsEvents c None
    no_events (Clause.Rule boxed) = tt
    no_events (Clause.Function boxed) = tt
    no_events (Clause.Fact head) = tt

function_events : (boxed : Box FunctionClause Global) (es : Option ExpTrees) → ShowsEvents (Clause.Function boxed) es
function_events boxed None = tt
function_events boxed (Some es) = tt

abbrev rule_with : Bool → Exp → ExpTree → Option ExpTree → List ExpTree → WrittenClause
rule_with back body h c es = rule (record { head = h; cond = c; events = es; back = back; body = exp_tree body })

abbrev function_with : Exp → Exp → Exp → Option ExpTree → WrittenClause
function_with head value body c = function (record { head = exp_tree head; value = exp_tree value; cond = c; body = Some (exp_tree body) })

pub rule_formed : (f : FormedClause) (left : ExpTree) (first head body : Exp) (cond : Option Exp) (split : SplitUnits) (back : Bool) (between : Between) (boxed : Box RuleClause Global)
    → exp_tree first ≡ first_unit (units left) → IsSplit split (other_units (units left)) → option_map exp_tree cond ≡ condition (exps_of split.conditions.items)
    → ShowsHeaded (headed.Alone head) (exp_tree first) → cond_between between ≡ cond → events_between between ≡ split.events.items
    → f.clause ≡ Clause.Rule boxed → boxed.value ≡ record { head = head; between = between; back = back; body = body }
    → f.is_open ≡ back → f.has_events ≡ split.has_events → IsFormed f (ruled left back (exp_tree body))
rule_formed f left first head body cond split back between boxed is_first is_split is_cond (is_head, none) kept_cond kept_events is_clause is_rule is_open has =
    let others : ExpTrees = other_units (units left) in
    record {
      clause = ap written_clause is_clause
          ∙ ap (λ r. rule (rule_tree r)) is_rule
          ∙ ap (λ c. rule_with back body (exp_tree head) (option_map exp_tree c) (map exp_tree (events_between between))) kept_cond
          ∙ ap (λ es. rule_with back body (exp_tree head) (option_map exp_tree cond) (map exp_tree es)) kept_events
          ∙ ap (λ h. rule_with back body h (option_map exp_tree cond) (map exp_tree split.events.items)) (is_head ∙ is_first)
          ∙ ap (λ c. rule_with back body (first_unit (units left)) c (map exp_tree split.events.items)) (is_cond ∙ ap condition is_split.conditions)
          ∙ ap (rule_with back body (first_unit (units left)) (condition (conditions others))) (events_listed split others split.has_events refl is_split)
          ∙ sym (ap (λ q. ruled_clause q (first_unit (units left)) others back (exp_tree body)) (ap equation (sym is_first) ∙ none));
      open_arrow = is_open;
      has_events = has ∙ sym (ap is_some is_split.events ∙ has_shown split.has_events (exps_of split.events.items));
      events = events_shown f.clause boxed (events_in others) split.has_events is_clause (is_split.events
          ∙ ap (λ es. if split.has_events then Some (exps_of es) else None) (sym kept_events)
          ∙ ap (λ (r : RuleClause). if split.has_events then Some (exps_of (events_between r.between)) else None) (sym is_rule));
    }

pub function_formed : (f : FormedClause) (left : ExpTree) (first head value body : Exp) (cond : Option Exp) (split : SplitUnits) (back : Bool) (behind : Box FunctionBody Global) (boxed : Box FunctionClause Global)
    → exp_tree first ≡ first_unit (units left) → IsSplit split (other_units (units left)) → option_map exp_tree cond ≡ condition (exps_of split.conditions.items)
    → ShowsHeaded (headed.Equation head value) (exp_tree first) → behind.value ≡ record { cond = cond; body = body }
    → f.clause ≡ Clause.Function boxed → boxed.value ≡ record { head = head; value = value; behind = Some behind }
    → f.is_open ≡ back → f.has_events ≡ split.has_events → IsFormed f (ruled left back (exp_tree body))
function_formed f left first head value body cond split back behind boxed is_first is_split is_cond is_head is_behind is_clause is_function is_open has =
    let others : ExpTrees = other_units (units left) in
    record {
      clause = ap written_clause is_clause
          ∙ ap (λ r. function (function_tree r)) is_function
          ∙ ap (λ (r : FunctionBody). function_with head value r.body (option_map exp_tree r.cond)) is_behind
          ∙ ap (function_with head value body) (is_cond ∙ ap condition is_split.conditions)
          ∙ sym (ap (λ q. ruled_clause q (first_unit (units left)) others back (exp_tree body)) (ap equation (sym is_first) ∙ is_head));
      open_arrow = is_open;
      has_events = has ∙ sym (ap is_some is_split.events ∙ has_shown split.has_events (exps_of split.events.items));
      events = subst (λ c. ShowsEvents c (events_in others)) (sym is_clause) (function_events boxed (events_in others));
    }
