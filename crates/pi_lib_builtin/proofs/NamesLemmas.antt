-- All names of built-in predicates: each stands in the list, and each that stands there is one.
use Rattle.std.proofs.Common.{◌≡◌, ◌∙◌, ◌↔◌, ◌⊎◌, inl, inr, ℕ, zero, suc, ◌+◌, ◌<◌, ◌≤◌, length, take, get_or, map, add-one, append_assoc, Bool, true, false, cond, List, [], ◌∷◌, ◌++◌, refl, ap, sym, subst, arith}
use Rattle.std.specs.Prelude.{Option, Some, None, IsTrue, Contains, codes}
use Rattle.std.specs.Str.{bytes_eq}
use Rattle.std.specs.Borrow.{Bor}
use Rattle.std.proofs.Math.Seq.{take-suc}
use Rattle.std.proofs.lemmas.List.{append-nil, map-append, take_all}
use Rattle.std.specs.List.{list_all}
use Rattle.std.proofs.lemmas.List.Elements.{All-contains, Contains-append_left, Contains-append_right, Contains-push}
use Rattle.std.proofs.lemmas.List.Sums.{AllPass-from_list_all}
use Rattle.pi_effects.specs.Rows.{has_line}
use Rattle.pi_effects.specs.Comparing.{comparing_tests}
use Rattle.pi_effects.specs.Kinds.{kind_tests}
use Rattle.pi_effects.specs.Texts.{writing_predicates}
use Rattle.pi_effects.specs.BuiltIns.{tests, other_predicates, is_predicate}
use Rattle.pi_lib_builtin.specs.Names.{takes}
use Rattle.pi_lib_builtin.specs.Resolved.{Named, rows_shown, first_named, named_with}
use Rattle.pi_lib_builtin.specs.declared.predicates.Predicate.{Predicate}
use Rattle.pi_lib_builtin.proofs.NamedLemmas.{bytes-same}
use Rattle.pi_lib_builtin.proofs.PredicateTables.{predicates_of_none, predicates_of_one, predicates_of_two, none-of_none, none-of_one, none-of_two, none-of_other, none-of_printf}

-- `printf` with one argument to so many
abbrev pub printf_names : ℕ → List (Named ℕ)
printf_names zero = []
printf_names (suc k) = printf_names k ++ (codes "printf", suc k) ∷ []

abbrev tables_names : List (Named ℕ)
tables_names = (([] ++ named_with 0 predicates_of_none) ++ named_with 1 predicates_of_one) ++ named_with 2 predicates_of_two

abbrev pub all_names : List (Named ℕ)
all_names = tables_names ++ printf_names 16

-- ---- names that are pushed

pushed-shown : {X : Type 0} (now new : List (Bor (List ℕ) × X)) (name : Bor (List ℕ)) (x : X) → new ≡ now ++ (name, x) ∷ [] → rows_shown new ≡ rows_shown now ++ (name.now, x) ∷ []
pushed-shown {X} now new name x pushed = ap rows_shown pushed ∙ map-append (λ (r : Bor (List ℕ) × X). (r.0.now, r.1)) now ((name, x) ∷ [])

-- one more behind what was pushed
pushed-behind : (now whole front : List (Named ℕ)) (one : Named ℕ) → now ≡ whole ++ front → now ++ one ∷ [] ≡ whole ++ (front ++ one ∷ [])
pushed-behind now whole front one so = ap (λ ns. ns ++ one ∷ []) so ∙ append_assoc whole front (one ∷ [])

pub row-pushed : {T : Type 0} (before now new : List (Bor (List ℕ) × ℕ)) (rows : List (Bor (List ℕ) × T)) (i k : ℕ) (r : Bor (List ℕ) × T) → i < length rows → r ≡ get_or rows i r → new ≡ now ++ (r.0, k) ∷ []
    → rows_shown now ≡ rows_shown before ++ named_with k (rows_shown (take i rows)) → rows_shown new ≡ rows_shown before ++ named_with k (rows_shown (take (i + 1) rows))
row-pushed {T} before now new rows i k r low e pushed so =
    let more : take (i + 1) rows ≡ take i rows ++ r ∷ [] = ap (λ n. take n rows) (add-one i) ∙ (take-suc rows i r low ∙ ap (λ q. take i rows ++ q ∷ []) (sym e)) in
    let shown : rows_shown (take (i + 1) rows) ≡ rows_shown (take i rows) ++ (r.0.now, r.1) ∷ [] = pushed-shown (take i rows) (take (i + 1) rows) r.0 r.1 more in
    let named : named_with k (rows_shown (take (i + 1) rows)) ≡ named_with k (rows_shown (take i rows)) ++ (r.0.now, k) ∷ [] =
    ap (named_with k) shown ∙ map-append (λ (q : Named T). (q.0, k)) (rows_shown (take i rows)) ((r.0.now, r.1) ∷ []) in
    pushed-shown now new r.0 k pushed ∙ (pushed-behind (rows_shown now) (rows_shown before) (named_with k (rows_shown (take i rows))) (r.0.now, k) so ∙ ap (λ ns. rows_shown before ++ ns) (sym named))

pub rows-pushed : {T : Type 0} (before now : List (Bor (List ℕ) × ℕ)) (rows : List (Bor (List ℕ) × T)) (i k : ℕ) → length rows ≤ i → rows_shown now ≡ rows_shown before ++ named_with k (rows_shown (take i rows))
    → rows_shown now ≡ rows_shown before ++ named_with k (rows_shown rows)
rows-pushed before now rows i k all so = so ∙ ap (λ rs. rows_shown before ++ named_with k (rows_shown rs)) (take_all i rows all)

pub printf-pushed : (before now new : List (Bor (List ℕ) × ℕ)) (name : Bor (List ℕ)) (k : ℕ) → new ≡ now ++ (name, k + 1) ∷ [] → name.now ≡ codes "printf" → rows_shown now ≡ rows_shown before ++ printf_names k
    → rows_shown new ≡ rows_shown before ++ printf_names (k + 1)
printf-pushed before now new name k pushed is so =
    let one : printf_names (k + 1) ≡ printf_names k ++ (name.now, k + 1) ∷ [] = ap printf_names (add-one k) ∙ ap (λ (r : Named ℕ). printf_names k ++ r ∷ []) (ap (λ n. (codes "printf", n)) (sym (add-one k)) ∙ ap (λ n. (n, k + 1)) (sym is)) in
    pushed-shown now new name (k + 1) pushed ∙ (pushed-behind (rows_shown now) (rows_shown before) (printf_names k) (name.now, k + 1) so ∙ ap (λ ns. rows_shown before ++ ns) (sym one))

-- ---- what stands there is one

all-known : list_all (λ r. is_predicate r.0 r.1) all_names ≡ true
unfolding is_predicate has_line tests comparing_tests kind_tests writing_predicates other_predicates
all-known = refl

names-known : (name : List ℕ) (k : ℕ) → Contains all_names (name, k) → is_predicate name k ≡ true
names-known name k there = All-contains (λ r. is_predicate r.0 r.1 ≡ true) all_names (name, k) (AllPass-from_list_all (λ r. is_predicate r.0 r.1) all_names all-known) there

-- ---- each stands there

contains-first : {X : Type 0} (x : X) (xs : List X) → Contains (x ∷ xs) x
contains-first x xs = Contains-append_left (x ∷ []) xs x (Contains-push [] x)

found-contained : {F : Type 0} (name : List ℕ) (k : ℕ) (r : Named F) (rows : List (Named F)) (f : F) (here : Bool) → bytes_eq r.0 name ≡ here →
    (first_named name rows ≡ Some f → Contains (named_with k rows) (name, k)) → cond here (Some r.1) (first_named name rows) ≡ Some f → Contains (named_with k (r ∷ rows)) (name, k)
found-contained name k r rows f true e other is = subst (λ n. Contains ((n, k) ∷ named_with k rows) (name, k)) (sym (bytes-same r.0 name e)) (contains-first (name, k) (named_with k rows))
found-contained name k r rows f false e other is = Contains-append_right ((r.0, k) ∷ []) (named_with k rows) (name, k) (other is)

row-contained : {F : Type 0} (name : List ℕ) (k : ℕ) (rows : List (Named F)) (f : F) → first_named name rows ≡ Some f → Contains (named_with k rows) (name, k)
unfolding first_named
row-contained name k [] f is = absurd cc
row-contained name k (r ∷ rows) f is = found-contained name k r rows f (bytes_eq r.0 name) refl (row-contained name k rows f) is

-- a name is in the rows, where without them it were none that is built in
row-there : {F : Type 0} (name : List ℕ) (k : ℕ) (rows : List (Named F)) (found : Option F) → first_named name rows ≡ found → is_predicate name k ≡ true →
    (first_named name rows ≡ None → is_predicate name k ≡ false) → Contains (named_with k rows) (name, k)
row-there name k rows (Some f) is known none = row-contained name k rows f is
row-there name k rows None is known none = absurd (cc (known, none is))

printf-either : (k most : ℕ) → (k < most → Contains (printf_names most) (codes "printf", suc k)) → (k < most) ⊎ (k ≡ most) → Contains (printf_names (suc most)) (codes "printf", suc k)
printf-either k most before (inl below) = Contains-append_left (printf_names most) ((codes "printf", suc most) ∷ []) (codes "printf", suc k) (before below)
printf-either k most before (inr same) = subst (λ j. Contains (printf_names (suc most)) (codes "printf", suc j)) (sym same) (Contains-push (printf_names most) (codes "printf", suc most))

printf-there : (k most : ℕ) → k < most → Contains (printf_names most) (codes "printf", suc k)
printf-there k zero lt = absurd (omega (arith, lt))
printf-there k (suc most) lt = printf-either k most (printf-there k most) (grind (arith, lt))

is-taken : (k : ℕ) (taken : Bool) → takes Predicate.Printf k ≡ taken → (takes Predicate.Printf k ≡ false → ⊥) → takes Predicate.Printf k ≡ true
is-taken k true e not = e
is-taken k false e not = absurd (not e)

printf-contained : (k : ℕ) → takes Predicate.Printf k ≡ true → Contains (printf_names 16) (codes "printf", k)
printf-contained zero taken = absurd cc
printf-contained (suc k) taken = printf-there k 16 (grind (arith, taken))

in-tables : (name : List ℕ) (k : ℕ) → (name ≡ codes "printf" → ⊥) → is_predicate name k ≡ true → Contains tables_names (name, k)
in-tables name zero other known =
    let none : List (Named ℕ) = [] ++ named_with 0 predicates_of_none in
    Contains-append_left (none ++ named_with 1 predicates_of_one) (named_with 2 predicates_of_two) (name, 0)
    (Contains-append_left none (named_with 1 predicates_of_one) (name, 0) (row-there name 0 predicates_of_none (first_named name predicates_of_none) refl known (none-of_none name other)))
in-tables name (suc zero) other known =
    let none : List (Named ℕ) = [] ++ named_with 0 predicates_of_none in
    Contains-append_left (none ++ named_with 1 predicates_of_one) (named_with 2 predicates_of_two) (name, 1)
    (Contains-append_right none (named_with 1 predicates_of_one) (name, 1) (row-there name 1 predicates_of_one (first_named name predicates_of_one) refl known (none-of_one name other)))
in-tables name (suc (suc zero)) other known =
    let none : List (Named ℕ) = [] ++ named_with 0 predicates_of_none in
    Contains-append_right (none ++ named_with 1 predicates_of_one) (named_with 2 predicates_of_two) (name, 2) (row-there name 2 predicates_of_two (first_named name predicates_of_two) refl known (none-of_two name other))
in-tables name (suc (suc (suc k))) other known =
    absurd (cc (known, none-of_other name (suc (suc (suc k))) other (λ e. omega (arith, e)) (λ e. omega (arith, e)) (λ e. omega (arith, e))))

in-names : (name : List ℕ) (k : ℕ) (is : Bool) → bytes_eq name (codes "printf") ≡ is → is_predicate name k ≡ true → Contains all_names (name, k)
in-names name k true is known =
    let same : name ≡ codes "printf" = bytes-same name (codes "printf") is in
    let taken : takes Predicate.Printf k ≡ true = is-taken k (takes Predicate.Printf k) refl (λ none. cc (known, none-of_printf name k same none)) in
    Contains-append_right tables_names (printf_names 16) (name, k) (subst (λ n. Contains (printf_names 16) (n, k)) (sym same) (printf-contained k taken))
in-names name k false is known = Contains-append_left tables_names (printf_names 16) (name, k) (in-tables name k (λ e. cc (is, ap (λ n. bytes_eq n (codes "printf")) e)) known)

pub names-listed : (names : List (Named ℕ)) → names ≡ all_names → (name : List ℕ) (k : ℕ) → IsTrue (is_predicate name k) ↔ Contains names (name, k)
names-listed names e name k = (
  λ known. subst (λ ns. Contains ns (name, k)) (sym e) (in-names name k (bytes_eq name (codes "printf")) refl known),
  λ there. names-known name k (subst (λ ns. Contains ns (name, k)) e there),
)
