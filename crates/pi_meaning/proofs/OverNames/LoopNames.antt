-- Names of loops: those that a loop keeps are among those that its turns have, which are among those that stand before it; none of them is `_`.
use Rattle.std.proofs.Common.{◌≡◌, ℕ, Bool, true, false, cond, List, [], ◌∷◌, ◌++◌, filter, refl, sym, ◌∙◌, ap}
use Rattle.std.specs.Prelude.{Option, Some, None, codes, not, ◌||◌}
use Rattle.std.specs.Str.{bytes_eq}
use Rattle.std.proofs.lemmas.Bool.{true≢false}
use Rattle.std.proofs.lemmas.Slice.Eq.{bytes_eq-Decides}
use Rattle.pi_syntax.specs.ExpTree.{ExpTree, var, call, and, or, arrow, if_then, if_else, foreach, while_do, do_while, ExpTrees, no_exps, exp, ExpBranches, no_branches, branch}
use Rattle.pi_meaning.specs.OverNames.Texts.{Names, is_among, is_blank, places, with_one, behind, occurring, occurring_all, occurring_in_branches, patterns_of, without, shared_names, names_inside, variable_first, the_name, assigned, assigned_all, assigned_in_branches, kept_names}

-- ---- lists of names

first-true : (a b : Bool) → a ≡ true → a || b ≡ true
first-true true b is = refl
first-true false b is = absurd (true≢false (sym is))

second-true : (a b : Bool) → b ≡ true → a || b ≡ true
second-true true b is = refl
second-true false b is = is

pub among-append : (a b : Names) (name : List ℕ) → is_among (a ++ b) name ≡ is_among a name || is_among b name
among-append [] b name = refl
among-append (n ∷ a) b name = ap (λ (c : Bool). bytes_eq name n || c) (among-append a b name) ∙ grouped (bytes_eq name n) (is_among a name) (is_among b name)
  where
    grouped : (x y z : Bool) → x || (y || z) ≡ (x || y) || z
    grouped true y z = refl
    grouped false y z = refl

-- what is among some names is among more
abbrev pub Within : Names → Names → Type 0
Within a b = (name : List ℕ) → is_among a name ≡ true → is_among b name ≡ true

within-append : (a b c d : Names) → Within a c → Within b d → Within (a ++ b) (c ++ d)
within-append a b c d f g name is = go (is_among a name) refl (sym (among-append a b name) ∙ is)
  where
    go : (x : Bool) → is_among a name ≡ x → x || is_among b name ≡ true → is_among (c ++ d) name ≡ true
    go true here h = among-append c d name ∙ first-true (is_among c name) (is_among d name) (f name here)
    go false here h = among-append c d name ∙ second-true (is_among c name) (is_among d name) (g name h)

within-last : (a c d : Names) → Within a d → Within a (c ++ d)
within-last a c d f name is = among-append c d name ∙ second-true (is_among c name) (is_among d name) (f name is)

within-first : (a c d : Names) → Within a c → Within a (c ++ d)
within-first a c d f name is = among-append c d name ∙ first-true (is_among c name) (is_among d name) (f name is)

-- of a filter
pub filter-within : (f : List ℕ → Bool) (names : Names) (name : List ℕ) → is_among (filter f names) name ≡ true → (is_among names name ≡ true) × (f name ≡ true)
filter-within f [] name is = absurd (true≢false (sym is))
filter-within f (n ∷ names) name is = go (f n) refl (bytes_eq name n) refl is (λ here. filter-within f names name here)
  where
    go : (c : Bool) → f n ≡ c → (b : Bool) → bytes_eq name n ≡ b → is_among (cond c (n ∷ filter f names) (filter f names)) name ≡ true → (is_among (filter f names) name ≡ true → (is_among names name ≡ true) × (f name ≡ true)) →
        (b || is_among names name ≡ true) × (f name ≡ true)
    go true holds true same h rest = (refl, ap f ((bytes_eq-Decides name n).0 same) ∙ holds)
    go true holds false other h rest = let r : (is_among names name ≡ true) × (f name ≡ true) = rest (sym (ap (λ (b : Bool). b || is_among (filter f names) name) other) ∙ h) in (r.0, r.1)
    go false fails b here h rest = let r : (is_among names name ≡ true) × (f name ≡ true) = rest h in (second-true b (is_among names name) r.0, r.1)

pub within-filter : (f : List ℕ → Bool) (names : Names) (name : List ℕ) → is_among names name ≡ true → f name ≡ true → is_among (filter f names) name ≡ true
within-filter f [] name is holds = absurd (true≢false (sym is))
within-filter f (n ∷ names) name is holds = go (f n) refl (bytes_eq name n) refl is (λ here. within-filter f names name here holds)
  where
    go : (c : Bool) → f n ≡ c → (b : Bool) → bytes_eq name n ≡ b → b || is_among names name ≡ true → (is_among names name ≡ true → is_among (filter f names) name ≡ true) → is_among (cond c (n ∷ filter f names) (filter f names)) name ≡ true
    go true here b same h rest = step b same h
      where
        step : (b : Bool) → bytes_eq name n ≡ b → b || is_among names name ≡ true → bytes_eq name n || is_among (filter f names) name ≡ true
        step true same h = first-true (bytes_eq name n) (is_among (filter f names) name) same
        step false other h = second-true (bytes_eq name n) (is_among (filter f names) name) (rest h)
    go false fails true same h rest = absurd (true≢false (sym holds ∙ ap f ((bytes_eq-Decides name n).0 same) ∙ fails))
    go false fails false other h rest = rest h

-- ---- what a goal assigns occurs in it

the-name-within : (es : ExpTrees) → Within (the_name (variable_first es)) (occurring_all es)
unfolding occurring_all occurring
the-name-within (exp (var name) es) = within-first (name ∷ []) (name ∷ []) (occurring_all es) (λ n is. is)
the-name-within no_exps = λ n is. absurd (true≢false (sym is))
the-name-within (exp e es) = λ n is. absurd (true≢false (sym is))

either-within : (c : Bool) (a b : Names) → Within a b → Within (cond c a []) b
either-within true a b f = f
either-within false a b f = λ n is. absurd (true≢false (sym is))

nothing-within : (b : Names) → Within [] b
nothing-within b name is = absurd (true≢false (sym is))

without-within : (a some b : Names) → Within a b → Within (without a some) b
without-within a some b f name is = f name (filter-within (λ n. not (is_among some n)) a name is).0

mutual
  unfolding assigned assigned_all assigned_in_branches occurring occurring_all occurring_in_branches

  pub assigned-occurs : (e : ExpTree) → Within (assigned e) (occurring e)
  assigned-occurs (call name es) = either-within (bytes_eq name (codes ":=")) (the_name (variable_first es)) (occurring_all es) (the-name-within es)
  assigned-occurs (and es) = all-assigned-occur es
  assigned-occurs (or es) = all-assigned-occur es
  assigned-occurs (arrow c e) = within-last (assigned e) (occurring c) (occurring e) (assigned-occurs e)
  assigned-occurs (if_then bs) = branches-assigned-occur bs
  assigned-occurs (if_else bs e) = within-append (assigned_in_branches bs) (assigned e) (occurring_in_branches bs) (occurring e) (branches-assigned-occur bs) (assigned-occurs e)
  assigned-occurs (foreach es e) = without-within (assigned e) (patterns_of es) (occurring_all es ++ occurring e) (within-last (assigned e) (occurring_all es) (occurring e) (assigned-occurs e))
  assigned-occurs (while_do c e) = within-last (assigned e) (occurring c) (occurring e) (assigned-occurs e)
  assigned-occurs (do_while e c) = within-first (assigned e) (occurring e) (occurring c) (assigned-occurs e)
  assigned-occurs e = nothing-within (occurring e)

  all-assigned-occur : (es : ExpTrees) → Within (assigned_all es) (occurring_all es)
  all-assigned-occur no_exps = nothing-within []
  all-assigned-occur (exp e es) = within-append (assigned e) (assigned_all es) (occurring e) (occurring_all es) (assigned-occurs e) (all-assigned-occur es)

  branches-assigned-occur : (bs : ExpBranches) → Within (assigned_in_branches bs) (occurring_in_branches bs)
  branches-assigned-occur no_branches = nothing-within []
  branches-assigned-occur (branch c e bs) =
      within-last (assigned e ++ assigned_in_branches bs) (occurring c) (occurring e ++ occurring_in_branches bs) (within-append (assigned e) (assigned_in_branches bs) (occurring e) (occurring_in_branches bs) (assigned-occurs e) (branches-assigned-occur bs))

-- ---- names without `_`

-- none of these is `_`
abbrev pub AreNamed : Names → Type 0
AreNamed names = (name : List ℕ) → is_among names name ≡ true → is_blank name ≡ false

named-one : (before : Names) (name : List ℕ) → AreNamed before → AreNamed (with_one before name)
named-one before name named = go (is_blank name) refl (is_among before name)
  where
    added : is_blank name ≡ false → AreNamed (before ++ name ∷ [])
    added plain n is = among (is_among before n) refl (sym (among-append before (name ∷ []) n) ∙ is)
      where
        last : (b : Bool) → bytes_eq n name ≡ b → b || false ≡ true → is_blank n ≡ false
        last true same h = ap is_blank ((bytes_eq-Decides n name).0 same) ∙ plain
        last false other h = absurd (true≢false (sym h))

        among : (c : Bool) → is_among before n ≡ c → c || (bytes_eq n name || false) ≡ true → is_blank n ≡ false
        among true here h = named n here
        among false here h = last (bytes_eq n name) refl h

    go : (b : Bool) → is_blank name ≡ b → (c : Bool) → AreNamed (cond (b || c) before (before ++ name ∷ []))
    go true blank c = named
    go false plain true = named
    go false plain false = added plain

pub behind-named : (before names : Names) → AreNamed before → AreNamed (behind before names)
unfolding behind
behind-named before [] named = named
behind-named before (name ∷ names) named = behind-named (with_one before name) names (named-one before name named)

-- what stands behind was before or is new
behind-within : (before names : Names) (name : List ℕ) → is_among (behind before names) name ≡ true → is_among before name || is_among names name ≡ true
unfolding behind
behind-within before [] name is = first-true (is_among before name) false is
behind-within before (n ∷ names) name is = go (is_blank n || is_among before n) (behind-within (with_one before n) names name is)
  where
    moved : (a b c : Bool) → (a || (b || false)) || c ≡ true → a || (b || c) ≡ true
    moved true b c h = refl
    moved false true c h = refl
    moved false false c h = h

    later : (a b c : Bool) → a || c ≡ true → a || (b || c) ≡ true
    later true b c h = refl
    later false b c h = second-true b c h

    go : (c : Bool) → is_among (cond c before (before ++ n ∷ [])) name || is_among names name ≡ true → is_among before name || (bytes_eq name n || is_among names name) ≡ true
    go true h = later (is_among before name) (bytes_eq name n) (is_among names name) h
    go false h = moved (is_among before name) (bytes_eq name n) (is_among names name) (sym (ap (λ (b : Bool). b || is_among names name) (among-append before (n ∷ []) name)) ∙ h)

-- ---- what a loop keeps, and what its turns have

-- names that are kept stand before the loop, are assigned, stand in none of its patterns, and none is `_`
pub record IsKept (before : Names) (us : ExpTrees) (names : Names) (name : List ℕ) : Type 0 where
  pub stands : is_among before name ≡ true
  pub assigned : is_among names name ≡ true
  pub apart : is_among (patterns_of us) name ≡ false
  pub named : is_blank name ≡ false

not-true : (b : Bool) → not b ≡ true → b ≡ false
not-true true is = absurd (true≢false (sym is))
not-true false is = refl

pub kept-is : (before : Names) (us : ExpTrees) (names : Names) (name : List ℕ) → is_among (kept_names before us names) name ≡ true → IsKept before us names name
unfolding behind
kept-is before us names name is =
    let outer : (is_among (behind [] (without names (patterns_of us))) name ≡ true) × (is_among before name ≡ true) = filter-within (is_among before) (behind [] (without names (patterns_of us))) name is in
    let inner : (is_among names name ≡ true) × (not (is_among (patterns_of us) name) ≡ true) =
    filter-within (λ n. not (is_among (patterns_of us) n)) names name (behind-within [] (without names (patterns_of us)) name outer.0) in
    record {
      stands = outer.1;
      assigned = inner.0;
      apart = not-true (is_among (patterns_of us) name) inner.1;
      named = behind-named [] (without names (patterns_of us)) (λ n h. absurd (true≢false (sym h))) name outer.0;
    }

-- a turn's names stand before the loop
pub shared-before : (before used : Names) → Within (shared_names before used) before
shared-before before used name is = (filter-within (is_among used) before name is).0

pub inside-before : (before : Names) (o : Option ExpTree) (used : Names) → Within (names_inside before o used) before
inside-before before None used name is = is
inside-before before (Some e) used name is = shared-before before used name (filter-within (λ n. not (is_among (places e) n)) (shared_names before used) name is).0

-- and none stands in the pattern
pub inside-apart : (before : Names) (e : ExpTree) (used : Names) (name : List ℕ) → is_among (names_inside before (Some e) used) name ≡ true → is_among (places e) name ≡ false
inside-apart before e used name is = not-true (is_among (places e) name) (filter-within (λ n. not (is_among (places e) n)) (shared_names before used) name is).1

-- names that are kept and used are among them
pub kept-shared : (before : Names) (us : ExpTrees) (names used : Names) → Within names used → Within (kept_names before us names) (shared_names before used)
kept-shared before us names used within name is =
    let k : IsKept before us names name = kept-is before us names name is in within-filter (is_among used) before name k.stands (within name k.assigned)

pub kept-inside : (before : Names) (u : ExpTree) (us : ExpTrees) (e : ExpTree) (names used : Names) → Within names used → ((name : List ℕ) → is_among (patterns_of (exp u us)) name ≡ false → is_among (places e) name ≡ false) →
    Within (kept_names before (exp u us) names) (names_inside before (Some e) used)
kept-inside before u us e names used within apart name is =
    let k : IsKept before (exp u us) names name = kept-is before (exp u us) names name is in
    within-filter (λ n. not (is_among (places e) n)) (shared_names before used) name (within-filter (is_among used) before name k.stands (within name k.assigned)) (ap not (apart name k.apart))
