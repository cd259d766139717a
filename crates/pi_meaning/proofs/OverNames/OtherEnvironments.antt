-- Environments that differ in one name: names, assignments, loops' names, and the names of texts that lack it.
use Rattle.std.proofs.Common.{◌≡◌, ℕ, Bool, true, false, cond, List, [], ◌∷◌, ◌++◌, filter, refl, sym, ◌∙◌, ap, subst}
use Rattle.std.specs.Prelude.{Option, Some, None, codes, not, ◌||◌}
use Rattle.std.specs.Str.{bytes_eq}
use Rattle.std.proofs.lemmas.Slice.Eq.{bytes_eq-Decides}
use Rattle.pi_terms.specs.Tree.{Tree, Trees}
use Rattle.pi_constraints.specs.State.{State, next, with_new}
use Rattle.pi_syntax.specs.ExpTree.{ExpTree, var, int, atom, str, list, list_onto, array, call, quote, index, range, range_by, at, collect, and, or, arrow, if_then, if_else, foreach, while_do, do_while, ExpTrees, no_exps, exp, ExpBranches, no_branches, branch}
use Rattle.pi_meaning.specs.OverNames.Environment.{Environment, meant, known, Valued, ValuedAll, name_valued}
use Rattle.pi_meaning.specs.OverNames.Place.{Place}
use Rattle.pi_meaning.specs.OverNames.Texts.{Names, is_among, is_blank, places, places_all, places_behind, places_caught, places_of_branches, with_one, behind, unit_places, patterns_of, without, shared_names, names_inside, variable_first, the_name, assigned, assigned_all, assigned_in_branches, kept_names}
use Rattle.pi_meaning.specs.OverNames.Assigning.{with_value, place_of, with_names, narrowed, carried}
use Rattle.pi_meaning.specs.OverNames.OtherNames.{IsOther, AreOther, Lacks, LackAll, LackBranches, Agree, AgreeAt, agree_at}

-- values, and several of them, with one state
pub data AgreeValued (x : List ℕ) : Valued → Valued → Type 0 where
  agree_valued : (t : Tree) (e f : Environment) → Agree x e f → (s : State) → AgreeValued x (record { tree = t; names = e; state = s }) (record { tree = t; names = f; state = s })

pub data AgreeAll (x : List ℕ) : ValuedAll → ValuedAll → Type 0 where
  agree_all : (ts : Trees) (e f : Environment) → Agree x e f → (s : State) → AgreeAll x (record { trees = ts; names = e; state = s }) (record { trees = ts; names = f; state = s })

-- ---- looking up

or_else : Option Tree → Option Tree → Option Tree
or_else None o = o
or_else (Some t) o = Some t

cond-or : (b : Bool) (t : Tree) (o q : Option Tree) → cond b (Some t) (or_else o q) ≡ or_else (cond b (Some t) o) q
unfolding or_else
cond-or true t o q = refl
cond-or false t o q = refl

meant-append : (name : List ℕ) (e f : Environment) → meant name (e ++ f) ≡ or_else (meant name e) (meant name f)
unfolding meant or_else
meant-append name [] f = refl
meant-append name (m ∷ e) f =
    ap (λ (o : Option Tree). cond (bytes_eq name m.name) (Some m.tree) o) (meant-append name e f) ∙ cond-or (bytes_eq name m.name) m.tree (meant name e) (meant name f)

pub agree-append : (x : List ℕ) (e f g h : Environment) → Agree x e f → Agree x g h → Agree x (e ++ g) (f ++ h)
agree-append x e f g h a b name other =
    meant-append name e g
    ∙ ap (λ (o : Option Tree). or_else o (meant name g)) (a name other)
    ∙ ap (or_else (meant name f)) (b name other)
    ∙ sym (meant-append name f h)

-- what a replaced entry does to a look-up
replaced : (t u : Tree) (o : Option Tree) (nm na ma : Bool) → (nm ≡ true → na ≡ true → ma ≡ true) → (ma ≡ true → na ≡ true → nm ≡ true) →
    cond ma (cond nm (Some t) o) (cond na (Some u) (cond nm (Some t) o)) ≡ cond nm (Some t) (cond na (Some u) o)
replaced t u o true true true f g = refl
replaced t u o true true false f g = absurd (cc (f refl refl))
replaced t u o true false true f g = refl
replaced t u o true false false f g = refl
replaced t u o false true true f g = absurd (cc (g refl refl))
replaced t u o false true false f g = refl
replaced t u o false false true f g = refl
replaced t u o false false false f g = refl

equal-bytes : (a b : List ℕ) → bytes_eq a b ≡ true → a ≡ b
equal-bytes a b e = (bytes_eq-Decides a b).0 e

bytes-equal : (a b : List ℕ) → a ≡ b → bytes_eq a b ≡ true
bytes-equal a b e = (bytes_eq-Decides a b).1 e

cond-meant : (name : List ℕ) (b : Bool) (e f : Environment) → meant name (cond b e f) ≡ cond b (meant name e) (meant name f)
cond-meant name true e f = refl
cond-meant name false e f = refl

pub meant-value : (n m : List ℕ) (t : Tree) (e : Environment) → meant n (with_value e m t) ≡ cond (bytes_eq n m) (Some t) (meant n e)
unfolding meant with_value
meant-value n m t [] = refl
meant-value n m t (a ∷ e) =
    cond-meant n (bytes_eq m a.name) (record { name = m; tree = t } ∷ e) (a ∷ with_value e m t)
    ∙ ap (λ (o : Option Tree). cond (bytes_eq m a.name) (cond (bytes_eq n m) (Some t) (meant n e)) (cond (bytes_eq n a.name) (Some a.tree) o)) (meant-value n m t e)
    ∙ replaced t a.tree (meant n e) (bytes_eq n m) (bytes_eq n a.name) (bytes_eq m a.name)
    (λ nm na. bytes-equal m a.name (sym (equal-bytes n m nm) ∙ equal-bytes n a.name na))
    (λ ma na. bytes-equal n m (equal-bytes n a.name na ∙ sym (equal-bytes m a.name ma)))

pub agree-value : (x : List ℕ) (m : List ℕ) (t : Tree) (e f : Environment) → Agree x e f → Agree x (with_value e m t) (with_value f m t)
agree-value x m t e f a name other =
    meant-value name m t e ∙ ap (λ (o : Option Tree). cond (bytes_eq name m) (Some t) o) (a name other) ∙ sym (meant-value name m t f)

-- of the entries with one name either all are left or none
left : (t : Tree) (o : Option Tree) (a b c : Bool) → (b ≡ true → c ≡ a) → cond a (cond b (Some t) (cond c o None)) (cond c o None) ≡ cond c (cond b (Some t) o) None
left t o true true true same = refl
left t o true true false same = absurd (cc (same refl))
left t o true false true same = refl
left t o true false false same = refl
left t o false true true same = absurd (cc (same refl))
left t o false true false same = refl
left t o false false true same = refl
left t o false false false same = refl

no-entry : (b : Bool) (o : Option Tree) → o ≡ cond b o o
no-entry true o = refl
no-entry false o = refl

pub meant-narrowed : (name : List ℕ) (names : Names) (e : Environment) → meant name (narrowed names e) ≡ cond (is_among names name) (meant name e) None
unfolding meant
meant-narrowed name names [] = no-entry (is_among names name) None
meant-narrowed name names (m ∷ e) =
    cond-meant name (is_among names m.name) (m ∷ narrowed names e) (narrowed names e)
    ∙ ap (λ (o : Option Tree). cond (is_among names m.name) (cond (bytes_eq name m.name) (Some m.tree) o) o) (meant-narrowed name names e)
    ∙ left m.tree (meant name e) (is_among names m.name) (bytes_eq name m.name) (is_among names name) (λ is. ap (is_among names) (equal-bytes name m.name is))

pub agree-narrowed : (x : List ℕ) (names : Names) (e f : Environment) → Agree x e f → Agree x (narrowed names e) (narrowed names f)
agree-narrowed x names e f a name other =
    meant-narrowed name names e ∙ ap (λ (o : Option Tree). cond (is_among names name) o None) (a name other) ∙ sym (meant-narrowed name names f)

pub agree-itself : (x : List ℕ) (e : Environment) → Agree x e e
agree-itself x e name other = refl

pub agree-back : (x : List ℕ) (e f : Environment) → Agree x e f → Agree x f e
agree-back x e f a name other = sym (a name other)

pub known-agree : (x name : List ℕ) (e f : Environment) → Agree x e f → IsOther x name → known name e ≡ known name f
known-agree x name e f a other = ap (λ (o : Option Tree). cond (bytes_eq name (codes "_")) None o) (a name other)

valued-as : (x name : List ℕ) (o : Option Tree) (e f : Environment) → Agree x e f → (s : State) → AgreeValued x (name_valued o name e s) (name_valued o name f s)
valued-as x name (Some t) e f a s = agree_valued t e f a s
valued-as x name None e f a s =
    agree_valued (Tree.var (next s)) _ _ (agree-append x e f _ _ a (agree-itself x (record { name = name; tree = Tree.var (next s) } ∷ []))) (with_new s)

pub name-agrees : (x name : List ℕ) (e f : Environment) → Agree x e f → IsOther x name → (s : State) → AgreeValued x (name_valued (known name e) name e s) (name_valued (known name f) name f s)
name-agrees x name e f a other s =
    subst (λ (o : Option Tree). AgreeValued x (name_valued (known name e) name e s) (name_valued o name f s)) (known-agree x name e f a other) (valued-as x name (known name e) e f a s)

place-agrees : (x : List ℕ) (a b : Valued) → AgreeValued x a b → AgreeAt x (place_of a) (place_of b)
place-agrees x _ _ (agree_valued t e f a s) = agree_at e f a s

pub names-agree : (x : List ℕ) (names : Names) → AreOther x names → (p q : Place) → AgreeAt x p q → AgreeAt x (with_names names p) (with_names names q)
unfolding with_names AreOther
names-agree x [] other p q a = a
names-agree x (name ∷ names) other _ _ (agree_at e f a s) =
    names-agree x names other.1 _ _ (place-agrees x _ _ (name-agrees x name e f a other.0 s))

pub carried-agree : (x : List ℕ) (inside : Names) (p q : Place) → AgreeAt x p q → AgreeAt x (carried inside p) (carried inside q)
carried-agree x inside _ _ (agree_at e f a s) = agree_at _ _ (agree-narrowed x inside e f a) s

-- ---- names of texts

pub other-append : (x : List ℕ) (names more : Names) → AreOther x names → AreOther x more → AreOther x (names ++ more)
unfolding AreOther
other-append x [] more a b = b
other-append x (name ∷ names) more a b = (a.0, other-append x names more a.1 b)

pub other-filter : (x : List ℕ) (f : List ℕ → Bool) (names : Names) → AreOther x names → AreOther x (filter f names)
unfolding AreOther
other-filter x f [] a = tt
other-filter x f (name ∷ names) a = tested (f name) (other-filter x f names a.1)
  where
    tested : (b : Bool) → AreOther x (filter f names) → AreOther x (cond b (name ∷ filter f names) (filter f names))
    tested true rest = (a.0, rest)
    tested false rest = rest

other-one : (x : List ℕ) (before : Names) (name : List ℕ) (b : Bool) → AreOther x before → IsOther x name → AreOther x (cond b before (before ++ name ∷ []))
unfolding AreOther
other-one x before name true a other = a
other-one x before name false a other = other-append x before (name ∷ []) a (other, tt)

pub other-behind : (x : List ℕ) (before names : Names) → AreOther x before → AreOther x names → AreOther x (behind before names)
unfolding behind AreOther
other-behind x before [] a b = a
other-behind x before (name ∷ names) a b = other-behind x (with_one before name) names (other-one x before name (is_blank name || is_among before name) a b.0) b.1

mutual
  unfolding places places_all places_of_branches AreOther Lacks LackAll LackBranches

  pub lacks-places : (x : List ℕ) (e : ExpTree) → Lacks x e → AreOther x (places e)
  lacks-places x (var name) h = (h, tt)
  lacks-places x (int n) h = tt
  lacks-places x (atom name) h = tt
  lacks-places x (str text) h = tt
  lacks-places x (list es) h = lacks-all-places x es h
  lacks-places x (list_onto es e) h = other-append x (places_all es) (places e) (lacks-all-places x es h.0) (lacks-places x e h.1)
  lacks-places x (array es) h = lacks-all-places x es h
  lacks-places x (call name es) h = lacks-all-places x es h
  lacks-places x (quote e) h = lacks-places x e h
  lacks-places x (index e es) h = other-append x (places e) (places_all es) (lacks-places x e h.0) (lacks-all-places x es h.1)
  lacks-places x (range first last) h = other-append x (places first) (places last) (lacks-places x first h.0) (lacks-places x last h.1)
  lacks-places x (range_by first step last) h =
      other-append x (places first) (places step ++ places last) (lacks-places x first h.0) (other-append x (places step) (places last) (lacks-places x step h.1) (lacks-places x last h.2))
  lacks-places x (at name e) h = (h.0, lacks-places x e h.1)
  lacks-places x (collect is_array e es) h = tt
  lacks-places x (and es) h = lacks-all-places x es h
  lacks-places x (or es) h = lacks-all-places x es h
  lacks-places x (arrow c e) h = other-append x (places c) (places e) (lacks-places x c h.0) (lacks-places x e h.1)
  lacks-places x (if_then bs) h = lacks-branch-places x bs h
  lacks-places x (if_else bs e) h = other-append x (places_of_branches bs) (places e) (lacks-branch-places x bs h.0) (lacks-places x e h.1)
  lacks-places x (foreach es e) h = tt
  lacks-places x (while_do c e) h = tt
  lacks-places x (do_while e c) h = tt

  pub lacks-all-places : (x : List ℕ) (es : ExpTrees) → LackAll x es → AreOther x (places_all es)
  lacks-all-places x no_exps h = tt
  lacks-all-places x (exp e es) h = other-append x (places e) (places_all es) (lacks-places x e h.0) (lacks-all-places x es h.1)

  pub lacks-branch-places : (x : List ℕ) (bs : ExpBranches) → LackBranches x bs → AreOther x (places_of_branches bs)
  lacks-branch-places x no_branches h = tt
  lacks-branch-places x (branch c e bs) h =
      other-append x (places c) (places e ++ places_of_branches bs) (lacks-places x c h.0) (other-append x (places e) (places_of_branches bs) (lacks-places x e h.1) (lacks-branch-places x bs h.2))

pub lacks-behind : (x : List ℕ) (es : ExpTrees) → LackAll x es → AreOther x (places_behind es)
unfolding AreOther LackAll
lacks-behind x no_exps h = tt
lacks-behind x (exp e es) h = lacks-all-places x es h.1

either-other : (x : List ℕ) (c : Bool) (names : Names) → AreOther x names → AreOther x (cond c names [])
unfolding AreOther
either-other x true names h = h
either-other x false names h = tt

pub lacks-caught : (x name : List ℕ) (es : ExpTrees) → LackAll x es → AreOther x (places_caught name es)
unfolding AreOther LackAll places_caught
lacks-caught x name no_exps h = tt
lacks-caught x name (exp e no_exps) h = tt
lacks-caught x name (exp e (exp ball no_exps)) h = tt
lacks-caught x name (exp e (exp ball (exp handler no_exps))) h = either-other x (bytes_eq name (codes "catch")) (places ball) (lacks-places x ball h.1.0)
lacks-caught x name (exp e (exp ball (exp handler (exp f es)))) h = tt

first-other : (x : List ℕ) (es : ExpTrees) → LackAll x es → AreOther x (the_name (variable_first es))
unfolding AreOther LackAll Lacks
first-other x (exp (var name) es) h = (h.0, tt)
first-other x es h = tt

cond-other : (x : List ℕ) (b : Bool) (names : Names) → AreOther x names → AreOther x (cond b names [])
unfolding AreOther
cond-other x true names h = h
cond-other x false names h = tt

mutual
  unfolding assigned assigned_all assigned_in_branches AreOther Lacks LackAll LackBranches

  pub lacks-assigned : (x : List ℕ) (e : ExpTree) → Lacks x e → AreOther x (assigned e)
  lacks-assigned x (call name es) h = cond-other x (bytes_eq name (codes ":=")) (the_name (variable_first es)) (first-other x es h)
  lacks-assigned x (and es) h = lacks-all-assigned x es h
  lacks-assigned x (or es) h = lacks-all-assigned x es h
  lacks-assigned x (arrow c e) h = lacks-assigned x e h.1
  lacks-assigned x (if_then bs) h = lacks-branch-assigned x bs h
  lacks-assigned x (if_else bs e) h = other-append x (assigned_in_branches bs) (assigned e) (lacks-branch-assigned x bs h.0) (lacks-assigned x e h.1)
  lacks-assigned x (foreach es e) h = other-filter x (λ name. not (is_among (patterns_of es) name)) (assigned e) (lacks-assigned x e h.1)
  lacks-assigned x (while_do c e) h = lacks-assigned x e h.1
  lacks-assigned x (do_while e c) h = lacks-assigned x e h.0
  lacks-assigned x e h = tt

  lacks-all-assigned : (x : List ℕ) (es : ExpTrees) → LackAll x es → AreOther x (assigned_all es)
  lacks-all-assigned x no_exps h = tt
  lacks-all-assigned x (exp e es) h = other-append x (assigned e) (assigned_all es) (lacks-assigned x e h.0) (lacks-all-assigned x es h.1)

  lacks-branch-assigned : (x : List ℕ) (bs : ExpBranches) → LackBranches x bs → AreOther x (assigned_in_branches bs)
  lacks-branch-assigned x no_branches h = tt
  lacks-branch-assigned x (branch c e bs) h = other-append x (assigned e) (assigned_in_branches bs) (lacks-assigned x e h.1) (lacks-branch-assigned x bs h.2)

pub other-kept : (x : List ℕ) (before : Names) (us : ExpTrees) (names : Names) → AreOther x names → AreOther x (kept_names before us names)
unfolding AreOther
other-kept x before us names h =
    other-filter x (is_among before) (behind [] (without names (patterns_of us)))
    (other-behind x [] (without names (patterns_of us)) tt (other-filter x (λ name. not (is_among (patterns_of us) name)) names h))

pub other-shared : (x : List ℕ) (before used : Names) → AreOther x before → AreOther x (shared_names before used)
other-shared x before used h = other-filter x (is_among used) before h

pub other-inside : (x : List ℕ) (before : Names) (o : Option ExpTree) (used : Names) → AreOther x before → AreOther x (names_inside before o used)
other-inside x before None used h = h
other-inside x before (Some e) used h = other-filter x (λ name. not (is_among (places e) name)) (shared_names before used) (other-shared x before used h)

pub lacks-unit : (x : List ℕ) (u : ExpTree) → Lacks x u → (o : Option ExpTree) → ((e : ExpTree) → o ≡ Some e → Lacks x e) → AreOther x (unit_places o u)
lacks-unit x u h None part = lacks-places x u h
lacks-unit x u h (Some e) part = lacks-places x e (part e refl)
