-- Comprehensions of a text: what their loops leave, and the name of what is gathered.
use Rattle.std.proofs.Common.{◌≡◌, Bool, true, false, cond, [], ◌∷◌, ◌++◌, filter, refl, sym, ◌∙◌, ap, subst}
use Rattle.std.specs.Prelude.{Option, Some, None, is_some, not, ◌||◌}
use Rattle.std.specs.Str.{bytes_eq}
use Rattle.std.proofs.lemmas.Bool.{false≢true}
use Rattle.pi_syntax.specs.ExpTree.{ExpTree, ExpTrees, no_exps, exp}
use Rattle.pi_meaning.specs.Shared.Level.{Level}
use Rattle.pi_meaning.specs.Shared.Given.{Setting}
use Rattle.pi_meaning.specs.OverNames.Texts.{Names, is_among, is_blank, behind, occurring_all, iterated, unit_places, begins_with_iterator, patterns_of, shared_names, names_inside, kept_names}
use Rattle.pi_meaning.specs.OverNames.Control.{Goal}
use Rattle.pi_meaning.specs.OverNames.Loops.{Finish, as_it_is, unit, iterating, turning, hidden, names_around}
use Rattle.pi_meaning.specs.OverNames.Goals.{goal_of, units_of, collection_of}
use Rattle.pi_meaning.proofs.OverNames.LoopNames.{among-append, Within, AreNamed, within-filter}
use Rattle.pi_rewrite_spec.proofs.AgreeLemmas.{text_same}
use Rattle.pi_rewrite_laws.proofs.HelperLemmas.{AreAmong}
use Rattle.pi_rewrite_laws.proofs.ComprehensionLemmas.{LeavesNames}
use Rattle.pi_rewrite_laws.proofs.LeaveLemmas.{iterating-leaves, turning-leaves}

-- ---- the name

last-true : (a b : Bool) → b ≡ true → a || b ≡ true
last-true true b h = refl
last-true false b h = h

-- it stands before the loop
pub hidden-before : (before : Names) → is_among (before ++ hidden ∷ []) hidden ≡ true
hidden-before before = among-append before (hidden ∷ []) hidden ∙ last-true (is_among before hidden) true refl

pub hidden-named : (before : Names) → AreNamed before → AreNamed (before ++ hidden ∷ [])
hidden-named before named name is = go (is_among before name) refl (sym (among-append before (hidden ∷ []) name) ∙ is)
  where
    last : (b : Bool) → bytes_eq name hidden ≡ b → b || false ≡ true → is_blank name ≡ false
    last true same h = ap is_blank (text_same name hidden same)
    last false other h = absurd (false≢true h)

    go : (a : Bool) → is_among before name ≡ a → a || (bytes_eq name hidden || false) ≡ true → is_blank name ≡ false
    go true among h = named name among
    go false other h = last (bytes_eq name hidden) refl h

-- it is assigned, and occurs
pub hidden-within : (names : Names) → Within (hidden ∷ []) (hidden ∷ names)
hidden-within names name is = go (bytes_eq name hidden) is
  where
    go : (b : Bool) → b || false ≡ true → b || is_among names name ≡ true
    go true h = refl
    go false h = absurd (false≢true h)

pub hidden-stands : (before : Names) → AreAmong (before ++ hidden ∷ []) (hidden ∷ [])
unfolding AreAmong
hidden-stands before = (hidden-before before, refl, tt)

pub hidden-shared : (before more names : Names) → AreAmong (shared_names (before ++ hidden ∷ []) (more ++ hidden ∷ names)) (hidden ∷ [])
unfolding AreAmong
hidden-shared before more names = (
  within-filter (is_among (more ++ hidden ∷ names)) (before ++ hidden ∷ []) hidden (hidden-before before) (among-append more (hidden ∷ names) hidden ∙ last-true (is_among more hidden) true refl),
  refl,
  tt,
)

-- and the loop keeps it, where no pattern has it
pub kept-hidden : (before : Names) (us : ExpTrees) → is_among (patterns_of us) hidden ≡ false → kept_names (before ++ hidden ∷ []) us (hidden ∷ []) ≡ hidden ∷ []
unfolding behind
kept-hidden before us out =
    ap (λ (c : Bool). filter (is_among (before ++ hidden ∷ [])) (behind [] (cond (not c) (hidden ∷ []) []))) out
    ∙ ap (λ (c : Bool). cond c (hidden ∷ []) []) (hidden-before before)

-- ---- what its loop leaves

-- where it begins with an iterator
first-leaves : (set : Setting) (finish : Finish) (before used : Names) (us : ExpTrees) (body : Names → Goal) → begins_with_iterator us ≡ true → is_among (patterns_of us) hidden ≡ false → (m : Level) →
    LeavesNames m (before ++ hidden ∷ []) (units_of set finish (before ++ hidden ∷ []) (hidden ∷ []) used us body)
unfolding units_of
first-leaves set finish before used no_exps body begins out m = absurd (false≢true begins)
first-leaves set finish before used (exp u us) body begins out m = go (iterated u) begins
  where
    all : Names
    all = before ++ hidden ∷ []

    inside : Option ExpTree → Names
    inside o = names_inside (before ++ hidden ∷ []) o (occurring_all us ++ used)

    rest : Option ExpTree → Goal
    rest o = units_of set as_it_is (behind (names_inside (before ++ hidden ∷ []) o (occurring_all us ++ used)) (unit_places o u)) (hidden ∷ []) used us body

    go : (o : Option ExpTree) → is_some o ≡ true → LeavesNames m (before ++ hidden ∷ []) (unit (names_around finish (before ++ hidden ∷ []) (inside o) (kept_names (before ++ hidden ∷ []) (exp u us) (hidden ∷ []))) o (collection_of set (before ++ hidden ∷ []) u) (goal_of set (before ++ hidden ∷ []) u) (rest o))
    go None some = absurd (false≢true some)
    go (Some e) some =
        subst (λ (kept : Names). LeavesNames m all (iterating (names_around finish all (inside (Some e)) kept) e (collection_of set all u) (rest (Some e)))) (sym (kept-hidden before (exp u us) out))
        (iterating-leaves finish all (inside (Some e)) e (collection_of set all u) (rest (Some e)) m)

pub started-leaves : (set : Setting) (finish : Finish) (before used inside : Names) (us : ExpTrees) (body : Names → Goal) (turns : Goal) (begins : Bool) → begins_with_iterator us ≡ begins → is_among (patterns_of us) hidden ≡ false → (m : Level) →
    LeavesNames m (before ++ hidden ∷ []) (cond begins (units_of set finish (before ++ hidden ∷ []) (hidden ∷ []) used us body) (turning (names_around finish (before ++ hidden ∷ []) inside (hidden ∷ [])) turns))
started-leaves set finish before used inside us body turns true is out m = first-leaves set finish before used us body is out m
started-leaves set finish before used inside us body turns false is out m = turning-leaves finish (before ++ hidden ∷ []) inside turns m
