-- What the laws of loops ask of names holds of those of a text.
use Rattle.std.proofs.Common.{◌≡◌, ℕ, Bool, true, false, List, [], ◌∷◌, ◌++◌, refl, sym, ◌∙◌, ap}
use Rattle.std.specs.Prelude.{Option, Some, None, is_some, ◌||◌}
use Rattle.std.specs.Str.{bytes_eq}
use Rattle.std.proofs.lemmas.Bool.{true≢false}
use Rattle.pi_syntax.specs.ExpTree.{ExpTree, var, list, list_onto, array, call, quote, range, range_by, at, ExpTrees, no_exps, exp}
use Rattle.pi_meaning.specs.OverNames.Texts.{Names, is_among, places, places_all, patterns_of, shared_names, names_inside, kept_names}
use Rattle.pi_meaning.proofs.OverNames.LoopNames.{among-append, Within, AreNamed, kept-is, kept-shared, kept-inside, shared-before, inside-before, inside-apart}
use Rattle.pi_rewrite_spec.specs.Slots.{SlotNames, slot_of, slot_known, slots_with, slots_for}
use Rattle.pi_rewrite_spec.specs.Values.{slot_pattern, slot_patterns}
use Rattle.pi_rewrite_spec.specs.Loops.{Loop}
use Rattle.pi_rewrite_spec.proofs.AgreeLemmas.{text_itself}
use Rattle.pi_rewrite_spec.proofs.EnteredLemmas.{among-slot}
use Rattle.pi_rewrite_spec.proofs.CarriedLemmas.{Apart}
use Rattle.pi_rewrite_laws.proofs.HelperLemmas.{AreAmong}
use Rattle.pi_rewrite_laws.proofs.ElementLemmas.{turn_front, front-slot}

-- ---- names that are among others

pub all-among : (more names : Names) → Within names more → AreNamed names → AreAmong more names
unfolding AreAmong
all-among more [] within named = tt
all-among more (name ∷ names) within named =
    (within name first, named name first, all-among more names (λ n is. within n (later n is)) (λ n is. named n (later n is)))
  where
    first : bytes_eq name name || is_among names name ≡ true
    first = ap (λ (b : Bool). b || is_among names name) (text_itself name)

    later : (n : List ℕ) → is_among names n ≡ true → bytes_eq n name || is_among names n ≡ true
    later n is = ap (λ (b : Bool). bytes_eq n name || b) is ∙ any (bytes_eq n name)
      where
        any : (b : Bool) → b || true ≡ true
        any true = refl
        any false = refl

-- what is handed on stands before, and so does what is kept
pub shared-among : (before used : Names) → AreNamed before → AreAmong before (shared_names before used)
shared-among before used named = all-among before (shared_names before used) (shared-before before used) (λ name is. named name (shared-before before used name is))

pub inside-among : (before : Names) (o : Option ExpTree) (used : Names) → AreNamed before → AreAmong before (names_inside before o used)
inside-among before o used named = all-among before (names_inside before o used) (inside-before before o used) (λ name is. named name (inside-before before o used name is))

pub kept-before : (before : Names) (us : ExpTrees) (names : Names) → AreAmong before (kept_names before us names)
kept-before before us names = all-among before (kept_names before us names) (λ name is. (kept-is before us names name is).stands) (λ name is. (kept-is before us names name is).named)

pub kept-among : (before : Names) (us : ExpTrees) (names used : Names) → Within names used → AreAmong (shared_names before used) (kept_names before us names)
kept-among before us names used within = all-among (shared_names before used) (kept_names before us names) (kept-shared before us names used within) (λ name is. (kept-is before us names name is).named)

pub kept-among-inside : (before : Names) (u : ExpTree) (us : ExpTrees) (e : ExpTree) (names used : Names) → Within names used → ((name : List ℕ) → is_among (patterns_of (exp u us)) name ≡ false → is_among (places e) name ≡ false) →
    AreAmong (names_inside before (Some e) used) (kept_names before (exp u us) names)
kept-among-inside before u us e names used within apart =
    all-among (names_inside before (Some e) used) (kept_names before (exp u us) names) (kept-inside before u us e names used within apart) (λ name is. (kept-is before (exp u us) names name is).named)

-- ---- names of patterns

-- names with slots behind a pattern have them before it, or stand in it
abbrev NewIn : SlotNames → Names → SlotNames → Type 0
NewIn ns names ms = (name : List ℕ) → is_among ms name ≡ true → is_among ns name || is_among names name ≡ true

new-none : (ns : SlotNames) (names : Names) → NewIn ns names ns
new-none ns names name is = ap (λ (b : Bool). b || is_among names name) is

new-then : (ns ms ks : SlotNames) (a b : Names) → NewIn ns a ms → NewIn ms b ks → NewIn ns (a ++ b) ks
new-then ns ms ks a b f g name is = go (is_among ms name) refl (g name is)
  where
    first : (x y z : Bool) → x || y ≡ true → x || (y || z) ≡ true
    first true y z h = refl
    first false true z h = refl
    first false false z h = absurd (true≢false (sym h))

    last : (x y z : Bool) → z ≡ true → x || (y || z) ≡ true
    last true y z h = refl
    last false true z h = refl
    last false false z h = h

    go : (c : Bool) → is_among ms name ≡ c → c || is_among b name ≡ true → is_among ns name || is_among (a ++ b) name ≡ true
    go true here h = ap (λ (x : Bool). is_among ns name || x) (among-append a b name) ∙ first (is_among ns name) (is_among a name) (is_among b name) (f name here)
    go false here h = ap (λ (x : Bool). is_among ns name || x) (among-append a b name) ∙ last (is_among ns name) (is_among a name) (is_among b name) h

new-for : (name : List ℕ) (ns : SlotNames) → NewIn ns (name ∷ []) (slots_for name ns)
new-for name ns n is = go (slot_known name ns) is
  where
    go : (o : Option ℕ) → is_among (slots_with o name ns) n ≡ true → is_among ns n || is_among (name ∷ []) n ≡ true
    go None h = sym (among-append ns (name ∷ []) n) ∙ h
    go (Some k) h = new-none ns (name ∷ []) n h

mutual
  unfolding slot_pattern places

  pattern-new : (e : ExpTree) (ns : SlotNames) → NewIn ns (places e) (slot_pattern e ns).names
  pattern-new (var name) ns = new-for name ns
  pattern-new (list es) ns = patterns-new es ns
  pattern-new (list_onto es e) ns = new-then ns (slot_patterns es ns).names _ (places_all es) (places e) (patterns-new es ns) (pattern-new e (slot_patterns es ns).names)
  pattern-new (array es) ns = patterns-new es ns
  pattern-new (call name es) ns = patterns-new es ns
  pattern-new (quote e) ns = pattern-new e ns
  pattern-new (range first last) ns = new-then ns (slot_pattern first ns).names _ (places first) (places last) (pattern-new first ns) (pattern-new last (slot_pattern first ns).names)
  pattern-new (range_by first step last) ns =
      let ms : SlotNames = (slot_pattern first ns).names in
      new-then ns ms _ (places first) (places step ++ places last) (pattern-new first ns) (new-then ms (slot_pattern step ms).names _ (places step) (places last) (pattern-new step ms) (pattern-new last (slot_pattern step ms).names))
  pattern-new (at name e) ns = new-then ns (slots_for name ns) _ (name ∷ []) (places e) (new-for name ns) (pattern-new e (slots_for name ns))
  pattern-new e ns = new-none ns (places e)

  patterns-new : (es : ExpTrees) (ns : SlotNames) → NewIn ns (places_all es) (slot_patterns es ns).names
  patterns-new no_exps ns = new-none ns []
  patterns-new (exp e es) ns = new-then ns (slot_pattern e ns).names _ (places e) (places_all es) (pattern-new e ns) (patterns-new es (slot_pattern e ns).names)

-- no name that an iterator hands on has a slot of its pattern
pub pattern-apart : (w : Loop) (before : Names) (e : ExpTree) (used : Names) → w.shared ≡ names_inside before (Some e) used → Apart w (turn_front (slot_pattern e []))
pattern-apart w before e used is name named k found = front-slot (slot_pattern e []) name named ∙ go (slot_of name (slot_pattern e []).names) refl
  where
    shared : is_among (names_inside before (Some e) used) name ≡ true
    shared = ap (λ (ns : Names). is_among ns name) (sym is) ∙ among-slot name w.shared ∙ ap is_some found

    go : (o : Option ℕ) → slot_of name (slot_pattern e []).names ≡ o → o ≡ None
    go None here = refl
    go (Some j) here =
        absurd (true≢false (sym (pattern-new e [] name (among-slot name (slot_pattern e []).names ∙ ap is_some here)) ∙ inside-apart before e used name shared))
