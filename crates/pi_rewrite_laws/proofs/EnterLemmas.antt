-- A loop is entered: names that stand before it are handed on, variables are made for those that it keeps, and behind it these stand for them.
use Rattle.std.proofs.Common.{◌≡◌, ℕ, suc, ◌+◌, ◌≤◌, ◌<◌, Bool, true, false, cond, List, [], ◌∷◌, ◌++◌, length, map, refl, sym, ◌∙◌, ap, subst, arith, length-append, append_assoc}
use Rattle.std.specs.Prelude.{Option, Some, None, option_and_then, option_map, IsSome, is_some, slice_set, ◌==◌, ◌||◌, ⊤, unwrap_or}
use Rattle.std.specs.Str.{bytes_eq}
use Rattle.std.proofs.lemmas.Bool.{true≢false}
use Rattle.std.proofs.lemmas.Bool.Decides.{Decides-eqb}
use Rattle.std.proofs.lemmas.List.{get_or-set_same}
use Rattle.pi_terms.specs.Tree.{Tree, trees_of}
use Rattle.pi_terms.specs.Places.{Places, held}
use Rattle.pi_constraints.specs.State.{State, next, with_new}
use Rattle.pi_constraints.specs.Evaluation.{Evaluated, slot_term, evaluated, evaluated_all, with_new_variables}
use Rattle.pi_constraints.proofs.KeepsLemmas.{new-next}
use Rattle.pi_meaning.specs.OverNames.Environment.{Environment, meant, known, name_valued}
use Rattle.pi_meaning.specs.OverNames.Place.{Place}
use Rattle.pi_meaning.specs.OverNames.Texts.{Names, is_among}
use Rattle.pi_meaning.specs.OverNames.Assigning.{place_of, with_names, narrowed}
use Rattle.pi_meaning.specs.OverNames.Loops.{now}
use Rattle.pi_rewrite_spec.specs.Slots.{SlotNames, unnamed, slot_of, slot_known, slot_or_next, slot_for, with_value}
use Rattle.pi_rewrite_spec.specs.Loops.{slots_from, slots_for_names, with_values, Loop, loop_slots}
use Rattle.pi_rewrite_spec.proofs.FilledLemmas.{Filled, in_slot, term_at, terms_at, in_front_of, filled-comes}
use Rattle.pi_rewrite_spec.proofs.AgreeLemmas.{Room, text_itself, text_same, or_last, slot-below, Agrees, agrees-known, meant-more, set-other, agrees-value}
use Rattle.pi_rewrite_spec.proofs.NewNameLemmas.{from_known}
use Rattle.pi_rewrite_spec.proofs.LoopLemmas.{InSlots}
use Rattle.pi_rewrite_spec.proofs.HandedLemmas.{entered, some-again}
use Rattle.pi_rewrite_spec.proofs.EnteredLemmas.{values-long, among-slot, variables_from, helper_room, entered-agrees}
use Rattle.pi_rewrite_laws.proofs.HelperLemmas.{AreAmong}

-- ---- names that stand before a loop are there

valued-keeps : (o : Option Tree) (other : List ℕ) (e : Environment) (s : State) (name : List ℕ) → IsSome (meant name e) → IsSome (meant name (name_valued o other e s).names)
valued-keeps (Some t) other e s name is = is
valued-keeps None other e s name is = subst (λ (o : Option Tree). IsSome o) (sym (meant-more name e other (Tree.var (next s)))) (first (meant name e) is)
  where
    first : (o : Option Tree) → IsSome o → IsSome (or_last o (cond (bytes_eq name other) (Some (Tree.var (next s))) None))
    first None is = absurd cc
    first (Some t) is = refl

valued-there : (name : List ℕ) (e : Environment) (s : State) → bytes_eq name unnamed ≡ false → IsSome (meant name (name_valued (known name e) name e s).names)
valued-there name e s named = go (meant name e) refl
  where
    go : (o : Option Tree) → meant name e ≡ o → IsSome (meant name (name_valued (known name e) name e s).names)
    go (Some t) is =
        subst (λ (k : Option Tree). IsSome (meant name (name_valued k name e s).names)) (sym (ap (λ (c : Bool). cond c None (meant name e)) named ∙ is)) (subst (λ (o : Option Tree). IsSome o) (sym is) refl)
    go None is =
        subst (λ (k : Option Tree). IsSome (meant name (name_valued k name e s).names)) (sym (ap (λ (c : Bool). cond c None (meant name e)) named ∙ is))
        (subst (λ (o : Option Tree). IsSome o) (sym (meant-more name e name (Tree.var (next s)) ∙ ap (λ (o : Option Tree). or_last o (cond (bytes_eq name name) (Some (Tree.var (next s))) None)) is ∙ ap (λ (c : Bool). cond c (Some (Tree.var (next s))) None) (text_itself name))) refl)

names-keep : (names : Names) (p : Place) (name : List ℕ) → IsSome (meant name p.names) → IsSome (meant name (with_names names p).names)
unfolding with_names
names-keep [] p name is = is
names-keep (other ∷ names) p name is = names-keep names (place_of (name_valued (known other p.names) other p.names p.state)) name (valued-keeps (known other p.names) other p.names p.state name is)

-- each of some names is there
abbrev pub AllThere : Names → Environment → Type 0
AllThere names e = (name : List ℕ) → is_among names name ≡ true → bytes_eq name unnamed ≡ false → IsSome (meant name e)

pub names-there : (names : Names) (p : Place) → AllThere names (with_names names p).names
unfolding with_names
names-there [] p name among named = absurd (true≢false (sym among))
names-there (other ∷ names) p name among named = tested (λ is. names-there names (place_of (name_valued (known other p.names) other p.names p.state)) name is named) (bytes_eq name other) refl among
  where
    after : Place
    after = place_of (name_valued (known other p.names) other p.names p.state)

    tested : (is_among names name ≡ true → IsSome (meant name (with_names names after).names)) → (b : Bool) → bytes_eq name other ≡ b → b || is_among names name ≡ true → IsSome (meant name (with_names names after).names)
    tested later false apart is = later is
    tested later true same is =
        names-keep names after name (subst (λ (x : List ℕ). IsSome (meant name (name_valued (known x p.names) x p.names p.state).names)) (text_same name other same) (valued-there name p.names p.state named))

-- ---- arguments

-- terms whose slots are filled, and what they are
unfoldable pub AreFilled : Places → List Tree → List Tree → Type 0
AreFilled f [] [] = ⊤
AreFilled f [] (u ∷ us) = ⊥
AreFilled f (x ∷ xs) [] = ⊥
AreFilled f (x ∷ xs) (u ∷ us) = Filled f x u × AreFilled f xs us

filled-in-front : (f g : Places) (xs us ys ws : List Tree) (s r : State) → AreFilled f xs us → evaluated_all (trees_of ys) f s ≡ terms_at (trees_of ws) g r → evaluated_all (trees_of (xs ++ ys)) f s ≡ terms_at (trees_of (us ++ ws)) g r
unfolding AreFilled evaluated
filled-in-front f g [] [] ys ws s r are is = is
filled-in-front f g [] (u ∷ us) ys ws s r are is = absurd are
filled-in-front f g (x ∷ xs) [] ys ws s r are is = absurd are
filled-in-front f g (x ∷ xs) (u ∷ us) ys ws s r are is =
    ap (λ (y : Evaluated). in_front_of y (evaluated_all (trees_of (xs ++ ys)) y.slots y.state)) (filled-comes f x u are.0 s)
    ∙ ap (in_front_of (term_at u f s)) (filled-in-front f g xs us ys ws s r are.1 is)

-- variables from one on, and the slots that get them
unfoldable pub new_variables : ℕ → Names → List Tree
new_variables base [] = []
new_variables base (name ∷ names) = Tree.var base ∷ new_variables (suc base) names

unfoldable pub made_slots : Names → SlotNames → ℕ → Places → Places
made_slots [] ns base slots = slots
made_slots (name ∷ names) ns base slots = made_slots names (with_value ns) (suc base) (slice_set slots (length ns) (Some (Tree.var base)))

one-longer : (ns : SlotNames) → length (with_value ns) ≡ suc (length ns)
one-longer ns = omega (arith, length-append ns (unnamed ∷ []))

pub variables-come : (names : Names) (n : Room) (h : ℕ) (ns : SlotNames) (e : Environment) (slots : Places) (s : State) → Agrees n h ns e slots →
    evaluated_all (trees_of (slots_from (length ns) (length names))) slots s ≡ terms_at (trees_of (new_variables (next s) names)) (made_slots names ns (next s) slots) (with_new_variables (length names) s)
unfolding slots_from new_variables made_slots evaluated with_new_variables
variables-come [] n h ns e slots s a = refl
variables-come (name ∷ names) n h ns e slots s a =
    ap (λ (y : Evaluated). in_front_of y (evaluated_all (trees_of (slots_from (suc (length ns)) (length names))) y.slots y.state)) (ap (λ (o : Option Tree). slot_term o (length ns) slots s) (a.empty (length ns) (omega arith)))
    ∙ ap (λ (k : ℕ). in_front_of (record { tree = Tree.var (next s); slots = filled; state = with_new s }) (evaluated_all (trees_of (slots_from k (length names))) filled (with_new s))) (sym (one-longer ns))
    ∙ ap (in_front_of (record { tree = Tree.var (next s); slots = filled; state = with_new s })) (variables-come names n h (with_value ns) e filled (with_new s) (agrees-value n h ns e slots (Tree.var (next s)) a))
    ∙ ap (λ (k : ℕ). in_front_of (record { tree = Tree.var (next s); slots = filled; state = with_new s }) (terms_at (trees_of (new_variables k names)) (made_slots names (with_value ns) k filled) (with_new_variables (length names) (with_new s)))) (new-next s)
  where
    filled : Places
    filled = slice_set slots (length ns) (Some (Tree.var (next s)))

pub variables-agree : (names : Names) (n : Room) (h base : ℕ) (ns : SlotNames) (e : Environment) (slots : Places) → Agrees n h ns e slots → Agrees n h (with_values names ns) e (made_slots names ns base slots)
unfolding made_slots with_values
variables-agree [] n h base ns e slots a = a
variables-agree (name ∷ names) n h base ns e slots a = variables-agree names n h (suc base) (with_value ns) e (slice_set slots (length ns) (Some (Tree.var base))) (agrees-value n h ns e slots (Tree.var base) a)

made-other : (names : Names) (ns : SlotNames) (base : ℕ) (slots : Places) (i : ℕ) → i < length ns → held (made_slots names ns base slots) i ≡ held slots i
unfolding made_slots
made-other [] ns base slots i less = refl
made-other (name ∷ names) ns base slots i less =
    made-other names (with_value ns) (suc base) (slice_set slots (length ns) (Some (Tree.var base))) i (omega (arith, less, one-longer ns)) ∙ set-other slots (length ns) (Some (Tree.var base)) i (λ same. omega (arith, less, same))

pub variables-stand : (names : Names) (n : Room) (h base : ℕ) (ns : SlotNames) (e : Environment) (slots : Places) → Agrees n h ns e slots → length (with_values names ns) ≤ n.slots → InSlots names (length ns) base (made_slots names ns base slots)
unfolding made_slots with_values InSlots
variables-stand [] n h base ns e slots a room = tt
variables-stand (name ∷ names) n h base ns e slots a room = (
  made-other names (with_value ns) (suc base) (slice_set slots (length ns) (Some (Tree.var base))) (length ns) (omega (arith, one-longer ns))
      ∙ get_or-set_same slots (length ns) (Some (Tree.var base)) None (omega (arith, room, a.long, values-long names (with_value ns), one-longer ns)),
  subst (λ (k : ℕ). InSlots names k (suc base) (made_slots names (with_value ns) (suc base) (slice_set slots (length ns) (Some (Tree.var base))))) (one-longer ns)
      (variables-stand names n h (suc base) (with_value ns) e (slice_set slots (length ns) (Some (Tree.var base))) (agrees-value n h ns e slots (Tree.var base) a) room),
)

-- ---- what is handed on

-- a name that is there has a slot with what it stands for
pub record KnownSlot (name : List ℕ) (ns : SlotNames) (e : Environment) (slots : Places) : Type 0 where
  pub slot : ℕ
  pub is : slot_known name ns ≡ Some slot
  pub below : slot < length ns
  pub holds : held slots slot ≡ Some (now name e)

pub known-slot : (n : Room) (h : ℕ) (ns : SlotNames) (e : Environment) (slots : Places) → Agrees n h ns e slots → (name : List ℕ) → bytes_eq name unnamed ≡ false → IsSome (meant name e) → KnownSlot name ns e slots
known-slot n h ns e slots a name named there = go (slot_known name ns) refl
  where
    found : meant name e ≡ option_and_then (held slots) (slot_known name ns)
    found = sym (ap (λ (c : Bool). cond c None (meant name e)) named) ∙ agrees-known n h ns e slots a name

    go : (o : Option ℕ) → slot_known name ns ≡ o → KnownSlot name ns e slots
    go None is = absurd (nothing (meant name e) there (found ∙ ap (option_and_then (held slots)) is))
      where
        nothing : (o : Option Tree) → IsSome o → o ≡ None → ⊥
        nothing None some none = absurd cc
        nothing (Some t) some none = absurd (cc none)
    go (Some k) is = record {
      slot = k;
      is = is;
      below = slot-below name ns k (from_known (bytes_eq name unnamed) (slot_of name ns) k is);
      holds = sym (found ∙ ap (option_and_then (held slots)) is) ∙ some-again (meant name e) there;
    }

-- what names have
abbrev pub values_now : Names → Environment → List Tree
values_now names e = map (λ name. now name e) names

names-filled : (n : Room) (h : ℕ) (ns : SlotNames) (e : Environment) (slots : Places) → Agrees n h ns e slots → (before names : Names) → AreAmong before names → AllThere before e → AreFilled slots (slots_for_names names ns) (values_now names e)
unfolding AreFilled AreAmong
names-filled n h ns e slots a before [] among there = tt
names-filled n h ns e slots a before (name ∷ names) among there =
    let k : KnownSlot name ns e slots = known-slot n h ns e slots a name among.1 (there name among.0 among.1) in
    (in_slot (slot_for name ns) (now name e) (ap (λ (o : Option ℕ). held slots (slot_or_next o ns)) k.is ∙ k.holds), names-filled n h ns e slots a before names among.2 there)

-- where a name stands among those, its value does
pub values-stand : (names : Names) (e : Environment) (more : List Tree) (name : List ℕ) (k : ℕ) → slot_of name names ≡ Some k → held (map Some (values_now names e ++ more)) k ≡ Some (now name e)
unfolding slot_of
values-stand [] e more name k is = absurd (cc is)
values-stand (other ∷ names) e more name k is = tested (λ j at. values-stand names e more name j at) (bytes_eq name other) refl (slot_of name names) refl is
  where
    some : {i j : ℕ} → Some i ≡ Some j → i ≡ j
    some h = ap (λ (o : Option ℕ). unwrap_or o 0) h

    tested : ((j : ℕ) → slot_of name names ≡ Some j → held (map Some (values_now names e ++ more)) j ≡ Some (now name e)) → (b : Bool) → bytes_eq name other ≡ b → (o : Option ℕ) → slot_of name names ≡ o →
        cond b (Some 0) (option_map (λ j. suc j) o) ≡ Some k → held (Some (now other e) ∷ map Some (values_now names e ++ more)) k ≡ Some (now name e)
    tested rest true same o at found =
        ap (held (Some (now other e) ∷ map Some (values_now names e ++ more))) (sym (some found)) ∙ ap (λ (x : List ℕ). Some (now x e)) (sym (text_same name other same))
    tested rest false apart None at found = absurd (cc found)
    tested rest false apart (Some j) at found = ap (held (Some (now other e) ∷ map Some (values_now names e ++ more))) (sym (some found)) ∙ rest j at

seam-held : (us : List Tree) (x : Tree) (ys : List Tree) → held (map Some (us ++ x ∷ ys)) (length us) ≡ Some x
seam-held [] x ys = refl
seam-held (u ∷ us) x ys = seam-held us x ys

-- and so do the variables behind
pub variables-handed : (us : List Tree) (base : ℕ) (names : Names) (k : ℕ) (t : Tree) → variables_from (length us) base names k ≡ Some t → held (map Some (us ++ new_variables base names)) k ≡ Some t
unfolding variables_from new_variables
variables-handed us base [] k t is = absurd (cc is)
variables-handed us base (name ∷ names) k t is = tested (λ at. variables-handed (us ++ Tree.var base ∷ []) (suc base) names k t at) (k == length us) ((Decides-eqb k (length us)).0) is
  where
    longer : suc (length us) ≡ length (us ++ Tree.var base ∷ [])
    longer = omega (arith, length-append us (Tree.var base ∷ []))

    tested : (variables_from (length (us ++ Tree.var base ∷ [])) (suc base) names k ≡ Some t → held (map Some ((us ++ Tree.var base ∷ []) ++ new_variables (suc base) names)) k ≡ Some t) →
        (b : Bool) → (b ≡ true → k ≡ length us) → cond b (Some (Tree.var base)) (variables_from (suc (length us)) (suc base) names k) ≡ Some t → held (map Some (us ++ Tree.var base ∷ new_variables (suc base) names)) k ≡ Some t
    tested rest true same found = ap (held (map Some (us ++ Tree.var base ∷ new_variables (suc base) names))) (same refl) ∙ seam-held us (Tree.var base) (new_variables (suc base) names) ∙ found
    tested rest false same found =
        ap (λ (vs : List Tree). held (map Some vs) k) (sym (append_assoc us (Tree.var base ∷ []) (new_variables (suc base) names)))
        ∙ rest (ap (λ (j : ℕ). variables_from j (suc base) names k) (sym longer) ∙ found)

pub variables-count : (base : ℕ) (names : Names) → length (new_variables base names) ≡ length names
unfolding new_variables
variables-count base [] = refl
variables-count base (name ∷ names) = ap suc (variables-count (suc base) names)

pub now-count : (names : Names) (e : Environment) → length (values_now names e) ≡ length names
now-count [] e = refl
now-count (name ∷ names) e = ap suc (now-count names e)

-- all that a helper is handed
abbrev pub handed_on : Loop → ℕ → Environment → List Tree
handed_on w base e = values_now w.shared e ++ new_variables base w.kept

pub handed-count : (w : Loop) (base : ℕ) (e : Environment) → length (handed_on w base e) ≡ length (loop_slots w)
handed-count w base e = length-append (values_now w.shared e) (new_variables base w.kept) ∙ omega (arith, now-count w.shared e, variables-count base w.kept, values-long w.kept w.shared)

-- So the first turn begins with what stands there.
pub first-agrees : (w : Loop) (n m base : ℕ) (before : Names) (e : Environment) → n ≡ length (loop_slots w) + m → AreAmong before w.shared → AllThere w.shared e →
    Agrees (helper_room w n base) (length (loop_slots w)) (loop_slots w) (narrowed w.shared e) (entered (handed_on w base e) m)
first-agrees w n m base before e is among there =
    entered-agrees w n m base e (handed_on w base e) (handed-count w base e) (is ∙ ap (λ (k : ℕ). k + m) (sym (handed-count w base e)))
    (λ name named k at. some-again (meant name e) (there name (among-slot name w.shared ∙ ap is_some at) named) ∙ sym (values-stand w.shared e (new_variables base w.kept) name k at))
    (λ k t at. variables-handed (values_now w.shared e) base w.kept k t (ap (λ (j : ℕ). variables_from j base w.kept k) (now-count w.shared e) ∙ at))

-- what the call of the helper evaluates to, behind terms whose slots are filled
pub arguments-come : (w : Loop) (before : Names) (n : Room) (h : ℕ) (ns : SlotNames) (e : Environment) (slots : Places) (s : State) → Agrees n h ns e slots → AreAmong before w.shared → AllThere before e → (xs us : List Tree) → AreFilled slots xs us →
    evaluated_all (trees_of ((xs ++ slots_for_names w.shared ns) ++ slots_from (length ns) (length w.kept))) slots s
    ≡ terms_at (trees_of (us ++ handed_on w (next s) e)) (made_slots w.kept ns (next s) slots) (with_new_variables (length w.kept) s)
arguments-come w before n h ns e slots s a among there xs us filled =
    ap (λ (ts : List Tree). evaluated_all (trees_of ts) slots s) (append_assoc xs (slots_for_names w.shared ns) (slots_from (length ns) (length w.kept)))
    ∙ filled-in-front slots (made_slots w.kept ns (next s) slots) xs us (slots_for_names w.shared ns ++ slots_from (length ns) (length w.kept)) (handed_on w (next s) e) s (with_new_variables (length w.kept) s) filled
    (filled-in-front slots (made_slots w.kept ns (next s) slots) (slots_for_names w.shared ns) (values_now w.shared e) (slots_from (length ns) (length w.kept)) (new_variables (next s) w.kept) s (with_new_variables (length w.kept) s)
    (names-filled n h ns e slots a before w.shared among there) (variables-come w.kept n h ns e slots s a))
