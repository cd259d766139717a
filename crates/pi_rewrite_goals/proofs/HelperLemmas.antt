-- Helpers behind those before, one part after the other.
use Rattle.std.proofs.Common.{◌≡◌, ℕ, ◌+◌, ◌<◌, ◌≤◌, Bool, true, false, ◌&&◌, List, [], ◌++◌, length, get_or, drop, refl, sym, ◌∙◌, ap, append_assoc}
use Rattle.std.proofs.lemmas.List.{append-nil, drop_all}
use Rattle.std.specs.Prelude.{map}
use Rattle.pi_core.specs.CoreTree.{PredTree, pred_tree}
use Rattle.pi_core.specs.declared.core_program.CorePred.{CorePred}
use Rattle.pi_syntax.specs.ExpTree.{ExpTree, ExpTrees, ExpBranches, no_exps, exp, exp_tree}
use Rattle.pi_syntax.specs.Signature.{exp_count}
use Rattle.pi_syntax.specs.ExpLists.{exps_of}
use Rattle.pi_syntax.specs.declared.exp.Exp.{Exp}
use Rattle.pi_meaning.specs.OverNames.Texts.{places, places_all, places_of_branches}
use Rattle.pi_meaning.specs.OverNames.Forms.{Reading, plain, first_reading, later_readings, operand_readings}
use Rattle.pi_rewrite_spec.specs.Values.{stays, is_ranged, is_flat_as, are_flat_as, is_flat, are_flat}
use Rattle.pi_rewrite_spec.proofs.ReadingLemmas.{third-of}
use Rattle.pi_rewrite_spec.specs.Sites.{Site, helpers_in, helpers_in_all, helpers_in_branches, behind_site, behind_exp}
use Rattle.pi_rewrite_spec.specs.Helpers.{value_helpers, all_helpers, goal_helpers, conjunct_helpers, branch_helpers}
use Rattle.pi_rewrite_slots.specs.Branches.{branches_in}
use Rattle.pi_rewrite_slots.proofs.FlatLemmas.{drop-next}
use Rattle.pi_rewrite_sites.proofs.SiteLemmas.{behind-twice}

pub no-helpers : (old hs : List PredTree) → hs ≡ [] → old ≡ old ++ hs
no-helpers old hs is = sym (append-nil old) ∙ ap (λ ps. old ++ ps) (sym is)

pub same-helpers : (old new hs ps : List PredTree) → ps ≡ hs → new ≡ old ++ hs → new ≡ old ++ ps
same-helpers old new hs ps is put = put ∙ ap (λ qs. old ++ qs) (sym is)

pub two-helpers : (old mid new a b hs : List PredTree) → hs ≡ a ++ b → mid ≡ old ++ a → new ≡ mid ++ b → new ≡ old ++ hs
two-helpers old mid new a b hs is first second = second ∙ (ap (λ ps. ps ++ b) first ∙ (append_assoc old a b ∙ ap (λ ps. old ++ ps) (sym is)))

pub three-helpers : (old one two new a b c hs : List PredTree) → hs ≡ a ++ (b ++ c) → one ≡ old ++ a → two ≡ one ++ b → new ≡ two ++ c → new ≡ old ++ hs
three-helpers old one two new a b c hs is first second third = two-helpers old one new a (b ++ c) hs is first (two-helpers one two new b c (b ++ c) refl second third)

-- ---- parts that are gone through from the left

-- what is known of a loop over parts, with the helpers so far and those of the parts that are left
pub record Going (Is : Type 0) (old now : List CorePred) (whole rest : List PredTree) : Type 0 where
  pub is : Is
  pub helpers : map pred_tree now ++ rest ≡ map pred_tree old ++ whole

pub going-more : (old now new whole rest here after : List PredTree) → rest ≡ here ++ after → new ≡ now ++ here → now ++ rest ≡ old ++ whole → new ++ after ≡ old ++ whole
going-more old now new whole rest here after is put so =
    ap (λ ps. ps ++ after) put ∙ (append_assoc now here after ∙ (ap (λ ps. now ++ ps) (sym is) ∙ so))

pub going-end : (old now whole rest : List PredTree) → rest ≡ [] → now ++ rest ≡ old ++ whole → now ≡ old ++ whole
going-end old now whole rest is so = sym (append-nil now) ∙ (ap (λ ps. now ++ ps) (sym is) ∙ so)

pub all-start : (s s' : Site) (es : List Exp) (old : List PredTree) → s' ≡ s → old ++ all_helpers s' (exps_of (drop 0 es)) ≡ old ++ all_helpers s (exps_of es)
all-start s s' es old here = ap (λ z. old ++ all_helpers z (exps_of es)) here

pub all-next : (s s' : Site) (es : List Exp) (i : ℕ) (x : Exp) → i < length es → x ≡ get_or es i x → s' ≡ behind_exp s (exp_tree x) → all_helpers s (exps_of (drop i es)) ≡ value_helpers s (exp_tree x) ++ all_helpers s' (exps_of (drop (i + 1) es))
unfolding value_helpers
all-next s s' es i x lt is go =
    ap (λ xs. all_helpers s (exps_of xs)) (drop-next es i x lt is) ∙ ap (λ z. value_helpers s (exp_tree x) ++ all_helpers z (exps_of (drop (i + 1) es))) (sym go)

pub all-none : (s : Site) (es : List Exp) (i : ℕ) → length es ≤ i → all_helpers s (exps_of (drop i es)) ≡ []
unfolding value_helpers
all-none s es i past = ap (λ xs. all_helpers s (exps_of xs)) (drop_all i es past)

pub conjunct-start : (s s' : Site) (es : List Exp) (old : List PredTree) → s' ≡ s → old ++ conjunct_helpers s' (exps_of (drop 0 es)) ≡ old ++ conjunct_helpers s (exps_of es)
conjunct-start s s' es old here = ap (λ z. old ++ conjunct_helpers z (exps_of es)) here

pub conjunct-next : (s s' : Site) (es : List Exp) (i : ℕ) (x : Exp) → i < length es → x ≡ get_or es i x → s' ≡ behind_exp s (exp_tree x) → conjunct_helpers s (exps_of (drop i es)) ≡ goal_helpers s (exp_tree x) ++ conjunct_helpers s' (exps_of (drop (i + 1) es))
unfolding value_helpers
conjunct-next s s' es i x lt is go =
    ap (λ xs. conjunct_helpers s (exps_of xs)) (drop-next es i x lt is) ∙ ap (λ z. goal_helpers s (exp_tree x) ++ conjunct_helpers z (exps_of (drop (i + 1) es))) (sym go)

pub conjunct-none : (s : Site) (es : List Exp) (i : ℕ) → length es ≤ i → conjunct_helpers s (exps_of (drop i es)) ≡ []
unfolding value_helpers
conjunct-none s es i past = ap (λ xs. conjunct_helpers s (exps_of xs)) (drop_all i es past)

pub branch-start : (s s' : Site) (bs : List (Exp × Exp)) (old : List PredTree) → s' ≡ s → old ++ branch_helpers s' (branches_in (drop 0 bs)) ≡ old ++ branch_helpers s (branches_in bs)
branch-start s s' bs old here = ap (λ z. old ++ branch_helpers z (branches_in bs)) here

-- behind a condition and its body
pub behind-both : (s s' s'' : Site) (c e : ExpTree) → s' ≡ behind_exp s c → s'' ≡ behind_exp s' e → s'' ≡ behind_site s (places c ++ places e) (helpers_in c + helpers_in e)
behind-both s s' s'' c e first second = second ∙ (ap (λ z. behind_exp z e) first ∙ behind-twice s (places c) (places e) (helpers_in c) (helpers_in e))

pub branch-next : (s s' s'' : Site) (bs : List (Exp × Exp)) (i : ℕ) (x : Exp × Exp) → i < length bs → x ≡ get_or bs i x → s' ≡ behind_exp s (exp_tree x.0) → s'' ≡ behind_exp s' (exp_tree x.1) →
    branch_helpers s (branches_in (drop i bs)) ≡ (goal_helpers s (exp_tree x.0) ++ goal_helpers s' (exp_tree x.1)) ++ branch_helpers s'' (branches_in (drop (i + 1) bs))
unfolding value_helpers
branch-next s s' s'' bs i x lt is first second =
    let c : ExpTree = exp_tree x.0 in
    let e : ExpTree = exp_tree x.1 in
    let rest : ExpBranches = branches_in (drop (i + 1) bs) in
    ap (λ xs. branch_helpers s (branches_in xs)) (drop-next bs i x lt is)
    ∙ (ap (λ z. goal_helpers s c ++ (goal_helpers z e ++ branch_helpers (behind_site s (places c ++ places e) (helpers_in c + helpers_in e)) rest)) (sym first)
    ∙ (ap (λ z. goal_helpers s c ++ (goal_helpers s' e ++ branch_helpers z rest)) (sym (behind-both s s' s'' c e first second)) ∙ sym (append_assoc (goal_helpers s c) (goal_helpers s' e) (branch_helpers s'' rest))))

pub branch-none : (s : Site) (bs : List (Exp × Exp)) (i : ℕ) → length bs ≤ i → branch_helpers s (branches_in (drop i bs)) ≡ []
unfolding value_helpers
branch-none s bs i past = ap (λ xs. branch_helpers s (branches_in xs)) (drop_all i bs past)

-- ---- an expression without a call has no helpers

and-first : (a b : Bool) → (a && b) ≡ true → a ≡ true
and-first true b h = refl
and-first false b h = absurd (apart h)
  where
    apart : false ≡ true → ⊥
    apart h = cc

and-second : (a b : Bool) → (a && b) ≡ true → b ≡ true
and-second true b h = h
and-second false b h = absurd (apart h)
  where
    apart : false ≡ true → ⊥
    apart h = cc

no-flat : {A : Type 0} → false ≡ true → A
no-flat h = absurd (apart h)
  where
    apart : false ≡ true → ⊥
    apart h = cc

mutual
  unfolding value_helpers is_flat_as

  pub flat-helpers : (s : Site) (r : Reading) (e : ExpTree) → is_flat_as r e ≡ true → value_helpers s e ≡ []
  flat-helpers s r (ExpTree.var name) flat = refl
  flat-helpers s r (ExpTree.int n) flat = refl
  flat-helpers s r (ExpTree.atom name) flat = refl
  flat-helpers s r (ExpTree.str text) flat = refl
  flat-helpers s r (ExpTree.list es) flat = flat-all s [] es flat
  flat-helpers s r (ExpTree.list_onto es e) flat =
      ap (λ ps. ps ++ value_helpers (behind_site s (places_all es) (helpers_in_all es)) e) (flat-all s [] es (and-first (are_flat es) (is_flat e) flat)) ∙ flat-helpers (behind_site s (places_all es) (helpers_in_all es)) plain e (and-second (are_flat es) (is_flat e) flat)
  flat-helpers s r (ExpTree.array es) flat = flat-all s [] es flat
  flat-helpers s r (ExpTree.call name es) flat =
      third-of r name (exp_count es) (and-first (stays r name (exp_count es)) (are_flat_as (operand_readings r name (exp_count es)) es) flat) _ _ (all_helpers s es)
      ∙ flat-all s (operand_readings r name (exp_count es)) es (and-second (stays r name (exp_count es)) (are_flat_as (operand_readings r name (exp_count es)) es) flat)
  flat-helpers s r (ExpTree.quote e) flat = refl
  flat-helpers s r (ExpTree.index e es) flat = no-flat flat
  flat-helpers s r (ExpTree.range first last) flat =
      let both : is_flat first && is_flat last ≡ true = and-second (is_ranged r) (is_flat first && is_flat last) flat in
      ap (λ ps. ps ++ value_helpers (behind_exp s first) last) (flat-helpers s plain first (and-first (is_flat first) (is_flat last) both)) ∙ flat-helpers (behind_exp s first) plain last (and-second (is_flat first) (is_flat last) both)
  flat-helpers s r (ExpTree.range_by first step last) flat =
      let t : Site = behind_exp s first in
      let u : Site = behind_site s (places first ++ places step) (helpers_in first + helpers_in step) in
      let all : is_flat first && (is_flat step && is_flat last) ≡ true = and-second (is_ranged r) (is_flat first && (is_flat step && is_flat last)) flat in
      let both : is_flat step && is_flat last ≡ true = and-second (is_flat first) (is_flat step && is_flat last) all in
      ap (λ ps. ps ++ (value_helpers t step ++ value_helpers u last)) (flat-helpers s plain first (and-first (is_flat first) (is_flat step && is_flat last) all))
      ∙ (ap (λ ps. ps ++ value_helpers u last) (flat-helpers t plain step (and-first (is_flat step) (is_flat last) both)) ∙ flat-helpers u plain last (and-second (is_flat step) (is_flat last) both))
  flat-helpers s r (ExpTree.at name e) flat = no-flat flat
  flat-helpers s r (ExpTree.collect is_array e es) flat = no-flat flat
  flat-helpers s r (ExpTree.and es) flat = no-flat flat
  flat-helpers s r (ExpTree.or es) flat = no-flat flat
  flat-helpers s r (ExpTree.arrow c e) flat = no-flat flat
  flat-helpers s r (ExpTree.if_then bs) flat = no-flat flat
  flat-helpers s r (ExpTree.if_else bs e) flat = no-flat flat
  flat-helpers s r (ExpTree.foreach es e) flat = no-flat flat
  flat-helpers s r (ExpTree.while_do c e) flat = no-flat flat
  flat-helpers s r (ExpTree.do_while e c) flat = no-flat flat

  flat-all : (s : Site) (rs : List Reading) (es : ExpTrees) → are_flat_as rs es ≡ true → all_helpers s es ≡ []
  flat-all s rs no_exps flat = refl
  flat-all s rs (exp e es) flat =
      ap (λ ps. ps ++ all_helpers (behind_exp s e) es) (flat-helpers s (first_reading rs) e (and-first (is_flat_as (first_reading rs) e) (are_flat_as (later_readings rs) es) flat))
      ∙ flat-all (behind_exp s e) (later_readings rs) es (and-second (is_flat_as (first_reading rs) e) (are_flat_as (later_readings rs) es) flat)

-- ---- expressions by their kind

pub helpers-onto : (s s' : Site) (e : ExpTree) (es : ExpTrees) (y : ExpTree) → e ≡ ExpTree.list_onto es y → s' ≡ behind_site s (places_all es) (helpers_in_all es) → value_helpers s e ≡ all_helpers s es ++ value_helpers s' y
unfolding value_helpers
helpers-onto s s' e es y p go = ap (value_helpers s) p ∙ ap (λ z. all_helpers s es ++ value_helpers z y) (sym go)

pub helpers-list : (s : Site) (e : ExpTree) (es : ExpTrees) → e ≡ ExpTree.list es → value_helpers s e ≡ all_helpers s es
unfolding value_helpers
helpers-list s e es p = ap (value_helpers s) p

pub helpers-array : (s : Site) (e : ExpTree) (es : ExpTrees) → e ≡ ExpTree.array es → value_helpers s e ≡ all_helpers s es
unfolding value_helpers
helpers-array s e es p = ap (value_helpers s) p

pub helpers-index : (s s' : Site) (e y : ExpTree) (es : ExpTrees) → e ≡ ExpTree.index y es → s' ≡ behind_exp s y → value_helpers s e ≡ value_helpers s y ++ all_helpers s' es
unfolding value_helpers
helpers-index s s' e y es p go = ap (value_helpers s) p ∙ ap (λ z. value_helpers s y ++ all_helpers z es) (sym go)

pub helpers-range : (s s' : Site) (e a b : ExpTree) → e ≡ ExpTree.range a b → s' ≡ behind_exp s a → value_helpers s e ≡ value_helpers s a ++ value_helpers s' b
unfolding value_helpers
helpers-range s s' e a b p go = ap (value_helpers s) p ∙ ap (λ z. value_helpers s a ++ value_helpers z b) (sym go)

pub helpers-range_by : (s s' s'' : Site) (e a b c : ExpTree) → e ≡ ExpTree.range_by a b c → s' ≡ behind_exp s a → s'' ≡ behind_exp s' b → value_helpers s e ≡ value_helpers s a ++ (value_helpers s' b ++ value_helpers s'' c)
unfolding value_helpers
helpers-range_by s s' s'' e a b c p first second =
    ap (value_helpers s) p ∙ (ap (λ z. value_helpers s a ++ (value_helpers z b ++ value_helpers (behind_site s (places a ++ places b) (helpers_in a + helpers_in b)) c)) (sym first)
    ∙ ap (λ z. value_helpers s a ++ (value_helpers s' b ++ value_helpers z c)) (sym (behind-both s s' s'' a b first second)))

-- ---- goals by their kind

pub helpers-and : (s : Site) (e : ExpTree) (es : ExpTrees) → e ≡ ExpTree.and es → goal_helpers s e ≡ conjunct_helpers s es
unfolding value_helpers
helpers-and s e es p = ap (goal_helpers s) p

pub helpers-or : (s : Site) (e : ExpTree) (es : ExpTrees) → e ≡ ExpTree.or es → goal_helpers s e ≡ conjunct_helpers s es
unfolding value_helpers
helpers-or s e es p = ap (goal_helpers s) p

pub helpers-atom : (s : Site) (e : ExpTree) (name : List ℕ) → e ≡ ExpTree.atom name → goal_helpers s e ≡ []
unfolding value_helpers
helpers-atom s e name p = ap (goal_helpers s) p

pub helpers-arrow : (s s' : Site) (e c b : ExpTree) → e ≡ ExpTree.arrow c b → s' ≡ behind_exp s c → goal_helpers s e ≡ goal_helpers s c ++ goal_helpers s' b
unfolding value_helpers
helpers-arrow s s' e c b p go = ap (goal_helpers s) p ∙ ap (λ z. goal_helpers s c ++ goal_helpers z b) (sym go)

pub helpers-if_then : (s : Site) (e : ExpTree) (bs : ExpBranches) → e ≡ ExpTree.if_then bs → goal_helpers s e ≡ branch_helpers s bs
unfolding value_helpers
helpers-if_then s e bs p = ap (goal_helpers s) p

pub helpers-if_else : (s s' : Site) (e : ExpTree) (bs : ExpBranches) (y : ExpTree) → e ≡ ExpTree.if_else bs y → s' ≡ behind_site s (places_of_branches bs) (helpers_in_branches bs) → goal_helpers s e ≡ branch_helpers s bs ++ goal_helpers s' y
unfolding value_helpers
helpers-if_else s s' e bs y p go = ap (goal_helpers s) p ∙ ap (λ z. branch_helpers s bs ++ goal_helpers z y) (sym go)
