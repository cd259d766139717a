-- A compound is put together, from its last part to its first.
use Rattle.std.proofs.Common.{◌≡◌, ℕ, zero, suc, ◌-◌, ◌≤◌, ◌<◌, List, [], ◌∷◌, ◌++◌, Option, Some, take, drop, reverse, refl, sym, ◌∙◌, ap, subst, arith}
use Rattle.std.specs.Prelude.{slice_get, slice_index_or}
use Rattle.std.proofs.lemmas.List.{reverse-append, reverse-reverse}
use Rattle.pi_terms.specs.Tree.{Tree, Trees, no_trees, tree, comp, drop_trees}
use Rattle.pi_terms.specs.TermCells.{take_trees}
use Rattle.pi_terms.specs.Places.{Places, held}
use Rattle.pi_constraints.specs.State.{State}
use Rattle.pi_constraints.specs.Store.{StoreView, IsTerm, AreTerms, Stays, Extend}
use Rattle.pi_constraints.specs.Evaluation.{evaluated, evaluated_all, slot_term}
use Rattle.pi_constraints.specs.declared.store.Ref.{Ref}
use Rattle.pi_unify.specs.Copying.{AreBuilt}
use Rattle.pi_unify.proofs.KeepsLemmas.{terms_kept}
use Rattle.pi_engine_code.specs.declared.code.Part.{Part}
use Rattle.pi_engine_arenas.specs.Arenas.{ArenasView, between}
use Rattle.pi_engine_code.specs.Code.{Tables, term_at, with_part, spelled_parts}
use Rattle.pi_engine_stands.specs.Here.{Block, Holds, IsReadablePart}
use Rattle.pi_engine_stands.specs.Evaluates.{Writes, Evaluates, part_on, IsFilledPart, parts_between, AreReadableParts, AreFilledParts}
use Rattle.pi_engine_stands.proofs.HereLemmas.{holds-extends}
use Rattle.pi_constraints.proofs.StateLemmas.{extends}
use Rattle.pi_engine_stands.proofs.SlotsStand.{writes-none, writes-then}
use Rattle.pi_engine_stands.proofs.PartsStand.{known-is, parts-first, part-evaluated}
use Rattle.pi_engine_stands.proofs.FillLemmas.{part-here, readable-here}

are-taken : {M : Type 0} (v : StoreView M) (k : ℕ) (rs : List Ref) (ts : Trees) → AreTerms v rs ts → AreTerms v (take k rs) (take_trees k ts)
unfolding AreTerms
are-taken v zero rs ts h = tt
are-taken v (suc k) [] no_trees h = tt
are-taken v (suc k) [] (tree t ts) h = absurd h
are-taken v (suc k) (r ∷ rs) no_trees h = absurd h
are-taken v (suc k) (r ∷ rs) (tree t ts) h = (h.0, are-taken v k rs ts h.1)

are-dropped : {M : Type 0} (v : StoreView M) (k : ℕ) (rs : List Ref) (ts : Trees) → AreTerms v rs ts → AreTerms v (drop k rs) (drop_trees k ts)
unfolding AreTerms
are-dropped v zero rs ts h = h
are-dropped v (suc k) [] no_trees h = tt
are-dropped v (suc k) [] (tree t ts) h = absurd h
are-dropped v (suc k) (r ∷ rs) no_trees h = absurd h
are-dropped v (suc k) (r ∷ rs) (tree t ts) h = are-dropped v k rs ts h.1

-- one more is put in front
pub put-on : {M : Type 0} (v : StoreView M) (made new : List Ref) (r : Ref) (x : Tree) (us : Trees) → IsTerm v r x → AreBuilt v made us → new ≡ made ++ r ∷ [] → AreBuilt v new (tree x us)
unfolding AreTerms
put-on v made new r x us term built is =
    subst (λ (rs : List Ref). AreTerms v rs (tree x us)) (sym (ap reverse is ∙ reverse-append made (r ∷ []))) (term, built)

pub part-known : {M : Type 0} (b : Block) (v : StoreView M) (a : ArenasView M) (t : Tables) (f : Places) (us : Trees) (made new : List Ref) (r : Ref) →
    Extend t.terms v.now.terms → IsReadablePart t.terms b (Part.Known r) → Holds v.now.terms a.blocks.slots b f → AreBuilt v made us → new ≡ made ++ r ∷ [] →
    Writes b (between v v a a) f v.now.state × AreBuilt v new (part_on t (Part.Known r) f v.now.state us)
part-known b v a t f us made new r extend (u, is, ground) holds built pushed =
    (writes-none b v a f holds, put-on v made new r (term_at t r) us (subst (λ x. IsTerm v r x) (sym (known-is t r u is)) (extend r.number u is)) built pushed)

filled-writes : {M : Type 0} (b : Block) (v w : StoreView M) (a c : ArenasView M) (f : Places) (s : State) (k : ℕ) (o : Option Tree) → (x : Tree) × (o ≡ Some x) →
    Writes b (between v w a c) (slot_term o k f s).slots (slot_term o k f s).state → Writes b (between v w a c) f s
filled-writes b v w a c f s k o (x, is) writes = subst (λ q. Writes b (between v w a c) (slot_term q k f s).slots (slot_term q k f s).state) is writes

pub part-slot : {M : Type 0} (b : Block) (v w : StoreView M) (a c : ArenasView M) (t : Tables) (f : Places) (us : Trees) (made new : List Ref) (k : ℕ) (r : Ref) →
    IsFilledPart f (Part.Slot k) → Evaluates b (between v w a c) (slot_term (held f k) k f v.now.state) r → AreBuilt v made us → new ≡ made ++ r ∷ [] →
    Writes b (between v w a c) f v.now.state × AreBuilt w new (part_on t (Part.Slot k) f v.now.state us)
part-slot b v w a c t f us made new k r filled is built pushed = (
  filled-writes b v w a c f v.now.state k (held f k) filled is.writes,
  put-on w made new r (slot_term (held f k) k f v.now.state).tree us is.term (terms_kept v w (reverse made) us is.writes.keeps built) pushed,
)

pub part-compound : {M : Type 0} (b : Block) (v w : StoreView M) (a : ArenasView M) (t : Tables) (f : Places) (us : Trees) (made rest args new : List Ref) (i k : ℕ) (r : Ref) →
    Holds v.now.terms a.blocks.slots b f → AreBuilt v made us → args ≡ take k (reverse made) → reverse rest ≡ drop k (reverse made) → Stays v w →
    ((ts : Trees) → AreTerms v args ts → IsTerm w r (comp (slice_index_or t.names i []) ts)) → new ≡ rest ++ r ∷ [] →
    Writes b (between v w a a) f v.now.state × AreBuilt w new (part_on t (Part.Compound i k) f v.now.state us)
part-compound b v w a t f us made rest args new i k r holds built taken left stays puts pushed =
    let same : Writes b (between v v a a) f v.now.state = writes-none b v a f holds in (
      record {
        keeps = stays.keeps;
        state = stays.state;
        holds = holds-extends v.now.terms w.now.terms a.blocks.slots b f (extends v w stays.keeps) holds;
        as_many = refl;
        front = refl;
        back = refl;
        blocks = same.blocks;
        kept = refl;
        rest = refl;
      },
      put-on w rest new r (comp (slice_index_or t.names i []) (take_trees k us)) (drop_trees k us)
          (puts (take_trees k us) (subst (λ (rs : List Ref). AreTerms v rs (take_trees k us)) (sym taken) (are-taken v k (reverse made) us built)))
          (terms_kept v w (reverse rest) (drop_trees k us) stays.keeps (subst (λ (rs : List Ref). AreTerms v rs (drop_trees k us)) (sym left) (are-dropped v k (reverse made) us built)))
          pushed,
    )

-- ---- all parts

-- what the parts from one on come to, with their slots filled
abbrev pub built_from : Tables → ℕ → ℕ → Places → State → Trees
built_from t i to f s = (evaluated_all (spelled_parts t (parts_between t i to)) f s).trees

no-more : (n : ℕ) → 0 ≡ n - n
no-more n = omega arith

pub nothing-built : {M : Type 0} (v : StoreView M) (t : Tables) (to : ℕ) (f : Places) (s : State) (made : List Ref) → made ≡ [] → AreBuilt v made (built_from t to to f s)
unfolding AreTerms spelled_parts evaluated
nothing-built v t to f s made none =
    subst (λ n. AreBuilt v made (evaluated_all (spelled_parts t (take n (drop to t.parts))) f s).trees) (no-more to)
    (subst (λ (rs : List Ref). AreTerms v (reverse rs) no_trees) (sym none) tt)

pub one-built : {M : Type 0} (b : Block) (v w x : StoreView M) (a c d : ArenasView M) (t : Tables) (f : Places) (from to i : ℕ) (p : Part) (new : List Ref) → from ≤ i → i < to → slice_get t.parts i ≡ Some p →
    AreReadableParts t b (parts_between t from to) → AreFilledParts f (parts_between t from to) → Writes b (between v w a c) f v.now.state →
    Writes b (between w x c d) f w.now.state × AreBuilt x new (part_on t p f w.now.state (built_from t (suc i) to f v.now.state)) →
    Writes b (between v x a d) f v.now.state × AreBuilt x new (built_from t i to f v.now.state)
unfolding spelled_parts
one-built b v w x a c d t f from to i p new above below at readable filled before (writes, built) =
    let s : State = v.now.state in
    let ps : List Part = parts_between t (suc i) to in
    let is : (evaluated_all (with_part t p (spelled_parts t ps)) f s).trees ≡ part_on t p f s (built_from t (suc i) to f s) =
    part-evaluated t b p (spelled_parts t ps) f s (readable-here t b from to i p above below at readable) (filled (i - from) p (part-here t from to i above below ∙ at)) in
    let whole : built_from t i to f s ≡ part_on t p f s (built_from t (suc i) to f s) =
    ap (λ qs. (evaluated_all (spelled_parts t qs) f s).trees) (parts-first t i to p at below) ∙ is in (
      writes-then b v w x a c d f f s s before (subst (λ q. Writes b (between w x c d) f q) before.state writes),
      subst (λ us. AreBuilt x new us) (sym whole) (subst (λ q. AreBuilt x new (part_on t p f q (built_from t (suc i) to f s))) before.state built),
    )

last-one : {M : Type 0} (v : StoreView M) (rs : List Ref) (x : Tree) → AreTerms v rs (tree x no_trees) → (r : Ref) × (rs ≡ r ∷ []) × IsTerm v r x
unfolding AreTerms
last-one v [] x h = absurd h
last-one v (r ∷ []) x h = (r, refl, h.0)
last-one v (r ∷ q ∷ rs) x h = absurd h.1

same-last : (rest : List Ref) (q r : Ref) → rest ++ q ∷ [] ≡ r ∷ [] → q ≡ r
same-last [] q r h = cc
same-last (p ∷ []) q r h = absurd cc
same-last (p ∷ o ∷ rest) q r h = absurd cc

-- the compound is the one that is left
pub all-built : {M : Type 0} (b : Block) (v w : StoreView M) (a c : ArenasView M) (t : Tables) (f : Places) (from to i : ℕ) (u : Tree) (made rest : List Ref) (q : Ref) → i ≡ from →
    spelled_parts t (parts_between t from to) ≡ tree u no_trees → Writes b (between v w a c) f v.now.state → AreBuilt w made (built_from t i to f v.now.state) → made ≡ rest ++ q ∷ [] →
    Evaluates b (between v w a c) (record { tree = (evaluated u f v.now.state).tree; slots = f; state = v.now.state }) q
unfolding evaluated
all-built b v w a c t f from to i u made rest q is spelled writes built popped =
    let x : Tree = (evaluated u f v.now.state).tree in
    let one : AreTerms w (reverse made) (tree x no_trees) =
    subst (λ ts. AreTerms w (reverse made) (evaluated_all ts f v.now.state).trees) (ap (λ n. spelled_parts t (parts_between t n to)) is ∙ spelled) built in
    let it : (r : Ref) × (reverse made ≡ r ∷ []) × IsTerm w r x = last-one w (reverse made) x one in
    let only : made ≡ it.0 ∷ [] = sym (reverse-reverse made) ∙ ap reverse it.1 in
    record { writes = writes; term = subst (λ r. IsTerm w r x) (sym (same-last rest q it.0 (sym popped ∙ only))) it.2 }
