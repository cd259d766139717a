-- Entries keep one mark each, and a return to the newest brings back the state of its making.
use Rattle.std.proofs.Common.{◌≡◌, ℕ, suc, ◌+◌, List, [], ◌∷◌, ◌++◌, length, Some, slice_get, refl, sym, ap, subst, arith}
use Rattle.std.proofs.lemmas.List.{length-append}
use Rattle.pi_terms.specs.Tree.{Tree}
use Rattle.pi_constraints.specs.State.{State}
use Rattle.pi_engine_arenas.specs.declared.arenas.Kind.{Kind}
use Rattle.pi_meaning.specs.Machine.Configuration.{Entry as EntryData}
use Rattle.pi_engine_stands.specs.Here.{Here}
use Rattle.pi_engine_stands.specs.Stands.{Loaded, World, entries_of, back_here, KindIs, rules_kind, facts_kind, branches_kind, alternatives_kind, once_kind, not_kind, if_kind, guard_kind, apply_kind, collect_kind, count_kind, search_kind, catch_kind, exit_kind, StackIs, no_entries, entry_above}
use Rattle.pi_engine_stands.specs.ComesBack.{IsMadeIn, KeepsOneMark, EntriesKeepOneMark, ReturnsToTheMaking}
use Rattle.pi_engine_stands.proofs.StandsLemmas.{moved, stack-length}
use Rattle.pi_engine_stands.proofs.BackStand.{CameBack, came-back, back-kind}
use Rattle.pi_engine_stands.proofs.StacksLie.{below-lies}

made-in : (l : Loaded) (collected : List Tree) (h : Here) (s : State) (base frame slots from to : ℕ) (k : Kind) (y : EntryData) → KindIs l collected h s base frame slots from to k y → IsMadeIn y s
made-in l collected h s base frame slots from to k y (rules_kind stands few none) = refl
made-in l collected h s base frame slots from to k y (facts_kind stands few none) = refl
made-in l collected h s base frame slots from to k y (branches_kind behind base_is here leaves count none) = refl
made-in l collected h s base frame slots from to k y (alternatives_kind own are one) = refl
made-in l collected h s base frame slots from to k y (once_kind stands none) = refl
made-in l collected h s base frame slots from to k y (not_kind stands none) = refl
made-in l collected h s base frame slots from to k y (if_kind stands none) = refl
made-in l collected h s base frame slots from to k y (guard_kind stands few none) = refl
made-in l collected h s base frame slots from to k y (apply_kind stands own args behind none) = refl
made-in l collected h s base frame slots from to k y (collect_kind stands some few) = refl
made-in l collected h s base frame slots from to k y (count_kind stands none) = refl
made-in l collected h s base frame slots from to k y (search_kind own labels held fit order one) = refl
made-in l collected h s base frame slots from to k y (catch_kind stands same none) = refl
made-in l collected h s base frame slots from to k y (exit_kind none) = tt

each-keeps : {M : Type 0} (w : World M) (n top : ℕ) (all newer es : List EntryData) (y : EntryData) → StackIs w n top all → all ≡ newer ++ y ∷ es → KeepsOneMark w (length es) y
each-keeps w n top all newer es y no_entries is =
    absurd (let long : 0 ≡ length (newer ++ y ∷ es) = ap length is in let more : length (newer ++ y ∷ es) ≡ length newer + suc (length es) = length-append newer (y ∷ es) in omega (arith, long, more))
each-keeps w n top all [] es y (entry_above m from fs x z here it below) is =
    let same : z ≡ y = cc in
    let rest : fs ≡ es = cc in
    let depth : length es ≡ m = subst (λ ys. length ys ≡ m) rest (stack-length w m from fs below) in
    record {
      entry = x;
      at = subst (λ k. slice_get (entries_of w) k ≡ Some x) (sym depth) here;
      good = it.good;
      made = subst (λ u. IsMadeIn u (w.store.at_mark x.mark).state) same (made-in _ _ _ _ _ _ _ _ _ _ z it.kind);
      from = from;
      to = top;
      place = subst (λ u. KindIs w.loaded w.arenas.collected (back_here w x) (w.store.at_mark x.mark).state x.back.base x.back.frame x.back.blocks.slots from top x.back.kind u) same it.kind;
    }
each-keeps w n top all (k ∷ newer) es y (entry_above m from fs x z here it below) is =
    let rest : fs ≡ newer ++ y ∷ es = cc in
    each-keeps w m from fs newer es y below rest

pub entries-keep : {M : Type 0} → EntriesKeepOneMark M
entries-keep w now c stands = (
  stack-length w (length (entries_of w)) (length w.arenas.collected) c.stack (below-lies w c.now c.stack stands.entries).stack,
  λ newer es y is. each-keeps w (length (entries_of w)) (length w.arenas.collected) c.stack newer es y (below-lies w c.now c.stack stands.entries).stack is,
)

pub returns-to-the-making : {M : Type 0} → ReturnsToTheMaking M
returns-to-the-making w v b back y es stands takes =
    let came : CameBack (moved w v b) back (y ∷ es) = came-back w v b back (y ∷ es) stands takes in
    let same : came.waits ≡ y = let is : y ∷ es ≡ came.waits ∷ came.below = came.is in cc in
    subst (λ u. IsMadeIn u v.now.state) same (made-in _ _ _ _ _ _ _ _ _ _ came.waits (back-kind (moved w v b) back came.waits came.below came.back_at))
