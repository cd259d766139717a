-- Places that are met with those of their variable.
use Rattle.std.specs.Prelude.{◌≡◌, ◌↔◌, ℕ, ◌+◌, ◌<◌, Bool, true, false, ◌&&◌, IsTrue, List, length, ℤ, refl}
use Rattle.std.proofs.Common.{arith, sym, ◌∙◌, ap, subst, inl, inr}
use Rattle.std.proofs.lemmas.Bool.{cases_eq, and_parts, and_from}
use Rattle.pi_constraints.specs.declared.constraint.Item.{Item}
use Rattle.pi_constraints.specs.declared.domain.Span.{Span}
use Rattle.pi_constraints.specs.Domain.{has_value}
use Rattle.pi_prop_spec.specs.Places.{domain_at, HaveOneVariable}
use Rattle.pi_prop_places.specs.Changes.{IsCutAt}
use Rattle.pi_prop_filters.specs.Variables.{root_at, AreRoots, AreSettled, AreGathered, AreSpread, AreMet}

twice : (b : Bool) → b ≡ (b && b)
twice true = refl
twice false = refl

-- a place keeps its own values
pub shared_alone : (ds : List (List Span)) (j k : ℕ) → j ≡ k → IsCutAt k (has_value (domain_at ds j)) ds ds
shared_alone ds j k e = record {
  count = refl;
  here = λ n. twice (has_value (domain_at ds k) n) ∙ ap (λ (i : ℕ). has_value (domain_at ds k) n && has_value (domain_at ds i) n) (sym e);
  others = λ i o. refl;
}

pub shared_kept : (k j : ℕ) (kept : List Span) (ds es : List (List Span)) → IsCutAt k (λ m. has_value kept m) ds es → kept ≡ domain_at ds j → IsCutAt k (has_value (domain_at ds j)) ds es
shared_kept k j kept ds es f e = subst (λ (d : List Span). IsCutAt k (has_value d) ds es) e f

both : (b c d : Bool) → d ≡ (b && c) → IsTrue d ↔ (IsTrue b × IsTrue c)
both b c d e = (λ t. and_parts b c (sym e ∙ t), λ p. e ∙ and_from b c p.0 p.1)

still_below : (j i : ℕ) → j < i + 1 → (j ≡ i → ⊥) → j < i
still_below j i l o = omega arith

-- ---- places that stand for others take what these have

pub gathered_none : (roots : List ℕ) (ds : List (List Span)) → AreGathered 0 roots ds ds
gathered_none roots ds = record { count = refl; values = λ k n. (λ t. (t, λ j l e. absurd (omega arith)), λ p. p.0) }

pub gathered_more : (i : ℕ) (roots : List ℕ) (ds es fs : List (List Span)) → AreSettled roots → i < length roots → AreGathered i roots ds es → IsCutAt (root_at roots i) (has_value (domain_at es i)) es fs → AreGathered (i + 1) roots ds fs
gathered_more i roots ds es fs settled l f g =
    let p : ℕ = root_at roots i in
    let here : (n : ℤ) → IsTrue (has_value (domain_at fs p) n) ↔ (IsTrue (has_value (domain_at es p) n) × IsTrue (has_value (domain_at es i) n)) =
    λ n. both (has_value (domain_at es p) n) (has_value (domain_at es i) n) (has_value (domain_at fs p) n) (g.here n) in
    let all : (k : ℕ) (n : ℤ) → ((j : ℕ) → j < i → root_at roots j ≡ k → IsTrue (has_value (domain_at ds j) n)) → (i ≡ i → root_at roots i ≡ k → IsTrue (has_value (domain_at ds i) n))
    → (j : ℕ) → j < i + 1 → root_at roots j ≡ k → IsTrue (has_value (domain_at ds j) n) =
    λ k n before now j b e. elim (cases_eq j i) [
      | inl s ↦ subst (λ (x : ℕ). IsTrue (has_value (domain_at ds x) n)) (sym s) (now refl (ap (root_at roots) (sym s) ∙ e))
      | inr o ↦ before j (still_below j i b o) e
    ] in record {
      count = g.count ∙ f.count;
      values = λ k n. elim (cases_eq k p) [
        | inl s ↦ subst (λ (x : ℕ). IsTrue (has_value (domain_at fs x) n) ↔ (IsTrue (has_value (domain_at ds x) n) × ((j : ℕ) → j < i + 1 → root_at roots j ≡ x → IsTrue (has_value (domain_at ds j) n)))) (sym s) (
          λ t.
              let q = (here n).0 t in
              let a = (f.values p n).0 q.0 in
              let b = (f.values i n).0 q.1 in
              (a.0, all p n a.1 (λ u v. b.0)),
          λ q. (here n).1 (
            (f.values p n).1 (q.0, λ j b e. q.1 j (omega arith) e),
            (f.values i n).1 (
              q.1 i (omega arith) refl,
              λ j b e.
                  let own : p ≡ i = ap (root_at roots) (sym e) ∙ (settled j (omega arith) ∙ e) in
                  q.1 j (omega arith) (e ∙ sym own),
            ),
          ),
        )
        | inr o ↦ subst (λ (d : List Span). IsTrue (has_value d n) ↔ (IsTrue (has_value (domain_at ds k) n) × ((j : ℕ) → j < i + 1 → root_at roots j ≡ k → IsTrue (has_value (domain_at ds j) n)))) (sym (g.others k o)) (
          λ t. let a = (f.values k n).0 t in (a.0, all k n a.1 (λ u v. absurd (o (sym v)))),
          λ q. (f.values k n).1 (q.0, λ j b e. q.1 j (omega arith) e),
        )
      ];
    }

-- ---- and then each takes what the place has that stands for it

pub spread_none : (roots : List ℕ) (ds : List (List Span)) → AreSpread 0 roots ds ds
spread_none roots ds = record { count = refl; values = λ k n. (λ t. (t, λ l. absurd (omega arith)), λ p. p.0) }

pub spread_more : (i : ℕ) (roots : List ℕ) (ds es fs : List (List Span)) → AreSettled roots → i < length roots → AreSpread i roots ds es → IsCutAt i (has_value (domain_at es (root_at roots i))) es fs → AreSpread (i + 1) roots ds fs
spread_more i roots ds es fs settled l f g =
    let p : ℕ = root_at roots i in
    let here : (n : ℤ) → IsTrue (has_value (domain_at fs i) n) ↔ (IsTrue (has_value (domain_at es i) n) × IsTrue (has_value (domain_at es p) n)) =
    λ n. both (has_value (domain_at es i) n) (has_value (domain_at es p) n) (has_value (domain_at fs i) n) (g.here n) in record {
      count = g.count ∙ f.count;
      values = λ k n. elim (cases_eq k i) [
        | inl s ↦ subst (λ (x : ℕ). IsTrue (has_value (domain_at fs x) n) ↔ (IsTrue (has_value (domain_at ds x) n) × (x < i + 1 → IsTrue (has_value (domain_at ds (root_at roots x)) n)))) (sym s) (
          λ t. let q = (here n).0 t in (((f.values i n).0 q.0).0, λ b. ((f.values p n).0 q.1).0),
          λ q. (here n).1 (
            (f.values i n).1 (q.0, λ b. absurd (omega arith)),
            (f.values p n).1 (q.1 (omega arith), λ b. subst (λ (x : ℕ). IsTrue (has_value (domain_at ds x) n)) (sym (settled i l)) (q.1 (omega arith))),
          ),
        )
        | inr o ↦ subst (λ (d : List Span). IsTrue (has_value d n) ↔ (IsTrue (has_value (domain_at ds k) n) × (k < i + 1 → IsTrue (has_value (domain_at ds (root_at roots k)) n)))) (sym (g.others k o)) (
          λ t. let q = (f.values k n).0 t in (q.0, λ b. q.1 (still_below k i b o)),
          λ q. (f.values k n).1 (q.0, λ b. q.1 (omega arith)),
        )
      ];
    }

-- ---- both

one_variable_turned : (items : List Item) (j k : ℕ) → HaveOneVariable items j k → HaveOneVariable items k j
one_variable_turned items j k (inl e) = inl (sym e)
one_variable_turned items j k (inr h) = inr (h.0, h.2, h.1)

one_variable_then : (items : List Item) (i j k : ℕ) → HaveOneVariable items i j → HaveOneVariable items j k → HaveOneVariable items i k
one_variable_then items i j k (inl e) h = subst (λ (x : ℕ). HaveOneVariable items x k) (sym e) h
one_variable_then items i j k (inr g) (inl e) = subst (λ (x : ℕ). HaveOneVariable items i x) e (inr g)
one_variable_then items i j k (inr g) (inr h) = inr (h.0, g.1 ∙ (sym g.2 ∙ h.1), h.2)

pub places_met : (items : List Item) (roots : List ℕ) (ds es fs : List (List Span)) → length ds ≡ length items → AreRoots items (length items) roots → AreGathered (length roots) roots ds es → AreSpread (length roots) roots es fs → AreMet items ds fs
places_met items roots ds es fs c r f g = record {
  count = g.count ∙ f.count;
  values = λ k n l.
      let inside : k < length items = omega (arith, c) in
      let p : ℕ = root_at roots k in
      let all : length roots ≡ length items = r.count in
      let below : p < length items = r.inside k inside in
      let own : root_at roots p ≡ p = r.same p k below inside (r.one k inside) in (
        λ t j b one.
            let q = (f.values p n).0 (((g.values k n).0 t).1 (omega (arith, all))) in
            q.1 j (omega (arith, all)) (r.same j k b inside one),
        λ h. (g.values k n).1 (
          (f.values k n).1 (
            h k inside (inl refl),
            λ j b e.
                let b2 : j < length items = omega (arith, all) in
                h j b2 (one_variable_then items j k k (one_variable_turned items k j (subst (λ (x : ℕ). HaveOneVariable items x j) e (r.one j b2))) (inl refl)),
          ),
          λ b. (f.values p n).1 (
            h p below (r.one k inside),
            λ j b e.
                let b2 : j < length items = omega (arith, all) in
                h j b2 (one_variable_then items j p k (one_variable_turned items p j (subst (λ (x : ℕ). HaveOneVariable items x j) e (r.one j b2))) (r.one k inside)),
          ),
        ),
      );
}
