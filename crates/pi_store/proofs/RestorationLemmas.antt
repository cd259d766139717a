-- A return to a mark restores what the store held, whatever calls stood between.
use Rattle.std.proofs.Common.{◌≡◌, ◌≤◌, min, length, None, refl, ap, ◌∙◌, arith}
use Rattle.std.proofs.lemmas.Bool.{leb-true, le-leb}
use Rattle.pi_constraints.specs.Store.{Moment, IsGood, Marks, Returns}
use Rattle.pi_store.specs.declared.mark.RawMark.{RawMark}
use Rattle.pi_store.specs.Held.{Holding}
use Rattle.pi_store.specs.Holding.{seen, order}
use Rattle.pi_store.specs.Restoration.{Follows, at_once, by_call, by_return, Restoration}

-- behind a mark that was good, each mark that isn't newer is good, and brings back the same
record IsKept (m : RawMark) (s t : Holding) : Type 0 where
  pub good : (n : RawMark) → IsGood (seen s) n → order n ≤ order m → IsGood (seen t) n
  pub same : (n : RawMark) → IsGood (seen s) n → order n ≤ order m → (seen t).at_mark n ≡ (seen s).at_mark n

kept : (m : RawMark) (s t : Holding) → Follows m s t → IsKept m s t
kept m s t at_once = record { good = λ n good le. good; same = λ n good le. refl }
kept m s u (by_call {t} since keeps) =
    let before : IsKept m s t = kept m s t since in
    record {
      good = λ n good le. keeps.good n (before.good n good le);
      same = λ n good le. keeps.same n (before.good n good le) ∙ before.same n good le;
    }
kept m s u (by_return {t} k since good_k newer returns) =
    let before : IsKept m s t = kept m s t since in
    record {
      good = λ n good le. let le_k : order n ≤ order k = omega (arith, le, newer) in returns.good n (before.good n good le) le_k;
      same = λ n good le. let le_k : order n ≤ order k = omega (arith, le, newer) in returns.same n (before.good n good le) le_k ∙ before.same n good le;
    }

-- a mark that is made is as long as the region
as_long : (m : RawMark) (s : Holding) → Marks order (seen s) (seen s) m → m.length ≡ length s.image.region
as_long m s marks =
    let n : RawMark = record { length = length s.image.region; beside = None } in
    let good : IsGood (seen s) n = le-leb (length s.image.region) (length s.image.region) (omega arith) in
    let most : length s.image.region ≤ m.length = marks.newest n good in
    let least : m.length ≤ length s.image.region = leb-true m.length (length s.image.region) marks.good in
    omega (arith, most, least)

pub restoration : Restoration
restoration m s t u marks since undone =
    let before : IsKept m s t = kept m s t since in
    let good : IsGood (seen t) m = before.good m marks.good (omega arith) in
    let returns : Returns order (seen t) (seen u) m = undone.returns good in
    let now : (seen u).now ≡ (seen s).now = returns.now ∙ (before.same m marks.good (omega arith) ∙ marks.brings_back) in
    let there : m.length ≤ length t.image.region = leb-true m.length (length t.image.region) good in
    record {
      state = ap (λ (k : Moment). k.state) now;
      terms = ap (λ (k : Moment). k.terms) now;
      good = λ n is. let le : order n ≤ order m = marks.newest n is in returns.good n (before.good n is le) le;
      same = λ n is. let le : order n ≤ order m = marks.newest n is in returns.same n (before.good n is le) le ∙ before.same n is le;
      words = let long : m.length ≡ length s.image.region = as_long m s marks in let cut : length u.image.region ≡ min m.length (length t.image.region) = undone.cut in omega (arith, long, cut, there);
    }
