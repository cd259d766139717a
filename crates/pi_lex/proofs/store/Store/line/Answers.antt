use Rattle.std.proofs.Common.{rules, arith, ◌≡◌, ◌+◌, ◌<◌, ℕ, nat_le, length, ap, subst, sym, ◌∙◌, Some}
use Rattle.std.proofs.lemmas.List.Sorted.{IsPartitionPoint-from_clause, IsPartitionedBy-leb}
use Rattle.std.specs.List.{count_by}
use Rattle.std.specs.List.Sorted.{IsNonDecreasing}
use Rattle.pi_lex.specs.Store.{line_at}
use Rattle.pi_lex.proofs.LineLemmas.{count_by-point, length-located_from, line_at-listed}
use Rattle.pi_lex.proofs.store.Store.line.Goals as goal

pub returns : goal.returns
returns c =
    let store = c.args.self.now in
    let i = c.args.index in
    let feeds = c.deref.result.now in
    let ascending : IsNonDecreasing feeds = subst IsNonDecreasing (sym c.deref.ensures.value) c.requires.sound.ascending in
    let parted = IsPartitionedBy-leb (λ (before : ℕ). before) feeds i ascending in
    let point = IsPartitionPoint-from_clause (λ before. nat_le before i) feeds _ c.partition_point.ensures.partitioned parted (λ a r q k. search rules) in
    let count = count_by-point (λ before. nat_le before i) feeds c.partition_point.result c.partition_point.ensures.bound point in
    let within : i < length store.forms.items = omega (arith, c.requires.within, length-located_from store 0 store.forms.items) in
    let first : 0 + i ≡ i = omega arith in
    let passed : line_at store.feeds.items i ≡ c.partition_point.result + 1 =
    omega (arith, count, ap (λ fs. count_by (λ before. nat_le before i) fs) c.deref.ensures.value) in
    line_at-listed store 0 store.forms.items i within ∙ ap (λ n. Some n) (ap (λ place. line_at store.feeds.items place) first ∙ passed)
