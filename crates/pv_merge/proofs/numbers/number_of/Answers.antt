use Rattle.std.proofs.Common.{rules, ◌∙◌, ◌+◌, ℕ, get_or, ap, sym}
use Rattle.std.proofs.lemmas.List.Sorted.{IsPartitionPoint-from_clause}
use Rattle.pv_merge.proofs.NumberLemmas.{number-place, parted}
use Rattle.pv_merge.proofs.numbers.number_of.Goals as goal
use Rattle.pv_merge.specs.Moments.{is_earlier, moment_of}
use Rattle.pv_merge.specs.declared.moment.Moment.{Moment}

pub bounds-numbers-at : goal.bounds-numbers-at
bounds-numbers-at c =
    let site = c.args.site.0 in
    let stamp = c.args.stamp in
    let earlier = λ (moment : Moment). is_earlier site stamp (moment_of moment) in
    (number-place site stamp c.args.place _ c.args.moments.now c.args.numbers.now c.requires.order c.requires.numbers
    (IsPartitionPoint-from_clause earlier _ _ c.partition_point-at.ensures.partitioned (parted site stamp c.args.moments.now c.requires.order) (λ a r q k. search rules))
    c.requires.there).0

pub returns : goal.returns
returns c =
    let site = c.args.site.0 in
    let stamp = c.args.stamp in
    let earlier = λ (moment : Moment). is_earlier site stamp (moment_of moment) in
    let found = number-place site stamp c.args.place _ c.args.moments.now c.args.numbers.now c.requires.order c.requires.numbers
    (IsPartitionPoint-from_clause earlier _ _ c.partition_point-at.ensures.partitioned (parted site stamp c.args.moments.now c.requires.order) (λ a r q k. search rules))
    c.requires.there in
    ap (λ (more : ℕ). get_or c.args.numbers.now c.partition_point-at.result 0 + more) c.from.ensures ∙ sym found.1
