-- What the sorted reads give.
use Rattle.std.proofs.Common.{List, rules, subst, sym}
use Rattle.std.specs.List.Sorted.{IsNonDecreasingBy, IsPermutation}
use Rattle.std.proofs.lemmas.Result.{err_from_is_err_and}
use Rattle.pv_model.specs.Alternatives.{Read}
use Rattle.pv_site.proofs.LockPoint.{computed, too-many}
use Rattle.pv_site.proofs.SortedReads.{sorted-ascend}
use Rattle.pv_site.proofs.TakenReads.{sorted-items}
use Rattle.pv_site.proofs.granting.computed.Goals as goal

pub split-requires-clause-ascending : goal.split-requires-clause-ascending
split-requires-clause-ascending c =
    sorted-ascend c.args.reads.items c.deref.result.now c.requires.apart
    (subst (λ (sorted : List Read). IsPermutation c.args.reads.items sorted) (sym c.deref.ensures.value) c.by_item-reads.ensures.permuted)
    (subst (λ (sorted : List Read). IsNonDecreasingBy (λ (read : Read). read.item) sorted) (sym c.deref.ensures.value) c.by_item-reads.ensures.sorted)

pub split-requires-clause-items : goal.split-requires-clause-items
split-requires-clause-items c =
    let permuted = subst (λ (sorted : List Read). IsPermutation c.args.reads.items sorted) (sym c.deref.ensures.value) c.by_item-reads.ensures.permuted in
    sorted-items c.args.program.now c.args.reads.items c.deref.result.now c.requires.items permuted
    (sorted-ascend c.args.reads.items c.deref.result.now c.requires.apart permuted
    (subst (λ (sorted : List Read). IsNonDecreasingBy (λ (read : Read). read.item) sorted) (sym c.deref.ensures.value) c.by_item-reads.ensures.sorted))

pub returns-in_err-joined-clause-refused : goal.returns-in_err-joined-clause-refused
returns-in_err-joined-clause-refused c =
    let is = err_from_is_err_and c.from_residual.result c.from_residual.ensures.1 in
    too-many c.args.reads.items c.deref.result.now
    (subst (λ (sorted : List Read). IsPermutation c.args.reads.items sorted) (sym c.deref.ensures.value) c.by_item-reads.ensures.permuted)
    c.from_residual.result c.in_err-joined.field-0.0 (search (rules, is)) c.in_err-joined.ensures.answer.refused

pub returns-clause-computed : goal.returns-clause-computed
returns-clause-computed c = λ entry same_program same_reads.
    let permuted = subst (λ (sorted : List Read). IsPermutation c.args.reads.items sorted) (sym c.deref.ensures.value) c.by_item-reads.ensures.permuted in
    computed c.args.store.now.records entry c.args.program.now c.args.reads.items c.deref.result.now
    c.in_ok-joined.joined.writes.items c.in_ok-settled.field-0.writes.items c.in_ok-joined.joined.reply c.in_ok-settled.field-0.reply
    same_program same_reads c.requires.apart c.requires.items permuted
    (sorted-ascend c.args.reads.items c.deref.result.now c.requires.apart permuted
    (subst (λ (sorted : List Read). IsNonDecreasingBy (λ (read : Read). read.item) sorted) (sym c.deref.ensures.value) c.by_item-reads.ensures.sorted))
    c.in_ok-joined.ensures.answer.given c.in_ok-settled.ensures.writes c.in_ok-settled.ensures.reply
