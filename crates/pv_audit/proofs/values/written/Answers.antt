-- What the program writes over what it reads, or that it reads too much.
use Rattle.std.proofs.Common.{◌<◌, IfSome, List, [], sym, subst}
use Rattle.std.specs.List.{AllPairs}
use Rattle.std.specs.Prelude.{IsTrue}
use Rattle.pv_audit.specs.Values.{AreReads}
use Rattle.pv_audit.proofs.PlanReads.{reads-ascend, reads-whole}
use Rattle.pv_base.specs.declared.limits.TheConstants.{READ_NAMES}
use Rattle.pv_cases.specs.NameLimits.{NameTooMany}
use Rattle.pv_model.specs.Alternatives.{Read, all_cases, rows_at}
use Rattle.pv_model.specs.Items.{has_all_items}
use Rattle.pv_split.specs.Splitting.{count_of}
use Rattle.pv_split.specs.declared.joining.SplitError.{SplitError}
use Rattle.pv_audit.proofs.values.written.Goals as goal

pub split-requires-clause-ascending : goal.split-requires-clause-ascending
split-requires-clause-ascending c =
    subst (λ (reads : List Read). AllPairs (λ (read later : Read). read.item < later.item) reads) (sym c.deref.ensures.value)
    (reads-ascend c.in_ok-reads.reads.items c.in_ok-reads.ensures.items.ascending)

pub split-requires-clause-items : goal.split-requires-clause-items
split-requires-clause-items c =
    subst (λ (reads : List Read). IsTrue (has_all_items (rows_at reads []) c.args.request.program.now)) (sym c.deref.ensures.value)
    (reads-whole c.args.request.program.now c.in_ok-reads.reads.items c.in_ok-reads.ensures.items)

pub returns-in-Ok-clause-written : goal.returns-in-Ok-clause-written
returns-in-Ok-clause-written c = record {
  reads = c.deref.result.now;
  are = subst (λ (reads : List Read). AreReads c.args.request.program.now c.args.values.now reads) (sym c.deref.ensures.value) c.in_ok-reads.ensures;
  reply = c.in-Ok.joined.reply;
  split = c.in-Ok.ensures.answer.given;
}

pub returns-in-Err-OutcomeLimit-clause-limit : goal.returns-in-Err-OutcomeLimit-clause-limit
returns-in-Err-OutcomeLimit-clause-limit c = record {
  reads = c.deref.result.now;
  are = subst (λ (reads : List Read). AreReads c.args.request.program.now c.args.values.now reads) (sym c.deref.ensures.value) c.in_ok-reads.ensures;
  over = subst (λ (e : SplitError). IfSome (count_of e) (NameTooMany READ_NAMES (all_cases c.deref.result.now))) c.in-Err-OutcomeLimit.field-0-is
      c.in-Err-OutcomeLimit.ensures.answer.refused;
}
