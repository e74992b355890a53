-- What is written and replied at each alternative is so everywhere, and names only what the reads name.
use Rattle.std.proofs.Common.{List, ◌≡◌, ◌^◌, Result, Err, IfSome, length, subst, sym, ap, ◌∙◌, rules}
use Rattle.std.specs.List.{Contains}
use Rattle.std.proofs.lemmas.Result.{err_from_is_err_and}
use Rattle.pv_base.specs.Answer.{Answers}
use Rattle.pv_base.specs.declared.limits.TheConstants.{READ_NAMES}
use Rattle.pv_base.specs.declared.txn.TxnId.{TxnId}
use Rattle.pv_cases.specs.NameLimits.{NameTooMany}
use Rattle.pv_law_polyvalues.proofs.NameLemmas.{listed-named, NamesAtMost-from}
use Rattle.pv_model.specs.Alternatives.{Read, all_cases}
use Rattle.pv_model.specs.Syntax.{Program}
use Rattle.pv_split.specs.Columns.{effects_at}
use Rattle.pv_split.specs.Splitting.{count_of, IsJoinedSplit}
use Rattle.pv_split.specs.declared.joining.Joined.{Joined}
use Rattle.pv_split.specs.declared.joining.SplitError.{SplitError}
use Rattle.pv_split.specs.declared.joining.SplitError.TheVariants.{NoMemory}
use Rattle.pv_split.proofs.EffectLemmas.{length-effects}
use Rattle.pv_split.proofs.SplitLemmas.{refused-split, given-split}
use Rattle.pv_split.proofs.WriteLemmas.{replied-everywhere}
use Rattle.pv_split.proofs.joining.split_named.Goals as goal

refused : (program : Program) (reads : List Read) (result : Result Joined SplitError) (error : SplitError) → result ≡ Err error
    → IfSome (count_of error) (NameTooMany READ_NAMES (all_cases reads))
    → Answers (IsJoinedSplit READ_NAMES program reads) (NameTooMany READ_NAMES (all_cases reads)) (λ joined. (joined.writes.items, joined.reply)) count_of result
refused program reads = refused-split READ_NAMES program reads (λ joined. (joined.writes.items, joined.reply))

pub returns-in_err-txns : goal.returns-in_err-txns
returns-in_err-txns c =
    let is = err_from_is_err_and c.from_residual.result c.from_residual.ensures.1 in
    record { answer = refused c.args.program.now c.args.reads.now c.from_residual.result c.in_err-txns.field-0.0 (search (rules, is)) c.in_err-txns.ensures.refused }

pub returns-in_err-effects : goal.returns-in_err-effects
returns-in_err-effects c =
    let is = err_from_is_err_and c.from_residual-in_err-effects.result c.from_residual-in_err-effects.ensures.1 in
    record { answer = refused c.args.program.now c.args.reads.now c.from_residual-in_err-effects.result NoMemory (search (rules, is)) tt }

pub returns-in_err-writes : goal.returns-in_err-writes
returns-in_err-writes c =
    let is = err_from_is_err_and c.from_residual-in_err-writes.result c.from_residual-in_err-writes.ensures.1 in
    record { answer = refused c.args.program.now c.args.reads.now c.from_residual-in_err-writes.result NoMemory (search (rules, is)) tt }

pub reply_over-requires-clause-whole : goal.reply_over-requires-clause-whole
reply_over-requires-clause-whole c =
    ap length (c.deref-5.ensures.value ∙ c.in_ok-effects.ensures)
    ∙ length-effects c.args.program.now c.args.reads.now c.deref.result.now
    ∙ ap (λ (txns : List TxnId). 2 ^ length txns) (c.deref.ensures.value ∙ sym c.deref-4.ensures.value)

pub returns-in_err-reply : goal.returns-in_err-reply
returns-in_err-reply c =
    let is = err_from_is_err_and c.from_residual-in_err-reply.result c.from_residual-in_err-reply.ensures.1 in
    record { answer = refused c.args.program.now c.args.reads.now c.from_residual-in_err-reply.result NoMemory (search (rules, is)) tt }

pub returns : goal.returns
returns c =
    let program = c.args.program.now in
    let reads = c.args.reads.now in
    let txns = c.in_ok-txns.txns.items in
    let are = c.in_ok-txns.ensures.names in
    record {
      answer = given-split READ_NAMES program reads (λ joined. (joined.writes.items, joined.reply)) _ (record {
        few = NamesAtMost-from READ_NAMES (all_cases reads) txns are c.in_ok-txns.ensures.few;
        split = record {
          written = c.in_ok-writes.ensures.written;
          replied = replied-everywhere program reads c.deref-4.result.now c.in_ok-reply.reply c.deref-5.result.now
              (λ t is. subst (λ (these : List TxnId). Contains these t) (sym c.deref-4.ensures.value) (are.whole t is))
              c.in_ok-reply.ensures.names
              (c.deref-5.ensures.value ∙ c.in_ok-effects.ensures ∙ ap (effects_at program reads) (c.deref.ensures.value ∙ sym c.deref-4.ensures.value))
              c.in_ok-reply.ensures.values;
        };
        writes = c.in_ok-writes.ensures.polyvalues;
        reply = c.in_ok-reply.ensures.polyvalue;
        named_by_writes = λ k d within txn is.
            listed-named (all_cases reads) txns are txn
            (subst (λ (these : List TxnId). Contains these txn) c.deref-2.ensures.value (c.in_ok-writes.ensures.names k d within txn is));
        named_by_reply = λ txn is.
            listed-named (all_cases reads) txns are txn
            (subst (λ (these : List TxnId). Contains these txn) c.deref-4.ensures.value (c.in_ok-reply.ensures.names txn is));
      });
    }
