-- The records so far, and then no record or the end.
use Rattle.std.proofs.Common.{◌≡◌, ◌≤◌, ℕ, List, Some, None, Ok, Err, max, length, sym, subst, ap, ◌∙◌, ◌∷◌, [], Option, MatchOption, length-append, arith}
use Rattle.std.specs.Global.{Vec}
use Rattle.std.proofs.lemmas.List.{length-map, map-append, take_all}
use Rattle.std.proofs.lemmas.Result.{err_from_is_err_and}
use Rattle.pv_base.proofs.AnswerLemmas.{answered}
use Rattle.pv_format.specs.Contents.{IsFirstBadContent, IsNoRecord, SpellRecords, greatest_epoch}
use Rattle.pv_law_format.proofs.ReplayLemmas.{one-replay-answer}
use Rattle.pv_replay.specs.Values.{contents_of, index_of, record_of, records_of}
use Rattle.pv_replay.specs.declared.error.ReplayError.TheVariants.{BadRecord, NoMemory}
use Rattle.pv_format.specs.RecordSpelling.{IsReadAs}
use Rattle.pv_replay.specs.declared.record.Record.{Record}
use Rattle.pv_replay.specs.declared.past.Past.{Past}
use Rattle.pv_replay.proofs.ReplayLemmas.{first_bad, records_more, greatest_epoch-more}
use Rattle.pv_replay.proofs.past.replay.Goals as goal

-- A record was found, or none.
abbrev Found : List ℕ → Option Record → Type 0
Found content found = MatchOption found (IsNoRecord content) (λ value. IsReadAs (record_of value) content)

found : (content : List ℕ) (told is : Option Record) → told ≡ is → Found content told → Found content is
found content told is same what = subst (Found content) same what

pub returns-in_err-records-clause-answer : goal.returns-in_err-records-clause-answer
returns-in_err-records-clause-answer c =
    let p = err_from_is_err_and c.from_residual.result c.from_residual.ensures.1 in
    rw (p.1, p.2)
    (answered (λ records. SpellRecords records (contents_of c.args.contents.now)) (IsFirstBadContent (contents_of c.args.contents.now))
    (one-replay-answer (contents_of c.args.contents.now)) (λ (past : Past). records_of past.records.items) index_of (Err NoMemory) tt tt)

pub returns-in_err-record-clause-answer : goal.returns-in_err-record-clause-answer
returns-in_err-record-clause-answer c =
    let p = err_from_is_err_and c.from_residual-in_err-record.result c.from_residual-in_err-record.ensures.1 in
    rw (p.1, p.2)
    (answered (λ records. SpellRecords records (contents_of c.args.contents.now)) (IsFirstBadContent (contents_of c.args.contents.now))
    (one-replay-answer (contents_of c.args.contents.now)) (λ (past : Past). records_of past.records.items) index_of (Err NoMemory) tt tt)

pub returns-in_err-push-in-Some-clause-answer : goal.returns-in_err-push-in-Some-clause-answer
returns-in_err-push-in-Some-clause-answer c =
    let p = err_from_is_err_and c.from_residual-in_err-push-in-Some.result c.from_residual-in_err-push-in-Some.ensures.1 in
    rw (p.1, p.2)
    (answered (λ records. SpellRecords records (contents_of c.args.contents.now)) (IsFirstBadContent (contents_of c.args.contents.now))
    (one-replay-answer (contents_of c.args.contents.now)) (λ (past : Past). records_of past.records.items) index_of (Err NoMemory) tt tt)

pub returns-in-None-clause-answer : goal.returns-in-None-clause-answer
returns-in-None-clause-answer c =
    let index : c.len.result ≡ c.loop-content.content-index = omega arith in
    answered (λ records. SpellRecords records (contents_of c.args.contents.now)) (IsFirstBadContent (contents_of c.args.contents.now))
    (one-replay-answer (contents_of c.args.contents.now)) (λ (past : Past). records_of past.records.items) index_of (Err (BadRecord c.len.result)) tt
    (subst (IsFirstBadContent (contents_of c.args.contents.now)) (sym index)
    (first_bad c.args.contents.now c.loop-content.content-index c.content-item.result c.loop-content-test.true c.content-item.is c.loop-content.records.items
    c.loop-content.invariant.spelled
    (subst IsNoRecord c.deref.ensures.value (found c.deref.result.now c.in_ok-record.field-0 None c.in-None.is c.in_ok-record.ensures))))

pub loop-content-preserved : goal.loop-content-preserved
loop-content-preserved c =
    let one = subst (IsReadAs (record_of c.in-Some.record)) c.deref.ensures.value (found c.deref.result.now c.in_ok-record.field-0 (Some c.in-Some.record) c.in-Some.is c.in_ok-record.ensures) in
    rw c.in_ok-push-in-Some.ensures.items
    record {
      counted = let more = length-append c.loop-content.records.items (c.in-Some.record ∷ []) in let so_far = c.loop-content.invariant.counted in omega arith;
      spelled = records_more c.args.contents.now c.loop-content.content-index c.content-item.result c.loop-content-test.true c.content-item.is c.loop-content.records.items
          c.in-Some.record c.loop-content.invariant.spelled one;
      epoch = c.later_epoch-epoch.ensures ∙ ap (λ n. max n (greatest_epoch (record_of c.in-Some.record ∷ []))) c.loop-content.invariant.epoch
          ∙ sym (greatest_epoch-more (records_of c.loop-content.records.items) (record_of c.in-Some.record))
          ∙ ap greatest_epoch (sym (map-append record_of c.loop-content.records.items (c.in-Some.record ∷ [])));
    }

pub returns-clause-answer : goal.returns-clause-answer
returns-clause-answer c =
    let contents : List (Vec ℕ) = c.args.contents.now in
    let all : length (contents_of contents) ≤ c.loop-content.content-index
    = subst (λ n. n ≤ c.loop-content.content-index) (sym (length-map contents (λ (v : Vec ℕ). v.items))) c.loop-content-test.false in
    answered (λ records. SpellRecords records (contents_of contents)) (IsFirstBadContent (contents_of contents))
    (one-replay-answer (contents_of contents)) (λ (past : Past). records_of past.records.items) index_of
    (Ok (record { epoch = c.loop-content.epoch; records = c.loop-content.records }))
    (subst (SpellRecords (records_of c.loop-content.records.items)) (take_all c.loop-content.content-index (contents_of contents) all) c.loop-content.invariant.spelled) tt
