-- No record, a record as it is written, or an old spelling.
use Rattle.std.proofs.Common.{◌≡◌, ◌∙◌, true, List, ℕ, Option, MatchOption, inr, ap, sym, subst}
use Rattle.std.proofs.lemmas.Bool.{true≢false}
use Rattle.pv_format.specs.Contents.{IsNoRecord}
use Rattle.pv_format.specs.RecordSpelling.{IsReadAs}
use Rattle.pv_law_format.proofs.AnswerLemmas.{one-record}
use Rattle.pv_law_format.proofs.RangeLemmas.{read-from, record-spelled}
use Rattle.pv_replay.specs.Content.{promises_unsure}
use Rattle.pv_replay.specs.Values.{record_of}
use Rattle.pv_replay.specs.declared.record.Record.{Record}
use Rattle.pv_replay.proofs.ContentLemmas.{old_kind, old_promises, unsure_old}
use Rattle.pv_replay.proofs.past.respelled.Goals as goal

-- The content is read as the record that was found, or as none.
abbrev Found : List ℕ → Option Record → Type 0
Found content found = MatchOption found (IsNoRecord content) (λ value. IsReadAs (record_of value) content)

pub returns-in_default : goal.returns-in_default
returns-in_default c = λ entry old.
    let none = subst (Found c.args.content.now) c.in_default.is c.in_ok-record.ensures in
    none entry (inr old)

pub returns-then-not-begins_with : goal.returns-then-not-begins_with
returns-then-not-begins_with c = λ entry old.
    let first = old_kind entry c.args.content.now old in
    c.begins_with.ensures.other c.if-not-begins_with.true first.0 first.1

pub returns-then-not-promises_unsure : goal.returns-then-not-promises_unsure
returns-then-not-promises_unsure c = λ entry old.
    let value = record_of c.in-Some.record in
    let read : IsReadAs value c.args.content.now = subst (Found c.args.content.now) c.in-Some.is c.in_ok-record.ensures in
    let same : value ≡ entry = one-record c.args.content.now value entry read (inr old) in
    let unsure : promises_unsure value ≡ true = ap promises_unsure same ∙ old_promises entry c.args.content.now old in
    true≢false (sym unsure ∙ sym c.promises_unsure.ensures ∙ c.if-not-promises_unsure.true)

pub encode_record-requires : goal.encode_record-requires
encode_record-requires c =
    let value = record_of c.in-Some.record in
    let read : IsReadAs value c.args.content.now = subst (Found c.args.content.now) c.in-Some.is c.in_ok-record.ensures in
    record-spelled value (read-from value c.args.content.now read)

pub returns : goal.returns
returns c =
    let value = record_of c.in-Some.record in
    let read : IsReadAs value c.args.content.now = subst (Found c.args.content.now) c.in-Some.is c.in_ok-record.ensures in
    let begun = c.begins_with.ensures.begun c.if-not-begins_with.false in
    (value, unsure_old value c.args.content.now begun.0 read begun.1 (sym c.promises_unsure.ensures ∙ c.if-not-promises_unsure.false), c.in_ok-encode_record.ensures)
