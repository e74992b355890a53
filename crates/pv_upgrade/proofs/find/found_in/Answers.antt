-- The contents are read as records, and their old spellings are replaced.
use Rattle.std.proofs.Common.{ℕ, List, subst, arith}
use Rattle.std.specs.Prelude.{Vec}
use Rattle.std.specs.declared.alloc.Global.{Global}
use Rattle.pv_format.specs.Contents.{SpellRecords}
use Rattle.pv_replay.specs.Values.{contents_of, records_of}
use Rattle.pv_upgrade.proofs.FindLemmas.{found-full, found-none, found-old}
use Rattle.pv_upgrade.proofs.find.found_in.Goals as goal

pub returns-then-renewed-eq0-clause-found : goal.returns-then-renewed-eq0-clause-found
returns-then-renewed-eq0-clause-found c = λ was log.
    let records = records_of c.in-Ok.field-0.records.items in
    let spelled = subst (λ (l : List (Vec ℕ Global)). SpellRecords records (contents_of l)) c.deref.ensures.value c.in-Ok.ensures.answer.given in
    found-none c.args.limit was (contents_of c.args.contents.items) log records spelled c.in_ok-renewed.renewed c.in_ok-renewed.ensures c.if-renewed-eq0.true

pub returns-then-renewed-limit-clause-found : goal.returns-then-renewed-limit-clause-found
returns-then-renewed-limit-clause-found c = λ was log.
    let records = records_of c.in-Ok.field-0.records.items in
    let spelled = subst (λ (l : List (Vec ℕ Global)). SpellRecords records (contents_of l)) c.deref.ensures.value c.in-Ok.ensures.answer.given in
    found-full c.args.limit was (contents_of c.args.contents.items) log records spelled c.in_ok-renewed.renewed c.in_ok-renewed.ensures c.if-renewed-eq0.false
    (omega (arith, c.if-renewed-limit.true))

pub returns-clause-found : goal.returns-clause-found
returns-clause-found c = λ was log.
    let records = records_of c.in-Ok.field-0.records.items in
    let spelled = subst (λ (l : List (Vec ℕ Global)). SpellRecords records (contents_of l)) c.deref.ensures.value c.in-Ok.ensures.answer.given in
    found-old c.args.limit was (contents_of c.args.contents.items) log records spelled c.in_ok-renewed.renewed c.in_ok-renewed.ensures
