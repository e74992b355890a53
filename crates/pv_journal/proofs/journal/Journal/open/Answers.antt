-- The sync gives nothing, and the reads after it what shows that there is no journal.
use Rattle.std.proofs.Common.{rules, sym, subst}
use Rattle.pv_journal.specs.Outline.{OutlinesNone}
use Rattle.pv_law_calls.specs.Reading.{Gave}
use Rattle.pv_law_calls.proofs.GivenLemmas.{gave_later}
use Rattle.pv_journal.proofs.journal.Journal.open.Goals as goal

pub returns-in-Err-NotOurs : goal.returns-in-Err-NotOurs
returns-in-Err-NotOurs g c =
    let M = g.D.Disk.model in
    let told = c.find_end.ensures.gave_none c.in-Err-NotOurs.place (search rules) in
    let gave : Gave M c.args.disk c.find_end.new.disk (λ read. OutlinesNone read c.in-Err-NotOurs.place) =
    gave_later M c.args.disk c.sync.new.self c.find_end.new.disk (λ read. OutlinesNone read c.in-Err-NotOurs.place) c.sync.ensures.gives told in (
      search rules,
      search rules,
      search rules,
      search rules,
      search rules,
      subst (λ n. Gave M c.args.disk c.find_end.new.disk (λ read. OutlinesNone read n)) (sym c.in-Err-NotOurs.place-is) gave,
    )
