-- What is written is the summary of exactly what the run prints.
use Rattle.std.proofs.Common.{◌≡◌, ◌≢◌, ℕ, List, [], length, map, OnOk, rules, vec_len, refl, sym, ap, ◌∙◌, subst}
use Rattle.std.proofs.lemmas.List.{length-map}
use Rattle.std.specs.Io.KnownBytes.{Appends}
use Rattle.pv_io.specs.Stream.{AppendsPrefix}
use Rattle.pv_script.specs.LineView.{line_of}
use Rattle.pv_script.specs.ScheduleView.{event_of, schedule_of}
use Rattle.pv_run.specs.Summary.{summary_of}
use Rattle.pv_run.specs.declared.status.Status.TheVariants.{Done}
use Rattle.pv_run.proofs.AnswerLemmas.{answered_summary, none-where-false, prefix_of_answer, prefix_of_run, summary-is, wanted_of_answer, wanted_of_write}
use Rattle.pv_run.proofs.LimitLemmas.{lines-within-limit}
use Rattle.pv_run.proofs.answers.write_summary_of_run.Goals as goal

pub returns-in-Ok-sum_up-clause-answered : goal.returns-in-Ok-sum_up-clause-answered
returns-in-Ok-sum_up-clause-answered g c = λ input short says.
    let schedule = schedule_of c.args.schedule.now in
    let old = g.W.Sink.held c.args.sink.now in
    let new = g.W.Sink.held c.write_all.new.sink in
    let within = sym c.in-Ok.ensures.over ∙ none-where-false c.in-Ok.printed.over c.is_some.result c.is_some.ensures c.if-is_some.false in
    let whole : vec_len c.args.schedule.now.events ≡ length c.args.schedule.now.events.items = search rules in
    let counted = c.len.ensures ∙ whole ∙ sym (length-map c.args.schedule.now.events.items event_of) in
    let lines = ap (map line_of) c.deref.ensures.value ∙ c.in-Ok.ensures.lines ∙ lines-within-limit schedule within in
    let same = summary-is schedule c.len.result (map line_of c.deref.result.now) c.in-Ok-sum_up.text.items counted lines c.in-Ok-sum_up.ensures in
    answered_summary input schedule c.write_all.result c.end_of_summary.result old new short says within c.end_of_summary.ensures
    (subst (λ (text : List ℕ). OnOk c.write_all.result (Appends old new text)) (c.deref-in-Ok-sum_up.ensures.value ∙ same) c.write_all.ensures.writes.written)

pub returns-in-Ok-sum_up-clause-prefix : goal.returns-in-Ok-sum_up-clause-prefix
returns-in-Ok-sum_up-clause-prefix g c = λ input short says status output is.
    let schedule = schedule_of c.args.schedule.now in
    let old = g.W.Sink.held c.args.sink.now in
    let new = g.W.Sink.held c.write_all.new.sink in
    let within = sym c.in-Ok.ensures.over ∙ none-where-false c.in-Ok.printed.over c.is_some.result c.is_some.ensures c.if-is_some.false in
    let whole : vec_len c.args.schedule.now.events ≡ length c.args.schedule.now.events.items = search rules in
    let counted = c.len.ensures ∙ whole ∙ sym (length-map c.args.schedule.now.events.items event_of) in
    let lines = ap (map line_of) c.deref.ensures.value ∙ c.in-Ok.ensures.lines ∙ lines-within-limit schedule within in
    let same = summary-is schedule c.len.result (map line_of c.deref.result.now) c.in-Ok-sum_up.text.items counted lines c.in-Ok-sum_up.ensures in
    let written = prefix_of_run c.write_all.result old new c.deref-in-Ok-sum_up.result.now c.write_all.ensures.writes.written c.write_all.ensures.writes.prefix in
    prefix_of_answer summary_of (λ schedule. []) input Done status (summary_of schedule) output old new (short, schedule, says, within, refl)
    (subst (AppendsPrefix old new) (c.deref-in-Ok-sum_up.ensures.value ∙ same) written) is

pub returns-in-Ok-sum_up-clause-some : goal.returns-in-Ok-sum_up-clause-some
returns-in-Ok-sum_up-clause-some g c = λ input short says status output is fault.
    let schedule = schedule_of c.args.schedule.now in
    let within = sym c.in-Ok.ensures.over ∙ none-where-false c.in-Ok.printed.over c.is_some.result c.is_some.ensures c.if-is_some.false in
    let whole : vec_len c.args.schedule.now.events ≡ length c.args.schedule.now.events.items = search rules in
    let counted = c.len.ensures ∙ whole ∙ sym (length-map c.args.schedule.now.events.items event_of) in
    let lines = ap (map line_of) c.deref.ensures.value ∙ c.in-Ok.ensures.lines ∙ lines-within-limit schedule within in
    let same = summary-is schedule c.len.result (map line_of c.deref.result.now) c.in-Ok-sum_up.text.items counted lines c.in-Ok-sum_up.ensures in
    let some = wanted_of_write c.write_all.result c.end_of_summary.result c.deref-in-Ok-sum_up.result.now c.end_of_summary.ensures c.write_all.ensures.writes.some fault in
    wanted_of_answer summary_of (λ schedule. []) input Done status (summary_of schedule) output (short, schedule, says, within, refl)
    (subst (λ (text : List ℕ). text ≢ []) (c.deref-in-Ok-sum_up.ensures.value ∙ same) some) is
