-- One number after another.
use Rattle.std.proofs.Common.{arith, Some}
use Rattle.std.proofs.lemmas.Result.{err_from_is_err_and}
use Rattle.pv_base.specs.BigEndian.{IsNumber}
use Rattle.pv_format.specs.FirstFault.{short}
use Rattle.pv_format.specs.Layout.{any, number_then, site_layout}
use Rattle.pv_format.specs.Spelling.{◌followed_by◌, IsSite}
use Rattle.pv_replay.specs.Faults.{fault_of}
use Rattle.pv_fields.proofs.PartLemmas.{passes_any, passes_both, stops_any, stops_first, stops_second}
use Rattle.pv_replay.proofs.LeftLemmas.{gone_further, gone_nowhere}
use Rattle.pv_replay.proofs.fields.take_txn.Goals as goal

pub returns-in_err-site-clause-stops : goal.returns-in_err-site-clause-stops
returns-in_err-site-clause-stops c =
    let p = err_from_is_err_and c.from_residual.result c.from_residual.ensures.1 in
    rw (p.1, p.2) (stops_first site_layout (λ next. number_then 4 any (λ _. number_then 4 any (λ _. next))) c.args.take.now (fault_of c.in_err-site.field-0.0) c.in_err-site.ensures.stops)

pub returns-in_err-epoch-clause-stops : goal.returns-in_err-epoch-clause-stops
returns-in_err-epoch-clause-stops c =
    let p = err_from_is_err_and c.from_residual-in_err-epoch.result c.from_residual-in_err-epoch.ensures.1 in
    rw (p.1, p.2) (stops_second (IsSite c.in_ok-site.site.0) site_layout (λ next. number_then 4 any (λ _. number_then 4 any (λ _. next))) c.args.take.now c.take_site.new.take
    (Some (short c.in_err-epoch.field-0.0.0)) c.in_ok-site.ensures.passes
    (stops_first (λ next. number_then 4 any (λ _. next)) (λ next. number_then 4 any (λ _. next)) c.take_site.new.take (Some (short c.in_err-epoch.field-0.0.0))
    (stops_any 4 c.take_site.new.take c.u32.new.self c.in_err-epoch.field-0.0 c.in_err-epoch.ensures.short)))

pub returns-in_err-number-clause-stops : goal.returns-in_err-number-clause-stops
returns-in_err-number-clause-stops c =
    let p = err_from_is_err_and c.from_residual-in_err-number.result c.from_residual-in_err-number.ensures.1 in
    rw (p.1, p.2) (stops_second (IsSite c.in_ok-site.site.0) site_layout (λ next. number_then 4 any (λ _. number_then 4 any (λ _. next))) c.args.take.now c.take_site.new.take
    (Some (short c.in_err-number.field-0.0.0)) c.in_ok-site.ensures.passes
    (stops_second (IsNumber 4 c.in_ok-epoch.epoch) (λ next. number_then 4 any (λ _. next)) (λ next. number_then 4 any (λ _. next)) c.take_site.new.take c.u32.new.self
    (Some (short c.in_err-number.field-0.0.0)) (passes_any 4 c.in_ok-epoch.epoch c.take_site.new.take c.u32.new.self c.in_ok-epoch.ensures.taken (omega arith))
    (stops_any 4 c.u32.new.self c.u32-2.new.self c.in_err-number.field-0.0 c.in_err-number.ensures.short)))

pub returns-clause-passes : goal.returns-clause-passes
returns-clause-passes c =
    passes_both (IsSite c.in_ok-site.site.0) (IsNumber 4 c.in_ok-epoch.epoch followed_by IsNumber 4 c.in_ok-number.number) site_layout
    (λ next. number_then 4 any (λ _. number_then 4 any (λ _. next))) c.args.take.now c.take_site.new.take c.u32-2.new.self c.in_ok-site.ensures.passes
    (passes_both (IsNumber 4 c.in_ok-epoch.epoch) (IsNumber 4 c.in_ok-number.number) (λ next. number_then 4 any (λ _. next))
    (λ next. number_then 4 any (λ _. next)) c.take_site.new.take c.u32.new.self c.u32-2.new.self
    (passes_any 4 c.in_ok-epoch.epoch c.take_site.new.take c.u32.new.self c.in_ok-epoch.ensures.taken (omega arith))
    (passes_any 4 c.in_ok-number.number c.u32.new.self c.u32-2.new.self c.in_ok-number.ensures.taken (omega arith)))

pub returns-in_err-number-clause-left : goal.returns-in_err-number-clause-left
returns-in_err-number-clause-left c =
    gone_further c.args.take.now c.take_site.new.take c.u32-2.new.self c.take_site.ensures.left
    (gone_further c.take_site.new.take c.u32.new.self c.u32-2.new.self (_, c.in_ok-epoch.ensures.taken) (gone_nowhere c.u32.new.self c.u32-2.new.self c.in_err-number.ensures.short.stays))

pub returns-clause-left : goal.returns-clause-left
returns-clause-left c =
    gone_further c.args.take.now c.take_site.new.take c.u32-2.new.self c.take_site.ensures.left
    (gone_further c.take_site.new.take c.u32.new.self c.u32-2.new.self (_, c.in_ok-epoch.ensures.taken) (_, c.in_ok-number.ensures.taken))
