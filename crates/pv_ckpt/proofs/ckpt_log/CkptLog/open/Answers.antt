use Rattle.std.proofs.Common.{rules, ◌≡◌, List, ℕ, refl, sym, ◌∙◌, ◌++◌, subst, false, Err}
use Rattle.pv_disk_model.specs.Size.{Contents, size_of}
use Rattle.pv_law_calls.specs.Reading.{LooksBy}
use Rattle.pv_law_calls.proofs.GivenLemmas.{gave_later}
use Rattle.pv_law_checkpoints.specs.TwoAreas.{IsNotOurs}
use Rattle.pv_ckpt.specs.Outline.{GaveNoOutline, GaveOutline, IsOutlined, OutlinesNone}
use Rattle.pv_ckpt.specs.Roots.{IsHeld}
use Rattle.pv_ckpt.specs.declared.ckpt_log.CkptLog.{CkptLog}
use Rattle.pv_ckpt.specs.declared.reading.Measured.{Measured}
use Rattle.pv_ckpt.proofs.OpenLemmas.{durable_after, opened_after, opened_intact, sync_done}
use Rattle.pv_ckpt.proofs.ckpt_log.CkptLog.open.Goals as goal

pub returns-in-Err-NotOurs : goal.returns-in-Err-NotOurs
returns-in-Err-NotOurs g c =
    let M = g.D.Disk.model in
    let place = c.in-Err-NotOurs.place in
    let done = sync_done M c.args.disk c.sync.new.self c.sync.result c.if-is_err.ensures.value c.sync.ensures.effect c.sync.ensures.goes in
    let looks = subst (λ e. LooksBy M {X = Measured} c.sync.new.self c.measure_log.new.disk (Err e)) c.in-Err-NotOurs.field-0-is c.in-Err-NotOurs.ensures.effect in
    let told = c.measure_log.ensures.gave_none place (search rules) in
    let gave : GaveNoOutline M c.args.disk c.measure_log.new.disk place =
    gave_later M c.args.disk c.sync.new.self c.measure_log.new.disk (λ read. OutlinesNone read place) c.sync.ensures.gives told in (
      opened_after M c.args.disk c.sync.new.self c.measure_log.new.disk done.0 looks,
      (c.sync.new.self, done.1, looks.0.reads),
      looks.1 ∙ done.0.observes.content,
      λ bytes is.
          subst (IsNotOurs bytes) (sym c.in-Err-NotOurs.place-is)
          (c.measure_log.ensures.not_ours place (search rules) bytes (done.0.observes.content ∙ is)),
      looks.2 ∙ done.0.observes.uncounted,
      subst (λ n. GaveNoOutline M c.args.disk c.measure_log.new.disk n) (sym c.in-Err-NotOurs.place-is) gave,
    )

pub returns-then-log-gt-MAX_LENGTH : goal.returns-then-log-gt-MAX_LENGTH
returns-then-log-gt-MAX_LENGTH g c =
    let M = g.D.Disk.model in
    let old = c.args.disk in
    let mid = c.sync.new.self in
    let new = c.measure_log.new.disk in
    let looks = c.in-Ok.ensures.effect in
    let done = sync_done M old mid c.sync.result c.if-is_err.ensures.value c.sync.ensures.effect c.sync.ensures.goes in
    (opened_after M old mid new done.0 looks, (mid, done.1, looks.0.reads), looks.1 ∙ done.0.observes.content, looks.2 ∙ done.0.observes.uncounted)

pub returns-else-log-gt-MAX_LENGTH : goal.returns-else-log-gt-MAX_LENGTH
returns-else-log-gt-MAX_LENGTH g c =
    let M = g.D.Disk.model in
    let old = c.args.disk in
    let mid = c.sync.new.self in
    let new = c.measure_log.new.disk in
    let found = c.in-Ok.log in
    let looks = c.in-Ok.ensures.effect in
    let done = sync_done M old mid c.sync.result c.if-is_err.ensures.value c.sync.ensures.effect c.sync.ensures.goes in
    let log : CkptLog g.row.D.Denot =
    record { disk = new; root = found.root; end = found.end; frame = c.new.result; length = found.length; limit = c.args.limit; down = false } in
    let gave : GaveOutline M old new found.root found.end found.length =
    gave_later M old mid new
    (λ read. (bytes : List ℕ) × (packed : Contents) × (later : Contents) × IsOutlined bytes read packed later × IsHeld bytes found.root found.end packed later
    × (found.length ≡ size_of (packed ++ later)))
    c.sync.ensures.gives c.in-Ok.ensures.gave in (
      opened_after M old mid new done.0 looks,
      (mid, done.1, looks.0.reads),
      looks.1 ∙ done.0.observes.content,
      opened_intact M log old c.if-log-gt-MAX_LENGTH.false c.requires.most gave (λ bytes now. c.in-Ok.ensures.found bytes (sym looks.1 ∙ now)) (durable_after M old mid new done.0 looks),
      refl,
      refl,
      looks.2 ∙ done.0.observes.uncounted,
      gave,
    )
