-- Each of the three calls, and what a crash in it leaves.
use Rattle.std.proofs.Common.{arith, ◌≡◌, List, ℕ, inl, inr, refl, ◌∙◌, ap, Some, Err, drop, ◌++◌}
use Rattle.std.proofs.lemmas.Result.{err_from_is_err_and}
use Rattle.pv_journal.specs.Opening.{empty_journal}
use Rattle.pv_journal.proofs.FormatLemmas.{after_header, after_sync, no_room, disk_failed}
use Rattle.pv_journal.proofs.journal.format.Goals as goal

pub returns-in_err-reserve : goal.returns-in_err-reserve
returns-in_err-reserve g c =
    let p = err_from_is_err_and c.from_residual.result c.from_residual.ensures.1 in
    no_room g.D.Disk.model c.args.disk.now (Unit {0}) c.reserve.new.self c.in_err-reserve.field-0.0 c.from_residual.result (p.1 ∙ ap Err p.2) c.in_err-reserve.ensures.effect
    c.in_err-reserve.ensures.goes

pub returns-in_err-write_at : goal.returns-in_err-write_at
returns-in_err-write_at g c =
    let M = g.D.Disk.model in
    let p = err_from_is_err_and c.from_residual-in_err-write_at.result c.from_residual-in_err-write_at.ensures.1 in
    disk_failed M c.args.disk.now c.write_at.new.self c.from_residual-in_err-write_at.result (p.1 ∙ ap Err p.2)
    record {
      known = c.in_err-write_at.ensures.effect.known ∙ c.in_ok-reserve.ensures.effect.0.known;
      any_moment = after_header M c.args.disk.now c.reserve.new.self c.write_at.new.self c.in_ok-reserve.ensures.effect.0 c.in_err-write_at.ensures.effect.any_moment;
      faults = omega (arith, c.in_ok-reserve.ensures.effect.0.faults, c.in_err-write_at.ensures.effect.fault.0);
      calls = inr (c.reserve.new.self, c.in_ok-reserve.ensures.goes, inl (refl, c.in_err-write_at.ensures.goes));
    }
    (omega (arith, c.in_ok-reserve.ensures.effect.0.faults, c.in_err-write_at.ensures.effect.fault.1))

pub returns-in_err-sync : goal.returns-in_err-sync
returns-in_err-sync g c =
    let M = g.D.Disk.model in
    let p = err_from_is_err_and c.from_residual-in_err-sync.result c.from_residual-in_err-sync.ensures.1 in
    let written = after_header M c.args.disk.now c.reserve.new.self c.write_at.new.self c.in_ok-reserve.ensures.effect.0 c.in_ok-write_at.ensures.effect.any_moment in
    disk_failed M c.args.disk.now c.sync.new.self c.from_residual-in_err-sync.result (p.1 ∙ ap Err p.2)
    record {
      known = c.in_err-sync.ensures.effect.observes.known ∙ c.in_ok-write_at.ensures.effect.known ∙ c.in_ok-reserve.ensures.effect.0.known;
      any_moment = after_sync M c.args.disk.now c.write_at.new.self c.sync.new.self written c.in_err-sync.ensures.effect.observes.any_moment;
      faults = omega (arith, c.in_ok-reserve.ensures.effect.0.faults, c.in_ok-write_at.ensures.effect.fault.0, c.in_err-sync.ensures.effect.observes.fault.0);
      calls = inr (c.reserve.new.self, c.in_ok-reserve.ensures.goes, inr (c.write_at.new.self, c.in_ok-write_at.ensures.goes, inl (refl, c.in_err-sync.ensures.goes)));
    }
    (omega (arith, c.in_ok-reserve.ensures.effect.0.faults, c.in_ok-write_at.ensures.effect.fault.0, c.in_err-sync.ensures.effect.observes.fault.1))

pub returns : goal.returns
returns g c =
    let M = g.D.Disk.model in
    let written = after_header M c.args.disk.now c.reserve.new.self c.write_at.new.self c.in_ok-reserve.ensures.effect.0 c.in_ok-write_at.ensures.effect.any_moment in (
      record {
        known = c.in_ok-sync.ensures.effect.observes.known ∙ c.in_ok-write_at.ensures.effect.known ∙ c.in_ok-reserve.ensures.effect.0.known;
        any_moment = after_sync M c.args.disk.now c.write_at.new.self c.sync.new.self written c.in_ok-sync.ensures.effect.observes.any_moment;
        faults = omega (arith, c.in_ok-reserve.ensures.effect.0.faults, c.in_ok-write_at.ensures.effect.fault.0, c.in_ok-sync.ensures.effect.observes.fault.0);
        calls = inr (c.reserve.new.self, c.in_ok-reserve.ensures.goes, inr (c.write_at.new.self, c.in_ok-write_at.ensures.goes, inr (c.sync.new.self, c.in_ok-sync.ensures.goes, (refl, refl))));
      },
      λ held is.
          let empty = c.requires held is in
          let made : M.content c.write_at.new.self ≡ Some empty_journal =
          c.in_ok-write_at.ensures.effect.content held (c.in_ok-reserve.ensures.effect.1 ∙ is) ∙ ap (λ (l : List ℕ). Some (empty_journal ++ drop 9 l)) empty in
          (c.in_ok-sync.ensures.effect.observes.content ∙ made, λ left may. c.in_ok-sync.ensures.effect.durable empty_journal made left may),
      c.in_ok-sync.ensures.effect.observes.uncounted ∙ c.in_ok-write_at.ensures.effect.uncounted ∙ c.in_ok-reserve.ensures.effect.4,
    )
