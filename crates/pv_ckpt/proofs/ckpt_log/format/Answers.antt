-- Room, the write and its sync, and what a crash in each leaves.
use Rattle.std.proofs.Common.{arith, List, ℕ, true, false, inr, refl, ◌∙◌, ap, subst, Some, Err, drop, ◌++◌}
use Rattle.std.proofs.lemmas.Result.{err_from_is_err_and}
use Rattle.pv_disk_model.specs.Calls.{Makes}
use Rattle.pv_ckpt.specs.Writing.{synced_write}
use Rattle.pv_ckpt.proofs.FormatLemmas.{after_write, disk_failed, empty, empty-formatted, no_room}
use Rattle.pv_ckpt.proofs.ckpt_log.format.Goals as goal

pub returns-in_err-reserve : goal.returns-in_err-reserve
returns-in_err-reserve g c =
    let p = err_from_is_err_and c.from_residual.result c.from_residual.ensures.1 in
    no_room g.D.Disk.model c.args.disk.now (Unit {0}) c.reserve.new.self c.in_err-reserve.field-0.0 c.from_residual.result (p.1 ∙ ap Err p.2) c.in_err-reserve.ensures.effect
    c.in_err-reserve.ensures.goes

pub returns-in_err-write_synced : goal.returns-in_err-write_synced
returns-in_err-write_synced g c =
    let M = g.D.Disk.model in
    let p = err_from_is_err_and c.from_residual-in_err-write_synced.result c.from_residual-in_err-write_synced.ensures.1 in
    let makes = c.in_ok-reserve.ensures.effect.0 in
    let wrote = c.in_err-write_synced.ensures.effect in
    disk_failed M c.args.disk.now c.write_synced.new.disk c.from_residual-in_err-write_synced.result (p.1 ∙ ap Err p.2)
    record {
      known = wrote.known ∙ makes.known;
      any_moment = after_write M c.args.disk.now c.reserve.new.self c.write_synced.new.disk empty _ makes refl wrote;
      faults = omega (arith, makes.faults, wrote.fault.0);
      calls = inr (
        c.reserve.new.self,
        c.in_ok-reserve.ensures.goes,
        subst (λ (l : List ℕ). Makes M.goes c.reserve.new.self (synced_write 0 l) false c.write_synced.new.disk) empty-formatted c.in_err-write_synced.ensures.calls,
      );
    }
    (omega (arith, makes.faults, wrote.fault.1))

pub returns : goal.returns
returns g c =
    let M = g.D.Disk.model in
    let makes = c.in_ok-reserve.ensures.effect.0 in
    let wrote = c.in_ok-write_synced.ensures.effect in (
      record {
        known = wrote.known ∙ makes.known;
        any_moment = after_write M c.args.disk.now c.reserve.new.self c.write_synced.new.disk empty _ makes refl wrote;
        faults = omega (arith, makes.faults, wrote.fault.0);
        calls = inr (
          c.reserve.new.self,
          c.in_ok-reserve.ensures.goes,
          subst (λ (l : List ℕ). Makes M.goes c.reserve.new.self (synced_write 0 l) true c.write_synced.new.disk) empty-formatted c.in_ok-write_synced.ensures.calls,
        );
      },
      λ held is.
          let none = c.requires held is in
          let there = c.in_ok-reserve.ensures.effect.1 ∙ is in (
            wrote.content held there ∙ ap (λ (l : List ℕ). Some (empty ++ drop 59 l)) none ∙ ap (λ (l : List ℕ). Some l) empty-formatted,
            λ left may. wrote.durable held there left may ∙ ap (λ (l : List ℕ). empty ++ drop 59 l) none ∙ empty-formatted,
          ),
      wrote.uncounted ∙ c.in_ok-reserve.ensures.effect.4,
    )
