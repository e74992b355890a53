use Rattle.std.proofs.Common.{rules, arith, ◌≡◌, ℕ, List, [], ◌∷◌, ◌++◌, sym, ◌∙◌, ap, subst, drop, ◌+◌, ◌-◌}
use Rattle.pv_base.specs.BigEndian.{big_endian}
use Rattle.pv_format.specs.Journal.{record_of}
use Rattle.pv_journal.specs.Reading.{EndsBefore, IsGate, StandsAt}
use Rattle.pv_journal.specs.declared.reading.Gate.{Gate}
use Rattle.pv_journal.specs.declared.reading.Gate.TheVariants.{Open}
use Rattle.pv_law_calls.proofs.LookLemmas.{looked_ok, looks_none}
use Rattle.pv_ckpt.specs.Outline.{gate_of}
use Rattle.pv_ckpt.specs.Reading.{BeginsAt, ReadsCut}
use Rattle.pv_ckpt.proofs.RecordLemmas.{HasRead, content_for, ends, is_cut, none_read, one_more, record_there}
use Rattle.pv_ckpt.proofs.reading.measure_records.Goals as goal

pub loop-count-init : goal.loop-count-init
loop-count-init g c =
    let M = g.D.Disk.model in
    (looks_none M c.args.disk.now, c.requires.within, omega arith, ([], none_read M gate_of c.args.disk.now c.args.start))

pub returns-in_err-gate_at-clause-not_ours : goal.returns-in_err-gate_at-clause-not_ours
returns-in_err-gate_at-clause-not_ours g c place known =
    let M = g.D.Disk.model in
    let inv = c.loop-count.invariant in
    let later = inv.3.0 in
    let told = c.gate_at.ensures.gave_none place (search rules) in
    let gave = told.1 in (
      later,
      subst (λ n. ReadsCut M gate_of c.args.disk.now c.gate_at.new.disk c.args.start n later) (sym told.0)
          (is_cut M gate_of c.args.disk.now c.args.start c.loop-count.disk c.loop-count.place later inv.3.1 c.gate_at.new.disk (c.args.size - c.loop-count.place) gave.0 gave.1 gave.2
          (λ bytes is. (c.gate_at.ensures.not_ours place (search rules) bytes (inv.0.1 ∙ is)).1)),
    )

pub returns-in-Closed-clause-effect : goal.returns-in-Closed-clause-effect
returns-in-Closed-clause-effect g c = looked_ok g.D.Disk.model c.args.disk.now c.loop-count.disk c.gate_at.new.disk c.loop-count.invariant.0 c.in_ok-gate_at.ensures.effect

pub returns-in-Closed-clause-records : goal.returns-in-Closed-clause-records
returns-in-Closed-clause-records g c =
    let M = g.D.Disk.model in
    let inv = c.loop-count.invariant in
    let gave = c.in_ok-gate_at.ensures.gave in (
      inv.3.0,
      ends M gate_of c.args.disk.now c.args.start c.loop-count.disk c.loop-count.place inv.3.0 inv.3.1 c.gate_at.new.disk gave.0 gave.1 (subst (IsGate gave.0) c.in-Closed.is gave.2)
          (λ bytes is. subst (StandsAt (drop c.loop-count.place bytes)) c.in-Closed.is (c.in_ok-gate_at.ensures.stands bytes (inv.0.1 ∙ is))),
    )

pub loop-count-preserved : goal.loop-count-preserved
loop-count-preserved g c =
    let M = g.D.Disk.model in
    let inv = c.loop-count.invariant in
    let later = inv.3.0 in
    let place = c.loop-count.place in
    let count = c.in-Open.count in
    let left = c.args.size - place in
    let before : EndsBefore (Open count) left = subst (λ (gate : Gate). EndsBefore gate left) c.in-Open.is c.in_ok-gate_at.ensures.ends in
    let gave = c.in_ok-gate_at.ensures.gave in
    let gate : gave.0 ≡ 1 ∷ big_endian 4 count = subst (IsGate gave.0) c.in-Open.is gave.2 in
    let one =
    content_for (M.content c.args.disk.now) count (λ (bytes content : List ℕ). BeginsAt bytes place (record_of content))
    (λ bytes is.
    let stands = subst (StandsAt (drop place bytes)) c.in-Open.is (c.in_ok-gate_at.ensures.stands bytes (inv.0.1 ∙ is)) in
    (stands.0, stands.3, record_there stands.0 stands.2 stands.1 bytes place stands.4)) in
    let content = one.0 in
    let more =
    one_more M gate_of c.args.disk.now c.args.start c.loop-count.disk place later inv.3.1 c.gate_at.new.disk count content gave.0 one.1 before.1 gave.1
    (gate ∙ ap (λ (n : ℕ). 1 ∷ big_endian 4 n) (sym one.1)) one.2 in (
      looked_ok M c.args.disk.now c.loop-count.disk c.gate_at.new.disk inv.0 c.in_ok-gate_at.ensures.effect,
      omega (arith, before.0, c.from.ensures),
      omega (arith, inv.2, c.from.ensures),
      (
        later ++ content ∷ [],
        subst (λ n. HasRead M gate_of c.args.disk.now c.gate_at.new.disk c.args.start (place + (5 + n)) (later ++ content ∷ [])) (sym c.from.ensures) more,
      ),
    )
