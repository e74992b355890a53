use Rattle.std.proofs.Common.{rules, arith, ◌≡◌, ℕ, List, inl, inr, sym, ◌∙◌, ap, subst, drop, ◌+◌, ◌-◌, ◌++◌, ◌∷◌, []}
use Rattle.pv_format.specs.Journal.{header, EndsShort}
use Rattle.pv_base.specs.BigEndian.{big_endian}
use Rattle.pv_journal.specs.Outline.{OutlinesTo}
use Rattle.pv_journal.specs.Reading.{IsGate, IsOpenEnd, ReadsTo, StandsAt, EndsBefore}
use Rattle.pv_law_calls.specs.Reading.{Gave}
use Rattle.pv_journal.specs.declared.reading.Gate.{Gate}
use Rattle.pv_journal.specs.declared.reading.Gate.TheVariants.{Open}
use Rattle.pv_law_calls.proofs.GivenLemmas.{gives_more}
use Rattle.pv_journal.proofs.GivenLemmas.{none_outlined, one_more_outlined}
use Rattle.pv_law_calls.proofs.LookLemmas.{looked_ok}
use Rattle.pv_journal.proofs.ReadLemmas.{read_closed, read_cut, read_open}
use Rattle.pv_journal.proofs.reading.find_end.Goals as goal

pub loop-count-init : goal.loop-count-init
loop-count-init g c =
    let M = g.D.Disk.model in
    let both = looked_ok M c.args.disk.now c.size_of_disk.new.disk c.read_header.new.disk c.in_ok-size.ensures.effect c.in_ok-read_header.ensures.effect in (
      both.0,
      both.1,
      λ bytes is. ([], c.in_ok-read_header.ensures.passed bytes (c.in_ok-size.ensures.effect.1 ∙ is)),
      c.in_ok-read_header.ensures.long,
      omega arith,
      both.2,
      (
        [],
        (
          header,
          gives_more M c.args.disk.now c.size_of_disk.new.disk c.read_header.new.disk [] header c.in_ok-size.ensures.gave c.in_ok-read_header.ensures.gave,
          none_outlined,
        ),
      ),
    )

pub returns-in_err-gate_at-clause-not_ours : goal.returns-in_err-gate_at-clause-not_ours
returns-in_err-gate_at-clause-not_ours g c place known bytes is =
    let cut = c.gate_at.ensures.not_ours place (search rules) bytes (c.loop-count.invariant.1 ∙ is) in
    let to = c.loop-count.invariant.2 bytes is in
    inr (to.0, subst (EndsShort to.0 bytes) (sym cut.0) (read_cut to.0 bytes c.loop-count.place to.1 cut.1))

pub returns-in-Closed-clause-effect : goal.returns-in-Closed-clause-effect
returns-in-Closed-clause-effect g c =
    looked_ok g.D.Disk.model c.args.disk.now c.loop-count.disk c.gate_at.new.disk (c.loop-count.invariant.0, c.loop-count.invariant.1, c.loop-count.invariant.5) c.in_ok-gate_at.ensures.effect

pub returns-in-Closed-clause-found : goal.returns-in-Closed-clause-found
returns-in-Closed-clause-found g c bytes is =
    let to = c.loop-count.invariant.2 bytes is in
    let stands = c.in_ok-gate_at.ensures.stands bytes (c.loop-count.invariant.1 ∙ is) in
    let closed = subst (StandsAt (drop c.loop-count.place bytes)) c.in-Closed.is stands in
    let found = read_closed to.0 bytes c.loop-count.place to.1 closed in
    (to.0, found.0, found.1)

pub loop-count-preserved : goal.loop-count-preserved
loop-count-preserved g c =
    let both = looked_ok g.D.Disk.model c.args.disk.now c.loop-count.disk c.gate_at.new.disk (c.loop-count.invariant.0, c.loop-count.invariant.1, c.loop-count.invariant.5) c.in_ok-gate_at.ensures.effect in
    let count = c.in-Open.count in
    let ends : EndsBefore (Open count) (c.in_ok-size.size - c.loop-count.place) = subst (λ (gate : Gate). EndsBefore gate (c.in_ok-size.size - c.loop-count.place)) c.in-Open.is c.in_ok-gate_at.ensures.ends in
    let lengths = c.loop-count.invariant.6.0 in
    let before = c.loop-count.invariant.6.1 in
    let gave = c.in_ok-gate_at.ensures.gave in
    let gate : gave.0 ≡ 1 ∷ big_endian 4 count = subst (IsGate gave.0) c.in-Open.is gave.2 in (
      both.0,
      both.1,
      λ bytes is.
          let to = c.loop-count.invariant.2 bytes is in
          let stands = subst (StandsAt (drop c.loop-count.place bytes)) c.in-Open.is (c.in_ok-gate_at.ensures.stands bytes (c.loop-count.invariant.1 ∙ is)) in (
            to.0 ++ stands.0 ∷ [],
            subst (λ n. ReadsTo (to.0 ++ stands.0 ∷ []) bytes (c.loop-count.place + (5 + n))) (sym c.from.ensures)
                (read_open to.0 bytes stands.0 stands.2 c.loop-count.place count stands.1 to.1 stands.3 ends.1 stands.4),
          ),
      omega (arith, ends.0, c.from.ensures),
      omega (arith, c.loop-count.invariant.4),
      both.2,
      (
        lengths ++ count ∷ [],
        (
          before.0 ++ gave.0,
          gives_more g.D.Disk.model c.args.disk.now c.loop-count.disk c.gate_at.new.disk before.0 gave.0 before.1 gave.1,
          subst (λ n. OutlinesTo (lengths ++ count ∷ []) (before.0 ++ gave.0) (c.loop-count.place + (5 + n))) (sym c.from.ensures)
              (one_more_outlined lengths before.0 gave.0 c.loop-count.place count before.2 ends.1 gate),
        ),
      ),
    )

pub returns-in_err-read_header-clause-gave_none : goal.returns-in_err-read_header-clause-gave_none
returns-in_err-read_header-clause-gave_none g c place known =
    let M = g.D.Disk.model in
    let gave = c.read_header.ensures.gave_none place (search rules) in
    (gave.0, gives_more M c.args.disk.now c.size_of_disk.new.disk c.read_header.new.disk [] gave.0 c.in_ok-size.ensures.gave gave.1, inl gave.2)

pub returns-in_err-gate_at-clause-gave_none : goal.returns-in_err-gate_at-clause-gave_none
returns-in_err-gate_at-clause-gave_none g c place known =
    let M = g.D.Disk.model in
    let lengths = c.loop-count.invariant.6.0 in
    let before = c.loop-count.invariant.6.1 in
    let cut = c.gate_at.ensures.gave_none place (search rules) in
    let left = c.in_ok-size.size - c.loop-count.place in
    let gave : Gave M c.loop-count.disk c.gate_at.new.disk (IsOpenEnd left) = cut.1 in
    let end : IsOpenEnd left gave.0 = gave.2 in (
      before.0 ++ gave.0,
      gives_more M c.args.disk.now c.loop-count.disk c.gate_at.new.disk before.0 gave.0 before.1 gave.1,
      inr (record { lengths = lengths; before = before.0; to = subst (OutlinesTo lengths before.0) (sym cut.0) before.2; rest = end.0; few = end.1; is = ap (λ (l : List ℕ). before.0 ++ l) end.2 }),
    )

pub returns-in-Closed-clause-gave : goal.returns-in-Closed-clause-gave
returns-in-Closed-clause-gave g c =
    let M = g.D.Disk.model in
    let lengths = c.loop-count.invariant.6.0 in
    let before = c.loop-count.invariant.6.1 in
    let gave = c.in_ok-gate_at.ensures.gave in
    let gate = subst (IsGate gave.0) c.in-Closed.is gave.2 in (
      before.0 ++ gave.0,
      gives_more M c.args.disk.now c.loop-count.disk c.gate_at.new.disk before.0 gave.0 before.1 gave.1,
      record { lengths = lengths; before = before.0; to = before.2; gate = gate.0; closed = gate.1; is = ap (λ (l : List ℕ). before.0 ++ l) gate.2 },
    )
