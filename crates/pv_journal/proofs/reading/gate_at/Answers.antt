use Rattle.std.proofs.Common.{rules, arith, ◌≡◌, inl, inr, ℕ, ◌-◌, List, [], ◌∷◌, ◌++◌, length, take, drop, refl, sym, ◌∙◌, ap, length-take, length-drop}
use Rattle.pv_law_calls.proofs.GivenLemmas.{gives_more}
use Rattle.pv_journal.proofs.GivenLemmas.{gate_closed, gate_open}
use Rattle.pv_law_calls.proofs.RecordLemmas.{after_gate}
use Rattle.pv_journal.proofs.ReadLemmas.{stands_closed, opened, cut_early, cut_late, stands_open}
use Rattle.pv_journal.proofs.reading.gate_at.Goals as goal

pub returns-then-gate-ne1-clause-stands : goal.returns-then-gate-ne1-clause-stands
returns-then-gate-ne1-clause-stands g c bytes is =
    let rest = drop c.args.place bytes in
    let read = c.in_ok-read_from.ensures.bytes bytes is in
    let one : length c.read_from.new.into ≡ 1 =
    omega (arith, ap length read, length-take 1 rest, length-drop c.args.place bytes, c.requires.known bytes is) in
    stands_closed rest c.read_from.new.into read one c.if-gate-ne1.true

pub returns-then-left-lt5-clause-not_ours : goal.returns-then-left-lt5-clause-not_ours
returns-then-left-lt5-clause-not_ours g c at known bytes is =
    let rest = drop c.args.place bytes in
    let read = c.in_ok-read_from.ensures.bytes bytes is in
    let left : length rest ≡ c.args.size - c.args.place = omega (arith, length-drop c.args.place bytes, c.requires.known bytes is) in
    let one : length c.read_from.new.into ≡ 1 = omega (arith, ap length read, length-take 1 rest, left) in
    let more = opened rest c.read_from.new.into read one c.if-gate-ne1.false in
    let same : at ≡ c.args.place = cc in
    (same, cut_early rest more.0 more.1 (omega (arith, left)))

pub returns-then-from-left-clause-not_ours : goal.returns-then-from-left-clause-not_ours
returns-then-from-left-clause-not_ours g c at known bytes is =
    let rest = drop c.args.place bytes in
    let read = c.in_ok-read_from.ensures.bytes bytes is in
    let left : length rest ≡ c.args.size - c.args.place = omega (arith, length-drop c.args.place bytes, c.requires.known bytes is) in
    let one : length c.read_from.new.into ≡ 1 = omega (arith, ap length read, length-take 1 rest, left) in
    let more = opened rest c.read_from.new.into read one c.if-gate-ne1.false in
    let number = c.in_ok-read_from-2.ensures.bytes bytes (c.in_ok-read_from.ensures.effect.1 ∙ is) ∙ ap (take 4) (after_gate bytes more.0 c.args.place 1 more.1) in
    let same : at ≡ c.args.place = cc in
    (same, cut_late rest more.0 c.read_from-2.new.into c.number_in-count.result more.1 number c.number_in-count.ensures c.number_in-count.type_inv (omega (arith, left)))

pub returns-clause-stands : goal.returns-clause-stands
returns-clause-stands g c bytes is =
    let rest = drop c.args.place bytes in
    let read = c.in_ok-read_from.ensures.bytes bytes is in
    let left : length rest ≡ c.args.size - c.args.place = omega (arith, length-drop c.args.place bytes, c.requires.known bytes is) in
    let one : length c.read_from.new.into ≡ 1 = omega (arith, ap length read, length-take 1 rest, left) in
    let more = opened rest c.read_from.new.into read one c.if-gate-ne1.false in
    let number = c.in_ok-read_from-2.ensures.bytes bytes (c.in_ok-read_from.ensures.effect.1 ∙ is) ∙ ap (take 4) (after_gate bytes more.0 c.args.place 1 more.1) in
    stands_open rest more.0 c.read_from-2.new.into c.number_in-count.result more.1 number c.number_in-count.ensures (omega (arith, left))

pub returns-then-gate-ne1-clause-gave : goal.returns-then-gate-ne1-clause-gave
returns-then-gate-ne1-clause-gave g c =
    let read = c.read_from.new.into in
    let one : length read ≡ 1 = search rules in
    (read, c.in_ok-read_from.ensures.gave, gate_closed read one c.if-gate-ne1.true)

pub returns-then-left-lt5-clause-gave_none : goal.returns-then-left-lt5-clause-gave_none
returns-then-left-lt5-clause-gave_none g c at known =
    let read = c.read_from.new.into in
    let one : length read ≡ 1 = search rules in
    let same : at ≡ c.args.place = cc in
    (same, (read, c.in_ok-read_from.ensures.gave, ([], omega arith, gate_open read one c.if-gate-ne1.false, inl (refl, c.if-left-lt5.true))))

pub returns-then-from-left-clause-gave_none : goal.returns-then-from-left-clause-gave_none
returns-then-from-left-clause-gave_none g c at known =
    let read = c.read_from.new.into in
    let number = c.read_from-2.new.into in
    let one : length read ≡ 1 = search rules in
    let four : length number ≡ 4 = search rules in
    let same : at ≡ c.args.place = cc in (
      same,
      (
        read ++ number,
        gives_more g.D.Disk.model c.args.disk.now c.read_from.new.disk c.read_from-2.new.disk read number c.in_ok-read_from.ensures.gave c.in_ok-read_from-2.ensures.gave,
        (
          number,
          omega (arith, four),
          ap (λ (l : List ℕ). l ++ number) (gate_open read one c.if-gate-ne1.false),
          inr (c.number_in-count.result, c.number_in-count.type_inv, sym c.number_in-count.ensures, omega (arith, c.if-from-left.true, c.from.ensures)),
        ),
      ),
    )

pub returns-clause-gave : goal.returns-clause-gave
returns-clause-gave g c =
    let read = c.read_from.new.into in
    let number = c.read_from-2.new.into in
    let one : length read ≡ 1 = search rules in (
      read ++ number,
      gives_more g.D.Disk.model c.args.disk.now c.read_from.new.disk c.read_from-2.new.disk read number c.in_ok-read_from.ensures.gave c.in_ok-read_from-2.ensures.gave,
      ap (λ (l : List ℕ). l ++ number) (gate_open read one c.if-gate-ne1.false) ∙ ap (λ (l : List ℕ). 1 ∷ l) (sym c.number_in-count.ensures),
    )
