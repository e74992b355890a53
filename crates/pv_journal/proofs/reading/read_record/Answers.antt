use Rattle.std.proofs.Common.{arith, ◌≡◌, ℕ, List, length, sym, ◌∙◌, subst, ap, take, drop, ◌-◌, ◌++◌, ◌∷◌}
use Rattle.std.proofs.lemmas.List.{drop-drop}
use Rattle.pv_format.specs.Journal.{framed}
use Rattle.pv_base.specs.BigEndian.{big_endian}
use Rattle.pv_journal.specs.Reading.{StandsAt, EndsBefore, IsGate}
use Rattle.pv_journal.specs.declared.reading.Gate.{Gate}
use Rattle.pv_journal.specs.declared.reading.Gate.TheVariants.{Open}
use Rattle.pv_law_calls.proofs.GivenLemmas.{gives_more}
use Rattle.pv_journal.proofs.ReadLemmas.{content_behind}
use Rattle.pv_journal.proofs.reading.read_record.Goals as goal

pub returns-in_ok-read_content-in-Open-clause-stands : goal.returns-in_ok-read_content-in-Open-clause-stands
returns-in_ok-read_content-in-Open-clause-stands g c bytes is =
    let rest = drop c.args.place bytes in
    let stands = subst (StandsAt rest) c.in-Open.is (c.in_ok-gate_at.ensures.stands bytes is) in
    let read = c.in_ok-read_content-in-Open.ensures.bytes bytes (c.in_ok-gate_at.ensures.effect.1 ∙ is) in
    let same : c.in_ok-read_content-in-Open.field-0.items ≡ stands.0 =
    read ∙ ap (take c.in-Open.count) (sym (drop-drop 5 c.args.place bytes)) ∙ content_behind rest stands.0 stands.2 stands.1 c.in-Open.count stands.3 stands.4 in
    (stands.1, stands.2, stands.4 ∙ ap (λ (l : List ℕ). 1 ∷ (framed l ++ stands.1 ∷ stands.2)) (sym same))

pub returns-in_ok-read_content-in-Open-clause-ends : goal.returns-in_ok-read_content-in-Open-clause-ends
returns-in_ok-read_content-in-Open-clause-ends g c =
    let ends : EndsBefore (Open c.in-Open.count) (c.args.size - c.args.place) =
    subst (λ (gate : Gate). EndsBefore gate (c.args.size - c.args.place)) c.in-Open.is c.in_ok-gate_at.ensures.ends in
    (omega (arith, ends.0, c.in_ok-read_content-in-Open.ensures.count), omega (arith, ends.1, c.in_ok-read_content-in-Open.ensures.count))

pub returns-in-Closed-clause-gave : goal.returns-in-Closed-clause-gave
returns-in-Closed-clause-gave g c =
    let gave = c.in_ok-gate_at.ensures.gave in
    (gave.0, gave.1, subst (IsGate gave.0) c.in-Closed.is gave.2)

pub returns-in_ok-read_content-in-Open-clause-gave : goal.returns-in_ok-read_content-in-Open-clause-gave
returns-in_ok-read_content-in-Open-clause-gave g c =
    let gave = c.in_ok-gate_at.ensures.gave in
    let content = c.in_ok-read_content-in-Open.field-0.items in
    let gate : gave.0 ≡ 1 ∷ big_endian 4 c.in-Open.count = subst (IsGate gave.0) c.in-Open.is gave.2 in
    let size : c.in-Open.count ≡ length content = omega (arith, c.in_ok-read_content-in-Open.ensures.count) in (
      gave.0 ++ content,
      gives_more g.D.Disk.model c.args.disk.now c.gate_at.new.disk c.read_content.new.disk gave.0 content gave.1 c.in_ok-read_content-in-Open.ensures.gave,
      ap (λ (l : List ℕ). l ++ content) gate ∙ ap (λ n. 1 ∷ (big_endian 4 n ++ content)) size,
    )
