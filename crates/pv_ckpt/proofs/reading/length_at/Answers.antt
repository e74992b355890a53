use Rattle.std.proofs.Common.{arith, ◌≡◌, inl, inr, ◌-◌, [], drop, refl, sym, ◌∙◌, subst}
use Rattle.pv_disk_model.specs.Disk.{Gives}
use Rattle.pv_law_calls.proofs.LookLemmas.{looks_none}
use Rattle.pv_ckpt.proofs.FramedLemmas.{cut_far, cut_short, gives_nothing}
use Rattle.pv_ckpt.proofs.reading.length_at.Goals as goal

pub returns-then-end-place-lt4-clause-effect : goal.returns-then-end-place-lt4-clause-effect
returns-then-end-place-lt4-clause-effect g c = looks_none g.D.Disk.model c.args.disk.now

pub returns-then-end-place-lt4-clause-not_ours : goal.returns-then-end-place-lt4-clause-not_ours
returns-then-end-place-lt4-clause-not_ours g c shown known =
    let same : shown ≡ c.args.at = cc in
    (same, λ bytes is. cut_short (drop c.args.place bytes) (c.args.end - c.args.place) c.if-end-place-lt4.true)

pub returns-then-end-place-lt4-clause-gave_none : goal.returns-then-end-place-lt4-clause-gave_none
returns-then-end-place-lt4-clause-gave_none g c shown known = ([], gives_nothing g.D.Disk.model c.args.disk.now, inl (refl, c.if-end-place-lt4.true))

pub returns-then-from-end-clause-not_ours : goal.returns-then-from-end-clause-not_ours
returns-then-from-end-clause-not_ours g c shown known =
    let same : shown ≡ c.args.at = cc in (
      same,
      λ bytes is.
          cut_far (drop c.args.place bytes) c.read_from.new.into (c.args.end - c.args.place) c.number_in-count.result (c.in_ok-read_from.ensures.bytes bytes is) c.number_in-count.ensures
          c.number_in-count.type_inv c.if-end-place-lt4.false (omega (arith, c.if-from-end.true, c.from.ensures)),
    )

pub returns-then-from-end-clause-gave_none : goal.returns-then-from-end-clause-gave_none
returns-then-from-end-clause-gave_none g c shown known =
    (c.read_from.new.into, c.in_ok-read_from.ensures.gave, inr (c.number_in-count.result, c.number_in-count.type_inv, sym c.number_in-count.ensures, c.if-end-place-lt4.false, omega (arith, c.if-from-end.true, c.from.ensures)))

pub returns-clause-stands : goal.returns-clause-stands
returns-clause-stands g c bytes is = sym (c.number_in-count.ensures ∙ c.in_ok-read_from.ensures.bytes bytes is)

pub returns-clause-gave : goal.returns-clause-gave
returns-clause-gave g c = subst (Gives g.D.Disk.model c.args.disk.now c.read_from.new.disk) (sym c.number_in-count.ensures) c.in_ok-read_from.ensures.gave
