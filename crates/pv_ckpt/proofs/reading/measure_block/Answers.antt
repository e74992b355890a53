use Rattle.std.proofs.Common.{rules, arith, ◌≡◌, inl, inr, ◌∙◌, refl, subst, length, length-append, ◌+◌, ◌-◌, ◌++◌, ◌∷◌, [], false, true}
use Rattle.std.specs.List.{flat_map}
use Rattle.pv_law_calls.proofs.GivenLemmas.{gives_more}
use Rattle.pv_law_calls.proofs.LookLemmas.{looked_ok, looks_none}
use Rattle.pv_law_checkpoints.specs.TwoAreas.{block_of}
use Rattle.pv_ckpt.specs.Outline.{length_of}
use Rattle.pv_ckpt.specs.Reading.{IsInRange, LacksLength}
use Rattle.pv_ckpt.proofs.FramedLemmas.{gives_nothing}
use Rattle.pv_ckpt.proofs.MeasureLemmas.{none_measured, one_more_measured, outside}
use Rattle.pv_ckpt.proofs.ReadLemmas.{cut_lacks}
use Rattle.pv_ckpt.proofs.reading.measure_block.Goals as goal

pub returns-then-not-is_in_range-clause-effect : goal.returns-then-not-is_in_range-clause-effect
returns-then-not-is_in_range-clause-effect g c = looks_none g.D.Disk.model c.args.disk.now

pub returns-then-not-is_in_range-clause-gave_none : goal.returns-then-not-is_in_range-clause-gave_none
returns-then-not-is_in_range-clause-gave_none g c at known =
    let no : c.is_in_range.result ≡ false = search rules in
    ([], gives_nothing g.D.Disk.model c.args.disk.now, inl (refl, outside c.args.root c.args.size c.requires.long (c.is_in_range.ensures.no no)))

pub loop-place-init : goal.loop-place-init
loop-place-init g c =
    let M = g.D.Disk.model in
    (looks_none M c.args.disk.now, omega arith, omega arith, ([], refl, omega arith, none_measured M c.args.disk.now c.args.root.place))

pub returns-in_err-count-clause-not_ours : goal.returns-in_err-count-clause-not_ours
returns-in_err-count-clause-not_ours g c at known =
    let told = c.length_at.ensures.not_ours at (search rules) in
    let root = c.args.root in
    let inv = c.loop-place.invariant in
    let block = inv.3.3 in
    let place = c.loop-place.place in
    let before = c.loop-place-test.true in (
      told.0,
      λ bytes is.
          cut_lacks bytes root inv.3.0 place (root.place + root.size - place) block.short (block.stands bytes is) inv.3.2 (omega (arith, before)) (omega (arith, before))
          (told.1 bytes (inv.0.1 ∙ is)),
    )

pub returns-in_err-count-clause-gave_none : goal.returns-in_err-count-clause-gave_none
returns-in_err-count-clause-gave_none g c at known =
    let root = c.args.root in
    let inv = c.loop-place.invariant in
    let packed = inv.3.0 in
    let gave = c.length_at.ensures.gave_none at (search rules) in
    let yes : c.is_in_range.result ≡ true = search rules in
    let in_range : IsInRange root c.args.size = c.is_in_range.ensures.yes yes in
    let before = c.loop-place-test.true in
    let left_is : root.place + root.size - c.loop-place.place ≡ root.size - length (block_of packed) = omega (arith, inv.3.2) in (
      flat_map length_of packed ++ gave.0,
      gives_more g.D.Disk.model c.args.disk.now c.loop-place.disk c.length_at.new.disk (flat_map length_of packed) gave.0 inv.3.3.gave gave.1,
      inr (
        packed,
        record {
          behind_roots = in_range.behind_roots;
          in_range = in_range.in_range;
          short = inv.3.3.short;
          before = omega (arith, inv.3.2, before);
          rest = gave.0;
          lacks = subst (λ n. LacksLength gave.0 n) left_is gave.2;
          is = refl;
        },
      ),
    )

pub loop-place-preserved : goal.loop-place-preserved
loop-place-preserved g c =
    let M = g.D.Disk.model in
    let inv = c.loop-place.invariant in
    let read = c.in_ok-count.ensures in
    let count = c.in_ok-count.count in
    let yes : c.is_in_range.result ≡ true = search rules in
    let in_range : IsInRange c.args.root c.args.size = c.is_in_range.ensures.yes yes in
    let more =
    one_more_measured M c.args.disk.now c.args.root.place c.loop-place.disk c.length_at.new.disk inv.3.0 c.loop-place.place count inv.3.3 inv.3.2 read.short read.gave
    (λ bytes is. (read.stands bytes (inv.0.1 ∙ is), omega (arith, read.ends, in_range.ends, c.requires.known bytes is))) in (
      looked_ok M c.args.disk.now c.loop-place.disk c.length_at.new.disk inv.0 read.effect,
      omega (arith, read.ends, c.from.ensures),
      omega (arith, inv.2, c.from.ensures),
      (inv.3.0 ++ more.0 ∷ [], omega (arith, inv.3.1, length-append inv.3.0 (more.0 ∷ [])), omega (arith, more.3, c.from.ensures), more.2),
    )

pub returns-clause-measured : goal.returns-clause-measured
returns-clause-measured g c =
    let inv = c.loop-place.invariant in
    (inv.3.0, inv.3.1, inv.3.3, omega (arith, inv.3.2, inv.1, c.loop-place-test.false))
