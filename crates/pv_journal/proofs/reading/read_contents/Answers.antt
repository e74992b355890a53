use Rattle.std.proofs.Common.{rules, arith, ◌≡◌, ℕ, inl, inr, sym, ◌∙◌, subst, ap, map, drop, length, ◌+◌, ◌-◌, ◌++◌, ◌∷◌, [], vec_len, Vec, Global, Option, ◌<◌, ◌^◌}
use Rattle.std.specs.Prelude.{IfSome}
use Rattle.std.proofs.lemmas.List.{map_push}
use Rattle.pv_format.specs.Journal.{header, EndsShort}
use Rattle.pv_journal.specs.Reading.{HoldsRecord, IsOpenEnd, IsRecord}
use Rattle.pv_law_calls.specs.Reading.{Gave}
use Rattle.pv_law_calls.proofs.GivenLemmas.{gives_more}
use Rattle.pv_journal.proofs.GivenLemmas.{all_read, cut_read, none_read, one_more_read}
use Rattle.pv_law_calls.proofs.LookLemmas.{looked_in_vain, looked_ok}
use Rattle.pv_journal.proofs.ReadLemmas.{read_closed, read_cut, read_open}
use Rattle.pv_journal.proofs.reading.read_contents.Goals as goal

pub loop-all-init : goal.loop-all-init
loop-all-init g c =
    let M = g.D.Disk.model in
    let both = looked_ok M c.args.disk.now c.size_of_disk.new.disk c.read_header.new.disk c.in_ok-size.ensures.effect c.in_ok-read_header.ensures.effect in (
      both.0,
      both.1,
      λ bytes is. rw c.new-all.ensures.items (c.in_ok-read_header.ensures.passed bytes (c.in_ok-size.ensures.effect.1 ∙ is)),
      c.in_ok-read_header.ensures.long,
      both.2,
      (
        header,
        gives_more M c.args.disk.now c.size_of_disk.new.disk c.read_header.new.disk [] header c.in_ok-size.ensures.gave c.in_ok-read_header.ensures.gave,
        rw c.new-all.ensures.items none_read,
      ),
    )

pub returns-in_err-content-clause-not_ours : goal.returns-in_err-content-clause-not_ours
returns-in_err-content-clause-not_ours g c place known bytes is =
    let cut = c.read_record.ensures.not_ours place (search rules) bytes (c.loop-all.invariant.1 ∙ is) in
    let all = map (λ (it : Vec ℕ Global). it.items) c.loop-all.all.items in
    inr (all, subst (EndsShort all bytes) (sym cut.0) (read_cut all bytes c.loop-all.place (c.loop-all.invariant.2 bytes is) cut.1))

pub returns-in_default-clause-effect : goal.returns-in_default-clause-effect
returns-in_default-clause-effect g c =
    looked_ok g.D.Disk.model c.args.disk.now c.loop-all.disk c.read_record.new.disk (c.loop-all.invariant.0, c.loop-all.invariant.1, c.loop-all.invariant.4) c.in_ok-content.ensures.effect

pub returns-in_default-clause-found : goal.returns-in_default-clause-found
returns-in_default-clause-found g c bytes is =
    let all = map (λ (it : Vec ℕ Global). it.items) c.loop-all.all.items in
    let stands = c.in_ok-content.ensures.stands bytes (c.loop-all.invariant.1 ∙ is) in
    let closed = subst (HoldsRecord (drop c.loop-all.place bytes)) c.in_default.is stands in
    (read_closed all bytes c.loop-all.place (c.loop-all.invariant.2 bytes is) closed).0

pub loop-all-preserved : goal.loop-all-preserved
loop-all-preserved g c =
    let both = looked_ok g.D.Disk.model c.args.disk.now c.loop-all.disk c.read_record.new.disk (c.loop-all.invariant.0, c.loop-all.invariant.1, c.loop-all.invariant.4) c.in_ok-content.ensures.effect in
    let f = λ (it : Vec ℕ Global). it.items in
    let all = map f c.loop-all.all.items in
    let content = c.in-Some.content in
    let size : length content.items ≡ vec_len content = search rules in
    let ends = subst (λ (found : Option (Vec ℕ Global)). IfSome found (λ it. (vec_len it + 5 < c.in_ok-size.size - c.loop-all.place) × (vec_len it < 2 ^ 32))) c.in-Some.is c.in_ok-content.ensures.ends in
    let grown : map f c.push.new.self.items ≡ all ++ content.items ∷ [] = ap (map f) c.in_ok-push.ensures.items ∙ map_push f c.loop-all.all.items content in
    let length_is : c.len.result ≡ vec_len content = c.len.ensures in
    let before = c.loop-all.invariant.5 in
    let gave = c.in_ok-content.ensures.gave in
    let record_is = subst (IsRecord gave.0) c.in-Some.is gave.2 in (
      both.0,
      both.1,
      λ bytes is.
          let stands = subst (HoldsRecord (drop c.loop-all.place bytes)) c.in-Some.is (c.in_ok-content.ensures.stands bytes (c.loop-all.invariant.1 ∙ is)) in
          rw (grown, length_is)
          (read_open all bytes content.items stands.1 c.loop-all.place (vec_len content) stands.0 (c.loop-all.invariant.2 bytes is) size ends.1 stands.2),
      omega (arith, ends.0, length_is),
      both.2,
      (
        before.0 ++ gave.0,
        gives_more g.D.Disk.model c.args.disk.now c.loop-all.disk c.read_record.new.disk before.0 gave.0 before.1 gave.1,
        rw (grown, length_is) (one_more_read all before.0 content.items gave.0 c.loop-all.place (vec_len content) before.2 size ends.1 record_is),
      ),
    )

pub returns-in_err-push-clause-effect : goal.returns-in_err-push-clause-effect
returns-in_err-push-clause-effect g c =
    looked_in_vain g.D.Disk.model c.args.disk.now c.read_record.new.disk c.from_residual-in_err-push.result (search rules)
    (looked_ok g.D.Disk.model c.args.disk.now c.loop-all.disk c.read_record.new.disk (c.loop-all.invariant.0, c.loop-all.invariant.1, c.loop-all.invariant.4) c.in_ok-content.ensures.effect)

pub returns-in_err-read_header-clause-gave_none : goal.returns-in_err-read_header-clause-gave_none
returns-in_err-read_header-clause-gave_none g c place known =
    let M = g.D.Disk.model in
    let gave = c.read_header.ensures.gave_none place (search rules) in
    (gave.0, gives_more M c.args.disk.now c.size_of_disk.new.disk c.read_header.new.disk [] gave.0 c.in_ok-size.ensures.gave gave.1, inl gave.2)

pub returns-in_err-content-clause-gave_none : goal.returns-in_err-content-clause-gave_none
returns-in_err-content-clause-gave_none g c place known =
    let M = g.D.Disk.model in
    let all = map (λ (it : Vec ℕ Global). it.items) c.loop-all.all.items in
    let before = c.loop-all.invariant.5 in
    let cut = c.read_record.ensures.gave_none place (search rules) in
    let left = c.in_ok-size.size - c.loop-all.place in
    let gave : Gave M c.loop-all.disk c.read_record.new.disk (IsOpenEnd left) = cut.1 in (
      before.0 ++ gave.0,
      gives_more M c.args.disk.now c.loop-all.disk c.read_record.new.disk before.0 gave.0 before.1 gave.1,
      inr (all, subst (EndsShort all (before.0 ++ gave.0)) (sym cut.0) (cut_read all before.0 gave.0 c.loop-all.place left before.2 gave.2)),
    )

pub returns-in_default-clause-gave : goal.returns-in_default-clause-gave
returns-in_default-clause-gave g c =
    let M = g.D.Disk.model in
    let all = map (λ (it : Vec ℕ Global). it.items) c.loop-all.all.items in
    let before = c.loop-all.invariant.5 in
    let gave = c.in_ok-content.ensures.gave in
    let closed = subst (IsRecord gave.0) c.in_default.is gave.2 in (
      before.0 ++ gave.0,
      gives_more M c.args.disk.now c.loop-all.disk c.read_record.new.disk before.0 gave.0 before.1 gave.1,
      all_read all before.0 gave.0 c.loop-all.place before.2 closed,
    )
