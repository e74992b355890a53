use Rattle.std.proofs.Common.{rules, arith, ◌≡◌, ℕ, sym, ◌∙◌, subst, ap, append_assoc, map, drop, length, ◌+◌, ◌-◌, ◌++◌, ◌∷◌, [], vec_len, Vec, Global, Option, Some, List, ◌<◌, ◌^◌}
use Rattle.std.specs.Prelude.{IfSome}
use Rattle.std.proofs.lemmas.List.{append-nil, map_push}
use Rattle.pv_disk_model.specs.Size.{Contents}
use Rattle.pv_format.specs.Journal.{record_of}
use Rattle.pv_journal.specs.Opening.{contents_in}
use Rattle.pv_journal.specs.Reading.{HoldsRecord, IsRecord}
use Rattle.pv_law_calls.proofs.LookLemmas.{looked_in_vain, looked_ok, looks_none}
use Rattle.pv_ckpt.specs.Reading.{BeginsAt, ReadsCut}
use Rattle.pv_ckpt.proofs.RecordLemmas.{ends, is_cut, none_read, one_more, record_there}
use Rattle.pv_ckpt.proofs.reading.read_records.Goals as goal

pub loop-content-init : goal.loop-content-init
loop-content-init g c =
    let M = g.D.Disk.model in
    (looks_none M c.args.disk.now, c.requires.within, ([], none_read M record_of c.args.disk.now c.args.start, sym (append-nil (contents_in c.args.all.now))))

pub returns-in_err-content-clause-not_ours : goal.returns-in_err-content-clause-not_ours
returns-in_err-content-clause-not_ours g c place known =
    let M = g.D.Disk.model in
    let inv = c.loop-content.invariant in
    let has = inv.2.1 in
    let later = inv.2.0 in
    let told = c.read_record.ensures.gave_none place (search rules) in
    let gave = told.1 in (
      later,
      subst (λ n. ReadsCut M record_of c.args.disk.now c.read_record.new.disk c.args.start n later) (sym told.0)
          (is_cut M record_of c.args.disk.now c.args.start c.loop-content.disk c.loop-content.place later has c.read_record.new.disk (c.args.size - c.loop-content.place) gave.0 gave.1 gave.2
          (λ bytes is. (c.read_record.ensures.not_ours place (search rules) bytes (inv.0.1 ∙ is)).1)),
    )

pub returns-in_default-clause-effect : goal.returns-in_default-clause-effect
returns-in_default-clause-effect g c =
    looked_ok g.D.Disk.model c.args.disk.now c.loop-content.disk c.read_record.new.disk c.loop-content.invariant.0 c.in_ok-content.ensures.effect

pub returns-in_default-clause-records : goal.returns-in_default-clause-records
returns-in_default-clause-records g c =
    let M = g.D.Disk.model in
    let inv = c.loop-content.invariant in
    let has = inv.2.1 in
    let later = inv.2.0 in
    let gave = c.in_ok-content.ensures.gave in (
      later,
      ends M record_of c.args.disk.now c.args.start c.loop-content.disk c.loop-content.place later has c.read_record.new.disk gave.0 gave.1
          (subst (IsRecord gave.0) c.in_default.is gave.2)
          (λ bytes is. subst (HoldsRecord (drop c.loop-content.place bytes)) c.in_default.is (c.in_ok-content.ensures.stands bytes (inv.0.1 ∙ is))),
      inv.2.2,
    )

pub loop-content-preserved : goal.loop-content-preserved
loop-content-preserved g c =
    let M = g.D.Disk.model in
    let inv = c.loop-content.invariant in
    let has = inv.2.1 in
    let later = inv.2.0 in
    let f = λ (it : Vec ℕ Global). it.items in
    let content = c.in-Some.content in
    let size : length content.items ≡ vec_len content = search rules in
    let ends_there = subst (λ (found : Option (Vec ℕ Global)). IfSome found (λ it. (vec_len it + 5 < c.args.size - c.loop-content.place) × (vec_len it < 2 ^ 32))) c.in-Some.is c.in_ok-content.ensures.ends in
    let grown : map f c.push.new.self.items ≡ map f c.loop-content.all.items ++ content.items ∷ [] = ap (map f) c.in_ok-push.ensures.items ∙ map_push f c.loop-content.all.items content in
    let length_is : c.len.result ≡ vec_len content = c.len.ensures in
    let gave = c.in_ok-content.ensures.gave in
    let record_is : gave.0 ≡ record_of content.items = subst (IsRecord gave.0) c.in-Some.is gave.2 in
    let there : (bytes : List ℕ) → M.content c.args.disk.now ≡ Some bytes → BeginsAt bytes c.loop-content.place (record_of content.items) =
    λ bytes is.
    let stands = subst (HoldsRecord (drop c.loop-content.place bytes)) c.in-Some.is (c.in_ok-content.ensures.stands bytes (inv.0.1 ∙ is)) in
    record_there content.items stands.1 stands.0 bytes c.loop-content.place stands.2 in (
      looked_ok M c.args.disk.now c.loop-content.disk c.read_record.new.disk inv.0 c.in_ok-content.ensures.effect,
      omega (arith, ends_there.0, length_is),
      (
        later ++ content.items ∷ [],
        one_more M record_of c.args.disk.now c.args.start c.loop-content.disk c.loop-content.place later has c.read_record.new.disk c.len.result content.items gave.0
            (size ∙ sym length_is) (omega (arith, ends_there.1, length_is)) gave.1 record_is there,
        grown ∙ ap (λ (all : Contents). all ++ content.items ∷ []) inv.2.2 ∙ append_assoc (contents_in c.args.all.now) later (content.items ∷ []),
      ),
    )

pub returns-in_err-push-clause-effect : goal.returns-in_err-push-clause-effect
returns-in_err-push-clause-effect g c =
    looked_in_vain g.D.Disk.model c.args.disk.now c.read_record.new.disk c.from_residual-in_err-push.result (search rules)
    (looked_ok g.D.Disk.model c.args.disk.now c.loop-content.disk c.read_record.new.disk c.loop-content.invariant.0 c.in_ok-content.ensures.effect)
