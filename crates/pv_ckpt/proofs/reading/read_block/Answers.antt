use Rattle.std.proofs.Common.{rules, arith, ◌≡◌, inr, ℕ, sym, ◌∙◌, subst, ap, refl, map, drop, length, length-append, ◌+◌, ◌-◌, ◌++◌, ◌∷◌, [], vec_len, Vec, Global, List, ◌<◌, ◌^◌, true}
use Rattle.std.proofs.lemmas.List.{map_push}
use Rattle.std.proofs.lemmas.List.Elements.{All-nil, All-cons, All-append}
use Rattle.pv_disk_model.specs.Disk.{Gives}
use Rattle.pv_disk_model.specs.Size.{Contents}
use Rattle.pv_format.specs.Journal.{framed, AreShort}
use Rattle.pv_journal.specs.Opening.{contents_in}
use Rattle.pv_law_calls.proofs.GivenLemmas.{gives_more}
use Rattle.pv_law_calls.proofs.LookLemmas.{looked_ok, looks_none}
use Rattle.pv_law_checkpoints.specs.TwoAreas.{block_of}
use Rattle.pv_law_journal.proofs.SizeLemmas.{length-framed}
use Rattle.pv_ckpt.specs.Reading.{BeginsAt, IsInRange}
use Rattle.pv_ckpt.proofs.FramedLemmas.{gives_nothing}
use Rattle.pv_ckpt.proofs.ReadLemmas.{begins_more, block_of-push, cut_lacks}
use Rattle.pv_ckpt.proofs.reading.read_block.Goals as goal

pub returns-then-not-is_in_range-clause-effect : goal.returns-then-not-is_in_range-clause-effect
returns-then-not-is_in_range-clause-effect g c = looks_none g.D.Disk.model c.args.disk.now

pub loop-place-init : goal.loop-place-init
loop-place-init g c =
    let M = g.D.Disk.model in
    let disk = c.args.disk.now in
    let place = c.args.root.place in
    let none : contents_in c.new-all.result ≡ [] = ap (map (λ (it : Vec ℕ Global). it.items)) c.new-all.ensures.items in (
      looks_none M disk,
      omega arith,
      omega (arith, ap (λ (all : Contents). length (block_of all)) none),
      subst AreShort (sym none) (All-nil (λ (content : List ℕ). length content < 2 ^ 32)),
      λ bytes is. subst (λ (all : Contents). BeginsAt bytes place (block_of all)) (sym none) (drop place bytes, refl),
      subst (λ (all : Contents). Gives M disk disk (block_of all)) (sym none) (gives_nothing M disk),
    )

pub returns-in_err-content-clause-not_ours : goal.returns-in_err-content-clause-not_ours
returns-in_err-content-clause-not_ours g c at known =
    let told = c.read_framed.ensures.not_ours at (search rules) in
    let root = c.args.root in
    let inv = c.loop-place.invariant in
    let place = c.loop-place.place in
    let before = c.loop-place-test.true in (
      told.0,
      λ bytes is.
          cut_lacks bytes root (contents_in c.loop-place.all) place (root.place + root.size - place) inv.3 (inv.4 bytes is) inv.2 (omega (arith, before)) (omega (arith, before))
          (told.1 bytes (inv.0.1 ∙ is)),
    )

pub returns-in_err-content-clause-gave_none : goal.returns-in_err-content-clause-gave_none
returns-in_err-content-clause-gave_none g c at known =
    let root = c.args.root in
    let inv = c.loop-place.invariant in
    let block = block_of (contents_in c.loop-place.all) in
    let gave = c.read_framed.ensures.gave_none at (search rules) in
    let yes : c.is_in_range.result ≡ true = search rules in
    let in_range : IsInRange root c.args.size = c.is_in_range.ensures.yes yes in
    let before = c.loop-place-test.true in (
      block ++ gave.0,
      gives_more g.D.Disk.model c.args.disk.now c.loop-place.disk c.read_framed.new.disk block gave.0 inv.5 gave.1,
      inr (
        in_range.behind_roots,
        omega (arith, in_range.behind_roots, inv.2, before),
        omega (arith, inv.2, gave.2, length-append block gave.0),
      ),
    )

pub loop-place-preserved : goal.loop-place-preserved
loop-place-preserved g c =
    let M = g.D.Disk.model in
    let inv = c.loop-place.invariant in
    let f = λ (it : Vec ℕ Global). it.items in
    let content = c.in_ok-content.content in
    let read = c.in_ok-content.ensures in
    let all = contents_in c.loop-place.all in
    let place = c.loop-place.place in
    let start = c.args.root.place in
    let size : length content.items ≡ vec_len content = search rules in
    let length_is : c.len.result ≡ vec_len content = c.len.ensures in
    let grown : contents_in c.push.new.self ≡ all ++ content.items ∷ [] = ap (map f) c.in_ok-push.ensures.items ∙ map_push f c.loop-place.all.items content in
    let block : block_of (contents_in c.push.new.self) ≡ block_of all ++ framed content.items = ap block_of grown ∙ block_of-push all content.items in (
      looked_ok M c.args.disk.now c.loop-place.disk c.read_framed.new.disk inv.0 read.effect,
      omega (arith, read.ends, length_is),
      omega (arith, inv.2, ap length block, length-append (block_of all) (framed content.items), length-framed content.items, size, length_is),
      subst AreShort (sym grown)
          (All-append (λ (it : List ℕ). length it < 2 ^ 32) all (content.items ∷ []) inv.3
          (All-cons (λ (it : List ℕ). length it < 2 ^ 32) content.items [] (omega (arith, size, read.short)) (All-nil (λ (it : List ℕ). length it < 2 ^ 32)))),
      λ bytes is.
          subst (BeginsAt bytes start) (sym block) (begins_more bytes start place (block_of all) (framed content.items) (inv.4 bytes is) inv.2 (read.stands bytes (inv.0.1 ∙ is))),
      subst (Gives M c.args.disk.now c.read_framed.new.disk) (sym block)
          (gives_more M c.args.disk.now c.loop-place.disk c.read_framed.new.disk (block_of all) (framed content.items) inv.5 read.gave),
    )
