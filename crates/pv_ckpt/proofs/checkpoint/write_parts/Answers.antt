use Rattle.std.proofs.Common.{rules, ◌≡◌, ◌+◌, ◌++◌, List, ℕ, Bool, true, false, ◌∙◌, ap, sym, subst, length, ◌==◌}
use Rattle.std.specs.Prelude.{is_ok}
use Rattle.pv_disk_model.specs.Calls.{Makes}
use Rattle.pv_law_checkpoints.specs.Roots.{fields_of, gate_at}
use Rattle.pv_law_checkpoints.specs.TwoAreas.{block_of}
use Rattle.pv_ckpt.specs.Checkpointing.{name_and_open_calls, store_and_close_calls}
use Rattle.pv_ckpt.proofs.PartLemmas.{both_switch, stopped_before_naming}
use Rattle.pv_ckpt.proofs.WritingLemmas.{makes_not, makes_then}
use Rattle.pv_ckpt.proofs.checkpoint.write_parts.Goals as goal

pub returns-in_err-store_and_close-clause-crash : goal.returns-in_err-store_and_close-clause-crash
returns-in_err-store_and_close-clause-crash g c at held later given bytes ready made tells =
    let told = tells ∙ ap (λ n. gate_at bytes n == 1) (sym made.root) in
    let stored = c.store_and_close.ensures.crash at held later given bytes ready made.root (c.deref.ensures.value ∙ made.block_is) told in
    stopped_before_naming g.D.Disk.model at c.args.packed.now.root.place held later given bytes c.args.disk.now c.store_and_close.new.disk c.store_and_close.result c.from_residual.result (record {})
    (search rules) stored

pub returns-in_err-store_and_close-clause-calls : goal.returns-in_err-store_and_close-clause-calls
returns-in_err-store_and_close-clause-calls g c =
    let goes = g.D.Disk.model.goes in
    let packed = c.args.packed.now in
    let first = store_and_close_calls packed.root.at c.args.other_open packed.root.place in
    let second = name_and_open_calls packed.root.at packed.fields.items in
    let stopped : Makes goes c.args.disk.now (first packed.block.items) false c.store_and_close.new.disk =
    subst (λ (l : List ℕ). Makes goes c.args.disk.now (first l) false c.store_and_close.new.disk) c.deref.ensures.value c.in_err-store_and_close.ensures.calls in
    let failed : is_ok c.from_residual.result ≡ false = search rules in
    subst (λ (b : Bool). Makes goes c.args.disk.now (first packed.block.items ++ second) b c.store_and_close.new.disk) (sym failed)
    (makes_not goes c.args.disk.now c.store_and_close.new.disk (first packed.block.items) second stopped)

pub returns-clause-crash : goal.returns-clause-crash
returns-clause-crash g c at held later given bytes ready made tells =
    let told = tells ∙ ap (λ n. gate_at bytes n == 1) (sym made.root) in
    let place = c.args.packed.now.root.place in
    let stored = c.in_ok-store_and_close.ensures.crash at held later given bytes ready made.root (c.deref.ensures.value ∙ made.block_is) told in
    let renamed = made.fields_are ∙ ap (λ n. fields_of (n + 1) place (length (block_of given))) (sym stored.done.2) in
    both_switch g.D.Disk.model at place held later given bytes c.args.disk.now c.store_and_close.new.disk tt stored c.name_and_open.new.disk c.name_and_open.result
    (c.name_and_open.ensures.crash at place held later given stored.done.0 stored.done.1 made.root (c.deref-2.ensures.value ∙ renamed))

pub returns-clause-calls : goal.returns-clause-calls
returns-clause-calls g c =
    let goes = g.D.Disk.model.goes in
    let packed = c.args.packed.now in
    let first = store_and_close_calls packed.root.at c.args.other_open packed.root.place in
    let second = name_and_open_calls packed.root.at in
    let ok = is_ok c.name_and_open.result in
    let stored : Makes goes c.args.disk.now (first packed.block.items) true c.store_and_close.new.disk =
    subst (λ (l : List ℕ). Makes goes c.args.disk.now (first l) true c.store_and_close.new.disk) c.deref.ensures.value c.in_ok-store_and_close.ensures.calls in
    let named : Makes goes c.store_and_close.new.disk (second packed.fields.items) ok c.name_and_open.new.disk =
    subst (λ (l : List ℕ). Makes goes c.store_and_close.new.disk (second l) ok c.name_and_open.new.disk) c.deref-2.ensures.value c.name_and_open.ensures.calls in
    makes_then goes c.args.disk.now c.store_and_close.new.disk c.name_and_open.new.disk (first packed.block.items) (second packed.fields.items) ok stored named
