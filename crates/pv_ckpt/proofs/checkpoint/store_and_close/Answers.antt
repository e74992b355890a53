use Rattle.std.proofs.Common.{rules, arith, ◌≡◌, Bool, [], ◌∷◌, sym, ◌∙◌, subst}
use Rattle.std.specs.Prelude.{is_ok}
use Rattle.pv_disk_model.specs.Calls.{Makes}
use Rattle.pv_law_checkpoints.specs.Roots.{gate_at, other_root}
use Rattle.pv_law_checkpoints.proofs.RootLemmas.{IsRoot-le}
use Rattle.pv_ckpt.specs.Checkpointing.{store_and_close_calls}
use Rattle.pv_ckpt.specs.Writing.{synced_write}
use Rattle.pv_ckpt.proofs.PartLemmas.{gate_denies, gate_tells, stores_closed, stores_not, stores_open}
use Rattle.pv_ckpt.proofs.WritingLemmas.{makes_then, still_long}
use Rattle.pv_ckpt.proofs.checkpoint.store_and_close.Goals as goal

pub returns-in_err-write_synced-clause-crash : goal.returns-in_err-write_synced-clause-crash
returns-in_err-write_synced-clause-crash g c at held later given bytes ready other_is block_is tells =
    stores_not g.D.Disk.model at c.args.place held later given bytes c.args.disk.now ready c.args.block.now block_is c.write_synced.new.disk c.write_synced.result
    c.from_residual.result (record {}) (search rules) c.write_synced.ensures.effect

pub write_synced-requires-then-other_open-clause-within : goal.write_synced-requires-then-other_open-clause-within
write_synced-requires-then-other_open-clause-within g c held is =
    let long = still_long g.D.Disk.model c.args.disk.now c.write_synced.new.disk c.args.place c.args.block.now _ c.in_ok-write_synced.ensures.effect c.requires.within held is in
    omega (arith, long, IsRoot-le c.args.other c.requires.root)

pub returns-then-other_open-clause-crash : goal.returns-then-other_open-clause-crash
returns-then-other_open-clause-crash g c at held later given bytes ready other_is block_is tells =
    let told = gate_tells (gate_at bytes c.args.other) (sym tells ∙ c.if-other_open.true) in
    let opened : gate_at bytes (other_root at) ≡ 1 = subst (λ n. gate_at bytes n ≡ 1) other_is told in
    stores_open g.D.Disk.model at c.args.place held later given bytes c.args.disk.now ready c.args.block.now block_is c.write_synced.new.disk tt c.in_ok-write_synced.ensures.effect opened
    c.write_synced-then-other_open.new.disk c.args.other c.write_synced-then-other_open.result other_is c.write_synced-then-other_open.ensures.effect

pub returns-then-other_open-clause-calls : goal.returns-then-other_open-clause-calls
returns-then-other_open-clause-calls g c =
    let goes = g.D.Disk.model.goes in
    let new = c.write_synced-then-other_open.new.disk in
    let ok = is_ok c.write_synced-then-other_open.result in
    let place = c.args.place in
    let block = c.args.block.now in
    let other = c.args.other in
    subst (λ (b : Bool). Makes goes c.args.disk.now (store_and_close_calls other b place block) ok new) (sym c.if-other_open.true)
    (makes_then goes c.args.disk.now c.write_synced.new.disk new (synced_write place block) (synced_write other (0 ∷ [])) ok c.in_ok-write_synced.ensures.calls
    c.write_synced-then-other_open.ensures.calls)

pub returns-then-other_open-clause-long : goal.returns-then-other_open-clause-long
returns-then-other_open-clause-long g c =
    let M = g.D.Disk.model in
    let long = still_long M c.args.disk.now c.write_synced.new.disk c.args.place c.args.block.now _ c.in_ok-write_synced.ensures.effect c.requires.within in
    still_long M c.write_synced.new.disk c.write_synced-then-other_open.new.disk c.args.other (0 ∷ []) c.write_synced-then-other_open.result c.write_synced-then-other_open.ensures.effect
    (λ held is. (omega (arith, long held is, IsRoot-le c.args.other c.requires.root), long held is))

pub returns-clause-crash : goal.returns-clause-crash
returns-clause-crash g c at held later given bytes ready other_is block_is tells =
    let denied = gate_denies (gate_at bytes c.args.other) (sym tells ∙ c.if-other_open.false) in
    stores_closed g.D.Disk.model at c.args.place held later given bytes c.args.disk.now ready c.args.block.now block_is c.write_synced.new.disk tt c.in_ok-write_synced.ensures.effect tt
    (λ opened. denied (subst (λ n. gate_at bytes n ≡ 1) (sym other_is) opened))

pub returns-clause-long : goal.returns-clause-long
returns-clause-long g c = still_long g.D.Disk.model c.args.disk.now c.write_synced.new.disk c.args.place c.args.block.now _ c.in_ok-write_synced.ensures.effect c.requires.within
