use Rattle.std.proofs.Common.{rules, arith, ◌≡◌, ◌-◌, ◌^◌, ◌<◌, ap, length, vec_len}
use Rattle.pv_law_journal.proofs.SizeLemmas.{end_of-size}
use Rattle.pv_law_checkpoints.proofs.Blocks.{block_size}
use Rattle.pv_ckpt.specs.Rewriting.{contents_of}
use Rattle.pv_ckpt.proofs.RewriteLemmas.{after_switch, none_made}
use Rattle.pv_ckpt.proofs.ckpt_log.CkptLog.rewrite.Goals as goal

pub returns-in_default-clause-effect : goal.returns-in_default-clause-effect
returns-in_default-clause-effect g c =
    let old = c.args.self.now in
    let unspent : old.root.number < 2 ^ 64 - 1 = search rules in
    none_made g.D.Disk.model old (contents_of c.args.contents.now) unspent (Unit {0}) c.requires.intact c.if-self.false

pub switch_to-requires-clause-size : goal.switch_to-requires-clause-size
switch_to-requires-clause-size g c =
    let given = contents_of c.args.contents.now in
    let long : length c.in-Ok.block.items ≡ vec_len c.in-Ok.block = search rules in
    omega (arith, long, ap length c.in-Ok.ensures, c.length_of-length.ensures, block_size given, end_of-size given)

pub switch_to-requires-clause-contents : goal.switch_to-requires-clause-contents
switch_to-requires-clause-contents g c = (λ before. contents_of c.args.contents.now, λ bytes known is. (c.in-Ok.ensures, c.length_of-length.ensures))

pub returns-clause-effect : goal.returns-clause-effect
returns-clause-effect g c =
    let old = c.args.self.now in
    let given = contents_of c.args.contents.now in
    let unspent : old.root.number < 2 ^ 64 - 1 = search rules in
    after_switch g.D.Disk.model old given unspent c.switch_to.new.self c.in-Ok.block.items c.length_of-length.result c.switch_to.result c.in-Ok.ensures c.length_of-length.ensures
    (c.switch_to.ensures.effect (λ before. given) (λ bytes known is. (c.in-Ok.ensures, c.length_of-length.ensures)))
