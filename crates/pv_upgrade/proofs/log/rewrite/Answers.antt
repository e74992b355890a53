-- A rewriting keeps the records, and what came of it is told.
use Rattle.std.proofs.Common.{ℕ, List, Ok, Err, subst}
use Rattle.std.specs.Prelude.{Vec}
use Rattle.std.specs.declared.alloc.Global.{Global}
use Rattle.pv_ckpt.specs.Rewriting.{Rewrites}
use Rattle.pv_ckpt.specs.declared.ckpt_error.CkptError.{CkptError}
use Rattle.pv_replay.specs.Values.{contents_of}
use Rattle.pv_upgrade.proofs.KeepLemmas.{keeps-none}
use Rattle.pv_upgrade.proofs.RewriteLemmas.{rewrite-done, rewrite-keeps, rewrite-spent}
use Rattle.pv_upgrade.proofs.log.rewrite.Goals as goal

pub returns-then-length-gt-GREATEST_LENGTH-clause-keeps : goal.returns-then-length-gt-GREATEST_LENGTH-clause-keeps
returns-then-length-gt-GREATEST_LENGTH-clause-keeps g c = keeps-none g.D.Disk.model c.args.log.now.disk

pub returns-in-Ok-clause-keeps : goal.returns-in-Ok-clause-keeps
returns-in-Ok-clause-keeps g c =
    let M = g.D.Disk.model in
    let old = c.args.log.now in
    let new = c.rewrite.new.self in
    let rewrites = subst (λ (l : List (Vec ℕ Global)). Rewrites M {X = Unit {0}} old new (contents_of l) (Ok c.in-Ok.field-0)) c.deref.ensures.value c.in-Ok.ensures.effect in
    rewrite-keeps M old (contents_of c.args.renewed.now.contents.items) c.args.renewed.now.count c.requires.intact c.requires.up c.requires.renews new (Ok c.in-Ok.field-0) rewrites

pub returns-in-Ok-clause-upgrades : goal.returns-in-Ok-clause-upgrades
returns-in-Ok-clause-upgrades g c =
    let M = g.D.Disk.model in
    let old = c.args.log.now in
    let new = c.rewrite.new.self in
    let rewrites = subst (λ (l : List (Vec ℕ Global)). Rewrites M {X = Unit {0}} old new (contents_of l) (Ok c.in-Ok.field-0)) c.deref.ensures.value c.in-Ok.ensures.effect in
    rewrite-done M old (contents_of c.args.renewed.now.contents.items) c.args.renewed.now.count c.requires.intact c.requires.up c.requires.renews c.requires.some c.requires.within
    new c.in-Ok.field-0 rewrites

pub returns-in-Err-Spent-clause-keeps : goal.returns-in-Err-Spent-clause-keeps
returns-in-Err-Spent-clause-keeps g c =
    let M = g.D.Disk.model in
    let old = c.args.log.now in
    let new = c.rewrite.new.self in
    let rewrites = subst (λ (l : List (Vec ℕ Global)). Rewrites M {X = Unit {0}} old new (contents_of l) (Err c.in-Err-Spent.field-0)) c.deref.ensures.value c.in-Err-Spent.ensures.effect in
    rewrite-keeps M old (contents_of c.args.renewed.now.contents.items) c.args.renewed.now.count c.requires.intact c.requires.up c.requires.renews {X = Unit {0}} new (Err c.in-Err-Spent.field-0) rewrites

pub returns-in-Err-Spent-clause-upgrades : goal.returns-in-Err-Spent-clause-upgrades
returns-in-Err-Spent-clause-upgrades g c =
    let M = g.D.Disk.model in
    let old = c.args.log.now in
    let new = c.rewrite.new.self in
    let rewrites = subst (λ (l : List (Vec ℕ Global)). Rewrites M {X = Unit {0}} old new (contents_of l) (Err c.in-Err-Spent.field-0)) c.deref.ensures.value c.in-Err-Spent.ensures.effect in
    rewrite-spent M old (contents_of c.args.renewed.now.contents.items) c.args.renewed.now.count c.requires.intact c.requires.up c.requires.renews c.requires.some c.requires.within
    (Unit {0}) new (subst (λ (e : CkptError). Rewrites M {X = Unit {0}} old new (contents_of c.args.renewed.now.contents.items) (Err e)) c.in-Err-Spent.field-0-is rewrites)

pub returns-in-Err-Failed-clause-keeps : goal.returns-in-Err-Failed-clause-keeps
returns-in-Err-Failed-clause-keeps g c =
    let M = g.D.Disk.model in
    let old = c.args.log.now in
    let new = c.rewrite.new.self in
    let rewrites = subst (λ (l : List (Vec ℕ Global)). Rewrites M {X = Unit {0}} old new (contents_of l) (Err c.in-Err-Failed.field-0)) c.deref.ensures.value c.in-Err-Failed.ensures.effect in
    rewrite-keeps M old (contents_of c.args.renewed.now.contents.items) c.args.renewed.now.count c.requires.intact c.requires.up c.requires.renews {X = Unit {0}} new (Err c.in-Err-Failed.field-0) rewrites
