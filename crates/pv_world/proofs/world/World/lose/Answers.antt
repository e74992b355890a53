use Rattle.std.proofs.Common.{arith, [], refl, ap, sym}
use Rattle.std.specs.Prelude.{Ok, slice_get}
use Rattle.pv_protocol.specs.Attempt.{lost}
use Rattle.std.proofs.lemmas.List.{append-nil}
use Rattle.std.proofs.lemmas.Option.{slice_get_past}
use Rattle.pv_script.specs.declared.line.Line.TheVariants.{NoMessage}
use Rattle.pv_protocol.specs.World.{with_done}
use Rattle.pv_world.proofs.ChangeLemmas.{ends-come}
use Rattle.pv_world.proofs.GiveLemmas.{comes-by}
use Rattle.pv_world.proofs.MailWorld.{length-carried, none-carried}
use Rattle.pv_world.proofs.SendLemmas.{lost-none, lost-some}
use Rattle.pv_world.proofs.StandLemmas.{stands-done}
use Rattle.pv_world.specs.Steps.{lines_of}
use Rattle.pv_world.proofs.world.World.lose.Goals as goal

pub returns-then-number-len : goal.returns-then-number-len
returns-then-number-len c is stands =
    let world = c.args.self.now in
    let none = none-carried world.mail.posts is.sent c.args.number stands.sent
    (slice_get_past world.mail.posts c.args.number (omega (arith, c.if-number-len.true, c.len.ensures))) in
    ends-come world _ c.args.lines.now.items c.push.new.self.items (lost is c.args.number (slice_get is.sent c.args.number)) (NoMessage c.args.number) c.in_ok-push.field-0
    (record { next = is; ends = lost-none is c.args.number none; stands = stands }) (record { catalog = refl; limit = refl }) c.in_ok-push.ensures.items

pub returns : goal.returns
returns c is stands =
    let world = c.args.self.now in
    comes-by world (record world { mail = c.finish.new.self }) c.args.lines.now.items c.args.lines.now.items (lost is c.args.number (slice_get is.sent c.args.number)) [] (with_done is c.args.number) (Ok (tt {0}))
    (lost-some is c.args.number (omega (arith, c.if-number-len.false, c.len.ensures, length-carried world.mail.posts is.sent stands.sent))) (
      stands-done world is stands (record world { mail = c.finish.new.self }) refl refl refl c.args.number c.finish.ensures,
      record { catalog = refl; limit = ap (λ mail. mail.limit) c.finish.ensures },
      sym (append-nil (lines_of c.args.lines.now.items)),
    )
