use Rattle.std.proofs.Common.{rules, ◌≡◌, [], ap, map, subst, sym, ◌∙◌}
use Rattle.std.specs.Prelude.{IfSome}
use Rattle.pv_disk_model.specs.Size.{Contents, size_of}
use Rattle.pv_host.specs.HostLog.{contents_of}
use Rattle.pv_host.specs.HostView.{log_of}
use Rattle.pv_host.proofs.HostLemmas.{group_keeps}
use Rattle.pv_host.proofs.host_log.HostLog.ask.Goals as goal

pub ask-self-inside-requires : goal.ask-self-inside-requires
ask-self-inside-requires c = c.has_group.ensures.none (search rules)

pub invariant_of-self : goal.invariant_of-self
invariant_of-self c =
    let inside = c.self.inside in
    let was = c.self.invariant in
    let none : inside.waiting.asked ≡ [] = c.has_group.ensures.none (search rules) in
    let all : contents_of (log_of (record inside { waiting = c.ask-self-inside.new.self })) ≡ contents_of (log_of inside) =
    group_keeps (log_of inside).stored inside.waiting c.ask-self-inside.new.self c.args.room none c.ask-self-inside.ensures.asks in
    record {
      records_are = was.records_are;
      group_is = c.ask-self-inside.ensures.count;
      end_is = was.end_is;
      length_is = was.length_is ∙ ap size_of (sym all);
      bounded = was.bounded;
      limited = was.limited;
      gate = λ _. was.gate none;
      unread = subst (λ (l : Contents). IfSome inside.unread (λ all. map (λ it. it.items) all.items ≡ l)) (sym all) was.unread;
    }

pub returns-then-not-has_group-clause-keeps : goal.returns-then-not-has_group-clause-keeps
returns-then-not-has_group-clause-keeps c =
    group_keeps (log_of c.self.inside).stored c.self.inside.waiting c.ask-self-inside.new.self c.args.room (c.has_group.ensures.none (search rules)) c.ask-self-inside.ensures.asks ∙ ap contents_of c.self.view_is
