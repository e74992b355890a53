-- What the parts of an entry are seen as.
use Rattle.std.specs.Prelude.{◌≤◌, ◌+◌, List, map, length, Option, Some, None, vec_len, vec_capacity}
use Rattle.pv_base.specs.declared.reply.Reply.{Reply}
use Rattle.pv_base.specs.Polyvalue.{Case}
use Rattle.pv_coord.specs.Work.{Work, ungranted, silent}
use Rattle.pv_coord.specs.declared.entry.Entry.TheInside.{Inside}
use Rattle.pv_coord.specs.declared.stage.Stage.{Stage}
use Rattle.pv_coord.specs.declared.stage.Stage.TheVariants.{Locking, Voting}
use Rattle.pv_protocol.specs.State as state

-- the stage without what is kept in it
abbrev pub stage_of : Stage → state.Stage
stage_of Locking = state.locking
stage_of (Voting reply) = state.voting

-- the reply that is kept in the stage, if there is one
abbrev pub reply_in : Stage → Option (List (Case Reply))
reply_in Locking = None
reply_in (Voting reply) = Some reply

abbrev pub work_in : Inside → Work
work_in inside = record {
  entry = record {
    txn = inside.txn;
    program = inside.program;
    stage = stage_of inside.stage;
    age = inside.age;
    taken = inside.taken.items;
    votes = map (λ site. site.0) inside.votes.items;
  };
  parts = inside.plan.parts.items;
  reply = reply_in inside.stage;
}

-- There is room for each grant and each vote that is still to come.
pub record HasRoom (inside : Inside) : Type 0 where
  pub grants : vec_len inside.taken + length (ungranted (work_in inside)) ≤ vec_capacity inside.taken
  pub votes : vec_len inside.votes + length (silent (work_in inside)) ≤ vec_capacity inside.votes
