-- How much of a site's log is in its host's file: a step leaves it, and a write doesn't lessen it.
use Rattle.std.proofs.Common.{◌≡◌, inl, inr, refl, ap, ◌∙◌, ℕ, ◌+◌, ◌≤◌, Bool, true, false, List, [], ◌∷◌, ◌++◌, length, Option, Some, None, IfSome, arith}
use Rattle.std.proofs.lemmas.List.Sums.{sum_by-append}
use Rattle.std.specs.Prelude.{MatchBool}
use Rattle.pv_format.specs.Record.{Record}
use Rattle.pv_disk_model.specs.Calls.{LogCall, Makes, read_all, reserve, append}
use Rattle.pv_disk_model.specs.Size.{Contents, size_of}
use Rattle.pv_protocol.specs.State as model
use Rattle.pv_protocol.specs.Step.{step_on}
use Rattle.pv_site.specs.OnLog.{Logs}
use Rattle.pv_site.specs.SiteState.{here_with}
use Rattle.pv_host.specs.HostLaws.{host_model}
use Rattle.pv_host.specs.HostLog.{HostState, HostGoes, IsSameBesideRoom, with_written, written_to}
use Rattle.pv_embed.specs.Hosted.{HostedState, HasStepped, Stays, Writes, stored_length}
use Rattle.pv_handle.specs.declared.bytes.Waiting.{Waiting}

same-stored : (old new : HostState) → new ≡ old → new.stored ≡ old.stored
same-stored old new is = ap (λ (log : HostState). log.stored) is

-- Either way the log has stored what it had.
either-stored : (old new : HostState) (A B : Type 0) (one other : HostState) (down : Bool) → one.stored ≡ old.stored → other.stored ≡ old.stored
    → MatchBool down (A × (new ≡ one)) (B × (new ≡ other)) → new.stored ≡ old.stored
either-stored old new A B one other true first second goes = same-stored one new goes.1 ∙ first
either-stored old new A B one other false first second goes = same-stored other new goes.1 ∙ second

append-stored : (old new : HostState) (A B C : Type 0) (content : List ℕ) (down : Bool)
    → MatchBool down (A × (new ≡ old)) (B × C × IsSameBesideRoom (record old { pending = old.pending ++ content ∷ []; is_read = true }) new) → new.stored ≡ old.stored
append-stored old new A B C content true goes = same-stored old new goes.1
append-stored old new A B C content false goes = ap (λ (log : HostState). log.stored) goes.2

-- No call of the log changes what is stored.
goes-stored : (old new : HostState) (call : LogCall) (ok : Bool) → HostGoes old call ok new → new.stored ≡ old.stored
goes-stored old new read_all ok goes = either-stored old new _ _ old (record old { is_read = true; is_down = old.is_read }) old.is_down refl refl goes
goes-stored old new (reserve content) ok goes = ap (λ (log : HostState). log.stored) goes
goes-stored old new (append content) ok goes = append-stored old new _ _ _ content old.is_down goes

calls-stored : (calls : List LogCall) (old new : HostState) (ok : Bool) → Makes HostGoes old calls ok new → new.stored ≡ old.stored
calls-stored [] old new ok makes = same-stored old new makes.1
calls-stored (call ∷ calls) old new ok (inl fails) = goes-stored old new call false fails.1
calls-stored (call ∷ calls) old new ok (inr goes) = calls-stored calls goes.0 new ok goes.2 ∙ goes-stored old goes.0 call true goes.1

logs-stored : (appended : Option Record) (old new : HostState) → Logs host_model old new appended → new.stored ≡ old.stored
logs-stored None old new same = same-stored old new same
logs-stored (Some appended) old new logs = calls-stored (reserve (length logs.1.0) ∷ append logs.1.0 ∷ []) old new true logs.1.3

pub stepped-stored : (old new : HostedState) (input : model.Input) → HasStepped old new input → stored_length new ≡ stored_length old
stepped-stored old new input stepped =
    ap size_of (logs-stored (step_on (here_with old.site stepped.running) input).appended old.site.log new.site.log stepped.steps.log)

pub stays-stored : (old new : HostedState) → Stays old new → stored_length new ≡ stored_length old
stays-stored old new stays = ap (λ (log : HostState). size_of log.stored) stays.0

written-stored : (log : HostState) (asked : Contents) (behind_gate : Bool) → size_of log.stored ≤ size_of (written_to log asked behind_gate).stored
written-stored log [] behind_gate = omega arith
written-stored log (first ∷ later) false = omega arith
written-stored log (first ∷ later) true = omega (arith, sum_by-append (λ (c : List ℕ). 5 + length c) log.stored (first ∷ later))

pub writes-stored : (old new : HostedState) → Writes old new → stored_length old ≤ stored_length new
writes-stored old new writes =
    let is : stored_length new ≡ size_of (with_written old.site.log).stored = ap (λ (log : HostState). size_of log.stored) writes.log in
    let more = written-stored old.site.log old.site.log.asked old.site.log.behind_gate in
    omega (arith, is, more)

-- What waits may still be let out where no less is stored.
pub waits-on : (waiting : Option Waiting) (stored more : ℕ) → stored ≤ more → IfSome waiting (λ (waits : Waiting). waits.length ≤ stored) → IfSome waiting (λ (waits : Waiting). waits.length ≤ more)
waits-on None stored more le may = tt
waits-on (Some waits) stored more le may = omega (arith, le, may)
